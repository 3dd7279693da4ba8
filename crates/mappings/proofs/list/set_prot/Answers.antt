-- The slot at the place is one of the regions, and the same but for prot.
use Rattle.std.proofs.Common.{rules, ◌<◌, w32}
use native.Mathlib.Omega.{arith}
use mir.Facts.{to_z-of_z}
use mir.Val.{SFits}
use Rattle.mappings.proofs.Sound.{sound_few}
use Rattle.mappings.proofs.Placing.{place_below, placed_prot}
use Rattle.mappings.proofs.list.set_prot.Goals as goal

pub slot-old-requires-clause-i_bound : goal.slot-old-requires-clause-i_bound
slot-old-requires-clause-i_bound c =
    let below : c.args.place < 256 = omega (arith, place_below c.args.list.now c.requires.list_value c.args.a c.args.place c.requires.place_value c.requires.list_value_2, sound_few c.args.list.now c.requires.list_value) in below

pub put-requires-clause-i_bound : goal.put-requires-clause-i_bound
put-requires-clause-i_bound c =
    let below : c.args.place < 256 = omega (arith, place_below c.args.list.now c.requires.list_value c.args.a c.args.place c.requires.place_value c.requires.list_value_2, sound_few c.args.list.now c.requires.list_value) in below

pub returns : goal.returns
returns c =
    let flags : SFits w32 c.slot-old.result.flags = search (rules, c.struct_told-1.given) in (
      c.put.ensures.0,
      placed_prot c.args.list.now c.requires.list_value c.args.a c.args.place c.requires.place_value c.requires.list_value_2 c.slot-old.ensures (to_z-of_z c.ranges.prot) (to_z-of_z flags)
          c.put.ensures.1,
      c.put.ensures.2,
    )
