-- The call, its line, and the board with what it was lent.
use Rattle.std.proofs.Common.{rules, w32}
use mir.Val.{SFits}
use mir.Facts.{to_z-of_z}
use Rattle.address.specs.Address.{as_virt, virt_line}
use Rattle.user_space.specs.User.{User}
use Rattle.mmap.specs.Calls.{mmap_of}
use Rattle.release.specs.Calls.{play as play_regions}
use Rattle.player.proofs.Turns.{user_turn}
use Rattle.player.proofs.play_mmap.Goals as goal

pub returns-clause-by_index : goal.returns-clause-by_index
unfolding play_regions
returns-clause-by_index c =
    (let p : SFits w32 c.args.c.prot = search (rules, c.struct_told-1.given) in
    let f : SFits w32 c.args.c.flags = search (rules, c.struct_told-1.given) in
    let left = rw (to_z-of_z p, to_z-of_z f) at c.mmap-did.ensures.list_after in
    let reads = rw (to_z-of_z p, to_z-of_z f) at c.mmap-did.ensures.user_reads in
    user_turn c.args.records c.args.words.now c.args.bitmap.now c.args.user.now 3 as_virt virt_line _ c.line_of.ensures
    (λ (u : User). mmap_of u c.args.records.root.0 c.args.c.addr c.args.c.size c.args.c.prot c.args.c.flags) c.requires left reads).0
