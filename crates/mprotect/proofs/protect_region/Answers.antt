-- `protect_region`: the region by its place and size, then its pages, then its slot.
use Rattle.std.specs.Prelude.{Ok, Some, None}
use Rattle.std.proofs.Common.{◌≡◌, true, length, ℕ, ◌-◌, ◌/◌, Bool, List, w32, to_z, of_z}
use Rattle.mappings.specs.Packed.{mmap_in, next_in, MmapStands}
use Rattle.mprotect.specs.Calls.{protect_region, protect_did}
use Rattle.mprotect.specs.Packed.{protect_kept, kept_protected}
use mathlib.Core.Path.{sym, ◌∙◌, ap}
use native.Mathlib.Omega.{arith}
use mir.Facts.{to_z-of_z}
use Rattle.frame.specs.Frames.{is_levels}
use Rattle.frame.proofs.Laws.{passed, failed, levels_least, levels_most}
use Rattle.packed.proofs.RoundTrip.{Bytes}
use Rattle.answer.specs.Outcomes.{as_answer}
use Rattle.paging.specs.Protect.{protect_pages}
use Rattle.paging.proofs.Walk.{lent_words}
use Rattle.paging.proofs.Calls.{walk_levels, walk_lent}
use Rattle.slots.specs.Slots.{listed, store}
use Rattle.mappings.specs.Regions.{no_mapped_region, holds, with_prot}
use Rattle.mappings.proofs.Rising.{holds_starts, holds_placed}
use Rattle.mappings.proofs.Placing.{sized_tells, sized_place}
use Rattle.mappings.proofs.Sound.{sound_fit, sound_rising}
use Rattle.user_space.specs.Flags.{writable}
use Rattle.mprotect.proofs.Steps.{region_none, region_met, leaves, leaves_alone}
use Rattle.mprotect.proofs.protect_region.Goals as goal

pub returns-in_default : goal.returns-in_default
returns-in_default c =
    leaves_alone (λ i. (c.slice_known-2-1.given i).fits) (sound_fit c.args.list.now c.requires.list_value)
    (region_none c.args.levels c.args.words.now c.args.start c.args.total c.args.root.0 (mmap_in c.args.list.now) c.args.addr.0 c.args.n c.args.prot (sized_tells c.args.addr.0 c.args.n (listed (mmap_in c.args.list.now)) None (sym c.in_default.is ∙ c.find_sized.ensures)))

pub overflow_sub-levels : goal.overflow_sub-levels
overflow_sub-levels c =
    let levelled : is_levels c.args.levels ≡ true = walk_levels c.args.levels (length c.args.words.now) c.args.start c.args.total c.args.root.0 c.requires.root_value in
    omega (arith, levels_least c.args.levels (levelled))

pub protect_pages-requires-clause-words_lent : goal.protect_pages-requires-clause-words_lent
protect_pages-requires-clause-words_lent c =
    let held : holds c.args.addr.0 c.args.n (listed (mmap_in c.args.list.now)) ≡ true = sized_tells c.args.addr.0 c.args.n (listed (mmap_in c.args.list.now)) (Some c.in-Some.at) (sym c.in-Some.is ∙ c.find_sized.ensures) in let levelled : is_levels c.args.levels ≡ true = walk_levels c.args.levels (length c.args.words.now) c.args.start c.args.total c.args.root.0 c.requires.root_value in let p = holds_placed c.args.addr.0 c.args.n 0 (listed (mmap_in c.args.list.now)) (sound_rising c.args.list.now c.requires.list_value) (held) in lent_words c.args.words.now c.args.start c.args.total c.args.root.0 (walk_lent c.args.levels (length c.args.words.now) c.args.start c.args.total c.args.root.0 c.requires.root_value)

pub protect_pages-requires-clause-n_bound : goal.protect_pages-requires-clause-n_bound
protect_pages-requires-clause-n_bound c =
    let held : holds c.args.addr.0 c.args.n (listed (mmap_in c.args.list.now)) ≡ true = sized_tells c.args.addr.0 c.args.n (listed (mmap_in c.args.list.now)) (Some c.in-Some.at) (sym c.in-Some.is ∙ c.find_sized.ensures) in let levelled : is_levels c.args.levels ≡ true = walk_levels c.args.levels (length c.args.words.now) c.args.start c.args.total c.args.root.0 c.requires.root_value in let p = holds_placed c.args.addr.0 c.args.n 0 (listed (mmap_in c.args.list.now)) (sound_rising c.args.list.now c.requires.list_value) (held) in omega (arith, p.end, p.whole)

pub protect_pages-requires-clause-up_le_most_above : goal.protect_pages-requires-clause-up_le_most_above
protect_pages-requires-clause-up_le_most_above c =
    let held : holds c.args.addr.0 c.args.n (listed (mmap_in c.args.list.now)) ≡ true = sized_tells c.args.addr.0 c.args.n (listed (mmap_in c.args.list.now)) (Some c.in-Some.at) (sym c.in-Some.is ∙ c.find_sized.ensures) in let levelled : is_levels c.args.levels ≡ true = walk_levels c.args.levels (length c.args.words.now) c.args.start c.args.total c.args.root.0 c.requires.root_value in let p = holds_placed c.args.addr.0 c.args.n 0 (listed (mmap_in c.args.list.now)) (sound_rising c.args.list.now c.requires.list_value) (held) in omega (arith, levels_most c.args.levels (levelled))

pub set_prot-requires-clause-place_value : goal.set_prot-requires-clause-place_value
set_prot-requires-clause-place_value c =
    let l = listed (mmap_in c.args.list.now) in
    let e = sym c.in-Some.is ∙ c.find_sized.ensures in
    sized_place c.args.addr.0 c.args.n l (Some c.in-Some.at) e (sized_tells c.args.addr.0 c.args.n l (Some c.in-Some.at) e)

pub set_prot-requires-clause-list_value_2 : goal.set_prot-requires-clause-list_value_2
set_prot-requires-clause-list_value_2 c =
    let held : holds c.args.addr.0 c.args.n (listed (mmap_in c.args.list.now)) ≡ true = sized_tells c.args.addr.0 c.args.n (listed (mmap_in c.args.list.now)) (Some c.in-Some.at) (sym c.in-Some.is ∙ c.find_sized.ensures) in holds_starts c.args.addr.0 c.args.n (listed (mmap_in c.args.list.now)) (held)

pub returns : goal.returns
returns c =
    let held : holds c.args.addr.0 c.args.n (listed (mmap_in c.args.list.now)) ≡ true = sized_tells c.args.addr.0 c.args.n (listed (mmap_in c.args.list.now)) (Some c.in-Some.at) (sym c.in-Some.is ∙ c.find_sized.ensures) in let met : (w : Bool) (ws left : List ℕ) → let l = mmap_in c.args.list.now in let prot = to_z w32 (of_z w32 c.args.prot) in holds c.args.addr.0 c.args.n (listed l) ≡ true → w ≡ writable prot → ws ≡ protect_pages (c.args.levels - 1) w c.args.words.now c.args.start c.args.total c.args.root.0 c.args.addr.0 (c.args.n / 4096) → Bytes left → MmapStands left (store no_mapped_region (with_prot c.args.addr.0 prot (listed l)) l) (next_in c.args.list.now) → protect_kept (as_answer (Ok 0)) ws left ≡ kept_protected (protect_region c.args.levels c.args.words.now c.args.start c.args.total c.args.root.0 l c.args.addr.0 c.args.n c.args.prot) (next_in c.args.list.now) = λ w ws left h e f b g. let l = mmap_in c.args.list.now in
    let back = to_z-of_z c.ranges.prot in
    leaves b (g.0, g.1 ∙ (λ j. store no_mapped_region (with_prot c.args.addr.0 (back j) (listed l)) l), g.2)
    (region_met c.args.levels c.args.words.now c.args.start c.args.total c.args.root.0 l c.args.addr.0 c.args.n c.args.prot h
    ∙ ap (λ (x : List ℕ). protect_did (Ok 0) x (store no_mapped_region (with_prot c.args.addr.0 c.args.prot (listed l)) l))
    (sym (f ∙ ap (λ (x : Bool). protect_pages (c.args.levels - 1) x c.args.words.now c.args.start c.args.total c.args.root.0 c.args.addr.0 (c.args.n / 4096)) (e ∙ ap writable back)))) in
    met _ _ _ (held) c.is_writable-writable.ensures c.protect_pages.ensures (λ i. (c.slice_known-4-1.given i).fits) c.set_prot.ensures
