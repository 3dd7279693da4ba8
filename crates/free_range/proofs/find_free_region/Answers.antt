-- No range, a range at `addr`, or a region in the way that the search moves past.
use Rattle.std.specs.Prelude.{Err, None, Some}
use Rattle.answer.specs.declared.Refusal.TheVariants.{NoRegion}
use Rattle.std.proofs.Common.{ℕ, ◌≡◌, ◌+◌, ◌<◌, ◌≤◌, List, refl, sym, ◌∙◌, ap, arith}
use Rattle.slots.specs.Slots.{listed}
use Rattle.mappings.specs.declared.MappedRegion.{MappedRegion}
use Rattle.mappings.specs.Packed.{mmap_in, next_in}
use Rattle.mappings.proofs.Sound.{sound_few, listed_long}
use Rattle.free_range.specs.declared.Scanned.{Scanned}
use Rattle.free_range.specs.declared.Searched.{Searched}
use Rattle.free_range.specs.Search.{user_end, in_the_way, find_free}
use Rattle.free_range.specs.Compared.{compared_in, compared, scanned, searched}
use Rattle.free_range.proofs.Ahead.{way_past}
use Rattle.free_range.proofs.Search.{find_none, find_here, find_past}
use Rattle.free_range.proofs.Compared.{compared_none, compared_least, compared_here, compared_past, compared_small, search_reports}
use Rattle.free_range.proofs.find_free_region.Goals as goal

abbrev regions : List ℕ → List MappedRegion
regions bs = listed (mmap_in bs)

-- no range from `a` on ends below the user's end: none is found, and no more regions are compared
none : (bs : List ℕ) (n : ℕ) (o : Searched) (sum a : ℕ) → o ≡ record { outcome = Err NoRegion; compared = sum } → user_end ≤ a + n
    → find_free (regions bs) a n ≡ find_free (regions bs) (next_in bs) n
    → sum + compared (regions bs) a n ≡ compared (regions bs) (next_in bs) n
    → o ≡ searched (regions bs) (next_in bs) n
none bs n o sum a e far f g =
    e ∙ search_reports (regions bs) (next_in bs) n (sym (find_none (regions bs) n a far) ∙ f)
    (omega (arith, compared_none (regions bs) n a far, g))

-- what a scan says, part by part
scan-way : (a n : ℕ) (l : List MappedRegion) (o : Scanned) → o ≡ scanned a n l → o.way ≡ in_the_way a n l
scan-way a n l o e = ap (λ (x : Scanned). x.way) e

scan-compared : (a n : ℕ) (l : List MappedRegion) (o : Scanned) → o ≡ scanned a n l → o.compared ≡ compared_in a n l
scan-compared a n l o e = ap (λ (x : Scanned). x.compared) e

pub returns-then-n-ge-USER_MMAP_END : goal.returns-then-n-ge-USER_MMAP_END
returns-then-n-ge-USER_MMAP_END c =
    none c.args.list.now c.args.n c.not_found.result 0 (next_in c.args.list.now) c.not_found.ensures (omega (arith, c.if-n-ge-USER_MMAP_END.true)) refl (omega arith)

pub overflow_add-compared : goal.overflow_add-compared
overflow_add-compared c =
    let l = regions c.args.list.now in
    let below : c.loop-addr.addr + c.args.n < user_end = omega (arith, c.loop-addr-test.true) in
    let few = compared_small l (next_in c.args.list.now) c.args.n (omega (arith, listed_long c.args.list.now c.requires, sound_few c.args.list.now c.requires)) in
    let more = compared_least l c.args.n c.loop-addr.addr below in
    record { fits = omega (arith, few, more, scan-compared c.loop-addr.addr c.args.n l c.scan-one.result c.scan-one.ensures, c.loop-addr.invariant.1) }

pub returns-in-None : goal.returns-in-None
returns-in-None c =
    let l = regions c.args.list.now in
    let below : c.loop-addr.addr + c.args.n < user_end = omega (arith, c.loop-addr-test.true) in
    let free : in_the_way c.loop-addr.addr c.args.n l ≡ None = sym (scan-way c.loop-addr.addr c.args.n l c.scan-one.result c.scan-one.ensures) ∙ c.in-None.is in
    search_reports l (next_in c.args.list.now) c.args.n (sym (find_here l c.args.n c.loop-addr.addr below free) ∙ c.loop-addr.invariant.0)
    (omega (arith, compared_here l c.args.n c.loop-addr.addr below free, scan-compared c.loop-addr.addr c.args.n l c.scan-one.result c.scan-one.ensures, c.loop-addr.invariant.1))

pub loop-addr-smaller : goal.loop-addr-smaller
loop-addr-smaller c =
    let l = regions c.args.list.now in
    let taken : in_the_way c.loop-addr.addr c.args.n l ≡ Some c.in-Some.end = sym (scan-way c.loop-addr.addr c.args.n l c.scan-one.result c.scan-one.ensures) ∙ c.in-Some.is in
    omega (arith, c.loop-addr-test.true, way_past _ _ _ _ taken)

pub loop-addr-preserved : goal.loop-addr-preserved
loop-addr-preserved c =
    let l = regions c.args.list.now in
    let below : c.loop-addr.addr + c.args.n < user_end = omega (arith, c.loop-addr-test.true) in
    let taken : in_the_way c.loop-addr.addr c.args.n l ≡ Some c.in-Some.end = sym (scan-way c.loop-addr.addr c.args.n l c.scan-one.result c.scan-one.ensures) ∙ c.in-Some.is in (
      sym (find_past l c.args.n c.loop-addr.addr below _ taken) ∙ c.loop-addr.invariant.0,
      omega (arith, compared_past l c.args.n c.loop-addr.addr below _ taken, scan-compared c.loop-addr.addr c.args.n l c.scan-one.result c.scan-one.ensures, c.loop-addr.invariant.1),
    )

pub returns : goal.returns
returns c =
    none c.args.list.now c.args.n c.not_found-2.result c.loop-addr.compared c.loop-addr.addr c.not_found-2.ensures (omega (arith, c.loop-addr-test.false)) c.loop-addr.invariant.0 c.loop-addr.invariant.1
