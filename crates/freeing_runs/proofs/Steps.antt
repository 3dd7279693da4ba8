-- A run of pages freed span by span, by what code has in its hands.
use Prim.Native.Nat.{ℕ, ◌+◌, ◌-◌, ◌*◌, ◌^◌, ◌<◌, ◌≤◌, min}
use mathlib.Core.Path.{◌≡◌, refl, sym, ◌∙◌, ap, subst}
use mathlib.Core.List.{List, ◌∷◌}
use mathlib.Core.Logic.{inl, inr, ⊎_elim}
use native.Mathlib.Omega.{arith}
use mir.Syntax.{w64}
use mir.Val.{Fits}
use lib.ListN.{length, get_or, take, length-append}
use lib.Seq.{get_or-take, get_or-append_seam, take-append_seam, take-take}
use Rattle.entry.specs.Entry.{index}
use Rattle.entry.proofs.Entry.{index_behind, index_last}
use Rattle.paging.specs.Map.{Memory, start_frame, total_of, RoomToTake}
use Rattle.paging.specs.Pages.{free_page, free_pages}
use Rattle.paging.proofs.Pages.{free_pages_none, free_pages_roomy}
use Rattle.tree.proofs.Paths.{path, length_upper}
use Rattle.tree.proofs.Ordered.{reach_in}
use Rattle.spans.specs.declared.Span.{Span}
use Rattle.spans.specs.declared.Span.TheVariants.{Leaves, Gap}
use Rattle.freeing_runs.specs.Freeing.{free_leaves}
use Rattle.spans.specs.Spans.{IsGap, IsLeaves, IsSpan}
use Rattle.freeing_runs.proofs.Runs.{free_pages_add, pass_over, Apart, leaves_are}

-- ---- one span: r of n pages

-- what was found
module _ (ws : List ℕ) (start total up root v : ℕ) {s : Span} (h : IsSpan ws start total up root v s) where
  pub is_gap : {k : ℕ} → s ≡ Gap k → IsGap ws start total up root v k
  is_gap e = subst (IsSpan ws start total up root v) e h

  pub is_leaves : {t k : ℕ} → s ≡ Leaves t k → IsLeaves ws start total up root v t k
  is_leaves e = subst (IsSpan ws start total up root v) e h

-- pages that are not mapped
pub gap_step : (up : ℕ) (m : Memory) (root v k n : ℕ) {r : ℕ} → IsGap m.words (start_frame m) (total_of m) up root v k → 0 < n → r ≡ min k n
    → (0 < r) × ((r ≤ n) × (m ≡ free_pages up m root v r))
gap_step up m root v k n {r} g some e =
    (omega (arith, g.some), (omega arith, sym (pass_over up root m r v (λ j l. g.off j (omega arith)))))

-- leaves of one table: its way by levels as its way by parts of the path
by_level : (up : ℕ) (m : Memory) (root v t k r : ℕ) → IsLeaves m.words (start_frame m) (total_of m) up root v t k → r ≤ k → Apart up m root v t r
by_level up m root v t k r g less a i s e h =
    let low : length a < up = omega (arith, length_upper up v, ap length e, length-append a (i ∷ s)) in
    let from : a ≡ take (length a) (path up v) =
    sym (take-append_seam a (i ∷ s)) ∙ ap (take (length a)) (sym e) ∙ take-take (length a) up (path up v) (omega arith) in
    let at : i ≡ index (up - length a) v =
    sym (get_or-append_seam a i s 0) ∙ ap (λ (p : List ℕ). get_or p (length a) 0) (sym e) ∙ get_or-take up (path up v) (length a) 0 low
    ∙ index_behind up (length a) v (omega arith) in
    let end = index_last up v in
    ⊎_elim (λ x. inl (omega (arith, at, end))) (λ x. inr (omega (arith, at, end))) (g.apart (length a) low (ap (reach_in m root) (sym from) ∙ h))

pub leaves_fit : (ws : List ℕ) (start total up root v t k n : ℕ) {r i : ℕ} → IsLeaves ws start total up root v t k → r ≡ min k n → i ≡ index 0 v → i + r ≤ 512
leaves_fit ws start total up root v t k n g e at = omega (arith, g.fit)

pub leaves_step : (up : ℕ) (m : Memory) (root v t k n i : ℕ) {r : ℕ} {m' : Memory} → IsLeaves m.words (start_frame m) (total_of m) up root v t k → 0 < n → r ≡ min k n
    → i ≡ index 0 v → m' ≡ free_leaves m t i r → (0 < r) × ((r ≤ n) × (m' ≡ free_pages up m root v r))
leaves_step up m root v t k n i {r} g some e at h = (
  omega (arith, g.some),
  (
    omega arith,
    h ∙ ap (λ (x : ℕ). free_leaves m t x r) (at ∙ sym (index_last up v))
        ∙ sym (leaves_are up root r m v t g.way g.lent (omega (arith, g.fit, index_last up v)) (by_level up m root v t k r g (omega arith))),
  ),
)

-- ---- the run: at its start, and after `done` of n pages, r more

-- one page is a run of one
pub one_page : (up : ℕ) (m : Memory) (root v : ℕ) → free_page up m root v ≡ free_pages up m root v 1
unfolding free_pages
one_page up m root v = refl

pub span_start : (up root v n : ℕ) (m : Memory) → free_pages up m root v n ≡ free_pages up m root (v + 0 * 4096) (n - 0)
span_start up root v n m =
    let a : v ≡ v + 0 * 4096 = omega arith in
    let s : n ≡ n - 0 = omega arith in
    λ j. free_pages up m root (a j) (s j)

pub span_on : (up root v n done r : ℕ) (m m' : Memory) → r ≤ n - done → done ≤ n → m' ≡ free_pages up m root (v + done * 4096) r
    → free_pages up m root (v + done * 4096) (n - done) ≡ free_pages up m' root (v + (done + r) * 4096) (n - (done + r))
span_on up root v n done r m m' less fit e =
    let s : n - done ≡ r + (n - (done + r)) = omega arith in
    let a : v + (done + r) * 4096 ≡ (v + done * 4096) + r * 4096 = omega arith in
    ap (free_pages up m root (v + done * 4096)) s ∙ free_pages_add up root (n - (done + r)) r m (v + done * 4096)
    ∙ (λ j. free_pages up (sym e j) root (sym a j) (n - (done + r)))

-- .. and after the last
pub free_end : (root v i n : ℕ) → n ≤ i → (m : Memory) (up : ℕ) → free_pages up m root v (n - i) ≡ m
free_end root v i n over m up = let none : n - i ≡ 0 = omega arith in rw none (free_pages_none up m root v)

pub span_some : (n done : ℕ) → done < n → 0 < n - done
span_some n done h = omega arith

-- .. and end where the run ends
pub span_ends : (v n done : ℕ) → done ≤ n → v + n * 4096 < 2 ^ 64 → v + done * 4096 + (n - done) * 4096 < 2 ^ 64
span_ends v n done fit h = omega arith

-- .. which come to no more than n
module _ (n done r : ℕ) (less : r ≤ n - done) where
  pub span_within : done ≤ n → done + r ≤ n
  span_within fit = omega arith

  pub span_fits : done ≤ n → Fits w64 n → Fits w64 (done + r)
  span_fits fit f = record { fits = omega (arith, f.fits) }

  pub span_less : 0 < r → n - (done + r) < n - done
  span_less some = omega arith

pub span_roomy : (up : ℕ) {m' : Memory} (m : Memory) (root v r : ℕ) → m' ≡ free_pages up m root v r → RoomToTake m 0 → RoomToTake m' 0
span_roomy up m root v r e w = subst (λ (x : Memory). RoomToTake x 0) (sym e) (free_pages_roomy up root r m v 0 w)
