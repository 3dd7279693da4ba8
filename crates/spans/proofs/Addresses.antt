-- The indices of pages that follow one another.
use Prim.Native.Nat.{ℕ, zero, suc, ◌+◌, ◌-◌, ◌*◌, ◌/◌, ◌%◌, ◌^◌, ◌<◌, ◌≤◌}
use mathlib.Core.Path.{◌≡◌, refl, sym, ◌∙◌, ap, ap₂}
use mathlib.Core.List.{List, ◌∷◌}
use native.Mathlib.Nat.{mod-lt, mul-add-div_right, div-eq_of_lt, div-add-mod', add-mul-mod_self_right}
use native.Mathlib.Omega.{arith}
use lib.ListN.{take}
use lib.Pow.{pow_pos, shr-shr, field, mod-mod-pow}
use Rattle.entry.specs.Entry.{index, indices}
use Rattle.entry.proofs.Entry.{index_last}
use Rattle.tree.proofs.Paths.{upper, last}
use Rattle.spans.specs.Spans.{to_end}

-- ---- an address's indices say no more than its page number, modulo the number of pages

index_of : (n v : ℕ) → v / 2 ^ 12 % 2 ^ (9 + 9 * n) / 2 ^ (9 * n) ≡ index n v
index_of n v = field (v / 2 ^ 12) 9 (9 * n) ∙ ap (λ (x : ℕ). x % 512) (shr-shr v 12 (9 * n))

pub same_page : (n v v' : ℕ) → v / 2 ^ 12 % 2 ^ (9 * n) ≡ v' / 2 ^ 12 % 2 ^ (9 * n) → indices n v ≡ indices n v'
same_page zero v v' h = refl
same_page (suc n) v v' h =
    let width : 9 * suc n ≡ 9 + 9 * n = omega arith in
    let e : v / 2 ^ 12 % 2 ^ (9 + 9 * n) ≡ v' / 2 ^ 12 % 2 ^ (9 + 9 * n) = rw width at h in
    ap₂ (λ (i : ℕ) (l : List ℕ). i ∷ l) (sym (index_of n v) ∙ ap (λ (x : ℕ). x / 2 ^ (9 * n)) e ∙ index_of n v')
    (same_page n v v' (sym (mod-mod-pow (v / 2 ^ 12) 9 (9 * n)) ∙ ap (λ (x : ℕ). x % 2 ^ (9 * n)) e ∙ mod-mod-pow (v' / 2 ^ 12) 9 (9 * n)))

-- the page that follows all others is the first again
pub page_again : (n v : ℕ) → indices n (v + 2 ^ (9 * n) * 4096) ≡ indices n v
page_again n v =
    let w = 2 ^ (9 * n) in
    let e : (v + w * 4096) / 2 ^ 12 ≡ v / 2 ^ 12 + 1 * w = omega arith in
    same_page n (v + w * 4096) v (ap (λ (x : ℕ). x % w) e ∙ add-mul-mod_self_right (v / 2 ^ 12) 1 w)

-- ---- the pages of one entry's span share the indices down to it

-- by the bits above the span
pub same_above : (n d v v' : ℕ) → v / 2 ^ (12 + 9 * d) ≡ v' / 2 ^ (12 + 9 * d) → (l : ℕ) → l + d ≤ n → take l (indices n v) ≡ take l (indices n v')
same_above n d v v' h zero k = refl
same_above zero d v v' h (suc l) k = absurd (omega arith)
same_above (suc n) d v v' h (suc l) k =
    ap₂ (λ (i : ℕ) (s : List ℕ). i ∷ s) (sym (from v) ∙ ap (λ (x : ℕ). x / 2 ^ (9 * (n - d)) % 512) h ∙ from v') (same_above n d v v' h l (omega arith))
  where
    from : (x : ℕ) → x / 2 ^ (12 + 9 * d) / 2 ^ (9 * (n - d)) % 512 ≡ index n x
    from x =
        let e : 12 + 9 * d + 9 * (n - d) ≡ 12 + 9 * n = omega arith in
        ap (λ (y : ℕ). y % 512) (shr-shr x (12 + 9 * d) (9 * (n - d)) ∙ ap (λ (y : ℕ). x / 2 ^ y) e)

-- pages before the end of the span
pub span_above : (d v j : ℕ) → j < to_end d v → (v + j * 4096) / 2 ^ (12 + 9 * d) ≡ v / 2 ^ (12 + 9 * d)
span_above d v j h =
    let w = 2 ^ (9 * d) in
    let x = v / 2 ^ 12 in
    let low : x % w + j < w = omega arith in
    let e : (v + j * 4096) / 2 ^ 12 ≡ x / w * w + (x % w + j) = omega (arith, div-add-mod' x w) in
    sym (shr-shr (v + j * 4096) 12 (9 * d)) ∙ ap (λ (y : ℕ). y / w) e ∙ mul-add-div_right (pow_pos (9 * d)) (x / w) (x % w + j)
    ∙ ap (λ (y : ℕ). x / w + y) (div-eq_of_lt low) ∙ omega (arith, shr-shr v 12 (9 * d))

-- there is one at least
pub to_end_some : (d v : ℕ) → 0 < to_end d v
to_end_some d v = omega (arith, mod-lt (v / 2 ^ 12) (pow_pos (9 * d)))

-- ---- the next page of a table

pub last_next : (up v j : ℕ) → last up v + j < 512 → last up (v + j * 4096) ≡ last up v + j
last_next up v j h = index_last up (v + j * 4096) ∙ omega (arith, index_last up v)

pub upper_next : (up v j : ℕ) → last up v + j < 512 → upper up (v + j * 4096) ≡ upper up v
upper_next up v j h = same_above (suc up) 1 (v + j * 4096) v (span_above 1 v j (omega (arith, index_last up v))) up (omega arith)
