-- What code remembers of tables: it stays true while words follow w, and a table that was gone through whole can be added.
use Prim.Native.Nat.{ℕ, suc, ◌+◌, ◌-◌, ◌*◌, ◌%◌, ◌^◌, ◌<◌, ◌≤◌}
use mathlib.Core.Path.{◌≡◌, sym, ◌∙◌, ap, subst}
use mathlib.Core.Bool.{Bool, true, false, not, false≢true}
use mathlib.Core.List.{List}
use mathlib.Core.Logic.{◌⊎◌, inl, inr, ⊎_elim}
use native.Mathlib.Decide.{dec_lt, ℕ_discrete}
use native.Mathlib.Omega.{arith}
use lib.Bits.{bit_and, bit_or, or_zero_r, or_lt}
use lib.Dec.{eqb}
use lib.ListN.{length, get_or, set, replicate}
use lib.Pow.{pow-lt}
use lib.Seq.{set_out, get_or-set_same, get_or-set_other}
use Rattle.bits.specs.Bit.{bit, flag}
use Rattle.bits.proofs.Choice.{pick_cases}
use Rattle.bits.proofs.Masks.{one_shifted}
use Rattle.bits.proofs.Single.{bit_or_lem, bit_pow_other, test_one}
use Rattle.slots.proofs.Filled.{zero_at}
use Rattle.entry.proofs.Entry.{flag_zero}
use Rattle.frame.specs.Frames.{inside}
use Rattle.frame.proofs.Laws.{inside_sum}
use Rattle.paging.specs.Protect.{protect_pages}
use Rattle.paging.proofs.Protect.{Toward, pages_toward}
use Rattle.protecting.specs.Protecting.{Follows, Remembered, Noted, is_done}
use Rattle.protecting.proofs.Below.{follows_toward, follows_all, follows_outside}

-- ---- the code's tests and its store

module _ (gone : List ℕ) (start total d t : ℕ) where
  pub done_outside : inside start total t ≡ false → is_done gone start total d t ≡ true
  done_outside h = rw h

  pub done_test : (x : ℕ) → d < 64 → inside start total t ≡ true → x ≡ get_or gone (t - start) 0
      → not (eqb (bit_and x (1 * 2 ^ d % 2 ^ 64)) 0) ≡ is_done gone start total d t
  done_test x low h e = test_one d x low ∙ rw (h, e)

  -- a table that is not done is lent
  pub undone_lent : is_done gone start total d t ≡ false → inside start total t ≡ true
  undone_lent = pick_cases (λ (b : Bool). b ≡ false → inside start total t ≡ true) (inside start total t) _ _ (λ h _. h) (λ _ e. absurd (false≢true (sym e)))

module _ (d x : ℕ) (low : d ≤ 4) where
  pub noted_fits : x < 256 → bit_or x (1 * 2 ^ d % 2 ^ 64) < 256
  noted_fits l = let small : d < 8 = omega arith in subst (λ (m : ℕ). bit_or x m < 256) (sym (one_shifted d (omega arith))) (or_lt 8 x (2 ^ d) l (pow-lt small))

  -- bit b of the byte then
  noted_bit : (b : ℕ) → flag b (bit_or x (1 * 2 ^ d % 2 ^ 64)) ≡ true → (flag b x ≡ true) ⊎ (b ≡ d)
  noted_bit b h = go (ℕ_discrete b d)
    where
      go : Dec (b ≡ d) → (flag b x ≡ true) ⊎ (b ≡ d)
      go (yes e) = inr e
      go (no n) =
          let same : bit b (bit_or x (1 * 2 ^ d % 2 ^ 64)) ≡ bit b x =
          ap (λ (m : ℕ). bit b (bit_or x m)) (one_shifted d (omega arith)) ∙ bit_or_lem b x (2 ^ d) ∙ rw (bit_pow_other b d n) (or_zero_r (bit b x)) in
          inl (ap (λ (m : ℕ). eqb m 1) (sym same) ∙ h)

  pub noted : (gone : List ℕ) (j : ℕ) → x ≡ get_or gone j 0 → Noted gone (set gone j (bit_or x (1 * 2 ^ d % 2 ^ 64))) j d
  noted gone j e = record { each = λ i b h. go i b h (ℕ_discrete i j) (dec_lt j (length gone)) }
    where
      go : (i b : ℕ) → flag b (get_or (set gone j (bit_or x (1 * 2 ^ d % 2 ^ 64))) i 0) ≡ true → Dec (i ≡ j) → Dec (j < length gone)
          → (flag b (get_or gone i 0) ≡ true) ⊎ ((i ≡ j) × (b ≡ d))
      go i b h q (no l) = inl (ap (λ (s : List ℕ). flag b (get_or s i 0)) (sym (set_out gone j _ (omega arith))) ∙ h)
      go i b h (yes q) (yes l) =
          let there : get_or (set gone j (bit_or x (1 * 2 ^ d % 2 ^ 64))) i 0 ≡ bit_or x (1 * 2 ^ d % 2 ^ 64) =
          ap (λ (n : ℕ). get_or (set gone j (bit_or x (1 * 2 ^ d % 2 ^ 64))) n 0) q ∙ get_or-set_same gone j _ 0 l in
          ⊎_elim (λ f. inl (ap (flag b) (ap (λ (n : ℕ). get_or gone n 0) q ∙ sym e) ∙ f)) (λ f. inr (q, f)) (noted_bit b (ap (flag b) (sym there) ∙ h))
      go i b h (no n) (yes l) = inl (ap (flag b) (sym (get_or-set_other gone j i _ 0 n)) ∙ h)

-- ---- what is remembered

module _ (w : Bool) (start total : ℕ) where
  pub remembered_start : (ws : List ℕ) (n : ℕ) → Remembered w ws start total (replicate n 0)
  remembered_start ws n = record { whole = λ j d h. absurd (false≢true (sym (ap (flag d) (zero_at {A = ℕ} 0 n j) ∙ flag_zero d) ∙ h)) }

  pub remembered_toward : {ws ws' gone : List ℕ} → Toward w ws ws' → Remembered w ws start total gone → Remembered w ws' start total gone
  remembered_toward p r = record { whole = λ j d h. follows_toward d w start total (start + j) p (r.whole j d h) }

  -- by what it is told of
  pub remembered_as : {ws ws' gone gone' : List ℕ} → ws' ≡ ws → gone' ≡ gone → Remembered w ws start total gone → Remembered w ws' start total gone'
  remembered_as {ws = ws} {gone' = gone'} e f r =
      subst (λ (s : List ℕ). Remembered w s start total gone') (sym e) (subst (Remembered w ws start total) (sym f) r)

  -- after a run of pages
  pub remembered_run : (d t v n : ℕ) (ws gone : List ℕ) {ws' : List ℕ} → ws' ≡ protect_pages d w ws start total t v n → Remembered w ws start total gone
      → Remembered w ws' start total gone
  remembered_run d t v n ws gone e r =
      subst (λ (s : List ℕ). Remembered w s start total gone) (sym e) (remembered_toward (pages_toward d w start total t n ws v) r)

  pub remembered_more : (ws gone gone' : List ℕ) (j d : ℕ) → Noted gone gone' j d → Follows d w ws start total (start + j)
      → Remembered w ws start total gone → Remembered w ws start total gone'
  remembered_more ws gone gone' j d n f r = record {
    whole = λ i b h. ⊎_elim (λ q. r.whole i b q) (λ q. subst (λ (x : ℕ). Follows b w ws start total (start + x)) (sym q.0)
        (subst (λ (x : ℕ). Follows x w ws start total (start + j)) (sym q.1) f)) (n.each i b h);
  }

  -- a table that is done
  pub done_follows : (ws gone : List ℕ) (d t : ℕ) → Remembered w ws start total gone → is_done gone start total d t ≡ true → Follows d w ws start total t
  done_follows ws gone d t r =
      pick_cases (λ (b : Bool). b ≡ true → Follows d w ws start total t) (inside start total t) _ _
      (λ h e. subst (Follows d w ws start total) (sym (inside_sum start total t h)) (r.whole (t - start) d e)) (λ h _. follows_outside d w ws start total t h)

-- a table that was gone through whole is one more of them
pub remembered_whole : (w : Bool) (start total d t v n : ℕ) (ws gone gone' : List ℕ) {ws' : List ℕ} → inside start total t ≡ true → 2 ^ (9 * suc d) ≤ n
    → ws' ≡ protect_pages d w ws start total t v n → Noted gone gone' (t - start) d → Remembered w ws' start total gone → Remembered w ws' start total gone'
remembered_whole w start total d t v n ws gone gone' {ws'} lent all e new r =
    let f : Follows d w ws' start total t = subst (λ (s : List ℕ). Follows d w s start total t) (sym e) (follows_all d w start total t ws v n all) in
    remembered_more w start total ws' gone gone' (t - start) d new (subst (Follows d w ws' start total) (inside_sum start total t lent) f) r
