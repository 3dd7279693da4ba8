-- The first region that passes a test, by its index: what `first_fit`, `take_first`, `used_size` and `free_first` come to there.
use Rattle.std.specs.Prelude.{Ok, Err}
use Rattle.answer.specs.declared.Refusal.TheVariants.{NoRegion, RegionNotFound}
use Rattle.std.proofs.Common.{◌≡◌, ℕ, zero, suc, ◌<◌, ◌≤◌, Bool, true, false, not, eqb, leb, List, [], ◌∷◌, ◌++◌, length, get_or, take, drop, sym, refl, subst, arith, length-take-le, get_or-take, eqb-true, leb-true}
use Rattle.bits.specs.Bit.{pick}
use Rattle.bits.proofs.Choice.{both_true}
use Rattle.slots.specs.Slots.{Slots, listed, first_at}
use Rattle.regions.specs.declared.VMRegion.{VMRegion}
use Rattle.regions.specs.Regions.{vm_region, no_vm_region, fits, first_fit, behind, take_first, used_size, free_first}
use Rattle.regions.specs.List.{used_at, freed_at}

module _ {A : Type 0} (test : A → Bool) where
  -- what holds of a list whose first element passes, and is kept by an element in front that does not, holds of a list with one that passes
  pub first_found : (P : List A → ℕ → Type 0) → ((a : A) (l : List A) → test a ≡ true → P (a ∷ l) zero)
      → ((a : A) (l : List A) (i : ℕ) → test a ≡ false → P l i → P (a ∷ l) (suc i)) → (l : List A) → first_at test l < length l → P l (first_at test l)
  unfolding first_at
  first_found P here on [] h = absurd (omega arith)
  first_found P here on (a ∷ l) h = by (test a) refl h (first_found P here on l)
    where
      by : (x : Bool) → test a ≡ x → pick x 0 (suc (first_at test l)) < suc (length l) → (first_at test l < length l → P l (first_at test l))
          → P (a ∷ l) (pick x 0 (suc (first_at test l)))
      by true e k more = here a l e
      by false e k more = on a l (first_at test l) e (more (omega arith))

  -- .. and of one with none
  pub first_missing : (P : List A → Type 0) → P [] → ((a : A) (l : List A) → test a ≡ false → P l → P (a ∷ l)) → (l : List A) → length l ≤ first_at test l → P l
  unfolding first_at
  first_missing P end on [] h = end
  first_missing P end on (a ∷ l) h = by (test a) refl h (first_missing P end on l)
    where
      by : (x : Bool) → test a ≡ x → suc (length l) ≤ pick x 0 (suc (first_at test l)) → (length l ≤ first_at test l → P l) → P (a ∷ l)
      by true e k more = absurd (omega arith)
      by false e k more = on a l e (more (omega arith))

  pub first_le : (l : List A) → first_at test l ≤ length l
  unfolding first_at
  first_le [] = omega arith
  first_le (a ∷ l) = by (test a) (first_le l)
    where
      by : (x : Bool) → first_at test l ≤ length l → pick x 0 (suc (first_at test l)) ≤ suc (length l)
      by true h = omega arith
      by false h = omega arith

  pub first_passes : (d : A) (l : List A) → first_at test l < length l → test (get_or l (first_at test l) d) ≡ true
  first_passes d = first_found (λ l i. test (get_or l i d) ≡ true) (λ a l e. e) (λ a l i e more. more)

-- a free region of n bytes or more
module _ (n : ℕ) where
  pub fit_at : (l : List VMRegion) → first_at (fits n) l < length l → first_fit n l ≡ Ok (get_or l (first_at (fits n) l) no_vm_region).start
  unfolding first_fit
  fit_at = first_found (fits n) (λ l i. first_fit n l ≡ Ok (get_or l i no_vm_region).start) (λ r l e. rw e) (λ r l i e more. rw e more)

  pub fit_none : (l : List VMRegion) → length l ≤ first_at (fits n) l → first_fit n l ≡ Err NoRegion
  unfolding first_fit
  fit_none = first_missing (fits n) (λ l. first_fit n l ≡ Err NoRegion) refl (λ r l e more. rw (e, more))

  pub fit_large : (l : List VMRegion) → first_at (fits n) l < length l → n ≤ (get_or l (first_at (fits n) l) no_vm_region).size
  fit_large l h =
      let r = get_or l (first_at (fits n) l) no_vm_region in
      leb-true n r.size (both_true (not r.used) (leb n r.size) (first_passes (fits n) no_vm_region l h)).1

  pub taken_at : (used room : Bool) (l : List VMRegion) → first_at (fits n) l < length l → let r = get_or l (first_at (fits n) l) no_vm_region in
      take_first used n room l ≡ take (first_at (fits n) l) l ++ (vm_region r.start n used ∷ behind n room r (drop (suc (first_at (fits n) l)) l))
  unfolding take_first
  taken_at used room =
      first_found (fits n) (λ l i. take_first used n room l ≡ take i l ++ (vm_region (get_or l i no_vm_region).start n used ∷ behind n room (get_or l i no_vm_region) (drop (suc i) l)))
      (λ r l e. rw e) (λ r l i e more. rw (e, more))

-- a used region at a
module _ (a : ℕ) where
  pub used_missing : (l : List VMRegion) → length l ≤ first_at (used_at a) l → used_size a l ≡ Err RegionNotFound
  unfolding used_size
  used_missing = first_missing (used_at a) (λ l. used_size a l ≡ Err RegionNotFound) refl (λ r l e more. rw (e, more))

  pub used_at_lem : (l : List VMRegion) → first_at (used_at a) l < length l → used_size a l ≡ Ok (get_or l (first_at (used_at a) l) no_vm_region).size
  unfolding used_size
  used_at_lem = first_found (used_at a) (λ l i. used_size a l ≡ Ok (get_or l i no_vm_region).size) (λ r l e. rw e) (λ r l i e more. rw (e, more))

  pub used_start : (l : List VMRegion) → first_at (used_at a) l < length l → (get_or l (first_at (used_at a) l) no_vm_region).start ≡ a
  used_start l h =
      let r = get_or l (first_at (used_at a) l) no_vm_region in
      eqb-true r.start a (both_true (eqb r.start a) r.used (first_passes (used_at a) no_vm_region l h)).0

  pub free_at : (l : List VMRegion) → first_at (used_at a) l < length l → free_first a l ≡ freed_at (first_at (used_at a) l) l
  unfolding free_first
  free_at = first_found (used_at a) (λ l i. free_first a l ≡ freed_at i l) (λ r l e. rw e) (λ r l i e more. rw (e, more))

-- the same of the regions that slots list
module _ (s : Slots VMRegion) (enough : s.count ≤ length s.slots) where
  listed_length : length (listed s) ≡ s.count
  listed_length = length-take-le s.count s.slots enough

  pub first_below : (test : VMRegion → Bool) (i : ℕ) → i ≡ first_at test (listed s) → (i ≡ s.count → ⊥) → i < s.count
  first_below test i e d = omega (arith, d, e, first_le test (listed s), listed_length)

  module _ (n i : ℕ) (e : i ≡ first_at (fits n) (listed s)) where
    pub fit_none_of : i ≡ s.count → first_fit n (listed s) ≡ Err NoRegion
    fit_none_of h = fit_none n (listed s) (omega (arith, e, listed_length))

    pub fit_of : i < s.count → (first_fit n (listed s) ≡ Ok (get_or s.slots i no_vm_region).start) × (n ≤ (get_or s.slots i no_vm_region).size)
    fit_of h =
        let k : first_at (fits n) (listed s) < length (listed s) = omega (arith, e, listed_length) in
        subst (λ (r : VMRegion). (first_fit n (listed s) ≡ Ok r.start) × (n ≤ r.size)) (get_or-take s.count s.slots i no_vm_region h)
        (subst (λ (j : ℕ). (first_fit n (listed s) ≡ Ok (get_or (listed s) j no_vm_region).start) × (n ≤ (get_or (listed s) j no_vm_region).size)) (sym e)
        (fit_at n (listed s) k, fit_large n (listed s) k))

  module _ (a i : ℕ) (e : i ≡ first_at (used_at a) (listed s)) where
    pub used_none_of : i ≡ s.count → used_size a (listed s) ≡ Err RegionNotFound
    used_none_of h = used_missing a (listed s) (omega (arith, e, listed_length))

    pub used_of : i < s.count → (used_size a (listed s) ≡ Ok (get_or s.slots i no_vm_region).size) × ((get_or s.slots i no_vm_region).start ≡ a)
    used_of h =
        let k : first_at (used_at a) (listed s) < length (listed s) = omega (arith, e, listed_length) in
        subst (λ (r : VMRegion). (used_size a (listed s) ≡ Ok r.size) × (r.start ≡ a)) (get_or-take s.count s.slots i no_vm_region h)
        (subst (λ (j : ℕ). (used_size a (listed s) ≡ Ok (get_or (listed s) j no_vm_region).size) × ((get_or (listed s) j no_vm_region).start ≡ a)) (sym e)
        (used_at_lem a (listed s) k, used_start a (listed s) k))

    pub free_of : i < s.count → free_first a (listed s) ≡ freed_at i (listed s)
    free_of h = subst (λ (j : ℕ). free_first a (listed s) ≡ freed_at j (listed s)) (sym e) (free_at a (listed s) (omega (arith, e, listed_length)))
