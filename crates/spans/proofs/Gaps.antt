-- What a look at a page finds, by the steps of the walk.
use Prim.Native.Nat.{ℕ, suc, ◌+◌, ◌-◌, ◌*◌, ◌%◌, ◌^◌, ◌<◌, ◌≤◌}
use mathlib.Core.Path.{◌≡◌, refl, sym, ◌∙◌, ap}
use mathlib.Core.Bool.{true, false}
use mathlib.Core.List.{List, [], ◌∷◌, ◌++◌, append_assoc}
use native.Mathlib.Numerals.{add-one}
use native.Mathlib.Omega.{arith}
use lib.Bits.{bit_and}
use lib.ListN.{length, get_or, set, take, drop, take-append-drop}
use lib.Seq.{take-suc, drop-cons, get_or-set_same, get_or-set_other}
use borrow.Author.Count.{below_more}
use Rattle.answer.specs.declared.Refusal.{Refusal}
use Rattle.std.specs.Prelude.{Ok, Err}
use Rattle.answer.specs.declared.Refusal.TheVariants.{TableOutside}
use Rattle.bits.proofs.Masks.{one_shifted}
use Rattle.bits.proofs.Single.{and_below}
use Rattle.entry.specs.Entry.{index, indices, frame_of}
use Rattle.entry.proofs.Entry.{index_behind}
use Rattle.frame.specs.Frames.{inside}
use Rattle.paging.specs.Walk.{entry_at, reach}
use Rattle.paging.proofs.Walk.{entry_out, reach_end}
use Rattle.tree.proofs.Paths.{path, length_path}
use Rattle.tree.proofs.Walks.{reach_step, reach_stuck}
use Rattle.spans.specs.Spans.{to_end, Off, IsGap, IsLeaves}
use Rattle.spans.proofs.Addresses.{same_above, span_above, to_end_some}

-- ---- a gap

-- the path of a page in the span of entry l, which has d levels below it
shared : (n l d v j : ℕ) → suc l + d ≡ n → j < to_end d v
    → indices n (v + j * 4096) ≡ take (suc l) (indices n v) ++ drop (suc l) (indices n (v + j * 4096))
shared n l d v j w h =
    sym (take-append-drop (suc l) (indices n (v + j * 4096)))
    ∙ ap (λ (p : List ℕ). p ++ drop (suc l) (indices n (v + j * 4096))) (same_above n d (v + j * 4096) v (span_above d v j h) (suc l) (omega arith))

module _ (ws : List ℕ) (start total up root v : ℕ) where
  -- the path down to entry l, by its index
  down_to : (l : ℕ) → l ≤ up → take (suc l) (path up v) ≡ take l (path up v) ++ (index (up - l) v ∷ [])
  down_to l low = take-suc (path up v) l 0 (omega (arith, length_path up v)) ∙ ap (λ (i : ℕ). take l (path up v) ++ (i ∷ [])) (index_behind up l v low)

  module _ (l : ℕ) {i : ℕ} (g : i ≡ index (up - l) v) where
    -- one table further down
    pub further : (t e : ℕ) → l < up → reach ws start total root (take l (path up v)) ≡ Ok t → entry_at ws start total t i ≡ Ok e
        → reach ws start total root (take (l + 1) (path up v)) ≡ Ok (frame_of e)
    further t e low h x = rw (add-one l, down_to l (omega arith), ← g) (reach_step ws start total (take l (path up v)) root t i e h x)

    -- below an absent entry, or an entry of a table outside
    pub gap_absent : (t : ℕ) (a : Refusal) → l ≤ up → {k : ℕ} → k ≡ to_end (up - l) v → reach ws start total root (take l (path up v)) ≡ Ok t
        → entry_at ws start total t i ≡ Err a → IsGap ws start total up root v k
    gap_absent t a low w h e = record {
      some = rw w (to_end_some (up - l) v);
      off = λ j lt.
          let r = drop (suc l) (path up (v + j * 4096)) in (
            a,
            ap (reach ws start total root)
                (shared (suc up) l (up - l) v j (omega arith) (omega arith)
                ∙ ap (λ (p : List ℕ). p ++ r) (down_to l low ∙ ap (λ (x : ℕ). take l (path up v) ++ (x ∷ [])) (sym g))
                ∙ append_assoc (take l (path up v)) (i ∷ []) r)
                ∙ reach_stuck ws start total (take l (path up v)) root t i r a h e,
          );
    }

  -- below an entry that leads outside
  pub gap_outside : (l f : ℕ) → l < up → {k : ℕ} → k ≡ to_end (up - l) v → reach ws start total root (take (l + 1) (path up v)) ≡ Ok f
      → inside start total f ≡ false → IsGap ws start total up root v k
  gap_outside l f low w h o = record {
    some = rw w (to_end_some (up - l) v);
    off = λ j lt.
        let q = path up (v + j * 4096) in (
          TableOutside,
          ap (reach ws start total root)
              (shared (suc up) l (up - l) v j (omega arith) (omega arith)
              ∙ ap (λ (r : List ℕ). take (suc l) (path up v) ++ r) (drop-cons q (suc l) 0 (omega (arith, length_path up (v + j * 4096)))))
              ∙ reach_stuck ws start total (take (suc l) (path up v)) root f (get_or q (suc l) 0) (drop (suc (suc l)) q) TableOutside
              (rw (add-one l) at h) (entry_out ws start total f (get_or q (suc l) 0) o),
        );
  }

  -- below a root that is outside
  pub gap_root : {k : ℕ} → k ≡ to_end up v → inside start total root ≡ false → IsGap ws start total up root v k
  gap_root w o =
      let e : up - 0 ≡ up = omega arith in
      gap_absent 0 refl root TableOutside (omega arith) (rw e w) (reach_end ws start total root refl) (entry_out ws start total root _ o)

  -- a last table
  pub leaves_found : (above : List ℕ) (t k : ℕ) → reach ws start total root (take up (path up v)) ≡ Ok t → inside start total t ≡ true
      → ((l : ℕ) → l < up → reach ws start total root (take l (path up v)) ≡ Ok (get_or above l 0)) → 0 < k → index 0 v + k ≤ 512
      → ((l : ℕ) → l < up → get_or above l 0 ≡ t → Off (index (up - l) v) (index 0 v) k) → IsLeaves ws start total up root v t k
  leaves_found above t k way ins ways some fit apart =
      record { some = some; fit = fit; lent = ins; way = way; apart = λ l lt h. apart l lt (let e = ways l lt in cc) }

  -- the tables on the way, one more of them written down
  pub above_more : (above : List ℕ) (l t : ℕ) → l < length above
      → ((k : ℕ) → k < l → reach ws start total root (take k (path up v)) ≡ Ok (get_or above k 0)) → reach ws start total root (take l (path up v)) ≡ Ok t
      → (k : ℕ) → k < l + 1 → reach ws start total root (take k (path up v)) ≡ Ok (get_or (set above l t) k 0)
  above_more above l t lt ways way =
      below_more (λ k. reach ws start total root (take k (path up v)) ≡ Ok (get_or (set above l t) k 0)) l
      (λ k b. ways k b ∙ ap Ok (sym (get_or-set_other above l k t 0 (λ e. omega arith)))) (way ∙ ap Ok (sym (get_or-set_same above l t 0 lt)))

-- ---- the code's `1 << 9 * d`, and what is left of the span

module _ (d : ℕ) (low : d ≤ 4) where
  pub width_is : 1 * 2 ^ (9 * d) % 2 ^ 64 ≡ 2 ^ (9 * d)
  width_is = one_shifted (9 * d) (omega arith)

  pub within_is : (x : ℕ) → bit_and x (1 * 2 ^ (9 * d) % 2 ^ 64 - 1) ≡ x % 2 ^ (9 * d)
  within_is x = and_below (9 * d) x (omega arith)

-- .. and its `1 << 9 * (up + 1)`
pub all_pages_are : (up : ℕ) → up ≤ 4 → 1 * 2 ^ (9 * (up + 1)) % 2 ^ 64 ≡ 2 ^ (9 * suc up)
all_pages_are up low = one_shifted (9 * (up + 1)) (omega arith) ∙ ap (λ (x : ℕ). 2 ^ (9 * x)) (add-one up)
