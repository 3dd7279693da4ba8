-- The numbers with which the steps on tables and pages stop.
use Prim.Native.Nat.{ℕ, zero, suc, ◌+◌, ◌*◌, ◌^◌}
use mathlib.Core.Path.{◌≡◌, refl, subst}
use mathlib.Core.Bool.{Bool}
use mathlib.Core.List.{List, [], ◌∷◌}
use lib.ListN.{get_or}
use Rattle.std.specs.Prelude.{Ok, Err, Result}
use Rattle.answer.specs.declared.Refusal.{Refusal}
use Rattle.address.specs.declared.Frame.{Frame}
use Rattle.bits.specs.Bit.{flag}
use Rattle.bits.proofs.Choice.{pick_cases}
use Rattle.entry.specs.Entry.{entry_of}
use Rattle.frame.specs.Frames.{FramesDid, inside, with_mark}
use Rattle.frame.proofs.Laws.{take_cases}
use Rattle.paging.specs.Walk.{place}
use Rattle.paging.specs.Map.{Memory, memory, start_frame, total_of, Out, out, go_on, zero_frame, enter, make, Left, put_entry, map_entry}
use Rattle.paging.specs.Calls.{map_at}
use Rattle.paging.specs.Pages.{zeroed, fresh_frame, or_failed, map_fresh, map_pages}
use Rattle.paging.proofs.Map.{go_on_cases, enter_cases}
use Rattle.paging.proofs.Pages.{map_pages_none, map_pages_on, map_pages_stop}
use Rattle.layout.specs.Left.{IsRefusal, table_leftovers, region_leftovers, second_leftovers}
use Rattle.layout.specs.Memory.{plain_line}

-- it comes somewhere, or stops with a number that is listed
abbrev pub Listed : List Refusal → Result ℕ Refusal → Type 0
Listed leftovers w = IsRefusal leftovers (plain_line w).number → ⊥

-- ---- tables: 11 and 19

enter_listed : (u : Bool) (m : Memory) (t i : ℕ) → Listed second_leftovers (enter u m t i).walked
enter_listed u m t i =
    enter_cases u m t i (λ (o : Out). Listed second_leftovers o.walked) (λ _ h. h.1.0 refl) (λ _ _ h. h.1.1 refl) (λ _ _ _ _ _ _ h. h.1.1 refl) (λ _ _ _ h. h.0 refl)

pub make_listed : (u : Bool) (m : Memory) (t : ℕ) (path : List ℕ) → Listed second_leftovers (make u m t path).walked
unfolding make
make_listed u m t [] = λ h. h.1.1 refl
make_listed u m t (i ∷ path) =
    go_on_cases (λ (o : Out). Listed second_leftovers o.walked) (enter u m t i) _ (λ n e. subst (Listed second_leftovers) e (enter_listed u m t i))
    (λ f _. make_listed u (enter u m t i).mem f path)

-- .. and 12 where a leaf is present
pub map_listed : (u : Bool) (m : Memory) (root : ℕ) (path : List ℕ) (i e : ℕ) → Listed table_leftovers (map_entry u m root path i e).walked
unfolding map_entry put_entry
map_listed u m root path i e =
    go_on_cases (λ (o : Out). Listed table_leftovers o.walked) (make u m root path) _
    (λ n q h. subst (Listed second_leftovers) q (make_listed u m root path) (h.0, (h.1.1.0, h.1.1.1)))
    (λ t _.
    let m' = (make u m root path).mem in
    pick_cases (λ (l : Left). Listed table_leftovers l.walked) (inside (start_frame m') (total_of m') t) _ _
    (λ _. pick_cases (λ (l : Left). Listed table_leftovers l.walked) (flag 0 (get_or m'.words (place (start_frame m') t i) 0)) _ _ (λ _ h. h.1.0 refl) (λ _ h. h.1.1.1 refl))
    (λ _ h. h.1.1.0 refl))

-- ---- pages on fresh frames: 11 and 13

failed_listed : (w : Result ℕ Refusal) → Listed region_leftovers (or_failed w)
failed_listed (Ok x) h = h.1.1 refl
failed_listed (Err n) h = h.1.0 refl

module _ (up : ℕ) (w u : Bool) (root : ℕ) where
  fresh_listed : (m : Memory) (v : ℕ) → Listed region_leftovers (map_fresh up w u m root v).walked
  unfolding map_fresh fresh_frame
  fresh_listed m v =
      take_cases m.frames
      (λ (d : FramesDid (Result Frame Refusal)). Listed region_leftovers (go_on (zeroed m d.answer d.frames) (λ f m'.
      let r = map_at up up u m' root v (entry_of (f * 2 ^ 12) w u) in out (or_failed r.walked) r.mem)).walked)
      (λ j _ _ _.
      failed_listed
      (map_at up up u (memory (zero_frame m.words (start_frame m) (start_frame m + j)) (with_mark m.frames j)) root v (entry_of ((start_frame m + j) * 2 ^ 12) w u)).walked)
      (λ _ h. h.0 refl)

  pub pages_listed : (n : ℕ) (m : Memory) (v k : ℕ) → Listed region_leftovers (map_pages up w u m root v k n).walked
  pages_listed zero m v k = rw (map_pages_none up w u m root v k) (λ h. h.1.1 refl)
  pages_listed (suc n) m v k =
      by (map_fresh up w u m root v).walked refl (pages_listed n (map_fresh up w u m root v).mem (v + 4096) (suc k))
    where
      came : {x : Result ℕ Refusal} → (map_fresh up w u m root v).walked ≡ x → map_fresh up w u m root v ≡ out x (map_fresh up w u m root v).mem
      came e = λ j. out (e j) (map_fresh up w u m root v).mem

      by : (x : Result ℕ Refusal) → (map_fresh up w u m root v).walked ≡ x → Listed region_leftovers (map_pages up w u (map_fresh up w u m root v).mem root (v + 4096) (suc k) n).walked
          → Listed region_leftovers (map_pages up w u m root v k (suc n)).walked
      by (Ok x) e rest = rw (map_pages_on up w u m root v k n _ x (came e)) rest
      by (Err a) e rest = rw (map_pages_stop up w u m root v k n _ a (came e)) (subst (Listed region_leftovers) e (fresh_listed m v))
