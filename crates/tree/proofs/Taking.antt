-- `map_fresh`, with which vmalloc and mmap take a page: its three outcomes.
use Prim.Native.Nat.{ℕ, suc, ◌+◌, ◌*◌, ◌^◌, ◌<◌}
use mathlib.Core.Path.{◌≡◌, refl, sym}
use mathlib.Core.Bool.{Bool}
use mathlib.Core.List.{List, ◌∷◌}
use mathlib.Core.Logic.{◌⊎◌, inl, inr}
use native.Mathlib.Omega.{arith}
use Rattle.std.specs.Prelude.{Ok, Err, Result}
use Rattle.answer.specs.declared.Refusal.{Refusal}
use Rattle.answer.specs.declared.Refusal.TheVariants.{NoFreeFrame, MapPageFailed}
use Rattle.address.specs.declared.Frame.{Frame}
use Rattle.bitmap.specs.Bitmap.{marked}
use Rattle.entry.specs.Entry.{entry_of}
use Rattle.frame.specs.Frames.{FramesDid}
use Rattle.frame.proofs.Laws.{take_cases}
use Rattle.paging.specs.Map.{Memory, start_frame, total_of, Out, out, go_on}
use Rattle.paging.specs.Calls.{map_at}
use Rattle.paging.specs.Pages.{zeroed, fresh_frame, or_failed, map_fresh}
use Rattle.tree.proofs.Walks.{nowhere}
use Rattle.tree.proofs.Ordered.{Ordered}
use Rattle.tree.proofs.Accounts.{Accounted, took_accounted, lost_accounted}
use Rattle.tree.proofs.Taken.{Took, Lost, map_frame, frame_took, frame_lost}

module _ {m : Memory} {root up : ℕ} (o : Ordered m root (suc up)) (w u : Bool) (v : ℕ) where
  -- the three outcomes: 11 and nothing done, 13 and a frame lost, met
  pub take_page_cases : (P : Out → Type 0) → P (out (Err NoFreeFrame) m) → ((f : ℕ) (m' : Memory) → Lost m root up v f m' → P (out (Err MapPageFailed) m'))
      → ((f x : ℕ) (m' : Memory) → Took m root up v f m' → P (out (Ok x) m')) → P (map_fresh up w u m root v)
  unfolding map_fresh fresh_frame
  take_page_cases P none fails met =
      take_cases m.frames
      (λ (d : FramesDid (Result Frame Refusal)). P (go_on (zeroed m d.answer d.frames) (λ f m'.
      let r = map_at up up u m' root v (entry_of (f * 2 ^ 12) w u) in out (or_failed r.walked) r.mem)))
      (λ j lt free _. by j lt free (map_frame up w u m root v j).walked refl)
      (λ _. none)
    where
      by : (j : ℕ) (lt : j < total_of m) (free : marked m.frames.bits j ≡ 0) (x : Result ℕ Refusal)
          → (map_frame up w u m root v j).walked ≡ x
          → P (out (or_failed (map_frame up w u m root v j).walked) (map_frame up w u m root v j).mem)
      by j lt free (Ok x) h = rw h (met (start_frame m + j) x _ (frame_took o w u v j lt free x h))
      by j lt free (Err a) h = rw h (fails (start_frame m + j) _ (frame_lost o w u v j lt free a h))

  pub take_met : (x : ℕ) → (map_fresh up w u m root v).walked ≡ Ok x → (f : ℕ) × Took m root up v f (map_fresh up w u m root v).mem
  take_met x =
      take_page_cases (λ (r : Out). r.walked ≡ Ok x → (f : ℕ) × Took m root up v f r.mem)
      (λ h. absurd (nowhere h)) (λ f m' l h. absurd (nowhere h)) (λ f y m' t h. (f, t))

  -- 11: nothing is done
  pub take_full : (map_fresh up w u m root v).walked ≡ Err NoFreeFrame → (map_fresh up w u m root v).mem ≡ m
  take_full =
      take_page_cases (λ (r : Out). r.walked ≡ Err NoFreeFrame → r.mem ≡ m)
      (λ h. refl) (λ f m' l h. let z : ◌≡◌ {A = ℕ} 13 11 = cc in absurd (omega arith)) (λ f y m' t h. absurd (nowhere (sym h)))

  -- 13: a frame is lost
  pub take_failed : (map_fresh up w u m root v).walked ≡ Err MapPageFailed → (f : ℕ) × Lost m root up v f (map_fresh up w u m root v).mem
  take_failed =
      take_page_cases (λ (r : Out). r.walked ≡ Err MapPageFailed → (f : ℕ) × Lost m root up v f r.mem)
      (λ h. let z : ◌≡◌ {A = ℕ} 11 13 = cc in absurd (omega arith)) (λ f m' l h. (f, l)) (λ f y m' t h. absurd (nowhere (sym h)))

  -- no other number is said
  pub take_number : (a : Refusal) → (map_fresh up w u m root v).walked ≡ Err a → (a ≡ NoFreeFrame) ⊎ (a ≡ MapPageFailed)
  take_number a =
      take_page_cases (λ (r : Out). r.walked ≡ Err a → (a ≡ NoFreeFrame) ⊎ (a ≡ MapPageFailed))
      (λ h. inl (cc)) (λ f m' l h. inr (cc)) (λ f y m' t h. absurd (nowhere (sym h)))

-- the account of the frames: one is lost with 13 alone
module _ {m : Memory} {root up : ℕ} {lost : List ℕ} (c : Accounted m root (suc up) lost) (w u : Bool) (v : ℕ) where
  pub met_accounted : (x : ℕ) → (map_fresh up w u m root v).walked ≡ Ok x → Accounted (map_fresh up w u m root v).mem root (suc up) lost
  met_accounted x h = took_accounted c (take_met c.order w u v x h).1

  pub full_accounted : (map_fresh up w u m root v).walked ≡ Err NoFreeFrame → Accounted (map_fresh up w u m root v).mem root (suc up) lost
  full_accounted h = rw (take_full c.order w u v h) c

  pub failed_accounted : (map_fresh up w u m root v).walked ≡ Err MapPageFailed → (f : ℕ) × Accounted (map_fresh up w u m root v).mem root (suc up) (f ∷ lost)
  failed_accounted h = let t = take_failed c.order w u v h in (t.0, lost_accounted c t.1)
