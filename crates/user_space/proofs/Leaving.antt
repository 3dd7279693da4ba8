-- What code leaves of the packed list: a call that is refused leaves the bytes as they are, and bytes that were written are those of the list that was left.
use Prim.Native.Nat.{ℕ}
use mathlib.Core.Path.{◌≡◌, refl, sym, ◌∙◌, ap, subst}
use mathlib.Core.Bool.{Bool, true, false, false≢true}
use mathlib.Core.List.{List}
use Rattle.std.specs.Prelude.{Err, Result}
use Rattle.answer.specs.declared.Refusal.{Refusal}
use Rattle.answer.specs.declared.Refusal.TheVariants.{BrokenRecord}
use Rattle.bits.specs.Bit.{both}
use Rattle.slots.specs.Slots.{Slots}
use Rattle.packed.proofs.RoundTrip.{Bytes}
use Rattle.paging.specs.Map.{Memory}
use Rattle.paging.specs.Kept.{Kept, kept}
use Rattle.mappings.specs.declared.MappedRegion.{MappedRegion}
use Rattle.mappings.specs.Packed.{mmap_fit, MmapStands}
use Rattle.mappings.proofs.RoundTrip.{stands_back}
use Rattle.user_space.specs.User.{User, user, UserDid, user_did}
use Rattle.user_space.specs.Packed.{user_in, on_mmap_list, UserReads, UserLeaves}

module _ {A : Type 0} (told : Result ℕ Refusal → A) {w : Result ℕ Refusal} {m : Memory} where
  -- bytes that stand for what was left
  pub leaves : {d : UserDid} {left : List ℕ} {s : Slots MappedRegion} {next : ℕ} → Bytes left → MmapStands left s next → d ≡ user_did w (user m s next)
      → UserLeaves told (kept (told w) m left) d
  leaves {left = left} b h e =
      subst (UserLeaves told (kept (told w) m left)) (sym e) (ap (kept (told w) m) (stands_back b h), h)

  -- bytes that were not touched
  pub leaves_alone : {d : UserDid} {list : List ℕ} → Bytes list → mmap_fit list ≡ true → d ≡ user_did w (user_in m list) → UserLeaves told (kept (told w) m list) d
  leaves_alone b h e = leaves b (h, refl, refl) e

module _ {A : Type 0} (told : Result ℕ Refusal → A) (call : User → UserDid) (m : Memory) (list : List ℕ) where
  -- a call on bytes that stand for a list
  pub on_list : {k : Kept A} → mmap_fit list ≡ true → UserLeaves told k (call (user_in m list)) → (k ≡ on_mmap_list told call m list) × UserReads call m list k.list
  unfolding on_mmap_list
  on_list h l = (rw h l.0, λ _. l.1)

  -- .. which are broken, or stand for none
  pub on_broken : Bytes list → (sound : Bool) → both (mmap_fit list) sound ≡ false → (sound ≡ false → call (user_in m list) ≡ user_did (Err BrokenRecord) (user_in m list))
      → (kept (told (Err BrokenRecord)) m list ≡ on_mmap_list told call m list) × UserReads call m list list
  unfolding on_mmap_list
  on_broken b sound e stop = by (mmap_fit list) refl
    where
      by : (x : Bool) → mmap_fit list ≡ x → (kept (told (Err BrokenRecord)) m list ≡ on_mmap_list told call m list) × UserReads call m list list
      by true f = on_list f (leaves_alone told b f (stop (ap (λ (y : Bool). both y sound) (sym f) ∙ e)))
      by false f = (rw f refl, λ g. absurd (false≢true (sym f ∙ g)))
