-- What entering tables, mapping and unmapping come to, by the tests that code makes.
use Prim.Native.Nat.{ℕ, zero, suc, ◌+◌, ◌*◌, ◌^◌, ◌<◌, ◌≤◌}
use mathlib.Core.Path.{◌≡◌, refl, sym, ◌∙◌, ap, subst}
use mathlib.Core.Bool.{Bool, true, false}
use mathlib.Core.List.{List, [], ◌∷◌}
use native.Mathlib.Omega.{arith}
use native.Mathlib.Numerals.{add-one}
use native.Mathlib.Decide.{dec_lt}
use lib.ListN.{length, get_or, set, length-set}
use Rattle.std.specs.Prelude.{Ok, Err, Result}
use Rattle.answer.specs.declared.Refusal.{Refusal}
use Rattle.answer.specs.declared.Refusal.TheVariants.{NoFreeFrame, AlreadyMapped, NotMapped, TableOutside}
use Rattle.bits.specs.Bit.{pick, flag}
use Rattle.bits.proofs.Choice.{pick_cases}
use Rattle.answer.specs.Outcomes.{and_then}
use Rattle.address.specs.declared.Frame.{Frame}
use Rattle.bitmap.specs.Bitmap.{marked}
use Rattle.entry.specs.Entry.{frame_of, entry_of}
use Rattle.frame.specs.Frames.{Frames, FramesDid, inside, with_mark, take_frame}
use Rattle.frame.proofs.Laws.{inside_yes, take_cases}
use Rattle.paging.specs.Walk.{place, entry_at, reach, WordsLent}
use Rattle.paging.specs.Map.{Memory, memory, start_frame, total_of, Out, out, go_on, clear, zero_frame, new_table, create, below, enter, make, Left, left, put_entry, with_words, map_entry, take_leaf, unmap_entry, RoomToTake}
use Rattle.paging.proofs.Walk.{no_value, present_yes, present_no, entry_out, entry_past, entry_in, reach_stop, reach_on}

-- both ways on from a step
pub go_on_cases : (P : Out → Type 0) (o : Out) (k : ℕ → Memory → Out)
    → ((n : Refusal) → o.walked ≡ Err n → P (out (Err n) o.mem)) → ((x : ℕ) → o.walked ≡ Ok x → P (k x o.mem)) → P (go_on o k)
go_on_cases P o k a b = go o.walked refl
  where
    go : (w : Result ℕ Refusal) → o.walked ≡ w → P (and_then w (λ n m. out (Err n) m) k o.mem)
    go (Err n) e = a n e
    go (Ok x) e = b x e

-- ---- words set to 0

-- a word set to 0
pub set_own : (ws : List ℕ) (p : ℕ) → get_or (set ws p 0) p 0 ≡ 0
set_own [] p = refl
set_own (w ∷ ws) zero = refl
set_own (w ∷ ws) (suc p) = set_own ws p

-- .. and many
pub clear_none : (ws : List ℕ) (at : ℕ) → clear ws at 0 ≡ ws
unfolding clear
clear_none ws at = refl

pub clear_more : (ws : List ℕ) (at n : ℕ) → clear ws at (n + 1) ≡ set (clear ws at n) (at + n) 0
unfolding clear
clear_more ws at n = rw (add-one n)

pub length_clear : (ws : List ℕ) (at n : ℕ) → length (clear ws at n) ≡ length ws
unfolding clear
length_clear ws at zero = refl
length_clear ws at (suc n) = length-set (clear ws at n) (at + n) 0 ∙ length_clear ws at n

pub length_zero : (ws : List ℕ) (start f : ℕ) → length (zero_frame ws start f) ≡ length ws
length_zero ws start f = length_clear ws _ _

-- ---- the table below an entry

-- the words once frame f is zeroed and entered at word p as a table
abbrev pub linked : Bool → List ℕ → ℕ → ℕ → ℕ → List ℕ
linked u ws start p f = set (zero_frame ws start f) p (entry_of (f * 2 ^ 12) true u)

pub length_linked : (u : Bool) (ws : List ℕ) (start p f : ℕ) → length (linked u ws start p f) ≡ length ws
length_linked u ws start p f = length-set (zero_frame ws start f) p _ ∙ length_zero ws start f

-- a frame that was taken is one of those lent
pub taken_inside : (fr : Frames) (f : Frame) → (take_frame fr).answer ≡ Ok f → inside fr.fa.start fr.fa.total f.0 ≡ true
taken_inside fr f =
    take_cases fr (λ (d : FramesDid (Result Frame Refusal)). d.answer ≡ Ok f → inside fr.fa.start fr.fa.total f.0 ≡ true)
    (λ j h _ _ e. let n : fr.fa.start + j ≡ f.0 = cc in inside_yes fr.fa.start fr.fa.total f.0 (omega arith) (omega arith))
    (λ _ e. let z : ◌≡◌ {A = ℕ} 0 1 = cc in absurd (omega arith))

module _ (u : Bool) (m : Memory) (p : ℕ) where
  pub create_new : (f : Frame) → (take_frame m.frames).answer ≡ Ok f
      → create u m p ≡ out (Ok f.0) (memory (linked u m.words (start_frame m) p f.0) (take_frame m.frames).frames)
  unfolding create
  create_new f e = rw e

  pub create_full : (n : Refusal) → (take_frame m.frames).answer ≡ Err n → create u m p ≡ out (Err n) (memory m.words (take_frame m.frames).frames)
  unfolding create
  create_full n e = rw e

module _ (u : Bool) (m : Memory) (t i : ℕ) where
  pub enter_out : inside (start_frame m) (total_of m) t ≡ false → enter u m t i ≡ out (Err TableOutside) m
  unfolding enter
  enter_out h = rw h

  module _ (h : inside (start_frame m) (total_of m) t ≡ true) where
    -- 'Present tables keep their bits'
    pub enter_there : flag 0 (get_or m.words (place (start_frame m) t i) 0) ≡ true
        → enter u m t i ≡ out (Ok (frame_of (get_or m.words (place (start_frame m) t i) 0))) m
    unfolding enter below
    enter_there k = rw (h, k)

    pub enter_absent : flag 0 (get_or m.words (place (start_frame m) t i) 0) ≡ false → enter u m t i ≡ create u m (place (start_frame m) t i)
    unfolding enter below
    enter_absent k = rw (h, k)

  -- every outcome of an entered table: outside, there already, a new one in the lowest free frame, or no frame left
  pub enter_cases : (P : Out → Type 0)
      → (inside (start_frame m) (total_of m) t ≡ false → P (out (Err TableOutside) m))
      → (inside (start_frame m) (total_of m) t ≡ true → flag 0 (get_or m.words (place (start_frame m) t i) 0) ≡ true → P (out (Ok (frame_of (get_or m.words (place (start_frame m) t i) 0))) m))
      → (inside (start_frame m) (total_of m) t ≡ true → flag 0 (get_or m.words (place (start_frame m) t i) 0) ≡ false
      → (j : ℕ) → j < total_of m → marked m.frames.bits j ≡ 0 → ((k : ℕ) → k < j → marked m.frames.bits k ≡ 1)
      → P (out (Ok (start_frame m + j)) (memory (linked u m.words (start_frame m) (place (start_frame m) t i) (start_frame m + j)) (with_mark m.frames j))))
      → (inside (start_frame m) (total_of m) t ≡ true → flag 0 (get_or m.words (place (start_frame m) t i) 0) ≡ false
      → ((k : ℕ) → k < total_of m → marked m.frames.bits k ≡ 1) → P (out (Err NoFreeFrame) m))
      → P (enter u m t i)
  unfolding enter below create
  enter_cases P a b c d =
      pick_cases P (inside (start_frame m) (total_of m) t) _ _
      (λ h. pick_cases P (flag 0 (get_or m.words (place (start_frame m) t i) 0)) _ _ (b h)
      (λ k. take_cases m.frames (λ (r : FramesDid (Result Frame Refusal)). P (new_table u m (place (start_frame m) t i) r.answer r.frames)) (c h k) (d h k))) a

-- ---- what no step changes: the frames lent, and the number of words

pub record KeptSpan (m m' : Memory) : Type 0 where
  pub start : start_frame m' ≡ start_frame m
  pub total : total_of m' ≡ total_of m
  pub words : length m'.words ≡ length m.words

kept_same : (m : Memory) → KeptSpan m m
kept_same m = record { start = refl; total = refl; words = refl }

kept_then : {m₀ m₁ m₂ : Memory} → KeptSpan m₀ m₁ → KeptSpan m₁ m₂ → KeptSpan m₀ m₂
kept_then a b = record { start = b.start ∙ a.start; total = b.total ∙ a.total; words = b.words ∙ a.words }

pub enter_kept : (u : Bool) (m : Memory) (t i : ℕ) → KeptSpan m (enter u m t i).mem
unfolding with_mark
enter_kept u m t i =
    enter_cases u m t i (λ (o : Out). KeptSpan m o.mem) (λ _. kept_same m) (λ _ _. kept_same m)
    (λ _ _ j _ _ _. record { start = refl; total = refl; words = length_linked u m.words (start_frame m) _ _ }) (λ _ _ _. kept_same m)

-- room for fewer frames
pub roomy_less : {m : Memory} {n : ℕ} (k : ℕ) → k ≤ n → RoomToTake m n → RoomToTake m k
roomy_less k l r = record { enough = r.enough; held = record { few = r.held.few; low = r.held.low; room = omega (arith, r.held.room) } }

pub roomy_lent : {m : Memory} {n : ℕ} → RoomToTake m n → WordsLent m.words (start_frame m) (total_of m)
roomy_lent r = record { few = r.held.few; enough = r.enough; low = r.held.low }

-- a table that is entered takes at most one frame
pub enter_roomy : (u : Bool) (m : Memory) (t i n : ℕ) → RoomToTake m (n + 1) → RoomToTake (enter u m t i).mem n
unfolding with_mark
enter_roomy u m t i n r =
    enter_cases u m t i (λ (o : Out). RoomToTake o.mem n) (λ _. same) (λ _ _. same)
    (λ _ _ j _ _ _. record {
      enough = omega (arith, r.enough, length_linked u m.words (start_frame m) (place (start_frame m) t i) (start_frame m + j));
      held = record { few = r.held.few; low = r.held.low; room = omega (arith, r.held.room) };
    })
    (λ _ _ _. same)
  where
    same : RoomToTake m n
    same = roomy_less n (omega arith) r

-- ---- the tables along a path

module _ (u : Bool) (m : Memory) (t : ℕ) {p : List ℕ} where
  pub make_end : p ≡ [] → make u m t p ≡ out (Ok t) m
  unfolding make
  make_end c = rw c

  module _ {i : ℕ} {is : List ℕ} (c : p ≡ i ∷ is) (m' : Memory) where
    pub make_stop : (n : Refusal) → enter u m t i ≡ out (Err n) m' → make u m t p ≡ out (Err n) m'
    unfolding make
    make_stop n e = rw (c, e)

    pub make_on : (f : ℕ) → enter u m t i ≡ out (Ok f) m' → make u m t p ≡ make u m' f is
    unfolding make
    make_on f e = rw (c, e)

-- tables that are all there are only passed
pub make_there : (u : Bool) (m : Memory) (t f : ℕ) (p : List ℕ) → reach m.words (start_frame m) (total_of m) t p ≡ Ok f → make u m t p ≡ out (Ok f) m
unfolding reach make
make_there u m t f [] h = ap (λ (w : Result ℕ Refusal). out w m) h
make_there u m t f (i ∷ is) h =
    enter_cases u m t i (λ (o : Out). go_on o (λ t' m'. make u m' t' is) ≡ out (Ok f) m) (λ a. absurd (stuck TableOutside (entry_out _ _ _ _ _ a)))
    (λ a b. make_there u m (frame_of (get_or m.words (place (start_frame m) t i) 0)) f is (sym (reach_on _ _ _ _ {is = is} refl _ (entry_in _ _ _ _ _ a (small a) ∙ present_yes _ b)) ∙ h))
    (λ a b _ _ _ _. absurd (absent a b)) (λ a b _. absurd (absent a b))
  where
    stuck : (n : Refusal) → entry_at m.words (start_frame m) (total_of m) t i ≡ Err n → ⊥
    stuck n q = no_value (sym h ∙ reach_stop m.words (start_frame m) (total_of m) t {is = is} refl n q)

    small : inside (start_frame m) (total_of m) t ≡ true → i < 512
    small a = go (dec_lt i 512)
      where
        go : Dec (i < 512) → i < 512
        go (yes l) = l
        go (no l) = absurd (stuck NotMapped (entry_past _ _ _ _ _ a (omega arith)))

    absent : inside (start_frame m) (total_of m) t ≡ true → flag 0 (get_or m.words (place (start_frame m) t i) 0) ≡ false → ⊥
    absent a b = stuck NotMapped (entry_in _ _ _ _ _ a (small a) ∙ present_no _ b)

pub make_kept : (u : Bool) (p : List ℕ) (m : Memory) (t : ℕ) → KeptSpan m (make u m t p).mem
unfolding make
make_kept u [] m t = kept_same m
make_kept u (i ∷ is) m t =
    go_on_cases (λ (o : Out). KeptSpan m o.mem) (enter u m t i) (λ f m'. make u m' f is) (λ _ _. enter_kept u m t i)
    (λ f _. kept_then (enter_kept u m t i) (make_kept u is (enter u m t i).mem f))

pub make_roomy : (u : Bool) (n : ℕ) (p : List ℕ) (m : Memory) (t : ℕ) → RoomToTake m (n + length p) → RoomToTake (make u m t p).mem n
unfolding make
make_roomy u n [] m t r = roomy_less n (omega arith) r
make_roomy u n (i ∷ is) m t r =
    let q = enter_roomy u m t i (n + length is) (roomy_less _ (omega arith) r) in
    go_on_cases (λ (o : Out). RoomToTake o.mem n) (enter u m t i) (λ f m'. make u m' f is) (λ _ _. roomy_less n (omega arith) q)
    (λ f _. make_roomy u n is (enter u m t i).mem f q)

-- ---- stores into one table

-- a store in one of three cases keeps the number of words
store_length : (n : ℕ) (s t : Bool) (a b c : Left) → length a.words ≡ n → length b.words ≡ n → length c.words ≡ n → length (pick s (pick t a b) c).words ≡ n
store_length n true true a b c x y z = x
store_length n true false a b c x y z = y
store_length n false t a b c x y z = z

module _ (ws : List ℕ) (start total t i e : ℕ) where
  pub put_out : inside start total t ≡ false → put_entry ws start total t i e ≡ left (Err TableOutside) ws
  unfolding put_entry
  put_out h = rw h

  pub put_full : inside start total t ≡ true → flag 0 (get_or ws (place start t i) 0) ≡ true → put_entry ws start total t i e ≡ left (Err AlreadyMapped) ws
  unfolding put_entry
  put_full h k = rw (h, k)

  pub put_free : inside start total t ≡ true → flag 0 (get_or ws (place start t i) 0) ≡ false
      → put_entry ws start total t i e ≡ left (Ok 0) (set ws (place start t i) e)
  unfolding put_entry
  put_free h k = rw (h, k)

  pub put_length : length (put_entry ws start total t i e).words ≡ length ws
  unfolding put_entry
  put_length = store_length (length ws) (inside start total t) (flag 0 (get_or ws (place start t i) 0)) _ _ _ refl (length-set ws _ e) refl

module _ (ws : List ℕ) (start total t i : ℕ) where
  pub take_leaf_out : inside start total t ≡ false → take_leaf ws start total t i ≡ left (Err TableOutside) ws
  unfolding take_leaf
  take_leaf_out h = rw h

  pub take_leaf_none : inside start total t ≡ true → flag 0 (get_or ws (place start t i) 0) ≡ false → take_leaf ws start total t i ≡ left (Err NotMapped) ws
  unfolding take_leaf
  take_leaf_none h k = rw (h, k)

  pub take_leaf_there : inside start total t ≡ true → flag 0 (get_or ws (place start t i) 0) ≡ true
      → take_leaf ws start total t i ≡ left (Ok (frame_of (get_or ws (place start t i) 0))) (set ws (place start t i) 0)
  unfolding take_leaf
  take_leaf_there h k = rw (h, k)

  pub take_leaf_length : length (take_leaf ws start total t i).words ≡ length ws
  unfolding take_leaf
  take_leaf_length = store_length (length ws) (inside start total t) (flag 0 (get_or ws (place start t i) 0)) _ _ _ (length-set ws _ 0) refl refl

-- ---- a word for an address, and a leaf cleared

module _ (u : Bool) (m : Memory) (root : ℕ) (path : List ℕ) (i e : ℕ) where
  pub map_entry_stop : (n : Refusal) (m' : Memory) → make u m root path ≡ out (Err n) m' → map_entry u m root path i e ≡ out (Err n) m'
  unfolding map_entry
  map_entry_stop n m' h = rw h

  pub map_entry_put : (t : ℕ) (m' : Memory) → make u m root path ≡ out (Ok t) m'
      → map_entry u m root path i e ≡ with_words m' (put_entry m'.words (start_frame m') (total_of m') t i e)
  unfolding map_entry
  map_entry_put t m' h = rw h

  pub map_entry_kept : KeptSpan m (map_entry u m root path i e).mem
  unfolding map_entry
  map_entry_kept =
      let k = make_kept u path m root in
      go_on_cases (λ (o : Out). KeptSpan m o.mem) (make u m root path) _ (λ _ _. k)
      (λ t _. record { start = k.start; total = k.total; words = put_length _ _ _ t i e ∙ k.words })

  pub map_entry_roomy : (n : ℕ) → RoomToTake m (n + length path) → RoomToTake (map_entry u m root path i e).mem n
  unfolding map_entry
  map_entry_roomy n r =
      let q = make_roomy u n path m root r in
      go_on_cases (λ (o : Out). RoomToTake o.mem n) (make u m root path) _ (λ _ _. q)
      (λ t _. record { enough = subst (λ (x : ℕ). total_of (make u m root path).mem * 512 ≤ x) (sym (put_length _ _ _ t i e)) q.enough; held = q.held })

module _ (ws : List ℕ) (start total root : ℕ) (path : List ℕ) (i : ℕ) where
  pub unmap_entry_stop : (n : Refusal) → reach ws start total root path ≡ Err n → unmap_entry ws start total root path i ≡ left (Err n) ws
  unfolding unmap_entry
  unmap_entry_stop n h = rw h

  pub unmap_entry_take : (t : ℕ) → reach ws start total root path ≡ Ok t → unmap_entry ws start total root path i ≡ take_leaf ws start total t i
  unfolding unmap_entry
  unmap_entry_take t h = rw h

  pub unmap_entry_length : length (unmap_entry ws start total root path i).words ≡ length ws
  unfolding unmap_entry
  unmap_entry_length = go (reach ws start total root path)
    where
      go : (w : Result ℕ Refusal) → length (and_then w (λ n. left (Err n) ws) (λ t. take_leaf ws start total t i)).words ≡ length ws
      go (Ok t) = take_leaf_length ws start total t i
      go (Err n) = refl
