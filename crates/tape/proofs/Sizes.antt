-- The bytes of a call that is read: no more than there are, and at most 26; so what stands behind the first 26 bytes does not change what is read.
use Prim.Native.Nat.{ℕ, zero, suc, ◌+◌, ◌*◌, ◌≤◌, ◌<◌}
use mathlib.Core.Path.{◌≡◌, refl, sym, ◌∙◌, ap}
use mathlib.Core.Bool.{Bool, true, false}
use mathlib.Core.List.{List, [], ◌∷◌, ◌++◌}
use native.Mathlib.Omega.{arith}
use lib.Dec.{eqb, leb, ltb}
use lib.ListN.{length, get_or, drop, length-append, length-drop, get_or-append}
use lib.Seq.{drop-append-le}
use mir.Val.{to_z}
use mir.Syntax.{w32}
use borrow.Author.Tests.{ltb-true, leb-true, le-leb}
use Rattle.bits.specs.Bit.{pick, both}
use Rattle.packed.specs.Words.{number}
use Rattle.tape.specs.declared.Call.{Call}
use Rattle.tape.specs.declared.Call.TheVariants.{Vmalloc, Vfree, Mmap, Munmap, Fault, Translate}
use Rattle.std.specs.Prelude.{None, Some}
use Rattle.tape.specs.Tape.{body_size, read, malformed, body, next, kind_of, call_size}
use Rattle.tape.proofs.Reading.{size_most}

pub size_of_call : (c : Call) → call_size c ≤ 26
size_of_call (Vmalloc n) = omega arith
size_of_call (Vfree a) = omega arith
size_of_call (Mmap c) = omega arith
size_of_call (Munmap c) = omega arith
size_of_call (Fault c) = omega arith
size_of_call (Translate a) = omega arith

pub size_least_call : (c : Call) → 1 ≤ call_size c
size_least_call c = omega arith

-- the call of a body has the body's kind
same_body : (k : ℕ) (b : List ℕ) (c : Call) → 0 < body_size k → body k b ≡ read c → body_size (kind_of c) ≡ body_size k
same_body k b c = by (eqb k 1) (eqb k 2) (eqb k 3) (eqb k 4) (eqb k 5) (eqb k 6) (ltb (get_or b 0 0) 2)
  where
    kinds : (x y : Call) → read x ≡ read y → kind_of x ≡ kind_of y
    kinds x y e = let f : x ≡ y = cc in ap kind_of f

    by : (p q r s t u f : Bool) → 0 < pick p 8 (pick q 8 (pick r 25 (pick s 16 (pick t 16 (pick u 8 0)))))
        → pick p (read (Vmalloc (number 8 b))) (pick q (read (Vfree (number 8 b)))
        (pick r (pick f (read (Mmap (record { addr = pick (eqb (get_or b 0 0) 1) (Some (number 8 (drop 1 b))) None; size = number 8 (drop 9 b); prot = to_z w32 (number 4 (drop 17 b)); flags = to_z w32 (number 4 (drop 21 b)) }))) malformed)
        (pick s (read (Munmap (record { addr = number 8 b; size = number 8 (drop 8 b) })))
        (pick t (read (Fault (record { addr = number 8 b; code = number 8 (drop 8 b) })))
        (read (Translate (number 8 b))))))) ≡ read c
        → body_size (kind_of c) ≡ pick p 8 (pick q 8 (pick r 25 (pick s 16 (pick t 16 (pick u 8 0)))))
    by true q r s t u f h e = sym (ap body_size (kinds _ _ e))
    by false true r s t u f h e = sym (ap body_size (kinds _ _ e))
    by false false true s t u true h e = sym (ap body_size (kinds _ _ e))
    by false false true s t u false h e = absurd (let z : ◌≡◌ {A = ℕ} 0 1 = cc in omega arith)
    by false false false true t u f h e = sym (ap body_size (kinds _ _ e))
    by false false false false true u f h e = sym (ap body_size (kinds _ _ e))
    by false false false false false true f h e = sym (ap body_size (kinds _ _ e))
    by false false false false false false f h e = absurd (omega arith)

-- a call that is read is there whole
pub call_there : (bs : List ℕ) (c : Call) → next bs ≡ read c → call_size c ≤ length bs
unfolding next
call_there [] c e = absurd (let z : ◌≡◌ {A = ℕ} 0 1 = cc in omega arith)
call_there (k ∷ b) c e = by (ltb 0 (body_size k)) (leb (body_size k) (length b)) refl refl e
  where
    by : (x y : Bool) → ltb 0 (body_size k) ≡ x → leb (body_size k) (length b) ≡ y → pick (both x y) (body k b) malformed ≡ read c → call_size c ≤ suc (length b)
    by true true p q f = omega (arith, same_body k b c (ltb-true 0 (body_size k) p) f, leb-true (body_size k) (length b) q)
    by true false p q f = absurd (let z : ◌≡◌ {A = ℕ} 0 1 = cc in omega arith)
    by false y p q f = absurd (let z : ◌≡◌ {A = ℕ} 0 1 = cc in omega arith)

-- ---- what stands further behind does not matter

number_front : (k : ℕ) (l m : List ℕ) → k ≤ length l → number k (l ++ m) ≡ number k l
unfolding number
number_front zero l m h = refl
number_front (suc k) [] m h = absurd (omega arith)
number_front (suc k) (x ∷ l) m h = ap (λ (n : ℕ). x + 256 * n) (number_front k l m (omega arith))

number_behind : (k j : ℕ) (l m : List ℕ) → j + k ≤ length l → number k (drop j (l ++ m)) ≡ number k (drop j l)
number_behind k j l m h = ap (number k) (drop-append-le j l m (omega arith)) ∙ number_front k (drop j l) m (omega (arith, length-drop j l))

body_more : (k : ℕ) (b more : List ℕ) → 25 ≤ length b → body k (b ++ more) ≡ body k b
body_more k b more h =
    rw (
      number_front 8 b more (omega arith),
      number_behind 8 8 b more (omega arith),
      number_behind 8 1 b more (omega arith),
      number_behind 8 9 b more (omega arith),
      number_behind 4 17 b more (omega arith),
      number_behind 4 21 b more (omega arith),
      get_or-append b more 0 0 (omega arith),
    )
    refl

-- once 26 bytes are there, more of them do not change what is read
pub next_more : (bs more : List ℕ) → 26 ≤ length bs → next (bs ++ more) ≡ next bs
unfolding next
next_more [] more h = absurd (omega arith)
next_more (k ∷ b) more h =
    let l = size_most k in
    let e : leb (body_size k) (length (b ++ more)) ≡ true = le-leb (body_size k) (length (b ++ more)) (omega (arith, length-append b more)) in
    let f : leb (body_size k) (length b) ≡ true = le-leb (body_size k) (length b) (omega arith) in
    rw (e, f, body_more k b more (omega arith)) refl
