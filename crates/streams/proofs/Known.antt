-- What reads and writes do to the bytes that a reader has left and a writer holds, where those are known.
use Rattle.std.proofs.Common.{◌≡◌, ℕ, ◌+◌, ◌≤◌, List, [], ◌++◌, Result, Ok, Err, None, Some, length, take, sym, ap, ◌∙◌, subst, append_assoc, arith}
use Rattle.std.specs.declared.option.Option.{Option}
use Rattle.std.proofs.lemmas.List.{length-take-le, take-append-le}
use Rattle.std.proofs.Math.Seq.{take-append-add}
use Rattle.std.specs.Prelude.{OnOk}
use Rattle.std.specs.Io.{ReadsAtMost}
use Rattle.std.specs.Io.KnownBytes.{ReadConsumes, Consumes, Keeps, Appends, prepend_known, append_known}
use borrow.Rule.Slice.PartMut.{put_mid, post_of}
use Rattle.streams.specs.Streams.{bytes_of}

-- ---- a read behind the first n bytes of a buffer

-- what stood in front, and k bytes of the part that was lent behind it
take_behind : (n k rest : ℕ) (xs ys : List ℕ) → n ≤ length xs → k ≤ length ys → take (n + k) (put_mid n rest xs ys) ≡ take n xs ++ take k ys
take_behind n k rest xs ys h l =
    let front = take n xs in
    let behind = ys ++ post_of n rest xs in
    ap (λ (m : ℕ). take (m + k) (front ++ behind)) (sym (length-take-le n xs h)) ∙ take-append-add front behind k
    ∙ ap (λ (t : List ℕ). front ++ t) (take-append-le k ys (post_of n rest xs) l)

none_consumed : (a b : Option (List ℕ)) → Keeps a b → Consumes a b []
none_consumed None b p = tt
none_consumed (Some x) None p = absurd p
none_consumed (Some x) (Some y) p = sym p

consumed : {E : Type 0} (old new : Option (List ℕ)) (answer : Result ℕ E) (lent : List ℕ) → ReadConsumes old new answer lent → Consumes old new (take (bytes_of answer) lent)
consumed old new (Ok k) lent p = p.0
consumed old new (Err e) lent p = none_consumed old new p

within : {E : Type 0} (answer : Result ℕ E) (lent : List ℕ) → ReadsAtMost answer lent → bytes_of answer ≤ length lent
within (Ok k) lent p = p.0
within (Err e) lent p = omega arith

prepend_consumed : (a b : Option (List ℕ)) (front bs : List ℕ) → Consumes a b bs → Keeps (prepend_known front a) (prepend_known (front ++ bs) b)
prepend_consumed None b front bs p = tt
prepend_consumed (Some x) None front bs p = absurd p
prepend_consumed (Some x) (Some y) front bs p = append_assoc front bs y ∙ ap (λ (l : List ℕ). front ++ l) (sym p)

-- a read takes from the reader what it brings
pub read_kept : {E : Type 0} (old new : Option (List ℕ)) (answer : Result ℕ E) (n rest : ℕ) (buf lent : List ℕ) → n ≤ length buf → ReadsAtMost answer lent → ReadConsumes old new answer lent
    → Keeps (prepend_known (take n buf) old) (prepend_known (take (n + bytes_of answer) (put_mid n rest buf lent)) new)
read_kept old new answer n rest buf lent h most read =
    let k = bytes_of answer in
    subst (λ (l : List ℕ). Keeps (prepend_known (take n buf) old) (prepend_known l new)) (sym (take_behind n k rest buf lent h (within answer lent most)))
    (prepend_consumed old new (take n buf) (take k lent) (consumed old new answer lent read))

-- ---- the last write

all_appended : (a b c : Option (List ℕ)) (all rest line text : List ℕ) → Keeps (append_known a all) (append_known b rest) → text ≡ rest ++ line → Appends b c text → Appends a c (all ++ line)
all_appended None b c all rest line text p e q = tt
all_appended (Some x) None c all rest line text p e q = absurd p
all_appended (Some x) (Some y) None all rest line text p e q = absurd q
all_appended (Some x) (Some y) (Some z) all rest line text p e q =
    q ∙ ap (λ (l : List ℕ). y ++ l) e ∙ sym (append_assoc y rest line) ∙ ap (λ (l : List ℕ). l ++ line) p ∙ append_assoc x all line

-- a text is written that stands for what is still to be written, with a line behind it: then all is
pub all_written : {T E : Type 0} (r : Result T E) (a b c : Option (List ℕ)) (all rest line text : List ℕ) → Keeps (append_known a all) (append_known b rest) → text ≡ rest ++ line
    → OnOk r (Appends b c text) → OnOk r (Appends a c (all ++ line))
all_written (Ok x) a b c all rest line text p e q = all_appended a b c all rest line text p e q
all_written (Err x) a b c all rest line text p e q = tt
