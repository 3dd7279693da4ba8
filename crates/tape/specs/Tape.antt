-- A call tape, document 01's 'The key program': 'one kind byte, then a body, little-endian'.
use Rattle.std.specs.Prelude.{ℕ, ◌+◌, List, [], ◌∷◌, Option, None, Some, Result, Ok, Err, eqb, leb, ltb, length, get_or, drop}
use Rattle.std.proofs.Common.{to_z}
use Rattle.std.specs.Int.{w32}
use Rattle.bits.specs.Bit.{pick, unless, both}
use Rattle.packed.specs.Words.{number}
use Rattle.tape.specs.declared.Call.{Call}
use Rattle.tape.specs.declared.Call.TheVariants.{Vmalloc, Vfree, Mmap, Munmap, Fault, Translate}
use Rattle.tape.specs.declared.Malformed.{Malformed}

-- the bytes of a body by its kind; 0 for an unknown kind
abbrev pub body_size : ℕ → ℕ
body_size k =
    pick (eqb k 1) 8 (pick (eqb k 2) 8 (pick (eqb k 3) 25 (pick (eqb k 4) 16 (pick (eqb k 5) 16 (pick (eqb k 6) 8 0)))))

-- what stands next on a tape: a call, nothing at its end, or bytes that are no call
abbrev pub Next : Type 0
Next = Result (Option Call) Malformed

abbrev pub read : Call → Next
read c = Ok (Some c)

abbrev pub finished : Next
finished = Ok None

abbrev pub malformed : Next
malformed = Err (record {})

-- '3 mmap: 1 byte 0 or 1 (address given), address 8, size 8, prot 4, flags 4'
abbrev pub mmap_body : List ℕ → Next
mmap_body b =
    unless (ltb (get_or b 0 0) 2) malformed
    (read (Mmap (record {
      addr = pick (eqb (get_or b 0 0) 1) (Some (number 8 (drop 1 b))) None;
      size = number 8 (drop 9 b);
      prot = to_z w32 (number 4 (drop 17 b));
      flags = to_z w32 (number 4 (drop 21 b));
    })))

-- '1 vmalloc: size 8 bytes. 2 vfree: address 8. .. 4 munmap: address 8, size 8. 5 first fault path: address 8, code 8. 6 translate: address 8'
abbrev pub body : ℕ → List ℕ → Next
body k b =
    pick (eqb k 1) (read (Vmalloc (number 8 b)))
    (pick (eqb k 2) (read (Vfree (number 8 b)))
    (pick (eqb k 3) (mmap_body b)
    (pick (eqb k 4) (read (Munmap (record { addr = number 8 b; size = number 8 (drop 8 b) })))
    (pick (eqb k 5) (read (Fault (record { addr = number 8 b; code = number 8 (drop 8 b) })))
    (read (Translate (number 8 b)))))))

-- what stands next: 'An unknown kind, short body or other first byte in kind 3 ends the run'
unfoldable pub next : List ℕ → Next
next [] = finished
next (k ∷ b) = unless (both (ltb 0 (body_size k)) (leb (body_size k) (length b))) malformed (body k b)

-- the kind byte of a call
abbrev pub kind_of : Call → ℕ
kind_of (Vmalloc n) = 1
kind_of (Vfree a) = 2
kind_of (Mmap c) = 3
kind_of (Munmap c) = 4
kind_of (Fault c) = 5
kind_of (Translate a) = 6

-- the bytes of a call on the tape, its kind byte among them
abbrev pub call_size : Call → ℕ
call_size c = 1 + body_size (kind_of c)
