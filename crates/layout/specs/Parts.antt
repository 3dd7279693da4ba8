-- The parts of the state as packed bytes (docs/LAYOUT.md): the frame record, its bitmap.
use Rattle.std.specs.Prelude.{ℕ, Bool, List, [], ◌∷◌, eqb, length, get_or}
use Rattle.packed.specs.Words.{pack, unpack}
use Rattle.frame.specs.Frames.{Frames, frames}
use Rattle.frame.specs.declared.FrameAllocator.{FrameAllocator}

-- four numbers of 8 bytes
abbrev pub fields_size : ℕ
fields_size = 32

-- the frame record: start, total, allocated, levels
abbrev pub fields_in : List ℕ → FrameAllocator
fields_in bs = let r = unpack 4 bs in record { start = get_or r 0 0; total = get_or r 1 0; allocated = get_or r 2 0; levels = get_or r 3 0 }

abbrev pub fields_out : FrameAllocator → List ℕ
fields_out fa = pack (fa.start ∷ fa.total ∷ fa.allocated ∷ fa.levels ∷ [])

-- the allocator of a packed record and of the words of a bitmap
abbrev pub frames_in : List ℕ → List ℕ → Frames
frames_in fields marks = frames marks (fields_in fields)

-- a part whose length is another than its layout's stands for no record. A bitmap has 1024 bytes by its type
abbrev pub fields_fit : List ℕ → Bool
fields_fit fields = eqb (length fields) fields_size
