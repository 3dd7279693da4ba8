-- The number and value of a table's entry, the record of ten flags, and the number of a zone.
use Rattle.std.specs.Prelude.{Ok, Err, Result}
use Rattle.answer.specs.declared.Refusal.{Refusal}
use Rattle.entry.specs.declared.paging.PageTableEntry.{PageTableEntry}
use Rattle.std.specs.Prelude.{ℕ, Bool}
use Rattle.address.specs.declared.MemoryZone.{MemoryZone}
use Rattle.address.specs.declared.MemoryZone.TheVariants.{Dma, Normal, High}
use Rattle.answer.specs.declared.Line.{Line}
use Rattle.answer.specs.Numbers.{line_of}
use Rattle.entry.specs.declared.page_handler.PageFlags.{PageFlags}

-- the word, or 14
abbrev pub entry_line : Result PageTableEntry Refusal → Line
entry_line = line_of (λ e. e.0)

-- ten flags in the order of the fields
abbrev pub ten_flags : Bool → Bool → Bool → Bool → Bool → Bool → Bool → Bool → Bool → Bool → PageFlags
ten_flags p w u t c a d h g n = record {
  present = p;
  writable = w;
  user = u;
  write_through = t;
  cache_disabled = c;
  accessed = a;
  dirty = d;
  huge = h;
  global = g;
  no_execute = n;
}

-- a zone of physical memory by its number, in the order of their addresses
abbrev pub zone_number : MemoryZone → ℕ
zone_number Dma = 0
zone_number Normal = 1
zone_number High = 2
