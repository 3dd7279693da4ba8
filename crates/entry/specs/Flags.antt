-- 'PageFlags uses bits 0 to 8 in field order and bit 63; from_bits drops all others.'
use Rattle.std.specs.Prelude.{ℕ, ◌+◌, ◌*◌, ◌^◌, false}
use Rattle.bits.specs.Bit.{one, flag}
use Rattle.entry.specs.Entry.{addr_of}
use Rattle.entry.specs.declared.page_handler.PageFlags.{PageFlags}

-- what PageFlags::new gives
abbrev pub no_flags : PageFlags
no_flags = record {
  present = false;
  writable = false;
  user = false;
  write_through = false;
  cache_disabled = false;
  accessed = false;
  dirty = false;
  huge = false;
  global = false;
  no_execute = false;
}

-- what to_bits gives
unfoldable pub bits_of : PageFlags → ℕ
bits_of f =
    one f.present + 2 * one f.writable + 4 * one f.user + 8 * one f.write_through + 16 * one f.cache_disabled
    + 32 * one f.accessed + 64 * one f.dirty + 128 * one f.huge + 256 * one f.global
    + 2 ^ 63 * one f.no_execute

-- what from_bits gives
unfoldable pub flags_of : ℕ → PageFlags
flags_of w = record {
  present = flag 0 w;
  writable = flag 1 w;
  user = flag 2 w;
  write_through = flag 3 w;
  cache_disabled = flag 4 w;
  accessed = flag 5 w;
  dirty = flag 6 w;
  huge = flag 7 w;
  global = flag 8 w;
  no_execute = flag 63 w;
}

-- 'An entry is the masked address joined with its flag bits'
abbrev pub flag_entry_of : ℕ → PageFlags → ℕ
flag_entry_of a f = addr_of a + bits_of f
