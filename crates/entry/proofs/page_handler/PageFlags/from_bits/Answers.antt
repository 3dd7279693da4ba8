-- `from_bits` tests each place by a mask of one bit.
use Rattle.entry.specs.Flags.{flags_of}
use Rattle.bits.proofs.Masks.{flag_mask}
use Rattle.entry.proofs.page_handler.PageFlags.from_bits.Goals as goal

pub returns : goal.returns
unfolding flags_of
returns c =
    λ i. record {
      present = flag_mask 0 c.args.bits i;
      writable = flag_mask 1 c.args.bits i;
      user = flag_mask 2 c.args.bits i;
      write_through = flag_mask 3 c.args.bits i;
      cache_disabled = flag_mask 4 c.args.bits i;
      accessed = flag_mask 5 c.args.bits i;
      dirty = flag_mask 6 c.args.bits i;
      huge = flag_mask 7 c.args.bits i;
      global = flag_mask 8 c.args.bits i;
      no_execute = flag_mask 63 c.args.bits i;
    }
