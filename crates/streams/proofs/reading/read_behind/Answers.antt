-- `read_behind`: what stands in front of the part that is lent stays.
use Rattle.std.proofs.Common.{◌-◌, length}
use Rattle.streams.proofs.Known.{read_kept}
use Rattle.streams.proofs.reading.read_behind.Goals as goal

pub returns-clause-kept : goal.returns-clause-kept
returns-clause-kept g c =
    read_kept _ _ c.read.result c.args.n (length c.args.buf.now - c.args.n) c.args.buf.now c.read.new.buf c.requires c.read.ensures.bound c.read.ensures.bytes
