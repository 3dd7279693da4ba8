-- `write_last`: there is room for a line, and it stands behind what was still to be written.
use Rattle.streams.proofs.Known.{all_written}
use Rattle.streams.proofs.writing.write_last.Goals as goal

pub returns-clause-whole : goal.returns-clause-whole
returns-clause-whole g c =
    all_written c.write.result _ _ _ c.args.out.now c.flush.new.out _ c.put_count.new.self c.in_ok-flush.ensures.kept c.put_count.ensures.text c.write.ensures
