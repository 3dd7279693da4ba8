-- `put_word`: eight stores.
use Rattle.packed.proofs.Words.{stores_word}
use Rattle.packed.proofs.put_word.Goals as goal

pub returns : goal.returns
returns c =
    stores_word c.args.bytes.now c.to_le_bytes-word.result c.args.at c.args.x c.to_le_bytes-word.ensures
