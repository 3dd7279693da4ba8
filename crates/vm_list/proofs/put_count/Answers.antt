-- `put_count`: the number is stored, and the list is read back.
use Rattle.std.proofs.Common.{rules}
use Rattle.vm_list.proofs.RoundTrip.{count_in}
use Rattle.vm_list.proofs.put_count.Goals as goal

pub returns-clause-list_after : goal.returns-clause-list_after
returns-clause-list_after c =
    (count_in c.args.list.now c.requires (search rules) c.args.n (search rules) c.put_word.ensures).0

pub returns-clause-list_after_2 : goal.returns-clause-list_after_2
returns-clause-list_after_2 c =
    (count_in c.args.list.now c.requires (search rules) c.args.n (search rules) c.put_word.ensures).1
