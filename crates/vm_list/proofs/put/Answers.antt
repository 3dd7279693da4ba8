-- `put`: three numbers are stored, and the list is read back.
use Rattle.std.proofs.Common.{rules}
use Rattle.vm_list.proofs.RoundTrip.{region_stored, put_in}
use Rattle.vm_list.proofs.put.Goals as goal

pub returns-clause-list_after : goal.returns-clause-list_after
returns-clause-list_after c =
    (put_in c.args.list.now c.requires.list_value (search rules) c.args.i c.args.r c.requires.i_bound (search rules, search rules)
    (region_stored c.args.list.now _ _ _ c.args.i c.args.r c.put_word.ensures c.put_word-2.ensures c.put_word-3.ensures)).0

pub returns-clause-list_after_2 : goal.returns-clause-list_after_2
returns-clause-list_after_2 c =
    (put_in c.args.list.now c.requires.list_value (search rules) c.args.i c.args.r c.requires.i_bound (search rules, search rules)
    (region_stored c.args.list.now _ _ _ c.args.i c.args.r c.put_word.ensures c.put_word-2.ensures c.put_word-3.ensures)).1
