-- In an empty list no page is listed.
use Rattle.std.proofs.Common.{◌≡◌, nat_lt, sym, ◌∙◌, ap, arith}
use Rattle.cow.proofs.Marked.{none_listed}
use Rattle.cow.proofs.list.is_listed.Goals as goal

pub returns-else-count-gt0 : goal.returns-else-count-gt0
returns-else-count-gt0 c =
    let none : c.count.result ≡ 0 = omega (arith, c.if-count-gt0.false) in
    ap (nat_lt 0) none ∙ sym (none_listed c.args.list.now c.requires c.args.page (sym c.count.ensures ∙ none))
