-- A page that is listed is taken out at its place; one that is not leaves the list as it is.
use Rattle.std.proofs.Common.{sym, ◌∙◌}
use Rattle.cow.proofs.Marked.{few_listed, place_below, out_none, out_there}
use Rattle.cow.proofs.list.unmark.Goals as goal

pub take_out-requires-clause-bounds : goal.take_out-requires-clause-bounds
take_out-requires-clause-bounds c =
    (place_below c.args.list.now c.requires c.args.page (sym c.in-Ok.is ∙ c.find.ensures), few_listed c.args.list.now c.requires)

pub returns-in-Ok-clause-list_after : goal.returns-in-Ok-clause-list_after
returns-in-Ok-clause-list_after c =
    out_there c.args.list.now c.requires c.args.page (sym c.in-Ok.is ∙ c.find.ensures) c.take_out.ensures.1

pub returns-in_default-clause-list_after : goal.returns-in_default-clause-list_after
returns-in_default-clause-list_after c =
    out_none c.args.list.now c.requires c.args.page (sym c.in_default.is ∙ c.find.ensures)
