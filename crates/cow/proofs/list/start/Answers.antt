-- Zero bytes: no page.
use Rattle.std.proofs.Common.{ap, ◌∙◌}
use lib.ListN.{replicate}
use Rattle.cow.proofs.RoundTrip.{fit_long, started}
use Rattle.cow.proofs.list.start.Goals as goal

pub returns-clause-list_after : goal.returns-clause-list_after
returns-clause-list_after c =
    (started (c.fill.ensures.after (λ y h. h) ∙ ap (λ n. replicate n 0) (fit_long c.args.list.now c.requires))).0

pub returns-clause-list_after_2 : goal.returns-clause-list_after_2
returns-clause-list_after_2 c =
    (started (c.fill.ensures.after (λ y h. h) ∙ ap (λ n. replicate n 0) (fit_long c.args.list.now c.requires))).1.0
