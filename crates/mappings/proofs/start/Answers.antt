-- Zero bytes, then next_addr.
use Rattle.std.proofs.Common.{ap, ◌∙◌}
use lib.ListN.{replicate}
use Rattle.mappings.proofs.RoundTrip.{fit_long, stands_back}
use Rattle.mappings.proofs.Stores.{zeros_in}
use Rattle.mappings.proofs.start.Goals as goal

pub returns-clause-mmap_stands : goal.returns-clause-mmap_stands
returns-clause-mmap_stands c =
    let zeros = c.fill.ensures.after (λ y h. h) ∙ ap (λ n. replicate n 0) (fit_long c.args.list.now c.requires) in
    (c.put_next.ensures.0, c.put_next.ensures.1 ∙ zeros_in zeros, c.put_next.ensures.2)

pub returns-clause-list_after : goal.returns-clause-list_after
returns-clause-list_after c =
    let zeros = c.fill.ensures.after (λ y h. h) ∙ ap (λ n. replicate n 0) (fit_long c.args.list.now c.requires) in
    let bytes = c.type_inv.list in
    stands_back (λ k. (bytes k).fits) (c.put_next.ensures.0, c.put_next.ensures.1 ∙ zeros_in zeros, c.put_next.ensures.2)
