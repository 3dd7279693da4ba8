-- `make_tables`: tables that are all there are only passed.
use Rattle.std.proofs.Common.{suc, take, ℕ}
use Rattle.entry.specs.Entry.{indices as indices_of}
use Rattle.paging.specs.Map.{make}
use Rattle.paging.specs.Kept.{lent_memory}
use mathlib.Core.Path.{sym, ◌∙◌, ap}
use Rattle.paging.proofs.Map.{make_there}
use Rattle.tables.proofs.make_tables.Goals as goal

pub returns-in-Ok : goal.returns-in-Ok
returns-in-Ok c =
    let m = lent_memory c.args.words.now c.args.bitmap.now c.args.frames.now in
    sym
    (ap (λ (k : ℕ). make c.args.user m c.args.root.0 (take k (indices_of (suc c.args.up) c.args.virt.0))) c.if-k-up.true
    ∙ make_there c.args.user m c.args.root.0 _ (take c.args.up (indices_of (suc c.args.up) c.args.virt.0)) (sym c.find_table.ensures ∙ c.in-Ok.is))
