-- A translation with its working answers as it does without.
use mathlib.Core.Path.{ap}
use Rattle.std.specs.Prelude.{Result, ℕ}
use Rattle.answer.specs.declared.Refusal.{Refusal}
use Rattle.address.specs.Address.{phys_line, as_phys}
use Rattle.paging.specs.Map.{start_frame, total_of}
use Rattle.paging.specs.Levels.{levels_of}
use Rattle.paging.proofs.Working.{shows}
use Rattle.trace.specs.Trace.{played}
use Rattle.trace.specs.Shown.{ShownAsTranslated}

pub shown_as_translated : ShownAsTranslated
shown_as_translated b v =
    ap (λ (o : Result ℕ Refusal). played (phys_line (as_phys o)) b) (shows.same (levels_of b.mem) b.mem.words (start_frame b.mem) (total_of b.mem) b.root v)
