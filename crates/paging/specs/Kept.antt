-- A call that is lent a list as packed bytes, beside words and frames: its answer, and what it leaves of them.
use Rattle.std.specs.Prelude.{ℕ, List}
use Rattle.frame.specs.declared.FrameAllocator.{FrameAllocator}
use Rattle.frame.specs.Frames.{lent_frames}
use Rattle.paging.specs.Map.{Memory, memory}

pub record Kept (Answer : Type 0) : Type 0 where
  pub answer : Answer
  pub mem : Memory
  pub list : List ℕ

abbrev pub kept : {Answer : Type 0} → Answer → Memory → List ℕ → Kept Answer
kept a m l = record { answer = a; mem = m; list = l }

-- words, packed bitmap and frame record as code is lent them
abbrev pub lent_memory : List ℕ → List ℕ → FrameAllocator → Memory
lent_memory words bitmap fr = memory words (lent_frames bitmap fr)
