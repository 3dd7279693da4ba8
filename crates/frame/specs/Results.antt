-- What the code's results hold of a call on a record that is handed over: the answer beside the record that it leaves. The bitmap it leaves is the lent one.
use Rattle.std.specs.Prelude.{Result, ⊤}
use Rattle.answer.specs.declared.Refusal.{Refusal}
use Rattle.address.specs.declared.Frame.{Frame}
use Rattle.frame.specs.Frames.{FramesDid}
use Rattle.frame.specs.declared.Found.{Found}
use Rattle.frame.specs.declared.Changed.{Changed}
use Rattle.frame.specs.declared.Allocated.{Allocated}
use Rattle.frame.specs.declared.Deallocated.{Deallocated}

abbrev pub changed : FramesDid (Result ⊤ Refusal) → Changed
changed d = record { answer = d.answer; frames = d.frames.fa }

abbrev pub allocated : FramesDid (Result Frame Refusal) → Allocated
allocated d = record { answer = d.answer; frames = d.frames.fa }

abbrev pub deallocated : FramesDid (Result Found Refusal) → Deallocated
deallocated d = record { answer = d.answer; frames = d.frames.fa }
