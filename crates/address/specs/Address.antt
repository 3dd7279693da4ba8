-- What the methods of addresses give, and the number and value of the answers that hand an address or a frame back.
use Rattle.std.specs.Prelude.{Ok, Err, Result}
use Rattle.answer.specs.declared.Refusal.{Refusal}
use Rattle.address.specs.declared.VirtAddr.{VirtAddr}
use Rattle.address.specs.declared.PhysAddr.{PhysAddr}
use Rattle.address.specs.declared.Frame.{Frame}
use Rattle.std.specs.Prelude.{ℕ, ◌%◌, Bool, eqb, leb}
use Rattle.bits.specs.Bit.{pick}
use Rattle.answer.specs.declared.Line.{Line}
use Rattle.answer.specs.Numbers.{line_of}
use Rattle.allocator.specs.Round.{align_up}
use Rattle.address.specs.declared.MemoryZone.{MemoryZone}
use Rattle.address.specs.declared.MemoryZone.TheVariants.{Dma, Normal, High}

-- whether x is a multiple of a; of 0 only 0 is
abbrev pub aligned : ℕ → ℕ → Bool
aligned x a = pick (eqb a 0) (eqb x 0) (eqb (x % a) 0)

-- where a call or a step came, as the answer of each kind of call
abbrev pub as_virt : Result ℕ Refusal → Result VirtAddr Refusal
as_virt (Ok a) = Ok (record { 0 = a })
as_virt (Err n) = Err n

abbrev pub as_phys : Result ℕ Refusal → Result PhysAddr Refusal
as_phys (Ok a) = Ok (record { 0 = a })
as_phys (Err n) = Err n

abbrev pub as_frame : Result ℕ Refusal → Result Frame Refusal
as_frame (Ok f) = Ok (record { 0 = f })
as_frame (Err n) = Err n

abbrev pub virt_up : ℕ → ℕ → Result VirtAddr Refusal
virt_up x a = as_virt (align_up x a)

abbrev pub phys_up : ℕ → ℕ → Result PhysAddr Refusal
phys_up x a = as_phys (align_up x a)

-- 16 MiB and 896 MiB divide the zones
abbrev pub zone_of : ℕ → MemoryZone
zone_of x = pick (leb x 0xFF_FFFF) Dma (pick (leb x 0x37FF_FFFF) Normal High)

abbrev pub virt_line : Result VirtAddr Refusal → Line
virt_line = line_of (λ a. a.0)

abbrev pub phys_line : Result PhysAddr Refusal → Line
phys_line = line_of (λ a. a.0)

abbrev pub frame_line : Result Frame Refusal → Line
frame_line = line_of (λ f. f.0)
