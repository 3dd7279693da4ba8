-- What the frame allocator's and the mapper's C functions answer and leave: a call on the parts unpacked, and what it leaves packed again (layout's Left and Memory).
use Rattle.std.specs.Prelude.{ℕ, Bool, true, false, List}
use Rattle.bits.specs.Bit.{unless}
use Rattle.answer.specs.Numbers.{answer_line, count_line, flag_line}
use Rattle.answer.specs.declared.Line.{Line}
use Rattle.address.specs.Address.{frame_line, phys_line, as_frame, as_phys}
use Rattle.bitmap.specs.Bitmap.{marks_in}
use Rattle.frame.specs.Found.{found_line}
use Rattle.frame.specs.Frames.{Frames, FramesDid, init, is_allocated, mark_allocated, allocate, deallocate, free_frames, allocated_frames, total_frames}
use Rattle.paging.specs.declared.HugePageSize.{HugePageSize}
use Rattle.paging.specs.declared.HugePageSize.TheVariants.{Size2MB, Size1GB}
use Rattle.paging.specs.Map.{Memory}
use Rattle.paging.specs.Calls.{translate, map_page_of, map_huge_of, unmap_page}
use Rattle.paging.specs.Working.{show_translate}
use Rattle.paging.specs.User.{user_may}
use Rattle.working.specs.Rows.{shown_numbers}
use Rattle.layout.specs.Parts.{frames_in, fields_fit, fields_out}
use Rattle.layout.specs.Left.{Left, left, broken_line, unless_fit}
use Rattle.layout.specs.Memory.{MemoryParts, on_memory}

-- ---- the bytes of the frame record, and the words that its bitmap's 1024 bytes stand for

pub record FramesParts : Type 0 where
  pub fields : List ℕ
  pub marks : List ℕ

abbrev pub frames_parts : List ℕ → List ℕ → FramesParts
frames_parts f b = record { fields = f; marks = marks_in b }

abbrev pub frames_packed : Frames → FramesParts
frames_packed fr = record { fields = fields_out fr.fa; marks = fr.bits }

unfoldable pub on_frames : {A : Type 0} → (A → Line) → (Frames → FramesDid A) → FramesParts → Left FramesParts
on_frames line call p =
    unless_fit (fields_fit p.fields) p
    (left (line (call (frames_in p.fields p.marks)).answer) (frames_packed (call (frames_in p.fields p.marks)).frames))

-- .. that are only read
unfoldable pub read_frames : {A : Type 0} → (A → Line) → (Frames → A) → FramesParts → Line
read_frames line call p = unless (fields_fit p.fields) broken_line (line (call (frames_in p.fields p.marks)))

abbrev pub packed_init : FramesParts → ℕ → ℕ → Left FramesParts
packed_init p from to = on_frames answer_line (λ (fr : Frames). init fr from to) p

abbrev pub packed_is_allocated : FramesParts → ℕ → Line
packed_is_allocated p n = read_frames flag_line (λ (fr : Frames). is_allocated fr n) p

abbrev pub packed_mark : FramesParts → ℕ → Left FramesParts
packed_mark p n = on_frames answer_line (λ (fr : Frames). mark_allocated fr n) p

abbrev pub packed_allocate : FramesParts → Left FramesParts
packed_allocate p = on_frames frame_line allocate p

abbrev pub packed_deallocate : FramesParts → ℕ → Left FramesParts
packed_deallocate p n = on_frames found_line (λ (fr : Frames). deallocate fr n) p

abbrev pub packed_free_frames : FramesParts → Line
packed_free_frames p = read_frames count_line free_frames p

abbrev pub packed_allocated_frames : FramesParts → Line
packed_allocated_frames p = read_frames count_line allocated_frames p

abbrev pub packed_total_frames : FramesParts → Line
packed_total_frames p = read_frames count_line total_frames p

-- ---- the mapper

-- a huge page's size by one flag
abbrev pub huge_of : Bool → HugePageSize
huge_of true = Size1GB
huge_of false = Size2MB

abbrev pub line_translate : List ℕ → ℕ → ℕ → ℕ → ℕ → ℕ → Line
line_translate words start total levels root virt = phys_line (as_phys (translate levels words start total root virt))

-- with its working the line is the same, and all its numbers are written, whatever stood there
abbrev pub left_show : List ℕ → ℕ → ℕ → ℕ → ℕ → ℕ → Left (List ℕ)
left_show words start total levels root virt =
    left (line_translate words start total levels root virt) (shown_numbers (show_translate levels words start total root virt).rows)

abbrev pub line_user_may : List ℕ → ℕ → ℕ → ℕ → ℕ → ℕ → Bool → Line
line_user_may words start total levels root virt write = flag_line (user_may levels words start total root virt write)

abbrev pub packed_map_page : MemoryParts → ℕ → ℕ → ℕ → Bool → Bool → Left MemoryParts
packed_map_page p root virt phys writable user = on_memory (λ (m : Memory). map_page_of m root virt phys writable user) p

abbrev pub packed_map_huge : MemoryParts → ℕ → ℕ → ℕ → HugePageSize → Bool → Bool → Left MemoryParts
packed_map_huge p root virt phys size writable user = on_memory (λ (m : Memory). map_huge_of m root virt phys size writable user) p

-- the words are all that it is lent, and they need not be unpacked
abbrev pub left_unmap : List ℕ → ℕ → ℕ → ℕ → ℕ → ℕ → Left (List ℕ)
left_unmap words start total levels root virt =
    let d = unmap_page levels words start total root virt in
    left (frame_line (as_frame d.walked)) d.words
