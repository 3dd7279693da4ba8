-- WRITABLE made to follow a protection, page by page (document 02, slip 1). A board has `up` levels above the last.
use Rattle.std.specs.Prelude.{Ok, Err, Result}
use Rattle.answer.specs.declared.Refusal.{Refusal}
use Rattle.std.specs.Prelude.{ℕ, zero, suc, ◌+◌, Bool, List, get_or, set, take}
use Rattle.answer.specs.Outcomes.{and_then}
use Rattle.entry.specs.Entry.{index, indices, with_writable}
use Rattle.paging.specs.Walk.{place, entry_at, reach}

-- the word number of the last entry of page v, where `unmap_page` finds the page; the number that it stops with elsewhere
unfoldable pub page_place : ℕ → List ℕ → ℕ → ℕ → ℕ → ℕ → Result ℕ Refusal
page_place up ws start total root v =
    and_then (reach ws start total root (take up (indices (suc up) v))) Err (λ t.
    and_then (entry_at ws start total t (index 0 v)) Err (λ _. Ok (place start t (index 0 v))))

-- 'makes WRITABLE follow PROT_WRITE on each page of the region that `unmap_page` finds': w for page v, which is passed over where it is not found
unfoldable pub protect_page : ℕ → Bool → List ℕ → ℕ → ℕ → ℕ → ℕ → List ℕ
protect_page up w ws start total root v =
    and_then (page_place up ws start total root v) (λ _. ws) (λ x. set ws x (with_writable w (get_or ws x 0)))

-- n pages from v on, one after the other
unfoldable pub protect_pages : ℕ → Bool → List ℕ → ℕ → ℕ → ℕ → ℕ → ℕ → List ℕ
protect_pages up w ws start total root v zero = ws
protect_pages up w ws start total root v (suc n) = protect_pages up w (protect_page up w ws start total root v) start total root (v + 4096) n
