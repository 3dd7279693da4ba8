-- What the first path comes to: broken, refused by the code, or the step below; and what code says of it where the marked pages are packed bytes.
use Prim.Native.Nat.{ℕ}
use mathlib.Core.Path.{◌≡◌, refl, sym, ◌∙◌, ap}
use mathlib.Core.Bool.{Bool, true, false, false≢true}
use mathlib.Core.List.{List}
use Rattle.std.specs.Prelude.{Ok, Err, Result, ⊤}
use Rattle.answer.specs.declared.Refusal.{Refusal}
use Rattle.answer.specs.declared.Refusal.TheVariants.{ReservedBit, InvalidAddress, InstructionFetch, BrokenRecord, WriteToReadOnly}
use Rattle.bits.specs.Bit.{unless, both}
use Rattle.bits.proofs.Choice.{both_true}
use Rattle.answer.specs.Outcomes.{as_answer}
use Rattle.packed.proofs.RoundTrip.{Bytes}
use Rattle.frame.specs.declared.Tally.{Tally}
use Rattle.frame.specs.Found.{none_found}
use Rattle.paging.specs.Map.{Memory, out}
use Rattle.paging.specs.Calls.{whole}
use Rattle.paging.specs.Kept.{kept}
use Rattle.slots.specs.Slots.{Slots, listed}
use Rattle.slots.specs.Sorted.{has_key, remove}
use Rattle.cow.specs.Marked.{page_of, page_key, sound_marked, store_pages}
use Rattle.cow.specs.Packed.{marked_in, marked_out, marked_fit}
use Rattle.cow.proofs.RoundTrip.{marked_back}
use Rattle.error_code.specs.ErrorCode.{is_present, is_write, is_user, is_reserved, is_fetch, denied}
use Rattle.copying.specs.Copying.{raw_frame, map_frame, copy_on_write, copy_found}
use Rattle.fault.specs.Faults.{in_heap, valid, demand_page, Faulting, faulting, FaultDid, fault_did, protected, handled, handle_fault, protected_found, handled_found, fault_found}
use Rattle.fault.specs.Packed.{on_pages, found_on_pages, FaultReads}

-- ---- what code says: an answer, words and frames, and bytes; the pages that these stand for; and what it found

module _ (call : Faulting → FaultDid) (found : Faulting → Tally) (m : Memory) (bs : List ℕ) where
  abbrev pub Says : Result ⊤ Refusal → Tally → Memory → List ℕ → Type 0
  Says a t m' left = (kept a m' left ≡ on_pages call m bs) × (FaultReads call m bs left × (t ≡ found_on_pages found m bs))

  module _ (fit : marked_fit bs ≡ true) {w : Result ℕ Refusal} {m' : Memory} {a : Result ⊤ Refusal} (q : a ≡ as_answer w) {t : Tally} (g : t ≡ found (faulting m (marked_in bs))) where
    -- pages are left, and the bytes stand for them
    pub says : {s : Slots ℕ} → call (faulting m (marked_in bs)) ≡ fault_did w (faulting m' s) → (left : List ℕ) → marked_fit left ≡ true → Bytes left → marked_in left ≡ s
        → Says a t m' left
    unfolding on_pages found_on_pages
    says d left f b e = (
      rw fit
          ((λ j. kept (q j) m' ((sym (marked_back left f b) ∙ ap marked_out e) j))
          ∙ ap (λ (x : FaultDid). kept (as_answer x.answer) x.state.mem (marked_out x.state.marked)) (sym d)),
      (λ _. (f, e ∙ ap (λ (x : FaultDid). x.state.marked) (sym d)), rw fit g),
    )

    -- .. as before
    pub says_same : call (faulting m (marked_in bs)) ≡ fault_did w (faulting m' (marked_in bs)) → Bytes bs → Says a t m' bs
    says_same d b = says d bs fit b refl

  -- 10, also where the bytes stand for no pages
  pub says_broken : (marked_fit bs ≡ true → call (faulting m (marked_in bs)) ≡ fault_did (Err BrokenRecord) (faulting m (marked_in bs)))
      → (marked_fit bs ≡ true → found (faulting m (marked_in bs)) ≡ none_found) → {t : Tally} → t ≡ none_found → Bytes bs → Says (Err BrokenRecord) t m bs
  unfolding on_pages found_on_pages
  says_broken d g {t} q b = by (marked_fit bs) refl
    where
      by : (x : Bool) → marked_fit bs ≡ x → Says (Err BrokenRecord) t m bs
      by true fit = says_same fit refl (q ∙ sym (g fit)) (d fit) b
      by false fit = (rw fit, (λ f. absurd (false≢true (sym fit ∙ f)), rw fit q))

-- what a step below says is what the path says
pub says_on : (call step : Faulting → FaultDid) (found below : Faulting → Tally) (m : Memory) (bs : List ℕ)
    → step (faulting m (marked_in bs)) ≡ call (faulting m (marked_in bs)) → below (faulting m (marked_in bs)) ≡ found (faulting m (marked_in bs))
    → {a : Result ⊤ Refusal} {t : Tally} {m' : Memory} {left : List ℕ} → Says step below m bs a t m' left → Says call found m bs a t m' left
unfolding on_pages found_on_pages
says_on call step found below m bs e g p = (
  p.0
      ∙ ap (λ (d : FaultDid). unless (marked_fit bs) (kept (Err BrokenRecord) m bs) (kept (as_answer d.answer) d.state.mem (marked_out d.state.marked))) e,
  (λ f. ((p.1.0 f).0, (p.1.0 f).1 ∙ ap (λ (d : FaultDid). d.state.marked) e), p.1.1 ∙ ap (unless (marked_fit bs) none_found) g),
)

-- ---- demand paging

module _ (up : ℕ) (m : Memory) (root v code : ℕ) where
  pub demand_invalid : valid v ≡ false → demand_page up m root v code ≡ out (Err InvalidAddress) m
  unfolding demand_page
  demand_invalid h = rw h

  module _ (h : valid v ≡ true) where
    pub demand_fetch : both (is_fetch code) (in_heap v) ≡ true → demand_page up m root v code ≡ out (Err InstructionFetch) m
    unfolding demand_page
    demand_fetch k = rw (h, k)

    module _ (k : both (is_fetch code) (in_heap v) ≡ false) (m' : Memory) where
      pub demand_none : (n : Refusal) → raw_frame m ≡ out (Err n) m' → demand_page up m root v code ≡ out (Err n) m'
      unfolding demand_page
      demand_none n e = rw (h, k, e)

      pub demand_map : (f : ℕ) → raw_frame m ≡ out (Ok f) m' → {w u : Bool} → w ≡ is_write code → u ≡ is_user code → demand_page up m root v code ≡ map_frame up m' root v f w u
      unfolding demand_page
      demand_map f e a b = rw (h, k, e, a, b)

-- ---- access that was denied

module _ (up : ℕ) (s : Faulting) (root v code : ℕ) where
  pub protected_read : is_write code ≡ false → {n : Refusal} → n ≡ denied code → protected up s root v code ≡ fault_did (Err n) s
  protected_read h e = rw (h, e)

  module _ (h : is_write code ≡ true) where
    pub protected_plain : has_key page_key v (listed s.marked) ≡ false → protected up s root v code ≡ fault_did (Err WriteToReadOnly) s
    protected_plain k = rw (h, k)

    module _ (k : has_key page_key v (listed s.marked) ≡ true) {u : Bool} (e : u ≡ is_user code) (m' : Memory) where
      pub protected_stop : (n : Refusal) → copy_on_write up s.mem root v u ≡ out (Err n) m' → protected up s root v code ≡ fault_did (Err n) (faulting m' s.marked)
      protected_stop n c = rw (h, k, ← e, c)

      pub protected_met : (x : ℕ) → copy_on_write up s.mem root v u ≡ out (Ok x) m'
          → protected up s root v code ≡ fault_did (Ok x) (faulting m' (store_pages (remove page_key v (listed s.marked)) s.marked))
      protected_met x c = rw (h, k, ← e, c)

-- ---- the first path

module _ (up : ℕ) (s : Faulting) (root v code : ℕ) where
  pub handled_reserved : is_reserved code ≡ true → handled up s root v code ≡ fault_did (Err ReservedBit) s
  handled_reserved h = rw h

  module _ (h : is_reserved code ≡ false) where
    pub handled_present : is_present code ≡ true → protected up s root v code ≡ handled up s root v code
    handled_present k = rw (h, k)

    pub handled_absent : is_present code ≡ false → {w : Result ℕ Refusal} {m' : Memory} → out w m' ≡ demand_page up s.mem root v code
        → handled up s root v code ≡ fault_did w (faulting m' s.marked)
    handled_absent k e = rw (h, k, ← e)

module _ (up : ℕ) (m : Memory) (bs : List ℕ) (root a code : ℕ) where
  abbrev s : Faulting
  s = faulting m (marked_in bs)

  pub fault_broken : whole m root ≡ false → handle_fault up s root a code ≡ fault_did (Err BrokenRecord) s
  unfolding handle_fault
  fault_broken h = rw h

  module _ (h : whole m root ≡ true) where
    pub fault_unsorted : both (marked_fit bs) (sound_marked (marked_in bs)) ≡ false → marked_fit bs ≡ true → handle_fault up s root a code ≡ fault_did (Err BrokenRecord) s
    unfolding handle_fault
    fault_unsorted k fit = let z : sound_marked (marked_in bs) ≡ false = rw fit at k in rw (h, z)

    pub fault_is : both (marked_fit bs) (sound_marked (marked_in bs)) ≡ true → {v : ℕ} → v ≡ page_of a → handled up s root v code ≡ handle_fault up s root a code
    unfolding handle_fault
    fault_is k e = rw (h, (both_true (marked_fit bs) (sound_marked (marked_in bs)) k).1, e)

-- ---- what it found

module _ (up : ℕ) (s : Faulting) (root v code : ℕ) where
  pub no_write_none : is_write code ≡ false → protected_found up s root v code ≡ none_found
  no_write_none h = rw h

  module _ (h : is_write code ≡ true) where
    pub plain_none : has_key page_key v (listed s.marked) ≡ false → protected_found up s root v code ≡ none_found
    plain_none k = rw (h, k)

    pub copy_finds : has_key page_key v (listed s.marked) ≡ true → {u : Bool} → u ≡ is_user code → copy_found up s.mem root v u ≡ protected_found up s root v code
    copy_finds k e = rw (h, k, ← e)

  pub reserved_none : is_reserved code ≡ true → handled_found up s root v code ≡ none_found
  reserved_none h = rw h

  module _ (h : is_reserved code ≡ false) where
    pub present_finds : is_present code ≡ true → protected_found up s root v code ≡ handled_found up s root v code
    present_finds k = rw (h, k)

    pub absent_none : is_present code ≡ false → handled_found up s root v code ≡ none_found
    absent_none k = rw (h, k)

module _ (up : ℕ) (m : Memory) (bs : List ℕ) (root a code : ℕ) where
  pub broken_none : whole m root ≡ false → fault_found up (faulting m (marked_in bs)) root a code ≡ none_found
  unfolding fault_found
  broken_none h = rw h

  module _ (h : whole m root ≡ true) where
    pub unsorted_none : both (marked_fit bs) (sound_marked (marked_in bs)) ≡ false → marked_fit bs ≡ true → fault_found up (faulting m (marked_in bs)) root a code ≡ none_found
    unfolding fault_found
    unsorted_none k fit = let z : sound_marked (marked_in bs) ≡ false = rw fit at k in rw (h, z)

    pub fault_finds_lem : both (marked_fit bs) (sound_marked (marked_in bs)) ≡ true → {v : ℕ} → v ≡ page_of a
        → handled_found up (faulting m (marked_in bs)) root v code ≡ fault_found up (faulting m (marked_in bs)) root a code
    unfolding fault_found
    fault_finds_lem k e = rw (h, (both_true (marked_fit bs) (sound_marked (marked_in bs)) k).1, e)
