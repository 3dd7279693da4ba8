-- What holds of a board at every point of a list of calls. `Inv` carries what calls turned away with 11 or 13 leave behind, stranded pages and lost frames. `Tidy` is what
-- holds besides while no call was: demand 3's window and its count of page tables rest on it.
use Prim.Native.Nat.{ℕ, ◌%◌}
use mathlib.Core.Path.{◌≡◌, refl, sym, ◌∙◌, ap}
use mathlib.Core.List.Permᴰ
use mathlib.Core.List.{List, [], ◌∷◌, ◌++◌, append_assoc, Permᴰ}
use Rattle.paging.specs.Map.{start_frame}
use Rattle.tree.proofs.Books.{Tabled, perm_member}
use Rattle.slots.proofs.Filled.{filled}
use Rattle.regions.specs.declared.VMRegion.{VMRegion}
use Rattle.regions.specs.Regions.{no_vm_region}
use Rattle.regions.proofs.Tiles.{Apart}
use Rattle.mappings.specs.declared.MappedRegion.{MappedRegion}
use Rattle.mappings.specs.Regions.{no_mapped_region}
use Rattle.board.specs.Board.{Board}
use Rattle.release.specs.Demand3.{Region, pages_of, concat}
use Rattle.release.proofs.Lists.{Once, perm_once, perm_concat}
use Rattle.release.proofs.Regions.{KernelList, UserList}
use Rattle.release.proofs.Paged.{Paged, paged_perm}

-- what calls turned away with 11 or 13 leave behind: pages that stay mapped and belong to no live region, and frames that stay marked and are reached by nothing
pub record Leftover : Type 0 where
  pub stranded : List ℕ
  pub lost : List ℕ

-- none: the case of demand 3
abbrev pub nothing_left : Leftover
nothing_left = record { stranded = []; lost = [] }

-- the pages of live regions, and others
abbrev pub pages_with : List Region → List ℕ → List ℕ
pages_with [] s = s
pages_with (r ∷ l) s = pages_of r ++ pages_with l s

pub with_is : (l : List Region) (s : List ℕ) → pages_with l s ≡ concat pages_of l ++ s
unfolding concat
with_is [] s = refl
with_is (r ∷ l) s = ap (λ (x : List ℕ). pages_of r ++ x) (with_is l s) ∙ sym (append_assoc (pages_of r) (concat pages_of l) s)

-- the board, of up levels above the last: its parts, with the live regions l
pub record Inv (up : ℕ) (left : Leftover) (b : Board) (k : List VMRegion) (u : List MappedRegion) (l : List Region) : Type 0 where
  pub paged : Paged up b.mem b.root (pages_with l left.stranded) left.lost
  pub first : b.root ≡ start_frame b.mem
  pub kernel_is : b.kernel ≡ filled no_vm_region k
  pub kernel_list : KernelList k l
  pub user_is : b.user ≡ filled no_mapped_region u
  pub user_list : UserList u l
  pub next : b.next % 4096 ≡ 0
  pub once : Once l

-- while no call was turned away with 11 or 13: no two free neighbours in the kernel's list (a refused vmalloc leaves its split unmerged), and no tables but those on the ways
-- to pages ever live (a refused run leaves the tables that it made)
pub record Tidy (up : ℕ) (b : Board) (k : List VMRegion) (ever : List ℕ) : Type 0 where
  pub apart : Apart k
  pub tabled : Tabled b.mem b.root up ever

-- the order of the live regions makes no difference
pub inv_perm : {up : ℕ} {b : Board} {k : List VMRegion} {u : List MappedRegion} {l l' : List Region} {left : Leftover} → Permᴰ l l' → Inv up left b k u l → Inv up left b k u l'
inv_perm {l = l} {l' = l'} {left = left} d h = record {
  paged = paged_perm (rw (with_is l left.stranded, with_is l' left.stranded) (Permᴰ.append_right left.stranded (perm_concat pages_of d))) h.paged;
  first = h.first;
  kernel_is = h.kernel_is;
  kernel_list = record {
    rows = h.kernel_list.rows;
    few = h.kernel_list.few;
    used = λ a n e. perm_member d (h.kernel_list.used a n e);
    live = λ a n e. h.kernel_list.live a n (perm_member (Permᴰ.symm d) e);
  };
  user_is = h.user_is;
  user_list = record {
    rising = h.user_list.rising;
    few = h.user_list.few;
    held = λ a n e. perm_member d (h.user_list.held a n e);
    live = λ a n e. h.user_list.live a n (perm_member (Permᴰ.symm d) e);
  };
  next = h.next;
  once = perm_once d h.once;
}
