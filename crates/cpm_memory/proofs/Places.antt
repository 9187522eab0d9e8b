-- Which frame is at which page.
use Rattle.std.proofs.Common.{◌≡◌, ◌≢◌, ℕ, zero, suc, ◌+◌, ◌<◌, ◌≤◌, cond, List, [], ◌∷◌, length, get_or, set, sum_by, arith, ap, ◌∙◌, Option, Some, None, is_some, ◌==◌, ⊎_elim}
use Rattle.std.proofs.lemmas.List.Sums.{sum_by-set, get_or-le-sum_by}
use Rattle.std.proofs.lemmas.Option.{none-some}
use Rattle.std.proofs.lemmas.Bool.{cases_eq}
use Rattle.cpm_memory.proofs.Counting.{two_in_sum, sum_by_lt_at, within_from_some}
use Rattle.cpm_memory.specs.Frames.{Frames, Table, IsStoreSound, blank_table, table_at, private_at, frame_of, boot_of, is_frame, pages_on, owners_of, used_by, reserved_by}
use Rattle.cpm_memory.specs.Opening.{opening_byte}
use Rattle.cpm_memory.specs.Tabulated.{tabulated, same_as_tabulated}
use Rattle.cpm_memory.specs.Kept.{table_with_frame}

-- how the owners of a frame change where one page is made of another frame
pub owners_of-moved : (s : Frames) (t page : ℕ) (new : Option ℕ) (g : ℕ) → t < length s.tables → page < length (table_at s t).places → sum_by (pages_on g) (set s.tables t (table_with_frame (table_at s t) page new)) + cond (is_frame g (private_at s t page)) 1 0 ≡ owners_of s g + cond (is_frame g new) 1 0
owners_of-moved s t page new g lt lp =
    omega (arith, sum_by-set (pages_on g) s.tables t (table_with_frame (table_at s t) page new) blank_table lt, sum_by-set (λ x. cond {A = ℕ} (is_frame g x) 1 0) (table_at s t).places page new None lp)

-- and how many pages have a private frame
pub used_by-moved : (s : Frames) (t page : ℕ) (new : Option ℕ) → page < length (table_at s t).places → used_by (table_with_frame (table_at s t) page new) + cond (is_some (private_at s t page)) 1 0 ≡ used_by (table_at s t) + cond (is_some new) 1 0
used_by-moved s t page new lp = sum_by-set (λ x. cond {A = ℕ} (is_some x) 1 0) (table_at s t).places page new None lp

pub used-moved : (s : Frames) (t page : ℕ) (new : Option ℕ) → t < length s.tables → page < length (table_at s t).places → sum_by used_by (set s.tables t (table_with_frame (table_at s t) page new)) + cond (is_some (private_at s t page)) 1 0 ≡ sum_by used_by s.tables + cond (is_some new) 1 0
used-moved s t page new lt lp =
    omega (arith, sum_by-set used_by s.tables t (table_with_frame (table_at s t) page new) blank_table lt, used_by-moved s t page new lp)

names-self : (f : ℕ) (o : Option ℕ) → o ≡ Some f → cond {A = ℕ} (is_frame f o) 1 0 ≡ 1
names-self f o e = ap (λ x. cond {A = ℕ} (is_frame f x) 1 0) e ∙ same f
  where
    same : (f : ℕ) → cond {A = ℕ} (f == f) 1 0 ≡ 1
    same f = grind arith

-- a page with a private frame is within its table
pub page_within : (s : Frames) (t page f : ℕ) → private_at s t page ≡ Some f → page < length (table_at s t).places
page_within s t page f e = within_from_some (table_at s t).places page f e

-- a table with a private frame is within the store
pub table_within : (s : Frames) (t page f : ℕ) → private_at s t page ≡ Some f → t < length s.tables
table_within s t page f e = within s.tables t e
  where
    within : (ts : List Table) (t : ℕ) → get_or (get_or ts t blank_table).places page None ≡ Some f → t < length ts
    within [] t e = absurd (none-some f e)
    within (y ∷ ts) zero e = omega arith
    within (y ∷ ts) (suc t) e = omega (arith, within ts t e)

-- a frame at a page has an owner
pub pages_on-at : (s : Frames) (t page f : ℕ) → private_at s t page ≡ Some f → 1 ≤ pages_on f (table_at s t)
pages_on-at s t page f e =
    omega (arith, names-self f (private_at s t page) e, get_or-le-sum_by (λ x. cond {A = ℕ} (is_frame f x) 1 0) (table_at s t).places page None (page_within s t page f e))

pub owners_of-at : (s : Frames) (t page f : ℕ) → private_at s t page ≡ Some f → 1 ≤ owners_of s f
owners_of-at s t page f e =
    omega (arith, pages_on-at s t page f e, get_or-le-sum_by (pages_on f) s.tables t blank_table (table_within s t page f e))

-- a frame with one owner is in one table
pub same_table : (s : Frames) (t page t' page' f : ℕ) → owners_of s f ≤ 1 → private_at s t page ≡ Some f → private_at s t' page' ≡ Some f → t ≡ t'
same_table s t page t' page' f one e e' =
    ⊎_elim (λ (q : t ≡ t'). q)
    (λ (q : t ≢ t'). absurd (omega (arith, one, pages_on-at s t page f e, pages_on-at s t' page' f e', two_in_sum (pages_on f) s.tables t t' blank_table (table_within s t page f e) (table_within s t' page' f e') q)))
    (cases_eq t t')

-- and at one page of it
pub same_page : (s : Frames) (t page page' f : ℕ) → owners_of s f ≤ 1 → private_at s t page ≡ Some f → private_at s t page' ≡ Some f → page ≡ page'
same_page s t page page' f one e e' =
    ⊎_elim (λ (q : page ≡ page'). q)
    (λ (q : page ≢ page'). absurd (omega (
      arith,
      one,
      names-self f (private_at s t page) e,
      names-self f (private_at s t page') e',
      two_in_sum (λ x. cond {A = ℕ} (is_frame f x) 1 0) (table_at s t).places page page' None (page_within s t page f e) (page_within s t page' f e') q,
      get_or-le-sum_by (pages_on f) s.tables t blank_table (table_within s t page f e),
    )))
    (cases_eq page page')

-- the frames that the pages use are fewer than the private ones, while a table uses less than it reserved
pub used-lt : (s : Frames) (t : ℕ) → IsStoreSound s → t < 64 → used_by (table_at s t) < reserved_by (table_at s t) → sum_by used_by s.tables < s.private
used-lt s t ok lt less =
    omega (arith, ok.reserved, sum_by_lt_at used_by reserved_by s.tables t blank_table ok.within (omega (arith, ok.tables)) less)

-- a boot frame has the bytes of its pages at opening
pub boot-bytes : (s : Frames) (page : ℕ) → IsStoreSound s → page < 256 → boot_of page < 4 → frame_of s (s.private + boot_of page) ≡ tabulated 256 (opening_byte page)
boot-bytes s page ok lp lb =
    same_as_tabulated 256 (opening_byte page) (frame_of s (s.private + boot_of page)) 0 (ok.sizes (s.private + boot_of page) (omega (arith, lb))) (λ k l. ok.boot page k lp l)
