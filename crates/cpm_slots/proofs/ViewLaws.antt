-- What is left of a store when a view of a table ends, and when a copy of a table's memory is put back.
use Rattle.std.proofs.Common.{◌≡◌, ℕ, ◌<◌, List, subst, None, Some, is_some, unwrap_or, get_or, set, sym, ap, ◌∙◌}
use Rattle.std.specs.Borrow.{GName}
use Rattle.cpm_memory.specs.Contents.{Contents, Surroundings}
use Rattle.cpm_memory.specs.Frames.{Frames, HasReservation, IsTableTaken, KeepsStamps, memories, memory_at, memory_of, stamps_at}
use Rattle.cpm_memory.specs.Memories.{memories-after, memory-reserved, surroundings_at, HasReservation-taken}
use Rattle.cpm_memory.specs.Tabulated.{length-tabulated}
use Rattle.cpm_memory.specs.Opening.{opening}
use Rattle.cpm_memory.specs.View as view
use Rattle.cpm_memory.specs.declared.view.View.{View}
use Rattle.cpm_memory.specs.Stamps.{IsStored}
use Rattle.cpm_decode.specs.Cache.{IsRightFor}
use Rattle.cpm_decode.specs.declared.cache.DecodeCache.{DecodeCache}
use Rattle.cpm_slots.specs.Slots.{contents_at, ChangesAt}
use Rattle.cpm_slots.proofs.TableLaws.{taken-within, contents-set}

-- A table of a store was lent, and this is what both are when the loan ends.
pub record IsLoan (store s s' : Frames) (table t t' : ℕ) : Type 0 where
  pub whole : s ≡ store
  pub number : t ≡ table
  pub memory : get_or (memories store) table None ≡ Some (memory_of s t)
  pub same : t' ≡ t
  pub left : memories s' ≡ set (memories s) t (Some (memory_of s' t'))
  pub frames : s'.private ≡ s.private

-- what a table's store is, where the surroundings of the table stayed
memories-left : (loan loan' : GName) (s s' : Frames) (t t' : ℕ) → HasReservation s' t' → t' < 64 → surroundings_at loan' s' t' ≡ surroundings_at loan s t → memories s' ≡ set (memories s) t (Some (memory_of s' t'))
memories-left loan loan' s s' t t' taken within e =
    let same : t' ≡ t = ap (λ (x : Surroundings). x.table) e in
    memories-after loan' s s' t' taken within
    (ap (λ (x : Surroundings). record { loan = Some loan'; table = t'; frames = x.frames; others = x.others }) e ∙ ap (λ n. record { loan = Some loan'; table = t'; frames = s.private; others = set (memories s) n None }) (sym same))
    ∙ ap (λ n. set (memories s) n (Some (memory_of s' t'))) same

pub lent-view : (v w : View) (store : Frames) (table : ℕ) → view.store_of v ≡ store → view.view_table v ≡ table → get_or (memories store) table None ≡ Some (view.contents_of v) → view.surroundings_of w ≡ view.surroundings_of v →
    IsLoan store (view.store_of v) (view.store_of w) table (view.view_table v) (view.view_table w)
lent-view v w store table e f g around = record {
  whole = e;
  number = f;
  memory = g;
  same = ap (λ (x : Surroundings). x.table) around;
  left = memories-left v.store.ghost_name w.store.ghost_name v.store.now w.store.now v.table w.table w.taken w.within around;
  frames = ap (λ (x : Surroundings). x.frames) around;
}

-- the memory of a table that is taken
pub contents-of : (s : Frames) (t : ℕ) → IsTableTaken s t → contents_at (memories s) t ≡ memory_of s t
contents-of s t taken =
    let lt : t < 64 = subst (λ n. t < n) (length-tabulated 64 (memory_at s)) (taken-within (memories s) t taken) in
    ap (λ o. unwrap_or o (opening 0)) (memory-reserved s t lt (HasReservation-taken s t lt taken))

-- what was lent, and what is left
pub record Leaves (store new : Frames) (table : ℕ) (lent left : Contents) : Type 0 where
  pub old : contents_at (memories store) table ≡ lent
  pub now : contents_at (memories new) table ≡ left
  pub memories : memories new ≡ set (memories store) table (Some left)
  pub frames : new.private ≡ store.private

pub leaves : (store s s' : Frames) (table t t' : ℕ) → IsLoan store s s' table t t' → Leaves store s' table (memory_of s t) (memory_of s' t')
leaves store s s' table t t' h =
    let all : memories s' ≡ set (memories store) table (Some (memory_of s' t')) = h.left ∙ ap (λ x. set (memories x) t (Some (memory_of s' t'))) h.whole ∙ ap (λ n. set (memories store) n (Some (memory_of s' t'))) h.number in
    record {
      old = ap (λ o. unwrap_or o (opening 0)) h.memory;
      now = ap (λ m. contents_at m table) all ∙ contents-set (memories store) table (memory_of s' t') (ap is_some h.memory);
      memories = all;
      frames = h.frames ∙ ap (λ (x : Frames). x.private) h.whole;
    }

-- the same, where a copy was worked on and put back
pub leaves-copied : (store new : Frames) (table : ℕ) (lent left : Contents) → IsTableTaken store table → lent ≡ memory_of store table → memories new ≡ set (memories store) table (Some left) → new.private ≡ store.private → Leaves store new table lent left
leaves-copied store new table lent left taken e all frames = record {
  old = contents-of store table taken ∙ sym e;
  now = ap (λ m. contents_at m table) all ∙ contents-set (memories store) table left taken;
  memories = all;
  frames = frames;
}

pub changes : (store new : Frames) (table : ℕ) (lent left : Contents) → Leaves store new table lent left → ChangesAt table (memories store) (memories new)
changes store new table lent left k = record { memories = k.memories ∙ ap (λ c. set (memories store) table (Some c)) (sym k.now) }

-- a cache that is right for the memory of a table is right for what is lent of it
pub right-lent : (store s : Frames) (table t : ℕ) (cache : DecodeCache) → s ≡ store → t ≡ table → get_or (memories store) table None ≡ Some (memory_of s t) →
    IsRightFor (contents_at (memories store) table) (stamps_at store table) cache → IsRightFor (memory_of s t) (stamps_at s t) cache
right-lent store s table t cache e f g right =
    let stamps : stamps_at store table ≡ stamps_at s t = ap (λ x. stamps_at x table) (sym e) ∙ ap (stamps_at s) (sym f) in
    subst (λ c. IsRightFor c (stamps_at s t) cache) (ap (λ o. unwrap_or o (opening 0)) g)
    (subst (λ x. IsRightFor (contents_at (memories store) table) x cache) stamps right)

-- and back, when the loan ends
pub right-left : (store s s' : Frames) (table t t' : ℕ) (cache : DecodeCache) → IsLoan store s s' table t t' → IsRightFor (memory_of s' t') (stamps_at s' t') cache → IsRightFor (contents_at (memories s') table) (stamps_at s' table) cache
right-left store s s' table t t' cache h right =
    subst (λ c. IsRightFor c (stamps_at s' table) cache) (sym (leaves store s s' table t t' h).now)
    (subst (λ n. IsRightFor (memory_of s' t') (stamps_at s' n) cache) (h.same ∙ h.number) right)

-- the stamps of the other tables are as they were
pub keeps-stamps : (store s s' : Frames) (table t : ℕ) → s ≡ store → t ≡ table → KeepsStamps s s' t → KeepsStamps store s' table
keeps-stamps store s s' table t e f kept = subst (λ x. KeepsStamps x s' table) e (subst (KeepsStamps s s') f kept)

-- a cache that is right for the memory of a table is right for its copy
pub right-copied : (store : Frames) (table : ℕ) (lent : Contents) (stamps : List ℕ) (cache : DecodeCache) → IsTableTaken store table → lent ≡ memory_of store table → stamps ≡ stamps_at store table →
    IsRightFor (contents_at (memories store) table) (stamps_at store table) cache → IsRightFor lent stamps cache
right-copied store table lent stamps cache taken e q right =
    subst (λ c. IsRightFor c stamps cache) (contents-of store table taken ∙ sym e)
    (subst (λ x. IsRightFor (contents_at (memories store) table) x cache) (sym q) right)

-- and back, when the copy was put back
pub right-put : (store new : Frames) (table : ℕ) (lent left : Contents) (stamps : List ℕ) (cache : DecodeCache) → Leaves store new table lent left → stamps_at new table ≡ stamps → IsRightFor left stamps cache → IsRightFor (contents_at (memories new) table) (stamps_at new table) cache
right-put store new table lent left stamps cache h e right =
    subst (λ c. IsRightFor c (stamps_at new table) cache) (sym h.now) (subst (λ x. IsRightFor left x cache) (sym e) right)

-- what the stores to the copy were, are the stores that are put back
pub stored-copied : (store : Frames) (table : ℕ) (lent left : Contents) (before after : List ℕ) → lent ≡ memory_of store table → before ≡ stamps_at store table → IsStored lent before left after → IsStored (memory_of store table) (stamps_at store table) left after
stored-copied store table lent left before after e q h =
    subst (λ c. IsStored c (stamps_at store table) left after) e (subst (λ x. IsStored lent x left after) q h)
