-- What is done to slots leaves their caches right.
use Rattle.std.proofs.Common.{◌≡◌, ◌≢◌, ℕ, zero, suc, List, [], ◌∷◌, ◌++◌, get_or, set, Option, None, Some, refl, sym, subst}
use Rattle.std.specs.Prelude.{slice_get, remove}
use Rattle.cpm_memory.specs.Contents.{Contents}
use Rattle.cpm_decode.specs.Cache.{IsRightFor}
use Rattle.cpm_decode.specs.declared.cache.DecodeCache.{DecodeCache}
use Rattle.cpm_machine.specs.declared.steps.Runner.{Runner}
use Rattle.cpm_slots.specs.declared.slots.Slot.{Slot}
use Rattle.cpm_slots.specs.Slots.{contents_at, NoneAt, AllSound, IsCached, AllCached, ChangesAt}
use Rattle.cpm_slots.proofs.TableLaws.{have_tables, Others, others-at, contents-other, NoneAt-at, NoneAt-same}
use Rattle.cpm_slots.proofs.OpenSlots.{kept-set, NoneAt-free}
use Rattle.cpm_slots.proofs.CloseSlots.{NoneAt-rest}

-- the stamps of the other tables are the same
abbrev pub Stay : ℕ → List (List ℕ) → List (List ℕ) → Type 0
Stay table before after = (t : ℕ) → t ≢ table → get_or after t [] ≡ get_or before t []

-- the cache of the slot at a place
pub IsCached-at : (m : List (Option Contents)) (stamps : List (List ℕ)) (slots : List Slot) (i : ℕ) (s : Slot) → AllCached m stamps slots → slice_get slots i ≡ Some s → IsCached m stamps s
IsCached-at m stamps [] i s k h = cc
IsCached-at m stamps (x ∷ xs) zero s k h =
    let at : IsCached m stamps x = k.0 in
    let same : x ≡ s = cc in subst (IsCached m stamps) same at
IsCached-at m stamps (x ∷ xs) (suc i) s k h = IsCached-at m stamps xs i s k.1 h

IsCached-kept : (table : ℕ) (old new : List (Option Contents)) (before after : List (List ℕ)) (s : Slot) → Others table old new → Stay table before after → s.table ≢ table → IsCached old before s → IsCached new after s
IsCached-kept table old new before after s same stay ne k =
    subst (λ (c : Contents). IsRightFor c (get_or after s.table []) s.runner.cache) (sym (contents-other table s.table old new same ne))
    (subst (λ (stamps : List ℕ). IsRightFor (contents_at old s.table) stamps s.runner.cache) (sym (stay s.table ne)) k)

AllCached-kept : (table : ℕ) (old new : List (Option Contents)) (before after : List (List ℕ)) (slots : List Slot) → Others table old new → Stay table before after → NoneAt table slots → AllCached old before slots → AllCached new after slots
AllCached-kept table old new before after [] same stay none k = tt
AllCached-kept table old new before after (x ∷ xs) same stay none k =
    (IsCached-kept table old new before after x same stay none.0 k.0, AllCached-kept table old new before after xs same stay none.1 k.1)

-- a session went on in its own memory, and kept its cache
pub AllCached-alone : (m : List (Option Contents)) (stamps : List (List ℕ)) (slots : List Slot) (i : ℕ) (s : Slot) (runner : Runner) → AllCached m stamps slots → slice_get slots i ≡ Some s → runner.cache ≡ s.runner.cache → AllCached m stamps (set slots i (have_tables s runner))
AllCached-alone m stamps [] i s runner k h same = cc
AllCached-alone m stamps (x ∷ xs) zero s runner k h same =
    let now : IsCached m stamps s = IsCached-at m stamps (x ∷ xs) 0 s k h in
    (subst (λ (cache : DecodeCache). IsRightFor (contents_at m s.table) (get_or stamps s.table []) cache) (sym same) now, k.1)
AllCached-alone m stamps (x ∷ xs) (suc i) s runner k h same = (k.0, AllCached-alone m stamps xs i s runner k.1 h same)

AllCached-set : (old new : List (Option Contents)) (before after : List (List ℕ)) (slots : List Slot) (i : ℕ) (s : Slot) (runner : Runner) →
    AllSound old slots → AllCached old before slots → slice_get slots i ≡ Some s → Others s.table old new → Stay s.table before after →
    IsCached new after (have_tables s runner) → AllCached new after (set slots i (have_tables s runner))
AllCached-set old new before after [] i s runner a k h same stay now = cc
AllCached-set old new before after (x ∷ xs) zero s runner a k h same stay now =
    let e : x ≡ s = cc in
    (now, AllCached-kept s.table old new before after xs same stay (NoneAt-same x s xs e a.2) k.1)
AllCached-set old new before after (x ∷ xs) (suc i) s runner a k h same stay now =
    let other = NoneAt-at x.table xs i s a.2 h in
    (IsCached-kept s.table old new before after x same stay (λ e. other (sym e)) k.0, AllCached-set old new before after xs i s runner a.3 k.1 h same stay now)

-- a session went on, and its memory with it
pub AllCached-on : (old new : List (Option Contents)) (before after : List (List ℕ)) (slots : List Slot) (i : ℕ) (s : Slot) (runner : Runner) →
    AllSound old slots → AllCached old before slots → slice_get slots i ≡ Some s → ChangesAt s.table old new → Stay s.table before after →
    IsRightFor (contents_at new s.table) (get_or after s.table []) runner.cache → AllCached new after (set slots i (have_tables s runner))
AllCached-on old new before after slots i s runner a k h change stay now =
    AllCached-set old new before after slots i s runner a k h (others-at s.table old new change) stay now

AllCached-removed : (m : List (Option Contents)) (stamps : List (List ℕ)) (slots : List Slot) (i : ℕ) → AllCached m stamps slots → AllCached m stamps (remove slots i)
AllCached-removed m stamps [] zero k = tt
AllCached-removed m stamps [] (suc i) k = tt
AllCached-removed m stamps (x ∷ xs) zero k = k.1
AllCached-removed m stamps (x ∷ xs) (suc i) k = (k.0, AllCached-removed m stamps xs i k.1)

-- the session at a place was closed, and its table given up
pub AllCached-closed : (old new : List (Option Contents)) (before after : List (List ℕ)) (slots : List Slot) (i : ℕ) (s : Slot) →
    AllSound old slots → AllCached old before slots → slice_get slots i ≡ Some s → new ≡ set old s.table None → after ≡ before → AllCached new after (remove slots i)
AllCached-closed old new before after slots i s a k h is same =
    let less = set old s.table None in
    subst (λ (m : List (Option Contents)). AllCached m after (remove slots i)) (sym is)
    (subst (λ (stamps : List (List ℕ)). AllCached less stamps (remove slots i)) (sym same)
    (AllCached-kept s.table old less before before (remove slots i) (kept-set s.table old None) (λ t ne. refl) (NoneAt-rest old slots i s a h) (AllCached-removed old before slots i k)))

AllCached-added : (m : List (Option Contents)) (stamps : List (List ℕ)) (slots : List Slot) (s : Slot) → AllCached m stamps slots → IsCached m stamps s → AllCached m stamps (slots ++ s ∷ [])
AllCached-added m stamps [] s k now = (now, tt)
AllCached-added m stamps (x ∷ xs) s k now = (k.0, AllCached-added m stamps xs s k.1 now)

-- a slot was added in a table that was free, with a cache that is right for every memory
pub AllCached-more : (old new : List (Option Contents)) (before after : List (List ℕ)) (slots items : List Slot) (s : Slot) (memory : Contents) →
    AllSound old slots → AllCached old before slots → get_or old s.table None ≡ None → new ≡ set old s.table (Some memory) → Stay s.table before after → items ≡ slots ++ s ∷ [] →
    ((c : Contents) (stamps : List ℕ) → IsRightFor c stamps s.runner.cache) → AllCached new after items
AllCached-more old new before after slots items s memory a k free is stay pushed right =
    let more = set old s.table (Some memory) in
    subst (AllCached new after) (sym pushed)
    (AllCached-added new after slots s
    (subst (λ (m : List (Option Contents)). AllCached m after slots) (sym is)
    (AllCached-kept s.table old more before after slots (kept-set s.table old (Some memory)) stay (NoneAt-free old s.table slots free a) k))
    (right (contents_at new s.table) (get_or after s.table [])))
