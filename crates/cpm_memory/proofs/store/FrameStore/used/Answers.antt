use Rattle.std.proofs.Common.{◌≡◌, ◌≤◌, ◌+◌, arith, ap, ◌∙◌, subst, count_by, ltb, length}
use Rattle.std.proofs.lemmas.List.Sums.{count_by-le-length}
use Rattle.cpm_memory.specs.Tabulated.{length-tabulated}
use Rattle.cpm_memory.specs.Frames.{Frames, used_of, owners_of, memories}
use Rattle.cpm_memory.specs.Reserved.{touched_in, unused_in}
use Rattle.cpm_memory.proofs.Owners.{used_of-le}
use Rattle.cpm_memory.proofs.Totals.{touched_in-tables, unused_in-tables}
use Rattle.cpm_memory.proofs.store.FrameStore.used.Goals as goal
use Rattle.cpm_memory.proofs.store.FrameStore.used.Goals.{After-count_owned}

abbrev before : After-count_owned → Frames
before c = let i = c.self.inside in record { private = i.private; frames = i.frames.items; tables = i.tables.items; stamps = i.stamps.items }

counted : (c : After-count_owned) → c.count_owned.result ≡ used_of (before c)
counted c = c.count_owned.ensures ∙ ap (count_by (ltb 0)) c.deref.ensures.value ∙ ap (count_by (ltb 0)) c.self.invariant.owners

most : (c : After-count_owned) → c.count_owned.result ≤ touched_in (memories (before c))
most c = omega (arith, counted c, touched_in-tables (before c) c.self.invariant.sound, used_of-le (before c) c.self.inside.owners.items c.self.inside.reserved c.self.invariant)

free : (c : After-count_owned) → c.count_owned.result + unused_in (memories (before c)) ≤ (before c).private
free c =
    omega (arith, counted c, unused_in-tables (before c) c.self.invariant.sound, c.self.invariant.sound.reserved, used_of-le (before c) c.self.inside.owners.items c.self.inside.reserved c.self.invariant)

pub returns-clause-used : goal.returns-clause-used
returns-clause-used c = counted c ∙ ap used_of c.self.view_is

pub returns-clause-most : goal.returns-clause-most
returns-clause-most c = subst (λ (x : Frames). c.count_owned.result ≤ touched_in (memories x)) c.self.view_is (most c)

pub returns-clause-free : goal.returns-clause-free
returns-clause-free c = subst (λ (x : Frames). c.count_owned.result + unused_in (memories x) ≤ x.private) c.self.view_is (free c)

pub overflow_cast-result : goal.overflow_cast-result
overflow_cast-result c =
    omega (arith, c.count_owned.ensures, count_by-le-length (ltb 0) c.deref.result.now, ap length c.deref.ensures.value, ap length c.self.invariant.owners, length-tabulated c.self.inside.private (owners_of (before c)), c.self.invariant.sound.bound)
