use Rattle.std.proofs.Common.{◌≡◌, ◌/◌, true, arith, ap, sym, ◌∙◌, subst}
use Rattle.std.proofs.lemmas.List.{length-set}
use Rattle.cpm_memory.specs.Contents.{touched_of, after_set}
use Rattle.cpm_memory.specs.Frames.{IsAlone, ChangesTable, MovesAtMost, memory_of, frame_of_page}
use Rattle.cpm_memory.specs.Memories.{surroundings_at-kept}
use Rattle.cpm_memory.specs.Sets.{IsAfterSets-one, IsStored-one}
use Rattle.cpm_memory.specs.Kept.{with_stamp}
use Rattle.cpm_memory.proofs.Accesses.{IsRaised, IsRaised-from, ChangesTable-raised, taken-kept, limit-kept, placed-after, alone-marked, IsAlone-raised}
use Rattle.cpm_memory.proofs.view.View.set_first.Goals as goal
use Rattle.cpm_memory.proofs.view.View.set_first.Goals.{After-place_at}

raised : (c : After-place_at) → c.raise_stamp.new.self ≡ with_stamp c.set_byte.new.self c.args.self.now.table (c.args.address / 256)
raised c = c.raise_stamp.ensures.raised ∙ ap (λ t. with_stamp c.set_byte.new.self t (c.args.address / 256)) c.index-table.ensures.index

stamped : (c : After-place_at) → IsRaised c.args.self.now.store.now c.raise_stamp.new.self c.args.self.now.table (c.args.address / 256)
stamped c = let v = c.args.self.now in IsRaised-from v.store.now c.set_byte.new.self c.raise_stamp.new.self v.table (c.args.address / 256) v.sound v.within c.set_byte.ensures.stamps (raised c)

stored : (c : After-place_at) → ChangesTable c.args.self.now.store.now c.set_byte.new.self c.args.self.now.table
stored c = subst (λ t. ChangesTable c.args.self.now.store.now c.set_byte.new.self t) c.index-table.ensures.index c.set_byte.ensures.others

changes : (c : After-place_at) → ChangesTable c.args.self.now.store.now c.raise_stamp.new.self c.args.self.now.table
changes c = let v = c.args.self.now in ChangesTable-raised v.store.now c.set_byte.new.self c.raise_stamp.new.self v.table v.table (c.args.address / 256) (stored c) (raised c)

moved : (c : After-place_at) → MovesAtMost c.args.self.now.store.now c.set_byte.new.self c.args.self.now.table (c.args.address / 256)
moved c = subst (λ t. MovesAtMost c.args.self.now.store.now c.set_byte.new.self t (c.args.address / 256)) c.index-table.ensures.index c.set_byte.ensures.moves

moves : (c : After-place_at) → MovesAtMost c.args.self.now.store.now c.raise_stamp.new.self c.args.self.now.table (c.args.address / 256)
moves c = subst (λ x. MovesAtMost c.args.self.now.store.now x c.args.self.now.table (c.args.address / 256)) (sym (raised c)) (moved c)

put : (c : After-place_at) → memory_of c.set_byte.new.self c.args.self.now.table ≡ after_set (memory_of c.args.self.now.store.now c.args.self.now.table) c.args.address c.args.value
put c = subst (λ t. memory_of c.set_byte.new.self t ≡ after_set (memory_of c.args.self.now.store.now t) c.args.address c.args.value) c.index-table.ensures.index c.set_byte.ensures.memory

memory : (c : After-place_at) → memory_of c.raise_stamp.new.self c.args.self.now.table ≡ after_set (memory_of c.args.self.now.store.now c.args.self.now.table) c.args.address c.args.value
memory c = ap (λ x. memory_of x c.args.self.now.table) (raised c) ∙ put c

pub returns-clause-contents : goal.returns-clause-contents
returns-clause-contents c = memory (goal.at.returns-clause-contents c).After-place_at

pub returns-clause-stamps : goal.returns-clause-stamps
returns-clause-stamps c = (stamped (goal.at.returns-clause-stamps c).After-place_at).stamps

pub returns-clause-moves : goal.returns-clause-moves
returns-clause-moves c = moves (goal.at.returns-clause-moves c).After-place_at

pub returns-clause-leads : goal.returns-clause-leads
returns-clause-leads c =
    let o = (goal.at.returns-clause-leads c).After-place_at in
    let v = c.args.self.now in
    record {
      stores = IsAfterSets-one _ _ _ _ c.args.address c.args.value (memory o) (surroundings_at-kept v.store.ghost_name v.store.now c.raise_stamp.new.self v.table (changes o));
      stamps = IsStored-one _ _ _ _ c.args.address c.args.value (memory o) (stamped o).stamps;
      places = λ t page ne. moves o t page (λ e _. ne e);
      other_stamps = (stamped o).others;
    }

here : (c : After-place_at) → IsAlone c.raise_stamp.new.self c.args.self.now.table (c.args.address / 256)
here c =
    let v = c.args.self.now in
    IsAlone-raised c.set_byte.new.self c.raise_stamp.new.self v.table (c.args.address / 256) v.table (c.args.address / 256)
    (subst (λ t. IsAlone c.set_byte.new.self t (c.args.address / 256)) c.index-table.ensures.index c.set_byte.ensures.alone) (raised c)

pub invariant_of-self-clause-taken : goal.invariant_of-self-clause-taken
invariant_of-self-clause-taken c =
    let o = (goal.at.invariant_of-self-clause-taken c).After-place_at in
    let v = c.args.self.now in
    taken-kept v.store.now c.raise_stamp.new.self v.table (changes o) v.taken

pub invariant_of-self-clause-pages : goal.invariant_of-self-clause-pages
invariant_of-self-clause-pages c = let v = c.args.self.now in length-set v.places (c.args.address / 256) c.place_at.result ∙ v.pages

pub invariant_of-self-clause-marks : goal.invariant_of-self-clause-marks
invariant_of-self-clause-marks c = let v = c.args.self.now in length-set v.owned (c.args.address / 256) true ∙ v.marks

pub invariant_of-self-clause-placed : goal.invariant_of-self-clause-placed
invariant_of-self-clause-placed c =
    let o = (goal.at.invariant_of-self-clause-placed c).After-place_at in
    let v = c.args.self.now in
    placed-after v.store.now c.raise_stamp.new.self v.table (c.args.address / 256) c.place_at.result v.places v.pages (omega arith) v.placed (moves o)
    (c.place_at.ensures.place ∙ ap (λ t. frame_of_page c.raise_stamp.new.self t (c.args.address / 256)) c.index-table.ensures.index)

pub invariant_of-self-clause-alone : goal.invariant_of-self-clause-alone
invariant_of-self-clause-alone c =
    let o = (goal.at.invariant_of-self-clause-alone c).After-place_at in
    let v = c.args.self.now in
    alone-marked v.store.now c.raise_stamp.new.self v.table (c.args.address / 256) v.owned v.marks (omega arith) (moves o) (changes o).private (here o) v.alone

pub invariant_of-self-clause-counted : goal.invariant_of-self-clause-counted
invariant_of-self-clause-counted c = c.touched-self.ensures ∙ ap (λ t. touched_of (memory_of c.raise_stamp.new.self t)) c.index-table.ensures.index

pub invariant_of-self-clause-limited : goal.invariant_of-self-clause-limited
invariant_of-self-clause-limited c =
    let o = (goal.at.invariant_of-self-clause-limited c).After-place_at in
    let v = c.args.self.now in
    limit-kept v.store.now c.raise_stamp.new.self v.table v.limit (changes o) v.limited
