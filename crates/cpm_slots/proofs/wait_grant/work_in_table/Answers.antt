use Rattle.std.proofs.Common.{◌≡◌, ◌≢◌, ℕ, List, [], get_or, arith, subst, ap, sym, ◌∙◌}
use Rattle.std.proofs.lemmas.Grind.{common_steps}
use Rattle.cpm_memory.specs.Flat.{flat_contents, flat_stamps}
use Rattle.cpm_memory.specs.Frames.{Frames, memories, memory_of, stamps_at}
use Rattle.cpm_memory.specs.View as view
use Rattle.cpm_decode.specs.Cache.{IsRightFor}
use Rattle.cpm_machine.specs.ToWait.{executed_to_wait}
use Rattle.cpm_machine.specs.Runner.{state_of, IsRunnerSound}
use Rattle.cpm_slots.specs.Slots.{contents_at}
use Rattle.cpm_slots.proofs.ViewLaws.{IsLoan, Leaves, lent-view, leaves, leaves-copied, changes, contents-of, right-lent, right-left, right-copied, right-put, stored-copied, keeps-stamps}
use Rattle.cpm_slots.proofs.wait_grant.work_in_table.Goals as goal
use Rattle.cpm_slots.proofs.wait_grant.work_in_table.Goals.{After-grant_to_wait, After-put_back}

-- what is lent to the grant, and what is left
lent : (c : After-grant_to_wait) → IsLoan c.args.store.now (view.store_of c.view-view.result) (view.store_of c.grant_to_wait.new.memory) c.args.table (view.view_table c.view-view.result) (view.view_table c.grant_to_wait.new.memory)
lent c = lent-view c.view-view.result c.grant_to_wait.new.memory c.args.store.now c.args.table c.view-view.ensures.store c.view-view.ensures.table c.view-view.ensures.memory c.grant_to_wait.ensures.leads.stores.surroundings

lent_leaves : (c : After-grant_to_wait) → Leaves c.args.store.now (view.store_of c.grant_to_wait.new.memory) c.args.table (memory_of (view.store_of c.view-view.result) (view.view_table c.view-view.result)) (memory_of (view.store_of c.grant_to_wait.new.memory) (view.view_table c.grant_to_wait.new.memory))
lent_leaves c = leaves c.args.store.now (view.store_of c.view-view.result) (view.store_of c.grant_to_wait.new.memory) c.args.table (view.view_table c.view-view.result) (view.view_table c.grant_to_wait.new.memory) (lent c)

pub grant_to_wait-requires-clause-right : goal.grant_to_wait-requires-clause-right
grant_to_wait-requires-clause-right c = right-lent c.args.store.now (view.store_of c.view-view.result) c.args.table (view.view_table c.view-view.result) c.args.runner.now.cache c.view-view.ensures.store c.view-view.ensures.table c.view-view.ensures.memory c.requires.right

pub returns-then-steps-lt-LEAST_COPIED-clause-state : goal.returns-then-steps-lt-LEAST_COPIED-clause-state
returns-then-steps-lt-LEAST_COPIED-clause-state c =
    let k = lent_leaves (goal.at.returns-then-steps-lt-LEAST_COPIED-clause-state c).After-grant_to_wait in
    let old = k.old in
    let now = k.now in
    let state = c.grant_to_wait.ensures.state in
    grind (arith, common_steps)

pub returns-then-steps-lt-LEAST_COPIED-clause-others : goal.returns-then-steps-lt-LEAST_COPIED-clause-others
returns-then-steps-lt-LEAST_COPIED-clause-others c =
    let k = lent_leaves (goal.at.returns-then-steps-lt-LEAST_COPIED-clause-others c).After-grant_to_wait in
    let now = k.now in
    let all = k.memories in
    record { memories = grind (arith, common_steps) }

pub returns-then-steps-lt-LEAST_COPIED-clause-sound : goal.returns-then-steps-lt-LEAST_COPIED-clause-sound
returns-then-steps-lt-LEAST_COPIED-clause-sound c =
    let now = (lent_leaves (goal.at.returns-then-steps-lt-LEAST_COPIED-clause-sound c).After-grant_to_wait).now in
    subst (λ m. IsRunnerSound (state_of c.grant_to_wait.new.runner m)) (grind (arith, common_steps)) c.grant_to_wait.ensures.sound

pub returns-then-steps-lt-LEAST_COPIED-clause-right : goal.returns-then-steps-lt-LEAST_COPIED-clause-right
returns-then-steps-lt-LEAST_COPIED-clause-right c =
    subst (λ (s : Frames). IsRightFor (contents_at (memories s) c.args.table) (stamps_at s c.args.table) c.grant_to_wait.new.runner.cache) (grind (arith, common_steps))
    (right-left c.args.store.now (view.store_of c.view-view.result) (view.store_of c.grant_to_wait.new.memory) c.args.table (view.view_table c.view-view.result) (view.view_table c.grant_to_wait.new.memory) c.grant_to_wait.new.runner.cache (lent (goal.at.returns-then-steps-lt-LEAST_COPIED-clause-right c).After-grant_to_wait) c.grant_to_wait.ensures.right)

pub returns-then-steps-lt-LEAST_COPIED-clause-stamps : goal.returns-then-steps-lt-LEAST_COPIED-clause-stamps
returns-then-steps-lt-LEAST_COPIED-clause-stamps c =
    subst (λ (stamps : List (List ℕ)). (t : ℕ) → t ≢ c.args.table → get_or stamps t [] ≡ stamps_at c.args.store.now t) (grind (arith, common_steps))
    (keeps-stamps c.args.store.now (view.store_of c.view-view.result) (view.store_of c.grant_to_wait.new.memory) c.args.table (view.view_table c.view-view.result) c.view-view.ensures.store c.view-view.ensures.table c.grant_to_wait.ensures.leads.other_stamps)

-- what is lent to the grant as a copy, and what is put back
copied_leaves : (c : After-put_back) → Leaves c.args.store.now c.put_back.new.self c.args.table (flat_contents c.reflect.new.self) (flat_contents c.grant_to_wait-executed.new.memory)
copied_leaves c =
    leaves-copied c.args.store.now c.put_back.new.self c.args.table (flat_contents c.reflect.new.self) (flat_contents c.grant_to_wait-executed.new.memory)
    c.requires.taken c.reflect.ensures.contents c.put_back.ensures.memories c.put_back.ensures.frames

pub grant_to_wait-executed-requires-clause-sound : goal.grant_to_wait-executed-requires-clause-sound
grant_to_wait-executed-requires-clause-sound c =
    subst (λ m. IsRunnerSound (state_of c.args.runner.now m)) (contents-of c.args.store.now c.args.table c.requires.taken ∙ sym c.reflect.ensures.contents) c.requires.sound

pub grant_to_wait-executed-requires-clause-right : goal.grant_to_wait-executed-requires-clause-right
grant_to_wait-executed-requires-clause-right c =
    right-copied c.args.store.now c.args.table (flat_contents c.reflect.new.self) (flat_stamps c.reflect.new.self) c.args.runner.now.cache c.requires.taken c.reflect.ensures.contents c.reflect.ensures.stamps c.requires.right

pub put_back-requires-clause-stored : goal.put_back-requires-clause-stored
put_back-requires-clause-stored c =
    stored-copied c.args.store.now c.args.table (flat_contents c.reflect.new.self) (flat_contents c.grant_to_wait-executed.new.memory) (flat_stamps c.reflect.new.self) (flat_stamps c.grant_to_wait-executed.new.memory)
    c.reflect.ensures.contents c.reflect.ensures.stamps c.grant_to_wait-executed.ensures.leads.stamps

pub returns-clause-executed : goal.returns-clause-executed
returns-clause-executed c =
    let old = (copied_leaves (goal.at.returns-clause-executed c).After-put_back).old in
    c.grant_to_wait-executed.ensures.executed
    ∙ ap (λ m. executed_to_wait c.args.system.now c.args.steps (state_of c.args.runner.now m)) (sym old)

pub returns-clause-state : goal.returns-clause-state
returns-clause-state c =
    let k = copied_leaves (goal.at.returns-clause-state c).After-put_back in
    let old = k.old in
    let now = k.now in
    let state = c.grant_to_wait-executed.ensures.state in
    grind (arith, common_steps)

pub returns-clause-others : goal.returns-clause-others
returns-clause-others c = changes c.args.store.now c.put_back.new.self c.args.table _ _ (copied_leaves (goal.at.returns-clause-others c).After-put_back)

pub returns-clause-sound : goal.returns-clause-sound
returns-clause-sound c = subst (λ m. IsRunnerSound (state_of c.grant_to_wait-executed.new.runner m)) (sym (copied_leaves (goal.at.returns-clause-sound c).After-put_back).now) c.grant_to_wait-executed.ensures.sound

pub returns-clause-right : goal.returns-clause-right
returns-clause-right c =
    right-put c.args.store.now c.put_back.new.self c.args.table _ (flat_contents c.grant_to_wait-executed.new.memory) (flat_stamps c.grant_to_wait-executed.new.memory) c.grant_to_wait-executed.new.runner.cache (copied_leaves (goal.at.returns-clause-right c).After-put_back) c.put_back.ensures.stamps c.grant_to_wait-executed.ensures.right

pub returns-clause-stamps : goal.returns-clause-stamps
returns-clause-stamps c = c.put_back.ensures.other_stamps
