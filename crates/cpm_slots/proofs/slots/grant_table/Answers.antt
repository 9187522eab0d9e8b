use Rattle.std.proofs.Common.{◌≡◌, ◌≢◌, ℕ, List, [], get_or, arith, subst, refl, ap, sym, ◌∙◌, false, Option, None, Some, is_some}
use Rattle.std.proofs.lemmas.Grind.{common_steps}
use Rattle.std.proofs.lemmas.Bool.{false≢true}
use Rattle.cpm_geom.specs.Disk.{Disk}
use Rattle.cpm_memory.specs.Flat.{flat_contents, flat_stamps}
use Rattle.cpm_memory.specs.Frames.{Frames, memories, memory_of, stamps_at}
use Rattle.cpm_memory.specs.View as view
use Rattle.cpm_decode.specs.Cache.{IsRightFor}
use Rattle.cpm_machine.specs.MachineState.{MachineState}
use Rattle.cpm_machine.specs.Serve.{executed}
use Rattle.cpm_machine.specs.Runner.{state_of, IsRunnerSound}
use Rattle.cpm_slots.specs.Serving.{executed_to}
use Rattle.cpm_slots.specs.Slots.{contents_at}
use Rattle.cpm_slots.proofs.ViewLaws.{IsLoan, Leaves, lent-view, leaves, leaves-copied, changes, contents-of, right-lent, right-left, right-copied, right-put, stored-copied, keeps-stamps}
use Rattle.cpm_slots.proofs.slots.grant_table.Goals as goal
use Rattle.cpm_slots.proofs.slots.grant_table.Goals.{After-grant_to, After-put_back}

-- what is lent to the grant, and what is left
lent : (c : After-grant_to) → IsLoan c.args.store.now (view.store_of c.view-view.result) (view.store_of c.grant_to.new.memory) c.args.table (view.view_table c.view-view.result) (view.view_table c.grant_to.new.memory)
lent c = lent-view c.view-view.result c.grant_to.new.memory c.args.store.now c.args.table c.view-view.ensures.store c.view-view.ensures.table c.view-view.ensures.memory c.grant_to.ensures.leads.stores.surroundings

lent_leaves : (c : After-grant_to) → Leaves c.args.store.now (view.store_of c.grant_to.new.memory) c.args.table (memory_of (view.store_of c.view-view.result) (view.view_table c.view-view.result)) (memory_of (view.store_of c.grant_to.new.memory) (view.view_table c.grant_to.new.memory))
lent_leaves c = leaves c.args.store.now (view.store_of c.view-view.result) (view.store_of c.grant_to.new.memory) c.args.table (view.view_table c.view-view.result) (view.view_table c.grant_to.new.memory) (lent c)

pub grant_to-requires-clause-right : goal.grant_to-requires-clause-right
grant_to-requires-clause-right c = right-lent c.args.store.now (view.store_of c.view-view.result) c.args.table (view.view_table c.view-view.result) c.args.runner.now.cache c.view-view.ensures.store c.view-view.ensures.table c.view-view.ensures.memory c.requires.right

pub returns-then-is_some-clause-state : goal.returns-then-is_some-clause-state
returns-then-is_some-clause-state c =
    let k = lent_leaves (goal.at.returns-then-is_some-clause-state c).After-grant_to in
    let old = k.old in
    let now = k.now in
    let state = c.grant_to.ensures.state in
    grind (arith, common_steps)

pub returns-then-is_some-clause-others : goal.returns-then-is_some-clause-others
returns-then-is_some-clause-others c =
    let k = lent_leaves (goal.at.returns-then-is_some-clause-others c).After-grant_to in
    let now = k.now in
    let all = k.memories in
    record { memories = grind (arith, common_steps) }

pub returns-then-is_some-clause-sound : goal.returns-then-is_some-clause-sound
returns-then-is_some-clause-sound c =
    let now = (lent_leaves (goal.at.returns-then-is_some-clause-sound c).After-grant_to).now in
    subst (λ m. IsRunnerSound (state_of c.grant_to.new.runner m)) (grind (arith, common_steps)) c.grant_to.ensures.sound

pub returns-then-is_some-clause-right : goal.returns-then-is_some-clause-right
returns-then-is_some-clause-right c =
    subst (λ (s : Frames). IsRightFor (contents_at (memories s) c.args.table) (stamps_at s c.args.table) c.grant_to.new.runner.cache) (grind (arith, common_steps))
    (right-left c.args.store.now (view.store_of c.view-view.result) (view.store_of c.grant_to.new.memory) c.args.table (view.view_table c.view-view.result) (view.view_table c.grant_to.new.memory) c.grant_to.new.runner.cache (lent (goal.at.returns-then-is_some-clause-right c).After-grant_to) c.grant_to.ensures.right)

pub returns-then-is_some-clause-stamps : goal.returns-then-is_some-clause-stamps
returns-then-is_some-clause-stamps c =
    subst (λ (stamps : List (List ℕ)). (t : ℕ) → t ≢ c.args.table → get_or stamps t [] ≡ stamps_at c.args.store.now t) (grind (arith, common_steps))
    (keeps-stamps c.args.store.now (view.store_of c.view-view.result) (view.store_of c.grant_to.new.memory) c.args.table (view.view_table c.view-view.result) c.view-view.ensures.store c.view-view.ensures.table c.grant_to.ensures.leads.other_stamps)

-- what is lent to the grant as a copy, and what is put back
copied_leaves : (c : After-put_back) → Leaves c.args.store.now c.put_back.new.self c.args.table (flat_contents c.reflect.new.self) (flat_contents c.grant-granted.new.memory)
copied_leaves c =
    leaves-copied c.args.store.now c.put_back.new.self c.args.table (flat_contents c.reflect.new.self) (flat_contents c.grant-granted.new.memory)
    c.requires.taken c.reflect.ensures.contents c.put_back.ensures.memories c.put_back.ensures.frames

pub grant-granted-requires-clause-sound : goal.grant-granted-requires-clause-sound
grant-granted-requires-clause-sound c =
    subst (λ m. IsRunnerSound (state_of c.args.runner.now m)) (contents-of c.args.store.now c.args.table c.requires.taken ∙ sym c.reflect.ensures.contents) c.requires.sound

pub grant-granted-requires-clause-right : goal.grant-granted-requires-clause-right
grant-granted-requires-clause-right c =
    right-copied c.args.store.now c.args.table (flat_contents c.reflect.new.self) (flat_stamps c.reflect.new.self) c.args.runner.now.cache c.requires.taken c.reflect.ensures.contents c.reflect.ensures.stamps c.requires.right

pub put_back-requires-clause-stored : goal.put_back-requires-clause-stored
put_back-requires-clause-stored c =
    stored-copied c.args.store.now c.args.table (flat_contents c.reflect.new.self) (flat_contents c.grant-granted.new.memory) (flat_stamps c.reflect.new.self) (flat_stamps c.grant-granted.new.memory)
    c.reflect.ensures.contents c.reflect.ensures.stamps c.grant-granted.ensures.leads.stamps

-- without a stop a grant executes what it would execute
without_stop : (system : Disk) (stop : Option ℕ) (steps : ℕ) (s : MachineState) → is_some stop ≡ false → executed_to system stop steps s ≡ executed system steps s
without_stop system None steps s none = refl
without_stop system (Some pc) steps s none = absurd (false≢true (sym none))

pub returns-clause-executed : goal.returns-clause-executed
returns-clause-executed c =
    let old = (copied_leaves (goal.at.returns-clause-executed c).After-put_back).old in
    c.grant-granted.ensures.executed
    ∙ ap (λ m. executed c.args.system.now c.args.steps (state_of c.args.runner.now m)) (sym old)
    ∙ sym (without_stop c.args.system.now c.args.stop c.args.steps (state_of c.args.runner.now (contents_at (memories c.args.store.now) c.args.table)) (sym c.is_some.ensures ∙ c.if-is_some.false))

pub returns-clause-state : goal.returns-clause-state
returns-clause-state c =
    let k = copied_leaves (goal.at.returns-clause-state c).After-put_back in
    let old = k.old in
    let now = k.now in
    let state = c.grant-granted.ensures.state in
    grind (arith, common_steps)

pub returns-clause-others : goal.returns-clause-others
returns-clause-others c = changes c.args.store.now c.put_back.new.self c.args.table _ _ (copied_leaves (goal.at.returns-clause-others c).After-put_back)

pub returns-clause-sound : goal.returns-clause-sound
returns-clause-sound c = subst (λ m. IsRunnerSound (state_of c.grant-granted.new.runner m)) (sym (copied_leaves (goal.at.returns-clause-sound c).After-put_back).now) c.grant-granted.ensures.sound

pub returns-clause-right : goal.returns-clause-right
returns-clause-right c =
    right-put c.args.store.now c.put_back.new.self c.args.table _ (flat_contents c.grant-granted.new.memory) (flat_stamps c.grant-granted.new.memory) c.grant-granted.new.runner.cache (copied_leaves (goal.at.returns-clause-right c).After-put_back) c.put_back.ensures.stamps c.grant-granted.ensures.right

pub returns-clause-stamps : goal.returns-clause-stamps
returns-clause-stamps c = c.put_back.ensures.other_stamps
