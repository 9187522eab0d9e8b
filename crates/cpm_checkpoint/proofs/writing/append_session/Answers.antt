use Rattle.std.proofs.Common.{◌∙◌, ◌++◌, List, ℕ, ap}
use Rattle.cpm_checkpoint.specs.CheckpointBytes.{long, run}
use Rattle.cpm_checkpoint.proofs.Appending.{five_appended}
use Rattle.cpm_checkpoint.proofs.writing.append_session.Goals as goal

pub returns-clause-appended : goal.returns-clause-appended
returns-clause-appended c =
    let s = c.args.session.now in
    let first = c.append_long.new.out.items in
    let second = c.append_long-2.new.out.items in
    let third = c.append_run.new.out.items in
    let fourth = c.append_run-2.new.out.items in
    five_appended (long s.pressed) (long s.done) (run s.console.items) (run s.list.items) (run s.saving.items)
    c.args.out.now.items first second third fourth c.append_run-3.new.out.items
    c.in_ok-append_long.ensures.appended c.in_ok-append_long-2.ensures.appended
    (c.in_ok-append_run.ensures.appended ∙ ap (λ (x : List ℕ). second ++ run x) c.deref.ensures.value)
    (c.in_ok-append_run-2.ensures.appended ∙ ap (λ (x : List ℕ). third ++ run x) c.deref-2.ensures.value)
    (c.in_ok-append_run-3.ensures.appended ∙ ap (λ (x : List ℕ). fourth ++ run x) c.deref-3.ensures.value)
