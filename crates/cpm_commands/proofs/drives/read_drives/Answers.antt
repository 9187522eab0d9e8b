use Rattle.std.proofs.Common.{rules}
use Rattle.std.proofs.lemmas.Result.{err_from_is_err_and}
use Rattle.cpm_commands.specs.Drives.{IsPlaceRead, IsPlaceUnread}
use Rattle.cpm_commands.proofs.DriveLemmas.{read_full, read_more, read_stopped}
use Rattle.cpm_commands.proofs.drives.read_drives.Goals as goal

pub returns-in_err-read_place-clause-refusal : goal.returns-in_err-read_place-clause-refusal
returns-in_err-read_place-clause-refusal g c =
    let p = err_from_is_err_and c.from_residual.result c.from_residual.ensures.1 in
    let l = c.loop-place in
    rw (p.1, p.2) (read_stopped (IsPlaceRead g.F.Store.does) (IsPlaceUnread g.F.Store.does) c.args.places.now l.place-index c.place-item.result c.place-item.is l.drives.items
    c.args.files.now l.files c.read_place.new.files _ c.loop-place-test.true l.invariant c.in_err-read_place.ensures.refusal)

pub returns-in_err-push-clause-refusal : goal.returns-in_err-push-clause-refusal
returns-in_err-push-clause-refusal g c =
    let p = err_from_is_err_and c.from_residual-in_err-push.result c.from_residual-in_err-push.ensures.1 in
    let l = c.loop-place in
    rw (p.1, p.2) (read_full (IsPlaceRead g.F.Store.does) (IsPlaceUnread g.F.Store.does) c.args.places.now l.place-index c.place-item.result c.place-item.is l.drives.items
    c.in_ok-read_place.field-0 c.args.files.now l.files c.read_place.new.files _ c.loop-place-test.true l.invariant c.in_ok-read_place.ensures.read (search rules))

pub loop-place-preserved : goal.loop-place-preserved
loop-place-preserved g c =
    let l = c.loop-place in
    read_more (IsPlaceRead g.F.Store.does) (IsPlaceUnread g.F.Store.does) c.args.places.now l.place-index c.place-item.result c.place-item.is l.drives.items c.push.new.self.items
    c.in_ok-read_place.field-0 c.args.files.now l.files c.read_place.new.files c.loop-place-test.true c.in_ok-push.ensures.items l.invariant c.in_ok-read_place.ensures.read
