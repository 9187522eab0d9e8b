use Rattle.std.proofs.Common.{rules}
use Rattle.std.proofs.lemmas.Result.{err_from_is_err_and}
use Rattle.cpm_commands.specs.Drives.{IsFileRead, IsFileRefused}
use Rattle.cpm_commands.proofs.DriveLemmas.{read_full, read_more, read_stopped}
use Rattle.cpm_commands.proofs.drives.read_all_placed.Goals as goal

pub returns-in_err-read_placed-clause-refusal : goal.returns-in_err-read_placed-clause-refusal
returns-in_err-read_placed-clause-refusal g c =
    let p = err_from_is_err_and c.from_residual.result c.from_residual.ensures.1 in
    let l = c.loop-file in
    rw (p.1, p.2) (read_stopped (IsFileRead g.F.Store.does) (IsFileRefused g.F.Store.does) c.args.placed.now l.file-index c.file-item.result c.file-item.is l.read.items
    c.args.files.now l.files c.read_placed.new.files _ c.loop-file-test.true l.invariant c.in_err-read_placed.ensures.refusal)

pub returns-in_err-push-clause-refusal : goal.returns-in_err-push-clause-refusal
returns-in_err-push-clause-refusal g c =
    let p = err_from_is_err_and c.from_residual-in_err-push.result c.from_residual-in_err-push.ensures.1 in
    let l = c.loop-file in
    rw (p.1, p.2) (read_full (IsFileRead g.F.Store.does) (IsFileRefused g.F.Store.does) c.args.placed.now l.file-index c.file-item.result c.file-item.is l.read.items
    c.in_ok-read_placed.field-0 c.args.files.now l.files c.read_placed.new.files _ c.loop-file-test.true l.invariant c.in_ok-read_placed.ensures.read (search rules))

pub loop-file-preserved : goal.loop-file-preserved
loop-file-preserved g c =
    let l = c.loop-file in
    read_more (IsFileRead g.F.Store.does) (IsFileRefused g.F.Store.does) c.args.placed.now l.file-index c.file-item.result c.file-item.is l.read.items c.push.new.self.items
    c.in_ok-read_placed.field-0 c.args.files.now l.files c.read_placed.new.files c.loop-file-test.true c.in_ok-push.ensures.items l.invariant c.in_ok-read_placed.ensures.read
