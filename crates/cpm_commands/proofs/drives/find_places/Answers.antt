use Rattle.std.proofs.Common.{[]}
use Rattle.std.proofs.lemmas.Result.{err_from_is_err_and}
use Rattle.cpm_commands.proofs.DriveLemmas.{found_more, unfound}
use Rattle.cpm_commands.proofs.drives.find_places.Goals as goal

pub returns-in_err-find_place-clause-refusal : goal.returns-in_err-find_place-clause-refusal
returns-in_err-find_place-clause-refusal g c =
    let p = err_from_is_err_and c.from_residual.result c.from_residual.ensures.1 in
    rw (p.1, p.2) (unfound g.F.CommandFiles.tells_folder g.F.CommandFiles.lists c.args.files.now g.F.CommandFiles.unlists (λ n. n.now) c.args.names.now c.loop-name.name-index
    (record { ref_ptr = (0, 0); now = [] }) _ c.loop-name-test.true c.in_err-find_place.ensures.refusal)

pub loop-name-preserved : goal.loop-name-preserved
loop-name-preserved g c =
    found_more g.F.CommandFiles.tells_folder g.F.CommandFiles.lists c.args.files.now (λ n. n.now) c.args.names.now c.loop-name.name-index
    (record { ref_ptr = (0, 0); now = [] }) c.loop-name.places.items c.push.new.self.items c.in_ok-find_place.field-0 c.loop-name-test.true c.in_ok-push.ensures.items
    c.loop-name.invariant c.in_ok-find_place.ensures.found
