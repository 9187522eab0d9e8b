use Rattle.std.proofs.Common.{◌≤◌, arith, length}
use Rattle.std.proofs.lemmas.Result.{err_from_is_err_and}
use Rattle.cpm_debug.specs.Debug.{debugged, debug_system_drive}
use Rattle.cpm_debug.proofs.DialogLemmas.{at_once, held_program, refused_program}
use Rattle.cpm_debug.proofs.debug.run_debug.Goals as goal

pub returns-in_err-system-clause-refusal : goal.returns-in_err-system-clause-refusal
returns-in_err-system-clause-refusal g c =
    let p = err_from_is_err_and c.from_residual.result c.from_residual.ensures.1 in
    let fits : length c.args.program.items ≤ 58112 = let l = c.len.ensures in let f = c.if-len-gt-MOST_PROGRAM.false in let k = c.args.program.ok.0 in omega arith in
    rw (p.1, p.2, c.in_err-system.ensures.refusal)
    (fits, at_once debug_system_drive c.args.cpu c.args.listing.now (debugged c.args.cpu c.args.program.items) (g.R.Read.remaining c.args.input.now) (g.W.Write.contents c.args.out.now))

pub returns-clause-held : goal.returns-clause-held
returns-clause-held g c =
    held_program c.debug_machine.result c.in_ok-system.system c.args.cpu c.args.listing.now c.in_ok-system.machine c.args.program.items (g.R.Read.remaining c.args.input.now)
    (g.W.Write.contents c.args.out.now) (g.W.Write.contents c.debug_machine.new.out) c.in_ok-system.ensures.made.0 c.in_ok-system.ensures.made.1 c.debug_machine.ensures.held

pub returns-clause-refusal : goal.returns-clause-refusal
returns-clause-refusal g c =
    let fits : length c.args.program.items ≤ 58112 = let l = c.len.ensures in let f = c.if-len-gt-MOST_PROGRAM.false in let k = c.args.program.ok.0 in omega arith in
    refused_program c.debug_machine.result c.in_ok-system.system c.args.cpu c.args.listing.now c.in_ok-system.machine c.args.program.items (g.R.Read.remaining c.args.input.now)
    (g.W.Write.contents c.args.out.now) (g.W.Write.contents c.debug_machine.new.out) c.args.out.now c.debug_machine.new.out
    c.in_ok-system.ensures.made.0 c.in_ok-system.ensures.made.1 fits c.debug_machine.ensures.refusal
