use Rattle.std.proofs.Common.{refl}
use Rattle.std.proofs.lemmas.Result.{err_from_is_err_and}
use Rattle.cpm_host.specs.Debugged.IsStartUnheld.{CutShort, NotBegun}
use Rattle.cpm_host.specs.Program.{program_given}
use Rattle.cpm_host.proofs.DebugLemmas.{cut_by, held_by}
use Rattle.cpm_host.proofs.debug.debug_start.Goals as goal

pub returns-in_err-machine-clause-refusal : goal.returns-in_err-machine-clause-refusal
returns-in_err-machine-clause-refusal g c =
    let p = err_from_is_err_and c.from_residual.result c.from_residual.ensures.1 in
    rw (p.1, p.2) (NotBegun c.in_err-machine.ensures.refusal refl)

pub returns-in_err-debug_machine-clause-refusal : goal.returns-in_err-debug_machine-clause-refusal
returns-in_err-debug_machine-clause-refusal g c =
    let p = err_from_is_err_and c.from_residual-in_err-debug_machine.result c.from_residual-in_err-debug_machine.ensures.1 in
    rw p.1 (CutShort _ p.2 c.in_ok-machine.ensures.fits
    (cut_by (program_given c.args.start) c.in_ok-machine.machine c.in_ok-machine.system c.args.listing.now _ _ _ _
    c.in_ok-machine.ensures.made c.in_ok-machine.ensures.system c.in_err-debug_machine.ensures.refusal))

pub returns-clause-held : goal.returns-clause-held
returns-clause-held g c =
    record {
      fit = c.in_ok-machine.ensures.fits;
      dialog = held_by (program_given c.args.start) c.in_ok-machine.machine c.in_ok-machine.system c.args.listing.now _ _ _
          c.in_ok-machine.ensures.made c.in_ok-machine.ensures.system c.in_ok-debug_machine.ensures.held;
    }
