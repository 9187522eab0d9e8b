use Rattle.std.proofs.Common.{arith, ⊎_elim}
use Rattle.std.proofs.lemmas.Result.{IfErr-at_err}
use Rattle.cpm_play.specs.Typist.{nobody}
use Rattle.cpm_host.proofs.ProgramLemmas.{not_long, not_out, played_by_cues, refused_in, undone_by_cues, undone_by_typing}
use Rattle.cpm_host.proofs.program.run_program.Goals as goal

pub returns-in-Cues-clause-played : goal.returns-in-Cues-clause-played
returns-in-Cues-clause-played g c =
    played_by_cues _ c.in-Cues.cued _ _ _ _ _ c.play_cued.result _ _ _ _ _ c.in-Cues.is c.in_ok-machine.ensures.system c.in_ok-machine.ensures.made c.play_cued.ensures.played

pub returns-in-Cues-clause-refusal : goal.returns-in-Cues-clause-refusal
returns-in-Cues-clause-refusal g c =
    refused_in _ _ _ _ _ _ c.play_cued.result _ c.in_ok-machine.ensures.system c.in_ok-machine.ensures.made c.in_ok-machine.ensures.fits
    (undone_by_cues _ c.in-Cues.cued _ _ _ _ c.play_cued.result _ _ _ _ _ c.in-Cues.is c.play_cued.ensures.refusal)

pub returns-in-Cues-clause-too_long : goal.returns-in-Cues-clause-too_long
returns-in-Cues-clause-too_long g c =
    let fits = c.in_ok-machine.ensures.fits.short in (
      λ is. ⊎_elim (λ cut. absurd (not_long cut.error _ cut.told)) (λ u. absurd (not_out _ u.told)) (IfErr-at_err _ is c.play_cued.ensures.refusal nobody),
      λ long. absurd (let bad : ⊥ = omega (arith, fits, long) in bad),
    )

pub returns-clause-refusal : goal.returns-clause-refusal
returns-clause-refusal g c =
    refused_in _ _ _ _ _ _ c.play_typed.result _ c.in_ok-machine.ensures.system c.in_ok-machine.ensures.made c.in_ok-machine.ensures.fits
    (undone_by_typing _ c.in-Typed.cues _ _ _ _ c.play_typed.result _ c.in-Typed.is c.play_typed.ensures.refusal)
