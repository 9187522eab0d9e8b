use Rattle.std.proofs.Common.{refl}
use Rattle.cpm_script.specs.declared.cue.Cue.TheVariants as cue
use Rattle.cpm_script.proofs.CueLemmas.{said-pushed, wait-pushed}
use Rattle.cpm_script.proofs.cue.push_wait.Goals as goal

pub returns-clause-reading : goal.returns-clause-reading
returns-clause-reading c =
    let old = c.args.reading.now in
    let bytes = c.in_ok-bytes.bytes in
    wait-pushed old (record { cues = c.push.new.self; keys = old.keys; last = old.last }) bytes.items c.requires.reading refl refl
    (said-pushed old.cues c.push.new.self (cue.Wait bytes) c.in_ok-push.ensures.items)
