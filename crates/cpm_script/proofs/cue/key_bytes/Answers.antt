use Rattle.std.proofs.Common.{◌∙◌, List, ℕ, ap, option_map, sym, ◌++◌}
use Rattle.cpm_script.specs.KeyText.{keys_of}
use Rattle.cpm_script.proofs.CueLemmas.{bytes-first, keys-first}
use Rattle.cpm_script.proofs.cue.key_bytes.Goals as goal

pub loop-byte-preserved : goal.loop-byte-preserved
loop-byte-preserved c =
    let rest = c.loop-byte.rest.now in
    let after = c.in-Some.after.now in
    ap (λ (bs : List ℕ). option_map (λ ks. bs ++ ks) (keys_of after)) c.in_ok-push.ensures.items
    ∙ bytes-first c.loop-byte.bytes.items c.in-Some.byte (keys_of rest) (keys_of after) (keys-first rest after c.in-Some.byte (sym c.in-Some.ensures))
    ∙ c.loop-byte.invariant
