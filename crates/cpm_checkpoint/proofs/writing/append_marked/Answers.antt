use Rattle.std.proofs.Common.{◌∙◌, List, ℕ, Option, [], ◌∷◌, ◌++◌, ap, append_assoc, sym}
use Rattle.std.specs.Prelude.{option_map}
use Rattle.cpm_checkpoint.specs.CheckpointBytes.{marked_bytes, session_bytes, session_value}
use Rattle.cpm_checkpoint.specs.declared.checkpoint.CheckpointSession.{CheckpointSession}
use Rattle.cpm_checkpoint.proofs.writing.append_marked.Goals as goal

pub returns-in_ok-append_session-in-Some-clause-appended : goal.returns-in_ok-append_session-in-Some-clause-appended
returns-in_ok-append_session-in-Some-clause-appended c =
    let old = c.args.out.now.items in
    let bytes = session_bytes (session_value c.in-Some.session) in
    c.in_ok-append_session-in-Some.ensures.appended ∙ ap (λ (x : List ℕ). x ++ bytes) c.in_ok-push-in-Some.ensures.items
    ∙ append_assoc old (1 ∷ []) bytes
    ∙ ap (λ (o : Option CheckpointSession). old ++ marked_bytes (option_map session_value o)) (sym c.in-Some.is)
