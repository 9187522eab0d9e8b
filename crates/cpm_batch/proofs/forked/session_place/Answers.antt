use Rattle.std.proofs.Common.{rules, tests, string_bytes, map, ◌∙◌}
use Rattle.std.specs.Str.{bytes_eq}
use Rattle.std.proofs.lemmas.Iterator.{YieldsList-from_slice}
use Rattle.std.proofs.lemmas.Iterator.Adapters.{position_from-zero}
use Rattle.std.proofs.lemmas.Iterator.Search.{position_from_yields_List}
use Rattle.cpm_config.specs.Rules.{is_session_named, session_view}
use Rattle.cpm_config.proofs.FindLemmas.{position_from-map}
use Rattle.cpm_batch.specs.Inputs.{given}
use Rattle.cpm_batch.proofs.forked.session_place.Goals as goal

pub returns-clause-place : goal.returns-clause-place
returns-clause-place c =
    let name = c.args.name.now in
    position_from_yields_List (λ i. bytes_eq (string_bytes i.session.now.name) name) _ _ _ c.position.ensures.ran (YieldsList-from_slice c.args.before.now cc) (λ x b q k. search (rules, tests))
    ∙ position_from-zero (λ i. bytes_eq (string_bytes i.session.now.name) name) c.args.before.now
    ∙ position_from-map given (λ i. is_session_named name (session_view i.session)) 0 c.args.before.now
    ∙ position_from-map (λ i. session_view i.session) (is_session_named name) 0 (map given c.args.before.now)
