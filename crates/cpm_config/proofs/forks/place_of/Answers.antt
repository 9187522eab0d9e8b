use Rattle.std.proofs.Common.{rules, tests, string_bytes, ◌∙◌}
use Rattle.std.specs.Str.{bytes_eq}
use Rattle.std.proofs.lemmas.Iterator.{YieldsList-from_slice}
use Rattle.std.proofs.lemmas.Iterator.Adapters.{position_from-zero}
use Rattle.std.proofs.lemmas.Iterator.Search.{position_from_yields_List}
use Rattle.cpm_config.specs.Rules.{is_session_named, session_view}
use Rattle.cpm_config.proofs.FindLemmas.{position_from-map}
use Rattle.cpm_config.proofs.forks.place_of.Goals as goal

pub returns : goal.returns
returns c =
    let name = c.args.name.now in
    position_from_yields_List (λ s. bytes_eq (string_bytes s.name) name) _ _ _ c.position.ensures.ran (YieldsList-from_slice c.args.sessions.now cc) (λ x b q k. search (rules, tests))
    ∙ position_from-zero (λ s. bytes_eq (string_bytes s.name) name) c.args.sessions.now
    ∙ position_from-map session_view (is_session_named name) 0 c.args.sessions.now
