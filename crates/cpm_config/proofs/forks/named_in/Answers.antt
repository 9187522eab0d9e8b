use Rattle.std.proofs.Common.{rules, tests, string_bytes}
use Rattle.std.specs.Str.{bytes_eq}
use Rattle.std.proofs.lemmas.Iterator.{YieldsList-from_slice}
use Rattle.std.proofs.lemmas.Iterator.Search.{find_from_yields_List}
use Rattle.cpm_config.specs.Rules.{is_session_named, session_view}
use Rattle.cpm_config.proofs.FindLemmas.{found_view}
use Rattle.cpm_config.proofs.forks.named_in.Goals as goal

pub returns : goal.returns
returns c =
    let name = c.args.name.now in
    found_view session_view (is_session_named name) c.args.sessions.now c.find.result
    (find_from_yields_List (λ s. bytes_eq (string_bytes s.name) name) _ _ _ c.find.ensures.ran (YieldsList-from_slice c.args.sessions.now cc) (λ x b q k. search (rules, tests)))
