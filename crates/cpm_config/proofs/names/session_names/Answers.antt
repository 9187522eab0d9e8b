use Rattle.std.proofs.Common.{◌≡◌, subst, ◌+◌, ◌∷◌, [], ℕ, List, ap, map, ◌∙◌, drop, ◌++◌}
use Rattle.std.specs.Prelude.{string_bytes}
use Rattle.cpm_config.specs.Entries.{config_key}
use Rattle.cpm_config.specs.Rules.{session_names, name_placed, session_view}
use Rattle.cpm_config.specs.declared.field.Field.TheVariants.{Name}
use Rattle.cpm_config.specs.declared.config.SessionConfig.{SessionConfig}
use Rattle.cpm_config.proofs.NameLemmas.{placed_step, session_at}
use Rattle.cpm_config.proofs.names.session_names.Goals as goal

pub loop-session-preserved : goal.loop-session-preserved
loop-session-preserved c =
    let ss = c.args.sessions.now in
    let i = c.loop-session.session-index in
    let n = c.loop-session.number + 1 in
    record {
      same = placed_step (map name_placed c.loop-session.names.items) _ ((config_key n Name, string_bytes c.session-item.result.name) ∷ []) (session_names (n + 1) (map session_view (drop (i + 1) ss))) (subst (λ (t : List ℕ). map name_placed c.add.new.names.items ≡ map name_placed c.loop-session.names.items ++ (config_key n Name, t) ∷ []) c.as_str.ensures.value c.in_ok-add.ensures)
          ∙ ap (λ (rest : List SessionConfig). map name_placed c.loop-session.names.items ++ session_names n (map session_view rest)) (session_at ss i c.session-item.result c.loop-session-test.true c.session-item.is)
          ∙ c.loop-session.invariant.same;
      count = ap (λ (k : ℕ). k + 1) c.loop-session.invariant.count;
    }
