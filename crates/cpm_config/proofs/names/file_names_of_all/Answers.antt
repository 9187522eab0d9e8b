use Rattle.std.proofs.Common.{◌+◌, ℕ, List, ap, map, ◌∙◌, drop, ◌++◌}
use Rattle.cpm_config.specs.Rules.{file_names_of, file_names_of_all, name_placed, session_view}
use Rattle.cpm_config.specs.declared.config.SessionConfig.{SessionConfig}
use Rattle.cpm_config.proofs.NameLemmas.{placed_step, session_at}
use Rattle.cpm_config.proofs.names.file_names_of_all.Goals as goal

pub loop-session-preserved : goal.loop-session-preserved
loop-session-preserved c =
    let ss = c.args.sessions.now in
    let i = c.loop-session.session-index in
    let n = c.loop-session.number + 1 in
    record {
      same = placed_step (map name_placed c.loop-session.names.items) _ (file_names_of n (session_view c.session-item.result)) (file_names_of_all (n + 1) (map session_view (drop (i + 1) ss))) c.in_ok-add_files.ensures
          ∙ ap (λ (rest : List SessionConfig). map name_placed c.loop-session.names.items ++ file_names_of_all n (map session_view rest)) (session_at ss i c.session-item.result c.loop-session-test.true c.session-item.is)
          ∙ c.loop-session.invariant.same;
      count = ap (λ (k : ℕ). k + 1) c.loop-session.invariant.count;
    }
