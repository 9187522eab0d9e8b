use Rattle.std.proofs.Common.{arith, ◌∙◌, ◌∷◌, [], ◌++◌, ◌<◌, ◌≤◌, ◌≡◌, ℕ, Some, List, length, map, refl, sym, ap, subst, codes, get_or, string_bytes, option_map}
use Rattle.std.proofs.lemmas.Grind.{common_steps}
use Rattle.std.proofs.lemmas.List.{map_push}
use Rattle.cpm_config.specs.declared.config.SessionConfig.{SessionConfig}
use Rattle.cpm_store.specs.Files.{StoreName}
use Rattle.cpm_commands.specs.Run.{script_names}
use Rattle.cpm_commands.proofs.ListLemmas.{part_all, part_more}
use Rattle.cpm_commands.proofs.run.script_names.Goals as goal

pub loop-session-init : goal.loop-session-init
loop-session-init c = ap (λ ns. map string_bytes ns ++ script_names (Some c.in-Some.folder.now) c.args.config.now.sessions.items) c.new-names.ensures.items

pub loop-session-preserved : goal.loop-session-preserved
loop-session-preserved c =
    let folder = c.in-Some.folder.now in
    let l = c.loop-session in
    let sessions = c.args.config.now.sessions.items in
    let script : SessionConfig → StoreName = λ s. folder ++ codes "/" ++ string_bytes s.name ++ codes ".keys" in
    let within = subst (λ (ss : List SessionConfig). l.session-index < length ss) c.deref-session-items.ensures.value c.loop-session-test.true in
    let is = subst (λ (ss : List SessionConfig). c.session-item.result ≡ get_or ss l.session-index c.session-item.result) c.deref-session-items.ensures.value c.session-item.is in
    let line : string_bytes c.in_ok-format.field-0 ≡ script c.session-item.result =
    c.in_ok-format.ensures.ok ∙ ap (λ (name : List ℕ). folder ++ (47 ∷ (name ++ codes ".keys"))) c.as_str-name.ensures.value ∙ grind (arith, common_steps) in
    let more = ap (map string_bytes) c.in_ok-push.ensures.items ∙ map_push string_bytes l.names.items c.in_ok-format.field-0
    ∙ ap (λ (n : List ℕ). map string_bytes l.names.items ++ (n ∷ [])) (line ∙ ap script is) in
    part_more (script_names (Some folder)) (λ s. script s ∷ []) (λ x xs. refl) sessions l.session-index c.session-item.result _ _ _ within more l.invariant

pub returns : goal.returns
returns c =
    let l = c.loop-session in
    let past = subst (λ (ss : List SessionConfig). length ss ≤ l.session-index) c.deref-session-items.ensures.value c.loop-session-test.false in
    let folder = ap (option_map (λ f. f.now)) c.in-Some.is in
    part_all (script_names (Some c.in-Some.folder.now)) refl c.args.config.now.sessions.items l.session-index (map string_bytes l.names.items) _ past l.invariant
    ∙ ap (λ f. script_names f c.args.config.now.sessions.items) (sym folder)
