use Rattle.std.proofs.Common.{◌≡◌, ◌∙◌, ◌++◌, ◌∷◌, [], Bool, String, Global, ap, map, option_map, refl, string_bytes, ◌&&◌}
use Rattle.std.proofs.lemmas.List.{map_push}
use Rattle.std.proofs.lemmas.Slice.Zip.{Zip-more, either_empty_from_Zip}
use Rattle.std.specs.Iterator.Adapters.{zip_first, zip_second}
use Rattle.std.specs.List.{zip}
use Rattle.std.specs.Slice.Iter.{iter_rest}
use Rattle.cpm_config.specs.declared.config.SessionConfig.{SessionConfig}
use Rattle.cpm_store.specs.Files.{StoreName}
use Rattle.cpm_commands.specs.Run.{record_mark, record_marks}
use Rattle.cpm_commands.specs.Typed.{is_typed_at}
use Rattle.cpm_commands.proofs.ListLemmas.{part_ended, part_turned, zip_ended, zip_turned}
use Rattle.cpm_commands.proofs.run.records_of.Goals as goal

pub loop-session-init : goal.loop-session-init
loop-session-init c =
    let given = c.into_iter-session-iterator.ensures.into_iter_gives in
    let first = ap (λ z. iter_rest (zip_first z)) given ∙ ap iter_rest c.zip-session-items.ensures.first ∙ c.iter.ensures.rest ∙ c.deref.ensures.value in
    let second = ap (λ z. iter_rest (zip_second z)) given ∙ c.zip-session-items.ensures.second.0 in
    let typed = option_map (λ n. n.now) c.args.typed in
    (λ i. map record_mark (c.new-records.ensures.items i) ++ record_marks c.args.is_kept typed (zip (first i) (second i)))

pub loop-session-preserved : goal.loop-session-preserved
loop-session-preserved c =
    let l = c.loop-session in
    let session = c.in-Some.session.now in
    let typed = option_map (λ n. n.now) c.args.typed in
    let mark : SessionConfig × String Global → StoreName × Bool = λ p. (string_bytes p.1, is_typed_at typed p.0 && c.args.is_kept) in
    let turn = Zip-more l.session-iterator c.next.new.self c.next.result (c.in-Some.session, c.in-Some.script) c.in-Some.is c.next.ensures.steps in
    let next = zip_turned _ _ _ _ session c.in-Some.script.now turn in
    let marked : record_mark c.record_file.result ≡ mark (session, c.in-Some.script.now) =
    c.record_file.ensures ∙ ap (λ (n : StoreName). (n, is_typed_at typed session && c.args.is_kept)) c.as_str.ensures.value in
    let more = ap (map record_mark) c.in_ok-push.ensures.items ∙ map_push record_mark l.records.items c.record_file.result
    ∙ ap (λ (m : StoreName × Bool). map record_mark l.records.items ++ (m ∷ [])) marked in
    part_turned (record_marks c.args.is_kept typed) (λ p. mark p ∷ []) (λ x xs. refl) _ _ (session, c.in-Some.script.now) _ _ _ next more l.invariant

pub returns : goal.returns
returns c =
    let l = c.loop-session in
    let ended = zip_ended _ _ (either_empty_from_Zip l.session-iterator c.next.new.self c.next.result c.in-None.is c.next.ensures.steps) in
    part_ended (record_marks c.args.is_kept (option_map (λ n. n.now) c.args.typed)) refl _ _ _ ended l.invariant
