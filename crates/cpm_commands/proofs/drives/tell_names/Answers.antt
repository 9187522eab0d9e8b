use Rattle.std.proofs.Common.{◌∙◌, ◌∷◌, ◌+◌, Some, ap, chars, drop, map, string_bytes, sym}
use Rattle.std.proofs.lemmas.List.{drop_all, drop_more}
use Rattle.cpm_shown.specs.Shown.{shown_of}
use Rattle.cpm_commands.specs.Drives.{IsNameTold, left_out_line}
use Rattle.cpm_commands.proofs.DriveLemmas.{told_all, told_more}
use Rattle.cpm_commands.proofs.drives.tell_names.Goals as goal

pub loop-name-preserved : goal.loop-name-preserved
loop-name-preserved g c =
    let names = c.args.names.now in
    let folder = c.args.folder.now in
    let i = c.loop-name.name-index in
    let x = c.name-item.result in
    let shown = c.shown-in-loop-name.ensures ∙ ap (λ s. shown_of (chars s)) c.as_str.ensures.value in
    told_more (IsNameTold g.M.Messages.tells folder) (map string_bytes names) (map string_bytes (drop i names)) (map string_bytes (drop (i + 1) names)) (string_bytes x)
    c.args.messages.now c.loop-name.messages c.tell.new.self
    (ap (map string_bytes) (drop_more names i x c.loop-name-test.true ∙ ap (λ n. n ∷ drop (i + 1) names) (sym c.name-item.is)))
    (c.tell.ensures (left_out_line (shown_of (chars folder)) (shown_of (chars (string_bytes x)))) (λ j. Some (left_out_line (c.shown.ensures j) (shown j)))) c.loop-name.invariant

pub returns : goal.returns
returns g c =
    told_all (IsNameTold g.M.Messages.tells c.args.folder.now) (map string_bytes c.args.names.now) _ c.args.messages.now c.loop-name.messages
    (ap (map string_bytes) (drop_all c.loop-name.name-index c.args.names.now c.loop-name-test.false)) c.loop-name.invariant
