use Rattle.std.proofs.Common.{◌≡◌, ◌∙◌, List, [], ◌∷◌, ℕ, ap, append-nil, chars, encode_utf8, sym}
use Rattle.std.proofs.lemmas.Str.{chars-nil, chars_past_char}
use Rattle.cpm_shown.specs.Shown.{shown_of}
use Rattle.cpm_commands.proofs.get.shown_character.Goals as goal

pub returns : goal.returns
returns c =
    let text = c.encode_utf8.result.now in
    let one : chars text ≡ c.args.c ∷ [] =
    chars_past_char text [] c.args.c c.encode_utf8.utf8 (c.encode_utf8.ensures.value ∙ sym (append-nil (encode_utf8 c.args.c))) ∙ ap (λ (cs : List ℕ). c.args.c ∷ cs) chars-nil in
    c.shown.ensures ∙ ap shown_of one
