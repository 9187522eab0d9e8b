use Rattle.std.proofs.Common.{◌≡◌, ◌∙◌, List, [], ◌∷◌, ◌++◌, ℕ, ap, arith, chars, codes, encode_utf8}
use Rattle.std.specs.Prelude.{string_bytes}
use Rattle.std.specs.Str.Iter.{chars_rest}
use Rattle.std.proofs.lemmas.List.{nil_from_length}
use Rattle.std.proofs.lemmas.Str.{IsUtf8-past_char, chars-nil, chars_past_char, encode_ascii}
use Rattle.cpm_shown.specs.Shown.{shown_of}
use Rattle.cpm_commands.proofs.GetLemmas.{path_end, path_more}
use Rattle.cpm_commands.proofs.get.add_path.Goals as goal

pub loop-c-preserved : goal.loop-c-preserved
loop-c-preserved c =
    let held = c.loop-c.invariant in
    let parts = c.in-Some.ensures.steps.0 in
    let old = string_bytes c.loop-c.text in
    let pushed : string_bytes c.push_str.new.self ≡ old ++ shown_of (c.in-Some.c ∷ []) =
    c.in_ok-push_str.ensures.bytes ∙ ap (λ (word : List ℕ). old ++ word) (c.as_str.ensures.value ∙ c.shown_character.ensures) in
    record {
      text = IsUtf8-past_char _ _ c.in-Some.c held.text parts;
      shown = path_more old (string_bytes c.push_str.new.self) _ (chars (chars_rest c.loop-c.c-iterator)) (chars (chars_rest c.next.new.self)) c.in-Some.c pushed
          (chars_past_char _ _ c.in-Some.c held.text parts) held.shown;
    }

pub returns : goal.returns
returns c =
    let none : chars (chars_rest c.loop-c.c-iterator) ≡ [] = ap chars (nil_from_length _ c.in-None.ensures.steps.0.0) ∙ chars-nil in
    let newline : encode_utf8 10 ≡ 10 ∷ [] = encode_ascii 10 (omega arith) in
    path_end (string_bytes c.loop-c.text) (string_bytes c.push.new.self) (string_bytes c.args.text.now) (chars (chars_rest c.loop-c.c-iterator)) (chars c.args.path.now)
    (codes "\n") none c.loop-c.invariant.shown (c.in_ok-push.ensures.bytes ∙ ap (λ (end : List ℕ). string_bytes c.loop-c.text ++ end) newline)
