use Rattle.std.proofs.Common.{◌≡◌, [], ◌∷◌, ◌++◌, List, ℕ, ap, chars, filter, sym, ◌∙◌}
use Rattle.std.specs.Str.Iter.{chars_rest}
use Rattle.std.proofs.lemmas.List.{append-nil, nil_from_length}
use Rattle.std.proofs.lemmas.Str.{IsUtf8-past_char, chars-nil, chars_past_char}
use Rattle.cpm_protocol.specs.Bytes.{is_byte_character}
use Rattle.cpm_protocol.proofs.ByteLemmas.{byte_more, filter-all, no_byte_more}
use Rattle.cpm_protocol.proofs.bytes.bytes_of.Goals as goal

pub loop-c-preserved-in-Continue-1 : goal.loop-c-preserved-in-Continue-1
loop-c-preserved-in-Continue-1 c =
    let held = c.loop-c.invariant in
    let parts = c.in-Some.ensures.steps.0 in
    let done = c.loop-c.bytes.items in
    let so_far =
    ap (λ (cs : List ℕ). done ++ filter is_byte_character cs) (sym (chars_past_char _ _ c.in-Some.c held.text parts)) ∙ held.made in
    let pushed : c.push.new.self.items ≡ done ++ c.in-Some.c ∷ [] =
    c.in_ok-push.ensures.items ∙ ap (λ (b : ℕ). done ++ b ∷ []) c.in-Some-byte_of.ensures.0 in
    record {
      text = IsUtf8-past_char _ _ c.in-Some.c held.text parts;
      made = byte_more done c.push.new.self.items (chars (chars_rest c.next.new.self)) (filter is_byte_character (chars c.args.text.now)) c.in-Some.c
          c.in-Some-byte_of.ensures.1 pushed so_far;
    }

pub loop-c-preserved : goal.loop-c-preserved
loop-c-preserved c =
    let held = c.loop-c.invariant in
    let parts = c.in-Some.ensures.steps.0 in
    let done = c.loop-c.bytes.items in
    let so_far =
    ap (λ (cs : List ℕ). done ++ filter is_byte_character cs) (sym (chars_past_char _ _ c.in-Some.c held.text parts)) ∙ held.made in
    record {
      text = IsUtf8-past_char _ _ c.in-Some.c held.text parts;
      made = no_byte_more done (chars (chars_rest c.next.new.self)) (filter is_byte_character (chars c.args.text.now)) c.in-Some.c c.in_default.ensures so_far;
    }

pub returns-clause-bytes : goal.returns-clause-bytes
returns-clause-bytes c =
    let none : chars (chars_rest c.loop-c.c-iterator) ≡ [] = ap chars (nil_from_length _ c.in-None.ensures.steps.0.0) ∙ chars-nil in
    let done = c.loop-c.bytes.items in
    sym (append-nil done) ∙ ap (λ (cs : List ℕ). done ++ filter is_byte_character cs) (sym none) ∙ c.loop-c.invariant.made

pub returns-clause-all : goal.returns-clause-all
returns-clause-all c all =
    let none : chars (chars_rest c.loop-c.c-iterator) ≡ [] = ap chars (nil_from_length _ c.in-None.ensures.steps.0.0) ∙ chars-nil in
    let done = c.loop-c.bytes.items in
    sym (append-nil done) ∙ ap (λ (cs : List ℕ). done ++ filter is_byte_character cs) (sym none) ∙ c.loop-c.invariant.made
    ∙ filter-all is_byte_character (chars c.args.text.now) all
