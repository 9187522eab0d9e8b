use Rattle.std.proofs.Common.{◌≡◌, length, chars, sym, ap, ◌∙◌, arith, rules}
use Rattle.std.specs.Str.Iter.{chars_rest}
use Rattle.std.proofs.lemmas.List.{nil_from_length}
use Rattle.std.proofs.lemmas.Str.{IsUtf8-past_char, chars-nil}
use Rattle.cpm_shown.specs.Shown.{shown_after}
use Rattle.cpm_shown.proofs.ShownLemmas.{shown_after-full, shown_after-more, shown_after-text}
use Rattle.cpm_shown.proofs.words.shown.Goals as goal

pub loop-c-init : goal.loop-c-init
loop-c-init c =
    let whole : chars_rest c.into_iter-c-iterator.result ≡ c.args.text.now = search rules in
    record {
      text = rw whole c.utf8.text;
      shown = ap (λ text. shown_after c.new-word.result.bytes (chars text)) whole
          ∙ ap (λ done. shown_after done (chars c.args.text.now)) c.new-word.ensures;
      short = omega (arith, ap length c.new-word.ensures);
    }

pub loop-c-preserved : goal.loop-c-preserved
loop-c-preserved c =
    let held = c.loop-c.invariant in
    let parts = c.in-Some.ensures.steps.0 in
    let room = sym c.add_shown.ensures.room ∙ c.if-not-add_shown.false in
    record {
      text = IsUtf8-past_char _ _ c.in-Some.c held.text parts;
      shown = sym (shown_after-text _ _ _ c.in-Some.c held.text parts
          ∙ shown_after-more _ _ _ c.in-Some.c room (c.add_shown.ensures.shown c.if-not-add_shown.false)) ∙ held.shown;
      short = c.add_shown.ensures.short c.if-not-add_shown.false;
    }

pub returns-in-None : goal.returns-in-None
returns-in-None c =
    ap (shown_after c.loop-c.word.bytes) (sym (ap chars (nil_from_length _ c.in-None.ensures.steps.0.0) ∙ chars-nil))
    ∙ c.loop-c.invariant.shown

pub returns-then-not-add_shown : goal.returns-then-not-add_shown
returns-then-not-add_shown c =
    let held = c.loop-c.invariant in
    let room = sym c.add_shown.ensures.room ∙ c.if-not-add_shown.true in
    sym (shown_after-full _ _ _ c.in-Some.c room (c.add_shown.ensures.dots c.if-not-add_shown.true (omega arith)))
    ∙ sym (shown_after-text _ _ _ c.in-Some.c held.text c.in-Some.ensures.steps.0) ∙ held.shown
