use Rattle.std.proofs.Common.{◌≡◌, ◌∙◌, ◌<◌, ◌+◌, ◌++◌, ◌∷◌, [], get_or, true, false, length, drop, sym, ap, refl, arith}
use Rattle.std.specs.List.{list_all}
use Rattle.cpm_directory.proofs.TextLemmas.{rest}
use Rattle.cpm_disk_commands.specs.Listing.{is_blank_byte, visible, seen_part}
use Rattle.cpm_disk_commands.proofs.ListingLemmas.{appended, appended_all, part_blank, part_end, part_more}
use Rattle.cpm_disk_commands.proofs.lines.add_part.Goals as goal

pub loop-place-preserved : goal.loop-place-preserved
loop-place-preserved c =
    let part = c.args.part.now in
    let l : c.loop-place.place < length part = omega arith in
    let more : list_all is_blank_byte (drop c.loop-place.place part) ≡ false = ap (list_all is_blank_byte) (sym (rest part _ c.loop-place.place refl)) ∙ sym c.are_blank.ensures ∙ c.if-are_blank.false in
    appended c.loop-place.text.items c.push.new.self.items (visible (get_or part c.loop-place.place 0) ∷ []) (seen_part (drop (c.loop-place.place + 1) part)) _ _ c.loop-place.invariant (part_more part c.loop-place.place l more) (c.in_ok-push.ensures.items ∙ ap (λ n. c.loop-place.text.items ++ n ∷ []) c.visible.ensures)

pub returns-after-loop-place : goal.returns-after-loop-place
returns-after-loop-place c = appended_all c.loop-place.text.items _ _ c.loop-place.invariant (part_end c.args.part.now c.loop-place.place (omega arith))

pub returns-then-are_blank : goal.returns-then-are_blank
returns-then-are_blank c =
    let part = c.args.part.now in
    let l : c.loop-place.place < length part = omega arith in
    let none : list_all is_blank_byte (drop c.loop-place.place part) ≡ true = ap (list_all is_blank_byte) (sym (rest part _ c.loop-place.place refl)) ∙ sym c.are_blank.ensures ∙ c.if-are_blank.true in
    appended_all c.loop-place.text.items _ _ c.loop-place.invariant (part_blank part c.loop-place.place l none)
