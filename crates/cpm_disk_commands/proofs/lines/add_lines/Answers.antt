use Rattle.std.proofs.Common.{◌≡◌, ◌∙◌, ◌<◌, ◌++◌, ◌+◌, [], true, false, cond, length, get_or, drop, sym, ap, append-nil, arith}
use Rattle.cpm_disk_commands.specs.Listing.{is_wanted, file_line, lines_of}
use Rattle.cpm_disk_commands.proofs.ListingLemmas.{appended, appended_all, lines_end, lines_more, no_file}
use Rattle.cpm_disk_commands.proofs.lines.add_lines.Goals as goal
use Rattle.cpm_disk_commands.proofs.lines.add_lines.Goals.{then-is_wanted+in_ok-add_line, else-is_wanted}

pub loop-file-preserved : goal.loop-file-preserved
loop-file-preserved c =
    let l : c.loop-file.file-index < length c.args.files.now = omega arith in
    let file = get_or c.args.files.now c.loop-file.file-index no_file in
    let rest = lines_of c.args.user (drop (c.loop-file.file-index + 1) c.args.files.now) in
    let step = lines_more c.args.user c.args.files.now c.loop-file.file-index no_file l in
    elim c.if-is_wanted.branch [
      | then-is_wanted+in_ok-add_line w ↦
          let wanted : is_wanted c.args.user file ≡ true = sym c.is_wanted.ensures ∙ w.if-is_wanted.true in
          let text : c.if-is_wanted.text.items ≡ c.loop-file.text.items ++ file_line file = cc (w.text-is, w.in_ok-add_line.ensures) in
          appended c.loop-file.text.items c.if-is_wanted.text.items (file_line file) rest _ _ c.loop-file.invariant (step ∙ ap (λ b. cond b (file_line file) [] ++ rest) wanted) text
      | else-is_wanted w ↦
          let other : is_wanted c.args.user file ≡ false = sym c.is_wanted.ensures ∙ w.if-is_wanted.false in
          let text : c.if-is_wanted.text.items ≡ c.loop-file.text.items ++ [] = ap (λ v. v.items) w.text-is ∙ sym (append-nil c.loop-file.text.items) in
          appended c.loop-file.text.items c.if-is_wanted.text.items [] rest _ _ c.loop-file.invariant (step ∙ ap (λ b. cond b (file_line file) [] ++ rest) other) text
    ]

pub returns : goal.returns
returns c =
    appended_all c.loop-file.text.items _ _ c.loop-file.invariant (lines_end c.args.user c.args.files.now c.loop-file.file-index (omega arith))
