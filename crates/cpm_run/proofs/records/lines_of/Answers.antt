use Rattle.std.proofs.Common.{◌∙◌, ◌++◌, ap, arith}
use Rattle.cpm_run.proofs.RecordLemmas.{lines-all, lines-begun, lines-more}
use Rattle.cpm_run.proofs.records.lines_of.Goals.{in-Some+in_ok-extend_from_slice, in_default}
use Rattle.cpm_run.proofs.records.lines_of.Goals as goal

pub loop-key-init : goal.loop-key-init
loop-key-init c = lines-begun c.args.keys.now c.new-lines.result.items c.new-lines.ensures.items

pub loop-key-preserved : goal.loop-key-preserved
loop-key-preserved c =
    let l = c.loop-key in
    let within = c.loop-key-test.true in
    elim c.match-key_line.branch [
      | in-Some+in_ok-extend_from_slice w ↦ lines-more c.args.keys.now l.key-index (record { count = 0; byte = 0 }) l.lines.items c.match-key_line.lines.items within
          (ap (λ v. v.items) w.lines-is ∙ w.in_ok-extend_from_slice.ensures.items ∙ ap (λ bs. l.lines.items ++ bs) (w.as_bytes.ensures.value ∙ w.deref.ensures.0 ∙ w.in-Some.ensures.1)) l.invariant
      | in_default w ↦ let low = c.requires l.key-index (record { count = 0; byte = 0 }) within in let high = w.in_default.ensures in absurd (omega (arith, low, high))
    ]

pub returns : goal.returns
returns c = lines-all c.args.keys.now c.loop-key.key-index c.loop-key.lines.items c.loop-key-test.false c.loop-key.invariant
