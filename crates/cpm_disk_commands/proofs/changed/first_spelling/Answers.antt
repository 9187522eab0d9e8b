use Rattle.std.proofs.Common.{◌∙◌, sym}
use Rattle.cpm_disk_commands.proofs.ChangedLemmas.{spelled_here, spelled_none, spelled_past}
use Rattle.cpm_disk_commands.proofs.changed.first_spelling.Goals as goal

pub returns-then-spells : goal.returns-then-spells
returns-then-spells c =
    sym (spelled_here c.args.names.now c.loop-text.text-index c.text-item.result c.args.name.now c.as_str-word.result.now c.text-item.is c.loop-text-test.true
    c.as_str-word.ensures.value (sym c.spells.ensures ∙ c.if-spells.true)) ∙ c.loop-text.invariant

pub loop-text-preserved : goal.loop-text-preserved
loop-text-preserved c =
    sym (spelled_past c.args.names.now c.loop-text.text-index c.text-item.result c.args.name.now c.as_str-word.result.now c.text-item.is c.loop-text-test.true
    c.as_str-word.ensures.value (sym c.spells.ensures ∙ c.if-spells.false)) ∙ c.loop-text.invariant

pub returns : goal.returns
returns c = spelled_none c.args.names.now c.loop-text.text-index c.args.name.now c.loop-text-test.false ∙ c.loop-text.invariant
