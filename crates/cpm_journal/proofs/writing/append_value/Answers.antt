use Rattle.std.proofs.Common.{◌∙◌, ◌++◌, ap}
use Rattle.cpm_journal.proofs.TextLaws.{printed-free}
use Rattle.cpm_journal.proofs.writing.append_value.Goals as goal

pub returns-clause-added : goal.returns-clause-added
returns-clause-added c =
    let written = c.in_ok-line.ensures in
    record {
      line = c.in_ok-line.line.items;
      of = record { one_line = printed-free c.in_ok-line.line.items written.compact; back = written.reads_back; compact = written.text };
      added = c.in_ok-extend_from_slice.ensures.items ∙ ap (λ l. c.args.out.now.items ++ l) (c.deref.ensures.value ∙ c.in_ok-push.ensures.items);
    }
