use Rattle.std.proofs.Common.{◌∙◌, ap, sym}
use Rattle.cpm_journal.specs.Entries.{count_if_any}
use Rattle.cpm_journal.proofs.EntryLaws.{count-view}
use Rattle.cpm_journal.proofs.entry.member_count.Goals as goal

pub returns-in-Some : goal.returns-in-Some
returns-in-Some c = c.len.ensures.len ∙ sym (count-view c.in-Some.members.now.entries) ∙ ap count_if_any c.in-Some.ensures
