use Rattle.toml.specs.View.{table_view}
use Rattle.cpm_config.specs.Entries.{draft_view}
use Rattle.cpm_config.proofs.BlankLemmas.{nothing_read}
use Rattle.cpm_config.proofs.config.judged.Goals as goal

pub returns-in_default-config_of-clause-memory : goal.returns-in_default-config_of-clause-memory
returns-in_default-config_of-clause-memory c oom none = nothing_read (table_view c.args.table.now) (draft_view c.in-Ok.draft) none c.in-Ok.ensures.read

pub returns-clause-memory : goal.returns-clause-memory
returns-clause-memory c oom none = nothing_read (table_view c.args.table.now) (draft_view c.in-Ok.draft) none c.in-Ok.ensures.read
