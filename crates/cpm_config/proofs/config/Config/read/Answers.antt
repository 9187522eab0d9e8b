use Rattle.toml.specs.View.{table_view}
use Rattle.cpm_config.proofs.BlankLemmas.{nothing_written}
use Rattle.cpm_config.proofs.config.Config.read.Goals as goal

pub returns-in-Ok-clause-memory : goal.returns-in-Ok-clause-memory
returns-in-Ok-clause-memory c oom blank =
    c.judged.ensures.memory oom (nothing_written c.args.bytes.now (table_view c.in-Ok.table) blank c.in-Ok.ensures.ok.1)
