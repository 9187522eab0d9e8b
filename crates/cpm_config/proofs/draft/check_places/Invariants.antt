use Rattle.std.proofs.Common.{◌≡◌, drop}
use Rattle.toml.specs.View.{table_view}
use Rattle.cpm_config.specs.Entries.{misplaced}
use Rattle.cpm_config.proofs.draft.check_places.Given as goal

abbrev pub invariant-loop-field : goal.invariant-loop-field
invariant-loop-field l = misplaced l.session (drop l.field-index l.fields) (table_view l.table) ≡ misplaced l.session l.fields (table_view l.table)
