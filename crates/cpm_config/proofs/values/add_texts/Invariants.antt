use Rattle.std.proofs.Common.{◌≡◌, ◌++◌, drop}
use Rattle.toml.specs.View.{items_view}
use Rattle.cpm_config.specs.Entries.{or_wanted, result_map, texts_of, texts_view}
use Rattle.cpm_config.proofs.values.add_texts.Given as goal

abbrev pub invariant-loop-value : goal.invariant-loop-value
invariant-loop-value l =
    result_map (λ ts. texts_view l.texts ++ ts) (or_wanted l.place (texts_of (items_view (drop l.value-index l.values)))) ≡ or_wanted l.place (texts_of (items_view l.values))
