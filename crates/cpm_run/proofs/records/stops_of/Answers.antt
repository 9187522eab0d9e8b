use Rattle.std.proofs.Common.{◌∙◌, rules}
use Rattle.std.proofs.lemmas.Iterator.{YieldsList-from_map, YieldsList-from_slice, items_from_collect}
use Rattle.std.proofs.lemmas.Result.{IfOk-weaker}
use Rattle.cpm_run.specs.Run.{stop_of}
use Rattle.cpm_run.specs.Settled.{settled_view}
use Rattle.cpm_run.proofs.RecordLemmas.{stops_all}
use Rattle.cpm_run.proofs.records.stops_of.Goals as goal

pub returns : goal.returns
returns c =
    IfOk-weaker c.collect.result _ _ (λ v h. h ∙ stops_all c.args.settled.now)
    (items_from_collect _ c.collect.ensures.ran (YieldsList-from_map _ (λ i. stop_of (settled_view i)) (YieldsList-from_slice c.args.settled.now cc) c.map.ensures.closure (λ x r q k. search rules)))
