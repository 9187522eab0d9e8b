use Rattle.std.proofs.Common.{map, take}
use Rattle.serde_json.specs.View.{view}
use Rattle.cpm_serve.specs.Lines.{KeptEventsLead}
use Rattle.cpm_serve.specs.Parts.{AreServed}
use Rattle.cpm_serve.proofs.many.serve_values.Given as goal

-- the values so far were served
abbrev pub invariant-loop-value : goal.invariant-loop-value
invariant-loop-value g l = AreServed (KeptEventsLead g.F.Folder.does l.fn.host.host l.fn.folder l.folder) (map view (take l.value-index l.values)) l.fn.host.host l.host.host (map view l.replies.items)
