use Rattle.std.proofs.Common.{◌≡◌, ◌++◌, length, map, take, drop}
use Rattle.cpm_slots.specs.Host.{happening_of, host_after}
use Rattle.cpm_slots.proofs.RunLaws.{replies_by}
use Rattle.cpm_slots.proofs.host.Host.serve_all.Given as goal

-- the host and the replies so far, and those to what is left, are those of the whole list
abbrev pub invariant-loop-index : goal.invariant-loop-index
invariant-loop-index l = record {
  host : host_after (map happening_of (drop l.index l.events)) l.self.host ≡ host_after (map happening_of l.events) l.fn.self.host;
  replies : take l.index l.replies ++ replies_by (drop l.index l.events) l.self.host ≡ replies_by l.events l.fn.self.host;
  rest : drop (length l.events) l.replies ≡ drop (length l.events) l.fn.replies;
}
