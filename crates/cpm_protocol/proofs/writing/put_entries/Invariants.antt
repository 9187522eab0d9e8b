use Rattle.std.proofs.Common.{◌≡◌, drop, map}
use Rattle.serde_json.specs.View.{members_view}
use Rattle.cpm_protocol.specs.Leaves.{member_seen}
use Rattle.cpm_protocol.specs.Replies.{put_all}
use Rattle.cpm_protocol.proofs.writing.put_entries.Given as goal

abbrev pub invariant-loop-entry : goal.invariant-loop-entry
invariant-loop-entry l =
    put_all (map member_seen (drop l.entry-index l.entries)) (members_view l.members.entries)
    ≡ put_all (map member_seen l.entries) (members_view l.fn.members.entries)
