-- What the text of a reply, alone or among many, rests on. All of it is own.
use Rattle.std.specs.Prelude.{◌≡◌, ◌≤◌, false, Option}
use Rattle.serde_json.specs.Data.{depth}
use Rattle.serde_json.specs.Written.{has_float}
use Rattle.cpm_protocol.specs.Requests.{AskedTag}
use Rattle.cpm_protocol.specs.Replies.{Answered, reply_json}

-- a reply has no float, and nothing in it nests
abbrev pub RepliesAreFlat : Type 0
RepliesAreFlat = (tag : Option AskedTag) (a : Answered) → (has_float (reply_json tag a) ≡ false) × (depth (reply_json tag a) ≤ 1)
