-- The members of a reply as the code has them. All of it is own.
use Rattle.serde_json.specs.Data.{Data, boolean, string}
use Rattle.cpm_protocol.specs.Replies.{Member, bytes_data, number_data}
use Rattle.cpm_protocol.specs.declared.writing.Leaf.{Leaf}
use Rattle.cpm_protocol.specs.declared.writing.Leaf.TheVariants as leaf
use Rattle.cpm_protocol.specs.declared.writing.ReplyMember.{ReplyMember}

abbrev pub leaf_data : Leaf → Data
leaf_data (leaf.Number n) = number_data n
leaf_data (leaf.Truth b) = boolean b
leaf_data (leaf.Text t) = string t.now
leaf_data (leaf.Bytes bytes) = bytes_data bytes.now

abbrev pub member_seen : ReplyMember → Member
member_seen e = (e.name.now, leaf_data e.leaf)
