-- The replies that the code makes. All of it is own.
use Rattle.cpm_protocol.specs.Replies.{Answered, Text, TurnAnswer, Turned, reply_seen}
use Rattle.cpm_serve.specs.declared.owned.OwnedReply.{OwnedReply}
use Rattle.cpm_serve.specs.declared.owned.OwnedReply.TheVariants as answer
use Rattle.cpm_serve.specs.declared.owned.OwnedTurn.{OwnedTurn}

abbrev pub owned_turn : OwnedTurn → TurnAnswer
owned_turn t = record {
  accepted = t.accepted;
  executed = t.executed;
  why = t.why;
  text = t.text.items;
  list = t.list.items;
  waiting = t.waiting;
  end = t.end;
}

abbrev pub owned_answer : OwnedReply → Answered
owned_answer (answer.Plain reply) = reply_seen reply
owned_answer (answer.Bytes bytes) = Text bytes.items
owned_answer (answer.Turned turn) = Turned (owned_turn turn)
