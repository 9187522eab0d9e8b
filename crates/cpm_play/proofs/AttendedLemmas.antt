-- One who attends a script: what is known of it stays, but whether it breaks in.
use Rattle.std.proofs.Common.{◌∙◌, refl}
use Rattle.cpm_play.specs.Typist.{HasAttended, TypingState}

pub attended-none : (t : TypingState) → HasAttended t t
attended-none t = record { nature = refl; unread = refl; heard = refl; stays = λ over. over }

pub attended-more : (a b c : TypingState) → HasAttended a b → HasAttended b c → HasAttended a c
attended-more a b c first second = record {
  nature = second.nature ∙ first.nature;
  unread = second.unread ∙ first.unread;
  heard = second.heard ∙ first.heard;
  stays = λ over. second.stays (first.stays over);
}
