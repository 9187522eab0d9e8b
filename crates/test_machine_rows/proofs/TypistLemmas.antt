-- A key of one who doesn't wait, as it is heard.
use Rattle.std.proofs.Common.{◌≡◌, ◌≢◌, ℕ, ◌<◌, Bool, true, false, None, refl, arith}
use Rattle.std.proofs.lemmas.Bool.Decides.{nat_tests}
use Rattle.std.specs.Char.{is_ascii}
use Rattle.cpm_play.proofs.TypingLemmas.{read_key, read_none}
use Rattle.cpm_play.specs.Typing.{end_key}
use Rattle.cpm_play.specs.Typist.{CanBeHeard, IsHeard, TypingState}
use Rattle.cpm_play.specs.declared.typist.Heard.TheVariants as heard
use Rattle.cpm_play.specs.declared.typist.KeyNeed.{KeyNeed}
use Rattle.cpm_play.specs.declared.typist.KeyNeed.TheVariants.{Pending, Possible, Wanted}

-- nothing is known of what is typed, but whether a script was broken in on
abbrev pub unknown : (has_broken_in : Bool) → TypingState
unknown has_broken_in = record { is_patient = false; unread = None; heard = None; has_broken_in = has_broken_in }

pub key_is_heard : (count byte : ℕ) (broke breaks : Bool) → breaks ≡ broke → byte < 128 → byte ≢ end_key
    → IsHeard count (unknown broke) (unknown breaks) (heard.Key byte)
key_is_heard count byte broke breaks same low other =
    let ascii : is_ascii byte ≡ true = grind (arith, nat_tests) in
    record { said = tt; read = read_key None None None byte (read_none None) tt other ascii; stays = same }

pub key_fits : (need : KeyNeed) (byte : ℕ) → need ≢ Pending → CanBeHeard need (heard.Key byte)
key_fits Pending byte other = absurd (other refl)
key_fits Possible byte other = tt
key_fits Wanted byte other = tt
