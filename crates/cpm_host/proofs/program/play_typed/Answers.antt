use Rattle.std.proofs.Common.{None, Some, inl, inr, refl}
use Rattle.std.proofs.lemmas.Result.{err_from_is_err_and}
use Rattle.cpm_script.specs.Recording.{recorded}
use Rattle.cpm_host.specs.Program.{play_of}
use Rattle.cpm_host.proofs.ProgramLemmas.{played_typed}
use Rattle.cpm_host.proofs.program.play_typed.Goals as goal

pub returns-in_err-play-clause-refusal : goal.returns-in_err-play-clause-refusal
returns-in_err-play-clause-refusal g c =
    let p = err_from_is_err_and c.from_residual.result c.from_residual.ensures.1 in
    rw (p.1, p.2) (inl (record { error = c.in_err-play.field-0.0; told = refl; now = c.play_live.new.machine; short = c.in_err-play.ensures.refused }))

pub returns-in_err-saved-clause-refusal : goal.returns-in_err-saved-clause-refusal
returns-in_err-saved-clause-refusal g c =
    let given = c.in_ok-play.ensures.keys in
    let p = err_from_is_err_and c.from_residual-in_err-saved.result c.from_residual-in_err-saved.ensures.1 in
    rw (p.1, p.2) (inr (record {
      play = play_of c.play_live.new.machine c.in_ok-play.play.live (Some c.in_ok-play.play.end) None;
      is_played = played_typed _ _ c.play_live.new.machine _ _ c.in_ok-play.play _ _ _ _ _ _ None (record {
        within = c.in_ok-play.ensures.within;
        given = given;
        played = c.in_ok-play.ensures.played;
        text = c.in_ok-play.ensures.text;
        list = c.in_ok-play.ensures.list;
        ending = c.in_ok-play.ensures.ending;
        lines = c.in_ok-play.ensures.record;
        waits = c.in_ok-play.ensures.waits;
        replays = record {
          recording = c.recordings_give_their_keys_again.ensures c.in_ok-play.play.live.keys.items given.typed;
          script = c.scripts_are_recordings.ensures.few (recorded c.in_ok-play.play.live.keys.items) c.in_ok-play.play.live.keys.items
              (c.recordings_give_their_keys_again.ensures c.in_ok-play.play.live.keys.items given.typed);
        };
      });
      asked = c.in_err-saved.ensures.refused;
      told = refl;
    }))

pub returns-clause-played : goal.returns-clause-played
returns-clause-played g c =
    let given = c.in_ok-play.ensures.keys in
    rw c.play_of.ensures (played_typed _ _ c.play_live.new.machine _ _ c.in_ok-play.play _ _ _ _ _ _ c.in_ok-saved.saved (record {
      within = c.in_ok-play.ensures.within;
      given = given;
      played = c.in_ok-play.ensures.played;
      text = c.in_ok-play.ensures.text;
      list = c.in_ok-play.ensures.list;
      ending = c.in_ok-play.ensures.ending;
      lines = c.in_ok-play.ensures.record;
      waits = c.in_ok-play.ensures.waits;
      replays = record {
        recording = c.recordings_give_their_keys_again.ensures c.in_ok-play.play.live.keys.items given.typed;
        script = c.scripts_are_recordings.ensures.few (recorded c.in_ok-play.play.live.keys.items) c.in_ok-play.play.live.keys.items
            (c.recordings_give_their_keys_again.ensures c.in_ok-play.play.live.keys.items given.typed);
      };
    }))
