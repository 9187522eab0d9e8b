use Rattle.std.proofs.Common.{None, inl, inr, refl}
use Rattle.std.proofs.lemmas.Result.{err_from_is_err_and}
use Rattle.cpm_script.specs.Recording.{recorded}
use Rattle.cpm_host.specs.Program.{play_of}
use Rattle.cpm_host.proofs.ProgramLemmas.{played_cued}
use Rattle.cpm_host.proofs.program.play_cued.Goals as goal

pub returns-in_err-live-clause-refusal : goal.returns-in_err-live-clause-refusal
returns-in_err-live-clause-refusal g c =
    let p = err_from_is_err_and c.from_residual.result c.from_residual.ensures.1 in
    rw (p.1, p.2) (λ typing. inl (record {
      error = c.in_err-live.field-0.0;
      told = refl;
      now = c.play_cues.new.machine;
      short = c.in_err-live.ensures.refused;
      unread = refl;
    }))

pub returns-in_err-saved-clause-refusal : goal.returns-in_err-saved-clause-refusal
returns-in_err-saved-clause-refusal g c =
    let given = c.in_ok-live.ensures.given in
    let p = err_from_is_err_and c.from_residual-in_err-saved.result c.from_residual-in_err-saved.ensures.1 in
    rw (p.1, p.2) (λ typing. inr (record {
      play = play_of c.play_cues.new.machine c.in_ok-live.live None None;
      is_played = played_cued _ _ c.play_cues.new.machine _ _ c.in_ok-live.live _ _ _ _ None typing (record {
        within = c.in_ok-live.ensures.within;
        keys = c.in_ok-live.ensures.keys;
        given = given;
        text = c.in_ok-live.ensures.text;
        list = c.in_ok-live.ensures.list;
        ending = c.in_ok-live.ensures.ending;
        lines = c.in_ok-live.ensures.record;
        ends = c.in_ok-live.ensures.ends;
        waits = c.in_ok-live.ensures.waits;
        replays = record {
          recording = c.recordings_give_their_keys_again.ensures c.in_ok-live.live.keys.items given.typed;
          script = c.scripts_are_recordings.ensures.few (recorded c.in_ok-live.live.keys.items) c.in_ok-live.live.keys.items
              (c.recordings_give_their_keys_again.ensures c.in_ok-live.live.keys.items given.typed);
        };
      });
      asked = c.in_err-saved.ensures.refused;
      told = refl;
    }))

pub returns-clause-played : goal.returns-clause-played
returns-clause-played g c =
    let given = c.in_ok-live.ensures.given in
    rw c.play_of.ensures (λ typing. played_cued _ _ c.play_cues.new.machine _ _ c.in_ok-live.live _ _ _ _ c.in_ok-saved.saved typing (record {
      within = c.in_ok-live.ensures.within;
      keys = c.in_ok-live.ensures.keys;
      given = given;
      text = c.in_ok-live.ensures.text;
      list = c.in_ok-live.ensures.list;
      ending = c.in_ok-live.ensures.ending;
      lines = c.in_ok-live.ensures.record;
      ends = c.in_ok-live.ensures.ends;
      waits = c.in_ok-live.ensures.waits;
      replays = record {
        recording = c.recordings_give_their_keys_again.ensures c.in_ok-live.live.keys.items given.typed;
        script = c.scripts_are_recordings.ensures.few (recorded c.in_ok-live.live.keys.items) c.in_ok-live.live.keys.items
            (c.recordings_give_their_keys_again.ensures c.in_ok-live.live.keys.items given.typed);
      };
    }))
