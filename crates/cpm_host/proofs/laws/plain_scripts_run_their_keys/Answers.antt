use Rattle.std.proofs.Common.{◌≡◌, ◌∙◌, ◌≤◌, ap, arith, subst, Bool, Result, List, ℕ, length, map, Ok}
use Rattle.std.proofs.lemmas.Result.{IfOk-at_ok}
use Rattle.std.specs.Io.KnownBytes.{Appends}
use Rattle.cpm_drives.specs.Disks.{images_of}
use Rattle.cpm_script.specs.Cues.{Counted, cue_text, cues}
use Rattle.cpm_script.specs.Laws.{MeansTheSame}
use Rattle.cpm_script.specs.declared.fault.LineFault.{LineFault}
use Rattle.cpm_script.specs.declared.script.Key.{Key}
use Rattle.cpm_play.specs.Cued.{HasEndedCued}
use Rattle.cpm_play.specs.Laws.{IsSameRun}
use Rattle.cpm_play.specs.Playing.{IsInOrder, alone_by}
use Rattle.cpm_run.proofs.EndingLemmas.{ending_same}
use Rattle.cpm_host.proofs.laws.plain_scripts_run_their_keys.Goals as goal

pub returns : goal.returns
returns c system start steps text keys cued t io fresh reads says goes played =
    let rehearsed = played.rehearsed in
    let order = IfOk-at_ok (λ (ks : List Key). IsInOrder 0 ks × (length ks ≤ 4096)) reads (c.scripts_in_order.ensures text) in
    let means : cues text ≡ Ok (map Counted keys) = subst (λ (r : Result (List Key) (ℕ × LineFault)). MeansTheSame r (cues text)) reads (c.plain_scripts.ensures text) in
    let said : map cue_text cued.cues.now ≡ map Counted keys = cc in
    let ends = subst (λ (b : Bool). HasEndedCued system start steps cued.waits_from b t.keys.items t.steps (alone_by system t.keys.items t.steps start)) goes rehearsed.ends in
    let same : IsSameRun (alone_by system keys steps start) (alone_by system t.keys.items t.steps start) =
    c.plain_cues_do_as_their_keys.ensures system start steps cued.waits_from t.steps keys t.keys.items cued.cues.now said order.0
    (c.few_keys_have_room.ensures system start keys (let none = ap length fresh.keys in let few = order.1 in omega (arith, none, few))) rehearsed.keys rehearsed.within ends in
    let now = same.ending in
    record {
      text = subst (λ (xs : List ℕ). Appends io.before.console io.written.console xs) same.screen played.text;
      list = subst (λ (xs : List ℕ). Appends io.before.list io.written.list xs) same.printer played.list;
      ending = rehearsed.ending ∙ ending_same (alone_by system keys steps start) (alone_by system t.keys.items t.steps start) now;
      drives = rehearsed.drives ∙ ap images_of now.disks;
    }
