-- The laws of sessions that go on from a saving.
use Rattle.std.proofs.Common.{◌≡◌, ◌∙◌, ◌+◌, ◌++◌, ℕ, List, [], Option, None, Some, Result, Ok, refl, sym, ap, ap₂, slice_get}
use Rattle.std.specs.Prelude.{IfSome, String, option_map}
use Rattle.std.specs.declared.alloc.Global.{Global}
use Rattle.std.proofs.lemmas.Option.{none-some, same_Some, slice_get-map}
use Rattle.cpm_batch.specs.Inputs.{Restores}
use Rattle.cpm_batch.specs.Outputs.{SessionOutput}
use Rattle.cpm_drives.specs.Disks.{images_of}
use Rattle.cpm_geom.specs.Disk.{Disk}
use Rattle.cpm_machine.specs.Calls.{state_behind}
use Rattle.cpm_machine.specs.MachineState.{MachineState}
use Rattle.cpm_machine.specs.Saving.{Saving, restored, saving_with}
use Rattle.cpm_saved.specs.declared.part.SavingDamage.{SavingDamage}
use Rattle.cpm_machine.specs.SystemDigest.{system_digest}
use Rattle.cpm_play.specs.Live.{AreBy}
use Rattle.cpm_play.specs.Playing.{IsInOrder, alone_by, coming_keys, state_left}
use Rattle.cpm_play.proofs.AloneLemmas.{keyless}
use Rattle.cpm_play.proofs.RunLemmas.{bare, behind-bare}
use Rattle.cpm_run.proofs.ComingLemmas.{coming_by, coming_enough}
use Rattle.cpm_run.proofs.EndingLemmas.{ending_same}
use Rattle.cpm_run.proofs.LaterLemmas.{goes_on}
use Rattle.cpm_run.specs.Laws.{GoesOnAlone, GoesOnBehind, GoesOnFrom, IsBothInOne, SavedFileGoesOn, SavedRunGoesOn, later_keys}
use Rattle.cpm_run.specs.Run.{IsRestorable, files_left, left_of, run_of, saving_over, session_output, start_of}
use Rattle.cpm_run.specs.Settled.{SettledSession, start_by, starts_of}

-- ---- one session

-- a state with bytes put in front is both in one
pub both_in_one : (console list : List ℕ) (first second whole : MachineState) → first.session.console.screen ≡ console → first.session.console.printer ≡ list
    → state_behind console list second ≡ whole → IsBothInOne first second whole
both_in_one console list first second whole text lines is = record {
  screen = ap (λ (s : MachineState). s.session.console.screen) (sym is) ∙ ap (λ xs. xs ++ second.session.console.screen) (sym text);
  printer = ap (λ (s : MachineState). s.session.console.printer) (sym is) ∙ ap (λ xs. xs ++ second.session.console.printer) (sym lines);
  ending = record {
    count = ap (λ (s : MachineState). s.count) (sym is);
    ended = ap (λ (s : MachineState). s.ended) (sym is);
    regs = ap (λ (s : MachineState). s.session.regs) (sym is);
    memory = ap (λ (s : MachineState). s.memory) (sym is);
    disks = ap (λ (s : MachineState). s.session.disks) (sym is);
  };
  state = ap bare (sym is);
}

pub goes_on-behind : GoesOnBehind
goes_on-behind system early later n m console list start saved by same = goes_on system early n console list start saved by same later m

pub goes_on-alone : GoesOnAlone
goes_on-alone system early later n m start by =
    let first : MachineState = alone_by system early n start in
    let text = first.session.console.screen in
    let lines = first.session.console.printer in
    both_in_one text lines first (alone_by system later m (state_left system early n start)) (alone_by system (early ++ later_keys n later) (n + m) start) refl refl
    (goes_on system early n text lines start (state_left system early n start) by (behind-bare first) later m)

-- ---- a session of a run

-- what two such sessions come to
runs-as-one : (system : Disk) (first second : List SettledSession) (i j : SettledSession) → IsInOrder 0 i.keys → start_of second j ≡ left_of system first i →
    IsBothInOne (run_of system first i) (run_of system second j)
    (alone_by system (coming_keys system (start_of first i) i.steps i.keys ++ later_keys i.steps j.keys) (i.steps + j.steps) (start_of first i))
unfolding run_of left_of
runs-as-one system first second i j order begins =
    let start = start_of first i in
    let came = coming_keys system start i.steps i.keys in
    let by : AreBy i.steps came = coming_by system start i.steps [] i.keys in
    let enough : keyless (alone_by system i.keys i.steps start) ≡ keyless (alone_by system came i.steps start) = coming_enough system start i.steps i.keys order in
    let done : MachineState = alone_by system came i.steps start in
    let text = done.session.console.screen in
    let lines = done.session.console.printer in
    both_in_one text lines (alone_by system i.keys i.steps start) (alone_by system j.keys j.steps (start_of second j))
    (alone_by system (came ++ later_keys i.steps j.keys) (i.steps + j.steps) start)
    (ap (λ (s : MachineState). s.session.console.screen) enough) (ap (λ (s : MachineState). s.session.console.printer) enough)
    (ap (λ s. state_behind text lines (alone_by system j.keys j.steps s)) begins
    ∙ goes_on system came i.steps text lines start (state_left system came i.steps start) by (behind-bare done) j.keys j.steps)

-- the outputs of a session at a place
output-there : (system : Disk) (inputs : List SettledSession) (place : ℕ) (i : SettledSession) (o : SessionOutput) → slice_get inputs place ≡ Some i → slice_get (files_left system inputs) place ≡ Some o
    → session_output system i.session (run_of system inputs i) (left_of system inputs i) ≡ o
output-there system inputs place i o at left =
    same_Some (session_output system i.session (run_of system inputs i) (left_of system inputs i)) o
    (ap (option_map (λ (x : SettledSession). session_output system x.session (run_of system inputs x) (left_of system inputs x))) (sym at)
    ∙ sym (slice_get-map (λ (x : SettledSession). session_output system x.session (run_of system inputs x) (left_of system inputs x)) inputs place) ∙ left)

-- where a file is named for a saving, its bytes are that saving's
saved-is : (o : Option (String Global)) (made bytes : List ℕ) → option_map (λ name. made) o ≡ Some bytes → made ≡ bytes
saved-is None made bytes is = absurd (none-some bytes is)
saved-is (Some name) made bytes is = same_Some made bytes is

saved-has : {P : Type 0} (o : Option (String Global)) (made bytes : List ℕ) → option_map (λ name. made) o ≡ Some bytes → IfSome o (λ name. P) → P
saved-has None made bytes is named = absurd (none-some bytes is)
saved-has (Some name) made bytes is named = named

same-saving : (x y : Saving) (r s : Result Saving SavingDamage) → r ≡ s → r ≡ Ok x → s ≡ Ok y → x ≡ y
same-saving x y r s same a b = cc

begins-by : (system : Disk) (first second : List SettledSession) (i j : SettledSession) → j.start ≡ Restores (saving_with (system_digest system) (left_of system first i)) → start_of second j ≡ left_of system first i
begins-by system first second i j is = ap (start_by (starts_of second)) is

pub saved-goes_on : SavedRunGoesOn
saved-goes_on system first second place other i j before after one two order begins =
    let here : session_output system i.session (run_of system first i) (left_of system first i) ≡ before = output-there system first place i before one.there one.files in
    let there : session_output system j.session (run_of system second j) (left_of system second j) ≡ after = output-there system second other j after two.there two.files in
    let both = runs-as-one system first second i j order (begins-by system first second i j begins) in
    record {
      console = both.screen ∙ ap₂ (λ (xs ys : List ℕ). xs ++ ys) (ap (λ (o : SessionOutput). o.console) here) (ap (λ (o : SessionOutput). o.console) there);
      list = both.printer ∙ ap₂ (λ (xs ys : List ℕ). xs ++ ys) (ap (λ (o : SessionOutput). o.list) here) (ap (λ (o : SessionOutput). o.list) there);
      drives = ap images_of both.ending.disks ∙ ap (λ (o : SessionOutput). o.drives) there;
      ending = ending_same (run_of system second j) (alone_by system (coming_keys system (start_of first i) i.steps i.keys ++ later_keys i.steps j.keys) (i.steps + j.steps) (start_of first i)) both.ending;
    }

saving-there : (system : Disk) (first : List SettledSession) (i j : SettledSession) (before : SessionOutput) → session_output system i.session (run_of system first i) (left_of system first i) ≡ before
    → IsRestorable system first i → GoesOnFrom before j → j.start ≡ Restores (saving_with (system_digest system) (left_of system first i))
saving-there system first i j before is restorable from =
    let whole : restored (saving_over system (left_of system first i)) ≡ Ok (saving_with (system_digest system) (left_of system first i)) =
    saved-has i.session.save (saving_over system (left_of system first i)) from.bytes (ap (λ (o : SessionOutput). o.saved) is ∙ from.saved) restorable in
    let bytes : saving_over system (left_of system first i) ≡ from.bytes =
    saved-is i.session.save (saving_over system (left_of system first i)) from.bytes (ap (λ (o : SessionOutput). o.saved) is ∙ from.saved) in
    let saving : saving_with (system_digest system) (left_of system first i) ≡ from.saving =
    same-saving (saving_with (system_digest system) (left_of system first i)) from.saving (restored (saving_over system (left_of system first i))) (restored from.bytes) (ap restored bytes) whole from.read in
    from.start ∙ ap Restores (sym saving)

pub file-goes_on : SavedFileGoesOn
file-goes_on system first second place other i j before after one two order whole from =
    saved-goes_on system first second place other i j before after one two order
    (saving-there system first i j before (output-there system first place i before one.there one.files) whole from)
