-- What is reported and written once sessions were played.
use Rattle.std.proofs.Common.{◌≡◌, ◌≢◌, ◌∙◌, ◌≤◌, ◌<◌, ◌+◌, ℕ, zero, suc, List, [], ◌∷◌, ◌++◌, Option, Some, None, length, map, take, drop, get_or, ap, subst, sym, refl, arith, append-nil}
use Rattle.std.specs.Prelude.{Bool, IfSome, Ok, String, is_some, option_map, string_bytes, true}
use Rattle.std.specs.List.{All}
use Rattle.std.proofs.lemmas.List.Elements.{All-nil, All-push}
use Rattle.std.specs.declared.alloc.Global.{Global}
use Rattle.std.proofs.lemmas.List.{drop_all, length-map, map-append, take_all}
use Rattle.cpm_batch.specs.Outputs.{SessionOutput, left_by}
use Rattle.cpm_batch.specs.declared.output.SessionFiles.{SessionFiles}
use Rattle.cpm_config.specs.declared.config.SessionConfig.{SessionConfig}
use Rattle.cpm_drives.specs.Disks.{images_of}
use Rattle.cpm_geom.specs.Disk.{Disk}
use Rattle.cpm_slots.specs.Host.{Host, SlotState, slot_at}
use Rattle.cpm_machine.specs.MachineState.{MachineState}
use Rattle.cpm_machine.specs.Saving.{restored, saving_with}
use Rattle.cpm_machine.specs.SystemDigest.{system_digest}
use Rattle.cpm_play.specs.Players.{AllDiffer, AllPlayed, ids_of}
use Rattle.cpm_play.specs.ScriptedSlots.{IsNone}
use Rattle.cpm_play.specs.Playing.{IsPlayed, coming_keys, state_left}
use Rattle.cpm_play.specs.declared.player.Player.{Player}
use Rattle.cpm_play.specs.declared.player.Player.TheVariants.{Playing}
use Rattle.cpm_play.specs.declared.scripted_slot.ScriptedSlot.{ScriptedSlot}
use Rattle.cpm_run.proofs.PlayLemmas.{all_ended}
use Rattle.cpm_run.proofs.EndingLemmas.{ending_same}
use Rattle.cpm_run.specs.Ending.{ending_of}
use Rattle.cpm_run.specs.declared.ending.Ending.{Ending}
use Rattle.cpm_run.specs.Playing.{AllEnded, AreFinished, HavePlayers, IsClosed, files_by, report_by, saved_bytes, saving_if}
use Rattle.cpm_run.specs.Run.{IsRestorable, ReportEntry, files_left, left_of, session_output, report_view, reported_of, reports_of, run_of, saving_over, start_of}
use Rattle.cpm_run.specs.declared.finish.EndedSlot.{EndedSlot}
use Rattle.cpm_run.specs.declared.report.SessionReport.{SessionReport}
use Rattle.cpm_run.specs.Settled.{SettledSession}

-- ---- one session

abbrev reported : SessionConfig → Ending → ℕ → ReportEntry
reported s ending bytes = record { name = string_bytes s.name; ending = ending; bytes = bytes }

report_is : (system : Disk) (is : List SettledSession) (i : SettledSession) (s : SessionConfig) (left : EndedSlot) (last : MachineState) → i.session ≡ s → left.ending ≡ ending_of last
    → IsPlayed system i.keys i.steps (start_of is i) last left.slot.console.items left.slot.list.items → report_by s left ≡ reported_of i.session (run_of system is i)
unfolding run_of
report_is system is i s left last same ended played =
    let t = run_of system is i in
    let ends = ending_same t last (record { count = played.count; ended = played.ended; regs = played.regs; memory = played.memory; disks = played.disks }) in
    ap (λ (x : SessionConfig). reported x left.ending (length left.slot.console.items)) (sym same)
    ∙ ap (λ (e : Ending). reported i.session e (length left.slot.console.items)) (ended ∙ ends)
    ∙ ap (λ (xs : List ℕ). reported i.session (ending_of t) (length xs)) played.screen

abbrev output : SessionConfig → List ℕ → List ℕ → List (Option Disk) → Option (List ℕ) → SessionOutput
output s console list drives saved = record { session = s; console = console; list = list; drives = drives; saved = saved }

-- it is saved where a file is named for that
saved_named : (system : Disk) (o : Option (String Global)) (s : MachineState) → saving_if (is_some o) system s ≡ option_map (λ name. saving_over system s) o
saved_named system None s = refl
saved_named system (Some name) s = refl

files_is : (system : Disk) (is : List SettledSession) (i : SettledSession) (s : SessionConfig) (left : EndedSlot) (last : MachineState) → i.session ≡ s → left.drives ≡ images_of last.session.disks
    → saved_bytes left.saved ≡ saving_if (is_some s.save) system last → IsPlayed system i.keys i.steps (start_of is i) last left.slot.console.items left.slot.list.items
    → files_by s left ≡ session_output system i.session (run_of system is i) (left_of system is i)
unfolding run_of left_of
files_is system is i s left last same drives saved played =
    let t = run_of system is i in
    let named : saved_bytes left.saved ≡ option_map (λ name. saving_over system (left_of system is i)) i.session.save =
    saved ∙ ap (λ (x : SessionConfig). saving_if (is_some x.save) system last) (sym same) ∙ saved_named system i.session.save last
    ∙ ap (λ (x : MachineState). option_map (λ name. saving_over system x) i.session.save) played.state in
    ap (λ (x : SessionConfig). output x left.slot.console.items left.slot.list.items left.drives (saved_bytes left.saved)) (sym same)
    ∙ ap (λ (xs : List ℕ). output i.session xs left.slot.list.items left.drives (saved_bytes left.saved)) played.screen
    ∙ ap (λ (xs : List ℕ). output i.session t.session.console.screen xs left.drives (saved_bytes left.saved)) played.printer
    ∙ ap (λ (ds : List (Option Disk)). output i.session t.session.console.screen t.session.console.printer ds (saved_bytes left.saved)) (drives ∙ ap images_of played.disks)
    ∙ ap (λ (o : Option (List ℕ)). output i.session t.session.console.screen t.session.console.printer (images_of t.session.disks) o) named

-- one that is saved goes on from its saving
if_named : {P : Type 0} (o : Option (String Global)) → (is_some o ≡ true → P) → IfSome o (λ name. P)
if_named None h = tt
if_named (Some name) h = h refl

restorable : (system : Disk) (is : List SettledSession) (i : SettledSession) (s : SessionConfig) (last : MachineState) → i.session ≡ s
    → (is_some s.save ≡ true → restored (saving_over system last) ≡ Ok (saving_with (system_digest system) last)) → last ≡ state_left system (coming_keys system (start_of is i) i.steps i.keys) i.steps (start_of is i)
    → IsRestorable system is i
unfolding left_of
restorable system is i s last same restores left =
    if_named i.session.save
    (λ yes. subst (λ (t : MachineState). restored (saving_over system t) ≡ Ok (saving_with (system_digest system) t)) left (restores (sym (ap (λ (x : SessionConfig). is_some x.save) same) ∙ yes)))

-- ---- one after another

-- the input in turn, and the place behind it
record IsAt (is : List SettledSession) (k next : ℕ) (s : SessionConfig) : Type 0 where
  input : SettledSession
  first : drop k is ≡ input ∷ drop next is
  more : take next is ≡ take k is ++ input ∷ []
  session : input.session ≡ s

later : (i : SettledSession) (is : List SettledSession) (k : ℕ) (s : SessionConfig) → IsAt is k (suc k) s → IsAt (i ∷ is) (suc k) (suc (suc k)) s
later i is k s at = record { input = at.input; first = at.first; more = ap (λ (xs : List SettledSession). i ∷ xs) at.more; session = at.session }

there : (is : List SettledSession) (sessions : List SessionConfig) (k : ℕ) (s : SessionConfig) → map (λ i. i.session) is ≡ sessions → k < length sessions → s ≡ get_or sessions k s → IsAt is k (suc k) s
there [] sessions k s same below found = absurd (let none : length sessions ≡ 0 = ap length (sym same) in omega (arith, below, none))
there (i ∷ is) [] k s same below found = absurd (omega (arith, below))
there (i ∷ is) (t ∷ ts) zero s same below found = record { input = i; first = refl; more = refl; session = let h : i.session ≡ t = cc in h ∙ sym found }
there (i ∷ is) (t ∷ ts) (suc k) s same below found = later i is k s (there is ts k s (let rest : map (λ j. j.session) is ≡ ts = cc in rest) (omega (arith, below)) found)

is_at : (is : List SettledSession) (sessions : List SessionConfig) (k : ℕ) (s : SessionConfig) → map (λ i. i.session) is ≡ sessions → k < length sessions → s ≡ get_or sessions k s → IsAt is k (k + 1) s
is_at is sessions k s same below found =
    let next : suc k ≡ k + 1 = omega arith in
    subst (λ (n : ℕ). IsAt is k n s) next (there is sessions k s same below found)

not_both : (x : EndedSlot) → None ≡ Some x → ⊥
not_both x same = cc

one_left : (x y : EndedSlot) (r : Option EndedSlot) → r ≡ Some x → r ≡ Some y → x ≡ y
one_left x y r a b = cc

pub none_there : (r : Option EndedSlot) → ((x : EndedSlot) → r ≡ Some x → ⊥) → r ≡ None
none_there None none = refl
none_there (Some x) none = absurd (none x refl)

-- the other slots stay as they were
ended_kept : (system : Disk) (all : List SettledSession) (p : ScriptedSlot) (old new : List SlotState) (is : List SettledSession) (ps : List Player) → ((id : ℕ) → id ≢ p.id.0 → slot_at id new ≡ slot_at id old)
    → IsNone p.id.0 (ids_of ps) → AllEnded system all old is ps → AllEnded system all new is ps
ended_kept system all p old new [] [] others apart ended = tt
ended_kept system all p old new [] (q ∷ ps) others apart ended = absurd ended
ended_kept system all p old new (i ∷ is) [] others apart ended = absurd ended
ended_kept system all p old new (i ∷ is) (q ∷ ps) others apart ended =
    let e = ended.0 in
    let none = subst (λ (x : Player). IsNone p.id.0 (ids_of (x ∷ ps))) e.plays apart in
    (record { slot = e.slot; plays = e.plays; last = e.last; stands = others e.slot.id.0 none.0 ∙ e.stands; played = e.played }, ended_kept system all p old new is ps others none.1 ended.1)

abbrev pub output_by : Disk → List SettledSession → SettledSession → SessionOutput
output_by system is i = session_output system i.session (run_of system is i) (left_of system is i)

-- the first of the sessions are reported, and the rest have ended
pub record IsFinishedTo (system : Disk) (is : List SettledSession) (k : ℕ) (now : List SlotState) (rest : List Player) (reports : List SessionReport) (files : List SessionFiles) : Type 0 where
  pub differ : AllDiffer rest
  pub ended : AllEnded system is now (drop k is) rest
  pub rows : map report_view reports ≡ map (λ i. reported_of i.session (run_of system is i)) (take k is)
  pub outputs : map left_by files ≡ map (output_by system is) (take k is)
  pub savings : All (IsRestorable system is) (take k is)

-- in a host with this system drive, at first and now
pub record IsFinishing (sessions : List SessionConfig) (k : ℕ) (start now : Host) (players rest : List Player) (reports : List SessionReport) (files : List SessionFiles) : Type 0 where
  pub system : now.system ≡ start.system
  pub to : (is : List SettledSession) → map (λ i. i.session) is ≡ sessions → AllEnded start.system is start.slots is players → IsFinishedTo start.system is k now.slots rest reports files

-- what closing the next slot says
abbrev pub ClosesNextSlot : (is_saved : Bool) → Host → Host → List Player → Option EndedSlot → List Player → Type 0
ClosesNextSlot is_saved old new rest r left = (p : ScriptedSlot) (ps : List Player) (s : MachineState) → rest ≡ Playing p ∷ ps → slot_at p.id.0 old.slots ≡ Some s → IsClosed p ps s is_saved old new r left

module _ (sessions : List SessionConfig) (k : ℕ) (s : SessionConfig) (start old new : Host) (players : List Player) (r : Option EndedSlot) (left : List Player) (below : k < length sessions) (at : s ≡ get_or sessions k s) where
  finish_one : (ended : EndedSlot) (rest : List Player) (reports : List SessionReport) (files : List SessionFiles) (report : SessionReport) (file : SessionFiles) (is : List SettledSession)
      → map (λ i. i.session) is ≡ sessions → old.system ≡ start.system → IsFinishedTo start.system is k old.slots rest reports files → ClosesNextSlot (is_some s.save) old new rest r left → r ≡ Some ended
      → report_view report ≡ report_by s ended → left_by file ≡ files_by s ended → IsFinishedTo start.system is (k + 1) new.slots left (reports ++ report ∷ []) (files ++ file ∷ [])
  finish_one ended rest reports files report file is same drive h closing got one other =
      let a = is_at is sessions k s same below at in
      go a rest h.differ (subst (λ (xs : List SettledSession). AllEnded start.system is old.slots xs rest) a.first h.ended) closing
    where
      go : (a : IsAt is k (k + 1) s) (now : List Player) → AllDiffer now → AllEnded start.system is old.slots (a.input ∷ drop (k + 1) is) now → ClosesNextSlot (is_some s.save) old new now r left
          → IsFinishedTo start.system is (k + 1) new.slots left (reports ++ report ∷ []) (files ++ file ∷ [])
      go a [] differ all close = absurd all
      go a (x ∷ ps) differ all close =
          let e = all.0 in
          let p = e.slot in
          let apart : AllDiffer (Playing p ∷ ps) = subst (λ (y : Player). AllDiffer (y ∷ ps)) e.plays differ in
          let c = close p ps e.last (ap (λ (y : Player). y ∷ ps) e.plays) e.stands in
          let it : c.left ≡ ended = one_left c.left ended r c.result got in
          let played : IsPlayed start.system a.input.keys a.input.steps (start_of is a.input) e.last ended.slot.console.items ended.slot.list.items =
          subst (λ (q : ScriptedSlot). IsPlayed start.system a.input.keys a.input.steps (start_of is a.input) e.last q.console.items q.list.items) (sym c.slot ∙ ap (λ (x : EndedSlot). x.slot) it) e.played in
          let ending : ended.ending ≡ ending_of e.last = ap (λ (x : EndedSlot). x.ending) (sym it) ∙ c.ending in
          let drives : ended.drives ≡ images_of e.last.session.disks = ap (λ (x : EndedSlot). x.drives) (sym it) ∙ c.drives in
          let saved : saved_bytes ended.saved ≡ saving_if (is_some s.save) start.system e.last =
          ap (λ (x : EndedSlot). saved_bytes x.saved) (sym it) ∙ c.saved ∙ ap (λ (d : Disk). saving_if (is_some s.save) d e.last) drive in
          let played_last : e.last ≡ state_left start.system (coming_keys start.system (start_of is a.input) a.input.steps a.input.keys) a.input.steps (start_of is a.input) = e.played.state in
          let row : report_view report ≡ reported_of a.input.session (run_of start.system is a.input) = one ∙ report_is start.system is a.input s ended e.last a.session ending played in
          let out : left_by file ≡ output_by start.system is a.input = other ∙ files_is start.system is a.input s ended e.last a.session drives saved played in
          record {
            differ = subst (λ (xs : List Player). AllDiffer xs) (sym c.others_play) apart.1;
            ended = subst (λ (xs : List Player). AllEnded start.system is new.slots (drop (k + 1) is) xs) (sym c.others_play)
                (ended_kept start.system is p old.slots new.slots (drop (k + 1) is) ps c.others apart.0 all.1);
            rows = map-append report_view reports (report ∷ []) ∙ ap (λ xs. xs ++ report_view report ∷ []) h.rows ∙ ap (λ x. map (λ i. reported_of i.session (run_of start.system is i)) (take k is) ++ x ∷ []) row
                ∙ sym (map-append (λ i. reported_of i.session (run_of start.system is i)) (take k is) (a.input ∷ [])) ∙ ap (map (λ i. reported_of i.session (run_of start.system is i))) (sym a.more);
            outputs = map-append left_by files (file ∷ []) ∙ ap (λ xs. xs ++ left_by file ∷ []) h.outputs ∙ ap (λ x. map (output_by start.system is) (take k is) ++ x ∷ []) out
                ∙ sym (map-append (output_by start.system is) (take k is) (a.input ∷ [])) ∙ ap (map (output_by start.system is)) (sym a.more);
            savings = subst (λ (xs : List SettledSession). All (IsRestorable start.system is) xs) (sym a.more)
                (All-push (IsRestorable start.system is) (take k is) a.input h.savings (restorable start.system is a.input s e.last a.session (λ yes. subst (λ (d : Disk). restored (saving_over d e.last) ≡ Ok (saving_with (system_digest d) e.last)) drive (c.restores yes)) played_last));
          }

  -- the system drive stays, where a slot is closed or none is
  pub finishing_more : (ended : EndedSlot) (rest : List Player) (reports more : List SessionReport) (files others : List SessionFiles) (report : SessionReport) (file : SessionFiles) → new.system ≡ old.system
      → IsFinishing sessions k start old players rest reports files → ClosesNextSlot (is_some s.save) old new rest r left → r ≡ Some ended → report_view report ≡ report_by s ended → left_by file ≡ files_by s ended
      → more ≡ reports ++ report ∷ [] → others ≡ files ++ file ∷ [] → IsFinishing sessions (k + 1) start new players left more others
  finishing_more ended rest reports more files others report file stays h closing got one other pushed added = record {
    system = stays ∙ h.system;
    to = λ is same all.
        subst (λ (xs : List SessionReport). IsFinishedTo start.system is (k + 1) new.slots left xs others) (sym pushed)
        (subst (λ (xs : List SessionFiles). IsFinishedTo start.system is (k + 1) new.slots left (reports ++ report ∷ []) xs) (sym added)
        (finish_one ended rest reports files report file is same h.system (h.to is same all) closing got one other));
  }

  -- where a session is left, its player is there, and its slot is closed
  pub finished_early : (rest : List Player) (reports : List SessionReport) (files : List SessionFiles) → IsFinishing sessions k start old players rest reports files → ClosesNextSlot (is_some s.save) old new rest r left
      → r ≡ None → AreFinished sessions start players reports files
  finished_early rest reports files h closing none = λ is same all.
      let f = h.to is same all in
      let a = is_at is sessions k s same below at in
      absurd (go is a rest (subst (λ (xs : List SettledSession). AllEnded start.system is old.slots xs rest) a.first f.ended) closing)
    where
      go : (is : List SettledSession) (a : IsAt is k (k + 1) s) (now : List Player) → AllEnded start.system is old.slots (a.input ∷ drop (k + 1) is) now → ClosesNextSlot (is_some s.save) old new now r left → ⊥
      go is a [] all close = all
      go is a (x ∷ ps) all close =
          let e = all.0 in
          let c = close e.slot ps e.last (ap (λ (y : Player). y ∷ ps) e.plays) e.stands in
          not_both c.left (sym none ∙ c.result)

pub finished : (sessions : List SessionConfig) (k : ℕ) (start now : Host) (players rest : List Player) (reports : List SessionReport) (files : List SessionFiles) → length sessions ≤ k
    → IsFinishing sessions k start now players rest reports files → AreFinished sessions start players reports files
finished sessions k start now players rest reports files all h = λ is same ended.
    let f = h.to is same ended in
    let long : length is ≤ k = let m = length-map is (λ i. i.session) in let e = ap length same in omega (arith, all, m, e) in
    let whole : take k is ≡ is = take_all k is long in (
      f.rows ∙ ap (map (λ i. reported_of i.session (run_of start.system is i))) whole,
      f.outputs ∙ ap (map (output_by start.system is)) whole,
      subst (λ (xs : List SettledSession). All (IsRestorable start.system is) xs) whole f.savings,
    )

pub none-finished : (sessions : List SessionConfig) (start : Host) (players rest : List Player) (reports : List SessionReport) (files : List SessionFiles) → AllDiffer players → rest ≡ players → reports ≡ [] → files ≡ []
    → IsFinishing sessions 0 start start players rest reports files
none-finished sessions start players rest reports files differ whole no_reports no_files = record {
  system = refl;
  to = λ is same ended. record {
    differ = subst (λ (ps : List Player). AllDiffer ps) (sym whole) differ;
    ended = subst (λ (ps : List Player). AllEnded start.system is start.slots is ps) (sym whole) ended;
    rows = ap (map report_view) no_reports;
    outputs = ap (map left_by) no_files;
    savings = All-nil (IsRestorable start.system is);
  };
}

-- ---- all of it

-- the players that have played, in the vector that they came from
pub written_back : (n : ℕ) (ps begun played : List Player) → n ≡ length ps → begun ≡ ps → length played ≡ length begun → take n (played ++ drop (length played) ps) ≡ played
written_back n ps begun played whole first long =
    let same : length played ≡ length ps = long ∙ ap length first in
    let none : drop (length played) ps ≡ [] = drop_all (length played) ps (omega (arith, same)) in
    ap (λ (xs : List Player). take n (played ++ xs)) none ∙ ap (λ (xs : List Player). take n xs) (append-nil played) ∙ take_all n played (omega (arith, whole, same))

-- sessions that had players and were played are reported, and leave their files, as their machines alone
pub all_finished : (system : Disk) (old new : Host) (sessions slice : List SessionConfig) (is : List SettledSession) (ps begun played qs : List Player) (reports : List SessionReport)
    (files : List SessionFiles) → old.system ≡ system → new.system ≡ old.system → slice ≡ sessions → begun ≡ ps → qs ≡ played → map (λ i. i.session) is ≡ sessions → HavePlayers old.slots is ps
    → AllPlayed old new begun played → AreFinished slice new qs reports files → (map report_view reports ≡ reports_of system is) × (map left_by files ≡ files_left system is) × All (IsRestorable system is) is
all_finished system old new sessions slice is ps begun played qs reports files drive stays whole first last inputs slots h all =
    let from : AllPlayed old new ps played = subst (λ (xs : List Player). AllPlayed old new xs played) first h in
    let ended : AllEnded old.system is new.slots is played = all_ended old.system old.slots new.slots is ps slots played from.long from.each in
    let here : AllEnded new.system is new.slots is qs =
    subst (λ (xs : List Player). AllEnded new.system is new.slots is xs) (sym last) (subst (λ (d : Disk). AllEnded d is new.slots is played) (sym stays) ended) in
    subst (λ (d : Disk). (map report_view reports ≡ reports_of d is) × (map left_by files ≡ files_left d is) × All (IsRestorable d is) is) (stays ∙ drive) (all is (inputs ∙ sym whole) here)
