-- A session that is played by a script that may wait: one more cue, and where it ends.
use Rattle.std.proofs.Common.{◌≡◌, ℕ, ◌+◌, ◌-◌, ◌<◌, ◌≤◌, max, min, Bool, true, false, true≢false, ◌⊎◌, inl, inr, ⊎_elim, Option, List, [], ◌∷◌, ◌++◌, refl, sym, ap, ◌∙◌, subst, arith}
use Rattle.std.proofs.lemmas.Bool.{cases_lt}
use Rattle.cpm_geom.specs.Disk.{Disk}
use Rattle.cpm_script.specs.declared.cue.Cue.{Cue}
use Rattle.cpm_script.specs.declared.cue.Cue.TheVariants.{Key as Timed, Wait, Press}
use Rattle.cpm_script.specs.declared.script.Key.{Key}
use Rattle.cpm_machine.specs.Calls.{state_behind}
use Rattle.cpm_machine.specs.MachineState.{MachineState}
use Rattle.cpm_machine.specs.Serve.{look_of, takes_key}
use Rattle.cpm_machine.specs.declared.reply.End.{End}
use Rattle.cpm_machine.specs.declared.reply.End.TheVariants.{Running, Halted, Illegal, Quota, CountEnd, Exited}
use Rattle.cpm_machine.specs.declared.reply.Look.{Look}
use Rattle.cpm_machine.specs.Step.{after, is_running}
use Rattle.cpm_machine.proofs.AloneLaws.{after-behind}
use Rattle.cpm_machine.proofs.PressLaws.{alone-add}
use Rattle.cpm_play.specs.Cued.{HasEndedCued, HasIdled, HasNoWait, HasExecuted, IsCued, IsCuedFrom, IsCuedUpTo, IsCutOff, IsPressCut, IsUntaken, StaysCued, key_count, last_count, runs_at, screen_at, waits_at}
use Rattle.cpm_play.specs.Live.{IsGoing, IsUnshown}
use Rattle.cpm_play.specs.declared.live.LiveError.{LiveError}
use Rattle.cpm_play.specs.declared.live.LiveError.TheVariants.{Unreadable, Unwritable, Unprinted, Unrecorded, OutOfMemory}
use Rattle.cpm_play.specs.Output.{OutputState}
use Rattle.cpm_play.specs.Playing.{presses_of, alone_by}
use Rattle.cpm_play.proofs.AloneLemmas.{after-ended}
use Rattle.cpm_play.proofs.GoingLemmas.{going-come, going-list, going-screen, going-start, going-text, going-turn, none-after}
use Rattle.cpm_play.proofs.RunLemmas.{waits-bare, waits-behind}
use Rattle.cpm_play.proofs.TextLemmas.{appends_none}

-- ---- keys

-- the last key is the one that comes last
pub last-more : (n : ℕ) (keys : List Key) (k : Key) → last_count n (keys ++ k ∷ []) ≡ k.count
last-more n [] k = refl
last-more n (x ∷ xs) k = last-more x.count xs k

-- ---- where it has ended

pub look-ended : (s : MachineState) (look : Look) → look ≡ look_of s → look.ended ≡ s.ended
unfolding look_of
look-ended s look is = ap (λ (l : Look). l.ended) is

pub not-running : (e : End) → (e ≡ Running → ⊥) → is_running e ≡ false
not-running Running other = absurd (other refl)
not-running Halted other = refl
not-running Illegal other = refl
not-running Quota other = refl
not-running CountEnd other = refl
not-running Exited other = refl

-- ---- the machine run alone, from where the session is

module _ {system : Disk} {steps most : ℕ} {start now : MachineState} {before written : OutputState} {unrecorded record_now : Option (List ℕ)} {keys : List Key} {done : ℕ}
    (going : IsGoing system steps most start now before written unrecorded record_now keys done) where
  pub going-state : (i : ℕ) → alone_by system keys (done + i) start ≡ state_behind going.console going.list (after system i now)
  going-state i =
      alone-add system (presses_of keys) done i start (λ j past. none-after done j keys going.gone.come past)
      ∙ ap (after system i) (sym going.gone.state) ∙ after-behind system going.console going.list i now

  pub going-waits : (i : ℕ) → waits_at system start keys (done + i) ≡ (look_of (after system i now)).waiting
  going-waits i = ap (λ (s : MachineState). (look_of s).waiting) (going-state i) ∙ waits-behind going.console going.list (after system i now)

  pub going-runs : (i : ℕ) → runs_at system start keys (done + i) ≡ is_running (after system i now).ended
  going-runs i = ap (λ (s : MachineState). is_running s.ended) (going-state i)

  pub going-takes : (i : ℕ) → takes_key (alone_by system keys (done + i) start) ≡ takes_key (after system i now)
  going-takes i = ap takes_key (going-state i)

  pub going-shows : (i : ℕ) → screen_at system start keys (done + i) ≡ screen_at system start keys done ++ (after system i now).session.console.screen
  going-shows i =
      ap (λ (s : MachineState). s.session.console.screen) (going-state i)
      ∙ ap (λ xs. xs ++ (after system i now).session.console.screen) (going-screen system steps most start now before written unrecorded record_now keys done going)

  -- steps whose text is taken
  pub going-run : (k : ℕ) (next : MachineState) (written_then : OutputState) → k ≤ steps - done → HasExecuted system k now next written written_then →
      IsGoing system steps most start next before written_then unrecorded record_now keys (done + k)
  going-run k next written_then fits run =
      going-turn system steps most start now before written unrecorded record_now keys done going k (after system k now) next written_then fits refl run.state run.output

  -- where it ends
  run-ended : (k : ℕ) (next : MachineState) (written_then : OutputState) → HasExecuted system k now next written written_then → is_running now.ended ≡ false → is_running next.ended ≡ false
  run-ended k next written_then run ended = ap (λ (s : MachineState). is_running s.ended) run.state ∙ after-ended system k now ended

  run-waits : (k : ℕ) (next : MachineState) (written_then : OutputState) → HasExecuted system k now next written written_then → waits_at system start keys (done + k) ≡ (look_of next).waiting
  run-waits k next written_then run =
      going-waits k ∙ sym (waits-bare (after system k now)) ∙ sym (ap (λ (s : MachineState). (look_of s).waiting) run.state)

  -- steps up to a wait that counts
  module _ {is_over : Bool} {waits_from done_now : ℕ} {next : MachineState} {written_then : OutputState} (idled : HasIdled is_over system steps waits_from done done_now now next written written_then) where
    past : done + (done_now - done) ≡ done_now
    past = let low = idled.low in omega arith

    -- the session goes on, with the same keys
    pub idle-going : (more : List Key) → more ≡ keys → done_now ≤ steps → IsGoing system steps most start next before written_then unrecorded record_now more done_now
    idle-going more same within =
        let P : ℕ → Type 0 = λ n. IsGoing system steps most start next before written_then unrecorded record_now keys n in
        let went : IsGoing system steps most start next before written_then unrecorded record_now keys done_now =
        subst P past (going-run (done_now - done) next written_then (omega arith) idled.run) in
        subst (λ ks. IsGoing system steps most start next before written_then unrecorded record_now ks done_now) (sym same) went

    -- what it has shown then
    pub idle-shows : screen_at system start keys done_now ≡ screen_at system start keys done ++ (after system (done_now - done) now).session.console.screen
    idle-shows =
        let P : ℕ → Type 0 = λ n. screen_at system start keys n ≡ screen_at system start keys done ++ (after system (done_now - done) now).session.console.screen in
        subst P past (going-shows (done_now - done))

    -- whether it waits there
    pub idle-waits : waits_at system start keys done_now ≡ (look_of next).waiting
    idle-waits =
        let P : ℕ → Type 0 = λ n. waits_at system start keys n ≡ (look_of next).waiting in
        subst P past (run-waits (done_now - done) next written_then idled.run)

    -- where waits count it does not wait before
    pub idle-none : HasNoWait system start keys (max waits_from done) done_now
    idle-none i low high =
        let at : done + (i - done) ≡ i = omega arith in
        let P : ℕ → Type 0 = λ n. waits_at system start keys n ≡ false in
        subst P at (going-waits (i - done) ∙ idled.busy i low high)

    -- nor behind an earlier key, if it did not so far
    pub idle-busy : (last : ℕ) → HasNoWait system start keys (max waits_from last) done → HasNoWait system start keys (max waits_from last) done_now
    idle-busy last first i low high = ⊎_elim (λ less. first i low less) (λ later. idle-none i (omega arith) high) (cases_lt i done)

    -- where it ends unless it is over, if waits count from the same step on for as long as it stops where it is idle, and else from the last one on
    pub idle-ends : is_over ≡ false → (counted : ℕ) (stops : Bool) (more : List Key) → more ≡ keys → ((stops ≡ true) × (waits_from ≡ counted)) ⊎ ((stops ≡ false) × (waits_from ≡ steps)) → done_now ≤ steps →
        (is_running now.ended ≡ false) ⊎ HasNoWait system start keys (max counted (last_count 0 keys)) done → HasEndedCued system start steps counted stops more done_now next
    idle-ends not_over counted stops more same (inl stop) within busy =
        let P : List Key → Type 0 = λ ks. HasEndedCued system start steps counted stops ks done_now next in
        let Q : Bool → Type 0 = λ b. HasEndedCued system start steps counted b keys done_now next in
        subst P (sym same) (subst Q (sym stop.0) (⊎_elim (λ ended. inl (run-ended (done_now - done) next written_then idled.run ended)) (λ none. stopped-idle counted stop.1 none) busy))
      where
        stopped-idle : (counted : ℕ) → waits_from ≡ counted → HasNoWait system start keys (max counted (last_count 0 keys)) done → HasEndedCued system start steps counted true keys done_now next
        stopped-idle counted at none =
            let R : ℕ → Type 0 = λ n. HasNoWait system start keys (max n (last_count 0 keys)) done in
            let S : ℕ → Type 0 = λ n. HasNoWait system start keys (max n (last_count 0 keys)) done_now in
            let busy : HasNoWait system start keys (max counted (last_count 0 keys)) done_now = subst S at (idle-busy (last_count 0 keys) (subst R (sym at) none)) in
            ⊎_elim (λ (all : done_now ≡ steps). inr (busy, inl all))
            (λ rest. ⊎_elim (λ ended. inl ended)
            (λ there. ⊎_elim (λ waits. let from = waits.0 in inr (busy, inr ((let least : counted ≤ done_now = omega arith in least), idle-waits ∙ waits.1)))
            (λ over. absurd (true≢false (sym over ∙ not_over))) there) rest) idled.why
    idle-ends not_over counted stops more same (inr goes) within busy =
        let Q : Bool → Type 0 = λ b. HasEndedCued system start steps counted b more done_now next in
        let last = goes.1 in
        subst Q (sym goes.0) (⊎_elim (λ (all : done_now ≡ steps). inl all)
        (λ rest. ⊎_elim (λ ended. inr ended)
        (λ there. ⊎_elim (λ waits. let from = waits.0 in inl (omega arith)) (λ over. absurd (true≢false (sym over ∙ not_over))) there) rest) idled.why)

-- ---- where it is cut short

-- a script may stop at any cue that comes no sooner than it was followed
pub cued-stops : (system : Disk) (start : MachineState) (until most waits_from : ℕ) (given : List Key) (from mark : ℕ) (cues : List Cue) → until ≤ from → IsCuedFrom system start until most waits_from given from mark cues given
cued-stops system start until most waits_from given from mark [] past = refl
cued-stops system start until most waits_from given from mark (Timed k ∷ cues) past = inr (λ comes. let less = comes.0 in omega arith, refl)
cued-stops system start until most waits_from given from mark (Press b ∷ cues) past = inr (λ comes. let less = comes.0 in omega arith, refl)
cued-stops system start until most waits_from given from mark (Wait text ∷ cues) past = inr (λ at met. let late = met.next.later in let less = met.within in omega arith, refl)

-- after all steps the keys so far are the script's
pub cued-whole : (system : Disk) (start : MachineState) (steps done waits_from : ℕ) (cues : List Cue) (keys : List Key) → done ≤ steps → StaysCued system start steps steps done waits_from cues keys → IsCued system start steps waits_from cues keys
cued-whole system start steps done waits_from cues keys within cued =
    let all : min steps (steps + 1) ≡ steps = omega arith in
    subst (λ n. IsCuedFrom system start steps n waits_from [] 0 0 cues keys) all (cued steps within (omega arith))

-- output that was not given on was not taken
unshown-untaken : (old now : MachineState) (before written : OutputState) (e : LiveError) → IsUnshown old before written e → IsUntaken old now before written e
unshown-untaken old now before written (Unreadable e) cut = cut
unshown-untaken old now before written (Unrecorded e) cut = cut
unshown-untaken old now before written (Unwritable e) cut = cut
unshown-untaken old now before written (Unprinted e) cut = cut
unshown-untaken old now before written OutOfMemory cut = absurd cut

-- before the first key and step, where what waits at the start is not taken
module _ (system : Disk) (steps waits_from : ℕ) (cues : List Cue) (start next : MachineState) (before written : OutputState) (record_now : Option (List ℕ)) where
  none-cued : IsCuedUpTo system start steps 0 waits_from cues []
  none-cued = cued-stops system start 0 (min steps (0 + 1)) waits_from [] 0 0 cues (omega arith)

  pub start-cut : (e : LiveError) → IsUntaken start next before written e → IsCutOff system steps waits_from cues start next before written record_now record_now e
  unfolding going-come
  start-cut (Unreadable e) cut = cut
  start-cut (Unrecorded e) cut = absurd cut
  start-cut (Unwritable e) cut = (
    [],
    record { text = record { done = 0; within = omega arith; given = record { typed = tt; come = tt; few = omega arith }; text = cut }; cued = none-cued },
    appends_none record_now,
  )
  start-cut (Unprinted e) cut = (
    [],
    record {
      list = record { done = 0; within = omega arith; given = record { typed = tt; come = tt; few = omega arith }; list = cut.0; text = cut.1 };
      cued = none-cued;
    },
    appends_none record_now,
  )
  start-cut OutOfMemory cut = (
    [],
    record {
      come = going-come system steps (key_count cues) start next before written record_now record_now [] 0 (going-start system steps (key_count cues) start next before written record_now cut);
      cued = none-cued;
    },
    appends_none record_now,
  )

  pub start-unshown : (e : LiveError) → IsUnshown start before written e → IsCutOff system steps waits_from cues start next before written record_now record_now e
  start-unshown e cut = start-cut e (unshown-untaken start next before written e cut)

module _ {system : Disk} {steps : ℕ} (waits_from : ℕ) (cues : List Cue) {start now : MachineState} {before written : OutputState} {unrecorded record_now : Option (List ℕ)} {keys : List Key} {done : ℕ}
    (going : IsGoing system steps (key_count cues) start now before written unrecorded record_now keys done) where
  -- after so many steps more, where these are the keys so far
  pub going-cut : (next : MachineState) (written_then : OutputState) (e : LiveError) (k : ℕ) → k ≤ steps - done → IsUntaken (after system k now) next written written_then e →
      IsCuedUpTo system start steps (done + k) waits_from cues keys → IsCutOff system steps waits_from cues start next before written_then unrecorded record_now e
  unfolding going-come going-list going-text
  going-cut next written_then (Unreadable e) k fits cut cued = cut
  going-cut next written_then (Unrecorded e) k fits cut cued = absurd cut
  going-cut next written_then (Unwritable e) k fits cut cued =
      (keys, record { text = going-text system steps (key_count cues) start now before written unrecorded record_now keys done going k (after system k now) fits refl cut; cued = cued }, going.noted)
  going-cut next written_then (Unprinted e) k fits cut cued = (
    keys,
    record {
      list = going-list system steps (key_count cues) start now before written unrecorded record_now keys done going k (after system k now) written_then fits refl cut.0 cut.1;
      cued = cued;
    },
    going.noted,
  )
  going-cut next written_then OutOfMemory k fits cut cued = (
    keys,
    record { come = going-come system steps (key_count cues) start next before written_then unrecorded record_now keys (done + k) (going-run going k next written_then fits cut); cued = cued },
    going.noted,
  )

  -- on the way to a key
  pub going-press-cut : (key : Key) (next : MachineState) (written_then : OutputState) (record_then : Option (List ℕ)) (e : LiveError) → done ≤ key.count → key.count < steps →
      IsPressCut system (key.count - done) now next written written_then record_now record_then e →
      ((until : ℕ) → done ≤ until → until ≤ key.count → IsCuedUpTo system start steps until waits_from cues keys) →
      (runs_at system start keys key.count ≡ true → takes_key (alone_by system keys key.count start) ≡ true → IsCuedUpTo system start steps key.count waits_from cues (keys ++ key ∷ [])) →
      IsCutOff system steps waits_from cues start next before written_then unrecorded record_then e
  unfolding going-come
  going-press-cut key next written_then record_then (Unreadable e) low early cut cued comes = cut
  going-press-cut key next written_then record_then (Unrecorded e) low early cut cued comes =
      let k = key.count - done in
      let there : done + k ≡ key.count = omega arith in
      let runs : runs_at system start keys key.count ≡ true =
      subst (λ n. runs_at system start keys n ≡ true) there (going-runs going k ∙ sym (ap (λ (s : MachineState). is_running s.ended) cut.0.state) ∙ cut.1) in
      let takes : takes_key (alone_by system keys key.count start) ≡ true =
      subst (λ n. takes_key (alone_by system keys n start) ≡ true) there (going-takes going k ∙ sym (ap takes_key cut.0.state) ∙ cut.2) in
      let P : ℕ → Type 0 = λ n. IsGoing system steps (key_count cues) start next before written_then unrecorded record_now keys n in
      let went : IsGoing system steps (key_count cues) start next before written_then unrecorded record_now keys key.count =
      subst P there (going-run going k next written_then (omega arith) cut.0) in (
        keys,
        record {
          by = record {
            come = going-come system steps (key_count cues) start next before written_then unrecorded record_now keys key.count went;
            cued = cued key.count low (omega arith);
          };
          key = key;
          comes = comes runs takes;
        },
      )
  going-press-cut key next written_then record_then (Unwritable e) low early cut cued comes =
      let less = cut.0.1 in
      subst (λ r. IsCutOff system steps waits_from cues start next before written_then unrecorded r (Unwritable e)) (sym cut.1)
      (going-cut next written_then (Unwritable e) cut.0.0 (omega arith) cut.0.2 (cued (done + cut.0.0) (omega arith) (omega arith)))
  going-press-cut key next written_then record_then (Unprinted e) low early cut cued comes =
      let less = cut.0.1 in
      subst (λ r. IsCutOff system steps waits_from cues start next before written_then unrecorded r (Unprinted e)) (sym cut.1)
      (going-cut next written_then (Unprinted e) cut.0.0 (omega arith) cut.0.2 (cued (done + cut.0.0) (omega arith) (omega arith)))
  going-press-cut key next written_then record_then OutOfMemory low early cut cued comes =
      let less = cut.0.1 in
      subst (λ r. IsCutOff system steps waits_from cues start next before written_then unrecorded r OutOfMemory) (sym cut.1)
      (going-cut next written_then OutOfMemory cut.0.0 (omega arith) cut.0.2 (cued (done + cut.0.0) (omega arith) (omega arith)))
