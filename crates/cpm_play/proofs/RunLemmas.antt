-- Steps that are executed in turns, whose output is taken after each, and those up to a wait.
use Rattle.std.proofs.Common.{◌≡◌, ℕ, ◌+◌, ◌-◌, ◌<◌, ◌≤◌, ◌&&◌, nat_le, not, max, min, Bool, true, false, true≢false, ◌⊎◌, inl, inr, ⊎_elim, List, [], ◌++◌, length, refl, sym, ap, ap₂, ◌∙◌, subst, arith, append-nil}
use Rattle.std.proofs.lemmas.Bool.{cases_lt}
use Rattle.std.specs.Io.KnownBytes.{Appends}
use Rattle.cpm_geom.specs.Disk.{Disk}
use Rattle.cpm_bdos.specs.Waiting.{is_waiting}
use Rattle.cpm_console.specs.Terminal.{Terminal, has_room}
use Rattle.cpm_machine.specs.Calls.{state_behind}
use Rattle.cpm_machine.specs.MachineState.{MachineState}
use Rattle.cpm_machine.specs.Serve.{executed, look_of}
use Rattle.cpm_machine.specs.Step.{after, can_step, is_running}
use Rattle.cpm_machine.specs.ToWait.{can_work, executed_to_wait}
use Rattle.cpm_machine.proofs.AloneLaws.{after-behind}
use Rattle.cpm_machine.proofs.GrantLaws.{after-add, longest-is}
use Rattle.cpm_play.specs.Cued.{HasIdled, HasExecuted, HasStopped, IsBusyFor, IsBusyFrom, IsIdleCut, IsRunCut, IsOutputTaken, IsUntaken}
use Rattle.cpm_play.specs.declared.live.LiveError.{LiveError}
use Rattle.cpm_play.specs.declared.live.LiveError.TheVariants.{Unreadable, Unwritable, Unprinted, Unrecorded, OutOfMemory}
use Rattle.cpm_play.specs.Output.{OutputState}
use Rattle.cpm_play.specs.Playing.{IsQuiet, without_list, without_text}
use Rattle.cpm_play.specs.Shown.{HasGrown}
use Rattle.cpm_play.specs.declared.shown.Shown.{Shown}
use Rattle.cpm_play.proofs.AloneLemmas.{after-ended}
use Rattle.cpm_play.proofs.WaitLemmas.{waits-output}
use Rattle.cpm_play.proofs.ShownLemmas.{grown-none, grown-on}
use Rattle.cpm_play.proofs.TextLemmas.{appends_more, appends_none, both_empty}

-- ---- output that is taken

-- the state with all of its output taken
abbrev pub bare : MachineState → MachineState
bare s = without_list (without_text s)

pub behind-bare : (s : MachineState) → state_behind s.session.console.screen s.session.console.printer (bare s) ≡ s
behind-bare s =
    ap₂ (λ (xs ys : List ℕ). record s { session = record s.session { console = record s.session.console { screen = xs; printer = ys } } })
    (append-nil s.session.console.screen) (append-nil s.session.console.printer)

-- where none waits to be taken, it is that
pub quiet-bare : (s : MachineState) → IsQuiet s → s ≡ bare s
quiet-bare s quiet = ap₂ (λ (xs ys : List ℕ). record s { session = record s.session { console = record s.session.console { screen = xs; printer = ys } } }) quiet.screen quiet.printer

pub quiet-taken : (old now : MachineState) (before written : OutputState) → IsOutputTaken old now before written → IsQuiet now
quiet-taken old now before written taken = record {
  screen = ap (λ (s : MachineState). s.session.console.screen) taken.state;
  printer = ap (λ (s : MachineState). s.session.console.printer) taken.state;
}

-- ---- one turn more

pub run-none : (system : Disk) (s : MachineState) (written : OutputState) → IsQuiet s → HasExecuted system 0 s s written written
run-none system s written quiet = record {
  state = quiet-bare s quiet;
  output = record {
    text = subst (λ xs. Appends written.console written.console xs) (sym quiet.screen) (appends_none written.console);
    list = subst (λ xs. Appends written.list written.list xs) (sym quiet.printer) (appends_none written.list);
  };
}

pub kept-none : (s : MachineState) (old : Shown) → IsQuiet s → HasGrown old old s.session.console.screen
kept-none s old quiet = grown-none old s.session.console.screen quiet.screen

module _ (system : Disk) (k : ℕ) (old mid : MachineState) (before middle : OutputState) (run : HasExecuted system k old mid before middle) where
  -- with the output that was taken put back in front the steps go on
  pub run-on : (j : ℕ) → after system (k + j) old ≡ state_behind (after system k old).session.console.screen (after system k old).session.console.printer (after system j mid)
  run-on j =
      let far : MachineState = after system k old in
      after-add system k j old ∙ ap (after system j) (sym (behind-bare far)) ∙ after-behind system far.session.console.screen far.session.console.printer j (bare far)
      ∙ ap (λ s. state_behind far.session.console.screen far.session.console.printer (after system j s)) (sym run.state)

  -- more text is shown
  shown-on : (j : ℕ) (written : OutputState) → Appends middle.console written.console (after system j mid).session.console.screen →
      Appends before.console written.console (after system (k + j) old).session.console.screen
  shown-on j written writes =
      subst (λ xs. Appends before.console written.console xs) (sym (ap (λ (s : MachineState). s.session.console.screen) (run-on j)))
      (appends_more before.console middle.console written.console (after system k old).session.console.screen (after system j mid).session.console.screen run.output.text writes)

  pub run-more : (j : ℕ) (turned next : MachineState) (written : OutputState) → turned ≡ after system j mid → IsOutputTaken turned next middle written → HasExecuted system (k + j) old next before written
  run-more j turned next written is taken = record {
    state = taken.state ∙ ap bare is ∙ sym (ap bare (run-on j));
    output = record {
      text = shown-on j written (subst (λ (s : MachineState). Appends middle.console written.console s.session.console.screen) is taken.output.text);
      list = subst (λ xs. Appends before.list written.list xs) (sym (ap (λ (s : MachineState). s.session.console.printer) (run-on j)))
          (appends_more before.list middle.list written.list (after system k old).session.console.printer (after system j mid).session.console.printer run.output.list
          (subst (λ (s : MachineState). Appends middle.list written.list s.session.console.printer) is taken.output.list));
    };
  }

  -- one that makes no step
  pub run-still : (j : ℕ) (turned : MachineState) → turned ≡ after system j mid → j ≡ 0 → HasExecuted system k old turned before middle
  run-still j turned is none =
      let same : turned ≡ mid = is ∙ ap (λ n. after system n mid) none in
      subst (λ s. HasExecuted system k old s before middle) (sym same) run

  -- one that is cut short
  run-untaken : (j : ℕ) (turned next : MachineState) (written : OutputState) (e : LiveError) → turned ≡ after system j mid → IsUntaken turned next middle written e →
      IsUntaken (after system (k + j) old) next before written e
  run-untaken j turned next written (Unreadable e) is cut = absurd cut
  run-untaken j turned next written (Unrecorded e) is cut = absurd cut
  run-untaken j turned next written (Unwritable e) is cut =
      λ none. cut (ap (λ (s : MachineState). s.session.console.screen) is
      ∙ both_empty (after system k old).session.console.screen (after system j mid).session.console.screen (sym (ap (λ (s : MachineState). s.session.console.screen) (run-on j)) ∙ none))
  run-untaken j turned next written (Unprinted e) is cut = (
    λ none. cut.0 (ap (λ (s : MachineState). s.session.console.printer) is
        ∙ both_empty (after system k old).session.console.printer (after system j mid).session.console.printer (sym (ap (λ (s : MachineState). s.session.console.printer) (run-on j)) ∙ none)),
    shown-on j written (subst (λ (s : MachineState). Appends middle.console written.console s.session.console.screen) is cut.1),
  )
  run-untaken j turned next written OutOfMemory is cut = run-more j turned next written is cut

  pub run-cut : (to_wait : Bool) (steps j : ℕ) (turned next : MachineState) (written : OutputState) (e : LiveError) → k + j ≤ steps → turned ≡ after system j mid → IsUntaken turned next middle written e →
      (to_wait ≡ true → IsBusyFor system (k + j) old) → IsRunCut to_wait system steps old next before written e
  run-cut to_wait steps j turned next written e fits is cut busy = (k + j, fits, run-untaken j turned next written e is cut, busy)

  -- what is kept grows with what is shown
  pub kept-more : (j : ℕ) (turned : MachineState) (start kept more : Shown) → turned ≡ after system j mid → HasGrown start kept (after system k old).session.console.screen →
      HasGrown kept more turned.session.console.screen → HasGrown start more (after system (k + j) old).session.console.screen
  kept-more j turned start kept more turns had is =
      subst (HasGrown start more) (sym (ap (λ (s : MachineState). s.session.console.screen) (run-on j)))
      (grown-on had (subst (λ (s : MachineState). HasGrown kept more s.session.console.screen) turns is))

-- ---- waits

-- whatever output waits to be taken
pub waits-behind : (p q : List ℕ) (s : MachineState) → (look_of (state_behind p q s)).waiting ≡ (look_of s).waiting
waits-behind p q s = waits-output (p ++ s.session.console.screen) (q ++ s.session.console.printer) s

pub waits-bare : (s : MachineState) → (look_of (bare s)).waiting ≡ (look_of s).waiting
waits-bare s = waits-output [] [] s

-- one that has ended does not
pub ended-waits : (s : MachineState) → is_running s.ended ≡ false → (look_of s).waiting ≡ false
unfolding look_of
ended-waits s ended = ap (λ b. b && is_waiting s.session s.memory) ended

pub busy-more : (system : Disk) (k j : ℕ) (old mid : MachineState) (before middle : OutputState) → HasExecuted system k old mid before middle →
    IsBusyFor system k old → IsBusyFor system j mid → IsBusyFor system (k + j) old
busy-more system k j old mid before middle run first second i below = ⊎_elim (λ less. first i less)
    (λ past.
    let at : k + (i - k) ≡ i = omega arith in
    let P : ℕ → Type 0 = λ n. (look_of (after system n old)).waiting ≡ false in
    let far : MachineState = after system k old in
    subst P at (ap (λ (s : MachineState). (look_of s).waiting) (run-on system k old mid before middle run (i - k))
    ∙ waits-behind far.session.console.screen far.session.console.printer (after system (i - k) mid) ∙ second (i - k) (omega arith)))
    (cases_lt i k)

-- ---- what a turn executes

room-quiet : (t : Terminal) → t.screen ≡ [] → t.printer ≡ [] → has_room t ≡ true
room-quiet t x y = ap₂ (λ (a b : List ℕ). nat_le (length a) 4096 && nat_le (length b) 4096) x y

-- a machine with no output to take that makes no step has ended
pub stopped-ended : (system : Disk) (n k : ℕ) (s next : MachineState) → IsQuiet s → 0 < n → k ≡ executed system n s → k ≡ 0 → next ≡ after system k s → is_running next.ended ≡ false
unfolding executed
stopped-ended system n k s next quiet some is none at =
    let longest = longest-is (λ i. can_step (after system i s)) n in
    let blocked : can_step s ≡ false = subst (λ i. i < n → can_step (after system i s) ≡ false) (sym is ∙ none) longest.greatest some in
    ap (λ (t : MachineState). is_running t.ended) (at ∙ ap (λ m. after system m s) none)
    ∙ go (is_running s.ended) (has_room s.session.console) (room-quiet s.session.console quiet.screen quiet.printer) blocked
  where
    go : (a b : Bool) → b ≡ true → (a && b) ≡ false → a ≡ false
    go false b e f = refl
    go true b e f = absurd (let bad : ⊥ = cc in bad)

-- or waits for a key, if it is to make none that does
pub stopped-waits : (system : Disk) (n k : ℕ) (s next : MachineState) → IsQuiet s → 0 < n → k ≡ executed_to_wait system n s → k ≡ 0 → next ≡ after system k s →
    (is_running next.ended ≡ false) ⊎ ((look_of next).waiting ≡ true)
unfolding executed_to_wait look_of
stopped-waits system n k s next quiet some is none at =
    let longest = longest-is (λ i. can_work (after system i s)) n in
    let blocked : can_work s ≡ false = subst (λ i. i < n → can_work (after system i s) ≡ false) (sym is ∙ none) longest.greatest some in
    let same : next ≡ s = at ∙ ap (λ m. after system m s) none in
    subst (λ (t : MachineState). (is_running t.ended ≡ false) ⊎ ((is_running t.ended && is_waiting t.session t.memory) ≡ true)) (sym same)
    (go (is_running s.ended) (has_room s.session.console) (is_waiting s.session s.memory) (room-quiet s.session.console quiet.screen quiet.printer) blocked)
  where
    go : (a b w : Bool) → b ≡ true → ((a && b) && not w) ≡ false → (a ≡ false) ⊎ ((a && w) ≡ true)
    go false b w e f = inl refl
    go true b true e f = inr refl
    go true b false e f = absurd (let bad : ⊥ = cc in bad)

-- and so none of its steps does
pub busy-granted : (system : Disk) (n k : ℕ) (s : MachineState) → k ≡ executed_to_wait system n s → IsBusyFor system k s
unfolding executed_to_wait look_of
busy-granted system n k s is i below =
    let longest = longest-is (λ i. can_work (after system i s)) n in
    let works : can_work (after system i s) ≡ true = longest.each i (subst (λ m. i < m) is below) in
    let t : MachineState = after system i s in
    go (is_running t.ended) (has_room t.session.console) (is_waiting t.session t.memory) works
  where
    go : (a b w : Bool) → ((a && b) && not w) ≡ true → (a && w) ≡ false
    go false b w e = refl
    go true b false e = refl
    go true true true e = absurd (let bad : ⊥ = cc in bad)
    go true false true e = absurd (let bad : ⊥ = cc in bad)

-- ---- a turn up to the end of the steps, or to a wait

-- what a turn of at most so many steps did, which goes no further than a wait if so asked
pub record HasTurned (to_wait : Bool) (system : Disk) (most k : ℕ) (old now : MachineState) : Type 0 where
  pub within : k ≤ most
  pub state : now ≡ after system k old
  pub busy : to_wait ≡ true → IsBusyFor system k old
  pub stopped : IsQuiet old → k ≡ 0 → (is_running now.ended ≡ false) ⊎ ((to_wait ≡ true) × ((look_of now).waiting ≡ true))

-- a grant up to a wait is such a turn
pub turned-to-wait : (to_wait : Bool) (system : Disk) (most n k r : ℕ) (old now there : MachineState) → k ≡ r → now ≡ there → to_wait ≡ true → 0 < n → n ≤ most → r ≤ n → r ≡ executed_to_wait system n old → there ≡ after system r old →
    HasTurned to_wait system most k old now
turned-to-wait to_wait system most n k r old now there count state waits some fits within is at =
    let done : k ≡ executed_to_wait system n old = count ∙ is in
    let reached : now ≡ after system k old = state ∙ at ∙ ap (λ m. after system m old) (sym count) in
    record {
      within = omega arith;
      state = reached;
      busy = λ _. busy-granted system n k old done;
      stopped = λ quiet none. ⊎_elim (λ ended. inl ended) (λ waiting. inr (waits, waiting)) (stopped-waits system n k old now quiet some done none reached);
    }

-- a grant that waits do not stop is one where it is not asked to stop
pub turned-on : (to_wait : Bool) (system : Disk) (most n k r : ℕ) (old now there : MachineState) → k ≡ r → now ≡ there → to_wait ≡ false → 0 < n → n ≤ most → r ≤ n → r ≡ executed system n old → there ≡ after system r old →
    HasTurned to_wait system most k old now
turned-on to_wait system most n k r old now there count state not some fits within is at =
    let reached : now ≡ after system k old = state ∙ at ∙ ap (λ m. after system m old) (sym count) in
    record {
      within = omega arith;
      state = reached;
      busy = λ waits. absurd (true≢false (sym waits ∙ not));
      stopped = λ quiet none. inl (stopped-ended system n k old now quiet some (count ∙ is) none reached);
    }

-- a run whose last turn makes no step
pub run-stopped : (is_over to_wait : Bool) (system : Disk) (steps k : ℕ) (old now : MachineState) → (to_wait ≡ true → IsBusyFor system k old) →
    (is_running now.ended ≡ false) ⊎ ((to_wait ≡ true) × ((look_of now).waiting ≡ true)) → HasStopped is_over to_wait system steps k old now
run-stopped is_over false system steps k old now busy (inl ended) = inr (inl ended)
run-stopped is_over false system steps k old now busy (inr there) = absurd (true≢false (sym there.0))
run-stopped is_over true system steps k old now busy (inl ended) = (busy refl, inr (inl ended))
run-stopped is_over true system steps k old now busy (inr there) = (busy refl, inr (inr (inl there.1)))

-- one that is over
pub run-over : (is_over to_wait : Bool) (system : Disk) (steps k : ℕ) (old now : MachineState) → (to_wait ≡ true → IsBusyFor system k old) → is_over ≡ true →
    HasStopped is_over to_wait system steps k old now
run-over is_over false system steps k old now busy over = inr (inr over)
run-over is_over true system steps k old now busy over = (busy refl, inr (inr (inr over)))

-- or that makes all steps
pub run-all : (is_over to_wait : Bool) (system : Disk) (steps k : ℕ) (old now : MachineState) → (to_wait ≡ true → IsBusyFor system k old) → k ≡ steps →
    HasStopped is_over to_wait system steps k old now
run-all is_over false system steps k old now busy all = inl all
run-all is_over true system steps k old now busy all = (busy refl, inl all)

-- ---- a pause, and then steps up to a wait

-- where those of the pause are cut short
pub pause-short : (system : Disk) (steps waits_from done pause : ℕ) (old next : MachineState) (before written : OutputState) (e : LiveError) → done ≤ steps → pause ≡ min waits_from steps - done →
    IsRunCut false system pause old next before written e → IsIdleCut system steps waits_from done old next before written e
pause-short system steps waits_from done pause old next before written e within paused cut =
    let less = cut.1 in
    (cut.0, omega arith, cut.2, λ i low high. absurd (omega arith))

module _ (system : Disk) (steps waits_from done pause k j : ℕ) (old mid next : MachineState) (before middle written : OutputState)
    (within_steps : done ≤ steps) (paused : pause ≡ min waits_from steps - done) (fits : k ≤ pause) (run : HasExecuted system k old mid before middle) where
  -- none of the steps behind the pause waits
  pause-busy : (n : ℕ) → IsBusyFor system n mid → IsBusyFrom system (max waits_from done) (done + k + n) done old
  pause-busy n busy i low high =
      let at : k + (i - done - k) ≡ i - done = omega arith in
      let P : ℕ → Type 0 = λ m. (look_of (after system m old)).waiting ≡ false in
      let far : MachineState = after system k old in
      subst P at (ap (λ (s : MachineState). (look_of s).waiting) (run-on system k old mid before middle run (i - done - k))
      ∙ waits-behind far.session.console.screen far.session.console.printer (after system (i - done - k) mid) ∙ busy (i - done - k) (omega arith))

  -- where the steps behind the pause are cut short
  pub pause-cut : (e : LiveError) → IsRunCut true system (steps - (done + k)) mid next middle written e → IsIdleCut system steps waits_from done old next before written e
  pause-cut e cut =
      let n = cut.0 in
      let less = cut.1 in
      let at : done + k + n ≡ done + (k + n) = omega arith in (
        k + n,
        omega arith,
        run-untaken system k old mid before middle run n (after system n mid) next written e refl cut.2,
        subst (λ (m : ℕ). IsBusyFrom system (max waits_from done) m done old) at (pause-busy n (cut.3 refl)),
      )

  module _ (was_over is_over : Bool) (stays : was_over ≡ true → is_over ≡ true) (stopped : HasStopped was_over false system pause k old mid) (fits_then : j ≤ steps - (done + k))
      (run_then : HasExecuted system j mid next middle written) (stopped_then : HasStopped is_over true system (steps - (done + k)) j mid next) where
    together : (done + k + j) - done ≡ k + j
    together = omega arith

    -- both together are the steps up to a wait that counts
    pub pause-idled : HasIdled is_over system steps waits_from done (done + k + j) old next before written
    pause-idled = record {
      low = omega arith;
      run =
          let P : ℕ → Type 0 = λ n. HasExecuted system n old next before written in
          subst P (sym together) (run-more system k old mid before middle run j (after system j mid) next written refl run_then);
      busy = pause-busy j stopped_then.0;
      why = ⊎_elim (λ (all : j ≡ steps - (done + k)). inl (omega arith))
          (λ rest. ⊎_elim (λ ended. inr (inl ended)) (λ there. ⊎_elim waits (λ over. inr (inr (inr over))) there) rest) stopped_then.1;
    }
      where
        ended_then : is_running mid.ended ≡ false → is_running next.ended ≡ false
        ended_then ended = ap (λ (s : MachineState). is_running s.ended) run_then.state ∙ after-ended system j mid ended

        waits : (look_of next).waiting ≡ true →
            (done + k + j ≡ steps) ⊎ ((is_running next.ended ≡ false) ⊎ (((waits_from ≤ done + k + j) × ((look_of next).waiting ≡ true)) ⊎ (is_over ≡ true)))
        waits there = ⊎_elim (λ (all : k ≡ pause).
            ⊎_elim (λ (past : steps < waits_from). inl (omega arith)) (λ (counts : waits_from ≤ steps). inr (inr (inl (omega arith, there)))) (cases_lt steps waits_from))
            (λ short. ⊎_elim (λ ended. inr (inl (ended_then ended))) (λ over. inr (inr (inr (stays over)))) short) stopped

    -- and what is kept is what both showed
    pub pause-kept : (start kept more : Shown) → HasGrown start kept (after system k old).session.console.screen → HasGrown kept more (after system j mid).session.console.screen →
        HasGrown start more (after system ((done + k + j) - done) old).session.console.screen
    pause-kept start kept more had is =
        let P : ℕ → Type 0 = λ n. HasGrown start more (after system n old).session.console.screen in
        subst P (sym together) (kept-more system k old mid before middle run j (after system j mid) start kept more refl had is)
