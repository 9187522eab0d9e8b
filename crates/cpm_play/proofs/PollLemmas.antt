-- A machine that polls steadily, in a turn and in all turns of a session that is typed at.
use Rattle.std.proofs.Common.{◌≡◌, ℕ, ◌+◌, ◌-◌, ◌*◌, ◌^◌, ◌<◌, ◌≤◌, min, max, ◌==◌, ◌&&◌, ◌||◌, nat_le, not, Bool, true, false, true≢false, ◌⊎◌, inl, inr, ⊎_elim, Option, List, [], ◌∷◌, ◌++◌, length, refl, sym, ap, ◌∙◌, subst, arith, if◌then◌else◌}
use Rattle.std.proofs.lemmas.Bool.{cases_lt}
use Rattle.std.proofs.lemmas.Bool.Decides.{nat_tests}
use Rattle.std.proofs.lemmas.List.{length-append}
use Rattle.cpm_console.specs.Terminal.{has_room, step_output}
use Rattle.cpm_geom.specs.Disk.{Disk}
use Rattle.cpm_memory.specs.Layout.{bdos_address}
use Rattle.cpm_script.specs.declared.script.Key.{Key}
use Rattle.cpm_machine.specs.Alone.{alone}
use Rattle.cpm_machine.specs.Calls.{state_behind}
use Rattle.cpm_machine.specs.Laws.{IsLongest}
use Rattle.cpm_machine.specs.MachineState.{MachineState}
use Rattle.cpm_machine.specs.Serve.{keyed, look_of}
use Rattle.cpm_machine.specs.Step.{after, is_running}
use Rattle.cpm_machine.specs.Until.{begins_at, can_go_on, executed_until, why_until}
use Rattle.cpm_machine.specs.declared.reply.Look.{Look}
use Rattle.cpm_machine.specs.declared.reply.Why.{Why}
use Rattle.cpm_machine.specs.declared.reply.Why.TheVariants.{All, Stopped, Break, Blocked}
use Rattle.cpm_machine.proofs.GrantLaws.{longest-is}
use Rattle.cpm_machine.proofs.PressLaws.{alone-pressed}
use Rattle.cpm_play.specs.Live.{IsGoing}
use Rattle.cpm_play.specs.Output.{OutputState}
use Rattle.cpm_play.specs.Playing.{alone_by, presses_of, printer_at, runs_at, screen_at}
use Rattle.cpm_play.specs.Wanting.{DoesNoMore, HasNoLongPoll, IsWatchedTurn, PollsSteadily, console_status_address, first_quantum, is_poll, longest_polling, longest_turn, most_watched, poll_pause, polls_enough, polls_kept, watch_after, watch_by, watch_called, watch_uncalled, watched_address}
use Rattle.cpm_play.specs.declared.watch.Watch.{Watch}
use Rattle.cpm_play.proofs.AloneLemmas.{presses-more}
use Rattle.cpm_play.proofs.CuedLemmas.{going-shows, going-state}
use Rattle.cpm_play.proofs.GoingLemmas.{going-printer}
use Rattle.cpm_play.proofs.CreditLemmas.{HasCredit, and-first, asks-begins, asks_by, credit-called, credit-start, credit-uncalled, most_turns, wrong, wrong-one}

-- ---- steady polling

module _ (system : Disk) (start : MachineState) where
  -- up to an earlier count
  pub steady-sooner : (keys : List Key) (asks : MachineState → Bool) (from until sooner : ℕ) → sooner ≤ until → PollsSteadily system start keys asks from until → PollsSteadily system start keys asks from sooner
  steady-sooner keys asks from until sooner less p = record {
    calm = λ i low high. p.calm i low (omega arith);
    often = λ i low high. p.often i low (omega arith);
    prints = λ i j low more few high. p.prints i j low more few (omega arith);
  }

  -- by other keys that do the same
  pub steady-same : (keys more : List Key) (asks : MachineState → Bool) (from until : ℕ) → from ≤ until → ((i : ℕ) → i ≤ until → alone_by system more i start ≡ alone_by system keys i start) →
      PollsSteadily system start more asks from until → PollsSteadily system start keys asks from until
  steady-same keys more asks from until some same p = record {
    calm = λ i low high.
        subst (λ (s : MachineState). DoesNoMore s.session.console.screen (alone_by system keys i start)) (same from some)
        (subst (λ (s : MachineState). DoesNoMore (screen_at system start more from) s) (same i high) (p.calm i low high));
    often = λ i low high.
        let h = p.often i low high in
        let sooner = h.2 in
        (h.0, h.1, h.2, sym (ap asks (same h.0 (omega arith))) ∙ h.3);
    prints = λ i j low more_than few high.
        let a : length (printer_at system start more i) ≡ length (printer_at system start keys i) = ap (λ (s : MachineState). length s.session.console.printer) (same i (omega arith)) in
        let b : length (printer_at system start more j) ≡ length (printer_at system start keys j) = ap (λ (s : MachineState). length s.session.console.printer) (same j high) in
        let least = p.prints i j low more_than few high in
        omega arith;
  }

-- ---- a turn

why-break : (all runs first begins : Bool) → all ≡ false → runs ≡ true → first ≡ false → begins ≡ true → (if all then All else if not runs then Stopped else if not first && begins then Break else Blocked) ≡ Break
why-break all runs first begins a b c d = rw (a, b, c, d) refl

-- what is watched after a turn that stopped before no call, whatever it stopped for
no-break : (all runs first begins : Bool) → (all ≡ true) ⊎ (begins ≡ false) → (asks : Bool) (watch : Watch) →
    watch_by (if all then All else if not runs then Stopped else if not first && begins then Break else Blocked) asks watch ≡ watch_uncalled watch
no-break true runs first begins none asks watch = refl
no-break false runs first begins (inl e) asks watch = absurd (true≢false (sym e))
no-break false false first begins (inr e) asks watch = refl
no-break false true true begins (inr e) asks watch = refl
no-break false true false true (inr e) asks watch = absurd (true≢false e)
no-break false true false false (inr e) asks watch = refl

begins-if : (runs room first begins : Bool) → runs ≡ true → room ≡ true → first ≡ false → ((runs && room) && (first || not begins)) ≡ false → begins ≡ true
begins-if runs room first true a b c e = refl
begins-if runs room first false a b c e = absurd (let bad : ⊥ = cc in bad)

not-begins : (steps first begins : Bool) → first ≡ false → (steps && (first || not begins)) ≡ true → begins ≡ false
not-begins steps first false a e = refl
not-begins true first true a e = absurd (let bad : ⊥ = cc in bad)
not-begins false first true a e = absurd (let bad : ⊥ = cc in bad)

room-is : (a b : ℕ) → a ≤ step_output → b ≤ step_output → (nat_le a step_output && nat_le b step_output) ≡ true
room-is a b x y = grind (arith, nat_tests)

most-long : (watch : Watch) → poll_pause ≤ watch.quantum → poll_pause ≤ most_watched watch
most-long watch long = by_pause watch.is_pause
  where
    by_pause : (b : Bool) → poll_pause ≤ (if b then poll_pause else min (max watch.quantum first_quantum) longest_turn)
    by_pause true = omega arith
    by_pause false = omega arith

-- what a turn was, by what its calls answered
pub turn-counted : (system : Disk) (left address chosen most k : ℕ) (old new : Watch) (first now : MachineState) (look : Look) (why : Why) → address ≡ watched_address old → chosen ≡ most_watched old →
    most ≡ min chosen left → k ≡ executed_until system address most first → look ≡ look_of now → why ≡ why_until address most k now → new ≡ watch_after old look why →
    IsWatchedTurn system left old new k first now
turn-counted system left address chosen most k old new first now look why at long least did is told seen =
    let m : most ≡ min (most_watched old) left = least ∙ ap (λ (n : ℕ). min n left) long in
    record {
      executed = did ∙ ap (λ (n : ℕ). executed_until system n most first) at ∙ ap (λ (n : ℕ). executed_until system (watched_address old) n first) m;
      seen = seen ∙ ap (λ (l : Look). watch_after old l why) is
          ∙ ap (watch_after old (look_of now)) (told ∙ ap (λ (n : ℕ). why_until n most k now) at ∙ ap (λ (n : ℕ). why_until (watched_address old) n k now) m);
    }

-- whether enough steps are left for a turn
abbrev pub LeavesTurn : (left rest : ℕ) → Type 0
LeavesTurn left rest = (longest_turn ≤ left) ⊎ (left ≡ rest)

pub leaves-least : (most rest left : ℕ) → longest_turn ≤ most → left ≡ min most rest → LeavesTurn left rest
leaves-least most rest left long least = ⊎_elim (λ early. inl (omega arith)) (λ late. inr (omega arith)) (cases_lt most rest)

module _ {system : Disk} {steps most : ℕ} {start now : MachineState} {before written : OutputState} {unrecorded record_now : Option (List ℕ)} {keys : List Key} {done : ℕ}
    (going : IsGoing system steps most start now before written unrecorded record_now keys done) where
  -- a turn in which it polls steadily, after which steps are left
  module _ (k left : ℕ) (turned : MachineState) (watch next : Watch) (there : turned ≡ after system k now) (turn : IsWatchedTurn system left watch next k now turned)
      (some : 0 < k) (short : k ≤ longest_turn) (runs : runs_at system start keys (done + k) ≡ true)
      (by : Bool) (n : ℕ) (low : n ≤ done) (p : PollsSteadily system start keys (asks_by by) n (done + k)) where
    same-there : alone_by system keys (done + k) start ≡ state_behind going.console going.list turned
    same-there = going-state going k ∙ ap (state_behind going.console going.list) (sym there)

    calm-there : DoesNoMore (screen_at system start keys n) (alone_by system keys (done + k) start)
    calm-there = p.calm (done + k) (omega arith) (omega arith)

    turned-runs : is_running turned.ended ≡ true
    turned-runs = sym (ap (λ (s : MachineState). is_running s.ended) same-there) ∙ runs

    turned-polls : (at_status : Bool) → begins_at (if at_status then console_status_address else bdos_address) turned.session ≡ true → (at_status || is_poll turned.session.regs) ≡ true
    turned-polls true begins = refl
    turned-polls false begins =
        sym (ap (λ (s : MachineState). is_poll s.session.regs) same-there) ∙ calm-there.only runs (ap (λ (s : MachineState). begins_at bdos_address s.session) same-there ∙ begins)

    turned-bare : length turned.session.console.screen ≡ 0
    turned-bare =
        let here : screen_at system start keys done ≡ screen_at system start keys n = (p.calm done low (omega arith)).still in
        let later : screen_at system start keys (done + k) ≡ screen_at system start keys n = calm-there.still in
        let shows = ap length (going-shows going k) ∙ length-append (screen_at system start keys done) (after system k now).session.console.screen in
        let a : length (screen_at system start keys done) ≡ length (screen_at system start keys n) = ap length here in
        let b : length (screen_at system start keys (done + k)) ≡ length (screen_at system start keys n) = ap length later in
        let c : length turned.session.console.screen ≡ length (after system k now).session.console.screen = ap (λ (s : MachineState). length s.session.console.screen) there in
        omega arith

    turned-few : k < poll_pause → length turned.session.console.printer ≤ step_output
    turned-few quick =
        let a : length (printer_at system start keys (done + k)) ≡ length going.list + length turned.session.console.printer =
        ap (λ (s : MachineState). length s.session.console.printer) same-there ∙ length-append going.list turned.session.console.printer in
        let b : length going.list ≡ length (printer_at system start keys done) = ap length (going-printer system steps most start now before written unrecorded record_now keys done going) in
        let c = p.prints done (done + k) low (omega arith) (omega arith) (omega arith) in
        omega arith

    turned-room : k < poll_pause → has_room turned.session.console ≡ true
    turned-room quick = room-is (length turned.session.console.screen) (length turned.session.console.printer) (let bare = turned-bare in omega arith) (turned-few quick)

    turn-longest : IsLongest (λ i. can_go_on (watched_address watch) i (after system i now)) (min (most_watched watch) left) k
    unfolding executed_until
    turn-longest =
        subst (IsLongest (λ i. can_go_on (watched_address watch) i (after system i now)) (min (most_watched watch) left)) (sym turn.executed)
        (longest-is (λ i. can_go_on (watched_address watch) i (after system i now)) (min (most_watched watch) left))

    no-first : (k == 0) ≡ false
    no-first = grind (arith, nat_tests)

    -- where it ended early and soon, it stopped before a call
    turn-begins : k < min (most_watched watch) left → k < poll_pause → begins_at (watched_address watch) turned.session ≡ true
    turn-begins early quick =
        let greatest : can_go_on (watched_address watch) k turned ≡ false = ap (can_go_on (watched_address watch) k) there ∙ turn-longest.greatest early in
        begins-if (is_running turned.ended) (has_room turned.session.console) (k == 0) (begins_at (watched_address watch) turned.session) turned-runs (turned-room quick) no-first greatest

    kept : polls_kept watch.polls (look_of turned) ≡ watch.polls
    unfolding look_of
    kept =
        let bare : (length turned.session.console.screen == 0) ≡ true = let none = turned-bare in grind (arith, nat_tests) in
        ap (λ (b : Bool). if b then watch.polls else 0) bare

    seen-called : (k == min (most_watched watch) left) ≡ false → begins_at (watched_address watch) turned.session ≡ true → next ≡ watch_called true watch
    unfolding look_of kept
    seen-called early begins =
        let m : ℕ = min (most_watched watch) left in
        let why : why_until (watched_address watch) m k turned ≡ Break =
        why-break (k == m) (is_running turned.ended) (k == 0) (begins_at (watched_address watch) turned.session) early turned-runs no-first begins in
        turn.seen
        ∙ ap (λ (w : Why). watch_after watch (look_of turned) w) why
        ∙ ap (λ (asks : Bool). watch_called asks (record watch { polls = polls_kept watch.polls (look_of turned) })) (turned-polls watch.at_status begins)
        ∙ ap (λ (polls : ℕ). watch_called true (record watch { polls = polls })) kept

    seen-uncalled : ((k == min (most_watched watch) left) ≡ true) ⊎ (begins_at (watched_address watch) turned.session ≡ false) → next ≡ watch_uncalled watch
    unfolding look_of kept
    seen-uncalled none =
        let m : ℕ = min (most_watched watch) left in
        turn.seen
        ∙ no-break (k == m) (is_running turned.ended) (k == 0) (begins_at (watched_address watch) turned.session) none
        (watch.at_status || is_poll turned.session.regs) (record watch { polls = polls_kept watch.polls (look_of turned) })
        ∙ ap (λ (polls : ℕ). watch_uncalled (record watch { polls = polls })) kept

    -- behind it the machine asks, and the turn went no further if it stops there
    ends-soon : poll_pause ≤ k → wrong by watch.at_status ≡ 0 → ⊥
    ends-soon much right =
        let h = p.often done low (omega arith) in
        let later = h.1 in
        let sooner = h.2 in
        let at : done + (h.0 - done) ≡ h.0 = omega arith in
        let P : ℕ → Type 0 = λ i. asks_by by (alone_by system keys i start) ≡ true in
        let asks : asks_by by (alone_by system keys (done + (h.0 - done)) start) ≡ true = subst P (sym at) h.3 in
        let begins : begins_at (watched_address watch) (after system (h.0 - done) now).session ≡ true =
        sym (ap (λ (s : MachineState). begins_at (watched_address watch) s.session) (going-state going (h.0 - done)))
        ∙ asks-begins by watch.at_status (alone_by system keys (done + (h.0 - done)) start) right asks in
        let first : ((h.0 - done) == 0) ≡ false = grind (arith, nat_tests) in
        let goes = turn-longest.each (h.0 - done) (omega arith) in
        true≢false (sym begins ∙ not-begins _ ((h.0 - done) == 0) (begins_at (watched_address watch) (after system (h.0 - done) now).session) first goes)

    -- so a turn that is long enough and stopped before no call watched those of the other kind
    missed : LeavesTurn left (steps - done) → done + k < steps → (k ≡ min (most_watched watch) left) ⊎ (begins_at (watched_address watch) turned.session ≡ false) →
        poll_pause ≤ watch.quantum → wrong by watch.at_status ≡ 1
    missed room rest none long =
        let most = most-long watch long in
        let within = turn-longest.within in
        let one = wrong-one by watch.at_status in
        ⊎_elim (λ right. absurd (⊎_elim (λ quick. ends-quick quick) (λ much. ends-soon much (omega arith)) (cases_lt k poll_pause))) (λ other. omega arith)
        (cases_lt (wrong by watch.at_status) 1)
      where
        ends-quick : k < poll_pause → ⊥
        ends-quick quick =
            let most = most-long watch long in
            let within = turn-longest.within in
            let whole : k ≡ min (most_watched watch) left → ⊥ = λ same. ⊎_elim (λ a. let bad : ⊥ = omega arith in bad) (λ b. let bad : ⊥ = omega arith in bad) room in
            ⊎_elim whole (λ other. true≢false (sym (turn-begins (omega (arith, whole)) quick) ∙ other)) none

    pub credit-turn : LeavesTurn left (steps - done) → done + k < steps → watch.polls < polls_enough → (turns : ℕ) → HasCredit by watch turns → HasCredit by next (turns - 1)
    credit-turn room rest few turns credit = by_tests (k == min (most_watched watch) left) (begins_at (watched_address watch) turned.session) refl refl
      where
        uncalled : ((k == min (most_watched watch) left) ≡ true) ⊎ (begins_at (watched_address watch) turned.session ≡ false) →
            (k ≡ min (most_watched watch) left) ⊎ (begins_at (watched_address watch) turned.session ≡ false) → HasCredit by next (turns - 1)
        uncalled tested none =
            let seen = seen-uncalled tested in
            credit-uncalled by watch next turns few (ap (λ (w : Watch). w.polls) seen) (ap (λ (w : Watch). w.at_status) seen) (ap (λ (w : Watch). w.quantum) seen)
            (missed room rest none) credit

        by_tests : (whole begins : Bool) → (k == min (most_watched watch) left) ≡ whole → begins_at (watched_address watch) turned.session ≡ begins → HasCredit by next (turns - 1)
        by_tests true begins e f = uncalled (inl e) (inl (grind (arith, nat_tests)))
        by_tests false false e f = uncalled (inr f) (inr f)
        by_tests false true e f =
            let seen = seen-called e f in
            let polls : next.polls ≡ min (watch.polls + 1) (2 ^ 32 - 1) = ap (λ (w : Watch). w.polls) seen in
            credit-called by watch next turns few (omega arith) (ap (λ (w : Watch). w.quantum) seen) credit

-- a turn is no shorter than the one before
quick-after : (watch : Watch) (look : Look) (why : Why) → first_quantum ≤ watch.quantum → first_quantum ≤ (watch_after watch look why).quantum
quick-after watch look Break quick = quick
quick-after watch look All quick = omega arith
quick-after watch look Stopped quick = omega arith
quick-after watch look Blocked quick = omega arith

-- the machine runs where a turn makes a step
turn-runs : {system : Disk} {now : MachineState} (k left : ℕ) (turned : MachineState) (watch next : Watch) → IsWatchedTurn system left watch next k now turned → 0 < k → is_running now.ended ≡ true
unfolding executed_until
turn-runs {system} {now} k left turned watch next turn some =
    let test : ℕ → Bool = λ i. can_go_on (watched_address watch) i (after system i now) in
    let longest : IsLongest test (min (most_watched watch) left) k = subst (IsLongest test (min (most_watched watch) left)) (sym turn.executed) (longest-is test (min (most_watched watch) left)) in
    and-first (is_running now.ended) (has_room now.session.console) (and-first (is_running now.ended && has_room now.session.console) true (longest.each 0 some))

-- ---- how a session that is typed at patiently stands

-- The first turns are long enough. For each count from which on it may have polled steadily: how many turns are left before that is seen, and that these end
-- in time. And it has polled no longer.
pub record IsTimely (system : Disk) (start : MachineState) (keys : List Key) (steps begun done : ℕ) (watch : Watch) : Type 0 where
  pub quick : first_quantum ≤ watch.quantum
  pub credit : done < steps → runs_at system start keys done ≡ true → (by : Bool) (n : ℕ) → begun ≤ n → n ≤ done → PollsSteadily system start keys (asks_by by) n done →
      (turns : ℕ) × HasCredit by watch turns × (done + turns * longest_turn ≤ n + (most_turns + 1) * longest_turn)
  pub answered : HasNoLongPoll system start keys begun done

-- by either kind of call
none-longer : (system : Disk) (start : MachineState) (keys : List Key) (from until : ℕ) →
    ((by : Bool) (n : ℕ) → from ≤ n → n + longest_polling < until → PollsSteadily system start keys (asks_by by) n (n + longest_polling) → ⊥) → HasNoLongPoll system start keys from until
none-longer system start keys from until none n low below polls = ⊎_elim (none false n low below) (none true n low below) polls

either-longer : (system : Disk) (start : MachineState) (keys : List Key) (from until : ℕ) → HasNoLongPoll system start keys from until →
    (by : Bool) (n : ℕ) → from ≤ n → n + longest_polling < until → PollsSteadily system start keys (asks_by by) n (n + longest_polling) → ⊥
either-longer system start keys from until answered true n low below polls = answered n low below (inr polls)
either-longer system start keys from until answered false n low below polls = answered n low below (inl polls)

pub timely-start : (system : Disk) (start : MachineState) (keys : List Key) (steps done : ℕ) (watch : Watch) → first_quantum ≤ watch.quantum → IsTimely system start keys steps done done watch
timely-start system start keys steps done watch quick = record {
  quick = quick;
  credit = λ rest runs by n low high p. (most_turns, credit-start by watch quick, omega arith);
  answered = λ n low below p. absurd (omega arith);
}

not-empty : (xs : List ℕ) (x : ℕ) → xs ++ x ∷ [] ≡ [] → ⊥
not-empty [] x e = let bad : ⊥ = cc in bad
not-empty (y ∷ ys) x e = let bad : ⊥ = cc in bad

-- a key is pending where it comes
key-pending : (system : Disk) (start : MachineState) (keys more : List Key) (key : Key) (done : ℕ) → more ≡ keys ++ key ∷ [] → key.count ≡ done →
    (alone_by system more done start).session.console.keys ≡ [] → ⊥
key-pending system start keys more key done is at none =
    let there : alone_by system more done start ≡ keyed key.byte (alone_by system keys done start) =
    ap (λ (ks : List Key). alone_by system ks done start) is
    ∙ ap (λ ps. alone system ps done start) (presses-more keys key)
    ∙ ap (λ (n : ℕ). alone system (presses_of keys ++ record { after = n; key = key.byte } ∷ []) done start) at
    ∙ alone-pressed system (presses_of keys) done key.byte start in
    not-empty (alone_by system keys done start).session.console.keys key.byte (sym (ap (λ (s : MachineState). s.session.console.keys) there) ∙ none)

-- a key more
pub timely-key : (system : Disk) (start : MachineState) (keys more : List Key) (steps begun done : ℕ) (watch next : Watch) (key : Key) → IsTimely system start keys steps begun done watch →
    first_quantum ≤ next.quantum → more ≡ keys ++ key ∷ [] → key.count ≡ done → ((i : ℕ) → i < done → alone_by system more i start ≡ alone_by system keys i start) →
    IsTimely system start more steps begun done next
timely-key system start keys more steps begun done watch next key timely quick is at same = record {
  quick = quick;
  credit = λ rest runs by n low high p. absurd (key-pending system start keys more key done is at (p.calm done high (omega arith)).none);
  answered = none-longer system start more begun done (λ by n low below p.
      either-longer system start keys begun done timely.answered by n low below
      (steady-same system start keys more (asks_by by) n (n + longest_polling) (omega arith) (λ i high. same i (omega arith)) p));
}

module _ {system : Disk} {steps most : ℕ} {start now : MachineState} {before written : OutputState} {unrecorded record_now : Option (List ℕ)} {keys : List Key} {begun done : ℕ} {watch : Watch}
    (going : IsGoing system steps most start now before written unrecorded record_now keys done) (timely : IsTimely system start keys steps begun done watch)
    (few : now.session.console.keys ≡ [] → watch.polls < polls_enough) where
  -- where it polls steadily, fewer polls than enough are counted
  steady-few : (by : Bool) (n : ℕ) → n ≤ done → PollsSteadily system start keys (asks_by by) n done → watch.polls < polls_enough
  steady-few by n high p = few (ap (λ (s : MachineState). s.session.console.keys) going.gone.state ∙ (p.calm done high (omega arith)).none)

  -- so that at least two turns are left
  two-left : (by : Bool) (n : ℕ) → begun ≤ n → n ≤ done → done < steps → runs_at system start keys done ≡ true → PollsSteadily system start keys (asks_by by) n done → done + 2 * longest_turn ≤ n + (most_turns + 1) * longest_turn
  two-left by n low high rest runs p =
      let c = timely.credit rest runs by n low high p in
      let credit = c.1.left in
      let bound = c.2 in
      let less = steady-few by n high p in
      omega arith

  pub timely-turn : (k left : ℕ) (turned : MachineState) (next : Watch) → turned ≡ after system k now → IsWatchedTurn system left watch next k now turned → 0 < k → k ≤ longest_turn → done < steps →
      LeavesTurn left (steps - done) → IsTimely system start keys steps begun (done + k) next
  timely-turn k left turned next there turn some short here room = record {
    quick = quick-next;
    credit = λ rest runs by n low high p. ⊎_elim (λ early. more_credit rest runs by n low (omega arith) p) (λ late. (most_turns, credit-start by next quick-next, omega arith)) (cases_lt n (done + 1));
    answered = none-longer system start keys begun (done + k) (λ by n low below p. ⊎_elim (λ early. either-longer system start keys begun done timely.answered by n low early p)
        (λ late.
        let ends = two-left by n low (omega arith) here runs-here (steady-sooner system start keys (asks_by by) n (n + longest_polling) done late p) in
        absurd (omega arith))
        (cases_lt (n + longest_polling) done));
  }
    where
      quick-next : first_quantum ≤ next.quantum
      quick-next = subst (λ (w : Watch). first_quantum ≤ w.quantum) (sym turn.seen)
          (quick-after watch (look_of turned) (why_until (watched_address watch) (min (most_watched watch) left) k turned) timely.quick)

      -- it runs where it makes a step
      runs-here : runs_at system start keys done ≡ true
      runs-here = sym (ap (λ (s : MachineState). is_running s.ended) going.gone.state) ∙ turn-runs k left turned watch next turn some

      more_credit : done + k < steps → runs_at system start keys (done + k) ≡ true → (by : Bool) (n : ℕ) → begun ≤ n → n ≤ done → PollsSteadily system start keys (asks_by by) n (done + k) →
          (turns : ℕ) × HasCredit by next turns × ((done + k) + turns * longest_turn ≤ n + (most_turns + 1) * longest_turn)
      more_credit rest runs by n low high p =
          let sooner = steady-sooner system start keys (asks_by by) n (done + k) done (omega arith) p in
          let c = timely.credit here runs-here by n low high sooner in
          let less = steady-few by n high sooner in
          let credit = c.1.left in
          let bound = c.2 in
          (c.0 - 1, credit-turn going k left turned watch next there turn some short runs by n high p room rest less c.0 c.1, omega arith)
