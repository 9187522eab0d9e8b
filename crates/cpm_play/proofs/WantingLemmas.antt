-- Where a machine that is played live wants a key: the polls that are counted, and what a key and a turn more make of them.
use Rattle.std.proofs.Common.{◌≡◌, ℕ, zero, suc, ◌+◌, ◌<◌, ◌≤◌, ◌==◌, ◌&&◌, ◌||◌, nat_le, not, is_some, Bool, true, false, true≢false, ◌≢◌, ◌⊎◌, inl, inr, ⊎_elim, Option, List, [], ◌∷◌, ◌++◌, length, slice_get, refl, sym, ap, ◌∙◌, subst, arith, append-nil, if◌then◌else◌}
use Rattle.std.proofs.lemmas.Bool.{cases_lt}
use Rattle.std.proofs.lemmas.Bool.Decides.{nat_tests}
use Rattle.std.proofs.lemmas.List.{append_assoc, nil_from_length}
use Rattle.cpm_geom.specs.Disk.{Disk}
use Rattle.cpm_memory.specs.Layout.{bdos_address}
use Rattle.cpm_bdos.specs.Waiting.{needs_key}
use Rattle.cpm_script.specs.declared.script.Key.{Key}
use Rattle.cpm_machine.specs.Alone.{alone}
use Rattle.cpm_machine.specs.MachineState.{MachineState}
use Rattle.cpm_machine.specs.Serve.{look_of}
use Rattle.cpm_machine.specs.Step.{after, is_running}
use Rattle.cpm_machine.specs.Until.{begins_at, why_until}
use Rattle.cpm_machine.specs.declared.reply.Look.{Look}
use Rattle.cpm_machine.specs.declared.reply.Why.{Why}
use Rattle.cpm_machine.specs.declared.reply.Why.TheVariants.{All, Stopped, Break, Blocked}
use Rattle.cpm_machine.proofs.PressLaws.{alone-late}
use Rattle.cpm_play.specs.Live.{AreBy, IsGoing}
use Rattle.cpm_play.specs.Output.{OutputState}
use Rattle.cpm_play.specs.Playing.{alone_by, last_count, presses_of, screen_at, waits_at}
use Rattle.cpm_play.specs.Typist.{CanBeHeard}
use Rattle.cpm_play.specs.Wanting.{AreWantedAfter, HasAsked, HasNoLongWait, HasPolled, HasWatched, IsKeyWanted, asks_for_key, console_status_address, is_poll, longest_turn, need_of, polls_enough, polls_kept, polls_more, watch_after, watch_by, watched_address}
use Rattle.cpm_play.specs.declared.typist.Heard.TheVariants as heard
use Rattle.cpm_play.specs.declared.typist.KeyNeed.{KeyNeed}
use Rattle.cpm_play.specs.declared.typist.KeyNeed.TheVariants.{Pending, Possible, Wanted}
use Rattle.cpm_play.specs.declared.watch.Watch.{Watch}
use Rattle.cpm_play.proofs.AloneLemmas.{none-due, presses-append}
use Rattle.cpm_play.proofs.CuedLemmas.{going-shows, going-state}
use Rattle.cpm_play.proofs.GoingLemmas.{going-waiting}

-- ---- polls

module _ (system : Disk) (start : MachineState) (keys : List Key) where
  pub polled-none : (from until : ℕ) (shown : List ℕ) → HasPolled system start keys 0 from until shown
  unfolding HasPolled
  polled-none from until shown = tt

  -- up to a later count
  pub polled-later : (count from until later : ℕ) (shown : List ℕ) → until ≤ later → HasPolled system start keys count from until shown → HasPolled system start keys count from later shown
  unfolding HasPolled
  polled-later zero from until later shown less h = tt
  polled-later (suc count) from until later shown less h =
      let before = h.1.sooner in
      (h.0, record { later = h.1.later; sooner = omega arith; asks = h.1.asks; still = h.1.still }, h.2)

  -- the latest of them
  pub polled-fewer : (few count from until : ℕ) (shown : List ℕ) → few ≤ count → HasPolled system start keys count from until shown → HasPolled system start keys few from until shown
  unfolding HasPolled
  polled-fewer zero count from until shown less h = tt
  polled-fewer (suc few) zero from until shown less h = absurd (omega arith)
  polled-fewer (suc few) (suc count) from until shown less h = (h.0, h.1, polled-fewer few count from h.0 shown (omega arith) h.2)

  -- one more
  pub polled-more : (count from until at : ℕ) (shown : List ℕ) → HasAsked system start keys from until shown at → HasPolled system start keys count from at shown → HasPolled system start keys (suc count) from until shown
  unfolding HasPolled
  polled-more count from until at shown asked h = (at, asked, h)

-- ---- why a turn stopped

stopped-before : (all runs first begins : Bool) → Break ≡ (if all then All else if not runs then Stopped else if not first && begins then Break else Blocked) → (runs ≡ true) × (first ≡ false) × (begins ≡ true)
stopped-before true runs first begins e = absurd (let bad : ⊥ = cc in bad)
stopped-before false false first begins e = absurd (let bad : ⊥ = cc in bad)
stopped-before false true true begins e = absurd (let bad : ⊥ = cc in bad)
stopped-before false true false false e = absurd (let bad : ⊥ = cc in bad)
stopped-before false true false true e = (refl, refl, refl)

asks-bdos : (runs begins polls status : Bool) → runs ≡ true → begins ≡ true → polls ≡ true → ((runs && (begins && polls)) || (runs && status)) ≡ true
asks-bdos runs begins polls status a b c = rw (a, b, c) refl

asks-status : (runs other begins : Bool) → runs ≡ true → begins ≡ true → ((runs && other) || (runs && begins)) ≡ true
asks-status runs false begins a b = rw (a, b) refl
asks-status runs true begins a b = rw a refl

-- where a turn stops before a watched call that polls, the machine asks for a key
asks-there : (at_status : Bool) (pc : ℕ) (now : MachineState) → pc ≡ (if at_status then console_status_address else bdos_address) → is_running now.ended ≡ true → begins_at pc now.session ≡ true →
    (at_status || is_poll now.session.regs) ≡ true → asks_for_key now ≡ true
asks-there false pc now at runs begins polls =
    asks-bdos (is_running now.ended) (begins_at bdos_address now.session) (is_poll now.session.regs) (begins_at console_status_address now.session) runs (sym (ap (λ (n : ℕ). begins_at n now.session) at) ∙ begins) polls
asks-there true pc now at runs begins polls =
    asks-status (is_running now.ended) (begins_at bdos_address now.session && is_poll now.session.regs) (begins_at console_status_address now.session) runs (sym (ap (λ (n : ℕ). begins_at n now.session) at) ∙ begins)

module _ (old new : Watch) (pc most k : ℕ) (now : MachineState) (at : pc ≡ watched_address old) where
  stopped-watched : (asks : Bool) → (old.at_status || is_poll now.session.regs) ≡ asks → Break ≡ why_until pc most k now →
      new.polls ≡ polls_more asks (polls_kept old.polls (look_of now)) → HasWatched old new k now
  stopped-watched false e is seen = inl (omega arith)
  stopped-watched true e is seen =
      let why = stopped-before (k == most) (is_running now.ended) (k == 0) (begins_at pc now.session) is in
      inr (let some = why.1 in grind (arith, nat_tests), asks-there old.at_status pc now at why.0 why.2 e, omega arith)

  by_why : (why : Why) → why ≡ why_until pc most k now →
      new.polls ≡ (watch_by why (old.at_status || is_poll now.session.regs) (record old { polls = polls_kept old.polls (look_of now) })).polls → HasWatched old new k now
  by_why Break is seen = stopped-watched (old.at_status || is_poll now.session.regs) refl is seen
  by_why All is seen = inl (omega arith)
  by_why Stopped is seen = inl (omega arith)
  by_why Blocked is seen = inl (omega arith)

  pub turn-watched : (why : Why) (look : Look) → look ≡ look_of now → why ≡ why_until pc most k now → new ≡ watch_after old look why → HasWatched old new k now
  unfolding look_of
  turn-watched why look is told seen = by_why why told (ap (λ (w : Watch). w.polls) (seen ∙ ap (λ (l : Look). watch_after old l why) is))

-- ---- keys

pub wanted-append : (system : Disk) (start : MachineState) (given keys : List Key) (key : Key) → AreWantedAfter system start given keys → IsKeyWanted system start (given ++ keys) key.count →
    AreWantedAfter system start given (keys ++ key ∷ [])
wanted-append system start given [] key wanted wants = (subst (λ ks. IsKeyWanted system start ks key.count) (append-nil given) wants, tt)
wanted-append system start given (k ∷ keys) key wanted wants = (
  wanted.0,
  wanted-append system start (given ++ k ∷ []) keys key wanted.1 (subst (λ ks. IsKeyWanted system start ks key.count) (sym (append_assoc given (k ∷ []) keys)) wants),
)

-- the last of keys that came by some count
last-by : (n m : ℕ) (keys : List Key) → n ≤ m → AreBy m keys → last_count n keys ≤ m
last-by n m [] less come = less
last-by n m (k ∷ keys) less come = last-by k.count m keys come.0 come.1

-- a key changes nothing before it
pub alone-before : (system : Disk) (start : MachineState) (keys more : List Key) (key : Key) (i : ℕ) → more ≡ keys ++ key ∷ [] → i < key.count → alone_by system more i start ≡ alone_by system keys i start
alone-before system start keys more key i is sooner =
    ap (λ (ks : List Key). alone_by system ks i start) is
    ∙ ap (λ ps. alone system ps i start) (presses-append keys (key ∷ []))
    ∙ alone-late system (presses_of keys) (presses_of (key ∷ [])) i start (λ j upto. none-due key.count j (key ∷ []) (omega arith, tt) (omega arith))

-- ---- how a session is watched

-- The polls that were counted since the last key, and that no wait was longer than a turn.
pub record IsWatched (system : Disk) (start : MachineState) (keys : List Key) (begun done : ℕ) (watch : Watch) : Type 0 where
  pub polled : HasPolled system start keys watch.polls (last_count 0 keys) (done + 1) (screen_at system start keys done)
  pub brief : HasNoLongWait system start keys begun done

-- so many polls, where there are none
none-polled : (system : Disk) (start : MachineState) (keys : List Key) (count from until : ℕ) (shown : List ℕ) → count ≡ 0 → HasPolled system start keys count from until shown
none-polled system start keys count from until shown none = polled-fewer system start keys count 0 from until shown (omega arith) (polled-none system start keys from until shown)

pub watched-start : (system : Disk) (start : MachineState) (keys : List Key) (done : ℕ) (watch : Watch) → watch.polls ≡ 0 → IsWatched system start keys done done watch
watched-start system start keys done watch none = record {
  polled = none-polled system start keys watch.polls (last_count 0 keys) (done + 1) (screen_at system start keys done) none;
  brief = λ n low below. absurd (omega arith);
}

module _ {system : Disk} {steps most : ℕ} {start now : MachineState} {before written : OutputState} {unrecorded record_now : Option (List ℕ)} {keys : List Key} {begun done : ℕ} {watch : Watch}
    (going : IsGoing system steps most start now before written unrecorded record_now keys done) (watched : IsWatched system start keys begun done watch) where
  -- a key more
  pub watched-key : (next : Watch) (more : List Key) (key : Key) → next.polls ≡ 0 → more ≡ keys ++ key ∷ [] → key.count ≡ done → IsWatched system start more begun done next
  watched-key next more key none is at = record {
    polled = none-polled system start more next.polls (last_count 0 more) (done + 1) (screen_at system start more done) none;
    brief = λ n low below waits. watched.brief n low below
        (λ i more_than high. sym (ap (λ (s : MachineState). (look_of s).waiting) (alone-before system start keys more key i is (omega arith))) ∙ waits i more_than high);
  }

  -- ---- a turn

  -- no wait is longer, where it did not wait before
  brief-turn : (k : ℕ) → k ≤ longest_turn → waits_at system start keys done ≡ false → HasNoLongWait system start keys begun (done + k)
  brief-turn k few busy n from below waits = ⊎_elim (λ early. watched.brief n from early waits)
      (λ late. true≢false (sym (waits done (omega arith) (omega arith)) ∙ busy))
      (cases_lt (n + longest_turn) done)

  -- the polls before it still count, where nothing was shown
  kept-polls : (k : ℕ) (turned : MachineState) → 0 < k → turned ≡ after system k now →
      HasPolled system start keys (polls_kept watch.polls (look_of turned)) (last_count 0 keys) (done + k) (screen_at system start keys (done + k))
  unfolding look_of
  kept-polls k turned some is = by_test (length turned.session.console.screen == 0) refl
    where
      by_test : (b : Bool) → (length turned.session.console.screen == 0) ≡ b →
          HasPolled system start keys (if b then watch.polls else 0) (last_count 0 keys) (done + k) (screen_at system start keys (done + k))
      by_test true e =
          let none : length turned.session.console.screen ≡ 0 = grind (arith, nat_tests) in
          let bare : (after system k now).session.console.screen ≡ [] = sym (ap (λ (s : MachineState). s.session.console.screen) is) ∙ nil_from_length turned.session.console.screen none in
          let same : screen_at system start keys (done + k) ≡ screen_at system start keys done =
          going-shows going k ∙ ap (λ (xs : List ℕ). screen_at system start keys done ++ xs) bare ∙ append-nil (screen_at system start keys done) in
          subst (λ (xs : List ℕ). HasPolled system start keys watch.polls (last_count 0 keys) (done + k) xs) (sym same)
          (polled-later system start keys watch.polls (last_count 0 keys) (done + 1) (done + k) (screen_at system start keys done) (omega arith) watched.polled)
      by_test false e = polled-none system start keys (last_count 0 keys) (done + k) (screen_at system start keys (done + k))

  asks-alone : (k : ℕ) (turned : MachineState) → turned ≡ after system k now → asks_for_key turned ≡ true → asks_for_key (alone_by system keys (done + k) start) ≡ true
  asks-alone k turned is asks =
      ap asks_for_key (going-state going k) ∙ sym (ap asks_for_key is) ∙ asks

  turned-polls : (k : ℕ) (turned : MachineState) (next : Watch) → 0 < k → turned ≡ after system k now → HasWatched watch next k turned →
      HasPolled system start keys next.polls (last_count 0 keys) (done + k + 1) (screen_at system start keys (done + k))
  turned-polls k turned next some is (inl fewer) =
      let there = done + k in
      let kept = kept-polls k turned some is in
      polled-fewer system start keys next.polls (polls_kept watch.polls (look_of turned)) (last_count 0 keys) (there + 1) (screen_at system start keys there) fewer
      (polled-later system start keys (polls_kept watch.polls (look_of turned)) (last_count 0 keys) there (there + 1) (screen_at system start keys there) (omega arith) kept)
  turned-polls k turned next some is (inr one) =
      let there = done + k in
      let kept = kept-polls k turned some is in
      let last : last_count 0 keys ≤ done = last-by 0 done keys (omega arith) going.gone.come in
      let fewer = one.2 in
      polled-fewer system start keys next.polls (suc (polls_kept watch.polls (look_of turned))) (last_count 0 keys) (there + 1) (screen_at system start keys there) (omega arith)
      (polled-more system start keys (polls_kept watch.polls (look_of turned)) (last_count 0 keys) (there + 1) there (screen_at system start keys there)
      (record { later = omega arith; sooner = omega arith; asks = asks-alone k turned is one.1; still = refl }) kept)

  pub watched-turn : (k : ℕ) (turned : MachineState) (next : Watch) → 0 < k → k ≤ longest_turn → waits_at system start keys done ≡ false → turned ≡ after system k now → HasWatched watch next k turned →
      IsWatched system start keys begun (done + k) next
  watched-turn k turned next some few busy is watches = record {
    polled = turned-polls k turned next some is watches;
    brief = brief-turn k few busy;
  }

  -- ---- whether a key is wanted

  module _ (look : Look) (is : look ≡ look_of now) (need : KeyNeed) (told : need ≡ need_of watch look) where
    both : (none waits polls : Bool) → Wanted ≡ (if none then (if waits || polls then Wanted else Possible) else Pending) → (none ≡ true) × ((waits ≡ true) ⊎ (polls ≡ true))
    both true true polls e = (refl, inl refl)
    both true false true e = (refl, inr refl)
    both true false false e = absurd (let bad : ⊥ = cc in bad)
    both false waits polls e = absurd (let bad : ⊥ = cc in bad)

    bare : (none asks : Bool) → (if none then (if asks then Wanted else Possible) else Pending) ≢ Pending → none ≡ true
    bare true asks other = refl
    bare false asks other = absurd (other refl)

    not_pending : (n : KeyNeed) (byte : ℕ) → CanBeHeard n (heard.Key byte) → n ≢ Pending
    not_pending Pending byte fits e = absurd fits
    not_pending Possible byte fits e = let bad : ⊥ = cc in bad
    not_pending Wanted byte fits e = let bad : ⊥ = cc in bad

    pub none-here : (byte : ℕ) → CanBeHeard need (heard.Key byte) → now.session.console.keys ≡ []
    unfolding look_of
    none-here byte fits =
        let other : need_of watch look ≢ Pending = λ e. not_pending need byte fits (told ∙ e) in
        let first = bare (look.keys == 0) (look.waiting || nat_le polls_enough watch.polls) other in
        let counted : look.keys ≡ length now.session.console.keys = ap (λ (l : Look). l.keys) is in
        nil_from_length now.session.console.keys (grind (arith, nat_tests))

    pub wanted-here : need ≡ Wanted → IsKeyWanted system start keys done
    unfolding look_of
    wanted-here asked =
        let parts = both (look.keys == 0) look.waiting (nat_le polls_enough watch.polls) (sym asked ∙ told) in
        let counted : look.keys ≡ length now.session.console.keys = ap (λ (l : Look). l.keys) is in
        let first = parts.0 in
        let none : now.session.console.keys ≡ [] = nil_from_length now.session.console.keys (grind (arith, nat_tests)) in
        record {
          none = sym (ap (λ (s : MachineState). s.session.console.keys) going.gone.state) ∙ none;
          why = ⊎_elim (λ waits. inl (sym (going-waiting system steps most start now before written unrecorded record_now keys done going) ∙ sym (ap (λ (l : Look). l.waiting) is) ∙ waits))
              (λ polls.
              let enough : polls_enough ≤ watch.polls = grind (arith, nat_tests) in
              inr (polled-fewer system start keys polls_enough watch.polls (last_count 0 keys) (done + 1) (screen_at system start keys done) enough watched.polled)) parts.1;
        }

    waits-bare : (runs needs : Bool) (pending : List ℕ) → (runs && (needs && not (is_some (slice_get pending 0)))) ≡ true → length pending ≡ 0
    waits-bare runs needs [] e = refl
    waits-bare true true (x ∷ xs) e = absurd (let bad : ⊥ = cc in bad)
    waits-bare true false (x ∷ xs) e = absurd (let bad : ⊥ = cc in bad)
    waits-bare false needs (x ∷ xs) e = absurd (let bad : ⊥ = cc in bad)

    pub idle-here : (need ≡ Wanted → ⊥) → (look_of now).waiting ≡ false
    unfolding look_of
    idle-here other = by_test (look_of now).waiting refl
      where
        by_test : (b : Bool) → (look_of now).waiting ≡ b → b ≡ false
        by_test false e = refl
        by_test true e =
            let bare : length now.session.console.keys ≡ 0 = waits-bare (is_running now.ended) (needs_key now.session.mode now.session now.memory) now.session.console.keys e in
            let counted : look.keys ≡ length now.session.console.keys = ap (λ (l : Look). l.keys) is in
            let waits : look.waiting ≡ true = ap (λ (l : Look). l.waiting) is ∙ e in
            let none : (look.keys == 0) ≡ true = grind (arith, nat_tests) in
            absurd (other (told ∙ (rw (none, waits) refl)))

    wanting : (none waits polls : Bool) → none ≡ true → polls ≡ true → Wanted ≡ (if none then (if waits || polls then Wanted else Possible) else Pending)
    wanting none false polls a b = rw (a, b) refl
    wanting none true polls a b = rw a refl

    -- where no key is wanted and none is pending, few polls came in a row
    pub few-here : (need ≡ Wanted → ⊥) → now.session.console.keys ≡ [] → watch.polls < polls_enough
    unfolding look_of
    few-here other bare =
        ⊎_elim (λ few. few)
        (λ enough.
        let counted : look.keys ≡ length now.session.console.keys = ap (λ (l : Look). l.keys) is in
        let none : length now.session.console.keys ≡ 0 = ap length bare in
        let first : (look.keys == 0) ≡ true = grind (arith, nat_tests) in
        let polls : nat_le polls_enough watch.polls ≡ true = grind (arith, nat_tests) in
        absurd (other (told ∙ sym (wanting (look.keys == 0) look.waiting (nat_le polls_enough watch.polls) first polls))))
        (cases_lt watch.polls polls_enough)

    pub busy-here : (need ≡ Wanted → ⊥) → waits_at system start keys done ≡ false
    busy-here other = sym (going-waiting system steps most start now before written unrecorded record_now keys done going) ∙ idle-here other
