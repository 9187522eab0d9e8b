-- A session that is played: one more key, turn and take, and its end.
use Rattle.std.proofs.Common.{◌≡◌, ℕ, zero, suc, ◌+◌, ◌-◌, ◌<◌, ◌≤◌, nat_le, nat_lt, ◌==◌, ◌&&◌, min, Bool, true, false, Option, Some, None, ◌⊎◌, inl, inr, ⊎_elim, List, [], ◌∷◌, ◌++◌, length, take, drop, refl, sym, ap, ap₂, ◌∙◌, subst, arith, append-nil, take-append-drop, if◌then◌else◌, slice_get}
use Rattle.std.proofs.lemmas.Bool.Decides.{nat_tests}
use Rattle.std.proofs.lemmas.Bool.{cases_lt}
use Rattle.std.proofs.lemmas.List.{append_assoc, take_more}
use Rattle.std.proofs.lemmas.Option.{get_or_from_slice_get, slice_get_within}
use Rattle.std.proofs.lemmas.Option.{none-some, same_Some}
use Rattle.cpm_geom.specs.Disk.{Disk}
use Rattle.cpm_console.specs.declared.device.Device.{Device}
use Rattle.cpm_console.specs.declared.device.Device.TheVariants as device
use Rattle.cpm_console.specs.Terminal.{Terminal, has_room, waiting_on}
use Rattle.cpm_script.specs.declared.script.Key.{Key}
use Rattle.cpm_machine.specs.Alone.{due, alone}
use Rattle.cpm_machine.specs.Calls.{state_behind}
use Rattle.cpm_machine.specs.declared.reply.End.{End}
use Rattle.cpm_machine.specs.MachineState.{MachineState}
use Rattle.cpm_machine.specs.Serve.{executed, keyed, taken, taken_list, takes_key}
use Rattle.cpm_machine.specs.Step.{after, can_step, is_running, step}
use Rattle.cpm_machine.proofs.AloneLaws.{after-behind, taken-behind, taken_list-behind}
use Rattle.cpm_machine.proofs.GrantLaws.{longest-is}
use Rattle.cpm_machine.proofs.PressLaws.{alone-add, alone-pressed, with_keys-nil, AllCame-later, AllCame-pressed}
use Rattle.cpm_slots.proofs.ServeLaws.{taken_from}
use Rattle.cpm_play.specs.declared.pace.Pace.{Pace}
use Rattle.cpm_play.specs.Pacing.{due_at, first_pace, left_in, turn_of, up_to, HaveComeAfter, IsOfAll, IsOn}
use Rattle.cpm_play.specs.Playing.{alone_by, coming_after, coming_keys, presses_of, runs_at, state_left, without_list, without_text, HaveRoom, IsInOrder, IsPlayed, IsQuiet}
use Rattle.cpm_play.specs.ScriptedSlots.{console_with, list_with}
use Rattle.cpm_play.proofs.AloneLemmas.{after-ended, alone-ended, alone-taken, keyless, keyless-ended, none-due, presses-append, presses-more, step-stays}
use Rattle.cpm_play.proofs.OrderLemmas.{order-first, order-later}
use Rattle.cpm_play.proofs.RoomLemmas.{room-at}

-- ---- the keys that come

-- one more that does
come-more : (system : Disk) (start : MachineState) (steps : ℕ) (given keys : List Key) (key : Key) → key.count < steps → runs_at system start (given ++ keys) key.count ≡ true →
    HaveComeAfter system start steps given keys → HaveComeAfter system start steps given (keys ++ key ∷ [])
come-more system start steps given [] key early runs come = (early, ap (λ ks. runs_at system start ks key.count) (sym (append-nil given)) ∙ runs, tt)
come-more system start steps given (k ∷ keys) key early runs come = (
  come.0,
  come.1,
  come-more system start steps (given ++ k ∷ []) keys key early (ap (λ ks. runs_at system start ks key.count) (append_assoc given (k ∷ []) keys) ∙ runs) come.2,
)

-- those that come are all up to one that doesn't
coming-all : (system : Disk) (start : MachineState) (steps : ℕ) (given keys rest : List Key) → HaveComeAfter system start steps given keys → coming_after system start steps (given ++ keys) rest ≡ [] →
    coming_after system start steps given (keys ++ rest) ≡ keys
coming-all system start steps given [] rest come none = ap (λ ks. coming_after system start steps ks rest) (sym (append-nil given)) ∙ none
coming-all system start steps given (k ∷ keys) rest come none =
    let early : nat_lt k.count steps ≡ true = let low = come.0 in grind (arith, nat_tests) in
    rw (early, come.1)
    (ap (λ ks. k ∷ ks) (coming-all system start steps (given ++ k ∷ []) keys rest come.2 (ap (λ ks. coming_after system start steps ks rest) (append_assoc given (k ∷ []) keys) ∙ none)))

-- ---- one call more

-- before the first turn
pub on-start : (system : Disk) (keys : List Key) (steps : ℕ) (start : MachineState) → IsInOrder 0 keys → IsOn system keys steps start (first_pace steps) [] [] start
on-start system keys steps start order = record {
  state = sym (with_keys-nil start);
  came = λ i past. refl;
  coming = tt;
  later = order;
  within = omega arith;
  all = record { within = omega arith; most = omega arith; all = inl refl };
}

-- a key that is due
pub record IsDue (keys : List Key) (pace : Pace) (byte : ℕ) : Type 0 where
  pub key : Key
  pub at : slice_get keys pace.pressed ≡ Some key
  pub early : key.count ≤ pace.done
  pub is : key.byte ≡ byte

pub due-key : (o : Option Key) (keys : List Key) (pace : Pace) (byte : ℕ) → slice_get keys pace.pressed ≡ o → due_at pace.done o ≡ Some byte → IsDue keys pace byte
due-key None keys pace byte at h = absurd (none-some byte h)
due-key (Some key) keys pace byte at h = by_test (nat_le key.count pace.done) refl h
  where
    by_test : (b : Bool) → nat_le key.count pace.done ≡ b → (if b then Some key.byte else None) ≡ Some byte → IsDue keys pace byte
    by_test true e h = record { key = key; at = at; early = grind (arith, nat_tests); is = same_Some key.byte byte h }
    by_test false e h = absurd (none-some byte h)

pub key-more : (keys : List Key) (pace : Pace) (byte : ℕ) → (is : IsDue keys pace byte) → take (pace.pressed + 1) keys ≡ take pace.pressed keys ++ is.key ∷ []
key-more keys pace byte is =
    take_more keys pace.pressed is.key (slice_get_within keys pace.pressed is.key is.at) ∙ ap (λ k. take pace.pressed keys ++ k ∷ []) (get_or_from_slice_get keys pace.pressed is.key is.key is.at)

pub on-key : (system : Disk) (keys : List Key) (steps byte : ℕ) (start : MachineState) (pace : Pace) (console list : List ℕ) (now : MachineState) →
    IsDue keys pace byte → 0 < left_in pace → is_running now.ended ≡ true →
    IsOn system keys steps start pace console list now → IsOn system keys steps start (record pace { pressed = pace.pressed + 1 }) console list (keyed byte now)
on-key system keys steps byte start pace console list now is left runs on =
    let key = is.key in
    let order = order-first pace.done pace.pressed keys key is.at on.later in
    let low : pace.done ≤ key.count = order.0 in
    let early = is.early in
    let same : key.count ≡ pace.done = omega arith in
    let within : pace.pressed < length keys = slice_get_within keys pace.pressed key is.at in
    let presses : presses_of (take (pace.pressed + 1) keys) ≡ presses_of (take pace.pressed keys) ++ record { after = pace.done; key = byte } ∷ [] =
    ap presses_of (key-more keys pace byte is) ∙ presses-more (take pace.pressed keys) key
    ∙ ap₂ (λ (n b : ℕ). presses_of (take pace.pressed keys) ++ record { after = n; key = b } ∷ []) same is.is in
    record {
      state = ap (keyed byte) on.state ∙ sym (alone-pressed system (presses_of (take pace.pressed keys)) pace.done byte start) ∙ ap (λ ps. alone system ps pace.done start) (sym presses);
      came = λ i past. ap (due i) presses ∙ AllCame-pressed (presses_of (take pace.pressed keys)) pace.done byte on.came i past;
      coming =
          let most = on.all.most in
          let P : ℕ → Type 0 = λ n. runs_at system start (take pace.pressed keys) n ≡ true in
          let runs_there : runs_at system start (take pace.pressed keys) key.count ≡ true = subst P (sym same) (sym (ap (λ (s : MachineState). is_running s.ended) on.state) ∙ runs) in
          subst (λ ks. HaveComeAfter system start steps [] ks) (sym (key-more keys pace byte is))
          (come-more system start steps [] (take pace.pressed keys) key (omega (arith, same, left, most)) runs_there on.coming);
      later = subst (λ n. IsInOrder n (drop (pace.pressed + 1) keys)) same order.1;
      within = omega arith;
      all = record { within = on.all.within; most = on.all.most; all = on.all.all };
    }

-- which is never refused
pub takes-due : (system : Disk) (keys : List Key) (steps byte : ℕ) (start : MachineState) (pace : Pace) (console list : List ℕ) (now : MachineState) →
    HaveRoom system start keys → IsDue keys pace byte → IsOn system keys steps start pace console list now → takes_key now ≡ true
takes-due system keys steps byte start pace console list now room is on =
    let key = is.key in
    let order = order-first pace.done pace.pressed keys key is.at on.later in
    let low : pace.done ≤ key.count = order.0 in
    let early = is.early in
    let same : key.count ≡ pace.done = omega arith in
    let P : ℕ → Type 0 = λ n. takes_key (alone_by system (take pace.pressed keys) n start) ≡ true in
    ap takes_key on.state ∙ subst P same (room-at system start [] keys pace.pressed key is.at room)

all-later : (steps k : ℕ) (pace : Pace) (now next : MachineState) → k ≤ left_in pace → (is_running now.ended ≡ false → is_running next.ended ≡ false) → IsOfAll steps pace now → IsOfAll steps (record pace { done = pace.done + k }) next
all-later steps k pace now next fits ends all =
    let within = all.within in
    record { within = omega arith; most = all.most; all = ⊎_elim (λ whole. inl whole) (λ ended. inr (ends ended)) all.all }

-- the steps of a turn
pub on-turn : (system : Disk) (keys : List Key) (steps k m : ℕ) (start : MachineState) (pace : Pace) (console list : List ℕ) (now : MachineState) →
    k ≤ turn_of pace keys m → IsOn system keys steps start pace console list now →
    IsOn system keys steps start (record pace { done = pace.done + k }) console list (after system k now)
on-turn system keys steps k m start pace console list now turn on =
    let presses = presses_of (take pace.pressed keys) in
    let fits : k ≤ left_in pace = turn-left (slice_get keys pace.pressed) turn in
    record {
      state = sym (after-behind system console list k now) ∙ ap (after system k) on.state ∙ sym (alone-add system presses pace.done k start on.came);
      came = AllCame-later presses pace.done k on.came;
      coming = on.coming;
      later = order-later (slice_get keys pace.pressed) keys pace.done k (min (left_in pace) m) pace.pressed refl on.later turn;
      within = on.within;
      all = all-later steps k pace now (after system k now) fits (after-ended system k now) on.all;
    }
  where
    turn-left : (o : Option Key) → k ≤ up_to o pace.done (min (left_in pace) m) → k ≤ left_in pace
    turn-left None h = omega arith
    turn-left (Some key) h = omega arith

-- another state, with which other bytes were taken
on-behind : (system : Disk) (keys : List Key) (steps : ℕ) (start : MachineState) (pace : Pace) (console list console' list' : List ℕ) (now next : MachineState) → state_behind console' list' next ≡ state_behind console list now →
    IsOn system keys steps start pace console list now → IsOn system keys steps start pace console' list' next
on-behind system keys steps start pace console list console' list' now next same on = record {
  state = same ∙ on.state;
  came = on.came;
  coming = on.coming;
  later = on.later;
  within = on.within;
  all = record {
    within = on.all.within;
    most = on.all.most;
    all = subst (λ (e : End). (pace.until ≡ steps) ⊎ (is_running e ≡ false)) (sym (ap (λ (s : MachineState). s.ended) same)) on.all.all;
  };
}

-- bytes of a device that are taken
pub on-take : (system : Disk) (keys : List Key) (steps room : ℕ) (start : MachineState) (pace : Pace) (console list : List ℕ) (now : MachineState) (on_device : Device) → IsOn system keys steps start pace console list now →
    let waits = waiting_on on_device now.session.console in
    let bytes = take (min room (length waits)) waits in
    IsOn system keys steps start pace (console_with on_device bytes console) (list_with on_device bytes list) (taken_from on_device room now)
on-take system keys steps room start pace console list now device.Console on = on-behind system keys steps start pace console list _ _ now (taken room now) (taken-behind console list room now) on
on-take system keys steps room start pace console list now device.List on = on-behind system keys steps start pace console list _ _ now (taken_list room now) (taken_list-behind console list room now) on

-- ---- the end

-- a session that ended may execute no more
pub on-ended : (system : Disk) (keys : List Key) (steps : ℕ) (start : MachineState) (pace : Pace) (console list : List ℕ) (now : MachineState) → is_running now.ended ≡ false →
    IsOn system keys steps start pace console list now → IsOn system keys steps start (record pace { until = pace.done }) console list now
on-ended system keys steps start pace console list now ended on = record {
  state = on.state;
  came = on.came;
  coming = on.coming;
  later = on.later;
  within = on.within;
  all = let within = on.all.within in let most = on.all.most in record { within = omega arith; most = omega arith; all = inr ended };
}

-- a session with no output to take that makes no step has ended
pub stopped : (system : Disk) (n : ℕ) (s : MachineState) → IsQuiet s → 0 < n → 0 ≡ executed system n s → is_running s.ended ≡ false
unfolding executed
stopped system n s none some is =
    let longest = longest-is (λ k. can_step (after system k s)) n in
    let blocked : can_step s ≡ false = subst (λ k. k < n → can_step (after system k s) ≡ false) (sym is) longest.greatest some in
    go (is_running s.ended) (has_room s.session.console) (room s.session.console none.screen none.printer) blocked
  where
    room : (t : Terminal) → t.screen ≡ [] → t.printer ≡ [] → has_room t ≡ true
    room t x y = ap₂ (λ (a b : List ℕ). nat_le (length a) 4096 && nat_le (length b) 4096) x y

    go : (a b : Bool) → b ≡ true → (a && b) ≡ false → a ≡ false
    go false b e f = refl
    go true b e f = absurd (let bad : ⊥ = cc in bad)

-- keys that were not pressed make no difference so far
keys-taken : (system : Disk) (keys : List Key) (steps : ℕ) (start : MachineState) (pace : Pace) (console list : List ℕ) (now : MachineState) → IsOn system keys steps start pace console list now →
    keyless (alone system (presses_of keys) pace.done start) ≡ keyless (state_behind console list now)
keys-taken system keys steps start pace console list now on =
    let pressed = take pace.pressed keys in
    let rest = drop pace.pressed keys in
    let split : presses_of keys ≡ presses_of pressed ++ presses_of rest = ap presses_of (sym (take-append-drop pace.pressed keys)) ∙ presses-append pressed rest in
    ap (λ ps. keyless (alone system ps pace.done start)) split
    ∙ alone-taken system (presses_of pressed) (presses_of rest) pace.done start (λ i below. none-due pace.done i rest on.later below)
    ∙ ap keyless (sym on.state)

-- all steps were executed, or the session has ended
keys-all : (system : Disk) (keys : List Key) (steps : ℕ) (start : MachineState) (pace : Pace) (console list : List ℕ) (now : MachineState) → IsOn system keys steps start pace console list now → left_in pace ≡ 0 →
    keyless (alone system (presses_of keys) steps start) ≡ keyless (state_behind console list now)
keys-all system keys steps start pace console list now on none = by_case on.all.all
  where
    taken_so : keyless (alone system (presses_of keys) pace.done start) ≡ keyless (state_behind console list now)
    taken_so = keys-taken system keys steps start pace console list now on

    within : pace.done ≤ pace.until
    within = on.all.within

    most : pace.until ≤ steps
    most = on.all.most

    by_case : (pace.until ≡ steps) ⊎ (is_running now.ended ≡ false) → keyless (alone system (presses_of keys) steps start) ≡ keyless (state_behind console list now)
    by_case (inl whole) =
        let in_all : pace.done ≤ pace.until = within in
        let spent : pace.until - pace.done ≡ 0 = none in
        let same : steps ≡ pace.done = omega arith in ap (λ n. keyless (alone system (presses_of keys) n start)) same ∙ taken_so
    by_case (inr ended) =
        let in_all : pace.done ≤ pace.until = within in
        let at_most : pace.until ≤ steps = most in
        let same : steps ≡ pace.done + (steps - pace.done) = omega arith in
        ap (λ n. keyless (alone system (presses_of keys) n start)) same
        ∙ alone-ended system (presses_of keys) pace.done (steps - pace.done) start (keyless-ended (alone system (presses_of keys) pace.done start) (state_behind console list now) taken_so ended) ∙ taken_so

-- those that were pressed are the keys that come
coming-pressed : (system : Disk) (keys : List Key) (steps : ℕ) (start : MachineState) (pace : Pace) (console list : List ℕ) (now : MachineState) → IsOn system keys steps start pace console list now → left_in pace ≡ 0 →
    coming_keys system start steps keys ≡ take pace.pressed keys
coming-pressed system keys steps start pace console list now on none =
    ap (coming_keys system start steps) (sym (take-append-drop pace.pressed keys))
    ∙ coming-all system start steps [] (take pace.pressed keys) (drop pace.pressed keys) on.coming (rest (drop pace.pressed keys) on.later)
  where
    pressed : List Key
    pressed = take pace.pressed keys

    -- where it has ended, it has at each later count
    ended-then : (n : ℕ) → pace.done ≤ n → is_running now.ended ≡ false → runs_at system start pressed n ≡ false
    ended-then n low ended =
        let at : pace.done + (n - pace.done) ≡ n = omega arith in
        let P : ℕ → Type 0 = λ m. runs_at system start pressed m ≡ false in
        let there : is_running (alone_by system pressed pace.done start).ended ≡ false = sym (ap (λ (s : MachineState). is_running s.ended) on.state) ∙ ended in
        subst P at (ap (λ (s : MachineState). is_running s.ended) (alone-add system (presses_of pressed) pace.done (n - pace.done) start on.came)
        ∙ after-ended system (n - pace.done) (alone_by system pressed pace.done start) there)

    none-then : (a b : Bool) → (a ≡ false) ⊎ (b ≡ false) → (a && b) ≡ false
    none-then false b why = refl
    none-then true b (inl why) = absurd (let no : ⊥ = cc in no)
    none-then true b (inr why) = why

    rest : (ks : List Key) → IsInOrder pace.done ks → coming_after system start steps pressed ks ≡ []
    rest [] order = refl
    rest (k ∷ ks) order =
        let low : pace.done ≤ k.count = order.0 in
        let within = on.all.within in
        let why : (nat_lt k.count steps ≡ false) ⊎ (runs_at system start pressed k.count ≡ false) =
        ⊎_elim (λ whole. inl (let past : steps ≤ k.count = omega (arith, none, within, whole, low) in grind (arith, nat_tests))) (λ ended. inr (ended-then k.count low ended)) on.all.all in
        rw (none-then (nat_lt k.count steps) (runs_at system start pressed k.count) why) refl

-- what is left is the machine run alone by these for all steps, with its output taken
on-left : (system : Disk) (keys : List Key) (steps : ℕ) (start : MachineState) (pace : Pace) (console list : List ℕ) (now : MachineState) → IsOn system keys steps start pace console list now → IsQuiet now → left_in pace ≡ 0 →
    now ≡ state_left system (coming_keys system start steps keys) steps start
on-left system keys steps start pace console list now on quiet none =
    ap₂ (λ (xs ys : List ℕ). record now { session = record now.session { console = record now.session.console { screen = xs; printer = ys } } }) quiet.screen quiet.printer
    ∙ ap (λ (s : MachineState). without_list (without_text s)) (on.state ∙ sym over)
    ∙ ap (λ ks. state_left system ks steps start) (sym (coming-pressed system keys steps start pace console list now on none))
  where
    pressed : List Key
    pressed = take pace.pressed keys

    within : pace.done ≤ pace.until
    within = on.all.within

    most : pace.until ≤ steps
    most = on.all.most

    -- an ended one stays
    stays : (n : ℕ) (s : MachineState) → is_running s.ended ≡ false → after system n s ≡ s
    stays zero s ended = refl
    stays (suc n) s ended = ap (step system) (stays n s ended) ∙ step-stays system s ended

    by_case : (pace.until ≡ steps) ⊎ (is_running now.ended ≡ false) → after system (steps - pace.done) (alone_by system pressed pace.done start) ≡ alone_by system pressed pace.done start
    by_case (inl whole) =
        let in_all = within in
        let zero_steps : steps - pace.done ≡ 0 = omega (arith, none, in_all, whole) in
        ap (λ n. after system n (alone_by system pressed pace.done start)) zero_steps
    by_case (inr ended) = stays (steps - pace.done) (alone_by system pressed pace.done start) (sym (ap (λ (s : MachineState). is_running s.ended) on.state) ∙ ended)

    over : alone_by system pressed steps start ≡ alone_by system pressed pace.done start
    over =
        let in_all = within in
        let at_most = most in
        let all : pace.done + (steps - pace.done) ≡ steps = omega (arith, in_all, at_most) in
        ap (λ n. alone_by system pressed n start) (sym all) ∙ alone-add system (presses_of pressed) pace.done (steps - pace.done) start on.came ∙ by_case on.all.all

pub on-end : (system : Disk) (keys : List Key) (steps : ℕ) (start : MachineState) (pace : Pace) (console list : List ℕ) (now : MachineState) → IsOn system keys steps start pace console list now → IsQuiet now → left_in pace ≡ 0 →
    IsPlayed system keys steps start now console list
on-end system keys steps start pace console list now on quiet none =
    let same : keyless (alone system (presses_of keys) steps start) ≡ keyless (state_behind console list now) = keys-all system keys steps start pace console list now on none in
    record {
      screen = sym (append-nil console) ∙ ap (λ xs. console ++ xs) (sym quiet.screen) ∙ ap (λ (s : MachineState). s.session.console.screen) (sym same);
      printer = sym (append-nil list) ∙ ap (λ xs. list ++ xs) (sym quiet.printer) ∙ ap (λ (s : MachineState). s.session.console.printer) (sym same);
      count = ap (λ (s : MachineState). s.count) (sym same);
      ended = ap (λ (s : MachineState). s.ended) (sym same);
      regs = ap (λ (s : MachineState). s.session.regs) (sym same);
      memory = ap (λ (s : MachineState). s.memory) (sym same);
      disks = ap (λ (s : MachineState). s.session.disks) (sym same);
      state = on-left system keys steps start pace console list now on quiet none;
    }

-- ---- a turn of one machine

-- where no key is due and steps are left, a turn has some
turn-some : (o : Option Key) (keys : List Key) (pace : Pace) (quantum : ℕ) → slice_get keys pace.pressed ≡ o → due_at pace.done o ≡ None → 0 < left_in pace → 1 ≤ quantum → 0 < up_to o pace.done (min (left_in pace) quantum)
turn-some None keys pace quantum at none left some = omega arith
turn-some (Some key) keys pace quantum at none left some = by_test (nat_le key.count pace.done) refl none
  where
    by_test : (b : Bool) → nat_le key.count pace.done ≡ b → (if b then Some key.byte else None) ≡ None → 0 < min (min (left_in pace) quantum) (key.count - pace.done)
    by_test true e h = absurd (none-some key.byte (sym h))
    by_test false e h = let later : pace.done < key.count = grind (arith, nat_tests) in omega arith

-- the pace after a turn
pub record IsAdvanced (k : ℕ) (old new : Pace) : Type 0 where
  pub pressed : new.pressed ≡ old.pressed
  pub done : new.done ≡ old.done + k
  pub until : new.until ≡ (if k == 0 then old.done else old.until)

advanced-is : (k : ℕ) (old new : Pace) → IsAdvanced k old new → new ≡ record old { done = old.done + k; until = if k == 0 then old.done else old.until }
advanced-is k old new is =
    ap (λ (n : ℕ). let p : Pace = record { pressed = n; done = new.done; until = new.until } in p) is.pressed
    ∙ ap (λ (n : ℕ). let p : Pace = record { pressed = old.pressed; done = n; until = new.until } in p) is.done
    ∙ ap (λ (n : ℕ). let p : Pace = record { pressed = old.pressed; done = old.done + k; until = n } in p) is.until

-- the steps of a turn of a session with no output to take, in which no key is due, or which has ended
pub on-advance : (system : Disk) (keys : List Key) (steps k quantum : ℕ) (start : MachineState) (old new : Pace) (console list : List ℕ) (now : MachineState) →
    IsQuiet now → (due_at old.done (slice_get keys old.pressed) ≡ None) ⊎ (is_running now.ended ≡ false) → 1 ≤ quantum →
    k ≡ executed system (turn_of old keys quantum) now → k ≤ turn_of old keys quantum → IsAdvanced k old new →
    IsOn system keys steps start old console list now → IsOn system keys steps start new console list (after system k now)
on-advance system keys steps k quantum start old new console list now quiet none some is turn moves on =
    let P : Pace → Type 0 = λ p. IsOn system keys steps start p console list (after system k now) in
    subst P (sym (advanced-is k old new moves)) (by_test (k == 0) refl)
  where
    moved : IsOn system keys steps start (record old { done = old.done + k }) console list (after system k now)
    moved = on-turn system keys steps k quantum start old console list now turn on

    over : k ≡ 0 → 0 < left_in old → is_running now.ended ≡ false
    over zero_steps left =
        ⊎_elim
        (λ free. stopped system (turn_of old keys quantum) now quiet (turn-some (slice_get keys old.pressed) keys old quantum refl free left some) (sym zero_steps ∙ is))
        (λ ended. ended) none

    by_test : (b : Bool) → (k == 0) ≡ b → IsOn system keys steps start (record old { done = old.done + k; until = if b then old.done else old.until }) console list (after system k now)
    by_test false e = moved
    by_test true e =
        let zero_steps : k ≡ 0 = grind (arith, nat_tests) in
        let here : old.done ≡ old.done + k = omega arith in
        let P : ℕ → Type 0 = λ n. IsOn system keys steps start (record old { done = old.done + k; until = n }) console list (after system k now) in
        ⊎_elim (λ left. subst P (sym here) (on-ended system keys steps start (record old { done = old.done + k }) console list (after system k now) (after-ended system k now (over zero_steps left)) moved))
        (λ spent. let within = on.all.within in let same : old.until ≡ old.done = omega arith in subst P same moved) (cases_lt 0 (left_in old))
