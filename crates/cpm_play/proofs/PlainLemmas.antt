-- A script that never waits: where all its keys come, and where some do not.
use Rattle.std.proofs.Common.{◌≡◌, ℕ, ◌+◌, ◌-◌, ◌<◌, ◌≤◌, max, Bool, true, false, true≢false, ◌⊎◌, inl, inr, ⊎_elim, Option, List, [], ◌∷◌, ◌++◌, length, drop, map, refl, sym, ap, ap₂, ◌∙◌, subst, arith, append-nil, slice_get}
use Rattle.std.specs.Option.{option_map_or}
use Rattle.std.proofs.lemmas.Bool.{cases_lt}
use Rattle.std.proofs.lemmas.List.{append_assoc}
use Rattle.cpm_geom.specs.Disk.{Disk}
use Rattle.cpm_script.specs.Cues.{Awaited, Counted, Pressed, CueText, cue_text}
use Rattle.cpm_script.specs.declared.cue.Cue.{Cue}
use Rattle.cpm_script.specs.declared.cue.Cue.TheVariants.{Key as Timed, Wait, Press}
use Rattle.cpm_script.specs.declared.script.Key.{Key}
use Rattle.cpm_machine.specs.Alone.{Press as KeyPress, alone}
use Rattle.cpm_machine.specs.MachineState.{MachineState}
use Rattle.cpm_machine.specs.Step.{is_running}
use Rattle.cpm_play.specs.Cued.{Comes, IsCued, IsCuedFrom, runs_at, screen_at}
use Rattle.cpm_play.specs.Laws.{PlainCuesDoAsTheirKeys, PlainCuesGiveTheirKeys}
use Rattle.cpm_play.specs.Live.{AreBy}
use Rattle.cpm_play.specs.Playing.{presses_of, HaveRoomAfter, IsInOrder, alone_by}
use Rattle.cpm_play.proofs.AloneLemmas.{alone-ended, alone-taken, keyless, keyless-ended, none-due, presses-append}

-- it runs before keys that come later, if it does so behind them
runs-before : (system : Disk) (start : MachineState) (steps n : ℕ) (before later : List Key) → IsInOrder n later → n ≤ steps → runs_at system start (before ++ later) steps ≡ true → runs_at system start before n ≡ true
runs-before system start steps n before later order fits runs = by_test (runs_at system start before n) refl
  where
    by_test : (b : Bool) → runs_at system start before n ≡ b → b ≡ true
    by_test true e = refl
    by_test false e =
        let all = presses_of before ++ presses_of later in
        let there : is_running (alone system all n start).ended ≡ false =
        keyless-ended (alone system all n start) (alone system (presses_of before) n start)
        (alone-taken system (presses_of before) (presses_of later) n start (λ i below. none-due n i later order below)) e in
        let k = steps - n in
        let behind : is_running (alone system all (n + k) start).ended ≡ false =
        keyless-ended (alone system all (n + k) start) (alone system all n start) (alone-ended system all n k start there) there in
        let at : n + k ≡ steps = omega arith in
        let P : ℕ → Type 0 = λ m. is_running (alone system all m start).ended ≡ false in
        let last : is_running (alone system all steps start).ended ≡ false = subst P at behind in
        absurd (true≢false (sym runs ∙ ap (λ ps. is_running (alone system ps steps start).ended) (presses-append before later) ∙ last))

plain-from : (system : Disk) (start : MachineState) (steps waits_from last n mark : ℕ) (before keys given : List Key) → IsInOrder n keys → HaveRoomAfter system start before keys → AreBy last keys → last < steps → runs_at system start (before ++ keys) steps ≡ true →
    IsCuedFrom system start steps steps waits_from before n mark (map Timed keys) given → given ≡ before ++ keys
plain-from system start steps waits_from last n mark before [] given order room by fits runs is = is ∙ sym (append-nil before)
plain-from system start steps waits_from last n mark before (k ∷ keys) given order room by fits runs (inl come) =
    let low : n ≤ k.count = order.0 in
    let at : max n k.count ≡ k.count = omega arith in
    let P : ℕ → Type 0 = λ m. IsCuedFrom system start steps steps waits_from (before ++ (let key : Key = record { count = m; byte = k.byte } in key) ∷ []) m (length (screen_at system start before m)) (map Timed keys) given in
    let joined : (before ++ k ∷ []) ++ keys ≡ before ++ k ∷ keys = append_assoc before (k ∷ []) keys in
    plain-from system start steps waits_from last k.count (length (screen_at system start before k.count)) (before ++ k ∷ []) keys given order.1 room.1 by.1 fits
    (ap (λ ks. runs_at system start ks steps) joined ∙ runs) (subst P at come.1)
    ∙ joined
plain-from system start steps waits_from last n mark before (k ∷ keys) given order room by fits runs (inr never) =
    let low : n ≤ k.count = order.0 in
    let high : k.count ≤ last = by.0 in
    let at : max n k.count ≡ k.count = omega arith in
    let comes : Comes system start steps before k.count = (omega arith, runs-before system start steps k.count before (k ∷ keys) (omega arith, order.1) (omega arith) runs, room.0) in
    absurd (never.0 (subst (λ m. Comes system start steps before m) (sym at) comes))

pub plain-cues : PlainCuesGiveTheirKeys
plain-cues system start steps waits_from last keys given order room by fits runs is = plain-from system start steps waits_from last 0 0 [] keys given order room by fits runs is

-- ---- keys that do not come

-- The keys that came are the first ones. The next one has a count past the steps, or the session has ended before it.
record AreFirst (system : Disk) (start : MachineState) (steps : ℕ) (keys came : List Key) : Type 0 where
  rest : List Key
  at : ℕ
  joined : keys ≡ came ++ rest
  later : IsInOrder at rest
  why : (steps ≤ at) ⊎ ((at ≤ steps) × (runs_at system start came at ≡ false))

came-from : (system : Disk) (start : MachineState) (steps waits_from n mark : ℕ) (before keys came : List Key) → IsInOrder n keys → HaveRoomAfter system start before keys →
    IsCuedFrom system start steps steps waits_from before n mark (map Timed keys) came → AreFirst system start steps (before ++ keys) came
came-from system start steps waits_from n mark before [] came order room is =
    record { rest = []; at = steps; joined = ap (λ ks. ks ++ []) (sym is); later = tt; why = inl (omega arith) }
came-from system start steps waits_from n mark before (k ∷ keys) came order room (inl come) =
    let low : n ≤ k.count = order.0 in
    let at : max n k.count ≡ k.count = omega arith in
    let P : ℕ → Type 0 = λ m. IsCuedFrom system start steps steps waits_from (before ++ (let key : Key = record { count = m; byte = k.byte } in key) ∷ []) m (length (screen_at system start before m)) (map Timed keys) came in
    let first = came-from system start steps waits_from k.count (length (screen_at system start before k.count)) (before ++ k ∷ []) keys came order.1 room.1 (subst P at come.1) in
    record { rest = first.rest; at = first.at; joined = sym (append_assoc before (k ∷ []) keys) ∙ first.joined; later = first.later; why = first.why }
came-from system start steps waits_from n mark before (k ∷ keys) came order room (inr never) =
    record {
      rest = k ∷ keys;
      at = k.count;
      joined = ap (λ ks. ks ++ k ∷ keys) (sym never.1);
      later = (omega arith, order.1);
      why = ⊎_elim (λ within. inr (omega arith, subst (λ ks. runs_at system start ks k.count ≡ false) (sym never.1) (by_test within (runs_at system start before k.count) refl)))
          (λ past. inl past) (cases_lt k.count steps);
    }
  where
    by_test : k.count < steps → (b : Bool) → runs_at system start before k.count ≡ b → b ≡ false
    by_test within false e = refl
    by_test within true e =
        let low : n ≤ k.count = order.0 in
        let at : max n k.count ≡ k.count = omega arith in
        absurd (never.0 (subst (λ m. Comes system start steps before m) (sym at) (within, e, room.0)))

-- the others make no difference but that they are pending
same-all : (system : Disk) (start : MachineState) (steps : ℕ) (keys came : List Key) → AreFirst system start steps keys came →
    keyless (alone system (presses_of keys) steps start) ≡ keyless (alone system (presses_of came) steps start)
same-all system start steps keys came first = ap (λ ps. keyless (alone system ps steps start)) split ∙ ⊎_elim late stopped first.why
  where
    all : List KeyPress
    all = presses_of came ++ presses_of first.rest

    split : presses_of keys ≡ all
    split = ap presses_of first.joined ∙ presses-append came first.rest

    late : steps ≤ first.at → keyless (alone system all steps start) ≡ keyless (alone system (presses_of came) steps start)
    late past = alone-taken system (presses_of came) (presses_of first.rest) steps start (λ i below. none-due first.at i first.rest first.later (omega arith))

    stopped : (first.at ≤ steps) × (runs_at system start came first.at ≡ false) → keyless (alone system all steps start) ≡ keyless (alone system (presses_of came) steps start)
    stopped ended =
        let fits = ended.0 in
        let k = steps - first.at in
        let there : first.at + k ≡ steps = omega arith in
        let same : keyless (alone system all first.at start) ≡ keyless (alone system (presses_of came) first.at start) =
        alone-taken system (presses_of came) (presses_of first.rest) first.at start (λ i below. none-due first.at i first.rest first.later below) in
        let over = keyless-ended (alone system all first.at start) (alone system (presses_of came) first.at start) same ended.1 in
        let P : ℕ → Type 0 = λ m. keyless (alone system all m start) ≡ keyless (alone system (presses_of came) m start) in
        subst P there (alone-ended system all first.at k start over ∙ same ∙ sym (alone-ended system (presses_of came) first.at k start ended.1))

-- where the session ends before its steps, these make no difference
same-done : (system : Disk) (start : MachineState) (steps done : ℕ) (came : List Key) → done ≤ steps → (done ≡ steps) ⊎ (is_running (alone_by system came done start).ended ≡ false) →
    keyless (alone system (presses_of came) steps start) ≡ keyless (alone system (presses_of came) done start)
same-done system start steps done came within (inl whole) = ap (λ m. keyless (alone system (presses_of came) m start)) (sym whole)
same-done system start steps done came within (inr ended) =
    let there : done + (steps - done) ≡ steps = omega arith in
    let P : ℕ → Type 0 = λ m. keyless (alone system (presses_of came) m start) ≡ keyless (alone system (presses_of came) done start) in
    subst P there (alone-ended system (presses_of came) done (steps - done) start ended)

-- the key of a cue that has a count
abbrev key_counted : CueText → Key → Key
key_counted (Counted key) other = key
key_counted (Awaited text) other = other
key_counted (Pressed byte) other = other

timed-is : (cues : List Cue) (keys : List Key) → map cue_text cues ≡ map Counted keys → cues ≡ map Timed keys
timed-is [] [] is = refl
timed-is [] (k ∷ keys) is = cc
timed-is (c ∷ cues) [] is = cc
timed-is (Timed key ∷ cues) (k ∷ keys) is =
    let first : key ≡ k = ap (λ (o : Option CueText). option_map_or (λ t. key_counted t k) o k) (ap (λ (ts : List CueText). slice_get ts 0) is) in
    let rest : map cue_text cues ≡ map Counted keys = ap (λ (ts : List CueText). drop 1 ts) is in
    ap₂ (λ (x : Key) (xs : List Cue). Timed x ∷ xs) first (timed-is cues keys rest)
timed-is (Wait text ∷ cues) (k ∷ keys) is = cc
timed-is (Press byte ∷ cues) (k ∷ keys) is = cc

pub plain-runs : PlainCuesDoAsTheirKeys
plain-runs system start steps waits_from done keys came cues said order room is within ends =
    let cued = subst (λ cs. IsCued system start steps waits_from cs came) (timed-is cues keys said) is in
    let same : keyless (alone system (presses_of keys) steps start) ≡ keyless (alone system (presses_of came) done start) =
    same-all system start steps keys came (came-from system start steps waits_from 0 0 [] keys came order room cued) ∙ same-done system start steps done came within ends in
    record {
      screen = ap (λ (s : MachineState). s.session.console.screen) (sym same);
      printer = ap (λ (s : MachineState). s.session.console.printer) (sym same);
      ending = record {
        count = ap (λ (s : MachineState). s.count) (sym same);
        ended = ap (λ (s : MachineState). s.ended) (sym same);
        regs = ap (λ (s : MachineState). s.session.regs) (sym same);
        memory = ap (λ (s : MachineState). s.memory) (sym same);
        disks = ap (λ (s : MachineState). s.session.disks) (sym same);
      };
    }
