-- A script that is followed, cue by cue.
use Rattle.std.proofs.Common.{◌≡◌, ℕ, suc, ◌+◌, ◌-◌, ◌^◌, ◌<◌, ◌≤◌, ◌==◌, ◌||◌, max, min, not, Bool, true, false, true≢false, ◌⊎◌, inl, inr, ⊎_elim, Option, List, [], ◌∷◌, ◌++◌, length, drop, Vec, refl, sym, ap, ◌∙◌, subst, arith}
use Rattle.std.proofs.lemmas.Bool.{cases_lt}
use Rattle.std.proofs.lemmas.Bool.Decides.{nat_tests}
use Rattle.std.proofs.lemmas.List.{drop-append-le, drop_all, length_push, length-append, nil_from_length}
use Rattle.std.specs.declared.alloc.Global.{Global}
use Rattle.cpm_geom.specs.Disk.{Disk}
use Rattle.cpm_script.specs.declared.cue.Cue.{Cue}
use Rattle.cpm_script.specs.declared.cue.Cue.TheVariants.{Key as Timed, Wait, Press}
use Rattle.cpm_script.specs.declared.script.Key.{Key}
use Rattle.cpm_machine.specs.Alone.{alone}
use Rattle.cpm_machine.specs.MachineState.{MachineState}
use Rattle.cpm_machine.specs.Serve.{look_of, takes_key}
use Rattle.cpm_machine.specs.Step.{after, is_running}
use Rattle.cpm_machine.proofs.GrantLaws.{after-add}
use Rattle.cpm_machine.proofs.PressLaws.{alone-pressed}
use Rattle.cpm_play.specs.Cued.{AreAscii, Comes, HasIdled, HasMissed, HasNoWait, HasPressed, HasShown, IsBusyFrom, IsCuedFrom, IsCuedUpTo, IsCueMet, IsOutputTaken, StaysCued, key_count, known_to, last_count, looks_back, runs_at, screen_at, waits_at}
use Rattle.cpm_play.specs.Live.{IsGoing}
use Rattle.cpm_play.specs.Output.{OutputState}
use Rattle.cpm_play.specs.Playing.{presses_of, alone_by}
use Rattle.cpm_play.specs.Shown.{HasGrown, IsAwaited, IsKeptOrFound, StandsFor}
use Rattle.cpm_play.specs.declared.shown.Shown.{Shown}
use Rattle.cpm_play.proofs.AloneLemmas.{after-ended, presses-more}
use Rattle.cpm_play.proofs.CuedLemmas.{cued-stops, going-run, going-runs, going-takes, going-waits, idle-busy, idle-going, idle-none, idle-shows, idle-waits, last-more}
use Rattle.cpm_play.proofs.GoingLemmas.{going-key, going-start}
use Rattle.cpm_play.proofs.RoomLemmas.{full-before, full-waits}
use Rattle.cpm_play.proofs.RunLemmas.{bare, ended-waits}
use Rattle.cpm_play.proofs.ShownLemmas.{held-shown, shown-held}

-- ---- small facts

-- what is known up to the end of the session is known up to where it is over
stays-known : (P : ℕ → Type 0) (done steps : ℕ) (is_over : Bool) → done ≤ steps → ((until : ℕ) → done ≤ until → until ≤ steps → P until) →
    (until : ℕ) → done ≤ until → until ≤ known_to is_over done steps → P until
stays-known P done steps true within cued until past high = cued until past (omega arith)
stays-known P done steps false within cued until past high = cued until past high

-- a key changes no text
screen-pressed : (system : Disk) (start : MachineState) (keys more : List Key) (key : Key) → more ≡ keys ++ key ∷ [] → screen_at system start more key.count ≡ screen_at system start keys key.count
screen-pressed system start keys more key is =
    ap (λ ks. screen_at system start ks key.count) is
    ∙ ap (λ ps. (alone system ps key.count start).session.console.screen) (presses-more keys key)
    ∙ ap (λ (s : MachineState). s.session.console.screen) (alone-pressed system (presses_of keys) key.count key.byte start)

-- an empty text stands everywhere
empty-shown : (text shown : List ℕ) → text ≡ [] → HasShown text shown
empty-shown text shown none =
    let P : List ℕ → Type 0 = λ t. HasShown t shown in
    subst P (sym none) (0, record { fits = omega arith; reads = λ j below. absurd (omega arith) })

or-left : (a b : Bool) → (a || b) ≡ false → a ≡ false
or-left false b e = refl
or-left true b e = e

or-right : (a b : Bool) → b ≡ true → (a || b) ≡ true
or-right false b e = e
or-right true b e = refl

none-empty : (text : List ℕ) → not (length text == 0) ≡ false → text ≡ []
none-empty text e = nil_from_length text (by_test (length text == 0) refl e)
  where
    by_test : (b : Bool) → (length text == 0) ≡ b → not b ≡ false → length text ≡ 0
    by_test true is e = grind (arith, nat_tests)
    by_test false is e = absurd (let bad : ⊥ = cc in bad)

-- ---- how a script is followed

-- what is kept is kept for the texts of these cues too
abbrev pub Awaits : Shown → List Cue → Type 0
Awaits shown cues = (text : List ℕ) → IsAwaited text cues → IsAwaited text shown.cues.now

-- The session goes, its keys are those of the cues so far, and those of the other cues make them the script's.
pub record IsFollowing (system : Disk) (start : MachineState) (steps waits_from most : ℕ) (cues : List Cue) (now : MachineState) (before written : OutputState) (unrecorded record_now : Option (List ℕ))
    (keys : List Key) (done : ℕ) (rest : List Cue) (shown : Shown) : Type 0 where
  pub going : IsGoing system steps most start now before written unrecorded record_now keys done
  pub mark : ℕ
  pub marked : mark ≤ length (screen_at system start keys done)
  pub cued : (until : ℕ) → done ≤ until → until ≤ steps → (ks : List Key) → IsCuedFrom system start until (min steps (until + 1)) waits_from keys done mark rest ks → IsCuedUpTo system start steps until waits_from cues ks
  pub kept : looks_back rest ≡ true → StandsFor shown (drop mark (screen_at system start keys done)) × Awaits shown rest
  pub busy : HasNoWait system start keys (max waits_from (last_count 0 keys)) done
  pub ascii : AreAscii rest
  pub room : length keys + key_count rest ≤ most

-- what waited at the start is taken, and kept if it is looked for
pub follow-start : (system : Disk) (start now : MachineState) (steps waits_from : ℕ) (cues : List Cue) (before written : OutputState) (record_now : Option (List ℕ)) (keys : List Key) (first shown : Shown) →
    IsOutputTaken start now before written → AreAscii cues → keys ≡ [] → StandsFor first [] → first.cues.now ≡ cues → (looks_back cues ≡ true → HasGrown first shown start.session.console.screen) →
    IsFollowing system start steps waits_from (key_count cues) cues now before written record_now record_now keys 0 cues shown
follow-start system start now steps waits_from cues before written record_now keys first shown taken ascii none nothing same kept =
    let P : List Key → Type 0 = λ ks. IsFollowing system start steps waits_from (key_count cues) cues now before written record_now record_now ks 0 cues shown in
    subst P (sym none) (record {
      going = going-start system steps (key_count cues) start now before written record_now taken;
      mark = 0;
      marked = omega arith;
      cued = λ until low high ks is. is;
      kept = λ looks. ((kept looks).shown [] nothing, λ text awaited. subst (IsAwaited text) (sym ((kept looks).cues ∙ same)) awaited);
      busy = λ i low high. absurd (omega arith);
      ascii = ascii;
      room = omega arith;
    })

-- this cue is a key at this count, where the one before it counts from another on
abbrev pub IsKeyAt : Cue → (done count byte : ℕ) → Type 0
IsKeyAt x done count byte = ((k : Key) × (x ≡ Timed k) × (count ≡ max done k.count) × (byte ≡ k.byte)) ⊎ ((x ≡ Press byte) × (count ≡ done))

-- What a key of the script at this count makes of the keys that come behind it.
pub record IsKeyCue (system : Disk) (start : MachineState) (steps waits_from most : ℕ) (cues : List Cue) (keys : List Key) (done : ℕ) (key : Key) (others : List Cue) : Type 0 where
  pub later : done ≤ key.count
  pub ascii : key.byte < 128
  pub others_ascii : AreAscii others
  pub room : length keys + suc (key_count others) ≤ most
  pub cued : (until : ℕ) → done ≤ until → until ≤ steps → (ks : List Key) →
      (Comes system start (min steps (until + 1)) keys key.count
      × IsCuedFrom system start until (min steps (until + 1)) waits_from (keys ++ key ∷ []) key.count (length (screen_at system start keys key.count)) others ks)
      ⊎ ((Comes system start until keys key.count → ⊥) × (ks ≡ keys)) → IsCuedUpTo system start steps until waits_from cues ks

module _ {system : Disk} {start : MachineState} {steps waits_from most : ℕ} {cues : List Cue} {now : MachineState} {before written : OutputState} {unrecorded record_now : Option (List ℕ)}
    {keys : List Key} {done : ℕ} {shown : Shown} where
  -- the next cue is this one
  at-cue : (x y : Cue) (rest others : List Cue) → rest ≡ x ∷ others → x ≡ y → IsFollowing system start steps waits_from most cues now before written unrecorded record_now keys done rest shown →
      IsFollowing system start steps waits_from most cues now before written unrecorded record_now keys done (y ∷ others) shown
  at-cue x y rest others first is f =
      let P : List Cue → Type 0 = λ r. IsFollowing system start steps waits_from most cues now before written unrecorded record_now keys done r shown in
      subst P (first ∙ ap (λ c. c ∷ others) is) f

  -- a wait, behind the same keys
  pub at-wait : (x : Cue) (text : Vec ℕ Global) (rest others : List Cue) (more : List Key) → rest ≡ x ∷ others → x ≡ Wait text → more ≡ keys →
      IsFollowing system start steps waits_from most cues now before written unrecorded record_now keys done rest shown →
      IsFollowing system start steps waits_from most cues now before written unrecorded record_now more done (Wait text ∷ others) shown
  at-wait x text rest others more first is same f =
      subst (λ ks. IsFollowing system start steps waits_from most cues now before written unrecorded record_now ks done (Wait text ∷ others) shown) (sym same) (at-cue x (Wait text) rest others first is f)

  -- a key
  pub at-key : (x : Cue) (rest others : List Cue) (count byte : ℕ) → rest ≡ x ∷ others → IsKeyAt x done count byte →
      IsFollowing system start steps waits_from most cues now before written unrecorded record_now keys done rest shown →
      IsKeyCue system start steps waits_from most cues keys done (record { count = count; byte = byte }) others
  at-key x rest others count byte first (inl timed) following =
      let k : Key = timed.0 in
      let f = at-cue x (Timed k) rest others first timed.1 following in
      let P : ℕ → Type 0 = λ n. IsKeyCue system start steps waits_from most cues keys done (record { count = n; byte = byte }) others in
      let Q : ℕ → Type 0 = λ b. IsKeyCue system start steps waits_from most cues keys done (record { count = max done k.count; byte = b }) others in
      subst P (sym timed.2) (subst Q (sym timed.3) (record { later = omega arith; ascii = f.ascii.0; others_ascii = f.ascii.1; room = f.room; cued = f.cued }))
  at-key x rest others count byte first (inr press) following =
      let f = at-cue x (Press byte) rest others first press.0 following in
      let P : ℕ → Type 0 = λ n. IsKeyCue system start steps waits_from most cues keys done (record { count = n; byte = byte }) others in
      subst P (sym press.1) (record { later = omega arith; ascii = f.ascii.0; others_ascii = f.ascii.1; room = f.room; cued = f.cued })

  module _ {rest : List Cue} (following : IsFollowing system start steps waits_from most cues now before written unrecorded record_now keys done rest shown)
      {key : Key} {others : List Cue} (cue : IsKeyCue system start steps waits_from most cues keys done key others) where
    -- one that has not come so far
    pub key-cued : key.count < steps → (until : ℕ) → done ≤ until → until ≤ key.count → IsCuedUpTo system start steps until waits_from cues keys
    key-cued within until past high = cue.cued until past (omega arith) keys (inr (λ comes. let less = comes.0 in omega arith, refl))

    -- and one that comes there, if no other does
    pub key-comes : key.count < steps → runs_at system start keys key.count ≡ true → takes_key (alone_by system keys key.count start) ≡ true →
        IsCuedUpTo system start steps key.count waits_from cues (keys ++ key ∷ [])
    key-comes within runs takes =
        let more = keys ++ key ∷ [] in
        let mark = length (screen_at system start keys key.count) in
        cue.cued key.count cue.later (omega arith) more
        (inl ((omega arith, runs, takes), cued-stops system start key.count (min steps (key.count + 1)) waits_from more key.count mark others (omega arith)))

    -- a key that comes
    pub follow-pressed : (next : MachineState) (written_then : OutputState) (record_then : Option (List ℕ)) (more : List Key) (count : ℕ) (left : Shown) → key.count < steps → steps < 2 ^ 64 → count ≡ key.count →
        HasPressed system key (key.count - done) now next written written_then record_now record_then → more ≡ keys ++ key ∷ [] → StandsFor left [] → left.cues.now ≡ others →
        IsFollowing system start steps waits_from most cues next before written_then unrecorded record_then more count others left
    follow-pressed next written_then record_then more count left within fits at pressed is nothing awaits =
        let low = cue.later in
        let k = key.count - done in
        let there : done + k ≡ key.count = omega arith in
        let going = following.going in
        let reached : MachineState = bare (after system k now) in
        let P : ℕ → Type 0 = λ n. IsGoing system steps most start reached before written_then unrecorded record_now keys n in
        let went : IsGoing system steps most start reached before written_then unrecorded record_now keys key.count =
        subst P there (going-run going k reached written_then (omega arith) (record { state = refl; output = pressed.output })) in
        let count_room = cue.room in
        let same = screen-pressed system start keys more key is in
        let mark : ℕ = length (screen_at system start keys key.count) in
        let marks : length (screen_at system start more key.count) ≡ mark = ap length same in
        let runs : runs_at system start keys key.count ≡ true = subst (λ n. runs_at system start keys n ≡ true) there (going-runs going k ∙ pressed.runs) in
        let takes : takes_key (alone_by system keys key.count start) ≡ true =
        subst (λ n. takes_key (alone_by system keys n start) ≡ true) there (going-takes going k ∙ pressed.room) in
        let longer : length more ≡ length keys + 1 = ap length is ∙ length_push keys key in
        let Q : ℕ → Type 0 = λ n. IsFollowing system start steps waits_from most cues next before written_then unrecorded record_then more n others left in
        subst Q (sym at) (record {
          going = going-key system steps most start reached before written_then unrecorded record_now keys key.count went key.byte next record_then more cue.ascii (omega arith) (omega arith) is pressed.state pressed.noted;
          mark = mark;
          marked = omega arith;
          cued = λ until past high ks h.
              cue.cued until (omega arith) high ks (inl ((omega arith, runs, takes), subst (λ gs. IsCuedFrom system start until (min steps (until + 1)) waits_from gs key.count mark others ks) is h));
          kept = λ looks. (subst (StandsFor left) (sym (drop_all mark (screen_at system start more key.count) (omega arith))) nothing, λ text awaited. subst (IsAwaited text) (sym awaits) awaited);
          busy = λ i from until. let last = ap (last_count 0) is ∙ last-more 0 keys key in absurd (omega arith);
          ascii = cue.others_ascii;
          room = omega arith;
        })

    -- a key that does not
    module _ {next : MachineState} {written_then : OutputState} {record_then : Option (List ℕ)} {more : List Key} {done_now : ℕ} {is_over : Bool} (missed : HasMissed is_over system key steps done done_now now next written written_then)
        (still : (more ≡ keys) × (record_then ≡ record_now)) where
      ended-never : done_now ≤ key.count → is_running next.ended ≡ false → Comes system start steps keys key.count → ⊥
      ended-never high ended comes =
          let low = missed.low in
          let k = done_now - done in
          let j = key.count - done_now in
          let there : done + (k + j) ≡ key.count = omega arith in
          let stopped : is_running (after system k now).ended ≡ false = sym (ap (λ (s : MachineState). is_running s.ended) missed.run.state) ∙ ended in
          let last : is_running (after system (k + j) now).ended ≡ false =
          ap (λ (s : MachineState). is_running s.ended) (after-add system k j now) ∙ after-ended system j (after system k now) stopped in
          let P : ℕ → Type 0 = λ n. runs_at system start keys n ≡ false in
          let off : runs_at system start keys key.count ≡ false =
          subst P there (going-runs following.going (k + j) ∙ last) in
          true≢false (sym comes.1 ∙ off)

      full-never : done_now ≡ key.count → takes_key next ≡ false → Comes system start steps keys key.count → ⊥
      full-never at full comes =
          let low = missed.low in
          let k = done_now - done in
          let there : done + k ≡ key.count = omega arith in
          let P : ℕ → Type 0 = λ n. takes_key (alone_by system keys n start) ≡ false in
          let refused : takes_key (alone_by system keys key.count start) ≡ false =
          subst P there (going-takes following.going k ∙ sym (ap takes_key missed.run.state) ∙ full) in
          true≢false (sym comes.2 ∙ refused)

      never : is_over ≡ false → Comes system start steps keys key.count → ⊥
      never not_over comes = ⊎_elim (λ past. let far = past.0 in let near = comes.0 in omega arith)
          (λ there. ⊎_elim (λ ended. ended-never ended.1 ended.2 comes)
          (λ other. ⊎_elim (λ full. full-never full.1 full.2 comes) (λ over. absurd (true≢false (sym over.2 ∙ not_over))) other) there) missed.why

      within-missed : done_now - done ≤ steps - done
      within-missed = let within = following.going.within in let low = missed.low in
          ⊎_elim (λ past. let same = past.1 in omega arith)
          (λ there. ⊎_elim (λ ended. let near = ended.0 in let high = ended.1 in omega arith)
          (λ other. ⊎_elim (λ full. let near = full.0 in let at = full.1 in omega arith) (λ over. let near = over.0 in let high = over.1 in omega arith) other) there) missed.why

      pub missed-going : IsGoing system steps most start next before written_then unrecorded record_then more done_now
      missed-going =
          let low = missed.low in
          let there : done + (done_now - done) ≡ done_now = omega arith in
          let P : ℕ → Type 0 = λ n. IsGoing system steps most start next before written_then unrecorded record_now keys n in
          let went : IsGoing system steps most start next before written_then unrecorded record_now keys done_now =
          subst P there (going-run following.going (done_now - done) next written_then within-missed missed.run) in
          subst (λ r. IsGoing system steps most start next before written_then unrecorded r more done_now) (sym still.1)
          (subst (λ ks. IsGoing system steps most start next before written_then unrecorded record_now ks done_now) (sym still.0) went)

      -- nor does it so far, where it is over
      never-yet : is_over ≡ true → Comes system start done_now keys key.count → ⊥
      never-yet over comes = let early = comes.0 in
          ⊎_elim (λ past. let far = past.0 in let here = past.1 in let within = following.going.within in omega arith)
          (λ there. ⊎_elim (λ ended. let high = ended.1 in omega arith)
          (λ other. ⊎_elim (λ full. let at = full.1 in omega arith) (λ over. let high = over.1 in omega arith) other) there) missed.why

      pub missed-cued : StaysCued system start steps (known_to is_over done_now steps) done_now waits_from cues more
      missed-cued until past high = by_over is_over refl
        where
          by_over : (b : Bool) → is_over ≡ b → IsCuedUpTo system start steps until waits_from cues more
          by_over true over =
              let low = missed.low in
              let within = following.going.within in
              let reach = within-missed in
              let most : until ≤ done_now = subst (λ b. until ≤ known_to b done_now steps) over high in
              cue.cued until (omega arith) (omega arith) more (inr (λ comes. never-yet over (let less = comes.0 in omega arith, comes.1, comes.2), still.0))
          by_over false not_over =
              let low = missed.low in
              let most : until ≤ steps = subst (λ b. until ≤ known_to b done_now steps) not_over high in
              cue.cued until (omega arith) most more (inr (λ comes. never not_over (let less = comes.0 in omega arith, comes.1, comes.2), still.0))

      -- while as many keys are pending as may be, it does not wait
      full-busy : takes_key next ≡ false → HasNoWait system start keys (max waits_from (last_count 0 keys)) done_now
      full-busy full i low high = ⊎_elim (λ less. following.busy i low less)
          (λ past.
          let k = done_now - done in
          let j = done_now - i in
          let some : takes_key (after system k now) ≡ false = sym (ap takes_key missed.run.state) ∙ full in
          let split : (i - done) + j ≡ k = omega arith in
          let Q : ℕ → Type 0 = λ n. takes_key (after system n now) ≡ false in
          let last : takes_key (after system j (after system (i - done) now)) ≡ false = sym (ap takes_key (after-add system (i - done) j now)) ∙ subst Q (sym split) some in
          let there : done + (i - done) ≡ i = omega arith in
          let P : ℕ → Type 0 = λ n. waits_at system start keys n ≡ false in
          subst P there (going-waits following.going (i - done) ∙ full-waits (after system (i - done) now) (full-before system j (after system (i - done) now) last)))
          (cases_lt i done)

      pub missed-busy : is_over ≡ false → (is_running next.ended ≡ false) ⊎ HasNoWait system start more (max waits_from (last_count 0 more)) done_now
      missed-busy not_over = subst (λ ks. (is_running next.ended ≡ false) ⊎ HasNoWait system start ks (max waits_from (last_count 0 ks)) done_now) (sym still.0)
          (⊎_elim (λ past. inr (let P : ℕ → Type 0 = λ n. HasNoWait system start keys (max waits_from (last_count 0 keys)) n in subst P (sym past.1) following.busy))
          (λ there. ⊎_elim (λ ended. inl ended.2)
          (λ other. ⊎_elim (λ full. inr (full-busy full.2)) (λ over. absurd (true≢false (sym over.2 ∙ not_over))) other) there) missed.why)

  -- ---- waits

  -- one that has not come so far
  pub wait-cued : {text : Vec ℕ Global} {others : List Cue} (following : IsFollowing system start steps waits_from most cues now before written unrecorded record_now keys done (Wait text ∷ others) shown) (until : ℕ) →
      done ≤ until → until ≤ steps → IsBusyFrom system (max waits_from done) until done now → IsCuedUpTo system start steps until waits_from cues keys
  wait-cued {text} {others} following until low high busy = following.cued until low high keys (inr (never, refl))
    where
      never : (at : ℕ) → IsCueMet system start until waits_from keys done following.mark text.items at → ⊥
      never at met =
          let late = met.next.later in
          let there : done + (at - done) ≡ at = omega arith in
          let P : ℕ → Type 0 = λ n. waits_at system start keys n ≡ false in
          let still : waits_at system start keys at ≡ false = subst P there (going-waits following.going (at - done) ∙ busy at late met.within) in
          true≢false (sym met.next.waits ∙ still)

  -- steps up to a wait that counts, whose text was kept if it is looked for
  module _ {text : Vec ℕ Global} {others : List Cue} (following : IsFollowing system start steps waits_from most cues now before written unrecorded record_now keys done (Wait text ∷ others) shown)
      {is_over : Bool} {done_now : ℕ} {next : MachineState} {written_then : OutputState} (left : Shown) (within_steps : done_now ≤ steps)
      (idled : HasIdled is_over system steps waits_from done done_now now next written written_then)
      (kept : looks_back (Wait text ∷ others) ≡ true → HasGrown shown left (after system (done_now - done) now).session.console.screen) where
    pub wait-going : IsGoing system steps most start next before written_then unrecorded record_now keys done_now
    wait-going = idle-going following.going idled keys refl within_steps

    none-before : HasNoWait system start keys (max waits_from done) done_now
    none-before = idle-none following.going idled

    pub wait-busy : HasNoWait system start keys (max waits_from (last_count 0 keys)) done_now
    wait-busy = idle-busy following.going idled (last_count 0 keys) following.busy

    waits-there : waits_at system start keys done_now ≡ (look_of next).waiting
    waits-there = idle-waits following.going idled

    grows : screen_at system start keys done_now ≡ screen_at system start keys done ++ (after system (done_now - done) now).session.console.screen
    grows = idle-shows following.going idled

    seen : looks_back (Wait text ∷ others) ≡ true → StandsFor left (drop following.mark (screen_at system start keys done_now))
    seen looks =
        subst (StandsFor left)
        (sym (drop-append-le following.mark (screen_at system start keys done) (after system (done_now - done) now).session.console.screen following.marked)
        ∙ ap (drop following.mark) (sym grows))
        ((kept looks).shown (drop following.mark (screen_at system start keys done)) (following.kept looks).0)

    awaits : looks_back (Wait text ∷ others) ≡ true → Awaits left (Wait text ∷ others)
    awaits looks wanted awaited = subst (IsAwaited wanted) (sym (kept looks).cues) ((following.kept looks).1 wanted awaited)

    shown-there : (b : Bool) → looks_back (Wait text ∷ others) ≡ b → IsKeptOrFound left text.items → HasShown text.items (drop following.mark (screen_at system start keys done_now))
    shown-there true looks found = held-shown (seen looks) text.items found
    shown-there false looks found = empty-shown text.items (drop following.mark (screen_at system start keys done_now)) (none-empty text.items (or-left (not (length text.items == 0)) (looks_back others) looks))

    shown-here : (b : Bool) → looks_back (Wait text ∷ others) ≡ b → HasShown text.items (drop following.mark (screen_at system start keys done_now)) → IsKeptOrFound left text.items
    shown-here true looks found = shown-held (seen looks) text.items (awaits looks text.items (inl refl)) found
    shown-here false looks found = inl (empty-shown text.items left.tail.items (none-empty text.items (or-left (not (length text.items == 0)) (looks_back others) looks)))

    -- a wait within the steps counts
    counts : is_over ≡ false → done_now < steps → (look_of next).waiting ≡ true → waits_from ≤ done_now
    counts not_over within waits = ⊎_elim (λ (all : done_now ≡ steps). omega arith)
        (λ halts. ⊎_elim (λ ended. absurd (true≢false (sym waits ∙ ended-waits next ended)))
        (λ there. ⊎_elim (λ counted. counted.0) (λ over. absurd (true≢false (sym over ∙ not_over))) there) halts) idled.why

    -- where it waits, and has shown the text
    pub follow-met : is_over ≡ false → done_now < steps → (look_of next).waiting ≡ true → IsKeptOrFound left text.items →
        IsFollowing system start steps waits_from most cues next before written_then unrecorded record_now keys done_now others left
    follow-met not_over within waits found = record {
      going = wait-going;
      mark = following.mark;
      marked =
          let marked = following.marked in
          let longer : length (screen_at system start keys done_now) ≡ length (screen_at system start keys done) + length (after system (done_now - done) now).session.console.screen =
          ap length grows ∙ length-append (screen_at system start keys done) (after system (done_now - done) now).session.console.screen in
          omega arith;
      cued = λ until past high ks h. following.cued until (let low = idled.low in omega arith) high ks (inl (
        done_now,
        record {
          next = record { later = let low = idled.low in let counted = counts not_over within waits in omega arith; waits = waits-there ∙ waits; first = none-before };
          within = omega arith;
          shown = shown-there (looks_back (Wait text ∷ others)) refl found;
        },
        h,
      ));
      kept = λ looks.
          let back = or-right (not (length text.items == 0)) (looks_back others) looks in
          (seen back, λ wanted awaited. awaits back wanted (inr awaited));
      busy = wait-busy;
      ascii = following.ascii;
      room = following.room;
    }

    -- where it is over, it has not done so
    pub over-cued : is_over ≡ true → StaysCued system start steps (known_to is_over done_now steps) done_now waits_from cues keys
    over-cued over until past high =
        let low = idled.low in
        let most : until ≤ done_now = subst (λ b. until ≤ known_to b done_now steps) over high in
        following.cued until (omega arith) (omega arith) keys (inr (unmet, refl))
      where
        unmet : (at : ℕ) → IsCueMet system start until waits_from keys done following.mark text.items at → ⊥
        unmet at met =
            let late = met.next.later in
            let early = met.within in
            let most : until ≤ done_now = subst (λ b. until ≤ known_to b done_now steps) over high in
            true≢false (sym met.next.waits ∙ none-before at late (omega arith))

    -- and where it does not there, it never does so within the steps
    never-met : is_over ≡ false → (steps ≤ done_now) ⊎ (((look_of next).waiting ≡ false) ⊎ (IsKeptOrFound left text.items → ⊥)) → (at : ℕ) → IsCueMet system start steps waits_from keys done following.mark text.items at → ⊥
    never-met not_over why at met =
        let low = met.next.later in
        let high = met.within in
        let late : done_now ≤ at = ⊎_elim (λ (early : at < done_now). absurd (true≢false (sym met.next.waits ∙ none-before at low early))) (λ (late : done_now ≤ at). late) (cases_lt at done_now) in
        ⊎_elim (λ (past : steps ≤ done_now). omega arith)
        (λ other. ⊎_elim (λ (all : done_now ≡ steps). omega arith)
        (λ halts. ⊎_elim (ended-never at late met)
        (λ there. ⊎_elim (λ counted. waits-never at late met other counted.0 counted.1) (λ over. absurd (true≢false (sym over ∙ not_over))) there) halts) idled.why) why
      where
        ended-never : (at : ℕ) → done_now ≤ at → IsCueMet system start steps waits_from keys done following.mark text.items at → is_running next.ended ≡ false → ⊥
        ended-never at late met ended =
            let low = idled.low in
            let k = done_now - done in
            let j = at - done_now in
            let there : done + (k + j) ≡ at = omega arith in
            let halted : is_running (after system k now).ended ≡ false = sym (ap (λ (s : MachineState). is_running s.ended) idled.run.state) ∙ ended in
            let last : is_running (after system (k + j) now).ended ≡ false =
            ap (λ (s : MachineState). is_running s.ended) (after-add system k j now) ∙ after-ended system j (after system k now) halted in
            let P : ℕ → Type 0 = λ n. waits_at system start keys n ≡ false in
            let quiet : waits_at system start keys at ≡ false =
            subst P there (going-waits following.going (k + j) ∙ ended-waits (after system (k + j) now) last) in
            true≢false (sym met.next.waits ∙ quiet)

        waits-never : (at : ℕ) → done_now ≤ at → IsCueMet system start steps waits_from keys done following.mark text.items at →
            ((look_of next).waiting ≡ false) ⊎ (IsKeptOrFound left text.items → ⊥) → waits_from ≤ done_now → (look_of next).waiting ≡ true → ⊥
        waits-never at late met other counted waits =
            let low = idled.low in
            let here : at ≡ done_now = ⊎_elim (λ (past : done_now < at). absurd (true≢false (sym (waits-there ∙ waits) ∙ met.next.first done_now (omega arith) past))) (λ (upto : at ≤ done_now). omega arith) (cases_lt done_now at) in
            let P : ℕ → Type 0 = λ n. HasShown text.items (drop following.mark (screen_at system start keys n)) in
            let found = shown-here (looks_back (Wait text ∷ others)) refl (subst P here met.shown) in
            ⊎_elim (λ still. true≢false (sym waits ∙ still)) (λ lacks. lacks found) other

    unmet-cued : is_over ≡ false → (steps ≤ done_now) ⊎ (((look_of next).waiting ≡ false) ⊎ (IsKeptOrFound left text.items → ⊥)) → StaysCued system start steps steps done_now waits_from cues keys
    unmet-cued not_over why until past high =
        let low = idled.low in
        following.cued until (omega arith) high keys (inr (
          λ at met. never-met not_over why at (record { next = met.next; within = let less = met.within in omega arith; shown = met.shown }),
          refl,
        ))

    -- the same of the slice that is looked for
    module _ (needle : List ℕ) (is_text : needle ≡ text.items) where
      pub follow-found : is_over ≡ false → done_now < steps → ((look_of next).waiting ≡ true) × IsKeptOrFound left needle →
          IsFollowing system start steps waits_from most cues next before written_then unrecorded record_now keys (done_now) others left
      follow-found not_over within met = follow-met not_over within met.0 (subst (IsKeptOrFound left) is_text met.1)

      pub unfound-cued : is_over ≡ false → ((look_of next).waiting ≡ false) ⊎ (IsKeptOrFound left needle → ⊥) → StaysCued system start steps (known_to is_over done_now steps) done_now waits_from cues keys
      unfound-cued not_over why = stays-known (λ until. IsCuedUpTo system start steps until waits_from cues keys) done_now steps is_over within_steps (unmet-cued not_over (inr (⊎_elim (λ still. inl still) (λ lacks. inr (λ held. lacks (subst (IsKeptOrFound left) (sym is_text) held))) why)))

    pub past-cued : is_over ≡ false → steps ≤ done_now → StaysCued system start steps (known_to is_over done_now steps) done_now waits_from cues keys
    past-cued not_over past = stays-known (λ until. IsCuedUpTo system start steps until waits_from cues keys) done_now steps is_over within_steps (unmet-cued not_over (inl past))

-- behind the last cue
pub follow-end : {system : Disk} {start : MachineState} {steps waits_from most : ℕ} {cues : List Cue} {now : MachineState} {before written : OutputState} {unrecorded record_now : Option (List ℕ)}
    {keys : List Key} {done : ℕ} {rest : List Cue} {shown : Shown} → rest ≡ [] → IsFollowing system start steps waits_from most cues now before written unrecorded record_now keys done rest shown → (is_over : Bool) →
    StaysCued system start steps (known_to is_over done steps) done waits_from cues keys
follow-end {system} {start} {steps} {waits_from} {most} {cues} {now} {before} {written} {unrecorded} {record_now} {keys} {done} {rest} {shown} none following is_over = stays-known (λ until. IsCuedUpTo system start steps until waits_from cues keys) done steps is_over following.going.within (λ until past high.
    let P : List Cue → Type 0 = λ r. IsCuedFrom system start until (min steps (until + 1)) waits_from keys done following.mark r keys in
    following.cued until past high keys (subst P (sym none) refl))
