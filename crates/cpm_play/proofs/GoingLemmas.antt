-- A session that goes on: one more key, and steps whose text is taken.
use Rattle.std.proofs.Common.{◌≡◌, ℕ, ◌+◌, ◌-◌, ◌^◌, ◌<◌, ◌≤◌, ◌==◌, Bool, true, false, if◌then◌else◌, Option, List, [], ◌∷◌, ◌++◌, length, refl, sym, ap, ap₂, ◌∙◌, subst, arith, append-nil}
use Rattle.std.proofs.lemmas.Bool.Decides.{nat_tests}
use Rattle.std.proofs.lemmas.List.{append_assoc, length_push}
use Rattle.std.specs.Io.KnownBytes.{Appends}
use Rattle.cpm_geom.specs.Disk.{Disk}
use Rattle.cpm_script.specs.Recording.{AreTyped, key_line, recorded}
use Rattle.cpm_script.specs.declared.script.Key.{Key}
use Rattle.cpm_machine.specs.Alone.{due, alone}
use Rattle.cpm_machine.specs.Calls.{state_behind}
use Rattle.cpm_machine.specs.MachineState.{MachineState}
use Rattle.cpm_machine.specs.Serve.{keyed, look_of}
use Rattle.cpm_machine.specs.Step.{after}
use Rattle.cpm_machine.proofs.AloneLaws.{after-behind}
use Rattle.cpm_machine.proofs.PressLaws.{alone-add, alone-pressed, with_keys-nil}
use Rattle.cpm_play.specs.Cued.{IsOutputTaken, waits_at}
use Rattle.cpm_play.specs.Live.{AreBy, AreGiven, HadList, HadText, HasCome, HasGone, IsGoing}
use Rattle.cpm_play.specs.Output.{GetsOutput, OutputState}
use Rattle.cpm_play.specs.Playing.{presses_of, alone_by, EndsAs, HasList, HasText, IsQuiet, state_left, without_list, without_text}
use Rattle.cpm_play.proofs.AloneLemmas.{presses-more}
use Rattle.cpm_play.proofs.RunLemmas.{bare, behind-bare, quiet-bare, quiet-taken, waits-behind}
use Rattle.cpm_play.proofs.TextLemmas.{appends_more, appends_none, both_empty}

-- ---- keys

by-more : (n : ℕ) (keys : List Key) (k : Key) → AreBy n keys → k.count ≤ n → AreBy n (keys ++ k ∷ [])
by-more n [] k come at = (at, tt)
by-more n (x ∷ xs) k come at = (come.0, by-more n xs k come.1 at)

by-later : (n m : ℕ) (keys : List Key) → n ≤ m → AreBy n keys → AreBy m keys
by-later n m [] less come = tt
by-later n m (x ∷ xs) less come = let at = come.0 in (omega arith, by-later n m xs less come.1)

pub none-after : (n i : ℕ) (keys : List Key) → AreBy n keys → n < i → due i (presses_of keys) ≡ []
none-after n i [] come past = refl
none-after n i (k ∷ keys) come past =
    let rest : due i (presses_of keys) ≡ [] = none-after n i keys come.1 past in
    let at : k.count ≤ n = come.0 in
    by_test (k.count == i) refl (λ same. omega arith) rest
  where
    by_test : (b : Bool) → (k.count == i) ≡ b → (k.count ≡ i → ⊥) → due i (presses_of keys) ≡ [] → (if b then k.byte ∷ due i (presses_of keys) else due i (presses_of keys)) ≡ []
    by_test true e other rest = absurd (other (grind (arith, nat_tests)))
    by_test false e other rest = rest

typed-more : (low n : ℕ) (keys : List Key) (k : Key) → AreTyped low keys → AreBy n keys → low ≤ n → k.count ≡ n → n < 2 ^ 64 → k.byte < 128 → AreTyped low (keys ++ k ∷ [])
typed-more low n [] k typed come less at fits ascii = (omega arith, omega arith, ascii, tt)
typed-more low n (x ∷ xs) k typed come less at fits ascii = (typed.0, typed.1, typed.2, typed-more x.count n xs k typed.3 come.1 come.0 at fits ascii)

recorded-more : (keys : List Key) (k : Key) → recorded (keys ++ k ∷ []) ≡ recorded keys ++ key_line k
recorded-more [] k = append-nil (key_line k)
recorded-more (x ∷ xs) k = ap (λ (v : List ℕ). key_line x ++ v) (recorded-more xs k) ∙ sym (append_assoc (key_line x) (recorded xs) (key_line k))

-- ---- keys and steps

gone-key : (system : Disk) (start : MachineState) (keys : List Key) (done byte : ℕ) (console list : List ℕ) (now : MachineState) → byte < 128 → done < 2 ^ 64 →
    HasGone system start keys done console list now → HasGone system start (keys ++ record { count = done; byte = byte } ∷ []) done console list (keyed byte now)
gone-key system start keys done byte console list now ascii fits gone =
    let key : Key = record { count = done; byte = byte } in
    record {
      state = ap (keyed byte) gone.state ∙ sym (alone-pressed system (presses_of keys) done byte start) ∙ ap (λ ps. alone system ps done start) (sym (presses-more keys key));
      come = by-more done keys key gone.come (omega arith);
      typed = typed-more 0 done keys key gone.typed gone.come (omega arith) refl fits ascii;
    }

pub gone-turn : (system : Disk) (start : MachineState) (keys : List Key) (done k : ℕ) (console list : List ℕ) (now : MachineState) →
    HasGone system start keys done console list now → HasGone system start keys (done + k) console list (after system k now)
gone-turn system start keys done k console list now gone = record {
  state = sym (after-behind system console list k now) ∙ ap (after system k) gone.state ∙ sym (alone-add system (presses_of keys) done k start (λ i past. none-after done i keys gone.come past));
  come = by-later done (done + k) keys (omega arith) gone.come;
  typed = gone.typed;
}

gone-taken : (system : Disk) (start : MachineState) (keys : List Key) (done : ℕ) (console list : List ℕ) (now : MachineState) →
    HasGone system start keys done console list now →
    HasGone system start keys done (console ++ now.session.console.screen) (list ++ now.session.console.printer) (without_list (without_text now))
gone-taken system start keys done console list now gone = record {
  state = ap₂ (λ (xs ys : List ℕ). record now { session = record now.session { console = record now.session.console { screen = xs; printer = ys } } })
      (append-nil (console ++ now.session.console.screen)) (append-nil (list ++ now.session.console.printer)) ∙ gone.state;
  come = gone.come;
  typed = gone.typed;
}

-- before the first key, once what waited at the start is taken
pub going-start : (system : Disk) (steps most : ℕ) (start now : MachineState) (before written : OutputState) (record_now : Option (List ℕ)) → IsOutputTaken start now before written →
    IsGoing system steps most start now before written record_now record_now [] 0
going-start system steps most start now before written record_now taken = record {
  console = start.session.console.screen;
  list = start.session.console.printer;
  gone = record {
    state = ap (state_behind start.session.console.screen start.session.console.printer) taken.state ∙ behind-bare start ∙ sym (with_keys-nil start);
    come = tt;
    typed = tt;
  };
  shown = taken.output.text;
  printed = taken.output.list;
  quiet = quiet-taken start now before written taken;
  within = omega arith;
  few = omega arith;
  noted = appends_none record_now;
}

module _ (system : Disk) (steps most : ℕ) (start now : MachineState) (before written : OutputState) (unrecorded record_now : Option (List ℕ)) (keys : List Key) (done : ℕ)
    (going : IsGoing system steps most start now before written unrecorded record_now keys done) where
  -- a key more
  pub going-key : (byte : ℕ) (next : MachineState) (record_then : Option (List ℕ)) (more : List Key) → byte < 128 → done < 2 ^ 64 → length keys < most →
      more ≡ keys ++ record { count = done; byte = byte } ∷ [] → next ≡ keyed byte now →
      Appends record_now record_then (key_line (record { count = done; byte = byte })) →
      IsGoing system steps most start next before written unrecorded record_then more done
  going-key byte next record_then more ascii fits room is pressed notes =
      let key : Key = record { count = done; byte = byte } in
      let P : List Key → Type 0 = λ ks. IsGoing system steps most start next before written unrecorded record_then ks done in
      subst P (sym is) (record {
        console = going.console;
        list = going.list;
        gone = subst (λ s. HasGone system start (keys ++ key ∷ []) done going.console going.list s) (sym pressed) (gone-key system start keys done byte going.console going.list now ascii fits going.gone);
        shown = going.shown;
        printed = going.printed;
        quiet = subst IsQuiet (sym pressed) (record { screen = going.quiet.screen; printer = going.quiet.printer });
        within = going.within;
        few = let longer : length (keys ++ key ∷ []) ≡ length keys + 1 = length_push keys key in omega arith;
        noted = subst (λ v. Appends unrecorded record_then v) (sym (recorded-more keys key))
            (appends_more unrecorded record_now record_then (recorded keys) (key_line key) going.noted notes);
      })

  -- steps whose output is taken
  pub going-turn : (k : ℕ) (turned last : MachineState) (written_then : OutputState) → k ≤ steps - done → turned ≡ after system k now →
      last ≡ without_list (without_text turned) → GetsOutput written written_then turned →
      IsGoing system steps most start last before written_then unrecorded record_now keys (done + k)
  going-turn k turned last written_then fits is taken writes =
      let within = going.within in
      let there : HasGone system start keys (done + k) going.console going.list turned =
      subst (λ s. HasGone system start keys (done + k) going.console going.list s) (sym is) (gone-turn system start keys done k going.console going.list now going.gone) in
      record {
        console = going.console ++ turned.session.console.screen;
        list = going.list ++ turned.session.console.printer;
        gone = subst (λ s. HasGone system start keys (done + k) (going.console ++ turned.session.console.screen) (going.list ++ turned.session.console.printer) s) (sym taken)
            (gone-taken system start keys (done + k) going.console going.list turned there);
        shown = appends_more before.console written.console written_then.console going.console turned.session.console.screen going.shown writes.text;
        printed = appends_more before.list written.list written_then.list going.list turned.session.console.printer going.printed writes.list;
        quiet = record { screen = ap (λ (s : MachineState). s.session.console.screen) taken; printer = ap (λ (s : MachineState). s.session.console.printer) taken };
        within = omega arith;
        few = going.few;
        noted = going.noted;
      }

  -- of which there was text, where the console fails
  unfoldable pub going-text : (k : ℕ) (turned : MachineState) → k ≤ steps - done → turned ≡ after system k now → HasText turned → HadText system steps most start keys
  going-text k turned fits is text =
      let within = going.within in
      let there = gone-turn system start keys done k going.console going.list now going.gone in
      let shown : HasText (after system k now) = subst HasText is text in
      record {
        done = done + k;
        within = omega arith;
        given = record { typed = there.typed; come = there.come; few = going.few };
        text = λ none. shown (both_empty going.console (after system k now).session.console.screen (ap (λ (s : MachineState). s.session.console.screen) there.state ∙ none));
      }

  -- and list bytes, where the list device fails, whose text is shown
  unfoldable pub going-list : (k : ℕ) (turned : MachineState) (written_then : OutputState) → k ≤ steps - done → turned ≡ after system k now → HasList turned →
      Appends written.console written_then.console turned.session.console.screen → HadList system steps most start before written_then keys
  going-list k turned written_then fits is list writes =
      let within = going.within in
      let far : MachineState = after system k now in
      let there = gone-turn system start keys done k going.console going.list now going.gone in
      let printed : HasList far = subst HasList is list in
      let grown : Appends written.console written_then.console far.session.console.screen =
      subst (λ (s : MachineState). Appends written.console written_then.console s.session.console.screen) is writes in
      record {
        done = done + k;
        within = omega arith;
        given = record { typed = there.typed; come = there.come; few = going.few };
        list = λ none. printed (both_empty going.list far.session.console.printer (ap (λ (s : MachineState). s.session.console.printer) there.state ∙ none));
        text = subst (Appends before.console written_then.console) (ap (λ (s : MachineState). s.session.console.screen) there.state)
            (appends_more before.console written.console written_then.console going.console far.session.console.screen going.shown grown);
      }

  pub going-screen : going.console ≡ (alone_by system keys done start).session.console.screen
  going-screen = sym (append-nil going.console) ∙ ap (λ xs. going.console ++ xs) (sym going.quiet.screen) ∙ ap (λ (s : MachineState). s.session.console.screen) going.gone.state

  pub going-printer : going.list ≡ (alone_by system keys done start).session.console.printer
  going-printer = sym (append-nil going.list) ∙ ap (λ xs. going.list ++ xs) (sym going.quiet.printer) ∙ ap (λ (s : MachineState). s.session.console.printer) going.gone.state

  -- what it is now
  pub going-given : AreGiven most done keys
  going-given = record { typed = going.gone.typed; come = going.gone.come; few = going.few }

  pub going-shown : Appends before.console written.console (alone_by system keys done start).session.console.screen
  going-shown = subst (λ xs. Appends before.console written.console xs) going-screen going.shown

  pub going-printed : Appends before.list written.list (alone_by system keys done start).session.console.printer
  going-printed = subst (λ xs. Appends before.list written.list xs) going-printer going.printed

  pub going-ending : EndsAs (alone_by system keys done start) now
  going-ending = record {
    count = ap (λ (s : MachineState). s.count) going.gone.state;
    ended = ap (λ (s : MachineState). s.ended) going.gone.state;
    regs = ap (λ (s : MachineState). s.session.regs) going.gone.state;
    memory = ap (λ (s : MachineState). s.memory) going.gone.state;
    disks = ap (λ (s : MachineState). s.session.disks) going.gone.state;
  }

  pub going-left : now ≡ state_left system keys done start
  going-left = quiet-bare now going.quiet ∙ ap bare going.gone.state

  -- it waits for a key exactly where that one does
  pub going-waiting : (look_of now).waiting ≡ waits_at system start keys done
  going-waiting = sym (waits-behind going.console going.list now) ∙ ap (λ (s : MachineState). (look_of s).waiting) going.gone.state

  unfoldable pub going-come : HasCome system steps most start now before written keys
  going-come = record {
    done = done;
    within = going.within;
    given = going-given;
    output = record { text = going-shown; list = going-printed };
    ending = going-ending;
  }
