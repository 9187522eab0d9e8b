-- The rest of a run from where it stands leaves what the whole run leaves.
use Rattle.std.proofs.Common.{◌≡◌, ◌∙◌, ◌+◌, ◌-◌, ◌<◌, ◌≤◌, ◌++◌, ℕ, zero, suc, List, [], ◌∷◌, Option, None, Some, refl, sym, ap, ap₂, subst, arith, length, map, take, drop, slice_get, take-append-drop}
use Rattle.std.specs.Prelude.{IfSome, option_map}
use Rattle.std.proofs.lemmas.List.{length-append}
use Rattle.std.proofs.lemmas.Option.{none-some, slice_get-map}
use Rattle.cpm_batch.specs.Inputs.{Forks, Opens, Restores, StartInput}
use Rattle.cpm_batch.specs.Outputs.{SessionOutput}
use Rattle.cpm_geom.specs.Disk.{Disk}
use Rattle.cpm_machine.specs.Calls.{state_behind}
use Rattle.cpm_machine.specs.MachineState.{MachineState}
use Rattle.cpm_machine.specs.Saving.{Saving}
use Rattle.cpm_play.specs.Pacing.{HaveComeAfter}
use Rattle.cpm_play.specs.Playing.{IsInOrder, alone_by, coming_keys, state_left}
use Rattle.cpm_play.proofs.RunLemmas.{behind-bare}
use Rattle.cpm_run.proofs.ComingLemmas.{left_by_coming}
use Rattle.cpm_run.proofs.LaterLemmas.{goes_on}
use Rattle.cpm_run.specs.Laws.{RestIsWhole, later_keys}
use Rattle.cpm_run.specs.Run.{ReportEntry, left_of, report_behind, reported_of, reports_behind, run_of, session_output, start_of}
use Rattle.cpm_run.specs.Settled.{SettledSession, opening_at, opening_of, start_by, starts_of}
use Rattle.cpm_run.specs.Rest.{RunStanding, SessionStanding, keys_left, output_behind, outputs_behind, rest_from, rest_of_session, rest_start, rests, standing_at, stands_all, stands_by}
use Rattle.cpm_run.specs.Standing.{IsTrueOf, StandsThere}
use Rattle.cpm_script.specs.declared.script.Key.{Key}

-- ---- one session

-- keys whose counts begin there, and again where they began
pub keys_back : (n low : ℕ) (keys : List Key) → n ≤ low → IsInOrder low keys → later_keys n (map (λ (k : Key). record { count = k.count - n; byte = k.byte }) keys) ≡ keys
keys_back n low [] less order = refl
keys_back n low (k ∷ keys) less order =
    let at : n ≤ k.count = let first = order.0 in omega (arith, less, first) in
    let same : n + (k.count - n) ≡ k.count = omega arith in
    ap₂ (λ (c : ℕ) (ks : List Key). record { count = c; byte = k.byte } ∷ ks) same (keys_back n k.count keys at order.1)

module _ (system : Disk) (start : MachineState) (i : SettledSession) (s : SessionStanding) (there : StandsThere system start i s) where
  early : List Key
  early = take s.pressed i.keys

  rest_keys : List Key
  rest_keys = keys_left s.pressed s.done i.keys

  pub begun : state_behind s.console s.list s.saving.state ≡ alone_by system (take s.pressed i.keys) s.done start
  begun =
      ap (λ (x : Saving). state_behind s.console s.list x.state) there.saving
      ∙ ap₂ (λ (xs ys : List ℕ). state_behind xs ys (state_left system (take s.pressed i.keys) s.done start)) there.console there.list
      ∙ behind-bare (alone_by system (take s.pressed i.keys) s.done start)

  all_keys : take s.pressed i.keys ++ later_keys s.done (keys_left s.pressed s.done i.keys) ≡ i.keys
  all_keys =
      ap (λ (ks : List Key). take s.pressed i.keys ++ ks) (keys_back s.done s.done (drop s.pressed i.keys) (omega arith) there.later) ∙ take-append-drop s.pressed i.keys

  all_steps : s.done + (i.steps - s.done) ≡ i.steps
  all_steps = let less = there.within in omega (arith, less)

  pub whole_run : state_behind s.console s.list (alone_by system (keys_left s.pressed s.done i.keys) (i.steps - s.done) s.saving.state) ≡ alone_by system i.keys i.steps start
  whole_run =
      goes_on system (take s.pressed i.keys) s.done s.console s.list start s.saving.state there.early begun (keys_left s.pressed s.done i.keys) (i.steps - s.done)
      ∙ ap₂ (λ (ks : List Key) (n : ℕ). alone_by system ks n start) all_keys all_steps

  pub whole_left : state_left system (coming_keys system start i.steps i.keys) i.steps start
      ≡ state_left system (coming_keys system s.saving.state (i.steps - s.done) (keys_left s.pressed s.done i.keys)) (i.steps - s.done) s.saving.state
  whole_left =
      ap₂ (λ (ks : List Key) (n : ℕ). state_left system (coming_keys system start n ks) n start) (sym all_keys) (sym all_steps)
      ∙ left_by_coming system (take s.pressed i.keys) s.done s.console s.list start s.saving.state there.early begun (i.steps - s.done) (keys_left s.pressed s.done i.keys)
      (subst (λ (n : ℕ). HaveComeAfter system start n [] (take s.pressed i.keys)) (sym all_steps) there.come)

-- ---- how its rest begins

abbrev pub begins_with : Option SessionStanding → MachineState → MachineState
begins_with None start = start
begins_with (Some s) start = s.saving.state

pub next-standing : (ss : RunStanding) (place : ℕ) → standing_at (drop 1 ss) place ≡ standing_at ss (suc place)
next-standing [] place = refl
next-standing (s ∷ ss) place = refl

pub rest-at : (all : RunStanding) (is : List SettledSession) (ss : RunStanding) (place : ℕ) → slice_get (rests all is ss) place ≡ option_map (rest_of_session all (standing_at ss place)) (slice_get is place)
rest-at all [] ss place = refl
rest-at all (i ∷ is) ss zero = refl
rest-at all (i ∷ is) ss (suc place) =
    rest-at all is (drop 1 ss) place ∙ ap (λ (o : Option SessionStanding). option_map (rest_of_session all o) (slice_get is place)) (next-standing ss place)

-- one that has not begun begins as it does
unbegun : (all : RunStanding) (i : SettledSession) (start : StartInput) (from : Option SessionStanding) → i.start ≡ start → opening_of (rest_from from (rest_start None from start) i).start ≡ opening_of start
unbegun all i start None is = ap opening_of is
unbegun all i (Opens cpu quota drives) (Some s) is = refl
unbegun all i (Forks parent at) (Some s) is = refl
unbegun all i (Restores x) (Some s) is = refl

module _ (system : Disk) (inputs : List SettledSession) (standing : RunStanding) (long : length standing ≡ length inputs) where
  abbrev rest : List SettledSession
  rest = rests standing inputs standing

  -- the start of the rest of the session at a place
  start-at : (place : ℕ) (o : Option SettledSession) → slice_get inputs place ≡ o → slice_get (starts_of (rests standing inputs standing)) place ≡ option_map (λ (i : SettledSession). (rest_of_session standing (standing_at standing place) i).start) o
  start-at place o at =
      slice_get-map (λ (r : SettledSession). r.start) (rests standing inputs standing) place
      ∙ ap (option_map (λ (r : SettledSession). r.start)) (rest-at standing inputs standing place ∙ ap (option_map (rest_of_session standing (standing_at standing place))) at)
      ∙ both o
    where
      both : (o : Option SettledSession) → option_map (λ (r : SettledSession). r.start) (option_map (rest_of_session standing (standing_at standing place)) o) ≡ option_map (λ (i : SettledSession). (rest_of_session standing (standing_at standing place) i).start) o
      both None = refl
      both (Some i) = refl

  -- one that is still to be forked from one that stands there begins as that one goes on
  forked-start : (parent : ℕ) (s : SessionStanding) → standing_at standing parent ≡ Some s → opening_at (slice_get (starts_of (rests standing inputs standing)) parent) ≡ s.saving.state
  forked-start parent s at = by_place (slice_get inputs parent) refl
    where
      within : (ss : RunStanding) (place : ℕ) → standing_at ss place ≡ Some s → place < length ss
      within [] place is = absurd (none-some s is)
      within (x ∷ ss) zero is = omega arith
      within (x ∷ ss) (suc place) is = let h = within ss place is in omega (arith, h)

      past : (is : List SettledSession) (place : ℕ) → slice_get is place ≡ None → length is ≤ place
      past [] place none = omega arith
      past (x ∷ is) zero none = absurd (none-some x (sym none))
      past (x ∷ is) (suc place) none = let h = past is place none in omega (arith, h)

      by_place : (o : Option SettledSession) → slice_get inputs parent ≡ o → opening_at (slice_get (starts_of (rests standing inputs standing)) parent) ≡ s.saving.state
      by_place None there = absurd (let a = within standing parent at in let b = past inputs parent there in let no : ⊥ = omega (arith, a, b, long) in no)
      by_place (Some p) there =
          ap opening_at (start-at parent (Some p) there)
          ∙ ap (λ (o : Option SessionStanding). opening_of (rest_of_session standing o p).start) at

  -- one that is still to be forked from one that has not begun begins as it would
  unforked-start : (parent : ℕ) → standing_at standing parent ≡ None → opening_at (slice_get (starts_of (rests standing inputs standing)) parent) ≡ opening_at (slice_get (starts_of inputs) parent)
  unforked-start parent none = by_place (slice_get inputs parent) refl
    where
      before : (o : Option SettledSession) → slice_get inputs parent ≡ o → opening_at (slice_get (starts_of inputs) parent) ≡ opening_at (option_map (λ (i : SettledSession). i.start) o)
      before o at = ap opening_at (slice_get-map (λ (i : SettledSession). i.start) inputs parent ∙ ap (option_map (λ (i : SettledSession). i.start)) at)

      by_place : (o : Option SettledSession) → slice_get inputs parent ≡ o → opening_at (slice_get (starts_of (rests standing inputs standing)) parent) ≡ opening_at (slice_get (starts_of inputs) parent)
      by_place None there = ap opening_at (start-at parent None there) ∙ sym (before None there)
      by_place (Some p) there =
          ap opening_at (start-at parent (Some p) there)
          ∙ ap (λ (o : Option SessionStanding). opening_of (rest_of_session standing o p).start) none
          ∙ unbegun standing p p.start (stands_by standing None p.start) refl
          ∙ sym (before (Some p) there)

  pub starts-there : (own : Option SessionStanding) (start : StartInput) (i : SettledSession) → i.start ≡ start →
      let from = stands_by standing own start in
      start_by (starts_of (rests standing inputs standing)) (rest_from from (rest_start own from start) i).start ≡ begins_with from (start_by (starts_of inputs) start)
  starts-there (Some s) start i is = refl
  starts-there None (Opens cpu quota drives) i is = ap (start_by (starts_of (rests standing inputs standing))) is
  starts-there None (Restores x) i is = ap (start_by (starts_of (rests standing inputs standing))) is
  starts-there None (Forks parent at) i is = by_parent (standing_at standing parent) refl
    where
      by_parent : (o : Option SessionStanding) → standing_at standing parent ≡ o →
          start_by (starts_of (rests standing inputs standing)) (rest_from o (rest_start None o (Forks parent at)) i).start ≡ begins_with o (opening_at (slice_get (starts_of inputs) parent))
      by_parent None none = ap (start_by (starts_of (rests standing inputs standing))) is ∙ unforked-start parent none
      by_parent (Some s) at_parent = forked-start parent s at_parent

-- ---- what one leaves

abbrev entry : SettledSession → (console : ℕ) → MachineState → ReportEntry
entry i bytes s = record (reported_of i.session s) { bytes = bytes }

length-of-both : (xs ys zs : List ℕ) → zs ≡ xs ++ ys → length zs ≡ length xs + length ys
length-of-both xs ys zs is = ap length is ∙ length-append xs ys

module _ (system : Disk) (inputs rest : List SettledSession) (i : SettledSession) where
  pub report_one : (o : Option SessionStanding) (start : StartInput) → IfSome o (StandsThere system (start_of inputs i) i) → start_of rest (rest_from o start i) ≡ begins_with o (start_of inputs i) →
      reported_of i.session (run_of system inputs i) ≡ report_behind o (reported_of (rest_from o start i).session (run_of system rest (rest_from o start i)))
  unfolding run_of
  report_one None start there begins = ap (λ (s : MachineState). reported_of i.session (alone_by system i.keys i.steps s)) (sym begins)
  report_one (Some s) start there begins =
      let later : MachineState = alone_by system (keys_left s.pressed s.done i.keys) (i.steps - s.done) s.saving.state in
      let whole : MachineState = alone_by system i.keys i.steps (start_of inputs i) in
      let is : state_behind s.console s.list later ≡ whole = whole_run system (start_of inputs i) i s there in
      ap (reported_of i.session) (sym is)
      ∙ ap (λ (n : ℕ). entry i n later) (length-append s.console later.session.console.screen)
      ∙ ap (λ (x : MachineState). report_behind (Some s) (reported_of i.session (alone_by system (keys_left s.pressed s.done i.keys) (i.steps - s.done) x))) (sym begins)

  pub output_one : (o : Option SessionStanding) (start : StartInput) → IfSome o (StandsThere system (start_of inputs i) i) → start_of rest (rest_from o start i) ≡ begins_with o (start_of inputs i) →
      session_output system i.session (run_of system inputs i) (left_of system inputs i)
      ≡ output_behind o (session_output system (rest_from o start i).session (run_of system rest (rest_from o start i)) (left_of system rest (rest_from o start i)))
  unfolding run_of left_of
  output_one None start there begins =
      ap (λ (s : MachineState). session_output system i.session (alone_by system i.keys i.steps s) (state_left system (coming_keys system s i.steps i.keys) i.steps s)) (sym begins)
  output_one (Some s) start there begins =
      let later : MachineState = alone_by system (keys_left s.pressed s.done i.keys) (i.steps - s.done) s.saving.state in
      let whole : MachineState = alone_by system i.keys i.steps (start_of inputs i) in
      let is : state_behind s.console s.list later ≡ whole = whole_run system (start_of inputs i) i s there in
      ap₂ (session_output system i.session) (sym is) (whole_left system (start_of inputs i) i s there)
      ∙ ap (λ (x : MachineState). output_behind (Some s) (session_output system i.session (alone_by system (keys_left s.pressed s.done i.keys) (i.steps - s.done) x)
      (state_left system (coming_keys system x (i.steps - s.done) (keys_left s.pressed s.done i.keys)) (i.steps - s.done) x))) (sym begins)

-- ---- all of them

abbrev AllTrue : Disk → List SettledSession → RunStanding → List SettledSession → RunStanding → Type 0
AllTrue system inputs standing is ss = (place : ℕ) → IfSome (slice_get is place) (IsTrueOf system inputs standing (standing_at ss place))

module _ (system : Disk) (inputs : List SettledSession) (standing : RunStanding) (long : length standing ≡ length inputs) where
  true-next : (i : SettledSession) (is : List SettledSession) (ss : RunStanding) → AllTrue system inputs standing (i ∷ is) ss → AllTrue system inputs standing is (drop 1 ss)
  true-next i is ss all place =
      subst (λ (o : Option SessionStanding). IfSome (slice_get is place) (IsTrueOf system inputs standing o)) (sym (next-standing ss place)) (all (suc place))

  reports-from : (is : List SettledSession) (ss : RunStanding) → AllTrue system inputs standing is ss → map (λ (i : SettledSession). reported_of i.session (run_of system inputs i)) is
      ≡ reports_behind (stands_all standing is ss) (map (λ (i : SettledSession). reported_of i.session (run_of system (rests standing inputs standing) i)) (rests standing is ss))
  reports-from [] ss all = refl
  reports-from (i ∷ is) ss all =
      let own = standing_at ss 0 in
      let from = stands_by standing own i.start in
      ap₂ (λ (r : ReportEntry) (rs : List ReportEntry). r ∷ rs)
      (report_one system inputs (rests standing inputs standing) i from (rest_start own from i.start) (all 0).there (starts-there system inputs standing long own i.start i refl))
      (reports-from is (drop 1 ss) (true-next i is ss all))

  outputs-from : (is : List SettledSession) (ss : RunStanding) → AllTrue system inputs standing is ss → map (λ (i : SettledSession). session_output system i.session (run_of system inputs i) (left_of system inputs i)) is
      ≡ outputs_behind (stands_all standing is ss) (map (λ (i : SettledSession). session_output system i.session (run_of system (rests standing inputs standing) i) (left_of system (rests standing inputs standing) i)) (rests standing is ss))
  outputs-from [] ss all = refl
  outputs-from (i ∷ is) ss all =
      let own = standing_at ss 0 in
      let from = stands_by standing own i.start in
      ap₂ (λ (o : SessionOutput) (os : List SessionOutput). o ∷ os)
      (output_one system inputs (rests standing inputs standing) i from (rest_start own from i.start) (all 0).there (starts-there system inputs standing long own i.start i refl))
      (outputs-from is (drop 1 ss) (true-next i is ss all))

pub rest-is_whole : RestIsWhole
rest-is_whole system inputs standing true = record {
  reports = reports-from system inputs standing true.long inputs standing true.each;
  files = outputs-from system inputs standing true.long inputs standing true.each;
}
