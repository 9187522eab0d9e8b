-- The rest of a run on its way, as the whole run on its way.
use Rattle.std.proofs.Common.{◌≡◌, ◌∙◌, ◌+◌, ◌-◌, ◌^◌, ◌<◌, ◌≤◌, ◌++◌, ℕ, zero, suc, List, [], ◌∷◌, Option, None, Some, refl, sym, ap, ap₂, subst, arith, append-nil, append_assoc, length, map, take, drop, get_or, length-drop, slice_get, Result, Ok, Err, IfOk}
use Rattle.std.specs.Prelude.{IfSome, option_map}
use Rattle.std.proofs.lemmas.List.{at_drop_all, drop_more, length-map, map-append}
use Rattle.std.proofs.lemmas.Option.{none-some, same_Some}
use Rattle.cpm_batch.specs.Inputs.{Forks, IsOpened, Opens, Restores, StartInput}
use Rattle.cpm_geom.specs.Disk.{Disk}
use Rattle.cpm_machine.specs.Calls.{state_behind}
use Rattle.cpm_machine.specs.MachineState.{MachineState}
use Rattle.cpm_machine.specs.Saving.{saving_with}
use Rattle.cpm_machine.specs.SystemDigest.{system_digest}
use Rattle.cpm_play.specs.Live.{AreBy}
use Rattle.cpm_play.specs.Pacing.{HaveComeAfter}
use Rattle.cpm_play.specs.Players.{AllBefore}
use Rattle.cpm_play.specs.Playing.{IsInOrder, alone_by, state_left}
use Rattle.cpm_run.proofs.ComingLemmas.{later-more}
use Rattle.cpm_run.proofs.LaterLemmas.{goes_on, left_on, runs_on}
use Rattle.cpm_run.proofs.StandingLemmas.{begins_with, begun, keys_back, next-standing, rest-at, starts-there}
use Rattle.cpm_run.proofs.RestLemmas.{first-left, one-more-left}
use Rattle.cpm_run.specs.Kept.{FitIfAny, FitTogether, kept_view, standing_view}
use Rattle.cpm_run.specs.Laws.{StandingsJoin, later_keys}
use Rattle.cpm_run.specs.Pressable.{ArePressable, IsForkPressable, IsPressableBy}
use Rattle.cpm_run.specs.Run.{start_of}
use Rattle.cpm_run.specs.Settled.{SettledSession, settled_view}
use Rattle.cpm_run.specs.declared.settled.SettledInput.{SettledInput}
use Rattle.cpm_run.specs.declared.standing.KeptSession.{KeptSession}
use Rattle.cpm_run.specs.Rest.{RunStanding, SessionStanding, keys_left, rest_from, rest_of, rest_of_session, rest_start, rests, standing_at, stands_by}
use Rattle.cpm_run.specs.Standing.{IsBeforeFork, IsTrueOf, IsTrueStanding, StandsThere, join_all, join_standings, joined, joined_if}
use Rattle.cpm_script.specs.declared.script.Key.{Key}

-- ---- keys

abbrev sooner : ℕ → Key → Key
sooner n k = record { count = k.count - n; byte = k.byte }

take-none : (n : ℕ) → take {A = Key} n [] ≡ []
take-none zero = refl
take-none (suc n) = refl

drop-none : (n : ℕ) → drop {A = Key} n [] ≡ []
drop-none zero = refl
drop-none (suc n) = refl

next-sum : (m n : ℕ) → suc m + n ≡ suc (m + n)
next-sum m n = omega arith

none-sum : (n : ℕ) → 0 + n ≡ n
none-sum n = omega arith

take-both : (m n : ℕ) (keys : List Key) → take (m + n) keys ≡ take m keys ++ take n (drop m keys)
take-both zero n keys = ap (λ (k : ℕ). take k keys) (none-sum n)
take-both (suc m) n [] = take-none (suc m + n) ∙ sym (take-none n)
take-both (suc m) n (k ∷ keys) = ap (λ (j : ℕ). take j (k ∷ keys)) (next-sum m n) ∙ ap (λ (ks : List Key). k ∷ ks) (take-both m n keys)

drop-both : (m n : ℕ) (keys : List Key) → drop (m + n) keys ≡ drop n (drop m keys)
drop-both zero n keys = ap (λ (k : ℕ). drop k keys) (none-sum n)
drop-both (suc m) n [] = drop-none (suc m + n) ∙ sym (drop-none n)
drop-both (suc m) n (k ∷ keys) = ap (λ (j : ℕ). drop j (k ∷ keys)) (next-sum m n) ∙ drop-both m n keys

take-map : (f : Key → Key) (n : ℕ) (keys : List Key) → take n (map f keys) ≡ map f (take n keys)
take-map f zero keys = refl
take-map f (suc n) [] = refl
take-map f (suc n) (k ∷ keys) = ap (λ (ks : List Key). f k ∷ ks) (take-map f n keys)

drop-map : (f : Key → Key) (n : ℕ) (keys : List Key) → drop n (map f keys) ≡ map f (drop n keys)
drop-map f zero keys = refl
drop-map f (suc n) [] = refl
drop-map f (suc n) (k ∷ keys) = drop-map f n keys

order-take : (low n : ℕ) (keys : List Key) → IsInOrder low keys → IsInOrder low (take n keys)
order-take low zero keys order = tt
order-take low (suc n) [] order = tt
order-take low (suc n) (k ∷ keys) order = (order.0, order-take k.count n keys order.1)

low-drop : (low n : ℕ) (keys : List Key) → IsInOrder low keys → IsInOrder low (drop n keys)
low-drop low zero keys order = order
low-drop low (suc n) [] order = tt
low-drop low (suc n) (k ∷ keys) order = lower low k.count (drop n keys) order.0 (low-drop k.count n keys order.1)
  where
    lower : (m n : ℕ) (ks : List Key) → m ≤ n → IsInOrder n ks → IsInOrder m ks
    lower m n [] less order = tt
    lower m n (k ∷ ks) less order = (let first = order.0 in omega (arith, less, first), order.1)

by-both : (m n : ℕ) (xs ys : List Key) → AreBy m xs → AreBy n ys → AreBy (m + n) (xs ++ later_keys m ys)
by-both m n [] [] left right = tt
by-both m n [] (y ∷ ys) left right = (let at = right.0 in omega (arith, at), by-both m n [] ys tt right.1)
by-both m n (x ∷ xs) ys left right = (let at = left.0 in omega (arith, at), by-both m n xs ys left.1 right)

order-later : (m low : ℕ) (keys : List Key) → IsInOrder low keys → IsInOrder (m + low) (later_keys m keys)
order-later m low [] order = tt
order-later m low (k ∷ keys) order = (let at = order.0 in omega (arith, at), order-later m k.count keys order.1)

-- keys that come, and then others that come behind them
come-both : (system : Disk) (start : MachineState) (steps : ℕ) (given xs ys : List Key) → HaveComeAfter system start steps given xs → HaveComeAfter system start steps (given ++ xs) ys → HaveComeAfter system start steps given (xs ++ ys)
come-both system start steps given [] ys first then = subst (λ (ks : List Key). HaveComeAfter system start steps ks ys) (append-nil given) then
come-both system start steps given (x ∷ xs) ys first then = (
  first.0,
  first.1,
  come-both system start steps (given ++ x ∷ []) xs ys first.2 (subst (λ (ks : List Key). HaveComeAfter system start steps ks ys) (sym (append_assoc given (x ∷ []) xs)) then),
)

module _ (system : Disk) (early : List Key) (n : ℕ) (console list : List ℕ) (start saved : MachineState) (by : AreBy n early)
    (same : state_behind console list saved ≡ alone_by system early n start) where
  come-behind : (m : ℕ) (given keys : List Key) → HaveComeAfter system saved m given keys → HaveComeAfter system start (n + m) (early ++ later_keys n given) (later_keys n keys)
  come-behind m given [] come = tt
  come-behind m given (k ∷ keys) come =
      let late : Key = record { count = n + k.count; byte = k.byte } in (
        let at = come.0 in omega (arith, at),
        runs_on system early n console list start saved by same given k.count ∙ come.1,
        subst (λ (ks : List Key). HaveComeAfter system start (n + m) ks (later_keys n keys))
            (ap (λ (ks : List Key). early ++ ks) (later-more n given k) ∙ sym (append_assoc early (later_keys n given) (late ∷ [])))
            (come-behind m (given ++ k ∷ []) keys come.2),
      )

-- how many are left
rest-long : (s : SessionStanding) (keys : List Key) → length (keys_left s.pressed s.done keys) ≡ length keys - s.pressed
rest-long s keys = length-map (drop s.pressed keys) (sooner s.done) ∙ length-drop s.pressed keys

-- ---- one session

module _ (system : Disk) (start : MachineState) (i : SettledSession) (s t : SessionStanding) (b : StartInput) (there : StandsThere system start i s)
    (rest : StandsThere system s.saving.state (rest_from (Some s) b i) t) where
  -- the keys of the rest so far, where they began
  taken : take (s.pressed + t.pressed) i.keys ≡ take s.pressed i.keys ++ later_keys s.done (take t.pressed (keys_left s.pressed s.done i.keys))
  taken =
      take-both s.pressed t.pressed i.keys
      ∙ ap (λ (ks : List Key). take s.pressed i.keys ++ ks)
      (sym (keys_back s.done s.done (take t.pressed (drop s.pressed i.keys)) (omega arith) (order-take s.done t.pressed (drop s.pressed i.keys) there.later))
      ∙ ap (later_keys s.done) (sym (take-map (sooner s.done) t.pressed (drop s.pressed i.keys))))

  left : drop (s.pressed + t.pressed) i.keys ≡ later_keys s.done (drop t.pressed (keys_left s.pressed s.done i.keys))
  left =
      drop-both s.pressed t.pressed i.keys
      ∙ sym (keys_back s.done s.done (drop t.pressed (drop s.pressed i.keys)) (omega arith) (low-drop s.done t.pressed (drop s.pressed i.keys) there.later))
      ∙ ap (later_keys s.done) (sym (drop-map (sooner s.done) t.pressed (drop s.pressed i.keys)))

  steps : s.done + (i.steps - s.done) ≡ i.steps
  steps = let less = there.within in omega (arith, less)

  whole : state_behind s.console s.list (alone_by system (take t.pressed (keys_left s.pressed s.done i.keys)) t.done s.saving.state) ≡ alone_by system (take (s.pressed + t.pressed) i.keys) (s.done + t.done) start
  whole =
      goes_on system (take s.pressed i.keys) s.done s.console s.list start s.saving.state there.early (begun system start i s there) (take t.pressed (keys_left s.pressed s.done i.keys)) t.done
      ∙ ap (λ (ks : List Key). alone_by system ks (s.done + t.done) start) (sym taken)

  pub stands-joined : StandsThere system start i (joined s t)
  stands-joined = record {
    within = let less = there.within in let more = rest.within in omega (arith, less, more);
    few = let less = there.few in let more = rest.few in let long = rest-long s i.keys in omega (arith, less, more, long);
    early = subst (λ (ks : List Key). AreBy (s.done + t.done) ks) (sym taken) (by-both s.done t.done (take s.pressed i.keys) (take t.pressed (keys_left s.pressed s.done i.keys)) there.early rest.early);
    come = subst (λ (ks : List Key). HaveComeAfter system start i.steps [] ks) (sym taken)
        (come-both system start i.steps [] (take s.pressed i.keys) (later_keys s.done (take t.pressed (keys_left s.pressed s.done i.keys))) there.come
        (subst (λ (n : ℕ). HaveComeAfter system start n (take s.pressed i.keys) (later_keys s.done (take t.pressed (keys_left s.pressed s.done i.keys)))) steps
        (subst (λ (ks : List Key). HaveComeAfter system start (s.done + (i.steps - s.done)) ks (later_keys s.done (take t.pressed (keys_left s.pressed s.done i.keys)))) (append-nil (take s.pressed i.keys))
        (come-behind system (take s.pressed i.keys) s.done s.console s.list start s.saving.state there.early (begun system start i s there) (i.steps - s.done) []
        (take t.pressed (keys_left s.pressed s.done i.keys)) rest.come))));
    later = subst (λ (ks : List Key). IsInOrder (s.done + t.done) ks) (sym left) (order-later s.done t.done (drop t.pressed (keys_left s.pressed s.done i.keys)) rest.later);
    console = ap (λ (xs : List ℕ). s.console ++ xs) rest.console ∙ ap (λ (x : MachineState). x.session.console.screen) whole;
    list = ap (λ (xs : List ℕ). s.list ++ xs) rest.list ∙ ap (λ (x : MachineState). x.session.console.printer) whole;
    saving =
        rest.saving
        ∙ ap (saving_with (system_digest system))
        (sym (left_on system (take s.pressed i.keys) s.done s.console s.list start s.saving.state there.early (begun system start i s there) (take t.pressed (keys_left s.pressed s.done i.keys)) t.done)
        ∙ ap (λ (ks : List Key). state_left system ks (s.done + t.done) start) (sym taken));
  }

-- the keys of both are before a fork
pub before-both : (at n : ℕ) (xs ys : List Key) → AllBefore at xs → AllBefore (at - n) ys → AllBefore at (xs ++ later_keys n ys)
before-both at n [] [] left right = tt
before-both at n [] (y ∷ ys) left right = (let less = right.0 in omega (arith, less), before-both at n [] ys tt right.1)
before-both at n (x ∷ xs) ys left right = (left.0, before-both at n xs ys left.1 right)

taken-joined : {system : Disk} {start : MachineState} (i : SettledSession) (s t : SessionStanding) → StandsThere system start i s
    → take (s.pressed + t.pressed) i.keys ≡ take s.pressed i.keys ++ later_keys s.done (take t.pressed (keys_left s.pressed s.done i.keys))
taken-joined i s t there =
    take-both s.pressed t.pressed i.keys
    ∙ ap (λ (ks : List Key). take s.pressed i.keys ++ ks)
    (sym (keys_back s.done s.done (take t.pressed (drop s.pressed i.keys)) (omega arith) (order-take s.done t.pressed (drop s.pressed i.keys) there.later))
    ∙ ap (later_keys s.done) (sym (take-map (sooner s.done) t.pressed (drop s.pressed i.keys))))

-- ---- all sessions

-- each that is forked is forked from one that isn't
abbrev pub ParentsAreOpened : List SettledSession → Type 0
ParentsAreOpened inputs = (place parent at : ℕ) (i : SettledSession) → slice_get inputs place ≡ Some i → i.start ≡ Forks parent at → (p : SettledSession) × (slice_get inputs parent ≡ Some p) × IsOpened p.start

join-at : (all : RunStanding) (is : List SettledSession) (ss ts : RunStanding) (place : ℕ) (i : SettledSession) → slice_get is place ≡ Some i
    → standing_at (join_all all is ss ts) place ≡ joined_if (stands_by all (standing_at ss place) i.start) (standing_at ss place) (standing_at ts place)
join-at all [] ss ts place i at = absurd (none-some i at)
join-at all (j ∷ is) ss ts zero i at = ap (λ (x : SettledSession). joined_if (stands_by all (standing_at ss 0) x.start) (standing_at ss 0) (standing_at ts 0)) (same_Some j i at)
join-at all (j ∷ is) ss ts (suc place) i at =
    join-at all is (drop 1 ss) (drop 1 ts) place i at
    ∙ ap₂ (λ (o p : Option SessionStanding). joined_if (stands_by all o i.start) o p) (next-standing ss place) (next-standing ts place)

join-long : (all : RunStanding) (is : List SettledSession) (ss ts : RunStanding) → length (join_all all is ss ts) ≡ length is
join-long all [] ss ts = refl
join-long all (i ∷ is) ss ts = ap suc (join-long all is (drop 1 ss) (drop 1 ts))

own-alone : (all : RunStanding) (o : Option SessionStanding) (b : StartInput) → IsOpened b → stands_by all o b ≡ o
own-alone all (Some s) b opened = refl
own-alone all None (Opens cpu quota drives) opened = refl
own-alone all None (Forks parent at) opened = absurd opened
own-alone all None (Restores x) opened = refl

module _ (system : Disk) (inputs rest : List SettledSession) (whole : RunStanding) (i : SettledSession) where
  -- one whose rest has a standing of its own
  join-own : (own from : Option SessionStanding) (t : SessionStanding) (b : StartInput) → IfSome from (StandsThere system (start_of inputs i) i) → start_of rest (rest_from from b i) ≡ begins_with from (start_of inputs i)
      → StandsThere system (start_of rest (rest_from from b i)) (rest_from from b i) t → IsTrueOf system inputs whole (joined_if from own (Some t)) i
  join-own own None t b here begins there = record { there = subst (λ (s : MachineState). StandsThere system s i t) begins there; ahead = tt }
  join-own own (Some s) t b here begins there = record {
    there = stands-joined system (start_of inputs i) i s t b here (subst (λ (x : MachineState). StandsThere system x (rest_from (Some s) b i) t) begins there);
    ahead = tt;
  }

  -- one that is still to be forked
  join-fork : (parent at : ℕ) (o p : Option SessionStanding) → i.start ≡ Forks parent at → standing_at whole parent ≡ joined_if o o p → let r = rest_from o (rest_start None o (Forks parent at)) i in
      IfSome o (StandsThere system (start_of inputs i) i) → IsBeforeFork None o i.keys (Forks parent at) → start_of rest r ≡ begins_with o (start_of inputs i)
      → IfSome p (StandsThere system (start_of rest r) r) → IsBeforeFork None p r.keys (rest_start None o (Forks parent at)) → IsTrueOf system inputs whole None i
  join-fork parent at o p is stands here early begins there later =
      record {
        there = subst (λ (b : StartInput). IfSome (stands_by whole None b) (StandsThere system (start_of inputs i) i)) (sym is)
            (subst (λ (x : Option SessionStanding). IfSome x (StandsThere system (start_of inputs i) i)) (sym stands) (both o p here begins there));
        ahead = subst (λ (b : StartInput). IsBeforeFork None (stands_by whole None b) i.keys b) (sym is)
            (subst (λ (x : Option SessionStanding). IsBeforeFork None x i.keys (Forks parent at)) (sym stands) (before o p here early later));
      }
    where
      both : (o p : Option SessionStanding) → IfSome o (StandsThere system (start_of inputs i) i) → start_of rest (rest_from o (rest_start None o (Forks parent at)) i) ≡ begins_with o (start_of inputs i)
          → IfSome p (StandsThere system (start_of rest (rest_from o (rest_start None o (Forks parent at)) i)) (rest_from o (rest_start None o (Forks parent at)) i))
          → IfSome (joined_if o o p) (StandsThere system (start_of inputs i) i)
      both None None here begins there = tt
      both None (Some t) here begins there = subst (λ (s : MachineState). StandsThere system s i t) begins there
      both (Some s) None here begins there = here
      both (Some s) (Some t) here begins there =
          stands-joined system (start_of inputs i) i s t (Forks parent (at - s.done)) here (subst (λ (x : MachineState). StandsThere system x (rest_from (Some s) (Forks parent (at - s.done)) i) t) begins there)

      before : (o p : Option SessionStanding) → IfSome o (StandsThere system (start_of inputs i) i) → IsBeforeFork None o i.keys (Forks parent at)
          → IsBeforeFork None p (rest_from o (rest_start None o (Forks parent at)) i).keys (rest_start None o (Forks parent at)) → IsBeforeFork None (joined_if o o p) i.keys (Forks parent at)
      before None None here early later = tt
      before None (Some t) here early later = later
      before (Some s) None here early later = early
      before (Some s) (Some t) here early later =
          let low : s.done ≤ at = early.0 in
          let less : t.done ≤ at - s.done = later.0 in (
            omega (arith, low, less),
            subst (λ (ks : List Key). AllBefore at ks) (sym (taken-joined i s t here)) (before-both at s.done (take s.pressed i.keys) (take t.pressed (keys_left s.pressed s.done i.keys)) early.1 later.1),
          )

  -- what is said of the rest of one that is still to be forked, where its other one stands there
  rest-there : (second : RunStanding) (parent at : ℕ) (o : Option SessionStanding) (P : SessionStanding → Type 0) → i.start ≡ Forks parent at
      → IfSome (stands_by second None (rest_from o (rest_start None o (Forks parent at)) i).start) P → IfSome (standing_at second parent) P
  rest-there second parent at None P is there = subst (λ (b : StartInput). IfSome (stands_by second None b) P) is there
  rest-there second parent at (Some s) P is there = there

  rest-ahead : (second : RunStanding) (parent at : ℕ) (o : Option SessionStanding) → i.start ≡ Forks parent at
      → IsBeforeFork None (stands_by second None (rest_from o (rest_start None o (Forks parent at)) i).start) (rest_from o (rest_start None o (Forks parent at)) i).keys (rest_from o (rest_start None o (Forks parent at)) i).start
      → IsBeforeFork None (standing_at second parent) (rest_from o (rest_start None o (Forks parent at)) i).keys (rest_start None o (Forks parent at))
  rest-ahead second parent at None is ahead = subst (λ (b : StartInput). IsBeforeFork None (stands_by second None b) i.keys b) is ahead
  rest-ahead second parent at (Some s) is ahead = ahead

module _ (system : Disk) (inputs : List SettledSession) (first second : RunStanding) (parents : ParentsAreOpened inputs) (one : IsTrueStanding system inputs first)
    (two : IsTrueStanding system (rests first inputs first) second) where
  -- of one session, by how it begins and what its standings are
  join-one : (place : ℕ) (i : SettledSession) (own p : Option SessionStanding) (b : StartInput) → slice_get inputs place ≡ Some i → i.start ≡ b → IsTrueOf system inputs first own i
      → let r = rest_from (stands_by first own b) (rest_start own (stands_by first own b) b) i in
      start_of (rests first inputs first) r ≡ begins_with (stands_by first own b) (start_of inputs i) → IsTrueOf system (rests first inputs first) second p r
      → IsTrueOf system inputs (join_all first inputs first second) (joined_if (stands_by first own b) own p) i
  join-one place i own (Some t) b at is here begins there =
      join-own system inputs (rests first inputs first) (join_all first inputs first second) i own (stands_by first own b) t (rest_start own (stands_by first own b) b)
      (subst (λ (x : StartInput). IfSome (stands_by first own x) (StandsThere system (start_of inputs i) i)) is here.there) begins there.there
  join-one place i (Some s) None b at is here begins there = record { there = here.there; ahead = tt }
  join-one place i None None (Opens cpu quota drives) at is here begins there = record {
    there = subst (λ (x : StartInput). IfSome (stands_by (join_all first inputs first second) None x) (StandsThere system (start_of inputs i) i)) (sym is) tt;
    ahead = subst (λ (x : StartInput). IsBeforeFork None (stands_by (join_all first inputs first second) None x) i.keys x) (sym is) tt;
  }
  join-one place i None None (Restores x) at is here begins there = record {
    there = subst (λ (x : StartInput). IfSome (stands_by (join_all first inputs first second) None x) (StandsThere system (start_of inputs i) i)) (sym is) tt;
    ahead = subst (λ (x : StartInput). IsBeforeFork None (stands_by (join_all first inputs first second) None x) i.keys x) (sym is) tt;
  }
  join-one place i None None (Forks parent count) at is here begins there =
      let p = parents place parent count i at is in
      let o = standing_at first parent in
      join-fork system inputs (rests first inputs first) (join_all first inputs first second) i parent count o (standing_at second parent) is
      (join-at first inputs first second parent p.0 p.1 ∙ ap (λ (x : Option SessionStanding). joined_if x o (standing_at second parent)) (own-alone first o p.0.start p.2))
      (subst (λ (x : StartInput). IfSome (stands_by first None x) (StandsThere system (start_of inputs i) i)) is here.there)
      (subst (λ (x : StartInput). IsBeforeFork None (stands_by first None x) i.keys x) is here.ahead) begins
      (rest-there system inputs (rests first inputs first) (join_all first inputs first second) i second parent count o
      (StandsThere system (start_of (rests first inputs first) (rest_from o (rest_start None o (Forks parent count)) i)) (rest_from o (rest_start None o (Forks parent count)) i)) is there.there)
      (rest-ahead system inputs (rests first inputs first) (join_all first inputs first second) i second parent count o is there.ahead)

  join-place : (place : ℕ) (o : Option SettledSession) → slice_get inputs place ≡ o →
      IfSome o (IsTrueOf system inputs (join_all first inputs first second) (standing_at (join_all first inputs first second) place))
  join-place place None there = tt
  join-place place (Some i) there =
      let own = standing_at first place in
      let here : IsTrueOf system inputs first own i = subst (λ (o : Option SettledSession). IfSome o (IsTrueOf system inputs first own)) there (one.each place) in
      let rest_there : slice_get (rests first inputs first) place ≡ Some (rest_of_session first own i) = rest-at first inputs first place ∙ ap (option_map (rest_of_session first own)) there in
      let later : IsTrueOf system (rests first inputs first) second (standing_at second place) (rest_of_session first own i) =
      subst (λ (o : Option SettledSession). IfSome o (IsTrueOf system (rests first inputs first) second (standing_at second place))) rest_there (two.each place) in
      subst (λ (o : Option SessionStanding). IsTrueOf system inputs (join_all first inputs first second) o i) (sym (join-at first inputs first second place i there))
      (join-one place i own (standing_at second place) i.start there refl here (starts-there system inputs first one.long own i.start i refl) later)

  pub joined-true : IsTrueStanding system inputs (join_standings inputs first second)
  joined-true = record { long = join-long first inputs first second; each = λ place. join-place place (slice_get inputs place) refl }

parents-opened : (system : Disk) (inputs : List SettledSession) → ArePressable system inputs → ParentsAreOpened inputs
parents-opened system inputs can place parent at i there is =
    let here : IsPressableBy system inputs i.start i = subst (λ (o : Option SettledSession). IfSome o (λ x. IsPressableBy system inputs x.start x)) there (can place) in
    let fork : IsForkPressable system inputs i parent at = subst (λ (b : StartInput). IsPressableBy system inputs b i) is here in
    (fork.other, fork.there, fork.opened)

pub standings-join : StandingsJoin
standings-join system inputs standing rest can one two = joined-true system inputs standing rest (parents-opened system inputs can) one two

-- ---- in the code

-- sums of what is kept of a session before and of its rest have their types
fit-there : (system : Disk) (start later : MachineState) (i : SettledSession) (b : StartInput) (s t : SessionStanding) → StandsThere system start i s → StandsThere system later (rest_from (Some s) b i) t
    → i.steps < 2 ^ 64 → length i.keys < 2 ^ 64 → FitTogether s t
fit-there system start later i b s t here rest steps keys =
    let done = here.within in
    let more = rest.within in
    let pressed = here.few in
    let others = rest.few in
    let long = rest-long s i.keys in
    (omega (arith, pressed, others, long, keys), omega (arith, done, more, steps))

pub fit-at : (system : Disk) (inputs : List SettledSession) (first second : RunStanding) (place : ℕ) (i : SettledSession) → IsTrueStanding system inputs first → IsTrueStanding system (rests first inputs first) second
    → slice_get inputs place ≡ Some i → i.steps < 2 ^ 64 → length i.keys < 2 ^ 64 → FitIfAny (stands_by first (standing_at first place) i.start) (standing_at second place)
fit-at system inputs first second place i one two at steps keys =
    let own = standing_at first place in
    let from = stands_by first own i.start in
    let here : IsTrueOf system inputs first own i = subst (λ (o : Option SettledSession). IfSome o (IsTrueOf system inputs first own)) at (one.each place) in
    let rest_at : slice_get (rests first inputs first) place ≡ Some (rest_of_session first own i) = rest-at first inputs first place ∙ ap (option_map (rest_of_session first own)) at in
    let later : IsTrueOf system (rests first inputs first) second (standing_at second place) (rest_of_session first own i) =
    subst (λ (o : Option SettledSession). IfSome o (IsTrueOf system (rests first inputs first) second (standing_at second place))) rest_at (two.each place) in
    by_case from (rest_start own from i.start) (standing_at second place) here.there later.there
  where
    by_case : (o : Option SessionStanding) (b : StartInput) (p : Option SessionStanding) → IfSome o (StandsThere system (start_of inputs i) i)
        → IfSome (stands_by second p (rest_from o b i).start) (StandsThere system (start_of (rests first inputs first) (rest_from o b i)) (rest_from o b i)) → FitIfAny o p
    by_case None b p here there = tt
    by_case (Some s) b None here there = tt
    by_case (Some s) b (Some t) here there = fit-there system (start_of inputs i) (start_of (rests first inputs first) (rest_from (Some s) b i)) i b s t here there steps keys

-- the joined standings so far, and those that are left
pub join-more : (all ss ts : RunStanding) (is : List SettledInput) (n : ℕ) (x : SettledInput) (k r : Option KeptSession) (so_far more others : List (Option KeptSession)) → n < length is → x ≡ get_or is n x
    → option_map kept_view k ≡ joined_if (stands_by all (standing_at ss n) (settled_view x).start) (standing_at ss n) (option_map kept_view r) → more ≡ so_far ++ k ∷ []
    → standing_view so_far ++ join_all all (map settled_view (drop n is)) (drop n ss) (standing_view (r ∷ others)) ≡ ts
    → standing_view more ++ join_all all (map settled_view (drop (n + 1) is)) (drop (n + 1) ss) (standing_view others) ≡ ts
join-more all ss ts is n x k r so_far more others within at one pushed h =
    let rest = join_all all (map settled_view (drop (n + 1) is)) (drop (n + 1) ss) (standing_view others) in
    let here : drop n is ≡ x ∷ drop (n + 1) is = drop_more is n x within ∙ ap (λ (y : SettledInput). y ∷ drop (n + 1) is) (sym at) in
    ap (λ (ys : List (Option KeptSession)). standing_view ys ++ rest) pushed
    ∙ ap (λ (ys : RunStanding). ys ++ rest) (map-append (option_map kept_view) so_far (k ∷ []))
    ∙ append_assoc (standing_view so_far) (option_map kept_view k ∷ []) rest
    ∙ ap₂ (λ (y : Option SessionStanding) (ys : RunStanding). standing_view so_far ++ (y ∷ ys))
    (one ∙ ap (λ (o : Option SessionStanding). joined_if (stands_by all o (settled_view x).start) o (option_map kept_view r)) (sym (first-left ss n)))
    (ap (λ (zs : RunStanding). join_all all (map settled_view (drop (n + 1) is)) zs (standing_view others)) (sym (one-more-left ss n)))
    ∙ ap (λ (ys : List SettledInput). standing_view so_far ++ join_all all (map settled_view ys) (drop n ss) (standing_view (r ∷ others))) (sym here)
    ∙ h

pub join-end : (all ss ts rs : RunStanding) (is : List SettledInput) (n : ℕ) (so_far : List (Option KeptSession)) → length is ≤ n
    → standing_view so_far ++ join_all all (map settled_view (drop n is)) (drop n ss) rs ≡ ts → standing_view so_far ≡ ts
join-end all ss ts rs is n so_far past h =
    sym (append-nil (standing_view so_far))
    ∙ sym (at_drop_all (λ (ys : List SettledInput). standing_view so_far ++ join_all all (map settled_view ys) (drop n ss) rs) is n past) ∙ h

rests-long : (all : RunStanding) (is : List SettledSession) (ss : RunStanding) → length (rests all is ss) ≡ length is
rests-long all [] ss = refl
rests-long all (i ∷ is) ss = ap suc (rests-long all is (drop 1 ss))

-- as many are kept of the rest as there are sessions
pub rest-kept-long : (system : Disk) (is : List SettledInput) (all : RunStanding) (kept : List (Option KeptSession)) → IsTrueStanding system (rest_of (map settled_view is) all) (standing_view kept) → length kept ≡ length is
rest-kept-long system is all kept two =
    sym (length-map kept (option_map kept_view)) ∙ two.long ∙ rests-long all (map settled_view is) all ∙ length-map is settled_view

drop-view : (n : ℕ) (kept : List (Option KeptSession)) → standing_view (drop n kept) ≡ drop n (standing_view kept)
drop-view zero kept = refl
drop-view (suc n) [] = refl
drop-view (suc n) (k ∷ kept) = drop-view n kept

-- what is kept of the rest of the next session
pub next-kept : (n : ℕ) (kept others : List (Option KeptSession)) (k : Option KeptSession) → k ∷ others ≡ drop n kept → option_map kept_view k ≡ standing_at (standing_view kept) n
next-kept n kept others k is = ap (λ (ks : List (Option KeptSession)). standing_at (standing_view ks) 0) is ∙ ap (λ (ss : RunStanding). standing_at ss 0) (drop-view n kept) ∙ first-left (standing_view kept) n

pub others-next : (n : ℕ) (kept others : List (Option KeptSession)) (k : Option KeptSession) → k ∷ others ≡ drop n kept → others ≡ drop (n + 1) kept
others-next n kept others k is = ap (drop 1) is ∙ drop-next n kept ∙ ap (λ (m : ℕ). drop m kept) (let next : suc n ≡ n + 1 = omega arith in next)
  where
    drop-next : (n : ℕ) (ks : List (Option KeptSession)) → drop 1 (drop n ks) ≡ drop (suc n) ks
    drop-next zero [] = refl
    drop-next zero (k ∷ ks) = refl
    drop-next (suc n) [] = refl
    drop-next (suc n) (k ∷ ks) = drop-next n ks

pub none-left : (n : ℕ) (kept : List (Option KeptSession)) → [] ≡ drop n kept → length kept ≤ n
none-left n [] none = omega arith
none-left zero (k ∷ kept) none = absurd (let no : ⊥ = cc in no)
none-left (suc n) (k ∷ kept) none = let h = none-left n kept none in omega (arith, h)

-- a result that is so wherever two things hold
pub swap-ok : {V E : Type 0} → (A B : Disk → Type 0) (P : V → Type 0) (r : Result V E) → ((system : Disk) → A system → B system → IfOk r P) → IfOk r (λ v. (system : Disk) → A system → B system → P v)
swap-ok {V} {E} A B P (Ok v) f = f
swap-ok {V} {E} A B P (Err e) f = tt
