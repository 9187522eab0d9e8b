-- The rest of a run from where it truly stands can be pressed, where its keys are few.
use Rattle.std.proofs.Common.{◌≡◌, ◌∙◌, ◌+◌, ◌-◌, ◌<◌, ◌≤◌, ◌++◌, nat_lt, ℕ, zero, suc, Bool, true, false, List, [], ◌∷◌, Option, None, Some, refl, sym, ap, ap₂, subst, arith, length, map, take, drop, slice_get, if◌then◌else◌}
use Rattle.std.specs.Prelude.{IfSome, option_map}
use Rattle.std.proofs.lemmas.Bool.Decides.{nat_tests}
use Rattle.std.proofs.lemmas.List.{map-append}
use Rattle.std.proofs.lemmas.Option.{none-some}
use Rattle.cpm_batch.specs.Inputs.{Forks, IsOpened, Opens, Restores, StartInput}
use Rattle.cpm_geom.specs.Disk.{Disk}
use Rattle.cpm_machine.specs.MachineState.{MachineState}
use Rattle.cpm_play.specs.Players.{AllBefore}
use Rattle.cpm_play.specs.Playing.{HaveRoom, IsInOrder}
use Rattle.cpm_play.proofs.RoomLemmas.{few-room}
use Rattle.cpm_run.proofs.StandingLemmas.{begins_with, rest-at, starts-there}
use Rattle.cpm_run.specs.Pressable.{ArePressable, HasFewKeys, HaveFewKeys, IsForkPressable, IsPressableBy}
use Rattle.cpm_run.specs.Laws.{RestCanBePlayed}
use Rattle.cpm_run.specs.Run.{start_of}
use Rattle.cpm_run.specs.Settled.{SettledSession, opening_at, opening_of, start_by, starts_of}
use Rattle.cpm_run.specs.Rest.{RunStanding, SessionStanding, keys_left, rest_from, rest_of, rest_of_session, rest_start, rests, standing_at, stands_by}
use Rattle.cpm_run.specs.Standing.{IsBeforeFork, IsTrueOf, IsTrueStanding, StandsThere}
use Rattle.cpm_script.specs.Fork.{keys_before}
use Rattle.cpm_script.specs.declared.script.Key.{Key}

-- ---- keys

abbrev sooner : ℕ → Key → Key
sooner n k = record { count = k.count - n; byte = k.byte }

-- keys whose counts begin at one that is no later than the first stay in order
order-sooner : (n low : ℕ) (keys : List Key) → IsInOrder low keys → IsInOrder (low - n) (map (sooner n) keys)
order-sooner n low [] order = tt
order-sooner n low (k ∷ keys) order = (let at : low ≤ k.count = order.0 in omega arith, order-sooner n k.count keys order.1)

order-low : (m n : ℕ) (keys : List Key) → m ≤ n → IsInOrder n keys → IsInOrder m keys
order-low m n [] less order = tt
order-low m n (k ∷ keys) less order = (let first : n ≤ k.count = order.0 in omega (arith, less, first), order.1)

-- of keys that come there or later none is before
none-before : (at low : ℕ) (keys : List Key) → at ≤ low → IsInOrder low keys → keys_before at keys ≡ []
none-before at low [] less order = refl
none-before at low (k ∷ keys) less order =
    let first : low ≤ k.count = order.0 in
    let late : nat_lt k.count at ≡ false = grind (arith, nat_tests) in
    rw late (none-before at k.count keys (omega (arith, less, first)) order.1)

-- those before a fork, after some of them
drop-before : (at low n : ℕ) (keys : List Key) → IsInOrder low keys → n ≤ length (keys_before at keys) → drop n (keys_before at keys) ≡ keys_before at (drop n keys)
drop-before at low zero keys order within = refl
drop-before at low (suc n) [] order within = absurd (let no : ⊥ = omega (arith, within) in no)
drop-before at low (suc n) (k ∷ keys) order within = by_test (nat_lt k.count at) refl (drop-before at k.count n keys order.1) within
  where
    by_test : (b : Bool) → nat_lt k.count at ≡ b → (n ≤ length (keys_before at keys) → drop n (keys_before at keys) ≡ keys_before at (drop n keys))
        → suc n ≤ length (if b then k ∷ keys_before at keys else keys_before at keys) → drop (suc n) (if b then k ∷ keys_before at keys else keys_before at keys) ≡ keys_before at (drop n keys)
    by_test true e rest less = rest (omega (arith, less))
    by_test false e rest less =
        let late : at ≤ k.count = grind (arith, nat_tests) in
        let none : keys_before at keys ≡ [] = none-before at k.count keys late order.1 in
        absurd (let size : length (keys_before at keys) ≡ 0 = ap length none in let no : ⊥ = omega (arith, less, size) in no)

-- keys that come before a fork are not among those from the fork on
few-before : (at n : ℕ) (first own : List Key) → AllBefore at (take n (first ++ own)) → IsInOrder at own → n ≤ length (first ++ own) → n ≤ length first
few-before at zero first own before order within = omega arith
few-before at (suc n) [] [] before order within = within
few-before at (suc n) [] (k ∷ own) before order within = absurd (let a : k.count < at = before.0 in let b : at ≤ k.count = order.0 in let no : ⊥ = omega arith in no)
few-before at (suc n) (k ∷ first) own before order within = let h = few-before at n first own before.1 order (omega (arith, within)) in omega (arith, h)

drop-first : (n : ℕ) (first own : List Key) → n ≤ length first → drop n (first ++ own) ≡ drop n first ++ own
drop-first zero first own within = refl
drop-first (suc n) [] own within = absurd (let no : ⊥ = omega (arith, within) in no)
drop-first (suc n) (k ∷ first) own within = drop-first n first own (omega (arith, within))

-- so many steps sooner the same keys come before a fork
before-sooner : (at d low : ℕ) (keys : List Key) → d ≤ low → d ≤ at → IsInOrder low keys → map (sooner d) (keys_before at keys) ≡ keys_before (at - d) (map (sooner d) keys)
before-sooner at d low [] less early order = refl
before-sooner at d low (k ∷ keys) less early order =
    let first : low ≤ k.count = order.0 in
    by_test (nat_lt k.count at) (nat_lt (k.count - d) (at - d)) (same (omega (arith, less, first))) (before-sooner at d k.count keys (omega (arith, less, first)) early order.1)
  where
    same : d ≤ k.count → nat_lt (k.count - d) (at - d) ≡ nat_lt k.count at
    same low_enough = test (nat_lt k.count at) refl
      where
        test : (b : Bool) → nat_lt k.count at ≡ b → nat_lt (k.count - d) (at - d) ≡ b
        test true e = let less_there : k.count < at = grind (arith, nat_tests) in let sooner_less : k.count - d < at - d = omega (arith, low_enough, less_there) in grind (arith, nat_tests)
        test false e = let late : at ≤ k.count = grind (arith, nat_tests) in let sooner_late : at - d ≤ k.count - d = omega (arith, late) in grind (arith, nat_tests)

    by_test : (a b : Bool) → b ≡ a → map (sooner d) (keys_before at keys) ≡ keys_before (at - d) (map (sooner d) keys)
        → map (sooner d) (if a then k ∷ keys_before at keys else keys_before at keys) ≡ (if b then sooner d k ∷ keys_before (at - d) (map (sooner d) keys) else keys_before (at - d) (map (sooner d) keys))
    by_test true true is h = ap (λ (ks : List Key). sooner d k ∷ ks) h
    by_test true false is h = absurd (let no : ⊥ = cc in no)
    by_test false true is h = absurd (let no : ⊥ = cc in no)
    by_test false false is h = h

-- the keys that are left of a forked session: those of the other one that are left and come before the fork, and its own
fork-left : (at pressed done : ℕ) (theirs keys own : List Key) → keys ≡ keys_before at theirs ++ own → IsInOrder 0 theirs → IsInOrder at own → done ≤ at → AllBefore at (take pressed keys) → pressed ≤ length keys
    → IsInOrder done (drop pressed theirs) → keys_left pressed done keys ≡ keys_before (at - done) (keys_left pressed done theirs) ++ map (sooner done) own
fork-left at pressed done theirs keys own is order later early before within left =
    let long : pressed ≤ length (keys_before at theirs) =
    few-before at pressed (keys_before at theirs) own (subst (λ (ks : List Key). AllBefore at (take pressed ks)) is before) later (subst (λ (ks : List Key). pressed ≤ length ks) is within) in
    ap (λ (ks : List Key). map (sooner done) (drop pressed ks)) is
    ∙ ap (map (sooner done)) (drop-first pressed (keys_before at theirs) own long ∙ ap (λ (ks : List Key). ks ++ own) (drop-before at 0 pressed theirs order long))
    ∙ map-append (sooner done) (keys_before at (drop pressed theirs)) own
    ∙ ap (λ (ks : List Key). ks ++ map (sooner done) own) (before-sooner at done done (drop pressed theirs) (omega arith) early left)

-- ---- sessions

not-fork : (b : StartInput) → IsOpened b → (parent at : ℕ) → b ≡ Forks parent at → ⊥
not-fork (Opens cpu quota drives) opened parent at is = cc
not-fork (Forks p a) opened parent at is = opened
not-fork (Restores x) opened parent at is = cc

own-only : (all : RunStanding) (o : Option SessionStanding) (b : StartInput) → IsOpened b → stands_by all o b ≡ o
own-only all (Some s) b opened = refl
own-only all None (Opens cpu quota drives) opened = refl
own-only all None (Forks parent at) opened = absurd opened
own-only all None (Restores x) opened = refl

order-opened : (system : Disk) (ss : List SettledSession) (b : StartInput) (s : SettledSession) → IsOpened b → IsPressableBy system ss b s → IsInOrder 0 s.keys
order-opened system ss (Opens cpu quota drives) s opened can = can.0
order-opened system ss (Forks parent at) s opened can = absurd opened
order-opened system ss (Restores x) s opened can = can.0

module _ (system : Disk) (inputs : List SettledSession) (standing : RunStanding) (can : ArePressable system inputs) (one : IsTrueStanding system inputs standing) (few : HaveFewKeys (rests standing inputs standing)) where
  abbrev rest : List SettledSession
  rest = rests standing inputs standing

  truth : (place : ℕ) (i : SettledSession) → slice_get inputs place ≡ Some i → IsTrueOf system inputs standing (standing_at standing place) i
  truth place i at = subst (λ (o : Option SettledSession). IfSome o (IsTrueOf system inputs standing (standing_at standing place))) at (one.each place)

  pressable : (place : ℕ) (i : SettledSession) → slice_get inputs place ≡ Some i → IsPressableBy system inputs i.start i
  pressable place i at = subst (λ (o : Option SettledSession). IfSome o (λ x. IsPressableBy system inputs x.start x)) at (can place)

  rest-there : (place : ℕ) (i : SettledSession) → slice_get inputs place ≡ Some i → slice_get (rests standing inputs standing) place ≡ Some (rest_of_session standing (standing_at standing place) i)
  rest-there place i at = rest-at standing inputs standing place ∙ ap (option_map (rest_of_session standing (standing_at standing place))) at

  room : (r : SettledSession) (start : MachineState) → start_of (rests standing inputs standing) r ≡ start → HasFewKeys (rests standing inputs standing) r → HaveRoom system start r.keys
  room r start begins less = subst (λ (s : MachineState). HaveRoom system s r.keys) begins (few-room system (start_of (rests standing inputs standing) r) r.keys less)

  -- one that goes on from its saving
  played : (i : SettledSession) (s : SessionStanding) → StandsThere system (start_of inputs i) i s → HasFewKeys (rests standing inputs standing) (rest_from (Some s) (Restores s.saving) i)
      → IsInOrder 0 (keys_left s.pressed s.done i.keys) × HaveRoom system s.saving.state (keys_left s.pressed s.done i.keys)
  played i s there less = (
    order-low 0 (s.done - s.done) (keys_left s.pressed s.done i.keys) (omega arith) (order-sooner s.done s.done (drop s.pressed i.keys) there.later),
    room (rest_from (Some s) (Restores s.saving) i) s.saving.state refl less,
  )

  -- one that is still to be forked, where the other one stands there or has not begun
  forked : (i : SettledSession) (parent at : ℕ) (o : Option SessionStanding) → i.start ≡ Forks parent at → standing_at standing parent ≡ o → IsForkPressable system inputs i parent at
      → IfSome o (StandsThere system (start_of inputs i) i) → IsBeforeFork None o i.keys (Forks parent at)
      → start_of (rests standing inputs standing) (rest_from o (rest_start None o (Forks parent at)) i) ≡ begins_with o (start_of inputs i)
      → HasFewKeys (rests standing inputs standing) (rest_from o (rest_start None o (Forks parent at)) i)
      → IsPressableBy system (rests standing inputs standing) (rest_from o (rest_start None o (Forks parent at)) i).start (rest_from o (rest_start None o (Forks parent at)) i)
  forked i parent at None is stands fork there early begins less =
      subst (λ (b : StartInput). IsPressableBy system (rests standing inputs standing) b i) (sym is)
      (record {
        other = fork.other;
        there = rest-there parent fork.other fork.there
            ∙ ap (λ (p : Option SessionStanding). Some (rest_from p (rest_start (standing_at standing parent) p fork.other.start) fork.other)) (own-only standing (standing_at standing parent) fork.other.start fork.opened ∙ stands);
        opened = fork.opened;
        own = fork.own;
        keys = fork.keys;
        order = fork.order;
        room = fork.room;
        within = fork.within;
      })
  forked i parent at (Some s) is stands fork there early begins less =
      let p = fork.other in
      let theirs : IsTrueOf system inputs standing (standing_at standing parent) p = truth parent p fork.there in
      let parent_there : StandsThere system (start_of inputs p) p s =
      subst (λ (o : Option SessionStanding). IfSome o (StandsThere system (start_of inputs p) p)) (own-only standing (standing_at standing parent) p.start fork.opened ∙ stands) theirs.there in
      let order = order-opened system inputs p.start p fork.opened (pressable parent p fork.there) in
      let low = early.0 in
      let reach = fork.within in
      record {
        other = rest_from (Some s) (Restores s.saving) p;
        there = rest-there parent p fork.there ∙ ap (λ (o : Option SessionStanding). Some (rest_of_session standing o p)) stands;
        opened = tt;
        own = map (sooner s.done) fork.own;
        keys = fork-left at s.pressed s.done p.keys i.keys fork.own fork.keys order fork.order early.0 early.1 there.few parent_there.later;
        order = order-sooner s.done at fork.own fork.order;
        room = room (rest_from (Some s) (Forks parent (at - s.done)) i) s.saving.state begins less;
        within = omega (arith, low, reach);
      }

  by-start : (place : ℕ) (i : SettledSession) (own : Option SessionStanding) (b : StartInput) → standing_at standing place ≡ own → i.start ≡ b → IsTrueOf system inputs standing own i → IsPressableBy system inputs b i
      → let r = rest_from (stands_by standing own b) (rest_start own (stands_by standing own b) b) i in
      start_of (rests standing inputs standing) r ≡ begins_with (stands_by standing own b) (start_of inputs i) → HasFewKeys (rests standing inputs standing) r → IsPressableBy system (rests standing inputs standing) r.start r
  by-start place i (Some s) b at is here press begins less = played i s here.there less
  by-start place i None (Opens cpu quota drives) at is here press begins less = subst (λ (b : StartInput). IsPressableBy system (rests standing inputs standing) b i) (sym is) press
  by-start place i None (Restores x) at is here press begins less = subst (λ (b : StartInput). IsPressableBy system (rests standing inputs standing) b i) (sym is) press
  by-start place i None (Forks parent count) at is here press begins less =
      forked i parent count (standing_at standing parent) is refl press (subst (λ (b : StartInput). IfSome (stands_by standing None b) (StandsThere system (start_of inputs i) i)) is here.there)
      (subst (λ (b : StartInput). IsBeforeFork None (stands_by standing None b) i.keys b) is here.ahead) begins less

  at-place : (place : ℕ) (o : Option SettledSession) → slice_get inputs place ≡ o → IfSome (slice_get (rests standing inputs standing) place) (λ r. IsPressableBy system (rests standing inputs standing) r.start r)
  at-place place None none =
      subst (λ (o : Option SettledSession). IfSome o (λ r. IsPressableBy system (rests standing inputs standing) r.start r))
      (sym (rest-at standing inputs standing place ∙ ap (option_map (rest_of_session standing (standing_at standing place))) none)) tt
  at-place place (Some i) there =
      let own = standing_at standing place in
      let less : HasFewKeys (rests standing inputs standing) (rest_of_session standing own i) =
      subst (λ (o : Option SettledSession). IfSome o (HasFewKeys (rests standing inputs standing))) (rest-there place i there) (few place) in
      subst (λ (o : Option SettledSession). IfSome o (λ r. IsPressableBy system (rests standing inputs standing) r.start r)) (sym (rest-there place i there))
      (by-start place i own i.start refl refl (truth place i there) (pressable place i there) (starts-there system inputs standing one.long own i.start i refl) less)

pub rest-pressable : RestCanBePlayed
rest-pressable system inputs standing can one few = λ place. at-place system inputs standing can one few place (slice_get inputs place) refl
