-- Keys that are looked through, so that they can be pressed.
use Rattle.std.proofs.Common.{◌≡◌, ◌∙◌, ◌+◌, ◌<◌, ◌≤◌, ◌⊎◌, inl, inr, ◌++◌, ℕ, true, List, [], ◌∷◌, Option, Some, refl, sym, ap, subst, arith, drop, get_or, length, map, take, slice_get, take-append-drop}
use Rattle.std.specs.Prelude.{IfSome, nat_le, option_map}
use Rattle.std.proofs.lemmas.Bool.{cases_lt}
use Rattle.std.proofs.lemmas.Bool.Decides.{nat_tests}
use Rattle.std.proofs.lemmas.List.{at_drop_all, drop_at, drop_more, length-map, take_all, take_more}
use Rattle.std.proofs.lemmas.Option.{same_Some, slice_get-get_or, slice_get-map, slice_get_past}
use Rattle.cpm_batch.specs.Inputs.{IsOpened, start_view}
use Rattle.cpm_batch.specs.declared.input.Start.{Start}
use Rattle.cpm_batch.specs.declared.input.Start.TheVariants as start
use Rattle.cpm_geom.specs.Disk.{Disk}
use Rattle.cpm_machine.specs.MachineState.{MachineState}
use Rattle.cpm_play.specs.Playing.{HaveRoom, IsInOrder}
use Rattle.cpm_play.proofs.RoomLemmas.{few-room}
use Rattle.cpm_run.specs.Pressable.{ArePressable, IsForkPressable, IsPressableBy}
use Rattle.cpm_run.specs.Settled.{SettledSession, opening_of, settled_view}
use Rattle.cpm_run.specs.declared.settled.SettledInput.{SettledInput}
use Rattle.cpm_script.specs.Fork.{keys_before}
use Rattle.cpm_script.specs.Script.{most_keys}
use Rattle.cpm_script.specs.declared.script.Key.{Key}

-- ---- the order of keys

pub order-more : (from low i : ℕ) (keys : List Key) (k : Key) → i < length keys → k ≡ get_or keys i k → low ≤ k.count → (IsInOrder low (drop i keys) → IsInOrder from keys)
    → IsInOrder k.count (drop (i + 1) keys) → IsInOrder from keys
order-more from low i keys k within at later so_far rest =
    so_far (subst (λ (ks : List Key). IsInOrder low ks) (sym (drop_more keys i k within ∙ ap (λ (x : Key). x ∷ drop (i + 1) keys) (sym at))) (later, rest))

pub order-all : (from low i : ℕ) (keys : List Key) → length keys ≤ i → (IsInOrder low (drop i keys) → IsInOrder from keys) → IsInOrder from keys
order-all from low i keys past so_far = so_far (subst (λ (ks : List Key). IsInOrder low ks) (sym (at_drop_all (λ (ks : List Key). ks) keys i past)) tt)

-- ---- keys that begin with others

pub first-more : (keys first : List Key) (i : ℕ) (d e : Key) → i < length keys → i < length first → get_or keys i d ≡ get_or first i e → take i first ≡ take i keys → take (i + 1) first ≡ take (i + 1) keys
first-more keys first i d e within there same h =
    take_more first i e there ∙ ap (λ (ks : List Key). ks ++ get_or first i e ∷ []) h ∙ ap (λ (k : Key). take i keys ++ k ∷ []) (sym same) ∙ sym (take_more keys i d within)

pub first-all : (keys first : List Key) (i : ℕ) → i ≡ length first → take i first ≡ take i keys → keys ≡ first ++ drop (length first) keys
first-all keys first i all h =
    sym (take-append-drop (length first) keys)
    ∙ ap (λ (ks : List Key). ks ++ drop (length first) keys) (ap (λ (n : ℕ). take n keys) (sym all) ∙ sym h ∙ take_all i first (omega (arith, all)))

-- ---- room

pub room-counted : (start : MachineState) (pending count : ℕ) → pending ≡ length start.session.console.keys → nat_le (pending + 0 + count) most_keys ≡ true
    → (system : Disk) (keys : List Key) → length keys ≡ count → HaveRoom system start keys
room-counted start pending count is few system keys long =
    let within : pending + 0 + count ≤ most_keys = grind (arith, nat_tests) in
    let all : length start.session.console.keys + length keys ≤ most_keys = omega (arith, is, long, within) in
    few-room system start keys all

-- ---- sessions

-- those of one that begins by itself
pub own-pressable : (system : Disk) (all : List SettledSession) (b : Start) (i : SettledSession) → ((parent at : ℕ) → b ≡ start.Forked parent at → ⊥) → IsInOrder 0 i.keys → HaveRoom system (opening_of (start_view b)) i.keys
    → IsPressableBy system all (start_view b) i
own-pressable system all (start.Opened cpu quota drives) i own order room = (order, room)
own-pressable system all (start.Forked parent at) i own order room = absurd (own parent at refl)
own-pressable system all (start.Restored saved) i own order room = (order, room)

-- those of one that is forked
pub fork-pressable : (is : List SettledInput) (i other : SettledInput) (parent at : ℕ) (first : List Key) → parent < length is → other ≡ get_or is parent other → IsOpened (start_view other.start) → at ≤ i.steps
    → ((system : Disk) (keys : List Key) → length keys ≡ length i.keys.items → HaveRoom system (opening_of (start_view other.start)) keys)
    → first ≡ keys_before at other.keys.items → i.keys.items ≡ first ++ drop (length first) i.keys.items → IsInOrder at (drop (length first) i.keys.items)
    → (system : Disk) → IsForkPressable system (map settled_view is) (settled_view i) parent at
fork-pressable is i other parent at first within there opened low room before joined order system = record {
  other = settled_view other;
  there = slice_get-map settled_view is parent ∙ ap (option_map settled_view) (slice_get-get_or is parent other within ∙ ap Some (sym there));
  opened = opened;
  own = drop (length first) i.keys.items;
  keys = joined ∙ ap (λ (ks : List Key). ks ++ drop (length first) i.keys.items) before;
  order = order;
  room = room system i.keys.items refl;
  within = low;
}

-- the first of all sessions can
abbrev pub ArePressableTo : List SettledInput → ℕ → Type 0
ArePressableTo is n = (system : Disk) (place : ℕ) → place < n → IfSome (slice_get (map settled_view is) place) (λ i. IsPressableBy system (map settled_view is) i.start i)

pub pressable-more : (is : List SettledInput) (n : ℕ) (x : SettledInput) → n < length is → x ≡ get_or is n x
    → ((system : Disk) → IsPressableBy system (map settled_view is) (settled_view x).start (settled_view x)) → ArePressableTo is n → ArePressableTo is (n + 1)
pressable-more is n x within at can so_far system place below = by_place (cases_lt place n)
  where
    there : slice_get (map settled_view is) n ≡ Some (settled_view x)
    there = slice_get-map settled_view is n ∙ ap (option_map settled_view) (slice_get-get_or is n x within ∙ ap Some (sym at))

    by_place : (place < n) ⊎ (n ≤ place) → IfSome (slice_get (map settled_view is) place) (λ i. IsPressableBy system (map settled_view is) i.start i)
    by_place (inl less) = so_far system place less
    by_place (inr most) =
        let low : n ≤ place = most in
        let high : place < n + 1 = below in
        let same : place ≡ n = omega arith in
        subst (λ (o : Option SettledSession). IfSome o (λ i. IsPressableBy system (map settled_view is) i.start i)) (sym (ap (slice_get (map settled_view is)) same ∙ there)) (can system)

pub pressable-all : (is : List SettledInput) (n : ℕ) → length is ≤ n → ArePressableTo is n → (system : Disk) → ArePressable system (map settled_view is)
pressable-all is n past so_far system place = by_place (cases_lt place n)
  where
    by_place : (place < n) ⊎ (n ≤ place) → IfSome (slice_get (map settled_view is) place) (λ i. IsPressableBy system (map settled_view is) i.start i)
    by_place (inl less) = so_far system place less
    by_place (inr most) =
        let long = length-map is settled_view in
        subst (λ (o : Option SettledSession). IfSome o (λ i. IsPressableBy system (map settled_view is) i.start i))
        (sym (slice_get_past (map settled_view is) place (let low : n ≤ place = most in let end : length is ≤ n = past in omega (arith, long)))) tt

-- ---- what is found of sessions that can

-- the own keys of one that is forked are in order
pub fork-own : (is : List SettledInput) (i other : SettledInput) (parent at : ℕ) (first : List Key) → parent < length is → other ≡ get_or is parent other → first ≡ keys_before at other.keys.items
    → (system : Disk) → IsForkPressable system (map settled_view is) (settled_view i) parent at → IsInOrder at (drop (length first) i.keys.items)
fork-own is i other parent at first within there before system can =
    let here : slice_get (map settled_view is) parent ≡ Some (settled_view other) = slice_get-map settled_view is parent ∙ ap (option_map settled_view) (slice_get-get_or is parent other within ∙ ap Some (sym there)) in
    let same : can.other ≡ settled_view other = same_Some can.other (settled_view other) (sym can.there ∙ here) in
    let joined : i.keys.items ≡ first ++ can.own = can.keys ∙ ap (λ (s : SettledSession). keys_before at s.keys ++ can.own) same ∙ ap (λ (ks : List Key). ks ++ can.own) (sym before) in
    let own : drop (length first) i.keys.items ≡ can.own = ap (drop (length first)) joined ∙ drop_at first can.own (length first) refl in
    subst (λ (ks : List Key). IsInOrder at ks) (sym own) can.order

-- one of them
pub one-there : (P : SettledSession → Type 0) (is : List SettledInput) (n : ℕ) (x : SettledInput) → n < length is → x ≡ get_or is n x → ((place : ℕ) → IfSome (slice_get (map settled_view is) place) P) → P (settled_view x)
one-there P is n x within at all =
    subst (λ (o : Option SettledSession). IfSome o P) (slice_get-map settled_view is n ∙ ap (option_map settled_view) (slice_get-get_or is n x within ∙ ap Some (sym at))) (all n)
