-- Each slot stands alone by its life, a fork parts two lives, and a restoring goes on with one.
use Rattle.std.proofs.Common.{◌≡◌, ℕ, ◌+◌, ◌<◌, ◌≤◌, true, false, ◌==◌, List, [], ◌∷◌, ◌++◌, map, Option, Some, None, Ok, Err, refl, sym, ap, ◌∙◌, arith, ⊎_elim, subst}
use Rattle.std.specs.Prelude.{Result}
use Rattle.std.proofs.lemmas.Bool.Decides.{nat_tests}
use Rattle.std.proofs.lemmas.Bool.{cases_lt, eqb-true}
use Rattle.cpm_geom.specs.Disk.{Disk}
use Rattle.cpm_saved.specs.declared.part.SavingDamage.{SavingDamage}
use Rattle.cpm_machine.specs.MachineState.{MachineState}
use Rattle.cpm_machine.specs.Saving.{Saving, restored}
use Rattle.cpm_machine.specs.Calls.{no_account}
use Rattle.cpm_machine.specs.declared.opening.OpenError.{OpenError}
use Rattle.cpm_machine.specs.declared.opening.Opening.{Opening}
use Rattle.cpm_slots.specs.declared.event.ForkError.{ForkError}
use Rattle.cpm_slots.specs.declared.event.HostRestoreError.{HostRestoreError}
use Rattle.cpm_slots.specs.declared.event.Reply.{Reply}
use Rattle.cpm_slots.specs.Serving.{Ask, serve_slot}
use Rattle.cpm_slots.specs.Account.{account_by, slot_after, replies_of, IsRunAlone}
use Rattle.cpm_slots.specs.Host.{Host, Happening, Opens, Forks, Restores, Asks, new_host, opened_slot, refusal_of, opened_if, fork_fault, forked_if, with_forked, restore_fault, restored_if, with_added, slot_at, reply_at, after_ask, after_one, host_after, own, AllBelow, IsHost}
use Rattle.cpm_slots.specs.Lives.{Life, NamedLife, life_of, with_life, lived_on, lived_by, begun_if, parted_if, continued_if, lives_by, lives}
use Rattle.cpm_slots.specs.Laws.{HasLived, ComesFrom, AllComeFrom, GoesOn, PartsSlot}
use Rattle.cpm_slots.proofs.SlotLaws.{open-below, slot_at-new, slot_at-same, AllBelow-added, AllBelow-with}
use Rattle.cpm_slots.proofs.EventLaws.{apart, added-slot, slot-after, told-after, slot_after-append, replies_of-append}
use Rattle.cpm_slots.proofs.AccountLaws.{alone-asked}

-- ---- the lives by their numbers

life_of-new : (n : ℕ) (life : Life) (xs : List NamedLife) → life_of n xs ≡ None → life_of n (xs ++ record { id = n; life = life } ∷ []) ≡ Some life
life_of-new n life [] h = grind (arith, nat_tests)
life_of-new n life (x ∷ xs) h = grind (arith, nat_tests, life_of-new n life xs)

life_of-added : (id n : ℕ) (life : Life) (xs : List NamedLife) → (n == id) ≡ false → life_of id (xs ++ record { id = n; life = life } ∷ []) ≡ life_of id xs
life_of-added id n life [] h = rw h refl
life_of-added id n life (x ∷ xs) h = grind (arith, nat_tests, life_of-added id n life xs h)

life_of-other : (id named : ℕ) (ask : Ask) (reply : Reply) (xs : List NamedLife) → (named == id) ≡ false → life_of id (map (lived_by named ask reply) xs) ≡ life_of id xs
life_of-other id named ask reply [] h = refl
life_of-other id named ask reply (x ∷ xs) h = grind (arith, nat_tests, life_of-other id named ask reply xs h)

life_of-asked : (id : ℕ) (ask : Ask) (reply : Reply) (life : Life) (xs : List NamedLife) → life_of id xs ≡ Some life → life_of id (map (lived_by id ask reply) xs) ≡ Some (lived_on life ask reply)
life_of-asked id ask reply life [] h = cc
life_of-asked id ask reply life (x ∷ xs) h = grind (arith, nat_tests, life_of-asked id ask reply life xs)

life_of-none : (id named : ℕ) (ask : Ask) (reply : Reply) (xs : List NamedLife) → life_of id xs ≡ None → life_of id (map (lived_by named ask reply) xs) ≡ None
life_of-none id named ask reply [] h = refl
life_of-none id named ask reply (x ∷ xs) h = grind (arith, nat_tests, life_of-none id named ask reply xs)

-- ---- what was lived, and what is now

-- a slot is what its life leaves of its opening, and its life has the replies
record IsLeft (system : Disk) (all : List NamedLife) (id : ℕ) (now : Option MachineState) : Type 0 where
  life : Life
  named : life_of id all ≡ Some life
  state : now ≡ slot_after system life.asks (Some (opened_slot life.opening))
  replied : life.replies ≡ replies_of system life.asks (Some (opened_slot life.opening))

-- each slot that was ever added is so, and no other number has a life
record HaveLived (system : Disk) (h : Host) (all : List NamedLife) : Type 0 where
  drive : h.system ≡ system
  below : AllBelow h.openings h.slots
  others : (id : ℕ) → h.openings ≤ id → life_of id all ≡ None
  each : (id : ℕ) → id < h.openings → IsLeft system all id (slot_at id h.slots)

left-same : (system : Disk) (all more : List NamedLife) (id : ℕ) (now next : Option MachineState) → life_of id more ≡ life_of id all → next ≡ now → IsLeft system all id now → IsLeft system more id next
left-same system all more id now next e f k = record { life = k.life; named = e ∙ k.named; state = f ∙ k.state; replied = k.replied }

-- ---- a slot that is added, with a life that leaves it

left-added : (system : Disk) (h : Host) (all : List NamedLife) (s : MachineState) (life : Life) (id : ℕ) → HaveLived system h all → Some s ≡ slot_after system life.asks (Some (opened_slot life.opening)) → life.replies ≡ replies_of system life.asks (Some (opened_slot life.opening)) → id < h.openings + 1 →
    IsLeft system (with_life h.openings (Some life) all) id (slot_at id (with_added h s).slots)
left-added system h all s life id k state replied l =
    ⊎_elim
    (λ (g : id < h.openings). left-same system all (with_life h.openings (Some life) all) id (slot_at id h.slots) (slot_at id (with_added h s).slots) (life_of-added id h.openings life all (grind (arith, nat_tests))) (added-slot id h s g) (k.each id g))
    (λ g. let new : h.openings ≡ id = omega arith in subst (λ i. IsLeft system (with_life h.openings (Some life) all) i (slot_at i (with_added h s).slots)) new (record {
      life = life;
      named = life_of-new h.openings life all (k.others h.openings (omega arith));
      state = slot_at-new h.openings s h.slots k.below ∙ state;
      replied = replied;
    }))
    (cases_lt id h.openings)

lived-added : (system : Disk) (h : Host) (all : List NamedLife) (s : MachineState) (life : Life) → HaveLived system h all → Some s ≡ slot_after system life.asks (Some (opened_slot life.opening)) → life.replies ≡ replies_of system life.asks (Some (opened_slot life.opening)) →
    HaveLived system (with_added h s) (with_life h.openings (Some life) all)
lived-added system h all s life k state replied = record {
  drive = k.drive;
  below = AllBelow-added h.openings s h.slots k.below;
  others = λ id past. life_of-added id h.openings life all (grind (arith, nat_tests)) ∙ k.others id (omega arith);
  each = λ id l. left-added system h all s life id k state replied l;
}

lived-opened : (system : Disk) (h : Host) (all : List NamedLife) (o : Opening) (r : Option OpenError) → HaveLived system h all → HaveLived system (opened_if r h o) (begun_if r h o all)
lived-opened system h all o None k = lived-added system h all (opened_slot o) (record { opening = o; asks = []; replies = [] }) k refl refl
lived-opened system h all o (Some fault) k = k

-- the slot that is forked is open, so it was added, and has a life
lived-parted : (system : Disk) (h : Host) (all : List NamedLife) (id : ℕ) (s : MachineState) → HaveLived system h all → slot_at id h.slots ≡ Some s → HaveLived system (with_added h s) (with_life h.openings (life_of id all) all)
lived-parted system h all id s k at =
    let left = k.each id (open-below h.openings id s h.slots k.below at) in
    subst (λ o. HaveLived system (with_added h s) (with_life h.openings o all)) (sym left.named) (lived-added system h all s left.life k (sym at ∙ left.state) left.replied)

lived-forked : (system : Disk) (h : Host) (all : List NamedLife) (id : ℕ) (o : Option MachineState) (r : Option ForkError) → slot_at id h.slots ≡ o → fork_fault h o ≡ r → HaveLived system h all → HaveLived system (forked_if r h id) (parted_if r h id all)
lived-forked system h all id o (Some fault) at e k = k
lived-forked system h all id None None at e k = cc
lived-forked system h all id (Some s) None at e k = subst (λ x. HaveLived system (with_forked h x) (with_life h.openings (life_of id all) all)) (sym at) (lived-parted system h all id s k at)

-- the state of a saving is left by the life that it comes from
lived-restored : (system : Disk) (h : Host) (all : List NamedLife) (life : Life) (read : Result Saving SavingDamage) (r : Option HostRestoreError) → restore_fault h read ≡ r → ComesFrom system life read → HaveLived system h all → HaveLived system (restored_if r h read) (continued_if r h life all)
lived-restored system h all life read (Some fault) e from k = k
lived-restored system h all life (Err damage) None e from k = cc
lived-restored system h all life (Ok x) None e from k = lived-added system h all x.state life k from.left from.replied

-- ---- what is asked of a slot goes on its life

left-asked : (system : Disk) (h : Host) (all : List NamedLife) (id : ℕ) (ask : Ask) → h.system ≡ system → IsLeft system all id (slot_at id h.slots) → IsLeft system (map (lived_by id ask (reply_at h id ask)) all) id (slot_at id (after_ask h id ask).slots)
left-asked system h all id ask drive k =
    let life = k.life in
    let start = Some (opened_slot life.opening) in
    let now = slot_after system life.asks start in
    let served : serve_slot h.system ask (slot_at id h.slots) ≡ serve_slot system ask now = ap (λ d. serve_slot d ask (slot_at id h.slots)) drive ∙ ap (serve_slot system ask) k.state in
    record {
      life = lived_on life ask (reply_at h id ask);
      named = life_of-asked id ask (reply_at h id ask) life all k.named;
      state = slot_at-same id ask h.system h.slots (slot_at id h.slots) refl ∙ ap (λ r. r.slot) served ∙ sym (slot_after-append system life.asks (ask ∷ []) start);
      replied =
          ap (λ rs. rs ++ reply_at h id ask ∷ []) k.replied
          ∙ ap (λ r. replies_of system life.asks start ++ r.reply ∷ []) served
          ∙ sym (replies_of-append system life.asks (ask ∷ []) start);
    }

left-one : (system : Disk) (h : Host) (all : List NamedLife) (id named : ℕ) (ask : Ask) → HaveLived system h all → id < h.openings → IsLeft system (map (lived_by named ask (reply_at h named ask)) all) id (slot_at id (after_ask h named ask).slots)
left-one system h all id named ask k l =
    elim (named == id) as (λ b. (named == id) ≡ b → IsLeft system (map (lived_by named ask (reply_at h named ask)) all) id (slot_at id (after_ask h named ask).slots)) [
      | true ↦ (λ e. subst (λ i. IsLeft system (map (lived_by i ask (reply_at h i ask)) all) id (slot_at id (after_ask h i ask).slots)) (sym (eqb-true named id e)) (left-asked system h all id ask k.drive (k.each id l)))
      | false ↦ (λ e. left-same system all (map (lived_by named ask (reply_at h named ask)) all) id (slot_at id h.slots) (slot_at id (after_ask h named ask).slots) (life_of-other id named ask (reply_at h named ask) all e) (apart h named id ask (grind (arith, nat_tests))) (k.each id l))
    ] refl

lived-asked : (system : Disk) (h : Host) (all : List NamedLife) (named : ℕ) (ask : Ask) → HaveLived system h all → HaveLived system (after_ask h named ask) (map (lived_by named ask (reply_at h named ask)) all)
lived-asked system h all named ask k = record {
  drive = k.drive;
  below = AllBelow-with h.openings named (serve_slot h.system ask (slot_at named h.slots)).slot h.slots k.below;
  others = λ id past. life_of-none id named ask (reply_at h named ask) all (k.others id past);
  each = λ id l. left-one system h all id named ask k l;
}

-- ---- after all that happened

lived-after : (system : Disk) (origin : List ℕ → Life) (events : List Happening) (h : Host) (all : List NamedLife) → AllComeFrom system origin events → HaveLived system h all → HaveLived system (host_after events h) (lives origin events h all)
lived-after system origin [] h all from k = k
lived-after system origin (Opens o ∷ xs) h all from k =
    lived-after system origin xs (after_one h (Opens o)) (lives_by origin h (Opens o) all) from (lived-opened system h all o (refusal_of h o) k)
lived-after system origin (Forks id ∷ xs) h all from k =
    lived-after system origin xs (after_one h (Forks id)) (lives_by origin h (Forks id) all) from
    (lived-forked system h all id (slot_at id h.slots) (fork_fault h (slot_at id h.slots)) refl refl k)
lived-after system origin (Restores bytes ∷ xs) h all from k =
    lived-after system origin xs (after_one h (Restores bytes)) (lives_by origin h (Restores bytes) all) from.1
    (lived-restored system h all (origin bytes) (restored bytes) (restore_fault h (restored bytes)) refl from.0 k)
lived-after system origin (Asks id ask ∷ xs) h all from k =
    lived-after system origin xs (after_one h (Asks id ask)) (lives_by origin h (Asks id ask) all) from (lived-asked system h all id ask k)

-- so it stands alone by it
left-alone : (system : Disk) (all : List NamedLife) (id : ℕ) (now : Option MachineState) → IsLeft system all id now → HasLived system all id now
left-alone system all id now k =
    let life = k.life in
    let start = opened_slot life.opening in
    let alone : IsRunAlone system start (account_by no_account life.asks life.replies) now =
    subst (λ rs. IsRunAlone system start (account_by no_account life.asks rs) now) (sym k.replied)
    (subst (IsRunAlone system start (account_by no_account life.asks (replies_of system life.asks (Some start)))) (sym k.state) (alone-asked system life.asks start)) in
    record { life = life; named = k.named; stands = record { replied = k.replied; left = k.state; state = alone } }

pub each-alone : (system : Disk) (frames : ℕ) (events : List Happening) (origin : List ℕ → Life) (id : ℕ) →
    let h = new_host system frames in
    AllComeFrom system origin events → id < (host_after events h).openings → HasLived system (lives origin events h []) id (slot_at id (host_after events h).slots)
each-alone system frames events origin id from l =
    let h = new_host system frames in
    let lived = lived-after system origin events h [] from (record { drive = refl; below = tt; others = λ i past. refl; each = λ i none. absurd (omega arith) }) in
    left-alone system (lives origin events h []) id (slot_at id (host_after events h).slots) (lived.each id l)

-- ---- a fork

-- an open slot goes on by its own events
goes-on : (h : Host) (events : List Happening) (id : ℕ) (s : MachineState) → id < h.openings → slot_at id h.slots ≡ Some s → GoesOn h events id s
goes-on h events id s below at = record {
  state = slot-after id events h below ∙ ap (slot_after h.system (own id events)) at;
  replied = told-after id events h below ∙ ap (replies_of h.system (own id events)) at;
}

forked-host : (h : Host) (id : ℕ) (s : MachineState) → slot_at id h.slots ≡ Some s → fork_fault h (Some s) ≡ None → after_one h (Forks id) ≡ with_added h s
forked-host h id s at e =
    ap (λ o. forked_if (fork_fault h o) h id) at ∙ ap (λ r. forked_if r h id) e ∙ ap (with_forked h) at

pub parts : (h : Host) (id : ℕ) (s : MachineState) (events : List Happening) → IsHost h → slot_at id h.slots ≡ Some s → fork_fault h (Some s) ≡ None → PartsSlot h id s events
parts h id s events host at e =
    let added = with_added h s in
    let after = forked-host h id s at e in
    let child : slot_at h.openings added.slots ≡ Some s = slot_at-new h.openings s h.slots host.below in
    let below = open-below h.openings id s h.slots host.below at in
    let parent : slot_at id added.slots ≡ Some s = added-slot id h s below ∙ at in
    record {
      number = ap (λ (g : Host). g.openings) after;
      child = ap (λ (g : Host). slot_at h.openings g.slots) after ∙ child;
      others = λ other l. ap (λ (g : Host). slot_at other g.slots) after ∙ added-slot other h s l;
      child_goes = subst (λ g. GoesOn g events h.openings s) (sym after) (goes-on added events h.openings s (omega arith) child);
      parent_goes = subst (λ g. GoesOn g events id s) (sym after) (goes-on added events id s (omega arith) parent);
    }

pub no-parts : (h : Host) (id : ℕ) (fault : ForkError) → fork_fault h (slot_at id h.slots) ≡ Some fault → after_one h (Forks id) ≡ h
no-parts h id fault e = ap (λ r. forked_if r h id) e
