-- What a host has left for sessions, and how they are judged by it.
use Rattle.std.proofs.Common.{◌≡◌, ◌∙◌, ◌<◌, ◌≤◌, ◌+◌, ◌||◌, ◌==◌, ◌⊎◌, ⊎_elim, inl, inr, ℕ, zero, suc, Bool, true, false, if◌then◌else◌, nat_le, nat_lt, List, [], ◌∷◌, ◌++◌, Option, Some, None, drop, take, length, map, get_or, slice_get, sum_by, refl, sym, subst, ap, arith}
use Rattle.std.specs.Prelude.{Vec, not, option_map}
use Rattle.std.specs.declared.alloc.Global.{Global}
use Rattle.std.proofs.lemmas.Bool.Decides.{nat_tests}
use Rattle.std.proofs.lemmas.List.{drop_more, length-append, take_all}
use Rattle.std.proofs.lemmas.List.Sums.{sum_by-append, sum_by-cons}
use Rattle.std.proofs.lemmas.Option.{slice_get-get_or, slice_get-map}
use Rattle.cpm_batch.specs.Inputs.{Forks, Opens, Restores, SessionInput, StartInput, given, start_view}
use Rattle.cpm_batch.specs.Savings.{saving_view}
use Rattle.cpm_batch.specs.declared.input.Input.{Input}
use Rattle.cpm_batch.specs.declared.input.Start.{Start}
use Rattle.cpm_batch.specs.declared.input.Start.TheVariants as start
use Rattle.cpm_flags.specs.declared.regs.Cpu.{Cpu}
use Rattle.cpm_geom.specs.Disk.{Disk}
use Rattle.cpm_machine.specs.MachineState.{MachineState}
use Rattle.cpm_machine.specs.Opening.{fault_else, opening_fault}
use Rattle.cpm_machine.specs.Saving.{Saving}
use Rattle.cpm_machine.specs.SystemDigest.{system_digest}
use Rattle.cpm_machine.specs.declared.opening.OpenError.{OpenError}
use Rattle.cpm_machine.specs.declared.opening.OpenError.TheVariants.{NoFrames, NoSlot}
use Rattle.cpm_machine.specs.declared.opening.Opening.{Opening}
use Rattle.cpm_play.specs.Players.{HasRoomForForks}
use Rattle.cpm_slots.specs.Host.{Host, SlotState, are_same, new_host, opened_slot, quotas_of, refusal_of, room_fault, with_added, with_opened}
use Rattle.cpm_run.specs.Openings.{HasOpenedAll, IsForkedIn, IsNotForkedIn, IsNotOpenedBy, IsNotOpenedIn, IsNotRestoredBy, IsOpenedIn, IsRoomAfter, IsRoomFault, IsRoomLeft, IsSavedOver, quota_read}
use Rattle.cpm_run.specs.Run.{AllAccepted, HasForkRoom, IsFirstRefused, IsFirstShort, IsShortFor, fork_of, forks_before, forks_in, pages_before, pages_by, restoring_fault, starts_read}
use Rattle.cpm_run.specs.Settled.{opening_of}
use Rattle.cpm_run.specs.declared.error.StartFault.{StartFault}
use Rattle.cpm_run.specs.declared.error.StartFault.TheVariants.{Elsewhere, Unopened}
use Rattle.cpm_run.specs.declared.openings.Room.{Room}

-- ---- one that is opened

room_by : (slots openings frames used quota : ℕ) → Option OpenError
room_by slots openings frames used quota =
    if nat_le 64 slots || openings == 18446744073709551615 then Some NoSlot else if nat_lt frames (used + quota) then Some NoFrames else None

none_by : (slots openings frames used quota : ℕ) → slots < 64 → openings ≡ slots → used + quota ≤ frames → room_by slots openings frames used quota ≡ None
unfolding room_by
none_by slots openings frames used quota few numbers fits =
    let a : nat_le 64 slots ≡ false = grind (arith, nat_tests) in
    let b : (openings == 18446744073709551615) ≡ false = grind (arith, nat_tests) in
    let c : nat_lt frames (used + quota) ≡ false = grind (arith, nat_tests) in
    rw (a, b, c) refl

slot_by : (slots openings frames used quota : ℕ) → 64 ≤ slots → room_by slots openings frames used quota ≡ Some NoSlot
unfolding room_by
slot_by slots openings frames used quota many =
    let a : nat_le 64 slots ≡ true = grind (arith, nat_tests) in
    rw a refl

frames_by : (slots openings frames used quota : ℕ) → slots < 64 → openings ≡ slots → frames < used + quota → room_by slots openings frames used quota ≡ Some NoFrames
unfolding room_by
frames_by slots openings frames used quota few numbers over =
    let a : nat_le 64 slots ≡ false = grind (arith, nat_tests) in
    let b : (openings == 18446744073709551615) ≡ false = grind (arith, nat_tests) in
    let c : nat_lt frames (used + quota) ≡ true = grind (arith, nat_tests) in
    rw (a, b, c) refl

fault_is : (h : Host) (quota : ℕ) → room_fault h quota ≡ room_by (length h.slots) h.openings h.frames (quotas_of h.slots) quota
unfolding room_by
fault_is h quota = refl

has_room : (h : Host) (quota : ℕ) (room next : Room) → IsRoomLeft h 0 0 room → IsRoomAfter room quota next → room_fault h quota ≡ None
has_room h quota room next left after =
    let a = left.slots in
    let b = left.frames in
    let x = after.slots in
    let y = after.frames in
    fault_is h quota ∙ none_by (length h.slots) h.openings h.frames (quotas_of h.slots) quota (omega (arith, a, x)) left.numbers (omega (arith, b, y))

lacks_room : (h : Host) (quota : ℕ) (room : Room) (e : OpenError) → IsRoomLeft h 0 0 room → IsRoomFault room quota e → room_fault h quota ≡ Some e
lacks_room h quota room NoSlot left lacks =
    let a = left.slots in
    fault_is h quota ∙ slot_by (length h.slots) h.openings h.frames (quotas_of h.slots) quota (omega (arith, a, lacks))
lacks_room h quota room NoFrames left lacks =
    let a = left.slots in
    let b = left.frames in
    let x = lacks.0 in
    let y = lacks.1 in
    fault_is h quota ∙ frames_by (length h.slots) h.openings h.frames (quotas_of h.slots) quota (omega (arith, a, x)) left.numbers (omega (arith, b, y))
lacks_room h quota room _ left lacks = absurd lacks

opening_by : Cpu → ℕ → Vec Disk Global → Opening
opening_by cpu quota drives = record { cpu = cpu; quota = quota; drives = drives }

accepted_by : (h : Host) (o : Opening) → opening_fault o ≡ None → room_fault h o.quota ≡ None → refusal_of h o ≡ None
accepted_by h o none room = ap (λ (f : Option OpenError). fault_else f (room_fault h o.quota)) none ∙ room

refused_by : (h : Host) (o : Opening) (room : Room) (e : OpenError) → IsRoomLeft h 0 0 room → (opening_fault o ≡ Some e) ⊎ ((opening_fault o ≡ None) × IsRoomFault room o.quota e) → refusal_of h o ≡ Some e
refused_by h o room e left r =
    ⊎_elim (λ fault. ap (λ (f : Option OpenError). fault_else f (room_fault h o.quota)) fault)
    (λ lacks. ap (λ (f : Option OpenError). fault_else f (room_fault h o.quota)) lacks.0 ∙ lacks_room h o.quota room e left lacks.1) r

-- the fault of one that is opened so
not_opened_by : (h : Host) (o : Opening) (room : Room) (e : StartFault) → IsRoomLeft h 0 0 room → IsNotOpenedBy room o.quota (length o.drives.items) e → option_map Unopened (refusal_of h o) ≡ Some e
not_opened_by h o room (Unopened e) left r = ap (option_map Unopened) (refused_by h o room e left r)
not_opened_by h o room Elsewhere left r = absurd r

-- one that goes on from a saving
restored_by : (h : Host) (x : Saving) → IsSavedOver h.system x → room_fault h x.state.quota ≡ None → restoring_fault h x ≡ None
restored_by h x over none =
    let P : Bool → Type 0 = λ b. (if not b then Some Elsewhere else option_map Unopened (room_fault h x.state.quota)) ≡ None in
    subst P (sym over) (ap (option_map Unopened) none)

not_restored_by : (h : Host) (x : Saving) (room : Room) (e : StartFault) → IsRoomLeft h 0 0 room → IsNotRestoredBy h.system room x e → restoring_fault h x ≡ Some e
not_restored_by h x room (Unopened e) left r =
    let P : Bool → Type 0 = λ b. (if not b then Some Elsewhere else option_map Unopened (room_fault h x.state.quota)) ≡ Some (Unopened e) in
    subst P (sym r.0) (ap (option_map Unopened) (lacks_room h x.state.quota room e left r.1))
not_restored_by h x room Elsewhere left r =
    let P : Bool → Type 0 = λ b. (if not b then Some Elsewhere else option_map Unopened (room_fault h x.state.quota)) ≡ Some Elsewhere in
    subst P (sym r) refl

left_added : (h : Host) (s : MachineState) (room next : Room) → IsRoomLeft h 0 0 room → IsRoomAfter room s.quota next → IsRoomLeft (with_added h s) 0 0 next
left_added h s room next left after =
    let new : SlotState = record { id = h.openings; state = s } in
    let longer = length-append h.slots (new ∷ []) in
    let more = sum_by-append (λ (x : SlotState). x.state.quota) h.slots (new ∷ []) in
    let one = sum_by-cons (λ (x : SlotState). x.state.quota) new [] in
    let a = left.slots in
    let b = left.frames in
    let n = left.numbers in
    let x = after.slots in
    let y = after.frames in
    record { slots = omega (arith, longer, a, x); frames = omega (arith, more, one, b, y); numbers = omega (arith, longer, n) }

-- ---- one after another

-- those before a place are open in a host, which has so much left for the rest; what holds of all is kept
pub record IsOpenedTo (all : List StartInput) (first : Host) (place : ℕ) (rest : List StartInput) (room : Room) : Type 0 where
  pub host : Host
  pub left : IsRoomLeft host 0 0 room
  pub system : host.system ≡ first.system
  pub accepts : AllAccepted all host rest → AllAccepted all first all
  pub refuses : (fault : StartFault) (at : ℕ) → IsFirstRefused all host place rest fault at → IsFirstRefused all first 0 all fault at

pub opened_first : (all : List StartInput) (system : Disk) (room : Room) (frames : ℕ) → room.slots ≡ 64 → room.frames ≡ frames → IsOpenedTo all (new_host system frames) 0 all room
opened_first all system room frames slots same = record {
  host = new_host system frames;
  left = record { slots = omega (arith, slots); frames = omega (arith, same); numbers = refl };
  system = refl;
  accepts = λ a. a;
  refuses = λ fault at r. r;
}

module _ (all : List StartInput) (first : Host) (place : ℕ) (rest later : List StartInput) where
  pub opened_more : (b : Start) (room next : Room) → rest ≡ start_view b ∷ later → IsOpenedIn first.system room (start_view b) next → IsOpenedTo all first place rest room → IsOpenedTo all first (place + 1) later next
  unfolding opening_by
  opened_more (start.Opened cpu quota drives) room next is opened t =
      let o = opening_by cpu quota drives in
      let none = accepted_by t.host o opened.0 (has_room t.host quota room next t.left opened.1) in
      record {
        host = with_opened t.host o;
        left = left_added t.host (opened_slot o) room next t.left opened.1;
        system = t.system;
        accepts = λ a. t.accepts (subst (λ (bs : List StartInput). AllAccepted all t.host bs) (sym is) (o, record { cpu = refl; quota = refl; drives = refl }, none, a));
        refuses = λ fault at r. t.refuses fault at (subst (λ (bs : List StartInput). IsFirstRefused all t.host place bs fault at) (sym is) (o, record { cpu = refl; quota = refl; drives = refl }, inr (none, r)));
      }
  opened_more (start.Forked parent at) room next is opened t = record {
    host = t.host;
    left = subst (IsRoomLeft t.host 0 0) (sym opened) t.left;
    system = t.system;
    accepts = λ a. t.accepts (subst (λ (bs : List StartInput). AllAccepted all t.host bs) (sym is) a);
    refuses = λ fault at r. t.refuses fault at (subst (λ (bs : List StartInput). IsFirstRefused all t.host place bs fault at) (sym is) r);
  }
  opened_more (start.Restored saved) room next is opened t =
      let x = saving_view saved in
      let over = subst (λ (d : Disk). IsSavedOver d x) (sym t.system) opened.0 in
      let none = restored_by t.host x over (has_room t.host x.state.quota room next t.left opened.1) in
      record {
        host = with_added t.host x.state;
        left = left_added t.host x.state room next t.left opened.1;
        system = t.system;
        accepts = λ a. t.accepts (subst (λ (bs : List StartInput). AllAccepted all t.host bs) (sym is) (none, a));
        refuses = λ fault at r. t.refuses fault at (subst (λ (bs : List StartInput). IsFirstRefused all t.host place bs fault at) (sym is) (inr (none, r)));
      }

  pub not_opened : (b : Start) (room : Room) (e : StartFault) → rest ≡ start_view b ∷ later → IsNotOpenedIn first.system room (start_view b) e → IsOpenedTo all first place rest room → IsFirstRefused all first 0 all e place
  unfolding opening_by
  not_opened (start.Opened cpu quota drives) room e is refused t =
      let o = opening_by cpu quota drives in
      t.refuses e place (subst (λ (bs : List StartInput). IsFirstRefused all t.host place bs e place) (sym is)
      (o, record { cpu = refl; quota = refl; drives = refl }, inl (not_opened_by t.host o room e t.left refused, refl)))
  not_opened (start.Forked parent at) room e is refused t = absurd refused
  not_opened (start.Restored saved) room e is refused t =
      let x = saving_view saved in
      let there = subst (λ (d : Disk). IsNotRestoredBy d room x e) (sym t.system) refused in
      t.refuses e place (subst (λ (bs : List StartInput). IsFirstRefused all t.host place bs e place) (sym is) (inl (not_restored_by t.host x room e t.left there, refl)))

pub opened_all : (all : List StartInput) (first : Host) (place : ℕ) (rest : List StartInput) (room : Room) → rest ≡ [] → IsOpenedTo all first place rest room → HasOpenedAll all first room
opened_all all first place rest room none t = record {
  host = t.host;
  left = t.left;
  accepts = λ r. t.accepts (subst (λ (bs : List StartInput). AllAccepted all t.host bs) (sym none) r);
  refuses = λ fault at r. t.refuses (Unopened fault) at (subst (λ (bs : List StartInput). IsFirstRefused all t.host place bs (Unopened fault) at) (sym none) r);
}

-- ---- those that are forked

sum_one : (f : StartInput → ℕ) (starts : List StartInput) (place : ℕ) (b : StartInput) → slice_get starts place ≡ Some b → sum_by f (take (place + 1) starts) ≡ sum_by f (take place starts) + f b
sum_one f [] place b there = absurd (cc)
sum_one f (x ∷ starts) zero b there =
    let same : x ≡ b = cc in
    let one = sum_by-cons f x [] in
    let is = ap f same in
    omega (arith, one, is)
sum_one f (x ∷ starts) (suc place) b there =
    let more = sum_one f starts place b there in
    let next : suc place + 1 ≡ suc (place + 1) = omega arith in
    let long = ap (λ (n : ℕ). sum_by f (take n (x ∷ starts))) next in
    let one = sum_by-cons f x (take (place + 1) starts) in
    let two = sum_by-cons f x (take place starts) in
    omega (arith, more, long, one, two)

room_for : (h : Host) (forks pages : ℕ) (room : Room) → IsRoomLeft h forks pages room → HasRoomForForks h forks pages
room_for h forks pages room left =
    let a = left.slots in
    let b = left.frames in
    let n = left.numbers in
    record { slots = omega (arith, a); numbers = λ any. omega (arith, a, n); frames = omega (arith, b) }

-- after those before a place so much is left
abbrev pub IsForkedTo : List StartInput → Host → (place : ℕ) → Room → Type 0
IsForkedTo all h place room = IsRoomLeft h (forks_before all place) (pages_before all place) room

pub forked_more : (all : List StartInput) (h : Host) (place : ℕ) (b : StartInput) (room next : Room) → slice_get all place ≡ Some b → IsForkedIn all room b next → IsForkedTo all h place room
    → IsForkedTo all h (place + 1) next
forked_more all h place (Opens cpu quota drives) room next there forked left =
    let forks = sum_one fork_of all place (Opens cpu quota drives) there in
    let pages = sum_one (pages_by all) all place (Opens cpu quota drives) there in
    let a = left.slots in
    let b = left.frames in
    let s = ap (λ (r : Room). r.slots) forked in
    let f = ap (λ (r : Room). r.frames) forked in
    record { slots = omega (arith, forks, a, s); frames = omega (arith, pages, b, f); numbers = left.numbers }
forked_more all h place (Forks parent at) room next there forked left =
    let forks = sum_one fork_of all place (Forks parent at) there in
    let pages = sum_one (pages_by all) all place (Forks parent at) there in
    let a = left.slots in
    let b = left.frames in
    let s = forked.slots in
    let f = forked.frames in
    record { slots = omega (arith, forks, a, s); frames = omega (arith, pages, b, f); numbers = left.numbers }
forked_more all h place (Restores y) room next there forked left =
    let forks = sum_one fork_of all place (Restores y) there in
    let pages = sum_one (pages_by all) all place (Restores y) there in
    let a = left.slots in
    let b = left.frames in
    let s = ap (λ (r : Room). r.slots) forked in
    let f = ap (λ (r : Room). r.frames) forked in
    record { slots = omega (arith, forks, a, s); frames = omega (arith, pages, b, f); numbers = left.numbers }

short_for : (h : Host) (forks pages quota : ℕ) (room : Room) (e : OpenError) → IsRoomLeft h forks pages room → IsRoomFault room quota e → IsShortFor h (forks + 1) (pages + quota) e
short_for h forks pages quota room NoSlot left lacks = let a = left.slots in inl (omega (arith, a, lacks))
short_for h forks pages quota room NoFrames left lacks =
    let b = left.frames in
    let y = lacks.1 in
    omega (arith, b, y)
short_for h forks pages quota room _ left lacks = absurd lacks

slots_for : (h : Host) (forks pages quota : ℕ) (room : Room) (e : OpenError) → IsRoomLeft h forks pages room → IsRoomFault room quota e → e ≡ NoFrames → length h.slots + (forks + 1) ≤ 64
slots_for h forks pages quota room NoFrames left lacks this =
    let a = left.slots in
    let x = lacks.0 in
    omega (arith, a, x)
slots_for h forks pages quota room _ left lacks this = absurd (cc)

pub not_forked : (all : List StartInput) (h : Host) (place : ℕ) (b : StartInput) (room : Room) (e : OpenError) → slice_get all place ≡ Some b → IsNotForkedIn all room b e → IsForkedTo all h place room
    → IsFirstShort all h e place
not_forked all h place (Opens cpu quota drives) room e there refused left = absurd refused
not_forked all h place (Forks parent at) room e there refused left =
    let forks = sum_one fork_of all place (Forks parent at) there in
    let pages = sum_one (pages_by all) all place (Forks parent at) there in
    record {
      fork = record { parent = parent; at = at; there = there };
      before = room_for h (forks_before all place) (pages_before all place) room left;
      short = subst (λ (n : ℕ). IsShortFor h n (pages_before all (place + 1)) e) (sym forks)
          (subst (λ (n : ℕ). IsShortFor h (forks_before all place + 1) n e) (sym pages) (short_for h (forks_before all place) (pages_before all place) _ room e left refused));
      order = λ this. subst (λ (n : ℕ). length h.slots + n ≤ 64) (sym forks) (slots_for h (forks_before all place) (pages_before all place) _ room e left refused this);
    }
not_forked all h place (Restores y) room e there refused left = absurd refused

pub forked_all : (all : List StartInput) (h : Host) (place : ℕ) (room : Room) → length all ≤ place → IsForkedTo all h place room → HasForkRoom all h
forked_all all h place room past left =
    subst (λ (bs : List StartInput). HasRoomForForks h (forks_in bs) (sum_by (pages_by all) bs)) (take_all place all past)
    (room_for h (forks_before all place) (pages_before all place) room left)

-- ---- as they were read

pub start_there : (inputs : List Input) (place : ℕ) (i : Input) → place < length inputs → i ≡ get_or inputs place i → slice_get (starts_read (map given inputs)) place ≡ Some (start_view i.start)
start_there inputs place i within is =
    slice_get-map (λ (x : SessionInput). x.start) (map given inputs) place
    ∙ ap (option_map (λ (x : SessionInput). x.start)) (slice_get-map given inputs place
    ∙ ap (option_map given) (slice_get-get_or inputs place i within ∙ ap (λ (x : Input). Some x) (sym is)))

pub start_next : (inputs : List Input) (place : ℕ) (i : Input) → place < length inputs → i ≡ get_or inputs place i
    → starts_read (map given (drop place inputs)) ≡ start_view i.start ∷ starts_read (map given (drop (place + 1) inputs))
start_next inputs place i within is =
    ap (λ (xs : List Input). starts_read (map given xs)) (drop_more inputs place i within ∙ ap (λ (x : Input). x ∷ drop (place + 1) inputs) (sym is))

pub quota_there : (inputs : List Input) (place : ℕ) (i : Input) → place < length inputs → i ≡ get_or inputs place i
    → (opening_of (start_view i.start)).quota ≡ quota_read (slice_get (starts_read (map given inputs)) place)
quota_there inputs place i within is = sym (ap quota_read (start_there inputs place i within is))
