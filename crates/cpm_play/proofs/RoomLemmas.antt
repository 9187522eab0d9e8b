-- Keys that find room where they come.
use Rattle.std.proofs.Common.{◌≡◌, ℕ, zero, suc, ◌+◌, ◌<◌, ◌≤◌, ◌==◌, ◌&&◌, max, nat_lt, not, is_some, Bool, true, false, inl, inr, Some, List, [], ◌∷◌, ◌++◌, length, take, refl, sym, ap, ap₂, ◌∙◌, subst, arith, append-nil, if◌then◌else◌, slice_get, length-append}
use Rattle.std.proofs.lemmas.Bool.Decides.{nat_tests}
use Rattle.std.proofs.lemmas.List.{append_assoc, length_push}
use Rattle.std.proofs.lemmas.Option.{none-some, same_Some}
use Rattle.cpm_geom.specs.Disk.{Disk}
use Rattle.cpm_bdos.specs.Keys.{first_key}
use Rattle.cpm_bdos.specs.Waiting.{needs_key}
use Rattle.cpm_script.specs.declared.cue.Cue.{Cue}
use Rattle.cpm_script.specs.declared.cue.Cue.TheVariants.{Key as Timed, Wait, Press as Pressing}
use Rattle.cpm_script.specs.declared.script.Key.{Key}
use Rattle.cpm_machine.specs.Alone.{Press, due, alone}
use Rattle.cpm_machine.specs.MachineState.{MachineState}
use Rattle.cpm_machine.specs.Serve.{look_of, takes_key}
use Rattle.cpm_machine.specs.declared.reply.Look.{Look}
use Rattle.cpm_machine.specs.Step.{after, is_running, step}
use Rattle.cpm_machine.proofs.KeyLaws.{keys_leave-step}
use Rattle.cpm_play.proofs.AloneLemmas.{after-pending}
use Rattle.cpm_play.specs.Cued.{IsCuedFrom}
use Rattle.cpm_play.specs.Laws.{FewKeysHaveRoom}
use Rattle.cpm_play.specs.Playing.{HaveRoom, HaveRoomAfter, alone_by, presses_of}

-- ---- how many keys are pending

-- how many keys have come after so many steps
abbrev came_by : ℕ → List Press → ℕ
came_by zero presses = length (due 0 presses)
came_by (suc n) presses = came_by n presses + length (due (suc n) presses)

-- one that comes at another count, and one of any count
due-other : (n : ℕ) (p : Press) (ps : List Press) → (p.after ≡ n → ⊥) → length (due n (p ∷ ps)) ≡ length (due n ps)
due-other n p ps other = by_test (p.after == n) refl
  where
    by_test : (b : Bool) → (p.after == n) ≡ b → length (if b then p.key ∷ due n ps else due n ps) ≡ length (due n ps)
    by_test true e = absurd (other (grind (arith, nat_tests)))
    by_test false e = refl

due-one : (n : ℕ) (p : Press) (ps : List Press) → length (due n (p ∷ ps)) ≤ length (due n ps) + 1
due-one n p ps = by_test (p.after == n)
  where
    by_test : (b : Bool) → length (if b then p.key ∷ due n ps else due n ps) ≤ length (due n ps) + 1
    by_test true = omega arith
    by_test false = omega arith

-- each comes once
came-later : (n : ℕ) (p : Press) (ps : List Press) → n < p.after → came_by n (p ∷ ps) ≡ came_by n ps
came-later zero p ps later = due-other 0 p ps (λ same. omega arith)
came-later (suc n) p ps later =
    let before = came-later n p ps (omega arith) in
    let last = due-other (suc n) p ps (λ same. omega arith) in
    omega arith

came-once : (n : ℕ) (p : Press) (ps : List Press) → came_by n (p ∷ ps) ≤ came_by n ps + 1
came-once zero p ps = due-one 0 p ps
came-once (suc n) p ps = by_test (p.after == suc n) refl (came-once n p ps)
  where
    by_test : (b : Bool) → (p.after == suc n) ≡ b → came_by n (p ∷ ps) ≤ came_by n ps + 1 → came_by (suc n) (p ∷ ps) ≤ came_by (suc n) ps + 1
    by_test true e before =
        let now : p.after ≡ suc n = grind (arith, nat_tests) in
        let none_before = came-later n p ps (omega arith) in
        let last = due-one (suc n) p ps in
        omega arith
    by_test false e before =
        let other : p.after ≡ suc n → ⊥ = λ same. (let no : ⊥ = grind (arith, nat_tests) in no) in
        let last = due-other (suc n) p ps other in
        omega arith

came-none : (n : ℕ) → came_by n [] ≡ 0
came-none zero = refl
came-none (suc n) = let before = came-none n in omega arith

came-within : (n : ℕ) (ps : List Press) → came_by n ps ≤ length ps
came-within n [] = let none = came-none n in omega arith
came-within n (p ∷ ps) = let rest = came-within n ps in let one = came-once n p ps in omega arith

-- no more are pending than those at the start and those that have come
alone-pending : (system : Disk) (presses : List Press) (n : ℕ) (start : MachineState) →
    length (alone system presses n start).session.console.keys ≤ length start.session.console.keys + came_by n presses
alone-pending system presses zero start = let more = length-append start.session.console.keys (due 0 presses) in omega arith
alone-pending system presses (suc n) start =
    let before = alone-pending system presses n start in
    let step_leaves = keys_leave-step system (alone system presses n start) in
    let more = length-append (step system (alone system presses n start)).session.console.keys (due (suc n) presses) in
    omega arith

presses-long : (keys : List Key) → length (presses_of keys) ≡ length keys
presses-long [] = refl
presses-long (k ∷ keys) = ap suc (presses-long keys)

-- ---- as many as may be

pub look-takes : (s : MachineState) (look : Look) → look ≡ look_of s → nat_lt look.keys 4096 ≡ takes_key s
unfolding look_of
look-takes s look is = ap (λ (l : Look). nat_lt l.keys 4096) is

-- where none finds room, none did some steps before, if no key came in between
pub full-before : (system : Disk) (n : ℕ) (s : MachineState) → takes_key (after system n s) ≡ false → takes_key s ≡ false
full-before system n s full =
    let left_it = after-pending system n s in
    let many : 4096 ≤ length (after system n s).session.console.keys = grind (arith, nat_tests) in
    let more : 4096 ≤ length s.session.console.keys = omega arith in
    grind (arith, nat_tests)

-- it waits only where none is pending
pub full-waits : (s : MachineState) → takes_key s ≡ false → (look_of s).waiting ≡ false
unfolding look_of
full-waits s full = go (is_running s.ended) (needs_key s.session.mode s.session s.memory) (is_some (first_key s.session)) (some s.session.console.keys full)
  where
    some : (keys : List ℕ) → nat_lt (length keys) 4096 ≡ false → is_some (slice_get keys 0) ≡ true
    some [] none = absurd (let no : ⊥ = cc in no)
    some (k ∷ keys) none = refl

    go : (a b c : Bool) → c ≡ true → (a && (b && not c)) ≡ false
    go false b c is = refl
    go true false c is = refl
    go true true true is = refl
    go true true false is = absurd (let no : ⊥ = cc in no)

-- ---- few keys

few-after : (system : Disk) (start : MachineState) (given keys : List Key) → length start.session.console.keys + (length given + length keys) ≤ 4096 → HaveRoomAfter system start given keys
few-after system start given [] few = tt
few-after system start given (k ∷ keys) few =
    let pending = alone-pending system (presses_of given) k.count start in
    let came = came-within k.count (presses_of given) in
    let long = presses-long given in
    let room : length (alone_by system given k.count start).session.console.keys < 4096 = omega arith in
    let more : length (given ++ k ∷ []) ≡ length given + 1 = length_push given k in
    (grind (arith, nat_tests), few-after system start (given ++ k ∷ []) keys (omega arith))

pub few-room : FewKeysHaveRoom
few-room system start keys few = let within : length start.session.console.keys + length keys ≤ 4096 = few in few-after system start [] keys (omega arith)

-- ---- the keys of a script that may wait

-- one key more
room-more : (system : Disk) (start : MachineState) (given keys : List Key) (key : Key) → HaveRoomAfter system start given keys →
    takes_key (alone_by system (given ++ keys) key.count start) ≡ true → HaveRoomAfter system start given (keys ++ key ∷ [])
room-more system start given [] key room takes = (ap (λ ks. takes_key (alone_by system ks key.count start)) (sym (append-nil given)) ∙ takes, tt)
room-more system start given (k ∷ keys) key room takes = (
  room.0,
  room-more system start (given ++ k ∷ []) keys key room.1
      (ap (λ ks. takes_key (alone_by system ks key.count start)) (append_assoc given (k ∷ []) keys) ∙ takes),
)

-- each came where there was room
pub cued-room : (system : Disk) (start : MachineState) (least most waits_from : ℕ) (given : List Key) (from mark : ℕ) (cues : List Cue) (keys : List Key) →
    HaveRoom system start given → IsCuedFrom system start least most waits_from given from mark cues keys → HaveRoom system start keys
cued-room system start least most waits_from given from mark [] keys room is = subst (HaveRoom system start) (sym is) room
cued-room system start least most waits_from given from mark (Timed k ∷ cues) keys room (inl come) =
    let key : Key = record { count = max from k.count; byte = k.byte } in
    cued-room system start least most waits_from (given ++ key ∷ []) key.count _ cues keys (room-more system start [] given key room come.0.2) come.1
cued-room system start least most waits_from given from mark (Timed k ∷ cues) keys room (inr never) = subst (HaveRoom system start) (sym never.1) room
cued-room system start least most waits_from given from mark (Pressing b ∷ cues) keys room (inl come) =
    let key : Key = record { count = from; byte = b } in
    cued-room system start least most waits_from (given ++ key ∷ []) from _ cues keys (room-more system start [] given key room come.0.2) come.1
cued-room system start least most waits_from given from mark (Pressing b ∷ cues) keys room (inr never) = subst (HaveRoom system start) (sym never.1) room
cued-room system start least most waits_from given from mark (Wait text ∷ cues) keys room (inl met) =
    cued-room system start least most waits_from given met.0 mark cues keys room met.2
cued-room system start least most waits_from given from mark (Wait text ∷ cues) keys room (inr never) = subst (HaveRoom system start) (sym never.1) room

-- ---- one of the keys

-- each of them has room behind those before it
pub room-at : (system : Disk) (start : MachineState) (given keys : List Key) (i : ℕ) (key : Key) → slice_get keys i ≡ Some key → HaveRoomAfter system start given keys →
    takes_key (alone_by system (given ++ take i keys) key.count start) ≡ true
room-at system start given [] i key at room = absurd (none-some key at)
room-at system start given (k ∷ keys) zero key at room =
    ap₂ (λ ks (n : ℕ). takes_key (alone_by system ks n start)) (append-nil given) (ap (λ (x : Key). x.count) (sym (same_Some k key at))) ∙ room.0
room-at system start given (k ∷ keys) (suc i) key at room =
    ap (λ ks. takes_key (alone_by system ks key.count start)) (sym (append_assoc given (k ∷ []) (take i keys)))
    ∙ room-at system start (given ++ k ∷ []) keys i key at room.1
