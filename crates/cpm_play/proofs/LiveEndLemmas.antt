-- A machine that makes no step, or takes a key, and the measure of a session that is typed at.
use Rattle.std.proofs.Common.{◌≡◌, ℕ, ◌+◌, ◌-◌, ◌*◌, ◌<◌, ◌==◌, ◌&&◌, nat_le, if◌then◌else◌, Bool, true, false, true≢false, ⊎_elim, List, [], length, refl, sym, ap, ap₂, ◌∙◌, subst, arith}
use Rattle.std.proofs.lemmas.Bool.Decides.{nat_tests}
use Rattle.std.proofs.lemmas.List.{length_push}
use Rattle.cpm_geom.specs.Disk.{Disk}
use Rattle.cpm_console.specs.Terminal.{Terminal, has_room}
use Rattle.cpm_machine.specs.MachineState.{MachineState}
use Rattle.cpm_machine.specs.Serve.{keyed, look_of, takes_key}
use Rattle.cpm_machine.specs.Step.{after, is_running}
use Rattle.cpm_machine.specs.ToWait.{executed_to_wait}
use Rattle.cpm_machine.specs.Until.{can_go_on, executed_until}
use Rattle.cpm_machine.proofs.GrantLaws.{longest-is}
use Rattle.cpm_play.specs.Playing.{IsQuiet}
use Rattle.cpm_play.proofs.RunLemmas.{stopped-waits}

-- ---- its end

-- a machine with no output to take that makes no step has ended
pub unmoved : (system : Disk) (pc n k : ℕ) (s : MachineState) → IsQuiet s → 0 < n → k ≡ executed_until system pc n s → k ≡ 0 → is_running s.ended ≡ false
unfolding executed_until
unmoved system pc n k s quiet some is none =
    let longest = longest-is (λ i. can_go_on pc i (after system i s)) n in
    let blocked : can_go_on pc 0 s ≡ false = subst (λ i. i < n → can_go_on pc i (after system i s) ≡ false) (sym is ∙ none) longest.greatest some in
    go (is_running s.ended) (has_room s.session.console) (room s.session.console quiet.screen quiet.printer) blocked
  where
    room : (t : Terminal) → t.screen ≡ [] → t.printer ≡ [] → has_room t ≡ true
    room t x y = ap₂ (λ (a b : List ℕ). nat_le (length a) 4096 && nat_le (length b) 4096) x y

    go : (a b : Bool) → b ≡ true → ((a && b) && true) ≡ false → a ≡ false
    go false b e f = refl
    go true b e f = absurd (let bad : ⊥ = cc in bad)

-- a key is taken where none is pending
pub takes-first : (s : MachineState) → s.session.console.keys ≡ [] → takes_key s ≡ true
takes-first s none =
    let count : length s.session.console.keys ≡ 0 = ap length none in
    grind (arith, nat_tests)

-- one that does not wait for a key, either
pub not-moved : (system : Disk) (n k : ℕ) (s : MachineState) → IsQuiet s → 0 < n → k ≡ executed_to_wait system n s → k ≡ 0 → (look_of s).waiting ≡ false → is_running s.ended ≡ false
not-moved system n k s quiet some is none busy =
    ⊎_elim (λ ended. ended) (λ waits. absurd (true≢false (sym waits ∙ busy)))
    (stopped-waits system n k s s quiet some is none (sym (ap (λ m. after system m s) none)))

-- ---- its measure

-- a key that is given is pending then
pub room-used : (asks left byte : ℕ) (now pressed : MachineState) → now.session.console.keys ≡ [] → pressed ≡ keyed byte now →
    asks + (left * 2 + (if length pressed.session.console.keys == 0 then 1 else 0)) < asks + (left * 2 + (if length now.session.console.keys == 0 then 1 else 0))
room-used asks left byte now pressed none is =
    let P : ℕ → ℕ → Type 0 = λ i j. asks + (left * 2 + (if i == 0 then 1 else 0)) < asks + (left * 2 + (if j == 0 then 1 else 0)) in
    let before : length now.session.console.keys ≡ 0 = ap length none in
    let one : length pressed.session.console.keys ≡ 1 =
    ap (λ (m : MachineState). length m.session.console.keys) is ∙ length_push now.session.console.keys byte ∙ ap (λ (n : ℕ). n + 1) before in
    subst (λ i. P i (length now.session.console.keys)) (sym one) (subst (P 1) (sym before) (let less : P 1 0 = omega arith in less))

pub fewer-asks : (asks left : ℕ) → 0 < asks → (asks - 1) + left < asks + left
fewer-asks asks left some = omega arith
