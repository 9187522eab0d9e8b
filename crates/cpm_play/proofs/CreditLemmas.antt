-- How many turns are left before it is seen that a machine polls steadily, by which kind of call it does.
use Rattle.std.proofs.Common.{◌≡◌, ℕ, zero, suc, ◌+◌, ◌-◌, ◌*◌, ◌^◌, ◌<◌, ◌≤◌, ◌&&◌, not, Bool, true, false, true≢false, ⊎_elim, refl, sym, ap, subst, arith, if◌then◌else◌}
use Rattle.std.proofs.lemmas.Bool.{cases_lt}
use Rattle.cpm_memory.specs.Layout.{bdos_address}
use Rattle.cpm_machine.specs.MachineState.{MachineState}
use Rattle.cpm_machine.specs.Step.{is_running}
use Rattle.cpm_machine.specs.Until.{begins_at}
use Rattle.cpm_play.specs.Wanting.{asks_by_bdos, asks_by_status, console_status_address, doubled, first_quantum, is_poll, poll_pause, polls_enough}
use Rattle.cpm_play.specs.declared.watch.Watch.{Watch}

-- ---- the kinds of calls

-- by CONST, or by the BDOS
abbrev pub asks_by : Bool → MachineState → Bool
asks_by true = asks_by_status
asks_by false = asks_by_bdos

-- one where the next turn stops before calls of the other kind
abbrev pub wrong : Bool → Bool → ℕ
wrong true true = 0
wrong true false = 1
wrong false true = 1
wrong false false = 0

pub wrong-one : (a b : Bool) → wrong a b ≤ 1
wrong-one true true = omega arith
wrong-one true false = omega arith
wrong-one false true = omega arith
wrong-one false false = omega arith

wrong-not : (a b : Bool) → wrong a (not b) + wrong a b ≡ 1
wrong-not true true = refl
wrong-not true false = refl
wrong-not false true = refl
wrong-not false false = refl

and-last : (a b : Bool) → (a && b) ≡ true → b ≡ true
and-last true b e = e
and-last false b e = absurd (true≢false (sym e))

pub and-first : (a b : Bool) → (a && b) ≡ true → a ≡ true
and-first true b e = refl
and-first false b e = absurd (true≢false (sym e))

-- a call of the kind that is watched begins at the address that is watched
pub asks-begins : (by at_status : Bool) (s : MachineState) → wrong by at_status ≡ 0 → asks_by by s ≡ true → begins_at (if at_status then console_status_address else bdos_address) s.session ≡ true
asks-begins true true s right asks = and-last (is_running s.ended) (begins_at console_status_address s.session) asks
asks-begins true false s right asks = absurd (omega arith)
asks-begins false true s right asks = absurd (omega arith)
asks-begins false false s right asks =
    and-first (begins_at bdos_address s.session) (is_poll s.session.regs) (and-last (is_running s.ended) (begins_at bdos_address s.session && is_poll s.session.regs) asks)

-- ---- how many turns are left

-- the steps of a turn after some doublings
abbrev pub grown : ℕ → ℕ → ℕ
grown quantum zero = quantum
grown quantum (suc n) = grown (quantum * 2) n

grown-least : (quantum n : ℕ) → quantum ≤ grown quantum n
grown-least quantum zero = omega arith
grown-least quantum (suc n) = let more : quantum * 2 ≤ grown (quantum * 2) n = grown-least (quantum * 2) n in omega arith

grown-doubled : (quantum n : ℕ) → poll_pause ≤ grown (quantum * 2) n → poll_pause ≤ grown (doubled quantum) n
grown-doubled quantum n enough =
    let P : ℕ → Type 0 = λ q. poll_pause ≤ grown q n in
    ⊎_elim (λ fits. let same : quantum * 2 ≡ doubled quantum = omega arith in subst P same enough)
    (λ large.
    let most : 2 ^ 64 - 1 ≡ doubled quantum = omega arith in
    let least : 2 ^ 64 - 1 ≤ grown (2 ^ 64 - 1) n = grown-least (2 ^ 64 - 1) n in subst P most (omega arith))
    (cases_lt (quantum * 2) (2 ^ 64))

-- So many turns at most are left before enough polls are counted: two for each poll that is missing, since of two turns one stops before a call of the kind;
-- one where the next stops before calls of the other kind; and two for each doubling before turns are long enough.
pub record HasCredit (by : Bool) (watch : Watch) (turns : ℕ) : Type 0 where
  pub doublings : ℕ
  pub enough : poll_pause ≤ grown watch.quantum doublings
  pub left : 2 * (polls_enough - watch.polls) + wrong by watch.at_status + 2 * doublings ≤ turns

-- own: as many as are left at first
abbrev pub most_turns : ℕ
most_turns = 143

pub credit-start : (by : Bool) (watch : Watch) → first_quantum ≤ watch.quantum → HasCredit by watch most_turns
credit-start by watch quick = record {
  doublings = 7;
  enough = omega arith;
  left = let one = wrong-one by watch.at_status in omega arith;
}

-- a turn that stopped before a poll
pub credit-called : (by : Bool) (watch next : Watch) (turns : ℕ) → watch.polls < polls_enough → next.polls ≡ watch.polls + 1 → next.quantum ≡ watch.quantum →
    HasCredit by watch turns → HasCredit by next (turns - 1)
credit-called by watch next turns few one same c = record {
  doublings = c.doublings;
  enough = subst (λ (q : ℕ). poll_pause ≤ grown q c.doublings) (sym same) c.enough;
  left = let a = wrong-one by next.at_status in let l = c.left in omega arith;
}

-- and one that stopped before none
pub credit-uncalled : (by : Bool) (watch next : Watch) (turns : ℕ) → watch.polls < polls_enough → next.polls ≡ watch.polls → next.at_status ≡ not watch.at_status → next.quantum ≡ doubled watch.quantum →
    (poll_pause ≤ watch.quantum → wrong by watch.at_status ≡ 1) → HasCredit by watch turns → HasCredit by next (turns - 1)
credit-uncalled by watch next turns few same other twice missed c = by_doublings c.doublings c.enough c.left
  where
    by_doublings : (n : ℕ) → poll_pause ≤ grown watch.quantum n → 2 * (polls_enough - watch.polls) + wrong by watch.at_status + 2 * n ≤ turns → HasCredit by next (turns - 1)
    by_doublings zero enough left =
        let at = missed enough in
        let turned : wrong by next.at_status ≡ wrong by (not watch.at_status) = ap (wrong by) other in
        let sum = wrong-not by watch.at_status in
        record { doublings = 0; enough = omega arith; left = omega arith }
    by_doublings (suc n) enough left =
        let one = wrong-one by next.at_status in
        record {
          doublings = n;
          enough = subst (λ (q : ℕ). poll_pause ≤ grown q n) (sym twice) (grown-doubled watch.quantum n enough);
          left = omega arith;
        }
