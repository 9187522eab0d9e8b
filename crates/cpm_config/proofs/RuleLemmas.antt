-- What holds of entries that break no rule.
use Rattle.std.proofs.Common.{◌≡◌, ◌≤◌, ◌^◌, ℕ, Bool, true, false, List, [], Option, Some, None, refl, ap, ◌∙◌, arith}
use Rattle.std.specs.Prelude.{ℤ, pos, negsuc, int_le, not, if◌then◌else◌}
use Rattle.std.proofs.lemmas.Bool.{and_parts}
use Rattle.std.proofs.lemmas.Bool.Decides.{nat_tests}
use Rattle.std.proofs.lemmas.Int.{to_z-of_z}
use mir.Syntax.{w64}
use mir.Val.{SFits, of_z, to_z}
use Rattle.cpm_config.specs.Entries.{ConfigEntries, Forks, Opens, OriginEntries, Restores, SessionEntries, Text}
use Rattle.cpm_config.specs.Rules.{ForkLaw, IsOriginKept, at_fault, session_origin_fault, field_or, fork_field_fault, forked_fault, is_at, is_between, is_cpu, is_length_between, is_name, is_steps, opened_fault, origin_fault, parent_in, range_fault, restored_fault, session_fault, sessions_fault}
use Rattle.cpm_config.proofs.FaultLemmas.{fewer_faults}
use Rattle.cpm_config.specs.declared.field.Field.{Field}

-- a rule that breaks nothing holds, and so do those behind it
kept : {A : Type 0} (good : Bool) (fault : A) (next : Option A) → (if not good then Some fault else next) ≡ None → (good ≡ true) × (next ≡ None)
kept true fault next none = (refl, none)
kept false fault next none = absurd (cc)

-- and the last one holds
last_kept : {A : Type 0} (good : Bool) (fault : A) → (if good then None else Some fault) ≡ None → good ≡ true
last_kept true fault none = refl
last_kept false fault none = absurd (cc)

-- a number is in a wider range too
wider : (low high high' : ℕ) (z : ℤ) → high ≤ high' → is_between low high z ≡ true → is_between 0 high' z ≡ true
wider low high high' (pos n) more within = grind (arith, nat_tests)
wider low high high' (negsuc n) more within = absurd (cc)

-- what a session keeps: how it begins, and its count of steps
pub record IsGood (s : SessionEntries) : Type 0 where
  pub origin : IsOriginKept s.origin
  pub steps : is_between 0 (2 ^ 63) s.steps ≡ true

-- a count of steps of a session fits 64 bits
good-steps : (z : ℤ) → is_steps z ≡ true → is_between 0 (2 ^ 63) z ≡ true
good-steps z within = wider 0 1000000000000 (2 ^ 63) z (omega arith) within

-- what is kept of an opened session that breaks no rule
good-opened : (s : SessionEntries) (cpu : Text) (quota : ℤ) (drives : List Text) → opened_fault s cpu quota drives ≡ None
    → IsOriginKept (Opens cpu quota drives) × (is_between 0 (2 ^ 63) s.steps ≡ true)
unfolding opened_fault
good-opened s cpu quota drives none =
    let after_name = kept (is_name s.name) _ _ none in
    let after_cpu = kept (is_cpu cpu) _ _ after_name.1 in
    let after_quota = kept (is_between 16 256 quota) _ _ after_cpu.1 in
    let after_steps = kept (is_steps s.steps) _ _ after_quota.1 in
    ((after_cpu.0, wider 16 256 65535 quota (omega arith) after_quota.0), good-steps s.steps after_steps.0)

-- the first of two fields breaks no rule where neither does
first-none : (o next : Option Field) → field_or o next ≡ None → o ≡ None
first-none None next none = refl
first-none (Some f) next none = none

-- a forked session that breaks no rule has a fork that breaks none
forked-stands : (before : List SessionEntries) (s : SessionEntries) → forked_fault before s ≡ None
    → (fork_field_fault before s ≡ None) × (is_steps s.steps ≡ true)
unfolding forked_fault
forked-stands before s none =
    let after_name = kept (is_name s.name) _ _ none in
    let after_steps = kept (is_steps s.steps) _ _ after_name.1 in
    (first-none (fork_field_fault before s) _ after_steps.1, after_steps.0)

-- a count that is not above a session's steps fits 64 bits
below : (steps at : ℤ) → int_le (pos 0) at ≡ true → int_le at steps ≡ true → is_steps steps ≡ true → is_between 0 (2 ^ 63) at ≡ true
below (pos n) (pos k) low high within = grind (arith, nat_tests)
below (negsuc n) (pos k) low high within = absurd (cc)
below steps (negsuc k) low high within = absurd (cc)

-- a count of steps at which a session may be forked fits 64 bits
at-kept : (parent : Option SessionEntries) (steps at : ℤ) → at_fault parent steps at ≡ None → is_steps steps ≡ true → is_between 0 (2 ^ 63) at ≡ true
at-kept None steps at none within = absurd (cc)
at-kept (Some p) steps at none within =
    let is = and_parts (int_le (pos 0) at) _ (last_kept (is_at p.steps steps at) _ none) in
    below steps at is.0 (and_parts (int_le at p.steps) (int_le at steps) is.1).1 within

-- what is kept of the steps of a session that goes on from a saving and breaks no rule
good-restored : (s : SessionEntries) → restored_fault s ≡ None → is_between 0 (2 ^ 63) s.steps ≡ true
unfolding restored_fault
good-restored s none =
    let after_name = kept (is_name s.name) _ _ none in
    good-steps s.steps (kept (is_steps s.steps) _ _ after_name.1).0

-- what is kept of a session that breaks no rule, however it begins
good-origin : (before : List SessionEntries) (s : SessionEntries) (origin : OriginEntries) → s.origin ≡ origin → session_origin_fault before s origin ≡ None
    → IsOriginKept origin × (is_between 0 (2 ^ 63) s.steps ≡ true)
good-origin before s (Opens cpu quota drives) is none = good-opened s cpu quota drives none
good-origin before s (Forks parent at) is none =
    let stands = forked-stands before s none in
    let from : origin_fault before s.steps (Forks parent at) ≡ None = rw is at stands.0 in
    (at-kept (parent_in before parent) s.steps at from stands.1, good-steps s.steps stands.1)
good-origin before s (Restores saving) is none = (tt, good-restored s none)

-- what is kept of a session that breaks no rule
pub good-session : (before : List SessionEntries) (s : SessionEntries) → session_fault before s ≡ None → IsGood s
good-session before s none =
    let good = good-origin before s s.origin refl none in
    record { origin = good.0; steps = good.1 }

-- a session that breaks no rule has no fork that breaks one
stands : (before : List SessionEntries) (s : SessionEntries) (origin : OriginEntries) → s.origin ≡ origin → session_origin_fault before s origin ≡ None
    → fork_field_fault before s ≡ None
stands before s (Opens cpu quota drives) is none = ap (origin_fault before s.steps) is
stands before s (Forks parent at) is none = (forked-stands before s none).0
stands before s (Restores saving) is none = ap (origin_fault before s.steps) is

-- what holds of a configuration that breaks no rule
pub record AreGood (c : ConfigEntries) : Type 0 where
  pub frames : is_between 0 65535 c.frames ≡ true
  pub quantum : is_between 0 (2 ^ 63) c.quantum ≡ true
  pub sessions : sessions_fault 1 [] c.sessions ≡ None

-- it does
pub good-config : (c : ConfigEntries) → range_fault c ≡ None → AreGood c
unfolding range_fault
good-config c none =
    let after_frames = kept (is_between 16 16384 c.frames) _ _ none in
    let after_quantum = kept (is_between 1 1000000000 c.quantum) _ _ after_frames.1 in
    let after_count = kept (is_length_between 1 64 c.sessions) _ _ after_quantum.1 in
    record {
      frames = wider 16 16384 65535 c.frames (omega arith) after_frames.0;
      quantum = wider 1 1000000000 (2 ^ 63) c.quantum (omega arith) after_quantum.0;
      sessions = after_count.1;
    }

-- a number of 64 bits that is between these is itself after a conversion
pub passed : (high : ℕ) (z : ℤ) → SFits w64 z → is_between 0 high z ≡ true → is_between 0 high (to_z w64 (of_z w64 z)) ≡ true
passed high z fits within = ap (is_between 0 high) (to_z-of_z w64 z fits) ∙ within

-- a configuration that breaks no rule has no fork that breaks one
pub fork_law : ForkLaw
fork_law c none =
    fewer_faults session_fault fork_field_fault (λ before s. stands before s s.origin refl) 1 [] c.sessions (good-config c none).sessions
