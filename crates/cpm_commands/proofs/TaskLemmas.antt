-- What a command that runs no program of its own gives.
use Rattle.std.proofs.Common.{◌≡◌, ℕ, Result, Ok, Err, IfErr, IfOk, OnOk, subst, sym}
use Rattle.cpm_host.specs.declared.error.HostError.{HostError}
use Rattle.cpm_commands.specs.Task.{with_status}

pub plain-done : (A : Type 0) (P : ℕ → Type 0) (r : Result (Unit {0}) HostError) (q : Result ℕ HostError) → q ≡ with_status r → (A → P 0) → OnOk r A → IfOk q P
plain-done A P (Ok done) q is leads h = subst (λ (x : Result ℕ HostError). IfOk x P) (sym is) (leads h)
plain-done A P (Err e) q is leads h = subst (λ (x : Result ℕ HostError). IfOk x P) (sym is) tt

pub plain-refused : (P Q : HostError → Type 0) (r : Result (Unit {0}) HostError) (q : Result ℕ HostError) → q ≡ with_status r → ((e : HostError) → P e → Q e) → IfErr r P → IfErr q Q
plain-refused P Q (Ok done) q is leads h = subst (λ (x : Result ℕ HostError). IfErr x Q) (sym is) tt
plain-refused P Q (Err e) q is leads h = subst (λ (x : Result ℕ HostError). IfErr x Q) (sym is) (leads e h)
