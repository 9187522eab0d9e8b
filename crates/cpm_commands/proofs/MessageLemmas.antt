-- What is told of sessions, one after another.
use Rattle.std.proofs.Common.{◌≡◌, ℕ, List, [], ◌∷◌, refl, subst, sym}
use Rattle.cpm_commands.specs.Messages.{AreIllegalTold, IsIllegalTold}
use Rattle.cpm_run.specs.declared.report.SessionReport.{SessionReport}

-- what is told of the rest from here on is the end of what is told of all
abbrev pub IllegalLeads : {M : Type 0} → (M → List ℕ → M → Type 0) → (all rest : List SessionReport) → M → M → Type 0
IllegalLeads {M} tells all rest start now = (last : M) → AreIllegalTold tells rest now last → AreIllegalTold tells all start last

pub illegal_more : {M : Type 0} (tells : M → List ℕ → M → Type 0) (all rest later : List SessionReport) (s : SessionReport) (start now next : M) → rest ≡ s ∷ later
    → IsIllegalTold tells s now next → IllegalLeads tells all rest start now → IllegalLeads tells all later start next
illegal_more {M} tells all rest later s start now next is told leads = λ last h.
    leads last (subst (λ (ss : List SessionReport). AreIllegalTold tells ss now last) (sym is) (next, told, h))

pub illegal_all : {M : Type 0} (tells : M → List ℕ → M → Type 0) (all rest : List SessionReport) (start now : M) → rest ≡ []
    → IllegalLeads tells all rest start now → AreIllegalTold tells all start now
illegal_all {M} tells all rest start now none leads =
    leads now (subst (λ (ss : List SessionReport). AreIllegalTold tells ss now now) (sym none) refl)
