-- The calls of a store, and what they read and wrote, in their order. All of it is own.
use Rattle.std.specs.Prelude.{⊤, ◌≡◌, ℕ, List, [], ◌∷◌, ◌++◌, length, map, Some}
use Rattle.cpm_store.specs.Files.{StoreFiles, KeepsOthers, StoreName, Writes}
use Rattle.cpm_store.specs.Writes.{NamedBytes}

-- a call of a store: a file gave bytes, or bytes were written to it, or the call of this name failed
pub data StoreAccess : Type 0 where
  Gave : (name : StoreName) (bytes : List ℕ) → StoreAccess
  Wrote : (name : StoreName) (bytes : List ℕ) → StoreAccess
  Missed : (name : StoreName) → StoreAccess

-- what a call does to files that are told
abbrev pub Does : StoreAccess → StoreFiles → StoreFiles → Type 0
Does (Gave name bytes) old new = (old name ≡ Some bytes) × (new ≡ old)
Does (Wrote name bytes) old new = Writes name bytes old new
Does (Missed name) old new = KeepsOthers name old new

-- from one state of a store to another by these calls and no others, where a call leads from state to state as `does` says
abbrev pub LogLeads : {S : Type 0} → (S → StoreAccess → S → Type 0) → List StoreAccess → S → S → Type 0
LogLeads {S} does [] old new = old ≡ new
LogLeads {S} does (a ∷ log) old new = (next : S) × does old a next × LogLeads does log next new

-- from one state to another by calls of this kind and no others
abbrev pub LogLeadsBy : {S : Type 0} → (S → StoreAccess → S → Type 0) → (List StoreAccess → Type 0) → S → S → Type 0
LogLeadsBy {S} does Kind old new = (log : List StoreAccess) × Kind log × LogLeads does log old new

-- calls of the one kind, and after them calls of the other
pub record Then (Before After : List StoreAccess → Type 0) (log : List StoreAccess) : Type 0 where
  pub first : List StoreAccess
  pub rest : List StoreAccess
  pub order : log ≡ first ++ rest
  pub begins : Before first
  pub goes_on : After rest

-- each was written, in this order
abbrev pub writes_of : List NamedBytes → List StoreAccess
writes_of ps = map (λ p. Wrote p.0 p.1) ps

abbrev pub AreWrites : List NamedBytes → List StoreAccess → Type 0
AreWrites ps log = log ≡ writes_of ps

-- those before this place were written, and writing the one at it failed
pub record StopsAfter (ps : List NamedBytes) (count : ℕ) (log : List StoreAccess) : Type 0 where
  pub done : List NamedBytes
  pub stopped_at : NamedBytes
  pub rest : List NamedBytes
  pub order : ps ≡ done ++ stopped_at ∷ rest
  pub before : length done ≡ count
  pub calls : log ≡ writes_of done ++ Missed stopped_at.0 ∷ []

-- a read, or a call that failed
abbrev pub IsNoWrite : StoreAccess → Type 0
IsNoWrite (Gave name bytes) = ⊤
IsNoWrite (Wrote name bytes) = ⊥
IsNoWrite (Missed name) = ⊤

-- nothing was written by them
abbrev pub AreNoWrites : List StoreAccess → Type 0
AreNoWrites [] = ⊤
AreNoWrites (a ∷ log) = IsNoWrite a × AreNoWrites log
