-- Calls one after another.
use Rattle.std.proofs.Common.{◌≡◌, ℕ, List, [], ◌∷◌, ◌++◌, refl, ap, ◌∙◌, sym, subst, length, map}
use Rattle.std.proofs.lemmas.List.{map-append}
use Rattle.cpm_store.specs.Log.{StoreAccess, AreNoWrites, AreWrites, IsNoWrite, Missed, LogLeads, LogLeadsBy, StopsAfter, Then, Wrote, writes_of}
use Rattle.cpm_store.specs.Writes.{NamedBytes}

pub ran_more : {S : Type 0} (does : S → StoreAccess → S → Type 0) (log more : List StoreAccess) (s m t : S) → LogLeads does log s m → LogLeads does more m t → LogLeads does (log ++ more) s t
ran_more does [] more s m t h g = subst (λ x. LogLeads does more x t) (sym h) g
ran_more does (a ∷ log) more s m t h g = (h.0, h.1, ran_more does log more h.0 m t h.2 g)

pub ran_one : {S : Type 0} (does : S → StoreAccess → S → Type 0) (a : StoreAccess) (s t : S) → does s a t → LogLeads does (a ∷ []) s t
ran_one does a s t h = (t, h, refl)

-- calls of the one kind, then calls of the other
pub ran_then : {S : Type 0} (does : S → StoreAccess → S → Type 0) (Before After : List StoreAccess → Type 0) (s m t : S) → LogLeadsBy does Before s m → LogLeadsBy does After m t → LogLeadsBy does (Then Before After) s t
ran_then does Before After s m t h g =
    (h.0 ++ g.0, record { first = h.0; rest = g.0; order = refl; begins = h.1; goes_on = g.1 }, ran_more does h.0 g.0 s m t h.2 g.2)

-- one write more
pub ran_write : {S : Type 0} (does : S → StoreAccess → S → Type 0) (ps : List NamedBytes) (p : NamedBytes) (s m t : S) → LogLeadsBy does (AreWrites ps) s m → does m (Wrote p.0 p.1) t
    → LogLeadsBy does (AreWrites (ps ++ p ∷ [])) s t
ran_write does ps p s m t h write = (
  h.0 ++ Wrote p.0 p.1 ∷ [],
  ap (λ xs. xs ++ Wrote p.0 p.1 ∷ []) h.1 ∙ sym (map-append (λ q. Wrote q.0 q.1) ps (p ∷ [])),
  ran_more does h.0 (Wrote p.0 p.1 ∷ []) s m t h.2 (ran_one does (Wrote p.0 p.1) m t write),
)

-- a write that failed, behind those that went well
pub ran_missed : {S : Type 0} (does : S → StoreAccess → S → Type 0) (ps done : List NamedBytes) (p : NamedBytes) (rest : List NamedBytes) (count : ℕ) (s m t : S) → ps ≡ done ++ p ∷ rest → length done ≡ count
    → LogLeadsBy does (AreWrites done) s m → does m (Missed p.0) t → LogLeadsBy does (StopsAfter ps count) s t
ran_missed does ps done p rest count s m t order before h missed = (
  h.0 ++ Missed p.0 ∷ [],
  record { done = done; stopped_at = p; rest = rest; order = order; before = before; calls = ap (λ xs. xs ++ Missed p.0 ∷ []) h.1 },
  ran_more does h.0 (Missed p.0 ∷ []) s m t h.2 (ran_one does (Missed p.0) m t missed),
)

-- ---- where nothing was written

pub no_writes_more : (log more : List StoreAccess) → AreNoWrites log → AreNoWrites more → AreNoWrites (log ++ more)
no_writes_more [] more h g = g
no_writes_more (a ∷ log) more h g = (h.0, no_writes_more log more h.1 g)

pub unwritten_more : {S : Type 0} (does : S → StoreAccess → S → Type 0) (s m t : S) → LogLeadsBy does AreNoWrites s m → LogLeadsBy does AreNoWrites m t → LogLeadsBy does AreNoWrites s t
unwritten_more does s m t h g = (h.0 ++ g.0, no_writes_more h.0 g.0 h.1 g.1, ran_more does h.0 g.0 s m t h.2 g.2)

pub unwritten_one : {S : Type 0} (does : S → StoreAccess → S → Type 0) (a : StoreAccess) (s t : S) → IsNoWrite a → does s a t → LogLeadsBy does AreNoWrites s t
unwritten_one does a s t is call = (a ∷ [], (is, tt), ran_one does a s t call)
