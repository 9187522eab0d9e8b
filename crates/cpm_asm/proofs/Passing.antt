-- One statement of a pass.
use Rattle.std.proofs.Common.{◌≡◌, ℕ, true, false, List, [], ◌∷◌, ◌++◌, ap, sym, ◌∙◌, append_assoc, append-nil}
use Rattle.std.specs.Prelude.{None, Some, Result, Ok, Err}
use Rattle.cpm_asm_expression.specs.Names.{NameTable}
use Rattle.cpm_asm.specs.Pieces.{NumberedStatement}
use Rattle.cpm_asm.specs.Statements.{StatementParts}
use Rattle.cpm_asm.specs.Measures.{measured}
use Rattle.cpm_asm.specs.Emitting.{emitted, second_fault}
use Rattle.cpm_asm.specs.Places.{lowest_fault, position_after}
use Rattle.cpm_asm.specs.Passes.{at_end, first_pass, is_end_statement, laid, last_or, statement_of, second_pass, table_after, unless_first, unless_second}
use Rattle.cpm_asm.specs.Placing.{placement_of, placement, places_from}
use Rattle.cpm_asm.specs.declared.placed.Placement.{Placement}
use Rattle.cpm_asm.specs.declared.measure.Measure.{Measure}
use Rattle.cpm_asm.specs.declared.place.Position.{Position}
use Rattle.cpm_asm.specs.declared.emit.Doubt.{Doubt}
use Rattle.cpm_asm.specs.declared.error.AsmError.{AsmError}
use Rattle.cpm_asm.specs.declared.error.AsmErrorKind.{AsmErrorKind}

-- ---- the first pass

abbrev first_more : NameTable → Position → NumberedStatement → List NumberedStatement → StatementParts → Measure → Result NameTable AsmError
first_more names p x xs s m = last_or (is_end_statement s.deed) (at_end p (table_after names s.label m.label)) (first_pass (table_after names s.label m.label) (position_after p x.line s.deed m) xs)

abbrev first_step : NameTable → Position → NumberedStatement → List NumberedStatement → StatementParts → Measure → Result NameTable AsmError
first_step names p x xs s m = unless_first p x xs (lowest_fault names p s m) (first_more names p x xs s m)

first_at : (names : NameTable) (p : Position) (x : NumberedStatement) (xs : List NumberedStatement) (s : StatementParts) (m : Measure) → s ≡ statement_of p x → m ≡ measured names p.address s.deed
    → first_step names p x xs s m ≡ first_pass names p (x ∷ xs)
first_at names p x xs s m is taken = ap (first_step names p x xs s) taken ∙ ap (λ (t : StatementParts). first_step names p x xs t (measured names p.address t.deed)) is

first_quiet : (names : NameTable) (p : Position) (x : NumberedStatement) (xs : List NumberedStatement) (s : StatementParts) (m : Measure) → s ≡ statement_of p x → m ≡ measured names p.address s.deed
    → lowest_fault names p s m ≡ None → first_more names p x xs s m ≡ first_pass names p (x ∷ xs)
first_quiet names p x xs s m is taken none =
    sym (ap (λ o. unless_first p x xs o (first_more names p x xs s m)) none) ∙ first_at names p x xs s m is taken

pub first-on : (names : NameTable) (p : Position) (x : NumberedStatement) (xs : List NumberedStatement) (s : StatementParts) (m : Measure) (later : NameTable) (q : Position)
    → s ≡ statement_of p x → m ≡ measured names p.address s.deed → lowest_fault names p s m ≡ None → is_end_statement s.deed ≡ false
    → later ≡ table_after names s.label m.label → q ≡ position_after p x.line s.deed m
    → first_pass later q xs ≡ first_pass names p (x ∷ xs)
first-on names p x xs s m later q is taken none on named there =
    ap (λ t. first_pass t q xs) named ∙ ap (λ r. first_pass (table_after names s.label m.label) r xs) there
    ∙ sym (ap (λ b. last_or b (at_end p (table_after names s.label m.label)) (first_pass (table_after names s.label m.label) (position_after p x.line s.deed m) xs)) on)
    ∙ first_quiet names p x xs s m is taken none

pub first-last : (names : NameTable) (p : Position) (x : NumberedStatement) (xs : List NumberedStatement) (s : StatementParts) (m : Measure) (later : NameTable)
    → s ≡ statement_of p x → m ≡ measured names p.address s.deed → lowest_fault names p s m ≡ None → is_end_statement s.deed ≡ true
    → later ≡ table_after names s.label m.label
    → at_end p later ≡ first_pass names p (x ∷ xs)
first-last names p x xs s m later is taken none last named =
    ap (at_end p) named
    ∙ sym (ap (λ b. last_or b (at_end p (table_after names s.label m.label)) (first_pass (table_after names s.label m.label) (position_after p x.line s.deed m) xs)) last)
    ∙ first_quiet names p x xs s m is taken none

-- ---- the second pass

abbrev second_more : NameTable → List ℕ → Position → NumberedStatement → List NumberedStatement → StatementParts → Measure → Result (List ℕ) AsmError
second_more names image p x xs s m =
    last_or (is_end_statement s.deed) (Ok (laid image p.address (emitted names p.address m.next s.deed).bytes)) (second_pass names (laid image p.address (emitted names p.address m.next s.deed).bytes) (position_after p x.line s.deed m) xs)

abbrev second_step : NameTable → List ℕ → Position → NumberedStatement → List NumberedStatement → StatementParts → Measure → Result (List ℕ) AsmError
second_step names image p x xs s m = unless_second x.line (second_fault (emitted names p.address m.next s.deed).doubt) (second_more names image p x xs s m)

second_at : (names : NameTable) (image : List ℕ) (p : Position) (x : NumberedStatement) (xs : List NumberedStatement) (s : StatementParts) (m : Measure) → s ≡ statement_of p x → m ≡ measured names p.address s.deed
    → second_step names image p x xs s m ≡ second_pass names image p (x ∷ xs)
second_at names image p x xs s m is taken = ap (second_step names image p x xs s) taken ∙ ap (λ (t : StatementParts). second_step names image p x xs t (measured names p.address t.deed)) is

second_quiet : (names : NameTable) (image : List ℕ) (p : Position) (x : NumberedStatement) (xs : List NumberedStatement) (s : StatementParts) (m : Measure) (d : Doubt) → s ≡ statement_of p x → m ≡ measured names p.address s.deed
    → d ≡ (emitted names p.address m.next s.deed).doubt → second_fault d ≡ None → second_more names image p x xs s m ≡ second_pass names image p (x ∷ xs)
second_quiet names image p x xs s m d is taken doubt none =
    sym (ap (λ o. unless_second x.line o (second_more names image p x xs s m)) (ap second_fault (sym doubt) ∙ none)) ∙ second_at names image p x xs s m is taken

pub second-on : (names : NameTable) (image after : List ℕ) (p : Position) (x : NumberedStatement) (xs : List NumberedStatement) (s : StatementParts) (m : Measure) (d : Doubt) (q : Position)
    → s ≡ statement_of p x → m ≡ measured names p.address s.deed → d ≡ (emitted names p.address m.next s.deed).doubt → second_fault d ≡ None → is_end_statement s.deed ≡ false
    → after ≡ laid image p.address (emitted names p.address m.next s.deed).bytes → q ≡ position_after p x.line s.deed m
    → second_pass names after q xs ≡ second_pass names image p (x ∷ xs)
second-on names image after p x xs s m d q is taken doubt none on bytes there =
    ap (λ i. second_pass names i q xs) bytes ∙ ap (λ r. second_pass names (laid image p.address (emitted names p.address m.next s.deed).bytes) r xs) there
    ∙ sym (ap (λ b. last_or b (Ok (laid image p.address (emitted names p.address m.next s.deed).bytes)) (second_pass names (laid image p.address (emitted names p.address m.next s.deed).bytes) (position_after p x.line s.deed m) xs)) on)
    ∙ second_quiet names image p x xs s m d is taken doubt none

pub second-last : (names : NameTable) (image after : List ℕ) (p : Position) (x : NumberedStatement) (xs : List NumberedStatement) (s : StatementParts) (m : Measure) (d : Doubt)
    → s ≡ statement_of p x → m ≡ measured names p.address s.deed → d ≡ (emitted names p.address m.next s.deed).doubt → second_fault d ≡ None → is_end_statement s.deed ≡ true
    → after ≡ laid image p.address (emitted names p.address m.next s.deed).bytes
    → second_pass names image p (x ∷ xs) ≡ Ok after
second-last names image after p x xs s m d is taken doubt none last bytes =
    sym (second_quiet names image p x xs s m d is taken doubt none)
    ∙ ap (λ b. last_or b (Ok (laid image p.address (emitted names p.address m.next s.deed).bytes)) (second_pass names (laid image p.address (emitted names p.address m.next s.deed).bytes) (position_after p x.line s.deed m) xs)) last
    ∙ ap (λ (i : List ℕ). Ok i) (sym bytes)

pub second-ends : (names : NameTable) (image : List ℕ) (p : Position) (x : NumberedStatement) (xs : List NumberedStatement) (s : StatementParts) (m : Measure) (d : Doubt) (kind : AsmErrorKind)
    → s ≡ statement_of p x → m ≡ measured names p.address s.deed → d ≡ (emitted names p.address m.next s.deed).doubt → second_fault d ≡ Some kind
    → second_pass names image p (x ∷ xs) ≡ Err (record { line = x.line; kind = kind })
second-ends names image p x xs s m d kind is taken doubt found =
    sym (second_at names image p x xs s m is taken) ∙ ap (λ o. unless_second x.line o (second_more names image p x xs s m)) (ap second_fault (sym doubt) ∙ found)

-- ---- places

abbrev place_at : NameTable → Position → NumberedStatement → StatementParts → Measure → List Placement
place_at names p x s m = placement_of (placement x.line p.address (emitted names p.address m.next s.deed).bytes) s

abbrev place_step : NameTable → Position → NumberedStatement → List NumberedStatement → StatementParts → Measure → List Placement
place_step names p x xs s m = place_at names p x s m ++ last_or (is_end_statement s.deed) [] (places_from names (position_after p x.line s.deed m) xs)

place_is : (names : NameTable) (p : Position) (x : NumberedStatement) (xs : List NumberedStatement) (s : StatementParts) (m : Measure) → s ≡ statement_of p x → m ≡ measured names p.address s.deed
    → place_step names p x xs s m ≡ places_from names p (x ∷ xs)
place_is names p x xs s m is taken = ap (place_step names p x xs s) taken ∙ ap (λ (t : StatementParts). place_step names p x xs t (measured names p.address t.deed)) is

pub place-on : (names : NameTable) (front after : List Placement) (p : Position) (x : NumberedStatement) (xs : List NumberedStatement) (s : StatementParts) (m : Measure) (q : Position)
    → s ≡ statement_of p x → m ≡ measured names p.address s.deed → is_end_statement s.deed ≡ false
    → after ≡ front ++ placement_of (placement x.line p.address (emitted names p.address m.next s.deed).bytes) s → q ≡ position_after p x.line s.deed m
    → after ++ places_from names q xs ≡ front ++ places_from names p (x ∷ xs)
place-on names front after p x xs s m q is taken on added there =
    let own = place_at names p x s m in
    ap (λ (ps : List Placement). ps ++ places_from names q xs) added
    ∙ append_assoc front own (places_from names q xs)
    ∙ ap (λ r. front ++ (own ++ places_from names r xs)) there
    ∙ sym (ap (λ b. front ++ (own ++ last_or b [] (places_from names (position_after p x.line s.deed m) xs))) on)
    ∙ ap (λ (ps : List Placement). front ++ ps) (place_is names p x xs s m is taken)

pub place-last : (names : NameTable) (front after : List Placement) (p : Position) (x : NumberedStatement) (xs : List NumberedStatement) (s : StatementParts) (m : Measure)
    → s ≡ statement_of p x → m ≡ measured names p.address s.deed → is_end_statement s.deed ≡ true
    → after ≡ front ++ placement_of (placement x.line p.address (emitted names p.address m.next s.deed).bytes) s
    → after ≡ front ++ places_from names p (x ∷ xs)
place-last names front after p x xs s m is taken last added =
    let own = place_at names p x s m in
    added ∙ ap (λ (ps : List Placement). front ++ ps) (sym (append-nil own))
    ∙ sym (ap (λ b. front ++ (own ++ last_or b [] (places_from names (position_after p x.line s.deed m) xs))) last)
    ∙ ap (λ (ps : List Placement). front ++ ps) (place_is names p x xs s m is taken)
