-- The bytes at the places, one after another, are the image.
use Rattle.std.proofs.Common.{◌≡◌, ℕ, Bool, true, false, List, [], ◌∷◌, ◌++◌, length, ap, sym, ◌∙◌, refl, subst}
use Rattle.std.specs.Prelude.{Result, Ok, Err, ◌||◌, if◌then◌else◌, is_ok, is_some}
use Rattle.std.specs.List.{All}
use Rattle.std.proofs.lemmas.Bool.{true≢false}
use Rattle.std.proofs.lemmas.List.Elements.{All-nil, All-cons, All-append}
use Rattle.cpm_asm_expression.specs.Names.{NameTable, no_names}
use Rattle.cpm_asm.specs.Pieces.{NumberedStatement, pieces}
use Rattle.cpm_asm.specs.Statements.{Deed, Wrong, Nothing, End, Origin, Equate, If, EndIf, Nest, Unnest, Space, Bytes, Words, Plain, Byte, Word, Restart}
use Rattle.cpm_asm.specs.Emitting.{emitted}
use Rattle.cpm_asm.specs.Places.{start}
use Rattle.cpm_asm.specs.Passes.{position_behind, both_passes, first_pass, bytes_given, is_end_statement, laid, last_or, statement_of, second_behind, measure_of, with_statement_bytes}
use Rattle.cpm_asm.specs.Assembled.{EachLies, LiesAt, UnlessLast, image_from}
use Rattle.cpm_asm.specs.Placing.{ArePlaces, IsFilled, has_place, own_place, placement, places, places_behind, places_from, relaid, takes_place}
use Rattle.cpm_asm.specs.declared.place.Position.{Position}
use Rattle.cpm_asm.specs.declared.placed.Placement.{Placement}
use Rattle.cpm_asm.specs.declared.error.AsmError.{AsmError}
use Rattle.cpm_asm.proofs.OneTable.{from_passes}

-- ---- what has no place has no bytes

no_bytes : (t : NameTable) (a next : ℕ) (d : Deed) → takes_place d ≡ false → (emitted t a next d).bytes ≡ []
unfolding emitted
no_bytes t a next Wrong h = refl
no_bytes t a next Nothing h = refl
no_bytes t a next End h = refl
no_bytes t a next (Origin e) h = refl
no_bytes t a next (Equate e) h = refl
no_bytes t a next (If e) h = refl
no_bytes t a next EndIf h = refl
no_bytes t a next Nest h = refl
no_bytes t a next Unnest h = refl
no_bytes t a next (Space e) h = absurd (true≢false h)
no_bytes t a next (Bytes list) h = absurd (true≢false h)
no_bytes t a next (Words list) h = absurd (true≢false h)
no_bytes t a next (Plain i) h = absurd (true≢false h)
no_bytes t a next (Byte f e) h = absurd (true≢false h)
no_bytes t a next (Word f e) h = absurd (true≢false h)
no_bytes t a next (Restart e) h = absurd (true≢false h)

second_of : (x y : Bool) → (x || y) ≡ false → y ≡ false
second_of true y h = absurd (true≢false h)
second_of false y h = h

laid_nothing : (front : List ℕ) (a : ℕ) → laid front a [] ≡ front
unfolding laid
laid_nothing front a = refl

-- ---- a statement

relaid_own : (has : Bool) (image front bytes : List ℕ) (line a : ℕ) (more : List Placement) → LiesAt image a bytes → (has ≡ false → bytes ≡ [])
    → relaid image front ((if has then placement line a bytes ∷ [] else []) ++ more) ≡ relaid image (laid front a bytes) more
relaid_own true image front bytes line a more lies none = ap (λ (bs : List ℕ). relaid image (laid front a bs) more) lies
relaid_own false image front bytes line a more lies none =
    ap (λ (f : List ℕ). relaid image f more) (sym (laid_nothing front a)) ∙ ap (λ (bs : List ℕ). relaid image (laid front a bs) more) (sym (none refl))

filled_own : (has : Bool) (image bytes : List ℕ) (line a : ℕ) → LiesAt image a bytes → All (IsFilled image) (if has then placement line a bytes ∷ [] else [])
filled_own true image bytes line a lies = All-cons (IsFilled image) (placement line a bytes) [] (ap length lies) (All-nil (IsFilled image))
filled_own false image bytes line a lies = All-nil (IsFilled image)

-- ---- all statements

relaid_last : (last : Bool) (image wider rest : List ℕ) (more : List Placement) → (last ≡ false → relaid image wider more ≡ rest) → relaid image wider (last_or last [] more) ≡ last_or last wider rest
relaid_last true image wider rest more later = refl
relaid_last false image wider rest more later = later refl

lies_later : (last : Bool) (More : Type 0) → UnlessLast last More → last ≡ false → More
lies_later true More h is = absurd (true≢false is)
lies_later false More h is = h

relaid_from : (t : NameTable) (xs : List NumberedStatement) (image front : List ℕ) (p : Position) → EachLies t image p xs → relaid image front (places_from t p xs) ≡ image_from t front p xs
relaid_from t [] image front p each = refl
relaid_from t (x ∷ xs) image front p each =
    let s = statement_of p x in
    let last = is_end_statement s.deed in
    relaid_own (has_place s) image front (bytes_given t p x).bytes x.line p.address (last_or last [] (places_from t (position_behind t p x) xs)) each.0
    (λ none. no_bytes t p.address (measure_of t p x).next s.deed (second_of (is_some s.label) (takes_place s.deed) none))
    ∙ relaid_last last image (with_statement_bytes t front p x) (image_from t (with_statement_bytes t front p x) (position_behind t p x) xs) (places_from t (position_behind t p x) xs)
    (λ on. relaid_from t xs image (with_statement_bytes t front p x) (position_behind t p x) (lies_later last (EachLies t image (position_behind t p x) xs) each.1 on))

filled_last : (last : Bool) (image : List ℕ) (more : List Placement) → (last ≡ false → All (IsFilled image) more) → All (IsFilled image) (last_or last [] more)
filled_last true image more later = All-nil (IsFilled image)
filled_last false image more later = later refl

filled_from : (t : NameTable) (xs : List NumberedStatement) (image : List ℕ) (p : Position) → EachLies t image p xs → All (IsFilled image) (places_from t p xs)
filled_from t [] image p each = All-nil (IsFilled image)
filled_from t (x ∷ xs) image p each =
    let last = is_end_statement (statement_of p x).deed in
    All-append (IsFilled image) (own_place t p x) (last_or last [] (places_from t (position_behind t p x) xs)) (filled_own (has_place (statement_of p x)) image (bytes_given t p x).bytes x.line p.address each.0)
    (filled_last last image (places_from t (position_behind t p x) xs) (λ on. filled_from t xs image (position_behind t p x) (lies_later last (EachLies t image (position_behind t p x) xs) each.1 on)))

are_places : (source image : List ℕ) (first : Result NameTable AsmError) → first_pass no_names start (pieces source) ≡ first → second_behind (pieces source) first ≡ Ok image
    → ArePlaces source image (places source)
unfolding places from_passes
are_places source image (Ok names) p h =
    let a = from_passes source image (Ok names) p h in
    let found : places_from names start (pieces source) ≡ places source = sym (ap (places_behind (pieces source)) p) in
    record {
      own = refl;
      filled = subst (All (IsFilled image)) found (filled_from names (pieces source) image start a.places);
      whole = ap (relaid image []) (sym found) ∙ relaid_from names (pieces source) image [] start a.places ∙ sym a.bytes;
    }
are_places source image (Err e) p h = absurd (true≢false (ap is_ok (sym h)))

pub found_places : (source image : List ℕ) (found : List Placement) → both_passes source ≡ Ok image → found ≡ places source → ArePlaces source image found
unfolding both_passes
found_places source image found h is = subst (ArePlaces source image) (sym is) (are_places source image (first_pass no_names start (pieces source)) refl h)
