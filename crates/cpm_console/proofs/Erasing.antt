-- What is typed and then erased.
use Rattle.std.proofs.Common.{◌≡◌, ℕ, zero, suc, ◌+◌, ◌-◌, List, [], ◌∷◌, ◌++◌, length, refl, sym, ap, ◌∙◌, arith}
use Rattle.std.proofs.lemmas.List.{append-nil, length-append}
use Rattle.std.proofs.Math.Seq.{take-append_seam, drop-append_seam}
use Rattle.cpm_console.specs.Terminal.{Terminal, said}
use Rattle.cpm_console.specs.EditedLine.{EditedLine}
use Rattle.cpm_console.specs.Editing.{edited, emptied, echo, echo_at, columns, erasure, last_echo, typed_echo, with_character, without_last}
use Rattle.cpm_console.specs.declared.line.LineState.TheVariants.{GoesOn}
use Rattle.cpm_console.specs.Laws.{IsErasedAsTyped}
use Rattle.cpm_console.proofs.Said.{said-said, echo-append}

last_place : (xs : List ℕ) (c : ℕ) → length (xs ++ c ∷ []) - 1 ≡ length xs
last_place xs c = omega (arith, length-append xs (c ∷ []))

without_last-with_character : (l : EditedLine) (c : ℕ) → without_last (with_character l c) ≡ l
without_last-with_character l c =
    rw (last_place l.characters c, take-append_seam l.characters (c ∷ [])) refl

last_echo-with_character : (l : EditedLine) (c : ℕ) → last_echo (with_character l c) ≡ typed_echo l c
last_echo-with_character l c =
    rw (last_place l.characters c, take-append_seam l.characters (c ∷ []), drop-append_seam l.characters (c ∷ [])) (append-nil (echo_at (columns l.start l.characters) c))

erasure-plus : (m n : ℕ) → erasure (m + n) ≡ erasure m ++ erasure n
erasure-plus zero n =
    let none : 0 + n ≡ n = omega arith in
    ap erasure none
erasure-plus (suc m) n =
    let more : suc m + n ≡ suc (m + n) = omega arith in
    ap erasure more ∙ ap (λ xs. 8 ∷ 32 ∷ 8 ∷ xs) (erasure-plus m n)

-- the columns of a line with a character more
columns_taken : (l : EditedLine) (c : ℕ) → length (echo l.start (l.characters ++ c ∷ [])) ≡ length (typed_echo l c) + length (echo l.start l.characters)
columns_taken l c =
    let parts = echo-append l.start l.characters (c ∷ []) in
    let last = append-nil (echo_at (columns l.start l.characters) c) in
    omega (arith, ap length parts, ap length last, length-append (echo l.start l.characters) (echo_at (columns l.start l.characters) c ++ []))

in_turn : (t : Terminal) (l : EditedLine) (c : ℕ) → said t (erasure (length (echo l.start (l.characters ++ c ∷ [])))) ≡ said (said t (erasure (length (last_echo (with_character l c))))) (erasure (length (echo l.start l.characters)))
in_turn t l c =
    rw (columns_taken l c, last_echo-with_character l c, erasure-plus (length (typed_echo l c)) (length (echo l.start l.characters))) (sym (said-said t (erasure (length (typed_echo l c))) (erasure (length (echo l.start l.characters)))))

pub erased_as_typed : (t : Terminal) (l : EditedLine) (c : ℕ) → IsErasedAsTyped t l c
erased_as_typed t l c =
    record { line = without_last-with_character l c; echo = last_echo-with_character l c; in_turn = ap (λ (u : Terminal). edited u (emptied l) GoesOn) (in_turn t l c) }
