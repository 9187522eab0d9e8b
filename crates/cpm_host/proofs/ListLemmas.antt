-- A listing, instruction by instruction.
use Rattle.std.proofs.Common.{◌≡◌, ◌∙◌, ◌++◌, ap, sym, subst, refl, ℕ, zero, suc, ◌+◌, ◌-◌, ◌%◌, ◌<◌, ◌≤◌, true, false, List, [], ◌∷◌, Option, length, drop, min, arith, ⊎_elim}
use Rattle.std.proofs.lemmas.Bool.{cases_lt, eqb-true}
use Rattle.std.specs.Prelude.{◌==◌}
use Rattle.std.proofs.lemmas.List.{append_assoc, append-nil, length-drop, drop_all}
use Rattle.std.proofs.KnownBytes.{Appends-nil, Appends-trans}
use Rattle.std.specs.Io.KnownBytes.{Appends}
use Rattle.cpm_flags.specs.declared.regs.Cpu.{Cpu}
use Rattle.cpm_listing.specs.Instruction.{instruction_length, instruction_line}
use Rattle.cpm_host.specs.Listing.{four, program_listing}

-- ---- what is passed over

pub listing_left : (cpu : Cpu) (place left : ℕ) (bs : List ℕ) → program_listing cpu place left bs ≡ program_listing cpu (place + left) 0 (drop left bs)
listing_left cpu place zero [] = refl
listing_left cpu place zero (b ∷ bs) = let same : place ≡ place + 0 = omega arith in ap (λ p. program_listing cpu p 0 (b ∷ bs)) same
listing_left cpu place (suc left) [] = refl
listing_left cpu place (suc left) (b ∷ bs) =
    let same : suc place + left ≡ place + suc left = omega arith in
    listing_left cpu (suc place) left bs ∙ ap (λ p. program_listing cpu p 0 (drop left bs)) same

-- a line, and the rest
pub listing_first : (cpu : Cpu) (place : ℕ) (b : ℕ) (bs : List ℕ) → 1 ≤ instruction_length cpu (four (b ∷ bs))
    → program_listing cpu place 0 (b ∷ bs) ≡ instruction_line cpu (place % 65536) (four (b ∷ bs)) ++ 10 ∷ program_listing cpu (place + instruction_length cpu (four (b ∷ bs))) 0 (drop (instruction_length cpu (four (b ∷ bs))) (b ∷ bs))
listing_first cpu place b bs some = go (instruction_length cpu (four (b ∷ bs))) some
  where
    line : List ℕ
    line = instruction_line cpu (place % 65536) (four (b ∷ bs))

    go : (n : ℕ) → 1 ≤ n → line ++ 10 ∷ program_listing cpu (suc place) (n - 1) bs ≡ line ++ 10 ∷ program_listing cpu (place + n) 0 (drop n (b ∷ bs))
    go zero h = absurd (omega (arith, h))
    go (suc n) h =
        let same : suc place + n ≡ place + suc n = omega arith in
        let left : suc n - 1 ≡ n = omega arith in
        ap (λ xs. line ++ 10 ∷ xs) (ap (λ k. program_listing cpu (suc place) k bs) left ∙ listing_left cpu (suc place) n bs ∙ ap (λ p. program_listing cpu p 0 (drop n bs)) same)

-- ---- lines that were written

-- The lines of all bytes but the rest were written.
pub record IsListed (cpu : Cpu) (bytes rest : List ℕ) (before now : Option (List ℕ)) : Type 0 where
  pub text : List ℕ
  pub written : Appends before now text
  pub whole : text ++ program_listing cpu (256 + (length bytes - length rest)) 0 rest ≡ program_listing cpu 256 0 bytes
  pub within : length rest ≤ length bytes

pub IsListed-none : (cpu : Cpu) (bytes : List ℕ) (known : Option (List ℕ)) → IsListed cpu bytes bytes known known
IsListed-none cpu bytes known =
    let first : 256 + (length bytes - length bytes) ≡ 256 = omega arith in
    record { text = []; written = Appends-nil known; whole = ap (λ p. program_listing cpu p 0 bytes) first; within = omega arith }

-- what is left behind an instruction, which may be cut off
left_behind : (cpu : Cpu) (bytes rest : List ℕ) (n : ℕ) → length rest ≤ length bytes
    → program_listing cpu (256 + (length bytes - length (drop (min n (length rest)) rest))) 0 (drop (min n (length rest)) rest)
    ≡ program_listing cpu (256 + (length bytes - length rest) + n) 0 (drop n rest)
left_behind cpu bytes rest n within = ⊎_elim
    (λ (lt : length rest < n).
    let all : min n (length rest) ≡ length rest = omega arith in
    let none : drop (min n (length rest)) rest ≡ [] = ap (λ k. drop k rest) all ∙ drop_all (length rest) rest (omega arith) in
    let gone : drop n rest ≡ [] = drop_all n rest (omega arith) in
    ap (λ xs. program_listing cpu (256 + (length bytes - length (drop (min n (length rest)) rest))) 0 xs) none ∙ ap (λ xs. program_listing cpu (256 + (length bytes - length rest) + n) 0 xs) (sym gone))
    (λ ge.
    let count : min n (length rest) ≡ n = omega arith in
    let long : length (drop n rest) ≡ length rest - n = length-drop n rest in
    let place : 256 + (length bytes - length (drop n rest)) ≡ 256 + (length bytes - length rest) + n = omega arith in
    ap (λ k. program_listing cpu (256 + (length bytes - length (drop k rest))) 0 (drop k rest)) count ∙ ap (λ p. program_listing cpu p 0 (drop n rest)) place)
    (cases_lt (length rest) n)

-- the lines of what is left, the first of which is that of an instruction
listing_next : (cpu : Cpu) (place : ℕ) (rest : List ℕ) → (rest ≡ [] → ⊥) → 1 ≤ instruction_length cpu (four rest)
    → program_listing cpu place 0 rest ≡ instruction_line cpu (place % 65536) (four rest) ++ 10 ∷ program_listing cpu (place + instruction_length cpu (four rest)) 0 (drop (instruction_length cpu (four rest)) rest)
listing_next cpu place [] some h = absurd (some refl)
listing_next cpu place (b ∷ bs) some h = listing_first cpu place b bs h

pub IsListed-more : (cpu : Cpu) (bytes rest : List ℕ) (before middle now : Option (List ℕ)) → IsListed cpu bytes rest before middle → (rest ≡ [] → ⊥) → 1 ≤ instruction_length cpu (four rest)
    → Appends middle now (instruction_line cpu ((256 + (length bytes - length rest)) % 65536) (four rest) ++ 10 ∷ [])
    → IsListed cpu bytes (drop (min (instruction_length cpu (four rest)) (length rest)) rest) before now
IsListed-more cpu bytes rest before middle now h some has writes =
    let place = 256 + (length bytes - length rest) in
    let n = instruction_length cpu (four rest) in
    let line = instruction_line cpu (place % 65536) (four rest) in
    let next = drop (min n (length rest)) rest in
    let short : length next ≡ length rest - min n (length rest) = length-drop (min n (length rest)) rest in
    let within = h.within in
    record {
      text = h.text ++ (line ++ 10 ∷ []);
      written = Appends-trans before middle now h.text (line ++ 10 ∷ []) h.written writes;
      whole = ap (λ xs. (h.text ++ (line ++ 10 ∷ [])) ++ xs) (left_behind cpu bytes rest n h.within)
          ∙ append_assoc h.text (line ++ 10 ∷ []) (program_listing cpu (place + n) 0 (drop n rest))
          ∙ ap (λ xs. h.text ++ xs) (append_assoc line (10 ∷ []) (program_listing cpu (place + n) 0 (drop n rest)) ∙ sym (listing_next cpu place rest some has))
          ∙ h.whole;
      within = omega arith;
    }

-- where nothing is left, all lines were written
pub IsListed-all : (cpu : Cpu) (bytes rest : List ℕ) (before now : Option (List ℕ)) → IsListed cpu bytes rest before now → rest ≡ [] → Appends before now (program_listing cpu 256 0 bytes)
IsListed-all cpu bytes rest before now h none =
    let gone : program_listing cpu (256 + (length bytes - length rest)) 0 rest ≡ [] = ap (λ xs. program_listing cpu (256 + (length bytes - length rest)) 0 xs) none in
    let all : h.text ≡ program_listing cpu 256 0 bytes = sym (append-nil h.text) ∙ ap (λ xs. h.text ++ xs) (sym gone) ∙ h.whole in
    subst (λ xs. Appends before now xs) all h.written

-- ---- what is left, by the test of the loop

pub some_left : (xs : List ℕ) → false ≡ (length xs == 0) → xs ≡ [] → ⊥
some_left [] e h = let bad : ⊥ = cc in bad
some_left (x ∷ xs) e h = let bad : ⊥ = cc in bad

pub none_left : (xs : List ℕ) → true ≡ (length xs == 0) → xs ≡ []
none_left [] e = refl
none_left (x ∷ xs) e = absurd (omega (arith, eqb-true (length (x ∷ xs)) 0 (sym e)))

pub less_left : (n : ℕ) (xs : List ℕ) → 1 ≤ n → (xs ≡ [] → ⊥) → length (drop (min n (length xs)) xs) < length xs
less_left n [] h some = absurd (some refl)
less_left n (x ∷ xs) h some = let long = length-drop (min n (length (x ∷ xs))) (x ∷ xs) in omega (arith, long, h)
