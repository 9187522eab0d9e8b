-- A listing, part by part.
use Rattle.std.proofs.Common.{◌≡◌, ◌∙◌, ◌++◌, ◌-◌, ap, sym, ℕ, true, List, [], ◌∷◌, length, take, append_assoc, append-nil, length-append, arith}
use Rattle.std.specs.Prelude.{◌==◌, replicate}
use Rattle.std.proofs.lemmas.Bool.{eqb-true}
use Rattle.std.specs.Str.Lines.{lines}
use Rattle.cpm_listing.specs.Digits.{padded}
use Rattle.cpm_asm.specs.declared.placed.Placement.{Placement}
use Rattle.cpm_host.specs.AsmListing.{digits_of, front, head, lines_after}
use Rattle.cpm_host.specs.declared.asm_listing.Cell.{Cell}

-- what stands before a line, and the spaces behind it
pub front_is : (text headed shown whole : List ℕ) (cells first : List Cell) (ps : List Placement) (begun : ℕ) → begun ≡ length text
    → headed ≡ text ++ head cells ps → shown ≡ headed ++ digits_of first → first ≡ take 8 cells → whole ≡ shown ++ replicate (24 - (length shown - begun)) 32
    → whole ≡ text ++ front cells ps
unfolding padded
front_is text headed shown whole cells first ps begun start with_head with_digits is_first with_spaces =
    let own = head cells ps ++ digits_of (take 8 cells) in
    let all : shown ≡ text ++ own =
    with_digits ∙ ap (λ (t : List ℕ). t ++ digits_of first) with_head ∙ append_assoc text (head cells ps) (digits_of first)
    ∙ ap (λ (cs : List Cell). text ++ (head cells ps ++ digits_of cs)) is_first in
    let size = ap (λ (t : List ℕ). length t) all in
    let width : length shown - begun ≡ length own = omega (arith, size, start, length-append text own) in
    with_spaces ∙ ap (λ (n : ℕ). shown ++ replicate (24 - n) 32) width
    ∙ ap (λ (t : List ℕ). t ++ replicate (24 - length own) 32) all ∙ append_assoc text own (replicate (24 - length own) 32)

-- where nothing is left, all lines were added
pub lines_end : (image text whole rest : List ℕ) (number : ℕ) (ps : List Placement) → true ≡ (length rest == 0) → text ++ lines_after image number (lines rest) ps ≡ whole → text ≡ whole
lines_end image text whole [] number ps none same = sym (append-nil text) ∙ same
lines_end image text whole (b ∷ bs) number ps none same = absurd (omega (arith, eqb-true (length (b ∷ bs)) 0 (sym none)))
