-- The tokens of a text, with or without blanks between them.
-- CP/M 2.2 Operating System Manual, "CP/M Assembler", "Forming the Operand"
use Rattle.std.specs.Prelude.{ℕ, zero, suc, ◌==◌, if◌then◌else◌, List, [], ◌∷◌, length, Option, Some, None, option_map, option_and_then}
use Rattle.std.specs.Char.{is_ascii_digit}
use Rattle.cpm_asm_expression.specs.Letters.{after_blanks, begins_name, short_letters, split_word}
use Rattle.cpm_asm_expression.specs.Names.{name_with}
use Rattle.cpm_asm_expression.specs.Numbers.{number_of}
use Rattle.cpm_asm_expression.specs.Quotes.{is_quote, quoted_text, text_number}
use Rattle.cpm_asm_expression.specs.Words.{keyword_of}
use Rattle.cpm_asm_expression.specs.declared.tokens.Atom.TheVariants as atoms
use Rattle.cpm_asm_expression.specs.declared.tokens.Operator.TheVariants as operators
use Rattle.cpm_asm_expression.specs.declared.tokens.Token.{Token}
use Rattle.cpm_asm_expression.specs.declared.tokens.Token.TheVariants as tokens
use Rattle.cpm_asm_expression.specs.declared.words.Keyword.{Keyword}
use Rattle.cpm_asm_expression.specs.declared.words.Keyword.TheVariants as k

-- a word is a name or an operator; registers, directives and mnemonics have no place in an expression
abbrev pub word_meaning : List ℕ → Option Keyword → Option Token
word_meaning letters None = Some (tokens.Atom (atoms.Named (name_with letters)))
word_meaning letters (Some (k.Operator o)) = Some (tokens.Operator o)
word_meaning letters (Some k.Not) = Some tokens.Not
word_meaning letters (Some (k.Register r)) = None
word_meaning letters (Some (k.Operation o)) = None

abbrev pub word_token : List ℕ → Option Token
word_token word = option_and_then (λ letters. word_meaning letters (keyword_of letters)) (short_letters word)

-- + - * / ( ) $
abbrev pub sign_token : ℕ → Option Token
sign_token b =
    if b == 0x2B then Some (tokens.Operator operators.Add)
    else if b == 0x2D then Some (tokens.Operator operators.Subtract)
    else if b == 0x2A then Some (tokens.Operator operators.Multiply)
    else if b == 0x2F then Some (tokens.Operator operators.Divide)
    else if b == 0x28 then Some tokens.Open
    else if b == 0x29 then Some tokens.Close
    else if b == 0x24 then Some (tokens.Atom atoms.Here)
    else None

abbrev pub with_rest : {X : Type 0} → Option X → List ℕ → Option (X × List ℕ)
with_rest token rest = option_map (λ t. (t, rest)) token

abbrev pub number_token : Option ℕ → Option Token
number_token number = option_map (λ n. tokens.Atom (atoms.Number n)) number

-- the token at the front of a text that begins with no blank, and the text after it
abbrev pub first_token : List ℕ → Option (Token × List ℕ)
first_token [] = None
first_token (b ∷ rest) =
    if begins_name b then with_rest (word_token (split_word (b ∷ rest)).0) (split_word (b ∷ rest)).1
    else if is_ascii_digit b then with_rest (number_token (number_of (split_word (b ∷ rest)).0)) (split_word (b ∷ rest)).1
    else if is_quote b then option_and_then (λ p. with_rest (number_token (text_number p.0)) p.1) (quoted_text rest)
    else with_rest (sign_token b) rest

-- a token, and those of what follows it
abbrev pub tokens_joined : Option (Token × List ℕ) → (List ℕ → Option (List Token)) → Option (List Token)
tokens_joined None next = None
tokens_joined (Some p) next = option_map (λ ts. p.0 ∷ ts) (next p.1)

abbrev pub tokens_or_end : List ℕ → (List ℕ → Option (List Token)) → Option (List Token)
tokens_or_end [] next = Some []
tokens_or_end (b ∷ bs) next = tokens_joined (first_token (b ∷ bs)) next

-- the tokens of a text of fewer bytes than a number; None where a part of it is no token
abbrev pub tokens_below : ℕ → List ℕ → Option (List Token)
tokens_below zero text = None
tokens_below (suc n) text = tokens_or_end (after_blanks text) (λ rest. tokens_below n rest)

unfoldable pub tokens_of : List ℕ → Option (List Token)
tokens_of text = tokens_below (suc (length text)) text
