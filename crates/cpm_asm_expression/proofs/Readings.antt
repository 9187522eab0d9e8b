-- Reading on, token by token.
use Rattle.std.proofs.Common.{arith, ◌≡◌, ◌<◌, ℕ, List, [], ◌∷◌, Option, Some, None, length, refl, ap, ◌∙◌, sym, option_map}
use Rattle.std.specs.Prelude.{option_and_then}
use Rattle.cpm_asm_expression.specs.Names.{NameTable}
use Rattle.cpm_asm_expression.specs.Letters.{after_blanks}
use Rattle.cpm_asm_expression.specs.Tokens.{first_token, tokens_joined, tokens_of, tokens_or_end}
use Rattle.cpm_asm_expression.specs.Reading.{State, Wants, after_token, after_all, value_read, reading, value_at}
use Rattle.cpm_asm_expression.specs.declared.tokens.Token.{Token}
use Rattle.cpm_asm_expression.specs.declared.values.CheckedValue.{CheckedValue}
use Rattle.cpm_asm_expression.proofs.Lexing.{tokens_of-first}

-- the value behind a state, where the rest has tokens
abbrev pub read_on : NameTable → ℕ → State → Option (List Token) → Option CheckedValue
read_on m a s None = None
read_on m a s (Some ts) = value_read (after_all m a s ts)

start : (m : NameTable) (a : ℕ) (o : Option (List Token)) → read_on m a (Wants []) o ≡ option_and_then (reading m a) o
start m a None = refl
start m a (Some ts) = refl

pub reads-start : (m : NameTable) (a : ℕ) (text : List ℕ) → read_on m a (Wants []) (tokens_or_end (after_blanks text) tokens_of) ≡ value_at m a text
unfolding value_at
reads-start m a text = ap (read_on m a (Wants [])) (sym (tokens_of-first text)) ∙ start m a (tokens_of text)

more : (m : NameTable) (a : ℕ) (s : State) (t : Token) (o : Option (List Token)) → read_on m a s (option_map (λ ts. t ∷ ts) o) ≡ read_on m a (after_token m a s t) o
more m a s t None = refl
more m a s t (Some ts) = refl

split : (text : List ℕ) → 0 < length text → tokens_or_end text tokens_of ≡ tokens_joined (first_token text) tokens_of
split [] h = absurd (omega arith)
split (b ∷ bs) h = refl

pub reads-first : (m : NameTable) (a : ℕ) (s : State) (text : List ℕ) (t : Token) (rest : List ℕ) → 0 < length text → first_token text ≡ Some (t, rest)
    → read_on m a s (tokens_or_end text tokens_of) ≡ read_on m a (after_token m a s t) (tokens_or_end (after_blanks rest) tokens_of)
reads-first m a s text t rest h is =
    ap (read_on m a s) (split text h ∙ ap (λ f. tokens_joined f tokens_of) is) ∙ more m a s t (tokens_of rest) ∙ ap (read_on m a (after_token m a s t)) (tokens_of-first rest)
