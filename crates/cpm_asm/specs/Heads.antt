-- The front of a statement: [label[:]] [operation].
-- CP/M 2.2 Operating System Manual, "CP/M Assembler", "Program Format" and "Labels"
use Rattle.std.specs.Prelude.{ℕ, Bool, ◌==◌, if◌then◌else◌, List, [], ◌∷◌, length, Option, None, Some}
use Rattle.cpm_asm_expression.specs.Letters.{after_blanks, begins_name, short_letters, split_word}
use Rattle.cpm_asm_expression.specs.Names.{name_with}
use Rattle.cpm_asm_expression.specs.Words.{keyword_of}
use Rattle.cpm_asm_expression.specs.declared.names.Name.{Name}
use Rattle.cpm_asm_expression.specs.declared.words.Keyword.{Keyword}
use Rattle.cpm_asm_expression.specs.declared.words.Keyword.TheVariants as k
use Rattle.cpm_asm_expression.specs.declared.words.Operation.{Operation}
use Rattle.cpm_asm.specs.declared.word.FirstWord.{FirstWord}
use Rattle.cpm_asm.specs.declared.word.FirstWord.TheVariants as first
use Rattle.cpm_asm.specs.declared.head.Head.{Head}

-- what stands at the front of a text: nothing, a word and what follows it, or something else
pub data Front : Type 0 where
  Nothing : Front
  Word : List ℕ → List ℕ → Front
  Other : Front

abbrev pub seen_word : FirstWord → Front
seen_word first.Nothing = Nothing
seen_word (first.Word letters after) = Word letters.items after.now
seen_word first.Other = Other

abbrev pub as_word : Option (List ℕ) → List ℕ → Front
as_word None after = Other
as_word (Some letters) after = Word letters after

abbrev pub front_of : List ℕ → Front
front_of [] = Nothing
front_of (b ∷ rest) = if begins_name b then as_word (short_letters (split_word (b ∷ rest)).0) (split_word (b ∷ rest)).1 else Other

abbrev pub word_front : List ℕ → Front
word_front text = front_of (after_blanks text)

abbrev pub is_blank_text : List ℕ → Bool
is_blank_text text = length (after_blanks text) == 0

-- without a colon
abbrev pub without_colon : List ℕ → List ℕ
without_colon [] = []
without_colon (b ∷ rest) = if b == 0x3A then rest else b ∷ rest

abbrev pub after_colon : List ℕ → List ℕ
after_colon text = without_colon (after_blanks text)

-- the front of a statement, and the text of its operands
pub record StatementHead : Type 0 where
  pub label : Option Name
  pub operation : Option Operation
  pub operands : List ℕ

abbrev pub seen_head : Head → StatementHead
seen_head head = record { label = head.label; operation = head.operation; operands = head.operands.now }

abbrev pub with_operation : Option Name → Option Keyword → List ℕ → Option StatementHead
with_operation label (Some (k.Operation o)) after = Some (record { label = label; operation = Some o; operands = after })
with_operation label _ after = None

abbrev pub behind_label_front : Name → Front → Option StatementHead
behind_label_front label Nothing = Some (record { label = Some label; operation = None; operands = [] })
behind_label_front label (Word letters after) = with_operation (Some label) (keyword_of letters) after
behind_label_front label Other = None

-- after a label stands an operation or nothing
abbrev pub behind_label : Name → List ℕ → Option StatementHead
behind_label label text = behind_label_front label (word_front text)

-- a first word that is no operation is a label; a register isn't one
abbrev pub by_keyword : List ℕ → Option Keyword → List ℕ → Option StatementHead
by_keyword letters (Some (k.Operation o)) after = Some (record { label = None; operation = Some o; operands = after })
by_keyword letters (Some (k.Register r)) after = None
by_keyword letters (Some (k.Operator o)) after = behind_label (name_with letters) (after_colon after)
by_keyword letters (Some k.Not) after = behind_label (name_with letters) (after_colon after)
by_keyword letters None after = behind_label (name_with letters) (after_colon after)

abbrev pub head_front : Front → Option StatementHead
head_front Nothing = Some (record { label = None; operation = None; operands = [] })
head_front (Word letters after) = by_keyword letters (keyword_of letters) after
head_front Other = None

-- the front of a statement; None where a text does not begin as one
abbrev pub statement_front : List ℕ → Option StatementHead
statement_front text = head_front (word_front text)
