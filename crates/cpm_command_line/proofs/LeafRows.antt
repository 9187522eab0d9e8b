-- The rows that words with no fault give a command without subcommands.
use Rattle.std.proofs.Common.{◌≡◌, ◌⊎◌, inl, inr, ◌&&◌, ◌||◌, ℕ, sym, subst, ap, refl, ◌∙◌, Bool, true, false, cond, not, List, [], ◌∷◌, Some, None, IsSome, is_some, codes}
use Rattle.std.specs.Str.{bytes_eq}
use Rattle.clap.specs.Walk.{Row, Rule, Text, action_of, arg_by_short, first_of, has_row, has_short, nothing_held, one_of, rows_after, settled, takes_values, walk}
use Rattle.clap.specs.Simple.{Shape, filled, help_rule}
use Rattle.clap.specs.Takes.{is_given}
use Rattle.clap.specs.declared.builder.action.ArgAction.TheVariants.{Help}
use Rattle.clap.specs.Kinds.{check_kinds}
use Rattle.clap.specs.Faults.{check_fault, level_fault}
use Rattle.cpm_command_line.specs.CommandLine.{IsFlag, flag}
use Rattle.cpm_command_line.proofs.FilledRows.{AllFilled, HasFirst, HasText, IsIn, IsPlain, IsSetting, defaults_have, given_has, no_row, same_bytes, text_filled}
use Rattle.cpm_command_line.proofs.WalkRows.{HasHelpShorts, level_checked, level_filled}

module _ (s : Shape) (plain : IsPlain s.rules) (shorts : HasHelpShorts s.rules) (words : List Text) (e : level_fault s [] nothing_held words false [] ≡ []) where
  rows : List Row
  rows = rows_after s.rules [] words

  all : AllFilled s.rules (rows_after s.rules [] words)
  all = level_filled s plain shorts [] nothing_held words false [] e tt

  -- what is required was given
  pub leaf_checked : check_fault s (rows_after s.rules [] words) false ≡ []
  leaf_checked = (level_checked s [] nothing_held words false [] e).1

  -- an argument that was given has a first text
  pub given_text : (a : Rule) → IsIn s.rules a → is_given a.id (rows_after s.rules [] words) ≡ true → HasText a (rows_after s.rules [] words)
  given_text a among given = text_filled s.rules plain a among (rows_after s.rules [] words) all (given_has a.id (rows_after s.rules [] words) given)

  pub given_first : (a : Rule) → IsIn s.rules a → is_given a.id (rows_after s.rules [] words) ≡ true → IsSome (first_of a.id (rows_after s.rules [] words))
  given_first a among given = subst IsSome (sym (given_text a among given).first) refl

  -- an argument with a default has a text
  pub default_text : (a : Rule) → IsIn s.rules a → HasFirst a.defaults → HasText a (rows_after s.rules [] words)
  default_text a among first = text_filled s.rules plain a among (rows_after s.rules [] words) all
      (defaults_have s.rules a among first (settled s.rules (walk s.rules [] nothing_held words).held).rows)

  -- an argument without a default has a text, or none
  pub text_or_none : (a : Rule) → IsIn s.rules a → (one_of a.id (rows_after s.rules [] words) ≡ None) ⊎ HasText a (rows_after s.rules [] words)
  text_or_none a among = go (has_row a.id (rows_after s.rules [] words)) refl
    where
      go : (b : Bool) → has_row a.id (rows_after s.rules [] words) ≡ b
          → (one_of a.id (rows_after s.rules [] words) ≡ None) ⊎ HasText a (rows_after s.rules [] words)
      go true e = inr (text_filled s.rules plain a among (rows_after s.rules [] words) all e)
      go false e = inl (no_row a.id (rows_after s.rules [] words) e)

-- ---- flags

abbrev pub flag_rule : Text → Rule
flag_rule name = filled (flag name)

-- the entry of a flag is one of two texts
pub flag_in : (name : Text) (rows : List Row) → HasText (flag_rule name) rows → IsFlag (one_of name rows)
flag_in name rows has = go (bytes_eq has.text (codes "true")) refl has.passes
  where
    go : (b : Bool) → bytes_eq has.text (codes "true") ≡ b → (b || bytes_eq has.text (codes "false")) ≡ true → IsFlag (one_of name rows)
    go true e pass = record { value = true; given = has.one ∙ ap (λ (v : Text). Some v) (same_bytes _ _ e) }
    go false e pass = record { value = false; given = has.one ∙ ap (λ (v : Text). Some v) (same_bytes _ _ pass) }

pub flag_word : (name : Text) → IsSetting (flag_rule name)
flag_word name = record { action = inr (inl refl); values = inr (inl tt) }

-- ---- the flag for help

pub help_word : IsSetting (filled help_rule)
help_word = record { action = inr (inr (inr refl)); values = inr (inr refl) }

-- an argument that is found where it stands alone is that flag
pub help_found : (x : ℕ) (a : Rule) → arg_by_short (filled help_rule ∷ []) x ≡ Some a → (action_of a ≡ Help) × (takes_values a ≡ false)
help_found x a is = go (not (is_some (filled help_rule).index) && has_short (filled help_rule) x) is
  where
    go : (b : Bool) → cond b (Some (filled help_rule)) None ≡ Some a → (action_of a ≡ Help) × (takes_values a ≡ false)
    go true h =
        let same : filled help_rule ≡ a = cc in
        (subst (λ (r : Rule). action_of r ≡ Help) same refl, subst (λ (r : Rule). takes_values r ≡ false) same refl)
    go false h = absurd (let bad : ⊥ = cc in bad)

-- ---- the last check, where one word is required, and where two are

pub one_given : (b : Bool) → check_kinds false false ((true && not b) || false) ≡ [] → b ≡ true
one_given true h = refl
one_given false h = absurd (let bad : ⊥ = cc in bad)

pub both_given : (a b : Bool) → check_kinds false false ((true && not a) || ((true && not b) || false)) ≡ [] → (a ≡ true) × (b ≡ true)
both_given true true h = (refl, refl)
both_given true false h = absurd (let bad : ⊥ = cc in bad)
both_given false b h = absurd (let bad : ⊥ = cc in bad)
