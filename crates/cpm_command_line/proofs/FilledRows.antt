-- Rows of a parse whose values all passed the parser of an argument of the command.
use Rattle.std.proofs.Common.{◌≡◌, ◌∙◌, ◌&&◌, ◌||◌, ◌++◌, ◌⊎◌, inl, inr, ⊎_elim, ap, sym, subst, refl, ℕ, Bool, true, false, cond, not, true≢false, List, [], ◌∷◌, Some, None, length, nat_lt, arith}
use Rattle.std.specs.Prelude.{⊤, find, fold, option_and_then, option_map, slice_get}
use Rattle.std.specs.List.{list_all, list_any}
use Rattle.std.specs.Option.{option_map_or}
use Rattle.std.specs.Str.{bytes_eq}
use Rattle.std.proofs.lemmas.Bool.{eqb-true}
use Rattle.std.proofs.lemmas.List.Folds.{list_all-append}
use Rattle.std.proofs.lemmas.Slice.Eq.{bytes_eq-Decides}
use Rattle.clap.specs.Facts.{explicit_source, unwrap_or_range}
use Rattle.clap.specs.Walk.{Row, Rule, Text, action_of, default_rows, first_of, has_row, is_empty, more_values, most_values, one_of, reading_by, row_text, stronger, used, used_as, values_or_missing, with_default, with_values, without}
use Rattle.clap.specs.Takes.{is_given, value_passes, values_pass}
use Rattle.clap.specs.ValueTests.{accepts}
use Rattle.clap.specs.Kinds.{Kinds, or_else, range_kinds, request_kinds, value_kinds, values_kinds}
use Rattle.clap.specs.Faults.{action_fault, default_fault, defaults_fault, repeat_fault, use_fault, values_fault}
use Rattle.clap.specs.declared.builder.action.ArgAction.{ArgAction}
use Rattle.clap.specs.declared.builder.action.ArgAction.TheVariants.{Append, Help, Set, SetTrue}
use Rattle.clap.specs.declared.error.kind.ErrorKind.TheVariants as kind
use Rattle.clap.specs.declared.builder.value_parser.ValueParser.{ValueParser}
use Rattle.clap.specs.Values.{read_as, refused_kind}
use Rattle.clap.specs.declared.builder.value_parser.Reading.{Reading}
use Rattle.clap.specs.declared.parser.matches.ValueSource.{ValueSource}
use Rattle.clap.specs.declared.parser.matches.ValueSource.TheVariants.{CommandLine, DefaultValue}
use Rattle.clap.proofs.WalkLemmas.{both}

-- ---- small facts

-- the argument is one of the list
abbrev pub IsIn : List Rule → Rule → Type 0
IsIn [] a = ⊥
IsIn (x ∷ xs) a = (a ≡ x) ⊎ IsIn xs a

pub find_in : (p : Rule → Bool) (xs : List Rule) (a : Rule) → find p xs ≡ Some a → IsIn xs a
find_in p [] a e = absurd (let bad : ⊥ = cc in bad)
find_in p (x ∷ xs) a e = go (find_in p xs a) (p x) e
  where
    go : (find p xs ≡ Some a → IsIn xs a) → (b : Bool) → cond b (Some x) (find p xs) ≡ Some a → IsIn (x ∷ xs) a
    go rest true h = inl cc
    go rest false h = inr (rest h)

-- the list is not empty
abbrev pub HasFirst : List Text → Type 0
HasFirst [] = ⊥
HasFirst (x ∷ xs) = ⊤

HasFirst-append : (xs ys : List Text) → HasFirst xs → HasFirst (xs ++ ys)
HasFirst-append [] ys h = absurd h
HasFirst-append (x ∷ xs) ys h = tt

pub same_bytes : (xs ys : List ℕ) → bytes_eq xs ys ≡ true → xs ≡ ys
same_bytes xs ys e = (bytes_eq-Decides xs ys).0 e

itself : (xs : List ℕ) → bytes_eq xs xs ≡ true
itself xs = (bytes_eq-Decides xs xs).1 refl

-- no kind comes of two steps, so none of each
pub nothing : (a b : Kinds) → or_else a b ≡ [] → (a ≡ []) × (b ≡ [])
nothing [] b e = (refl, e)
nothing (k ∷ ks) b e = absurd (let bad : ⊥ = cc in bad)

-- ---- filled rows

pub record IsFilled (c : List Rule) (r : Row) : Type 0 where
  pub rule : Rule
  pub among : IsIn c rule
  pub id : r.id ≡ rule.id
  pub reading : r.reading ≡ reading_by rule
  pub passes : values_pass rule r.values ≡ true
  pub first : HasFirst r.values

abbrev pub AllFilled : List Rule → List Row → Type 0
AllFilled c [] = ⊤
AllFilled c (r ∷ rs) = IsFilled c r × AllFilled c rs

-- a use of the argument sets or adds values, and has one at least; or it asks for help
pub record IsSetting (a : Rule) : Type 0 where
  pub action : (action_of a ≡ Set) ⊎ (action_of a ≡ SetTrue) ⊎ (action_of a ≡ Append) ⊎ (action_of a ≡ Help)
  pub values : (nat_lt 0 (unwrap_or_range a.range).start_inclusive ≡ true) ⊎ HasFirst a.missing ⊎ (action_of a ≡ Help)

-- no two arguments have one id, and each sets its values
pub record IsPlain (c : List Rule) : Type 0 where
  pub unique : (a b : Rule) → IsIn c a → IsIn c b → a.id ≡ b.id → a ≡ b
  pub sets : (a : Rule) → IsIn c a → IsSetting a

abbrev pub has_own_ids : List Rule → Bool
has_own_ids [] = true
has_own_ids (a ∷ rest) = not (list_any (λ b. bytes_eq b.id a.id) rest) && has_own_ids rest

abbrev pub AllSetting : List Rule → Type 0
AllSetting [] = ⊤
AllSetting (a ∷ rest) = IsSetting a × AllSetting rest

own_id : (a : Rule) (rest : List Rule) → not (list_any (λ b. bytes_eq b.id a.id) rest) ≡ true → (b : Rule) → IsIn rest b → b.id ≡ a.id → ⊥
own_id a [] e b among same = among
own_id a (x ∷ rest) e b among same = ⊎_elim (λ (h : b ≡ x). here (bytes_eq x.id a.id) ((bytes_eq-Decides x.id a.id).1 (ap (λ (r : Rule). r.id) (sym h) ∙ same)) e)
    (λ h. own_id a rest (later (bytes_eq x.id a.id) e) b h same) among
  where
    here : (t : Bool) → t ≡ true → not (t || list_any (λ b. bytes_eq b.id a.id) rest) ≡ true → ⊥
    here true is h = true≢false (sym h)
    here false is h = true≢false (sym is)

    later : (t : Bool) → not (t || list_any (λ b. bytes_eq b.id a.id) rest) ≡ true → not (list_any (λ b. bytes_eq b.id a.id) rest) ≡ true
    later true h = absurd (true≢false (sym h))
    later false h = h

unique_by_ids : (c : List Rule) → has_own_ids c ≡ true → (a b : Rule) → IsIn c a → IsIn c b → a.id ≡ b.id → a ≡ b
unique_by_ids [] e a b x y same = absurd x
unique_by_ids (r ∷ rest) e a b x y same =
    let parts = both _ _ e in
    ⊎_elim (λ (f : a ≡ r). ⊎_elim (λ (g : b ≡ r). f ∙ sym g) (λ g. absurd (own_id r rest parts.0 b g (sym same ∙ ap (λ (z : Rule). z.id) f))) y)
    (λ f. ⊎_elim (λ (g : b ≡ r). absurd (own_id r rest parts.0 a f (same ∙ ap (λ (z : Rule). z.id) g))) (λ g. unique_by_ids rest parts.1 a b f g same) y) x

each_sets : (c : List Rule) → AllSetting c → (a : Rule) → IsIn c a → IsSetting a
each_sets [] all a x = absurd x
each_sets (r ∷ rest) all a x = ⊎_elim (λ f. subst IsSetting (sym f) all.0) (λ f. each_sets rest all.1 a f) x

pub plain_by_ids : (c : List Rule) → has_own_ids c ≡ true → AllSetting c → IsPlain c
plain_by_ids c own all = record { unique = unique_by_ids c own; sets = each_sets c all }

module _ (c : List Rule) (plain : IsPlain c) (a : Rule) (among : IsIn c a) where
  pub with_values_filled : (s : ValueSource) (values : List Text) (rows : List Row) → values_pass a values ≡ true → HasFirst values → AllFilled c rows
      → AllFilled c (with_values a.id (reading_by a) s values rows)
  with_values_filled s values [] pass first all = (record { rule = a; among = among; id = refl; reading = refl; passes = pass; first = first }, tt)
  with_values_filled s values (r ∷ rs) pass first all = go (with_values_filled s values rs pass first all.1) (bytes_eq r.id a.id) refl
    where
      merged : r.id ≡ a.id → IsFilled c (record r { values = r.values ++ values; source = Some (stronger r.source s) })
      merged same =
          let one : all.0.rule ≡ a = plain.unique all.0.rule a all.0.among among (sym all.0.id ∙ same) in
          let before : values_pass a r.values ≡ true = subst (λ (x : Rule). values_pass x r.values ≡ true) one all.0.passes in
          record {
            rule = a;
            among = among;
            id = same;
            reading = all.0.reading ∙ ap reading_by one;
            passes = list_all-append _ r.values values ∙ (rw before pass);
            first = HasFirst-append r.values values all.0.first;
          }

      go : AllFilled c (with_values a.id (reading_by a) s values rs) → (b : Bool) → bytes_eq r.id a.id ≡ b
          → AllFilled c (cond b (more_values s values r ++ rs) (r ∷ with_values a.id (reading_by a) s values rs))
      go rest true e = (merged (same_bytes _ _ e), all.1)
      go rest false e = (all.0, rest)

pub without_filled : (c : List Rule) (id : Text) (rows : List Row) → AllFilled c rows → AllFilled c (without id rows)
without_filled c id [] all = tt
without_filled c id (r ∷ rs) all = go (without_filled c id rs all.1) (bytes_eq r.id id)
  where
    go : AllFilled c (without id rs) → (b : Bool) → AllFilled c (cond b ([] ++ rs) (r ∷ without id rs))
    go rest true = all.1
    go rest false = (all.0, rest)

-- ---- a use with no fault

values_passing : (i : Bool) (p : ValueParser) (vs : List Text) → values_kinds i p vs ≡ [] → list_all (accepts i p) vs ≡ true
values_passing i p [] e = refl
values_passing i p (v ∷ vs) e =
    let parts = nothing (value_kinds i p v) (values_kinds i p vs) e in
    go (accepts i p v) parts.0 (values_passing i p vs parts.1)
  where
    go : (b : Bool) → cond b [] (refused_kind p ∷ []) ≡ [] → list_all (accepts i p) vs ≡ true → (b && list_all (accepts i p) vs) ≡ true
    go true h rest = rest
    go false h rest = absurd (let bad : ⊥ = cc in bad)

pub fault_passes : (a : Rule) (vs : List Text) → values_fault a vs ≡ [] → values_pass a vs ≡ true
fault_passes a vs e = values_passing _ _ vs e

-- a use that asks for help is no use without fault
pub help_faults : (a : Rule) → action_of a ≡ Help → (again : Bool) (values : List Text) (rows : List Row) → use_fault again a values rows ≡ [] → ⊥
help_faults a is again values rows e =
    let acts : action_fault (action_of a) again a (values_or_missing a values) rows ≡ [] =
    (nothing (range_kinds (unwrap_or_range a.range).start_inclusive (most_values a) (length values)) _ e).1 in
    let bad : kind.DisplayHelp ∷ [] ≡ [] = subst (λ (x : ArgAction). action_fault x again a (values_or_missing a values) rows ≡ []) is acts in
    cc

module _ (a : Rule) (setting : IsSetting a) (again : Bool) (rows : List Row) where
  set_faultless : (vs : List Text) → action_fault (action_of a) again a vs rows ≡ [] → values_fault a vs ≡ []
  set_faultless vs e = ⊎_elim
      (λ (h : action_of a ≡ Set). (nothing (repeat_fault again a.id rows) (values_fault a vs) (subst (λ (x : ArgAction). action_fault x again a vs rows ≡ []) h e)).1)
      (λ others. ⊎_elim
      (λ (h : action_of a ≡ SetTrue). (nothing (repeat_fault again a.id rows) (values_fault a vs) (subst (λ (x : ArgAction). action_fault x again a vs rows ≡ []) h e)).1)
      (λ last. ⊎_elim
      (λ (h : action_of a ≡ Append). subst (λ (x : ArgAction). action_fault x again a vs rows ≡ []) h e)
      (λ (h : action_of a ≡ Help). absurd (no_help (subst (λ (x : ArgAction). action_fault x again a vs rows ≡ []) h e)))
      last)
      others)
      setting.action
    where
      no_help : kind.DisplayHelp ∷ [] ≡ [] → ⊥
      no_help bad = cc

  has_values : (values : List Text) → use_fault again a values rows ≡ [] → HasFirst (values_or_missing a values)
  has_values (v ∷ vs) e = tt
  has_values [] e = ⊎_elim (λ h. absurd (none h)) (λ others. ⊎_elim (λ h. h) (λ h. absurd (help_faults a h again [] rows e)) others) setting.values
    where
      least : ℕ
      least = (unwrap_or_range a.range).start_inclusive

      none : nat_lt 0 (unwrap_or_range a.range).start_inclusive ≡ true → ⊥
      none h =
          let range : range_kinds (unwrap_or_range a.range).start_inclusive (most_values a) 0 ≡ [] = (nothing _ _ e).0 in
          let bad = rw h at range in
          cc

  pub used_passes : (values : List Text) → use_fault again a values rows ≡ [] → values_pass a (values_or_missing a values) ≡ true
  used_passes values e = fault_passes a _ (set_faultless _ (nothing (range_kinds (unwrap_or_range a.range).start_inclusive (most_values a) (length values)) _ e).1)

pub used_filled : (c : List Rule) → IsPlain c → (a : Rule) → IsIn c a → (again : Bool) (values : List Text) (rows : List Row) → use_fault again a values rows ≡ []
    → AllFilled c rows → AllFilled c (used a values rows)
used_filled c plain a among again values rows e all =
    let setting = plain.sets a among in
    let filled : (before : List Row) → AllFilled c before → AllFilled c (with_values a.id (reading_by a) CommandLine (values_or_missing a values) before) =
    λ before full. with_values_filled c plain a among CommandLine (values_or_missing a values) before (used_passes a setting again rows values e)
    (has_values a setting again rows values e) full in
    let set = filled (without a.id rows) (without_filled c a.id rows all) in
    ⊎_elim
    (λ (h : action_of a ≡ Set). subst (λ (x : ArgAction). AllFilled c (used_as x a.id (reading_by a) (values_or_missing a values) rows)) (sym h) set)
    (λ others. ⊎_elim
    (λ (h : action_of a ≡ SetTrue). subst (λ (x : ArgAction). AllFilled c (used_as x a.id (reading_by a) (values_or_missing a values) rows)) (sym h) set)
    (λ last. ⊎_elim
    (λ (h : action_of a ≡ Append). subst (λ (x : ArgAction). AllFilled c (used_as x a.id (reading_by a) (values_or_missing a values) rows)) (sym h) (filled rows all))
    (λ h. absurd (help_faults a h again values rows e))
    last)
    others)
    setting.action

-- ---- defaults

some_not_empty : (v : Text) (vs : List Text) → is_empty (v ∷ vs) ≡ false
some_not_empty v vs = go (is_empty (v ∷ vs)) refl
  where
    go : (b : Bool) → is_empty (v ∷ vs) ≡ b → b ≡ false
    go true e = absurd (omega (arith, eqb-true _ _ e))
    go false e = refl

pub default_filled : (c : List Rule) → IsPlain c → (a : Rule) → IsIn c a → (rows : List Row) → default_fault rows a ≡ [] → AllFilled c rows → AllFilled c (with_default rows a)
default_filled c plain a among rows e all = go (has_row a.id rows) a.defaults e
  where
    go : (b : Bool) (ds : List Text) → cond (b || is_empty ds) [] (or_else (request_kinds (action_of a)) (values_fault a ds)) ≡ []
        → AllFilled c (cond b rows (default_rows a.id (reading_by a) ds rows))
    go true ds h = all
    go false [] h = all
    go false (v ∷ vs) h =
        let given : or_else (request_kinds (action_of a)) (values_fault a (v ∷ vs)) ≡ [] = rw (some_not_empty v vs) at h in
        with_values_filled c plain a among DefaultValue (v ∷ vs) rows (fault_passes a (v ∷ vs) (nothing (request_kinds (action_of a)) _ given).1) tt all

pub defaults_filled : (c : List Rule) → IsPlain c → (rest : List Rule) → ((a : Rule) → IsIn rest a → IsIn c a) → (rows : List Row) → defaults_fault rows rest ≡ []
    → AllFilled c rows → AllFilled c (fold with_default rows rest)
unfolding defaults_fault
defaults_filled c plain [] within rows e all = all
defaults_filled c plain (a ∷ rest) within rows e all =
    let parts = nothing (default_fault rows a) (defaults_fault (with_default rows a) rest) e in
    defaults_filled c plain rest (λ x h. within x (inr h)) (with_default rows a) parts.1 (default_filled c plain a (within a (inl refl)) rows parts.0 all)

-- ---- which rows are there

either_true : (a b : Bool) → b ≡ true → (a || b) ≡ true
either_true true b e = refl
either_true false b e = e

module _ (id : Text) (how : Reading) (s : ValueSource) (values : List Text) where
  with_values_has : (rows : List Row) → has_row id (with_values id how s values rows) ≡ true
  with_values_has [] = rw (itself id) refl
  with_values_has (r ∷ rs) = go (with_values_has rs) (bytes_eq r.id id) refl
    where
      go : has_row id (with_values id how s values rs) ≡ true → (b : Bool) → bytes_eq r.id id ≡ b
          → has_row id (cond b (more_values s values r ++ rs) (r ∷ with_values id how s values rs)) ≡ true
      go rest true e = rw e refl
      go rest false e = either_true _ _ rest

  with_values_keeps : (other : Text) (rows : List Row) → has_row other rows ≡ true → has_row other (with_values id how s values rows) ≡ true
  with_values_keeps other [] e = absurd (true≢false (sym e))
  with_values_keeps other (r ∷ rs) e = go (with_values_keeps other rs) (bytes_eq r.id id)
    where
      kept : (has_row other rs ≡ true → has_row other (with_values id how s values rs) ≡ true) → (b : Bool) → (b || has_row other rs) ≡ true
          → (b || has_row other (with_values id how s values rs)) ≡ true
      kept rest true h = refl
      kept rest false h = rest h

      go : (has_row other rs ≡ true → has_row other (with_values id how s values rs) ≡ true) → (b : Bool)
          → has_row other (cond b (more_values s values r ++ rs) (r ∷ with_values id how s values rs)) ≡ true
      go rest true = e
      go rest false = kept rest (bytes_eq r.id other) e

default_has : (a : Rule) → HasFirst a.defaults → (rows : List Row) → has_row a.id (with_default rows a) ≡ true
default_has a first rows = go (has_row a.id rows) refl a.defaults first
  where
    go : (b : Bool) → has_row a.id rows ≡ b → (ds : List Text) → HasFirst ds → has_row a.id (cond b rows (default_rows a.id (reading_by a) ds rows)) ≡ true
    go true e ds some = e
    go false e [] some = absurd some
    go false e (v ∷ vs) some = with_values_has a.id (reading_by a) DefaultValue (v ∷ vs) rows

default_keeps : (a : Rule) (other : Text) (rows : List Row) → has_row other rows ≡ true → has_row other (with_default rows a) ≡ true
default_keeps a other rows h = go (has_row a.id rows) a.defaults
  where
    go : (b : Bool) (ds : List Text) → has_row other (cond b rows (default_rows a.id (reading_by a) ds rows)) ≡ true
    go true ds = h
    go false [] = h
    go false (v ∷ vs) = with_values_keeps a.id (reading_by a) DefaultValue (v ∷ vs) other rows h

defaults_keep : (rest : List Rule) (other : Text) (rows : List Row) → has_row other rows ≡ true → has_row other (fold with_default rows rest) ≡ true
defaults_keep [] other rows h = h
defaults_keep (a ∷ rest) other rows h = defaults_keep rest other (with_default rows a) (default_keeps a other rows h)

-- an argument with a default has a row
pub defaults_have : (rest : List Rule) (a : Rule) → IsIn rest a → HasFirst a.defaults → (rows : List Row) → has_row a.id (fold with_default rows rest) ≡ true
defaults_have [] a among first rows = absurd among
defaults_have (x ∷ rest) a among first rows = ⊎_elim
    (λ (h : a ≡ x). defaults_keep rest a.id (with_default rows x) (subst (λ (y : Rule). has_row a.id (with_default rows y) ≡ true) h (default_has a first rows)))
    (λ h. defaults_have rest a h first (with_default rows x)) among

-- a row that is there is filled
pub row_filled : (c : List Rule) (id : Text) (rows : List Row) → AllFilled c rows → has_row id rows ≡ true
    → (r : Row) × (find (λ x. bytes_eq x.id id) rows ≡ Some r) × IsFilled c r × (r.id ≡ id)
row_filled c id [] all e = absurd (true≢false (sym e))
row_filled c id (r ∷ rs) all e = go (row_filled c id rs all.1) (bytes_eq r.id id) refl e
  where
    go : (has_row id rs ≡ true → (x : Row) × (find (λ y. bytes_eq y.id id) rs ≡ Some x) × IsFilled c x × (x.id ≡ id)) → (b : Bool) → bytes_eq r.id id ≡ b
        → (b || has_row id rs) ≡ true → (x : Row) × (cond b (Some r) (find (λ y. bytes_eq y.id id) rs) ≡ Some x) × IsFilled c x × (x.id ≡ id)
    go rest true is h = (r, refl, all.0, same_bytes _ _ is)
    go rest false is h = rest h

-- the first value of an argument
pub record HasText (a : Rule) (rows : List Row) : Type 0 where
  pub text : Text
  pub first : first_of a.id rows ≡ Some text
  pub one : one_of a.id rows ≡ Some (read_as (reading_by a) text)
  pub passes : value_passes a text ≡ true

-- the row of an argument has a value, which passed the argument's parser
pub text_filled : (c : List Rule) → IsPlain c → (a : Rule) → IsIn c a → (rows : List Row) → AllFilled c rows → has_row a.id rows ≡ true → HasText a rows
text_filled c plain a among rows all has =
    let found = row_filled c a.id rows all has in
    let filled = found.2 in
    let rule : filled.rule ≡ a = plain.unique filled.rule a filled.among among (sym filled.id ∙ found.3) in
    go found.0 found.1 (filled.reading ∙ ap reading_by rule) found.0.values refl (subst (λ (x : Rule). values_pass x found.0.values ≡ true) rule filled.passes) filled.first
  where
    go : (r : Row) → find (λ x. bytes_eq x.id a.id) rows ≡ Some r → r.reading ≡ reading_by a → (vs : List Text) → r.values ≡ vs → values_pass a vs ≡ true → HasFirst vs
        → HasText a rows
    go r is how [] e pass first = absurd first
    go r is how (v ∷ vs) e pass first = record {
      text = v;
      first = ap (option_and_then (λ (x : Row). slice_get x.values 0)) is ∙ ap (λ (ws : List Text). slice_get ws 0) e;
      one = ap (option_and_then row_text) is ∙ ap (λ (ws : List Text). option_map (read_as r.reading) (slice_get ws 0)) e ∙ ap (λ (x : Reading). Some (read_as x v)) how;
      passes = (both _ _ pass).0;
    }

-- an argument that was given has a row
pub given_has : (id : Text) (rows : List Row) → is_given id rows ≡ true → has_row id rows ≡ true
given_has id [] e = e
given_has id (r ∷ rs) e = go (given_has id rs) (bytes_eq r.id id) e
  where
    go : (is_given id rs ≡ true → has_row id rs ≡ true) → (b : Bool)
        → option_map_or (λ (x : Row). explicit_source x.source) (cond b (Some r) (find (λ x. bytes_eq x.id id) rs)) false ≡ true → (b || has_row id rs) ≡ true
    go rest true h = refl
    go rest false h = rest h

-- an argument without a row has no text
pub no_row : (id : Text) (rows : List Row) → has_row id rows ≡ false → one_of id rows ≡ None
no_row id rows e = ap (option_and_then row_text) (none_found rows e)
  where
    none_found : (rest : List Row) → has_row id rest ≡ false → find (λ x. bytes_eq x.id id) rest ≡ None
    none_found [] h = refl
    none_found (r ∷ rs) h = go (none_found rs) (bytes_eq r.id id) h
      where
        go : (has_row id rs ≡ false → find (λ x. bytes_eq x.id id) rs ≡ None) → (b : Bool) → (b || has_row id rs) ≡ false
            → cond b (Some r) (find (λ x. bytes_eq x.id id) rs) ≡ None
        go rest_none true is = absurd (true≢false is)
        go rest_none false is = rest_none is
