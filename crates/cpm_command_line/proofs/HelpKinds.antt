-- Among the kinds of what is wrong with words, a question for help stands alone.
use Rattle.std.proofs.Common.{◌≡◌, ◌&&◌, ◌||◌, ⊎_elim, sym, subst, refl, ℕ, zero, suc, Bool, true, false, cond, not, true≢false, List, [], ◌∷◌, Option, Some, None, length, is_some, codes, nat_lt, ◌==◌}
use Rattle.std.specs.Prelude.{find, slice_get}
use Rattle.std.specs.List.{list_all}
use Rattle.std.specs.Option.{option_map_or}
use Rattle.std.specs.Str.{bytes_eq, chars}
use Rattle.clap.specs.Lexer.{long_of, short_of}
use Rattle.clap.specs.Facts.{parser_of_value, unwrap_or_range}
use Rattle.clap.specs.Values.{refused_kind}
use Rattle.clap.specs.ValueTests.{accepts}
use Rattle.clap.specs.Walk.{Held, Names, Row, Rule, Step, Text, Waiting, Walk, action_of, answers_to, arg_by_id, arg_by_index, arg_by_long, arg_by_short, attached_value, has_row, is_empty, is_pending, most_values, next, nothing_held, reacted, settled, subcommand, subcommand_met, takes_several, takes_values, trailing, value, values_or_missing, walk, walk_from, walked, with_default, word_met}
use Rattle.clap.specs.Simple.{App, Shape, entered, label_of, names_of}
use Rattle.clap.specs.Kinds.{IsAmong, Kinds, check_kinds, or_else, range_kinds, request_kinds, value_kinds, values_kinds}
use Rattle.clap.specs.Faults.{action_fault, built_fault, bundle_fault, bundle_step_fault, count_fault, default_fault, defaults_fault, entered_fault, flag_word_fault, flags_fault, given_default_fault, level_fault, long_fault, option_fault, other_fault, positional_fault, react_fault, repeat_fault, set_fault, settle_fault, short_fault, step_fault, stray_fault, turn_fault, use_fault, values_fault, walk_fault, word_fault}
use Rattle.clap.specs.declared.builder.action.ArgAction.{ArgAction}
use Rattle.clap.specs.declared.builder.action.ArgAction.TheVariants as action
use Rattle.clap.specs.declared.builder.value_parser.ValueParser.{ValueParser}
use Rattle.clap.specs.declared.builder.value_parser.ValueParser.TheVariants as parser
use Rattle.clap.specs.declared.error.kind.ErrorKind.{ErrorKind}
use Rattle.clap.specs.declared.error.kind.ErrorKind.TheVariants as kind

-- ---- kinds

-- where help is among the kinds, it is the only one
abbrev pub HasHelpAlone : Kinds → Type 0
HasHelpAlone ks = IsAmong kind.DisplayHelp ks → ks ≡ kind.DisplayHelp ∷ []

no_kind : HasHelpAlone []
no_kind h = absurd h

other_kind : (k : ErrorKind) → (kind.DisplayHelp ≡ k → ⊥) → HasHelpAlone (k ∷ [])
other_kind k other h = absurd (⊎_elim other (λ (none : ⊥). none) h)

two_kinds : (k l : ErrorKind) → (kind.DisplayHelp ≡ k → ⊥) → (kind.DisplayHelp ≡ l → ⊥) → HasHelpAlone (k ∷ l ∷ [])
two_kinds k l first second h = absurd (⊎_elim first (λ rest. ⊎_elim second (λ (none : ⊥). none) rest) h)

either : (a b : Kinds) → HasHelpAlone a → HasHelpAlone b → HasHelpAlone (or_else a b)
either [] b first second = second
either (k ∷ ks) b first second = first

chosen : (b : Bool) (x y : Kinds) → HasHelpAlone x → HasHelpAlone y → HasHelpAlone (cond b x y)
chosen true x y first second = first
chosen false x y first second = second

-- ---- values

other_than_refused : (p : ValueParser) → kind.DisplayHelp ≡ refused_kind p → ⊥
other_than_refused parser.String e = cc
other_than_refused parser.NonEmptyString e = cc
other_than_refused parser.Bool e = cc
other_than_refused parser.Boolish e = cc
other_than_refused parser.Falsey e = cc
other_than_refused (parser.Signed a b) e = cc
other_than_refused (parser.Unsigned a b) e = cc
other_than_refused parser.Float e = cc
other_than_refused parser.Char e = cc
other_than_refused (parser.Names names) e = cc
other_than_refused (parser.Values values) e = cc

of_value : (i : Bool) (p : ValueParser) (v : Text) → HasHelpAlone (value_kinds i p v)
of_value i p v = chosen (accepts i p v) [] (refused_kind p ∷ []) no_kind (other_kind (refused_kind p) (other_than_refused p))

of_values : (i : Bool) (p : ValueParser) (vs : List Text) → HasHelpAlone (values_kinds i p vs)
of_values i p [] = no_kind
of_values i p (v ∷ vs) = either (value_kinds i p v) (values_kinds i p vs) (of_value i p v) (of_values i p vs)

of_range : (least most n : ℕ) → HasHelpAlone (range_kinds least most n)
of_range least most n =
    chosen (nat_lt 0 least && n == 0) (kind.InvalidValue ∷ []) _ (other_kind kind.InvalidValue (λ e. cc))
    (chosen (least == most) _ _
    (chosen (least == n) [] (kind.WrongNumberOfValues ∷ []) no_kind (other_kind kind.WrongNumberOfValues (λ e. cc)))
    (chosen (nat_lt n least) (kind.TooFewValues ∷ []) _ (other_kind kind.TooFewValues (λ e. cc))
    (chosen (nat_lt most n) (kind.TooManyValues ∷ []) [] (other_kind kind.TooManyValues (λ e. cc)) no_kind)))

of_request : (a : ArgAction) → HasHelpAlone (request_kinds a)
of_request action.Set = no_kind
of_request action.Append = no_kind
of_request action.SetTrue = no_kind
of_request action.SetFalse = no_kind
of_request action.Count = no_kind
of_request action.Help = λ h. refl
of_request action.HelpShort = λ h. refl
of_request action.HelpLong = λ h. refl
of_request action.Version = other_kind kind.DisplayVersion (λ e. cc)

-- ---- one use of an argument

of_setting : (again : Bool) (a : Rule) (values : List Text) (rows : List Row) → HasHelpAlone (set_fault again a values rows)
of_setting again a values rows = either (repeat_fault again a.id rows) (values_fault a values)
    (chosen (has_row a.id rows && not again) (kind.ArgumentConflict ∷ []) [] (other_kind kind.ArgumentConflict (λ e. cc)) no_kind)
    (of_values a.ignore_case (parser_of_value a.parser) values)

of_count : (a : Rule) (values : List Text) (rows : List Row) → HasHelpAlone (count_fault a values rows)
of_count a [] rows = of_value a.ignore_case (parser_of_value a.parser) _
of_count a (v ∷ vs) rows = of_values a.ignore_case (parser_of_value a.parser) (v ∷ vs)

of_action : (act : ArgAction) (again : Bool) (a : Rule) (values : List Text) (rows : List Row) → HasHelpAlone (action_fault act again a values rows)
of_action action.Set again a values rows = of_setting again a values rows
of_action action.SetTrue again a values rows = of_setting again a values rows
of_action action.SetFalse again a values rows = of_setting again a values rows
of_action action.Append again a values rows = of_values a.ignore_case (parser_of_value a.parser) values
of_action action.Count again a values rows = of_count a values rows
of_action action.Help again a values rows = of_request action.Help
of_action action.HelpShort again a values rows = of_request action.HelpShort
of_action action.HelpLong again a values rows = of_request action.HelpLong
of_action action.Version again a values rows = of_request action.Version

of_use : (again : Bool) (a : Rule) (values : List Text) (rows : List Row) → HasHelpAlone (use_fault again a values rows)
of_use again a values rows = either (range_kinds (unwrap_or_range a.range).start_inclusive (most_values a) (length values)) _
    (of_range (unwrap_or_range a.range).start_inclusive (most_values a) (length values))
    (of_action (action_of a) again a (values_or_missing a values) rows)

-- ---- the walk

module _ (c : List Rule) (again : Bool) where
  of_settling : (h : Held) → HasHelpAlone (settle_fault c again h)
  of_settling h = go h.pending
    where
      by_id : (values : List Text) (found : Option Rule) → HasHelpAlone (option_map_or (λ a. use_fault again a values h.rows) found [])
      by_id values None = no_kind
      by_id values (Some a) = of_use again a values h.rows

      go : (p : Option (Text × List Text)) → HasHelpAlone (option_map_or (λ q. option_map_or (λ a. use_fault again a q.1 h.rows) (arg_by_id c q.0) []) p [])
      go None = no_kind
      go (Some p) = by_id p.1 (arg_by_id c p.0)

  of_reacting : (a : Rule) (values : List Text) (h : Held) → HasHelpAlone (react_fault c again a values h)
  of_reacting a values h = either (settle_fault c again h) (use_fault again a values (settled c h).rows) (of_settling h) (of_use again a values (settled c h).rows)

  of_option : (a : Rule) (v : Option Text) (h : Held) → HasHelpAlone (option_fault c again a v h)
  of_option a (Some v) h = of_reacting a (v ∷ []) h
  of_option a None h = of_settling h

  of_long : (found : Option Rule) (v : Option Text) (h : Held) → HasHelpAlone (long_fault c again found v h)
  of_long None v h = other_kind kind.UnknownArgument (λ e. cc)
  of_long (Some a) v h = chosen (takes_values a) (option_fault c again a v h) _ (of_option a v h)
      (chosen (is_some v) (kind.TooManyValues ∷ []) (react_fault c again a [] h) (other_kind kind.TooManyValues (λ e. cc)) (of_reacting a [] h))

  of_short : (found : Option Rule) (rest : Text) (h : Held) (more : Held → Kinds) → ((held : Held) → HasHelpAlone (more held)) → HasHelpAlone (short_fault c again found rest h more)
  of_short None rest h more each = other_kind kind.UnknownArgument (λ e. cc)
  of_short (Some a) rest h more each = chosen (takes_values a) (option_fault c again a (attached_value rest) h) _ (of_option a (attached_value rest) h)
      (either (react_fault c again a [] h) (more (reacted c a [] h)) (of_reacting a [] h) (each (reacted c a [] h)))

  of_flags : (k : ℕ) (flags : Text) (skip : ℕ) (h : Held) → HasHelpAlone (flags_fault c again k flags skip h)
  unfolding flags_fault
  of_flags zero flags skip h = no_kind
  of_flags (suc k) flags skip h = go (of_flags k) (slice_get (chars flags) 0) skip
    where
      go : ((text : Text) (n : ℕ) (held : Held) → HasHelpAlone (flags_fault c again k text n held)) → (first : Option ℕ) (n : ℕ)
          → HasHelpAlone (bundle_step_fault c again first flags n h (flags_fault c again k))
      go each None n = no_kind
      go each (Some x) zero = of_short (arg_by_short c x) _ h _ (λ held. each _ 0 held)
      go each (Some x) (suc n) = each _ n h

  of_flag_word : (parts : Option (Text × Option Text)) (word : Text) (h : Held) → HasHelpAlone (flag_word_fault c again parts word h)
  of_flag_word (Some p) word h = of_long (arg_by_long c p.0) p.1 h
  of_flag_word None word h = go (short_of word)
    where
      go : (flags : Option Text) → HasHelpAlone (option_map_or (λ text. bundle_fault c again text h) flags [])
      go None = no_kind
      go (Some flags) = of_flags (length flags) flags h.skip (record h { skip = 0 })

  of_positional : (a : Rule) (h : Held) → HasHelpAlone (positional_fault c again a h)
  of_positional a h = chosen (is_pending a h.pending && takes_several a) [] (settle_fault c again h) no_kind (of_settling h)

-- a command that has no command `help` of clap's
module _ (s : Shape) (own : s.disable_help_subcommand ≡ true) where
  of_other : (name : Option Text) (word : Text) (h : Held) → HasHelpAlone (other_fault s name word h)
  of_other (Some name) word h = go (bytes_eq name (codes "help")) s.disable_help_subcommand own
    where
      go : (is b : Bool) → b ≡ true → HasHelpAlone (cond (is && not b) (kind.DisplayHelp ∷ kind.InvalidSubcommand ∷ []) [])
      go true true e = no_kind
      go true false e = absurd (true≢false (sym e))
      go false b e = no_kind
  of_other None word h = chosen (bytes_eq word (45 ∷ 45 ∷ [])) [] (flag_word_fault s.rules s.args_override_self (long_of word) word h) no_kind
      (of_flag_word s.rules s.args_override_self (long_of word) word h)

  of_word : (names : Names) (is_trailing : Bool) (waiting : Waiting) (word : Text) (h : Held) → HasHelpAlone (word_fault s names is_trailing waiting word h)
  of_word names true waiting word h = no_kind
  of_word names false waiting word h = of_other (subcommand_met names waiting word) word h

  of_stray : HasHelpAlone (stray_fault s)
  of_stray = chosen s.is_leaf (kind.UnknownArgument ∷ []) (kind.UnknownArgument ∷ kind.InvalidSubcommand ∷ []) (other_kind kind.UnknownArgument (λ e. cc))
      (two_kinds kind.UnknownArgument kind.InvalidSubcommand (λ e. cc) (λ e. cc))

  of_step : (position : ℕ) (h : Held) (step : Step) → HasHelpAlone (step_fault s position h step)
  of_step position h (next waiting) = no_kind
  of_step position h (trailing p) = no_kind
  of_step position h (subcommand name) = no_kind
  of_step position h value = go (arg_by_index s.rules position)
    where
      go : (found : Option Rule) → HasHelpAlone (option_map_or (λ a. positional_fault s.rules s.args_override_self a h) found (stray_fault s))
      go None = of_stray
      go (Some a) = of_positional s.rules s.args_override_self a h

  of_turn : (names : Names) (w : Walk) (word : Text) → HasHelpAlone (turn_fault s names w word)
  of_turn names w word =
      let met = word_met s.rules names w.is_trailing w.waiting w.position word w.held in
      chosen (is_some w.stopped) [] _ no_kind
      (either (word_fault s names w.is_trailing w.waiting word w.held) (step_fault s w.position met.0 met.1)
      (of_word names w.is_trailing w.waiting word w.held) (of_step w.position met.0 met.1))

  of_walk : (names : Names) (w : Walk) (words : List Text) → HasHelpAlone (walk_fault s names w words)
  unfolding walk_fault
  of_walk names w [] = no_kind
  of_walk names w (word ∷ rest) = either (turn_fault s names w word) (walk_fault s names (walked s.rules names w word) rest)
      (of_turn names w word) (of_walk names (walked s.rules names w word) rest)

  -- ---- after the walk

  of_default : (rows : List Row) (a : Rule) → HasHelpAlone (default_fault rows a)
  of_default rows a = chosen (has_row a.id rows || is_empty a.defaults) [] (given_default_fault a a.defaults) no_kind
      (either (request_kinds (action_of a)) (values_fault a a.defaults) (of_request (action_of a)) (of_values a.ignore_case (parser_of_value a.parser) a.defaults))

  of_defaults : (rows : List Row) (rules : List Rule) → HasHelpAlone (defaults_fault rows rules)
  unfolding defaults_fault
  of_defaults rows [] = no_kind
  of_defaults rows (a ∷ rest) = either (default_fault rows a) (defaults_fault (with_default rows a) rest) (of_default rows a) (of_defaults (with_default rows a) rest)

  of_checks : (a b d : Bool) → HasHelpAlone (check_kinds a b d)
  of_checks a b d =
      chosen a (kind.DisplayHelpOnMissingArgumentOrSubcommand ∷ []) _ (other_kind kind.DisplayHelpOnMissingArgumentOrSubcommand (λ e. cc))
      (chosen b (kind.MissingSubcommand ∷ []) _ (other_kind kind.MissingSubcommand (λ e. cc))
      (chosen d (kind.MissingRequiredArgument ∷ []) [] (other_kind kind.MissingRequiredArgument (λ e. cc)) no_kind))

  of_level : (names : Names) (h : Held) (words : List Text) (has_subcommand : Bool) (below : Kinds) → HasHelpAlone below
      → HasHelpAlone (level_fault s names h words has_subcommand below)
  of_level names h words has_subcommand below inner =
      let end = (walk s.rules names h words).held in
      either (walk_fault s names (walk_from h) words) _ (of_walk names (walk_from h) words)
      (either below _ inner
      (either (settle_fault s.rules s.args_override_self end) _ (of_settling s.rules s.args_override_self end)
      (either (defaults_fault (settled s.rules end).rows s.rules) _ (of_defaults (settled s.rules end).rows s.rules)
      (of_checks _ _ _))))

-- ---- a command with its subcommands

found_own : (p : Shape → Bool) (subs : List Shape) → list_all (λ s. s.disable_help_subcommand) subs ≡ true → (s : Shape) → find p subs ≡ Some s → s.disable_help_subcommand ≡ true
found_own p [] own s e = absurd (let bad : ⊥ = cc in bad)
found_own p (x ∷ xs) own s e = go (found_own p xs) x.disable_help_subcommand refl own (p x) e
  where
    go : (list_all (λ t. t.disable_help_subcommand) xs ≡ true → (t : Shape) → find p xs ≡ Some t → t.disable_help_subcommand ≡ true) → (d : Bool) → x.disable_help_subcommand ≡ d → (d && list_all (λ t. t.disable_help_subcommand) xs) ≡ true → (b : Bool) → cond b (Some x) (find p xs) ≡ Some s
        → s.disable_help_subcommand ≡ true
    go later true is rest true h = let same : x ≡ s = cc in subst (λ (t : Shape). t.disable_help_subcommand ≡ true) same is
    go later true is rest false h = later rest s h
    go later false is rest b h = absurd (true≢false (sym rest))

of_entered : (a : App) → list_all (λ s. s.disable_help_subcommand) a.subs ≡ true → (stop : Option (Text × List Text)) → HasHelpAlone (entered_fault a stop)
of_entered a own None = no_kind
of_entered a own (Some p) = go (find (λ s. answers_to p.0 (label_of s)) a.subs) (λ s is. found_own _ a.subs own s is)
  where
    go : (found : Option Shape) → ((s : Shape) → found ≡ Some s → s.disable_help_subcommand ≡ true)
        → HasHelpAlone (option_map_or (λ s. level_fault s [] nothing_held p.1 false []) found [])
    go None own_ones = no_kind
    go (Some s) own_ones = of_level s (own_ones s refl) [] nothing_held p.1 false [] no_kind

-- what is wrong with the words of a command that is built, where neither it nor its subcommands have a command `help` of clap's
pub help_alone : (a : App) → a.top.disable_help_subcommand ≡ true → list_all (λ s. s.disable_help_subcommand) a.subs ≡ true → (h : Held) (words : List Text)
    → HasHelpAlone (built_fault a h words)
help_alone a top subs h words =
    let stop = (walk a.top.rules (names_of a) h words).stopped in
    of_level a.top top (names_of a) h words (is_some (entered a stop)) (entered_fault a stop) (of_entered a subs stop)
