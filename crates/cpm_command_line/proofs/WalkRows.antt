-- What a walk with no fault leaves: rows that are filled.
use Rattle.std.proofs.Common.{◌≡◌, ◌∙◌, sym, subst, refl, ℕ, zero, suc, Bool, true, false, cond, List, [], ◌∷◌, Option, Some, None, length, is_some}
use Rattle.std.specs.Prelude.{encode_utf8, fold, slice_get}
use Rattle.std.specs.Option.{option_map_or}
use Rattle.std.specs.Str.{bytes_eq, chars}
use Rattle.clap.specs.Lexer.{long_of, short_of}
use Rattle.clap.specs.Walk.{Held, Names, Outcome, Rule, Step, Text, Waiting, Walk, action_of, after_flag, after_step, arg_by_id, arg_by_index, arg_by_long, arg_by_short, bundle, bundle_met, bundle_step, finished, flag_met, idle, is_pending, long_met, long_or_other, next, option, option_met, option_word, plain, plain_word, done, waits, refused, positional, positional_held, reacted, settled, settled_rows, short_met, short_or_plain, subcommand, subcommand_met, subcommand_or_other, takes_several, takes_values, to_positional, trailing, used_by_id, value, walk, walk_from, walked, walked_from, word_met}
use Rattle.clap.specs.Simple.{Shape}
use Rattle.clap.specs.Kinds.{Kinds, or_else}
use Rattle.clap.specs.Faults.{bundle_fault, bundle_step_fault, check_fault, defaults_fault, flag_word_fault, flags_fault, level_fault, long_fault, option_fault, other_fault, positional_fault, react_fault, settle_fault, short_fault, step_fault, turn_fault, use_fault, walk_fault, word_fault}
use Rattle.clap.specs.declared.builder.action.ArgAction.TheVariants.{Help}
use Rattle.clap.specs.declared.error.kind.ErrorKind.TheVariants as kind
use Rattle.cpm_command_line.proofs.FilledRows.{AllFilled, IsIn, IsPlain, defaults_filled, find_in, help_faults, nothing, used_filled}

-- an argument of the command with a short name asks for help
abbrev pub HasHelpShorts : List Rule → Type 0
HasHelpShorts c = (x : ℕ) (a : Rule) → arg_by_short c x ≡ Some a → (action_of a ≡ Help) × (takes_values a ≡ false)

module _ (c : List Rule) (plain_rules : IsPlain c) (again : Bool) where
  pub settled_filled : (h : Held) → settle_fault c again h ≡ [] → AllFilled c h.rows → AllFilled c (settled c h).rows
  settled_filled h e all = go h.pending e
    where
      by_id : (values : List Text) (found : Option Rule) → ((a : Rule) → found ≡ Some a → IsIn c a) → option_map_or (λ a. use_fault again a values h.rows) found [] ≡ []
          → AllFilled c (used_by_id found values h.rows)
      by_id values None among f = all
      by_id values (Some a) among f = used_filled c plain_rules a (among a refl) again values h.rows f all

      go : (p : Option (Text × List Text)) → option_map_or (λ q. option_map_or (λ a. use_fault again a q.1 h.rows) (arg_by_id c q.0) []) p [] ≡ []
          → AllFilled c (settled_rows c p h.rows)
      go None f = all
      go (Some p) f = by_id p.1 (arg_by_id c p.0) (λ a is. find_in _ c a is) f

  pub reacted_filled : (a : Rule) → IsIn c a → (values : List Text) (h : Held) → react_fault c again a values h ≡ [] → AllFilled c h.rows → AllFilled c (reacted c a values h).rows
  reacted_filled a among values h e all =
      let parts = nothing (settle_fault c again h) (use_fault again a values (settled c h).rows) e in
      used_filled c plain_rules a among again values (settled c h).rows parts.1 (settled_filled h parts.0 all)

  option_filled : (a : Rule) → IsIn c a → (v : Option Text) (h : Held) → option_fault c again a v h ≡ [] → AllFilled c h.rows → AllFilled c (option_met c a v h).0.rows
  option_filled a among (Some v) h e all = reacted_filled a among (v ∷ []) h e all
  option_filled a among None h e all = settled_filled h e all

  long_filled : (found : Option Rule) → ((a : Rule) → found ≡ Some a → IsIn c a) → (v : Option Text) (h : Held) → long_fault c again found v h ≡ [] → AllFilled c h.rows
      → AllFilled c (long_met c found v h).0.rows
  long_filled None among v h e all = all
  long_filled (Some a) among v h e all = go (takes_values a) e
    where
      flagged : (w : Option Text) → cond (is_some w) (kind.TooManyValues ∷ []) (react_fault c again a [] h) ≡ [] → AllFilled c (flag_met c a w h).0.rows
      flagged (Some w) f = all
      flagged None f = reacted_filled a (among a refl) [] h f all

      go : (b : Bool) → cond b (option_fault c again a v h) (cond (is_some v) (kind.TooManyValues ∷ []) (react_fault c again a [] h)) ≡ []
          → AllFilled c (cond b (option_met c a v h) (flag_met c a v h)).0.rows
      go true f = option_filled a (among a refl) v h f all
      go false f = flagged v f

-- a word that is no flag changes no row
plain_rows : (c : List Rule) (waiting : Waiting) (word : Text) (h : Held) → (plain_word c waiting word h).0.rows ≡ h.rows
plain_rows c idle word h = refl
plain_rows c positional word h = refl
plain_rows c (option id) word h = go (arg_by_id c id)
  where
    go : (found : Option Rule) → (option_word found id word h).0.rows ≡ h.rows
    go None = refl
    go (Some a) = refl

after_rows : (c : List Rule) (waiting : Waiting) (word : Text) (h : Held) (o : Outcome) → (after_flag c waiting word h o).0.rows ≡ h.rows
after_rows c waiting word h done = refl
after_rows c waiting word h (waits id) = refl
after_rows c waiting word h plain = plain_rows c waiting word h
after_rows c waiting word h refused = plain_rows c waiting word h

-- where short names ask for help alone, a bundle with no fault changes no row
bundle_rows : (c : List Rule) → HasHelpShorts c → (again : Bool) (k : ℕ) (flags : Text) (skip : ℕ) (o : Outcome) (h : Held) → flags_fault c again k flags skip h ≡ []
    → (bundle_met c k flags skip o h).0.rows ≡ h.rows
unfolding bundle_met flags_fault
bundle_rows c shorts again zero flags skip o h e = refl
bundle_rows c shorts again (suc k) flags skip o h e = go (bundle_rows c shorts again k) (slice_get (chars flags) 0) skip e
  where
    no_use : (a : Rule) → (action_of a ≡ Help) × (takes_values a ≡ false) → (rest : Text) (more : Held → Kinds) → short_fault c again (Some a) rest h more ≡ [] → ⊥
    no_use a is rest more f =
        let reacts : or_else (react_fault c again a [] h) (more (reacted c a [] h)) ≡ [] = rw is.1 at f in
        let uses = (nothing (react_fault c again a [] h) _ reacts).0 in
        help_faults a is.0 again [] (settled c h).rows (nothing (settle_fault c again h) _ uses).1

    known : (found : Option Rule) → ((a : Rule) → found ≡ Some a → (action_of a ≡ Help) × (takes_values a ≡ false)) → (rest : Text) (fails : Held → Kinds)
        (more : Held → Held × Outcome) → short_fault c again found rest h fails ≡ [] → (short_met c found rest h more).0.rows ≡ h.rows
    known None is rest fails more f = refl
    known (Some a) is rest fails more f = absurd (no_use a (is a refl) rest fails f)

    go : ((text : Text) (n : ℕ) (so_far : Outcome) (held : Held) → flags_fault c again k text n held ≡ [] → (bundle_met c k text n so_far held).0.rows ≡ held.rows)
        → (first : Option ℕ) (n : ℕ) → bundle_step_fault c again first flags n h (flags_fault c again k) ≡ [] → (bundle_step c first flags n o h (bundle_met c k)).0.rows ≡ h.rows
    go rest None n f = refl
    go rest (Some x) zero f = known (arg_by_short c x) (shorts x) _ _ _ f
    go rest (Some x) (suc n) f = rest _ n o h f

module _ (s : Shape) (plain_rules : IsPlain s.rules) (shorts : HasHelpShorts s.rules) where
  again : Bool
  again = s.args_override_self

  flag_word_filled : (waiting : Waiting) (word : Text) (parts : Option (Text × Option Text)) (h : Held) → flag_word_fault s.rules s.args_override_self parts word h ≡ []
      → AllFilled s.rules h.rows → AllFilled s.rules (long_or_other s.rules waiting word parts h).0.rows
  flag_word_filled waiting word (Some p) h e all =
      subst (AllFilled s.rules) (sym (after_rows s.rules waiting word (long_met s.rules (arg_by_long s.rules p.0) p.1 h).0 (long_met s.rules (arg_by_long s.rules p.0) p.1 h).1))
      (long_filled s.rules plain_rules s.args_override_self (arg_by_long s.rules p.0) (λ a is. find_in _ s.rules a is) p.1 h e all)
  flag_word_filled waiting word None h e all = go (short_of word) e
    where
      go : (flags : Option Text) → option_map_or (λ text. bundle_fault s.rules s.args_override_self text h) flags [] ≡ []
          → AllFilled s.rules (short_or_plain s.rules waiting word flags h).0.rows
      go None f = subst (AllFilled s.rules) (sym (plain_rows s.rules waiting word h)) all
      go (Some flags) f = subst (AllFilled s.rules)
          (sym (after_rows s.rules waiting word (bundle s.rules flags h).0 (bundle s.rules flags h).1
          ∙ bundle_rows s.rules shorts s.args_override_self (length flags) flags h.skip plain (record h { skip = 0 }) f)) all

  met_filled : (names : Names) (is_trailing : Bool) (waiting : Waiting) (position : ℕ) (word : Text) (h : Held) → word_fault s names is_trailing waiting word h ≡ []
      → AllFilled s.rules h.rows → AllFilled s.rules (word_met s.rules names is_trailing waiting position word h).0.rows
  met_filled names true waiting position word h e all = all
  met_filled names false waiting position word h e all = go (subcommand_met names waiting word) e
    where
      flag : (b : Bool) → cond b [] (flag_word_fault s.rules s.args_override_self (long_of word) word h) ≡ []
          → AllFilled s.rules (cond b (h, trailing position) (long_or_other s.rules waiting word (long_of word) h)).0.rows
      flag true f = all
      flag false f = flag_word_filled waiting word (long_of word) h f all

      go : (name : Option Text) → other_fault s name word h ≡ [] → AllFilled s.rules (subcommand_or_other s.rules name waiting position word h).0.rows
      go (Some name) f = all
      go None f = flag (bytes_eq word (45 ∷ 45 ∷ [])) f

  positional_filled : (a : Rule) (word : Text) (h : Held) → positional_fault s.rules s.args_override_self a h ≡ [] → AllFilled s.rules h.rows
      → AllFilled s.rules (positional_held s.rules a word h).rows
  positional_filled a word h e all = go (Rattle.std.specs.Prelude.◌&&◌ (is_pending a h.pending) (takes_several a)) e
    where
      go : (b : Bool) → cond b [] (settle_fault s.rules s.args_override_self h) ≡ [] → AllFilled s.rules (cond b h (settled s.rules h)).rows
      go true f = all
      go false f = settled_filled s.rules plain_rules s.args_override_self h f all

  step_filled : (word : Text) (w : Walk) (h : Held) (step : Step) → step_fault s w.position h step ≡ [] → AllFilled s.rules h.rows
      → AllFilled s.rules (after_step s.rules word w h step).held.rows
  step_filled word w h (next waiting) e all = all
  step_filled word w h (trailing position) e all = all
  step_filled word w h (subcommand name) e all = all
  step_filled word w h value e all = go (arg_by_index s.rules w.position) e
    where
      go : (found : Option Rule) → option_map_or (λ a. positional_fault s.rules s.args_override_self a h) found (Rattle.clap.specs.Faults.stray_fault s) ≡ []
          → AllFilled s.rules (to_positional s.rules found word w h).held.rows
      go None f = all
      go (Some a) f = positional_filled a word h f all

  turn_filled : (names : Names) (w : Walk) (word : Text) → turn_fault s names w word ≡ [] → AllFilled s.rules w.held.rows → AllFilled s.rules (walked s.rules names w word).held.rows
  unfolding walked
  turn_filled names w word e all = go w.stopped e
    where
      met : Held × Step
      met = word_met s.rules names w.is_trailing w.waiting w.position word w.held

      go : (stopped : Option (Text × List Text)) → cond (is_some stopped) [] (or_else (word_fault s names w.is_trailing w.waiting word w.held)
          (step_fault s w.position (word_met s.rules names w.is_trailing w.waiting w.position word w.held).0 (word_met s.rules names w.is_trailing w.waiting w.position word w.held).1)) ≡ []
          → AllFilled s.rules (walked_from s.rules names stopped w word).held.rows
      go (Some p) f = all
      go None f =
          let parts = nothing (word_fault s names w.is_trailing w.waiting word w.held) _ f in
          step_filled word w _ _ parts.1 (met_filled names w.is_trailing w.waiting w.position word w.held parts.0 all)

  walk_filled : (names : Names) (words : List Text) (w : Walk) → walk_fault s names w words ≡ [] → AllFilled s.rules w.held.rows
      → AllFilled s.rules (fold (walked s.rules names) w words).held.rows
  unfolding walk_fault
  walk_filled names [] w e all = all
  walk_filled names (word ∷ rest) w e all =
      let parts = nothing (turn_fault s names w word) (walk_fault s names (walked s.rules names w word) rest) e in
      walk_filled names rest (walked s.rules names w word) parts.1 (turn_filled names w word parts.0 all)

  -- one level of a parse with no fault
  pub level_filled : (names : Names) (h : Held) (words : List Text) (has_subcommand : Bool) (below : Kinds) → level_fault s names h words has_subcommand below ≡ []
      → AllFilled s.rules h.rows → AllFilled s.rules (finished s.rules (walk s.rules names h words).held)
  level_filled names h words has_subcommand below e all =
      let end = (walk s.rules names h words).held in
      let walked_parts = nothing (walk_fault s names (walk_from h) words) _ e in
      let below_parts = nothing below _ walked_parts.1 in
      let settle_parts = nothing (settle_fault s.rules s.args_override_self end) _ below_parts.1 in
      let default_parts = nothing (defaults_fault (settled s.rules end).rows s.rules) _ settle_parts.1 in
      defaults_filled s.rules plain_rules s.rules (λ a among. among) (settled s.rules end).rows default_parts.0
      (settled_filled s.rules plain_rules s.args_override_self end settle_parts.0 (walk_filled names words (walk_from h) walked_parts.0 all))

-- what is checked last, and what the level below comes to
pub level_checked : (s : Shape) (names : Names) (h : Held) (words : List Text) (has_subcommand : Bool) (below : Kinds) → level_fault s names h words has_subcommand below ≡ []
    → (below ≡ []) × (check_fault s (finished s.rules (walk s.rules names h words).held) has_subcommand ≡ [])
level_checked s names h words has_subcommand below e =
    let end = (walk s.rules names h words).held in
    let walked_parts = nothing (walk_fault s names (walk_from h) words) _ e in
    let below_parts = nothing below _ walked_parts.1 in
    let settle_parts = nothing (settle_fault s.rules s.args_override_self end) _ below_parts.1 in
    let default_parts = nothing (defaults_fault (settled s.rules end).rows s.rules) _ settle_parts.1 in
    (below_parts.0, default_parts.1)
