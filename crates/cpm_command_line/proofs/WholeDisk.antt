-- Words behind `disk` with no fault give the whole entries of one of its commands.
use Rattle.std.proofs.Common.{◌≡◌, ◌⊎◌, sym, refl, inl, inr, Bool, true, false, cond, true≢false, List, [], Option, Some, None, option_map, is_some, codes}
use Rattle.std.specs.Option.{option_map_or}
use Rattle.clap.specs.Walk.{Row, Rule, Text, answers_to, finished, nothing_held, one_of, rows_after, walk}
use Rattle.clap.specs.Simple.{App, Shape, argument_words, built, built_leaf, entered, filled, inherited, label_of, marked_built, names_of, rows_at, subcommand_of, with_index, with_leaf_noted}
use Rattle.clap.specs.Takes.{is_given}
use Rattle.clap.specs.Faults.{check_fault, entered_fault, fault_of, level_fault}
use Rattle.clap.specs.declared.builder.value_parser.ValueParser.TheVariants as parser
use Rattle.clap.proofs.ValueTestLemmas.{accepts-Accepts}
use Rattle.cpm_command_line.specs.CommandLine.{operand, value_option}
use Rattle.cpm_command_line.specs.DiskLine.{IsUser, IsUserIfAny, IsWholeDisk, IsWholeGet, IsWholeListing, IsWholeNew, IsWholePut, IsWholeRemove, IsWholeRename, disk_app, get_app, list_disk_app, new_disk_app, operands, put_app, remove_app, rename_app, user_if_any_option, user_option}
use Rattle.cpm_command_line.proofs.FilledRows.{HasText, IsPlain, IsSetting, plain_by_ids}
use Rattle.cpm_command_line.proofs.LeafRows.{both_given, default_text, given_first, flag_in, flag_rule, flag_word, help_found, help_word, leaf_checked, one_given, text_or_none}
use Rattle.cpm_command_line.proofs.WalkRows.{HasHelpShorts, level_checked}

-- ---- the commands as clap builds them

abbrev disk_built : App
disk_built = built disk_app

abbrev leaf : Shape → Shape
leaf s = built_leaf (inherited (with_leaf_noted (marked_built disk_app.top)) s)

abbrev new_built : Shape
new_built = leaf new_disk_app.top

abbrev list_built : Shape
list_built = leaf list_disk_app.top

abbrev put_built : Shape
put_built = leaf put_app.top

abbrev get_built : Shape
get_built = leaf get_app.top

abbrev remove_built : Shape
remove_built = leaf remove_app.top

abbrev rename_built : Shape
rename_built = leaf rename_app.top

-- ---- their arguments

abbrev image_rule : Rule
image_rule = with_index 1 (filled (operand (codes "image")))

abbrev files_rule : Rule
files_rule = with_index 2 (filled (operands (codes "file")))

abbrev names_rule : Rule
names_rule = with_index 2 (filled (operands (codes "name")))

abbrev change_rule : Rule
change_rule = with_index 2 (filled (operand (codes "change")))

abbrev user_rule : Rule
user_rule = filled user_option

user_in : (rows : List Row) → HasText user_rule rows → IsUser (one_of (codes "user") rows)
user_in rows has =
    let taken = accepts-Accepts false (parser.Unsigned 0 15) has.text has.passes in
    record { digits = has.text; given = has.one; numeral = taken.0; fits = taken.3 }

abbrev user_if_any_rule : Rule
user_if_any_rule = filled user_if_any_option

user_if_any_in : (rows : List Row) → (one_of (codes "user") rows ≡ None) ⊎ HasText user_if_any_rule rows → IsUserIfAny (one_of (codes "user") rows)
user_if_any_in rows (inl none) = inl none
user_if_any_in rows (inr has) =
    let taken = accepts-Accepts false (parser.Unsigned 0 15) has.text has.passes in
    inr (record { digits = has.text; given = has.one; numeral = taken.0; fits = taken.3 })

-- ---- how each command's arguments are set

one_word : IsSetting image_rule
one_word = record { action = inl refl; values = inl refl }

change_word : IsSetting change_rule
change_word = record { action = inl refl; values = inl refl }

user_word : IsSetting user_rule
user_word = record { action = inl refl; values = inl refl }

user_if_any_word : IsSetting user_if_any_rule
user_if_any_word = record { action = inl refl; values = inl refl }

to_word : IsSetting (filled (value_option (codes "to")))
to_word = record { action = inl refl; values = inl refl }

files_words : IsSetting files_rule
files_words = record { action = inr (inr (inl refl)); values = inl refl }

names_words : IsSetting names_rule
names_words = record { action = inr (inr (inl refl)); values = inl refl }

new_plain : IsPlain new_built.rules
new_plain = plain_by_ids new_built.rules refl (one_word, (flag_word _, (help_word, tt)))

list_plain : IsPlain list_built.rules
list_plain = plain_by_ids list_built.rules refl (one_word, (user_if_any_word, (help_word, tt)))

put_plain : IsPlain put_built.rules
put_plain = plain_by_ids put_built.rules refl (one_word, (files_words, (user_word, (flag_word _, (flag_word _, (flag_word _, (help_word, tt)))))))

get_plain : IsPlain get_built.rules
get_plain = plain_by_ids get_built.rules refl (one_word, (names_words, (user_word, (flag_word _, (to_word, (flag_word _, (flag_word _, (help_word, tt))))))))

remove_plain : IsPlain remove_built.rules
remove_plain = plain_by_ids remove_built.rules refl (one_word, (names_words, (user_word, (help_word, tt))))

rename_plain : IsPlain rename_built.rules
rename_plain = plain_by_ids rename_built.rules refl (one_word, (change_word, (user_word, (help_word, tt))))

new_shorts : HasHelpShorts new_built.rules
new_shorts x a is = help_found x a is

list_shorts : HasHelpShorts list_built.rules
list_shorts x a is = help_found x a is

put_shorts : HasHelpShorts put_built.rules
put_shorts x a is = help_found x a is

get_shorts : HasHelpShorts get_built.rules
get_shorts x a is = help_found x a is

remove_shorts : HasHelpShorts remove_built.rules
remove_shorts x a is = help_found x a is

rename_shorts : HasHelpShorts rename_built.rules
rename_shorts x a is = help_found x a is

-- ---- the entries of each command

new_whole : (words : List Text) → level_fault new_built [] nothing_held words false [] ≡ [] → IsWholeNew (rows_after new_built.rules [] words)
new_whole words e =
    let rows = rows_after new_built.rules [] words in
    let image = one_given (is_given (codes "image") rows) (leaf_checked new_built new_plain new_shorts words e) in
    record {
      image = given_first new_built new_plain new_shorts words e image_rule (inl refl) image;
      large = flag_in (codes "large") rows (default_text new_built new_plain new_shorts words e (flag_rule (codes "large")) (inr (inl refl)) tt);
    }

list_whole : (words : List Text) → level_fault list_built [] nothing_held words false [] ≡ [] → IsWholeListing (rows_after list_built.rules [] words)
list_whole words e =
    let rows = rows_after list_built.rules [] words in
    let image = one_given (is_given (codes "image") rows) (leaf_checked list_built list_plain list_shorts words e) in
    record {
      image = given_first list_built list_plain list_shorts words e image_rule (inl refl) image;
      user = user_if_any_in rows (text_or_none list_built list_plain list_shorts words e user_if_any_rule (inr (inl refl)));
    }

put_whole : (words : List Text) → level_fault put_built [] nothing_held words false [] ≡ [] → IsWholePut (rows_after put_built.rules [] words)
put_whole words e =
    let rows = rows_after put_built.rules [] words in
    let given = both_given (is_given (codes "image") rows) (is_given (codes "file") rows) (leaf_checked put_built put_plain put_shorts words e) in
    record {
      image = given_first put_built put_plain put_shorts words e image_rule (inl refl) given.0;
      files = given_first put_built put_plain put_shorts words e files_rule (inr (inl refl)) given.1;
      user = user_in rows (default_text put_built put_plain put_shorts words e user_rule (inr (inr (inl refl))) tt);
      text = flag_in (codes "text") rows (default_text put_built put_plain put_shorts words e (flag_rule (codes "text")) (inr (inr (inr (inl refl)))) tt);
      read_only = flag_in (codes "read-only") rows
          (default_text put_built put_plain put_shorts words e (flag_rule (codes "read-only")) (inr (inr (inr (inr (inl refl))))) tt);
      system = flag_in (codes "system") rows
          (default_text put_built put_plain put_shorts words e (flag_rule (codes "system")) (inr (inr (inr (inr (inr (inl refl)))))) tt);
    }

get_whole : (words : List Text) → level_fault get_built [] nothing_held words false [] ≡ [] → IsWholeGet (rows_after get_built.rules [] words)
get_whole words e =
    let rows = rows_after get_built.rules [] words in
    let given = both_given (is_given (codes "image") rows) (is_given (codes "name") rows) (leaf_checked get_built get_plain get_shorts words e) in
    record {
      image = given_first get_built get_plain get_shorts words e image_rule (inl refl) given.0;
      names = given_first get_built get_plain get_shorts words e names_rule (inr (inl refl)) given.1;
      user = user_in rows (default_text get_built get_plain get_shorts words e user_rule (inr (inr (inl refl))) tt);
      text = flag_in (codes "text") rows (default_text get_built get_plain get_shorts words e (flag_rule (codes "text")) (inr (inr (inr (inl refl)))) tt);
      force = flag_in (codes "force") rows
          (default_text get_built get_plain get_shorts words e (flag_rule (codes "force")) (inr (inr (inr (inr (inr (inl refl)))))) tt);
      dry = flag_in (codes "dry-run") rows
          (default_text get_built get_plain get_shorts words e (flag_rule (codes "dry-run")) (inr (inr (inr (inr (inr (inr (inl refl))))))) tt);
    }

remove_whole : (words : List Text) → level_fault remove_built [] nothing_held words false [] ≡ [] → IsWholeRemove (rows_after remove_built.rules [] words)
remove_whole words e =
    let rows = rows_after remove_built.rules [] words in
    let given = both_given (is_given (codes "image") rows) (is_given (codes "name") rows) (leaf_checked remove_built remove_plain remove_shorts words e) in
    record {
      image = given_first remove_built remove_plain remove_shorts words e image_rule (inl refl) given.0;
      names = given_first remove_built remove_plain remove_shorts words e names_rule (inr (inl refl)) given.1;
      user = user_in rows (default_text remove_built remove_plain remove_shorts words e user_rule (inr (inr (inl refl))) tt);
    }

rename_whole : (words : List Text) → level_fault rename_built [] nothing_held words false [] ≡ [] → IsWholeRename (rows_after rename_built.rules [] words)
rename_whole words e =
    let rows = rows_after rename_built.rules [] words in
    let given = both_given (is_given (codes "image") rows) (is_given (codes "change") rows) (leaf_checked rename_built rename_plain rename_shorts words e) in
    record {
      image = given_first rename_built rename_plain rename_shorts words e image_rule (inl refl) given.0;
      change = given_first rename_built rename_plain rename_shorts words e change_rule (inr (inl refl)) given.1;
      user = user_in rows (default_text rename_built rename_plain rename_shorts words e user_rule (inr (inr (inl refl))) tt);
    }

-- ---- all words from `disk` on

-- the command that a word names, by whether it is the name of each
abbrev found : Bool → Bool → Bool → Bool → Bool → Bool → Option Shape
found n l p g d r = cond n (Some new_built) (cond l (Some list_built) (cond p (Some put_built)
    (cond g (Some get_built) (cond d (Some remove_built) (cond r (Some rename_built) None)))))

-- words with no fault name a command, and give it whole entries
pub faultless_disk : (words : List Text) → fault_of disk_app words ≡ [] → IsWholeDisk (subcommand_of disk_app words)
faultless_disk words e =
    let stop = (walk disk_built.top.rules (names_of disk_built) nothing_held (argument_words disk_app words)).stopped in
    let parts = level_checked disk_built.top (names_of disk_built) nothing_held (argument_words disk_app words) (is_some (entered disk_built stop)) (entered_fault disk_built stop) e in
    go stop (has (is_some (entered disk_built stop)) parts.1) parts.0
  where
    has : (b : Bool) → check_fault disk_built.top (finished disk_built.top.rules (walk disk_built.top.rules (names_of disk_built) nothing_held (argument_words disk_app words)).held) b ≡ []
        → b ≡ true
    has true h = refl
    has false h = absurd (let bad : ⊥ = cc in bad)

    named : (q : Text × List Text) (n l p g d r : Bool) → is_some (option_map (λ s. rows_at s q.1) (found n l p g d r)) ≡ true
        → option_map_or (λ s. level_fault s [] nothing_held q.1 false []) (found n l p g d r) [] ≡ []
        → IsWholeDisk (option_map (λ s. rows_at s q.1) (found n l p g d r))
    named q true l p g d r some h = inl (refl, new_whole q.1 h)
    named q false true p g d r some h = inr (inl (refl, list_whole q.1 h))
    named q false false true g d r some h = inr (inr (inl (refl, put_whole q.1 h)))
    named q false false false true d r some h = inr (inr (inr (inl (refl, get_whole q.1 h))))
    named q false false false false true r some h = inr (inr (inr (inr (inl (refl, remove_whole q.1 h)))))
    named q false false false false false true some h = inr (inr (inr (inr (inr (refl, rename_whole q.1 h)))))
    named q false false false false false false some h = absurd (true≢false (sym some))

    go : (at : Option (Text × List Text)) → is_some (entered disk_built at) ≡ true → entered_fault disk_built at ≡ [] → IsWholeDisk (entered disk_built at)
    go None some h = absurd (true≢false (sym some))
    go (Some q) some h = named q (answers_to q.0 (label_of new_built)) (answers_to q.0 (label_of list_built)) (answers_to q.0 (label_of put_built))
        (answers_to q.0 (label_of get_built)) (answers_to q.0 (label_of remove_built)) (answers_to q.0 (label_of rename_built)) some h
