-- Words with no fault give the whole entries of a subcommand.
use Rattle.std.proofs.Common.{◌≡◌, ◌⊎◌, ◌∙◌, ◌||◌, ℕ, ap, sym, refl, inl, inr, Bool, true, false, cond, true≢false, List, [], ◌∷◌, Option, Some, None, option_map, is_some, codes}
use Rattle.std.specs.Option.{option_map_or}
use Rattle.std.specs.Str.{bytes_eq}
use Rattle.clap.specs.Walk.{Row, Rule, Text, finished, nothing_held, one_of, rows_after, walk}
use Rattle.clap.specs.Simple.{App, Shape, argument_words, built, built_leaf, entered, filled, help_rule, inherited, label_of, marked_built, names_of, rows_at, subcommand_of, with_index, with_leaf_noted}
use Rattle.clap.specs.Takes.{is_given}
use Rattle.clap.specs.Walk.{answers_to}
use Rattle.clap.specs.Faults.{check_fault, entered_fault, fault_of, level_fault}
use Rattle.clap.specs.declared.builder.value_parser.ValueParser.TheVariants as parser
use Rattle.clap.proofs.ValueTestLemmas.{accepts-Accepts}
use Rattle.cpm_command_line.specs.CommandLine.{IsCountIfAny, IsFlag, IsPick, IsWhole, IsWholeAsm, IsWholeCheck, IsWholeDebug, IsWholeList, IsWholePlay, IsWholeRun, IsWholeSaved, IsWholeServe, asm_app, boot_app, check_app, com_app, count_option, debug_app, host_app, list_app, operand, repeated_option, run_app, saved_app, serve_app, value_option, word_left_out, words_left_out}
use Rattle.cpm_flags.specs.declared.regs.Cpu.TheVariants.{I8080, Z80}
use Rattle.cpm_command_line.proofs.FilledRows.{HasText, IsIn, IsPlain, IsSetting, plain_by_ids, same_bytes}
use Rattle.cpm_command_line.proofs.LeafRows.{both_given, default_text, flag_in, flag_rule, flag_word, given_first, help_found, help_word, leaf_checked, one_given, text_or_none}
use Rattle.cpm_command_line.proofs.WalkRows.{HasHelpShorts, level_checked}

-- ---- the subcommands as clap builds them

abbrev host_built : App
host_built = built host_app

abbrev leaf : Shape → Shape
leaf s = built_leaf (inherited (with_leaf_noted (marked_built host_app.top)) s)

abbrev com_built : Shape
com_built = leaf com_app.top

abbrev boot_built : Shape
boot_built = leaf boot_app.top

abbrev asm_built : Shape
asm_built = leaf asm_app.top

abbrev list_built : Shape
list_built = leaf list_app.top

abbrev check_built : Shape
check_built = leaf check_app.top

abbrev run_built : Shape
run_built = leaf run_app.top

abbrev debug_built : Shape
debug_built = leaf debug_app.top

abbrev serve_built : Shape
serve_built = leaf serve_app.top

abbrev saved_built : Shape
saved_built = leaf saved_app.top

operand_word : (index : ℕ) (id : Text) → IsSetting (with_index index (filled (operand id)))
operand_word index id = record { action = inl refl; values = inl refl }

free_word : (index : ℕ) (id : Text) → IsSetting (with_index index (filled (word_left_out id)))
free_word index id = record { action = inl refl; values = inl refl }

free_words : (index : ℕ) (id : Text) → IsSetting (with_index index (filled (words_left_out id)))
free_words index id = record { action = inr (inr (inl refl)); values = inl refl }

value_word : (name : Text) → IsSetting (filled (value_option name))
value_word name = record { action = inl refl; values = inl refl }

count_word : (name : Text) → IsSetting (filled (count_option name))
count_word name = record { action = inl refl; values = inl refl }

repeated_words : (name : Text) → IsSetting (filled (repeated_option name))
repeated_words name = record { action = inr (inr (inl refl)); values = inl refl }

com_plain : IsPlain com_built.rules
com_plain = plain_by_ids com_built.rules refl
    (free_word _ _, (free_words _ _, (flag_word _, (count_word _, (value_word _, (repeated_words _, (repeated_words _, (flag_word _, (value_word _, (flag_word _, (flag_word _, (flag_word _, (flag_word _, (flag_word _, (flag_word _, (value_word _, (count_word _, (value_word _, (repeated_words _, (value_word _, (value_word _, (value_word _, (help_word, tt)))))))))))))))))))))))

com_shorts : HasHelpShorts com_built.rules
com_shorts x a is = help_found x a is

boot_plain : IsPlain boot_built.rules
boot_plain = plain_by_ids boot_built.rules refl
    (free_words _ _, (flag_word _, (count_word _, (value_word _, (repeated_words _, (flag_word _, (value_word _, (flag_word _, (flag_word _, (flag_word _, (flag_word _, (flag_word _, (flag_word _, (value_word _, (count_word _, (value_word _, (repeated_words _, (value_word _, (value_word _, (value_word _, (help_word, tt)))))))))))))))))))))

boot_shorts : HasHelpShorts boot_built.rules
boot_shorts x a is = help_found x a is

-- ---- the entries of `com` and of `boot`

abbrev file_rule : Rule
file_rule = with_index 1 (filled (operand (codes "file")))

abbrev z80_rule : Rule
z80_rule = flag_rule (codes "z80")

abbrev count_rule : Text → Rule
count_rule name = filled (count_option name)

pick_of : (rows : List Row) → HasText z80_rule rows → IsPick (one_of (codes "z80") rows)
pick_of rows has = go (bytes_eq has.text (codes "true")) refl has.passes
  where
    go : (b : Bool) → bytes_eq has.text (codes "true") ≡ b → (b || bytes_eq has.text (codes "false")) ≡ true → IsPick (one_of (codes "z80") rows)
    go true e pass = record { cpu = Z80; given = has.one ∙ ap (λ (v : Text). Some v) (same_bytes _ _ e) }
    go false e pass = record { cpu = I8080; given = has.one ∙ ap (λ (v : Text). Some v) (same_bytes _ _ pass) }

count_of : (name : Text) (rows : List Row) → (one_of name rows ≡ None) ⊎ HasText (count_rule name) rows → IsCountIfAny (one_of name rows)
count_of name rows (inl none) = inl none
count_of name rows (inr has) =
    let taken = accepts-Accepts false (parser.Unsigned 0 18446744073709551615) has.text has.passes in
    inr (record { digits = has.text; given = has.one; numeral = taken.0; fits = taken.1 })

-- the arguments from `--out-disk` on, which `com` and `boot` have last
abbrev last_rules : List Rule
last_rules =
    filled (repeated_option (codes "out-disk")) ∷ flag_rule (codes "keyboard") ∷ filled (value_option (codes "record")) ∷ flag_rule (codes "progress")
    ∷ flag_rule (codes "stop-idle") ∷ flag_rule (codes "raw") ∷ flag_rule (codes "quiet") ∷ flag_rule (codes "partial") ∷ flag_rule (codes "status")
    ∷ filled (value_option (codes "replay")) ∷ count_rule (codes "pace") ∷ filled (value_option (codes "system"))
    ∷ filled (repeated_option (codes "out-folder")) ∷ filled (value_option (codes "list")) ∷ filled (value_option (codes "save"))
    ∷ filled (value_option (codes "from")) ∷ filled help_rule ∷ []

-- words with no fault give a command with these arguments the whole entries of them
play_whole : (s : Shape) → IsPlain s.rules → HasHelpShorts s.rules → IsIn s.rules z80_rule → IsIn s.rules (count_rule (codes "steps"))
    → ((a : Rule) → IsIn last_rules a → IsIn s.rules a) → (words : List Text) → level_fault s [] nothing_held words false [] ≡ []
    → IsWholePlay (rows_after s.rules [] words)
play_whole s plain shorts z80 steps last words e =
    let rows = rows_after s.rules [] words in
    record {
      z80 = pick_of rows (default_text s plain shorts words e z80_rule z80 tt);
      steps = count_of (codes "steps") rows (text_or_none s plain shorts words e (count_rule (codes "steps")) steps);
      keyboard = given (codes "keyboard") (inr (inl refl));
      progress = given (codes "progress") (inr (inr (inr (inl refl))));
      idle = given (codes "stop-idle") (inr (inr (inr (inr (inl refl)))));
      raw = given (codes "raw") (inr (inr (inr (inr (inr (inl refl))))));
      quiet = given (codes "quiet") (inr (inr (inr (inr (inr (inr (inl refl)))))));
      partial = given (codes "partial") (inr (inr (inr (inr (inr (inr (inr (inl refl))))))));
      status = given (codes "status") (inr (inr (inr (inr (inr (inr (inr (inr (inl refl)))))))));
      pace = count_of (codes "pace") rows (text_or_none s plain shorts words e (count_rule (codes "pace"))
          (last (count_rule (codes "pace")) (inr (inr (inr (inr (inr (inr (inr (inr (inr (inr (inl refl)))))))))))));
    }
  where
    given : (name : Text) → IsIn last_rules (flag_rule name) → IsFlag (one_of name (rows_after s.rules [] words))
    given name among = flag_in name (rows_after s.rules [] words) (default_text s plain shorts words e (flag_rule name) (last (flag_rule name) among) tt)

com_whole : (words : List Text) → level_fault com_built [] nothing_held words false [] ≡ [] → IsWholePlay (rows_after com_built.rules [] words)
com_whole words e = play_whole com_built com_plain com_shorts (inr (inr (inl refl))) (inr (inr (inr (inl refl))))
    (λ a among. inr (inr (inr (inr (inr (inr among)))))) words e

boot_whole : (words : List Text) → level_fault boot_built [] nothing_held words false [] ≡ [] → IsWholePlay (rows_after boot_built.rules [] words)
boot_whole words e = play_whole boot_built boot_plain boot_shorts (inr (inl refl)) (inr (inr (inl refl))) (λ a among. inr (inr (inr (inr among)))) words e

-- ---- the other subcommands

list_plain : IsPlain list_built.rules
list_plain = plain_by_ids list_built.rules refl (operand_word _ _, (flag_word _, (help_word, tt)))

list_shorts : HasHelpShorts list_built.rules
list_shorts x a is = help_found x a is

list_whole : (words : List Text) → level_fault list_built [] nothing_held words false [] ≡ [] → IsWholeList (rows_after list_built.rules [] words)
list_whole words e =
    let rows = rows_after list_built.rules [] words in
    let file = one_given (is_given (codes "file") rows) (leaf_checked list_built list_plain list_shorts words e) in
    record {
      file = given_first list_built list_plain list_shorts words e file_rule (inl refl) file;
      z80 = pick_of rows (default_text list_built list_plain list_shorts words e z80_rule (inr (inl refl)) tt);
    }

asm_plain : IsPlain asm_built.rules
asm_plain = plain_by_ids asm_built.rules refl
    (operand_word _ _, (operand_word _ _, (value_word _, (help_word, tt))))

asm_shorts : HasHelpShorts asm_built.rules
asm_shorts x a is = help_found x a is

abbrev source_rule : Rule
source_rule = with_index 1 (filled (operand (codes "source")))

abbrev out_rule : Rule
out_rule = with_index 2 (filled (operand (codes "out")))

asm_whole : (words : List Text) → level_fault asm_built [] nothing_held words false [] ≡ [] → IsWholeAsm (rows_after asm_built.rules [] words)
asm_whole words e =
    let rows = rows_after asm_built.rules [] words in
    let given = both_given (is_given (codes "source") rows) (is_given (codes "out") rows) (leaf_checked asm_built asm_plain asm_shorts words e) in
    record {
      source = given_first asm_built asm_plain asm_shorts words e source_rule (inl refl) given.0;
      out = given_first asm_built asm_plain asm_shorts words e out_rule (inr (inl refl)) given.1;
    }

check_plain : IsPlain check_built.rules
check_plain = plain_by_ids check_built.rules refl (operand_word _ _, (help_word, tt))

check_shorts : HasHelpShorts check_built.rules
check_shorts x a is = help_found x a is

abbrev image_rule : Rule
image_rule = with_index 1 (filled (operand (codes "image")))

check_whole : (words : List Text) → level_fault check_built [] nothing_held words false [] ≡ [] → IsWholeCheck (rows_after check_built.rules [] words)
check_whole words e =
    let image = one_given (is_given (codes "image") (rows_after check_built.rules [] words)) (leaf_checked check_built check_plain check_shorts words e) in
    record { image = given_first check_built check_plain check_shorts words e image_rule (inl refl) image }

run_plain : IsPlain run_built.rules
run_plain = plain_by_ids run_built.rules refl
    (operand_word _ _, (value_word _, (value_word _, (flag_word _, (flag_word _, (value_word _, (flag_word _, (repeated_words _, (flag_word _, (count_word _, (repeated_words _, (count_word _, (help_word, tt)))))))))))))

run_shorts : HasHelpShorts run_built.rules
run_shorts x a is = help_found x a is

abbrev config_rule : Rule
config_rule = with_index 1 (filled (operand (codes "config")))

run_whole : (words : List Text) → level_fault run_built [] nothing_held words false [] ≡ [] → IsWholeRun (rows_after run_built.rules [] words)
run_whole words e =
    let rows = rows_after run_built.rules [] words in
    let config = one_given (is_given (codes "config") rows) (leaf_checked run_built run_plain run_shorts words e) in
    record {
      config = given_first run_built run_plain run_shorts words e config_rule (inl refl) config;
      progress = flag_in (codes "progress") rows
          (default_text run_built run_plain run_shorts words e (flag_rule (codes "progress")) (inr (inr (inr (inl refl)))) tt);
      idle = flag_in (codes "stop-idle") rows
          (default_text run_built run_plain run_shorts words e (flag_rule (codes "stop-idle")) (inr (inr (inr (inr (inl refl))))) tt);
      raw = flag_in (codes "raw") rows
          (default_text run_built run_plain run_shorts words e (flag_rule (codes "raw")) (inr (inr (inr (inr (inr (inr (inl refl))))))) tt);
      here = flag_in (codes "outputs-here") rows
          (default_text run_built run_plain run_shorts words e (flag_rule (codes "outputs-here"))
          (inr (inr (inr (inr (inr (inr (inr (inr (inl refl))))))))) tt);
      pace = count_of (codes "pace") rows
          (text_or_none run_built run_plain run_shorts words e (count_rule (codes "pace"))
          (inr (inr (inr (inr (inr (inr (inr (inr (inr (inl refl)))))))))));
      checkpoint = count_of (codes "checkpoint") rows
          (text_or_none run_built run_plain run_shorts words e (count_rule (codes "checkpoint"))
          (inr (inr (inr (inr (inr (inr (inr (inr (inr (inr (inr (inl refl)))))))))))));
    }

debug_plain : IsPlain debug_built.rules
debug_plain = plain_by_ids debug_built.rules refl (free_word _ _, (flag_word _, (value_word _, (value_word _, (value_word _, (help_word, tt))))))

debug_shorts : HasHelpShorts debug_built.rules
debug_shorts x a is = help_found x a is

debug_whole : (words : List Text) → level_fault debug_built [] nothing_held words false [] ≡ [] → IsWholeDebug (rows_after debug_built.rules [] words)
debug_whole words e =
    let rows = rows_after debug_built.rules [] words in
    record {
      z80 = pick_of rows (default_text debug_built debug_plain debug_shorts words e z80_rule (inr (inl refl)) tt);
    }

serve_plain : IsPlain serve_built.rules
serve_plain = plain_by_ids serve_built.rules refl (value_word _, (count_word _, (value_word _, (value_word _, (value_word _, (flag_word _, (help_word, tt)))))))

serve_shorts : HasHelpShorts serve_built.rules
serve_shorts x a is = help_found x a is

serve_whole : (words : List Text) → level_fault serve_built [] nothing_held words false [] ≡ [] → IsWholeServe (rows_after serve_built.rules [] words)
serve_whole words e =
    let rows = rows_after serve_built.rules [] words in
    record {
      frames = count_of (codes "frames") rows
          (text_or_none serve_built serve_plain serve_shorts words e (count_rule (codes "frames")) (inr (inl refl)));
      compact = flag_in (codes "compact") rows
          (default_text serve_built serve_plain serve_shorts words e (flag_rule (codes "compact")) (inr (inr (inr (inr (inr (inl refl)))))) tt);
    }

saved_plain : IsPlain saved_built.rules
saved_plain = plain_by_ids saved_built.rules refl (operand_word _ _, (help_word, tt))

saved_shorts : HasHelpShorts saved_built.rules
saved_shorts x a is = help_found x a is

saved_whole : (words : List Text) → level_fault saved_built [] nothing_held words false [] ≡ [] → IsWholeSaved (rows_after saved_built.rules [] words)
saved_whole words e =
    let file = one_given (is_given (codes "file") (rows_after saved_built.rules [] words)) (leaf_checked saved_built saved_plain saved_shorts words e) in
    record { file = given_first saved_built saved_plain saved_shorts words e file_rule (inl refl) file }

-- ---- the whole command line

-- the subcommand that a word names, by whether it is the name of each
abbrev found : Bool → Bool → Bool → Bool → Bool → Bool → Bool → Bool → Bool → Option Shape
found a t b d k r g w v = cond a (Some com_built) (cond t (Some boot_built) (cond b (Some asm_built) (cond d (Some list_built)
    (cond k (Some check_built) (cond r (Some run_built) (cond g (Some debug_built) (cond w (Some serve_built) (cond v (Some saved_built) None))))))))

-- words with no fault name a subcommand, and give it whole entries
pub faultless_whole : (words : List Text) → fault_of host_app words ≡ [] → IsWhole (subcommand_of host_app words)
faultless_whole words e =
    let stop = (walk host_built.top.rules (names_of host_built) nothing_held (argument_words host_app words)).stopped in
    let parts = level_checked host_built.top (names_of host_built) nothing_held (argument_words host_app words) (is_some (entered host_built stop)) (entered_fault host_built stop) e in
    go stop (has (is_some (entered host_built stop)) parts.1) parts.0
  where
    has : (b : Bool) → check_fault host_built.top (finished host_built.top.rules (walk host_built.top.rules (names_of host_built) nothing_held (argument_words host_app words)).held) b ≡ []
        → b ≡ true
    has true h = refl
    has false h = absurd (let bad : ⊥ = cc in bad)

    named : (p : Text × List Text) (a t b d k r g w v : Bool) → is_some (option_map (λ s. rows_at s p.1) (found a t b d k r g w v)) ≡ true
        → option_map_or (λ s. level_fault s [] nothing_held p.1 false []) (found a t b d k r g w v) [] ≡ []
        → IsWhole (option_map (λ s. rows_at s p.1) (found a t b d k r g w v))
    named p true t b d k r g w v some h = inl (refl, com_whole p.1 h)
    named p false true b d k r g w v some h = inr (inl (refl, boot_whole p.1 h))
    named p false false true d k r g w v some h = inr (inr (inl (refl, asm_whole p.1 h)))
    named p false false false true k r g w v some h = inr (inr (inr (inl (refl, list_whole p.1 h))))
    named p false false false false true r g w v some h = inr (inr (inr (inr (inl (refl, check_whole p.1 h)))))
    named p false false false false false true g w v some h = inr (inr (inr (inr (inr (inl (refl, run_whole p.1 h))))))
    named p false false false false false false true w v some h = inr (inr (inr (inr (inr (inr (inl (refl, debug_whole p.1 h)))))))
    named p false false false false false false false true v some h = inr (inr (inr (inr (inr (inr (inr (inl (refl, serve_whole p.1 h))))))))
    named p false false false false false false false false true some h = inr (inr (inr (inr (inr (inr (inr (inr (refl, saved_whole p.1 h))))))))
    named p false false false false false false false false false some h = absurd (true≢false (sym some))

    go : (at : Option (Text × List Text)) → is_some (entered host_built at) ≡ true → entered_fault host_built at ≡ [] → IsWhole (entered host_built at)
    go None some h = absurd (true≢false (sym some))
    go (Some p) some h = named p (answers_to p.0 (label_of com_built)) (answers_to p.0 (label_of boot_built)) (answers_to p.0 (label_of asm_built))
        (answers_to p.0 (label_of list_built)) (answers_to p.0 (label_of check_built)) (answers_to p.0 (label_of run_built)) (answers_to p.0 (label_of debug_built))
        (answers_to p.0 (label_of serve_built)) (answers_to p.0 (label_of saved_built)) some h
