-- The rules of clap that tables of arguments stand for.
use Rattle.std.specs.Prelude.{[], ◌∷◌, List}
use Rattle.std.specs.Borrow.{Bor}
use Rattle.clap.specs.Words.{App, Rule, Text, new_app, with_rule, with_subcommand}
use Rattle.cpm_command_line.specs.declared.build.Argument.{Argument}
use Rattle.cpm_command_line.specs.declared.build.Argument.TheVariants.{Count, Flag, User, UserIfAny, Value, Values, Word, WordIfAny, Words, WordsIfAny}
use Rattle.cpm_command_line.specs.CommandLine.{count_option, flag, operand, repeated_option, value_option, word_left_out, words_left_out}
use Rattle.cpm_command_line.specs.DiskLine.{operands, user_if_any_option, user_option}

-- own: the rule of an argument
abbrev pub rule_for : Argument → Rule
rule_for (Word id shown) = operand id.now
rule_for (Words id shown) = operands id.now
rule_for (WordIfAny id shown) = word_left_out id.now
rule_for (WordsIfAny id shown) = words_left_out id.now
rule_for (Flag name) = flag name.now
rule_for (Value name shown) = value_option name.now
rule_for (Values name shown) = repeated_option name.now
rule_for (Count name) = count_option name.now
rule_for UserIfAny = user_if_any_option
rule_for User = user_option

-- own: the command with these arguments behind its own
abbrev pub with_arguments : App → List Argument → App
with_arguments a [] = a
with_arguments a (argument ∷ rest) = with_arguments (with_rule a (rule_for argument)) rest

-- own: the command of a row: its name, with its arguments
abbrev pub app_for : Bor Text × Bor (List Argument) → App
app_for row = with_arguments (new_app row.0.now) row.1.now

-- own: the command with the subcommands of these rows behind its own
abbrev pub with_commands : App → List (Bor Text × Bor (List Argument)) → App
with_commands a [] = a
with_commands a (row ∷ rest) = with_commands (with_subcommand a (app_for row).top) rest
