use Rattle.std.proofs.Common.{ℕ, Bool, List, ap, ap₂, ◌∙◌, sym}
use Rattle.std.specs.Prelude.{◌&&◌, ◌||◌, is_some, not}
use Rattle.std.specs.List.{before_first}
use Rattle.cpm_script.specs.KeyText.{count_of}
use Rattle.cpm_script.specs.Script.{is_script_space}
use Rattle.cpm_script.proofs.script.add_line.Goals as goal

pub returns-clause-memory : goal.returns-clause-memory
returns-clause-memory c oom =
    ap₂ (λ (a b : Bool). not (a || b) && is_some (count_of (before_first is_script_space c.args.line.now))) (sym c.if-is_blank.ensures) (sym c.if-is_comment.ensures)
    ∙ ap (λ (n : List ℕ). is_some (count_of n)) (sym c.parted.ensures.number) ∙ c.add_counted.ensures.memory oom
