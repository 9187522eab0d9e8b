use Rattle.std.proofs.Common.{◌≡◌, ◌≢◌, ◌<◌, ◌≤◌, ℕ, List, length, get_or, true, false, refl, arith}
use Rattle.std.proofs.lemmas.Bool.{eq-eqb, ne_eqb, and_from, and_left, and_right, le-leb, lt-leb}
use Rattle.std.proofs.lemmas.List.{get_or_past}
use Rattle.cpm_directory.specs.CommandLine.{is_drive, drive_of, after_drive}
use Rattle.cpm_directory.proofs.TextLemmas.{rest}
use Rattle.cpm_directory.proofs.command_line.split_drive.Goals as goal
use Rattle.cpm_directory.proofs.command_line.split_drive.Goals.{else-text-ge2-via-then-text-ge2+then-text-eq58+then-text-ge65+else-text-le80, else-text-ge2-via-then-text-ge2+then-text-eq58+else-text-ge65, else-text-ge2-via-then-text-ge2+else-text-eq58, else-text-ge2-via-else-text-ge2}

named : (text : List ℕ) → get_or text 1 0 ≡ 58 → 65 ≤ get_or text 0 0 → get_or text 0 0 ≤ 80 → is_drive text ≡ true
unfolding is_drive
named text a b c = and_from _ _ (eq-eqb _ _ a) (and_from _ _ (le-leb _ _ b) (le-leb _ _ c))

no_colon : (text : List ℕ) → get_or text 1 0 ≢ 58 → is_drive text ≡ false
unfolding is_drive
no_colon text h = and_left _ _ (ne_eqb _ _ h)

too_low : (text : List ℕ) → get_or text 0 0 < 65 → is_drive text ≡ false
unfolding is_drive
too_low text h = and_right _ _ (and_left _ _ (lt-leb _ _ h))

too_high : (text : List ℕ) → 80 < get_or text 0 0 → is_drive text ≡ false
unfolding is_drive
too_high text h = and_right _ _ (and_right _ _ (lt-leb _ _ h))

short : (text : List ℕ) → length text < 2 → is_drive text ≡ false
short text h = no_colon text (λ e. let none = get_or_past text 1 0 (omega arith) in absurd (omega arith))

pub returns-then-text-le80-clause-drive : goal.returns-then-text-le80-clause-drive
unfolding drive_of
returns-then-text-le80-clause-drive c = rw (named c.args.text.now c.if-text-eq58.true c.if-text-ge65.true c.if-text-le80.true) refl

pub returns-then-text-le80-clause-rest : goal.returns-then-text-le80-clause-rest
unfolding after_drive
returns-then-text-le80-clause-rest c = rw (named c.args.text.now c.if-text-eq58.true c.if-text-ge65.true c.if-text-le80.true) (rest c.args.text.now _ 2 refl)

none : (c : goal.Joined-else-text-ge2) → is_drive c.args.text.now ≡ false
none c =
    elim c.else-text-ge2.branch [
      | else-text-ge2-via-then-text-ge2+then-text-eq58+then-text-ge65+else-text-le80 w ↦ too_high c.args.text.now (omega arith)
      | else-text-ge2-via-then-text-ge2+then-text-eq58+else-text-ge65 w ↦ too_low c.args.text.now (omega arith)
      | else-text-ge2-via-then-text-ge2+else-text-eq58 w ↦ no_colon c.args.text.now w.if-text-eq58.false
      | else-text-ge2-via-else-text-ge2 w ↦ short c.args.text.now (omega arith)
    ]

pub returns-else-text-ge2-clause-drive : goal.returns-else-text-ge2-clause-drive
unfolding drive_of
returns-else-text-ge2-clause-drive c = rw (none c) refl

pub returns-else-text-ge2-clause-rest : goal.returns-else-text-ge2-clause-rest
unfolding after_drive
returns-else-text-ge2-clause-rest c = rw (none c) refl
