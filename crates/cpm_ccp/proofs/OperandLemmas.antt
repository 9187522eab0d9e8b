-- What the operands of commands are like.
use Rattle.std.proofs.Common.{◌≡◌, ◌≤◌, ◌%◌, ℕ, zero, suc, Bool, true, false, not, List, [], ◌∷◌, ◌++◌, length, take, drop, get_or, Some, None, Option, refl, arith}
use Rattle.std.specs.Prelude.{◌&&◌, ◌||◌, ◌==◌, if◌then◌else◌, codes}
use Rattle.std.proofs.lemmas.Bool.Decides.{nat_tests}
use Rattle.cpm_volume.specs.declared.fcb.Fcb.{Fcb}
use Rattle.cpm_volume.specs.Files.{has_wildcard}
use Rattle.cpm_directory.specs.CommandLine.{is_drive, fcb_named}
use Rattle.cpm_ccp.specs.Words.{is_drive_alone, number_up_to}
use Rattle.cpm_ccp.specs.Names.{is_program_name, is_every, program_file}
use Rattle.cpm_ccp.specs.Command.{HasOperands, built_in_of, by_name, directory_command, erase_of, is_elsewhere, command_meaning, rename_of, rename_command, save_of, save_command, type_command, user_numbered, user_of}
use Rattle.cpm_ccp.specs.declared.built_in.BuiltIn.{BuiltIn}
use Rattle.cpm_ccp.specs.declared.built_in.BuiltIn.TheVariants as built_in
use Rattle.cpm_ccp.specs.declared.command.Command.TheVariants.{Erase, EraseAll, RenameForm, Rename, TypeFile, TypeForm, SaveForm, Save}

-- the letter of a drive that stands alone
pub letter_of_drive : (word tail : List ℕ) → is_drive_alone word tail ≡ true → (65 ≤ get_or word 0 0) × (get_or word 0 0 ≤ 80)
unfolding is_drive_alone is_drive
letter_of_drive word tail alone = (grind (arith, nat_tests), grind (arith, nat_tests))

number_up_to-le : (most : ℕ) (word : List ℕ) (n : ℕ) → number_up_to most word ≡ Some n → n ≤ most
unfolding number_up_to
number_up_to-le most word n is = grind (arith, nat_tests)

erased : (file : Fcb) (b : Bool) → is_every file ≡ b → HasOperands (if b then EraseAll file else Erase file)
erased file true is = is
erased file false is = is

shown : (file : Fcb) (b : Bool) → has_wildcard file.extent.name ≡ b → HasOperands (if b then TypeForm else TypeFile file)
shown file true is = tt
shown file false is = is

saved_one : (pages : ℕ) (file : Fcb) (b : Bool) → pages ≤ 255 → has_wildcard file.extent.name ≡ b → HasOperands (if b then SaveForm else Save pages file)
saved_one pages file true few is = tt
saved_one pages file false few is = (omega arith, is)

save_command-fits : (pages : Option ℕ) (file : Fcb) → ((n : ℕ) → pages ≡ Some n → n ≤ 255) → HasOperands (save_command pages file)
unfolding save_command
save_command-fits None file few = tt
save_command-fits (Some n) file few = saved_one n file (has_wildcard file.extent.name) (few n refl) refl

user-fits : (user : Option ℕ) → ((n : ℕ) → user ≡ Some n → n ≤ 15) → HasOperands (user_numbered user)
unfolding user_numbered
user-fits None few = tt
user-fits (Some n) few = omega (arith, few n refl)

renamed_one : (old new : Fcb) (elsewhere a b : Bool) → has_wildcard new.extent.name ≡ a → has_wildcard old.extent.name ≡ b
    → HasOperands (if a || (b || elsewhere) then RenameForm else Rename (record old { drive = new.drive }) new)
renamed_one old new elsewhere true b new_is old_is = tt
renamed_one old new elsewhere false true new_is old_is = tt
renamed_one old new true false false new_is old_is = tt
renamed_one old new false false false new_is old_is = (refl, old_is, new_is)

rename_command-fits : (current : ℕ) (new : Fcb) (text : Option (List ℕ)) → HasOperands (rename_command current new text)
unfolding rename_command
rename_command-fits current new None = tt
rename_command-fits current new (Some text) =
    let old = fcb_named text in renamed_one old new (is_elsewhere current new old) _ _ refl refl

one_file : (a b : Bool) → (a || b) ≡ false → (a ≡ false) × (b ≡ false)
one_file true b is = absurd (cc)
one_file false b is = (refl, is)

wildcard-kept : (n : ℕ) (xs ys : List ℕ) → has_wildcard xs ≡ false → has_wildcard ys ≡ false → has_wildcard (take n xs ++ ys) ≡ false
unfolding has_wildcard
wildcard-kept zero xs ys a b = b
wildcard-kept (suc n) [] ys a b = b
wildcard-kept (suc n) (x ∷ xs) ys a b =
    let parts = one_file (x % 128 == 63) (has_wildcard xs) a in rw parts.0 (wildcard-kept n xs ys parts.1 b)

behind_front : (n : ℕ) (xs ys : List ℕ) → n ≤ length xs → drop n (take n xs ++ ys) ≡ ys
behind_front zero xs ys within = refl
behind_front (suc n) [] ys within = absurd (omega arith)
behind_front (suc n) (x ∷ xs) ys within = behind_front n xs ys (omega arith)

last_fails : (a b w : Bool) → (a && (b && not w)) ≡ true → w ≡ false
last_fails false b w is = absurd (cc)
last_fails true false w is = absurd (cc)
last_fails true true true is = absurd (cc)
last_fails true true false is = refl

program-fits : (file : Fcb) → 8 ≤ length file.extent.name → is_program_name file ≡ true
    → (drop 8 (program_file file).extent.name ≡ codes "COM") × (has_wildcard (program_file file).extent.name ≡ false)
unfolding program_file is_program_name has_wildcard
program-fits file eight named =
    (behind_front 8 file.extent.name (codes "COM") eight, wildcard-kept 8 file.extent.name (codes "COM") (last_fails _ _ _ named) refl)

by_name-fits : (current : ℕ) (file : Fcb) (tail : List ℕ) (found : Option BuiltIn) → 8 ≤ length file.extent.name → is_program_name file ≡ true
    → HasOperands (by_name current file tail found)
unfolding by_name directory_command erase_of rename_of save_of type_command user_of
by_name-fits current file tail None eight named = program-fits file eight named
by_name-fits current file tail (Some built_in.Dir) eight named = tt
by_name-fits current file tail (Some built_in.Era) eight named = erased (fcb_named tail) _ refl
by_name-fits current file tail (Some built_in.Ren) eight named = rename_command-fits current _ _
by_name-fits current file tail (Some built_in.Save) eight named = save_command-fits _ _ (number_up_to-le 255 _)
by_name-fits current file tail (Some built_in.TypeFile) eight named = shown (fcb_named tail) _ refl
by_name-fits current file tail (Some built_in.User) eight named = user-fits _ (number_up_to-le 15 _)

pub meaning-fits : (current : ℕ) (file : Fcb) (tail : List ℕ) → 8 ≤ length file.extent.name → is_program_name file ≡ true → HasOperands (command_meaning current file tail)
meaning-fits current file tail eight named = by_name-fits current file tail (built_in_of file) eight named
