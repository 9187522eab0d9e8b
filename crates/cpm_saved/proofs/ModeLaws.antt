-- A mode is that of its bytes.
use Rattle.std.proofs.Common.{◌≡◌, ◌∙◌, ℕ, ◌+◌, ◌*◌, ◌/◌, ◌%◌, ◌<◌, List, [], ◌∷◌, length, Bool, true, false, ap, arith, refl}
use Rattle.std.specs.Prelude.{◌&&◌, nat_eq, slice_index}
use Rattle.std.specs.Cmp.Lexicographic.{pointwise}
use Rattle.std.proofs.lemmas.Bool.Decides.{nat_tests}
use Rattle.std.proofs.lemmas.Cmp.{nat_list_eq_equiv}
use Rattle.cpm_bdos.specs.declared.session.CommandPart.{CommandPart}
use Rattle.cpm_bdos.specs.declared.session.CommandPart.TheVariants as command
use Rattle.cpm_bdos.specs.declared.session.HeldOutput.TheVariants as held
use Rattle.cpm_bdos.specs.declared.session.Mode.{Mode}
use Rattle.cpm_bdos.specs.declared.session.Mode.TheVariants as mode
use Rattle.cpm_saved.specs.SavedMode.{IsCommandFit, IsModeFit, command_numbered, command_row, is_mode, mode_bytes, mode_numbered, mode_of_bytes, mode_word}

word_back : (n : ℕ) → n < 65536 → n % 256 + 256 * (n / 256 % 256) ≡ n
word_back n small = omega arith

column_back : (n : ℕ) → n < 256 → (n % 256 + 256 * (n / 256 % 256)) % 256 ≡ n
column_back n small = omega arith

command_back : (n : ℕ) (c : CommandPart) → IsCommandFit c
    → command_numbered (slice_index (command_row n c) 1) (mode_word (command_row n c) 2) (mode_word (command_row n c) 4) ≡ c
command_back n command.Line fit = refl
command_back n command.Begin fit = refl
command_back n (command.Directory next column) fit =
    ap (λ (k : ℕ). command.Directory k ((column % 256 + 256 * (column / 256 % 256)) % 256)) (word_back next fit.0)
    ∙ ap (λ (k : ℕ). command.Directory next k) (column_back column fit.1)
command_back n command.Answer fit = refl
command_back n command.EraseAll fit = refl
command_back n (command.Save next left) fit =
    ap (λ (k : ℕ). command.Save k (left % 256 + 256 * (left / 256 % 256))) (word_back next fit.0)
    ∙ ap (λ (k : ℕ). command.Save next k) (word_back left fit.1)
command_back n command.Close fit = refl
command_back n command.Show fit = refl
command_back n (command.Load next) fit = ap (λ (k : ℕ). command.Load k) (word_back next fit)

first_back : (n : ℕ) (c : CommandPart) → slice_index (command_row n c) 0 ≡ n
first_back n command.Line = refl
first_back n command.Begin = refl
first_back n (command.Directory next column) = refl
first_back n command.Answer = refl
first_back n command.EraseAll = refl
first_back n (command.Save next left) = refl
first_back n command.Close = refl
first_back n command.Show = refl
first_back n (command.Load next) = refl

-- a mode of the command processor, whatever number stands for it
numbered_back : (n : ℕ) (c : CommandPart) → IsCommandFit c → mode_of_bytes (command_row n c) ≡ mode_numbered n (mode_word (command_row n c) 2) c
numbered_back n c fit =
    ap (λ (d : CommandPart). mode_numbered (slice_index (command_row n c) 0) (mode_word (command_row n c) 2) d) (command_back n c fit)
    ∙ ap (λ (k : ℕ). mode_numbered k (mode_word (command_row n c) 2) c) (first_back n c)

pub modes_back : (m : Mode) → IsModeFit m → mode_of_bytes (mode_bytes m) ≡ m
modes_back mode.Program fit = refl
modes_back (mode.Text next) fit = ap (λ (k : ℕ). mode.Text k) (word_back next fit)
modes_back mode.Line fit = refl
modes_back (mode.Hold held.Call) fit = refl
modes_back (mode.Hold (held.Text next)) fit = ap (λ (k : ℕ). mode.Hold (held.Text k)) (word_back next fit)
modes_back (mode.Hold (held.Command c)) fit = numbered_back 5 c fit
modes_back mode.Fault fit = refl
modes_back (mode.Command c) fit = numbered_back 7 c fit

same_by : (x y : ℕ) (xs ys : List ℕ) → (pointwise nat_eq xs ys ≡ true → xs ≡ ys)
    → (t : Bool) → nat_eq x y ≡ t → (t && pointwise nat_eq xs ys) ≡ true → x ∷ xs ≡ y ∷ ys
same_by x y xs ys rest true test e =
    let head : x ≡ y = grind (arith, nat_tests) in
    let tail : xs ≡ ys = rest e in cc
same_by x y xs ys rest false test e = absurd (cc)

pub pointwise_same : (xs ys : List ℕ) → pointwise nat_eq xs ys ≡ true → xs ≡ ys
pointwise_same [] [] e = refl
pointwise_same [] (y ∷ ys) e = absurd (cc)
pointwise_same (x ∷ xs) [] e = absurd (cc)
pointwise_same (x ∷ xs) (y ∷ ys) e = same_by x y xs ys (pointwise_same xs ys) (nat_eq x y) refl e

-- the bytes of a mode are just those of theirs
pub modes_are : (m : Mode) → IsModeFit m → is_mode (mode_bytes m) ≡ true
modes_are m fit =
    ap (λ (n : Mode). pointwise nat_eq (mode_bytes n) (mode_bytes m)) (modes_back m fit) ∙ nat_list_eq_equiv.refl (mode_bytes m)

pub row_length : (n : ℕ) (c : CommandPart) → length (command_row n c) ≡ 6
row_length n command.Line = refl
row_length n command.Begin = refl
row_length n (command.Directory next column) = refl
row_length n command.Answer = refl
row_length n command.EraseAll = refl
row_length n (command.Save next left) = refl
row_length n command.Close = refl
row_length n command.Show = refl
row_length n (command.Load next) = refl

pub mode_length : (m : Mode) → length (mode_bytes m) ≡ 6
mode_length mode.Program = refl
mode_length (mode.Text next) = refl
mode_length mode.Line = refl
mode_length (mode.Hold held.Call) = refl
mode_length (mode.Hold (held.Text next)) = refl
mode_length (mode.Hold (held.Command c)) = row_length 5 c
mode_length mode.Fault = refl
mode_length (mode.Command c) = row_length 7 c
