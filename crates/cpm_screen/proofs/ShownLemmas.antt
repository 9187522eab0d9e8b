-- What a character does where no sequence is being read.
use Rattle.std.proofs.Common.{◌≡◌, ℕ, ◌≤◌, false, sym, refl, ap, ◌∙◌, arith}
use Rattle.std.specs.Prelude.{◌≢◌, ◌==◌, nat_lt}
use Rattle.std.proofs.lemmas.Bool.Decides.{nat_tests}
use Rattle.cpm_screen.specs.declared.terminal.TerminalKind.{TerminalKind}
use Rattle.cpm_screen.specs.declared.terminal.TerminalKind.TheVariants.{Adm3a, Kaypro, Televideo, Vt52, Vt100}
use Rattle.cpm_screen.specs.declared.action.Sequence.{Sequence}
use Rattle.cpm_screen.specs.declared.action.Sequence.TheVariants.{Text}
use Rattle.cpm_screen.specs.declared.action.Action.TheVariants.{Character}
use Rattle.cpm_screen.specs.declared.action.Receipt.{Receipt}
use Rattle.cpm_screen.specs.Receipts.{does, of_text, adm3a_receipt, kaypro_receipt, televideo_receipt, vt52_receipt}
use Rattle.cpm_screen.specs.Vt100.{vt100_receipt, vt100_character}
use Rattle.cpm_screen.specs.State.{ScreenState}
use Rattle.cpm_screen.specs.Edits.{character_shown}
use Rattle.cpm_screen.specs.Shown.{receipt_of, performed, byte_shown}

module _ (byte : ℕ) (low : 0x20 ≤ byte) (no_rubout : byte ≢ 0x7F) where
  high : nat_lt byte 0x20 ≡ false
  high = grind (arith, nat_tests)

  other : (byte == 0x7F) ≡ false
  other = grind (arith, nat_tests)

  by_terminal : (t : TerminalKind) → receipt_of t Text byte ≡ does (Character byte)
  unfolding receipt_of of_text adm3a_receipt kaypro_receipt televideo_receipt vt52_receipt vt100_receipt vt100_character
  by_terminal Adm3a = rw high (rw other refl)
  by_terminal Kaypro = rw high (rw other refl)
  by_terminal Televideo = rw high (rw other refl)
  by_terminal Vt52 = rw high (rw other refl)
  by_terminal Vt100 =
      let a : (byte == 0x1B) ≡ false = grind (arith, nat_tests) in
      let b : (byte == 0x18) ≡ false = grind (arith, nat_tests) in
      let d : (byte == 0x1A) ≡ false = grind (arith, nat_tests) in
      rw a (rw b (rw d (rw high (rw other refl))))

pub character_is : (s : ScreenState) (byte : ℕ) → 0x20 ≤ byte → byte ≢ 0x7F → s.sequence ≡ Text → byte_shown s byte ≡ character_shown byte s
unfolding byte_shown performed
character_is s byte low no_rubout text =
    let one : receipt_of s.terminal s.sequence byte ≡ does (Character byte) =
    ap (λ (q : Sequence). receipt_of s.terminal q byte) text ∙ by_terminal byte low no_rubout s.terminal in
    let same : record s { sequence = Text } ≡ s = (let back = sym text in λ i. record s { sequence = back i }) in
    ap (λ (r : Receipt). performed r.action (record s { sequence = r.sequence })) one ∙ ap (character_shown byte) same
