use Rattle.std.proofs.Common.{◌≡◌, ◌∙◌, ◌<◌, true, [], Bor, List, ℕ, length, get_or, sym, ap, arith, rules}
use Rattle.cpm_host.specs.Tails.{fits_tail}
use Rattle.cpm_host.proofs.TailLemmas.{word_more, word_short}
use Rattle.cpm_host.proofs.tail.tail_of.Goals as goal

pub loop-word-preserved : goal.loop-word-preserved
loop-word-preserved c =
    let l : c.loop-word.word-index < length c.args.words.now = omega arith in
    let none : Bor (List ℕ) = record { ref_ptr = (0, 0); now = [] } in
    let word = (get_or c.args.words.now c.loop-word.word-index none).now in
    let fit : c.fits_tail.result ≡ true = search rules in
    let may : fits_tail c.loop-word.text.items word ≡ true = ap (λ (t : List ℕ). fits_tail t word) (sym c.deref.ensures.value) ∙ sym c.fits_tail.ensures ∙ fit in
    record {
      rest = word_more c.loop-word.text.items c.args.words.now c.loop-word.word-index none c.add_word.new.text.items _ l may c.in_ok-add_word.ensures c.loop-word.invariant.rest;
      short = word_short c.loop-word.text.items word c.add_word.new.text.items may c.in_ok-add_word.ensures;
    }
