use Rattle.std.proofs.Common.{◌≡◌, ◌%◌, false, true, get_or, refl, ap, sym, ◌∙◌, arith}
use Rattle.cpm_memory.specs.Contents.{word_puts, page_of}
use Rattle.cpm_memory.proofs.Words.{word-stored, word-stamped}
use Rattle.cpm_memory.proofs.flat.FlatMemoryMemory.set_word_settled.Goals as goal

pub returns-clause-contents : goal.returns-clause-contents
returns-clause-contents c =
    let e = c.from-low.ensures in
    let settled : get_or c.args.self.now.written (page_of c.args.address) false ≡ true = ap (λ i. get_or c.args.self.now.written (page_of i) false) (sym e) ∙ c.if-not-self-page.false in
    word-stored _ c.from-low.result c.args.address c.args.value _ e refl (omega arith) (λ q. c.if-low-eq255.false (ap (λ n. n % 256) e ∙ q)) settled

pub returns-clause-leads : goal.returns-clause-leads
returns-clause-leads c =
    let e = c.from-low.ensures in
    record {
      stores = record { writes = word_puts c.args.address c.args.value; contents = returns-clause-contents c; surroundings = refl };
      stamps = record {
        writes = word_puts c.args.address c.args.value;
        contents = returns-clause-contents c;
        stamps = word-stamped c.args.self.now.stamps c.from-low.result c.args.address c.args.value e (omega arith) (λ q. c.if-low-eq255.false (ap (λ n. n % 256) e ∙ q)) (omega (arith, e, c.args.self.now.stamped.pages)) (omega (arith, c.if-self-page.false));
      };
    }
