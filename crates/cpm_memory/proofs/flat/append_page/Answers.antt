use Rattle.std.proofs.Common.{◌≡◌, ◌++◌, ℕ, List, arith, ap, sym, ◌∙◌, subst, OnOk, rules}
use Rattle.cpm_memory.specs.Opening.{opening_byte}
use Rattle.cpm_memory.specs.Frames.{boot_of}
use Rattle.cpm_memory.specs.Tabulated.{tabulated, same_tabulated}
use Rattle.cpm_memory.proofs.NewStore.{blank-page}
use Rattle.cpm_memory.proofs.flat.append_page.Goals as goal

-- a page of the first boot frame is zeros
zeros-of : (page : ℕ) → boot_of page ≡ 0 → tabulated 256 (opening_byte 1) ≡ tabulated 256 (opening_byte page)
zeros-of page e =
    same_tabulated 256 (opening_byte 1) (opening_byte page) 0
    (λ k _. blank-page page k (λ q. absurd (omega (arith, e, ap boot_of q))) (λ q. absurd (omega (arith, e, ap boot_of q))) (λ q. absurd (omega (arith, e, ap boot_of q))))

pub returns-then-boot_frame-eq0 : goal.returns-then-boot_frame-eq0
returns-then-boot_frame-eq0 c =
    let e : c.args.zeros.now ≡ tabulated 256 (opening_byte c.args.page) = c.requires ∙ zeros-of c.args.page (sym c.boot_frame.ensures ∙ c.if-boot_frame-eq0.true) in
    subst (λ (xs : List ℕ). OnOk c.extend_from_slice.result (c.extend_from_slice.new.self.items ≡ c.args.bytes.now.items ++ xs)) e (search rules)
