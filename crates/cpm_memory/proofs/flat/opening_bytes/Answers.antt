use Rattle.std.proofs.Common.{◌≡◌, ℕ, ◌+◌, ◌*◌, ◌/◌, ◌%◌, ◌<◌, ◌++◌, arith, ap, sym, ◌∙◌}
use Rattle.cpm_memory.specs.Opening.{opening_byte}
use Rattle.cpm_memory.specs.Tabulated.{tabulated, tabulated_none, tabulated-append, same_tabulated}
use Rattle.cpm_memory.proofs.flat.opening_bytes.Goals as goal

abbrev byte : ℕ → ℕ
byte a = opening_byte (a / 256) (a % 256)

-- the bytes of one page more
one_more : (page : ℕ) → tabulated (256 * page) byte ++ tabulated 256 (opening_byte page) ≡ tabulated (256 * (page + 1)) byte
one_more page =
    ap (λ xs. tabulated (256 * page) byte ++ xs) (same_tabulated 256 (opening_byte page) (λ k. byte (256 * page + k)) 0 (λ k l. sym (ap (λ p. opening_byte p ((256 * page + k) % 256)) (number page k l) ∙ ap (opening_byte page) (within page k l))))
    ∙ sym (tabulated-append (256 * page) 256 byte 0)
    ∙ ap (λ n. tabulated n byte) (next page)
  where
    number : (page k : ℕ) → k < 256 → (256 * page + k) / 256 ≡ page
    number page k l = omega (arith, l)

    within : (page k : ℕ) → k < 256 → (256 * page + k) % 256 ≡ k
    within page k l = omega (arith, l)

    next : (page : ℕ) → 256 * page + 256 ≡ 256 * (page + 1)
    next page = omega arith

pub loop-page-init : goal.loop-page-init
loop-page-init c = c.in_ok-bytes.ensures.items ∙ sym (tabulated_none byte)

pub loop-page-preserved : goal.loop-page-preserved
loop-page-preserved c = c.in_ok-append_page.ensures ∙ ap (λ xs. xs ++ tabulated 256 (opening_byte c.loop-page.page)) c.loop-page.invariant ∙ one_more c.loop-page.page

pub returns : goal.returns
returns c =
    let all : 256 * c.loop-page.page ≡ 65536 = omega (arith, c.loop-page-test.false, c.loop-page.auto.page-end) in
    c.loop-page.invariant ∙ ap (λ n. tabulated n byte) all
