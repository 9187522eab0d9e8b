-- A memory of which a page got other bytes.
use Rattle.std.proofs.Common.{◌≡◌, ◌≢◌, ℕ, ◌+◌, ◌-◌, ◌*◌, ◌/◌, ◌%◌, ◌<◌, ◌++◌, Bool, true, false, List, length, take, drop, get_or, ap, sym, ◌∙◌, inl, inr, arith}
use Rattle.std.proofs.lemmas.Bool.{cases_lt}
use Rattle.std.proofs.lemmas.List.{length-append, length-take-le, get_or_append_left, get_or-append_right, get_or-take, get_or-drop, with_items_is}
use Rattle.std.specs.declared.vec.Vec.{Vec}
use Rattle.std.specs.Vec.{with_items}
use Rattle.cpm_memory.specs.Contents.{Contents, byte_at, is_written}
use Rattle.cpm_memory.specs.Scratch.{byte_with}
use Rattle.cpm_memory.specs.Tabulated.{length-tabulated, tabulated, get_or-tabulated, same_as_tabulated}
use Rattle.cpm_memory.specs.Unwritten.{IsBlankUnwritten}
use Rattle.cpm_memory.proofs.PageBytes.{size}
use Rattle.cpm_memory.proofs.PutBack.{chosen, passed}
use Rattle.cpm_memory.proofs.UnwrittenPages.{IsBlankUnwritten-kept}

-- the bytes with those of a page among them are read as those of the memory with the page
pub page_put : (c : Contents) (page : ℕ) (bytes : List ℕ) → length c.bytes ≡ 65536 → page < 256 → length bytes ≡ 256 → take (256 * page) c.bytes ++ bytes ++ drop (256 * page + 256) c.bytes ≡ tabulated 65536 (byte_with c page bytes)
page_put c page bytes all l count =
    same_as_tabulated 65536 (byte_with c page bytes) (take (256 * page) c.bytes ++ bytes ++ drop (256 * page + 256) c.bytes) 0 (size page c.bytes bytes all l count) (λ a la.
    let front = take (256 * page) c.bytes in
    let rest = drop (256 * page + 256) c.bytes in
    let before : length (take (256 * page) c.bytes) ≡ 256 * page = length-take-le (256 * page) c.bytes (omega (arith, all, l)) in
    let both : length (take (256 * page) c.bytes ++ bytes) ≡ 256 * page + 256 = length-append front bytes ∙ omega (arith, before, count) in
    elim (cases_lt a (256 * page + 256)) [
      | inl below ↦ get_or_append_left (front ++ bytes) rest 0 a (omega (arith, both, below)) ∙ elim (cases_lt a (256 * page)) [
        | inl early ↦ get_or_append_left front bytes 0 a (omega (arith, before, early)) ∙ (get_or-take (256 * page) c.bytes a 0 early ∙ sym (passed (a / 256) page (get_or bytes (a % 256) 0) (byte_at c a) (λ e. absurd (omega (arith, e, early)))))
        | inr within ↦
            let place : a - 256 * page ≡ a % 256 = omega (arith, within, below) in
            get_or-append_right front bytes (256 * page) a 0 before within ∙ (ap (λ k. get_or bytes k 0) place ∙ sym (chosen (a / 256) page (get_or bytes (a % 256) 0) (byte_at c a) (omega (arith, within, below))))
      ]
      | inr past ↦
          let place : 256 * page + 256 + (a - (256 * page + 256)) ≡ a = omega (arith, past) in
          get_or-append_right (front ++ bytes) rest (256 * page + 256) a 0 both past ∙ (get_or-drop (256 * page + 256) c.bytes (a - (256 * page + 256)) 0 ∙ (ap (λ k. get_or c.bytes k 0) place ∙ sym (passed (a / 256) page (get_or bytes (a % 256) 0) (byte_at c a) (λ e. absurd (omega (arith, e, past))))))
    ])

-- so they are in the block of the memory, where they were put at the page's place
pub block_put : {Z : Type 0} (block : Vec ℕ Z) (c : Contents) (page number : ℕ) (lent bytes new : List ℕ) → block.items ≡ c.bytes → block.len ≡ 65536 → length c.bytes ≡ 65536 → page < 256 → length bytes ≡ 256 → number ≡ page → lent ≡ block.items
    → new ≡ take (256 * number) lent ++ bytes ++ drop (256 * number + 256) lent → (with_items block new).items ≡ tabulated 65536 (byte_with c page bytes)
block_put block c page number lent bytes new items len all l count at from put =
    let here : new ≡ tabulated 65536 (byte_with c page bytes) = put ∙ (ap (λ k. take (256 * k) lent ++ bytes ++ drop (256 * k + 256) lent) at ∙ (ap (λ xs. take (256 * page) xs ++ bytes ++ drop (256 * page + 256) xs) (from ∙ items) ∙ page_put c page bytes all l count)) in
    with_items_is block new (omega (arith, ap length here, length-tabulated 65536 (byte_with c page bytes), len)) ∙ here

-- and what was not written has its bytes at opening still
pub IsBlankUnwritten-put : (c : Contents) (page : ℕ) (new bytes : List ℕ) (marks : List Bool) → bytes ≡ tabulated 65536 (byte_with c page new) → get_or marks page false ≡ true → ((p : ℕ) → p ≢ page → get_or marks p false ≡ is_written c p)
    → IsBlankUnwritten c → IsBlankUnwritten (record { bytes = bytes; written = marks; limit = c.limit })
IsBlankUnwritten-put c page new bytes marks is here others =
    IsBlankUnwritten-kept c bytes marks page here others
    (λ a l ne. ap (λ xs. get_or xs a 0) is ∙ (get_or-tabulated 65536 (byte_with c page new) a 0 l ∙ passed (a / 256) page (get_or new (a % 256) 0) (byte_at c a) ne))
