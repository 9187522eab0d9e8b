-- A memory that is read a page at a time.
use Rattle.std.proofs.Common.{◌≡◌, ◌∙◌, ◌<◌, ◌≤◌, ◌+◌, ℕ, Bool, true, false, cond, List, [], ◌∷◌, ◌++◌, Option, Some, None, Ok, length, ap, arith, refl}
use Rattle.std.proofs.Common.{subst, sym, inl, inr}
use Rattle.std.proofs.lemmas.Bool.{cases_lt}
use Rattle.std.proofs.lemmas.List.{get_or-set_other, get_or_past}
use Rattle.std.proofs.lemmas.List.Sums.{sum_by-set}
use Rattle.cpm_memory.specs.Contents.{Contents, is_written, touched_of}
use Rattle.cpm_memory.specs.Opened.{touched_of-opening}
use Rattle.cpm_memory.specs.Opening.{opening}
use Rattle.cpm_memory.specs.Scratch.{with_page}
use Rattle.cpm_memory.specs.Tabulated.{get_or-tabulated, length-tabulated, same_tabulated, tabulated, tabulated_more, tabulated_none}
use Rattle.cpm_saved.specs.Layout.{Rest, decoded}
use Rattle.cpm_saved.specs.SavedMemory.{memory_fields, memory_layout, page_layout, saved_page}
use Rattle.cpm_saved.proofs.MemoryLaws.{page_kept, page_put, saved_none}
use Rattle.cpm_saved.proofs.TimesLemmas.{ReadSoFar, so_far_begun, so_far_done, so_far_more}

-- the pages below this one were read into a memory in which no other is written
pub record PagesRead (page : ℕ) (c : Contents) (old now : Rest) : Type 0 where
  pub so_far : ReadSoFar 256 page page_layout (tabulated page (saved_page c)) old now
  pub limit : c.limit ≡ 256
  pub few : touched_of c ≤ page
  pub unwritten : (p : ℕ) → page ≤ p → is_written c p ≡ false

blank_mark : (p : ℕ) → is_written (opening 256) p ≡ false
blank_mark p =
    elim (cases_lt p 256) [
      | inl low ↦ get_or-tabulated 256 (λ _. false) p false low
      | inr past ↦ get_or_past (tabulated 256 (λ _. false)) p false (omega (arith, past, length-tabulated {X = Bool} 256 (λ _. false)))
    ]

pub pages_begun : (c : Contents) (old : Rest) → c ≡ opening 256 → PagesRead 0 c old old
pages_begun c old e = record {
  so_far = subst (λ (vs : List (Option (List ℕ))). ReadSoFar 256 0 page_layout vs old old)
      (sym (tabulated_none (saved_page c))) (so_far_begun 256 page_layout old);
  limit = ap (λ (m : Contents). m.limit) e;
  few = omega (arith, ap touched_of e, touched_of-opening 256);
  unwritten = λ p _. ap (λ (m : Contents). is_written m p) e ∙ blank_mark p;
}

-- one page more, by what was read, where the memory keeps the pages below
more : (page : ℕ) (c new : Contents) (v : Option (List ℕ)) (old now next : Rest) → PagesRead page c old now → page < 256
    → decoded page_layout now ≡ Ok (v, next)
    → ((p : ℕ) → p < page → saved_page new p ≡ saved_page c p) → saved_page new page ≡ v
    → ReadSoFar 256 (page + 1) page_layout (tabulated (page + 1) (saved_page new)) old next
more page c new v old now next before low read kept here =
    let is : tabulated (page + 1) (saved_page new) ≡ tabulated page (saved_page c) ++ v ∷ [] =
    tabulated_more page (saved_page new)
    ∙ ap (λ (vs : List (Option (List ℕ))). vs ++ saved_page new page ∷ []) (same_tabulated page (saved_page new) (saved_page c) None kept)
    ∙ ap (λ (o : Option (List ℕ)). tabulated page (saved_page c) ++ o ∷ []) here in
    subst (λ (vs : List (Option (List ℕ))). ReadSoFar 256 (page + 1) page_layout vs old next) (sym is)
    (so_far_more 256 page page_layout (tabulated page (saved_page c)) v old now next before.so_far low read)

pub page_absent : (page : ℕ) (c : Contents) (old now next : Rest) → PagesRead page c old now → page < 256 → decoded page_layout now ≡ Ok (None, next)
    → PagesRead (page + 1) c old next
page_absent page c old now next before low read =
    let few = before.few in record {
      so_far = more page c c None old now next before low read (λ p _. refl) (saved_none c page (before.unwritten page (omega arith)));
      limit = before.limit;
      few = omega (arith, few);
      unwritten = λ p above. before.unwritten p (omega (arith, above));
    }

touched_put : (c : Contents) (page : ℕ) (bytes : List ℕ) → page < length c.written → touched_of (with_page c page bytes) ≤ touched_of c + 1
unfolding touched_of
touched_put c page bytes low = omega (arith, sum_by-set (λ (w : Bool). cond {A = ℕ} w 1 0) c.written page true false low)

pub page_there : (page : ℕ) (c : Contents) (bytes : List ℕ) (old now next : Rest) → PagesRead page c old now → page < 256
    → decoded page_layout now ≡ Ok (Some bytes, next)
    → length c.bytes ≡ 65536 → length c.written ≡ 256 → length bytes ≡ 256 → PagesRead (page + 1) (with_page c page bytes) old next
page_there page c bytes old now next before low read all marks count =
    let few = before.few in record {
      so_far = more page c (with_page c page bytes) (Some bytes) old now next before low read
          (λ p below. page_kept c page p bytes all (omega (arith, below, low)) (λ e. absurd (omega (arith, e, below)))) (page_put c page bytes marks low count);
      limit = before.limit;
      few = omega (arith, few, touched_put c page bytes (omega (arith, marks, low)));
      unwritten = λ p above. get_or-set_other c.written page p true false (λ e. absurd (omega (arith, e, above))) ∙ before.unwritten p (omega (arith, above));
    }

pub pages_done : (page : ℕ) (c : Contents) (old now : Rest) → PagesRead page c old now → page ≡ 256 → decoded memory_layout old ≡ Ok (memory_fields c, now)
pages_done page c old now before all =
    so_far_done 256 page page_layout (tabulated page (saved_page c)) old now before.so_far all
    ∙ ap (λ (n : ℕ). Ok (tabulated n (saved_page c), now)) all
