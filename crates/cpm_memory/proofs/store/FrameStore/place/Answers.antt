use Rattle.std.proofs.Common.{◌≡◌, ℕ, ◌+◌, ◌*◌, ◌<◌, get_or, arith, ap, sym, ◌∙◌, subst, true, false}
use Rattle.cpm_memory.specs.Contents.{is_written, byte_at}
use Rattle.cpm_memory.specs.Frames.{Frames, IsStoreSound, frame_of_page, boot_of, frame_of, owners_of, memory_of}
use Rattle.cpm_memory.proofs.Bytes.{byte_of-page, place_of-cases, IsAlone-from}
use Rattle.cpm_memory.proofs.Copies.{written-place, place-written, place-boot, place_of-lt}
use Rattle.cpm_memory.proofs.store.FrameStore.place.Goals as goal

-- what the clauses say of the table, said of its index
private-of : (s : Frames) (i t page place : ℕ) → i ≡ t → i < 64 → page < 256 → IsStoreSound s → place ≡ frame_of_page s i page → is_written (memory_of s t) page ≡ true → place < s.private
private-of s i t page place e lt lp ok at w =
    subst (λ n. n < s.private) (sym at) (place-written s i page ok (sym (written-place s i page ok lt lp) ∙ ap (λ x. is_written (memory_of s x) page) e ∙ w))

boot-of : (s : Frames) (i t page place : ℕ) → i ≡ t → i < 64 → page < 256 → IsStoreSound s → place ≡ frame_of_page s i page → is_written (memory_of s t) page ≡ false → place ≡ s.private + boot_of page
boot-of s i t page place e lt lp ok at w =
    at ∙ place-boot s i page (sym (written-place s i page ok lt lp) ∙ ap (λ x. is_written (memory_of s x) page) e ∙ w)

pub returns-clause-private : goal.returns-clause-private
returns-clause-private c w = private-of c.args.self.now c.index.result c.args.table c.args.page c.place_at.result c.index.ensures.index c.index.ensures.within (omega arith) c.place_at.ensures.sound c.place_at.ensures.place w

pub returns-clause-boot : goal.returns-clause-boot
returns-clause-boot c w = boot-of c.args.self.now c.index.result c.args.table c.args.page c.place_at.result c.index.ensures.index c.index.ensures.within (omega arith) c.place_at.ensures.sound c.place_at.ensures.place w

pub returns-clause-within : goal.returns-clause-within
returns-clause-within c = subst (λ n. n < c.args.self.now.private + 4) (sym c.place_at.ensures.place) (place_of-lt c.args.self.now c.place_at.ensures.sound c.index.result c.args.page)

-- a byte of a page, read in the page's frame
byte-of : (s : Frames) (i t page offset place : ℕ) → i ≡ t → page < 256 → offset < 256 → place ≡ frame_of_page s i page → byte_at (memory_of s t) (256 * page + offset) ≡ get_or (frame_of s place) offset 0
byte-of s i t page offset place e lp lo at =
    byte_of-page s t page offset lp lo ∙ ap (λ x. get_or (frame_of s (frame_of_page s x page)) offset 0) (sym e) ∙ ap (λ f. get_or (frame_of s f) offset 0) (sym at)

pub returns-clause-bytes : goal.returns-clause-bytes
returns-clause-bytes c offset l = byte-of c.args.self.now c.index.result c.args.table c.args.page offset c.place_at.result c.index.ensures.index (omega arith) l c.place_at.ensures.place

-- a private frame with one owner is at one page of one table
alone-of : (s : Frames) (i t page place t' page' : ℕ) → i ≡ t → place ≡ frame_of_page s i page → owners_of s place ≡ 1 → frame_of_page s t' page' ≡ place → place < s.private → (t' ≡ t) × (page' ≡ page)
alone-of s i t page place t' page' e at one other private =
    let alone = IsAlone-from s i page place private (omega (arith, one)) (place_of-cases s i page place private (sym at)) in
    let both = alone.alone t' page' (other ∙ at) in
    (both.0 ∙ e, both.1)

pub returns-clause-alone : goal.returns-clause-alone
returns-clause-alone c one t' page' other private =
    alone-of c.args.self.now c.index.result c.args.table c.args.page c.place_at.result t' page' c.index.ensures.index c.place_at.ensures.place one other private
