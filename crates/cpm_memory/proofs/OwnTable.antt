-- What the calls of a view leave of the other tables.
use Rattle.std.proofs.Common.{◌≡◌, ◌≢◌, ℕ, ◌+◌, ◌*◌, ◌<◌, List, get_or, set, ap, sym, ◌∙◌, Option, Some, None, is_some, option_map, true}
use Rattle.std.proofs.lemmas.List.{get_or-set_other}
use Rattle.std.proofs.lemmas.Option.{same_Some}
use Rattle.std.proofs.lemmas.Bool.{false≢true}
use Rattle.cpm_memory.specs.Contents.{Contents, Surroundings, byte_at}
use Rattle.cpm_memory.specs.Tabulated.{tabulated, same_as_tabulated, get_or-tabulated}
use Rattle.cpm_memory.specs.Frames.{Frames, IsStoreSound, IsTableTaken, table_at, frame_of_page, frame_of, memory_of, memory_at, memories}
use Rattle.cpm_memory.specs.View.{ViewLeads, store_of, view_table, memories-after_leads}
use Rattle.cpm_memory.specs.Memories.{HasReservation-taken}
use Rattle.cpm_memory.specs.Laws.{ChangesOwnTable}
use Rattle.cpm_memory.specs.declared.view.View.{View}
use Rattle.cpm_memory.proofs.Bytes.{byte_of-page}
use Rattle.cpm_memory.proofs.Copies.{place_of-lt}

-- the frame of a page, by the bytes of the memory
pub frame-by_memory : (s : Frames) (t page : ℕ) → IsStoreSound s → page < 256 → frame_of s (frame_of_page s t page) ≡ tabulated 256 (λ k. byte_at (memory_of s t) (256 * page + k))
frame-by_memory s t page ok lp =
    same_as_tabulated 256 (λ k. byte_at (memory_of s t) (256 * page + k)) (frame_of s (frame_of_page s t page)) 0 (ok.sizes (frame_of_page s t page) (place_of-lt s ok t page)) (λ k l. sym (byte_of-page s t page k lp l))

-- equal memories of a table that is taken
same-contents : (o o' : Option ℕ) (c c' : Contents) → is_some o ≡ true → option_map (λ _. c') o' ≡ option_map (λ _. c) o → c' ≡ c
same-contents None o' c c' taken e = absurd (false≢true taken)
same-contents (Some n) (Some m) c c' taken e = same_Some c' c e
same-contents (Some n) None c c' taken e = absurd (false≢true (ap is_some e))

module _ (v w : View) (h : ViewLeads v w) where
  same_others : set (memories (store_of w)) (view_table w) None ≡ set (memories (store_of v)) (view_table v) None
  same_others = ap (λ (x : Surroundings). x.others) h.stores.surroundings

  same_number : view_table w ≡ view_table v
  same_number = ap (λ (x : Surroundings). x.table) h.stores.surroundings

  memory-kept : (t : ℕ) → t ≢ view_table v → t < 64 → memory_at (store_of w) t ≡ memory_at (store_of v) t
  memory-kept t ne l =
      sym (get_or-tabulated 64 (memory_at (store_of w)) t None l)
      ∙ sym (get_or-set_other (memories (store_of w)) (view_table w) t None None (λ e. ne (e ∙ same_number)))
      ∙ ap (λ (ms : List (Option Contents)). get_or ms t None) same_others
      ∙ get_or-set_other (memories (store_of v)) (view_table v) t None None ne
      ∙ get_or-tabulated 64 (memory_at (store_of v)) t None l

  frame-kept : (t page : ℕ) → t ≢ view_table v → t < 64 → page < 256 → IsTableTaken (store_of v) t → frame_of (store_of w) (frame_of_page (store_of v) t page) ≡ frame_of (store_of v) (frame_of_page (store_of v) t page)
  frame-kept t page ne lt lp taken =
      ap (frame_of (store_of w)) (sym (h.places t page ne))
      ∙ frame-by_memory (store_of w) t page w.sound lp
      ∙ ap (λ (c : Contents). tabulated 256 (λ k. byte_at c (256 * page + k))) (same-contents (table_at (store_of v) t).reservation (table_at (store_of w) t).reservation (memory_of (store_of v) t) (memory_of (store_of w) t) (HasReservation-taken (store_of v) t lt taken) (memory-kept t ne lt))
      ∙ sym (frame-by_memory (store_of v) t page v.sound lp)

  pub own-table : ChangesOwnTable v w
  own-table =
      let after = memories-after_leads v w h in
      record { stores = after.0; memories = after.1; places = h.places; stamps = h.other_stamps; frames = frame-kept }
