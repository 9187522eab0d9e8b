-- Entries that are read as they were written.
use Rattle.std.proofs.Common.{◌≡◌, ◌<◌, ◌≤◌, ℕ, zero, suc, true, List, [], ◌∷◌, take, Some, option_map, option_and_then, String, Global, length, refl, ap, ◌∙◌, arith}
use Rattle.std.proofs.lemmas.Bool.{eq-eqb}
use Rattle.std.proofs.lemmas.Cmp.{nat_list_eq_equiv}
use Rattle.std.specs.Str.{bytes_eq}
use Rattle.std.specs.List.{AllByRecursion}
use Rattle.hex.specs.Hex.{IsBytes, encode_lower}
use Rattle.serde_json.specs.Data.{depth}
use Rattle.serde_json.specs.View.{members_view}
use Rattle.serde_json.specs.declared.value.Value.{Value}
use Rattle.serde_json.specs.Read.{max_depth}
use Rattle.hex.proofs.HexLemmas.{decode_of-encode_lower}
use Rattle.serde_json.proofs.OnLiterals.{serde_json_on_literals}
use Rattle.cpm_journal.specs.Entries.{AreLinesOf, IsKeepable, KeptEntry, KeptNumber, KeptRequest, KeptSaving, count_members, decoded_or_none, entries_read, entry_json, journal_entry_of}
use Rattle.cpm_journal.specs.Laws.{EntriesBack, EntryLinesBack, HeadsBack, JournalsBack, TornJournalsBack}
use Rattle.cpm_journal.proofs.LineLaws.{AreOneLine, cut-lines, none-torn, whole-lines}

-- bytes by recursion are bytes by their places
are-bytes : (xs : List ℕ) → AllByRecursion (λ b. b < 256) xs → IsBytes xs
are-bytes [] h i = omega arith
are-bytes (x ∷ xs) h zero = h.0
are-bytes (x ∷ xs) h (suc i) = are-bytes xs h.1 i

pub entries-back : EntriesBack
entries-back (KeptRequest request) h = rw h.0 refl
entries-back (KeptSaving bytes) h = ap (λ r. option_map KeptSaving (decoded_or_none r)) (decode_of-encode_lower bytes (are-bytes bytes h))
entries-back (KeptNumber next) h = refl

depth-kept : (e : KeptEntry) → IsKeepable e → depth (entry_json e) ≤ max_depth
depth-kept (KeptRequest request) h = h.1
depth-kept (KeptSaving bytes) h = omega arith
depth-kept (KeptNumber next) h = omega arith

pub lines-back : EntryLinesBack
lines-back e line h k = ap (option_and_then journal_entry_of) (k.back (depth-kept e h)) ∙ entries-back e h

pub heads-back : HeadsBack
unfolding serde_json_on_literals
heads-back h =
    let digits : bytes_eq (encode_lower h.system) (encode_lower h.system) ≡ true = nat_list_eq_equiv.refl (encode_lower h.system) in
    rw (digits, eq-eqb h.frames h.frames refl) refl

-- the members of an object are so many as its map has
pub count-view : (es : List (String Global × Value)) → count_members (members_view es) ≡ length es
count-view [] = refl
count-view (e ∷ es) = let rest = count-view es in omega arith

-- ---- many

one-line : (es : List KeptEntry) (lines : List (List ℕ)) → AreLinesOf es lines → AreOneLine lines
one-line [] [] h = tt
one-line (e ∷ es) (line ∷ lines) h = (h.0.one_line, one-line es lines h.1)
one-line [] (line ∷ lines) h = absurd h
one-line (e ∷ es) [] h = absurd h

all-read : (k : ℕ) (es : List KeptEntry) (lines : List (List ℕ)) → AllByRecursion IsKeepable es → AreLinesOf es lines → entries_read (take k lines) ≡ Some (take k es)
all-read zero es lines p h = refl
all-read (suc k) [] [] p h = refl
all-read (suc k) (e ∷ es) (line ∷ lines) p h = rw (lines-back e line p.0 h.0, all-read k es lines p.1 h.1) refl
all-read (suc k) [] (line ∷ lines) p h = absurd h
all-read (suc k) (e ∷ es) [] p h = absurd h

whole-read : (es : List KeptEntry) (lines : List (List ℕ)) → AllByRecursion IsKeepable es → AreLinesOf es lines → entries_read lines ≡ Some es
whole-read [] [] p h = refl
whole-read (e ∷ es) (line ∷ lines) p h = rw (lines-back e line p.0 h.0, whole-read es lines p.1 h.1) refl
whole-read [] (line ∷ lines) p h = absurd h
whole-read (e ∷ es) [] p h = absurd h

pub journals-back : JournalsBack
journals-back es lines p h = record {
  whole = whole-lines lines (one-line es lines h);
  none_torn = none-torn lines (one-line es lines h);
  read = whole-read es lines p h;
}

pub torn-journals-back : TornJournalsBack
torn-journals-back es lines count p h =
    let cut = cut-lines lines count (one-line es lines h) in
    record { kept = cut.kept; whole = cut.whole; read = all-read cut.kept es lines p h; all = cut.all }
