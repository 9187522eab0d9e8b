-- What a served host has kept is done again as that host.
use Rattle.std.proofs.Common.{◌≡◌, ◌≤◌, ◌-◌, ◌+◌, ℕ, zero, suc, List, [], ◌∷◌, ◌++◌, length, map, take, Option, Some, None, option_map, option_and_then, refl, sym, subst, ap, ◌∙◌, arith, append_assoc}
use Rattle.std.proofs.lemmas.List.{append_cancel_left}
use Rattle.std.proofs.Math.Seq.{take-append-add}
use Rattle.std.specs.Io.KnownBytes.{Appends}
use Rattle.std.specs.List.{AllByRecursion}
use Rattle.cpm_slots.specs.Host.{AllBelow, Host}
use Rattle.cpm_journal.specs.Entries.{AreLinesOf, KeptEntry, IsKeepable, entries_read}
use Rattle.cpm_journal.specs.Lines.{journal_lines, line_torn, lines_text}
use Rattle.cpm_journal.proofs.EntryLaws.{journals-back, torn-journals-back}
use Rattle.cpm_journal.proofs.LineLaws.{ended-line}
use Rattle.cpm_serve.specs.Folder.{FolderAccess}
use Rattle.cpm_serve.specs.KeptFolder.{AreChangesKept, IsKeptAccess, changes_of, change_entry}
use Rattle.cpm_serve.specs.Laws.{events_in}
use Rattle.cpm_serve.specs.Lines.{AreLinesServed, host_served}
use Rattle.cpm_serve.specs.Redone.{redone_all}
use Rattle.cpm_serve.specs.Resumed.{AreLinesRedone, IsServedInPart, WireCutOff, WireResumed}
use Rattle.cpm_serve.specs.declared.kept.KeptFolder.{KeptFolder}
use Rattle.cpm_serve.proofs.BegunLemmas.{AreHeardBegun, ended-begun, heard-begun, shallow-take}
use Rattle.cpm_serve.proofs.HeardLemmas.{AreHeard, heard-host, lines-heard}
use Rattle.cpm_serve.proofs.KeepableLemmas.{all-keepable}
use Rattle.cpm_serve.proofs.KeptLemmas.{kept-lines}
use Rattle.cpm_serve.proofs.RemakeLaws.{begun-journals-remake, journals-remake}
use Rattle.cpm_serve.proofs.ResumeLemmas.{read-append, redone-append}
use Rattle.cpm_serve.proofs.WireLaws.{AllBelow-events}

-- ---- what stands in the journal

appended : (old new : Option (List ℕ)) (text bytes : List ℕ) → old ≡ Some text → Appends old new bytes → new ≡ Some (text ++ bytes)
appended old new text bytes is k = known new (subst (λ o. Appends o new bytes) is k)
  where
    known : (o : Option (List ℕ)) → Appends (Some text) o bytes → o ≡ Some (text ++ bytes)
    known None w = absurd w
    known (Some now) w = ap Some w

-- whole lines before other bytes
lines-before : (es : List KeptEntry) (lines : List (List ℕ)) (x : List ℕ) → AreLinesOf es lines → journal_lines (lines_text lines ++ x) ≡ lines ++ journal_lines x
lines-before [] [] x h = refl
lines-before (e ∷ es) (line ∷ lines) x h =
    ap journal_lines (append_assoc line (0x0A ∷ lines_text lines) x) ∙ ended-line [] line (lines_text lines ++ x) h.0.one_line
    ∙ ap (λ ls. line ∷ ls) (lines-before es lines x h.1)
lines-before [] (line ∷ lines) x h = absurd h
lines-before (e ∷ es) [] x h = absurd h

pub some-same : (x y : List ℕ) → Some x ≡ Some y → x ≡ y
some-same x y e = cc

-- ---- the laws

-- the journal that one stretch of lines left
record IsLeft {F J : Type 0} (does : F → FolderAccess → F → Type 0) (contents : J → Option (List ℕ)) (lines : List (List ℕ)) (old new : Host) (from to : KeptFolder F J) : Type 0 where
  heard : AreHeard (IsKeptAccess does contents) lines old new from to
  kept : AreChangesKept (changes_of old (events_in heard.heard)) (contents from.journal) (contents to.journal)
  keepable : AllByRecursion IsKeepable (map change_entry (changes_of old (events_in heard.heard)))

left-by : {F J : Type 0} (does : F → FolderAccess → F → Type 0) (contents : J → Option (List ℕ)) (lines : List (List ℕ)) (old new : Host) (from to : KeptFolder F J) (texts : List (List ℕ)) →
    AreLinesServed (IsKeptAccess does contents) lines old new from to texts → IsLeft does contents lines old new from to
left-by does contents lines old new from to texts served =
    let heard = lines-heard (IsKeptAccess does contents) lines old new from to texts served in
    let kept = kept-lines does contents old from to (events_in heard.heard) heard.leads heard.kept in
    record { heard = heard; kept = kept; keepable = all-keepable old (events_in heard.heard) heard.shallow kept.true }

-- what it is read as, and done again
left-redone : {F J : Type 0} (does : F → FolderAccess → F → Type 0) (contents : J → Option (List ℕ)) (lines : List (List ℕ)) (old new : Host) (from to : KeptFolder F J)
    (k : IsLeft does contents lines old new from to) → AllBelow old.openings old.slots → redone_all old (map change_entry (changes_of old (events_in k.heard.heard))) ≡ Some new
left-redone does contents lines old new from to k below =
    journals-remake old (events_in k.heard.heard) below k.kept.true ∙ ap Some (sym (heard-host (IsKeptAccess does contents) lines old new from to k.heard))

pub wire-resumed : {F J : Type 0} (does : F → FolderAccess → F → Type 0) (contents : J → Option (List ℕ)) → WireResumed does contents
wire-resumed does contents lines old new from to texts text served below is =
    let k = left-by does contents lines old new from to texts served in
    let entries = map change_entry (changes_of old (events_in k.heard.heard)) in
    let back = journals-back entries k.kept.lines k.keepable k.kept.of in (
      lines_text k.kept.lines,
      appended (contents from.journal) (contents to.journal) text (lines_text k.kept.lines) is k.kept.added,
      record {
        entries = entries;
        read = ap entries_read back.whole ∙ back.read;
        done = left-redone does contents lines old new from to k below;
        left = sym (ap length back.none_torn);
      },
    )

-- two stretches, the second of which is cut off
cut-redone : (old mid between : Host) (first others : List KeptEntry) (lines : List (List ℕ)) (whole behind : List ℕ) → AreLinesOf first lines → entries_read lines ≡ Some first →
    redone_all old first ≡ Some mid → entries_read (journal_lines behind) ≡ Some others → redone_all mid others ≡ Some between → whole ≡ lines_text lines ++ behind →
    AreLinesRedone whole old between (length (line_torn [] whole))
cut-redone old mid between first others lines whole behind of read done read_behind done_behind is = record {
  entries = first ++ others;
  read = ap (λ t. entries_read (journal_lines t)) is ∙ ap entries_read (lines-before first lines behind of) ∙ read-append lines (journal_lines behind)
      ∙ ap (option_and_then (λ es. option_map (λ fs. es ++ fs) (entries_read (journal_lines behind)))) read ∙ ap (option_map (λ fs. first ++ fs)) read_behind;
  done = redone-append old first others ∙ ap (option_and_then (λ g. redone_all g others)) done ∙ done_behind;
  left = refl;
}

pub taken-behind : (count : ℕ) (xs ys : List ℕ) → length xs ≤ count → take count (xs ++ ys) ≡ xs ++ take (count - length xs) ys
taken-behind count xs ys h =
    let e : count ≡ length xs + (count - length xs) = omega arith in
    ap (λ n. take n (xs ++ ys)) e ∙ take-append-add xs ys (count - length xs)

-- the first of the first
taken-first : {A : Type 0} (m n : ℕ) (xs : List A) → (k : ℕ) × (k ≤ n) × (take m (take n xs) ≡ take k xs)
taken-first zero n xs = (zero, omega arith, refl)
taken-first (suc m) zero xs = (zero, omega arith, refl)
taken-first (suc m) (suc n) [] = (zero, omega arith, refl)
taken-first (suc m) (suc n) (x ∷ xs) = let (k, within, same) = taken-first m n xs in (suc k, omega (arith, within), ap (λ ys. x ∷ ys) same)

-- what stands behind two stretches, the second of which is cut off, is so many bytes of its lines
record IsCutAt (count : ℕ) (before after : List ℕ) (more : ℕ) : Type 0 where
  rest : ℕ
  whole : take count (before ++ take more after) ≡ before ++ take rest after

cut-at : (count : ℕ) (before after : List ℕ) (more : ℕ) → length before ≤ count → IsCutAt count before after more
cut-at count before after more enough =
    let (k, within, same) = taken-first (count - length before) more after in
    record { rest = k; whole = taken-behind count before (take more after) enough ∙ ap (λ bs. before ++ bs) same }

-- of what lines ask the first was done again
part-served : {F : Type 0} (does : F → FolderAccess → F → Type 0) (lines : List (List ℕ)) (old new : Host) (from to : F) (b : AreHeardBegun does lines old new from to) (m n : ℕ) →
    IsServedInPart does lines old (host_served old (take m (take n (take b.asked (events_in b.heard))))) new from to
part-served does lines old new from to b m n =
    let events = events_in b.heard in
    let (i, small, first) = taken-first n b.asked events in
    let (j, smaller, second) = taken-first m i events in
    record {
      heard = b.heard;
      are = b.are;
      asked = b.asked;
      leads = b.leads;
      whole = b.whole;
      count = j;
      within = omega (arith, small, smaller);
      part = ap (λ es. host_served old (take m es)) first ∙ ap (host_served old) second;
    }

pub wire-cut-off : {F J : Type 0} (does : F → FolderAccess → F → Type 0) (contents : J → Option (List ℕ)) → WireCutOff does contents
wire-cut-off does contents first others old mid new from between to texts text kept count served others_begun below is is_kept enough =
    let a = left-by does contents first old mid from between texts served in
    let b = heard-begun (IsKeptAccess does contents) others mid new between to others_begun in
    let events = take b.asked (events_in b.heard) in
    let (n, more) = ended-begun does contents mid between to events b.leads b.ended in
    let before = lines_text a.kept.lines in
    let after = lines_text more.lines in
    let entries = map change_entry (changes_of old (events_in a.heard.heard)) in
    let begun = appended (contents from.journal) (contents between.journal) text before is a.kept.added in
    let same : kept ≡ before = append_cancel_left text kept before (some-same (text ++ kept) (text ++ before) (sym is_kept ∙ begun)) in
    let left : length before ≤ count = subst (λ (bs : List ℕ). length bs ≤ count) same enough in
    let at : IsCutAt count before after more.count = cut-at count before after more.count left in
    let keepable = all-keepable mid (take n events) (shallow-take n events (shallow-take b.asked (events_in b.heard) b.shallow)) more.sure in
    let cut = torn-journals-back (map change_entry (changes_of mid (take n events))) more.lines at.rest keepable more.of in
    let middle : AllBelow mid.openings mid.slots =
    subst (λ (h : Host). AllBelow h.openings h.slots) (sym (heard-host (IsKeptAccess does contents) first old mid from between a.heard)) (AllBelow-events old (events_in a.heard.heard) below) in
    let some = begun-journals-remake mid (take n events) cut.kept middle more.sure in
    let whole = take count (before ++ take more.count after) in (
      before ++ take more.count after,
      appended (contents between.journal) (contents to.journal) (text ++ before) (take more.count after) begun more.added ∙ ap Some (append_assoc text before (take more.count after)),
      record {
        between = host_served mid (take some.0 (take n events));
        part = part-served (IsKeptAccess does contents) others mid new between to b some.0 n;
        torn = length (line_torn [] whole);
        redone = cut-redone old mid (host_served mid (take some.0 (take n events))) entries (take cut.kept (map change_entry (changes_of mid (take n events)))) a.kept.lines whole (take at.rest after)
            a.kept.of (journals-back entries a.kept.lines a.keepable a.kept.of).read (left-redone does contents first old mid from between a below)
            (ap entries_read cut.whole ∙ cut.read) some.1 at.whole;
      },
    )
