-- Whatever a journal has been through, it is done again as the host at which that arrives.
use Rattle.std.proofs.Common.{◌≡◌, ◌∙◌, ◌≤◌, ◌-◌, ◌==◌, ℕ, Bool, true, false, List, [], ◌∷◌, ◌++◌, length, take, Option, Some, option_map, option_and_then, refl, sym, subst, ap, ap₂, arith, append_assoc, append-nil, length-append}
use Rattle.std.proofs.lemmas.Bool.{eqb-true, or_parts}
use Rattle.std.proofs.lemmas.List.{append_cancel_left}
use Rattle.std.proofs.Math.Seq.{take-append_seam}
use Rattle.cpm_geom.specs.Disk.{Disk}
use Rattle.cpm_slots.specs.Host.{AllBelow, Host, new_host}
use Rattle.cpm_journal.specs.Entries.{KeptEntry, entries_read}
use Rattle.cpm_journal.specs.Lines.{has_line_feed, journal_lines, line_torn, lines_ended, lines_text}
use Rattle.cpm_journal.proofs.LineLaws.{AreOneLine, ended-line, torn-line}
use Rattle.cpm_serve.specs.Compact.{IsHeadWritten}
use Rattle.cpm_serve.specs.Folder.{FolderAccess}
use Rattle.cpm_serve.specs.Generations.{Anew, Begun, GenerationsRemake, GoneOn, History, IsAnew, ArrivesAt, IsService, without_torn}
use Rattle.cpm_serve.specs.KeptFolder.{IsKeptAccess}
use Rattle.cpm_serve.specs.Laws.{events_in}
use Rattle.cpm_serve.specs.Lines.{WireEvent, host_served}
use Rattle.cpm_serve.specs.Redone.{redone_all}
use Rattle.cpm_serve.specs.Resumed.{AreLinesRedone, IsHeadTaken, IsResumed, host_head}
use Rattle.cpm_serve.proofs.CompactLemmas.{compact-remakes, head-taken}
use Rattle.cpm_serve.proofs.HeardLemmas.{heard-host, lines-heard}
use Rattle.cpm_serve.proofs.ResumeLemmas.{read-append, redone-append}
use Rattle.cpm_serve.proofs.ResumedLaws.{some-same, taken-behind, wire-cut-off, wire-resumed}
use Rattle.cpm_serve.proofs.WireLaws.{AllBelow-events, frames-served, system-served, transcripts}

-- ---- a text, and what is torn of it

split-one : (begun : List ℕ) (b : ℕ) (bs : List ℕ) (test : Bool) → (b == 0x0A) ≡ test → lines_text (lines_ended [] bs) ++ line_torn [] bs ≡ bs →
    lines_text (lines_ended (begun ++ b ∷ []) bs) ++ line_torn (begun ++ b ∷ []) bs ≡ (begun ++ b ∷ []) ++ bs →
    lines_text (lines_ended begun (b ∷ bs)) ++ line_torn begun (b ∷ bs) ≡ begun ++ b ∷ bs
split-one begun b bs true e ended more =
    rw e (append_assoc begun (0x0A ∷ lines_text (lines_ended [] bs)) (line_torn [] bs) ∙ ap (λ xs. begun ++ 0x0A ∷ xs) ended
    ∙ ap (λ n. begun ++ n ∷ bs) (sym (eqb-true b 0x0A e)))
split-one begun b bs false e ended more = rw e (more ∙ append_assoc begun (b ∷ []) bs)

-- its lines, and then what is torn
split-text : (begun text : List ℕ) → lines_text (lines_ended begun text) ++ line_torn begun text ≡ begun ++ text
split-text begun [] = sym (append-nil begun)
split-text begun (b ∷ bs) = split-one begun b bs (b == 0x0A) refl (split-text [] bs) (split-text (begun ++ b ∷ []) bs)

free-more : (xs : List ℕ) (b : ℕ) → has_line_feed xs ≡ false → (b == 0x0A) ≡ false → has_line_feed (xs ++ b ∷ []) ≡ false
free-more [] b free e = rw e refl
free-more (x ∷ xs) b free e =
    let parts = or_parts (x == 0x0A) (has_line_feed xs) free in
    rw parts.0 (free-more xs b parts.1 e)

free-one : (begun : List ℕ) (b : ℕ) (bs : List ℕ) (test : Bool) → (b == 0x0A) ≡ test → has_line_feed begun ≡ false → AreOneLine (lines_ended [] bs) →
    (has_line_feed (begun ++ b ∷ []) ≡ false → AreOneLine (lines_ended (begun ++ b ∷ []) bs)) → AreOneLine (lines_ended begun (b ∷ bs))
free-one begun b bs true e free ended more = rw e (free, ended)
free-one begun b bs false e free ended more = rw e (more (free-more begun b free e))

ended-free : (begun text : List ℕ) → has_line_feed begun ≡ false → AreOneLine (lines_ended begun text)
ended-free begun [] free = tt
ended-free begun (b ∷ bs) free = free-one begun b bs (b == 0x0A) refl free (ended-free [] bs refl) (ended-free (begun ++ b ∷ []) bs)

lines-before : (lines : List (List ℕ)) (x : List ℕ) → AreOneLine lines → journal_lines (lines_text lines ++ x) ≡ lines ++ journal_lines x
lines-before [] x h = refl
lines-before (line ∷ lines) x h =
    ap journal_lines (append_assoc line (0x0A ∷ lines_text lines) x) ∙ ended-line [] line (lines_text lines ++ x) h.0 ∙ ap (λ ls. line ∷ ls) (lines-before lines x h.1)

torn-before : (lines : List (List ℕ)) (x : List ℕ) → AreOneLine lines → line_torn [] (lines_text lines ++ x) ≡ line_torn [] x
torn-before [] x h = refl
torn-before (line ∷ lines) x h =
    ap (line_torn []) (append_assoc line (0x0A ∷ lines_text lines) x) ∙ torn-line [] line (lines_text lines ++ x) h.0 ∙ torn-before lines x h.1

without-end : (text front end : List ℕ) (torn : ℕ) → text ≡ front ++ end → torn ≡ length end → without_torn torn text ≡ front
without-end text front end torn is count =
    let left : length (front ++ end) - torn ≡ length front = omega (arith, count, length-append front end) in
    ap (without_torn torn) is ∙ ap (λ n. take n (front ++ end)) left ∙ take-append_seam front end

-- ---- done again, and gone on with

-- other lines stand in the place of what was torn
lines-gone-on : (behind x : List ℕ) (old mid new : Host) (torn left : ℕ) → AreLinesRedone behind old mid torn → AreLinesRedone x mid new left →
    AreLinesRedone (lines_text (journal_lines behind) ++ x) old new left
lines-gone-on behind x old mid new torn left k r =
    let lines = journal_lines behind in
    let free = ended-free [] behind refl in
    record {
      entries = k.entries ++ r.entries;
      read = ap entries_read (lines-before lines x free) ∙ read-append lines (journal_lines x)
          ∙ ap (option_and_then (λ es. option_map (λ fs. es ++ fs) (entries_read (journal_lines x)))) k.read ∙ ap (option_map (λ fs. k.entries ++ fs)) r.read;
      done = redone-append old k.entries r.entries ∙ ap (option_and_then (λ g. redone_all g r.entries)) k.done ∙ r.done;
      left = r.left ∙ ap length (sym (torn-before lines x free));
    }

head-gone-on : (text behind x : List ℕ) (old mid new : Host) (torn left : ℕ) (k : IsHeadTaken (host_head old) (Some behind) text) → AreLinesRedone behind old mid torn →
    AreLinesRedone x mid new left → IsResumed (without_torn torn text ++ x) old new left
head-gone-on text behind x old mid new torn left k redone r =
    let lines = lines_text (journal_lines behind) in
    let own : behind ≡ k.behind = some-same behind k.behind k.left in
    let begin = k.first ++ 0x0A ∷ lines in
    let split : text ≡ begin ++ line_torn [] behind =
    k.whole ∙ ap (λ bs. k.first ++ 0x0A ∷ bs) (sym own ∙ sym (split-text [] behind)) ∙ sym (append_assoc k.first (0x0A ∷ lines) (line_torn [] behind)) in
    record {
      behind = lines ++ x;
      head = record {
        first = k.first;
        behind = lines ++ x;
        free = k.free;
        whole = ap (λ bs. bs ++ x) (without-end text begin (line_torn [] behind) torn split redone.left) ∙ append_assoc k.first (0x0A ∷ lines) x;
        left = refl;
        head = k.head;
      };
      rest = lines-gone-on behind x old mid new torn left redone r;
    }

gone-on : (text x : List ℕ) (old mid new : Host) (torn left : ℕ) → IsResumed text old mid torn → AreLinesRedone x mid new left → IsResumed (without_torn torn text ++ x) old new left
gone-on text x old mid new torn left k r = head-gone-on text k.behind x old mid new torn left k.head k.rest r

-- ---- a text is done again as one host

cons-first : (x y : List ℕ) (xs ys : List (List ℕ)) → x ∷ xs ≡ y ∷ ys → x ≡ y
cons-first x y xs ys e = cc

cons-rest : (x y : ℕ) (xs ys : List ℕ) → x ∷ xs ≡ y ∷ ys → xs ≡ ys
cons-rest x y xs ys e = cc

some-entries : (x y : List KeptEntry) → Some x ≡ Some y → x ≡ y
some-entries x y e = cc

some-host : (x y : Host) → Some x ≡ Some y → x ≡ y
some-host x y e = cc

same-behind : (text first other behind rest : List ℕ) → has_line_feed first ≡ false → has_line_feed other ≡ false → text ≡ first ++ 0x0A ∷ behind → text ≡ other ++ 0x0A ∷ rest → behind ≡ rest
same-behind text first other behind rest free other_free is also =
    let lines : first ∷ journal_lines behind ≡ other ∷ journal_lines rest =
    sym (ended-line [] first behind free) ∙ ap journal_lines (sym is ∙ also) ∙ ended-line [] other rest other_free in
    let same : first ≡ other = cons-first first other (journal_lines behind) (journal_lines rest) lines in
    cons-rest 0x0A 0x0A behind rest
    (append_cancel_left first (0x0A ∷ behind) (0x0A ∷ rest) (sym is ∙ also ∙ ap (λ bs. bs ++ 0x0A ∷ rest) (sym same)))

one-redone : (text other : List ℕ) (old a b : Host) (m n : ℕ) → text ≡ other → AreLinesRedone text old a m → AreLinesRedone other old b n → (a ≡ b) × (m ≡ n)
one-redone text other old a b m n is x y =
    let same : x.entries ≡ y.entries = some-entries x.entries y.entries (sym x.read ∙ ap (λ t. entries_read (journal_lines t)) is ∙ y.read) in
    (some-host a b (sym x.done ∙ ap (redone_all old) same ∙ y.done), x.left ∙ ap (λ t. length (line_torn [] t)) is ∙ sym y.left)

one-resumed : (text : List ℕ) (old a b : Host) (m n : ℕ) → IsResumed text old a m → IsResumed text old b n → (a ≡ b) × (m ≡ n)
one-resumed text old a b m n x y =
    let first : x.behind ≡ x.head.behind = some-same x.behind x.head.behind x.head.left in
    let second : y.behind ≡ y.head.behind = some-same y.behind y.head.behind y.head.left in
    one-redone x.behind y.behind old a b m n
    (first ∙ same-behind text x.head.first y.head.first x.head.behind y.head.behind x.head.free y.head.free x.head.whole y.head.whole ∙ sym second) x.rest y.rest

-- ---- what a history arrives at

-- a host over this system drive, with as many frames
abbrev IsOn : Disk → ℕ → Host → Type 0
IsOn system frames h = (h.system ≡ system) × (h.frames ≡ frames) × AllBelow h.openings h.slots

on-events : (system : Disk) (frames : ℕ) (h : Host) (es : List WireEvent) → IsOn system frames h → IsOn system frames (host_served h es)
on-events system frames h es on = (system-served h es ∙ on.0, frames-served h es ∙ on.1, AllBelow-events h es on.2)

record IsStanding {F J : Type 0} (does : F → FolderAccess → F → Type 0) (contents : J → Option (List ℕ)) (system : Disk) (frames : ℕ) (text : List ℕ)
    (history : History does contents system frames text) : Type 0 where
  host : Host
  arrives : ArrivesAt does contents system frames text history host
  torn : ℕ
  resumed : IsResumed text (new_host system frames) host torn
  on : IsOn system frames host

standing-begun : {F J : Type 0} (does : F → FolderAccess → F → Type 0) (contents : J → Option (List ℕ)) (system : Disk) (frames : ℕ) (text : List ℕ)
    (head : IsHeadWritten (new_host system frames) (Some []) (Some text)) → IsStanding does contents system frames text (Begun text head)
standing-begun does contents system frames text head =
    let h = new_host system frames in
    record {
      host = h;
      arrives = refl;
      torn = 0;
      resumed = record { behind = []; head = head-taken h text [] head.line head.of head.added; rest = record { entries = []; read = refl; done = refl; left = refl } };
      on = (refl, refl, tt);
    }

-- what a service leaves
standing-left : {F J : Type 0} (does : F → FolderAccess → F → Type 0) (contents : J → Option (List ℕ)) (system : Disk) (frames : ℕ) (text left : List ℕ)
    (before : History does contents system frames text) (s : IsService does contents system frames text left) → IsStanding does contents system frames text before →
    IsStanding does contents system frames left (GoneOn text left before s)
standing-left does contents system frames text left before s k =
    let new = new_host system frames in
    let same = one-resumed text new k.host s.resumed k.torn s.torn k.resumed s.again in
    let on : IsOn system frames s.resumed = subst (IsOn system frames) same.0 k.on in
    let start = without_torn s.torn text in
    let told = wire-resumed does contents s.told s.resumed s.mid s.from s.between s.texts start s.served on.2 s.begins in
    let kept : s.kept ≡ start ++ told.0 = some-same s.kept (start ++ told.0) (sym s.keeps ∙ told.1) in
    let long : length start ≤ s.count = let b = s.behind in omega (arith, b, ap length kept, length-append start told.0) in
    let enough : length told.0 ≤ s.count - length start = let b = s.behind in omega (arith, b, ap length kept, length-append start told.0) in
    let cut = wire-cut-off does contents s.told s.others s.resumed s.mid s.new s.from s.between s.to s.texts start told.0 (s.count - length start) s.served s.begun on.2 s.begins told.1 enough in
    let part = cut.2 in
    let rest = take (s.count - length start) cut.0 in
    let whole : s.whole ≡ start ++ cut.0 = some-same s.whole (start ++ cut.0) (sym s.ends ∙ cut.1) in
    let is : left ≡ start ++ rest = s.cut ∙ ap (take s.count) whole ∙ taken-behind s.count start cut.0 long in
    let heard = lines-heard (IsKeptAccess does contents) s.told s.resumed s.mid s.from s.between s.texts s.served in
    let middle : IsOn system frames s.mid =
    subst (IsOn system frames) (sym (heard-host (IsKeptAccess does contents) s.told s.resumed s.mid s.from s.between heard)) (on-events system frames s.resumed (events_in heard.heard) on) in
    record {
      host = part.between;
      arrives = (
        subst (ArrivesAt does contents system frames text before) same.0 k.arrives,
        transcripts (IsKeptAccess does contents) s.told s.resumed s.mid s.from s.between s.texts s.served,
        part.part,
      );
      torn = part.torn;
      resumed = subst (λ t. IsResumed t new part.between part.torn) (sym is) (gone-on text rest new s.resumed part.between s.torn part.torn s.again part.redone);
      on = subst (IsOn system frames) (sym part.part.part) (on-events system frames s.mid (take part.part.count (events_in part.part.heard)) middle);
    }

standing-anew : {F J : Type 0} (does : F → FolderAccess → F → Type 0) (contents : J → Option (List ℕ)) (system : Disk) (frames : ℕ) (text left : List ℕ)
    (before : History does contents system frames text) (a : IsAnew system frames text left) → IsStanding does contents system frames text before →
    IsStanding does contents system frames left (Anew text left before a)
standing-anew does contents system frames text left before a k =
    let new = new_host system frames in
    let same = one-resumed text new k.host a.resumed k.torn a.torn k.resumed a.again in
    let on : IsOn system frames a.resumed = subst (IsOn system frames) same.0 k.on in
    record {
      host = a.resumed;
      arrives = (subst (ArrivesAt does contents system frames text before) same.0 k.arrives, refl);
      torn = 0;
      resumed = subst (λ (h : Host). IsResumed left h a.resumed 0) (ap₂ new_host on.0 on.1) (compact-remakes a.resumed left a.is a.last a.made);
      on = on;
    }

standing : {F J : Type 0} (does : F → FolderAccess → F → Type 0) (contents : J → Option (List ℕ)) (system : Disk) (frames : ℕ) (text : List ℕ)
    (history : History does contents system frames text) → IsStanding does contents system frames text history
standing does contents system frames now (Begun text head) = standing-begun does contents system frames text head
standing does contents system frames now (GoneOn text left before s) =
    standing-left does contents system frames text left before s (standing does contents system frames text before)
standing does contents system frames now (Anew text left before a) =
    standing-anew does contents system frames text left before a (standing does contents system frames text before)

pub generations-remake : {F J : Type 0} (does : F → FolderAccess → F → Type 0) (contents : J → Option (List ℕ)) → GenerationsRemake does contents
generations-remake does contents system frames text history =
    let k = standing does contents system frames text history in
    record {
      host = k.host;
      arrives = k.arrives;
      torn = k.torn;
      resumed = k.resumed;
      only = λ other count again. one-resumed text (new_host system frames) other k.host count k.torn again k.resumed;
    }
