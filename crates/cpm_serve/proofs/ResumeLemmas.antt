-- A journal that is read and done again.
use Rattle.std.proofs.Common.{◌≡◌, ◌<◌, ◌+◌, ℕ, false, List, [], ◌∷◌, ◌++◌, length, Option, Some, None, option_map, option_and_then, refl, sym, subst, ap, ◌∙◌, ◌==◌, arith, append_assoc, append-nil, length-append}
use Rattle.std.proofs.lemmas.Bool.{or_parts}
use Rattle.std.specs.Prelude.{IfSome, Err}
use Rattle.cpm_slots.specs.Host.{Host}
use Rattle.cpm_journal.specs.Entries.{KeptEntry, entries_read, entry_read}
use Rattle.cpm_journal.specs.Heads.{IsHeadRead}
use Rattle.cpm_journal.specs.Lines.{IsWholeLine, has_line_feed, journal_lines, line_torn}
use Rattle.cpm_journal.specs.declared.head.HeadFault.{HeadFault}
use Rattle.cpm_journal.specs.declared.head.HeadFault.TheVariants as head
use Rattle.cpm_journal.specs.declared.head.JournalHead.{JournalHead}
use Rattle.cpm_journal.proofs.LineLaws.{ended-line, no-line, torn-line}
use Rattle.cpm_serve.specs.Redone.{redone, redone_all}
use Rattle.cpm_serve.specs.Resumed.{AreLinesBroken, AreLinesRedone, IsHeadFault, IsLineRedone, IsLineFault, IsNextFault}
use Rattle.cpm_serve.specs.declared.resume.JournalFault.{JournalFault}
use Rattle.cpm_serve.specs.declared.resume.JournalFault.TheVariants as fault

-- ---- lists

-- bytes without a line feed are torn
torn-free : (begun line : List ℕ) → has_line_feed line ≡ false → line_torn begun line ≡ begun ++ line
torn-free begun [] h = sym (append-nil begun)
torn-free begun (b ∷ bs) h =
    let parts = or_parts (b == 0x0A) (has_line_feed bs) h in
    rw parts.0 (torn-free (begun ++ b ∷ []) bs parts.1 ∙ append_assoc begun (b ∷ []) bs)

joined : (a : Option KeptEntry) (b c : Option (List KeptEntry)) →
    option_and_then (λ e. option_map (λ es. e ∷ es) (option_and_then (λ es. option_map (λ fs. es ++ fs) c) b)) a
    ≡ option_and_then (λ es. option_map (λ fs. es ++ fs) c) (option_and_then (λ e. option_map (λ es. e ∷ es) b) a)
joined None b c = refl
joined (Some e) None c = refl
joined (Some e) (Some es) None = refl
joined (Some e) (Some es) (Some fs) = refl

whole-map : (o : Option (List KeptEntry)) → o ≡ option_map (λ fs. fs) o
whole-map None = refl
whole-map (Some es) = refl

-- what is read of lines and more lines
pub read-append : (xs ys : List (List ℕ)) → entries_read (xs ++ ys) ≡ option_and_then (λ es. option_map (λ fs. es ++ fs) (entries_read ys)) (entries_read xs)
read-append [] ys = whole-map (entries_read ys)
read-append (x ∷ xs) ys =
    ap (λ o. option_and_then (λ e. option_map (λ es. e ∷ es) o) (entry_read x)) (read-append xs ys) ∙ joined (entry_read x) (entries_read xs) (entries_read ys)

-- and one more
read-more : (xs : List (List ℕ)) (x : List ℕ) (es : List KeptEntry) (e : KeptEntry) → entries_read xs ≡ Some es → entry_read x ≡ Some e → entries_read (xs ++ x ∷ []) ≡ Some (es ++ e ∷ [])
read-more xs x es e p q = read-append xs (x ∷ []) ∙ rw (p, q) refl

through : (o : Option Host) (f g : Host → Option Host) (k : Host → Option Host) → ((h : Host) → f h ≡ option_and_then k (g h)) → option_and_then f o ≡ option_and_then k (option_and_then g o)
through None f g k same = refl
through (Some h) f g k same = same h

-- what is done again of entries and more entries
pub redone-append : (h : Host) (es fs : List KeptEntry) → redone_all h (es ++ fs) ≡ option_and_then (λ g. redone_all g fs) (redone_all h es)
redone-append h [] fs = refl
redone-append h (e ∷ es) fs = through (redone h e) (λ g. redone_all g (es ++ fs)) (λ g. redone_all g es) (λ g. redone_all g fs) (λ g. redone-append g es fs)

redone-one : (h g : Host) (e : KeptEntry) → redone h e ≡ Some g → redone_all h (e ∷ []) ≡ Some g
redone-one h g e is = ap (option_and_then (λ k. redone_all k [])) is

redone-more : (old mid new : Host) (es : List KeptEntry) (e : KeptEntry) → redone_all old es ≡ Some mid → redone mid e ≡ Some new → redone_all old (es ++ e ∷ []) ≡ Some new
redone-more old mid new es e p q = redone-append old es (e ∷ []) ∙ ap (option_and_then (λ g. redone_all g (e ∷ []))) p ∙ redone-one mid new e q

-- ---- the first line

pub torn-head : (wanted : JournalHead) (input : Option (List ℕ)) (count : ℕ) → IfSome input (λ text. (has_line_feed text ≡ false) × (length text ≡ count) × (0 < count)) →
    IfSome input (λ text. IsHeadFault wanted (journal_lines text) (fault.Head head.NoJournal))
torn-head wanted None count k = tt
torn-head wanted (Some text) count k = subst (λ ls. IsHeadFault wanted ls (fault.Head head.NoJournal)) (sym (no-line [] text k.0)) refl

first-line : (text line : List ℕ) (rest : Option (List ℕ)) (k : IsWholeLine text rest line) → journal_lines text ≡ line ∷ journal_lines k.behind
first-line text line rest k = ap journal_lines k.text_is ∙ ended-line [] line k.behind k.free

pub refused-head : (wanted : JournalHead) (input rest : Option (List ℕ)) (line : List ℕ) (e : HeadFault) → IfSome input (λ text. IsWholeLine text rest line) → IsHeadRead wanted line (Err e) →
    IfSome input (λ text. IsHeadFault wanted (journal_lines text) (fault.Head e))
refused-head wanted None rest line e k why = tt
refused-head wanted (Some text) rest line e k why = subst (λ ls. IsHeadFault wanted ls (fault.Head e)) (sym (first-line text line rest k)) why

-- ---- the lines behind it

-- the first lines of a text were done again, and this is left behind them
pub record IsRedoneSoFar (text : List ℕ) (rest : Option (List ℕ)) (old new : Host) (number : ℕ) : Type 0 where
  pub behind : List ℕ
  pub left : rest ≡ Some behind
  pub front : List (List ℕ)
  pub are : journal_lines text ≡ front ++ journal_lines behind
  pub torn : line_torn [] text ≡ line_torn [] behind
  pub entries : List KeptEntry
  pub read : entries_read front ≡ Some entries
  pub done : redone_all old entries ≡ Some new
  pub counted : length front + 2 ≡ number

abbrev pub AreRedoneSoFar : (input rest : Option (List ℕ)) (old new : Host) (number : ℕ) → Type 0
AreRedoneSoFar input rest old new number = IfSome input (λ text. IsRedoneSoFar text rest old new number)

pub redone_begun : (input : Option (List ℕ)) (h : Host) → AreRedoneSoFar input input h h 2
redone_begun None h = tt
redone_begun (Some text) h = record { behind = text; left = refl; front = []; are = refl; torn = refl; entries = []; read = refl; done = refl; counted = refl }

-- what is known of what was left, of the text behind
of-left : (P : List ℕ → Type 0) (rest : Option (List ℕ)) (behind : List ℕ) → rest ≡ Some behind → IfSome rest P → P behind
of-left P rest behind e k = subst (λ (o : Option (List ℕ)). IfSome o P) e k

more-of : (text : List ℕ) (now next : Option (List ℕ)) (old mid new : Host) (number : ℕ) (line : List ℕ) (k : IsRedoneSoFar text now old mid number) → IsWholeLine k.behind next line → IsLineRedone line mid new →
    IsRedoneSoFar text next old new (number + 1)
more-of text now next old mid new number line k w d = record {
  behind = w.behind;
  left = w.left;
  front = k.front ++ line ∷ [];
  are = k.are ∙ ap (λ ls. k.front ++ ls) (first-line k.behind line next w) ∙ sym (append_assoc k.front (line ∷ []) (journal_lines w.behind));
  torn = k.torn ∙ ap (line_torn []) w.text_is ∙ torn-line [] line w.behind w.free;
  entries = k.entries ++ d.entry ∷ [];
  read = read-more k.front line k.entries d.entry k.read d.read;
  done = redone-more old mid new k.entries d.entry k.done d.done;
  counted = let n = k.counted in omega (arith, length-append k.front (line ∷ []));
}

pub redone_more : (input now next : Option (List ℕ)) (old mid new : Host) (number : ℕ) (line : List ℕ) → AreRedoneSoFar input now old mid number → IfSome now (λ text. IsWholeLine text next line) →
    IsLineRedone line mid new → AreRedoneSoFar input next old new (number + 1)
redone_more None now next old mid new number line k w d = tt
redone_more (Some text) now next old mid new number line k w d =
    more-of text now next old mid new number line k (of-left (λ (t : List ℕ). IsWholeLine t next line) now k.behind k.left w) d

all-done : (text : List ℕ) (now : Option (List ℕ)) (old new : Host) (number torn : ℕ) (k : IsRedoneSoFar text now old new number) → journal_lines k.behind ≡ [] → torn ≡ length (line_torn [] k.behind) →
    AreLinesRedone text old new torn
all-done text now old new number torn k none left = record {
  entries = k.entries;
  read = ap entries_read (k.are ∙ ap (λ ls. k.front ++ ls) none ∙ append-nil k.front) ∙ k.read;
  done = k.done;
  left = left ∙ ap length (sym k.torn);
}

pub redone_torn : (input now : Option (List ℕ)) (old new : Host) (number torn : ℕ) → AreRedoneSoFar input now old new number →
    IfSome now (λ text. (has_line_feed text ≡ false) × (length text ≡ torn) × (0 < torn)) → IfSome input (λ text. AreLinesRedone text old new torn)
redone_torn None now old new number torn k w = tt
redone_torn (Some text) now old new number torn k w =
    let b = of-left (λ (t : List ℕ). (has_line_feed t ≡ false) × (length t ≡ torn) × (0 < torn)) now k.behind k.left w in
    all-done text now old new number torn k (no-line [] k.behind b.0) (sym b.1 ∙ ap length (sym (torn-free [] k.behind b.0)))

broken-at : (text : List ℕ) (now : Option (List ℕ)) (old mid new : Host) (number : ℕ) (why : JournalFault) (k : IsRedoneSoFar text now old mid number) → new ≡ mid →
    IsNextFault (journal_lines k.behind) mid why → AreLinesBroken text old new number why
broken-at text now old mid new number why k same next = subst (λ (h : Host). AreLinesBroken text old h number why) (sym same) (record {
  front = k.front;
  rest = journal_lines k.behind;
  are = k.are;
  entries = k.entries;
  read = k.read;
  done = k.done;
  counted = sym k.counted;
  refused = next;
})

-- a fault of a line is one of the next line
as-next : (line : List ℕ) (lines : List (List ℕ)) (h : Host) (why : JournalFault) → IsLineFault line h why → IsNextFault (line ∷ lines) h why
as-next line lines h (fault.Entry e) k = k
as-next line lines h (fault.Redo e) k = k
as-next line lines h (fault.Head e) k = absurd k
as-next line lines h (fault.Unreadable e) k = tt

pub redone_broken : (input now next : Option (List ℕ)) (old mid new : Host) (number : ℕ) (line : List ℕ) (why : JournalFault) → AreRedoneSoFar input now old mid number →
    IfSome now (λ text. IsWholeLine text next line) → new ≡ mid → IsLineFault line mid why → IfSome input (λ text. AreLinesBroken text old new number why)
redone_broken None now next old mid new number line why k w same f = tt
redone_broken (Some text) now next old mid new number line why k w same f =
    let b = of-left (λ (t : List ℕ). IsWholeLine t next line) now k.behind k.left w in
    broken-at text now old mid new number why k same (subst (λ ls. IsNextFault ls mid why) (sym (first-line k.behind line next b)) (as-next line (journal_lines b.behind) mid why f))
