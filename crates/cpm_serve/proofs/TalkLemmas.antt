-- Lines of a text, one after another, and what was served of them.
use Rattle.std.proofs.Common.{◌≡◌, ◌∙◌, min, nat_eq, take-take, ◌<◌, ◌≤◌, ◌+◌, ◌-◌, zero, suc, ⊎_elim, length-take-le, add-one, drop, drop-cons, drop_of_length-le, get_or, ap, ap₂, sym, refl, ℕ, Bool, true, false, List, [], ◌∷◌, ◌++◌, append_assoc, append-nil, Option, Some, None, IfSome, length, length-append, map, subst, take, arith, inl, inr}
use Rattle.std.specs.Prelude.{◌==◌, ◌||◌, ◌⊎◌, if◌then◌else◌, IfNone, Vec}
use Rattle.std.specs.declared.alloc.Global.{Global}
use Rattle.std.specs.declared.io.Error.{Error}
use Rattle.std.proofs.lemmas.Bool.{cases_lt, eq-eqb}
use Rattle.std.proofs.lemmas.Bool.Decides.{nat_tests}
use Rattle.std.proofs.lemmas.List.{take_all}
use Rattle.std.proofs.Math.Seq.{take-append_seam, take-nil, take-suc}
use Rattle.std.specs.Io.BufRead.{take_through, drop_through, ends_with_byte, strip_last, DropsThrough}
use Rattle.std.specs.Io.KnownBytes.{Appends, Consumes}
use Rattle.cpm_slots.specs.Host.{Host}
use Rattle.cpm_serve.specs.Folder.{FolderAccess}
use Rattle.cpm_serve.specs.Lines.{AreLinesServed, Asks, Broken, CutEventsLead, IsLineCut, IsLineHeard, IsLineServed, KeptEventsLead, LineHeard, Long, Unread, WireEvent, most_line}
use Rattle.cpm_serve.specs.Talk.{HasTalked, HasTalkedPartly, IsLineKept, IsLineRead, IsReadOn, IsTalkEnd, ReadsLines, has_newline, most_kept, kept_lines, most_wire_lines, put_first, reply_lines}
use Rattle.cpm_serve.specs.Talk.{talk_error, wire_lines}
use Rattle.cpm_serve.specs.Written.{AppendsFirst}
use Rattle.cpm_serve.specs.declared.folder.ServeError.{ServeError}
use Rattle.cpm_serve.specs.declared.folder.ServeError.TheVariants as serve
use Rattle.cpm_serve.specs.declared.talk.TalkError.{TalkError}
use Rattle.cpm_serve.specs.declared.talk.TalkError.TheVariants as talk

by_case : (ends : Bool) (b : ℕ) (bs : List ℕ) → put_first b (kept_lines bs) ≡ (b ∷ take_through 10 bs) ∷ kept_lines (drop_through 10 bs)
    → (if ends then (b ∷ []) ∷ kept_lines bs else put_first b (kept_lines bs))
    ≡ (if ends then b ∷ [] else b ∷ take_through 10 bs) ∷ kept_lines (if ends then bs else drop_through 10 bs)
by_case true b bs e = refl
by_case false b bs e = e

onto : (b : ℕ) (bs : List ℕ) → put_first b (kept_lines bs) ≡ (b ∷ take_through 10 bs) ∷ kept_lines (drop_through 10 bs)
onto b [] = refl
onto b (x ∷ xs) = ap (put_first b) (by_case (x == 10) x xs (onto x xs))

-- the first line, and those of what follows it
lines_first : (b : ℕ) (bs : List ℕ) → wire_lines (b ∷ bs) ≡ strip_last 0x0A (take_through 10 (b ∷ bs)) ∷ wire_lines (drop_through 10 (b ∷ bs))
lines_first b bs = ap (map (strip_last 0x0A)) (by_case (b == 10) b bs (onto b bs))

line_read : (text : List ℕ) → 0 < length (take_through 10 text) → wire_lines text ≡ strip_last 0x0A (take_through 10 text) ∷ wire_lines (drop_through 10 text)
line_read [] some = absurd (omega arith)
line_read (b ∷ bs) some = lines_first b bs

pub reads_line : (count : ℕ) (old new : Option (List ℕ)) (line : List ℕ) → IfSome old (λ xs. line ≡ take_through 10 xs) → DropsThrough old new 10
    → length line ≡ count → 0 < count → ReadsLines old new (strip_last 0x0A line ∷ [])
reads_line count None new line read rest size some = tt
reads_line count (Some xs) None line read rest size some = absurd (cc)
reads_line count (Some xs) (Some ys) line read rest size some =
    let long : length (take_through 10 xs) ≡ count = ap length (sym read) ∙ size in
    let last : ys ≡ drop_through 10 xs = cc in
    line_read xs (omega (arith, long, some)) ∙ ap₂ (λ (l r : List ℕ). strip_last 0x0A l ∷ wire_lines r) (sym read) (sym last)

-- ---- what was read, served and written so far

pub record IsTalkSoFar {F : Type 0} (does : F → FolderAccess → F → Type 0) (input now : Option (List ℕ)) (old new : Host) (from to : F) (before after : Option (List ℕ)) (count : ℕ) : Type 0 where
  pub lines : List (List ℕ)
  pub texts : List (List ℕ)
  pub read : ReadsLines input now lines
  pub counted : length lines ≡ count
  pub served : AreLinesServed does lines old new from to texts
  pub written : Appends before after (reply_lines texts)

reads_more : (old now new : Option (List ℕ)) (lines more : List (List ℕ)) → ReadsLines old now lines → ReadsLines now new more → ReadsLines old new (lines ++ more)
reads_more None now new lines more a b = tt
reads_more (Some text) None new lines more a b = absurd a
reads_more (Some text) (Some rest) None lines more a b = absurd b
reads_more (Some text) (Some rest) (Some last) lines more a b = a ∙ ap (λ ls. lines ++ ls) b ∙ sym (append_assoc lines more (wire_lines last))

pub appends_more : (old now new : Option (List ℕ)) (xs ys : List ℕ) → Appends old now xs → Appends now new ys → Appends old new (xs ++ ys)
appends_more None now new xs ys a b = tt
appends_more (Some old) None new xs ys a b = absurd a
appends_more (Some old) (Some now) None xs ys a b = absurd b
appends_more (Some old) (Some now) (Some new) xs ys a b = b ∙ ap (λ zs. zs ++ ys) a ∙ append_assoc old xs ys

replies_more : (texts : List (List ℕ)) (text : List ℕ) → reply_lines (texts ++ text ∷ []) ≡ reply_lines texts ++ (text ++ 0x0A ∷ [])
replies_more [] text = refl
replies_more (t ∷ ts) text = ap (λ bs. t ++ 0x0A ∷ bs) (replies_more ts text) ∙ sym (append_assoc t (0x0A ∷ reply_lines ts) (text ++ 0x0A ∷ []))

rebased : {F : Type 0} (does : F → FolderAccess → F → Type 0) (line text : List ℕ) (old now new : Host) (from mid to : F) → now ≡ old → from ≡ mid → IsLineServed (KeptEventsLead does now mid to) line now new text →
    IsLineServed (KeptEventsLead does old from to) line old new text
rebased {F} does line text old now new from mid to host folder one =
    subst (λ (f : F). IsLineServed (KeptEventsLead does old f to) line old new text) (sym folder)
    (subst (λ (g : Host). IsLineServed (KeptEventsLead does g mid to) line g new text) host one)

lines_more : {F : Type 0} (does : F → FolderAccess → F → Type 0) (lines : List (List ℕ)) (old now new : Host) (from mid to : F) (texts : List (List ℕ)) (line text : List ℕ) → AreLinesServed does lines old now from mid texts →
    IsLineServed (KeptEventsLead does now mid to) line now new text → AreLinesServed does (lines ++ line ∷ []) old new from to (texts ++ text ∷ [])
lines_more does [] old now new from mid to [] line text a one = (new, to, rebased does line text old now new from mid to a.0 a.1 one, (refl, refl))
lines_more does [] old now new from mid to (t ∷ ts) line text a one = absurd a
lines_more does (l ∷ ls) old now new from mid to [] line text a one = absurd a
lines_more does (l ∷ ls) old now new from mid to (t ∷ ts) line text a one = (a.0, a.1, a.2, lines_more does ls a.0 now new a.1 mid to ts line text a.3 one)

pub talk_begun : {F : Type 0} (does : F → FolderAccess → F → Type 0) (input : Option (List ℕ)) (old : Host) (from : F) (before : Option (List ℕ)) → IsTalkSoFar does input input old old from from before before 0
talk_begun does input old from before = record { lines = []; texts = []; read = begun input; counted = refl; served = (refl, refl); written = unwritten before }
  where
    begun : (known : Option (List ℕ)) → ReadsLines known known []
    begun None = tt
    begun (Some text) = refl

    unwritten : (known : Option (List ℕ)) → Appends known known []
    unwritten None = tt
    unwritten (Some bytes) = sym (append-nil bytes)

-- one line more
pub talk_more : {F : Type 0} (does : F → FolderAccess → F → Type 0) (input now next : Option (List ℕ)) (old mid new : Host) (from between to : F) (before after last : Option (List ℕ)) (count : ℕ) (line text : List ℕ) →
    IsTalkSoFar does input now old mid from between before after count → ReadsLines now next (line ∷ []) → IsLineServed (KeptEventsLead does mid between to) line mid new text →
    Appends after last (text ++ 0x0A ∷ []) → IsTalkSoFar does input next old new from to before last (count + 1)
talk_more does input now next old mid new from between to before after last count line text k read served written = record {
  lines = k.lines ++ line ∷ [];
  texts = k.texts ++ text ∷ [];
  read = reads_more input now next k.lines (line ∷ []) k.read read;
  counted = let n = k.counted in let m = length-append k.lines (line ∷ []) in omega (arith, n, m);
  served = lines_more does k.lines old mid new from between to k.texts line text k.served served;
  written = subst (λ bs. Appends before last bs) (sym (replies_more k.texts text)) (appends_more before after last (reply_lines k.texts) (text ++ 0x0A ∷ []) k.written written);
}

-- ---- the end

all_read : (count : ℕ) (input now : Option (List ℕ)) (lines : List (List ℕ)) → ReadsLines input now lines → IfSome now (λ text. wire_lines text ≡ []) → length lines ≡ count → count ≤ most_wire_lines →
    IfSome input (λ text. lines ≡ take most_wire_lines (wire_lines text))
all_read count None now lines read end counted few = tt
all_read count (Some text) None lines read end counted few = absurd read
all_read count (Some text) (Some rest) lines read end counted few =
    let whole : wire_lines text ≡ lines = read ∙ ap (λ ls. lines ++ ls) end ∙ append-nil lines in
    sym (take_all most_wire_lines lines (omega (arith, counted, few))) ∙ ap (take most_wire_lines) (sym whole)

pub talk_ended : {F : Type 0} (does : F → FolderAccess → F → Type 0) (input now : Option (List ℕ)) (old new : Host) (from to : F) (before after : Option (List ℕ)) (count : ℕ) →
    IsTalkSoFar does input now old new from to before after count → IfSome now (λ text. wire_lines text ≡ []) → count ≤ most_wire_lines → HasTalked does input old new from to before after
talk_ended does input now old new from to before after count k end few = record {
  lines = k.lines;
  texts = k.texts;
  all = all_read count input now k.lines k.read end k.counted few;
  served = k.served;
  written = k.written;
}

most_read : (input now : Option (List ℕ)) (lines : List (List ℕ)) → ReadsLines input now lines → length lines ≡ most_wire_lines → IfSome input (λ text. lines ≡ take most_wire_lines (wire_lines text))
most_read None now lines read counted = tt
most_read (Some text) None lines read counted = absurd read
most_read (Some text) (Some rest) lines read counted =
    sym (take-append_seam lines (wire_lines rest)) ∙ ap (λ n. take n (lines ++ wire_lines rest)) counted ∙ ap (take most_wire_lines) (sym read)

pub talk_full : {F : Type 0} (does : F → FolderAccess → F → Type 0) (input now : Option (List ℕ)) (old new : Host) (from to : F) (before after : Option (List ℕ)) (count : ℕ) →
    IsTalkSoFar does input now old new from to before after count → count ≡ most_wire_lines → HasTalked does input old new from to before after
talk_full does input now old new from to before after count k full = record {
  lines = k.lines;
  texts = k.texts;
  all = most_read input now k.lines k.read (k.counted ∙ full);
  served = k.served;
  written = k.written;
}

front_of : (input now : Option (List ℕ)) (lines : List (List ℕ)) → ReadsLines input now lines → IfSome input (λ text. (rest : List (List ℕ)) × (wire_lines text ≡ lines ++ rest))
front_of None now lines read = tt
front_of (Some text) None lines read = absurd read
front_of (Some text) (Some rest) lines read = (wire_lines rest, read)

-- where no other line was begun
front_whole : (input now : Option (List ℕ)) (lines : List (List ℕ)) → ReadsLines input now lines →
    IfSome input (λ text. (rest : List (List ℕ)) × (wire_lines text ≡ lines ++ [] ++ rest))
front_whole input now lines read = front_of input now (lines ++ []) (subst (ReadsLines input now) (sym (append-nil lines)) read)

-- no line more is read
pub talk_stopped : {F : Type 0} (does : F → FolderAccess → F → Type 0) (fault : Error) (input now : Option (List ℕ)) (old new : Host) (from to : F) (before after : Option (List ℕ)) (count : ℕ) →
    IsTalkSoFar does input now old new from to before after count → HasTalkedPartly does (talk.Unreadable fault) input old new from to before after
talk_stopped does fault input now old new from to before after count k = record {
  lines = k.lines;
  texts = k.texts;
  begun = [];
  front = front_whole input now k.lines k.read;
  mid = new;
  between = to;
  served = k.served;
  end = (refl, refl, refl, k.written);
}

cut_end : {F : Type 0} (does : F → FolderAccess → F → Type 0) (by : ServeError) (line : List ℕ) (texts : List (List ℕ)) (mid new : Host) (between to : F) (before after : Option (List ℕ)) →
    IsLineCut (CutEventsLead by does mid between to) line mid new → Appends before after (reply_lines texts) → IsTalkEnd does (talk_error by) texts (line ∷ []) mid new between to before after
cut_end does serve.OutOfMemory line texts mid new between to before after cut written = ((line, refl, cut), written)
cut_end does serve.Unkept line texts mid new between to before after cut written = ((line, refl, cut), written)

-- a line more, that was not served to its end
pub talk_cut : {F : Type 0} (does : F → FolderAccess → F → Type 0) (by : ServeError) (error : TalkError) (input now next : Option (List ℕ)) (old mid new : Host) (from between to : F) (before after : Option (List ℕ)) (count : ℕ) (line : List ℕ) →
    error ≡ talk_error by → IsTalkSoFar does input now old mid from between before after count → ReadsLines now next (line ∷ []) → IsLineCut (CutEventsLead by does mid between to) line mid new →
    HasTalkedPartly does error input old new from to before after
talk_cut does by error input now next old mid new from between to before after count line is k read cut = record {
  lines = k.lines;
  texts = k.texts;
  begun = line ∷ [];
  front = front_of input next (k.lines ++ line ∷ []) (reads_more input now next k.lines (line ∷ []) k.read read);
  mid = mid;
  between = between;
  served = k.served;
  end = subst (λ (e : TalkError). IsTalkEnd does e k.texts (line ∷ []) mid new between to before after) (sym is) (cut_end does by line k.texts mid new between to before after cut k.written);
}

-- or whose reply was begun alone
pub talk_unwritten : {F : Type 0} (does : F → FolderAccess → F → Type 0) (fault : Error) (input now next : Option (List ℕ)) (old mid new : Host) (from between to : F) (before after last : Option (List ℕ)) (count : ℕ) (line text : List ℕ) →
    IsTalkSoFar does input now old mid from between before after count → ReadsLines now next (line ∷ []) → IsLineServed (KeptEventsLead does mid between to) line mid new text →
    AppendsFirst after last (text ++ 0x0A ∷ []) → HasTalkedPartly does (talk.Unwritable fault) input old new from to before last
talk_unwritten does fault input now next old mid new from between to before after last count line text k read served first = record {
  lines = k.lines ++ line ∷ [];
  texts = k.texts ++ text ∷ [];
  begun = [];
  front = front_whole input next (k.lines ++ line ∷ []) (reads_more input now next k.lines (line ∷ []) k.read read);
  mid = new;
  between = to;
  served = lines_more does k.lines old mid new from between to k.texts line text k.served served;
  end = (
    refl,
    refl,
    refl,
    record {
      first = k.texts;
      last = text;
      are = refl;
      count = first.count;
      written = appends_more before after last (reply_lines k.texts) (take first.count (text ++ 0x0A ∷ [])) k.written first.added;
    },
  );
}

-- ---- a line in parts

some_step : (ends : Bool) (b : ℕ) (line : List ℕ) → 0 < length (if ends then b ∷ [] else b ∷ line)
some_step true b line = omega arith
some_step false b line = omega arith

some_through : (b : ℕ) (bs : List ℕ) → 0 < length (take_through 10 (b ∷ bs))
some_through b bs = some_step (b == 10) b (take_through 10 bs)

or-none : (a b : Bool) → a || b ≡ false → b ≡ false
or-none true b h = cc
or-none false b h = h

or-first : (a b : Bool) → a || b ≡ false → a ≡ false
or-first true b h = cc
or-first false b h = refl

-- behind bytes without a newline
through-behind : (part bs : List ℕ) → has_newline part ≡ false → take_through 10 (part ++ bs) ≡ part ++ take_through 10 bs
through-behind [] bs none = refl
through-behind (x ∷ xs) bs none =
    rw (or-first (x == 10) (has_newline xs) none) (ap (λ ys. x ∷ ys) (through-behind xs bs (or-none (x == 10) (has_newline xs) none)))

drop-behind : (part bs : List ℕ) → has_newline part ≡ false → drop_through 10 (part ++ bs) ≡ drop_through 10 bs
drop-behind [] bs none = refl
drop-behind (x ∷ xs) bs none = rw (or-first (x == 10) (has_newline xs) none) (drop-behind xs bs (or-none (x == 10) (has_newline xs) none))

-- up to and including a newline that is there
through-found : (shown rest : List ℕ) → has_newline shown ≡ true → take_through 10 (take_through 10 shown ++ rest) ≡ take_through 10 shown
through-found [] rest found = cc
through-found (x ∷ xs) rest found =
    elim (x == 10) as (λ b. (x == 10) ≡ b → (b || has_newline xs) ≡ true → take_through 10 ((if b then x ∷ [] else x ∷ take_through 10 xs) ++ rest) ≡ (if b then x ∷ [] else x ∷ take_through 10 xs))
    [ true ↦ (λ e h. rw e refl) | false ↦ (λ e h. rw e (ap (λ ys. x ∷ ys) (through-found xs rest h))) ] refl found

drop-found : (shown rest : List ℕ) → has_newline shown ≡ true → drop_through 10 (take_through 10 shown ++ rest) ≡ rest
drop-found [] rest found = cc
drop-found (x ∷ xs) rest found =
    elim (x == 10) as (λ b. (x == 10) ≡ b → (b || has_newline xs) ≡ true → drop_through 10 ((if b then x ∷ [] else x ∷ take_through 10 xs) ++ rest) ≡ rest)
    [ true ↦ (λ e h. rw e refl) | false ↦ (λ e h. rw e (drop-found xs rest h)) ] refl found

-- a chunk without a newline is all of it
through-none : (shown : List ℕ) → has_newline shown ≡ false → take_through 10 shown ≡ shown
through-none [] none = refl
through-none (x ∷ xs) none = rw (or-first (x == 10) (has_newline xs) none) (ap (λ ys. x ∷ ys) (through-none xs (or-none (x == 10) (has_newline xs) none)))

newline-append : (xs ys : List ℕ) → has_newline xs ≡ false → has_newline ys ≡ false → has_newline (xs ++ ys) ≡ false
newline-append [] ys a b = b
newline-append (x ∷ xs) ys a b = rw (or-first (x == 10) (has_newline xs) a) (newline-append xs ys (or-none (x == 10) (has_newline xs) a) b)

-- what is kept of the parts is what is kept of the whole
kept-parts : (n : ℕ) (part more : List ℕ) → take n part ++ take (n - length (take n part)) more ≡ take n (part ++ more)
kept-parts n [] more =
    let z : take {A = ℕ} n [] ≡ [] = take-nil n in
    ap (λ (ys : List ℕ). ys ++ take (n - length ys) more) z ∙ ap (λ k. take k more) (let e : n - 0 ≡ n = omega arith in e)
kept-parts zero (x ∷ xs) more = refl
kept-parts (suc n) (x ∷ xs) more =
    ap (λ k. x ∷ take n xs ++ take k more) (let e : suc n - suc (length (take n xs)) ≡ n - length (take n xs) = omega arith in e)
    ∙ ap (λ ys. x ∷ ys) (kept-parts n xs more)

consumes-more : (old now new : Option (List ℕ)) (xs ys : List ℕ) → Consumes old now xs → Consumes now new ys → Consumes old new (xs ++ ys)
consumes-more None now new xs ys a b = tt
consumes-more (Some old) None new xs ys a b = absurd a
consumes-more (Some old) (Some now) None xs ys a b = absurd b
consumes-more (Some old) (Some now) (Some new) xs ys a b = a ∙ ap (λ zs. xs ++ zs) b ∙ sym (append_assoc xs ys new)

-- a line so far
pub record IsPart (old now : Option (List ℕ)) (kept : List ℕ) : Type 0 where
  pub part : List ℕ
  pub first : kept ≡ take most_kept part
  pub read : Consumes old now part
  pub none : has_newline part ≡ false

pub part-begun : (old : Option (List ℕ)) (kept : List ℕ) → kept ≡ [] → IsPart old old kept
part-begun old kept empty = record { part = []; first = empty ∙ sym (take-nil most_kept); read = begun old; none = refl }
  where
    begun : (known : Option (List ℕ)) → Consumes known known []
    begun None = tt
    begun (Some xs) = refl

kept-more : (kept now part chunk : List ℕ) → kept ≡ take most_kept part → now ≡ kept ++ take (most_kept - length kept) chunk → now ≡ take most_kept (part ++ chunk)
kept-more kept now part chunk first is = is ∙ ap (λ ks. ks ++ take (most_kept - length ks) chunk) first ∙ kept-parts most_kept part chunk

pub part-more : (old now new : Option (List ℕ)) (kept next : List ℕ) (ended : Bool) → IsPart old now kept → IsReadOn now new kept next ended → ended ≡ false → IsPart old new next
part-more old now new kept next ended k c goes = record {
  part = k.part ++ c.chunk;
  first = kept-more kept next k.part c.chunk k.first c.kept;
  read = consumes-more old now new k.part c.chunk k.read c.read;
  none = newline-append k.part c.chunk k.none (c.none goes);
}

-- the whole line, where it ended
whole-through : (old now new : Option (List ℕ)) (part chunk : List ℕ) → Consumes old now part → has_newline part ≡ false → IfSome now (λ text. (chunk ≡ take_through 10 text) × (new ≡ Some (drop_through 10 text))) →
    IfSome old (λ text. part ++ chunk ≡ take_through 10 text) × DropsThrough old new 10
whole-through None now new part chunk read none end = (tt, tt)
whole-through (Some text) None new part chunk read none end = absurd read
whole-through (Some text) (Some rest) new part chunk read none end = (
  ap (λ xs. part ++ xs) end.0 ∙ sym (through-behind part rest none) ∙ ap (take_through 10) (sym read),
  end.1 ∙ ap Some (sym (drop-behind part rest none) ∙ ap (drop_through 10) (sym read)),
)

some-kept : (whole kept : List ℕ) → kept ≡ take most_kept whole → 0 < length kept → 0 < length whole
some-kept [] kept first some = let e = ap length first in let z = ap length (take-nil {A = ℕ} most_kept) in omega (arith, some, e, z)
some-kept (x ∷ xs) kept first some = omega arith

none-kept : (whole kept : List ℕ) → kept ≡ take most_kept whole → kept ≡ [] → whole ≡ []
none-kept [] kept first none = refl
none-kept (x ∷ xs) kept first none = let e : x ∷ take 1048577 xs ≡ [] = sym first ∙ none in absurd cc

no-through : (text whole : List ℕ) → whole ≡ take_through 10 text → whole ≡ [] → wire_lines text ≡ []
no-through [] whole e none = refl
no-through (b ∷ bs) whole e none = let long = some_through b bs in let z = ap length (sym e ∙ none) in absurd (omega (arith, long, z))

pub line-ended : (old now new : Option (List ℕ)) (kept next : List ℕ) (ended : Bool) → IsPart old now kept → IsReadOn now new kept next ended → ended ≡ true → 0 < length next → IsLineKept old new next
line-ended old now new kept next ended k c ends some =
    let whole = k.part ++ c.chunk in
    let first = kept-more kept next k.part c.chunk k.first c.kept in
    let t = whole-through old now new k.part c.chunk k.read k.none (c.end ends) in
    record { whole = whole; read = reads_line (length whole) old new whole t.0 t.1 refl (some-kept whole next first some); first = first }

pub lines-ended : (old now new : Option (List ℕ)) (kept next : List ℕ) (ended : Bool) → IsPart old now kept → IsReadOn now new kept next ended → ended ≡ true → next ≡ [] → IfSome old (λ text. wire_lines text ≡ [])
lines-ended old now new kept next ended k c ends none =
    let whole = k.part ++ c.chunk in
    let first = kept-more kept next k.part c.chunk k.first c.kept in
    let t = whole-through old now new k.part c.chunk k.read k.none (c.end ends) in
    each old whole t.0 (none-kept whole next first none)
  where
    each : (known : Option (List ℕ)) (whole : List ℕ) → IfSome known (λ text. whole ≡ take_through 10 text) → whole ≡ [] → IfSome known (λ text. wire_lines text ≡ [])
    each None whole e none = tt
    each (Some text) whole e none = no-through text whole e none

-- ---- a line that is cut is too long

strip-long : (b : Bool) (xs : List ℕ) → length xs ≤ length (if b then take (length xs - 1) xs else xs) + 1
strip-long true xs = let e = length-take-le (length xs - 1) xs (omega arith) in omega (arith, e)
strip-long false xs = omega arith

-- what is kept of a line is all of it, or both are too long
kept-or-long : (whole kept : List ℕ) → kept ≡ take most_kept whole → (kept ≡ whole) ⊎ ((most_line < length (strip_last 0x0A kept)) × (most_line < length (strip_last 0x0A whole)))
kept-or-long whole kept first = ⊎_elim
    (λ (over : most_kept < length whole).
    let size : length kept ≡ most_kept = ap length first ∙ length-take-le most_kept whole (omega (arith, over)) in
    let a = strip-long (ends_with_byte 0x0A kept) kept in
    let b = strip-long (ends_with_byte 0x0A whole) whole in
    inr (omega (arith, size, a), omega (arith, over, b)))
    (λ (within : length whole ≤ most_kept). inl (first ∙ take_all most_kept whole within))
    (cases_lt most_kept (length whole))

long-heard : (line other : List ℕ) (x : LineHeard) → most_line < length line → most_line < length other → IsLineHeard line x → IsLineHeard other x
long-heard line other Long a b is = b
long-heard line other (Broken column) a b is = let n = is.0 in absurd (omega (arith, a, n))
long-heard line other Unread a b is = let n = is.0 in absurd (omega (arith, a, n))
long-heard line other (Asks value events) a b is = let n = is.0 in absurd (omega (arith, a, n))

pub whole-served : (L : List WireEvent → Type 0) (whole kept text : List ℕ) (old new : Host) → kept ≡ take most_kept whole → IsLineServed L (strip_last 0x0A kept) old new text →
    IsLineServed L (strip_last 0x0A whole) old new text
whole-served L whole kept text old new first k = ⊎_elim
    (λ (same : kept ≡ whole). subst (λ (l : List ℕ). IsLineServed L (strip_last 0x0A l) old new text) same k)
    (λ both. record { heard = k.heard; is = long-heard (strip_last 0x0A kept) (strip_last 0x0A whole) k.heard both.0 both.1 k.is; host = k.host; reply = k.reply; leads = k.leads })
    (kept-or-long whole kept first)

pub whole-cut : (L : List WireEvent → Type 0) (whole kept : List ℕ) (old new : Host) → kept ≡ take most_kept whole → IsLineCut L (strip_last 0x0A kept) old new →
    IsLineCut L (strip_last 0x0A whole) old new
whole-cut L whole kept old new first k = ⊎_elim
    (λ (same : kept ≡ whole). subst (λ (l : List ℕ). IsLineCut L (strip_last 0x0A l) old new) same k)
    (λ both. record { heard = k.heard; is = long-heard (strip_last 0x0A kept) (strip_last 0x0A whole) k.heard both.0 both.1 k.is; count = k.count; host = k.host; leads = k.leads })
    (kept-or-long whole kept first)

-- ---- a chunk

newline-through : (shown : List ℕ) → has_newline shown ≡ false → has_newline (take_through 10 shown) ≡ false
newline-through shown none = ap has_newline (through-none shown none) ∙ none

-- it ended at its newline
pub ended-found : (old new : Option (List ℕ)) (shown : List ℕ) → Consumes old new (take_through 10 shown) → has_newline shown ≡ true →
    IfSome old (λ text. (take_through 10 shown ≡ take_through 10 text) × (new ≡ Some (drop_through 10 text)))
ended-found None new shown read found = tt
ended-found (Some text) None shown read found = absurd read
ended-found (Some text) (Some rest) shown read found = (
  sym (through-found shown rest found) ∙ ap (take_through 10) (sym read),
  ap Some (sym (drop-found shown rest found) ∙ ap (drop_through 10) (sym read)),
)

-- or at the end of the input
pub ended-empty : (old new : Option (List ℕ)) (shown : List ℕ) → Consumes old new (take_through 10 shown) → IfSome old (λ text. length shown ≡ 0 → text ≡ []) → shown ≡ [] →
    IfSome old (λ text. (take_through 10 shown ≡ take_through 10 text) × (new ≡ Some (drop_through 10 text)))
ended-empty None new shown read end none = tt
ended-empty (Some text) None shown read end none = absurd read
ended-empty (Some text) (Some rest) shown read end none =
    let empty : text ≡ [] = end (ap length none) in
    let left : rest ≡ [] = sym (read ∙ ap (λ xs. take_through 10 xs ++ rest) none) ∙ empty in
    (ap (take_through 10) (none ∙ sym empty), ap Some (left ∙ ap (drop_through 10) (sym empty)))

-- ---- the first newline of a chunk

neq-eqb : (x y : ℕ) → (x ≡ y → ⊥) → (x == y) ≡ false
neq-eqb x y differs = grind (arith, nat_tests)

pub record IsScanned (bytes : List ℕ) (i : ℕ) : Type 0 where
  pub through : take i bytes ++ take_through 10 (drop i bytes) ≡ take_through 10 bytes
  pub found : has_newline (drop i bytes) ≡ has_newline bytes

pub scan-begun : (bytes : List ℕ) → IsScanned bytes 0
scan-begun bytes = record { through = refl; found = refl }

scan-at : (bytes : List ℕ) (i : ℕ) → i < length bytes → drop i bytes ≡ get_or bytes i 0 ∷ drop (i + 1) bytes
scan-at bytes i within = drop-cons bytes i 0 within ∙ ap (λ n. get_or bytes i 0 ∷ drop n bytes) (sym (add-one i))

scan-front : (bytes : List ℕ) (i : ℕ) → i < length bytes → take (i + 1) bytes ≡ take i bytes ++ get_or bytes i 0 ∷ []
scan-front bytes i within = ap (λ n. take n bytes) (add-one i) ∙ take-suc bytes i 0 within

pub scan-more : (bytes : List ℕ) (i : ℕ) → i < length bytes → (get_or bytes i 0 ≡ 10 → ⊥) → IsScanned bytes i → IsScanned bytes (i + 1)
scan-more bytes i within differs k =
    let x = get_or bytes i 0 in
    let other : (x == 10) ≡ false = neq-eqb x 10 differs in
    let rest = drop (i + 1) bytes in
    let at = scan-at bytes i within in
    let step : take_through 10 (x ∷ rest) ≡ x ∷ take_through 10 rest = rw other refl in
    record {
      through = ap (λ ys. ys ++ take_through 10 rest) (scan-front bytes i within) ∙ append_assoc (take i bytes) (x ∷ []) (take_through 10 rest)
          ∙ ap (λ ys. take i bytes ++ ys) (sym step ∙ ap (take_through 10) (sym at)) ∙ k.through;
      found = (let f : has_newline (x ∷ rest) ≡ has_newline rest = rw other refl in sym f) ∙ ap has_newline (sym at) ∙ k.found;
    }

pub scan-through : (bytes : List ℕ) (i : ℕ) → i < length bytes → get_or bytes i 0 ≡ 10 → IsScanned bytes i → take (i + 1) bytes ≡ take_through 10 bytes
scan-through bytes i within same k =
    let x = get_or bytes i 0 in
    let ends : (x == 10) ≡ true = eq-eqb x 10 same in
    let rest = drop (i + 1) bytes in
    let step : take_through 10 (x ∷ rest) ≡ x ∷ [] = rw ends refl in
    scan-front bytes i within ∙ ap (λ ys. take i bytes ++ ys) (sym step ∙ ap (take_through 10) (sym (scan-at bytes i within))) ∙ k.through

pub scan-found : (bytes : List ℕ) (i : ℕ) → i < length bytes → get_or bytes i 0 ≡ 10 → IsScanned bytes i → true ≡ has_newline bytes
scan-found bytes i within same k =
    let x = get_or bytes i 0 in
    let ends : (x == 10) ≡ true = eq-eqb x 10 same in
    let rest = drop (i + 1) bytes in
    (let f : has_newline (x ∷ rest) ≡ true = rw ends refl in sym f) ∙ ap has_newline (sym (scan-at bytes i within)) ∙ k.found

pub scan-whole : (bytes : List ℕ) (i : ℕ) → length bytes ≤ i → IsScanned bytes i → (take (length bytes) bytes ≡ take_through 10 bytes) × (false ≡ has_newline bytes)
scan-whole bytes i past k =
    let none : drop i bytes ≡ [] = drop_of_length-le bytes past in
    let all : take i bytes ≡ bytes = take_all i bytes past in
    let whole : take (length bytes) bytes ≡ bytes = take_all (length bytes) bytes (omega arith) in
    (whole ∙ sym (append-nil bytes) ∙ ap₂ (λ (xs ys : List ℕ). xs ++ take_through 10 ys) (sym all) (sym none) ∙ k.through, ap has_newline (sym none) ∙ k.found)

-- ---- what is kept of a chunk

kept-chunk : (shown chunk : List ℕ) (end room k : ℕ) → take end shown ≡ chunk → end ≤ length shown → k ≡ min end room → take k shown ≡ take room chunk
kept-chunk shown chunk end room k is within e = ⊎_elim
    (λ (less : room < end).
    let same : k ≡ room = omega (arith, e, less) in
    ap (λ n. take n shown) same ∙ sym (take-take room end shown (omega (arith, less))) ∙ ap (take room) is)
    (λ (most : end ≤ room).
    let same : k ≡ end = omega (arith, e, most) in
    let long : length chunk ≡ end = ap length (sym is) ∙ length-take-le end shown within in
    ap (λ n. take n shown) same ∙ is ∙ sym (take_all room chunk (omega (arith, long, most))))
    (cases_lt room end)

-- none was read
pub read-none : (old now : Option (List ℕ)) (line : List ℕ) → Consumes old now [] → IsReadOn old now line line false
read-none old now line read = record {
  chunk = [];
  kept = sym (append-nil line) ∙ ap (λ xs. line ++ xs) (sym (take-nil {A = ℕ} (most_kept - length line)));
  read = read;
  none = λ e. refl;
  end = λ e. absurd cc;
}

pub read-chunk : (old new : Option (List ℕ)) (line next shown : List ℕ) (end room k : ℕ) → end ≤ length shown → take end shown ≡ take_through 10 shown → k ≡ min end room → room ≡ most_kept - length line →
    next ≡ line ++ take k shown → Consumes old new (take end shown) → (end ≡ 0 → ⊥) → IsReadOn old new line next (has_newline shown)
read-chunk old new line next shown end room k within through few room_is is read some = record {
  chunk = take_through 10 shown;
  kept = is ∙ ap (λ xs. line ++ xs) (kept-chunk shown (take_through 10 shown) end room k through within few ∙ ap (λ n. take n (take_through 10 shown)) room_is);
  read = subst (Consumes old new) through read;
  none = λ none. newline-through shown none;
  end = λ found. ended-found old new shown (subst (Consumes old new) through read) found;
}

-- nothing is shown at the end of the input
nothing : (shown : List ℕ) (end : ℕ) → take end shown ≡ take_through 10 shown → end ≡ 0 → shown ≡ []
nothing [] end through zero_is = refl
nothing (x ∷ xs) end through zero_is =
    let some = some_through x xs in
    let none : length (take_through 10 (x ∷ xs)) ≡ 0 = ap length (sym through ∙ ap (λ n. take n (x ∷ xs)) zero_is) in absurd (omega (arith, some, none))

pub read-end : (old new : Option (List ℕ)) (line next shown : List ℕ) (end room k : ℕ) → end ≤ length shown → take end shown ≡ take_through 10 shown → k ≡ min end room → room ≡ most_kept - length line →
    next ≡ line ++ take k shown → Consumes old new (take end shown) → IfSome old (λ text. length shown ≡ 0 → text ≡ []) → end ≡ 0 → IsReadOn old new line next (nat_eq end 0)
read-end old new line next shown end room k within through few room_is is read last zero_is = record {
  chunk = take_through 10 shown;
  kept = is ∙ ap (λ xs. line ++ xs) (kept-chunk shown (take_through 10 shown) end room k through within few ∙ ap (λ n. take n (take_through 10 shown)) room_is);
  read = subst (Consumes old new) through read;
  none = λ e. let t : nat_eq end 0 ≡ true = eq-eqb end 0 zero_is in absurd cc;
  end = λ e. ended-empty old new shown (subst (Consumes old new) through read) last (nothing shown end through zero_is);
}

-- ---- a line that ended, if it has a byte

pub read_line : (old now new : Option (List ℕ)) (kept : List ℕ) (next : Vec ℕ Global) (ended : Bool) (o : Option (Vec ℕ Global)) → IsPart old now kept → IsReadOn now new kept next.items ended → ended ≡ true →
    IfNone o (next.items ≡ []) → IfSome o (λ l. (l ≡ next) × (0 < length next.items)) → IsLineRead old new o
read_line old now new kept next ended None k c ends none some = lines-ended old now new kept next.items ended k c ends none
read_line old now new kept next ended (Some l) k c ends none some =
    subst (λ (v : Vec ℕ Global). IsLineKept old new v.items) (sym some.0) (line-ended old now new kept next.items ended k c ends some.1)
