-- Lines that are read, and replies that are written. All of it is own: docs/PROTOCOL.md.
use Rattle.std.specs.Prelude.{⊤, ◌≡◌, ℕ, ◌-◌, ◌==◌, ◌||◌, Bool, true, false, length, if◌then◌else◌}
use Rattle.std.specs.Prelude.{List, [], ◌∷◌, ◌++◌, map, take, Option, Some, None, IfSome, Vec}
use Rattle.std.specs.declared.alloc.Global.{Global}
use Rattle.std.specs.Io.BufRead.{drop_through, strip_last, take_through}
use Rattle.std.specs.Io.KnownBytes.{Appends, Consumes}
use Rattle.cpm_slots.specs.Host.{Host}
use Rattle.cpm_serve.specs.Folder.{FolderAccess}
use Rattle.cpm_serve.specs.Lines.{AreLinesServed, CutEventsLead, IsLineCut}
use Rattle.cpm_serve.specs.declared.folder.ServeError.{ServeError}
use Rattle.cpm_serve.specs.declared.folder.ServeError.TheVariants as serve
use Rattle.cpm_serve.specs.declared.talk.TalkError.{TalkError}
use Rattle.cpm_serve.specs.declared.talk.TalkError.TheVariants as talk

-- ---- lines

abbrev pub put_first : ℕ → List (List ℕ) → List (List ℕ)
put_first b [] = (b ∷ []) ∷ []
put_first b (line ∷ lines) = (b ∷ line) ∷ lines

-- the lines of a text, each with the newline that ends it; the last may have none
abbrev pub kept_lines : List ℕ → List (List ℕ)
kept_lines [] = []
kept_lines (b ∷ bs) = if b == 0x0A then (b ∷ []) ∷ kept_lines bs else put_first b (kept_lines bs)

-- and without it
abbrev pub wire_lines : List ℕ → List (List ℕ)
wire_lines text = map (strip_last 0x0A) (kept_lines text)

-- as many lines are served at most
abbrev pub most_wire_lines : ℕ
most_wire_lines = 18446744073709551615

-- texts as lines
abbrev pub reply_lines : List (List ℕ) → List ℕ
reply_lines [] = []
reply_lines (text ∷ texts) = text ++ 0x0A ∷ reply_lines texts

-- ---- what is promised of a talk

-- these lines were read of a reader, whose bytes are known or not
abbrev pub ReadsLines : (old new : Option (List ℕ)) → List (List ℕ) → Type 0
ReadsLines None new lines = ⊤
ReadsLines (Some text) None lines = ⊥
ReadsLines (Some text) (Some rest) lines = wire_lines text ≡ lines ++ wire_lines rest

-- so many bytes are kept of a line with its newline: two more than a line may have, so that what is cut is too long
abbrev pub most_kept : ℕ
most_kept = 1048578

abbrev pub has_newline : List ℕ → Bool
has_newline [] = false
has_newline (b ∷ bs) = (b == 0x0A) || has_newline bs

-- Bytes were read on in a line, of which the first are kept: none of them is a newline, or the line ended. Then they are all up to and including its
-- newline, or all that there are.
pub record IsReadOn (old new : Option (List ℕ)) (line now : List ℕ) (ended : Bool) : Type 0 where
  pub chunk : List ℕ
  pub kept : now ≡ line ++ take (most_kept - length line) chunk
  pub read : Consumes old new chunk
  pub none : ended ≡ false → has_newline chunk ≡ false
  pub end : ended ≡ true → IfSome old (λ text. (chunk ≡ take_through 0x0A text) × (new ≡ Some (drop_through 0x0A text)))

-- the next line was read, with its newline, or there was none; the first bytes of it are kept
pub record IsLineKept (old new : Option (List ℕ)) (kept : List ℕ) : Type 0 where
  pub whole : List ℕ
  pub read : ReadsLines old new (strip_last 0x0A whole ∷ [])
  pub first : kept ≡ take most_kept whole

abbrev pub IsLineRead : (old new : Option (List ℕ)) → Option (Vec ℕ Global) → Type 0
IsLineRead old new None = IfSome old (λ text. wire_lines text ≡ [])
IsLineRead old new (Some line) = IsLineKept old new line.items

-- A host was served all lines of a text, as far as it is known: each was served, and what was written is the replies, a line each. The folder went so, by the
-- accesses of their requests.
pub record HasTalked {F : Type 0} (does : F → FolderAccess → F → Type 0) (input : Option (List ℕ)) (old new : Host) (from to : F)
    (before after : Option (List ℕ)) : Type 0 where
  pub lines : List (List ℕ)
  pub texts : List (List ℕ)
  pub all : IfSome input (λ text. lines ≡ take most_wire_lines (wire_lines text))
  pub served : AreLinesServed does lines old new from to texts
  pub written : Appends before after (reply_lines texts)

abbrev pub talk_error : ServeError → TalkError
talk_error serve.OutOfMemory = talk.OutOfMemory
talk_error serve.Unkept = talk.Unkept

-- a line was begun, and ended early so
abbrev pub IsLineBegun : {F : Type 0} → (F → FolderAccess → F → Type 0) → ServeError → (begun : List (List ℕ)) → (mid new : Host) → (between to : F) → Type 0
IsLineBegun {F} does e begun mid new between to = (line : List ℕ) × (begun ≡ line ∷ []) × IsLineCut (CutEventsLead e does mid between to) line mid new

-- These replies are written, a line each, but of the last line a beginning alone, which may be nothing or all of it.
pub record AreRepliesBegun (texts : List (List ℕ)) (before after : Option (List ℕ)) : Type 0 where
  pub first : List (List ℕ)
  pub last : List ℕ
  pub are : texts ≡ first ++ last ∷ []
  pub count : ℕ
  pub written : Appends before after (reply_lines first ++ take count (last ++ 0x0A ∷ []))

-- A talk ended early behind these lines, of which these are the replies, and perhaps in another line.
abbrev pub IsTalkEnd : {F : Type 0} → (F → FolderAccess → F → Type 0) → TalkError → (texts begun : List (List ℕ)) → (mid new : Host) → (between to : F)
    → (before after : Option (List ℕ)) → Type 0
-- no line was begun, and all replies are written
IsTalkEnd {F} does (talk.Unreadable e) texts begun mid new between to before after =
    (begun ≡ []) × (new ≡ mid) × (between ≡ to) × Appends before after (reply_lines texts)
-- no line was begun behind the last one, and its reply could not be written
IsTalkEnd {F} does (talk.Unwritable e) texts begun mid new between to before after =
    (begun ≡ []) × (new ≡ mid) × (between ≡ to) × AreRepliesBegun texts before after
-- a line was not served to its end, and the replies to those before it are written
IsTalkEnd {F} does talk.OutOfMemory texts begun mid new between to before after =
    IsLineBegun does serve.OutOfMemory begun mid new between to × Appends before after (reply_lines texts)
IsTalkEnd {F} does talk.Unkept texts begun mid new between to before after =
    IsLineBegun does serve.Unkept begun mid new between to × Appends before after (reply_lines texts)

-- It was served some lines, from the first on, and then the talk ended early. The next line was perhaps begun, and no line behind it.
pub record HasTalkedPartly {F : Type 0} (does : F → FolderAccess → F → Type 0) (error : TalkError) (input : Option (List ℕ)) (old new : Host) (from to : F)
    (before after : Option (List ℕ)) : Type 0 where
  pub lines : List (List ℕ)
  pub texts : List (List ℕ)
  pub begun : List (List ℕ)
  pub front : IfSome input (λ text. (rest : List (List ℕ)) × (wire_lines text ≡ lines ++ begun ++ rest))
  pub mid : Host
  pub between : F
  pub served : AreLinesServed does lines old mid from between texts
  pub end : IsTalkEnd does error texts begun mid new between to before after
