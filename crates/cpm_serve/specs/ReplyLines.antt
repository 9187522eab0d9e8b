-- The replies to a slot's own requests, in the lines that are written. All of it is own: docs/PROTOCOL.md.
use Rattle.std.specs.Prelude.{⊤, ◌≡◌, ◌<◌, ℕ, List, [], ◌∷◌, ◌++◌, map, codes, Option, Some, None, Result, Ok, Err, if◌then◌else◌}
use Rattle.serde_json.specs.Data.{Data, string}
use Rattle.serde_json.specs.Written.{compact_text}
use Rattle.cpm_slots.specs.Host.{Host, slot_at}
use Rattle.cpm_protocol.specs.Replies.{tag_data}
use Rattle.cpm_protocol.specs.Requests.{AskedFault, AskedTag, LineAsked, One, Many, line_asked, request_asked}
use Rattle.cpm_serve.specs.Folder.{FolderAccess}
use Rattle.cpm_serve.specs.Laws.{IsFold, events_in, own_texts}
use Rattle.cpm_serve.specs.Lines.{Asks, LineHeard, WireEvent, events_of, host_after_line, replies_served, tag_shown}
use Rattle.cpm_serve.specs.Own.{is_own, own_requests, session_replies}

-- ---- a line of reply

-- the texts of the replies to requests
abbrev pub reply_texts : Host → List WireEvent → List (List ℕ)
reply_texts h events = map compact_text (replies_served h events)

-- texts, with a comma before each but the first
abbrev pub behind_commas : List (List ℕ) → List ℕ
behind_commas [] = []
behind_commas (text ∷ texts) = 0x2C ∷ (text ++ behind_commas texts)

abbrev pub between_commas : List (List ℕ) → List ℕ
between_commas [] = []
between_commas (text ∷ texts) = text ++ behind_commas texts

-- the end of a reply to many, with its tag
abbrev pub tag_end : Option AskedTag → List ℕ
tag_end None = 0x7D ∷ []
tag_end (Some tag) = 0x2C ∷ (compact_text (string (codes "tag")) ++ 0x3A ∷ (compact_text (tag_data tag) ++ 0x7D ∷ []))

-- {"replies":[ .. ]}
abbrev pub many_text : Option AskedTag → List (List ℕ) → List ℕ
many_text tag texts = 0x7B ∷ (compact_text (string (codes "replies")) ++ 0x3A ∷ 0x5B ∷ (between_commas texts ++ 0x5D ∷ tag_end tag))

-- What a line of reply is of the texts of the replies to the line's requests: the only one, byte for byte; or all, in order, in the brackets of `replies`.
-- A line that is no request has none of them.
abbrev pub IsMadeOf : Data → Result LineAsked AskedFault → (texts : List (List ℕ)) → (line : List ℕ) → Type 0
IsMadeOf d (Ok (One r)) texts line = texts ≡ line ∷ []
IsMadeOf d (Ok (Many items)) texts line = line ≡ many_text (tag_shown d) texts
IsMadeOf d (Err fault) texts line = texts ≡ []

abbrev pub IsReplyLine : Host → LineHeard → (line : List ℕ) → Type 0
IsReplyLine h (Asks value events) line = IsMadeOf value (line_asked value) (reply_texts h events) line
IsReplyLine h _ line = ⊤

-- ---- a slot's own

-- of texts, one for each event, those for the requests that ask the slot of a number
abbrev pub own_of_texts : ℕ → List WireEvent → List (List ℕ) → List (List ℕ)
own_of_texts id (e ∷ es) (text ∷ texts) = (if is_own id (request_asked e.value) then text ∷ [] else []) ++ own_of_texts id es texts
own_of_texts id _ _ = []

-- These lines of reply are made of the texts of the replies to requests, of which those to the slot's own requests are these, in order.
abbrev pub StandInLines : ℕ → Host → List LineHeard → (lines own : List (List ℕ)) → Type 0
StandInLines id h [] [] own = own ≡ []
StandInLines id h (x ∷ xs) (line ∷ lines) own =
    IsReplyLine h x line × ((rest : List (List ℕ)) × (own ≡ own_of_texts id (events_of x) (reply_texts h (events_of x)) ++ rest)
    × StandInLines id (host_after_line h x) xs lines rest)
StandInLines id h _ _ own = ⊥

-- In what follows the lines were served as the law `transcripts` says. The reply to a request that is a line is the line of reply whole; that to one of many is
-- its part of the line. Nothing is said of the rest of a line of many, which are the replies to others and its own tag.

-- In the lines that are written the replies to a slot's own requests are those of the session by itself, whatever other lines stand between.
abbrev pub LinesOfSession : {F : Type 0} → (F → FolderAccess → F → Type 0) → Type 0
LinesOfSession {F} does =
    (id : ℕ) (h left : Host) (from to : F) (asked texts : List (List ℕ)) (a : IsFold does asked h left from to texts) → id < h.openings →
    StandInLines id h a.heard texts (map compact_text (session_replies h.system (own_requests id (events_in a.heard)) (slot_at id h.slots)))

-- Two lists of lines, served by two hosts, have the same replies to a slot's own requests, byte for byte, in the lines that are written: where they agree on
-- these requests, its number left out, on what the folder answered to them, on the slot before and on the system drive, whatever other lines stand between.
-- How own requests stand in lines is left open: one that is a line in the first list may be one of many in the second.
abbrev pub LinesIsolation : {F : Type 0} → (F → FolderAccess → F → Type 0) → Type 0
LinesIsolation {F} does =
    (i j : ℕ) (h g left right : Host) (from to start end : F) (asked others texts replies : List (List ℕ))
    (a : IsFold does asked h left from to texts) (b : IsFold does others g right start end replies) → i < h.openings → j < g.openings → h.system ≡ g.system →
    slot_at i h.slots ≡ slot_at j g.slots → own_requests i (events_in a.heard) ≡ own_requests j (events_in b.heard) →
    let own = own_texts i h (events_in a.heard) in StandInLines i h a.heard texts own × StandInLines j g b.heard replies own
