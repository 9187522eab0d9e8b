-- The lines that are written, and the replies in them.
use Rattle.std.proofs.Common.{◌≡◌, ◌∙◌, ℕ, List, [], ◌∷◌, ◌++◌, Bool, true, false, if◌then◌else◌, map, Option, Some, None, refl, sym, ap, subst, append_assoc}
use Rattle.std.specs.Prelude.{Result, Ok, Err, codes}
use Rattle.serde_json.specs.Data.{Data, string}
use Rattle.serde_json.specs.View.{items_of}
use Rattle.serde_json.specs.Written.{compact_text, items_text}
use Rattle.cpm_slots.specs.Host.{Host}
use Rattle.cpm_protocol.specs.Replies.{many_json}
use Rattle.cpm_protocol.specs.Requests.{AskedFault, AskedTag, LineAsked, One, Many, line_asked, request_asked}
use Rattle.cpm_serve.specs.Folder.{FolderAccess}
use Rattle.cpm_serve.specs.Laws.{events_in, own_texts}
use Rattle.cpm_serve.specs.Lines.{AreLinesHeard, Asks, Broken, IsLineHeard, LineHeard, Long, Unread, WireEvent, event_reply, event_served, events_of, heard_reply, host_after_line, host_served, line_reply, replies_served, replies_to_lines, tag_shown, values_asked}
use Rattle.cpm_serve.specs.Own.{is_own, own_replies}
use Rattle.cpm_serve.specs.ReplyLines.{IsMadeOf, IsReplyLine, LinesIsolation, LinesOfSession, StandInLines, behind_commas, between_commas, many_text, own_of_texts, reply_texts, tag_end}
use Rattle.cpm_serve.proofs.WireLaws.{two-transcripts, wire-isolation}

-- ---- a line of reply

behind-items : (ds : List Data) → items_text true (items_of ds) ≡ behind_commas (map compact_text ds) ++ 0x5D ∷ []
behind-items [] = refl
behind-items (d ∷ ds) =
    ap (λ bs. 0x2C ∷ (compact_text d ++ bs)) (behind-items ds) ∙ sym (append_assoc (0x2C ∷ compact_text d) (behind_commas (map compact_text ds)) (0x5D ∷ []))

between-items : (ds : List Data) → items_text false (items_of ds) ≡ between_commas (map compact_text ds) ++ 0x5D ∷ []
between-items [] = refl
between-items (d ∷ ds) =
    ap (λ bs. compact_text d ++ bs) (behind-items ds) ∙ sym (append_assoc (compact_text d) (behind_commas (map compact_text ds)) (0x5D ∷ []))

many-with : (ds : List Data) (end : List ℕ) →
    0x7B ∷ (compact_text (string (codes "replies")) ++ 0x3A ∷ ((0x5B ∷ items_text false (items_of ds)) ++ end))
    ≡ 0x7B ∷ (compact_text (string (codes "replies")) ++ 0x3A ∷ 0x5B ∷ (between_commas (map compact_text ds) ++ 0x5D ∷ end))
many-with ds end =
    ap (λ (bs : List ℕ). 0x7B ∷ (compact_text (string (codes "replies")) ++ 0x3A ∷ 0x5B ∷ bs))
    (ap (λ (bs : List ℕ). bs ++ end) (between-items ds) ∙ append_assoc (between_commas (map compact_text ds)) (0x5D ∷ []) end)

many-is : (tag : Option AskedTag) (ds : List Data) → compact_text (many_json tag (items_of ds)) ≡ many_text tag (map compact_text ds)
many-is None ds = many-with ds (tag_end None)
many-is (Some tag) ds = many-with ds (tag_end (Some tag))

made-of : (h : Host) (d : Data) (events : List WireEvent) (asked : Result LineAsked AskedFault) → map (λ e. e.value) events ≡ values_asked d asked →
    IsMadeOf d asked (reply_texts h events) (compact_text (line_reply d asked (replies_served h events)))
made-of h d [] (Ok (One r)) is = absurd cc
made-of h d (e ∷ []) (Ok (One r)) is = refl
made-of h d (e ∷ f ∷ es) (Ok (One r)) is = absurd cc
made-of h d events (Ok (Many items)) is = many-is (tag_shown d) (replies_served h events)
made-of h d [] (Err fault) is = refl
made-of h d (e ∷ es) (Err fault) is = absurd cc

reply-line : (h : Host) (line : List ℕ) (x : LineHeard) → IsLineHeard line x → IsReplyLine h x (compact_text (heard_reply h x))
reply-line h line Long is = tt
reply-line h line (Broken column) is = tt
reply-line h line Unread is = tt
reply-line h line (Asks value events) is = made-of h value events (line_asked value) is.3

-- ---- a slot's own

own-first : (own : Bool) (d : Data) (ds : List Data) → (if own then compact_text d ∷ [] else []) ++ map compact_text ds ≡ map compact_text ((if own then d ∷ [] else []) ++ ds)
own-first true d ds = refl
own-first false d ds = refl

own-of : (id : ℕ) (h : Host) (events : List WireEvent) → own_of_texts id events (reply_texts h events) ≡ own_texts id h events
own-of id h [] = refl
own-of id h (e ∷ es) =
    let own = is_own id (request_asked e.value) in
    let g = (event_served h e).host in
    ap (λ ts. (if own then compact_text (event_reply h e) ∷ [] else []) ++ ts) (own-of id g es) ∙ own-first own (event_reply h e) (own_replies id g es)

own-append : (id : ℕ) (h : Host) (xs ys : List WireEvent) → own_texts id h (xs ++ ys) ≡ own_texts id h xs ++ own_texts id (host_served h xs) ys
own-append id h [] ys = refl
own-append id h (e ∷ es) ys =
    let own = is_own id (request_asked e.value) in
    let g = (event_served h e).host in
    let first = if own then compact_text (event_reply h e) ∷ [] else [] in
    sym (own-first own (event_reply h e) (own_replies id g (es ++ ys)))
    ∙ (ap (λ ts. first ++ ts) (own-append id g es ys)
    ∙ (sym (append_assoc first (own_texts id g es) (own_texts id (host_served g es) ys))
    ∙ ap (λ ts. ts ++ own_texts id (host_served g es) ys) (own-first own (event_reply h e) (own_replies id g es))))

stand-in : (id : ℕ) (h : Host) (lines : List (List ℕ)) (xs : List LineHeard) → AreLinesHeard lines xs → StandInLines id h xs (replies_to_lines h xs) (own_texts id h (events_in xs))
stand-in id h [] [] are = refl
stand-in id h (line ∷ lines) [] are = absurd are
stand-in id h [] (x ∷ xs) are = absurd are
stand-in id h (line ∷ lines) (x ∷ xs) are =
    let g = host_after_line h x in
    let rest = own_texts id g (events_in xs) in (
      reply-line h line x are.0,
      (rest, own-append id h (events_of x) (events_in xs) ∙ ap (λ ts. ts ++ rest) (sym (own-of id h (events_of x))), stand-in id g lines xs are.1),
    )

-- ---- isolation

pub lines-of-session : {F : Type 0} (does : F → FolderAccess → F → Type 0) → LinesOfSession does
lines-of-session does id h left from to asked texts a below =
    subst (λ own. StandInLines id h a.heard texts own) (ap (map compact_text) (wire-isolation h (events_in a.heard) id below).0)
    (subst (λ ts. StandInLines id h a.heard ts (own_texts id h (events_in a.heard))) (sym a.replies) (stand-in id h asked a.heard a.are))

pub lines-isolation : {F : Type 0} (does : F → FolderAccess → F → Type 0) → LinesIsolation does
lines-isolation does i j h g left right from to start end asked others texts replies a b below under system slot asks =
    let own = own_texts i h (events_in a.heard) in
    let same : own ≡ own_texts j g (events_in b.heard) = two-transcripts h g i j a.heard b.heard below under system slot asks in (
      subst (λ ts. StandInLines i h a.heard ts own) (sym a.replies) (stand-in i h asked a.heard a.are),
      subst (λ ts. StandInLines j g b.heard ts own) (sym b.replies)
          (subst (λ os. StandInLines j g b.heard (replies_to_lines g b.heard) os) (sym same) (stand-in j g others b.heard b.are)),
    )
