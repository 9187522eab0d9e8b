-- What is kept of what a line asks can be read again.
use Rattle.std.proofs.Common.{◌≡◌, ◌≤◌, ℕ, suc, Bool, true, false, if◌then◌else◌, List, [], ◌∷◌, ◌++◌, length, map, Option, Some, None, is_some, option_map, refl, sym, subst, arith, Ordering, Less, Equal, Greater}
use Rattle.std.specs.Prelude.{⊤, IfOk, IfSome, Result, Ok, Err, codes}
use Rattle.std.specs.List.{AllByRecursion}
use Rattle.std.specs.Ordering.{match_ordering, nat_cmp}
use Rattle.std.specs.Cmp.Lexicographic.{slice_cmp}
use Rattle.serde_json.specs.Data.{Data, null, boolean, number, string, array, object, depth, items_depth, members_depth, Items, no_items, item, Members, no_members, member}
use Rattle.serde_json.specs.Events.{items_len}
use Rattle.serde_json.specs.Find.{get, get_member}
use Rattle.serde_json.specs.Read.{max_depth}
use Rattle.serde_json.proofs.Nesting.{depth-read}
use Rattle.cpm_machine.specs.MachineState.{MachineState}
use Rattle.cpm_slots.specs.Host.{Host, saving_of, slot_at}
use Rattle.cpm_journal.specs.Entries.{IsKeepable, close_json}
use Rattle.cpm_protocol.specs.Fields.{request_field_name}
use Rattle.cpm_protocol.specs.Replies.{Answered, Opened, Accepted, Granted, Text, Looked, Written, Turned, Refused, Wrong, NoJson, TooLong}
use Rattle.cpm_protocol.specs.Requests.{AskedFault, AskedTag, LineAsked, One, Many, WireAsked, Open, Resume, Key, Grant, Take, ListTake, Look, Peek, Fork, Save, Close, Turn, Put, Get, Files, field_at, is_request_count, must_read, kind_at, known_or, line_asked, many_after_tag, many_in, many_of, names_many, one_of_asked, or_wrong_field, read_by, request_asked, asked_tag, unknown_name}
use Rattle.cpm_protocol.specs.declared.fault.FieldFault.{FieldFault}
use Rattle.cpm_protocol.specs.declared.field.RequestField.TheVariants as field
use Rattle.cpm_serve.specs.Changes.{change_done, kept_change, has_file_name, is_refusal, opened_change}
use Rattle.cpm_serve.specs.Folder.{AsAsked, AsSaved, HostChange}
use Rattle.cpm_serve.specs.KeptFolder.{AreChangesTrue, change_list, changes_of, change_entry}
use Rattle.cpm_serve.specs.Lines.{Asks, Broken, IsLineHeard, LineHeard, Long, Unread, WireEvent, event_change, event_served, events_of, request_change, values_asked, values_of}
use Rattle.cpm_serve.specs.Served.{Served}
use Rattle.cpm_serve.specs.ServedWith.{served_with_if}

-- ---- a request has its name

always : {A E : Type 0} (r : Result A E) (P : Type 0) → P → IfOk r (λ x. P)
always (Ok x) P p = p
always (Err e) P p = tt

never : {A E : Type 0} (r : Result A E) (P : A → Type 0) → IfOk r (λ x. ⊥) → IfOk r P
never (Ok x) P p = absurd p
never (Err e) P p = tt

unnamed : (d : Data) → field_at field.Do d ≡ None → IfOk (request_asked d) (λ r. ⊥)
unfolding request_asked kind_at
unnamed d e = rw e tt

named-of : (d : Data) (o : Option Data) → field_at field.Do d ≡ o → IfOk (request_asked d) (λ r. is_some o ≡ true)
named-of d None e = never (request_asked d) (λ r. false ≡ true) (unnamed d e)
named-of d (Some v) e = always (request_asked d) (true ≡ true) refl

asked-named : (d : Data) → IfOk (request_asked d) (λ r. is_some (get (codes "do") d) ≡ true)
asked-named d = named-of d (field_at field.Do d) refl

-- ---- what stands in a value is no deeper

by-order : (o : Ordering) (a b c : Option Data) (n : ℕ) → IfSome a (λ v. depth v ≤ n) → IfSome b (λ v. depth v ≤ n) → IfSome c (λ v. depth v ≤ n) → IfSome (match_ordering o a b c) (λ v. depth v ≤ n)
by-order Less a b c n p q r = p
by-order Equal a b c n p q r = q
by-order Greater a b c n p q r = r

within : (o : Option Data) (m n : ℕ) → m ≤ n → IfSome o (λ v. depth v ≤ m) → IfSome o (λ v. depth v ≤ n)
within None m n h p = tt
within (Some v) m n h p = omega arith

member-within : (k : List ℕ) (ms : Members) → IfSome (get_member k ms) (λ v. depth v ≤ members_depth ms)
member-within k no_members = tt
member-within k (member l e ms) =
    let rest = within (get_member k ms) (members_depth ms) (members_depth (member l e ms)) (omega arith) (member-within k ms) in
    by-order (slice_cmp nat_cmp k l) (get_member k ms) (Some e) (get_member k ms) (members_depth (member l e ms)) rest (omega arith) rest

get-within : (k : List ℕ) (d : Data) → IfSome (get k d) (λ v. depth v ≤ depth d)
get-within k null = tt
get-within k (boolean b) = tt
get-within k (number n) = tt
get-within k (string s) = tt
get-within k (array ds) = tt
get-within k (object ms) = within (get_member k ms) (members_depth ms) (suc (members_depth ms)) (omega arith) (member-within k ms)

-- the requests of many
abbrev IsWithin : ℕ → LineAsked → Type 0
IsWithin n (One r) = ⊤
IsWithin n (Many items) = items_depth items ≤ n

passed-within : (n : ℕ) (b : Bool) (items : Items) → items_depth items ≤ n →
    IfOk (or_wrong_field field.Requests (option_map Many (if b then Some items else None))) (IsWithin n)
passed-within n true items h = h
passed-within n false items h = tt

value-within : (v : Data) → IfOk (or_wrong_field field.Requests (many_in v)) (IsWithin (depth v))
value-within null = tt
value-within (boolean b) = tt
value-within (number n) = tt
value-within (string s) = tt
value-within (array ds) = passed-within (depth (array ds)) (is_request_count (items_len ds)) ds (omega arith)
value-within (object ms) = tt

looser : (r : Result LineAsked FieldFault) (m n : ℕ) → m ≤ n → IfOk r (IsWithin m) → IfOk r (IsWithin n)
looser (Ok (One r)) m n h k = tt
looser (Ok (Many items)) m n h k = omega arith
looser (Err e) m n h k = tt

read-within : (n : ℕ) (o : Option Data) → IfSome o (λ v. depth v ≤ n) → IfOk (read_by many_in field.Requests o) (IsWithin n)
read-within n None h = tt
read-within n (Some v) h = looser (or_wrong_field field.Requests (many_in v)) (depth v) n h (value-within v)

behind-tag : (d : Data) (tag : Result (Option AskedTag) FieldFault) → IfOk (must_read many_in field.Requests d) (IsWithin (depth d)) → IfOk (many_after_tag d tag) (IsWithin (depth d))
behind-tag d (Ok t) h = h
behind-tag d (Err e) h = tt

known-within : (n : ℕ) (o : Option (List ℕ)) (r : Result LineAsked FieldFault) → IfOk r (IsWithin n) → IfOk (known_or o r) (IsWithin n)
known-within n (Some name) r h = tt
known-within n None (Ok x) h = h
known-within n None (Err e) h = tt

many-within : (d : Data) → IfOk (many_of d) (IsWithin (depth d))
many-within d =
    known-within (depth d) (unknown_name (field.Requests ∷ []) d) (many_after_tag d (asked_tag d))
    (behind-tag d (asked_tag d) (read-within (depth d) (field_at field.Requests d) (get-within (request_field_name field.Requests) d)))

one-within : (n : ℕ) (r : Result WireAsked AskedFault) → IfOk (one_of_asked r) (IsWithin n)
one-within n (Ok asked) = tt
one-within n (Err fault) = tt

either-within : (n : ℕ) (b : Bool) (x y : Result LineAsked AskedFault) → IfOk x (IsWithin n) → IfOk y (IsWithin n) → IfOk (if b then x else y) (IsWithin n)
either-within n true x y p q = p
either-within n false x y p q = q

line-within : (d : Data) → IfOk (line_asked d) (IsWithin (depth d))
unfolding line_asked
line-within d = either-within (depth d) (names_many (field_at field.Do d)) (many_of d) (one_of_asked (request_asked d)) (many-within d) (one-within (depth d) (request_asked d))

-- ---- what a line asks is no deeper than is read

abbrev pub AreShallow : List WireEvent → Type 0
AreShallow = AllByRecursion (λ e. depth e.value ≤ max_depth)

items-shallow : (ds : Items) (n : ℕ) → items_depth ds ≤ n → AllByRecursion (λ d. depth d ≤ n) (values_of ds)
items-shallow no_items n h = tt
items-shallow (item d ds) n h = (omega arith, items-shallow ds n (omega arith))

values-shallow : (d : Data) (r : Result LineAsked AskedFault) → depth d ≤ max_depth → IfOk r (IsWithin (depth d)) → AllByRecursion (λ v. depth v ≤ max_depth) (values_asked d r)
values-shallow d (Ok (One r)) h w = (h, tt)
values-shallow d (Ok (Many items)) h w = items-shallow items max_depth (omega arith)
values-shallow d (Err fault) h w = tt

of-values : (es : List WireEvent) → AllByRecursion (λ v. depth v ≤ max_depth) (map (λ e. e.value) es) → AreShallow es
of-values [] h = tt
of-values (e ∷ es) h = (h.0, of-values es h.1)

pub line-shallow : (line : List ℕ) (x : LineHeard) → IsLineHeard line x → AreShallow (events_of x)
line-shallow line Long w = tt
line-shallow line (Broken column) w = tt
line-shallow line Unread w = tt
line-shallow line (Asks value events) w =
    of-values events (subst (AllByRecursion (λ v. depth v ≤ max_depth)) (sym w.3) (values-shallow value (line_asked value) (depth-read line value w.2) (line-within value)))

-- ---- what is kept can be kept

-- where these changes are true, their entries can be kept
abbrev AreKeepable : List HostChange → Type 0
AreKeepable changes = AreChangesTrue changes → AllByRecursion IsKeepable (map change_entry changes)

close-keepable : (slot : ℕ) → (is_some (get (codes "do") (close_json slot)) ≡ true) × (depth (close_json slot) ≤ max_depth)
close-keepable slot = (refl, omega arith)

saved-keepable : (h : Host) (o : Option MachineState) → AreKeepable (change_list (option_map (λ s. AsSaved (saving_of h s)) o))
saved-keepable h None t = tt
saved-keepable h (Some s) t = (t.0.0, tt)

opened-keepable : (h : Host) (a : Answered) → AreKeepable (change_list (opened_change h a))
opened-keepable h (Opened id) t = saved-keepable h (slot_at id h.slots) t
opened-keepable h (Accepted n) t = tt
opened-keepable h (Granted n why) t = tt
opened-keepable h (Text bytes) t = tt
opened-keepable h (Looked look) t = tt
opened-keepable h (Written n) t = tt
opened-keepable h (Turned turn) t = tt
opened-keepable h (Refused why) t = tt
opened-keepable h (Wrong fault) t = tt
opened-keepable h (NoJson at) t = tt
opened-keepable h TooLong t = tt

-- a request that can be kept
abbrev IsSound : Data → Type 0
IsSound d = (is_some (get (codes "do") d) ≡ true) × (depth d ≤ max_depth)

either-keepable : (b : Bool) (x y : Option HostChange) → AreKeepable (change_list x) → AreKeepable (change_list y) → AreKeepable (change_list (if b then x else y))
either-keepable true x y p q = p
either-keepable false x y p q = q

done-keepable : (d : Data) (r : WireAsked) (h : Host) (a : Answered) → IsSound d → AreKeepable (change_list (change_done d r h a))
done-keepable d (Open cpu quota drives) h a k = either-keepable (has_file_name drives) (opened_change h a) (Some (AsAsked d)) (opened-keepable h a) (λ t. (k, tt))
done-keepable d (Resume from) h a k = opened-keepable h a
done-keepable d (Close slot out) h a k = λ t. (close-keepable slot, tt)
done-keepable d (Key slot keys) h a k = λ t. (k, tt)
done-keepable d (Grant slot steps goal) h a k = λ t. (k, tt)
done-keepable d (Take slot most) h a k = λ t. (k, tt)
done-keepable d (ListTake slot most) h a k = λ t. (k, tt)
done-keepable d (Turn slot keys steps) h a k = λ t. (k, tt)
done-keepable d (Fork slot) h a k = λ t. (k, tt)
done-keepable d (Look slot) h a k = λ t. tt
done-keepable d (Peek slot address length) h a k = λ t. tt
done-keepable d (Save slot file) h a k = λ t. tt
done-keepable d (Put drive name text) h a k = λ t. tt
done-keepable d (Get drive name) h a k = λ t. tt
done-keepable d (Files drive) h a k = λ t. tt

change-keepable : (d : Data) (r : WireAsked) (x : Served) → IsSound d → AreKeepable (change_list (kept_change d r x))
change-keepable d r x k = either-keepable (is_refusal x.reply) None (change_done d r x.host x.reply) (λ t. tt) (done-keepable d r x.host x.reply k)

request-keepable : (e : WireEvent) (h : Host) (r : Result WireAsked AskedFault) → IfOk r (λ q. is_some (get (codes "do") e.value) ≡ true) → depth e.value ≤ max_depth →
    AreKeepable (change_list (request_change e h r))
request-keepable e h (Ok r) named low = change-keepable e.value r (served_with_if e.lacked h e.answers e.made r) (named, low)
request-keepable e h (Err fault) named low = λ t. tt

more-keepable : (o : Option HostChange) (rest : List HostChange) → AreKeepable (change_list o) → AreKeepable rest → AreKeepable (change_list o ++ rest)
more-keepable None rest p q t = q t
more-keepable (Some change) rest p q t = ((p (t.0, tt)).0, q t.1)

pub all-keepable : (h : Host) (es : List WireEvent) → AreShallow es → AreChangesTrue (changes_of h es) → AllByRecursion IsKeepable (map change_entry (changes_of h es))
all-keepable h [] s t = tt
all-keepable h (e ∷ es) s t =
    more-keepable (event_change h e) (changes_of (event_served h e).host es) (request-keepable e h (request_asked e.value) (asked-named e.value) s.0)
    (all-keepable (event_served h e).host es s.1) t
