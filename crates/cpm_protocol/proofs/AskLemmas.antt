-- What is asked by what a client writes.
use Rattle.std.proofs.Common.{◌≡◌, ℕ, List, Option, Some, None, Ok, refl}
use Rattle.cpm_flags.specs.declared.regs.Cpu.TheVariants.{I8080, Z80}
use Rattle.cpm_protocol.specs.Asking.{AreNames, IsAskable, IsTagFit, RequestsBack, names_data, request_json}
use Rattle.cpm_protocol.specs.Replies.{tag_data}
use Rattle.cpm_protocol.specs.Requests.{WireAsked, Open, Resume, Key, Grant, Take, ListTake, Look, Peek, Fork, Save, Close, Turn, Put, Get, Files}
use Rattle.cpm_protocol.specs.Requests.{AskedTag, FourNames, NumberTag, TextTag, asked_tag, close_asked, files_asked, fork_asked, four_names}
use Rattle.cpm_protocol.specs.Requests.{four_names_at, get_asked, grant_asked, key_asked, kind_at, list_asked, look_asked, open_asked, peek_asked, put_asked}
use Rattle.cpm_protocol.specs.Requests.{request_asked, resume_asked, save_asked, tag_in, take_asked, turn_asked}
use Rattle.cpm_protocol.specs.declared.field.RequestField.{RequestField}
use Rattle.cpm_protocol.specs.declared.field.RequestField.TheVariants as field
use Rattle.cpm_protocol.specs.declared.request.GrantGoal.TheVariants as goal
use Rattle.cpm_protocol.proofs.ByteLemmas.{byte-text, bytes-back}

-- a tag comes back
tag-back : (t : AskedTag) → IsTagFit (Some t) → tag_in (tag_data t) ≡ Some t
tag-back (NumberTag n) fit = refl
tag-back (TextTag t) fit = rw fit refl

-- so do names that have no gap
names-back : (f : RequestField) (a b c d : Option (List ℕ)) → let n : FourNames = record { a = a; b = b; c = c; d = d } in AreNames n → four_names f (names_data n) ≡ Ok n
unfolding four_names
names-back f None None None None all = refl
names-back f (Some a) None None None all = rw all.0 refl
names-back f (Some a) (Some b) None None all = rw (all.0, all.1) refl
names-back f (Some a) (Some b) (Some c) None all = rw (all.0, all.1, all.2) refl
names-back f (Some a) (Some b) (Some c) (Some d) all = rw (all.0, all.1, all.2, all.3) refl
names-back f None (Some b) c d all = absurd all.0
names-back f None None (Some c) d all = absurd all.1
names-back f None None None (Some d) all = absurd all.2
names-back f (Some a) None (Some c) d all = absurd all.1
names-back f (Some a) None None (Some d) all = absurd all.2
names-back f (Some a) (Some b) None (Some d) all = absurd all.2

four-back : (f : RequestField) (n : FourNames) → AreNames n → four_names f (names_data n) ≡ Ok n
four-back f n all = names-back f n.a n.b n.c n.d all

-- each request, without and with a tag
request-back : (tag : Option AskedTag) (r : WireAsked) → IsTagFit tag → IsAskable r → request_asked (request_json tag r) ≡ Ok r
unfolding request_asked kind_at four_names_at close_asked files_asked fork_asked get_asked grant_asked key_asked list_asked look_asked open_asked peek_asked put_asked resume_asked save_asked take_asked turn_asked
request-back None (Open I8080 quota drives) fit all = rw (all.0, four-back field.Drives drives all.1) refl
request-back (Some t) (Open I8080 quota drives) fit all = rw (tag-back t fit, all.0, four-back field.Drives drives all.1) refl
request-back None (Open Z80 quota drives) fit all = rw (all.0, four-back field.Drives drives all.1) refl
request-back (Some t) (Open Z80 quota drives) fit all = rw (tag-back t fit, all.0, four-back field.Drives drives all.1) refl
request-back None (Resume from) fit all = rw (all) refl
request-back (Some t) (Resume from) fit all = rw (tag-back t fit, all) refl
request-back None (Key slot keys) fit all = rw (all.0, byte-text keys all.1, bytes-back keys all.1) refl
request-back (Some t) (Key slot keys) fit all = rw (tag-back t fit, all.0, byte-text keys all.1, bytes-back keys all.1) refl
request-back None (Grant slot steps goal.Steps) fit all = rw (all.0, all.1) refl
request-back (Some t) (Grant slot steps goal.Steps) fit all = rw (tag-back t fit, all.0, all.1) refl
request-back None (Grant slot steps (goal.Address address)) fit all = rw (all.0, all.1, all.2) refl
request-back (Some t) (Grant slot steps (goal.Address address)) fit all = rw (tag-back t fit, all.0, all.1, all.2) refl
request-back None (Grant slot steps goal.Wait) fit all = rw (all.0, all.1) refl
request-back (Some t) (Grant slot steps goal.Wait) fit all = rw (tag-back t fit, all.0, all.1) refl
request-back None (Take slot most) fit all = rw (all.0, all.1) refl
request-back (Some t) (Take slot most) fit all = rw (tag-back t fit, all.0, all.1) refl
request-back None (ListTake slot most) fit all = rw (all.0, all.1) refl
request-back (Some t) (ListTake slot most) fit all = rw (tag-back t fit, all.0, all.1) refl
request-back None (Look slot) fit all = rw (all) refl
request-back (Some t) (Look slot) fit all = rw (tag-back t fit, all) refl
request-back None (Peek slot address length) fit all = rw (all.0, all.1, all.2) refl
request-back (Some t) (Peek slot address length) fit all = rw (tag-back t fit, all.0, all.1, all.2) refl
request-back None (Fork slot) fit all = rw (all) refl
request-back (Some t) (Fork slot) fit all = rw (tag-back t fit, all) refl
request-back None (Save slot file) fit all = rw (all.0, all.1) refl
request-back (Some t) (Save slot file) fit all = rw (tag-back t fit, all.0, all.1) refl
request-back None (Close slot out) fit all = rw (all.0, four-back field.Out out all.1) refl
request-back (Some t) (Close slot out) fit all = rw (tag-back t fit, all.0, four-back field.Out out all.1) refl
request-back None (Turn slot keys steps) fit all = rw (all.0, byte-text keys all.1, bytes-back keys all.1, all.2) refl
request-back (Some t) (Turn slot keys steps) fit all = rw (tag-back t fit, all.0, byte-text keys all.1, bytes-back keys all.1, all.2) refl
request-back None (Put drive name text) fit all = rw (all.0, all.1, byte-text text all.2, bytes-back text all.2) refl
request-back (Some t) (Put drive name text) fit all = rw (tag-back t fit, all.0, all.1, byte-text text all.2, bytes-back text all.2) refl
request-back None (Get drive name) fit all = rw (all.0, all.1) refl
request-back (Some t) (Get drive name) fit all = rw (tag-back t fit, all.0, all.1) refl
request-back None (Files drive) fit all = rw (all) refl
request-back (Some t) (Files drive) fit all = rw (tag-back t fit, all) refl

asked-tag-back : (tag : Option AskedTag) (r : WireAsked) → IsTagFit tag → asked_tag (request_json tag r) ≡ Ok tag
asked-tag-back None (Open I8080 quota drives) fit = refl
asked-tag-back (Some t) (Open I8080 quota drives) fit = rw (tag-back t fit) refl
asked-tag-back None (Open Z80 quota drives) fit = refl
asked-tag-back (Some t) (Open Z80 quota drives) fit = rw (tag-back t fit) refl
asked-tag-back None (Resume from) fit = refl
asked-tag-back (Some t) (Resume from) fit = rw (tag-back t fit) refl
asked-tag-back None (Key slot keys) fit = refl
asked-tag-back (Some t) (Key slot keys) fit = rw (tag-back t fit) refl
asked-tag-back None (Grant slot steps goal.Steps) fit = refl
asked-tag-back (Some t) (Grant slot steps goal.Steps) fit = rw (tag-back t fit) refl
asked-tag-back None (Grant slot steps (goal.Address address)) fit = refl
asked-tag-back (Some t) (Grant slot steps (goal.Address address)) fit = rw (tag-back t fit) refl
asked-tag-back None (Grant slot steps goal.Wait) fit = refl
asked-tag-back (Some t) (Grant slot steps goal.Wait) fit = rw (tag-back t fit) refl
asked-tag-back None (Take slot most) fit = refl
asked-tag-back (Some t) (Take slot most) fit = rw (tag-back t fit) refl
asked-tag-back None (ListTake slot most) fit = refl
asked-tag-back (Some t) (ListTake slot most) fit = rw (tag-back t fit) refl
asked-tag-back None (Look slot) fit = refl
asked-tag-back (Some t) (Look slot) fit = rw (tag-back t fit) refl
asked-tag-back None (Peek slot address length) fit = refl
asked-tag-back (Some t) (Peek slot address length) fit = rw (tag-back t fit) refl
asked-tag-back None (Fork slot) fit = refl
asked-tag-back (Some t) (Fork slot) fit = rw (tag-back t fit) refl
asked-tag-back None (Save slot file) fit = refl
asked-tag-back (Some t) (Save slot file) fit = rw (tag-back t fit) refl
asked-tag-back None (Close slot out) fit = refl
asked-tag-back (Some t) (Close slot out) fit = rw (tag-back t fit) refl
asked-tag-back None (Turn slot keys steps) fit = refl
asked-tag-back (Some t) (Turn slot keys steps) fit = rw (tag-back t fit) refl
asked-tag-back None (Put drive name text) fit = refl
asked-tag-back (Some t) (Put drive name text) fit = rw (tag-back t fit) refl
asked-tag-back None (Get drive name) fit = refl
asked-tag-back (Some t) (Get drive name) fit = rw (tag-back t fit) refl
asked-tag-back None (Files drive) fit = refl
asked-tag-back (Some t) (Files drive) fit = rw (tag-back t fit) refl

pub requests-back : RequestsBack
requests-back tag r fit all = (request-back tag r fit all, asked-tag-back tag r fit)
