-- What is read of a reply's value.
use Rattle.std.proofs.Common.{◌≡◌, Option, Some, None, refl}
use Rattle.cpm_protocol.specs.Fields.{request_field_name}
use Rattle.cpm_protocol.specs.Words.{all_endings, all_refusals, all_request_fields, all_stops, ending_word, refusal_word, stop_word, with_word}
use Rattle.cpm_protocol.specs.Requests.{AskedTag, FaultOf, UnknownName}
use Rattle.cpm_protocol.specs.Replies.{Answered, Opened, Accepted, Granted, Text, Looked, Written, Turned, Refused, Wrong, NoJson, TooLong}
use Rattle.cpm_protocol.specs.Replies.{AreBytesIn, answered_of, reply_json}
use Rattle.cpm_protocol.specs.declared.fault.FieldFault.TheVariants as fault
use Rattle.cpm_protocol.specs.declared.field.RequestField.{RequestField}
use Rattle.cpm_protocol.specs.declared.field.RequestField.TheVariants as field
use Rattle.cpm_protocol.specs.declared.word.GrantStop.{GrantStop}
use Rattle.cpm_protocol.specs.declared.word.GrantStop.TheVariants as stop
use Rattle.cpm_protocol.specs.declared.word.WireEnd.{WireEnd}
use Rattle.cpm_protocol.specs.declared.word.WireEnd.TheVariants as ending
use Rattle.cpm_protocol.specs.declared.word.WireRefusal.{WireRefusal}
use Rattle.cpm_protocol.specs.declared.word.WireRefusal.TheVariants as refusal
use Rattle.cpm_protocol.proofs.ByteLemmas.{bytes-back}

pub stop-back : (x : GrantStop) → with_word stop_word (stop_word x) all_stops ≡ Some x
stop-back stop.All = refl
stop-back stop.Stopped = refl
stop-back stop.Break = refl
stop-back stop.Blocked = refl
stop-back stop.Waiting = refl

pub ending-back : (x : WireEnd) → with_word ending_word (ending_word x) all_endings ≡ Some x
ending-back ending.Running = refl
ending-back ending.Halted = refl
ending-back ending.Illegal = refl
ending-back ending.Quota = refl
ending-back ending.CountEnd = refl
ending-back ending.Exited = refl

pub refusal-back : (x : WireRefusal) → with_word refusal_word (refusal_word x) all_refusals ≡ Some x
refusal-back refusal.NoSuchSlot = refl
refusal-back refusal.NoSlot = refl
refusal-back refusal.NoFrames = refl
refusal-back refusal.BadQuota = refl
refusal-back refusal.BadDrives = refl
refusal-back refusal.Damaged = refl
refusal-back refusal.OtherSystem = refl
refusal-back refusal.OutOfMemory = refl
refusal-back refusal.ReadOnly = refl
refusal-back refusal.DirectoryFull = refl
refusal-back refusal.DiskFull = refl
refusal-back refusal.NoFile = refl
refusal-back refusal.Exists = refl
refusal-back refusal.BadName = refl
refusal-back refusal.AbsentFile = refl
refusal-back refusal.BusyFile = refl
refusal-back refusal.DamagedDisk = refl
refusal-back refusal.FileFault = refl

pub field-back : (x : RequestField) → with_word request_field_name (request_field_name x) all_request_fields ≡ Some x
field-back field.Do = refl
field-back field.Tag = refl
field-back field.Slot = refl
field-back field.Cpu = refl
field-back field.Quota = refl
field-back field.Drives = refl
field-back field.From = refl
field-back field.Keys = refl
field-back field.Steps = refl
field-back field.Until = refl
field-back field.To = refl
field-back field.Most = refl
field-back field.Address = refl
field-back field.Length = refl
field-back field.File = refl
field-back field.Out = refl
field-back field.Drive = refl
field-back field.Name = refl
field-back field.Text = refl
field-back field.Requests = refl

-- a reply is read of its value, whatever its tag
pub reply-back : (tag : Option AskedTag) (a : Answered) → AreBytesIn a → answered_of (reply_json tag a) ≡ Some a
reply-back None (Opened slot) all = refl
reply-back (Some t) (Opened slot) all = refl
reply-back None (Accepted accepted) all = refl
reply-back (Some t) (Accepted accepted) all = refl
reply-back None (Granted executed why) all = rw (stop-back why) refl
reply-back (Some t) (Granted executed why) all = rw (stop-back why) refl
reply-back None (Text bytes) all = rw (bytes-back bytes all) refl
reply-back (Some t) (Text bytes) all = rw (bytes-back bytes all) refl
reply-back None (Looked look) all = rw (ending-back look.end) refl
reply-back (Some t) (Looked look) all = rw (ending-back look.end) refl
reply-back None (Written bytes) all = refl
reply-back (Some t) (Written bytes) all = refl
reply-back None (Turned turn) all = rw (stop-back turn.why, bytes-back turn.text all.0, bytes-back turn.list all.1, ending-back turn.end) refl
reply-back (Some t) (Turned turn) all = rw (stop-back turn.why, bytes-back turn.text all.0, bytes-back turn.list all.1, ending-back turn.end) refl
reply-back None (Refused r) all = rw (refusal-back r) refl
reply-back (Some t) (Refused r) all = rw (refusal-back r) refl
reply-back None (Wrong (FaultOf (fault.Missing f))) all = rw (field-back f) refl
reply-back (Some t) (Wrong (FaultOf (fault.Missing f))) all = rw (field-back f) refl
reply-back None (Wrong (FaultOf (fault.Wrong f))) all = rw (field-back f) refl
reply-back (Some t) (Wrong (FaultOf (fault.Wrong f))) all = rw (field-back f) refl
reply-back None (Wrong (UnknownName name)) all = refl
reply-back (Some t) (Wrong (UnknownName name)) all = refl
reply-back None (NoJson at) all = refl
reply-back (Some t) (NoJson at) all = refl
reply-back None TooLong all = refl
reply-back (Some t) TooLong all = refl
