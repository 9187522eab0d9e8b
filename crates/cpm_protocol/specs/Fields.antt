-- The names of a request's fields and of the requests, and which request has which fields. All of it is own: docs/PROTOCOL.md.
use Rattle.std.specs.Prelude.{ℕ, List, [], ◌∷◌, codes, if◌then◌else◌, Option, Some, None}
use Rattle.std.specs.Str.{bytes_eq}
use Rattle.cpm_protocol.specs.declared.field.RequestField.{RequestField}
use Rattle.cpm_protocol.specs.declared.field.RequestField.TheVariants as field
use Rattle.cpm_protocol.specs.declared.kind.RequestKind.{RequestKind}
use Rattle.cpm_protocol.specs.declared.kind.RequestKind.TheVariants as kind

-- each field as it stands in a line
abbrev pub request_field_name : RequestField → List ℕ
request_field_name field.Do = codes "do"
request_field_name field.Tag = codes "tag"
request_field_name field.Slot = codes "slot"
request_field_name field.Cpu = codes "cpu"
request_field_name field.Quota = codes "quota"
request_field_name field.Drives = codes "drives"
request_field_name field.From = codes "from"
request_field_name field.Keys = codes "keys"
request_field_name field.Steps = codes "steps"
request_field_name field.Until = codes "until"
request_field_name field.To = codes "to"
request_field_name field.Most = codes "most"
request_field_name field.Address = codes "address"
request_field_name field.Length = codes "length"
request_field_name field.File = codes "file"
request_field_name field.Out = codes "out"
request_field_name field.Drive = codes "drive"
request_field_name field.Name = codes "name"
request_field_name field.Text = codes "text"
request_field_name field.Requests = codes "requests"

-- the request that `do` names; `open` opens a new session unless it says from which saving one goes on
abbrev pub kind_named : List ℕ → Option RequestKind
kind_named name =
    if bytes_eq name (codes "open") then Some kind.Open else
    if bytes_eq name (codes "key") then Some kind.Key else
    if bytes_eq name (codes "grant") then Some kind.Grant else
    if bytes_eq name (codes "take") then Some kind.Take else
    if bytes_eq name (codes "list") then Some kind.List else
    if bytes_eq name (codes "look") then Some kind.Look else
    if bytes_eq name (codes "peek") then Some kind.Peek else
    if bytes_eq name (codes "fork") then Some kind.Fork else
    if bytes_eq name (codes "save") then Some kind.Save else
    if bytes_eq name (codes "close") then Some kind.Close else
    if bytes_eq name (codes "turn") then Some kind.Turn else
    if bytes_eq name (codes "put") then Some kind.Put else
    if bytes_eq name (codes "get") then Some kind.Get else
    if bytes_eq name (codes "files") then Some kind.Files else None

-- the fields that a request may have beside `do` and `tag`
abbrev pub fields_of_kind : RequestKind → List RequestField
fields_of_kind kind.Open = field.Cpu ∷ field.Quota ∷ field.Drives ∷ []
fields_of_kind kind.Resume = field.From ∷ []
fields_of_kind kind.Key = field.Slot ∷ field.Keys ∷ []
fields_of_kind kind.Grant = field.Slot ∷ field.Steps ∷ field.Until ∷ field.To ∷ []
fields_of_kind kind.Take = field.Slot ∷ field.Most ∷ []
fields_of_kind kind.List = field.Slot ∷ field.Most ∷ []
fields_of_kind kind.Look = field.Slot ∷ []
fields_of_kind kind.Peek = field.Slot ∷ field.Address ∷ field.Length ∷ []
fields_of_kind kind.Fork = field.Slot ∷ []
fields_of_kind kind.Save = field.Slot ∷ field.File ∷ []
fields_of_kind kind.Close = field.Slot ∷ field.Out ∷ []
fields_of_kind kind.Turn = field.Slot ∷ field.Keys ∷ field.Steps ∷ []
fields_of_kind kind.Put = field.Drive ∷ field.Name ∷ field.Text ∷ []
fields_of_kind kind.Get = field.Drive ∷ field.Name ∷ []
fields_of_kind kind.Files = field.Drive ∷ []
