-- What the command processor says.
use Rattle.std.specs.Prelude.{ℕ, List, codes}
use Rattle.cpm_ccp.specs.declared.message.Message.{Message}
use Rattle.cpm_ccp.specs.declared.message.Message.TheVariants.{NoFile, FileExists, NoSpace, EraseAll, BadLoad, RenameForm, SaveForm, TypeForm, UserForm}

-- CP/M 2.2 Operating System Manual, section 1.4, Built-in Commands;
-- own: what refuses a line is the command's name and ?, and the words of the question before all files are erased
abbrev pub message_text : Message → List ℕ
message_text NoFile = codes "NO FILE"
message_text FileExists = codes "FILE EXISTS"
message_text NoSpace = codes "NO SPACE"
message_text EraseAll = codes "ALL (Y/N)?"
message_text BadLoad = codes "BAD LOAD"
message_text RenameForm = codes "REN?"
message_text SaveForm = codes "SAVE?"
message_text TypeForm = codes "TYPE?"
message_text UserForm = codes "USER?"
