-- A task that has what its entries give has the number of a user.
use Rattle.std.proofs.Common.{arith, drop, List, Option, Some, None, IsSomeAnd}
use Rattle.clap.specs.Words.{Row, Text, subcommand_of}
use Rattle.cpm_command_line.specs.DiskLine.{HasDiskEntriesOf, HasUser, disk_app}
use Rattle.cpm_command_line.specs.Line.{HasUsers, IsTaskOf}
use Rattle.cpm_command_line.specs.declared.task.DiskTask.{DiskTask}
use Rattle.cpm_command_line.specs.declared.task.DiskTask.TheVariants.{Get, List as Listing, New, Put, Remove, Rename}
use Rattle.cpm_command_line.specs.declared.task.Task.{Task}
use Rattle.cpm_command_line.specs.declared.task.Task.TheVariants.{Asm, Boot, Check, Com, Debug, Disk, Help, List as Listed, Run, Saved, Serve}

user_of : (given : Text × List Row) (task : DiskTask) → HasDiskEntriesOf given task → HasUser task
user_of given (New image is_large) has = tt
user_of given (Listing image None) has = tt
user_of given (Listing image (Some user)) has = omega (arith, has.2.1)
user_of given (Put image files user is_text is_read_only is_system) has = omega (arith, has.3.1)
user_of given (Get image names user is_text to is_forced is_dry) has = omega (arith, has.3.1)
user_of given (Remove image names user) has = omega (arith, has.3.1)
user_of given (Rename image change user) has = omega (arith, has.3.1)

user_within : (given : Option (Text × List Row)) (task : DiskTask) → IsSomeAnd given (λ g. HasDiskEntriesOf g task) → HasUser task
user_within None task has = absurd has
user_within (Some given) task has = user_of given task has

-- and so has any task that a line names
pub users_of : (words : List Text) (task : Task) → IsTaskOf words task → HasUsers task
users_of words (Disk task) has = user_within (subcommand_of disk_app (drop 1 words)) task has.1
users_of words (Com task) has = tt
users_of words (Boot task) has = tt
users_of words (Asm source out listing) has = tt
users_of words (Listed file cpu) has = tt
users_of words (Check image) has = tt
users_of words (Run task) has = tt
users_of words (Debug task) has = tt
users_of words (Serve task) has = tt
users_of words (Saved file) has = tt
users_of words (Help page) has = tt
