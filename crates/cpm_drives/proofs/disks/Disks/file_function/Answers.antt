use Rattle.std.proofs.Common.{◌∙◌, ℕ, List, ap}
use Rattle.cpm_drives.specs.Files.{rename_files}
use Rattle.cpm_drives.specs.Functions.{file_function}
use Rattle.cpm_drives.proofs.disks.Disks.file_function.Goals as goal

pub returns-in-OpenFile : goal.returns-in-OpenFile
unfolding file_function
returns-in-OpenFile c = rw c.in-OpenFile.is (c.open_file.ensures c.args.buffer.now)

pub returns-in-CloseFile : goal.returns-in-CloseFile
unfolding file_function
returns-in-CloseFile c = rw c.in-CloseFile.is (c.close_file.ensures c.args.buffer.now)

pub returns-in-SearchFirst : goal.returns-in-SearchFirst
unfolding file_function
returns-in-SearchFirst c = rw c.in-SearchFirst.is (c.search_first.ensures)

pub returns-in-SearchNext : goal.returns-in-SearchNext
unfolding file_function
returns-in-SearchNext c = rw c.in-SearchNext.is (c.search_next.ensures c.args.fcb.now)

pub returns-in-EraseFiles : goal.returns-in-EraseFiles
unfolding file_function
returns-in-EraseFiles c = rw c.in-EraseFiles.is (c.erase_files.ensures c.args.buffer.now)

pub returns-in-ReadNext : goal.returns-in-ReadNext
unfolding file_function
returns-in-ReadNext c = rw c.in-ReadNext.is (c.read_next.ensures)

pub returns-in-WriteNext : goal.returns-in-WriteNext
unfolding file_function
returns-in-WriteNext c = rw c.in-WriteNext.is (c.write_next.ensures)

pub returns-in-MakeFile : goal.returns-in-MakeFile
unfolding file_function
returns-in-MakeFile c = rw c.in-MakeFile.is (c.make_file.ensures c.args.buffer.now)

pub returns-in-RenameFiles : goal.returns-in-RenameFiles
unfolding file_function
returns-in-RenameFiles c = rw c.in-RenameFiles.is (c.rename_files.ensures c.args.buffer.now ∙ ap (λ (new : List ℕ). rename_files new c.args.self.now c.args.system.now c.args.fcb.now c.args.buffer.now) c.new_name.ensures)

pub returns-in-SetAttributes : goal.returns-in-SetAttributes
unfolding file_function
returns-in-SetAttributes c = rw c.in-SetAttributes.is (c.set_attributes.ensures c.args.buffer.now)

pub returns-in-ReadRandom : goal.returns-in-ReadRandom
unfolding file_function
returns-in-ReadRandom c = rw c.in-ReadRandom.is (c.read_random.ensures)

pub returns-in-WriteRandom : goal.returns-in-WriteRandom
unfolding file_function
returns-in-WriteRandom c = rw c.in-WriteRandom.is (c.write_random.ensures)

pub returns-in-ComputeSize : goal.returns-in-ComputeSize
unfolding file_function
returns-in-ComputeSize c = rw c.in-ComputeSize.is (c.compute_size.ensures c.args.buffer.now)

pub returns-in-SetRandomRecord : goal.returns-in-SetRandomRecord
unfolding file_function
returns-in-SetRandomRecord c = rw c.in-SetRandomRecord.is (c.set_random_record.ensures c.args.buffer.now)

pub returns-in-WriteRandomCleared : goal.returns-in-WriteRandomCleared
unfolding file_function
returns-in-WriteRandomCleared c = rw c.in-WriteRandomCleared.is (c.write_random_cleared.ensures)
