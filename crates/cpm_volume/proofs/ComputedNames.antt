-- Worked rows of the calls on all entries of a name, computed.
use Rattle.std.proofs.Common.{refl}
use Rattle.cpm_geom.specs.Geometry.{dpb_of}
use Rattle.cpm_volume.specs.Files.{extent_number, group_of, entry_place_of, block_number, name_matches, no_entry, entry_at, matches, first_match, record_count_of, first_free, is_reserved, least_free, is_directory_block}
use Rattle.cpm_volume.specs.Operations.{ends, gives, with_entry, merged, agree, has_bad_block, closed_entry, same_numbers, is_unchanged, close_extent, opened_extent, open_extent, open_to_read, made_extent, make_extent, open_file_on_volume, close_file_on_volume, make_file_on_volume, opened_in, made_in, opened_or_made, have_extent, closed_in, cross, next_target, target_of, next_place, place_at, record_in_block, get_record, block_to_write, with_block, counting, cleared_records, taken_records, put_found, put_record, read_in, write_in, read_next_on_volume, write_next_on_volume, read_random_on_volume, write_random_on_volume, write_random_cleared_on_volume}
use Rattle.cpm_volume.specs.Rows.{standard, large, blank_volume, t_dat, from_make, made_on, more, writes, entry_seen, entries_closed, directory_bytes, file_of_129, one_more, makes, is_made, second_extent, two_extents, shared_file, entry_opened, crowded, record_written, written_cleared, new_file, two_records, opened_on, two_opened, next_read, any_read}
use Rattle.cpm_volume.specs.Names.{is_named, first_named, is_read_only, change_named, protects, deletion, is_erased, reserved_after, erase_files_on_volume, renaming, rename_files_on_volume, with_attributes, marking, set_attributes_on_volume}
use Rattle.cpm_volume.specs.NameRows.{two_taken, u_dat, any_dat, t_dat_read_only, users, names_in, u_started, held, u_made, after_attributes, cleared_attributes, RowErase, RowRename, RowAttributes}

pub row_erase : RowErase
unfolding extent_number group_of entry_place_of block_number name_matches no_entry entry_at matches first_match record_count_of first_free is_reserved least_free ends gives with_entry merged agree has_bad_block closed_entry same_numbers is_unchanged close_extent opened_extent open_extent open_to_read made_extent make_extent open_file_on_volume close_file_on_volume make_file_on_volume opened_in made_in opened_or_made have_extent closed_in cross next_target target_of next_place place_at record_in_block get_record block_to_write with_block counting cleared_records taken_records put_found put_record read_in write_in read_next_on_volume write_next_on_volume read_random_on_volume write_random_on_volume write_random_cleared_on_volume standard large blank_volume t_dat from_make made_on more writes entry_seen entries_closed directory_bytes file_of_129 one_more makes is_made second_extent two_extents shared_file entry_opened crowded record_written written_cleared new_file two_records opened_on two_opened next_read any_read dpb_of is_named first_named is_read_only change_named protects deletion is_erased reserved_after erase_files_on_volume renaming rename_files_on_volume with_attributes marking set_attributes_on_volume two_taken u_dat any_dat t_dat_read_only users names_in u_started held u_made after_attributes cleared_attributes is_directory_block
row_erase = (refl, refl, refl, refl)

pub row_rename : RowRename
unfolding extent_number group_of entry_place_of block_number name_matches no_entry entry_at matches first_match record_count_of first_free is_reserved least_free ends gives with_entry merged agree has_bad_block closed_entry same_numbers is_unchanged close_extent opened_extent open_extent open_to_read made_extent make_extent open_file_on_volume close_file_on_volume make_file_on_volume opened_in made_in opened_or_made have_extent closed_in cross next_target target_of next_place place_at record_in_block get_record block_to_write with_block counting cleared_records taken_records put_found put_record read_in write_in read_next_on_volume write_next_on_volume read_random_on_volume write_random_on_volume write_random_cleared_on_volume standard large blank_volume t_dat from_make made_on more writes entry_seen entries_closed directory_bytes file_of_129 one_more makes is_made second_extent two_extents shared_file entry_opened crowded record_written written_cleared new_file two_records opened_on two_opened next_read any_read dpb_of is_named first_named is_read_only change_named protects deletion is_erased reserved_after erase_files_on_volume renaming rename_files_on_volume with_attributes marking set_attributes_on_volume two_taken u_dat any_dat t_dat_read_only users names_in u_started held u_made after_attributes cleared_attributes is_directory_block
row_rename = (refl, refl)

pub row_attributes : RowAttributes
unfolding extent_number group_of entry_place_of block_number name_matches no_entry entry_at matches first_match record_count_of first_free is_reserved least_free ends gives with_entry merged agree has_bad_block closed_entry same_numbers is_unchanged close_extent opened_extent open_extent open_to_read made_extent make_extent open_file_on_volume close_file_on_volume make_file_on_volume opened_in made_in opened_or_made have_extent closed_in cross next_target target_of next_place place_at record_in_block get_record block_to_write with_block counting cleared_records taken_records put_found put_record read_in write_in read_next_on_volume write_next_on_volume read_random_on_volume write_random_on_volume write_random_cleared_on_volume standard large blank_volume t_dat from_make made_on more writes entry_seen entries_closed directory_bytes file_of_129 one_more makes is_made second_extent two_extents shared_file entry_opened crowded record_written written_cleared new_file two_records opened_on two_opened next_read any_read dpb_of is_named first_named is_read_only change_named protects deletion is_erased reserved_after erase_files_on_volume renaming rename_files_on_volume with_attributes marking set_attributes_on_volume two_taken u_dat any_dat t_dat_read_only users names_in u_started held u_made after_attributes cleared_attributes is_directory_block
row_attributes = (refl, refl, refl)
