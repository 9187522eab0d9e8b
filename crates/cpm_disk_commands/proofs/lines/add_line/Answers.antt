use Rattle.std.proofs.Common.{◌∙◌, ◌++◌, ap, codes, decimal, List, ℕ}
use Rattle.cpm_disk_commands.specs.Listing.{left_aligned, file_line, read_only_of, right, seen_name, system_of, unit_of}
use Rattle.cpm_disk_commands.proofs.ListingLemmas.{joined}
use Rattle.cpm_disk_commands.proofs.lines.add_line.Goals as goal

pub returns : goal.returns
unfolding file_line
returns c =
    let text = c.args.text.now.items in
    let file = c.args.file.now in
    let user = right 2 (decimal file.user) in
    let name = left_aligned 12 (seen_name file.name) in
    let records = right 5 (decimal file.records) in
    let unit = unit_of file.records in
    let read_only = read_only_of file.name in
    let with_user = c.in_ok-add_number.ensures ∙ ap (λ (n : ℕ). c.extend_from_slice.new.self.items ++ right 2 (decimal n)) c.from.ensures in
    let with_unit = c.in_ok-extend_from_slice-4.ensures.items ∙ ap (λ (xs : List ℕ). c.add_number-2.new.text.items ++ xs) c.unit_of.ensures in
    let with_read_only = c.in_ok-extend_from_slice-5.ensures.items ∙ ap (λ (xs : List ℕ). c.extend_from_slice-4.new.self.items ++ xs) c.read_only_of.ensures in
    let with_system = c.in_ok-extend_from_slice-6.ensures.items ∙ ap (λ (xs : List ℕ). c.extend_from_slice-5.new.self.items ++ xs) c.system_of.ensures in
    let line2 = codes "user " ++ user in
    let line3 = line2 ++ codes "  " in
    let line4 = line3 ++ name in
    let line5 = line4 ++ codes " " in
    let line6 = line5 ++ records in
    let line7 = line6 ++ unit in
    let line8 = line7 ++ read_only in
    let to2 = joined text (codes "user ") user c.in_ok-extend_from_slice.ensures.items with_user in
    let to3 = joined text line2 (codes "  ") to2 c.in_ok-extend_from_slice-2.ensures.items in
    let to4 = joined text line3 name to3 c.in_ok-add_padded_name.ensures in
    let to5 = joined text line4 (codes " ") to4 c.in_ok-extend_from_slice-3.ensures.items in
    let to6 = joined text line5 records to5 c.in_ok-add_number-2.ensures in
    let to7 = joined text line6 unit to6 with_unit in
    let to8 = joined text line7 read_only to7 with_read_only in
    let to9 = joined text line8 (system_of file.name) to8 with_system in
    joined text (line8 ++ system_of file.name) (codes "\n") to9 c.in_ok-extend_from_slice-7.ensures.items
