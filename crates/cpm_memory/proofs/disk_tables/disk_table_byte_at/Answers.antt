use Rattle.std.proofs.Common.{◌≡◌, ℕ, ◌<◌, ◌≤◌, ◌-◌, ◌/◌, ◌%◌, true, false, refl, ap, sym, ◌∙◌, arith}
use Rattle.std.specs.Prelude.{nat_lt, nat_le, slice_index}
use Rattle.std.proofs.lemmas.Bool.Decides.{nat_tests}
use Rattle.cpm_geom.specs.Geometry.{dpb_of}
use Rattle.cpm_geom.specs.declared.dpb.Dpb.{Dpb}
use Rattle.cpm_geom.specs.declared.format.Format.{Format}
use Rattle.cpm_memory.specs.DiskTables.{disk_table_byte, format_at, parameter_block, parameter_header, word_byte}
use Rattle.cpm_memory.proofs.disk_tables.disk_table_byte_at.Goals as goal

parameter_at : (offset : ℕ) → 32 ≤ offset → offset < 64 → disk_table_byte offset ≡ slice_index (parameter_block (dpb_of (format_at offset))) (offset % 16)
parameter_at offset first last =
    let past : nat_lt offset 26 ≡ false = grind (arith, nat_tests) in
    let from : nat_le 32 offset ≡ true = grind (arith, nat_tests) in
    let below : nat_lt offset 64 ≡ true = grind (arith, nat_tests) in
    rw (past, from, below) refl

header_at : (offset : ℕ) → 64 ≤ offset → offset < 224 → disk_table_byte offset ≡ word_byte (parameter_header (format_at offset) ((offset - 64) / 32)) (offset % 16)
header_at offset first last =
    let past : nat_lt offset 26 ≡ false = grind (arith, nat_tests) in
    let behind : nat_lt offset 64 ≡ false = grind (arith, nat_tests) in
    let from : nat_le 64 offset ≡ true = grind (arith, nat_tests) in
    let below : nat_lt offset 224 ≡ true = grind (arith, nat_tests) in
    let between : nat_le 32 offset ≡ true = grind (arith, nat_tests) in
    rw (past, between, behind, from, below) refl

-- a byte of a parameter block
pub returns-then-offset-lt64 : goal.returns-then-offset-lt64
returns-then-offset-lt64 c =
    c.parameter_byte_at.ensures
    ∙ ap (λ (d : Dpb). slice_index (parameter_block d) (c.args.offset % 16)) c.dpb.ensures
    ∙ ap (λ (f : Format). slice_index (parameter_block (dpb_of f)) (c.args.offset % 16)) c.format_at.ensures
    ∙ sym (parameter_at c.args.offset c.if-offset-ge32.true c.if-offset-lt64.true)

-- a byte of a parameter header
pub returns-then-offset-lt224 : goal.returns-then-offset-lt224
returns-then-offset-lt224 c =
    c.header_byte_at.ensures
    ∙ ap (λ (f : Format). word_byte (parameter_header f ((c.args.offset - 64) / 32)) (c.args.offset % 16)) c.format_at-then-offset-lt224.ensures
    ∙ sym (header_at c.args.offset c.if-offset-ge64.true c.if-offset-lt224.true)
