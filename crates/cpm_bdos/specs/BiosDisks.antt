-- The calls of the BIOS on disks.
-- CP/M 2.2 Operating System Manual, section 6.6, The BIOS Entry Points.
-- Own: the BIOS has a drive, a track, a sector and a buffer of its own, which the BDOS leaves alone.
use Rattle.std.specs.Prelude.{ℕ, ◌+◌, ◌%◌, ◌==◌, List, Option, Some, None, if◌then◌else◌}
use Rattle.cpm_geom.specs.Disk.{Disk}
use Rattle.cpm_memory.specs.Contents.{Contents, byte_at, run_at}
use Rattle.cpm_drives.specs.declared.disks.Disks.{Disks}
use Rattle.cpm_drives.specs.Disks.{is_there}
use Rattle.cpm_drives.specs.Sectors.{sector_read, sector_written}
use Rattle.cpm_bdos.specs.Registers.{pair_de, pair_bc, with_a, with_hl}
use Rattle.cpm_bdos.specs.StepResult.{StepResult, call_returned}
use Rattle.cpm_bdos.specs.Disks.{with_disks, record_size, record_stored, format_in, header_of}
use Rattle.cpm_bdos.specs.declared.session.SectorPlace.{SectorPlace}
use Rattle.cpm_bdos.specs.declared.session.Session.{Session}

abbrev pub at_place : Session → SectorPlace → Session
at_place s place = record s { place = place }

-- a call that leaves a byte in A, or a word in HL, and returns
abbrev pub returned_a : Session → Contents → ℕ → StepResult
returned_a s m value = call_returned (record s { regs = with_a s.regs value }) m

abbrev pub returned_hl : Session → Contents → ℕ → StepResult
returned_hl s m value = call_returned (record s { regs = with_hl s.regs value }) m

-- HOME
abbrev pub home : Session → Contents → StepResult
home s m = call_returned (at_place s (record s.place { track = 0 })) m

-- SELDSK: the address of the drive's parameter header, 0 where there is no such drive
unfoldable pub select_drive : Disk → Session → Contents → StepResult
select_drive system s m =
    if is_there s.disks s.regs.c
    then returned_hl (at_place s (record s.place { drive = s.regs.c })) m (header_of (format_in s.disks system s.regs.c) s.regs.c)
    else returned_hl s m 0

-- SETTRK, SETSEC, SETDMA
abbrev pub set_track : Session → Contents → StepResult
set_track s m = call_returned (at_place s (record s.place { track = pair_bc s.regs })) m

abbrev pub set_sector : Session → Contents → StepResult
set_sector s m = call_returned (at_place s (record s.place { sector = pair_bc s.regs })) m

abbrev pub set_sector_buffer : Session → Contents → StepResult
set_sector_buffer s m = call_returned (at_place s (record s.place { buffer = pair_bc s.regs })) m

-- READ: A is 0, or 1 where there is no such sector
abbrev pub sector_got : Option (List ℕ) → Session → Contents → StepResult
sector_got None s m = returned_a s m 1
sector_got (Some bytes) s m = returned_a s (record_stored m s.place.buffer bytes) 0

unfoldable pub read_sector : Disk → Session → Contents → StepResult
read_sector system s m = sector_got (sector_read s.disks system s.place.drive s.place.track s.place.sector) s m

-- WRITE: the same; own: the system drive is never written
abbrev pub sector_put : Option Disks → Session → Contents → StepResult
sector_put None s m = returned_a s m 1
sector_put (Some disks) s m = returned_a (with_disks s disks) m 0

unfoldable pub write_sector : Session → Contents → StepResult
write_sector s m =
    sector_put (sector_written s.disks s.place.drive s.place.track s.place.sector (run_at m s.place.buffer record_size)) s m

-- SECTRAN: the sector in BC by the table at DE, or BC itself where there is none
unfoldable pub translate : Session → Contents → StepResult
translate s m =
    returned_hl s m (if pair_de s.regs == 0 then pair_bc s.regs else byte_at m ((pair_de s.regs + pair_bc s.regs) % 65536))
