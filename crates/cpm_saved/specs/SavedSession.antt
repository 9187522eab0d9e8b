-- A session without its memory, in a saving. All of it is own.
use Rattle.cpm_bdos.specs.declared.session.SectorPlace.{SectorPlace}
use Rattle.cpm_bdos.specs.declared.session.Session.{Session}
use Rattle.cpm_saved.specs.Layout.{Layout, Both, AnyByte, AnyWord, laid_out}
use Rattle.cpm_saved.specs.SavedConsole.{console_fields, console_layout, console_of_fields, line_fields, line_layout, line_of_fields}
use Rattle.cpm_saved.specs.SavedDisks.{AreWhole, disks_fields, disks_layout, disks_of_fields, file_fields, file_layout, file_of_fields}
use Rattle.cpm_saved.specs.SavedMode.{IsModeFit, mode_bytes, mode_layout, mode_of_bytes}
use Rattle.cpm_saved.specs.SavedRegisters.{registers_fields, registers_layout, registers_of_fields}
use Rattle.cpm_saved.specs.declared.part.SavingPart.TheVariants as part

-- the sector that the BIOS reads or writes next
abbrev pub place_layout : Layout
place_layout = Both (AnyByte part.SectorPlace) (Both (AnyWord part.SectorPlace) (Both (AnyWord part.SectorPlace) (AnyWord part.SectorPlace)))

abbrev pub place_fields : SectorPlace → laid_out place_layout
place_fields p = (p.drive, (p.track, (p.sector, p.buffer)))

abbrev pub place_of_fields : laid_out place_layout → SectorPlace
place_of_fields v = record { drive = v.0; track = v.1.0; sector = v.1.1.0; buffer = v.1.1.1 }

-- the file of a command, line, console and drives
abbrev pub kept_layout : Layout
kept_layout = Both file_layout (Both line_layout (Both console_layout disks_layout))

abbrev pub kept_fields : Session → laid_out kept_layout
kept_fields s = (file_fields s.file, (line_fields s.line, (console_fields s.console, disks_fields s.disks)))

-- registers, mode, buffer, sector, and these
abbrev pub saved_session_layout : Layout
saved_session_layout = Both registers_layout (Both mode_layout (Both (AnyWord part.Buffer) (Both place_layout kept_layout)))

abbrev pub saved_session_fields : Session → laid_out saved_session_layout
saved_session_fields s = (registers_fields s.regs, (mode_bytes s.mode, (s.buffer, (place_fields s.place, kept_fields s))))

abbrev pub saved_session_of_fields : laid_out saved_session_layout → Session
saved_session_of_fields v =
    record {
      regs = registers_of_fields v.0;
      mode = mode_of_bytes v.1.0;
      buffer = v.1.1.0;
      place = place_of_fields v.1.1.1.0;
      file = file_of_fields v.1.1.1.1.0;
      line = line_of_fields v.1.1.1.1.1.0;
      console = console_of_fields v.1.1.1.1.1.1.0;
      disks = disks_of_fields v.1.1.1.1.1.1.1;
    }

-- what a session must be to be that of its fields: the numbers of its mode fit, and its images are whole
pub record IsSessionFit (s : Session) : Type 0 where
  pub mode : IsModeFit s.mode
  pub disks : AreWhole s.disks
