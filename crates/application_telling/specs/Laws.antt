-- The loop's side of an application beside what the model of the loop says of it.
use Rattle.std.specs.Prelude.{◌≡◌, ℕ, ◌≤◌, List, length, Option}
use Rattle.std.specs.List.{flat_map}
use Rattle.application_lines.specs.declared.application_line.ApplicationLine.{ApplicationLine}
use Rattle.application_lines.specs.Notices.{ApplicationNotice, notice_text}
use Rattle.application_model.specs.Services.{Service, behind_items, heard_from, octets_taken_by, informed, lines_brought}
use Rattle.application_port.specs.Ports.{PortState, attendance_of, output_of, told_at_port, written_at_port, one_line_at_most, HearsAtPort}

pub record PortGoesByTheModel : Type 0 where
  -- lines that are told
  pub told : (s : Service) (port : PortState) (notices : List ApplicationNotice) → s.application ≡ attendance_of port
      → (behind_items s (informed s.application notices)).application ≡ attendance_of (told_at_port (flat_map notice_text notices) port)
  -- octets that the application took
  pub written : (count : ℕ) (port : PortState) → count ≤ length (output_of port)
      → attendance_of (written_at_port count port) ≡ octets_taken_by count (attendance_of port)
  -- octets that came from it
  pub heard : (old now : PortState) (octets : List ℕ) (line : Option ApplicationLine) → HearsAtPort old now octets line
      → (attendance_of now ≡ heard_from octets (attendance_of old)) × (lines_brought octets (attendance_of old) ≡ one_line_at_most line)
