-- What waits in the model is as long as what waits at the port.
use Rattle.std.proofs.Common.{◌≡◌, ℕ, ◌≤◌, List, [], ◌∷◌, ◌++◌, length, map, Option, refl, ap, sym, ◌∙◌, length-append, length-drop, append-nil, append_assoc}
use Rattle.std.specs.List.{flat_map}
use Rattle.application_lines.specs.declared.application_line.ApplicationLine.{ApplicationLine}
use Rattle.application_lines.specs.Notices.{ApplicationNotice, notice_text}
use Rattle.application_lines.specs.Standings.{LineStanding}
use Rattle.application_model.specs.Histories.{Informed}
use Rattle.application_model.specs.Services.{Attendance, Attached, Service, behind_item, behind_items, heard_from, octets_taken_by, inform, informed, lines_brought}
use Rattle.application_port.specs.Ports.{PortState, NobodyThere, Talking, attendance_of, output_of, told_at_port, written_at_port, one_line_at_most, HearsAtPort}
use Rattle.application_telling.specs.Laws.{PortGoesByTheModel}

-- where an application is there
told_there : (s : Service) (standing : LineStanding) (output : List ℕ) (notices : List ApplicationNotice) → s.application ≡ Attached standing (length output)
    → (behind_items s (map inform notices)).application ≡ Attached standing (length (output ++ flat_map notice_text notices))
unfolding behind_items
told_there s standing output [] e = e ∙ ap (λ (o : List ℕ). Attached standing (length o)) (sym (append-nil output))
told_there s standing output (notice ∷ notices) e =
    let text = notice_text notice in
    let longer : (behind_item s (Informed notice)).application ≡ Attached standing (length (output ++ text)) =
    rw e (ap (Attached standing) (sym (length-append output text))) in
    told_there (behind_item s (Informed notice)) standing (output ++ text) notices longer
    ∙ ap (λ (o : List ℕ). Attached standing (length o)) (append_assoc output text (flat_map notice_text notices))

told_model : (s : Service) (port : PortState) (notices : List ApplicationNotice) → s.application ≡ attendance_of port
    → (behind_items s (informed s.application notices)).application ≡ attendance_of (told_at_port (flat_map notice_text notices) port)
unfolding behind_items
told_model s NobodyThere notices e = ap (λ (a : Attendance). (behind_items s (informed a notices)).application) e ∙ e
told_model s (Talking standing output) notices e =
    ap (λ (a : Attendance). (behind_items s (informed a notices)).application) e ∙ told_there s standing output notices e

written_model : (count : ℕ) (port : PortState) → count ≤ length (output_of port)
    → attendance_of (written_at_port count port) ≡ octets_taken_by count (attendance_of port)
written_model count NobodyThere h = refl
written_model count (Talking standing output) h = ap (Attached standing) (length-drop count output)

heard_model : (old now : PortState) (octets : List ℕ) (line : Option ApplicationLine) → HearsAtPort old now octets line
    → (attendance_of now ≡ heard_from octets (attendance_of old)) × (lines_brought octets (attendance_of old) ≡ one_line_at_most line)
heard_model NobodyThere now octets line h = absurd h
heard_model (Talking standing output) now octets line h = (ap attendance_of h.0, h.1)

pub by_the_model : PortGoesByTheModel
by_the_model = record { told = told_model; written = written_model; heard = heard_model }
