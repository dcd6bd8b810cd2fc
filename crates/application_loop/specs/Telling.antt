-- Contract: what the application is told beside the events.
use Rattle.std.specs.Prelude.{◌≡◌}
use Rattle.application_lines.specs.Notices.{ApplicationNotice, notice_text}
use Rattle.application_port.specs.Ports.{PortState, told_at_port}
use Rattle.application_loop.specs.declared.desk.Desk.{Desk}

abbrev pub PortTells : ApplicationNotice → (old now : PortState) → Type 0
PortTells notice old now = now ≡ told_at_port (notice_text notice) old

-- a line is told, and nothing is counted
pub record DeskTells (notice : ApplicationNotice) (old now : Desk) : Type 0 where
  pub port : PortTells notice old.port now.port
  pub opened : now.opened ≡ old.opened
  pub connected : now.connected ≡ old.connected
  pub messages : now.messages ≡ old.messages
