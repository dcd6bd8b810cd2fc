-- Contract: links and desks as they are made, and as they count.
use Rattle.std.specs.Prelude.{ℕ, ◌≡◌, false, [], None}
use Rattle.er_end.specs.KeptEnds.{KEnd}
use Rattle.application_model.specs.Services.{counted_up}
use Rattle.application_port.specs.Ports.{NobodyThere}
use Rattle.application_loop.specs.declared.link.Link.{Link}
use Rattle.application_loop.specs.declared.desk.Desk.{Desk}

-- a link with this end, at which nothing came
pub record IsNewLink (conn : ℕ) (kept : KEnd) (link : Link) : Type 0 where
  pub number : link.number ≡ conn
  pub end : link.end.value ≡ kept
  pub output : link.output.items ≡ []
  pub peer : link.peer ≡ None
  pub broken : link.broken ≡ false

pub record IsNewDesk (desk : Desk) : Type 0 where
  pub port : desk.port ≡ NobodyThere
  pub opened : desk.opened ≡ 0
  pub connected : desk.connected ≡ 0
  pub messages : desk.messages ≡ 0

-- one connection more was opened
pub record CountsOne (old now : Desk) : Type 0 where
  pub port : now.port ≡ old.port
  pub opened : now.opened ≡ counted_up old.opened 1
  pub connected : now.connected ≡ counted_up old.connected 0
  pub messages : now.messages ≡ counted_up old.messages 0
