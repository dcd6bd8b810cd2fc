-- Representation: how the code keeps the loop's side of its application; no claim rests on it.
use Rattle.std.specs.Prelude.{ℕ, Bool, true, false, List}
use Rattle.application_lines.specs.Standings.{LineStanding}
use Rattle.application_port.specs.Ports.{PortState, NobodyThere, Talking}

abbrev pub port_kept : Bool → LineStanding → List ℕ → PortState
port_kept false standing output = NobodyThere
port_kept true standing output = Talking standing output
