-- The octets that acts read of a connection, and those that they gave to it (this profile).
use Rattle.std.specs.Prelude.{ℕ, ◌==◌, if◌then◌else◌, List, [], take}
use Rattle.std.specs.List.{flat_map}
use Rattle.link_trait.specs.Wires.{Reading}
use Rattle.link_trait.specs.Wires as wires
use Rattle.link_trait.specs.declared.wires.WriteAnswer.{WriteAnswer}
use Rattle.link_trait.specs.declared.wires.WriteAnswer.TheVariants as write_answer
use Rattle.outside.specs.Acts.{SeenCall, Listened, Dialled, Turned, Read, Sent, Closed, Act, Fetched, Wrote, Called, Asked, Drew}

-- ---- reads

abbrev pub octets_read : Reading → List ℕ
octets_read (wires.Gave octets) = octets
octets_read wires.NotNow = []
octets_read wires.End = []
octets_read wires.Failed = []

-- the octets that a call read of a connection
abbrev pub read_by_call : (conn : ℕ) → SeenCall → List ℕ
read_by_call conn (Listened address listens) = []
read_by_call conn (Dialled address to) = []
read_by_call conn (Turned until what) = []
read_by_call conn (Read from size reading) = if from == conn then octets_read reading else []
read_by_call conn (Sent to piece answer) = []
read_by_call conn (Closed at) = []

abbrev pub read_by_act : (conn : ℕ) → Act → List ℕ
read_by_act conn (Fetched name answer) = []
read_by_act conn (Wrote piece done) = []
read_by_act conn (Called call) = read_by_call conn call
read_by_act conn (Asked moment) = []
read_by_act conn (Drew word) = []

-- all the octets that acts read of a connection
abbrev pub read_in_acts : (conn : ℕ) → List Act → List ℕ
read_in_acts conn acts = flat_map (read_by_act conn) acts

-- ---- writes

-- the octets of a piece that a write took
abbrev pub octets_taken : (piece : List ℕ) → WriteAnswer → List ℕ
octets_taken piece (write_answer.Some count) = take count piece
octets_taken piece write_answer.NotNow = []
octets_taken piece write_answer.Failed = []

-- the octets that a call gave to a connection
abbrev pub given_by_call : (conn : ℕ) → SeenCall → List ℕ
given_by_call conn (Listened address listens) = []
given_by_call conn (Dialled address to) = []
given_by_call conn (Turned until what) = []
given_by_call conn (Read from size reading) = []
given_by_call conn (Sent to piece answer) = if to == conn then octets_taken piece answer else []
given_by_call conn (Closed at) = []

abbrev pub given_by_act : (conn : ℕ) → Act → List ℕ
given_by_act conn (Fetched name answer) = []
given_by_act conn (Wrote piece done) = []
given_by_act conn (Called call) = given_by_call conn call
given_by_act conn (Asked moment) = []
given_by_act conn (Drew word) = []

-- all the octets that acts gave to a connection
abbrev pub given_in_acts : (conn : ℕ) → List Act → List ℕ
given_in_acts conn acts = flat_map (given_by_act conn) acts
