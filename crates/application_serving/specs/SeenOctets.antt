-- What acts show of a connection and of an application (this profile): the octets that were read of it and those that were given to it.
use Rattle.std.specs.Prelude.{ℕ, ◌==◌, Bool, false, if◌then◌else◌, List, [], ◌++◌, Option, Some, None, take, fold}
use Rattle.std.specs.List.{flat_map, list_any}
use Rattle.link_trait.specs.Wires.{Reading}
use Rattle.link_trait.specs.Wires as wires
use Rattle.link_trait.specs.declared.wires.Happening.{Happening}
use Rattle.link_trait.specs.declared.wires.Happening.TheVariants as happening
use Rattle.link_trait.specs.declared.wires.WriteAnswer.{WriteAnswer}
use Rattle.link_trait.specs.declared.wires.WriteAnswer.TheVariants as write_answer
use Rattle.outside.specs.Acts.{SeenCall, Listened, Dialled, Turned, Read, Sent, Closed, Act, Fetched, Wrote, Called, Asked, Drew}

abbrev pub octets_of_reading : Reading → List ℕ
octets_of_reading (wires.Gave octets) = octets
octets_of_reading wires.NotNow = []
octets_of_reading wires.End = []
octets_of_reading wires.Failed = []

-- the octets of a piece that a write took
abbrev pub octets_of_writing : (piece : List ℕ) → WriteAnswer → List ℕ
octets_of_writing piece (write_answer.Some count) = take count piece
octets_of_writing piece write_answer.NotNow = []
octets_of_writing piece write_answer.Failed = []

-- ---- a connection

abbrev pub octets_read_by_call : (conn : ℕ) → SeenCall → List ℕ
octets_read_by_call conn (Listened address listens) = []
octets_read_by_call conn (Dialled address to) = []
octets_read_by_call conn (Turned until what) = []
octets_read_by_call conn (Read from size reading) = if from == conn then octets_of_reading reading else []
octets_read_by_call conn (Sent to piece answer) = []
octets_read_by_call conn (Closed at) = []

abbrev pub octets_given_by_call : (conn : ℕ) → SeenCall → List ℕ
octets_given_by_call conn (Listened address listens) = []
octets_given_by_call conn (Dialled address to) = []
octets_given_by_call conn (Turned until what) = []
octets_given_by_call conn (Read from size reading) = []
octets_given_by_call conn (Sent to piece answer) = if to == conn then octets_of_writing piece answer else []
octets_given_by_call conn (Closed at) = []

abbrev pub is_accepted_as : (conn : ℕ) → Happening → Bool
is_accepted_as conn (happening.Accepted c) = c.0 == conn
is_accepted_as conn (happening.Readable c) = false
is_accepted_as conn (happening.Writable c) = false
is_accepted_as conn happening.Quiet = false
is_accepted_as conn happening.Ended = false
is_accepted_as conn happening.Failed = false

abbrev pub is_dialled_as : (conn : ℕ) → Option ℕ → Bool
is_dialled_as conn (Some c) = c == conn
is_dialled_as conn None = false

-- it was accepted or dialled
abbrev pub is_brought_by_call : (conn : ℕ) → SeenCall → Bool
is_brought_by_call conn (Listened address listens) = false
is_brought_by_call conn (Dialled address to) = is_dialled_as conn to
is_brought_by_call conn (Turned until what) = is_accepted_as conn what
is_brought_by_call conn (Read from size reading) = false
is_brought_by_call conn (Sent to piece answer) = false
is_brought_by_call conn (Closed at) = false

abbrev pub is_closed_by_call : (conn : ℕ) → SeenCall → Bool
is_closed_by_call conn (Listened address listens) = false
is_closed_by_call conn (Dialled address to) = false
is_closed_by_call conn (Turned until what) = false
is_closed_by_call conn (Read from size reading) = false
is_closed_by_call conn (Sent to piece answer) = false
is_closed_by_call conn (Closed at) = at == conn

-- what a call says, of acts that are calls
abbrev pub of_call_act : {A : Type 0} → A → (SeenCall → A) → Act → A
of_call_act none says (Fetched name answer) = none
of_call_act none says (Wrote piece done) = none
of_call_act none says (Called call) = says call
of_call_act none says (Asked moment) = none
of_call_act none says (Drew word) = none

abbrev pub octets_read_of : (conn : ℕ) → List Act → List ℕ
octets_read_of conn acts = flat_map (of_call_act [] (octets_read_by_call conn)) acts

abbrev pub octets_given_to : (conn : ℕ) → List Act → List ℕ
octets_given_to conn acts = flat_map (of_call_act [] (octets_given_by_call conn)) acts

abbrev pub is_brought_in : (conn : ℕ) → List Act → Bool
is_brought_in conn acts = list_any (of_call_act false (is_brought_by_call conn)) acts

abbrev pub is_closed_in : (conn : ℕ) → List Act → Bool
is_closed_in conn acts = list_any (of_call_act false (is_closed_by_call conn)) acts

-- ---- the application, which is connection 0

-- nobody is there; or one is, of which this was read since it came, and to which this was given
pub data SeenApplication : Type 0 where
  NobodySeen : SeenApplication
  SeenThere : (read given : List ℕ) → SeenApplication

abbrev pub seen_to_come : SeenApplication → SeenApplication
seen_to_come NobodySeen = SeenThere [] []
seen_to_come (SeenThere read given) = SeenThere read given

abbrev pub seen_to_say : List ℕ → SeenApplication → SeenApplication
seen_to_say octets NobodySeen = NobodySeen
seen_to_say octets (SeenThere read given) = SeenThere (read ++ octets) given

abbrev pub seen_to_get : List ℕ → SeenApplication → SeenApplication
seen_to_get octets NobodySeen = NobodySeen
seen_to_get octets (SeenThere read given) = SeenThere read (given ++ octets)

-- it can be written to: where nobody is there, an application came
abbrev pub seen_behind_happening : Happening → SeenApplication → SeenApplication
seen_behind_happening (happening.Accepted c) seen = seen
seen_behind_happening (happening.Readable c) seen = seen
seen_behind_happening (happening.Writable c) seen = if c.0 == 0 then seen_to_come seen else seen
seen_behind_happening happening.Quiet seen = seen
seen_behind_happening happening.Ended seen = seen
seen_behind_happening happening.Failed seen = seen

abbrev pub seen_behind_call : SeenCall → SeenApplication → SeenApplication
seen_behind_call (Listened address listens) seen = seen
seen_behind_call (Dialled address to) seen = seen
seen_behind_call (Turned until what) seen = seen_behind_happening what seen
seen_behind_call (Read from size reading) seen = if from == 0 then seen_to_say (octets_of_reading reading) seen else seen
seen_behind_call (Sent to piece answer) seen = if to == 0 then seen_to_get (octets_of_writing piece answer) seen else seen
seen_behind_call (Closed at) seen = if at == 0 then NobodySeen else seen

abbrev pub seen_behind_act : SeenApplication → Act → SeenApplication
seen_behind_act seen (Fetched name answer) = seen
seen_behind_act seen (Wrote piece done) = seen
seen_behind_act seen (Called call) = seen_behind_call call seen
seen_behind_act seen (Asked moment) = seen
seen_behind_act seen (Drew word) = seen

-- as acts leave it
abbrev pub application_in_acts : List Act → SeenApplication
application_in_acts acts = fold seen_behind_act NobodySeen acts
