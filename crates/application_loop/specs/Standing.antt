-- Representation: the connections and the desk of a loop, by what was done so far; no claim rests on it.
use Rattle.std.specs.Prelude.{ℕ, ◌≡◌, ◌<◌, ◌==◌, if◌then◌else◌, Bool, false, true, List, [], ◌++◌, ◌+◌, map, take, drop, Option, Some, None}
use Rattle.std.specs.List.{All}
use Rattle.er_base.specs.LineTexts.{line_text}
use Rattle.er_base.specs.declared.release.Release.{Release}
use Rattle.safety_automaton.specs.Keys.{KmacEntry}
use Rattle.er_end_model.specs.Steps.{Finds}
use Rattle.er_end.specs.KeptEnds.{waiting_in}
use Rattle.er_trace.specs.Texts.{header_words}
use Rattle.outside.specs.Acts.{Act}
use Rattle.outside.specs.Doings.{Told}
use Rattle.application_model.specs.Ends.{EndStage, SettingUp, Speaking, Parted, KnownEnd}
use Rattle.application_model.specs.Claims.{RiseTo}
use Rattle.application_model.specs.Services.{has_room}
use Rattle.application_port.specs.Ports.{PortState, NobodyThere, Talking, attendance_of}
use Rattle.application_ends.specs.Laws.{recording_of_service}
use Rattle.application_serving.specs.SeenOctets.{octets_given_to, octets_read_of, is_brought_in, is_closed_in, SeenApplication, NobodySeen, SeenThere}
use Rattle.application_serving.specs.SeenOctets.{application_in_acts}
use Rattle.application_serving.specs.Serving.{octets_told_at, octets_heard_at, application_in_items, ServiceDeed, acts_in_service, items_in_service, greatest_moment}
use Rattle.application_serving.specs.Serving.{text_written_by_acts}
use Rattle.application_serving.specs.Going.{ServiceRun, ToDo, service_behind, held_behind, Going}
use Rattle.application_loop.specs.StackSteps.{StandsBehind}
use Rattle.application_loop.specs.declared.link.Link.{Link}
use Rattle.application_loop.specs.declared.desk.Desk.{Desk}

-- what a part of the loop that is at work on connections leaves as it is
pub record Beside : Type 0 where
  -- the greatest moment that the clock gave; the keys that hold; how often the key file was read again
  pub moment : ℕ
  pub finds : Finds
  pub keys : ℕ
  -- whether nothing more is accepted; whether each connection that comes is opened; how many were opened, by the loop and by its wires
  pub draining : Bool
  pub accepts : Bool
  pub opened : ℕ
  pub numbered : ℕ
  -- the octets that were read of the application and not heard yet; and those of each connection
  pub held : List ℕ
  pub left : ℕ → List ℕ

-- what the outside tells, the connections and the desk at a moment
pub record Scene : Type 0 where
  pub told : Told
  pub links : List Link
  pub desk : Desk

abbrev pub scene : Told → List Link → Desk → Scene
scene told links desk = record { told = told; links = links; desk = desk }

-- ---- connections

abbrev pub stage_by : Option Release → (peer : Option ℕ) → EndStage
stage_by (Some why) peer = Parted
stage_by None (Some peer) = Speaking peer
stage_by None None = SettingUp

abbrev pub known_of_link : Link → KnownEnd
known_of_link link = record { number = link.number; stage = stage_by link.end.value.core.released link.peer }

abbrev pub number_of_link : Link → ℕ
number_of_link link = link.number

-- the end of a connection stands where its events lead; unless it broke off, what its end told was given to it or waits, and what was read of it was heard or is
-- left
pub record LinkIs (run : ServiceRun) (deeds : List ServiceDeed) (left : ℕ → List ℕ) (link : Link) : Type 0 where
  pub end : (later : List (List KmacEntry))
      → StandsBehind run.settings (held_behind run deeds later) ((service_behind deeds).ends link.number) link.end.value
  pub waits : link.broken ≡ false
      → octets_told_at link.number (items_in_service deeds) ≡ octets_given_to link.number (acts_in_service deeds) ++ link.output.items
  pub heard : link.broken ≡ false
      → octets_heard_at link.number (items_in_service deeds) ++ left link.number ≡ octets_read_of link.number (acts_in_service deeds)
  pub brought : is_brought_in link.number (acts_in_service deeds) ≡ true

-- a number that no connection had yet
pub record IsFresh (conn : ℕ) (acts : List Act) : Type 0 where
  pub read : octets_read_of conn acts ≡ []
  pub given : octets_given_to conn acts ≡ []
  pub brought : is_brought_in conn acts ≡ false
  pub closed : is_closed_in conn acts ≡ false

-- ---- the application

-- what it was told was given to it or waits, and what was read of it was brought or is held
pub record IsTalking (seen told : SeenApplication) (held output : List ℕ) : Type 0 where
  pub brought : List ℕ
  pub given : List ℕ
  pub acts : seen ≡ SeenThere (brought ++ held) given
  pub items : told ≡ SeenThere brought (given ++ output)

abbrev pub IsAtPort : (seen told : SeenApplication) (held : List ℕ) → PortState → Type 0
IsAtPort seen told held NobodyThere = (seen ≡ NobodySeen) × (told ≡ NobodySeen)
IsAtPort seen told held (Talking standing output) = IsTalking seen told held output

pub record DeskIs (deeds : List ServiceDeed) (held : List ℕ) (desk : Desk) : Type 0 where
  pub application : (service_behind deeds).application ≡ attendance_of desk.port
  pub port : IsAtPort (application_in_acts (acts_in_service deeds)) (application_in_items (items_in_service deeds)) held desk.port
  pub opened : desk.opened ≡ (service_behind deeds).opened
  pub connected : desk.connected ≡ (service_behind deeds).connected
  pub messages : desk.messages ≡ (service_behind deeds).messages

-- ---- all

pub record Standing (run : ServiceRun) (deeds : List ServiceDeed) (beside : Beside) (x : Scene) : Type 0 where
  pub each : All (LinkIs run deeds beside.left) x.links
  pub known : (service_behind deeds).known ≡ map known_of_link x.links
  pub rise : RiseTo 0 (map number_of_link x.links) beside.opened
  pub below : beside.accepts ≡ true → beside.opened ≡ beside.numbered
  pub fresh : (conn : ℕ) → beside.numbered < conn → IsFresh conn (acts_in_service deeds)
  pub desk : DeskIs deeds beside.held x.desk
  pub written : text_written_by_acts (acts_in_service deeds)
      ≡ line_text (header_words run.settings) ++ recording_of_service (items_in_service deeds)
  pub moment : greatest_moment (acts_in_service deeds) ≡ beside.moment
  pub finds : (later : List (List KmacEntry)) → held_behind run deeds later beside.keys ≡ beside.finds
  pub keys : (service_behind deeds).keys ≡ beside.keys
  pub draining : (service_behind deeds).draining ≡ beside.draining
  pub opened : (service_behind deeds).opened ≡ beside.opened
  pub numbered : x.told.wires.opened ≡ beside.numbered

-- these connections and this desk stand where what was done leads, and this is left for the model to do
pub record Serving (run : ServiceRun) (beside : Beside) (rest : ToDo) (x : Scene) : Type 0 where
  pub deeds : List ServiceDeed
  pub going : Going run x.told deeds rest
  pub stands : Standing run deeds beside x

-- no message waits that could be taken
abbrev pub Rested : Scene → Type 0
Rested x = has_room (attendance_of x.desk.port) ≡ true → All (λ (l : Link). waiting_in l.end.value ≡ []) x.links

-- none but at this connection
abbrev pub RestedBut : ℕ → Scene → Type 0
RestedBut place x = has_room (attendance_of x.desk.port) ≡ true
    → All (λ (l : Link). waiting_in l.end.value ≡ []) (take place x.links) × All (λ (l : Link). waiting_in l.end.value ≡ []) (drop (place + 1) x.links)

-- all that came is done
pub record AtRest (run : ServiceRun) (beside : Beside) (x : Scene) : Type 0 where
  pub serving : Serving run beside (λ kind s. []) x
  pub rested : Rested x

-- the octets that are left of a read of one connection
abbrev pub left_at : ℕ → List ℕ → ℕ → List ℕ
left_at number octets conn = if conn == number then octets else []

abbrev pub pouring : Beside → ℕ → List ℕ → Beside
pouring beside number octets = record beside { left = left_at number octets }

abbrev pub none_left : ℕ → List ℕ
none_left conn = []
