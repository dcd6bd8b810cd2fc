-- Representation: a loop with an application between what its wires bring and what is done about it; no claim rests on it.
use Rattle.std.specs.Prelude.{ℕ, ◌≡◌, ◌<◌, ◌+◌, ◌==◌, if◌then◌else◌, Bool, true, false, max, List, [], ◌∷◌, take}
use Rattle.safety_automaton.specs.Keys.{KmacEntry, key_at}
use Rattle.link_trait.specs.declared.wires.Happening.{Happening}
use Rattle.link_trait.specs.declared.wires.Happening.TheVariants as happening
use Rattle.link_trait.specs.declared.wires.ReadAnswer.{ReadAnswer}
use Rattle.link_trait.specs.declared.wires.ReadAnswer.TheVariants as read_answer
use Rattle.outside.specs.Acts.{Asked}
use Rattle.outside.specs.Doings.{Told, Did}
use Rattle.application_model.specs.Ends.{is_known}
use Rattle.application_model.specs.Lines.{connected_lines}
use Rattle.application_model.specs.Services.{Attendance, is_attached, informs, takes_waiting}
use Rattle.application_port.specs.Ports.{NobodyThere}
use Rattle.application_serving.specs.SeenOctets.{octets_read_of, octets_given_to, is_brought_in, is_closed_in}
use Rattle.application_serving.specs.Serving.{octets_told_at, octets_heard_at, ServiceDeed, acts_in_service, items_in_service}
use Rattle.application_serving.specs.Going.{ServiceRun, ToDo, and_then, service_behind}
use Rattle.application_loop.specs.Standing.{Beside, AtRest, pouring, none_left}
use Rattle.application_loop.specs.Living.{entries_for_service, scene_of_live, accepts_more, Living, Resting}
use Rattle.application_loop.specs.declared.live_service.LiveService.{LiveService}
use Rattle.application_loop.specs.declared.live_service.Brought.{Brought}
use Rattle.application_loop.specs.declared.live_service.Brought.TheVariants.{Application, Wires}
use Rattle.application_loop.specs.declared.service_keys.ServiceKeys.{ServiceKeys}
use Rattle.application_loop.specs.declared.service_keys.ServiceKeys.TheVariants.{File, Pair}

-- ---- the loop itself

abbrev pub calls_with : ServiceKeys → Bool
calls_with (File store) = false
calls_with (Pair pair) = true

-- nothing happened to it yet, and it has these keys
pub record IsUnusedWith (live : LiveService) (entries : List KmacEntry) : Type 0 where
  pub links : live.links.list.items ≡ []
  pub port : live.desk.port ≡ NobodyThere
  pub opened : live.desk.opened ≡ 0
  pub connected : live.desk.connected ≡ 0
  pub messages : live.desk.messages ≡ 0
  pub held : live.speaker.held.items ≡ []
  pub keys : entries_for_service live.keys ≡ entries
  pub moment : live.moment ≡ 0
  pub draining : live.draining ≡ false

-- what it did so far is the same
pub record IsAlike (live other : LiveService) : Type 0 where
  pub links : other.links.list.items ≡ live.links.list.items
  pub desk : other.desk ≡ live.desk
  pub held : other.speaker.held.items ≡ live.speaker.held.items
  pub keys : other.keys ≡ live.keys
  pub moment : other.moment ≡ live.moment
  pub draining : other.draining ≡ live.draining
  pub calls : other.calls ≡ live.calls

-- the clock was asked
pub record SeesMoment (before : Told) (live : LiveService) (now : Told) (after : LiveService) : Type 0 where
  pub moment : ℕ
  pub did : Did before now (Asked moment ∷ [])
  pub is : after ≡ record live { moment = max live.moment moment }

-- what a part that is at work leaves alone, as the loop has it
pub record IsBesideLive (beside : Beside) (live : LiveService) : Type 0 where
  pub moment : beside.moment ≡ live.moment
  pub finds : beside.finds ≡ key_at (entries_for_service live.keys)
  pub held : beside.held ≡ live.speaker.held.items
  pub draining : beside.draining ≡ live.draining
  pub accepts : beside.accepts ≡ accepts_more live.draining live.calls
  pub left : beside.left ≡ none_left

-- ---- a read

-- all that came is done, but for octets that were read of a connection
pub record Pouring (run : ServiceRun) (told : Told) (live : LiveService) (number : ℕ) (octets : List ℕ) : Type 0 where
  pub beside : Beside
  pub rests : AtRest run (pouring beside number octets) (scene_of_live told live)
  pub is : IsBesideLive beside live

abbrev pub HasRead : ServiceRun → Told → LiveService → (number : ℕ) → ReadAnswer → Type 0
HasRead run told live number (read_answer.Some count) = Pouring run told live number (take count live.read)
HasRead run told live number read_answer.NotNow = Resting run told live
HasRead run told live number read_answer.End = Resting run told live
HasRead run told live number read_answer.Failed = Resting run told live

-- ---- a connection that comes

-- it was accepted or dialled, and nothing more
pub record IsNewcomer (conn : ℕ) (deeds : List ServiceDeed) : Type 0 where
  pub read : octets_read_of conn (acts_in_service deeds) ≡ []
  pub given : octets_given_to conn (acts_in_service deeds) ≡ []
  pub brought : is_brought_in conn (acts_in_service deeds) ≡ true
  pub closed : is_closed_in conn (acts_in_service deeds) ≡ false
  pub ends : (service_behind deeds).ends conn ≡ []
  pub told : octets_told_at conn (items_in_service deeds) ≡ []
  pub heard : octets_heard_at conn (items_in_service deeds) ≡ []
  pub unknown : is_known conn (service_behind deeds).known ≡ false

-- a connection came, and nothing was done about it: all else is as of a loop that opens none
pub record Coming (run : ServiceRun) (told : Told) (live : LiveService) (conn : ℕ) : Type 0 where
  pub resting : Resting run told (record live { calls = true })
  pub some : 0 < conn
  pub number : conn ≡ resting.living.beside.numbered
  pub next : accepts_more live.draining live.calls ≡ true → conn ≡ resting.living.beside.opened + 1
  pub newcomer : IsNewcomer conn resting.living.serving.deeds

-- the one connection of a call came
pub record IsDialled (run : ServiceRun) (told : Told) (live : LiveService) (conn : ℕ) : Type 0 where
  pub coming : Coming run told live conn
  pub next : conn ≡ coming.resting.living.beside.opened + 1
  pub calls : live.calls ≡ true
  pub draining : live.draining ≡ false
  pub port : live.desk.port ≡ NobodyThere
  pub links : live.links.list.items ≡ []

-- ---- a turn

-- it can be written to connection 0
abbrev pub is_to_application : Happening → Bool
is_to_application (happening.Accepted c) = false
is_to_application (happening.Readable c) = false
is_to_application (happening.Writable c) = c.0 == 0
is_to_application happening.Quiet = false
is_to_application happening.Ended = false
is_to_application happening.Failed = false

-- an application comes
abbrev pub comes_now : Happening → Attendance → Bool
comes_now what there = if is_attached there then false else is_to_application what

-- it is told who is connected, and then the messages that wait are taken
abbrev pub meets_application : (moment : ℕ) → ToDo
meets_application moment = and_then (λ kind s. informs (connected_lines s.known) s) (λ kind s. takes_waiting kind moment s)

abbrev pub IsSeen : ServiceRun → Told → LiveService → Happening → Type 0
IsSeen run told live (happening.Accepted c) = Coming run told live c.0
IsSeen run told live (happening.Readable c) = Resting run told live
IsSeen run told live (happening.Writable c) = Resting run told live
IsSeen run told live happening.Quiet = Resting run told live
IsSeen run told live happening.Ended = Resting run told live
IsSeen run told live happening.Failed = Resting run told live

-- what a turn brought is left to do, at this moment
abbrev pub IsBrought : ServiceRun → Told → (moment : ℕ) → LiveService → Brought → Type 0
IsBrought run told moment live Application = Living run told (meets_application moment) live
IsBrought run told moment live (Wires what) = IsSeen run told live what
