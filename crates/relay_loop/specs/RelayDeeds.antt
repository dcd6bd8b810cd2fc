-- Representation: what a relay did in its order, each line where it is put behind the lines that wait, and not where it is written; no claim rests on it.
use Rattle.std.specs.Prelude.{◌≡◌, ◌⊎◌, ℕ, Bool, false, List, [], ◌∷◌, ◌++◌, fold}
use Rattle.std.specs.List.{flat_map, list_any}
use Rattle.er_base.specs.declared.side.Side.{Side}
use Rattle.outside.specs.Acts.{SeenCall, Listened, Dialled, Turned, Read, Sent, Closed, Act, Fetched, Wrote, Called, Asked, Drew}
use Rattle.outside.specs.Doings.{Told, Did}
use Rattle.outside.specs.Scripts.{printing}
use Rattle.relay_loop.specs.declared.fault.RelayFault.{RelayFault}
use Rattle.relay_loop.specs.declared.fault.RelayFault.TheVariants as fault
use Rattle.relay_loop.specs.RelayLines.{RelayLine, Heading, Opening, Received, Given, SideEnd, Closing, text_of_line, told_in_lines}
use Rattle.relay_loop.specs.Octets.{read_by_call, given_by_call}
use Rattle.relay_loop.specs.Connections.{closes_by_call}
use Rattle.relay_loop.specs.Endings.{loop_call}
use Rattle.relay_loop.specs.Settled.{SocketTold, told_nothing, told_by_call}

pub data RelayDeed : Type 0 where
  -- a line waits behind those that wait
  Puts : (line : RelayLine) → RelayDeed
  -- all that wait are written
  Flushes : RelayDeed
  -- a call of the wires
  Calls : (call : SeenCall) → RelayDeed
  -- the clock was asked
  Asks : (moment : ℕ) → RelayDeed

-- the acts that these are, where this text waits before them
unfoldable pub acts_from : (waiting : List ℕ) → List RelayDeed → List Act
acts_from waiting [] = []
acts_from waiting (Puts line ∷ deeds) = acts_from (waiting ++ text_of_line line) deeds
acts_from waiting (Flushes ∷ deeds) = printing waiting ++ acts_from [] deeds
acts_from waiting (Calls call ∷ deeds) = Called call ∷ acts_from waiting deeds
acts_from waiting (Asks moment ∷ deeds) = Asked moment ∷ acts_from waiting deeds

-- and the text that waits behind them
unfoldable pub text_left : (waiting : List ℕ) → List RelayDeed → List ℕ
text_left waiting [] = waiting
text_left waiting (Puts line ∷ deeds) = text_left (waiting ++ text_of_line line) deeds
text_left waiting (Flushes ∷ deeds) = text_left [] deeds
text_left waiting (Calls call ∷ deeds) = text_left waiting deeds
text_left waiting (Asks moment ∷ deeds) = text_left waiting deeds

-- these were done and nothing else; the text that waits is as it was and as it is now
pub record Performs (waiting left : List ℕ) (before now : Told) (deeds : List RelayDeed) : Type 0 where
  pub did : Did before now (acts_from waiting deeds)
  pub left_is : left ≡ text_left waiting deeds

-- what was done last where a relay breaks off in a turn or before the first: a write of lines that failed, or nothing
abbrev pub IsLastDone : RelayFault → List Act → Type 0
IsLastDone fault.Wires acts = ⊥
IsLastDone fault.Sink acts = (text : List ℕ) × (acts ≡ Wrote text false ∷ [])
IsLastDone (fault.NoMemory want) acts = acts ≡ []

-- these were done, and at the last it broke off
pub record BreaksBehind (fault : RelayFault) (waiting : List ℕ) (before now : Told) (deeds : List RelayDeed) : Type 0 where
  pub last : List Act
  pub is_last : IsLastDone fault last
  pub did : Did before now (acts_from waiting deeds ++ last)

-- ---- lists of deeds

abbrev pub deeds_of_acts : List Act → List RelayDeed
deeds_of_acts [] = []
deeds_of_acts (Fetched name answer ∷ acts) = deeds_of_acts acts
deeds_of_acts (Wrote piece done ∷ acts) = deeds_of_acts acts
deeds_of_acts (Called call ∷ acts) = Calls call ∷ deeds_of_acts acts
deeds_of_acts (Asked moment ∷ acts) = Asks moment ∷ deeds_of_acts acts
deeds_of_acts (Drew word ∷ acts) = deeds_of_acts acts

abbrev pub deeds_of_lines : List RelayLine → List RelayDeed
deeds_of_lines [] = []
deeds_of_lines (line ∷ lines) = Puts line ∷ deeds_of_lines lines

abbrev pub line_of_deed : RelayDeed → List RelayLine
line_of_deed (Puts line) = line ∷ []
line_of_deed Flushes = []
line_of_deed (Calls call) = []
line_of_deed (Asks moment) = []

-- all lines that were put
abbrev pub lines_in : List RelayDeed → List RelayLine
lines_in deeds = flat_map line_of_deed deeds

-- those that were written, where these wait before; and those that wait then
unfoldable pub written_from : (waiting : List RelayLine) → List RelayDeed → List RelayLine
written_from waiting [] = []
written_from waiting (Puts line ∷ deeds) = written_from (waiting ++ line ∷ []) deeds
written_from waiting (Flushes ∷ deeds) = waiting ++ written_from [] deeds
written_from waiting (Calls call ∷ deeds) = written_from waiting deeds
written_from waiting (Asks moment ∷ deeds) = written_from waiting deeds

unfoldable pub waiting_from : (waiting : List RelayLine) → List RelayDeed → List RelayLine
waiting_from waiting [] = waiting
waiting_from waiting (Puts line ∷ deeds) = waiting_from (waiting ++ line ∷ []) deeds
waiting_from waiting (Flushes ∷ deeds) = waiting_from [] deeds
waiting_from waiting (Calls call ∷ deeds) = waiting_from waiting deeds
waiting_from waiting (Asks moment ∷ deeds) = waiting_from waiting deeds

abbrev pub lines_written : List RelayDeed → List RelayLine
lines_written deeds = written_from [] deeds

abbrev pub given_by_deed : (conn : ℕ) → RelayDeed → List ℕ
given_by_deed conn (Puts line) = []
given_by_deed conn Flushes = []
given_by_deed conn (Calls call) = given_by_call conn call
given_by_deed conn (Asks moment) = []

abbrev pub read_by_deed : (conn : ℕ) → RelayDeed → List ℕ
read_by_deed conn (Puts line) = []
read_by_deed conn Flushes = []
read_by_deed conn (Calls call) = read_by_call conn call
read_by_deed conn (Asks moment) = []

abbrev pub closes_by_deed : (conn : ℕ) → RelayDeed → Bool
closes_by_deed conn (Puts line) = false
closes_by_deed conn Flushes = false
closes_by_deed conn (Calls call) = closes_by_call conn call
closes_by_deed conn (Asks moment) = false

-- what a socket answered
abbrev pub told_by_deed : (conn : ℕ) → SocketTold → RelayDeed → SocketTold
told_by_deed conn told (Puts line) = told
told_by_deed conn told Flushes = told
told_by_deed conn told (Calls call) = told_by_call conn told call
told_by_deed conn told (Asks moment) = told

abbrev pub socket_behind : (conn : ℕ) → SocketTold → List RelayDeed → SocketTold
socket_behind conn told deeds = fold (told_by_deed conn) told deeds

abbrev pub socket_in : (conn : ℕ) → List RelayDeed → SocketTold
socket_in conn deeds = socket_behind conn told_nothing deeds

-- listens and turns
abbrev pub loop_call_by_deed : RelayDeed → List SeenCall
loop_call_by_deed (Puts line) = []
loop_call_by_deed Flushes = []
loop_call_by_deed (Calls call) = loop_call call
loop_call_by_deed (Asks moment) = []

abbrev pub loop_calls_in : List RelayDeed → List SeenCall
loop_calls_in deeds = flat_map loop_call_by_deed deeds

abbrev pub given_in : (conn : ℕ) → List RelayDeed → List ℕ
given_in conn deeds = flat_map (given_by_deed conn) deeds

abbrev pub octets_read_at : (conn : ℕ) → List RelayDeed → List ℕ
octets_read_at conn deeds = flat_map (read_by_deed conn) deeds

abbrev pub closes_in : (conn : ℕ) → List RelayDeed → Bool
closes_in conn deeds = list_any (closes_by_deed conn) deeds

-- the octets of a side that lines told as given which were put, and which were written
abbrev pub octets_told_of : (number : ℕ) → Side → List RelayDeed → List ℕ
octets_told_of number side deeds = told_in_lines number side (lines_in deeds)

abbrev pub octets_written_of : (number : ℕ) → Side → List RelayDeed → List ℕ
octets_written_of number side deeds = told_in_lines number side (lines_written deeds)

-- ---- at each moment

-- this holds behind each of these deeds, where those were done before
abbrev pub Steadily : (List RelayDeed → Type 0) → (done deeds : List RelayDeed) → Type 0
Steadily Holds done [] = Holds done
Steadily Holds done (deed ∷ deeds) = Holds done × Steadily Holds (done ++ deed ∷ []) deeds

-- ---- which connection deeds are of

abbrev pub IsLineOf : (number : ℕ) → RelayLine → Type 0
IsLineOf number Heading = ⊥
IsLineOf number (Opening moment of) = of ≡ number
IsLineOf number (Received moment of from octets) = of ≡ number
IsLineOf number (Given moment of from octets) = of ≡ number
IsLineOf number (SideEnd moment of from) = of ≡ number
IsLineOf number (Closing moment of) = of ≡ number

-- a call at one of two sockets
abbrev pub IsCallAt : (e r : ℕ) → SeenCall → Type 0
IsCallAt e r (Listened address listens) = ⊥
IsCallAt e r (Dialled address to) = ⊥
IsCallAt e r (Turned until what) = ⊥
IsCallAt e r (Read conn size reading) = (conn ≡ e) ⊎ (conn ≡ r)
IsCallAt e r (Sent conn piece answer) = (conn ≡ e) ⊎ (conn ≡ r)
IsCallAt e r (Closed conn) = (conn ≡ e) ⊎ (conn ≡ r)

-- a deed of a visit of the connection of this number and these sockets
abbrev pub IsOfVisit : (number e r : ℕ) → RelayDeed → Type 0
IsOfVisit number e r (Puts line) = IsLineOf number line
IsOfVisit number e r Flushes = Unit {0}
IsOfVisit number e r (Calls call) = IsCallAt e r call
IsOfVisit number e r (Asks moment) = ⊥

abbrev pub AreOfVisit : (number e r : ℕ) → List RelayDeed → Type 0
AreOfVisit number e r [] = Unit {0}
AreOfVisit number e r (deed ∷ deeds) = IsOfVisit number e r deed × AreOfVisit number e r deeds
