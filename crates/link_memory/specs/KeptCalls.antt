-- Representation: the record of wires in memory as they keep it, octets of addresses and pieces in one list.
use Rattle.std.specs.Prelude.{◌≡◌, ◌≤◌, ◌<◌, ℕ, ◌+◌, ◌-◌, ◌^◌, true, false, List, [], ◌∷◌, ◌++◌, length, take, drop, slice_set, Option, None, Some, IfSome}
use Rattle.std.specs.Prelude.{is_some, option_map, if◌then◌else◌, Vec, vec_len, vec_capacity}
use Rattle.link_trait.specs.Wires.{Call, Listens, Dials, Turns, Reads, Writes, Closes, given_of, taken_of}
use Rattle.link_memory.specs.WiresMemory.{KeptWires, octets_to, between, gives, open_at, new_line, happening_of, comes}
use Rattle.link_memory.specs.declared.act.Act.TheVariants as act
use Rattle.link_memory.specs.declared.memory_wires.Coming.{Coming}
use Rattle.link_trait.specs.declared.wires.Happening.{Happening}
use Rattle.link_trait.specs.declared.wires.Happening.TheVariants as happening
use Rattle.link_memory.specs.declared.act.Act.{Act}
use Rattle.link_memory.specs.declared.memory_line.MemoryLine.{MemoryLine}
use Rattle.link_memory.specs.declared.call_record.KeptCall.{KeptCall}
use Rattle.link_memory.specs.declared.call_record.CallRecord.{CallRecord}
use Rattle.link_memory.specs.declared.call_record.Note.{Note}
use Rattle.link_memory.specs.declared.call_record.Note.TheVariants as note

-- the call that a note tells, with the octets of its address or piece
abbrev pub call_of : List Act → List ℕ → Note → Call
call_of acts octets (note.Listen is_ok) = Listens octets is_ok
call_of acts octets (note.Dial conn) = Dials octets conn
call_of acts octets (note.Turn until happening) = Turns until happening
call_of acts octets (note.Read conn size waiting answer from to taken) =
    Reads conn size waiting (gives answer (drop taken (octets_to conn (between from to acts))))
call_of acts octets (note.Write conn answer) = Writes conn octets answer
call_of acts octets (note.Close conn) = Closes conn

-- the calls that are kept, with their octets
unfoldable pub calls_with_octets : List Act → List KeptCall → List ℕ → List Call
calls_with_octets acts [] octets = []
calls_with_octets acts (call ∷ calls) octets = call_of acts (take call.octets octets) call.note ∷ calls_with_octets acts calls (drop call.octets octets)

-- how many octets they have
unfoldable pub octet_count_of_calls : List KeptCall → ℕ
octet_count_of_calls [] = 0
octet_count_of_calls (call ∷ calls) = call.octets + octet_count_of_calls calls

-- how many connections are open
unfoldable pub count_of_open_connections : List MemoryLine → ℕ
count_of_open_connections [] = 0
count_of_open_connections (line ∷ lines) = (if is_some line.closed then 0 else 1) + count_of_open_connections lines

-- a record's lengths: its octets are those of its calls, and there is room for the calls that its places stand for
pub record IsCallRecordSound (r : CallRecord) (are_open : ℕ) : Type 0 where
  pub octets : length r.octets.items ≡ octet_count_of_calls r.kept.items
  pub octet_room : vec_len r.octets ≤ r.octet_places
  pub octet_capacity : r.octet_places ≤ vec_capacity r.octets
  pub places : vec_len r.kept + are_open ≡ r.places
  pub call_room : r.places ≤ r.call_places
  pub call_capacity : r.call_places ≤ vec_capacity r.kept

-- a record kept one call more, with the octets of its address or piece, and so many places
pub record KeepsCallInRecord (r now : CallRecord) (call : Note) (octets : List ℕ) (places : ℕ) : Type 0 where
  pub calls : now.kept.items ≡ r.kept.items ++ record { note = call; octets = length octets } ∷ []
  pub octet_list : now.octets.items ≡ r.octets.items ++ octets
  pub call_count : vec_len now.kept ≡ vec_len r.kept + 1
  pub octet_count : vec_len now.octets ≡ vec_len r.octets + length octets
  pub taken : now.places ≡ r.places + places
  pub call_places : now.call_places ≡ r.call_places
  pub octet_places : now.octet_places ≡ r.octet_places
  pub call_capacity : vec_capacity r.kept ≤ vec_capacity now.kept
  pub octet_capacity : vec_capacity r.octets ≤ vec_capacity now.octets

-- calls that took nothing from a connection, and gave nothing to it
pub record IsUntouched (conn : ℕ) (calls : List Call) : Type 0 where
  pub taken : taken_of conn calls ≡ []
  pub given : given_of conn calls ≡ []

-- the record is sound, there is room for the connections and for those whose reads leave octets, and a connection that wasn't
-- opened is untouched
pub record IsCallRecordInOrder {Y Z : Type 0} (acts : List Act) (r : CallRecord) (lines : Vec MemoryLine Y) (again : Vec ℕ Z) : Type 0 where
  pub sound : IsCallRecordSound r (count_of_open_connections lines.items)
  pub line_count : vec_len lines ≤ vec_len r.kept
  pub line_room : r.call_places ≤ vec_capacity lines
  pub again_count : vec_len again ≤ vec_len r.kept
  pub again_room : r.call_places ≤ vec_capacity again
  pub untouched : (conn : ℕ) → length lines.items < conn → IsUntouched conn (calls_with_octets acts r.kept.items r.octets.items)

-- the connection stays open with this line
pub record StaysOpen (lines : List MemoryLine) (conn : ℕ) (line : MemoryLine) : Type 0 where
  pub open_before : is_some (open_at lines conn) ≡ true
  pub open_after : is_some line.closed ≡ false

-- a connection that is open, with this room, and one whose peer has closed
abbrev pub with_room : List MemoryLine → ℕ → ℕ → Option (ℕ × MemoryLine)
with_room lines conn room = option_map (λ line. (conn, record line { room = room })) (open_at lines conn)

abbrev pub when_shut : List MemoryLine → ℕ → Option (ℕ × MemoryLine)
when_shut lines conn = option_map (λ line. (conn, record line { is_shut = true })) (open_at lines conn)

-- the happening of an act, and the connection that becomes another one by it
abbrev pub act_of : List MemoryLine → Act → Happening × Option (ℕ × MemoryLine)
act_of lines act.Accept = (happening_of (length lines) (Some act.Accept), None)
act_of lines (act.Bring conn octets) = (happening_of (length lines) (Some (act.Bring conn octets)), None)
act_of lines (act.Room conn room) = (happening_of (length lines) (Some (act.Room conn room)), with_room lines conn room)
act_of lines (act.Shut conn) = (happening_of (length lines) (Some (act.Shut conn)), when_shut lines conn)
act_of lines act.Quiet = (happening_of (length lines) (Some act.Quiet), None)

-- the connections with a change
abbrev pub put_in : List MemoryLine → Option (ℕ × MemoryLine) → List MemoryLine
put_in lines None = lines
put_in lines (Some (conn, line)) = slice_set lines (conn - 1) line

-- what a turn passes was passed, and what it changes was changed
abbrev pub advanced : KeptWires → Coming → KeptWires
advanced s c = record s { heard = s.heard + c.passed; done = s.done + c.acts; lines = put_in s.lines c.change }

-- a connection is opened where it was accepted
abbrev pub wires_behind_happening : Happening → KeptWires → KeptWires
wires_behind_happening (happening.Accepted conn) s = record s { lines = s.lines ++ new_line s.done s.room ∷ [] }
wires_behind_happening (happening.Readable conn) s = s
wires_behind_happening (happening.Writable conn) s = s
wires_behind_happening happening.Quiet s = s
wires_behind_happening happening.Ended s = s
wires_behind_happening happening.Failed s = s

-- what a turn brings next, as it is found
pub record IsComing (s : KeptWires) (c : Coming) : Type 0 where
  pub happening : c.happening ≡ (comes s).happening
  pub state : wires_behind_happening c.happening (advanced s c) ≡ (comes s).state
  pub passed : s.heard + c.passed < 2 ^ 64
  pub acts : s.done + c.acts < 2 ^ 64
  pub change : IfSome c.change (λ change. StaysOpen s.lines change.0 change.1)
