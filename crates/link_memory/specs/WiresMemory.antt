-- Wires in memory (this profile): a script of acts, what became of each connection, the record of the calls and its capacity, which
-- calls fail. Calls that can fail are counted from 1; a call fails where its number is listed.
use Rattle.std.specs.Prelude.{ℕ, ◌+◌, ◌-◌, ◌==◌, ◌&&◌, ◌||◌, not, min, Bool, true, false, List, [], ◌∷◌, ◌++◌, length, take, drop, slice_get, slice_set}
use Rattle.std.specs.Prelude.{is_some, unwrap_or, Option, None, Some, nat_lt, if◌then◌else◌}
use Rattle.link_trait.specs.Outside.{counted}
use Rattle.link_memory.specs.OutsideMemory.{is_listed}
use Rattle.link_trait.specs.Wires.{Call, Listens, Dials, Turns, Reads, Writes, Closes, Reading, Gave, NotNow, End, Failed, Line, Lines, taken_of, given_of}
use Rattle.link_memory.specs.declared.act.Act.{Act}
use Rattle.link_memory.specs.declared.act.Act.TheVariants as act
use Rattle.link_memory.specs.declared.memory_line.MemoryLine.{MemoryLine}
use Rattle.link_trait.specs.declared.wires.Happening.{Happening}
use Rattle.link_trait.specs.declared.wires.Happening.TheVariants as happening
use Rattle.link_trait.specs.declared.wires.ReadAnswer.{ReadAnswer}
use Rattle.link_trait.specs.declared.wires.ReadAnswer.TheVariants as read_answer
use Rattle.link_trait.specs.declared.wires.WriteAnswer.{WriteAnswer}
use Rattle.link_trait.specs.declared.wires.WriteAnswer.TheVariants as write_answer

-- what wires in memory hold
pub record KeptWires : Type 0 where
  -- the script, and how many of its acts were done
  pub acts : List Act
  pub done : ℕ
  pub listening : Bool
  -- the connections, from number 1 on, and the room that each begins with
  pub lines : List MemoryLine
  pub room : ℕ
  -- the connections whose reads left octets, in their order, and of how many of these a turn told
  pub again : List ℕ
  pub heard : ℕ
  -- the calls that were kept, how many places they take, how many octets their addresses and pieces have, and the capacities
  pub calls : List Call
  pub places : ℕ
  pub octets : ℕ
  pub call_places : ℕ
  pub octet_places : ℕ
  -- whether a call found a capacity spent
  pub spent : Bool
  -- the numbers of the calls that fail, how many calls that can fail were made, and how many failed
  pub failing : List ℕ
  pub asked : ℕ
  pub faults : ℕ
  pub turn_faults : ℕ

-- wires as they are made
abbrev pub new_wires : List Act → ℕ → ℕ → ℕ → KeptWires
new_wires acts room calls octets = record {
  acts = acts;
  done = 0;
  listening = false;
  lines = [];
  room = room;
  again = [];
  heard = 0;
  calls = [];
  places = 0;
  octets = 0;
  call_places = calls;
  octet_places = octets;
  spent = false;
  failing = [];
  asked = 0;
  faults = 0;
  turn_faults = 0;
}

-- ---- connections

-- the octets that an act brings to a connection
abbrev pub brought_by : ℕ → Act → List ℕ
brought_by conn act.Accept = []
brought_by conn (act.Bring other octets) = if other == conn then octets else []
brought_by conn (act.Room other room) = []
brought_by conn (act.Shut other) = []
brought_by conn act.Quiet = []

-- the octets that acts bring to a connection
unfoldable pub octets_to : ℕ → List Act → List ℕ
octets_to conn [] = []
octets_to conn (one ∷ acts) = brought_by conn one ++ octets_to conn acts

-- the acts from one place to another
abbrev pub between : ℕ → ℕ → List Act → List Act
between from to acts = take (to - from) (drop from acts)

-- the octets that were brought to a connection: those of the acts that were done while it was open
abbrev pub brought : List Act → ℕ → ℕ → MemoryLine → List ℕ
brought acts done conn line = octets_to conn (between line.from (unwrap_or line.closed done) acts)

-- a connection by its number
abbrev pub line_at : List MemoryLine → ℕ → Option MemoryLine
line_at lines conn = if conn == 0 then None else slice_get lines (conn - 1)

-- a connection that is open, by its number
abbrev pub if_open : Option MemoryLine → Option MemoryLine
if_open None = None
if_open (Some line) = if is_some line.closed then None else Some line

abbrev pub open_at : List MemoryLine → ℕ → Option MemoryLine
open_at lines conn = if_open (line_at lines conn)

abbrev pub waits_of : List Act → ℕ → ℕ → Option MemoryLine → List ℕ
waits_of acts done conn None = []
waits_of acts done conn (Some line) = drop line.taken (brought acts done conn line)

-- the octets that wait at a connection: of those brought to it, those that weren't taken
abbrev pub waits_at : KeptWires → ℕ → List ℕ
waits_at s conn = waits_of s.acts s.done conn (line_at s.lines conn)

-- a connection as it is opened, behind so many acts
abbrev pub new_line : ℕ → ℕ → MemoryLine
new_line done room = record { from = done; closed = None; taken = 0; room = room; is_shut = false }

-- they tell until a call finds a capacity spent
abbrev pub told_calls : KeptWires → Option (List Call)
told_calls s = if s.spent then None else Some s.calls

-- what is told of a connection; of one that wasn't opened nothing waits, and it has no room
abbrev pub room_of : Option MemoryLine → ℕ
room_of None = 0
room_of (Some line) = line.room

abbrev pub shut_of : Option MemoryLine → Bool
shut_of None = false
shut_of (Some line) = line.is_shut

unfoldable pub line_of_connection : KeptWires → ℕ → Line
line_of_connection s conn = record {
  taken = taken_of conn s.calls;
  given = given_of conn s.calls;
  waits = waits_at s conn;
  room = room_of (line_at s.lines conn);
  shut = shut_of (line_at s.lines conn);
}

unfoldable pub told_lines : KeptWires → Option Lines
told_lines s = if s.spent then None else Some (line_of_connection s)

-- ---- calls

-- whether so many places and octets more fit
abbrev pub fits : KeptWires → ℕ → ℕ → Bool
fits s places octets = not (nat_lt s.call_places (s.places + places)) && not (nat_lt s.octet_places (s.octets + octets))

-- a call was kept, which takes so many places, and whose address or piece has so many octets
abbrev pub wires_with_call_kept : KeptWires → Call → ℕ → ℕ → KeptWires
wires_with_call_kept s call places octets = record s { calls = s.calls ++ call ∷ []; places = s.places + places; octets = s.octets + octets }

-- whether the next call that can fail is listed to fail, and that one such call was made
abbrev pub is_to_fail : KeptWires → Bool
is_to_fail s = is_listed s.failing s.asked

abbrev pub wires_with_call_counted : KeptWires → KeptWires
wires_with_call_counted s = record s { asked = counted s.asked }

-- a read or write failed; a listen, dial or turn failed
abbrev pub failed : KeptWires → KeptWires
failed s = record s { faults = counted s.faults }

abbrev pub turn_failed : KeptWires → KeptWires
turn_failed s = record s { faults = counted s.faults; turn_faults = counted s.turn_faults }

-- a call found a capacity spent
abbrev pub spends : KeptWires → KeptWires
spends s = record s { spent = true }

-- listen and dial: they fail where a capacity is spent, and where the call is listed. A connection that is opened takes a second
-- place, for its close
abbrev pub is_listen_ok : KeptWires → List ℕ → Bool
is_listen_ok s address = fits s 1 (length address) && not (is_to_fail s)

abbrev pub after_listen : KeptWires → List ℕ → KeptWires
after_listen s address =
    if fits s 1 (length address)
    then (if is_to_fail s
    then turn_failed (wires_with_call_kept (wires_with_call_counted s) (Listens address false) 1 (length address))
    else record (wires_with_call_kept (wires_with_call_counted s) (Listens address true) 1 (length address)) { listening = true })
    else turn_failed (spends (wires_with_call_counted s))

-- the number of the connection that a dial opens
abbrev pub dialled_in : KeptWires → List ℕ → Option ℕ
dialled_in s address =
    if is_to_fail s then None else if fits s 2 (length address) then Some (length s.lines + 1) else None

abbrev pub after_dial : KeptWires → List ℕ → KeptWires
after_dial s address =
    if is_to_fail s
    then (if fits s 1 (length address)
    then turn_failed (wires_with_call_kept (wires_with_call_counted s) (Dials address None) 1 (length address))
    else turn_failed (spends (wires_with_call_counted s)))
    else if fits s 2 (length address)
    then record (wires_with_call_kept (wires_with_call_counted s) (Dials address (Some (length s.lines + 1))) 2 (length address))
    { lines = s.lines ++ new_line s.done s.room ∷ [] }
    else turn_failed (spends (wires_with_call_counted s))

-- ---- turn: what comes next

-- the first connection that is still open, and how many stand up to it
unfoldable pub first_open : List MemoryLine → List ℕ → ℕ × Option ℕ
first_open lines [] = (0, None)
first_open lines (conn ∷ more) =
    if is_some (open_at lines conn) then (1, Some conn) else (1 + (first_open lines more).0, (first_open lines more).1)

abbrev pub is_accept : Act → Bool
is_accept act.Accept = true
is_accept (act.Bring conn octets) = false
is_accept (act.Room conn room) = false
is_accept (act.Shut conn) = false
is_accept act.Quiet = false

-- the first act that isn't skipped, and how many stand up to it: an accept is skipped where nobody listens
unfoldable pub first_act : Bool → List Act → ℕ × Option Act
first_act listening [] = (0, None)
first_act listening (one ∷ more) =
    if listening || not (is_accept one) then (1, Some one) else (1 + (first_act listening more).0, (first_act listening more).1)

-- the happening of an act, and behind the last one
abbrev pub happening_of : ℕ → Option Act → Happening
happening_of opened None = happening.Ended
happening_of opened (Some act.Accept) = happening.Accepted (record { 0 = opened + 1 })
happening_of opened (Some (act.Bring conn octets)) = happening.Readable (record { 0 = conn })
happening_of opened (Some (act.Room conn room)) = happening.Writable (record { 0 = conn })
happening_of opened (Some (act.Shut conn)) = happening.Readable (record { 0 = conn })
happening_of opened (Some act.Quiet) = happening.Quiet

abbrev pub changed_at : List MemoryLine → ℕ → (MemoryLine → MemoryLine) → Option MemoryLine → List MemoryLine
changed_at lines conn change None = lines
changed_at lines conn change (Some line) = slice_set lines (conn - 1) (change line)

-- a connection that is open was changed
abbrev pub memory_lines_with_change : List MemoryLine → ℕ → (MemoryLine → MemoryLine) → List MemoryLine
memory_lines_with_change lines conn change = changed_at lines conn change (open_at lines conn)

-- the connections behind an act, of which `done` are done then. Octets that are brought are those of the script
abbrev pub lines_after : List MemoryLine → ℕ → ℕ → Option Act → List MemoryLine
lines_after lines done room None = lines
lines_after lines done room (Some act.Accept) = lines ++ new_line done room ∷ []
lines_after lines done room (Some (act.Bring conn octets)) = lines
lines_after lines done room (Some (act.Room conn more)) = memory_lines_with_change lines conn (λ line. record line { room = more })
lines_after lines done room (Some (act.Shut conn)) = memory_lines_with_change lines conn (λ line. record line { is_shut = true })
lines_after lines done room (Some act.Quiet) = lines

-- what a turn brings: the happening, and the wires then
pub record Coming : Type 0 where
  pub happening : Happening
  pub state : KeptWires

abbrev pub coming : KeptWires → ℕ × Option ℕ → ℕ × Option Act → Coming
coming s (passed, Some conn) next = record { happening = happening.Readable (record { 0 = conn }); state = record s { heard = s.heard + passed } }
coming s (passed, None) (count, one) = record {
  happening = happening_of (length s.lines) one;
  state = record s { heard = s.heard + passed; done = s.done + count; lines = lines_after s.lines (s.done + count) s.room one };
}

-- connections whose reads left octets come first, then the acts
abbrev pub comes : KeptWires → Coming
comes s = coming s (first_open s.lines (drop s.heard s.again)) (first_act s.listening (drop s.done s.acts))

-- the places that a happening takes: an accepted connection takes a second one for its close
abbrev pub places_of : Happening → ℕ
places_of (happening.Accepted conn) = 2
places_of (happening.Readable conn) = 1
places_of (happening.Writable conn) = 1
places_of happening.Quiet = 1
places_of happening.Ended = 1
places_of happening.Failed = 1

-- a turn fails where the call is listed and where a capacity is spent; then nothing of the script is done
abbrev pub happening_in : KeptWires → Happening
happening_in s =
    if is_to_fail s then happening.Failed
    else if fits s (places_of (comes (wires_with_call_counted s)).happening) 0 then (comes (wires_with_call_counted s)).happening else happening.Failed

abbrev pub after_turn : KeptWires → Option ℕ → KeptWires
after_turn s until =
    if is_to_fail s
    then (if fits s 1 0 then turn_failed (wires_with_call_kept (wires_with_call_counted s) (Turns until happening.Failed) 1 0)
    else turn_failed (spends (wires_with_call_counted s)))
    else if fits s (places_of (comes (wires_with_call_counted s)).happening) 0
    then wires_with_call_kept (comes (wires_with_call_counted s)).state (Turns until (comes (wires_with_call_counted s)).happening)
    (places_of (comes (wires_with_call_counted s)).happening) 0
    else turn_failed (spends (wires_with_call_counted s))

-- ---- read, write and close

-- a read of an open connection where so many octets wait
abbrev pub answer_to_read : Option MemoryLine → ℕ → ℕ → ReadAnswer
answer_to_read None waiting size = read_answer.Failed
answer_to_read (Some line) waiting size =
    if waiting == 0 then (if line.is_shut then read_answer.End else read_answer.NotNow) else read_answer.Some (min size waiting)

abbrev pub read_in : KeptWires → ℕ → ℕ → ReadAnswer
read_in s conn size =
    if fits s 1 0
    then (if is_to_fail s then read_answer.Failed else answer_to_read (open_at s.lines conn) (length (waits_at s conn)) size)
    else read_answer.Failed

-- what a read gives, of the octets that wait
abbrev pub gives : ReadAnswer → List ℕ → Reading
gives (read_answer.Some n) waits = Gave (take n waits)
gives read_answer.NotNow waits = NotNow
gives read_answer.End waits = End
gives read_answer.Failed waits = Failed

-- what an answered read changes beside its place in the record. Where octets are left, a turn tells of the connection once more
abbrev pub read_done : KeptWires → ℕ → ℕ → ReadAnswer → KeptWires
read_done s conn waiting (read_answer.Some n) = record s {
  lines = memory_lines_with_change s.lines conn (λ line. record line { taken = line.taken + n });
  again = if nat_lt n waiting then s.again ++ conn ∷ [] else s.again;
}
read_done s conn waiting read_answer.NotNow = s
read_done s conn waiting read_answer.End = s
read_done s conn waiting read_answer.Failed = failed s

abbrev pub after_read : KeptWires → ℕ → ℕ → KeptWires
after_read s conn size =
    if fits s 1 0
    then read_done (wires_with_call_kept (wires_with_call_counted s)
    (Reads conn size (length (waits_at s conn)) (gives (read_in s conn size) (waits_at s conn))) 1 0)
    conn (length (waits_at s conn)) (read_in s conn size)
    else failed (spends (wires_with_call_counted s))

-- a write to an open connection
abbrev pub writes_of : Option MemoryLine → ℕ → WriteAnswer
writes_of None size = write_answer.Failed
writes_of (Some line) size = if line.room == 0 then write_answer.NotNow else write_answer.Some (min size line.room)

abbrev pub written_in : KeptWires → ℕ → ℕ → WriteAnswer
written_in s conn size =
    if fits s 1 size
    then (if is_to_fail s then write_answer.Failed else writes_of (open_at s.lines conn) size)
    else write_answer.Failed

abbrev pub write_done : KeptWires → ℕ → WriteAnswer → KeptWires
write_done s conn (write_answer.Some n) = record s { lines = memory_lines_with_change s.lines conn (λ line. record line { room = line.room - n }) }
write_done s conn write_answer.NotNow = s
write_done s conn write_answer.Failed = failed s

abbrev pub after_write_to : KeptWires → ℕ → List ℕ → KeptWires
after_write_to s conn piece =
    if fits s 1 (length piece)
    then write_done (wires_with_call_kept (wires_with_call_counted s) (Writes conn piece (written_in s conn (length piece))) 1 (length piece)) conn
    (written_in s conn (length piece))
    else failed (spends (wires_with_call_counted s))

-- the close of an open connection has its place; another close that finds none is a fault
abbrev pub after_close : KeptWires → ℕ → KeptWires
after_close s conn =
    if is_some (open_at s.lines conn)
    then record (wires_with_call_kept s (Closes conn) 0 0) { lines = memory_lines_with_change s.lines conn (λ line. record line { closed = Some s.done }) }
    else if fits s 1 0 then wires_with_call_kept s (Closes conn) 1 0 else failed (spends s)
