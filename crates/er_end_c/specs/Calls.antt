-- Contract: what a call that is an event at an end leaves and answers.
use Rattle.std.specs.Prelude.{ℕ, ℤ, ◌≡◌, ◌==◌, max, Bool, true, false, not, nat_lt, if◌then◌else◌, List, Option, Some, None}
use Rattle.safety_automaton.specs.Keys.{key_at}
use Rattle.er_end_model.specs.Steps.{Finds}
use Rattle.er_end_model.specs.Outcomes.{Outcome}
use Rattle.er_end_model.specs.Ends as model
use Rattle.er_end_model.specs.Ends.{Event}
use Rattle.er_end.specs.KeptEnds.{KEnd, kept_end_behind_event, tells, used_of}
use Rattle.er_end_c.specs.declared.handle.CEnd.{CEnd}
use Rattle.er_end_c.specs.declared.held.Held.{Held}
use Rattle.er_end_c.specs.declared.face.CDeeds.{CDeeds}
use Rattle.er_end_c.specs.Deeds.{no_deeds, deed_flag, deeds_told, status_told}
use Rattle.er_end_c.specs.Statuses.{closed_handle, late_moment, misused_start}
use Rattle.er_end_c.specs.Handles.{end_held_in_handle, held_with_end, key_entries_of_handle}

-- a call that is an event at an end, with what it was passed
pub data HandleCall : Type 0 where
  Start : (now : ℕ) → HandleCall
  Octets : (now : ℕ) (piece : List ℕ) → HandleCall
  Send : (now : ℕ) (text : List ℕ) → HandleCall
  Take : (now : ℕ) → HandleCall
  Release : (now sub : ℕ) → HandleCall
  Tick : (now : ℕ) → HandleCall
  Ended : HandleCall
  Fault : HandleCall
  Stalled : HandleCall

-- a moment above 10 ^ 15 milliseconds
abbrev pub is_moment_too_late : ℕ → Bool
is_moment_too_late now = nat_lt 1000000000000000 now

-- its moment; three calls have none
abbrev pub moment_of : HandleCall → ℕ
moment_of (Start now) = now
moment_of (Octets now piece) = now
moment_of (Send now text) = now
moment_of (Take now) = now
moment_of (Release now sub) = now
moment_of (Tick now) = now
moment_of Ended = 0
moment_of Fault = 0
moment_of Stalled = 0

-- whether it has one
abbrev pub has_moment : HandleCall → Bool
has_moment (Start now) = true
has_moment (Octets now piece) = true
has_moment (Send now text) = true
has_moment (Take now) = true
has_moment (Release now sub) = true
has_moment (Tick now) = true
has_moment Ended = false
has_moment Fault = false
has_moment Stalled = false

-- ---- moments that go back, where `last` is the greatest that was passed before

abbrev pub is_back : HandleCall → (last : ℕ) → Bool
is_back call last = if has_moment call then nat_lt (moment_of call) last else false

abbrev pub last_moment_behind : HandleCall → (last : ℕ) → ℕ
last_moment_behind call last = if has_moment call then max last (moment_of call) else last

-- ---- starts: an end that calls awaits one, until it is started; an end that answers awaits none

-- a start that is misused: none is awaited
abbrev pub is_start_misused : HandleCall → (awaits_start : Bool) → Bool
is_start_misused (Start now) awaits_start = not awaits_start
is_start_misused (Octets now piece) awaits_start = false
is_start_misused (Send now text) awaits_start = false
is_start_misused (Take now) awaits_start = false
is_start_misused (Release now sub) awaits_start = false
is_start_misused (Tick now) awaits_start = false
is_start_misused Ended awaits_start = false
is_start_misused Fault awaits_start = false
is_start_misused Stalled awaits_start = false

abbrev pub start_awaited_behind : HandleCall → (awaits_start : Bool) → Bool
start_awaited_behind (Start now) awaits_start = false
start_awaited_behind (Octets now piece) awaits_start = awaits_start
start_awaited_behind (Send now text) awaits_start = awaits_start
start_awaited_behind (Take now) awaits_start = awaits_start
start_awaited_behind (Release now sub) awaits_start = awaits_start
start_awaited_behind (Tick now) awaits_start = awaits_start
start_awaited_behind Ended awaits_start = awaits_start
start_awaited_behind Fault awaits_start = awaits_start
start_awaited_behind Stalled awaits_start = awaits_start

-- the event of the end model, where keys are found so
abbrev pub event_of : Finds → HandleCall → Event
event_of finds (Start now) = model.Start
event_of finds (Octets now piece) = model.Come finds piece
event_of finds (Send now text) = model.Send text
event_of finds (Take now) = model.Take
event_of finds (Release now sub) = model.Leave sub
event_of finds (Tick now) = model.Tick
event_of finds Ended = model.Ended
event_of finds Fault = model.Fault
event_of finds Stalled = model.Stalled

-- how many octets a call uses
abbrev pub octet_count_of_call : HandleCall → KEnd → ℕ
octet_count_of_call (Start now) k = 0
octet_count_of_call (Octets now piece) k = used_of k piece
octet_count_of_call (Send now text) k = 0
octet_count_of_call (Take now) k = 0
octet_count_of_call (Release now sub) k = 0
octet_count_of_call (Tick now) k = 0
octet_count_of_call Ended k = 0
octet_count_of_call Fault k = 0
octet_count_of_call Stalled k = 0

-- ---- the call at an end that is held

abbrev pub finds_in : Held → Finds
finds_in h = key_at (key_entries_of_handle h)

abbrev pub handle_end_behind_call : HandleCall → Held → KEnd
handle_end_behind_call call h = kept_end_behind_event (moment_of call) (event_of (finds_in h) call) h.end

-- the outcomes that it tells
abbrev pub told_at : HandleCall → Held → List Outcome
told_at call h = tells (moment_of call) (event_of (finds_in h) call) h.end

abbrev pub deeds_at : HandleCall → Held → CDeeds
deeds_at call h = record (deeds_told (told_at call h)) { used = octet_count_of_call call h.end }

-- .. and whether the moment went back
abbrev pub deeds_with_back : Bool → CDeeds → CDeeds
deeds_with_back back deeds = record deeds { back = deed_flag back }

-- with whom the safe connection came to stand last: with the peer that these deeds name, or as before
abbrev pub peer_noted : CDeeds → Option ℕ → Option ℕ
peer_noted deeds before = if deeds.connected == 1 then Some deeds.peer else before

-- what the event changes: the end, and that a start isn't awaited behind one
abbrev pub held_behind_event : HandleCall → Held → Held
held_behind_event call h = record (held_with_end h (handle_end_behind_call call h)) { awaits_start = start_awaited_behind call h.awaits_start }

abbrev pub held_behind_call : HandleCall → Held → Held
held_behind_call call h = record (held_behind_event call h) { peer = peer_noted (deeds_at call h) h.peer; last = last_moment_behind call h.last }

-- ---- the call at a handle: at one that holds nothing, at a late moment, and at a start that is misused, nothing happens

abbrev pub held_after : HandleCall → Option Held → Option Held
held_after call None = None
held_after call (Some h) =
    if is_moment_too_late (moment_of call) then Some h
    else if is_start_misused call h.awaits_start then Some h
    else Some (held_behind_call call h)

abbrev pub status_after : HandleCall → Option Held → ℤ
status_after call None = closed_handle
status_after call (Some h) =
    if is_moment_too_late (moment_of call) then late_moment
    else if is_start_misused call h.awaits_start then misused_start
    else status_told (told_at call h)

abbrev pub deeds_after : HandleCall → Option Held → CDeeds
deeds_after call None = no_deeds
deeds_after call (Some h) =
    if is_moment_too_late (moment_of call) then no_deeds
    else if is_start_misused call h.awaits_start then no_deeds
    else deeds_with_back (is_back call h.last) (deeds_at call h)

pub record DoesHandleCall (call : HandleCall) (old new : CEnd) (status : ℤ) (deeds : CDeeds) : Type 0 where
  pub held : end_held_in_handle new ≡ held_after call (end_held_in_handle old)
  pub answer : status ≡ status_after call (end_held_in_handle old)
  pub tells : deeds ≡ deeds_after call (end_held_in_handle old)
