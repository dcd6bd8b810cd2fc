-- Contract: calls on one handle, one after the other, from the making of its end on, are events of the end model, one after the other.
use Rattle.std.specs.Prelude.{ℕ, ℤ, ◌≡◌, max, nat_lt, Bool, true, false, if◌then◌else◌, List, [], ◌∷◌, take, Option, Some, None}
use Rattle.safety_automaton.specs.Keys.{KmacEntry, key_at}
use Rattle.er_end_model.specs.Outcomes.{Outcome, ConnectedTo, Accepted, Taken, NothingToTake, Refused, WasReleased, Octets as Sent}
use Rattle.er_end_model.specs.Steps.{Finds, deadline}
use Rattle.er_end_model.specs.Layers.{model}
use Rattle.er_end_model.specs.Ends.{Opening, Call, Answer, Event, End, opened, step_event}
use Rattle.er_end_model.specs.Ends as event
use Rattle.er_end.specs.Standing.{IsAllowed}
use Rattle.er_end_c.specs.declared.handle.CEnd.{CEnd}
use Rattle.er_end_c.specs.declared.face.CDeeds.{CDeeds}
use Rattle.er_end_c.specs.Statuses.{late_moment, misused_start}
use Rattle.er_end_c.specs.Deeds.{no_deeds, deeds_told, status_told, release_deeds, counts_shown}
use Rattle.er_end_c.specs.Handles.{optional_key_entries, end_held_in_handle}
use Rattle.er_end_c.specs.Makings.{IsHandleMade, moment_of_opening}
use Rattle.er_end_c.specs.Reads.{text_of_held_end, out_of, newest_accepted_message, message_last_taken, none_or, else_, deadline_status, shown_deadline}
use Rattle.er_end_c.specs.Reads.{shown_release_status, shown_release, count_waiting_at_handle, count_unsent_at_handle, shown_counts}
use Rattle.er_end_c.specs.Reads.{peer_unless_released, connection_status, shown_peer}
use Rattle.er_end_c.specs.Used.{UsesOctets}
use Rattle.er_end_c.specs.Calls.{HandleCall, Start, Octets, Send, Take, Release, Tick, Ended, Fault, Stalled, is_moment_too_late, moment_of, DoesHandleCall}

-- a call, what it answered, and the texts that could be copied behind it
pub record Answered : Type 0 where
  pub call : HandleCall
  pub status : ℤ
  pub deeds : CDeeds
  pub out : List ℕ
  pub accepted : List ℕ
  pub taken : List ℕ

-- these are the texts of a handle
pub record HasTexts (end : CEnd) (a : Answered) : Type 0 where
  pub out_there : a.out ≡ text_of_held_end out_of (end_held_in_handle end)
  pub accepted_there : a.accepted ≡ text_of_held_end newest_accepted_message (end_held_in_handle end)
  pub taken_there : a.taken ≡ text_of_held_end message_last_taken (end_held_in_handle end)

-- these calls, one after the other, lead from a handle to a handle; calls that read leave what is held, and so may stand between them
abbrev pub LeadsToHandle : List Answered → CEnd → CEnd → Type 0
LeadsToHandle [] first last = end_held_in_handle last ≡ end_held_in_handle first
LeadsToHandle (a ∷ calls) first last = (next : CEnd) × DoesHandleCall a.call first next a.status a.deeds × HasTexts next a × LeadsToHandle calls next last

-- ---- how a call is received

-- as an event; as a fault, since its moment is above 10 ^ 15; as a fault, since it is a start and none is due
pub data Reception : Type 0 where
  IsEvent : Reception
  IsLate : Reception
  IsMisused : Reception

abbrev pub reception_of_start : (is_due : Bool) → Reception
reception_of_start true = IsEvent
reception_of_start false = IsMisused

abbrev pub reception_on_time : HandleCall → (is_due : Bool) → Reception
reception_on_time (Start now) is_due = reception_of_start is_due
reception_on_time (Octets now piece) is_due = IsEvent
reception_on_time (Send now text) is_due = IsEvent
reception_on_time (Take now) is_due = IsEvent
reception_on_time (Release now sub) is_due = IsEvent
reception_on_time (Tick now) is_due = IsEvent
reception_on_time Ended is_due = IsEvent
reception_on_time Fault is_due = IsEvent
reception_on_time Stalled is_due = IsEvent

abbrev pub reception_of : HandleCall → (is_due : Bool) → Reception
reception_of call is_due = if is_moment_too_late (moment_of call) then IsLate else reception_on_time call is_due

-- what an event leaves; behind a fault it is what it was before
abbrev pub left_by : {A : Type 0} → Reception → (behind before : A) → A
left_by IsEvent behind before = behind
left_by IsLate behind before = before
left_by IsMisused behind before = before

-- a start is due at an end that calls, until it was started. (A library that took no note of a start would answer the second of two with OK, and one that
-- took a start at a late moment for done would refuse the one behind it: `AreAnswered` is false of both)
abbrev pub is_start_due_at : Opening → Bool
is_start_due_at (Call settings me peer kmac rb now) = true
is_start_due_at (Answer settings me ra now) = false

abbrev pub is_due_behind : HandleCall → (is_due : Bool) → Bool
is_due_behind (Start now) is_due = false
is_due_behind (Octets now piece) is_due = is_due
is_due_behind (Send now text) is_due = is_due
is_due_behind (Take now) is_due = is_due
is_due_behind (Release now sub) is_due = is_due
is_due_behind (Tick now) is_due = is_due
is_due_behind Ended is_due = is_due
is_due_behind Fault is_due = is_due
is_due_behind Stalled is_due = is_due

abbrev pub is_due_after : HandleCall → (is_due : Bool) → Bool
is_due_after call is_due = left_by (reception_of call is_due) (is_due_behind call is_due) is_due

-- ---- in the end model

-- the event that a call is; octets are those that it used
abbrev pub event_used : Finds → HandleCall → (used : ℕ) → Event
event_used finds (Start now) used = event.Start
event_used finds (Octets now piece) used = event.Come finds (take used piece)
event_used finds (Send now text) used = event.Send text
event_used finds (Take now) used = event.Take
event_used finds (Release now sub) used = event.Leave sub
event_used finds (Tick now) used = event.Tick
event_used finds Ended used = event.Ended
event_used finds Fault used = event.Fault
event_used finds Stalled used = event.Stalled

abbrev pub stepped : Finds → Answered → End → End × List Outcome
stepped finds a m = step_event (moment_of a.call) (event_used finds a.call a.deeds.used) m

-- the end behind a call
abbrev pub model_after : Finds → Answered → (is_due : Bool) → End → End
model_after finds a is_due m = left_by (reception_of a.call is_due) (stepped finds a m).0 m

abbrev pub model_run : Finds → List Answered → (is_due : Bool) → End → End
model_run finds [] is_due m = m
model_run finds (a ∷ calls) is_due m = model_run finds calls (is_due_after a.call is_due) (model_after finds a is_due m)

-- a send was refused
abbrev pub is_send_refused : List Outcome → Bool
is_send_refused [] = false
is_send_refused (ConnectedTo peer ∷ outcomes) = is_send_refused outcomes
is_send_refused (Accepted message ∷ outcomes) = is_send_refused outcomes
is_send_refused (Taken message ∷ outcomes) = is_send_refused outcomes
is_send_refused (NothingToTake ∷ outcomes) = is_send_refused outcomes
is_send_refused (Refused refusal ∷ outcomes) = true
is_send_refused (WasReleased why ∷ outcomes) = is_send_refused outcomes
is_send_refused (Sent octets ∷ outcomes) = is_send_refused outcomes

-- the octets that go to the line
abbrev pub octets_told : List Outcome → List ℕ
octets_told [] = []
octets_told (ConnectedTo peer ∷ outcomes) = octets_told outcomes
octets_told (Accepted message ∷ outcomes) = octets_told outcomes
octets_told (Taken message ∷ outcomes) = octets_told outcomes
octets_told (NothingToTake ∷ outcomes) = octets_told outcomes
octets_told (Refused refusal ∷ outcomes) = octets_told outcomes
octets_told (WasReleased why ∷ outcomes) = octets_told outcomes
octets_told (Sent octets ∷ outcomes) = octets

-- the message that was accepted
abbrev pub accepted_told : List Outcome → List ℕ
accepted_told [] = []
accepted_told (ConnectedTo peer ∷ outcomes) = accepted_told outcomes
accepted_told (Accepted message ∷ outcomes) = message
accepted_told (Taken message ∷ outcomes) = accepted_told outcomes
accepted_told (NothingToTake ∷ outcomes) = accepted_told outcomes
accepted_told (Refused refusal ∷ outcomes) = accepted_told outcomes
accepted_told (WasReleased why ∷ outcomes) = accepted_told outcomes
accepted_told (Sent octets ∷ outcomes) = accepted_told outcomes

-- the message that was taken
abbrev pub taken_told : List Outcome → List ℕ
taken_told [] = []
taken_told (ConnectedTo peer ∷ outcomes) = taken_told outcomes
taken_told (Accepted message ∷ outcomes) = taken_told outcomes
taken_told (Taken message ∷ outcomes) = message
taken_told (NothingToTake ∷ outcomes) = []
taken_told (Refused refusal ∷ outcomes) = taken_told outcomes
taken_told (WasReleased why ∷ outcomes) = taken_told outcomes
taken_told (Sent octets ∷ outcomes) = taken_told outcomes

abbrev pub is_take : HandleCall → Bool
is_take (Start now) = false
is_take (Octets now piece) = false
is_take (Send now text) = false
is_take (Take now) = true
is_take (Release now sub) = false
is_take (Tick now) = false
is_take Ended = false
is_take Fault = false
is_take Stalled = false

-- a call answers what the step of the model tells, for the octets that it uses and by whether its moment went back: as its status, as its deeds, and as the
-- texts to be copied, unless it is a send that was
-- refused, behind which those of the event before may still be copied
pub record IsAnswered (a : Answered) (told : List Outcome) : Type 0 where
  pub answer : a.status ≡ status_told told
  pub tells : a.deeds ≡ record (deeds_told told) { used = a.deeds.used; back = a.deeds.back }
  pub sent : is_send_refused told ≡ false → a.out ≡ octets_told told
  pub came : is_send_refused told ≡ false → a.accepted ≡ accepted_told told
  pub took : is_take a.call ≡ true → a.taken ≡ taken_told told

abbrev pub IsAnsweredAs : Reception → Finds → Answered → End → Type 0
IsAnsweredAs IsEvent finds a m = IsAnswered a (stepped finds a m).1 × UsesOctets a.call m a.deeds.used
IsAnsweredAs IsLate finds a m = (a.status ≡ late_moment) × (a.deeds ≡ no_deeds)
IsAnsweredAs IsMisused finds a m = (a.status ≡ misused_start) × (a.deeds ≡ no_deeds)

-- the greatest moment that was passed so far, behind a call; three calls pass none
abbrev pub greatest_passed : HandleCall → (before : ℕ) → ℕ
greatest_passed (Start now) before = max before now
greatest_passed (Octets now piece) before = max before now
greatest_passed (Send now text) before = max before now
greatest_passed (Take now) before = max before now
greatest_passed (Release now sub) before = max before now
greatest_passed (Tick now) before = max before now
greatest_passed Ended before = before
greatest_passed Fault before = before
greatest_passed Stalled before = before

abbrev pub one_if_below : (now greatest : ℕ) → ℕ
one_if_below now greatest = if nat_lt now greatest then 1 else 0

abbrev pub back_told : HandleCall → (greatest : ℕ) → ℕ
back_told (Start now) greatest = one_if_below now greatest
back_told (Octets now piece) greatest = one_if_below now greatest
back_told (Send now text) greatest = one_if_below now greatest
back_told (Take now) greatest = one_if_below now greatest
back_told (Release now sub) greatest = one_if_below now greatest
back_told (Tick now) greatest = one_if_below now greatest
back_told Ended greatest = 0
back_told Fault greatest = 0
back_told Stalled greatest = 0

-- the deeds tell that a moment went back exactly where it is below one that was passed before: as the end was made, or by a call behind that. (A call
-- that compared with the moment of the call before it alone would tell the first moment behind one that was far too great, and none of those that
-- follow: it is false of that)
abbrev pub TellBack : List Answered → (is_due : Bool) → (greatest : ℕ) → Type 0
TellBack [] is_due greatest = Unit {0}
TellBack (a ∷ calls) is_due greatest =
    (a.deeds.back ≡ left_by (reception_of a.call is_due) (back_told a.call greatest) 0)
    × TellBack calls (is_due_after a.call is_due) (left_by (reception_of a.call is_due) (greatest_passed a.call greatest) greatest)

abbrev pub AreAnswered : Finds → List Answered → (is_due : Bool) → End → Type 0
AreAnswered finds [] is_due m = Unit {0}
AreAnswered finds (a ∷ calls) is_due m =
    IsAnsweredAs (reception_of a.call is_due) finds a m × AreAnswered finds calls (is_due_after a.call is_due) (model_after finds a is_due m)

-- the peer with which the safe connection came to stand last: the one that these outcomes tell, or the one before
abbrev pub peer_told : List Outcome → Option ℕ → Option ℕ
peer_told [] before = before
peer_told (ConnectedTo peer ∷ outcomes) before = Some peer
peer_told (Accepted message ∷ outcomes) before = peer_told outcomes before
peer_told (Taken message ∷ outcomes) before = peer_told outcomes before
peer_told (NothingToTake ∷ outcomes) before = peer_told outcomes before
peer_told (Refused refusal ∷ outcomes) before = peer_told outcomes before
peer_told (WasReleased why ∷ outcomes) before = peer_told outcomes before
peer_told (Sent octets ∷ outcomes) before = peer_told outcomes before

-- .. behind calls, one after the other
abbrev pub peer_after : Finds → Answered → (is_due : Bool) → End → Option ℕ → Option ℕ
peer_after finds a is_due m before = left_by (reception_of a.call is_due) (peer_told (stepped finds a m).1 before) before

abbrev pub peer_behind_calls : Finds → List Answered → (is_due : Bool) → End → Option ℕ → Option ℕ
peer_behind_calls finds [] is_due m before = before
peer_behind_calls finds (a ∷ calls) is_due m before =
    peer_behind_calls finds calls (is_due_after a.call is_due) (model_after finds a is_due m) (peer_after finds a is_due m before)

-- the call that tells with whom the safe connection stands answers that peer, until the end is released. (One that asked the deeds of the last call
-- alone would know no peer behind the next event: `stands` is false of it)
pub record TellsPeer (end : CEnd) (m : End) (peer : Option ℕ) : Type 0 where
  pub stands : connection_status (end_held_in_handle end) ≡ none_or (peer_unless_released m.core.released peer)
  pub named : (before : ℕ) → shown_peer before (end_held_in_handle end) ≡ else_ before (peer_unless_released m.core.released peer)

-- the calls that read answer what the model says of its end. (One that told as unsent each message that the peer's transport hasn't
-- acknowledged yet, or those that the end's own user hasn't taken: `unsent` is false of both)
pub record ReadsAs (end : CEnd) (m : End) : Type 0 where
  pub wanted : deadline_status (end_held_in_handle end) ≡ none_or (deadline model m.core)
  pub moment : (before : ℕ) → shown_deadline before (end_held_in_handle end) ≡ else_ before (deadline model m.core)
  pub over : shown_release_status (end_held_in_handle end) ≡ none_or m.core.released
  pub why : shown_release (end_held_in_handle end) ≡ release_deeds m.core.released
  pub waits : count_waiting_at_handle (end_held_in_handle end) ≡ model.untaken m.core.upper
  pub unsent : count_unsent_at_handle (end_held_in_handle end) ≡ model.waiting m.core.upper
  pub counts : shown_counts (end_held_in_handle end) ≡ counts_shown (model.counts m.core.line)

-- of a handle whose end was made by an opening, with keys
abbrev pub RunsAsModel : Type 0
RunsAsModel =
    (opening : Opening) (entries : Option (List KmacEntry)) (calls : List Answered) (first last : CEnd) → IsAllowed opening
    → IsHandleMade first opening entries → LeadsToHandle calls first last
    → AreAnswered (key_at (optional_key_entries entries)) calls (is_start_due_at opening) (opened opening)
    × TellBack calls (is_start_due_at opening) (moment_of_opening opening)
    × ReadsAs last (model_run (key_at (optional_key_entries entries)) calls (is_start_due_at opening) (opened opening))
    × TellsPeer last (model_run (key_at (optional_key_entries entries)) calls (is_start_due_at opening) (opened opening))
    (peer_behind_calls (key_at (optional_key_entries entries)) calls (is_start_due_at opening) (opened opening) None)
