-- The session of one connection: its end, its user, and the octets that wait to be written (this profile). Each event is given to the
-- end, its octets join those that wait, the user hears of it, and what the user says are events in their turn. All of it is said of any
-- kind of end.
use Rattle.std.specs.Prelude.{ℕ, ◌+◌, ◌==◌, nat_lt, Bool, true, false, ◌&&◌, ◌||◌, if◌then◌else◌, List, [], ◌∷◌, ◌++◌, length, take, drop, Option, Some, None}
use Rattle.std.specs.Prelude.{is_some}
use Rattle.er_base.specs.declared.release.Release.{Release}
use Rattle.safety_automaton.specs.Keys.{key_at}
use Rattle.safety_automaton.specs.Keys as keys
use Rattle.er_end_model.specs.Outcomes.{Outcome, SendRefusal, ConnectedTo, Accepted, Taken, NothingToTake, Refused, WasReleased, Octets}
use Rattle.er_end_model.specs.Ends as end
use Rattle.er_trace.specs.declared.event.Event.{Event}
use Rattle.er_trace.specs.declared.event.Event.TheVariants as event
use Rattle.er_users.specs.Saying.{is_text}
use Rattle.er_users.specs.Users.{Mind, mind_of, Callers, Heard, Connected, Message, Refused as NotSent, Released, Said, said, quiet, noting, tells_more}
use Rattle.loop_model.specs.Ends.{EndOps}
use Rattle.loop_model.specs.Journals.{JournalEntry}
use Rattle.loop_model.specs.Outs.{part_for_each_answer, exactly}

-- what a session goes by: the keys, and the set-up time in milliseconds
pub record Rules : Type 0 where
  pub keys : List keys.KmacEntry
  pub setup : ℕ

pub record Session (E : Type 0) : Type 0 where
  -- the number of its connection
  pub number : ℕ
  pub end : E
  -- its user, until that heard of the release
  pub mind : Option Mind
  -- what its user told that it heard, once it was let go, where it tells that
  pub told : Option (List Heard)
  -- the octets that wait to be written
  pub output : List ℕ
  -- it had the event ended, fault or stalled, or a write of it failed: it is closed as soon as the events at hand are done
  pub broken : Bool
  -- the moment at which it is closed at the latest, once it was released
  pub closing : Option ℕ
  -- it was dialled, and the wires didn't tell of it yet: its peer may never have been reached
  pub unmade : Bool

-- the wires told of its connection: it is made
abbrev pub made : {E : Type 0} → Session E → Session E
made s = record s { unmade = false }

-- the most octets that may wait
abbrev pub most_output : ℕ
most_output = 262144

-- ---- one event

-- what is given to the end of a session: an engine's end begins, octets come, the user sends a message, takes one, leaves with a
-- sub-reason, time went on, the line ended, failed, stalled
pub data GivenToSession : Type 0 where
  Begins : (engine rbc rb : ℕ) → GivenToSession
  Hears : (octets : List ℕ) → GivenToSession
  Sends : (text : List ℕ) → GivenToSession
  Takes : GivenToSession
  Leaves : (sub : ℕ) → GivenToSession
  Ticks : GivenToSession
  Ends : GivenToSession
  Faults : GivenToSession
  Stalls : GivenToSession

-- as the end takes it
abbrev pub event_of : Rules → GivenToSession → end.Event
event_of r (Begins engine rbc rb) = end.Start
event_of r (Hears octets) = end.Come (key_at r.keys) octets
event_of r (Sends text) = end.Send text
event_of r Takes = end.Take
event_of r (Leaves sub) = end.Leave sub
event_of r Ticks = end.Tick
event_of r Ends = end.Ended
event_of r Faults = end.Fault
event_of r Stalls = end.Stalled

-- a connection is closed behind these
abbrev pub breaks : GivenToSession → Bool
breaks (Begins engine rbc rb) = false
breaks (Hears octets) = false
breaks (Sends text) = false
breaks Takes = false
breaks (Leaves sub) = false
breaks Ticks = false
breaks Ends = true
breaks Faults = true
breaks Stalls = true

-- the octets for the line among outcomes
abbrev pub octets_in : List Outcome → List ℕ
octets_in [] = []
octets_in (ConnectedTo peer ∷ outcomes) = octets_in outcomes
octets_in (Accepted message ∷ outcomes) = octets_in outcomes
octets_in (Taken message ∷ outcomes) = octets_in outcomes
octets_in (NothingToTake ∷ outcomes) = octets_in outcomes
octets_in (Refused refusal ∷ outcomes) = octets_in outcomes
octets_in (WasReleased release ∷ outcomes) = octets_in outcomes
octets_in (Octets octets ∷ outcomes) = octets ++ octets_in outcomes

-- what the user hears of outcomes: that the connection was made; a message that was taken. (No message has another length.)
abbrev pub heard_by_user : List Outcome → Option Heard
heard_by_user [] = None
heard_by_user (ConnectedTo peer ∷ outcomes) = Some (Connected peer)
heard_by_user (Accepted message ∷ outcomes) = heard_by_user outcomes
heard_by_user (Taken message ∷ outcomes) = if is_text message then Some (Message message) else None
heard_by_user (NothingToTake ∷ outcomes) = heard_by_user outcomes
heard_by_user (Refused refusal ∷ outcomes) = heard_by_user outcomes
heard_by_user (WasReleased release ∷ outcomes) = heard_by_user outcomes
heard_by_user (Octets octets ∷ outcomes) = heard_by_user outcomes

-- the replies as events: the texts in their order, then the release by the user who leaves
abbrev pub leave_of : Option ℕ → List GivenToSession
leave_of None = []
leave_of (Some sub) = Leaves sub ∷ []

abbrev pub sends_of : List (List ℕ) → List GivenToSession
sends_of [] = []
sends_of (text ∷ texts) = Sends text ∷ sends_of texts

abbrev pub replies : Said → List GivenToSession
replies a = sends_of a.texts ++ leave_of a.leave

-- a user hears: its mind then, and its replies. What a kind of a caller's own says is an answer of the outside, `free`
abbrev pub user_after_hearing : Option Mind → Option Heard → Said → Option Mind × List GivenToSession
user_after_hearing None heard free = (None, [])
user_after_hearing (Some mind) None free = (Some mind, [])
user_after_hearing (Some mind) (Some heard) free = let a = said mind.kind mind heard free in (Some a.mind, replies a)

-- why a text of the user was refused, among outcomes
abbrev pub refused_in : List Outcome → Option SendRefusal
refused_in [] = None
refused_in (ConnectedTo peer ∷ outcomes) = refused_in outcomes
refused_in (Accepted message ∷ outcomes) = refused_in outcomes
refused_in (Taken message ∷ outcomes) = refused_in outcomes
refused_in (NothingToTake ∷ outcomes) = refused_in outcomes
refused_in (Refused refusal ∷ outcomes) = Some refusal
refused_in (WasReleased release ∷ outcomes) = refused_in outcomes
refused_in (Octets octets ∷ outcomes) = refused_in outcomes

-- what the user hears of its text
abbrev pub refusal_heard : List ℕ → Option SendRefusal → Option Heard
refusal_heard text None = None
refusal_heard text (Some why) = Some (NotSent text why)

-- a user that hears something to which nobody replies
abbrev pub noted : Option Heard → Mind → Mind
noted None mind = mind
noted (Some heard) mind = noting heard mind

abbrev pub notes : Option Heard → Option Mind → Option Mind
notes heard None = None
notes heard (Some mind) = Some (noted heard mind)

-- a plain answer: nothing is said
abbrev pub silent_answer : Said
silent_answer = quiet (mind_of Callers [])

-- a user whose session was released hears of it, with the reason, the sub-reason and who released, and is let go; the session is closed
-- after the set-up time at the latest
abbrev pub parts : {E : Type 0} → Option Release → Option Mind → ℕ → Session E → Session E
parts None mind at s = s
parts (Some release) None at s = s
parts (Some release) (Some mind) at s =
    record s { mind = None; told = tells_more mind.told (Released release.reason release.sub release.by_peer); closing = Some at }

-- what a user's object says while an event is handled: to the event, then to each message that it takes
pub record Says : Type 0 where
  pub first : Said
  pub rest : List Said

abbrev pub nothing_said : Says
nothing_said = record { first = silent_answer; rest = [] }

-- ---- sessions over ends of a kind

module _ {E : Type 0} (o : EndOps E) where
  abbrev pub is_released : Session E → Bool
  is_released s = is_some (o.released s.end)

  -- its end is released, and either nothing waits to be written, or its connection was never made: no peer is there to which it could be owed
  abbrev pub owes_nothing : Session E → Bool
  owes_nothing s = is_released s && ((length s.output == 0) || s.unmade)

  -- as the journal has it: of octets those that the end uses
  abbrev pub journal_event_of_given : E → GivenToSession → Event
  journal_event_of_given k (Begins engine rbc rb) = event.Call engine rbc rb
  journal_event_of_given k (Hears octets) = event.Octets (take (o.used k octets) octets)
  journal_event_of_given k (Sends text) = event.Send text
  journal_event_of_given k Takes = event.Take
  journal_event_of_given k (Leaves sub) = event.Release sub
  journal_event_of_given k Ticks = event.Tick
  journal_event_of_given k Ends = event.Ended
  journal_event_of_given k Faults = event.Fault
  journal_event_of_given k Stalls = event.Stalled

  -- the end behind an event, and its outcomes
  unfoldable pub end_after : Rules → ℕ → E → GivenToSession → E
  end_after r m k g = o.happens m (event_of r g) k

  unfoldable pub outcomes_of_given_event : Rules → ℕ → E → GivenToSession → List Outcome
  outcomes_of_given_event r m k g = o.tells m (event_of r g) k

  -- an event, as the journal has it
  abbrev pub entry_of : Rules → ℕ → Session E → GivenToSession → JournalEntry
  entry_of r m s g = record { moment = m; conn = s.number; event = journal_event_of_given s.end g; outcomes = outcomes_of_given_event r m s.end g }

  -- the session stalls: the event follows directly
  abbrev pub stalled : Rules → ℕ → Session E → Session E × List JournalEntry
  stalled r m s = (record s { end = end_after r m s.end Stalls; broken = true }, entry_of r m s Stalls ∷ [])

  -- octets join those that wait, or the session stalls where all together would be too many
  unfoldable pub joined : Rules → ℕ → Session E → List ℕ → Session E × List JournalEntry
  joined r m s octets =
      if nat_lt most_output (length s.output + length octets) then stalled r m s
      else (record s { output = s.output ++ octets }, [])

  -- an event is given to the end, and the octets that the end gives join those that wait
  unfoldable pub fed : Rules → ℕ → Session E → GivenToSession → Session E × List JournalEntry
  fed r m s g =
      let b = joined r m (record s { end = end_after r m s.end g; broken = s.broken || breaks g }) (octets_in (outcomes_of_given_event r m s.end g)) in
      (b.0, entry_of r m s g ∷ b.1)

  -- ---- events with what follows them

  -- a reply of the user is given to the end; where a text is refused, the user hears that before anything else comes
  abbrev pub replied : Rules → ℕ → Session E → GivenToSession → Session E × List JournalEntry
  replied r m s (Begins engine rbc rb) = fed r m s (Begins engine rbc rb)
  replied r m s (Hears octets) = fed r m s (Hears octets)
  replied r m s (Sends text) =
      let a = fed r m s (Sends text) in
      (record a.0 { mind = notes (refusal_heard text (refused_in (outcomes_of_given_event r m s.end (Sends text)))) s.mind }, a.1)
  replied r m s Takes = fed r m s Takes
  replied r m s (Leaves sub) = fed r m s (Leaves sub)
  replied r m s Ticks = fed r m s Ticks
  replied r m s Ends = fed r m s Ends
  replied r m s Faults = fed r m s Faults
  replied r m s Stalls = fed r m s Stalls

  -- an event, what the user hears of it, and the replies
  unfoldable pub dealt : Rules → ℕ → Session E → GivenToSession → Said → Session E × List JournalEntry
  dealt r m s g free =
      let a = fed r m s g in
      let b = user_after_hearing s.mind (heard_by_user (outcomes_of_given_event r m s.end g)) free in
      let c = part_for_each_answer (replied r m) (record a.0 { mind = b.0 }) b.1 in
      (c.0, a.1 ++ c.1)

  -- the messages that wait are taken
  abbrev pub count_waiting_in_session : Session E → ℕ
  count_waiting_in_session s = o.waiting s.end

  unfoldable pub takes_all : Rules → ℕ → Session E → List Said → Session E × List JournalEntry
  takes_all r m s frees = part_for_each_answer (λ t free. dealt r m t Takes free) s (exactly (count_waiting_in_session s) silent_answer frees)

  abbrev pub parted : Rules → ℕ → Session E → Session E
  parted r m s = parts (o.released s.end) s.mind (m + r.setup) s

  -- an event with all that follows it
  unfoldable pub handled : Rules → ℕ → Session E → GivenToSession → Says → Session E × List JournalEntry
  handled r m s g says =
      let a = dealt r m s g says.first in
      let b = takes_all r m a.0 says.rest in
      (parted r m b.0, a.1 ++ b.1)

  -- ---- octets of a read

  -- the next part of them, as far as the end uses it at once; nothing where none is left, or the session broke off
  unfoldable pub poured : Rules → ℕ → Session E × List ℕ → Says → (Session E × List ℕ) × List JournalEntry
  poured r m x says =
      if (length x.1 == 0) || x.0.broken then (x, [])
      else
      let a = handled r m x.0 (Hears x.1) says in
      ((a.0, drop (o.used x.0.end x.1) x.1), a.1)

  -- part by part
  unfoldable pub pours : Rules → ℕ → Session E → List ℕ → List Says → Session E × List JournalEntry
  pours r m s octets says =
      let a = part_for_each_answer (poured r m) (s, octets) (exactly (length octets) nothing_said says) in
      (a.0.0, a.1)
