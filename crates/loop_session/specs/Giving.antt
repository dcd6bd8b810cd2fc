-- Contract: what the loop makes of an event at an end: lines, octets that join those that wait, what the user hears.
use Rattle.er_end.specs.KeptEnds.{KEnd, used_of}
use Rattle.er_end.specs.Shown.{refusal_view}
use Rattle.loop_session.specs.Keeping.{kept_ends}
use Rattle.std.specs.Prelude.{◌≡◌, ℕ, ◌+◌, ◌≤◌, nat_lt, not, Bool, ◌||◌, if◌then◌else◌, List, ◌++◌, length, Option, Some, None, option_map, Result, Ok, Err}
use Rattle.safety_automaton.specs.Keys as keys
use Rattle.er_users.specs.Saying.{SpokenByUser}
use Rattle.er_users.specs.Users.{Mind, Heard, Connected, Said}
use Rattle.er_end_model.specs.Outcomes.{Outcome}
use Rattle.er_trace.specs.declared.event.Event.{Event}
use Rattle.loop_model.specs.Grammar.{IsInGrammar}
use Rattle.loop_model.specs.Journals.{JournalEntry, entry_text}
use Rattle.loop_model.specs.Sessions.{Rules, Session, GivenToSession, Begins, Hears, Sends, Takes, Leaves, Ticks, Ends, Faults, Stalls, event_of, most_output}
use Rattle.loop_model.specs.Sessions.{breaks, end_after, outcomes_of_given_event, octets_in, refused_in, entry_of, user_after_hearing, sends_of, leave_of}
use Rattle.loop_session.specs.declared.gives.Came.{Came}
use Rattle.loop_session.specs.declared.session_event.SessionEvent.{SessionEvent}
use Rattle.loop_session.specs.declared.session_event.SessionEvent.TheVariants as code

-- ---- an event, as the code has it

abbrev pub event_given_to_session : SessionEvent → GivenToSession
event_given_to_session (code.Call called) = Begins called.now.engine called.now.rbc called.now.rb
event_given_to_session (code.Octets octets) = Hears octets.now
event_given_to_session (code.Send text) = Sends text.now
event_given_to_session code.Take = Takes
event_given_to_session (code.Release sub) = Leaves sub
event_given_to_session code.Tick = Ticks
event_given_to_session code.Ended = Ends
event_given_to_session code.Fault = Faults
event_given_to_session code.Stalled = Stalls

-- no more octets than a line of a trace has
abbrev pub HasFewOctets : GivenToSession → Type 0
HasFewOctets (Hears octets) = length octets ≤ 4096
HasFewOctets (Sends text) = length text ≤ 4096
HasFewOctets other = Unit {0}

-- how many octets the end uses
abbrev pub used_in : KEnd → GivenToSession → ℕ
used_in k (Hears octets) = used_of k octets
used_in k other = 0

-- with these keys it is the same event to the end: octets with those of the rules, any other event with any
abbrev pub IsSameWith : List keys.KmacEntry → Rules → GivenToSession → Type 0
IsSameWith entries r g = event_of (record r { keys = entries }) g ≡ event_of r g

-- ---- what comes of it

-- an event with its outcomes, as the journal has it
abbrev pub journal_entry_of_event : (moment conn : ℕ) → Event → List Outcome → JournalEntry
journal_entry_of_event moment conn event outcomes = record { moment = moment; conn = conn; event = event; outcomes = outcomes }

-- these are the lines of an event, which is in the grammar of traces
pub record Tells (x : JournalEntry) (lines : List ℕ) : Type 0 where
  pub text : lines ≡ entry_text x
  pub in_grammar : IsInGrammar x

-- so many together are too many
abbrev pub too_many : List ℕ → List ℕ → Bool
too_many waits octets = nat_lt most_output (length waits + length octets)

-- octets joined those that wait, unless there would be too many
abbrev pub joined_to : List ℕ → List ℕ → List ℕ
joined_to waits octets = if too_many waits octets then waits else waits ++ octets

abbrev pub Joins : {E : Type 0} → Result Bool E → List ℕ → List ℕ → List ℕ → Type 0
Joins (Ok fits) before now octets = (fits ≡ not (too_many before octets)) × (now ≡ joined_to before octets)
Joins (Err fault) before now octets = Unit {0}

-- the octets for the line that came of an event
abbrev pub octets_of_given_event : Rules → ℕ → Session KEnd → GivenToSession → List ℕ
octets_of_given_event r m s g = octets_in (outcomes_of_given_event kept_ends r m s.end g)

-- a session behind an event that was given to its end, before it stalls, with this mind of its user
abbrev pub session_behind_event : Rules → ℕ → Session KEnd → GivenToSession → Option Mind → Session KEnd
session_behind_event r m s g mind = record s {
  end = end_after kept_ends r m s.end g;
  mind = mind;
  output = joined_to s.output (octets_of_given_event r m s g);
  broken = s.broken || breaks g;
}

-- an event was given to the end of a session: its lines, whether its octets fit, and why a text was refused
pub record Gave (r : Rules) (m : ℕ) (s : Session KEnd) (g : GivenToSession) (now : Session KEnd) (lines : List ℕ) (came : Came) : Type 0 where
  pub tells : Tells (entry_of kept_ends r m s g) lines
  pub state : now ≡ session_behind_event r m s g now.mind
  pub fits : came.fits ≡ not (too_many s.output (octets_of_given_event r m s g))
  pub refused : option_map refusal_view came.refused ≡ refused_in (outcomes_of_given_event kept_ends r m s.end g)

-- ---- what the user hears and says

-- what a user hears of a connection that came to stand with this peer
abbrev pub peer_heard : Option ℕ → Option Heard
peer_heard None = None
peer_heard (Some peer) = Some (Connected peer)

-- what a user said, as events
abbrev pub events_said_by_user : SpokenByUser → List GivenToSession
events_said_by_user spoken = sends_of spoken.texts ++ leave_of spoken.leave

-- a user that may have heard something has this mind then, and said this
pub record HeardSo (mind : Option Mind) (heard : Option Heard) (now : Option Mind) (spoken : SpokenByUser) : Type 0 where
  pub free : Said
  pub is : user_after_hearing mind heard free ≡ (now, events_said_by_user spoken)
