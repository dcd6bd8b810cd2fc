-- Contract: what an event at a live connection leaves, records and tells.
use Rattle.std.specs.Prelude.{◌≡◌, ℕ, false, List, [], ◌∷◌, map, length, Option, Some, None}
use Rattle.er_end_model.specs.Outcomes.{Outcome, ConnectedTo, Accepted, Taken, NothingToTake, Refused, WasReleased, Octets}
use Rattle.trace_model.specs.Printed.{trace_outcome_of}
use Rattle.loop_model.specs.Journals.{JournalEntry}
use Rattle.loop_model.specs.Sessions.{Rules, GivenToSession, Begins, Hears, Sends, Takes, Leaves, Ticks, Ends, Faults, Stalls, journal_event_of_given}
use Rattle.loop_model.specs.Sessions.{end_after, outcomes_of_given_event, octets_in, breaks}
use Rattle.loop_session.specs.Giving.{journal_entry_of_event, too_many, joined_to, Tells}
use Rattle.loop_session.specs.Keeping.{kept_ends}
use Rattle.application_model.specs.Ends.{texts_taken}
use Rattle.application_model.specs.Services.{connections_made, counted_up}
use Rattle.application_port.specs.Ports.{told_at_port}
use Rattle.application_telling.specs.Texts.{event_of_sent, application_text}
use Rattle.application_loop.specs.declared.link.Link.{Link}
use Rattle.application_loop.specs.declared.desk.Desk.{Desk}

-- the message that an event sends
abbrev pub message_sent_by : GivenToSession → Option (List ℕ)
message_sent_by (Begins engine rbc rb) = None
message_sent_by (Hears octets) = None
message_sent_by (Sends text) = Some text
message_sent_by Takes = None
message_sent_by (Leaves sub) = None
message_sent_by Ticks = None
message_sent_by Ends = None
message_sent_by Faults = None
message_sent_by Stalls = None

-- what comes of it
abbrev pub outcomes_at_link : Rules → ℕ → Link → GivenToSession → List Outcome
outcomes_at_link r moment link g = outcomes_of_given_event kept_ends r moment link.end.value g

-- as the recording has it
abbrev pub entry_at_link : Rules → ℕ → Link → GivenToSession → JournalEntry
entry_at_link r moment link g =
    journal_entry_of_event moment link.number (journal_event_of_given kept_ends link.end.value g) (outcomes_at_link r moment link g)

-- the peer that is connected behind outcomes
abbrev pub peer_behind_outcome : Option ℕ → Outcome → Option ℕ
peer_behind_outcome before (ConnectedTo peer) = Some peer
peer_behind_outcome before (Accepted message) = before
peer_behind_outcome before (Taken message) = before
peer_behind_outcome before NothingToTake = before
peer_behind_outcome before (Refused refusal) = before
peer_behind_outcome before (WasReleased release) = None
peer_behind_outcome before (Octets octets) = before

abbrev pub peer_behind_outcomes : Option ℕ → List Outcome → Option ℕ
peer_behind_outcomes before [] = before
peer_behind_outcomes before (outcome ∷ outcomes) = peer_behind_outcomes (peer_behind_outcome before outcome) outcomes

-- the link can still be written to: it could before, and the event doesn't break it off, and its octets fit
pub record IsUnbroken (g : GivenToSession) (outcomes : List Outcome) (link : Link) : Type 0 where
  pub before : link.broken ≡ false
  pub holds : breaks g ≡ false
  pub fits : too_many link.output.items (octets_in outcomes) ≡ false

-- what the desk counts
pub record CountsOn (outcomes : List Outcome) (desk then : Desk) : Type 0 where
  pub opened : then.opened ≡ desk.opened
  pub connected : then.connected ≡ counted_up desk.connected (connections_made (map trace_outcome_of outcomes))
  pub messages : then.messages ≡ counted_up desk.messages (length (texts_taken (map trace_outcome_of outcomes)))

-- the end went on by it, what came of it was told to the application, and its octets joined those that wait
pub record Occurs (r : Rules) (moment : ℕ) (g : GivenToSession) (old now : Link) (desk then : Desk) : Type 0 where
  pub number : now.number ≡ old.number
  pub end : now.end.value ≡ end_after kept_ends r moment old.end.value g
  pub output : now.output.items ≡ joined_to old.output.items (octets_in (outcomes_at_link r moment old g))
  pub told : then.port ≡ told_at_port (application_text old.number (event_of_sent (message_sent_by g)) (outcomes_at_link r moment old g)) desk.port
  pub lines : Tells (entry_at_link r moment old g) then.line.items
  pub peer : now.peer ≡ peer_behind_outcomes old.peer (outcomes_at_link r moment old g)
  pub unbroken : now.broken ≡ false → IsUnbroken g (outcomes_at_link r moment old g) old
  pub counts : CountsOn (outcomes_at_link r moment old g) desk then
