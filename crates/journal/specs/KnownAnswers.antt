-- Known answers, worked out by hand: what events with their outcomes count.
use Rattle.std.specs.Prelude.{◌≡◌, ℕ, true, [], ◌∷◌, Option, None, Some, refl}
use Rattle.er_base.specs.declared.release.Release.{Release}
use Rattle.er_end_model.specs.Outcomes.{RefusedNotConnected, ConnectedTo, Accepted, Taken, NothingToTake, Refused, WasReleased, Octets}
use Rattle.er_trace.specs.declared.event.Event.TheVariants as event
use Rattle.loop_model.specs.Journals.{JournalEntry}
use Rattle.journal.specs.declared.began.Began.{Began}
use Rattle.journal.specs.declared.began.Began.TheVariants.{Nothing, End, Full, Unserved}
use Rattle.journal.specs.declared.event_tally.EventTally.{EventTally}
use Rattle.journal.specs.Tallies.{what_event_begins, messages_said_by_event, IsTallyOfEntry}

-- ends begin by a call and by an answer; of those that are turned away each says why; an end that is told to leave begins nothing
pub of_beginnings :
    (what_event_begins (event.Call 7 9 1) ≡ End) × (what_event_begins (event.Answer 9 2) ≡ End) × (what_event_begins (event.Full 256) ≡ Full)
    × (what_event_begins (event.Unserved 65536) ≡ Unserved) × (what_event_begins (event.Release 3) ≡ Nothing)
of_beginnings = (refl, refl, refl, refl, refl)

-- a message is said where it is sent, and not where one is taken
pub of_sayings : (messages_said_by_event (event.Send []) ≡ 1) × (messages_said_by_event event.Take ≡ 0)
of_sayings = (refl, refl)

abbrev counted : Began → (said refused accepted connected : ℕ) → Option Release → EventTally
counted began said refused accepted connected released = record {
  conn = 3;
  began = began;
  said = said;
  refused = refused;
  accepted = accepted;
  connected = connected;
  released = released;
  ignored = 5;
}

-- a message that was said before the connection stood: it is refused, and is counted as both
abbrev early_send : JournalEntry
early_send = record { moment = 8; conn = 3; event = event.Send (0x41 ∷ []); outcomes = Refused RefusedNotConnected ∷ [] }

pub of_early_send : IsTallyOfEntry early_send (counted Nothing 1 1 0 0 None)
of_early_send = record { conn = refl; began = refl; said = refl; refused = refl; accepted = refl; connected = refl; released = refl }

-- octets by which the connection came to stand and a message came, before the peer released it; what is taken later isn't accepted once more
abbrev by_peer : Release
by_peer = record { reason = 4; sub = 1; by_peer = true }

abbrev full_octets : JournalEntry
full_octets = record {
  moment = 8;
  conn = 3;
  event = event.Octets (0x7e ∷ []);
  outcomes = ConnectedTo 9 ∷ Accepted (0x41 ∷ []) ∷ WasReleased by_peer ∷ Octets (1 ∷ 2 ∷ []) ∷ [];
}

pub of_full_octets : IsTallyOfEntry full_octets (counted Nothing 0 0 1 1 (Some by_peer))
of_full_octets = record { conn = refl; began = refl; said = refl; refused = refl; accepted = refl; connected = refl; released = refl }

abbrev taken : JournalEntry
taken = record { moment = 9; conn = 3; event = event.Take; outcomes = Taken (0x41 ∷ []) ∷ NothingToTake ∷ [] }

pub of_taken : IsTallyOfEntry taken (counted Nothing 0 0 0 0 None)
of_taken = record { conn = refl; began = refl; said = refl; refused = refl; accepted = refl; connected = refl; released = refl }
