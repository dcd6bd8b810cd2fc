-- The layers of an end as an assessor reads them: the station model and the transport model, with the lists of what the end's user sent,
-- of what was accepted, and of what the safety side did in an event.
use Rattle.std.specs.Prelude.{ℕ, ◌+◌, ◌-◌, ◌==◌, nat_lt, ◌&&◌, List, [], ◌∷◌, ◌++◌, length, slice_get, Option, Some, None, is_some}
use Rattle.std.specs.List.{flat_map}
use Rattle.hdlc_station_model.specs.Frames.{sent_octets}
use Rattle.hdlc_station_model.specs.Stations.{Station, settled}
use Rattle.hdlc_station_model.specs.Sending.{waiting}
use Rattle.hdlc_station_model.specs.Calls as station
use Rattle.x224_class2.specs.Tpdus.{GivenTpdu, octets_given}
use Rattle.x224_class2.specs.Transport.{Transport, is_new, is_open, after_connect, after_accept, after_hand, after_taken, waiting_count, reception, next_tpdu}
use Rattle.x224_class2.specs.Transport.{after_next, with_given}
use Rattle.safety_automaton.specs.Safety.{SafetyEvent, SafetyOutcome}
use Rattle.er_end_model.specs.Stacks.{Ops, Stack}

-- a step of the safety side
pub record Spoken : Type 0 where
  pub event : SafetyEvent
  pub outcome : SafetyOutcome

pub record Upper : Type 0 where
  pub transport : Transport
  pub sent : List (List ℕ)  -- the messages of the user whose send was Ok
  pub accepted : List (List ℕ)  -- the messages of the peer's user that were accepted
  pub used : ℕ  -- how many of them the user took
  pub news : Option (List ℕ)  -- the one that was accepted in this event
  pub spoke : Option Spoken  -- the step of the safety side in this event

-- the octets of the frames that a station sent in this event
abbrev pub written_by : Station → List ℕ
written_by s = flat_map (sent_octets s.calling s.extended) s.said

-- the octets of the TPDU that is due
abbrev pub octets_due : Option GivenTpdu → List ℕ
octets_due None = []
octets_due (Some tpdu) = octets_given tpdu

abbrev pub model : Ops Station Upper
model = record {
  settled = settled;
  starts = station.starts;
  receives = station.receives;
  told = λ now verdict s. (station.receives now verdict s).deed;
  hands = station.hands;
  finishes = station.finishes;
  ticks = station.ticks;
  given_up = λ now s. (station.ticks now s).deed.released;
  closes = station.closes;
  is_free = λ s. waiting s == 0;
  may_send = station.may_send;
  expiry = station.deadline;
  counts = λ s. s.counts;
  written = written_by;
  opened = λ u. record u { news = None; spoke = None };
  may_connect = λ u. u.transport.is_caller && is_new u.transport.stage;
  connects = λ u text. record u { transport = after_connect u.transport text };
  hears = λ u tpdu. record u { transport = (reception u.transport tpdu).0 };
  deed = λ u tpdu. (reception u.transport tpdu).1;
  accepts = λ u text. record u { transport = after_accept u.transport text };
  may_hand = λ u. is_open u.transport.stage && nat_lt (waiting_count u.transport) 16;
  hands_message = λ u text. record u { transport = after_hand u.transport text };
  waiting = λ u. waiting_count u.transport;
  has_next = λ u. is_some (next_tpdu u.transport);
  next = λ u. octets_due (next_tpdu u.transport);
  after_next = λ u. record u { transport = after_next u.transport };
  gives = λ u tpdu. record u { transport = with_given u.transport (Some tpdu) };
  speaks = λ u event outcome. record u { spoke = Some (record { event = event; outcome = outcome }) };
  sends = λ u message. record u { sent = u.sent ++ message ∷ [] };
  keeps = λ u message. record u { accepted = u.accepted ++ message ∷ []; news = Some message };
  skips = λ u. record u { transport = after_taken u.transport };
  uses = λ u. record u { transport = after_taken u.transport; used = u.used + 1 };
  oldest = λ u. slice_get u.accepted u.used;
  untaken = λ u. length u.accepted - u.used;
  news = λ u. u.news;
}

abbrev pub Core : Type 0
Core = Stack Station Upper
