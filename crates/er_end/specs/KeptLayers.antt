-- Contract: the layers of an end as the end keeps them. The layers' own laws say that these are steps of
-- the station model and of the transport model.
use Rattle.std.specs.Prelude.{ℕ, ◌==◌, nat_lt, Bool, ◌&&◌, List, [], ◌++◌, length, slice_get, Option, is_some, false}
use Rattle.er_base.specs.declared.release.Release.{Release}
use Rattle.hdlc_frames.specs.Framing.{Verdict}
use Rattle.hdlc_station_model.specs.Stations.{Station, Deed as LinkDeed}
use Rattle.hdlc_station_model.specs.Calls as station
use Rattle.hdlc_station.specs.Kept as line
use Rattle.hdlc_station.specs.Kept.{octets_of_sent_frames}
use Rattle.hdlc_station.specs.Alike.{model_of}
use Rattle.x224_class2.specs.Kept as transport
use Rattle.x224_class2.specs.Transport.{ReceptionDeed, is_new, is_open}
use Rattle.er_end_model.specs.Stacks.{Ops, Stack}
use Rattle.er_end.specs.Inboxes.{KInbox, kept_more, kept_fewer, newest_of}

-- the station, and the octets that it sent in this event
pub record KLine : Type 0 where
  pub station : line.KeptStation
  pub out : List ℕ

-- the transport, and the messages that wait for the user
pub record KUpper : Type 0 where
  pub transport : transport.KeptTransport
  pub inbox : KInbox

-- a call of the station
abbrev pub ran : KLine → Station → KLine
ran l s = record { station = line.kept_of s; out = l.out ++ octets_of_sent_frames s.calling s.extended s.said }

unfoldable pub line_starts : ℕ → KLine → KLine
line_starts now l = ran l (station.starts now (model_of l.station))

unfoldable pub line_receives : ℕ → Verdict → KLine → KLine
line_receives now verdict l = ran l (station.receives now verdict (model_of l.station))

unfoldable pub line_told : ℕ → Verdict → KLine → LinkDeed
line_told now verdict l = (station.receives now verdict (model_of l.station)).deed

unfoldable pub line_hands : ℕ → List ℕ → KLine → KLine
line_hands now payload l = ran l (station.hands now payload (model_of l.station))

unfoldable pub line_finishes : KLine → KLine
line_finishes l = ran l (station.finishes (model_of l.station))

unfoldable pub line_ticks : ℕ → KLine → KLine
line_ticks now l = ran l (station.ticks now (model_of l.station))

unfoldable pub line_given_up : ℕ → KLine → Option Release
line_given_up now l = (station.ticks now (model_of l.station)).deed.released

unfoldable pub line_closes : KLine → KLine
line_closes l = ran l (station.closes (model_of l.station))

unfoldable pub line_may_send : KLine → Bool
line_may_send l = station.may_send (model_of l.station)

abbrev pub line_is_free : KLine → Bool
line_is_free l = length l.station.ring == l.station.ahead

-- the transport's part of a reception
unfoldable pub upper_hears : transport.KeptTransport → List ℕ → transport.KeptTransport
upper_hears k tpdu = (transport.kept_reception k tpdu).0

unfoldable pub upper_deed : transport.KeptTransport → List ℕ → ReceptionDeed
upper_deed k tpdu = (transport.kept_reception k tpdu).1

-- the next TPDU
unfoldable pub upper_has_next : transport.KeptTransport → Bool
upper_has_next k = is_some (transport.kept_next_tpdu k)

unfoldable pub upper_next : transport.KeptTransport → List ℕ
upper_next k = transport.octets_next (transport.kept_next_tpdu k)

unfoldable pub upper_after_next : transport.KeptTransport → transport.KeptTransport
upper_after_next k = transport.kept_after_next k

abbrev pub kept : Ops KLine KUpper
kept = record {
  settled = λ l. record l { out = [] };
  starts = line_starts;
  receives = line_receives;
  told = line_told;
  hands = line_hands;
  finishes = line_finishes;
  ticks = line_ticks;
  given_up = line_given_up;
  closes = line_closes;
  is_free = line_is_free;
  may_send = line_may_send;
  expiry = λ l. l.station.timer;
  counts = λ l. l.station.counts;
  written = λ l. l.out;
  opened = λ u. record u { inbox = record u.inbox { last = []; fresh = false } };
  may_connect = λ u. u.transport.is_caller && is_new u.transport.stage;
  connects = λ u text. record u { transport = transport.kept_after_connect u.transport text };
  hears = λ u tpdu. record u { transport = upper_hears u.transport tpdu };
  deed = λ u tpdu. upper_deed u.transport tpdu;
  accepts = λ u text. record u { transport = transport.kept_after_accept u.transport text };
  may_hand = λ u. is_open u.transport.stage && nat_lt (length u.transport.waiting) 16;
  hands_message = λ u text. record u { transport = transport.kept_after_hand u.transport text };
  waiting = λ u. length u.transport.waiting;
  has_next = λ u. upper_has_next u.transport;
  next = λ u. upper_next u.transport;
  after_next = λ u. record u { transport = upper_after_next u.transport };
  gives = λ u tpdu. u;
  speaks = λ u event outcome. u;
  sends = λ u message. u;
  keeps = λ u message. record u { inbox = kept_more u.inbox message };
  skips = λ u. record u { transport = transport.kept_after_taken u.transport };
  uses = λ u. record { transport = transport.kept_after_taken u.transport; inbox = kept_fewer u.inbox };
  oldest = λ u. slice_get u.inbox.waits 0;
  untaken = λ u. length u.inbox.waits;
  news = λ u. newest_of u.inbox;
}

abbrev pub KCore : Type 0
KCore = Stack KLine KUpper
