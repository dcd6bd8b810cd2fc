-- An end of a link: a station (ISO/IEC 13239), network blocks (ITU-T T.70), a transport (ITU-T X.224 class 2) and a safety side
-- (UNISIG SUBSET-037), one above the other. What an end does with its layers is defined once, over any station S and any transport U.
use Rattle.std.specs.Prelude.{ℕ, Bool, List, Option}
use Rattle.er_base.specs.declared.release.Release.{Release}
use Rattle.hdlc_frames.specs.Framing.{Verdict}
use Rattle.hdlc_station_model.specs.Stations.{Deed as LinkDeed}
use Rattle.hdlc_station_model.specs.declared.counts.Counts.{Counts}
use Rattle.x224_class2.specs.Tpdus.{GivenTpdu}
use Rattle.x224_class2.specs.Transport.{ReceptionDeed}
use Rattle.safety_automaton.specs.Reports.{KeptSafe}
use Rattle.safety_automaton.specs.Safety.{SafetyEvent, SafetyOutcome}

-- what the layers do
pub record Ops (S U : Type 0) : Type 0 where
  -- ---- the station, with the frames that it sent in this event
  -- an event begins: nothing was sent yet
  pub settled : S → S
  -- it is started at a moment
  pub starts : ℕ → S → S
  -- a frame comes at a moment, or octets that are none; and what the station tells of it
  pub receives : ℕ → Verdict → S → S
  pub told : ℕ → Verdict → S → LinkDeed
  -- a payload is handed down at a moment
  pub hands : ℕ → List ℕ → S → S
  -- an answer that is still owed is sent
  pub finishes : S → S
  -- a moment has come: T1 may expire; and why the station gives up then, where it does
  pub ticks : ℕ → S → S
  pub given_up : ℕ → S → Option Release
  -- the link is ended
  pub closes : S → S
  -- no payload waits to be sent for the first time
  pub is_free : S → Bool
  -- no payload waits, and one that is handed down now is sent at once
  pub may_send : S → Bool
  -- the moment at which T1 expires, where it runs
  pub expiry : S → Option ℕ
  pub counts : S → Counts
  -- the octets of the frames that were sent
  pub written : S → List ℕ
  -- ---- the transport, with the messages that wait for the user
  -- an event begins: nothing was accepted yet
  pub opened : U → U
  -- the caller that was just made may connect; it connects with this user data
  pub may_connect : U → Bool
  pub connects : U → List ℕ → U
  -- a TPDU comes, and what it comes to
  pub hears : U → List ℕ → U
  pub deed : U → List ℕ → ReceptionDeed
  -- the call that came is accepted with this user data
  pub accepts : U → List ℕ → U
  -- the connection is made, and fewer messages than sixteen wait for their last segment to be given; a message is handed
  pub may_hand : U → Bool
  pub hands_message : U → List ℕ → U
  -- so many messages wait so
  pub waiting : U → ℕ
  -- a TPDU is due; its octets; it is given
  pub has_next : U → Bool
  pub next : U → List ℕ
  pub after_next : U → U
  -- the end gives a TPDU of its own, DR or DC
  pub gives : U → GivenTpdu → U
  -- the safety side took a step
  pub speaks : U → SafetyEvent → SafetyOutcome → U
  -- the user's message was sent
  pub sends : U → List ℕ → U
  -- the message that came was accepted, with these user octets, and waits for the user
  pub keeps : U → List ℕ → U
  -- the message that came is one of the set-up, and counts as taken
  pub skips : U → U
  -- the user takes the oldest message; that message, where one waits; how many wait
  pub uses : U → U
  pub oldest : U → Option (List ℕ)
  pub untaken : U → ℕ
  -- the message that was accepted in this event
  pub news : U → Option (List ℕ)

-- an end
pub record Stack (S U : Type 0) : Type 0 where
  pub line : S  -- the station
  pub joined : List ℕ  -- the octets of a TPDU whose last block didn't come yet
  pub upper : U  -- the transport
  pub safe : KeptSafe  -- the safety side, and the texts that it sealed and verified in this event
  pub limit : ℕ  -- the moment at which the time for the set-up is spent
  pub moment : ℕ  -- the last moment
  pub connected : Option ℕ  -- the peer with whom the safe connection came to stand in this event
  pub leaves : Option Release  -- why it was released in this event, where it was
  pub released : Option Release  -- why it was released, once it was
