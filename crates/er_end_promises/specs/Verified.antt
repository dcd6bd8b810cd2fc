-- Contract: the messages that an end accepts (UNISIG SUBSET-037): only where the MAC verified, and one in an event at the most.
use Rattle.std.specs.Prelude.{ℕ, ◌≡◌, ◌≤◌, max, List, [], ◌∷◌, length, take, Some, None, Ok}
use Rattle.std.specs.List.{All}
use Rattle.hdlc_frames.specs.Framing.{Verdict}
use Rattle.hdlc_frames.specs.Deframing.{feeding_of}
use Rattle.t70_header.specs.Joining as joining
use Rattle.des_block.specs.declared.triple_key.TripleKey.{TripleKey}
use Rattle.cbc_mac.specs.Mac.{mac_of}
use Rattle.sapdu.specs.Spelling.{Dt, read_of}
use Rattle.sapdu.specs.Messages.{IsMessage}
use Rattle.safety_automaton.specs.Safety.{Connected, message_text, peer_flag, session_in}
use Rattle.er_end_model.specs.Steps.{Finds}
use Rattle.er_end_model.specs.Ends.{End, Event, Come, opened, Opening, Moment, end_run}
use Rattle.er_end_model.specs.Origins.{Origin, Brings, BringsIn, BringsMessage, core_behind_frames}
use Rattle.er_end_model.specs.Hearing.{text_in_deed}
use Rattle.er_end.specs.KeptLayers.{kept, line_told, upper_deed}
use Rattle.er_end.specs.KeptEnds.{KEnd, kept_opened, kept_end_behind_event, tells, used_of}
use Rattle.er_end.specs.Keeping.{accepted_in}
use Rattle.er_end.specs.Standing.{IsAllowed, events_of, kept_run, kept_outcomes}

-- the SaPDU that octets brought: they closed a frame, of which the station took a payload, this completed a TPDU, and the TPDU brought it
pub record IsSapduBrought (now : ℕ) (octets : List ℕ) (k : KEnd) (sapdu : List ℕ) : Type 0 where
  pub verdict : Verdict
  pub closed : (feeding_of k.deframer octets).verdict ≡ Some verdict
  pub payload : List ℕ
  pub taken : (line_told (max k.core.moment now) verdict (kept.settled k.core.line)).payload ≡ Some payload
  pub tpdu : List ℕ
  pub joined : (joining.block_step k.core.joined payload).1 ≡ Ok (Some tpdu)
  pub brought : text_in_deed (upper_deed k.core.upper.transport tpdu) ≡ Some sapdu

-- a message that an event accepted: octets came to an end that wasn't released and whose safe connection stood; the SaPDU that they
-- brought is a DT with this message and the peer's direction flag, whose MAC is that of the sealed text of this message to this end, under
-- the session keys. Behind the event these keys are those that `session` tells, this text is that which `verified` tells, and the message
-- has 1 to 1,023 octets
pub record IsMessageVerifiedAt (now : ℕ) (event : Event) (k : KEnd) (message : List ℕ) : Type 0 where
  pub live : k.core.released ≡ None
  pub finds : Finds
  pub octets : List ℕ
  pub came : event ≡ Come finds octets
  pub peer : ℕ
  pub keys : TripleKey
  pub connected : k.core.safe.safety.phase ≡ Connected peer keys
  pub text : List ℕ
  pub text_is : text ≡ message_text (peer_flag k.core.safe.safety) k.core.safe.safety.me message
  pub sapdu : List ℕ
  pub brought : IsSapduBrought now octets k sapdu
  pub read : read_of sapdu ≡ Ok (Dt message (mac_of keys text), peer_flag k.core.safe.safety)
  pub session : session_in (kept_end_behind_event now event k).core.safe.safety.phase ≡ Some keys
  pub verified : (kept_end_behind_event now event k).core.safe.verified ≡ Some text
  pub message_is : IsMessage message

-- each message that is accepted is one of these. (An end that doesn't clear the mark of its newest message as an event begins tells
-- the message again at the next one: `came` is false of it)
abbrev pub AcceptsVerifiedAlone : Type 0
AcceptsVerifiedAlone = (now : ℕ) (event : Event) (k : KEnd) → All (IsMessageVerifiedAt now event k) (accepted_in (tells now event k))

-- an event accepts one message at the most
abbrev pub AcceptsOneAtMost : Type 0
AcceptsOneAtMost = (now : ℕ) (event : Event) (k : KEnd) → length (accepted_in (tells now event k)) ≤ 1

-- ---- of an end from its opening on

-- the end of the end model behind calls, and how much of a piece that comes then is used
abbrev pub end_before : Opening → List Moment → End
end_before opening calls = end_run (events_of calls (kept_opened opening)) (opened opening)

abbrev pub octets_to_be_used : Opening → List Moment → List ℕ → List ℕ
octets_to_be_used opening calls octets = take (used_of (kept_run calls (kept_opened opening)) octets) octets

-- each message that any of its calls accepted, and each peer with whom it connected, is the doing of a text whose MAC verified,
-- and which the layers made of a frame that octets closed which an earlier call, or this one, was given
abbrev pub AcceptedWereBrought : Type 0
AcceptedWereBrought =
    (opening : Opening) (calls : List Moment) → IsAllowed opening
    → All (Origin (BringsIn (events_of calls (kept_opened opening)) (opened opening))) (kept_outcomes calls (kept_opened opening))

-- and each such message is accepted: where octets that a call uses close a frame of which the layers make a text that is a verified
-- message at an end that isn't released then, this call accepts that message, and it alone. (A queue with room for fewer than the
-- credit lets come would drop one without a word, by which nothing above is broken)
abbrev pub VerifiedAreAccepted : Type 0
VerifiedAreAccepted =
    (opening : Opening) (calls : List Moment) (now : ℕ) (finds : Finds) (octets message : List ℕ) → IsAllowed opening
    → (brings : Brings finds now (octets_to_be_used opening calls octets) (end_before opening calls) (BringsMessage message))
    → (core_behind_frames finds now brings.first (end_before opening calls)).released ≡ None
    → accepted_in (tells now (Come finds octets) (kept_run calls (kept_opened opening))) ≡ message ∷ []
