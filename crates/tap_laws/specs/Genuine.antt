-- What a good message in the audit of a tap is, on any line (UNISIG SUBSET-037: message origin authentication; this profile).
use Rattle.std.specs.Prelude.{ℕ, ◌≡◌, List, [], ◌∷◌, Option, Some, Ok}
use Rattle.std.specs.List.{AllByRecursion}
use Rattle.er_base.specs.declared.side.Side.{Side}
use Rattle.des_block.specs.declared.triple_key.TripleKey.{TripleKey}
use Rattle.cbc_mac.specs.Mac.{mac_of}
use Rattle.sapdu.specs.Spelling.{Dt}
use Rattle.safety_automaton.specs.Safety.{message_text}
use Rattle.safety_pair_laws.specs.Facts.{MarkedFact, marked}
use Rattle.safety_pair_laws.specs.Openings.{flag_from}
use Rattle.safety_pair_laws.specs.Authentic.{WasSent, EitherSealed}
use Rattle.er_scenario.specs.declared.step.Step.{Step}
use Rattle.er_tap.specs.declared.tap_line.TapLine.{TapLine}
use Rattle.er_end_model.specs.Steps.{Finds}
use Rattle.drill_model.specs.Outcomes.{facts_in}
use Rattle.drill_model.specs.Links.{Link, OfStacks}
use Rattle.drill_model.specs.Worlds.{DrillPlan, link_at, history_on, world_run}
use Rattle.tap_model.specs.Lines.{TapOpening}
use Rattle.tap_model.specs.Verdicts.{SafetySession, Known, receiver_of, Judged, judged, good_in}
use Rattle.tap_model.specs.Texts.{known_at, judged_at}

-- the text that the MAC of a message of a side seals: its flag, the receiver and the user octets
abbrev pub sealed_message : Known → Side → (user : List ℕ) → List ℕ
sealed_message known side user = message_text (flag_from side) (receiver_of known side) user

-- a good message of a side with these user octets: a DT whose whole MAC is that of its text under the keys of a session of the tap; and that
-- side sent these octets among these facts, as this text under these keys, unless neither side sealed the text
pub record IsGenuine (known : Known) (side : Side) (facts : List MarkedFact) (j : Judged) (user : List ℕ) : Type 0 where
  pub session : SafetySession
  pub known_is : known.session ≡ Some session
  pub read : j.read ≡ Ok (Dt user (mac_of session.keys (sealed_message known side user)), flag_from side)
  pub sent : EitherSealed session.keys (sealed_message known side user) facts → WasSent side user session.keys (sealed_message known side user) facts

abbrev pub GoodIsGenuine : Known → Side → List MarkedFact → Judged → Type 0
GoodIsGenuine known side facts j = (user : List ℕ) → good_in j ≡ user ∷ [] → IsGenuine known side facts j user

-- what came at a link
abbrev pub facts_at_link : ℕ → DrillPlan → List Step → List MarkedFact
facts_at_link n plan steps = marked (facts_in (history_on n (world_run plan steps).1))

-- for every list of steps, of each link of level full, whatever its line did, and of each item of whatever tap, with whatever keys: it was sent in the
-- steps that are done. So a message that is heard of a tap of some steps was sent in those: before it was passed. It says that the side sent such a
-- message, not how often: a DT has no number of its own under its MAC, so a line can repeat it. It refuses an audit that compares seven of a MAC's eight
-- octets
abbrev pub GoodIsSentBefore : Type 0
GoodIsSentBefore =
    (plan : DrillPlan) (steps : List Step) (n : ℕ) (l : Link) → link_at (world_run plan steps).0 n ≡ Some l
    → (engine rbc : ℕ) (ke : TripleKey) (kr : Option TripleKey) (ra rb : ℕ) → l.opening ≡ OfStacks engine rbc ke kr ra rb
    → (known : Known) (side : Side) (place : ℕ) (item : List ℕ)
    → GoodIsGenuine known side (facts_at_link n plan steps) (judged known side place item)

-- and so of all items of a side of a tap
abbrev pub GoodIsSent : Type 0
GoodIsSent =
    (plan : DrillPlan) (steps : List Step) (n : ℕ) (l : Link) → link_at (world_run plan steps).0 n ≡ Some l
    → (engine rbc : ℕ) (ke : TripleKey) (kr : Option TripleKey) (ra rb : ℕ) → l.opening ≡ OfStacks engine rbc ke kr ra rb
    → (finds : Finds) (lines : List TapLine) (m : ℕ) (o : TapOpening) (side : Side)
    → AllByRecursion (GoodIsGenuine (known_at finds m o lines) side (facts_at_link n plan steps)) (judged_at finds m o lines side)
