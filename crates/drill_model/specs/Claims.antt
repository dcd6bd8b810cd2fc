-- The words of the headline (this profile), in the order of its fields: authentic messages and peers, what users take, a line that only loses
-- and repeats, delivery, recovery.
use Rattle.std.specs.Prelude.{ℕ, ◌≡◌, ◌≤◌, false, List, [], ◌∷◌, ◌++◌, length, Option, Some, None}
use Rattle.std.specs.List.{list_any}
use Rattle.er_base.specs.declared.release.Release.{Release}
use Rattle.er_base.specs.declared.side.Side.{Side}
use Rattle.er_base.specs.declared.side.Side.TheVariants.{E, R}
use Rattle.er_settings.specs.Values.{Settings}
use Rattle.er_scenario.specs.declared.step.Step.{Step}
use Rattle.er_scenario.specs.declared.step.Step.TheVariants as does
use Rattle.safety_pair_laws.specs.Facts.{marked}
use Rattle.safety_pair_laws.specs.Openings.{OfKeys}
use Rattle.safety_pair_laws.specs.Authentic.{Authentic}
use Rattle.safety_pair_laws.specs.Messages.{IsConnectedPhase}
use Rattle.hdlc_station_model.specs.declared.phase.Phase.TheVariants as phase
use Rattle.hdlc_station_model.specs.Lines as lines
use Rattle.hdlc_station_model.specs.Lines.{IsPrefix}
use Rattle.er_end_model.specs.Reasons as reasons
use Rattle.drill_model.specs.Outcomes.{DrillOutcome, Took, NothingToTake, Occurrence, at_end, facts_in}
use Rattle.drill_model.specs.Ends.{EndAtLevel, OfSafe, OfStation, OfStack}
use Rattle.drill_model.specs.Links.{LinkOpening, OfPair, OfStations, OfStacks, Link}
use Rattle.drill_model.specs.Worlds.{DrillPlan, link_at, history_on, overfull_side, drain, world_step, world_run}
use Rattle.drill_model.specs.Kinds.{sent_by, accepted_by, taken_by, deliveries, IsOrderKeeping, EndsAgree, bound}
use Rattle.drill_model.specs.Recovery.{GoOn, NoneWaits, IsRepairable, ArePassesAndTakes, AreStations, DrainEmpties}

-- ---- authentic messages and peers

-- what came at a link is lawful: at levels safe and full, authentic; at levels link and link-sr there is no safety layer, so nothing came of it
abbrev pub IsLawfulHistory : LinkOpening → List Occurrence → Type 0
IsLawfulHistory (OfPair opening) history = Authentic opening (facts_in history)
IsLawfulHistory (OfStations selective) history = facts_in history ≡ []
IsLawfulHistory (OfStacks engine rbc ke kr ra rb) history = Authentic (OfKeys engine rbc ke kr ra rb) (facts_in history)

-- and nothing came at a number that wasn't opened
abbrev pub LawfulAt : Option Link → List Occurrence → Type 0
LawfulAt None history = history ≡ []
LawfulAt (Some l) history = IsLawfulHistory l.opening history

-- ---- what users take

-- what a take tells first, by the messages that were accepted and not taken yet, the oldest first
abbrev pub told_of_left : List (List ℕ) → DrillOutcome
told_of_left [] = NothingToTake
told_of_left (message ∷ left) = Took message

-- a take at this side of a link with this history tells the oldest message that was accepted and not taken yet, or, where there is none,
-- that there is none; and it tells of no second message
pub record TakeTells (side : Side) (history came : List Occurrence) : Type 0 where
  pub left : List (List ℕ)
  pub accepted : accepted_by side history ≡ taken_by side history ++ left
  pub later : List Occurrence
  pub is : came ≡ at_end side (told_of_left left) ∷ later
  pub once : (s : Side) → taken_by s later ≡ []

-- at levels safe, link and link-sr a message counts as taken at once, and a take does nothing
abbrev pub IsToldOfTake : LinkOpening → Side → (history came : List Occurrence) → Type 0
IsToldOfTake (OfPair opening) side history came = came ≡ []
IsToldOfTake (OfStations selective) side history came = came ≡ []
IsToldOfTake (OfStacks engine rbc ke kr ra rb) side history came = TakeTells side history came

-- what the user of an end took is a prefix of what the end accepted; and each step of a file that takes at an open link gives the user
-- the oldest message that is left
pub record TakesInOrder (plan : DrillPlan) (steps : List Step) : Type 0 where
  pub prefix : (n : ℕ) (side : Side)
      → IsPrefix (taken_by side (history_on n (world_run plan steps).1)) (accepted_by side (history_on n (world_run plan steps).1))
  pub oldest : (before after : List Step) (n : ℕ) (side : Side) (l : Link) → steps ≡ before ++ does.Take n side ∷ after
      → link_at (world_run plan before).0 n ≡ Some l
      → IsToldOfTake l.opening side (history_on n (world_run plan before).1)
      (history_on n (world_step plan (world_run plan before).0 (does.Take n side)).1)

-- ---- a line that only loses and repeats

-- what an end accepted is a prefix of what the other sent
pub record IsInOrder (history : List Occurrence) : Type 0 where
  pub at_r : IsPrefix (accepted_by R history) (sent_by E history)
  pub at_e : IsPrefix (accepted_by E history) (sent_by R history)

-- why an end may be released there. At levels link and link-sr 0.x, its own user; 1.1, the set-up was never answered; 1.2, no progress; 1.4, the peer's
-- DISC, DM or FRMR; each is told as a local one. At level full, where the radio block centre has the engine's KMAC, the same or 6.1, the time
-- for the set-up was spent; each by the own end or by the peer
abbrev pub IsLosingLineReason : LinkOpening → Release → Type 0
IsLosingLineReason (OfPair opening) release = Unit {0}
IsLosingLineReason (OfStations selective) release = lines.IsLosingLineReason release
IsLosingLineReason (OfStacks engine rbc ke kr ra rb) release = kr ≡ Some ke → reasons.IsLosingLineReason release

-- ---- nothing forged

-- nothing is forged: no text of a set-up that was verified, no connection and no accepted message; at levels link and link-sr there is no safety layer
abbrev pub IsUnforged : List Occurrence → Type 0
IsUnforged history = list_any (λ f. f.forged) (marked (facts_in history)) ≡ false

-- on a link that keeps its order and whose ends agree, nothing is forged
abbrev pub OrderIsUnforged : DrillPlan → List Step → Type 0
OrderIsUnforged plan steps =
    (n : ℕ) (l : Link) → link_at (world_run plan steps).0 n ≡ Some l
    → IsOrderKeeping l.opening (history_on n (world_run plan steps).1) → EndsAgree l.opening
    → IsUnforged (history_on n (world_run plan steps).1)

-- ---- delivery

-- an end is connected; a station is up
abbrev pub IsConnectedEnd : EndAtLevel → Type 0
IsConnectedEnd (OfSafe s) = IsConnectedPhase s.phase
IsConnectedEnd (OfStation selective s stream) = s.phase ≡ phase.Up
IsConnectedEnd (OfStack m) = IsConnectedPhase m.core.safe.safety.phase

-- both ends are connected, and each accepted all that the other sent, in order
pub record HasAll (history : List Occurrence) (l : Link) : Type 0 where
  pub e_connected : IsConnectedEnd l.e
  pub r_connected : IsConnectedEnd l.r
  pub at_r : accepted_by R history ≡ sent_by E history
  pub at_e : accepted_by E history ≡ sent_by R history

-- both stations are up, and each accepted all that the other was handed, in order; a called station sends nothing before it took a payload,
-- so of its payloads this is said where the other was handed one
pub record HasAllPayloads (history : List Occurrence) (l : Link) : Type 0 where
  pub e_up : IsConnectedEnd l.e
  pub r_up : IsConnectedEnd l.r
  pub at_r : accepted_by R history ≡ sent_by E history
  pub at_e : 1 ≤ length (sent_by E history) → accepted_by E history ≡ sent_by R history

-- the user of an end took every message that the end accepted
abbrev pub HasTakenAll : Side → List Occurrence → Type 0
HasTakenAll side history = taken_by side history ≡ accepted_by side history

-- an empty link: no frame waits, and at level full every accepted message was taken; at levels safe, link and link-sr a message counts as
-- taken at once
abbrev pub IsEmpty : LinkOpening → List Occurrence → Link → Type 0
IsEmpty (OfPair opening) history l = (l.from_e ≡ []) × (l.from_r ≡ [])
IsEmpty (OfStations selective) history l = (l.from_e ≡ []) × (l.from_r ≡ [])
IsEmpty (OfStacks engine rbc ke kr ra rb) history l =
    (l.from_e ≡ []) × (l.from_r ≡ []) × HasTakenAll E history × HasTakenAll R history

-- what is delivered on an empty link
abbrev pub IsDelivered : LinkOpening → List Occurrence → Link → Type 0
IsDelivered (OfPair opening) history l = HasAll history l
IsDelivered (OfStations selective) history l = HasAllPayloads history l
IsDelivered (OfStacks engine rbc ke kr ra rb) history l = HasAll history l

-- a loss-free link: nothing is forged; no more deliveries than the bound, ever; once it is empty, all is delivered; and where
-- not too many frames wait, a drain of at least as many passes as the bound leaves none waiting
pub record Delivers (settings : Settings) (history : List Occurrence) (l : Link) : Type 0 where
  pub unforged : IsUnforged history
  pub bounded : deliveries history ≤ bound settings l.opening history
  pub done : IsEmpty l.opening history l → IsDelivered l.opening history l
  pub drains : overfull_side l ≡ None → (most : ℕ) → bound settings l.opening history ≤ most
      → ((drain most l).link.from_e ≡ []) × ((drain most l).link.from_r ≡ [])

-- ---- recovery

-- behind these steps frames of link n are passed and its messages taken until no frame waits, a tick comes that finds each T1 that runs expired, and
-- frames are passed and messages taken again until the link is empty: each end accepted all that the other sent, of two stations the calling one
-- where it sent any itself
abbrev pub Repairs : DrillPlan → (before : List Step) (n : ℕ) (first : List Step) (moment : ℕ) (second : List Step) → Type 0
Repairs plan before n first moment second =
    let given = world_run plan (before ++ first) in
    let all = world_run plan (before ++ first ++ does.Tick moment ∷ second) in
    (at_start before_tick at_last : Link)
    → link_at (world_run plan before).0 n ≡ Some at_start → IsRepairable (history_on n (world_run plan before).1) at_start
    → ArePassesAndTakes n first → link_at given.0 n ≡ Some before_tick → NoneWaits before_tick
    → given.0.moment ≤ moment → GoOn moment before_tick
    → ArePassesAndTakes n second → link_at all.0 n ≡ Some at_last → IsEmpty at_last.opening (history_on n all.1) at_last
    → IsDelivered at_last.opening (history_on n all.1) at_last

-- what is claimed of the world that a list of steps leads to: a drain of each link of two stations that is repairable, of as many passes as its
-- bound, leaves no frame waiting; and where the steps end with passes and takes of a link, a tick, and passes and takes of that link, they repair it
pub record Recovers (plan : DrillPlan) (all : List Step) : Type 0 where
  pub drains : (n : ℕ) (l : Link) → link_at (world_run plan all).0 n ≡ Some l → AreStations l.opening
      → IsRepairable (history_on n (world_run plan all).1) l → DrainEmpties plan (history_on n (world_run plan all).1) l
  pub repairs : (before : List Step) (n : ℕ) (first : List Step) (moment : ℕ) (second : List Step) → all ≡ before ++ first ++ does.Tick moment ∷ second
      → Repairs plan before n first moment second
