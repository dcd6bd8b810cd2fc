-- What an end of a link answers to its user and to its line: when a send is refused, and why; what a release by its user is; and that a
-- released end refuses each send, ignores what the line brings and says nothing (this profile; UNISIG SUBSET-037, ITU-T X.224, ISO/IEC
-- 13239).
use Rattle.std.specs.Prelude.{ℕ, ◌≡◌, ◌≤◌, ◌+◌, ◌-◌, ◌⊎◌, true, false, if◌then◌else◌, List, [], ◌∷◌, ◌++◌, length, map, take, Option, Some}
use Rattle.std.specs.List.{flat_map, AllByRecursion}
use Rattle.er_base.specs.declared.release.Release.{Release}
use Rattle.er_base.specs.declared.side.Side.{Side}
use Rattle.des_block.specs.declared.triple_key.TripleKey.{TripleKey}
use Rattle.er_scenario.specs.declared.step.Step.{Step}
use Rattle.er_scenario.specs.declared.step.Step.TheVariants as does
use Rattle.x224_class2.specs.Segments.{Segment}
use Rattle.safety_automaton.specs.Safety as safety
use Rattle.safety_pair_laws.specs.Facts.{is_side}
use Rattle.safety_pair_laws.specs.Messages.{IsConnectedPhase}
use Rattle.er_end_model.specs.Outcomes.{SendRefusal, RefusedReleased, RefusedNotConnected, RefusedLength, RefusedFull}
use Rattle.drill_model.specs.Outcomes.{DrillOutcome, OfSafety, Handed, Arrived, Up, Took, NothingToTake, Refused, Released, Frame, Expired, UserReleased}
use Rattle.drill_model.specs.Outcomes.{Passed, Lost, Repeated, Altered, Inserted, NothingWaits, IsShort, Occurrence, at_end}
use Rattle.drill_model.specs.Ends.{EndAtLevel, OfSafe, OfStation, OfStack}
use Rattle.drill_model.specs.Links.{Link, end_of}
use Rattle.drill_model.specs.Worlds.{DrillPlan, link_at, history_on, world_step, world_run}
use Rattle.drill_model.specs.Kinds.{released_in}
use Rattle.drill_model.specs.Effects.{Sends, effects_in}

-- ---- sends

-- the end was released, for this reason
abbrev pub WasReleased : EndAtLevel → Release → Type 0
WasReleased (OfSafe s) why = (session : Option TripleKey) × (s.phase ≡ safety.Released why session)
WasReleased (OfStation selective s stream) why = s.released ≡ Some why
WasReleased (OfStack m) why = m.core.released ≡ Some why

-- for no reason
abbrev pub IsUnreleasedEnd : EndAtLevel → Type 0
IsUnreleasedEnd end = (why : Release) → WasReleased end why → ⊥

-- the safe connection of the end stands; a station has none, and takes payloads before it is up too
abbrev pub MaySend : EndAtLevel → Type 0
MaySend (OfSafe s) = IsConnectedPhase s.phase
MaySend (OfStation selective s stream) = Unit {0}
MaySend (OfStack m) = IsConnectedPhase m.core.safe.safety.phase

-- a message has 1 to 1,023 octets, a payload of a station 1 to 1,026
abbrev pub IsLengthOfSend : EndAtLevel → ℕ → Type 0
IsLengthOfSend (OfSafe s) n = (1 ≤ n) × (n ≤ 1023)
IsLengthOfSend (OfStation selective s stream) n = (1 ≤ n) × (n ≤ 1026)
IsLengthOfSend (OfStack m) n = (1 ≤ n) × (n ≤ 1023)

-- how many of these segments are the last one of a message
abbrev pub last_segments : List Segment → ℕ
last_segments [] = 0
last_segments ((true, octets) ∷ segments) = last_segments segments + 1
last_segments ((false, octets) ∷ segments) = last_segments segments

-- so many sends wait: at level safe none; of a station the payloads that were never sent; of a stack the messages whose last segment the
-- transport didn't give yet
abbrev pub AreWaiting : EndAtLevel → ℕ → Type 0
AreWaiting (OfSafe s) n = n ≡ 0
AreWaiting (OfStation selective s stream) n = n ≡ length s.handed - s.sent
AreWaiting (OfStack m) n =
    last_segments (take m.core.upper.transport.given m.core.upper.transport.segments) + n ≡ last_segments m.core.upper.transport.segments

-- why an end refuses a send of this text: the first of these that holds, in this order
abbrev pub IsRefusalAt : EndAtLevel → (text : List ℕ) → SendRefusal → Type 0
IsRefusalAt end text (RefusedReleased why) = WasReleased end why
IsRefusalAt end text RefusedNotConnected = IsUnreleasedEnd end × (MaySend end → ⊥)
IsRefusalAt end text (RefusedLength found) = IsUnreleasedEnd end × MaySend end × (IsLengthOfSend end (length text) → ⊥) × (found ≡ length text)
IsRefusalAt end text (RefusedFull waiting) =
    IsUnreleasedEnd end × MaySend end × IsLengthOfSend end (length text) × (16 ≤ waiting) × AreWaiting end waiting

-- a send at a side is refused for such a reason, and nothing else comes of it; or there is no such reason, and it is a send
abbrev pub SendsAt : Side → EndAtLevel → (text : List ℕ) → List Occurrence → Type 0
SendsAt side end text came =
    ((refusal : SendRefusal) × IsRefusalAt end text refusal × (came ≡ at_end side (Refused refusal) ∷ []))
    ⊎ (((refusal : SendRefusal) → IsRefusalAt end text refusal → ⊥) × (effects_in came ≡ (side, Sends text) ∷ []))

-- of each step that sends
abbrev pub SendsAreJudged : DrillPlan → List Step → Type 0
SendsAreJudged plan steps =
    (before after : List Step) (n : ℕ) (side : Side) (text : List ℕ) (l : Link) → steps ≡ before ++ does.Send n side text ∷ after
    → link_at (world_run plan before).0 n ≡ Some l
    → SendsAt side (end_of l side) text (history_on n (world_step plan (world_run plan before).0 (does.Send n side text)).1)

-- ---- releases

-- the releases that were told at a side
abbrev pub releases_by : Side → List Occurrence → List Release
releases_by side history = flat_map (λ o. if is_side side o.side then released_in o.outcome else []) history

-- a side tells one release at the most; then its end is released for that reason, and else it isn't released
abbrev pub StandsAsTold : List Release → EndAtLevel → Type 0
StandsAsTold [] end = IsUnreleasedEnd end
StandsAsTold (why ∷ []) end = WasReleased end why
StandsAsTold (why ∷ again ∷ more) end = ⊥

-- of each side of each link, at every moment
abbrev pub ReleasesStand : DrillPlan → List Step → Type 0
ReleasesStand plan steps =
    (n : ℕ) (l : Link) (side : Side) → link_at (world_run plan steps).0 n ≡ Some l
    → StandsAsTold (releases_by side (history_on n (world_run plan steps).1)) (end_of l side)

-- the user's release, by this end, with the user's sub-reason; then the end's last frames
pub record IsReleaseByUser (side : Side) (sub : ℕ) (came : List Occurrence) : Type 0 where
  pub frames : List (List ℕ)
  pub is : came ≡ at_end side (UserReleased sub) ∷ at_end side (Released (record { reason = 0; sub = sub; by_peer = false }))
      ∷ map (at_end side) (map Frame frames)

-- what comes of a release by the user of a side that told these releases before: a released end does nothing
abbrev pub ReleasesAt : Side → (sub : ℕ) → (told : List Release) → List Occurrence → Type 0
ReleasesAt side sub [] came = IsReleaseByUser side sub came
ReleasesAt side sub (why ∷ more) came = came ≡ at_end side (UserReleased sub) ∷ []

-- of each step by which a user releases
abbrev pub ReleasesAreUsers : DrillPlan → List Step → Type 0
ReleasesAreUsers plan steps =
    (before after : List Step) (n : ℕ) (side : Side) (sub : ℕ) (l : Link) → steps ≡ before ++ does.Release n side sub ∷ after
    → link_at (world_run plan before).0 n ≡ Some l
    → ReleasesAt side sub (releases_by side (history_on n (world_run plan before).1))
    (history_on n (world_step plan (world_run plan before).0 (does.Release n side sub)).1)

-- ---- released ends

-- what may come at an end that was released for this reason: its user takes messages, sends, which is refused for that reason, and
-- releases, which does nothing; and the line passes, loses and changes the frames that wait. Nothing is accepted, sent or told any more
abbrev pub MayComeBehind : Release → DrillOutcome → Type 0
MayComeBehind why (OfSafety fact) = ⊥
MayComeBehind why (Handed payload) = ⊥
MayComeBehind why (Arrived payload) = ⊥
MayComeBehind why Up = ⊥
MayComeBehind why (Took message) = Unit {0}
MayComeBehind why NothingToTake = Unit {0}
MayComeBehind why (Refused refusal) = refusal ≡ RefusedReleased why
MayComeBehind why (Released again) = ⊥
MayComeBehind why (Frame octets) = ⊥
MayComeBehind why Expired = ⊥
MayComeBehind why (UserReleased sub) = Unit {0}
MayComeBehind why (Passed octets) = Unit {0}
MayComeBehind why Lost = Unit {0}
MayComeBehind why Repeated = Unit {0}
MayComeBehind why Altered = Unit {0}
MayComeBehind why Inserted = Unit {0}
MayComeBehind why NothingWaits = Unit {0}
MayComeBehind why (IsShort length) = Unit {0}

-- at this side; of the other nothing is said
abbrev pub MayComeAt : Side → Release → Occurrence → Type 0
MayComeAt side why o = o.side ≡ side → MayComeBehind why o.outcome

-- behind a release at a side come the last frames of its end, and then no more than may come
pub record IsSilentBehind (side : Side) (why : Release) (after : List Occurrence) : Type 0 where
  pub frames : List (List ℕ)
  pub later : List Occurrence
  pub is : after ≡ map (at_end side) (map Frame frames) ++ later
  pub silent : AllByRecursion (MayComeAt side why) later

-- of each release that was told
abbrev pub ReleasedEndsRest : DrillPlan → List Step → Type 0
ReleasedEndsRest plan steps =
    (n : ℕ) (before after : List Occurrence) (side : Side) (why : Release)
    → history_on n (world_run plan steps).1 ≡ before ++ at_end side (Released why) ∷ after → IsSilentBehind side why after

-- ---- all of it

-- of every list of steps
pub record EndsAnswer (plan : DrillPlan) (steps : List Step) : Type 0 where
  pub sends : SendsAreJudged plan steps
  pub releases : ReleasesAreUsers plan steps
  pub told : ReleasesStand plan steps
  pub silent : ReleasedEndsRest plan steps
