-- What the line does to the frames that wait, in words of its own: behind each step of a file the frames that were passed in it, and
-- behind them those that wait still, are those that waited before it, changed as the step says, and behind them those that the ends told
-- in it (this profile).
use Rattle.std.specs.Prelude.{ℕ, zero, suc, ◌≡◌, ◌==◌, ◌&&◌, bit_xor, if◌then◌else◌, List, [], ◌∷◌, ◌++◌, Option, Some, None}
use Rattle.std.specs.List.{flat_map}
use Rattle.er_base.specs.declared.side.Side.{Side}
use Rattle.er_scenario.specs.declared.step.Step.{Step}
use Rattle.er_scenario.specs.declared.step.Step.TheVariants as does
use Rattle.safety_pair_laws.specs.Facts.{is_side}
use Rattle.drill_model.specs.Outcomes.{DrillOutcome, OfSafety, Handed, Arrived, Up, Took, NothingToTake, Refused, Released, Frame, Expired, UserReleased}
use Rattle.drill_model.specs.Outcomes.{Passed, Lost, Repeated, Altered, Inserted, NothingWaits, IsShort, Occurrence}
use Rattle.drill_model.specs.Links.{Link, waiting_of}
use Rattle.drill_model.specs.Worlds.{DrillPlan, World, link_at, history_on, world_step, world_run}
use Rattle.drill_model.specs.Kinds.{passed_in}

-- ---- what ends told, what was passed, what waits

-- a frame for the peer that an end told of
abbrev pub told_in : DrillOutcome → List (List ℕ)
told_in (OfSafety fact) = []
told_in (Handed payload) = []
told_in (Arrived payload) = []
told_in Up = []
told_in (Took message) = []
told_in NothingToTake = []
told_in (Refused refusal) = []
told_in (Released release) = []
told_in (Frame octets) = octets ∷ []
told_in Expired = []
told_in (UserReleased sub) = []
told_in (Passed octets) = []
told_in Lost = []
told_in Repeated = []
told_in Altered = []
told_in Inserted = []
told_in NothingWaits = []
told_in (IsShort length) = []

-- the frames that the end of a side told, in their order
abbrev pub frames_told_by : Side → List Occurrence → List (List ℕ)
frames_told_by side history = flat_map (λ o. if is_side side o.side then told_in o.outcome else []) history

-- the frames of a side that were passed, in their order
abbrev pub frames_passed_by : Side → List Occurrence → List (List ℕ)
frames_passed_by side history = flat_map (λ o. if is_side side o.side then passed_in o.outcome else []) history

-- the frames of a side that wait; none where the link isn't open
abbrev pub waiting_at : Option Link → Side → List (List ℕ)
waiting_at None side = []
waiting_at (Some l) side = waiting_of l side

-- ---- changes of the frames that wait, the first to be passed first

-- the octet at this place, from 0, is changed by exclusive or, and no other
abbrev pub octet_changed : (place mask : ℕ) → List ℕ → List ℕ
octet_changed place mask [] = []
octet_changed zero mask (octet ∷ octets) = bit_xor octet mask ∷ octets
octet_changed (suc place) mask (octet ∷ octets) = octet ∷ octet_changed place mask octets

-- of no frame there is nothing to alter, to lose or to repeat
abbrev pub first_altered : (place mask : ℕ) → List (List ℕ) → List (List ℕ)
first_altered place mask [] = []
first_altered place mask (frame ∷ frames) = octet_changed place mask frame ∷ frames

abbrev pub first_lost : List (List ℕ) → List (List ℕ)
first_lost [] = []
first_lost (frame ∷ frames) = frames

abbrev pub first_doubled : List (List ℕ) → List (List ℕ)
first_doubled [] = []
first_doubled (frame ∷ frames) = frame ∷ frame ∷ frames

-- the first of some frames is put before others
abbrev pub first_copied : (from onto : List (List ℕ)) → List (List ℕ)
first_copied [] onto = onto
first_copied (frame ∷ from) onto = frame ∷ onto

-- ---- each step

-- a step that names link m and side s changes the frames of that side of that link, and no others
abbrev pub where_named : (m n : ℕ) → (s side : Side) → (changed frames : List (List ℕ)) → List (List ℕ)
where_named m n s side changed frames = if (m == n) && is_side s side then changed else frames

-- the frames that waited at this side of link n, changed as a step says. A copy is taken of the first frame that waits where it comes
-- from, as it was before the step; it is put where it goes to
abbrev pub changed_by_step : World → (n : ℕ) → Side → Step → (frames : List (List ℕ)) → List (List ℕ)
changed_by_step w n side (does.Fixed m engine rbc ke kr) frames = frames
changed_by_step w n side (does.Link m engine rbc ke kr ra rb) frames = frames
changed_by_step w n side (does.Wire m) frames = frames
changed_by_step w n side (does.Send m s text) frames = frames
changed_by_step w n side (does.Pass m s) frames = frames
changed_by_step w n side (does.Lose m s) frames = where_named m n s side (first_lost frames) frames
changed_by_step w n side (does.Repeat m s) frames = where_named m n s side (first_doubled frames) frames
changed_by_step w n side (does.Alter m s place mask) frames = where_named m n s side (first_altered place mask frames) frames
changed_by_step w n side (does.Put m s text) frames = where_named m n s side (text ∷ frames) frames
changed_by_step w n side (does.Copy m s k t) frames = where_named k n t side (first_copied (waiting_at (link_at w m) s) frames) frames
changed_by_step w n side (does.Take m s) frames = frames
changed_by_step w n side (does.Release m s sub) frames = frames
changed_by_step w n side (does.Tick moment) frames = frames
changed_by_step w n side (does.Drain m most) frames = frames

-- at each link that is open behind a step, and so of the step that opens it too, before which no frame waited. A drain passes frames that
-- were told in it, so those that were passed stand before those that wait still
abbrev pub LineIsKept : DrillPlan → List Step → Type 0
LineIsKept plan steps =
    (before after : List Step) (s : Step) (n : ℕ) (l : Link) (side : Side) → steps ≡ before ++ s ∷ after
    → let w = (world_run plan before).0 in
    let a = world_step plan w s in
    link_at a.0 n ≡ Some l
    → frames_passed_by side (history_on n a.1) ++ waiting_of l side
    ≡ changed_by_step w n side s (waiting_at (link_at w n) side) ++ frames_told_by side (history_on n a.1)
