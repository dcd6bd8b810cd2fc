-- What a step of a file brings about at a link that is open, in the words of the step: what was sent, passed, lost, repeated, altered,
-- inserted, released by a user and found expired is what the file's steps say (this profile).
use Rattle.std.specs.Prelude.{ℕ, zero, suc, ◌≡◌, ◌≤◌, ◌==◌, ◌&&◌, ◌||◌, ◌⊎◌, max, not, nat_lt, Bool, true, false, if◌then◌else◌, List, [], ◌∷◌, ◌++◌, length}
use Rattle.std.specs.Prelude.{map, Option, Some, None}
use Rattle.std.specs.List.{flat_map, list_any}
use Rattle.er_base.specs.declared.side.Side.{Side}
use Rattle.er_base.specs.declared.side.Side.TheVariants.{E, R}
use Rattle.er_scenario.specs.declared.step.Step.{Step}
use Rattle.er_scenario.specs.declared.step.Step.TheVariants as does
use Rattle.safety_pair_laws.specs.Facts.{Fact, Sent, Sealed, Verified, Connected, Accepted, is_side}
use Rattle.safety_pair_laws.specs.Messages.{IsConnectedPhase}
use Rattle.drill_model.specs.Outcomes.{DrillOutcome, OfSafety, Handed, Arrived, Up, Took, NothingToTake, Refused, Released, Frame, Expired, UserReleased}
use Rattle.drill_model.specs.Outcomes.{Passed, Lost, Repeated, Altered, Inserted, NothingWaits, IsShort, Occurrence}
use Rattle.drill_model.specs.Ends.{EndAtLevel, OfSafe, OfStation, OfStack}
use Rattle.drill_model.specs.Links.{Link, waiting_of, Pass, link_step}
use Rattle.drill_model.specs.Worlds.{DrillPlan, World, link_at, history_on, world_step, world_run}
use Rattle.drill_model.specs.Kinds.{sent_by, FramesHaveRoom, EndsAgree, IsNumbered, IsOrderKeeping, IsLossFree}
use Rattle.drill_model.specs.Line.{LineIsKept}

-- ---- effects

pub data Effect : Type 0 where
  -- a send that was Ok, of these octets; a send that was refused
  Sends : (octets : List ℕ) → Effect
  IsRefused : Effect
  -- a frame was given to the other end
  Passes : (frame : List ℕ) → Effect
  -- the first frame that waits was removed, doubled, changed; octets were put before it
  Loses : Effect
  Repeats : Effect
  Alters : Effect
  Inserts : Effect
  -- the user was told to release, with this sub-reason
  Releases : (sub : ℕ) → Effect
  -- a timer was found expired
  Expires : Effect

-- the effect that a fact of the safety layer tells of, if it tells of one
abbrev pub effect_of : Fact → List Effect
effect_of (Sent user key text) = Sends user ∷ []
effect_of (Sealed key text) = []
effect_of (Verified heard key text) = []
effect_of (Connected heard connection text) = []
effect_of (Accepted heard user key text) = []

-- the effect that an outcome tells of, if it tells of one
abbrev pub effect_in : DrillOutcome → List Effect
effect_in (OfSafety fact) = effect_of fact
effect_in (Handed payload) = Sends payload ∷ []
effect_in (Arrived payload) = []
effect_in Up = []
effect_in (Took message) = []
effect_in NothingToTake = []
effect_in (Refused refusal) = IsRefused ∷ []
effect_in (Released release) = []
effect_in (Frame octets) = []
effect_in Expired = Expires ∷ []
effect_in (UserReleased sub) = Releases sub ∷ []
effect_in (Passed octets) = Passes octets ∷ []
effect_in Lost = Loses ∷ []
effect_in Repeated = Repeats ∷ []
effect_in Altered = Alters ∷ []
effect_in Inserted = Inserts ∷ []
effect_in NothingWaits = []
effect_in (IsShort length) = []

-- an effect at an end, or at what it sent
abbrev pub Effects : Type 0
Effects = List (Side × Effect)

abbrev pub effects_in : List Occurrence → Effects
effects_in history = flat_map (λ o. map (λ e. (o.side, e)) (effect_in o.outcome)) history

-- ---- timers

-- a timer runs, and its moment has come
abbrev pub RanOut : (now : ℕ) → Option ℕ → Type 0
RanOut now None = ⊥
RanOut now (Some moment) = moment ≤ now

-- a timer of an end ran out: T1 of its station, and of a stack that isn't released, also the time for its set-up while it isn't
-- connected. A station, and a stack besides its station, each keep the moment of their own last event; a moment below the last one counts
-- as the last one
abbrev pub HasRunOut : (now : ℕ) → EndAtLevel → Type 0
HasRunOut now (OfSafe side) = ⊥
HasRunOut now (OfStation selective s stream) = RanOut (max s.moment now) s.timer
HasRunOut now (OfStack m) =
    (m.core.released ≡ None)
    × (RanOut (max m.core.line.moment (max m.core.moment now)) m.core.line.timer
    ⊎ ((IsConnectedPhase m.core.safe.safety.phase → ⊥) × (m.core.limit ≤ max m.core.moment now)))

-- ---- the effects of each step

-- at the link that a step names: `own` is the number that the step names, n that of the link looked at. Where they are one, the claim is
-- of the effects, and where they aren't, the step has none
abbrev pub At : (own n : ℕ) → Effects → Type 0 → Type 0
At own n effects claim = (own ≡ n → claim) × ((own ≡ n → ⊥) → effects ≡ [])

-- of the first frame that waits, if one does
abbrev pub of_first : Side → (List ℕ → Effect) → List (List ℕ) → Effects
of_first side effect [] = []
of_first side effect (frame ∷ frames) = (side, effect frame) ∷ []

-- a frame that has no octet at that place, or that the mask doesn't change, isn't altered
abbrev pub of_alter : Side → (place mask : ℕ) → List (List ℕ) → Effects
of_alter side place mask [] = []
of_alter side place mask (frame ∷ frames) = if nat_lt place (length frame) && not (mask == 0) then (side, Alters) ∷ [] else []

-- a copy of the first frame that waits at a side of a link, if the link is open
abbrev pub of_copy : Option Link → Side → (onto : Side) → Effects
of_copy None side onto = []
of_copy (Some from) side onto = of_first onto (λ frame. Inserts) (waiting_of from side)

-- at each end whose timer ran out, that of e first
pub record TickEffects (now : ℕ) (l : Link) (effects : Effects) : Type 0 where
  pub e : Bool
  pub r : Bool
  pub is : effects ≡ (if e then (E, Expires) ∷ [] else []) ++ (if r then (R, Expires) ∷ [] else [])
  pub e_ran_out : e ≡ true → HasRunOut now l.e
  pub e_runs : e ≡ false → HasRunOut now l.e → ⊥
  pub r_ran_out : r ≡ true → HasRunOut now l.r
  pub r_runs : r ≡ false → HasRunOut now l.r → ⊥

-- a tick before the world's moment is refused
abbrev pub OfTick : (is_back : Bool) → (moment : ℕ) → Link → Effects → Type 0
OfTick true moment l effects = effects ≡ []
OfTick false moment l effects = TickEffects (max l.moment moment) l effects

-- of passes at these sides, one after the other: each of the first frame that waits then
abbrev pub of_passes : Link → List Side → Effects
of_passes l [] = []
of_passes l (side ∷ sides) = of_first side Passes (waiting_of l side) ++ of_passes (link_step l (Pass side)).0 sides

-- a drain passes next a frame of e where one waits, else one of r
abbrev pub IsNextToPass : Link → Side → Type 0
IsNextToPass l E = 1 ≤ length l.from_e
IsNextToPass l R = (l.from_e ≡ []) × (1 ≤ length l.from_r)

-- a drain of at most so many passes, from link l on, passes frames of these sides: it goes on where a frame waits and no direction has
-- too many, and it ends where there were as many passes, where no frame waits, or where a direction has too many
abbrev pub ArePassesOfDrain : (most : ℕ) → Link → List Side → Type 0
ArePassesOfDrain most l [] = (most ≡ 0) ⊎ ((l.from_e ≡ []) × (l.from_r ≡ [])) ⊎ (FramesHaveRoom l → ⊥)
ArePassesOfDrain zero l (side ∷ sides) = ⊥
ArePassesOfDrain (suc most) l (side ∷ sides) =
    IsNextToPass l side × FramesHaveRoom l × ArePassesOfDrain most (link_step l (Pass side)).0 sides

-- the effects of a drain are those of its passes
pub record DrainEffects (most : ℕ) (l : Link) (effects : Effects) : Type 0 where
  pub sides : List Side
  pub few : length sides ≤ most
  pub exact : ArePassesOfDrain most l sides
  pub are : effects ≡ of_passes l sides

-- the effects of a step at link n, which is l in this world. A take has none: what its user gets is told by `TakesInOrder` (Claims), and
-- what its end then sends by `LineIsKept` (Line)
abbrev pub HasEffects : World → (n : ℕ) → Link → Step → Effects → Type 0
HasEffects w n l (does.Fixed m engine rbc ke kr) effects = effects ≡ []
HasEffects w n l (does.Link m engine rbc ke kr ra rb) effects = effects ≡ []
HasEffects w n l (does.Wire m) effects = effects ≡ []
HasEffects w n l (does.Send m s text) effects =
    At m n effects ((effects ≡ (s, Sends text) ∷ []) ⊎ (effects ≡ (s, IsRefused) ∷ []))
HasEffects w n l (does.Pass m s) effects = At m n effects (effects ≡ of_first s Passes (waiting_of l s))
HasEffects w n l (does.Lose m s) effects = At m n effects (effects ≡ of_first s (λ frame. Loses) (waiting_of l s))
HasEffects w n l (does.Repeat m s) effects = At m n effects (effects ≡ of_first s (λ frame. Repeats) (waiting_of l s))
HasEffects w n l (does.Alter m s place mask) effects = At m n effects (effects ≡ of_alter s place mask (waiting_of l s))
HasEffects w n l (does.Put m s text) effects = At m n effects (effects ≡ (s, Inserts) ∷ [])
HasEffects w n l (does.Copy m s k t) effects = At k n effects (effects ≡ of_copy (link_at w m) s t)
HasEffects w n l (does.Take m s) effects = effects ≡ []
HasEffects w n l (does.Release m s sub) effects = At m n effects (effects ≡ (s, Releases sub) ∷ [])
HasEffects w n l (does.Tick moment) effects = OfTick (nat_lt moment w.moment) moment l effects
HasEffects w n l (does.Drain m most) effects = At m n effects (DrainEffects most l effects)

-- what each step of a list brings about at a link that was opened before
abbrev pub StepsHaveEffects : DrillPlan → List Step → Type 0
StepsHaveEffects plan steps =
    (before after : List Step) (s : Step) (n : ℕ) (l : Link) → steps ≡ before ++ s ∷ after → link_at (world_run plan before).0 n ≡ Some l
    → HasEffects (world_run plan before).0 n l s (effects_in (history_on n (world_step plan (world_run plan before).0 s).1))

-- ---- in the words of the file

-- some elements of a list, in their order
pub data IsPartOf : List (List ℕ) → List (List ℕ) → Type 0 where
  Nothing : IsPartOf [] []
  LeavesOut : (x : List ℕ) (xs ys : List (List ℕ)) → IsPartOf xs ys → IsPartOf xs (x ∷ ys)
  TakesIn : (x : List ℕ) (xs ys : List (List ℕ)) → IsPartOf xs ys → IsPartOf (x ∷ xs) (x ∷ ys)

-- the texts that a file has a side of link n send
abbrev pub texts_sent_by_step : (n : ℕ) → Side → Step → List (List ℕ)
texts_sent_by_step n side (does.Fixed m engine rbc ke kr) = []
texts_sent_by_step n side (does.Link m engine rbc ke kr ra rb) = []
texts_sent_by_step n side (does.Wire m) = []
texts_sent_by_step n side (does.Send m s text) = if (m == n) && is_side s side then text ∷ [] else []
texts_sent_by_step n side (does.Pass m s) = []
texts_sent_by_step n side (does.Lose m s) = []
texts_sent_by_step n side (does.Repeat m s) = []
texts_sent_by_step n side (does.Alter m s place mask) = []
texts_sent_by_step n side (does.Put m s text) = []
texts_sent_by_step n side (does.Copy m s k t) = []
texts_sent_by_step n side (does.Take m s) = []
texts_sent_by_step n side (does.Release m s sub) = []
texts_sent_by_step n side (does.Tick moment) = []
texts_sent_by_step n side (does.Drain m most) = []

-- what an end sent is the text of a step that sends at that side, in their order
abbrev pub SendsAreSteps : DrillPlan → List Step → Type 0
SendsAreSteps plan steps =
    (n : ℕ) (side : Side) → IsPartOf (sent_by side (history_on n (world_run plan steps).1)) (flat_map (texts_sent_by_step n side) steps)

-- a step that alters what waits on link n, or inserts there. This one and the next stand in premises alone: a step that were left out
-- would make the laws below say more, or make them false
abbrev pub disorders : (n : ℕ) → Step → Bool
disorders n (does.Alter m s place mask) = m == n
disorders n (does.Put m s text) = m == n
disorders n (does.Copy m s k t) = k == n
disorders n other = false

-- one that loses or repeats there, or has a user release
abbrev pub disturbs : (n : ℕ) → Step → Bool
disturbs n (does.Lose m s) = m == n
disturbs n (does.Repeat m s) = m == n
disturbs n (does.Release m s sub) = m == n
disturbs n other = false

-- at each tick of the file no timer of link n had run out
abbrev pub NoneRunsOut : DrillPlan → List Step → (n : ℕ) → Type 0
NoneRunsOut plan steps n =
    (before after : List Step) (moment : ℕ) (l : Link) → steps ≡ before ++ does.Tick moment ∷ after
    → link_at (world_run plan before).0 n ≡ Some l
    → (HasRunOut (max l.moment moment) l.e → ⊥) × (HasRunOut (max l.moment moment) l.r → ⊥)

-- without a step that alters, or inserts, a link whose ends number what they send keeps its order
abbrev pub QuietKeepsOrder : DrillPlan → List Step → Type 0
QuietKeepsOrder plan steps =
    (n : ℕ) (l : Link) → link_at (world_run plan steps).0 n ≡ Some l → list_any (disorders n) steps ≡ false
    → IsNumbered l.opening → IsOrderKeeping l.opening (history_on n (world_run plan steps).1)

-- and without one that loses, repeats or has a user release, and where no timer ran out at a tick, a link whose ends agree is loss-free
abbrev pub QuietIsLossFree : DrillPlan → List Step → Type 0
QuietIsLossFree plan steps =
    (n : ℕ) (l : Link) → link_at (world_run plan steps).0 n ≡ Some l → list_any (λ s. disorders n s || disturbs n s) steps ≡ false
    → NoneRunsOut plan steps n → EndsAgree l.opening → IsLossFree l.opening (history_on n (world_run plan steps).1)

-- ---- all of it

pub record Steps (plan : DrillPlan) (steps : List Step) : Type 0 where
  pub effects : StepsHaveEffects plan steps
  pub sends : SendsAreSteps plan steps
  pub order : QuietKeepsOrder plan steps
  pub loss_free : QuietIsLossFree plan steps
  -- the frames that wait are those that the ends told, as the steps changed them
  pub line : LineIsKept plan steps
