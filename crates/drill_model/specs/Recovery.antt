-- What a link recovers from, at every level but safe (ISO/IEC 13239, asynchronous balanced mode; this profile): a line that lost and repeated
-- frames, while neither end was released; which steps then give all that waits, and at which moment T1 lets the stations repeat; and, of two
-- stations, in how many passes a drain leaves nothing waiting.
use Rattle.std.specs.Prelude.{ℕ, ◌≡◌, ◌≤◌, ◌+◌, max, false, List, [], ◌∷◌, length, None}
use Rattle.er_base.specs.declared.side.Side.TheVariants.{E, R}
use Rattle.er_scenario.specs.declared.step.Step.{Step}
use Rattle.er_scenario.specs.declared.step.Step.TheVariants as does
use Rattle.hdlc_station_model.specs.Stations.{is_down}
use Rattle.hdlc_station_model.specs.Repeating.{MayRepeat, passes_bound}
use Rattle.er_end_model.specs.Layers.{model}
use Rattle.er_end_model.specs.Steps.{new_event_at, is_spent}
use Rattle.drill_model.specs.Outcomes.{Occurrence}
use Rattle.drill_model.specs.Ends.{EndAtLevel, OfSafe, OfStation, OfStack}
use Rattle.drill_model.specs.Links.{LinkOpening, OfPair, OfStations, OfStacks, Link}
use Rattle.drill_model.specs.Worlds.{DrillPlan, overfull_side, drain}
use Rattle.drill_model.specs.Kinds.{sent_by, IsOrderKeeping, EndsAgree}

-- a station or a stack that wasn't released; of the sides of level safe nothing is said here
abbrev pub IsLive : EndAtLevel → Type 0
IsLive (OfSafe s) = ⊥
IsLive (OfStation selective s stream) = is_down s.phase ≡ false
IsLive (OfStack m) = m.core.released ≡ None

-- T1 of the end's station doesn't run, or this moment finds it expired and the station doesn't give up yet; and at level full the time for the
-- set-up isn't spent
abbrev pub GoesOnAt : (now : ℕ) → EndAtLevel → Type 0
GoesOnAt now (OfSafe s) = ⊥
GoesOnAt now (OfStation selective s stream) = MayRepeat now s
GoesOnAt now (OfStack m) = let x = new_event_at model now m.core in MayRepeat x.moment x.line × (is_spent x ≡ false)

-- so do both ends at a tick; a moment below the link's counts as the link's
abbrev pub GoOn : (now : ℕ) → Link → Type 0
GoOn now l = GoesOnAt (max l.moment now) l.e × GoesOnAt (max l.moment now) l.r

abbrev pub NoneWaits : Link → Type 0
NoneWaits l = (l.from_e ≡ []) × (l.from_r ≡ [])

-- a link whose line only lost and repeated, whose ends agree on the KMAC, where they have one, and of whose ends neither was released
pub record IsRepairable (history : List Occurrence) (l : Link) : Type 0 where
  pub ordered : IsOrderKeeping l.opening history
  pub agree : EndsAgree l.opening
  pub e_live : IsLive l.e
  pub r_live : IsLive l.r

-- ---- the steps that give what waits

-- a step that passes frames of link n, or by which a user of link n takes a message; a station's message counts as taken at once, so there a take
-- does nothing
abbrev pub IsPassOrTake : (n : ℕ) → Step → Type 0
IsPassOrTake n (does.Fixed m engine rbc ke kr) = ⊥
IsPassOrTake n (does.Link m engine rbc ke kr ra rb) = ⊥
IsPassOrTake n (does.Wire m) = ⊥
IsPassOrTake n (does.Send m s text) = ⊥
IsPassOrTake n (does.Pass m s) = m ≡ n
IsPassOrTake n (does.Lose m s) = ⊥
IsPassOrTake n (does.Repeat m s) = ⊥
IsPassOrTake n (does.Alter m s place mask) = ⊥
IsPassOrTake n (does.Put m s text) = ⊥
IsPassOrTake n (does.Copy m s i t) = ⊥
IsPassOrTake n (does.Take m s) = m ≡ n
IsPassOrTake n (does.Release m s sub) = ⊥
IsPassOrTake n (does.Tick moment) = ⊥
IsPassOrTake n (does.Drain m most) = m ≡ n

abbrev pub ArePassesAndTakes : (n : ℕ) → List Step → Type 0
ArePassesAndTakes n [] = Unit {0}
ArePassesAndTakes n (s ∷ steps) = IsPassOrTake n s × ArePassesAndTakes n steps

-- ---- how many passes it takes, of two stations

abbrev pub AreStations : LinkOpening → Type 0
AreStations (OfPair opening) = ⊥
AreStations (OfStations selective) = Unit {0}
AreStations (OfStacks engine rbc ke kr ra rb) = ⊥

-- a drain of so many passes leaves no frame waiting, unless it stops since too many wait in one direction
abbrev pub drain_bound : DrillPlan → List Occurrence → Link → ℕ
drain_bound plan history l =
    passes_bound plan.settings.window (length l.from_e + length l.from_r) (length (sent_by E history) + length (sent_by R history))

abbrev pub DrainEmpties : DrillPlan → List Occurrence → Link → Type 0
DrainEmpties plan history l =
    (most : ℕ) → drain_bound plan history l ≤ most → overfull_side (drain most l).link ≡ None → NoneWaits (drain most l).link
