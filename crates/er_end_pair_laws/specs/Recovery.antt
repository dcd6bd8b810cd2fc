-- What two ends recover from: a line that lost and repeated frames, and then for a while loses none, by T1 of their stations alone
-- (ISO/IEC 13239, asynchronous balanced mode; this profile).
use Rattle.std.specs.Prelude.{ℕ, ◌≡◌, max, true, false, List, ◌∷◌, ◌++◌, None}
use Rattle.hdlc_station_model.specs.Repeating.{MayRepeat}
use Rattle.er_end_model.specs.Layers.{model}
use Rattle.er_end_model.specs.Steps.{new_event_at, is_spent}
use Rattle.er_end_model.specs.Ends.{End}
use Rattle.pair_model.specs.Steps.{PairStep, Tick, NoFrameWaits, ArePassesAndTakes}
use Rattle.er_end_pair_laws.specs.Openings.{EndLinkOpening, Agree}
use Rattle.er_end_pair_laws.specs.Links.{EndLink}
use Rattle.er_end_pair_laws.specs.Steps.{AllFit}
use Rattle.er_end_pair_laws.specs.Laws.{end_link_after, IsEmpty, HasAll}

-- neither end was released
abbrev pub AreLive : EndLink → Type 0
AreLive l = (l.e.core.released ≡ None) × (l.r.core.released ≡ None)

-- an end at a moment: T1 of its station doesn't run, or is found expired and the station doesn't give up yet; and the time for the set-up isn't
-- spent
abbrev pub GoesOnAt : (now : ℕ) → End → Type 0
GoesOnAt now m = let x = new_event_at model now m.core in MayRepeat x.moment x.line × (is_spent x ≡ false)

-- so do both at a tick; a moment below the link's counts as the link's
abbrev pub GoOn : (now : ℕ) → EndLink → Type 0
GoOn now l = GoesOnAt (max l.moment now) l.e × GoesOnAt (max l.moment now) l.r

-- both ends are connected and live, and each accepted all that the other sent, in order
pub record IsRecovered (l : EndLink) : Type 0 where
  pub live : AreLive l
  pub all : HasAll l

-- whatever the line lost and repeated, while no end was released: all that waits is given; then comes a moment that finds each T1 that runs
-- expired; then all that waits is given, and all that was accepted is taken
abbrev pub Recovery : Type 0
Recovery =
    (s : EndLinkOpening) (steps : List PairStep) → AllFit steps → Agree s → (end_link_after s steps).order_kept ≡ true → AreLive (end_link_after s steps)
    → (first : List PairStep) → ArePassesAndTakes first → NoFrameWaits (end_link_after s (steps ++ first))
    → (now : ℕ) → GoOn now (end_link_after s (steps ++ first))
    → (second : List PairStep) → ArePassesAndTakes second → IsEmpty (end_link_after s (steps ++ first ++ Tick now ∷ second))
    → IsRecovered (end_link_after s (steps ++ first ++ Tick now ∷ second))

-- while frames are given and messages taken, no live end is released
abbrev pub PassesRelease : Type 0
PassesRelease =
    (s : EndLinkOpening) (steps : List PairStep) → AllFit steps → Agree s → (end_link_after s steps).order_kept ≡ true → AreLive (end_link_after s steps)
    → (passes : List PairStep) → ArePassesAndTakes passes → AreLive (end_link_after s (steps ++ passes))
