-- Two ends recover with the deadlines of their stations one after the other, in either order (ISO/IEC 13239, asynchronous balanced mode; this profile).
use Rattle.std.specs.Prelude.{ℕ, ◌≡◌, max, true, false, List, ◌∷◌, ◌++◌}
use Rattle.er_base.specs.declared.side.Side.{Side}
use Rattle.er_base.specs.Sides.{other}
use Rattle.hdlc_station_model.specs.Events.{is_late}
use Rattle.hdlc_pair_laws.specs.EachEnd.{HasExpiryLeft}
use Rattle.er_end_model.specs.Layers.{model}
use Rattle.er_end_model.specs.Steps.{new_event_at, is_spent}
use Rattle.er_end_model.specs.Ends.{End}
use Rattle.pair_model.specs.Links.{end_of_side}
use Rattle.pair_model.specs.Steps.{PairStep, Tick, NoFrameWaits, ArePassesAndTakes}
use Rattle.er_end_pair_laws.specs.Openings.{EndLinkOpening, Agree}
use Rattle.er_end_pair_laws.specs.Links.{EndLink}
use Rattle.er_end_pair_laws.specs.Steps.{AllFit}
use Rattle.er_end_pair_laws.specs.Laws.{end_link_after, IsEmpty}
use Rattle.er_end_pair_laws.specs.Recovery.{AreLive, GoesOnAt, IsRecovered}

-- the time for the set-up isn't spent at this moment
abbrev pub IsInTimeAt : (now : ℕ) → End → Type 0
IsInTimeAt now m = is_spent (new_event_at model now m.core) ≡ false

-- an end lives on behind this moment: nor does its station give up, whether T1 is found expired or not
abbrev pub LivesOnAt : (now : ℕ) → End → Type 0
LivesOnAt now m = let x = new_event_at model now m.core in HasExpiryLeft x.moment x.line × IsInTimeAt now m

-- so do both at a tick; a moment below the link's counts as the link's
abbrev pub LiveOn : (now : ℕ) → EndLink → Type 0
LiveOn now l = LivesOnAt (max l.moment now) l.e × LivesOnAt (max l.moment now) l.r

-- the tick finds T1 of this end expired
abbrev pub IsFoundExpired : Side → (now : ℕ) → EndLink → Type 0
IsFoundExpired side now l = let x = new_event_at model (max l.moment now) (end_of_side l side).core in is_late x.moment x.line ≡ true

-- of the deadlines that of this end came before; now T1 of the other is found expired, where it still runs
abbrev pub OtherGoesOn : Side → (now : ℕ) → EndLink → Type 0
OtherGoesOn side now l = IsInTimeAt (max l.moment now) (end_of_side l side) × GoesOnAt (max l.moment now) (end_of_side l (other side))

-- whatever the line lost and repeated, while no end was released: all that waits is given; a moment finds T1 of one end expired, of the other or not; all that
-- waits is given, and messages are taken; a moment finds T1 of the other end expired, where it still runs; all that waits is given, and all that was
-- accepted is taken
abbrev pub RecoveryInTurn : Type 0
RecoveryInTurn =
    (s : EndLinkOpening) (steps : List PairStep) → AllFit steps → Agree s → (end_link_after s steps).order_kept ≡ true → AreLive (end_link_after s steps)
    → (first : List PairStep) → ArePassesAndTakes first → NoFrameWaits (end_link_after s (steps ++ first))
    → (now : ℕ) → LiveOn now (end_link_after s (steps ++ first)) → (side : Side) → IsFoundExpired side now (end_link_after s (steps ++ first))
    → (second : List PairStep) → ArePassesAndTakes second → NoFrameWaits (end_link_after s (steps ++ first ++ Tick now ∷ second))
    → (later : ℕ) → OtherGoesOn side later (end_link_after s (steps ++ first ++ Tick now ∷ second))
    → (third : List PairStep) → ArePassesAndTakes third → IsEmpty (end_link_after s (steps ++ first ++ Tick now ∷ second ++ Tick later ∷ third))
    → IsRecovered (end_link_after s (steps ++ first ++ Tick now ∷ second ++ Tick later ∷ third))
