-- Recovery of one end at a time (ISO/IEC 13239, asynchronous balanced mode): T1 of one station expires, and of the other at another moment or not
-- at all. What the first one sent comes; with the second deadline what the other sent comes too.
use Rattle.std.specs.Prelude.{◌≡◌, ℕ, ◌<◌, max, true, List, ◌∷◌, ◌++◌, None}
use Rattle.er_base.specs.declared.side.Side.{Side}
use Rattle.er_base.specs.Sides.{other}
use Rattle.hdlc_station_model.specs.Stations.{Station}
use Rattle.hdlc_station_model.specs.Repeating.{MayRepeat}
use Rattle.hdlc_station_model.specs.Events.{is_late}
use Rattle.pair_model.specs.Links.{end_of_side}
use Rattle.pair_model.specs.Steps.{PairStep, Tick, NoFrameWaits, ArePassesAndTakes}
use Rattle.hdlc_pair_laws.specs.Links.{StationLink}
use Rattle.hdlc_pair_laws.specs.Laws.{StationLinkOpening, after}
use Rattle.hdlc_pair_laws.specs.Recovery.{AreLive, IsRecovered}
use Rattle.hdlc_pair_laws.specs.Timers.{IsRenewed}

-- a moment finds T1 of this end expired; one below the link's counts as the link's
abbrev pub IsFoundExpired : Side → (now : ℕ) → StationLink → Type 0
IsFoundExpired side now l = is_late (max l.moment now) (end_of_side l side).station ≡ true

-- a station whose T1 this moment finds expired has expiries left
abbrev pub HasExpiryLeft : (now : ℕ) → Station → Type 0
HasExpiryLeft now x = is_late now x ≡ true → x.expiries < x.n2

-- so that neither gives up
abbrev pub NoneGivesUp : (now : ℕ) → StationLink → Type 0
NoneGivesUp now l = HasExpiryLeft (max l.moment now) l.e.station × HasExpiryLeft (max l.moment now) l.r.station

-- T1 of this end doesn't run, no expiry is counted, and the other end took all that this one was handed
pub record IsRepaired (side : Side) (l : StationLink) : Type 0 where
  pub stopped : (end_of_side l side).station.timer ≡ None
  pub none : (end_of_side l side).station.expiries ≡ 0
  pub took : (end_of_side l (other side)).station.taken ≡ (end_of_side l side).station.handed

-- whatever the line lost and repeated, while no end was released: all that waits is given; then comes a moment that finds T1 of one end expired,
-- of the other or not; then all that waits is given. With that what this end was handed is taken, whatever the other lost. That refuses a station that
-- sends at an expiry the first unacknowledged frame alone: where two were lost, one is taken and T1 runs on
abbrev pub RecoveryOfEachEnd : Type 0
RecoveryOfEachEnd =
    (s : StationLinkOpening) (steps : List PairStep) → (after s steps).order_kept ≡ true → AreLive (after s steps)
    → (first : List PairStep) → ArePassesAndTakes first → NoFrameWaits (after s (steps ++ first))
    → (now : ℕ) → NoneGivesUp now (after s (steps ++ first))
    → (side : Side) → IsFoundExpired side now (after s (steps ++ first))
    → (second : List PairStep) → ArePassesAndTakes second → NoFrameWaits (after s (steps ++ first ++ Tick now ∷ second))
    → IsRepaired side (after s (steps ++ first ++ Tick now ∷ second))

-- T1 of this end doesn't run, or a moment finds it expired and the station doesn't give up yet
abbrev pub MayRepeatAt : Side → (now : ℕ) → StationLink → Type 0
MayRepeatAt side now l = MayRepeat (max l.moment now) (end_of_side l side).station

-- each end took all, and nothing of the loss is left
abbrev pub IsMadeGood : StationLink → Type 0
IsMadeGood l = IsRecovered l × IsRenewed l

-- then comes a moment that finds T1 of the other end expired, where it still runs; then all that waits is given. With that each end took all that the
-- other was handed: the deadlines of both may come in either order. That refuses the same station
abbrev pub RecoveryInTurn : Type 0
RecoveryInTurn =
    (s : StationLinkOpening) (steps : List PairStep) → (after s steps).order_kept ≡ true → AreLive (after s steps)
    → (first : List PairStep) → ArePassesAndTakes first → NoFrameWaits (after s (steps ++ first))
    → (now : ℕ) → NoneGivesUp now (after s (steps ++ first))
    → (side : Side) → IsFoundExpired side now (after s (steps ++ first))
    → (second : List PairStep) → ArePassesAndTakes second → NoFrameWaits (after s (steps ++ first ++ Tick now ∷ second))
    → (later : ℕ) → MayRepeatAt (other side) later (after s (steps ++ first ++ Tick now ∷ second))
    → (third : List PairStep) → ArePassesAndTakes third → NoFrameWaits (after s (steps ++ first ++ Tick now ∷ second ++ Tick later ∷ third))
    → IsMadeGood (after s (steps ++ first ++ Tick now ∷ second ++ Tick later ∷ third))
