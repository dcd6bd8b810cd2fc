-- A gap is filled while frames are given, without T1, at any time in the life of a link (ISO/IEC 13239, asynchronous balanced mode with REJ or SREJ):
-- whatever the line lost and repeated before, once nothing waits and nothing is unacknowledged the next loss is noted at once.
use Rattle.std.specs.Prelude.{◌≡◌, Bool, true, false, List, ◌∷◌, ◌++◌, None}
use Rattle.er_base.specs.declared.side.Side.{Side}
use Rattle.er_base.specs.Sides.{other}
use Rattle.hdlc_station_model.specs.Stations.{Station}
use Rattle.pair_model.specs.Links.{end_of_side}
use Rattle.pair_model.specs.Steps.{PairStep, Lose, NoFrameWaits, ArePassesAndTakes, pair_run}
use Rattle.hdlc_pair_laws.specs.Links.{StationLink, station_kind}
use Rattle.hdlc_pair_laws.specs.Laws.{StationLinkOpening, after}
use Rattle.hdlc_pair_laws.specs.Recovery.{AreLive}
use Rattle.hdlc_pair_laws.specs.EachEnd.{IsMadeGood}
use Rattle.hdlc_pair_laws.specs.Filling.{TwoWait}

-- no frame waits, and T1 of neither station runs
abbrev pub IsQuiet : StationLink → Type 0
IsQuiet l = NoFrameWaits l × (l.e.station.timer ≡ None) × (l.r.station.timer ≡ None)

-- a station with go-back says REJ where its gap mark is clear; a frame that merely came twice leaves the mark set. One with selective reject has none
abbrev pub MarksNoGap : (selective : Bool) → Station → Type 0
MarksNoGap true x = Unit {0}
MarksNoGap false x = x.gap ≡ false

-- the link behind some steps and then more, where what the line loses is counted from there on
abbrev pub after_anew : StationLinkOpening → (steps more : List PairStep) → StationLink
after_anew s steps more = pair_run (station_kind s.selective) (record (after s steps) { loss_free = true }) more

-- from a quiet moment of a line that keeps its order, while neither end was released, the line loses nothing; then the first frame that waits from an end is
-- lost, whichever frame it is, while two I frames or more wait from it. Then what waits is given, and no moment comes at which T1 could be found
-- expired. Once no frame waits, each end took all that the other was handed, and T1 of neither runs: it is quiet again. That
-- refuses a station with go-back that says REJ three times in its life and then RR: at the first loss it does what it should
abbrev pub GapsAreFilledAgain : Type 0
GapsAreFilledAgain =
    (s : StationLinkOpening) (steps : List PairStep) → (after s steps).order_kept ≡ true → AreLive (after s steps) → IsQuiet (after s steps)
    → (side : Side) → MarksNoGap s.selective (end_of_side (after s steps) (other side)).station
    → (more : List PairStep) → (after_anew s steps more).loss_free ≡ true
    → TwoWait side (after_anew s steps more)
    → (passes : List PairStep) → ArePassesAndTakes passes → NoFrameWaits (after_anew s steps (more ++ Lose side ∷ passes))
    → IsMadeGood (after_anew s steps (more ++ Lose side ∷ passes))
