-- A gap is filled while frames are given, without T1 (ISO/IEC 13239, asynchronous balanced mode with REJ or SREJ): the frame behind a lost one
-- tells the peer, which asks for it at once.
use Rattle.std.specs.Prelude.{◌≡◌, ◌+◌, ◌≤◌, true, List, ◌∷◌, ◌++◌, length}
use Rattle.er_base.specs.declared.side.Side.{Side}
use Rattle.er_base.specs.Sides.{other}
use Rattle.pair_model.specs.Links.{end_of_side}
use Rattle.pair_model.specs.Steps.{PairStep, Lose, NoFrameWaits, ArePassesAndTakes}
use Rattle.hdlc_pair_laws.specs.Links.{StationLink}
use Rattle.hdlc_pair_laws.specs.Laws.{StationLinkOpening, after}
use Rattle.hdlc_pair_laws.specs.Recovery.{IsRecovered}

-- at least two I frames of this end weren't taken yet: on a loss-free line they wait
abbrev pub TwoWait : Side → StationLink → Type 0
TwoWait side l = length (end_of_side l (other side)).station.taken + 2 ≤ (end_of_side l side).station.sent

-- on a line that was loss-free so far the first frame that waits from an end is lost, whichever frame it is, while two I frames or more wait from
-- it. Then what waits is given, and no moment comes at which T1 could be found expired. Once no frame waits, each end took all that the other was
-- handed
abbrev pub GapsAreFilled : Type 0
GapsAreFilled =
    (s : StationLinkOpening) (steps : List PairStep) → (after s steps).loss_free ≡ true
    → (side : Side) → TwoWait side (after s steps)
    → (passes : List PairStep) → ArePassesAndTakes passes → NoFrameWaits (after s (steps ++ Lose side ∷ passes))
    → IsRecovered (after s (steps ++ Lose side ∷ passes))
