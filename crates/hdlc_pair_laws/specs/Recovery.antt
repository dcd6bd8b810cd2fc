-- What two stations recover from (ISO/IEC 13239, asynchronous balanced mode): a line that lost and repeated frames, and then for a while
-- loses none, by T1 alone.
use Rattle.std.specs.Prelude.{◌≡◌, ◌⊎◌, ℕ, ◌+◌, ◌≤◌, max, true, false, List, ◌∷◌, ◌++◌, length}
use Rattle.hdlc_station_model.specs.declared.phase.Phase.TheVariants.{Up}
use Rattle.hdlc_station_model.specs.Stations.{is_down}
use Rattle.hdlc_station_model.specs.Repeating.{MayRepeat, passes_bound}
use Rattle.pair_model.specs.Steps.{PairStep, Tick, NoFrameWaits, ArePassesAndTakes, drained, is_overfull}
use Rattle.hdlc_pair_laws.specs.Links.{StationLink, station_kind}
use Rattle.hdlc_pair_laws.specs.Laws.{StationLinkOpening, after}

-- neither end was released
abbrev pub AreLive : StationLink → Type 0
AreLive l = (is_down l.e.station.phase ≡ false) × (is_down l.r.station.phase ≡ false)

-- both stations are up, the called one took all payloads, and the calling one did where it handed down any itself, since the called station
-- may not send before it took one
pub record IsRecovered (l : StationLink) : Type 0 where
  pub e_up : l.e.station.phase ≡ Up
  pub r_up : l.r.station.phase ≡ Up
  pub at_r : l.r.station.taken ≡ l.e.station.handed
  pub at_e : 1 ≤ length l.e.station.handed → l.e.station.taken ≡ l.r.station.handed

-- a moment finds each T1 that runs expired, and neither station gives up yet; one below the link's counts as the link's
abbrev pub GoOn : (now : ℕ) → StationLink → Type 0
GoOn now l = MayRepeat (max l.moment now) l.e.station × MayRepeat (max l.moment now) l.r.station

-- whatever the line lost and repeated, while no end was released: all that waits is given; then comes a moment that finds each T1 that runs
-- expired; then all that waits is given. With that each end took all that the other was handed
abbrev pub Recovery : Type 0
Recovery =
    (s : StationLinkOpening) (steps : List PairStep) → (after s steps).order_kept ≡ true → AreLive (after s steps)
    → (first : List PairStep) → ArePassesAndTakes first → NoFrameWaits (after s (steps ++ first))
    → (now : ℕ) → GoOn now (after s (steps ++ first))
    → (second : List PairStep) → ArePassesAndTakes second → NoFrameWaits (after s (steps ++ first ++ Tick now ∷ second))
    → IsRecovered (after s (steps ++ first ++ Tick now ∷ second))

-- while frames are given alone, no live end is released
abbrev pub PassesRelease : Type 0
PassesRelease =
    (s : StationLinkOpening) (steps : List PairStep) → (after s steps).order_kept ≡ true → AreLive (after s steps)
    → (passes : List PairStep) → ArePassesAndTakes passes → AreLive (after s (steps ++ passes))

-- ---- how many passes it takes

abbrev pub bound_of : StationLinkOpening → StationLink → ℕ
bound_of s l = passes_bound s.window (length l.from_e + length l.from_r) (length l.e.station.handed + length l.r.station.handed)

-- while frames are given alone, there are no more deliveries than this, from any moment on
abbrev pub PassesBound : Type 0
PassesBound =
    (s : StationLinkOpening) (steps : List PairStep) → (after s steps).order_kept ≡ true → AreLive (after s steps)
    → (passes : List PairStep) → ArePassesAndTakes passes → (after s (steps ++ passes)).passes ≤ (after s steps).passes + bound_of s (after s steps)

-- so a drain of as many passes leaves no frame waiting; it stops before where too many wait in one direction
abbrev pub DrainEmptiesLive : Type 0
DrainEmptiesLive =
    (s : StationLinkOpening) (steps : List PairStep) (most : ℕ) → (after s steps).order_kept ≡ true → AreLive (after s steps)
    → bound_of s (after s steps) ≤ most
    → NoFrameWaits (drained (station_kind s.selective) most (after s steps)) ⊎ (is_overfull (drained (station_kind s.selective) most (after s steps)) ≡ true)
