-- What holds of two stations over two lines, with go-back or with selective reject, over every list of steps, at modulo 8 and at modulo 128. A list of steps
-- stands for each
-- moment of a longer run.
use Rattle.std.specs.Prelude.{◌≡◌, ℕ, ◌*◌, ◌<◌, ◌≤◌, Bool, true, false, List, length, Option, Some, None}
use Rattle.er_base.specs.declared.release.Release.{Release}
use Rattle.hdlc_station_model.specs.declared.phase.Phase.TheVariants.{Up}
use Rattle.hdlc_station_model.specs.Frames.{modulo}
use Rattle.hdlc_station_model.specs.Lines.{IsPrefix, IsLosingLineReason, station_bound}
use Rattle.pair_model.specs.Steps.{PairStep, NoFrameWaits, drained, pair_run}
use Rattle.hdlc_pair_laws.specs.Links.{StationLink, station_kind, opened_station_link}

-- the greatest window of a kind: one below the modulo, and with selective reject half of it, so that an old frame that comes again is never
-- taken for a new one (ISO/IEC 13239)
abbrev pub IsNarrow : (selective extended : Bool) → (window : ℕ) → Type 0
IsNarrow true extended window = 2 * window ≤ modulo extended
IsNarrow false extended window = window < modulo extended

-- how a link is opened: the kind and the settings of both stations, and the moment
pub record StationLinkOpening : Type 0 where
  pub selective : Bool
  pub extended : Bool
  pub window : ℕ
  pub n2 : ℕ
  pub t1 : ℕ
  pub moment : ℕ
  pub some : 1 ≤ window
  pub narrow : IsNarrow selective extended window

-- the link behind a list of steps
abbrev pub after : StationLinkOpening → List PairStep → StationLink
after s steps = pair_run (station_kind s.selective) (opened_station_link s.selective s.extended s.window s.n2 s.t1 s.moment) steps

-- ---- an order-keeping line: it may lose and repeat

-- what an end took is a prefix of what was handed down at the other
abbrev pub Prefix : Type 0
Prefix =
    (s : StationLinkOpening) (steps : List PairStep) → (after s steps).order_kept ≡ true
    → IsPrefix (after s steps).r.station.taken (after s steps).e.station.handed × IsPrefix (after s steps).e.station.taken (after s steps).r.station.handed

-- where an end was released, it was for such a reason
abbrev pub IsLosingLineRelease : Option Release → Type 0
IsLosingLineRelease None = Unit {0}
IsLosingLineRelease (Some release) = IsLosingLineReason release

abbrev pub LosingLineReasons : Type 0
LosingLineReasons =
    (s : StationLinkOpening) (steps : List PairStep) → (after s steps).order_kept ≡ true
    → IsLosingLineRelease (after s steps).e.station.released × IsLosingLineRelease (after s steps).r.station.released

-- ---- a loss-free line

-- the greatest number of deliveries
abbrev pub bound : StationLink → ℕ
bound l = station_bound (length l.e.station.handed) (length l.r.station.handed)

-- once it is empty, both stations are up, the called one took all payloads, and the calling one did where it handed down any itself
abbrev pub Delivery : Type 0
Delivery =
    (s : StationLinkOpening) (steps : List PairStep) → (after s steps).loss_free ≡ true → NoFrameWaits (after s steps)
    → (after s steps).e.station.phase ≡ Up
    × (after s steps).r.station.phase ≡ Up
    × (after s steps).r.station.taken ≡ (after s steps).e.station.handed
    × (1 ≤ length (after s steps).e.station.handed → (after s steps).e.station.taken ≡ (after s steps).r.station.handed)

abbrev pub DeliveryBound : Type 0
DeliveryBound =
    (s : StationLinkOpening) (steps : List PairStep) → (after s steps).loss_free ≡ true → (after s steps).passes ≤ bound (after s steps)

-- never more than 254 frames wait in one direction: at modulo 128 at most 127 I frames, and an RR for each of the other direction
abbrev pub FewWait : Type 0
FewWait =
    (s : StationLinkOpening) (steps : List PairStep) → (after s steps).loss_free ≡ true
    → (length (after s steps).from_e ≤ 254) × (length (after s steps).from_r ≤ 254)

-- a drain of as many passes leaves no frame waiting
abbrev pub DrainEmpties : Type 0
DrainEmpties =
    (s : StationLinkOpening) (steps : List PairStep) (most : ℕ) → (after s steps).loss_free ≡ true → bound (after s steps) ≤ most
    → NoFrameWaits (drained (station_kind s.selective) most (after s steps))
