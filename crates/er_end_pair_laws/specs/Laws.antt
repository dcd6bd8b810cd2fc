-- What holds of two ends over two lines, over every list of steps, at modulo 8 and at modulo 128. A list of steps stands for each moment of
-- a longer run. An opening has its settings, numbers and random numbers in their ranges; the user octets of the steps are octets.
use Rattle.std.specs.Prelude.{◌≡◌, ℕ, ◌≤◌, true, List, [], ◌∷◌, length}
use Rattle.er_settings.specs.Values.{Settings}
use Rattle.hdlc_station_model.specs.Events.{news}
use Rattle.hdlc_station_model.specs.Lines.{IsPrefix}
use Rattle.er_end_model.specs.Steps.{is_connected}
use Rattle.er_end_model.specs.Bounds.{end_bound}
use Rattle.pair_model.specs.Steps.{PairStep, drained, pair_run}
use Rattle.er_end_pair_laws.specs.Openings.{EndLinkOpening, Agree}
use Rattle.er_end_pair_laws.specs.Reasons.{IsLosingLineRelease}
use Rattle.er_end_pair_laws.specs.Links.{EndLink, end_kind, opened_end_link}
use Rattle.er_end_pair_laws.specs.Phases.{AreInStep}
use Rattle.er_end_pair_laws.specs.Steps.{AllFit}

-- the link behind a list of steps
abbrev pub end_link_after : EndLinkOpening → List PairStep → EndLink
end_link_after s steps = pair_run (end_kind s.finder) (opened_end_link s) steps

-- ---- an order-keeping line: it may lose and repeat

-- what an end accepted is a prefix of what the other sent, whatever the keys
abbrev pub Prefix : Type 0
Prefix =
    (s : EndLinkOpening) (steps : List PairStep) → AllFit steps → (end_link_after s steps).order_kept ≡ true
    → IsPrefix (end_link_after s steps).r.core.upper.accepted (end_link_after s steps).e.core.upper.sent
    × IsPrefix (end_link_after s steps).e.core.upper.accepted (end_link_after s steps).r.core.upper.sent

-- where the keys agree, each release is one of those that such a line allows
abbrev pub LosingLineReasons : Type 0
LosingLineReasons =
    (s : EndLinkOpening) (steps : List PairStep) → AllFit steps → Agree s → (end_link_after s steps).order_kept ≡ true
    → IsLosingLineRelease (end_link_after s steps).e.core.released × IsLosingLineRelease (end_link_after s steps).r.core.released

-- the first frame that waits is one frame at the other end, and nothing besides
abbrev pub IsOneFrame : (stream : List ℕ) → (line : List (List ℕ)) → Type 0
IsOneFrame stream line = (octets : List ℕ) (rest : List (List ℕ)) → line ≡ octets ∷ rest → length (news stream octets) ≡ 1

abbrev pub OneFrame : Type 0
OneFrame =
    (s : EndLinkOpening) (steps : List PairStep) → AllFit steps → (end_link_after s steps).order_kept ≡ true
    → IsOneFrame (end_link_after s steps).r.stream (end_link_after s steps).from_e
    × IsOneFrame (end_link_after s steps).e.stream (end_link_after s steps).from_r

-- ---- a loss-free line, where the keys agree

-- the two safety sides are in step
abbrev pub InStep : Type 0
InStep =
    (s : EndLinkOpening) (steps : List PairStep) → AllFit steps → Agree s → (end_link_after s steps).loss_free ≡ true
    → AreInStep s.engine s.rbc s.kmac s.ra s.rb (end_link_after s steps).e.core.safe.safety (end_link_after s steps).r.core.safe.safety

-- no frame waits, and every accepted message was taken
abbrev pub IsEmpty : EndLink → Type 0
IsEmpty l =
    (l.from_e ≡ []) × (l.from_r ≡ []) × (l.e.core.upper.used ≡ length l.e.core.upper.accepted)
    × (l.r.core.upper.used ≡ length l.r.core.upper.accepted)

-- both ends are connected, and each accepted all that the other sent, in order
pub record HasAll (l : EndLink) : Type 0 where
  pub e_connected : is_connected l.e.core.safe.safety.phase ≡ true
  pub r_connected : is_connected l.r.core.safe.safety.phase ≡ true
  pub at_r : l.r.core.upper.accepted ≡ l.e.core.upper.sent
  pub at_e : l.e.core.upper.accepted ≡ l.r.core.upper.sent

abbrev pub Delivery : Type 0
Delivery =
    (s : EndLinkOpening) (steps : List PairStep) → AllFit steps → Agree s → (end_link_after s steps).loss_free ≡ true → IsEmpty (end_link_after s steps)
    → HasAll (end_link_after s steps)

-- the greatest number of deliveries
abbrev pub bound : Settings → EndLink → ℕ
bound settings l = end_bound settings l.e.core.upper.sent l.r.core.upper.sent

abbrev pub DeliveryBound : Type 0
DeliveryBound =
    (s : EndLinkOpening) (steps : List PairStep) → AllFit steps → Agree s → (end_link_after s steps).loss_free ≡ true
    → (end_link_after s steps).passes ≤ bound s.settings (end_link_after s steps)

-- never more than 254 frames wait in one direction: at modulo 128 at most 127 I frames, and an RR for each of the other direction
abbrev pub FewWait : Type 0
FewWait =
    (s : EndLinkOpening) (steps : List PairStep) → AllFit steps → Agree s → (end_link_after s steps).loss_free ≡ true
    → (length (end_link_after s steps).from_e ≤ 254) × (length (end_link_after s steps).from_r ≤ 254)

-- a drain of as many passes leaves no frame waiting
abbrev pub DrainEmpties : Type 0
DrainEmpties =
    (s : EndLinkOpening) (steps : List PairStep) (most : ℕ) → AllFit steps → Agree s → (end_link_after s steps).loss_free ≡ true
    → bound s.settings (end_link_after s steps) ≤ most
    → ((drained (end_kind s.finder) most (end_link_after s steps)).from_e ≡ []) × ((drained (end_kind s.finder) most (end_link_after s steps)).from_r ≡ [])
