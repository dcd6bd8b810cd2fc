-- A link that was just opened: the set-up frame waits, and the invariant of a losing line holds.
use Rattle.std.proofs.Common.{ℕ, ◌-◌, ◌≤◌, inl, Bool, true, false, [], ◌∷◌, refl, arith}
use Rattle.hdlc_station_model.specs.Frames.{SetUp, modulo}
use Rattle.hdlc_pair_laws.specs.Links.{opened_station_link}
use Rattle.hdlc_pair_laws.specs.Laws.{IsNarrow, StationLinkOpening}
use Rattle.hdlc_pair_laws.specs.Invariant.{IsSpan}
use Rattle.hdlc_pair_laws.proofs.Holding.{holds_nothing}
use Rattle.hdlc_pair_laws.proofs.Acts.{StandsAt}

-- the greatest window of a link with go-back; with selective reject the window itself does
abbrev pub span_of : (selective extended : Bool) → ℕ → ℕ
span_of true extended window = window
span_of false extended window = modulo extended - 1

span_is : (selective extended : Bool) (window : ℕ) → IsNarrow selective extended window
    → IsSpan selective extended (span_of selective extended window) × (window ≤ span_of selective extended window)
span_is true extended window h = (h, omega arith)
span_is false true window h = (refl, omega arith)
span_is false false window h = (refl, omega arith)

pub opened_stands : (s : StationLinkOpening)
    → StandsAt s.selective (span_of s.selective s.extended s.window) (SetUp ∷ []) [] (opened_station_link s.selective s.extended s.window s.n2 s.t1 s.moment)
opened_stands s =
    let b = span_is s.selective s.extended s.window s.narrow in
    record {
      lined_x = refl;
      lined_y = refl;
      quiet_x = refl;
      quiet_y = refl;
      flag_x = inl refl;
      flag_y = inl refl;
      pair = (
        (record { prefix = refl; window = omega arith; given = omega arith; chain = omega arith; climb = omega arith }, (omega arith, omega arith), (refl, refl), b.1, tt, tt, holds_nothing s.selective (span_of s.selective s.extended s.window)),
        (record { prefix = refl; window = omega arith; given = omega arith; chain = omega arith; climb = omega arith }, omega arith, refl, b.1, tt, tt, holds_nothing s.selective (span_of s.selective s.extended s.window)),
        refl,
        refl,
        b.0,
      );
    }
