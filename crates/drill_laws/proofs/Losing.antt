-- A link of two stations that only loses and repeats: what was accepted is a prefix of what was sent, and why an end was released.
use Rattle.std.proofs.Common.{◌≡◌, inl, inr, ℕ, ◌*◌, ◌==◌, ◌<◌, ◌≤◌, Bool, true, false, not, List, [], ◌∷◌, refl, sym, subst, ◌∙◌}
use Rattle.std.specs.Prelude.{Option, Some}
use Rattle.std.specs.List.{AllByRecursion}
use Rattle.er_base.specs.declared.release.Release.{Release}
use Rattle.er_base.specs.declared.side.Side.TheVariants.{E, R}
use Rattle.er_settings.specs.Values.{Settings}
use Rattle.er_settings.specs.Ranges.{IsModulo, AllAllowed}
use Rattle.er_settings.specs.Laws.{AreBounded, AllowedAreBounded}
use Rattle.hdlc_station_model.specs.Frames.{modulo}
use Rattle.hdlc_station_model.specs.Lines as line_words
use Rattle.hdlc_station_model.specs.Lines.{IsPrefix}
use Rattle.pair_model.specs.Steps.{pair_run}
use Rattle.hdlc_pair_laws.specs.Links.{StationLink as Pair, station_kind}
use Rattle.hdlc_pair_laws.specs.Laws.{IsNarrow, StationLinkOpening, Prefix, LosingLineReasons}
use Rattle.hdlc_pair_laws.specs.Laws as of_pair
use Rattle.drill_model.specs.Outcomes.{Occurrence}
use Rattle.drill_model.specs.Links.{Link, LinkOpening, OfStations}
use Rattle.drill_model.specs.Kinds.{sent_by, accepted_by, releases_in, IsOrderKeeping}
use Rattle.drill_laws.specs.Laws.{FitsSettings}
use Rattle.drill_model.specs.Claims.{IsInOrder, IsLosingLineReason}
use Rattle.drill_laws.proofs.Wiring.{IsOfPair}
use Rattle.drill_laws.proofs.Stationed.{station_level, wired, IsWired}

-- ---- the pair's opening

modulo_is : (n : ℕ) → IsModulo n → modulo (n == 128) ≡ n
modulo_is n (inl basic) = rw basic refl
modulo_is n (inr extended) = rw extended refl

abbrev pub pair_opening : (settings : Settings) → (selective : Bool) → (moment : ℕ) → AreBounded settings
    → IsNarrow selective (settings.modulo == 128) settings.window → StationLinkOpening
pair_opening settings selective moment bounded narrow = record {
  selective = selective;
  extended = settings.modulo == 128;
  window = settings.window;
  n2 = settings.n2;
  t1 = settings.t1;
  moment = moment;
  some = bounded.window.0;
  narrow = narrow;
}

-- the settings of a link of stations are in their ranges
pub allowed_of : (settings : Settings) (selective : Bool) (l : Link) → l.opening ≡ OfStations selective → FitsSettings settings l.opening → AllAllowed settings
allowed_of settings true l is fit = (subst (FitsSettings settings) is fit).0
allowed_of settings false l is fit = subst (FitsSettings settings) is fit

-- the window is below the modulo, and with selective reject half of it at the most
pub narrow_of : (settings : Settings) (selective : Bool) (l : Link) → l.opening ≡ OfStations selective → FitsSettings settings l.opening → AreBounded settings
    → IsNarrow selective (settings.modulo == 128) settings.window
narrow_of settings true l is fit bounded =
    let both : AllAllowed settings × (2 * settings.window ≤ settings.modulo) = subst (FitsSettings settings) is fit in
    subst (λ (m : ℕ). 2 * settings.window ≤ m) (sym (modulo_is settings.modulo both.0.modulo)) both.1
narrow_of settings false l is fit bounded =
    let allowed : AllAllowed settings = subst (FitsSettings settings) is fit in
    subst (λ (m : ℕ). settings.window < m) (sym (modulo_is settings.modulo allowed.modulo)) bounded.window_below_modulo

pub not_false : (b : Bool) → not b ≡ false → b ≡ true
not_false true e = refl
not_false false e = absurd (cc)

-- ---- one link

pub kept_of : (settings : Settings) (selective : Bool) (l : Link) (history : List Occurrence) (w : IsWired settings selective l history) → IsOrderKeeping l.opening history
    → (pair_run (station_kind selective) (wired settings selective w.moment) w.steps).order_kept ≡ true
kept_of settings selective l history w keeping = not_false (pair_run (station_kind selective) (wired settings selective w.moment) w.steps).order_kept (sym w.sees.order ∙ keeping.ordered)

-- how the pair of such a link was opened
abbrev pub opening_at : AllowedAreBounded → (settings : Settings) (selective : Bool) (l : Link) (history : List Occurrence) → IsWired settings selective l history
    → FitsSettings settings l.opening → (moment : ℕ) → StationLinkOpening
opening_at bounds settings selective l history w fit moment =
    let kind : l.opening ≡ OfStations selective = w.sees.opening_is in
    let bounded : AreBounded settings = bounds settings (allowed_of settings selective l kind fit) in
    pair_opening settings selective moment bounded (narrow_of settings selective l kind fit bounded)

pub prefix_of : (xs ys xs' ys' : List (List ℕ)) → xs ≡ xs' → ys ≡ ys' → line_words.IsPrefix xs' ys' → IsPrefix xs ys
prefix_of xs ys xs' ys' x y prefix = rw (x, y) prefix

pub wired_in_order : Prefix → AllowedAreBounded → (settings : Settings) (selective : Bool) (l : Link) (history : List Occurrence) → IsWired settings selective l history
    → FitsSettings settings l.opening → IsOrderKeeping l.opening history → IsInOrder history
wired_in_order law bounds settings selective l history w fit keeping =
    let v = w.sees in
    let p : Pair = pair_run (station_kind selective) (wired settings selective w.moment) w.steps in
    let s : StationLinkOpening = opening_at bounds settings selective l history w fit w.moment in
    let both : line_words.IsPrefix p.r.station.taken p.e.station.handed × line_words.IsPrefix p.e.station.taken p.r.station.handed = law s w.steps (kept_of settings selective l history w keeping) in
    record {
      at_r = prefix_of (accepted_by R history) (sent_by E history) p.r.station.taken p.e.station.handed v.accepted_r v.sent_e both.0;
      at_e = prefix_of (accepted_by E history) (sent_by R history) p.e.station.taken p.r.station.handed v.accepted_e v.sent_r both.1;
    }

one_reason : (selective : Bool) (released : Option Release) (release : Release) → released ≡ Some release
    → of_pair.IsLosingLineRelease released → IsLosingLineReason (OfStations selective) release
one_reason selective released release is reason = subst of_pair.IsLosingLineRelease is reason

all_reasons : (selective : Bool) (p : Pair) (releases : List Release) → of_pair.IsLosingLineRelease p.e.station.released → of_pair.IsLosingLineRelease p.r.station.released
    → AllByRecursion (IsOfPair (station_level selective) p) releases → AllByRecursion (IsLosingLineReason (OfStations selective)) releases
all_reasons selective p [] e r all = tt
all_reasons selective p (x ∷ xs) e r all =
    (elim all.0 [ inl is ↦ one_reason selective p.e.station.released x is e | inr is ↦ one_reason selective p.r.station.released x is r ], all_reasons selective p xs e r all.1)

pub wired_reasons : LosingLineReasons → AllowedAreBounded → (settings : Settings) (selective : Bool) (l : Link) (history : List Occurrence) → IsWired settings selective l history
    → FitsSettings settings l.opening → IsOrderKeeping l.opening history → AllByRecursion (IsLosingLineReason l.opening) (releases_in history)
wired_reasons law bounds settings selective l history w fit keeping =
    let v = w.sees in
    let p : Pair = pair_run (station_kind selective) (wired settings selective w.moment) w.steps in
    let s : StationLinkOpening = opening_at bounds settings selective l history w fit w.moment in
    let both : of_pair.IsLosingLineRelease p.e.station.released × of_pair.IsLosingLineRelease p.r.station.released = law s w.steps (kept_of settings selective l history w keeping) in
    subst (λ (o : LinkOpening). AllByRecursion (IsLosingLineReason o) (releases_in history)) (sym w.sees.opening_is)
    (all_reasons selective p (releases_in history) both.0 both.1 v.releases)
