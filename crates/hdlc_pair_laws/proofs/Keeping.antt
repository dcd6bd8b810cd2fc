-- Each call keeps the invariant: the facts that layers above rest on.
use Rattle.std.proofs.Common.{◌≡◌, ℕ, ◌+◌, ◌-◌, ◌<◌, ◌≤◌, Bool, true, false, List, [], None, refl, arith}
use Rattle.std.proofs.lemmas.Bool.{cond_both}
use Rattle.hdlc_frames.specs.Laws.{ControlReadsBack, FlagParts, FrameAlone}
use Rattle.hdlc_station_model.specs.declared.phase.Phase.{Phase}
use Rattle.hdlc_station_model.specs.declared.phase.Phase.TheVariants.{Idle, Setting, Up, Down}
use Rattle.hdlc_station_model.specs.Frames.{Frame, SetUp, modulo}
use Rattle.hdlc_station_model.specs.Stations.{Station, is_down, sees, puts, made}
use Rattle.hdlc_station_model.specs.Sending.{starts_timer}
use Rattle.hdlc_station_model.specs.Calls.{starts_at, starts, closes_at, closes}
use Rattle.hdlc_pair_laws.specs.Invariant.{IsStationPair, Both}
use Rattle.hdlc_pair_laws.specs.Keeping.{CallsKeep}
use Rattle.hdlc_pair_laws.proofs.Keeps.{down_keeps}
use Rattle.hdlc_pair_laws.proofs.Rows.{first_gone, first_twice}
use Rattle.hdlc_pair_laws.proofs.Events.{swap, receives_keeps, hands_keeps, finishes_keeps, ticks_keeps, set_up_sent, closes_at_keeps}
use Rattle.hdlc_pair_laws.proofs.Lines.{one_event, flag_behind}

starts_at_keeps : (selective : Bool) (k : ℕ) (w : List Frame) (p : Phase) (x : Station) (l : List Frame) (y : Station)
    → Both selective k w (record x { phase = p }) l y → Both selective k w (starts_at p (record x { phase = p })) l y
starts_at_keeps selective k w Idle x l y b =
    cond_both x.calling (starts_timer (puts SetUp (record x { phase = Setting }))) (record x { phase = Idle }) (λ t. Both selective k w t l y)
    (λ e. set_up_sent selective k w (record x { phase = Setting }) l y b.0.2 e ((b.0.0, b.0.1, (b.0.2, e), b.0.3, b.0.4, b.0.5, b.0.6), b.1, b.2, b.3, b.4))
    (λ e. b)
starts_at_keeps selective k w Setting x l y b = b
starts_at_keeps selective k w Up x l y b = b
starts_at_keeps selective k w Down x l y b = b

starts_keeps : (selective : Bool) (k : ℕ) (w : List Frame) (now : ℕ) (x : Station) (l : List Frame) (y : Station) → Both selective k w x l y → Both selective k w (starts now x) l y
starts_keeps selective k w now x l y b =
    cond_both (is_down x.phase) x (starts_at x.phase (sees now x)) (λ t. Both selective k w t l y) (λ e. b) (λ e. starts_at_keeps selective k w x.phase (sees now x) l y b)

closes_keeps : (selective : Bool) (k : ℕ) (w : List Frame) (x : Station) (l : List Frame) (y : Station) → Both selective k w x l y → Both selective k w (closes x) l y
closes_keeps selective k w x l y b =
    cond_both (is_down x.phase) x (record (closes_at x.phase x) { phase = Down; timer = None }) (λ t. Both selective k w t l y) (λ e. b)
    (λ e.
    let c = closes_at_keeps selective k w x.phase x l y b in
    down_keeps selective k w (closes_at x.phase x) l y (closes_at x.phase x).released c.0.5 c)

below : (extended : Bool) (window : ℕ) → window < modulo extended → (modulo extended - 1 + 1 ≡ modulo extended) × (window ≤ modulo extended - 1)
below true window h = (refl, omega arith)
below false window h = (refl, omega arith)

pair_made : (extended : Bool) (window n2 t1 : ℕ) → 1 ≤ window → window < modulo extended
    → IsStationPair false (modulo extended - 1) [] (made true extended window n2 t1) [] (made false extended window n2 t1)
pair_made extended window n2 t1 some few =
    let b = below extended window few in (
      (record { prefix = refl; window = omega arith; given = omega arith; chain = omega arith; climb = omega arith }, omega arith, refl, b.1, tt, tt, refl),
      (record { prefix = refl; window = omega arith; given = omega arith; chain = omega arith; climb = omega arith }, omega arith, refl, b.1, tt, tt, refl),
      refl,
      refl,
      b.0,
    )

pub calls_keep : ControlReadsBack → FlagParts → FrameAlone → CallsKeep
calls_keep back parts alone = record {
  swapped = swap;
  made_pair = pair_made;
  started = starts_keeps;
  received = receives_keeps back;
  handed = hands_keeps;
  finished = finishes_keeps;
  ticked = ticks_keeps;
  closed = closes_keeps;
  lost = first_gone;
  repeated = first_twice;
  one_frame = λ selective k lx x f fs y read flag h. one_event parts alone selective k lx x f fs y read flag h;
  at_flag = flag_behind;
}
