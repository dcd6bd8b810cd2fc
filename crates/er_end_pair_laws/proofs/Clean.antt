-- Each event at one end, on a loss-free line between two ends whose keys agree: the end lives on, and what flows keeps its shape.
use Rattle.std.proofs.Common.{◌≡◌, ℕ, ◌+◌, ◌-◌, Bool, false, ◌&&◌, List, ◌∷◌, length, Option, None, refl, sym, ◌∙◌, subst}
use Rattle.hdlc_station_model.specs.Receiving.{is_some_octets}
use Rattle.std.specs.Prelude.{◌==◌, if◌then◌else◌, is_some, nat_lt}
use Rattle.std.proofs.lemmas.Bool.{cond_both}
use Rattle.er_base.specs.declared.release.Release.{Release}
use Rattle.er_base.specs.declared.cause.Cause.TheVariants.{SetUpTimeSpent}
use Rattle.er_base.specs.Causes.{release_of}
use Rattle.hdlc_frames.specs.Framing.{Verdict}
use Rattle.hdlc_station_model.specs.Frames.{Frame}
use Rattle.hdlc_station_model.specs.Stations.{Station, no_deed, is_down}
use Rattle.hdlc_station_model.specs.Calls as station
use Rattle.hdlc_station_model.specs.Events.{is_late}
use Rattle.hdlc_pair_laws.specs.Flowing.{Midway, Ended}
use Rattle.hdlc_pair_laws.specs.Keeping.{found}
use Rattle.safety_automaton.specs.Safety.{no_keys, DataRequest, step, octets_sent_in_outcome}
use Rattle.x224_class2.specs.Transport.{is_open, waiting_count}
use Rattle.er_end_model.specs.Layers.{Core, model}
use Rattle.er_end_model.specs.Steps.{with_safety_step, on_link_deed, conclude_event, on_frame, on_tick, on_expiry, send_dr, di_of, is_spent, on_take, on_send, on_start}
use Rattle.er_end_pair_laws.specs.Openings.{EndLinkOpening, Agree}
use Rattle.er_end_pair_laws.specs.LawsBelow.{LossFreeLawsBelow}
use Rattle.er_end_pair_laws.proofs.Own.{Done}
use Rattle.er_end_pair_laws.proofs.Events.{with_line}
use Rattle.er_end_pair_laws.proofs.Happens.{received_good}
use Rattle.er_end_pair_laws.proofs.Stations.{link_stays, concluded_sent, concluded, Went, none_told}

-- ---- a frame comes

abbrev behind : EndLinkOpening → Core → Frame → Core → Station
behind s x f y = station.receives x.moment (found y.line f) x.line

abbrev heard_core : EndLinkOpening → Core → Frame → Core → Core
heard_core s x f y = on_link_deed model s.finder (behind s x f y).deed (with_line x (behind s x f y))

pub received_went : LossFreeLawsBelow → (s : EndLinkOpening) (c : Bool) (k n : ℕ) (w : List Frame) (x : Core) (f : Frame) (fs : List Frame) (y : Core) → x.line.deed ≡ no_deed → x.released ≡ None
    → Agree s → y.released ≡ None → Done s c k w x (f ∷ fs) y → Midway c n w x.line (f ∷ fs) y.line → Went c (n + 1) w (on_frame model s.finder (found y.line f) x) fs y.line
received_went free s c k n w x f fs y quiet live agree peer d m =
    let line : Station = behind s x f y in
    let z : Core = heard_core s x f y in
    let m' = free.keep.received false c k n w x.moment x.line f fs y.line d.beside.0 m in
    let told = (free.told x.moment x.line quiet).0 (found y.line f) in
    let none = none_told x.line line (is_down x.line.phase) line.deed.released told.down (free.keep.lives c (n + 1) w line fs y.line m') in
    let alive = received_good free.below s c k w x f fs y quiet live none agree peer d in
    let same : z.line ≡ line = (link_stays s.finder line.deed.payload line.deed.up line.deed.released (with_line x line)).line alive in
    subst (λ (o : Option Release). Went c (n + 1) w (if is_some o then x else conclude_event model z) fs y.line) (sym live)
    (concluded free.keep c (n + 1) w z fs y.line alive (subst (λ (t : Station). Midway c (n + 1) w t fs y.line) (sym same) m'))

pub received_sent : (s : EndLinkOpening) (verdict : Verdict) (x : Core) → (on_frame model s.finder verdict x).upper.sent ≡ x.upper.sent
received_sent s verdict x =
    let line : Station = station.receives x.moment verdict x.line in
    let z : Core = on_link_deed model s.finder line.deed (with_line x line) in
    cond_both (is_some x.released) x (conclude_event model z) (λ t. t.upper.sent ≡ x.upper.sent) (λ e. refl)
    (λ e. concluded_sent z ∙ (link_stays s.finder line.deed.payload line.deed.up line.deed.released (with_line x line)).sent)

-- ---- time goes on

pub ticked_went : LossFreeLawsBelow → (s : EndLinkOpening) (c : Bool) (k n : ℕ) (w : List Frame) (x : Core) (l : List Frame) (y : Core) → x.line.deed ≡ no_deed → x.released ≡ None
    → is_late x.moment x.line ≡ false → is_spent x ≡ false → Midway c n w x.line l y.line → Went c n w (on_tick model x) l y.line
ticked_went free s c k n w x l y quiet live late spent m =
    let line : Station = station.ticks x.moment x.line in
    let z : Core = with_line x line in
    let m' = free.keep.ticked c n w x.moment x.line l y.line late m in
    let told = (free.told x.moment x.line quiet).1 in
    let none = none_told x.line line (is_down x.line.phase) line.deed.released told.down (free.keep.lives c n w line l y.line m') in
    let why : Release = release_of SetUpTimeSpent in
    let leaves : Core = send_dr model why 128 (di_of why x.safe.safety) z in
    subst (λ (o : Option Release). Went c n w (if is_some o then x else conclude_event model (on_expiry model line.deed.released z)) l y.line) (sym live)
    (subst (λ (o : Option Release). Went c n w (conclude_event model (on_expiry model o z)) l y.line) (sym none)
    (subst (λ (b : Bool). Went c n w (conclude_event model (if b then leaves else z)) l y.line) (sym spent) (concluded free.keep c n w z l y.line live m')))

-- ---- the user sends, and takes

pub sent_went : LossFreeLawsBelow → (c : Bool) (n : ℕ) (w : List Frame) (x : Core) (l : List Frame) (y : Station) (user : List ℕ) → x.released ≡ None → Midway c n w x.line l y
    → Went c n w (on_send model user x) l y
sent_went free c n w x l y user live m =
    let a = step no_keys x.safe.safety (DataRequest user) in
    let z : Core = with_safety_step model (DataRequest user) a x in
    let z' : Core = record z { upper = model.sends z.upper user } in
    cond_both (is_some_octets (octets_sent_in_outcome a.1) && (is_open z'.upper.transport.stage && nat_lt (waiting_count z'.upper.transport) 16))
    (record z' { upper = model.hands_message z'.upper (octets_sent_in_outcome a.1) }) z' (λ t. Went c n w (conclude_event model t) l y)
    (λ e. concluded free.keep c n w (record z' { upper = model.hands_message z'.upper (octets_sent_in_outcome a.1) }) l y live m)
    (λ e. concluded free.keep c n w z' l y live m)

-- where none waits for the user nothing changes
pub used_went : LossFreeLawsBelow → (c : Bool) (n : ℕ) (w : List Frame) (x : Core) (l : List Frame) (y : Station) → x.released ≡ None → Ended c n w x.line l y → Midway c n w x.line l y
    → Went c n w (on_take model x) l y
used_went free c n w x l y live rest m =
    let z : Core = record x { upper = model.uses x.upper } in
    cond_both (length x.upper.accepted - x.upper.used == 0) x (conclude_event model z) (λ t. Went c n w t l y)
    (λ e. record { live = live; ended = rest }) (λ e. concluded free.keep c n w z l y live m)

-- ---- the start

pub started_went : LossFreeLawsBelow → (c : Bool) (n : ℕ) (w : List Frame) (x : Core) (l : List Frame) (y : Station) → x.released ≡ None → Midway c n w (station.starts x.moment x.line) l y
    → Went c n w (on_start model x) l y
started_went free c n w x l y live m =
    let z : Core = with_line x (station.starts x.moment x.line) in
    subst (λ (o : Option Release). Went c n w (if is_some o then x else conclude_event model z) l y) (sym live) (concluded free.keep c n w z l y live m)
