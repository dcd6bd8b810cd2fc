-- Each event at one end, between two ends whose keys agree, whatever the line lost and repeated: the end lives on where its station does, and what
-- mends keeps its shape.
use Rattle.std.proofs.Common.{◌≡◌, ℕ, Bool, true, false, List, ◌∷◌, ◌++◌, Option, None, refl, sym, ◌∙◌, subst}
use Rattle.std.specs.Prelude.{if◌then◌else◌, is_some}
use Rattle.std.proofs.lemmas.Bool.{cond_both}
use Rattle.er_base.specs.declared.release.Release.{Release}
use Rattle.er_base.specs.declared.cause.Cause.TheVariants.{SetUpTimeSpent}
use Rattle.er_base.specs.Causes.{release_of}
use Rattle.hdlc_station_model.specs.Frames.{Frame}
use Rattle.hdlc_station_model.specs.Stations.{Station, no_deed, is_down}
use Rattle.hdlc_station_model.specs.Sending.{settles}
use Rattle.hdlc_station_model.specs.Calls as station
use Rattle.hdlc_pair_laws.specs.Keeping.{found}
use Rattle.hdlc_pair_laws.specs.Mending.{Progress, MayHear, MaySpeak, Between, Within}
use Rattle.er_end_model.specs.Layers.{Core, model}
use Rattle.er_end_model.specs.Steps.{on_link_deed, conclude_event, on_frame, on_tick, on_expiry, send_dr, di_of, is_spent, on_take, on_send, on_start}
use Rattle.er_end_pair_laws.specs.Openings.{EndLinkOpening, Agree}
use Rattle.er_end_pair_laws.specs.LawsBelow.{MendingLawsBelow}
use Rattle.er_end_pair_laws.proofs.Own.{Done}
use Rattle.er_end_pair_laws.proofs.Events.{with_line}
use Rattle.er_end_pair_laws.proofs.Happens.{received_good}
use Rattle.er_end_pair_laws.proofs.Lived.{concluded_released, used_released, started_released, sent_released, received_lived, ticked_lived, started_lived, sent_lived, used_lived}

-- behind an event of x that it lives on behind
pub record Behind (p : Progress) (s : EndLinkOpening) (c : Bool) (w : List Frame) (x : Core) (l : List Frame) (y : Station) : Type 0 where
  pub live : x.released ≡ None
  pub between : Between p false c s.settings.window (w ++ x.line.said) x.line l y

-- in it
abbrev pub In : Progress → EndLinkOpening → Bool → List Frame → Station → List Frame → Station → Type 0
In p s c w x l y = Within p false c s.settings.window w x l y

abbrev Ended : Progress → EndLinkOpening → Bool → List Frame → Station → List Frame → Station → Type 0
Ended p s c w x l y = Between p false c s.settings.window (w ++ x.said) x l y

not_selective : false ≡ true → (k window : ℕ) → k ≡ window
not_selective e k window = absurd cc

-- a station that owes nothing has nothing to finish
finished_same : (x : Station) → (is_down x.phase ≡ false → x.owed ≡ false) → station.finishes x ≡ x
finished_same x owes =
    cond_both (is_down x.phase) x (settles x) (λ t. t ≡ x) (λ down. refl) (λ live. rw (owes live) refl)

module _ (laws : MendingLawsBelow) (p : Progress) (s : EndLinkOpening) (c : Bool) (speaks : MaySpeak p c) (w : List Frame) (l : List Frame) (y : Station) where
  abbrev speak : (now : ℕ) (payload : List ℕ) (x : Station) → In p s c w x l y → In p s c w (station.hands now payload x) l y
  speak now payload x h = laws.keep.handed p false c s.settings.window w now payload x l y speaks h

  abbrev ends : (x : Station) → In p s c w x l y → Ended p s c w (station.finishes x) l y
  ends x h = laws.keep.finished p false c s.settings.window w x l y speaks h

  -- the user sends
  pub sent_mends : (user : List ℕ) (x : Core) → x.released ≡ None → In p s c w x.line l y → Behind p s c w (on_send model user x) l y
  sent_mends user x live h =
      let behind = sent_released user x ∙ live in
      record { live = behind; between = sent_lived (λ t. In p s c w t l y) (λ t. Ended p s c w t l y) speak ends user x behind h }

  -- the user takes: where no message waits nothing changes
  pub used_mends : (x : Core) → x.released ≡ None → (is_down x.line.phase ≡ false → x.line.owed ≡ false) → In p s c w x.line l y → Behind p s c w (on_take model x) l y
  used_mends x live owes h =
      let behind = used_released x ∙ live in
      let rest : Ended p s c w x.line l y = subst (λ (t : Station). Ended p s c w t l y) (finished_same x.line owes) (ends x.line h) in
      record { live = behind; between = used_lived (λ t. In p s c w t l y) (λ t. Ended p s c w t l y) speak ends x behind rest h }

  -- time goes on
  pub ticked_mends : (x : Core) → (on_tick model x).released ≡ None → In p s c w (station.ticks x.moment x.line) l y → Behind p s c w (on_tick model x) l y
  ticked_mends x live h = record { live = live; between = ticked_lived (λ t. In p s c w t l y) (λ t. Ended p s c w t l y) speak ends x live h }

  -- the start
  pub started_mends : (x : Core) → x.released ≡ None → In p s c w (station.starts x.moment x.line) l y → Behind p s c w (on_start model x) l y
  started_mends x live h = let behind = started_released x ∙ live in record { live = behind; between = started_lived (λ t. In p s c w t l y) (λ t. Ended p s c w t l y) speak ends x behind h }

-- ---- the end lives on

-- a tick at which the station told no release and the time for the set-up isn't spent
pub ticked_lives : (x : Core) → x.released ≡ None → (station.ticks x.moment x.line).deed.released ≡ None → is_spent x ≡ false → (on_tick model x).released ≡ None
ticked_lives x live none spent =
    let line : Station = station.ticks x.moment x.line in
    let z : Core = with_line x line in
    let why : Release = release_of SetUpTimeSpent in
    let leaves : Core = send_dr model why 128 (di_of why x.safe.safety) z in
    subst (λ (o : Option Release). (if is_some o then x else conclude_event model (on_expiry model line.deed.released z)).released ≡ None) (sym live)
    (subst (λ (o : Option Release). (conclude_event model (on_expiry model o z)).released ≡ None) (sym none)
    (subst (λ (b : Bool). (conclude_event model (if b then leaves else z)).released ≡ None) (sym spent) (concluded_released z ∙ live)))

-- a frame comes
pub received_mends : MendingLawsBelow → (p : Progress) (s : EndLinkOpening) (c : Bool) (k : ℕ) (w : List Frame) (x : Core) (f : Frame) (fs : List Frame) (y : Core) → MayHear p → MaySpeak p c → Agree s
    → x.line.deed ≡ no_deed → x.released ≡ None → y.released ≡ None → Done s c k w x (f ∷ fs) y → In p s c w x.line (f ∷ fs) y.line
    → Behind p s c w (on_frame model s.finder (found y.line f) x) fs y.line
received_mends laws p s c k w x f fs y hears speaks agree quiet live peer d h =
    let line : Station = station.receives x.moment (found y.line f) x.line in
    let z : Core = on_link_deed model s.finder line.deed (with_line x line) in
    let awake_x = (d.own.lives live).alive.awake in
    let awake_y = (d.beside.3.lives peer).alive.awake in
    let awake = laws.keep.heard_lives p false c k s.settings.window w x.moment x.line f fs y.line d.beside.0 h awake_x awake_y in
    let none = laws.keep.heard_untold false x.moment x.line f y.line quiet awake in
    let good : z.released ≡ None = received_good laws.below s c k w x f fs y quiet live none agree peer d in
    let behind : (on_frame model s.finder (found y.line f) x).released ≡ None =
    subst (λ (o : Option Release). (if is_some o then x else conclude_event model z).released ≡ None) (sym live) (concluded_released z ∙ good) in
    let m = laws.keep.received p false c k s.settings.window w x.moment x.line f fs y.line hears (λ e. not_selective e k s.settings.window) d.beside.0 h in
    record {
      live = behind;
      between = received_lived (λ t. In p s c w t fs y.line) (λ t. Ended p s c w t fs y.line) (speak laws p s c speaks w fs y.line) (ends laws p s c speaks w fs y.line) s (found y.line f) x behind m;
    }
