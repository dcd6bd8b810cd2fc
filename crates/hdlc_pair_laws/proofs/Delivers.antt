-- A loss-free line: each step keeps the shape of what flows, so once it is empty all was taken, and the deliveries are bounded.
use Rattle.std.proofs.Common.{if◌then◌else◌, ◌≡◌, ℕ, zero, suc, ◌+◌, ◌-◌, ◌≤◌, inl, inr, Bool, true, false, not, ◌&&◌, ◌||◌, List, [], ◌∷◌, ◌++◌, length, None, refl, sym, ◌∙◌, ap, subst, arith, append-nil, true≢false}
use Rattle.std.specs.Prelude.{nat_lt}
use Rattle.std.proofs.lemmas.Bool.{cond_both}
use Rattle.er_base.specs.declared.side.Side.TheVariants.{E, R}
use Rattle.hdlc_frames.specs.Laws.{ControlReadsBack}
use Rattle.hdlc_station_model.specs.declared.phase.Phase.{Phase}
use Rattle.hdlc_station_model.specs.declared.phase.Phase.TheVariants.{Idle, Setting, Up}
use Rattle.hdlc_station_model.specs.Frames.{Frame, SetUp, Ua, set_up, shown}
use Rattle.hdlc_station_model.specs.Stations.{Station, is_up, is_down, sees}
use Rattle.hdlc_station_model.specs.Sending.{can_send, waiting, sends_next, sends_up_to, sends_waiting, settles, expires_if_due}
use Rattle.hdlc_station_model.specs.Receiving.{row_idle, agrees, comes_up}
use Rattle.hdlc_station_model.specs.Calls.{hands, finishes, ticks}
use Rattle.hdlc_station_model.specs.Events.{is_late}
use Rattle.pair_model.specs.Steps.{pass, tick_at}
use Rattle.hdlc_pair_laws.specs.Links.{StationLink, station_kind}
use Rattle.hdlc_pair_laws.specs.Invariant.{IsStationPair, Both}
use Rattle.hdlc_pair_laws.specs.Keeping.{found}
use Rattle.hdlc_pair_laws.specs.Flowing.{one_if, Still, Fresh, Shape}
use Rattle.hdlc_pair_laws.proofs.Events.{finishes_keeps, hands_keeps, ticks_keeps}
use Rattle.hdlc_pair_laws.proofs.Lines.{First, first_of_line, answered}
use Rattle.hdlc_pair_laws.proofs.Acts.{Frames, did, StandsAt, e_begun, r_begun, e_acted, r_acted, e_gives, r_gives}
use Rattle.hdlc_pair_laws.proofs.Hearing.{row_as}
use Rattle.hdlc_pair_laws.proofs.Flows.{still_swap, still_back, Within, ends_well, heard_live, heard_row, answered_flows, handed_flows, not_due, ticked_flows}

pub record Flows (selective : Bool) (l : StationLink) : Type 0 where
  pub k : ℕ
  pub fe : List Frame
  pub fr : List Frame
  pub stands : StandsAt selective k fe fr l
  pub shape : Shape l.passes fe l.e.station fr l.r.station

-- ---- stations that can't send yet

pub stays : (m : ℕ) (x : Station) → can_send x ≡ false → sends_up_to m x ≡ x
stays zero x h = refl
stays (suc m) x h = ap (λ (b : Bool). if b then sends_up_to m (sends_next x) else x) h

pub nothing_owed : (x : Station) → x.owed ≡ false → settles x ≡ x
nothing_owed x h = cond_both x.owed _ x (λ t. t ≡ x) (λ e. absurd (true≢false (sym e ∙ h))) (λ e. refl)

pub quiet : (x : Station) → can_send x ≡ false → x.owed ≡ false → finishes (sends_waiting x) ≡ x
quiet x cannot owes =
    ap finishes (stays (waiting x) x cannot)
    ∙ cond_both (is_down x.phase) x (settles x) (λ t. t ≡ x) (λ e. refl) (λ e. nothing_owed x owes)

-- not up
pub early_cannot : (x : Station) → is_up x.phase ≡ false → can_send x ≡ false
early_cannot x h = ap (λ (b : Bool). b && not x.busy && nat_lt (x.sent - x.acked) x.window && (x.calling || nat_lt 0 (length x.taken))) h

false_behind : (b : Bool) → (b && false) ≡ false
false_behind true = refl
false_behind false = refl

-- the called station before the first I frame
pub cannot_yet : (x : Station) → x.calling ≡ false → length x.taken ≡ 0 → can_send x ≡ false
cannot_yet x called none =
    ap (λ (b : Bool). is_up x.phase && not x.busy && nat_lt (x.sent - x.acked) x.window && b) (ap (λ (c : Bool). c || nat_lt 0 (length x.taken)) called ∙ ap (λ (n : ℕ). nat_lt 0 n) none)
    ∙ false_behind (is_up x.phase && not x.busy && nat_lt (x.sent - x.acked) x.window)

pub called_cannot : (x : Station) → Fresh false x → can_send x ≡ false
called_cannot x h = cannot_yet x h.5 h.2

quiet_hands : (now : ℕ) (p : List ℕ) (x : Station) → is_down x.phase ≡ false → can_send x ≡ false → x.owed ≡ false
    → finishes (hands now p x) ≡ record (sees now x) { handed = x.handed ++ p ∷ [] }
quiet_hands now p x live cannot owes =
    ap (λ (b : Bool). finishes (if b then x else sends_waiting (record (sees now x) { handed = x.handed ++ p ∷ [] }))) live
    ∙ quiet (record (sees now x) { handed = x.handed ++ p ∷ [] }) cannot owes

quiet_ticks : (now : ℕ) (x : Station) → is_down x.phase ≡ false → is_late now x ≡ false → can_send x ≡ false → x.owed ≡ false
    → finishes (ticks now x) ≡ sees now x
quiet_ticks now x live late cannot owes =
    ap (λ (b : Bool). finishes (if b then x else sends_waiting (expires_if_due (sees now x)))) live
    ∙ ap (λ t. finishes (sends_waiting t)) (not_due now x late)
    ∙ quiet (sees now x) cannot owes

-- nothing is said between two calls
unsaid : (w : List Frame) (x : Station) → x.said ≡ [] → w ++ x.said ≡ w
unsaid w x h = ap (λ (t : List Frame). w ++ t) h ∙ append-nil w

within_e : (n : ℕ) (lx : List Frame) (x : Station) (ly : List Frame) (y : Station) → x.said ≡ [] → Still true n lx x ly y → Within true n lx x ly y
within_e n lx x ly y h s = subst (λ (t : List Frame). Still true n t x ly y) (sym (unsaid lx x h)) s

within_r : (n : ℕ) (lx : List Frame) (x : Station) (ly : List Frame) (y : Station) → x.said ≡ [] → Still false n lx x ly y → Within false n lx x ly y
within_r n lx x ly y h s = subst (λ (t : List Frame). Still false n t x ly y) (sym (unsaid lx x h)) s

module _ (selective : Bool) where
  -- ---- an event at an end

  e_flows : (l : StationLink) (g : Flows selective l) (x : Station) → Both selective g.k g.fe x g.fr l.r.station → Shape l.passes (g.fe ++ x.said) x g.fr l.r.station → Flows selective (did E x l)
  e_flows l g x b shape = record { k = g.k; fe = g.fe ++ x.said; fr = g.fr; stands = e_acted selective l g.stands x b; shape = shape }

  r_flows : (l : StationLink) (g : Flows selective l) (x : Station) → Both selective g.k g.fr x g.fe l.e.station → Shape l.passes g.fe l.e.station (g.fr ++ x.said) x → Flows selective (did R x l)
  r_flows l g x b shape = record { k = g.k; fe = g.fe; fr = g.fr ++ x.said; stands = r_acted selective l g.stands x b; shape = shape }

  -- ---- a payload is handed down

  pub e_sends : (l : StationLink) (p : List ℕ) → length p ≤ 1026 → Flows selective l → Flows selective (did E (finishes (hands l.moment p l.e.station)) l)
  e_sends l p short g =
      e_flows l g (finishes (hands l.moment p l.e.station)) (finishes_keeps selective g.k g.fe (hands l.moment p l.e.station) g.fr l.r.station (hands_keeps selective g.k g.fe l.moment l.e.station g.fr l.r.station p short (e_begun selective l g.stands)))
      (elim g.shape [
        | inl a ↦ subst (λ (t : Station). Shape l.passes (g.fe ++ t.said) t g.fr l.r.station) (sym (quiet_hands l.moment p l.e.station (ap is_down a.0) (early_cannot l.e.station (ap is_up a.0)) a.4.4))
            (inl (a.0, a.1, unsaid g.fe l.e.station g.stands.quiet_x ∙ a.2, a.3, a.4, a.5, a.6))
        | inr (inl a) ↦ subst (λ (t : Station). Shape l.passes (g.fe ++ t.said) t g.fr l.r.station) (sym (quiet_hands l.moment p l.e.station (ap is_down a.0) (early_cannot l.e.station (ap is_up a.0)) a.4.4))
            (inr (inl (a.0, a.1, unsaid g.fe l.e.station g.stands.quiet_x ∙ a.2, a.3, a.4, a.5, a.6)))
        | inr (inr a) ↦
            let d = handed_flows true l.passes g.fe l.moment p l.e.station g.fr l.r.station g.stands.pair.0.0.given (within_e l.passes g.fe l.e.station g.fr l.r.station g.stands.quiet_x a.0) in
            inr (inr (d.0, d.1, a.2))
      ])

  pub r_sends : (l : StationLink) (p : List ℕ) → length p ≤ 1026 → Flows selective l → Flows selective (did R (finishes (hands l.moment p l.r.station)) l)
  r_sends l p short g =
      r_flows l g (finishes (hands l.moment p l.r.station)) (finishes_keeps selective g.k g.fr (hands l.moment p l.r.station) g.fe l.e.station (hands_keeps selective g.k g.fr l.moment l.r.station g.fe l.e.station p short (r_begun selective l g.stands)))
      (elim g.shape [
        | inl a ↦ subst (λ (t : Station). Shape l.passes g.fe l.e.station (g.fr ++ t.said) t) (sym (quiet_hands l.moment p l.r.station (ap is_down a.1) (called_cannot l.r.station a.5) a.5.4))
            (inl (a.0, a.1, a.2, unsaid g.fr l.r.station g.stands.quiet_y ∙ a.3, a.4, a.5, a.6))
        | inr (inl a) ↦ subst (λ (t : Station). Shape l.passes g.fe l.e.station (g.fr ++ t.said) t) (sym (quiet_hands l.moment p l.r.station (ap is_down a.1) (called_cannot l.r.station a.5) a.5.4))
            (inr (inl (a.0, a.1, a.2, unsaid g.fr l.r.station g.stands.quiet_y ∙ a.3, a.4, a.5, a.6)))
        | inr (inr a) ↦
            let d = handed_flows false l.passes g.fr l.moment p l.r.station g.fe l.e.station g.stands.pair.1.0.given
            (within_r l.passes g.fr l.r.station g.fe l.e.station g.stands.quiet_y (still_swap l.passes g.fe l.e.station g.fr l.r.station a.0)) in
            inr (inr (still_back l.passes (g.fr ++ (finishes (hands l.moment p l.r.station)).said) (finishes (hands l.moment p l.r.station)) g.fe l.e.station d.0, a.1, d.1))
      ])

  -- ---- a tick that finds no expired timer

  pub e_ticks : (l : StationLink) → is_late l.moment l.e.station ≡ false → Flows selective l → Flows selective (tick_at (station_kind selective) E l)
  e_ticks l late g =
      e_flows l g (finishes (ticks l.moment l.e.station)) (finishes_keeps selective g.k g.fe (ticks l.moment l.e.station) g.fr l.r.station (ticks_keeps selective g.k g.fe l.moment l.e.station g.fr l.r.station (e_begun selective l g.stands)))
      (elim g.shape [
        | inl a ↦ subst (λ (t : Station). Shape l.passes (g.fe ++ t.said) t g.fr l.r.station) (sym (quiet_ticks l.moment l.e.station (ap is_down a.0) late (early_cannot l.e.station (ap is_up a.0)) a.4.4))
            (inl (a.0, a.1, unsaid g.fe l.e.station g.stands.quiet_x ∙ a.2, a.3, a.4, a.5, a.6))
        | inr (inl a) ↦ subst (λ (t : Station). Shape l.passes (g.fe ++ t.said) t g.fr l.r.station) (sym (quiet_ticks l.moment l.e.station (ap is_down a.0) late (early_cannot l.e.station (ap is_up a.0)) a.4.4))
            (inr (inl (a.0, a.1, unsaid g.fe l.e.station g.stands.quiet_x ∙ a.2, a.3, a.4, a.5, a.6)))
        | inr (inr a) ↦
            let d = ticked_flows true l.passes g.fe l.moment l.e.station g.fr l.r.station late g.stands.pair.0.0.given (within_e l.passes g.fe l.e.station g.fr l.r.station g.stands.quiet_x a.0) in
            inr (inr (d.0, d.1, a.2))
      ])

  pub r_ticks : (l : StationLink) → is_late l.moment l.r.station ≡ false → Flows selective l → Flows selective (tick_at (station_kind selective) R l)
  r_ticks l late g =
      r_flows l g (finishes (ticks l.moment l.r.station)) (finishes_keeps selective g.k g.fr (ticks l.moment l.r.station) g.fe l.e.station (ticks_keeps selective g.k g.fr l.moment l.r.station g.fe l.e.station (r_begun selective l g.stands)))
      (elim g.shape [
        | inl a ↦ subst (λ (t : Station). Shape l.passes g.fe l.e.station (g.fr ++ t.said) t) (sym (quiet_ticks l.moment l.r.station (ap is_down a.1) late (called_cannot l.r.station a.5) a.5.4))
            (inl (a.0, a.1, a.2, unsaid g.fr l.r.station g.stands.quiet_y ∙ a.3, a.4, a.5, a.6))
        | inr (inl a) ↦ subst (λ (t : Station). Shape l.passes g.fe l.e.station (g.fr ++ t.said) t) (sym (quiet_ticks l.moment l.r.station (ap is_down a.1) late (called_cannot l.r.station a.5) a.5.4))
            (inr (inl (a.0, a.1, a.2, unsaid g.fr l.r.station g.stands.quiet_y ∙ a.3, a.4, a.5, a.6)))
        | inr (inr a) ↦
            let d = ticked_flows false l.passes g.fr l.moment l.r.station g.fe l.e.station late g.stands.pair.1.0.given
            (within_r l.passes g.fr l.r.station g.fe l.e.station g.stands.quiet_y (still_swap l.passes g.fe l.e.station g.fr l.r.station a.0)) in
            inr (inr (still_back l.passes (g.fr ++ (finishes (ticks l.moment l.r.station)).said) (finishes (ticks l.moment l.r.station)) g.fe l.e.station d.0, a.1, d.1))
      ])

-- ---- the set-up frame comes to the called station, its answer to the calling one

pub idle_row : (e : Bool) (x : Station) → row_idle x (set_up e) [] ≡ agrees true (comes_up x)
idle_row true x = refl
idle_row false x = refl

pub sets_up : (selective : Bool) (x : Station) → row_as selective Idle x (shown x.extended SetUp) [] ≡ agrees true (comes_up x)
sets_up true x = idle_row x.extended x
sets_up false x = idle_row x.extended x

asked_answer : ControlReadsBack → (selective : Bool) (k : ℕ) (now : ℕ) (lx : List Frame) (x : Station) (fs : List Frame) (y : Station) → x.phase ≡ Idle → Fresh false x
    → IsStationPair selective k lx x (SetUp ∷ fs) y → answered selective now y SetUp x ≡ agrees true (comes_up (sees now x))
asked_answer law selective k now lx x fs y idle fresh h =
    ap finishes (heard_live selective now (found y SetUp) x (ap is_down idle))
    ∙ ap (λ t. finishes (sends_waiting t))
    (heard_row law selective k lx (sees now x) SetUp fs y h ∙ ap (λ (q : Phase). row_as selective q (sees now x) (shown x.extended SetUp) []) idle ∙ sets_up selective (sees now x))
    ∙ quiet (agrees true (comes_up (sees now x))) (called_cannot (agrees true (comes_up (sees now x))) fresh) fresh.4

-- the calling station is up
pub agreed_row : (selective : Bool) (x : Station) → row_as selective Setting x (shown x.extended (Ua true)) [] ≡ comes_up (record x { timer = None; expiries = 0 })
agreed_row true x = refl
agreed_row false x = refl

pub agreed_answer : ControlReadsBack → (selective : Bool) (k : ℕ) (now : ℕ) (lx : List Frame) (x : Station) (fs : List Frame) (y : Station) → x.phase ≡ Setting
    → IsStationPair selective k lx x (Ua true ∷ fs) y → answered selective now y (Ua true) x ≡ finishes (sends_waiting (comes_up (record (sees now x) { timer = None; expiries = 0 })))
agreed_answer law selective k now lx x fs y setting h =
    ap finishes (heard_live selective now (found y (Ua true)) x (ap is_down setting))
    ∙ ap (λ t. finishes (sends_waiting t))
    (heard_row law selective k lx (sees now x) (Ua true) fs y h ∙ ap (λ (q : Phase). row_as selective q (sees now x) (shown x.extended (Ua true)) []) setting ∙ agreed_row selective (sees now x))

-- ---- a frame is passed

-- a list is this frame and those behind it
first_is : (f g : Frame) (fs gs : List Frame) (l : List Frame) → l ≡ f ∷ fs → l ≡ g ∷ gs → (f ≡ g) × (fs ≡ gs)
first_is f g fs gs l p q = let e : f ∷ fs ≡ g ∷ gs = sym p ∙ q in (cc, cc)

none_first : (f : Frame) (fs l : List Frame) → l ≡ f ∷ fs → l ≡ [] → ⊥
none_first f fs l p q = let e : f ∷ fs ≡ [] = sym p ∙ q in cc

-- the calling station is up, and what was handed to it before flows
pub up_flows : (n : ℕ) (w : List Frame) (x : Station) (y : Station) → x.said ≡ [] → w ≡ [] → y.phase ≡ Up → n ≤ 2 → Fresh true x → Fresh false y → Within true n w (record x { phase = Up }) [] y
up_flows n w x y quiet none up few hx hy =
    subst (λ (t : List Frame). Still true n t (record x { phase = Up }) [] y) (sym (unsaid w x quiet ∙ none)) (
      (refl, hx.3, hy.2 ∙ sym hx.0, λ e. hx.1 ∙ sym hy.2, hx.5, hx.6, hx.7),
      (up, hy.3, hx.2 ∙ sym hy.0, λ e. hy.1 ∙ sym hx.2, hy.5, hy.6, hy.7),
      tt,
      tt,
      (let ox : one_if x.owed ≡ 0 = ap one_if hx.4 in let oy : one_if y.owed ≡ 0 = ap one_if hy.4 in omega arith),
      record { own = λ e. absurd (true≢false (sym e ∙ hx.4)); peers = λ e. absurd (true≢false (sym e ∙ hy.4)) },
    )

-- the link behind the pass, one delivery more; what was handed down stays
pub record Passed (selective : Bool) (l l' : StationLink) : Type 0 where
  pub flows : Flows selective l'
  pub count : l'.passes ≡ l.passes + 1
  pub handed_e : l'.e.station.handed ≡ l.e.station.handed
  pub handed_r : l'.r.station.handed ≡ l.r.station.handed

-- what flows behind the answer x of r to the first frame of e, and of e to the first one of r
abbrev FlowsToR : (n : ℕ) (fs : List Frame) (e : Station) (fr : List Frame) (was x : Station) → Type 0
FlowsToR n fs e fr was x = Shape n fs e (fr ++ x.said) x × (x.handed ≡ was.handed)

abbrev FlowsToE : (n : ℕ) (fe : List Frame) (was x : Station) (fs : List Frame) (r : Station) → Type 0
FlowsToE n fe was x fs r = Shape n (fe ++ x.said) x fs r × (x.handed ≡ was.handed)

module _ (laws : Frames) (selective : Bool) (l : StationLink) (g : Flows selective l) (octets : List ℕ) (rest : List (List ℕ)) where
  e_arrives : (f : First l.e.station octets rest g.fe) → Both selective g.k g.fr l.r.station (f.frame ∷ f.frames) l.e.station
      → FlowsToR (l.passes + 1) f.frames l.e.station g.fr l.r.station (answered selective l.moment l.e.station f.frame l.r.station)
  e_arrives f b =
      let e : Station = l.e.station in
      let r : Station = l.r.station in
      elim g.shape [
        | inl a ↦
            let first = first_is f.frame SetUp f.frames [] g.fe f.all a.2 in
            let q = subst (λ (z : Frame). IsStationPair selective g.k (g.fr ++ r.said) r (z ∷ f.frames) e) first.0 b in
            let is = ap (λ (z : Frame). answered selective l.moment e z r) first.0 ∙ asked_answer laws.back selective g.k l.moment (g.fr ++ r.said) r f.frames e a.1 a.5 q in
            let x : Station = agrees true (comes_up (sees l.moment r)) in
            subst (FlowsToR (l.passes + 1) f.frames e g.fr r) (sym is)
            (inr (inl (a.0, refl, first.1, ap (λ (t : List Frame). t ++ x.said) a.3 ∙ ap (λ (t : List Frame). t ++ Ua true ∷ []) g.stands.quiet_y, a.4, a.5, ap (λ t. t + 1) a.6)), refl)
        | inr (inl a) ↦ absurd (none_first f.frame f.frames g.fe f.all a.2)
        | inr (inr a) ↦
            let s = within_r l.passes g.fr r g.fe e g.stands.quiet_y (still_swap l.passes g.fe e g.fr r a.0) in
            let x : Station = answered selective l.moment e f.frame r in
            let d = answered_flows laws.back selective false l.passes g.k g.fr l.moment r f.frame f.frames e g.stands.pair.1.0.given b
            (subst (λ (t : List Frame). Within false l.passes g.fr r t e) f.all s) in
            (inr (inr (still_back (l.passes + 1) (g.fr ++ x.said) x f.frames e d.0, a.1, d.1)), d.2)
      ]

  r_arrives : (f : First l.r.station octets rest g.fr) → Both selective g.k g.fe l.e.station (f.frame ∷ f.frames) l.r.station
      → FlowsToE (l.passes + 1) g.fe l.e.station (answered selective l.moment l.r.station f.frame l.e.station) f.frames l.r.station
  r_arrives f b =
      let e : Station = l.e.station in
      let r : Station = l.r.station in
      elim g.shape [
        | inl a ↦ absurd (none_first f.frame f.frames g.fr f.all a.3)
        | inr (inl a) ↦
            let first = first_is f.frame (Ua true) f.frames [] g.fr f.all a.3 in
            let q = subst (λ (z : Frame). IsStationPair selective g.k (g.fe ++ e.said) e (z ∷ f.frames) r) first.0 b in
            let is = ap (λ (z : Frame). answered selective l.moment r z e) first.0 ∙ agreed_answer laws.back selective g.k l.moment (g.fe ++ e.said) e f.frames r a.0 q in
            let z : Station = comes_up (record (sees l.moment e) { timer = None; expiries = 0 }) in
            let s = up_flows (l.passes + 1) g.fe (record (sees l.moment e) { timer = None; expiries = 0; deed = z.deed }) r g.stands.quiet_x a.2 a.1 (omega (arith, a.6)) a.4 a.5 in
            let d = ends_well true (l.passes + 1) g.fe z [] r g.stands.pair.0.0.given s in
            let x : Station = finishes (sends_waiting z) in
            subst (λ (t : Station). FlowsToE (l.passes + 1) g.fe e t f.frames r) (sym is)
            (inr (inr (subst (λ (t : List Frame). Still true (l.passes + 1) (g.fe ++ x.said) x t r) (sym first.1) d.0, d.1, (a.5.4, inl (called_cannot r a.5)))), d.2)
        | inr (inr a) ↦
            let s = within_e l.passes g.fe e g.fr r g.stands.quiet_x a.0 in
            let d = answered_flows laws.back selective true l.passes g.k g.fe l.moment e f.frame f.frames r g.stands.pair.0.0.given b
            (subst (λ (t : List Frame). Within true l.passes g.fe e t r) f.all s) in
            (inr (inr (d.0, d.1, a.2)), d.2)
      ]

  pub e_pass : l.from_e ≡ octets ∷ rest → Passed selective l (pass (station_kind selective) E (octets ∷ rest) l)
  e_pass e =
      let f = first_of_line l.e.station octets rest g.fe (sym e ∙ g.stands.lined_x) in
      e_gives selective l g.stands laws (Passed selective l) octets rest f (λ b stands.
      let d = e_arrives f b in
      record {
        flows = record { k = g.k; fe = f.frames; fr = g.fr ++ (answered selective l.moment l.e.station f.frame l.r.station).said; stands = stands; shape = d.0 };
        count = refl;
        handed_e = refl;
        handed_r = d.1;
      })

  pub r_pass : l.from_r ≡ octets ∷ rest → Passed selective l (pass (station_kind selective) R (octets ∷ rest) l)
  r_pass e =
      let f = first_of_line l.r.station octets rest g.fr (sym e ∙ g.stands.lined_y) in
      r_gives selective l g.stands laws (Passed selective l) octets rest f (λ b stands.
      let d = r_arrives f b in
      record {
        flows = record { k = g.k; fe = g.fe ++ (answered selective l.moment l.r.station f.frame l.e.station).said; fr = f.frames; stands = stands; shape = d.0 };
        count = refl;
        handed_e = d.1;
        handed_r = refl;
      })
