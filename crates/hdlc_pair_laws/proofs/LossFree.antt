-- A loss-free line: each call keeps the shape of what flows, whatever layers stand above.
use Rattle.std.proofs.Common.{if◌then◌else◌, ◌≡◌, ℕ, ◌+◌, ◌≤◌, inl, inr, Bool, true, false, List, [], ◌∷◌, ◌++◌, length, None, refl, sym, ◌∙◌, ap, subst, arith, length-append, append_assoc, append-nil, true≢false}
use Rattle.std.proofs.lemmas.Bool.{cond_both}
use Rattle.hdlc_frames.specs.Laws.{ControlReadsBack}
use Rattle.hdlc_station_model.specs.declared.phase.Phase.{Phase}
use Rattle.hdlc_station_model.specs.declared.phase.Phase.TheVariants.{Up}
use Rattle.hdlc_station_model.specs.Frames.{Frame, Info, Rr, Rej, Srej, SetUp, Disc, Dm, Ua, shown}
use Rattle.hdlc_station_model.specs.Stations.{Station, is_up, is_down, sees, settled}
use Rattle.hdlc_station_model.specs.Sending.{can_send, waiting, sends_waiting, settles, expires_if_due}
use Rattle.hdlc_station_model.specs.Receiving.{acknowledges, marks_busy, agrees, comes_up}
use Rattle.hdlc_station_model.specs.Selective.{receives_as}
use Rattle.hdlc_station_model.specs.Calls.{hands, finishes, ticks}
use Rattle.hdlc_station_model.specs.Events.{is_late}
use Rattle.hdlc_pair_laws.specs.Invariant.{IsStationPair, Both}
use Rattle.hdlc_pair_laws.specs.Flowing.{one_if, Still, AtRest, Fresh, Asked, Agreed, Shape, Flushed, Midway, Ended}
use Rattle.hdlc_pair_laws.specs.Keeping.{found}
use Rattle.hdlc_pair_laws.specs.LossFree.{FlowKeeps, FlowBounds}
use Rattle.hdlc_pair_laws.proofs.Hearing.{row_as}
use Rattle.hdlc_pair_laws.proofs.Flows.{still_swap, still_back, Within, Done, up_to_flows, up_to_rests, up_to_given, settles_done, takes_next, heard_live, heard_row, info_is, rr_is, info_flows, rr_heard_flows, not_due}
use Rattle.hdlc_pair_laws.proofs.Delivers.{stays, nothing_owed, early_cannot, called_cannot, sets_up, agreed_row}
use Rattle.hdlc_pair_laws.proofs.Delivered.{bound_at, emptied_at}
use Rattle.hdlc_pair_laws.proofs.Counted.{few_at}

-- ---- both are up: payloads are sent, then the owed answer

flushed : (c : Bool) (n : ℕ) (w : List Frame) (x : Station) (l : List Frame) (y : Station) → x.sent ≤ length x.handed → Within c n w x l y → Flushed c n w (sends_waiting x) l y
flushed c n w x l y given h = (up_to_flows c n w (waiting x) x l y h, up_to_rests (waiting x) x (omega arith), up_to_given (waiting x) x (omega arith))

done : (c : Bool) (n : ℕ) (w : List Frame) (x : Station) (l : List Frame) (y : Station) → Flushed c n w x l y → Done c n w l y x.handed (finishes x)
done c n w x l y h =
    cond_both (is_down x.phase) x (settles x) (Done c n w l y x.handed) (λ down. absurd (true≢false (sym down ∙ ap is_down h.0.0.0))) (λ live. settles_done c n w x l y h.1 h.0)

-- ---- stations that can't send yet

pub unsent : (x : Station) → can_send x ≡ false → sends_waiting x ≡ x
unsent x cannot = stays (waiting x) x cannot

pub unsent_hands : (now : ℕ) (p : List ℕ) (x : Station) → is_down x.phase ≡ false → can_send x ≡ false → hands now p x ≡ record (sees now x) { handed = x.handed ++ p ∷ [] }
unsent_hands now p x live cannot =
    ap (λ (b : Bool). if b then x else sends_waiting (record (sees now x) { handed = x.handed ++ p ∷ [] })) live ∙ unsent (record (sees now x) { handed = x.handed ++ p ∷ [] }) cannot

unsent_ticks : (now : ℕ) (x : Station) → is_down x.phase ≡ false → is_late now x ≡ false → can_send x ≡ false → ticks now x ≡ sees now x
unsent_ticks now x live late cannot =
    ap (λ (b : Bool). if b then x else sends_waiting (expires_if_due (sees now x))) live ∙ ap sends_waiting (not_due now x late) ∙ unsent (sees now x) cannot

pub unsent_finishes : (x : Station) → x.owed ≡ false → finishes x ≡ x
unsent_finishes x owes = cond_both (is_down x.phase) x (settles x) (λ t. t ≡ x) (λ e. refl) (λ e. nothing_owed x owes)

-- ---- a call begins

calling_begins : (selective : Bool) (k n : ℕ) (lx : List Frame) (x : Station) (ly : List Frame) (y : Station) → IsStationPair selective k lx x ly y → Shape n lx x ly y → Midway true n lx (settled x) ly y
calling_begins selective k n lx x ly y p (inl a) = inl (a.0, a.1, append-nil lx ∙ a.2, a.3, a.4, a.5, a.6)
calling_begins selective k n lx x ly y p (inr (inl a)) = inr (inl (a.0, a.1, append-nil lx ∙ a.2, a.3, a.4, a.5, a.6))
calling_begins selective k n lx x ly y p (inr (inr a)) =
    inr (inr ((subst (λ (t : List Frame). Still true n t (settled x) ly y) (sym (append-nil lx)) a.0, a.1.1, p.0.0.given), a.2))

called_begins : (selective : Bool) (k n : ℕ) (lx : List Frame) (x : Station) (ly : List Frame) (y : Station) → IsStationPair selective k lx x ly y → Shape n lx x ly y → Midway false n ly (settled y) lx x
called_begins selective k n lx x ly y p (inl a) = inl (a.0, a.1, a.2, append-nil ly ∙ a.3, a.4, a.5, a.6)
called_begins selective k n lx x ly y p (inr (inl a)) = inr (inl (a.0, a.1, a.2, append-nil ly ∙ a.3, a.4, a.5, a.6))
called_begins selective k n lx x ly y p (inr (inr a)) =
    inr (inr ((subst (λ (t : List Frame). Still false n t (settled y) lx x) (sym (append-nil ly)) (still_swap n lx x ly y a.0), a.2.1, p.1.0.given), a.1))

-- ---- a payload is handed down

flushed_hands : (c : Bool) (n : ℕ) (w : List Frame) (now : ℕ) (p : List ℕ) (x : Station) (l : List Frame) (y : Station) → Flushed c n w x l y → Flushed c n w (hands now p x) l y
flushed_hands c n w now p x l y h =
    let z : Station = record (sees now x) { handed = x.handed ++ p ∷ [] } in
    let len : length (x.handed ++ p ∷ []) ≡ length x.handed + 1 = length-append x.handed (p ∷ []) in
    subst (λ (b : Bool). Flushed c n w (if b then x else sends_waiting z) l y) (sym (ap is_down h.0.0.0)) (flushed c n w z l y (omega (arith, h.2)) h.0)

handed : (c : Bool) (n : ℕ) (w : List Frame) (now : ℕ) (p : List ℕ) (x : Station) (l : List Frame) (y : Station) → Midway c n w x l y → Midway c n w (hands now p x) l y
handed true n w now p x l y (inl a) =
    subst (λ (t : Station). Midway true n w t l y) (sym (unsent_hands now p x (ap is_down a.0) (early_cannot x (ap is_up a.0)))) (inl a)
handed true n w now p x l y (inr (inl a)) =
    subst (λ (t : Station). Midway true n w t l y) (sym (unsent_hands now p x (ap is_down a.0) (early_cannot x (ap is_up a.0)))) (inr (inl a))
handed true n w now p x l y (inr (inr a)) = inr (inr (flushed_hands true n w now p x l y a.0, a.1))
handed false n w now p x l y (inl a) =
    subst (λ (t : Station). Midway false n w t l y) (sym (unsent_hands now p x (ap is_down a.1) (called_cannot x a.5))) (inl a)
handed false n w now p x l y (inr (inl a)) =
    subst (λ (t : Station). Midway false n w t l y) (sym (unsent_hands now p x (ap is_down a.1) (called_cannot x a.5))) (inr (inl a))
handed false n w now p x l y (inr (inr a)) = inr (inr (flushed_hands false n w now p x l y a.0, a.1))

-- ---- a tick that finds no expired timer

flushed_ticks : (c : Bool) (n : ℕ) (w : List Frame) (now : ℕ) (x : Station) (l : List Frame) (y : Station) → is_late now x ≡ false → Flushed c n w x l y → Flushed c n w (ticks now x) l y
flushed_ticks c n w now x l y late h =
    subst (λ (b : Bool). Flushed c n w (if b then x else sends_waiting (expires_if_due (sees now x))) l y) (sym (ap is_down h.0.0.0))
    (subst (λ (t : Station). Flushed c n w (sends_waiting t) l y) (sym (not_due now x late)) (flushed c n w (sees now x) l y h.2 h.0))

ticked : (c : Bool) (n : ℕ) (w : List Frame) (now : ℕ) (x : Station) (l : List Frame) (y : Station) → is_late now x ≡ false → Midway c n w x l y → Midway c n w (ticks now x) l y
ticked true n w now x l y late (inl a) =
    subst (λ (t : Station). Midway true n w t l y) (sym (unsent_ticks now x (ap is_down a.0) late (early_cannot x (ap is_up a.0)))) (inl a)
ticked true n w now x l y late (inr (inl a)) =
    subst (λ (t : Station). Midway true n w t l y) (sym (unsent_ticks now x (ap is_down a.0) late (early_cannot x (ap is_up a.0)))) (inr (inl a))
ticked true n w now x l y late (inr (inr a)) = inr (inr (flushed_ticks true n w now x l y late a.0, a.1))
ticked false n w now x l y late (inl a) =
    subst (λ (t : Station). Midway false n w t l y) (sym (unsent_ticks now x (ap is_down a.1) late (called_cannot x a.5))) (inl a)
ticked false n w now x l y late (inr (inl a)) =
    subst (λ (t : Station). Midway false n w t l y) (sym (unsent_ticks now x (ap is_down a.1) late (called_cannot x a.5))) (inr (inl a))
ticked false n w now x l y late (inr (inr a)) = inr (inr (flushed_ticks false n w now x l y late a.0, a.1))

-- ---- the call ends

finished : (c : Bool) (n : ℕ) (w : List Frame) (x : Station) (l : List Frame) (y : Station) → Midway c n w x l y → Ended c n w (finishes x) l y
finished true n w x l y (inl a) = subst (λ (t : Station). Ended true n w t l y) (sym (unsent_finishes x a.4.4)) (inl a)
finished true n w x l y (inr (inl a)) = subst (λ (t : Station). Ended true n w t l y) (sym (unsent_finishes x a.4.4)) (inr (inl a))
finished true n w x l y (inr (inr a)) = let d = done true n w x l y a.0 in inr (inr (d.0, d.1, a.1))
finished false n w x l y (inl a) = subst (λ (t : Station). Ended false n w t l y) (sym (unsent_finishes x a.5.4)) (inl a)
finished false n w x l y (inr (inl a)) = subst (λ (t : Station). Ended false n w t l y) (sym (unsent_finishes x a.5.4)) (inr (inl a))
finished false n w x l y (inr (inr a)) = let d = done false n w x l y a.0 in inr (inr (still_back n (w ++ (finishes x).said) (finishes x) l y d.0, a.1, d.1))

lives : (c : Bool) (n : ℕ) (w : List Frame) (x : Station) (l : List Frame) (y : Station) → Midway c n w x l y → is_down x.phase ≡ false
lives true n w x l y (inl a) = ap is_down a.0
lives true n w x l y (inr (inl a)) = ap is_down a.0
lives true n w x l y (inr (inr a)) = ap is_down a.0.0.0.0
lives false n w x l y (inl a) = ap is_down a.1
lives false n w x l y (inr (inl a)) = ap is_down a.1
lives false n w x l y (inr (inr a)) = ap is_down a.0.0.0.0

-- ---- a frame comes

-- both are up
up_receives : ControlReadsBack → (selective c : Bool) (k n : ℕ) (w : List Frame) (now : ℕ) (x : Station) (f : Frame) (fs : List Frame) (y : Station)
    → IsStationPair selective k (w ++ x.said) x (f ∷ fs) y → Flushed c n w x (f ∷ fs) y → Flushed c (n + 1) w (receives_as selective now (found y f) x) fs y
up_receives law selective c k n w now x (Info m r p) fs y h s =
    let z : Station = sees now x in
    subst (λ (t : Station). Flushed c (n + 1) w t fs y)
    (sym (heard_live selective now (found y (Info m r p)) x (ap is_down s.0.0.0)
    ∙ ap sends_waiting (info_is law selective k (w ++ x.said) z m r p fs y s.0.0.0 (sym s.0.1.2.0) s.0.0.6 h)))
    (flushed c (n + 1) w (takes_next selective p (acknowledges r z)) fs y s.2 (info_flows selective c n (w ++ x.said) z m r p fs y s.0))
up_receives law selective c k n w now x (Rr r) fs y h s =
    let z : Station = sees now x in
    subst (λ (t : Station). Flushed c (n + 1) w t fs y)
    (sym (heard_live selective now (found y (Rr r)) x (ap is_down s.0.0.0) ∙ ap sends_waiting (rr_is law selective k (w ++ x.said) z r fs y s.0.0.0 h)))
    (flushed c (n + 1) w (marks_busy false (acknowledges r z)) fs y s.2 (rr_heard_flows c n (w ++ x.said) z r fs y s.0))
up_receives law selective c k n w now x (Rej r) fs y h s = absurd s.0.3.0
up_receives law selective c k n w now x (Srej r) fs y h s = absurd s.0.3.0
up_receives law selective c k n w now x SetUp fs y h s = absurd s.0.3.0
up_receives law selective c k n w now x Disc fs y h s = absurd s.0.3.0
up_receives law selective c k n w now x Dm fs y h s = absurd s.0.3.0
up_receives law selective c k n w now x (Ua final) fs y h s = absurd s.0.3.0

first_is : (f g : Frame) (fs gs : List Frame) → f ∷ fs ≡ g ∷ gs → (f ≡ g) × (fs ≡ gs)
first_is f g fs gs e = (cc, cc)

-- the set-up frame comes to the called station
asked_receives : ControlReadsBack → (selective : Bool) (k n : ℕ) (w : List Frame) (now : ℕ) (x : Station) (f : Frame) (fs : List Frame) (y : Station)
    → IsStationPair selective k (w ++ x.said) x (f ∷ fs) y → Asked n (f ∷ fs) y (w ++ x.said) x
    → Agreed (n + 1) fs y (w ++ (receives_as selective now (found y f) x).said) (receives_as selective now (found y f) x)
asked_receives law selective k n w now x f fs y h a =
    let first = first_is f SetUp fs [] a.2 in
    let q = subst (λ (z : Frame). IsStationPair selective k (w ++ x.said) x (z ∷ fs) y) first.0 h in
    let z : Station = agrees true (comes_up (sees now x)) in
    let e : receives_as selective now (found y f) x ≡ z =
    ap (λ (g : Frame). receives_as selective now (found y g) x) first.0 ∙ heard_live selective now (found y SetUp) x (ap is_down a.1)
    ∙ ap sends_waiting
    (heard_row law selective k (w ++ x.said) (sees now x) SetUp fs y q ∙ ap (λ (p : Phase). row_as selective p (sees now x) (shown x.extended SetUp) []) a.1 ∙ sets_up selective (sees now x))
    ∙ unsent z (called_cannot z a.5) in
    subst (λ (t : Station). Agreed (n + 1) fs y (w ++ t.said) t) (sym e)
    (a.0, refl, first.1, sym (append_assoc w x.said (Ua true ∷ [])) ∙ ap (λ (t : List Frame). t ++ Ua true ∷ []) a.3, a.4, a.5, ap (λ t. t + 1) a.6)

-- its answer comes to the calling one, and what was handed to it before flows
agreed_receives : ControlReadsBack → (selective : Bool) (k n : ℕ) (w : List Frame) (now : ℕ) (x : Station) (f : Frame) (fs : List Frame) (y : Station)
    → IsStationPair selective k (w ++ x.said) x (f ∷ fs) y → Agreed n (w ++ x.said) x (f ∷ fs) y
    → Flushed true (n + 1) w (receives_as selective now (found y f) x) fs y × AtRest y
agreed_receives law selective k n w now x f fs y h a =
    let first = first_is f (Ua true) fs [] a.3 in
    let q = subst (λ (z : Frame). IsStationPair selective k (w ++ x.said) x (z ∷ fs) y) first.0 h in
    let v : Station = record (sees now x) { timer = None; expiries = 0 } in
    let z : Station = comes_up v in
    let e : receives_as selective now (found y f) x ≡ sends_waiting z =
    ap (λ (g : Frame). receives_as selective now (found y g) x) first.0 ∙ heard_live selective now (found y (Ua true)) x (ap is_down a.0)
    ∙ ap sends_waiting
    (heard_row law selective k (w ++ x.said) (sees now x) (Ua true) fs y q ∙ ap (λ (p : Phase). row_as selective p (sees now x) (shown x.extended (Ua true)) []) a.0 ∙ agreed_row selective (sees now x)) in
    let s : Still true (n + 1) (w ++ x.said) z [] y = flows (n + 1) (w ++ x.said) z y a.2 a.1 (omega (arith, a.6)) refl a.4 a.5 in (
      subst (λ (t : Station). Flushed true (n + 1) w t fs y) (sym e)
          (subst (λ (t : List Frame). Flushed true (n + 1) w (sends_waiting z) t y) (sym first.1) (flushed true (n + 1) w z [] y h.0.0.given s)),
      (a.5.4, inl (called_cannot y a.5)),
    )
  where
    flows : (n : ℕ) (lx : List Frame) (x : Station) (y : Station) → lx ≡ [] → y.phase ≡ Up → n ≤ 2 → x.phase ≡ Up → Fresh true x → Fresh false y → Still true n lx x [] y
    flows n lx x y none up few is hx hy =
        subst (λ (t : List Frame). Still true n t x [] y) (sym none) (
          (is, hx.3, hy.2 ∙ sym hx.0, λ e. hx.1 ∙ sym hy.2, hx.5, hx.6, hx.7),
          (up, hy.3, hx.2 ∙ sym hy.0, λ e. hy.1 ∙ sym hx.2, hy.5, hy.6, hy.7),
          tt,
          tt,
          (let ox : one_if x.owed ≡ 0 = ap one_if hx.4 in let oy : one_if y.owed ≡ 0 = ap one_if hy.4 in omega arith),
          record { own = λ e. absurd (true≢false (sym e ∙ hx.4)); peers = λ e. absurd (true≢false (sym e ∙ hy.4)) },
        )

received : ControlReadsBack → (selective c : Bool) (k n : ℕ) (w : List Frame) (now : ℕ) (x : Station) (f : Frame) (fs : List Frame) (y : Station)
    → Both selective k w x (f ∷ fs) y → Midway c n w x (f ∷ fs) y → Midway c (n + 1) w (receives_as selective now (found y f) x) fs y
received law selective true k n w now x f fs y b (inl a) = absurd (let e : f ∷ fs ≡ [] = a.3 in let u : ⊥ = cc in u)
received law selective true k n w now x f fs y b (inr (inl a)) = inr (inr (agreed_receives law selective k n w now x f fs y b a))
received law selective true k n w now x f fs y b (inr (inr a)) = inr (inr (up_receives law selective true k n w now x f fs y b a.0, a.1))
received law selective false k n w now x f fs y b (inl a) = inr (inl (asked_receives law selective k n w now x f fs y b a))
received law selective false k n w now x f fs y b (inr (inl a)) = absurd (let e : f ∷ fs ≡ [] = a.2 in let u : ⊥ = cc in u)
received law selective false k n w now x f fs y b (inr (inr a)) = inr (inr (up_receives law selective false k n w now x f fs y b a.0, a.1))

pub flow_keeps : ControlReadsBack → FlowKeeps
flow_keeps law = record {
  started = λ extended window n2 t1 now some. inl (refl, refl, refl, refl, (refl, refl, refl, refl, refl, refl, some, refl), (refl, refl, refl, refl, refl, refl, some, refl), refl);
  calling_begins = calling_begins;
  called_begins = called_begins;
  received = received law;
  handed = handed;
  ticked = ticked;
  finished = finished;
  lives = lives;
}

pub flow_bounds : FlowBounds
flow_bounds = record { deliveries = bound_at; waiting = few_at; emptied = emptied_at }
