-- Two stations with go-back, of which one lost a frame before others: what each does at the first frame that waits towards it, until the gap is filled.
use Rattle.std.proofs.Common.{if◌then◌else◌, ◌≡◌, ℕ, zero, suc, ◌+◌, ◌%◌, ◌<◌, inl, inr, Bool, true, false, List, [], ◌∷◌, ◌++◌, length, None, refl, sym, ◌∙◌, ap, subst, arith, length-append, append_assoc, append-nil, eqb-true, true≢false}
use Rattle.std.specs.Prelude.{nat_lt, ◌==◌}
use Rattle.std.proofs.lemmas.Bool.{cases_Bool, cond_both}
use Rattle.hdlc_frames.specs.Laws.{ControlReadsBack}
use Rattle.hdlc_station_model.specs.declared.phase.Phase.{Phase}
use Rattle.hdlc_station_model.specs.declared.phase.Phase.TheVariants.{Up}
use Rattle.hdlc_station_model.specs.Frames.{modulo, Frame, Info, Rr, Rej, Srej, SetUp, Disc, Dm, Ua, shown, information}
use Rattle.hdlc_station_model.specs.Stations.{Station, is_down, sees, puts, settled}
use Rattle.hdlc_station_model.specs.Sending.{can_send, waiting, sends_next, sends_up_to, sends_waiting, sends_again, settles, starts_timer}
use Rattle.hdlc_station_model.specs.Receiving.{acknowledges, accepts, rejects, takes, marks_busy, repeats_rejected}
use Rattle.hdlc_station_model.specs.Selective.{held_for, receives_as}
use Rattle.hdlc_station_model.specs.Calls.{finishes}
use Rattle.hdlc_pair_laws.specs.Invariant.{IsStationPair, Both, infos, receive_numbers_in_frames, marks}
use Rattle.hdlc_pair_laws.specs.Keeping.{found}
use Rattle.hdlc_pair_laws.specs.Mending.{Mends, leads}
use Rattle.hdlc_pair_laws.proofs.Ways.{climbs_le, way_tells}
use Rattle.hdlc_pair_laws.proofs.Rows.{no_foreign, span_below}
use Rattle.hdlc_pair_laws.proofs.Hearing.{row_as}
use Rattle.hdlc_pair_laws.proofs.Flows.{heard_live, heard_row}
use Rattle.hdlc_pair_laws.proofs.Lines.{answered}
use Rattle.hdlc_pair_laws.proofs.Recovers.{received_mends}
use Rattle.hdlc_pair_laws.proofs.Mending.{MendsIn, mends_swap, waiting_mends, finishes_mends}
use Rattle.hdlc_pair_laws.proofs.MendRows.{numbered, go_back_mends}
use Rattle.hdlc_pair_laws.proofs.Filling.{Lacks, HasRej, Notes, Gap, Filled, FilledIn, OutIn, leads_lacks, rej_more, rej_last, takes_out, waiting_filled, finishes_filled, again_leads}

-- ---- a frame comes to the station that lost one

-- the gap, behind a frame that asks for nothing
still_gap : (w : List Frame) (x : Station) (f : Frame) (fs : List Frame) (y : Station) (t : Station) (g : Gap (w ++ x.said) x (f ∷ fs) y)
    → MendsIn false w t fs (record y { taken = g.before; owed = true }) → OutIn (length y.taken) g.least y.owed (receive_numbers_in_frames fs) w t → (HasRej (f ∷ fs) → HasRej fs) → FilledIn w t fs y
still_gap w x f fs y t g m out none = inr (record {
  before = g.before;
  least = g.least;
  mends = m;
  out = out;
  notes = elim g.notes [ inl n ↦ inl n | inr has ↦ inr (none has) ];
})

-- REJ
asked_again : (w : List Frame) (x : Station) (fs : List Frame) (y : Station) (before : List (List ℕ)) (v : ℕ) → length y.taken ≡ v → v < x.sent
    → MendsIn false w x fs (record y { taken = before; owed = true }) → leads v (infos (w ++ x.said)) ≡ x.sent → MendsIn false w x fs y
asked_again w x fs y before v is below m all = (
  (
    (
      ap (λ (j : ℕ). leads j (infos (w ++ x.said))) is ∙ all,
      λ owes none. absurd (let e : v ≡ x.sent = sym (ap (leads v) none) ∙ all in let u : ⊥ = omega (arith, e, below) in u),
    ),
    m.0.1,
    m.0.2,
    m.0.3,
    m.0.4,
    m.0.5,
  ),
  m.1,
)

again_sent : (x : Station) → (repeats_rejected x).sent ≡ x.sent
again_sent x = cond_both (nat_lt x.acked x.sent) (starts_timer (sends_again x)) x (λ t. t.sent ≡ x.sent) (λ e. refl) (λ e. refl)

sender_row : (k : ℕ) (w : List Frame) (x : Station) (f : Frame) (fs : List Frame) (y : Station) → IsStationPair false k (w ++ x.said) x (f ∷ fs) y → (g : Gap (w ++ x.said) x (f ∷ fs) y)
    → MendsIn false w (row_as false Up x (shown x.extended f) (information f)) fs (record y { taken = g.before; owed = true })
    → FilledIn w (row_as false Up x (shown x.extended f) (information f)) fs y
sender_row k w x (Info n r q) fs y p g m =
    still_gap w x (Info n r q) fs y (row_as false Up x (shown x.extended (Info n r q)) q) g m
    (numbered false k r (w ++ x.said) (Info n r q) fs x y (takes (n % modulo x.extended) q) (λ t. OutIn (length y.taken) g.least y.owed (receive_numbers_in_frames fs) w t) refl p
    (takes_out (length y.taken) g.least y.owed (receive_numbers_in_frames fs) w (n % modulo x.extended) q (acknowledges r x) g.out)) (λ has. has)
sender_row k w x (Rr r) fs y p g m =
    still_gap w x (Rr r) fs y (row_as false Up x (shown x.extended (Rr r)) []) g m
    (numbered false k r (w ++ x.said) (Rr r) fs x y (marks_busy false) (λ t. OutIn (length y.taken) g.least y.owed (receive_numbers_in_frames fs) w t) refl p g.out) (λ has. has)
sender_row k w x (Rej r) fs y p g m =
    let z : Station = marks_busy false (acknowledges r x) in
    let low = climbs_le r (length y.taken) (receive_numbers_in_frames fs) p.0.0.climb.1 in
    let all = again_leads (length y.taken) w z low g.out.0 g.out.2 in
    inl (numbered false k r (w ++ x.said) (Rej r) fs x y (λ t. repeats_rejected (marks_busy false t))
    (λ t. MendsIn false w t fs (record y { taken = g.before; owed = true }) → MendsIn false w t fs y) refl p
    (λ m. asked_again w (repeats_rejected z) fs y g.before (length y.taken) refl (subst (λ (j : ℕ). length y.taken < j) (sym (again_sent z)) g.out.0) m all) m)
sender_row k w x (Srej r) fs y p g m = absurd (no_foreign y.calling x.taken y.sent (marks false fs) p.1.1)
sender_row k w x SetUp fs y p g m = absurd g.mends.0.3.0
sender_row k w x Disc fs y p g m = absurd g.mends.0.3.0
sender_row k w x Dm fs y p g m = absurd g.mends.0.3.0
sender_row k w x (Ua final) fs y p g m = absurd g.mends.0.3.0

pub sender_hears : ControlReadsBack → (k now : ℕ) (w : List Frame) (x : Station) (f : Frame) (fs : List Frame) (y : Station) → Both false k w x (f ∷ fs) y
    → Gap (w ++ x.said) x (f ∷ fs) y → FilledIn w (finishes (receives_as false now (found y f) x)) fs y
sender_hears law k now w x f fs y b g =
    let z : Station = sees now x in
    let o : Station = record y { taken = g.before; owed = true } in
    let t : Station = row_as false Up z (shown x.extended f) (information f) in
    let e : receives_as false now (found y f) x ≡ sends_waiting t =
    heard_live false now (found y f) x (ap is_down g.mends.0.4) ∙ ap sends_waiting (heard_row law false k (w ++ x.said) z f fs y b ∙ ap (λ (q : Phase). row_as false q z (shown x.extended f) (information f)) g.mends.0.4) in
    let h : Gap (w ++ z.said) z (f ∷ fs) y = record { before = g.before; least = g.least; mends = g.mends; out = g.out; notes = g.notes } in
    subst (λ (s : Station). FilledIn w (finishes s) fs y) (sym e)
    (finishes_filled w fs y (sends_waiting t) (waiting_filled w fs y t (sender_row k w z f fs y b h (go_back_mends k w z f fs y o b h.mends))))

-- ---- a frame comes to the station that misses one

-- V(R) stays, and it notes the gap or has noted it
abbrev pub Heard : (v next least : ℕ) → List Frame → Station → Type 0
Heard v next least w t = (length t.taken ≡ v) × Notes t.gap next least (w ++ t.said)

module _ (v next least : ℕ) (w : List Frame) where
  -- it says more
  more_heard : (gap : Bool) (said more : List Frame) → Notes gap next least (w ++ said) → Notes gap next least (w ++ (said ++ more))
  more_heard gap said more (inl n) = inl n
  more_heard gap said more (inr has) = inr (subst HasRej (append_assoc w said more) (rej_more (w ++ said) more has))

  up_to_heard : (n : ℕ) (x : Station) → Heard v next least w x → Heard v next least w (sends_up_to n x)
  up_to_heard zero x h = h
  up_to_heard (suc n) x h =
      cond_both (can_send x) (sends_up_to n (sends_next x)) x (Heard v next least w) (λ can. up_to_heard n (sends_next x) (h.0, more_heard x.gap x.said _ h.1)) (λ cannot. h)

  waiting_heard : (x : Station) → Heard v next least w x → Heard v next least w (sends_waiting x)
  waiting_heard x h = up_to_heard (waiting x) x h

  finishes_heard : (x : Station) → Heard v next least w x → Heard v next least w (finishes x)
  finishes_heard x h =
      cond_both (is_down x.phase) x (settles x) (Heard v next least w) (λ e. h)
      (λ e. cond_both x.owed (record (puts (Rr (length x.taken)) x) { owed = false }) x (Heard v next least w) (λ owes. (h.0, more_heard x.gap x.said _ h.1)) (λ owes. h))

  again_heard : (x : Station) → Heard v next least w x → Heard v next least w (repeats_rejected x)
  again_heard x h =
      cond_both (nat_lt x.acked x.sent) (starts_timer (sends_again x)) x (Heard v next least w) (λ some. (h.0, more_heard x.gap x.said _ h.1)) (λ none. h)

  -- an I frame that isn't the next one: REJ is said, or was
  rejects_heard : (next' : ℕ) (x : Station) → length x.taken ≡ v → Notes x.gap next' least (w ++ x.said) → Heard v next least w (rejects x)
  rejects_heard next' x is n =
      cond_both x.gap (puts (Rr (length x.taken)) x) (puts (Rej (length x.taken)) (record x { gap = true })) (Heard v next least w)
      (λ g. (is, elim n [ inl a ↦ absurd (true≢false (sym g ∙ a.0)) | inr has ↦ more_heard x.gap x.said _ (inr has) ]))
      (λ g. (is, inr (subst HasRej (append_assoc w x.said (Rej (length x.taken) ∷ [])) (rej_last (w ++ x.said) (length x.taken)))))

-- what would lead to all that was sent, behind the frame
record Next (x : Station) (fs : List Frame) (least : ℕ) (w : List Frame) (v : ℕ) (t : Station) : Type 0 where
  before : List (List ℕ)
  all : leads (length before) (infos fs) ≡ x.sent
  lacks : Lacks v (infos fs)
  heard : Heard v (length before) least w t

-- taken, or not
led_on : (before : List (List ℕ)) (n sent : ℕ) (q : List ℕ) (fs : List (ℕ × List ℕ)) → leads (length before) ((n, q) ∷ fs) ≡ sent → (b : List (List ℕ)) × (leads (length b) fs ≡ sent)
led_on before n sent q fs h = elim (cases_Bool (length before == n)) [
  | inl same ↦ (
    before ++ q ∷ [],
    ap (λ (j : ℕ). leads j fs) (length-append before (q ∷ [])) ∙ sym (ap (λ (b : Bool). if b then leads (length before + 1) fs else leads (length before) fs) same) ∙ h,
  )
  | inr other ↦ (before, sym (ap (λ (b : Bool). if b then leads (length before + 1) fs else leads (length before) fs) other) ∙ h)
]

receiver_row : (k : ℕ) (w : List Frame) (y : Station) (f : Frame) (fs : List Frame) (x : Station) → IsStationPair false k (w ++ y.said) y (f ∷ fs) x → (g : Gap (f ∷ fs) x (w ++ y.said) y)
    → Next x fs g.least w (length y.taken) (row_as false Up y (shown y.extended f) (information f))
receiver_row k w y (Info n r q) fs x p g =
    let v : ℕ = length y.taken in
    let a : Station = acknowledges r y in
    let led = led_on g.before n x.sent q (infos fs) g.mends.0.0.0 in
    numbered false k r (w ++ y.said) (Info n r q) fs y x (takes (n % modulo y.extended) q) (Next x fs g.least w v) refl p
    (cond_both (v % modulo y.extended == n % modulo y.extended) (accepts q a) (rejects a) (Next x fs g.least w v)
    (λ e. absurd (g.out.2.0 (way_tells y.extended k x.handed x.acked x.sent y.taken (n, q) (infos fs) (receive_numbers_in_frames (w ++ y.said)) (span_below false y.extended k p.4) (eqb-true _ _ e) p.1.0)))
    (λ e. record { before = led.0; all = led.1; lacks = g.out.2.1; heard = rejects_heard v (length led.0) g.least w (length g.before) a refl g.notes }))
receiver_row k w y (Rr r) fs x p g =
    numbered false k r (w ++ y.said) (Rr r) fs y x (marks_busy false) (Next x fs g.least w (length y.taken)) refl p
    (record { before = g.before; all = g.mends.0.0.0; lacks = g.out.2; heard = (refl, g.notes) })
receiver_row k w y (Rej r) fs x p g =
    numbered false k r (w ++ y.said) (Rej r) fs y x (λ t. repeats_rejected (marks_busy false t)) (Next x fs g.least w (length y.taken)) refl p
    (record {
      before = g.before;
      all = g.mends.0.0.0;
      lacks = g.out.2;
      heard = again_heard (length y.taken) (length g.before) g.least w (marks_busy false (acknowledges r y)) (refl, g.notes);
    })
receiver_row k w y (Srej r) fs x p g = absurd (no_foreign x.calling y.taken x.sent (marks false fs) p.1.1)
receiver_row k w y SetUp fs x p g = absurd g.mends.0.2.0
receiver_row k w y Disc fs x p g = absurd g.mends.0.2.0
receiver_row k w y Dm fs x p g = absurd g.mends.0.2.0
receiver_row k w y (Ua final) fs x p g = absurd g.mends.0.2.0

receiver_hears : ControlReadsBack → (k now : ℕ) (w : List Frame) (y : Station) (f : Frame) (fs : List Frame) (x : Station) → Both false k w y (f ∷ fs) x
    → Gap (f ∷ fs) x (w ++ y.said) y → Gap fs x (w ++ (finishes (receives_as false now (found x f) y)).said) (finishes (receives_as false now (found x f) y))
receiver_hears law k now w y f fs x b g =
    let z : Station = sees now y in
    let o : Station = record x { sent = length y.taken } in
    let t : Station = row_as false Up z (shown y.extended f) (information f) in
    let e : receives_as false now (found x f) y ≡ sends_waiting t =
    heard_live false now (found x f) y (ap is_down g.mends.0.5) ∙ ap sends_waiting (heard_row law false k (w ++ y.said) z f fs x b ∙ ap (λ (q : Phase). row_as false q z (shown y.extended f) (information f)) g.mends.0.5) in
    let h : Gap (f ∷ fs) x (w ++ z.said) z = record { before = g.before; least = g.least; mends = g.mends; out = g.out; notes = g.notes } in
    let m : Mends false (w ++ z.said) z (f ∷ fs) o =
    (((g.mends.0.1, g.mends.1), leads_lacks (length y.taken) (infos (f ∷ fs)) g.out.2, g.mends.0.3, g.mends.0.2, g.mends.0.5, g.mends.0.4), g.out.3) in
    let d : Station = finishes (sends_waiting t) in
    let n = finishes_mends false w fs o (sends_waiting t) (waiting_mends false w fs o t (go_back_mends k w z f fs x o b m)) in
    let r = receiver_row k w z f fs x b h in
    let a = finishes_heard (length y.taken) (length r.before) g.least w (sends_waiting t) (waiting_heard (length y.taken) (length r.before) g.least w t r.heard) in
    subst (λ (s : Station). Gap fs x (w ++ (finishes s).said) (finishes s)) (sym e)
    (record {
      before = r.before;
      least = g.least;
      mends = (((r.all, λ owes. absurd (true≢false owes)), n.0.0.0, n.0.3, n.0.2, g.mends.0.4, n.0.4), n.0.0.1);
      out = (subst (λ (j : ℕ). j < x.sent) (sym a.0) g.out.0, g.out.1, subst (λ (j : ℕ). Lacks j (infos fs)) (sym a.0) r.lacks, n.1);
      notes = a.1;
    })

-- ---- each of the two, between two calls

settled_sender : (lx : List Frame) (x : Station) (ly : List Frame) (y : Station) → Filled lx x ly y → Filled lx (settled x) ly y
settled_sender lx x ly y (inl m) = inl m
settled_sender lx x ly y (inr g) = inr (record { before = g.before; least = g.least; mends = g.mends; out = g.out; notes = g.notes })

settled_receiver : (lx : List Frame) (x : Station) (ly : List Frame) (y : Station) → Filled lx x ly y → Filled lx x ly (settled y)
settled_receiver lx x ly y (inl m) = inl m
settled_receiver lx x ly y (inr g) = inr (record { before = g.before; least = g.least; mends = g.mends; out = g.out; notes = g.notes })

none_true : (k n : ℕ) → false ≡ true → k ≡ n
none_true k n e = absurd (true≢false (sym e))

module _ (law : ControlReadsBack) (k now : ℕ) (w : List Frame) (x : Station) (f : Frame) (fs : List Frame) (y : Station) (quiet : x.said ≡ []) (b : Both false k w x (f ∷ fs) y)
    (free : held_for (length x.taken) x.held ≡ None) where
  unsaid : w ++ x.said ≡ w
  unsaid = ap (λ (t : List Frame). w ++ t) quiet ∙ append-nil w

  mended : Mends false w x (f ∷ fs) y → MendsIn false w (answered false now y f x) fs y
  mended m =
      finishes_mends false w fs y (receives_as false now (found y f) x)
      (received_mends law false k now w x f fs y b (none_true k x.window) free (subst (λ (t : List Frame). Mends false t x (f ∷ fs) y) (sym unsaid) m))

  -- x lost a frame
  pub sender_step : Filled w x (f ∷ fs) y → Filled (w ++ (answered false now y f x).said) (settled (answered false now y f x)) fs y
  sender_step (inl m) = settled_sender (w ++ (answered false now y f x).said) (answered false now y f x) fs y (inl (mended m))
  sender_step (inr g) =
      settled_sender (w ++ (answered false now y f x).said) (answered false now y f x) fs y
      (sender_hears law k now w x f fs y b (subst (λ (t : List Frame). Gap t x (f ∷ fs) y) (sym unsaid) g))

  -- x misses one
  pub receiver_step : Filled (f ∷ fs) y w x → Filled fs y (w ++ (answered false now y f x).said) (settled (answered false now y f x))
  receiver_step (inl m) =
      let t : Station = answered false now y f x in
      settled_receiver fs y (w ++ t.said) t (inl (mends_swap false (w ++ t.said) t fs y (mended (mends_swap false (f ∷ fs) y w x m))))
  receiver_step (inr g) =
      let t : Station = answered false now y f x in
      settled_receiver fs y (w ++ t.said) t (inr (receiver_hears law k now w x f fs y b (subst (λ (s : List Frame). Gap (f ∷ fs) y s x) (sym unsaid) g)))
