-- Two stations with selective reject, of which one lost a frame before others: what the other one does at the first frame that waits towards it, until
-- the gap is filled.
use Rattle.std.proofs.Common.{if◌then◌else◌, ◌≡◌, ℕ, zero, suc, ◌+◌, ◌-◌, ◌%◌, ◌<◌, ◌⊎◌, inl, inr, Bool, true, false, not, ◌||◌, List, [], ◌∷◌, ◌++◌, length, map, Option, Some, None, refl, sym, ◌∙◌, ap, subst, arith, append_assoc, append-nil, eqb-true, true≢false}
use Rattle.std.specs.Prelude.{nat_lt, ◌==◌}
use Rattle.std.specs.List.{filter}
use Rattle.std.proofs.lemmas.Bool.{cases_lt, cond_both}
use Rattle.hdlc_frames.specs.Laws.{ControlReadsBack}
use Rattle.hdlc_station_model.specs.declared.phase.Phase.{Phase}
use Rattle.hdlc_station_model.specs.declared.phase.Phase.TheVariants.{Up}
use Rattle.hdlc_station_model.specs.Frames.{modulo, Frame, Info, Rr, Rej, Srej, SetUp, Disc, Dm, Ua, shown, information}
use Rattle.hdlc_station_model.specs.Stations.{Station, is_down, sees, puts, settled}
use Rattle.hdlc_station_model.specs.Sending.{can_send, waiting, sends_next, sends_up_to, sends_waiting, settles}
use Rattle.hdlc_station_model.specs.Receiving.{strays, number_shown_as, acknowledges, marks_busy}
use Rattle.hdlc_station_model.specs.Selective.{held_for, is_found, is_one_of, numbers_from, without_gap, takes_run, holds, says_next, files_at, files, repeats_at, receives_as}
use Rattle.hdlc_station_model.specs.Calls.{finishes}
use Rattle.hdlc_pair_laws.specs.Invariant.{IsStationPair, Both, infos, marks}
use Rattle.hdlc_pair_laws.specs.Keeping.{found}
use Rattle.hdlc_pair_laws.specs.Mending.{HasAllSentComing, Mends}
use Rattle.hdlc_pair_laws.proofs.Rows.{no_foreign}
use Rattle.hdlc_pair_laws.proofs.Hearing.{row_as}
use Rattle.hdlc_pair_laws.proofs.SelectiveRows.{named_at, named_none_or}
use Rattle.hdlc_pair_laws.proofs.Flows.{heard_live, heard_row}
use Rattle.hdlc_pair_laws.proofs.Lines.{answered}
use Rattle.hdlc_pair_laws.proofs.Recovers.{received_mends}
use Rattle.hdlc_pair_laws.proofs.Mending.{MendsIn, mends_swap, waiting_mends, finishes_mends}
use Rattle.hdlc_pair_laws.proofs.MendRows.{numbered, selective_mends}
use Rattle.hdlc_pair_laws.proofs.Filling.{Lacks}
use Rattle.hdlc_pair_laws.proofs.Asking.{HasSrej, Asks, HeldGap, HeldFilled, srej_more, asks_first, held_sender_hears}

-- V(R) stays, and it asked for the frame, or will at the next one
abbrev Noted : (v least : ℕ) → List Frame → Station → Type 0
Noted v least w t = (length t.taken ≡ v) × Asks t.held t.asked v least (w ++ t.said)

module _ (v least : ℕ) (w : List Frame) where
  -- it says more
  more_asks : (held : List (ℕ × List ℕ)) (asked : List ℕ) (said more : List Frame) → Asks held asked v least (w ++ said) → Asks held asked v least (w ++ (said ++ more))
  more_asks held asked said more (inl n) = inl n
  more_asks held asked said more (inr has) = inr (subst (HasSrej v) (append_assoc w said more) (srej_more v (w ++ said) more has))

  up_to_noted : (n : ℕ) (x : Station) → Noted v least w x → Noted v least w (sends_up_to n x)
  up_to_noted zero x h = h
  up_to_noted (suc n) x h =
      cond_both (can_send x) (sends_up_to n (sends_next x)) x (Noted v least w) (λ can. up_to_noted n (sends_next x) (h.0, more_asks x.held x.asked x.said _ h.1)) (λ cannot. h)

  waiting_noted : (x : Station) → Noted v least w x → Noted v least w (sends_waiting x)
  waiting_noted x h = up_to_noted (waiting x) x h

  finishes_noted : (x : Station) → Noted v least w x → Noted v least w (finishes x)
  finishes_noted x h =
      cond_both (is_down x.phase) x (settles x) (Noted v least w) (λ e. h)
      (λ e. cond_both x.owed (record (puts (Rr (length x.taken)) x) { owed = false }) x (Noted v least w) (λ owes. (h.0, more_asks x.held x.asked x.said _ h.1)) (λ owes. h))

  again_noted : (o : Option ℕ) (x : Station) → Noted v least w x → Noted v least w (repeats_at o x)
  again_noted None x h = h
  again_noted (Some n) x h = (h.0, more_asks x.held x.asked x.said _ h.1)

  -- a frame behind the gap is held, and the one that is missing is asked for
  holds_asks : (n : ℕ) (q : List ℕ) (x : Station) → length x.taken ≡ v → v < n → Asks x.held x.asked v least (w ++ x.said) → HasSrej v (w ++ (holds n q x).said)
  holds_asks n q x is above (inr has) = subst (HasSrej v) (append_assoc w x.said _) (srej_more v (w ++ x.said) _ has)
  holds_asks n q x is above (inl a) =
      let free : (held : List (ℕ × List ℕ)) (asked : List ℕ) → held ≡ [] → asked ≡ [] → not (is_found (held_for v held) || is_one_of v asked) ≡ true =
      λ held asked eh ea. ap (λ (h : List (ℕ × List ℕ)). not (is_found (held_for v h) || is_one_of v asked)) eh ∙ ap (λ (ms : List ℕ). not (is_one_of v ms)) ea in
      let p : ℕ → Bool = λ m. not (is_found (held_for m x.held) || is_one_of m x.asked) in
      subst (HasSrej v) (append_assoc w x.said _)
      (subst (λ (j : ℕ). HasSrej v ((w ++ x.said) ++ map Srej (filter p (numbers_from j (n - j))))) (sym is)
      (asks_first v (w ++ x.said) p (n - v) (omega (arith, above)) (free x.held x.asked a.0 a.1)))

  files_noted : (o : Option ℕ) (q : List ℕ) (x : Station) → length x.taken ≡ v → ((n : ℕ) → o ≡ Some n → v < n) → Asks x.held x.asked v least (w ++ x.said) → Noted v least w (files_at o q x)
  files_noted None q x is above h = (is, more_asks x.held x.asked x.said _ h)
  files_noted (Some n) q x is above h =
      let far = above n refl in
      cond_both (n == length x.taken) (takes_run q (without_gap (length x.held) (n + 1) x.held) x) (if is_found (held_for n x.held) then says_next x else holds n q x) (Noted v least w)
      (λ e. let same = eqb-true n (length x.taken) e in absurd (let u : ⊥ = omega (arith, same, is, far) in u))
      (λ e. cond_both (is_found (held_for n x.held)) (says_next x) (holds n q x) (Noted v least w)
      (λ e. (is, more_asks x.held x.asked x.said _ h)) (λ e. (is, inr (holds_asks n q x is far h))))

noted_row : (k : ℕ) (w : List Frame) (y : Station) (f : Frame) (fs : List Frame) (x : Station) → IsStationPair true k (w ++ y.said) y (f ∷ fs) x → (g : HeldGap (f ∷ fs) x (w ++ y.said) y)
    → Noted (length y.taken) g.least w (row_as true Up y (shown y.extended f) (information f)) × Lacks (length y.taken) (infos fs)
noted_row k w y (Info n r q) fs x p g =
    let v : ℕ = length y.taken in
    let o : Option ℕ = number_shown_as y.extended v (y.window - 1) (n % modulo y.extended) in (
      numbered true k r (w ++ y.said) (Info n r q) fs y x (files (n % modulo y.extended) q) (Noted v g.least w) refl p
          (files_noted v g.least w o q (acknowledges r y) refl (far o refl (named_none_or k (w ++ y.said) y n r q fs x p o refl)) g.asks),
      g.out.2.1,
    )
  where
    far : (o : Option ℕ) → number_shown_as y.extended (length y.taken) (y.window - 1) (n % modulo y.extended) ≡ o → (o ≡ None) ⊎ (o ≡ Some n) → (m : ℕ) → o ≡ Some m → length y.taken < m
    far o is (inl none) m e = absurd (let u : None ≡ Some m = sym none ∙ e in let z : ⊥ = cc in z)
    far o is (inr some) m e =
        let same : n ≡ m = (let u : Some n ≡ Some m = sym some ∙ e in cc) in
        let low = (named_at y.extended (length y.taken) (y.window - 1) (n % modulo y.extended) n (is ∙ some)).low in
        elim (cases_lt (length y.taken) n) [
          | inl lt ↦ omega (arith, lt, same)
          | inr ge ↦ absurd (g.out.2.0 (let u : length y.taken ≡ n = omega (arith, ge, low) in u))
        ]
noted_row k w y (Rr r) fs x p g =
    (numbered true k r (w ++ y.said) (Rr r) fs y x (marks_busy false) (Noted (length y.taken) g.least w) refl p (refl, g.asks), g.out.2)
noted_row k w y (Rej r) fs x p g = absurd (no_foreign x.calling y.taken x.sent (marks true fs) p.1.1)
noted_row k w y (Srej r) fs x p g =
    let o : Option ℕ = number_shown_as y.extended y.acked (y.sent - y.acked - 1) (r % modulo y.extended) in (
      cond_both (nat_lt y.acked y.sent) (repeats_at o y) (strays y) (Noted (length y.taken) g.least w) (λ some. again_noted (length y.taken) g.least w o y (refl, g.asks)) (λ none. (refl, g.asks)),
      g.out.2,
    )
noted_row k w y SetUp fs x p g = absurd g.mends.0.2.1.0
noted_row k w y Disc fs x p g = absurd g.mends.0.2.1.0
noted_row k w y Dm fs x p g = absurd g.mends.0.2.1.0
noted_row k w y (Ua final) fs x p g = absurd g.mends.0.2.1.0

-- the lost frame, with the newest N(R), as if it waited behind the frame that comes
abbrev shows_now : Frame → ℕ → ℕ
shows_now (Info n r q) nr = r
shows_now (Rr r) nr = r
shows_now (Rej r) nr = r
shows_now (Srej r) nr = nr
shows_now SetUp nr = nr
shows_now Disc nr = nr
shows_now Dm nr = nr
shows_now (Ua final) nr = nr

turn_waits : (next sent : ℕ) (a b : ℕ × List ℕ) (held fs : List (ℕ × List ℕ)) → HasAllSentComing true next held (a ∷ b ∷ fs) sent → HasAllSentComing true next held (b ∷ a ∷ fs) sent
turn_waits next sent a b held fs h = λ m low high. elim (h m low high) [
  | inl is ↦ inl is
  | inr (inl first) ↦ inr (inr (inl first))
  | inr (inr (inl second)) ↦ inr (inl second)
  | inr (inr (inr w)) ↦ inr (inr (inr w))
]

put_behind : (f : Frame) (nr : ℕ) (p : List ℕ) (fs : List Frame) (x : Station) (ly : List Frame) (y : Station)
    → Mends true (Info (length y.taken) nr p ∷ f ∷ fs) x ly y → Mends true ly y (f ∷ Info (length y.taken) (shows_now f nr) p ∷ fs) x
put_behind (Info n r q) nr p fs x ly y m =
    (((m.0.1, m.1), turn_waits (length y.taken) x.sent (length y.taken, p) (n, q) y.held (infos fs) m.0.0.0, m.0.3, (tt, (tt, m.0.2.1.1)), m.0.5, m.0.4), λ owes none. absurd cc)
put_behind (Rr r) nr p fs x ly y m = (((m.0.1, m.1), m.0.0.0, m.0.3, (tt, (tt, m.0.2.1.1)), m.0.5, m.0.4), λ owes none. absurd cc)
put_behind (Rej r) nr p fs x ly y m = (((m.0.1, m.1), m.0.0.0, m.0.3, (tt, (tt, m.0.2.1.1)), m.0.5, m.0.4), λ owes none. absurd cc)
put_behind (Srej r) nr p fs x ly y m = (((m.0.1, m.1), m.0.0.0, m.0.3, (tt, (tt, m.0.2.1.1)), m.0.5, m.0.4), λ owes none. absurd cc)
put_behind SetUp nr p fs x ly y m = absurd m.0.2.1.0
put_behind Disc nr p fs x ly y m = absurd m.0.2.1.0
put_behind Dm nr p fs x ly y m = absurd m.0.2.1.0
put_behind (Ua final) nr p fs x ly y m = absurd m.0.2.1.0

held_receiver_hears : ControlReadsBack → (k now : ℕ) (w : List Frame) (y : Station) (f : Frame) (fs : List Frame) (x : Station) → Both true k w y (f ∷ fs) x
    → k ≡ y.window → held_for (length y.taken) y.held ≡ None → HeldGap (f ∷ fs) x (w ++ y.said) y
    → HeldGap fs x (w ++ (finishes (receives_as true now (found x f) y)).said) (finishes (receives_as true now (found x f) y))
held_receiver_hears law k now w y f fs x b wide free g =
    let z : Station = sees now y in
    let v : ℕ = length y.taken in
    let t : Station = row_as true Up z (shown y.extended f) (information f) in
    let e : receives_as true now (found x f) y ≡ sends_waiting t =
    heard_live true now (found x f) y (ap is_down g.mends.0.5) ∙ ap sends_waiting (heard_row law true k (w ++ y.said) z f fs x b ∙ ap (λ (q : Phase). row_as true q z (shown y.extended f) (information f)) g.mends.0.5) in
    let h : HeldGap (f ∷ fs) x (w ++ z.said) z = record { nr = g.nr; payload = g.payload; least = g.least; mends = g.mends; out = g.out; asks = g.asks } in
    let nr : ℕ = shows_now f g.nr in
    let gs : List Frame = Info v nr g.payload ∷ fs in
    let d : Station = finishes (sends_waiting t) in
    let n : MendsIn true w d gs x = finishes_mends true w gs x (sends_waiting t) (waiting_mends true w gs x t
    (selective_mends k w w z f fs gs x b wide free (put_behind f g.nr g.payload fs x (w ++ z.said) z g.mends))) in
    let r = noted_row k w z f fs x b h in
    let a = finishes_noted v g.least w (sends_waiting t) (waiting_noted v g.least w t r.0) in
    subst (λ (s : Station). HeldGap fs x (w ++ (finishes s).said) (finishes s)) (sym e)
    (record {
      nr = nr;
      payload = g.payload;
      least = g.least;
      mends = subst (λ (j : ℕ). Mends true (Info j nr g.payload ∷ fs) x (w ++ d.said) d) (sym a.0) (mends_swap true (w ++ d.said) d gs x n);
      out = (subst (λ (j : ℕ). j < x.sent) (sym a.0) g.out.0, g.out.1, subst (λ (j : ℕ). Lacks j (infos fs)) (sym a.0) r.1, λ owes. absurd (true≢false owes));
      asks = subst (λ (j : ℕ). Asks d.held d.asked j g.least (w ++ d.said)) (sym a.0) a.1;
    })

-- ---- each of the two, between two calls

settled_sender : (lx : List Frame) (x : Station) (ly : List Frame) (y : Station) → HeldFilled lx x ly y → HeldFilled lx (settled x) ly y
settled_sender lx x ly y (inl m) = inl m
settled_sender lx x ly y (inr g) = inr (record { nr = g.nr; payload = g.payload; least = g.least; mends = g.mends; out = g.out; asks = g.asks })

settled_receiver : (lx : List Frame) (x : Station) (ly : List Frame) (y : Station) → HeldFilled lx x ly y → HeldFilled lx x ly (settled y)
settled_receiver lx x ly y (inl m) = inl m
settled_receiver lx x ly y (inr g) = inr (record { nr = g.nr; payload = g.payload; least = g.least; mends = g.mends; out = g.out; asks = g.asks })

module _ (law : ControlReadsBack) (k now : ℕ) (w : List Frame) (x : Station) (f : Frame) (fs : List Frame) (y : Station) (quiet : x.said ≡ []) (b : Both true k w x (f ∷ fs) y)
    (wide : k ≡ x.window) (free : held_for (length x.taken) x.held ≡ None) where
  unsaid : w ++ x.said ≡ w
  unsaid = ap (λ (t : List Frame). w ++ t) quiet ∙ append-nil w

  mended : Mends true w x (f ∷ fs) y → MendsIn true w (answered true now y f x) fs y
  mended m =
      finishes_mends true w fs y (receives_as true now (found y f) x)
      (received_mends law true k now w x f fs y b (λ s. wide) free (subst (λ (t : List Frame). Mends true t x (f ∷ fs) y) (sym unsaid) m))

  -- x lost a frame
  pub held_sender_step : HeldFilled w x (f ∷ fs) y → HeldFilled (w ++ (answered true now y f x).said) (settled (answered true now y f x)) fs y
  held_sender_step (inl m) = settled_sender (w ++ (answered true now y f x).said) (answered true now y f x) fs y (inl (mended m))
  held_sender_step (inr g) =
      settled_sender (w ++ (answered true now y f x).said) (answered true now y f x) fs y
      (held_sender_hears law k now w x f fs y b wide free (subst (λ (t : List Frame). HeldGap t x (f ∷ fs) y) (sym unsaid) g))

  -- x misses one
  pub held_receiver_step : HeldFilled (f ∷ fs) y w x → HeldFilled fs y (w ++ (answered true now y f x).said) (settled (answered true now y f x))
  held_receiver_step (inl m) =
      let t : Station = answered true now y f x in
      settled_receiver fs y (w ++ t.said) t (inl (mends_swap true (w ++ t.said) t fs y (mended (mends_swap true (f ∷ fs) y w x m))))
  held_receiver_step (inr g) =
      let t : Station = answered true now y f x in
      settled_receiver fs y (w ++ t.said) t (inr (held_receiver_hears law k now w x f fs y b wide free (subst (λ (s : List Frame). HeldGap (f ∷ fs) y s x) (sym unsaid) g)))
