-- Two stations with selective reject, of which one lost a frame before others: what its calls keep until it is asked for that frame, and sends it
-- again. Everywhere x sends what was lost, y takes, and v is V(R) of y.
use Rattle.std.proofs.Common.{if◌then◌else◌, ◌≡◌, ℕ, zero, suc, ◌+◌, ◌-◌, ◌%◌, ◌<◌, ◌≤◌, ◌⊎◌, inl, inr, Bool, true, false, List, [], ◌∷◌, ◌++◌, length, map, Option, Some, None, refl, sym, ◌∙◌, ap, subst, arith, append_assoc, append-nil, eq-eqb, eqb-true, lt-ltb, true≢false}
use Rattle.std.specs.Prelude.{slice_index_or, nat_lt, ◌==◌}
use Rattle.std.specs.List.{filter}
use Rattle.std.proofs.lemmas.Bool.{cases_Bool, cond_both}
use Rattle.hdlc_frames.specs.Laws.{ControlReadsBack}
use Rattle.hdlc_station_model.specs.declared.phase.Phase.{Phase}
use Rattle.hdlc_station_model.specs.declared.phase.Phase.TheVariants.{Up}
use Rattle.hdlc_station_model.specs.Frames.{modulo, Frame, Info, Rr, Rej, Srej, SetUp, Disc, Dm, Ua, shown, information}
use Rattle.hdlc_station_model.specs.Stations.{Station, is_down, sees, puts}
use Rattle.hdlc_station_model.specs.Sending.{info_at, sends_waiting}
use Rattle.hdlc_station_model.specs.Receiving.{strays, number_shown_as, acknowledges, marks_busy}
use Rattle.hdlc_station_model.specs.Selective.{held_for, is_found, without_gap, numbers_from, takes_run, missing_below, holds, says_next, files_at, files, repeats_at, receives_as}
use Rattle.hdlc_station_model.specs.Calls.{finishes}
use Rattle.hdlc_pair_laws.specs.Invariant.{IsStationPair, Both, infos, receive_numbers_in_frames, marks, info_of, receive_numbers_in_frame}
use Rattle.hdlc_pair_laws.specs.Keeping.{found}
use Rattle.hdlc_pair_laws.specs.Flowing.{EndsAtNumber}
use Rattle.hdlc_pair_laws.specs.Mending.{HasAllSentComing, Mends, Waits}
use Rattle.hdlc_pair_laws.proofs.Ways.{climbs_le}
use Rattle.hdlc_pair_laws.proofs.Keeps.{more}
use Rattle.hdlc_pair_laws.proofs.Rows.{found as named_found, no_foreign, span_below}
use Rattle.hdlc_pair_laws.proofs.Hearing.{row_as}
use Rattle.hdlc_pair_laws.proofs.Flows.{ends_push, heard_live, heard_row}
use Rattle.hdlc_pair_laws.proofs.Mending.{MendsIn, not_none, waits_last, waiting_mends, finishes_mends}
use Rattle.hdlc_pair_laws.proofs.MendRows.{numbered, selective_mends}
use Rattle.hdlc_pair_laws.proofs.Filling.{Out, OutIn, lacks_push, puts_out, waiting_out, finishes_out}

-- ---- what waits

-- a SREJ of this number waits
abbrev pub HasSrej : ℕ → List Frame → Type 0
HasSrej v [] = ⊥
HasSrej v (Info ns nr payload ∷ fs) = HasSrej v fs
HasSrej v (Rr nr ∷ fs) = HasSrej v fs
HasSrej v (Rej nr ∷ fs) = HasSrej v fs
HasSrej v (Srej nr ∷ fs) = (nr ≡ v) ⊎ HasSrej v fs
HasSrej v (SetUp ∷ fs) = HasSrej v fs
HasSrej v (Disc ∷ fs) = HasSrej v fs
HasSrej v (Dm ∷ fs) = HasSrej v fs
HasSrej v (Ua final ∷ fs) = HasSrej v fs

-- nothing is held and nothing was asked for, and a frame behind the gap was sent; or SREJ waits
abbrev pub Asks : (held : List (ℕ × List ℕ)) (asked : List ℕ) (v least : ℕ) → List Frame → Type 0
Asks held asked v least ly = ((held ≡ []) × (asked ≡ []) × (v + 1 < least)) ⊎ HasSrej v ly

-- all that was sent would come if the lost frame waited still, before all others
pub record HeldGap (lx : List Frame) (x : Station) (ly : List Frame) (y : Station) : Type 0 where
  pub nr : ℕ
  pub payload : List ℕ
  pub least : ℕ
  pub mends : Mends true (Info (length y.taken) nr payload ∷ lx) x ly y
  pub out : Out (length y.taken) least true [] (infos lx) x.acked x.sent
  pub asks : Asks y.held y.asked (length y.taken) least ly

abbrev pub HeldFilled : List Frame → Station → List Frame → Station → Type 0
HeldFilled lx x ly y = Mends true lx x ly y ⊎ HeldGap lx x ly y

abbrev pub HeldFilledIn : List Frame → Station → List Frame → Station → Type 0
HeldFilledIn w x l y = HeldFilled (w ++ x.said) x l y

pub srej_more : (v : ℕ) (l m : List Frame) → HasSrej v l → HasSrej v (l ++ m)
srej_more v [] m h = absurd h
srej_more v (Info ns nr p ∷ fs) m h = srej_more v fs m h
srej_more v (Rr nr ∷ fs) m h = srej_more v fs m h
srej_more v (Rej nr ∷ fs) m h = srej_more v fs m h
srej_more v (Srej nr ∷ fs) m (inl is) = inl is
srej_more v (Srej nr ∷ fs) m (inr h) = inr (srej_more v fs m h)
srej_more v (SetUp ∷ fs) m h = srej_more v fs m h
srej_more v (Disc ∷ fs) m h = srej_more v fs m h
srej_more v (Dm ∷ fs) m h = srej_more v fs m h
srej_more v (Ua final ∷ fs) m h = srej_more v fs m h

srej_here : (v : ℕ) (l m : List Frame) → HasSrej v (l ++ Srej v ∷ m)
srej_here v [] m = inl refl
srej_here v (Info ns nr p ∷ fs) m = srej_here v fs m
srej_here v (Rr nr ∷ fs) m = srej_here v fs m
srej_here v (Rej nr ∷ fs) m = srej_here v fs m
srej_here v (Srej nr ∷ fs) m = inr (srej_here v fs m)
srej_here v (SetUp ∷ fs) m = srej_here v fs m
srej_here v (Disc ∷ fs) m = srej_here v fs m
srej_here v (Dm ∷ fs) m = srej_here v fs m
srej_here v (Ua final ∷ fs) m = srej_here v fs m

pub asks_first : (v : ℕ) (l : List Frame) (p : ℕ → Bool) (count : ℕ) → 1 ≤ count → p v ≡ true → HasSrej v (l ++ map Srej (filter p (numbers_from v count)))
asks_first v l p zero some e = absurd (let u : ⊥ = omega (arith, some) in u)
asks_first v l p (suc count) some e =
    let rest : List ℕ = filter p (numbers_from (v + 1) count) in
    subst (λ (b : Bool). HasSrej v (l ++ map Srej (if b then v ∷ rest else rest))) (sym e) (srej_here v l (map Srej rest))

-- ---- x sends

module _ (v least : ℕ) (w : List Frame) where
  abbrev NoInfo : Station → Type 0
  NoInfo x = OutIn v least true [] w x

  srejs_out : (ms : List ℕ) (x : Station) → NoInfo x → NoInfo (record x { said = x.said ++ map Srej ms })
  srejs_out [] x h = subst (λ t. Out v least true [] (infos (w ++ t)) x.acked x.sent) (sym (append-nil x.said)) h
  srejs_out (m ∷ ms) x h =
      subst (λ t. Out v least true [] (infos (w ++ t)) x.acked x.sent) (append_assoc x.said (Srej m ∷ []) (map Srej ms))
      (srejs_out ms (puts (Srej m) x) (puts_out v least true [] w x (Srej m) refl h))

  files_out : (o : Option ℕ) (q : List ℕ) (x : Station) → NoInfo x → NoInfo (files_at o q x)
  files_out None q x h = puts_out v least true [] w x (Rr (length x.taken)) refl h
  files_out (Some n) q x h =
      cond_both (n == length x.taken) (takes_run q (without_gap (length x.held) (n + 1) x.held) x) (if is_found (held_for n x.held) then says_next x else holds n q x) NoInfo (λ e. h)
      (λ e. cond_both (is_found (held_for n x.held)) (says_next x) (holds n q x) NoInfo
      (λ e. puts_out v least true [] w x (Rr (length x.taken)) refl h) (λ e. srejs_out (missing_below n x) x h))

  info_out : (m : ℕ) (x : Station) → (v ≡ m → ⊥) → NoInfo x → NoInfo (puts (info_at x m) x)
  info_out m x differs h =
      subst (λ i. Out v least true [] i x.acked x.sent)
      (sym (ap infos (sym (append_assoc w x.said (info_at x m ∷ []))) ∙ more info_of (w ++ x.said) (info_at x m)))
      (h.0, h.1, lacks_push v (infos (w ++ x.said)) (m, slice_index_or x.handed m []) h.2 differs, λ owes. absurd (true≢false owes))

module _ (w l : List Frame) (y : Station) where
  held_waiting : (x : Station) → HeldFilledIn w x l y → HeldFilledIn w (sends_waiting x) l y
  held_waiting x (inl m) = inl (waiting_mends true w l y x m)
  held_waiting x (inr g) = inr (record {
    nr = g.nr;
    payload = g.payload;
    least = g.least;
    mends = waiting_mends true (Info (length y.taken) g.nr g.payload ∷ w) l y x g.mends;
    out = waiting_out (length y.taken) g.least true [] w x g.out;
    asks = g.asks;
  })

  pub held_finishes : (x : Station) → HeldFilledIn w x l y → HeldFilledIn w (finishes x) l y
  held_finishes x (inl m) = inl (finishes_mends true w l y x m)
  held_finishes x (inr g) = inr (record {
    nr = g.nr;
    payload = g.payload;
    least = g.least;
    mends = finishes_mends true (Info (length y.taken) g.nr g.payload ∷ w) l y x g.mends;
    out = finishes_out (length y.taken) g.least true [] w x g.out;
    asks = g.asks;
  })

-- ---- a frame comes to the station that lost one

comes_behind : (v sent : ℕ) (p : List ℕ) (held waits : List (ℕ × List ℕ)) → HasAllSentComing true v held ((v, p) ∷ waits) sent → Waits v waits → HasAllSentComing true v held waits sent
comes_behind v sent p held waits h is = λ m low high. elim (h m low high) [
  | inl held_is ↦ inl held_is
  | inr (inl same) ↦ inr (subst (λ (j : ℕ). Waits j waits) same is)
  | inr (inr w) ↦ inr w
]

-- the frame itself is sent again
sent_again : (w : List Frame) (x : Station) (fs : List Frame) (y : Station) (nr : ℕ) (p : List ℕ) (v : ℕ) → length y.taken ≡ v
    → MendsIn true (Info (length y.taken) nr p ∷ w) (repeats_at (Some v) x) fs y → MendsIn true w (repeats_at (Some v) x) fs y
sent_again w x fs y nr p v is m =
    let q : List ℕ = slice_index_or x.handed v [] in
    let f : Frame = info_at x v in
    let e : infos (w ++ (x.said ++ f ∷ [])) ≡ infos (w ++ x.said) ++ (v, q) ∷ [] = ap infos (sym (append_assoc w x.said (f ∷ []))) ∙ more info_of (w ++ x.said) f in
    let en : receive_numbers_in_frames (w ++ (x.said ++ f ∷ [])) ≡ receive_numbers_in_frames (w ++ x.said) ++ length x.taken ∷ [] = ap receive_numbers_in_frames (sym (append_assoc w x.said (f ∷ []))) ∙ more receive_numbers_in_frame (w ++ x.said) f in
    let is_there : Waits (length y.taken) (infos (w ++ (x.said ++ f ∷ []))) =
    subst (λ (j : ℕ). Waits j (infos (w ++ (x.said ++ f ∷ [])))) (sym is) (subst (Waits v) (sym e) (waits_last v (infos (w ++ x.said)) q)) in (
      (
        (
          comes_behind (length y.taken) x.sent p y.held (infos (w ++ (x.said ++ f ∷ []))) m.0.0.0 is_there,
          λ owes none. absurd (not_none (infos (w ++ x.said)) (v, q) (sym e ∙ none)),
        ),
        m.0.1,
        m.0.2.1,
        m.0.3,
        m.0.4,
        m.0.5,
      ),
      λ owes none. subst (λ ns. EndsAtNumber y.acked ns (length x.taken)) (sym en) (ends_push y.acked (length x.taken) (receive_numbers_in_frames (w ++ x.said))),
    )

some_is : (a b : ℕ) → Some a ≡ Some b → a ≡ b
some_is a b e = cc

srej_row : (k : ℕ) (w : List Frame) (x : Station) (r : ℕ) (fs : List Frame) (y : Station) → IsStationPair true k (w ++ x.said) x (Srej r ∷ fs) y → (g : HeldGap (w ++ x.said) x (Srej r ∷ fs) y)
    → (o : Option ℕ) → number_shown_as x.extended x.acked (x.sent - x.acked - 1) (r % modulo x.extended) ≡ o
    → MendsIn true (Info (length y.taken) g.nr g.payload ∷ w) (repeats_at o x) fs y → HeldFilledIn w (repeats_at o x) fs y
srej_row k w x r fs y p g o named_as m =
    let v : ℕ = length y.taken in
    let low = climbs_le x.acked v (receive_numbers_in_frames fs) p.0.0.climb in
    let high = g.out.0 in
    let small = span_below true x.extended k p.4 in
    let window = p.0.0.window in
    let is : number_shown_as x.extended x.acked (x.sent - x.acked - 1) (v % modulo x.extended) ≡ Some v =
    named_found x.extended (x.sent - x.acked - 1) x.acked v low (omega (arith, low, high)) (omega (arith, small, window, low, high)) in
    at o named_as is m
  where
    at : (o : Option ℕ) → number_shown_as x.extended x.acked (x.sent - x.acked - 1) (r % modulo x.extended) ≡ o
        → number_shown_as x.extended x.acked (x.sent - x.acked - 1) (length y.taken % modulo x.extended) ≡ Some (length y.taken)
        → MendsIn true (Info (length y.taken) g.nr g.payload ∷ w) (repeats_at o x) fs y → HeldFilledIn w (repeats_at o x) fs y
    at None e is m = inr (record {
      nr = g.nr;
      payload = g.payload;
      least = g.least;
      mends = m;
      out = g.out;
      asks = elim g.asks [
        | inl n ↦ inl n
        | inr (inl same) ↦ absurd (let u : None ≡ Some (length y.taken) = sym e ∙ ap (λ (j : ℕ). number_shown_as x.extended x.acked (x.sent - x.acked - 1) (j % modulo x.extended)) same ∙ is in let z : ⊥ = cc in z)
        | inr (inr has) ↦ inr has
      ];
    })
    at (Some n) e is m = elim (cases_Bool (length y.taken == n)) [
      | inl same ↦ inl (sent_again w x fs y g.nr g.payload n (eqb-true (length y.taken) n same) m)
      | inr other ↦
          let differs : length y.taken ≡ n → ⊥ = λ same. absurd (true≢false (sym (eq-eqb (length y.taken) n same) ∙ other)) in
          inr (record {
            nr = g.nr;
            payload = g.payload;
            least = g.least;
            mends = m;
            out = info_out (length y.taken) g.least w n x differs g.out;
            asks = elim g.asks [
              | inl a ↦ inl a
              | inr (inl same) ↦ absurd (differs (sym (some_is n (length y.taken) (sym e ∙ ap (λ (j : ℕ). number_shown_as x.extended x.acked (x.sent - x.acked - 1) (j % modulo x.extended)) same ∙ is))))
              | inr (inr has) ↦ inr has
            ];
          })
    ]

held_sender_row : (k : ℕ) (w : List Frame) (x : Station) (f : Frame) (fs : List Frame) (y : Station) → IsStationPair true k (w ++ x.said) x (f ∷ fs) y → (g : HeldGap (w ++ x.said) x (f ∷ fs) y)
    → MendsIn true (Info (length y.taken) g.nr g.payload ∷ w) (row_as true Up x (shown x.extended f) (information f)) fs y
    → HeldFilledIn w (row_as true Up x (shown x.extended f) (information f)) fs y
held_sender_row k w x (Info n r q) fs y p g m = inr (record {
  nr = g.nr;
  payload = g.payload;
  least = g.least;
  mends = m;
  out = numbered true k r (w ++ x.said) (Info n r q) fs x y (files (n % modulo x.extended) q) (NoInfo (length y.taken) g.least w) refl p
      (files_out (length y.taken) g.least w (number_shown_as x.extended (length x.taken) (x.window - 1) (n % modulo x.extended)) q (acknowledges r x) (g.out.0, g.out.1, g.out.2, λ owes. absurd (true≢false owes)));
  asks = g.asks;
})
held_sender_row k w x (Rr r) fs y p g m = inr (record {
  nr = g.nr;
  payload = g.payload;
  least = g.least;
  mends = m;
  out = numbered true k r (w ++ x.said) (Rr r) fs x y (marks_busy false) (NoInfo (length y.taken) g.least w) refl p (g.out.0, g.out.1, g.out.2, λ owes. absurd (true≢false owes));
  asks = g.asks;
})
held_sender_row k w x (Rej r) fs y p g m = absurd (no_foreign y.calling x.taken y.sent (marks true fs) p.1.1)
held_sender_row k w x (Srej r) fs y p g m =
    let low = climbs_le x.acked (length y.taken) (receive_numbers_in_frames fs) p.0.0.climb in
    let high = g.out.0 in
    cond_both (nat_lt x.acked x.sent) (repeats_at (number_shown_as x.extended x.acked (x.sent - x.acked - 1) (r % modulo x.extended)) x) (strays x)
    (λ t. MendsIn true (Info (length y.taken) g.nr g.payload ∷ w) t fs y → HeldFilledIn w t fs y)
    (λ some n. srej_row k w x r fs y p g (number_shown_as x.extended x.acked (x.sent - x.acked - 1) (r % modulo x.extended)) refl n)
    (λ none. absurd (true≢false (sym (lt-ltb x.acked x.sent (omega (arith, low, high))) ∙ none))) m
held_sender_row k w x SetUp fs y p g m = absurd g.mends.0.3.0
held_sender_row k w x Disc fs y p g m = absurd g.mends.0.3.0
held_sender_row k w x Dm fs y p g m = absurd g.mends.0.3.0
held_sender_row k w x (Ua final) fs y p g m = absurd g.mends.0.3.0

pub held_sender_hears : ControlReadsBack → (k now : ℕ) (w : List Frame) (x : Station) (f : Frame) (fs : List Frame) (y : Station) → Both true k w x (f ∷ fs) y
    → k ≡ x.window → held_for (length x.taken) x.held ≡ None → HeldGap (w ++ x.said) x (f ∷ fs) y → HeldFilledIn w (finishes (receives_as true now (found y f) x)) fs y
held_sender_hears law k now w x f fs y b wide free g =
    let z : Station = sees now x in
    let t : Station = row_as true Up z (shown x.extended f) (information f) in
    let e : receives_as true now (found y f) x ≡ sends_waiting t =
    heard_live true now (found y f) x (ap is_down g.mends.0.4) ∙ ap sends_waiting (heard_row law true k (w ++ x.said) z f fs y b ∙ ap (λ (q : Phase). row_as true q z (shown x.extended f) (information f)) g.mends.0.4) in
    let h : HeldGap (w ++ z.said) z (f ∷ fs) y = record { nr = g.nr; payload = g.payload; least = g.least; mends = g.mends; out = g.out; asks = g.asks } in
    subst (λ (s : Station). HeldFilledIn w (finishes s) fs y) (sym e)
    (held_finishes w fs y (sends_waiting t) (held_waiting w fs y t
    (held_sender_row k w z f fs y b h (selective_mends k w (Info (length y.taken) g.nr g.payload ∷ w) z f fs fs y b wide free h.mends))))
