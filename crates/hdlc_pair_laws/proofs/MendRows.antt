-- Two stations that are up, once one sent again what was unacknowledged, or each did: what a station does at the first frame that waits keeps that all
-- that it sent comes. Everywhere x acts and y doesn't, and w waited from x before the call; out says that it is claimed of what x sends, back of what y
-- sends.
use Rattle.std.proofs.Common.{if◌then◌else◌, ◌≡◌, ℕ, ◌+◌, ◌-◌, ◌%◌, ◌<◌, ◌≤◌, ◌⊎◌, inl, inr, max, Bool, true, false, List, [], ◌∷◌, ◌++◌, length, Option, Some, None, refl, sym, ◌∙◌, ap, subst, arith, length-append, eq-eqb, eqb-true, ltb-true, true≢false}
use Rattle.std.specs.Prelude.{nat_lt, nat_le, ◌==◌}
use Rattle.std.specs.List.{filter}
use Rattle.std.proofs.lemmas.Bool.{cases_Bool, cond_both}
use Rattle.hdlc_station_model.specs.declared.phase.Phase.TheVariants.{Up}
use Rattle.hdlc_station_model.specs.Frames.{Frame, Info, Rr, Rej, Srej, SetUp, Disc, Dm, Ua, modulo, shown, information}
use Rattle.hdlc_station_model.specs.Stations.{Station, puts}
use Rattle.hdlc_station_model.specs.Sending.{sends_again, starts_timer}
use Rattle.hdlc_station_model.specs.Receiving.{strays, number_shown_as, acknowledges, acknowledging, by_number, accepts, rejects, takes, marks_busy, repeats_rejected}
use Rattle.hdlc_station_model.specs.Selective.{held_for, is_found, without_gap, takes_run, missing_below, holds, says_next, files_at, files, repeats_at, repeats_one}
use Rattle.hdlc_pair_laws.specs.Invariant.{Half, IsStationPair, infos, receive_numbers_in_frames, marks}
use Rattle.hdlc_pair_laws.specs.Mending.{HasAllSentComing, Mends, MendsSome, Waits, leads}
use Rattle.hdlc_pair_laws.proofs.Ways.{forward_le, way_bounds, way_tells}
use Rattle.hdlc_pair_laws.proofs.Rows.{found, no_foreign, named_is, span_below}
use Rattle.hdlc_pair_laws.proofs.Hearing.{row_as}
use Rattle.hdlc_pair_laws.proofs.SelectiveRows.{named_at, named_none_or}
use Rattle.hdlc_pair_laws.proofs.Gaps.{held_kept, held_push}
use Rattle.hdlc_pair_laws.proofs.Mending.{NearSomeIn, MendsIn, MendsSomeIn, to_some, of_some, puts_shown_mends, puts_again_mends, asked_mends, sends_again_mends}

-- ---- N(R)

-- the first N(R) that waits is acknowledged
pub numbered : (selective : Bool) (k r : ℕ) (lx : List Frame) (f : Frame) (fs : List Frame) (x y : Station) (rest : Station → Station) (P : Station → Type 0)
    → receive_numbers_in_frames (f ∷ fs) ≡ r ∷ receive_numbers_in_frames fs → IsStationPair selective k lx x (f ∷ fs) y → P (rest (acknowledges r x)) → P (by_number (r % modulo x.extended) rest x)
numbered selective k r lx f fs x y rest P is h p =
    subst (λ (n : Option ℕ). P (acknowledging n rest x))
    (sym (named_is selective k r (infos lx) (marks selective lx) (receive_numbers_in_frames fs) x y h.4 (subst (λ (ns : List ℕ). Half selective k (infos lx) (marks selective lx) ns x y) is h.0))) p

-- ---- with go-back

comes_next : (next sent n : ℕ) (q : List ℕ) (fs : List (ℕ × List ℕ)) → next ≡ n → HasAllSentComing false next [] ((n, q) ∷ fs) sent → HasAllSentComing false (next + 1) [] fs sent
comes_next next sent n q fs same h = sym (ap (λ (b : Bool). if b then leads (next + 1) fs else leads next fs) (eq-eqb next n same)) ∙ h

comes_still : (next sent n : ℕ) (q : List ℕ) (fs : List (ℕ × List ℕ)) → (next ≡ n → ⊥) → HasAllSentComing false next [] ((n, q) ∷ fs) sent → HasAllSentComing false next [] fs sent
comes_still next sent n q fs differs h = elim (cases_Bool (next == n)) [
  | inl same ↦ absurd (differs (eqb-true next n same))
  | inr other ↦ sym (ap (λ (b : Bool). if b then leads (next + 1) fs else leads next fs) other) ∙ h
]

module _ (out back : Bool) where
  takes_mends : (k : ℕ) (w : List Frame) (x : Station) (n r : ℕ) (q : List ℕ) (fs : List Frame) (y z : Station) → IsStationPair false k (w ++ x.said) x (Info n r q ∷ fs) y
      → MendsSome false out back (w ++ x.said) x (Info n r q ∷ fs) z → MendsSomeIn false out back w (takes (n % modulo x.extended) q (acknowledges r x)) fs z
  takes_mends k w x n r q fs y z p h =
      let a : Station = acknowledges r x in
      let len : length (x.taken ++ q ∷ []) ≡ length x.taken + 1 = (let l = length-append x.taken (q ∷ []) in omega (arith, l)) in
      cond_both (length x.taken % modulo x.extended == n % modulo x.extended) (accepts q a) (rejects a) (λ t. MendsSomeIn false out back w t fs z)
      (λ e.
      let same : length x.taken ≡ n = way_tells x.extended k y.handed y.acked y.sent x.taken (n, q) (infos fs) (receive_numbers_in_frames (w ++ x.said)) (span_below false x.extended k p.4) (eqb-true _ _ e) p.1.0 in (
        (
          h.0.0,
          λ way. subst (λ (j : ℕ). HasAllSentComing false j [] (infos fs) z.sent) (sym len) (comes_next (length x.taken) z.sent n q (infos fs) same (h.0.1 way)),
          h.0.2,
          h.0.3.1,
          h.0.4,
          h.0.5,
        ),
        λ way owes none. absurd (true≢false owes),
      ))
      (λ e.
      let differs : length x.taken ≡ n → ⊥ = λ same. absurd (true≢false (sym (eq-eqb _ _ (ap (λ (j : ℕ). j % modulo x.extended) same)) ∙ e)) in
      let near : NearSomeIn false out back w a fs z = (h.0.0, λ way. comes_still (length x.taken) z.sent n q (infos fs) differs (h.0.1 way), h.0.2, h.0.3.1, h.0.4, h.0.5) in
      cond_both x.gap (puts (Rr (length x.taken)) a) (puts (Rej (length x.taken)) (record a { gap = true })) (λ t. MendsSomeIn false out back w t fs z)
      (λ g. puts_shown_mends false out back w fs z a x.owed (Rr (length x.taken)) tt refl refl near)
      (λ g. puts_shown_mends false out back w fs z (record a { gap = true }) x.owed (Rej (length x.taken)) tt refl refl near))

  rejected_mends : (w : List Frame) (x : Station) (l : List Frame) (y : Station) → MendsSomeIn false out back w x l y → MendsSomeIn false out back w (repeats_rejected x) l y
  rejected_mends w x l y h =
      cond_both (nat_lt x.acked x.sent) (starts_timer (sends_again x)) x (λ t. MendsSomeIn false out back w t l y)
      (λ some. let lt = ltb-true x.acked x.sent some in sends_again_mends false out back w l y x (omega (arith, lt)) h) (λ none. h)

  pub go_back_some : (k : ℕ) (w : List Frame) (x : Station) (f : Frame) (fs : List Frame) (y z : Station) → IsStationPair false k (w ++ x.said) x (f ∷ fs) y
      → MendsSome false out back (w ++ x.said) x (f ∷ fs) z → MendsSomeIn false out back w (row_as false Up x (shown x.extended f) (information f)) fs z
  go_back_some k w x (Info n r q) fs y z p h =
      numbered false k r (w ++ x.said) (Info n r q) fs x y (takes (n % modulo x.extended) q) (λ t. MendsSomeIn false out back w t fs z) refl p (takes_mends k w x n r q fs y z p h)
  go_back_some k w x (Rr r) fs y z p h =
      numbered false k r (w ++ x.said) (Rr r) fs x y (marks_busy false) (λ t. MendsSomeIn false out back w t fs z) refl p
      ((h.0.0, h.0.1, h.0.2, h.0.3.1, h.0.4, h.0.5), h.1)
  go_back_some k w x (Rej r) fs y z p h =
      numbered false k r (w ++ x.said) (Rej r) fs x y (λ t. repeats_rejected (marks_busy false t)) (λ t. MendsSomeIn false out back w t fs z) refl p
      (rejected_mends w (marks_busy false (acknowledges r x)) fs z ((h.0.0, h.0.1, h.0.2, h.0.3.1, h.0.4, h.0.5), h.1))
  go_back_some k w x (Srej r) fs y z p h = absurd (no_foreign y.calling x.taken y.sent (marks false fs) p.1.1)
  go_back_some k w x SetUp fs y z p h = absurd h.0.3.0
  go_back_some k w x Disc fs y z p h = absurd h.0.3.0
  go_back_some k w x Dm fs y z p h = absurd h.0.3.0
  go_back_some k w x (Ua final) fs y z p h = absurd h.0.3.0

-- ---- with selective reject

-- the next frame and a run behind it are taken
comes_run : (next now sent n : ℕ) (q : List ℕ) (held waits : List (ℕ × List ℕ)) → n < now → next ≤ now → HasAllSentComing true next held ((n, q) ∷ waits) sent
    → HasAllSentComing true now (filter (λ h. nat_le now h.0) held) waits sent
comes_run next now sent n q held waits below up h = λ m low high. elim (h m (omega arith) high) [
  | inl is ↦ inl (ap is_found (held_kept now m held low) ∙ is)
  | inr (inl same) ↦ absurd (let u : ⊥ = omega (arith, same, below, low) in u)
  | inr (inr w) ↦ inr w
]

-- a frame that is held, or old
comes_known : (next sent n : ℕ) (q : List ℕ) (held waits : List (ℕ × List ℕ)) → (next ≤ n → is_found (held_for n held) ≡ true) → HasAllSentComing true next held ((n, q) ∷ waits) sent
    → HasAllSentComing true next held waits sent
comes_known next sent n q held waits known h = λ m low high. elim (h m low high) [
  | inl is ↦ inl is
  | inr (inl same) ↦ inl (ap (λ (j : ℕ). is_found (held_for j held)) (sym same) ∙ known (omega (arith, same, low)))
  | inr (inr w) ↦ inr w
]

found_now : (o : Option (List ℕ)) (b : Bool) (q : List ℕ) → b ≡ true → is_found (if is_found o then o else (if b then Some q else None)) ≡ true
found_now None true q e = refl
found_now None false q e = absurd cc
found_now (Some p) b q e = refl

found_before : (o o' : Option (List ℕ)) → is_found o ≡ true → is_found (if is_found o then o else o') ≡ true
found_before None o' e = absurd cc
found_before (Some p) o' e = refl

-- a frame is held
comes_held : (next sent n : ℕ) (q : List ℕ) (held waits : List (ℕ × List ℕ)) → HasAllSentComing true next held ((n, q) ∷ waits) sent → HasAllSentComing true next (held ++ (n, q) ∷ []) waits sent
comes_held next sent n q held waits h = λ m low high. elim (h m low high) [
  | inl is ↦ inl (ap is_found (held_push m (n, q) held) ∙ found_before (held_for m held) (held_for m ((n, q) ∷ [])) is)
  | inr (inl same) ↦ inl (ap is_found (held_push m (n, q) held) ∙ found_now (held_for m held) (n == m) q (eq-eqb n m same))
  | inr (inr w) ↦ inr w
]

-- the next frame waits, unless all came
waits_next : (next sent n : ℕ) (q : List ℕ) (held waits : List (ℕ × List ℕ)) → held_for next held ≡ None → (n ≡ next → ⊥) → next < sent → waits ≡ [] → HasAllSentComing true next held ((n, q) ∷ waits) sent → ⊥
waits_next next sent n q held waits free differs some none h = elim (h next (omega arith) some) [
  | inl is ↦ absurd (true≢false (sym is ∙ ap is_found free))
  | inr (inl same) ↦ differs same
  | inr (inr w) ↦ subst (Waits next) none w
]

module _ (out back : Bool) where
  filed_mends : (k : ℕ) (w u : List Frame) (x : Station) (n r : ℕ) (q : List ℕ) (fs gs : List Frame) (y : Station) → IsStationPair true k (w ++ x.said) x (Info n r q ∷ fs) y → k ≡ x.window
      → held_for (length x.taken) x.held ≡ None → MendsSome true out back (u ++ x.said) x (Info n r q ∷ gs) y
      → (o : Option ℕ) → number_shown_as x.extended (length x.taken) (x.window - 1) (n % modulo x.extended) ≡ o → (o ≡ None) ⊎ (o ≡ Some n) → MendsSomeIn true out back u (files_at o q (acknowledges r x)) gs y
  filed_mends k w u x n r q fs gs y p wide free h o named_as (inl e) =
      let v = p.1.0 in
      let le = forward_le k (max (length x.taken) (n + 1)) y.sent y.handed (infos fs) v.chain.2 in
      let b = way_bounds k y.handed y.acked y.sent x.taken ((n, q) ∷ infos fs) (receive_numbers_in_frames (w ++ x.said)) v in
      let old : length x.taken ≤ n → ⊥ = λ low.
      let f = found x.extended (x.window - 1) (length x.taken) n low (omega (arith, le, v.window, b.0, wide)) (omega (arith, span_below true x.extended k p.4, wide)) in
      let u : Some n ≡ None = sym f ∙ named_as ∙ e in let z : ⊥ = cc in z in
      subst (λ (o : Option ℕ). MendsSomeIn true out back u (files_at o q (acknowledges r x)) gs y) (sym e)
      (puts_shown_mends true out back u gs y (acknowledges r x) x.owed (Rr (length x.taken)) tt refl refl
      (h.0.0, λ way. comes_known (length x.taken) y.sent n q x.held (infos gs) (λ low. absurd (old low)) (h.0.1 way), h.0.2, h.0.3.1, h.0.4, h.0.5))
  filed_mends k w u x n r q fs gs y p wide free h o named_as (inr e) =
      let a : Station = acknowledges r x in
      let run : List (List ℕ) = without_gap (length x.held) (n + 1) x.held in
      let now : ℕ = length x.taken + 1 + length run in
      let all : length (x.taken ++ q ∷ run) ≡ now = (let l = length-append x.taken (q ∷ run) in omega (arith, l)) in
      let le = forward_le k (max (length x.taken) (n + 1)) y.sent y.handed (infos fs) p.1.0.chain.2 in
      let at = named_at x.extended (length x.taken) (x.window - 1) (n % modulo x.extended) n (named_as ∙ e) in
      subst (λ (o : Option ℕ). MendsSomeIn true out back u (files_at o q a) gs y) (sym e)
      (cond_both (n == length x.taken) (takes_run q run a) (if is_found (held_for n x.held) then says_next a else holds n q a) (λ t. MendsSomeIn true out back u t gs y)
      (λ next.
      let same : n ≡ length x.taken = eqb-true n (length x.taken) next in (
        (
          h.0.0,
          λ way. subst (λ (j : ℕ). HasAllSentComing true j (filter (λ g. nat_le now g.0) x.held) (infos gs) y.sent) (sym all)
              (comes_run (length x.taken) now y.sent n q x.held (infos gs) (omega (arith, same)) (omega arith) (h.0.1 way)),
          h.0.2,
          h.0.3.1,
          h.0.4,
          h.0.5,
        ),
        λ way owes none. absurd (true≢false owes),
      ))
      (λ behind.
      let differs : n ≡ length x.taken → ⊥ = λ same. absurd (true≢false (sym (eq-eqb n (length x.taken) same) ∙ behind)) in
      cond_both (is_found (held_for n x.held)) (says_next a) (holds n q a) (λ t. MendsSomeIn true out back u t gs y)
      (λ held. puts_shown_mends true out back u gs y a x.owed (Rr (length x.taken)) tt refl refl
      (h.0.0, λ way. comes_known (length x.taken) y.sent n q x.held (infos gs) (λ low. held) (h.0.1 way), h.0.2, h.0.3.1, h.0.4, h.0.5))
      (λ new. asked_mends true out back u gs y (missing_below n a) (record a { held = x.held ++ (n, q) ∷ []; asked = x.asked ++ missing_below n a }) (
        (h.0.0, λ way. comes_held (length x.taken) y.sent n q x.held (infos gs) (h.0.1 way), h.0.2, h.0.3.1, h.0.4, h.0.5),
        λ way owes none. absurd (waits_next (length x.taken) y.sent n q x.held (infos gs) free differs (omega (arith, le, at.low)) none (h.0.1 way)),
      ))))

  one_mends : (w : List Frame) (x : Station) (l : List Frame) (y : Station) (r : ℕ) → MendsSomeIn true out back w x l y → MendsSomeIn true out back w (repeats_one r x) l y
  one_mends w x l y r h =
      let o : Option ℕ = number_shown_as x.extended x.acked (x.sent - x.acked - 1) r in
      cond_both (nat_lt x.acked x.sent) (repeats_at o x) (strays x) (λ t. MendsSomeIn true out back w t l y) (λ some. at o refl (ltb-true x.acked x.sent some)) (λ none. h)
    where
      at : (o : Option ℕ) → number_shown_as x.extended x.acked (x.sent - x.acked - 1) r ≡ o → x.acked < x.sent → MendsSomeIn true out back w (repeats_at o x) l y
      at None e some = h
      at (Some m) e some =
          let is = named_at x.extended x.acked (x.sent - x.acked - 1) r m e in
          puts_again_mends true out back w l y x false m (omega (arith, is.high, some)) h.0

  -- the frames of u and gs count, those of w and fs wait
  pub selective_some : (k : ℕ) (w u : List Frame) (x : Station) (f : Frame) (fs gs : List Frame) (y : Station) → IsStationPair true k (w ++ x.said) x (f ∷ fs) y → k ≡ x.window
      → held_for (length x.taken) x.held ≡ None → MendsSome true out back (u ++ x.said) x (f ∷ gs) y → MendsSomeIn true out back u (row_as true Up x (shown x.extended f) (information f)) gs y
  selective_some k w u x (Info n r q) fs gs y p wide free h =
      let o : Option ℕ = number_shown_as x.extended (length x.taken) (x.window - 1) (n % modulo x.extended) in
      numbered true k r (w ++ x.said) (Info n r q) fs x y (files (n % modulo x.extended) q) (λ t. MendsSomeIn true out back u t gs y) refl p
      (filed_mends k w u x n r q fs gs y p wide free h o refl (named_none_or k (w ++ x.said) x n r q fs y p o refl))
  selective_some k w u x (Rr r) fs gs y p wide free h =
      numbered true k r (w ++ x.said) (Rr r) fs x y (marks_busy false) (λ t. MendsSomeIn true out back u t gs y) refl p
      ((h.0.0, h.0.1, h.0.2, h.0.3.1, h.0.4, h.0.5), h.1)
  selective_some k w u x (Rej r) fs gs y p wide free h = absurd (no_foreign y.calling x.taken y.sent (marks true fs) p.1.1)
  selective_some k w u x (Srej r) fs gs y p wide free h =
      one_mends u x gs y (r % modulo x.extended) ((h.0.0, h.0.1, h.0.2, h.0.3.1, h.0.4, h.0.5), h.1)
  selective_some k w u x SetUp fs gs y p wide free h = absurd h.0.3.0
  selective_some k w u x Disc fs gs y p wide free h = absurd h.0.3.0
  selective_some k w u x Dm fs gs y p wide free h = absurd h.0.3.0
  selective_some k w u x (Ua final) fs gs y p wide free h = absurd h.0.3.0

-- ---- of both ways

pub go_back_mends : (k : ℕ) (w : List Frame) (x : Station) (f : Frame) (fs : List Frame) (y z : Station) → IsStationPair false k (w ++ x.said) x (f ∷ fs) y
    → Mends false (w ++ x.said) x (f ∷ fs) z → MendsIn false w (row_as false Up x (shown x.extended f) (information f)) fs z
go_back_mends k w x f fs y z p h =
    let t : Station = row_as false Up x (shown x.extended f) (information f) in
    of_some false (w ++ t.said) t fs z (go_back_some true true k w x f fs y z p (to_some false (w ++ x.said) x (f ∷ fs) z h))

pub selective_mends : (k : ℕ) (w u : List Frame) (x : Station) (f : Frame) (fs gs : List Frame) (y : Station) → IsStationPair true k (w ++ x.said) x (f ∷ fs) y → k ≡ x.window
    → held_for (length x.taken) x.held ≡ None → Mends true (u ++ x.said) x (f ∷ gs) y → MendsIn true u (row_as true Up x (shown x.extended f) (information f)) gs y
selective_mends k w u x f fs gs y p wide free h =
    let t : Station = row_as true Up x (shown x.extended f) (information f) in
    of_some true (u ++ t.said) t gs y (selective_some true true k w u x f fs gs y p wide free (to_some true (u ++ x.said) x (f ∷ gs) y h))
