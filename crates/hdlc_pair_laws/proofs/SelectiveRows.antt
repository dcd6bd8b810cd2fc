-- One station with selective reject acts: what it does at the first frame that waits keeps the invariant.
use Rattle.std.proofs.Common.{if◌then◌else◌, ◌≡◌, ℕ, zero, suc, ◌+◌, ◌-◌, ◌*◌, ◌%◌, ◌<◌, ◌≤◌, ◌⊎◌, inl, inr, max, Bool, true, false, List, [], ◌∷◌, ◌++◌, length, take, map, Option, Some, None, refl, sym, ◌∙◌, ap, subst, arith, append_assoc, append-nil, length-append, eq-eqb, eqb-true, ltb-true, true≢false}
use Rattle.std.specs.Prelude.{nat_lt, nat_le, ◌==◌}
use Rattle.std.specs.List.{filter}
use Rattle.std.proofs.lemmas.Bool.{cond_both}
use Rattle.hdlc_station_model.specs.declared.phase.Phase.{Phase}
use Rattle.hdlc_station_model.specs.declared.phase.Phase.TheVariants.{Idle, Setting, Up, Down}
use Rattle.hdlc_station_model.specs.Frames.{Frame, Info, Rr, Rej, Srej, SetUp, Disc, Dm, Ua, modulo, set_up, shown, information}
use Rattle.hdlc_station_model.specs.Stations.{Station, puts}
use Rattle.hdlc_station_model.specs.Sending.{info_at, refuses_frame}
use Rattle.hdlc_station_model.specs.Receiving.{strays, number_shown_as, acknowledges, marks_busy, agrees}
use Rattle.hdlc_station_model.specs.Selective.{held_for, is_found, without_gap, takes_run, missing_below, holds, says_next, files_at, files, repeats_at, repeats_one, sets_up_selective_again, selective_row_up, selective_row}
use Rattle.hdlc_pair_laws.specs.Invariant.{Way, least_mark, greatest_mark, IsStationPair, Both, infos, receive_numbers_in_frames, marks, reach, Holding}
use Rattle.hdlc_pair_laws.proofs.Ways.{climbs_low, forward_le, forward_low, way_some, way_run, way_bounds}
use Rattle.hdlc_pair_laws.proofs.Holding.{holding_emptied, holding_more, holding_kept, IsRun, run_is}
use Rattle.hdlc_pair_laws.proofs.Keeps.{info_pushed, puts_quiet, puts_shown}
use Rattle.hdlc_pair_laws.proofs.Rows.{no_foreign, half_shown, first_gone, set_up_at, least_le, numbered_keeps, disconnects, up_keeps, set_up_idle}

-- ---- equality modulo the modulo is equality

-- a number that is named lies where it is looked for, and shows what is shown
pub record Named (e : Bool) (a count r n : ℕ) : Type 0 where
  pub low : a ≤ n
  pub high : n ≤ a + count
  pub shows : n % modulo e ≡ r

first_named : (e : Bool) (a count r n : ℕ) → (a % modulo e == r) ≡ true → Some a ≡ Some n → Named e a count r n
first_named e a count r n is same =
    let g : n ≡ a = cc in
    record { low = omega arith; high = omega arith; shows = ap (λ (m : ℕ). m % modulo e) g ∙ eqb-true (a % modulo e) r is }

pub named_at : (e : Bool) (a count r n : ℕ) → number_shown_as e a count r ≡ Some n → Named e a count r n
named_at e a zero r n = cond_both (a % modulo e == r) (Some a) None (λ o. o ≡ Some n → Named e a zero r n) (λ is same. first_named e a zero r n is same) (λ isnt same. absurd cc)
named_at e a (suc count) r n =
    cond_both (a % modulo e == r) (Some a) (number_shown_as e (a + 1) count r) (λ o. o ≡ Some n → Named e a (suc count) r n) (λ is same. first_named e a (suc count) r n is same)
    (λ isnt same.
    let m = named_at e (a + 1) count r n same in
    record { low = omega (arith, m.low); high = omega (arith, m.high); shows = m.shows })

-- within half the modulo on either side of V(R) numbers that show the same are the same
half_tells : (e : Bool) (k next m n : ℕ) → 2 * k ≤ modulo e → next ≤ m → m < next + k → next ≤ n + k → n < next + k → m % modulo e ≡ n % modulo e → m ≡ n
half_tells true k next m n half low high near below same = omega arith
half_tells false k next m n half low high near below same = omega arith

-- ---- an I frame

-- the next frame comes
run_keeps : (k : ℕ) (lx : List Frame) (x : Station) (n r : ℕ) (p : List ℕ) (fs : List Frame) (y : Station) → length x.taken ≡ n
    → IsStationPair true k lx x (Info n r p ∷ fs) y → IsStationPair true k lx (takes_run p (without_gap (length x.held) (n + 1) x.held) x) fs y
run_keeps k lx x n r p fs y same h =
    let d = h.1.6 in
    let run : List (List ℕ) = without_gap (length x.held) (n + 1) x.held in
    let v = subst (λ (j : ℕ). Way k y.handed y.acked y.sent x.taken ((j, p) ∷ infos fs) (receive_numbers_in_frames lx)) (sym same) h.1.0 in
    let le = forward_le k (max (reach (length x.taken) x.held) (n + 1)) y.sent y.handed (infos fs) d.chain.2 in
    let is : IsRun y.handed (n + 1) (length x.taken) x.held run =
    run_is y.handed (length x.held) (n + 1) (length x.taken) x.held (omega (arith, le, h.1.0.given)) d.own in
    let now : ℕ = length x.taken + 1 + length run in
    let below : now ≤ max (n + 1) (reach (length x.taken) x.held) = omega (arith, is.below) in
    let t : List (List ℕ) = x.taken ++ p ∷ run in
    let l = length-append x.taken (p ∷ run) in
    let all : length t ≡ now = omega (arith, l) in (
      half_shown true k r (infos lx) (marks true lx) (receive_numbers_in_frames fs) x y h.0,
      (
        way_run k y.handed y.acked y.sent x.taken (infos fs) (receive_numbers_in_frames lx) p run
            (subst (λ (j : ℕ). take (j + 1 + length run) y.handed ≡ take (j + 1) y.handed ++ run) (sym same) is.is)
            (forward_low k now (max (reach (length x.taken) x.held) (n + 1)) y.sent y.handed (infos fs) (omega (arith, below)) d.chain.2)
            v,
        climbs_low (least_mark y.calling t) 1 (greatest_mark y.calling y.sent) (marks true fs) (least_le y.calling t) h.1.1.1,
        h.1.2,
        h.1.3,
        h.1.4,
        h.1.5,
        subst (λ (j : ℕ). Holding k y.handed y.sent j (filter (λ g. nat_le now g.0) x.held) (infos fs)) (sym all)
            (holding_kept k y.handed y.sent (length x.taken) now (n, p) x.held (infos fs) below d),
      ),
      h.2,
      h.3,
      h.4,
    )

-- SREJ frames
asked_keeps : (k : ℕ) (w : List Frame) (ms : List ℕ) (x : Station) (l : List Frame) (y : Station)
    → Both true k w x l y → Both true k w (record x { said = x.said ++ map Srej ms }) l y
asked_keeps k w [] x l y b = subst (λ t. IsStationPair true k (w ++ t) x l y) (sym (append-nil x.said)) b
asked_keeps k w (m ∷ ms) x l y b =
    subst (λ t. IsStationPair true k (w ++ t) x l y) (append_assoc x.said (Srej m ∷ []) (map Srej ms))
    (asked_keeps k w ms (puts (Srej m) x) l y (puts_quiet true k w x l y (Srej m) refl refl refl b))

-- a frame behind a gap comes
hold_keeps : (k : ℕ) (w : List Frame) (x : Station) (n r : ℕ) (p : List ℕ) (fs : List Frame) (y : Station)
    → Both true k w x (Info n r p ∷ fs) y → Both true k w (holds n p x) fs y
hold_keeps k w x n r p fs y b =
    let g = first_gone true k (w ++ x.said) x (Info n r p) fs y b in
    asked_keeps k w (missing_below n x) (record x { held = x.held ++ (n, p) ∷ []; asked = x.asked ++ missing_below n x }) fs y (
      g.0,
      (
        g.1.0,
        g.1.1,
        g.1.2,
        g.1.3,
        g.1.4,
        g.1.5,
        holding_more k y.handed y.sent (length x.taken) (n, p) x.held (infos fs) b.1.6,
      ),
      g.2,
      g.3,
      g.4,
    )

next_keeps : (k : ℕ) (w : List Frame) (x : Station) (n r : ℕ) (p : List ℕ) (fs : List Frame) (y : Station)
    → Both true k w x (Info n r p ∷ fs) y → Both true k w (says_next x) fs y
next_keeps k w x n r p fs y b =
    puts_shown true k w x fs y (Rr (length x.taken)) refl refl refl (first_gone true k (w ++ x.said) x (Info n r p) fs y b)

-- its number is known
number_keeps : (k : ℕ) (w : List Frame) (x : Station) (n r : ℕ) (p : List ℕ) (fs : List Frame) (y : Station)
    → Both true k w x (Info n r p ∷ fs) y → Both true k w (files_at (Some n) p x) fs y
number_keeps k w x n r p fs y b =
    cond_both (n == length x.taken) (takes_run p (without_gap (length x.held) (n + 1) x.held) x)
    (if is_found (held_for n x.held) then says_next x else holds n p x) (λ t. Both true k w t fs y)
    (λ e. run_keeps k (w ++ x.said) x n r p fs y (sym (eqb-true n (length x.taken) e)) b)
    (λ e. cond_both (is_found (held_for n x.held)) (says_next x) (holds n p x) (λ t. Both true k w t fs y)
    (λ held. next_keeps k w x n r p fs y b) (λ free. hold_keeps k w x n r p fs y b))

-- the number that is named is that of the frame
pub named_none_or : (k : ℕ) (lx : List Frame) (x : Station) (n r : ℕ) (p : List ℕ) (fs : List Frame) (y : Station) → IsStationPair true k lx x (Info n r p ∷ fs) y
    → (o : Option ℕ) → number_shown_as x.extended (length x.taken) (x.window - 1) (n % modulo x.extended) ≡ o → (o ≡ None) ⊎ (o ≡ Some n)
named_none_or k lx x n r p fs y b None e = inl refl
named_none_or k lx x n r p fs y b (Some m) e =
    let v = b.1.0 in
    let waits : List (ℕ × List ℕ) = infos fs in
    let shows : List ℕ = receive_numbers_in_frames lx in
    let at = named_at x.extended (length x.taken) (x.window - 1) (n % modulo x.extended) m e in
    let some = way_some k y.handed y.acked y.sent x.taken waits shows (n, p) v in
    let bounds = way_bounds k y.handed y.acked y.sent x.taken ((n, p) ∷ waits) shows v in
    let le = forward_le k (max (length x.taken) (n + 1)) y.sent y.handed waits v.chain.2 in
    let same : m ≡ n =
    half_tells x.extended k (length x.taken) m n b.4 at.low (omega (arith, at.high, b.0.3, some)) (omega (arith, v.chain.0)) (omega (arith, le, v.window, bounds.0)) at.shows in
    inr (ap Some same)

found_keeps : (k : ℕ) (w : List Frame) (x : Station) (n r : ℕ) (p : List ℕ) (fs : List Frame) (y : Station) (o : Option ℕ) → (o ≡ None) ⊎ (o ≡ Some n)
    → Both true k w x (Info n r p ∷ fs) y → Both true k w (files_at o p x) fs y
found_keeps k w x n r p fs y o (inl e) b = subst (λ (o : Option ℕ). Both true k w (files_at o p x) fs y) (sym e) (next_keeps k w x n r p fs y b)
found_keeps k w x n r p fs y o (inr e) b = subst (λ (o : Option ℕ). Both true k w (files_at o p x) fs y) (sym e) (number_keeps k w x n r p fs y b)

file_keeps : (k : ℕ) (w : List Frame) (x : Station) (n r : ℕ) (p : List ℕ) (fs : List Frame) (y : Station)
    → Both true k w x (Info n r p ∷ fs) y → Both true k w (files (n % modulo x.extended) p x) fs y
file_keeps k w x n r p fs y b =
    let o : Option ℕ = number_shown_as x.extended (length x.taken) (x.window - 1) (n % modulo x.extended) in
    found_keeps k w x n r p fs y o (named_none_or k (w ++ x.said) x n r p fs y b o refl) b

-- ---- SREJ

again_keeps : (k : ℕ) (w : List Frame) (x : Station) (l : List Frame) (y : Station) (r : ℕ) → x.acked < x.sent
    → (o : Option ℕ) → number_shown_as x.extended x.acked (x.sent - x.acked - 1) r ≡ o → Both true k w x l y → Both true k w (repeats_at o x) l y
again_keeps k w x l y r some None e b = b
again_keeps k w x l y r some (Some m) e b =
    let at = named_at x.extended x.acked (x.sent - x.acked - 1) r m e in
    subst (λ lx. IsStationPair true k lx x l y) (append_assoc w x.said (info_at x m ∷ [])) (info_pushed true k (w ++ x.said) x l y m at.low (omega (arith, at.high)) b)

one_again_keeps : (k : ℕ) (w : List Frame) (x : Station) (l : List Frame) (y : Station) (r : ℕ) → Both true k w x l y → Both true k w (repeats_one r x) l y
one_again_keeps k w x l y r b =
    cond_both (nat_lt x.acked x.sent) (repeats_at (number_shown_as x.extended x.acked (x.sent - x.acked - 1) r) x) (strays x) (λ t. Both true k w t l y)
    (λ e. again_keeps k w x l y r (ltb-true x.acked x.sent e) (number_shown_as x.extended x.acked (x.sent - x.acked - 1) r) refl b) (λ e. b)

-- ---- the rows

emptied_keeps : (k : ℕ) (w : List Frame) (x : Station) (l : List Frame) (y : Station) → Both true k w x l y → Both true k w (record x { held = []; asked = [] }) l y
emptied_keeps k w x l y b = (
  b.0,
  (b.1.0, b.1.1, b.1.2, b.1.3, b.1.4, b.1.5, holding_emptied k y.handed y.sent (length x.taken) x.held (infos l) b.1.6),
  b.2,
  b.3,
  b.4,
)

agreed_keeps : (k : ℕ) (w : List Frame) (x : Station) (l : List Frame) (y : Station) → length x.taken ≡ 0 → Both true k w x l y → Both true k w (sets_up_selective_again true x) l y
agreed_keeps k w x l y none b =
    cond_both (length x.taken == 0) (agrees true (record x { held = []; asked = [] })) (refuses_frame x) (λ t. Both true k w t l y)
    (λ e. puts_quiet true k w (record x { held = []; asked = [] }) l y (Ua true) refl refl refl (emptied_keeps k w x l y b))
    (λ e. absurd (true≢false (sym (eq-eqb _ _ none) ∙ e)))

set_up_up : (k : ℕ) (w : List Frame) (e : Bool) (x : Station) (l : List Frame) (y : Station) → length x.taken ≡ 0 → Both true k w x l y → Both true k w (selective_row_up x (set_up e) []) l y
set_up_up k w true x l y none b = agreed_keeps k w x l y none b
set_up_up k w false x l y none b = agreed_keeps k w x l y none b

pub selective_row_keeps : (k : ℕ) (w : List Frame) (p : Phase) (x : Station) (f : Frame) (fs : List Frame) (y : Station)
    → Both true k w (record x { phase = p }) (f ∷ fs) y → Both true k w (selective_row p (record x { phase = p }) (shown x.extended f) (information f)) fs y
selective_row_keeps k w Idle x (Info n r q) fs y b = first_gone true k (w ++ x.said) (record x { phase = Idle }) (Info n r q) fs y b
selective_row_keeps k w Idle x (Rr r) fs y b = first_gone true k (w ++ x.said) (record x { phase = Idle }) (Rr r) fs y b
selective_row_keeps k w Idle x (Rej r) fs y b = absurd (no_foreign y.calling x.taken y.sent (marks true fs) b.1.1)
selective_row_keeps k w Idle x (Srej r) fs y b = b
selective_row_keeps k w Idle x SetUp fs y b =
    set_up_idle true k w x.extended (record x { phase = Idle }) fs y (first_gone true k (w ++ x.said) (record x { phase = Idle }) SetUp fs y b)
selective_row_keeps k w Idle x Disc fs y b = b
selective_row_keeps k w Idle x Dm fs y b = b
selective_row_keeps k w Idle x (Ua final) fs y b = b
selective_row_keeps k w Setting x (Info n r q) fs y b = first_gone true k (w ++ x.said) (record x { phase = Setting }) (Info n r q) fs y b
selective_row_keeps k w Setting x (Rr r) fs y b = first_gone true k (w ++ x.said) (record x { phase = Setting }) (Rr r) fs y b
selective_row_keeps k w Setting x (Rej r) fs y b = absurd (no_foreign y.calling x.taken y.sent (marks true fs) b.1.1)
selective_row_keeps k w Setting x (Srej r) fs y b = b
selective_row_keeps k w Setting x SetUp fs y b =
    absurd (true≢false (sym b.0.2.1 ∙ (set_up_at true k (w ++ x.said) (record x { phase = Setting }) fs y b).0))
selective_row_keeps k w Setting x Disc fs y b =
    disconnects true k w (agrees true (record x { phase = Setting })) fs y (puts_quiet true k w (record x { phase = Setting }) fs y (Ua true) refl refl refl b)
selective_row_keeps k w Setting x Dm fs y b = disconnects true k w (record x { phase = Setting }) fs y b
selective_row_keeps k w Setting x (Ua final) fs y b = up_keeps true k w (record x { phase = Setting; timer = None; expiries = 0 }) fs y b
selective_row_keeps k w Up x (Info n r q) fs y b =
    let u : Station = record x { phase = Up } in
    numbered_keeps true k w u r fs y (files (n % modulo x.extended) q) b.4 b.0 (λ a. file_keeps k w (acknowledges r u) n r q fs y (a, b.1, b.2, b.3, b.4))
selective_row_keeps k w Up x (Rr r) fs y b =
    let u : Station = record x { phase = Up } in
    numbered_keeps true k w u r fs y (marks_busy false) b.4 b.0
    (λ a. first_gone true k (w ++ x.said) (acknowledges r u) (Rr r) fs y (a, b.1, b.2, b.3, b.4))
selective_row_keeps k w Up x (Rej r) fs y b = absurd (no_foreign y.calling x.taken y.sent (marks true fs) b.1.1)
selective_row_keeps k w Up x (Srej r) fs y b = one_again_keeps k w (record x { phase = Up }) fs y (r % modulo x.extended) b
selective_row_keeps k w Up x SetUp fs y b =
    set_up_up k w x.extended (record x { phase = Up }) fs y (set_up_at true k (w ++ x.said) (record x { phase = Up }) fs y b).1
    (first_gone true k (w ++ x.said) (record x { phase = Up }) SetUp fs y b)
selective_row_keeps k w Up x Disc fs y b =
    disconnects true k w (agrees true (record x { phase = Up })) fs y (puts_quiet true k w (record x { phase = Up }) fs y (Ua true) refl refl refl b)
selective_row_keeps k w Up x Dm fs y b = disconnects true k w (record x { phase = Up }) fs y b
selective_row_keeps k w Up x (Ua final) fs y b = b
selective_row_keeps k w Down x f fs y b = first_gone true k (w ++ x.said) (record x { phase = Down }) f fs y b
