-- One station with go-back acts: what it does at the first frame that waits keeps the invariant.
use Rattle.std.proofs.Common.{◌≡◌, ℕ, ◌%◌, Bool, true, false, List, [], ◌∷◌, ◌++◌, length, None, refl, sym, ◌∙◌, subst, eq-eqb, eqb-true, true≢false}
use Rattle.std.specs.Prelude.{nat_lt, ◌==◌}
use Rattle.std.proofs.lemmas.Bool.{cond_both}
use Rattle.hdlc_station_model.specs.declared.phase.Phase.{Phase}
use Rattle.hdlc_station_model.specs.declared.phase.Phase.TheVariants.{Idle, Setting, Up, Down}
use Rattle.hdlc_station_model.specs.Frames.{Frame, Info, Rr, Rej, Srej, SetUp, Disc, Dm, Ua, modulo, set_up, shown, information}
use Rattle.hdlc_station_model.specs.Stations.{Station, puts}
use Rattle.hdlc_station_model.specs.Sending.{refuses_frame, sends_again, starts_timer}
use Rattle.hdlc_station_model.specs.Receiving.{acknowledges, accepts, rejects, takes, marks_busy, repeats_rejected, agrees, row_up, row_of_phase}
use Rattle.hdlc_pair_laws.specs.Invariant.{Way, least_mark, greatest_mark, IsStationPair, Both, infos, receive_numbers_in_frames, marks}
use Rattle.hdlc_pair_laws.proofs.Ways.{climbs_low, way_take, way_tells}
use Rattle.hdlc_pair_laws.proofs.Keeps.{puts_quiet, puts_shown, sends_again_keeps}
use Rattle.hdlc_pair_laws.proofs.Rows.{span_below, no_foreign, half_shown, first_gone, set_up_at, least_le, numbered_keeps, disconnects, up_keeps, set_up_idle}

-- ---- an I frame

accept_keeps : (k : ℕ) (lx : List Frame) (x : Station) (n r : ℕ) (p : List ℕ) (fs : List Frame) (y : Station) → length x.taken ≡ n
    → IsStationPair false k lx x (Info n r p ∷ fs) y → IsStationPair false k lx (accepts p x) fs y
accept_keeps k lx x n r p fs y same h =
    let v = subst (λ (j : ℕ). Way k y.handed y.acked y.sent x.taken ((j, p) ∷ infos fs) (receive_numbers_in_frames lx)) (sym same) h.1.0 in
    let g = half_shown false k r (infos lx) (marks false lx) (receive_numbers_in_frames fs) x y h.0 in (
      g,
      (
        way_take k y.handed y.acked y.sent x.taken (infos fs) (receive_numbers_in_frames lx) p v,
        climbs_low (least_mark y.calling (x.taken ++ p ∷ [])) 1 (greatest_mark y.calling y.sent) (marks false fs) (least_le y.calling (x.taken ++ p ∷ [])) h.1.1.1,
        h.1.2,
        h.1.3,
        h.1.4,
        h.1.5,
        h.1.6,
      ),
      h.2,
      h.3,
      h.4,
    )

reject_keeps : (k : ℕ) (w : List Frame) (x : Station) (l : List Frame) (y : Station) → Both false k w x l y → Both false k w (rejects x) l y
reject_keeps k w x l y b =
    cond_both x.gap (puts (Rr (length x.taken)) x) (puts (Rej (length x.taken)) (record x { gap = true })) (λ t. Both false k w t l y)
    (λ e. puts_shown false k w x l y (Rr (length x.taken)) refl refl refl b)
    (λ e. puts_shown false k w (record x { gap = true }) l y (Rej (length x.taken)) refl refl refl b)

take_keeps : (k : ℕ) (w : List Frame) (x : Station) (n r : ℕ) (p : List ℕ) (fs : List Frame) (y : Station)
    → Both false k w x (Info n r p ∷ fs) y → Both false k w (takes (n % modulo x.extended) p x) fs y
take_keeps k w x n r p fs y b =
    cond_both (length x.taken % modulo x.extended == n % modulo x.extended) (accepts p x) (rejects x) (λ t. Both false k w t fs y)
    (λ e. accept_keeps k (w ++ x.said) x n r p fs y
    (way_tells x.extended k y.handed y.acked y.sent x.taken (n, p) (infos fs) (receive_numbers_in_frames (w ++ x.said)) (span_below false x.extended k b.4) (eqb-true _ _ e) b.1.0) b)
    (λ e. reject_keeps k w x fs y (first_gone false k (w ++ x.said) x (Info n r p) fs y b))

repeat_keeps : (k : ℕ) (w : List Frame) (x : Station) (l : List Frame) (y : Station) → Both false k w x l y → Both false k w (repeats_rejected x) l y
repeat_keeps k w x l y b =
    cond_both (nat_lt x.acked x.sent) (starts_timer (sends_again x)) x (λ t. Both false k w t l y) (λ e. sends_again_keeps false k w x l y b) (λ e. b)

-- ---- the rows

set_up_up : (k : ℕ) (w : List Frame) (e : Bool) (x : Station) (l : List Frame) (y : Station) → length x.taken ≡ 0 → Both false k w x l y → Both false k w (row_up x (set_up e) []) l y
set_up_up k w true x l y none b =
    cond_both (length x.taken == 0) (agrees true (record x { gap = false })) (refuses_frame x) (λ t. Both false k w t l y)
    (λ e. puts_quiet false k w (record x { gap = false }) l y (Ua true) refl refl refl b) (λ e. absurd (true≢false (sym (eq-eqb _ _ none) ∙ e)))
set_up_up k w false x l y none b =
    cond_both (length x.taken == 0) (agrees true (record x { gap = false })) (refuses_frame x) (λ t. Both false k w t l y)
    (λ e. puts_quiet false k w (record x { gap = false }) l y (Ua true) refl refl refl b) (λ e. absurd (true≢false (sym (eq-eqb _ _ none) ∙ e)))

pub go_back_row_keeps : (k : ℕ) (w : List Frame) (p : Phase) (x : Station) (f : Frame) (fs : List Frame) (y : Station)
    → Both false k w (record x { phase = p }) (f ∷ fs) y → Both false k w (row_of_phase p (record x { phase = p }) (shown x.extended f) (information f)) fs y
go_back_row_keeps k w Idle x (Info n r q) fs y b = first_gone false k (w ++ x.said) (record x { phase = Idle }) (Info n r q) fs y b
go_back_row_keeps k w Idle x (Rr r) fs y b = first_gone false k (w ++ x.said) (record x { phase = Idle }) (Rr r) fs y b
go_back_row_keeps k w Idle x (Rej r) fs y b = first_gone false k (w ++ x.said) (record x { phase = Idle }) (Rej r) fs y b
go_back_row_keeps k w Idle x (Srej r) fs y b = absurd (no_foreign y.calling x.taken y.sent (marks false fs) b.1.1)
go_back_row_keeps k w Idle x SetUp fs y b =
    set_up_idle false k w x.extended (record x { phase = Idle }) fs y (first_gone false k (w ++ x.said) (record x { phase = Idle }) SetUp fs y b)
go_back_row_keeps k w Idle x Disc fs y b = b
go_back_row_keeps k w Idle x Dm fs y b = b
go_back_row_keeps k w Idle x (Ua final) fs y b = b
go_back_row_keeps k w Setting x (Info n r q) fs y b = first_gone false k (w ++ x.said) (record x { phase = Setting }) (Info n r q) fs y b
go_back_row_keeps k w Setting x (Rr r) fs y b = first_gone false k (w ++ x.said) (record x { phase = Setting }) (Rr r) fs y b
go_back_row_keeps k w Setting x (Rej r) fs y b = first_gone false k (w ++ x.said) (record x { phase = Setting }) (Rej r) fs y b
go_back_row_keeps k w Setting x (Srej r) fs y b = absurd (no_foreign y.calling x.taken y.sent (marks false fs) b.1.1)
go_back_row_keeps k w Setting x SetUp fs y b =
    absurd (true≢false (sym b.0.2.1 ∙ (set_up_at false k (w ++ x.said) (record x { phase = Setting }) fs y b).0))
go_back_row_keeps k w Setting x Disc fs y b =
    disconnects false k w (agrees true (record x { phase = Setting })) fs y (puts_quiet false k w (record x { phase = Setting }) fs y (Ua true) refl refl refl b)
go_back_row_keeps k w Setting x Dm fs y b = disconnects false k w (record x { phase = Setting }) fs y b
go_back_row_keeps k w Setting x (Ua final) fs y b = up_keeps false k w (record x { phase = Setting; timer = None; expiries = 0 }) fs y b
go_back_row_keeps k w Up x (Info n r q) fs y b =
    let u : Station = record x { phase = Up } in
    numbered_keeps false k w u r fs y (takes (n % modulo x.extended) q) b.4 b.0
    (λ a. take_keeps k w (acknowledges r u) n r q fs y (a, b.1, b.2, b.3, b.4))
go_back_row_keeps k w Up x (Rr r) fs y b =
    let u : Station = record x { phase = Up } in
    numbered_keeps false k w u r fs y (marks_busy false) b.4 b.0
    (λ a. first_gone false k (w ++ x.said) (acknowledges r u) (Rr r) fs y (a, b.1, b.2, b.3, b.4))
go_back_row_keeps k w Up x (Rej r) fs y b =
    let u : Station = record x { phase = Up } in
    numbered_keeps false k w u r fs y (λ t. repeats_rejected (marks_busy false t)) b.4 b.0
    (λ a. repeat_keeps k w (marks_busy false (acknowledges r u)) fs y (first_gone false k (w ++ x.said) (acknowledges r u) (Rej r) fs y (a, b.1, b.2, b.3, b.4)))
go_back_row_keeps k w Up x (Srej r) fs y b = absurd (no_foreign y.calling x.taken y.sent (marks false fs) b.1.1)
go_back_row_keeps k w Up x SetUp fs y b =
    set_up_up k w x.extended (record x { phase = Up }) fs y (set_up_at false k (w ++ x.said) (record x { phase = Up }) fs y b).1
    (first_gone false k (w ++ x.said) (record x { phase = Up }) SetUp fs y b)
go_back_row_keeps k w Up x Disc fs y b =
    disconnects false k w (agrees true (record x { phase = Up })) fs y (puts_quiet false k w (record x { phase = Up }) fs y (Ua true) refl refl refl b)
go_back_row_keeps k w Up x Dm fs y b = disconnects false k w (record x { phase = Up }) fs y b
go_back_row_keeps k w Up x (Ua final) fs y b = b
go_back_row_keeps k w Down x f fs y b = first_gone false k (w ++ x.said) (record x { phase = Down }) f fs y b
