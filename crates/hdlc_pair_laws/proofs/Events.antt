-- One station acts: each call keeps the invariant.
use Rattle.std.proofs.Common.{◌≡◌, ℕ, ◌+◌, ◌≤◌, inl, inr, Bool, true, false, not, List, [], ◌∷◌, ◌++◌, length, Option, Some, None, refl, sym, subst, append_assoc}
use Rattle.std.specs.Prelude.{nat_lt}
use Rattle.std.proofs.lemmas.Bool.{cond_both}
use Rattle.er_base.specs.declared.release.Release.{Release}
use Rattle.er_base.specs.declared.cause.Cause.TheVariants.{SetUpUnanswered, NoProgress, User}
use Rattle.er_base.specs.Causes.{release_of}
use Rattle.hdlc_frames.specs.Framing.{Verdict, Frame as Frame_found}
use Rattle.hdlc_frames.specs.Laws.{ControlReadsBack}
use Rattle.hdlc_station_model.specs.declared.phase.Phase.{Phase}
use Rattle.hdlc_station_model.specs.declared.phase.Phase.TheVariants.{Idle, Setting, Up, Down}
use Rattle.hdlc_station_model.specs.Frames.{Frame, SetUp, Disc, shown, information, sent_address, sent_body}
use Rattle.hdlc_station_model.specs.Stations.{Station, is_down, sees, puts}
use Rattle.hdlc_station_model.specs.Sending.{gives_up, starts_timer, sends_again, sends_waiting, settles, counts_expiry, expires_at, expires, expires_if_due, is_due}
use Rattle.hdlc_station_model.specs.Selective.{receives_as}
use Rattle.hdlc_station_model.specs.Calls.{hands, finishes, ticks, closes_at, closes}
use Rattle.hdlc_station_model.specs.Events.{quits}
use Rattle.hdlc_pair_laws.specs.Laws.{IsLosingLineRelease}
use Rattle.hdlc_pair_laws.specs.Invariant.{Climbs, least_mark, greatest_mark, Half, IsSpan, IsStationPair, Both, infos, receive_numbers_in_frames, marks, info_of, receive_numbers_in_frame, marks_in_frame}
use Rattle.hdlc_pair_laws.proofs.Ways.{climbs_push}
use Rattle.hdlc_pair_laws.proofs.Keeps.{puts_quiet, sends_again_keeps, sends_waiting_keeps, settles_keeps, hand_keeps, down_keeps, more, same}
use Rattle.hdlc_pair_laws.proofs.Rows.{first_gone, may_come}
use Rattle.hdlc_pair_laws.proofs.GoBackRows.{go_back_row_keeps}
use Rattle.hdlc_pair_laws.proofs.SelectiveRows.{selective_row_keeps}
use Rattle.hdlc_pair_laws.proofs.Hearing.{row_as, hears_as, received, frame_heard}

-- ---- a frame comes

pub not_not : (b c : Bool) → b ≡ not c → c ≡ not b
not_not true true h = absurd cc
not_not true false h = refl
not_not false true h = refl
not_not false false h = absurd cc

pub swap : (selective : Bool) (k : ℕ) (lx : List Frame) (x : Station) (ly : List Frame) (y : Station) → IsStationPair selective k lx x ly y → IsStationPair selective k ly y lx x
swap selective k lx x ly y h = (h.1, h.0, not_not x.calling y.calling h.2, sym h.3, subst (λ (e : Bool). IsSpan selective e k) h.3 h.4)

pub row_keeps : (selective : Bool) (k : ℕ) (w : List Frame) (x : Station) (f : Frame) (fs : List Frame) (y : Station)
    → Both selective k w x (f ∷ fs) y → Both selective k w (row_as selective x.phase x (shown x.extended f) (information f)) fs y
row_keeps true k w x f fs y b = selective_row_keeps k w x.phase x f fs y b
row_keeps false k w x f fs y b = go_back_row_keeps k w x.phase x f fs y b

pub heard_keeps : ControlReadsBack → (selective : Bool) (k : ℕ) (w : List Frame) (x : Station) (f : Frame) (fs : List Frame) (y : Station)
    → Both selective k w x (f ∷ fs) y → Both selective k w (hears_as selective (Frame_found (sent_address (not x.calling) f) (sent_body x.extended f)) x) fs y
heard_keeps law selective k w x f fs y b =
    subst (λ (t : Station). Both selective k w t fs y) (sym (frame_heard law selective x f (may_come selective k (w ++ x.said) x f fs y b))) (row_keeps selective k w x f fs y b)

own_keeps : ControlReadsBack → (selective : Bool) (k : ℕ) (w : List Frame) (now : ℕ) (x : Station) (f : Frame) (fs : List Frame) (y : Station)
    → Both selective k w x (f ∷ fs) y → Both selective k w (receives_as selective now (Frame_found (sent_address (not x.calling) f) (sent_body x.extended f)) x) fs y
own_keeps law selective k w now x f fs y b =
    let v : Verdict = Frame_found (sent_address (not x.calling) f) (sent_body x.extended f) in
    subst (λ (t : Station). Both selective k w t fs y) (sym (received selective now v x))
    (cond_both (is_down x.phase) x (sends_waiting (hears_as selective v (sees now x))) (λ t. Both selective k w t fs y)
    (λ e. first_gone selective k (w ++ x.said) x f fs y b)
    (λ e. sends_waiting_keeps selective k w (hears_as selective v (sees now x)) fs y (heard_keeps law selective k w (sees now x) f fs y b)))

pub receives_keeps : ControlReadsBack → (selective : Bool) (k : ℕ) (w : List Frame) (now : ℕ) (x : Station) (f : Frame) (fs : List Frame) (y : Station)
    → Both selective k w x (f ∷ fs) y → Both selective k w (receives_as selective now (Frame_found (sent_address y.calling f) (sent_body y.extended f)) x) fs y
receives_keeps law selective k w now x f fs y b =
    subst (λ (c : Bool). Both selective k w (receives_as selective now (Frame_found (sent_address c f) (sent_body y.extended f)) x) fs y) (sym (not_not x.calling y.calling b.2))
    (subst (λ (e : Bool). Both selective k w (receives_as selective now (Frame_found (sent_address (not x.calling) f) (sent_body e f)) x) fs y) b.3
    (own_keeps law selective k w now x f fs y b))

-- ---- the other calls

pub finishes_keeps : (selective : Bool) (k : ℕ) (w : List Frame) (x : Station) (l : List Frame) (y : Station) → Both selective k w x l y → Both selective k w (finishes x) l y
finishes_keeps selective k w x l y b = cond_both (is_down x.phase) x (settles x) (λ t. Both selective k w t l y) (λ e. b) (λ e. settles_keeps selective k w x l y b)

pub hands_keeps : (selective : Bool) (k : ℕ) (w : List Frame) (now : ℕ) (x : Station) (l : List Frame) (y : Station) (p : List ℕ) → length p ≤ 1026
    → Both selective k w x l y → Both selective k w (hands now p x) l y
hands_keeps selective k w now x l y p short b =
    cond_both (is_down x.phase) x (sends_waiting (record (sees now x) { handed = x.handed ++ p ∷ [] })) (λ t. Both selective k w t l y) (λ e. b)
    (λ e. sends_waiting_keeps selective k w (record (sees now x) { handed = x.handed ++ p ∷ [] }) l y (hand_keeps selective k w (sees now x) l y p short b))

-- a calling station that sent no I frame sends the set-up frame
pub set_up_sent : (selective : Bool) (k : ℕ) (w : List Frame) (x : Station) (l : List Frame) (y : Station) → x.sent ≡ 0 → x.calling ≡ true → Both selective k w x l y → Both selective k w (puts SetUp x) l y
set_up_sent selective k w x l y none calling b =
    let lx : List Frame = w ++ x.said in
    let e : greatest_mark x.calling x.sent ≡ 0 = rw (calling, none) refl in
    let ms = subst (λ g. Climbs (least_mark x.calling y.taken) (marks selective lx ++ 0 ∷ []) g) (sym e)
    (climbs_push (least_mark x.calling y.taken) 0 (marks selective lx) (subst (λ g. Climbs (least_mark x.calling y.taken) (marks selective lx) g) e b.0.1)) in
    subst (λ lz. IsStationPair selective k lz x l y) (append_assoc w x.said (SetUp ∷ [])) (
      subst (λ i. Half selective k i (marks selective (lx ++ SetUp ∷ [])) (receive_numbers_in_frames l) x y) (sym (same info_of lx SetUp refl))
          (subst (λ m. Half selective k (infos lx) m (receive_numbers_in_frames l) x y) (sym (more (marks_in_frame selective) lx SetUp)) (b.0.0, ms, b.0.2, b.0.3, b.0.4, b.0.5, b.0.6)),
      subst (λ n. Half selective k (infos l) (marks selective l) n y x) (sym (same receive_numbers_in_frame lx SetUp refl)) b.1,
      b.2,
      b.3,
      b.4,
    )

gives_up_keeps : (selective : Bool) (k : ℕ) (w : List Frame) (x : Station) (l : List Frame) (y : Station) (r : Option Release) → IsLosingLineRelease r
    → Both selective k w x l y → Both selective k w (record (puts Disc x) { phase = Down; released = r }) l y
gives_up_keeps selective k w x l y r lawful b = down_keeps selective k w (puts Disc x) l y r lawful (puts_quiet selective k w x l y Disc refl refl refl b)

expires_at_keeps : (selective : Bool) (k : ℕ) (w : List Frame) (p : Phase) (x : Station) (l : List Frame) (y : Station)
    → Both selective k w (record x { phase = p }) l y → Both selective k w (expires_at p (record x { phase = p })) l y
expires_at_keeps selective k w Idle x l y b = b
expires_at_keeps selective k w Setting x l y b =
    cond_both (nat_lt x.n2 (x.expiries + 1)) (gives_up SetUpUnanswered (record x { phase = Setting })) (starts_timer (puts SetUp (counts_expiry (record x { phase = Setting }))))
    (λ t. Both selective k w t l y)
    (λ e. gives_up_keeps selective k w (record x { phase = Setting }) l y (Some (release_of SetUpUnanswered)) (refl, inr (refl, inl refl)) b)
    (λ e. set_up_sent selective k w (counts_expiry (record x { phase = Setting })) l y b.0.2.0 b.0.2.1 b)
expires_at_keeps selective k w Up x l y b =
    cond_both (nat_lt x.n2 (x.expiries + 1)) (gives_up NoProgress (record x { phase = Up })) (starts_timer (sends_again (counts_expiry (record x { phase = Up }))))
    (λ t. Both selective k w t l y)
    (λ e. gives_up_keeps selective k w (record x { phase = Up }) l y (Some (release_of NoProgress)) (refl, inr (refl, inr (inl refl))) b)
    (λ e. sends_again_keeps selective k w (counts_expiry (record x { phase = Up })) l y b)
expires_at_keeps selective k w Down x l y b = b

expires_keeps : (selective : Bool) (k : ℕ) (w : List Frame) (x : Station) (l : List Frame) (y : Station) → Both selective k w x l y → Both selective k w (expires_if_due x) l y
expires_keeps selective k w x l y b =
    cond_both (is_due x.timer x.moment) (expires x) x (λ t. Both selective k w t l y) (λ e. expires_at_keeps selective k w x.phase x l y b) (λ e. b)

pub ticks_keeps : (selective : Bool) (k : ℕ) (w : List Frame) (now : ℕ) (x : Station) (l : List Frame) (y : Station) → Both selective k w x l y → Both selective k w (ticks now x) l y
ticks_keeps selective k w now x l y b =
    cond_both (is_down x.phase) x (sends_waiting (expires_if_due (sees now x))) (λ t. Both selective k w t l y) (λ e. b)
    (λ e. sends_waiting_keeps selective k w (expires_if_due (sees now x)) l y (expires_keeps selective k w (sees now x) l y b))

pub closes_at_keeps : (selective : Bool) (k : ℕ) (w : List Frame) (p : Phase) (x : Station) (l : List Frame) (y : Station) → Both selective k w x l y → Both selective k w (closes_at p x) l y
closes_at_keeps selective k w Idle x l y b = b
closes_at_keeps selective k w Setting x l y b = puts_quiet selective k w x l y Disc refl refl refl b
closes_at_keeps selective k w Up x l y b = puts_quiet selective k w x l y Disc refl refl refl b
closes_at_keeps selective k w Down x l y b = b

-- a call of close, after which the layer above may note why
pub closes_keeps : (selective : Bool) (k : ℕ) (w : List Frame) (x : Station) (l : List Frame) (y : Station) (r : Option Release) → IsLosingLineRelease r
    → Both selective k w x l y → Both selective k w (record (closes x) { released = r }) l y
closes_keeps selective k w x l y r lawful b =
    cond_both (is_down x.phase) x (record (closes_at x.phase x) { phase = Down; timer = None }) (λ t. Both selective k w (record t { released = r }) l y)
    (λ e. ((b.0.0, b.0.1, b.0.2, b.0.3, b.0.4, lawful, b.0.6), b.1, b.2, b.3, b.4))
    (λ e. down_keeps selective k w (closes_at x.phase x) l y r lawful (closes_at_keeps selective k w x.phase x l y b))

pub quits_keeps : (selective : Bool) (k : ℕ) (w : List Frame) (x : Station) (l : List Frame) (y : Station) (sub : ℕ) → Both selective k w x l y → Both selective k w (quits sub x) l y
quits_keeps selective k w x l y sub b = closes_keeps selective k w x l y (Some (release_of (User sub))) (refl, inl refl) b
