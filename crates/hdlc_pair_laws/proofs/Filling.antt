-- Two stations with go-back, of which one lost a frame before others: what its calls keep until it is asked for that frame, and sends it again. Everywhere
-- x sends what was lost, y takes, and v is V(R) of y.
use Rattle.std.proofs.Common.{◌≡◌, ℕ, zero, suc, ◌+◌, ◌-◌, ◌%◌, ◌<◌, ◌≤◌, ◌⊎◌, inl, inr, Bool, true, false, List, [], ◌∷◌, ◌++◌, length, refl, sym, ◌∙◌, ap, subst, arith, append_assoc, append-nil, eqb-true, lt-ltb, true≢false}
use Rattle.std.specs.Prelude.{slice_index_or, nat_lt, ◌==◌}
use Rattle.std.proofs.lemmas.Bool.{cond_both}
use Rattle.std.proofs.lemmas.Grind.{flat_map-append}
use Rattle.hdlc_station_model.specs.Frames.{modulo, Frame, Info, Rr, Rej, Srej, SetUp, Disc, Dm, Ua}
use Rattle.hdlc_station_model.specs.Stations.{Station, is_down, puts}
use Rattle.hdlc_station_model.specs.Sending.{info_at, can_send, waiting, frames_again, sends_next, sends_up_to, sends_waiting, sends_again, settles, starts_timer}
use Rattle.hdlc_station_model.specs.Receiving.{accepts, rejects, takes, repeats_rejected}
use Rattle.hdlc_station_model.specs.Calls.{finishes}
use Rattle.hdlc_pair_laws.specs.Invariant.{infos, receive_numbers_in_frames, info_of}
use Rattle.hdlc_pair_laws.specs.Flowing.{Consecutive, EndsAtNumber}
use Rattle.hdlc_pair_laws.specs.Mending.{Mends, leads}
use Rattle.hdlc_pair_laws.proofs.Keeps.{more}
use Rattle.hdlc_pair_laws.proofs.Mending.{not_none, leads_append, waiting_mends, finishes_mends}
use Rattle.hdlc_pair_laws.proofs.Repeats.{again_fires}
use Rattle.hdlc_pair_laws.proofs.Ticks.{leads_all}

-- ---- what waits

-- no I frame with this number waits
abbrev pub Lacks : ℕ → List (ℕ × List ℕ) → Type 0
Lacks v [] = Unit {0}
Lacks v (f ∷ fs) = (v ≡ f.0 → ⊥) × Lacks v fs

-- a REJ waits
abbrev pub HasRej : List Frame → Type 0
HasRej [] = ⊥
HasRej (Info ns nr payload ∷ fs) = HasRej fs
HasRej (Rr nr ∷ fs) = HasRej fs
HasRej (Rej nr ∷ fs) = Unit {0}
HasRej (Srej nr ∷ fs) = HasRej fs
HasRej (SetUp ∷ fs) = HasRej fs
HasRej (Disc ∷ fs) = HasRej fs
HasRej (Dm ∷ fs) = HasRej fs
HasRej (Ua final ∷ fs) = HasRej fs

-- V(R) is below what was sent, and so are as many; none waits with that number; and the last N(R) is V(R), where y owes no answer
abbrev pub Out : (v least : ℕ) (owed : Bool) → List ℕ → List (ℕ × List ℕ) → (acked sent : ℕ) → Type 0
Out v least owed shows waits acked sent = (v < sent) × (least ≤ sent) × Lacks v waits × (owed ≡ false → waits ≡ [] → EndsAtNumber acked shows v)

-- y sees the gap at the next I frame, of which one waits, or a REJ waits
abbrev pub Notes : (gap : Bool) (next least : ℕ) → List Frame → Type 0
Notes gap next least ly = ((gap ≡ false) × (next < least)) ⊎ HasRej ly

-- all that was sent would come to a receiver that took these
pub record Gap (lx : List Frame) (x : Station) (ly : List Frame) (y : Station) : Type 0 where
  pub before : List (List ℕ)
  pub least : ℕ
  pub mends : Mends false lx x ly (record y { taken = before; owed = true })
  pub out : Out (length y.taken) least y.owed (receive_numbers_in_frames ly) (infos lx) x.acked x.sent
  pub notes : Notes y.gap (length before) least ly

-- it was filled, or it is there
abbrev pub Filled : List Frame → Station → List Frame → Station → Type 0
Filled lx x ly y = Mends false lx x ly y ⊎ Gap lx x ly y

abbrev pub FilledIn : List Frame → Station → List Frame → Station → Type 0
FilledIn w x l y = Filled (w ++ x.said) x l y

pub leads_lacks : (v : ℕ) (fs : List (ℕ × List ℕ)) → Lacks v fs → leads v fs ≡ v
leads_lacks v [] h = refl
leads_lacks v (f ∷ fs) h =
    cond_both (v == f.0) (leads (v + 1) fs) (leads v fs) (λ t. t ≡ v) (λ e. absurd (h.0 (eqb-true v f.0 e))) (λ e. leads_lacks v fs h.1)

pub lacks_push : (v : ℕ) (fs : List (ℕ × List ℕ)) (f : ℕ × List ℕ) → Lacks v fs → (v ≡ f.0 → ⊥) → Lacks v (fs ++ f ∷ [])
lacks_push v [] f h n = (n, tt)
lacks_push v (g ∷ fs) f h n = (h.0, lacks_push v fs f h.1 n)

pub consecutive_lacks : (v low high : ℕ) (fs : List (ℕ × List ℕ)) → v < low → Consecutive low fs high → Lacks v fs
consecutive_lacks v low high [] h c = tt
consecutive_lacks v low high (f ∷ fs) h c = (λ e. absurd (let n = c.0 in let u : ⊥ = omega (arith, n, e, h) in u), consecutive_lacks v (low + 1) high fs (omega arith) c.1)

pub rej_more : (l m : List Frame) → HasRej l → HasRej (l ++ m)
rej_more [] m h = absurd h
rej_more (Info ns nr p ∷ fs) m h = rej_more fs m h
rej_more (Rr nr ∷ fs) m h = rej_more fs m h
rej_more (Rej nr ∷ fs) m h = tt
rej_more (Srej nr ∷ fs) m h = rej_more fs m h
rej_more (SetUp ∷ fs) m h = rej_more fs m h
rej_more (Disc ∷ fs) m h = rej_more fs m h
rej_more (Dm ∷ fs) m h = rej_more fs m h
rej_more (Ua final ∷ fs) m h = rej_more fs m h

pub rej_last : (l : List Frame) (r : ℕ) → HasRej (l ++ Rej r ∷ [])
rej_last [] r = tt
rej_last (Info ns nr p ∷ fs) r = rej_last fs r
rej_last (Rr nr ∷ fs) r = rej_last fs r
rej_last (Rej nr ∷ fs) r = tt
rej_last (Srej nr ∷ fs) r = rej_last fs r
rej_last (SetUp ∷ fs) r = rej_last fs r
rej_last (Disc ∷ fs) r = rej_last fs r
rej_last (Dm ∷ fs) r = rej_last fs r
rej_last (Ua final ∷ fs) r = rej_last fs r

-- ---- x sends

module _ (v least : ℕ) (owed : Bool) (shows : List ℕ) (w : List Frame) where
  abbrev pub OutIn : Station → Type 0
  OutIn x = Out v least owed shows (infos (w ++ x.said)) x.acked x.sent

  -- a frame that is no I frame
  pub puts_out : (x : Station) (f : Frame) → info_of f ≡ [] → OutIn x → OutIn (puts f x)
  puts_out x f none h =
      subst (λ i. Out v least owed shows i x.acked x.sent)
      (sym (ap infos (sym (append_assoc w x.said (f ∷ []))) ∙ more info_of (w ++ x.said) f ∙ ap (λ t. infos (w ++ x.said) ++ t) none ∙ append-nil (infos (w ++ x.said)))) h

  next_out : (x : Station) → OutIn x → OutIn (sends_next x)
  next_out x h =
      let p : List ℕ = slice_index_or x.handed x.sent [] in
      let lt = h.0 in
      subst (λ i. Out v least owed shows i x.acked (x.sent + 1))
      (sym (ap infos (sym (append_assoc w x.said (info_at x x.sent ∷ []))) ∙ more info_of (w ++ x.said) (info_at x x.sent)))
      (omega (arith, lt), omega (arith, h.1), lacks_push v (infos (w ++ x.said)) (x.sent, p) h.2 (λ e. absurd (let u : ⊥ = omega (arith, e, lt) in u)), λ owes none. absurd (not_none (infos (w ++ x.said)) (x.sent, p) none))

  up_to_out : (n : ℕ) (x : Station) → OutIn x → OutIn (sends_up_to n x)
  up_to_out zero x h = h
  up_to_out (suc n) x h = cond_both (can_send x) (sends_up_to n (sends_next x)) x OutIn (λ can. up_to_out n (sends_next x) (next_out x h)) (λ cannot. h)

  pub waiting_out : (x : Station) → OutIn x → OutIn (sends_waiting x)
  waiting_out x h = up_to_out (waiting x) x h

  settles_out : (x : Station) → OutIn x → OutIn (settles x)
  settles_out x h = cond_both x.owed (record (puts (Rr (length x.taken)) x) { owed = false }) x OutIn (λ owes. puts_out x (Rr (length x.taken)) refl h) (λ owes. h)

  pub finishes_out : (x : Station) → OutIn x → OutIn (finishes x)
  finishes_out x h = cond_both (is_down x.phase) x (settles x) OutIn (λ e. h) (λ e. settles_out x h)

  pub takes_out : (ns : ℕ) (q : List ℕ) (x : Station) → OutIn x → OutIn (takes ns q x)
  takes_out ns q x h =
      cond_both (length x.taken % modulo x.extended == ns) (accepts q x) (rejects x) OutIn (λ e. h)
      (λ e. cond_both x.gap (puts (Rr (length x.taken)) x) (puts (Rej (length x.taken)) (record x { gap = true })) OutIn
      (λ g. puts_out x (Rr (length x.taken)) refl h) (λ g. puts_out (record x { gap = true }) (Rej (length x.taken)) refl h))

module _ (w l : List Frame) (y : Station) where
  pub waiting_filled : (x : Station) → FilledIn w x l y → FilledIn w (sends_waiting x) l y
  waiting_filled x (inl m) = inl (waiting_mends false w l y x m)
  waiting_filled x (inr g) = inr (record {
    before = g.before;
    least = g.least;
    mends = waiting_mends false w l (record y { taken = g.before; owed = true }) x g.mends;
    out = waiting_out (length y.taken) g.least y.owed (receive_numbers_in_frames l) w x g.out;
    notes = g.notes;
  })

  pub finishes_filled : (x : Station) → FilledIn w x l y → FilledIn w (finishes x) l y
  finishes_filled x (inl m) = inl (finishes_mends false w l y x m)
  finishes_filled x (inr g) = inr (record {
    before = g.before;
    least = g.least;
    mends = finishes_mends false w l (record y { taken = g.before; owed = true }) x g.mends;
    out = finishes_out (length y.taken) g.least y.owed (receive_numbers_in_frames l) w x g.out;
    notes = g.notes;
  })

-- it is asked for, and sends again
pub again_leads : (v : ℕ) (w : List Frame) (x : Station) → x.acked ≤ v → v < x.sent → Lacks v (infos (w ++ x.said)) → leads v (infos (w ++ (repeats_rejected x).said)) ≡ (repeats_rejected x).sent
again_leads v w x low high lacks =
    let n : ℕ = x.sent - x.acked in
    let all : x.acked + n ≡ x.sent = omega arith in
    cond_both (nat_lt x.acked x.sent) (starts_timer (sends_again x)) x (λ t. leads v (infos (w ++ t.said)) ≡ t.sent)
    (λ some.
    ap (λ (t : List Frame). leads v (infos t)) (sym (append_assoc w x.said (frames_again n x)))
    ∙ ap (leads v) (flat_map-append info_of (w ++ x.said) (frames_again n x))
    ∙ leads_append v (infos (w ++ x.said)) (infos (frames_again n x))
    ∙ ap (λ (j : ℕ). leads j (infos (frames_again n x))) (leads_lacks v (infos (w ++ x.said)) lacks)
    ∙ leads_all x.acked v x.sent (infos (frames_again n x)) low (omega arith) (subst (λ (j : ℕ). Consecutive x.acked (infos (frames_again n x)) j) all (again_fires x n).0))
    (λ none. absurd (true≢false (sym (lt-ltb x.acked x.sent (omega arith)) ∙ none)))
