-- A moment that finds T1 expired, where it runs: a station that is up sends again all that is unacknowledged, and the calling one its set-up
-- frame.
use Rattle.std.proofs.Common.{if◌then◌else◌, ◌≡◌, ℕ, zero, suc, ◌+◌, ◌-◌, ◌<◌, ◌≤◌, ◌⊎◌, inl, inr, max, Bool, false, List, [], ◌∷◌, ◌++◌, length, Option, None, refl, sym, ◌∙◌, ap, subst, arith, append-nil, append_assoc, ltb-true, true≢false}
use Rattle.std.specs.Prelude.{slice_index_or, nat_lt, ◌==◌}
use Rattle.std.proofs.lemmas.Bool.{cases_Bool, cond_both}
use Rattle.er_base.specs.declared.cause.Cause.TheVariants.{SetUpUnanswered, NoProgress}
use Rattle.hdlc_station_model.specs.declared.phase.Phase.{Phase}
use Rattle.hdlc_station_model.specs.declared.phase.Phase.TheVariants.{Idle, Setting, Up}
use Rattle.hdlc_station_model.specs.Frames.{Frame, Rr, SetUp}
use Rattle.hdlc_station_model.specs.Stations.{Station, is_up, is_down, sees, puts}
use Rattle.hdlc_station_model.specs.Sending.{info_at, can_send, waiting, frames_again, sends_next, sends_up_to, sends_waiting, sends_again, starts_timer, settles, gives_up, counts_expiry, expires_at, expires_if_due, is_due}
use Rattle.hdlc_station_model.specs.Calls.{hands, finishes, ticks}
use Rattle.hdlc_station_model.specs.Events.{is_late}
use Rattle.hdlc_pair_laws.specs.Invariant.{infos, receive_numbers_in_frames, info_of, receive_numbers_in_frame}
use Rattle.hdlc_pair_laws.specs.Flowing.{Consecutive}
use Rattle.hdlc_station_model.specs.Repeating.{MayRepeat}
use Rattle.hdlc_pair_laws.specs.Mending.{AllAre, AllExchange, Fires, IsExchange, Shows}
use Rattle.hdlc_pair_laws.proofs.Keeps.{more}
use Rattle.hdlc_pair_laws.proofs.Flows.{consecutive_push}
use Rattle.hdlc_pair_laws.proofs.Delivers.{early_cannot, cannot_yet}
use Rattle.hdlc_pair_laws.proofs.LossFree.{unsent}
use Rattle.hdlc_pair_laws.proofs.Mending.{exchange_push}

all_push : (n m : ℕ) (xs : List ℕ) → AllAre n xs → m ≡ n → AllAre n (xs ++ m ∷ [])
all_push n m [] h e = (e, tt)
all_push n m (x ∷ xs) h e = (h.0, all_push n m xs h.1 e)

-- ---- what it sends

pub again_fires : (x : Station) (n : ℕ) → Consecutive x.acked (infos (frames_again n x)) (x.acked + n) × AllAre (length x.taken) (receive_numbers_in_frames (frames_again n x)) × AllExchange (frames_again n x)
again_fires x zero = (omega arith, tt, tt)
again_fires x (suc n) =
    let f : Frame = info_at x (x.acked + n) in
    let l : List Frame = frames_again n x in
    let h = again_fires x n in
    let e : x.acked + n + 1 ≡ x.acked + suc n = omega arith in (
      subst (λ (j : ℕ). Consecutive x.acked (infos (l ++ f ∷ [])) j) e
          (subst (λ i. Consecutive x.acked i (x.acked + n + 1)) (sym (more info_of l f)) (consecutive_push x.acked (x.acked + n) (slice_index_or x.handed (x.acked + n) []) (infos l) h.0)),
      subst (λ ns. AllAre (length x.taken) ns) (sym (more receive_numbers_in_frame l f)) (all_push (length x.taken) (length x.taken) (receive_numbers_in_frames l) h.1 refl),
      exchange_push l f h.2 tt,
    )

first_fires : (l : List Frame) (x : Station) → Fires l x → Fires (l ++ info_at x x.sent ∷ []) (sends_next x)
first_fires l x h =
    let f : Frame = info_at x x.sent in (
      subst (λ i. Consecutive x.acked i (x.sent + 1)) (sym (more info_of l f)) (consecutive_push x.acked x.sent (slice_index_or x.handed x.sent []) (infos l) h.0),
      subst (λ ns. AllAre (length x.taken) ns) (sym (more receive_numbers_in_frame l f)) (all_push (length x.taken) (length x.taken) (receive_numbers_in_frames l) h.1 refl),
      exchange_push l f h.2 tt,
      h.3,
    )

shown_fires : (l : List Frame) (x : Station) → Fires l x → Fires (l ++ Rr (length x.taken) ∷ []) x
shown_fires l x h =
    let f : Frame = Rr (length x.taken) in (
      subst (λ i. Consecutive x.acked i x.sent) (sym (more info_of l f ∙ append-nil (infos l))) h.0,
      subst (λ ns. AllAre (length x.taken) ns) (sym (more receive_numbers_in_frame l f)) (all_push (length x.taken) (length x.taken) (receive_numbers_in_frames l) h.1 refl),
      exchange_push l f h.2 tt,
      h.3,
    )

-- ---- within the tick

abbrev pub FiresIn : List Frame → Station → Type 0
FiresIn w x = Fires (w ++ x.said) x

module _ (w : List Frame) where
  up_to_fires : (n : ℕ) (x : Station) → FiresIn w x → FiresIn w (sends_up_to n x)
  up_to_fires zero x h = h
  up_to_fires (suc n) x h = elim (cases_Bool (can_send x)) [
    | inl can ↦ rw can (up_to_fires n (sends_next x) (subst (λ l. Fires l (sends_next x)) (append_assoc w x.said (info_at x x.sent ∷ [])) (first_fires (w ++ x.said) x h)))
    | inr cannot ↦ rw cannot h
  ]

  waiting_fires : (x : Station) → FiresIn w x → FiresIn w (sends_waiting x)
  waiting_fires x h = up_to_fires (waiting x) x h

  pub hands_fires : (now : ℕ) (q : List ℕ) (x : Station) → FiresIn w x → FiresIn w (hands now q x)
  hands_fires now q x h =
      let z : Station = record (sees now x) { handed = x.handed ++ q ∷ [] } in
      cond_both (is_down x.phase) x (sends_waiting z) (FiresIn w) (λ down. h) (λ live. waiting_fires z h)

  pub finishes_fires : (x : Station) → FiresIn w x → FiresIn w (finishes x)
  finishes_fires x h =
      let f : Frame = Rr (length x.taken) in
      cond_both (is_down x.phase) x (settles x) (FiresIn w) (λ down. h)
      (λ live. cond_both x.owed (record (puts f x) { owed = false }) x (FiresIn w)
      (λ owed. subst (λ l. Fires l x) (append_assoc w x.said (f ∷ [])) (shown_fires (w ++ x.said) x h)) (λ owes. h))

-- each N(R) is V(R), whatever I frames go
shows_push : (l : List Frame) (x : Station) (f : Frame) → IsExchange f → receive_numbers_in_frame f ≡ length x.taken ∷ [] → Shows l x → Shows (l ++ f ∷ []) x
shows_push l x f is newest h = (
  subst (λ ns. AllAre (length x.taken) ns) (sym (more receive_numbers_in_frame l f ∙ ap (λ ns. receive_numbers_in_frames l ++ ns) newest))
      (all_push (length x.taken) (length x.taken) (receive_numbers_in_frames l) h.0 refl),
  exchange_push l f h.1 is,
  h.2,
)

module _ (w : List Frame) where
  up_to_shows : (n : ℕ) (x : Station) → Shows (w ++ x.said) x → Shows (w ++ (sends_up_to n x).said) (sends_up_to n x)
  up_to_shows zero x h = h
  up_to_shows (suc n) x h = elim (cases_Bool (can_send x)) [
    | inl can ↦ rw can (up_to_shows n (sends_next x) (subst (λ l. Shows l x) (append_assoc w x.said (info_at x x.sent ∷ [])) (shows_push (w ++ x.said) x (info_at x x.sent) tt refl h)))
    | inr cannot ↦ rw cannot h
  ]

  pub hands_shows : (now : ℕ) (q : List ℕ) (x : Station) → Shows (w ++ x.said) x → Shows (w ++ (hands now q x).said) (hands now q x)
  hands_shows now q x h =
      let z : Station = record (sees now x) { handed = x.handed ++ q ∷ [] } in
      cond_both (is_down x.phase) x (sends_waiting z) (λ t. Shows (w ++ t.said) t) (λ down. h) (λ live. up_to_shows (waiting z) z h)

  pub finishes_shows : (x : Station) → Shows (w ++ x.said) x → Shows (w ++ (finishes x).said) (finishes x)
  finishes_shows x h =
      let f : Frame = Rr (length x.taken) in
      cond_both (is_down x.phase) x (settles x) (λ t. Shows (w ++ t.said) t) (λ down. h)
      (λ live. cond_both x.owed (record (puts f x) { owed = false }) x (λ t. Shows (w ++ t.said) t)
      (λ owed. subst (λ l. Shows l x) (append_assoc w x.said (f ∷ [])) (shows_push (w ++ x.said) x f tt refl h)) (λ owes. h))

-- ---- the tick

-- T1 doesn't run and isn't found expired, or it is and the station doesn't give up
pub ticked : (now : ℕ) (x : Station) (P : Station → Type 0) → is_down x.phase ≡ false → MayRepeat now x
    → (x.timer ≡ None → P (sends_waiting (sees now x))) → (x.expiries < x.n2 → P (sends_waiting (expires_at x.phase (sees now x)))) → P (ticks now x)
ticked now x P live may still due =
    cond_both (is_down x.phase) x (sends_waiting (expires_if_due (sees now x))) P (λ down. absurd (true≢false (sym down ∙ live)))
    (λ l. at may)
  where
    at : MayRepeat now x → P (sends_waiting (expires_if_due (sees now x)))
    at (inl none) =
        let early : is_late now x ≡ false = ap (λ (o : Option ℕ). is_due o (max x.moment now)) none in
        subst (λ (b : Bool). P (sends_waiting (if b then expires_at x.phase (sees now x) else sees now x))) (sym early) (still none)
    at (inr late) = subst (λ (b : Bool). P (sends_waiting (if b then expires_at x.phase (sees now x) else sees now x))) (sym late.0) (due late.1)

few : (x : Station) → x.expiries < x.n2 → nat_lt x.n2 (x.expiries + 1) ≡ false
few x less = elim (cases_Bool (nat_lt x.n2 (x.expiries + 1))) [
  | inl many ↦ absurd (let m = ltb-true x.n2 (x.expiries + 1) many in let u : ⊥ = omega (arith, m, less) in u)
  | inr e ↦ e
]

pub up_expires : (x : Station) → x.expiries < x.n2 → expires_at Up x ≡ starts_timer (sends_again (counts_expiry x))
up_expires x less = ap (λ (b : Bool). if b then gives_up NoProgress x else starts_timer (sends_again (counts_expiry x))) (few x less)

setting_expires : (x : Station) → x.expiries < x.n2 → expires_at Setting x ≡ starts_timer (puts SetUp (counts_expiry x))
setting_expires x less = ap (λ (b : Bool). if b then gives_up SetUpUnanswered x else starts_timer (puts SetUp (counts_expiry x))) (few x less)

pub up_fires : (now : ℕ) (x : Station) → x.phase ≡ Up → x.said ≡ [] → x.acked ≤ x.sent → (x.timer ≡ None → x.acked ≡ x.sent) → MayRepeat now x → FiresIn [] (ticks now x)
up_fires now x up quiet low timed may =
    ticked now x (FiresIn []) (ap is_down up) may
    (λ none. waiting_fires [] (sees now x) (subst (λ l. Fires l (sees now x)) (sym quiet) (timed none, tt, tt, up)))
    (λ less.
    let z : Station = sees now x in
    let n : ℕ = x.sent - x.acked in
    let e : expires_at x.phase z ≡ starts_timer (sends_again (counts_expiry z)) = ap (λ (q : Phase). expires_at q z) up ∙ up_expires z less in
    let h = again_fires (counts_expiry z) n in
    let all : x.acked + n ≡ x.sent = omega arith in
    subst (λ (t : Station). FiresIn [] (sends_waiting t)) (sym e)
    (waiting_fires [] (starts_timer (sends_again (counts_expiry z)))
    (subst (λ l. Fires (l ++ frames_again n (counts_expiry z)) (sends_again (counts_expiry z))) (sym quiet)
    (subst (λ (j : ℕ). Consecutive x.acked (infos (frames_again n (counts_expiry z))) j) all h.0, h.1, h.2, up))))

-- ---- before both are up

-- the calling station sends its set-up frame again, and nothing else
pub setting_ticks : (now : ℕ) (x : Station) → x.phase ≡ Setting → (x.timer ≡ None → ⊥) → MayRepeat now x → ticks now x ≡ starts_timer (puts SetUp (counts_expiry (sees now x)))
setting_ticks now x setting timed may =
    let z : Station = sees now x in
    let v : Station = starts_timer (puts SetUp (counts_expiry z)) in
    ticked now x (λ t. t ≡ v) (ap is_down setting) may (λ none. absurd (timed none))
    (λ less.
    let e : expires_at x.phase z ≡ v = ap (λ (q : Phase). expires_at q z) setting ∙ setting_expires z less in
    ap sends_waiting e ∙ unsent v (early_cannot v (ap is_up setting)))

-- the called one says nothing
pub record IsSilent (p : Phase) (x : Station) : Type 0 where
  pub said : x.said ≡ []
  pub phase : x.phase ≡ p
  pub owes : x.owed ≡ false
  pub none : length x.taken ≡ 0

silent : (p : Phase) (v : Station) → v.calling ≡ false → IsSilent p v → IsSilent p (sends_waiting v)
silent p v called h = subst (IsSilent p) (sym (unsent v (cannot_yet v called h.none))) h

idle_silent : (now : ℕ) (x : Station) → x.calling ≡ false → IsSilent Idle x → MayRepeat now x → IsSilent Idle (ticks now x)
idle_silent now x called h may =
    let z : Station = sees now x in
    let g : IsSilent Idle z = record { said = h.said; phase = h.phase; owes = h.owes; none = h.none } in
    ticked now x (IsSilent Idle) (ap is_down h.phase) may (λ n. silent Idle z called g)
    (λ less. subst (λ (t : Station). IsSilent Idle (sends_waiting t)) (sym (ap (λ (q : Phase). expires_at q z) h.phase)) (silent Idle z called g))

up_silent : (now : ℕ) (x : Station) → x.calling ≡ false → x.sent ≡ 0 → IsSilent Up x → MayRepeat now x → IsSilent Up (ticks now x)
up_silent now x called unsent h may =
    let z : Station = sees now x in
    let n : ℕ = x.sent - x.acked in
    let zero_is : n ≡ 0 = omega arith in
    let e : expires_at x.phase z ≡ expires_at Up z = ap (λ (q : Phase). expires_at q z) h.phase in
    ticked now x (IsSilent Up) (ap is_down h.phase) may (λ t. silent Up z called (record { said = h.said; phase = h.phase; owes = h.owes; none = h.none }))
    (λ less. subst (λ (t : Station). IsSilent Up (sends_waiting t)) (sym (e ∙ up_expires z less))
    (silent Up (starts_timer (sends_again (counts_expiry z))) called (record {
      said = ap (λ (l : List Frame). l ++ frames_again n (counts_expiry z)) h.said ∙ ap (λ (j : ℕ). frames_again j (counts_expiry z)) zero_is;
      phase = h.phase;
      owes = cond_both (n == 0) x.owed false (λ (b : Bool). b ≡ false) (λ t. h.owes) (λ t. refl);
      none = h.none;
    })))

-- in Idle, or up
pub called_silent : (now : ℕ) (p : Phase) (x : Station) → (p ≡ Idle) ⊎ (p ≡ Up) → x.calling ≡ false → x.sent ≡ 0 → IsSilent p x → MayRepeat now x → IsSilent p (ticks now x)
called_silent now p x (inl e) called unsent h may =
    subst (λ (q : Phase). IsSilent q (ticks now x)) (sym e) (idle_silent now x called (subst (λ (q : Phase). IsSilent q x) e h) may)
called_silent now p x (inr e) called unsent h may =
    subst (λ (q : Phase). IsSilent q (ticks now x)) (sym e) (up_silent now x called unsent (subst (λ (q : Phase). IsSilent q x) e h) may)
