-- Each call keeps what holds of a station alone, and leaves nothing unsent that may be sent, and no answer owed. Everywhere x acts and y
-- doesn't, w waited from x before the call.
use Rattle.std.proofs.Common.{◌≡◌, ℕ, zero, suc, ◌+◌, ◌-◌, ◌≤◌, inl, inr, Bool, true, false, not, ◌&&◌, ◌||◌, ltb, List, [], ◌∷◌, ◌++◌, length, Option, Some, None, refl, sym, ◌∙◌, ap, subst, arith, length-append, ltb-true, true≢false}
use Rattle.std.specs.Prelude.{nat_lt}
use Rattle.std.proofs.lemmas.Bool.{cases_Bool, cond_both, and_parts}
use Rattle.er_base.specs.declared.release.Release.{Release}
use Rattle.er_base.specs.declared.cause.Cause.TheVariants.{SetUpUnanswered, NoProgress, User}
use Rattle.er_base.specs.Causes.{release_of}
use Rattle.hdlc_frames.specs.Laws.{ControlReadsBack}
use Rattle.hdlc_station_model.specs.declared.phase.Phase.{Phase}
use Rattle.hdlc_station_model.specs.declared.phase.Phase.TheVariants.{Idle, Setting, Up, Down}
use Rattle.hdlc_station_model.specs.Frames.{Frame, Rr, SetUp, Disc, shown, information}
use Rattle.hdlc_station_model.specs.Stations.{Station, is_up, is_down, sees, puts}
use Rattle.hdlc_station_model.specs.Sending.{info_at, can_send, waiting, sends_next, sends_up_to, sends_waiting, sends_again, starts_timer, settles, gives_up, counts_expiry, expires_at, expires, expires_if_due, is_due, started}
use Rattle.hdlc_station_model.specs.Calls.{hands, finishes, ticks, closes_at, closes}
use Rattle.hdlc_station_model.specs.Selective.{receives_as}
use Rattle.hdlc_station_model.specs.Events.{quits}
use Rattle.hdlc_pair_laws.specs.Invariant.{Both}
use Rattle.hdlc_pair_laws.specs.Keeping.{found}
use Rattle.hdlc_pair_laws.specs.Flowing.{HasNoPayloadToSend}
use Rattle.hdlc_pair_laws.specs.Mending.{IsPolite, Rested, Timed}
use Rattle.hdlc_pair_laws.proofs.Hearing.{row_as, hears_as, received}
use Rattle.hdlc_pair_laws.proofs.Telling.{phases_stay}
use Rattle.hdlc_pair_laws.proofs.Events.{row_keeps}
use Rattle.hdlc_pair_laws.proofs.Flows.{heard_row, up_to_rests, up_to_given}
use Rattle.hdlc_pair_laws.proofs.Lines.{answered}
use Rattle.hdlc_pair_laws.proofs.Delivers.{early_cannot}
use Rattle.hdlc_pair_laws.proofs.Sound.{OwnIn, polite_said, own_again, own_dead}
use Rattle.hdlc_pair_laws.proofs.SoundRows.{Wakes, go_back_wakes, selective_wakes}

-- within a call: what a part of it leaves of a station in this phase
abbrev pub InCall : (calling : Bool) (window : ℕ) → List Frame → Phase → Station → Type 0
InCall calling window w p t = OwnIn calling window w t × HasNoPayloadToSend t × (t.sent ≤ length t.handed) × (t.phase ≡ Idle → p ≡ Idle)

-- what the whole call leaves
abbrev pub Leaves : (calling : Bool) (window : ℕ) → List Frame → Phase → Station → Type 0
Leaves calling window w p t = OwnIn calling window w t × Rested t × (t.phase ≡ Idle → p ≡ Idle)

-- ---- payloads that may be sent are sent

up_is : (p : Phase) → is_up p ≡ true → p ≡ Up
up_is Idle h = absurd cc
up_is Setting h = absurd cc
up_is Up h = refl
up_is Down h = absurd cc

never_none : (timer : Option ℕ) (moment : ℕ) → started timer moment ≡ None → ⊥
never_none None moment e = absurd cc
never_none (Some running) moment e = absurd cc

timed_started : (p : Phase) (timer : Option ℕ) (moment expiries acked sent : ℕ) → p ≡ Up → Timed p timer expiries acked sent → Timed p (started timer moment) expiries acked (sent + 1)
timed_started Up timer moment expiries acked sent up h =
    (λ none. absurd (never_none timer moment none), λ same. absurd (let u : ⊥ = omega (arith, same, h.2) in u), omega (arith, h.2))
timed_started Idle timer moment expiries acked sent up h = absurd cc
timed_started Setting timer moment expiries acked sent up h = absurd cc
timed_started Down timer moment expiries acked sent up h = absurd cc

due_runs : (timer : Option ℕ) (moment : ℕ) → is_due timer moment ≡ true → timer ≡ None → ⊥
due_runs None moment due none = absurd cc
due_runs (Some expiry) moment due none = absurd cc

-- who may send: it is up, and calls or took a payload
record CanSend (x : Station) : Type 0 where
  up : x.phase ≡ Up
  may : (x.calling || nat_lt 0 (length x.taken)) ≡ true

can_send_is : (x : Station) → can_send x ≡ true → CanSend x
can_send_is x can =
    let first = and_parts (is_up x.phase && not x.busy && ltb (x.sent - x.acked) x.window) (x.calling || ltb 0 (length x.taken)) can in
    let second = and_parts (is_up x.phase && not x.busy) (ltb (x.sent - x.acked) x.window) first.0 in
    let third = and_parts (is_up x.phase) (not x.busy) second.0 in
    record { up = up_is x.phase third.0; may = first.1 }

first_taken : (c : Bool) (n : ℕ) → (c || nat_lt 0 n) ≡ true → c ≡ false → n ≡ 0 → ⊥
first_taken true n h e none = absurd cc
first_taken false n h e none = let u = ltb-true 0 n h in omega (arith, u, none)

module _ (c : Bool) (wd : ℕ) (w : List Frame) where
  next_own : (x : Station) → can_send x ≡ true → OwnIn c wd w x → OwnIn c wd w (sends_next x)
  next_own x can h =
      let s = can_send_is x can in (
        h.0,
        h.1,
        h.2,
        λ called none. absurd (first_taken x.calling (length x.taken) s.may (h.0 ∙ called) none),
        timed_started x.phase x.timer _ x.expiries x.acked x.sent s.up h.4,
        h.5,
        λ live. polite_said w x.said (info_at x x.sent) (h.6 live) tt,
        λ idle. absurd (let e : Up ≡ Idle = sym s.up ∙ idle in let u : ⊥ = cc in u),
      )

  up_to_own : (n : ℕ) (x : Station) → OwnIn c wd w x → OwnIn c wd w (sends_up_to n x)
  up_to_own zero x h = h
  up_to_own (suc n) x h = elim (cases_Bool (can_send x)) [ inl can ↦ rw can (up_to_own n (sends_next x) (next_own x can h)) | inr cannot ↦ rw cannot h ]

  up_to_phase : (n : ℕ) (x : Station) → (sends_up_to n x).phase ≡ x.phase
  up_to_phase zero x = refl
  up_to_phase (suc n) x = cond_both (can_send x) (sends_up_to n (sends_next x)) x (λ t. t.phase ≡ x.phase) (λ e. up_to_phase n (sends_next x)) (λ e. refl)

  -- ---- the owed answer

  settles_leaves : (p : Phase) (x : Station) → HasNoPayloadToSend x → (x.phase ≡ Idle → p ≡ Idle) → OwnIn c wd w x → Leaves c wd w p (settles x)
  settles_leaves p x rests went h =
      cond_both x.owed (record (puts (Rr (length x.taken)) x) { owed = false }) x (Leaves c wd w p)
      (λ owed. (
        (h.0, h.1, h.2, h.3, h.4, h.5, λ live. polite_said w x.said (Rr (length x.taken)) (h.6 live) tt, λ idle. absurd (true≢false (sym owed ∙ (h.7 idle).1))),
        (rests, λ live. refl),
        went,
      ))
      (λ owes. (h, (rests, λ live. owes), went))

  pub finishes_leaves : (p : Phase) (x : Station) → InCall c wd w p x → Leaves c wd w p (finishes x)
  finishes_leaves p x h =
      cond_both (is_down x.phase) x (settles x) (Leaves c wd w p) (λ down. (h.0, (h.1, λ live. absurd (true≢false (sym down ∙ live))), h.3)) (λ live. settles_leaves p x h.1 h.3 h.0)

  pub waiting_in : (p : Phase) (x : Station) → x.sent ≤ length x.handed → (x.phase ≡ Idle → p ≡ Idle) → OwnIn c wd w x → InCall c wd w p (sends_waiting x)
  waiting_in p x given went h = (
    up_to_own (waiting x) x h,
    up_to_rests (waiting x) x (omega arith),
    up_to_given (waiting x) x (omega arith),
    λ idle. went (sym (up_to_phase (waiting x) x) ∙ idle),
  )

  -- a released station stays as it is
  down_in : (x : Station) → is_down x.phase ≡ true → x.sent ≤ length x.handed → OwnIn c wd w x → InCall c wd w x.phase x
  down_in x down given h = (h, inl (early_cannot x (not_up x.phase down)), given, λ idle. idle)
    where
      not_up : (q : Phase) → is_down q ≡ true → is_up q ≡ false
      not_up Idle e = absurd cc
      not_up Setting e = absurd cc
      not_up Up e = absurd cc
      not_up Down e = refl

  -- ---- a payload is handed down, time goes on

  pub hands_in : (now : ℕ) (q : List ℕ) (x : Station) → x.sent ≤ length x.handed → OwnIn c wd w x → InCall c wd w x.phase (hands now q x)
  hands_in now q x given h =
      cond_both (is_down x.phase) x (sends_waiting (record (sees now x) { handed = x.handed ++ q ∷ [] })) (InCall c wd w x.phase)
      (λ down. down_in x down given h)
      (λ live. waiting_in x.phase (record (sees now x) { handed = x.handed ++ q ∷ [] }) (let l = length-append x.handed (q ∷ []) in omega (arith, given, l)) (λ idle. idle) h)

  pub hands_leaves : (now : ℕ) (q : List ℕ) (x : Station) → x.sent ≤ length x.handed → OwnIn c wd w x → Leaves c wd w x.phase (finishes (hands now q x))
  hands_leaves now q x given h = finishes_leaves x.phase (hands now q x) (hands_in now q x given h)

  expires_own : (p : Phase) (x : Station) → (x.timer ≡ None → ⊥) → OwnIn c wd w (record x { phase = p }) → OwnIn c wd w (expires_at p (record x { phase = p })) × ((expires_at p (record x { phase = p })).phase ≡ Idle → p ≡ Idle)
  expires_own Idle x runs h = (h, λ e. e)
  expires_own Setting x runs h =
      let u : Station = record x { phase = Setting } in
      cond_both (nat_lt x.n2 (x.expiries + 1)) (gives_up SetUpUnanswered u) (starts_timer (puts SetUp (counts_expiry u))) (λ t. OwnIn c wd w t × (t.phase ≡ Idle → Setting ≡ Idle))
      (λ e. (own_dead c wd w u (x.said ++ Disc ∷ []) (w ++ x.said) SetUpUnanswered h, λ e. absurd cc))
      (λ e. ((h.0, h.1, h.2, h.3, λ none. absurd cc, h.5, λ live. polite_said w x.said SetUp (h.6 live) tt, λ e. absurd cc), λ e. absurd cc))
  expires_own Up x runs h =
      let u : Station = record x { phase = Up } in
      cond_both (nat_lt x.n2 (x.expiries + 1)) (gives_up NoProgress u) (starts_timer (sends_again (counts_expiry u))) (λ t. OwnIn c wd w t × (t.phase ≡ Idle → Up ≡ Idle))
      (λ e. (own_dead c wd w u (x.said ++ Disc ∷ []) (w ++ x.said) NoProgress h, λ e. absurd cc))
      (λ e. (own_again c wd w (record x { expiries = x.expiries + 1 }) (λ same. runs (h.4.1 same)) (h.0, h.1, h.2, h.3, (λ none. absurd (runs none), h.4.1, h.4.2), h.5, h.6, h.7), λ e. absurd cc))
  expires_own Down x runs h = (h, λ e. e)

  expires_handed : (p : Phase) (x : Station) → ((expires_at p x).sent ≡ x.sent) × ((expires_at p x).handed ≡ x.handed)
  expires_handed Idle x = (refl, refl)
  expires_handed Setting x =
      cond_both (nat_lt x.n2 (x.expiries + 1)) (gives_up SetUpUnanswered x) (starts_timer (puts SetUp (counts_expiry x))) (λ t. (t.sent ≡ x.sent) × (t.handed ≡ x.handed)) (λ e. (refl, refl)) (λ e. (refl, refl))
  expires_handed Up x =
      cond_both (nat_lt x.n2 (x.expiries + 1)) (gives_up NoProgress x) (starts_timer (sends_again (counts_expiry x))) (λ t. (t.sent ≡ x.sent) × (t.handed ≡ x.handed)) (λ e. (refl, refl)) (λ e. (refl, refl))
  expires_handed Down x = (refl, refl)

  pub ticks_in : (now : ℕ) (x : Station) → x.sent ≤ length x.handed → OwnIn c wd w x → InCall c wd w x.phase (ticks now x)
  ticks_in now x given h =
      cond_both (is_down x.phase) x (sends_waiting (expires_if_due (sees now x))) (InCall c wd w x.phase)
      (λ down. down_in x down given h)
      (λ live. cond_both (is_due (sees now x).timer (sees now x).moment) (expires (sees now x)) (sees now x) (λ t. InCall c wd w x.phase (sends_waiting t))
      (λ due. let o = expires_own x.phase (sees now x) (due_runs x.timer (sees now x).moment due) h in let g = expires_handed x.phase (sees now x) in
      waiting_in x.phase (expires (sees now x)) (subst (λ (n : ℕ). n ≤ length (expires (sees now x)).handed) (sym g.0) (subst (λ (hs : List (List ℕ)). x.sent ≤ length hs) (sym g.1) given)) o.1 o.0)
      (λ early. waiting_in x.phase (sees now x) given (λ idle. idle) h))

  pub ticks_leaves : (now : ℕ) (x : Station) → x.sent ≤ length x.handed → OwnIn c wd w x → Leaves c wd w x.phase (finishes (ticks now x))
  ticks_leaves now x given h = finishes_leaves x.phase (ticks now x) (ticks_in now x given h)

  -- ---- its user releases

  closes_own : (p : Phase) (x : Station) → OwnIn c wd w x → OwnIn c wd w (record (closes_at p x) { phase = Down; timer = None })
  closes_own Idle x h = (h.0, h.1, h.2, h.3, refl, h.5, λ live. absurd cc, λ e. absurd cc)
  closes_own Setting x h = (h.0, h.1, h.2, h.3, refl, h.5, λ live. absurd cc, λ e. absurd cc)
  closes_own Up x h = (h.0, h.1, h.2, h.3, refl, h.5, λ live. absurd cc, λ e. absurd cc)
  closes_own Down x h = (h.0, h.1, h.2, h.3, refl, h.5, λ live. absurd cc, λ e. absurd cc)

  closes_given : (p : Phase) (x : Station) → x.sent ≤ length x.handed → (closes_at p x).sent ≤ length (closes_at p x).handed
  closes_given Idle x h = h
  closes_given Setting x h = h
  closes_given Up x h = h
  closes_given Down x h = h

  -- the layer above ends the link
  pub closes_in : (x : Station) → x.sent ≤ length x.handed → OwnIn c wd w x → InCall c wd w x.phase (closes x)
  closes_in x given h =
      cond_both (is_down x.phase) x (record (closes_at x.phase x) { phase = Down; timer = None }) (InCall c wd w x.phase)
      (λ down. down_in x down given h) (λ live. (closes_own x.phase x h, inl refl, closes_given x.phase x given, λ e. absurd cc))

  pub quits_leaves : (sub : ℕ) (x : Station) → is_down x.phase ≡ false → OwnIn c wd w x → Leaves c wd w x.phase (quits sub x)
  quits_leaves sub x live h =
      let r : Option Release = Some (release_of (User sub)) in
      cond_both (is_down x.phase) x (record (closes_at x.phase x) { phase = Down; timer = None })
      (λ t. Leaves c wd w x.phase (record t { released = r; deed = record { up = false; payload = None; more = []; released = r } }))
      (λ down. absurd (true≢false (sym down ∙ live)))
      (λ e. (closes_own x.phase x h, (inl refl, λ live. absurd cc), λ e. absurd cc))

-- ---- a frame comes

rows : (selective : Bool) (k : ℕ) (c : Bool) (wd : ℕ) (w : List Frame) (x : Station) (f : Frame) (fs : List Frame) (y : Station)
    → Both selective k w x (f ∷ fs) y → OwnIn c wd w x → Wakes c wd w x.phase f (row_as selective x.phase x (shown x.extended f) (information f))
rows true k c wd w x f fs y b h = selective_wakes k c wd w x.phase x f fs y b h
rows false k c wd w x f fs y b h = go_back_wakes k c wd w x.phase x f fs y b h

-- it isn't released by a frame of a live station
abbrev pub Lives : (calling : Bool) (window : ℕ) → List Frame → Phase → Frame → Station → Type 0
Lives calling window w p f t = Leaves calling window w p t × (IsPolite f → is_down p ≡ false → is_down t.phase ≡ false)

pub received_lives : ControlReadsBack → (selective : Bool) (k : ℕ) (c : Bool) (wd : ℕ) (w : List Frame) (now : ℕ) (x : Station) (f : Frame) (fs : List Frame) (y : Station)
    → Both selective k w x (f ∷ fs) y → OwnIn c wd w x
    → InCall c wd w x.phase (receives_as selective now (found y f) x) × (IsPolite f → is_down x.phase ≡ false → is_down (receives_as selective now (found y f) x).phase ≡ false)
received_lives law selective k c wd w now x f fs y b h =
    let z : Station = sees now x in
    let t : Station = hears_as selective (found y f) z in
    let e : row_as selective x.phase z (shown x.extended f) (information f) ≡ t = sym (heard_row law selective k (w ++ x.said) z f fs y b) in
    let g : Wakes c wd w x.phase f t = subst (λ (t : Station). Wakes c wd w x.phase f t) e (rows selective k c wd w z f fs y b h) in
    let given : t.sent ≤ length t.handed =
    subst (λ (t : Station). t.sent ≤ length t.handed) e (row_keeps selective k w z f fs y b).0.0.given in
    subst (λ (u : Station). InCall c wd w x.phase u × (IsPolite f → is_down x.phase ≡ false → is_down u.phase ≡ false)) (sym (received selective now (found y f) x))
    (cond_both (is_down x.phase) x (sends_waiting t) (λ u. InCall c wd w x.phase u × (IsPolite f → is_down x.phase ≡ false → is_down u.phase ≡ false))
    (λ down. (down_in c wd w x down b.0.0.given h, λ polite live. live))
    (λ live. (waiting_in c wd w x.phase t given g.2 g.0, λ polite l. ap is_down (up_to_phase c wd w (waiting t) t) ∙ g.1 polite l)))

pub answered_lives : ControlReadsBack → (selective : Bool) (k : ℕ) (c : Bool) (wd : ℕ) (w : List Frame) (now : ℕ) (x : Station) (f : Frame) (fs : List Frame) (y : Station)
    → Both selective k w x (f ∷ fs) y → OwnIn c wd w x → Lives c wd w x.phase f (answered selective now y f x)
answered_lives law selective k c wd w now x f fs y b h =
    let t : Station = receives_as selective now (found y f) x in
    let g = received_lives law selective k c wd w now x f fs y b h in
    (finishes_leaves c wd w x.phase t g.0, λ polite l. ap is_down (phases_stay.finishes t) ∙ g.1 polite l)
