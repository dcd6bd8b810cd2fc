-- Two stations that are up, once one sent again what was unacknowledged, or each did: while frames are given alone, what waits leads to all that it
-- sent. What a station sends keeps that. Everywhere x acts and y doesn't, and w waited from x before the call; out says that it is claimed of what x
-- sends, back of what y sends.
use Rattle.std.proofs.Common.{if◌then◌else◌, ◌≡◌, ℕ, zero, suc, ◌+◌, ◌-◌, ◌<◌, ◌≤◌, inl, inr, Bool, true, false, List, [], ◌∷◌, ◌++◌, length, map, refl, sym, ◌∙◌, ap, subst, arith, append_assoc, append-nil, eq-eqb, eqb-true}
use Rattle.std.specs.Prelude.{slice_index_or, ◌==◌}
use Rattle.std.proofs.lemmas.Bool.{cases_Bool, cases_lt, cond_both}
use Rattle.hdlc_station_model.specs.Frames.{Frame, Rr, Srej}
use Rattle.hdlc_station_model.specs.Stations.{Station, is_down, sees, puts}
use Rattle.hdlc_station_model.specs.Sending.{info_at, can_send, waiting, frames_again, sends_next, sends_up_to, sends_waiting, sends_again, settles}
use Rattle.hdlc_station_model.specs.Calls.{hands, finishes}
use Rattle.hdlc_pair_laws.specs.Invariant.{infos, receive_numbers_in_frames, info_of, receive_numbers_in_frame}
use Rattle.hdlc_pair_laws.specs.Flowing.{EndsAtNumber}
use Rattle.hdlc_pair_laws.specs.Mending.{AllExchange, HasAllSentComing, IsExchange, Mends, MendsSome, NearSome, Toward, Waits, leads}
use Rattle.hdlc_pair_laws.proofs.Keeps.{more}
use Rattle.hdlc_pair_laws.proofs.Flows.{ends_push}

-- ---- what waits

pub mends_swap : (selective : Bool) (lx : List Frame) (x : Station) (ly : List Frame) (y : Station) → Mends selective lx x ly y → Mends selective ly y lx x
mends_swap selective lx x ly y h = (((h.0.1, h.1), h.0.0.0, h.0.3, h.0.2, h.0.5, h.0.4), h.0.0.1)

pub some_swap : (selective out back : Bool) (lx : List Frame) (x : Station) (ly : List Frame) (y : Station) → MendsSome selective out back lx x ly y → MendsSome selective back out ly y lx x
some_swap selective out back lx x ly y h = ((λ is. (h.0.1 is, h.1 is), λ is. (h.0.0 is).0, h.0.3, h.0.2, h.0.5, h.0.4), λ is. (h.0.0 is).1)

-- both ways
pub to_some : (selective : Bool) (lx : List Frame) (x : Station) (ly : List Frame) (y : Station) → Mends selective lx x ly y → MendsSome selective true true lx x ly y
to_some selective lx x ly y h = ((λ is. h.0.0, λ is. h.0.1, h.0.2, h.0.3, h.0.4, h.0.5), λ is. h.1)

pub of_some : (selective : Bool) (lx : List Frame) (x : Station) (ly : List Frame) (y : Station) → MendsSome selective true true lx x ly y → Mends selective lx x ly y
of_some selective lx x ly y h = ((h.0.0 refl, h.0.1 refl, h.0.2, h.0.3, h.0.4, h.0.5), h.1 refl)

-- ---- one I frame more

pub leads_append : (next : ℕ) (fs gs : List (ℕ × List ℕ)) → leads next (fs ++ gs) ≡ leads (leads next fs) gs
leads_append next [] gs = refl
leads_append next (f ∷ fs) gs =
    cond_both (next == f.0) (leads (next + 1) fs) (leads next fs) (λ t. (if next == f.0 then leads (next + 1) (fs ++ gs) else leads next (fs ++ gs)) ≡ leads t gs)
    (λ e. rw e (leads_append (next + 1) fs gs)) (λ e. rw e (leads_append next fs gs))

waits_push : (m : ℕ) (fs : List (ℕ × List ℕ)) (f : ℕ × List ℕ) → Waits m fs → Waits m (fs ++ f ∷ [])
waits_push m [] f h = absurd h
waits_push m (g ∷ fs) f (inl e) = inl e
waits_push m (g ∷ fs) f (inr h) = inr (waits_push m fs f h)

pub waits_last : (m : ℕ) (fs : List (ℕ × List ℕ)) (p : List ℕ) → Waits m (fs ++ (m, p) ∷ [])
waits_last m [] p = inl refl
waits_last m (g ∷ fs) p = inr (waits_last m fs p)

-- again
comes_again : (selective : Bool) (next sent n : ℕ) (p : List ℕ) (held waits : List (ℕ × List ℕ)) → n < sent → HasAllSentComing selective next held waits sent
    → HasAllSentComing selective next held (waits ++ (n, p) ∷ []) sent
comes_again true next sent n p held waits below h = λ m low high. elim (h m low high) [ inl is ↦ inl is | inr w ↦ inr (waits_push m waits (n, p) w) ]
comes_again false next sent n p held waits below h =
    leads_append next waits ((n, p) ∷ [])
    ∙ ap (λ (j : ℕ). leads j ((n, p) ∷ [])) h
    ∙ cond_both (sent == n) (sent + 1) sent (λ t. t ≡ sent) (λ e. absurd (let s = eqb-true sent n e in let u : ⊥ = omega (arith, s, below) in u)) (λ e. refl)

-- for the first time
comes_first : (selective : Bool) (next sent : ℕ) (p : List ℕ) (held waits : List (ℕ × List ℕ)) → HasAllSentComing selective next held waits sent
    → HasAllSentComing selective next held (waits ++ (sent, p) ∷ []) (sent + 1)
comes_first true next sent p held waits h = λ m low high. elim (cases_lt m sent) [
  | inl lower ↦ elim (h m low lower) [ inl is ↦ inl is | inr w ↦ inr (waits_push m waits (sent, p) w) ]
  | inr last ↦
      let e : sent ≡ m = omega (arith, last, high) in
      inr (subst (λ (j : ℕ). Waits m (waits ++ (j, p) ∷ [])) (sym e) (waits_last m waits p))
]
comes_first false next sent p held waits h =
    leads_append next waits ((sent, p) ∷ [])
    ∙ ap (λ (j : ℕ). leads j ((sent, p) ∷ [])) h
    ∙ ap (λ (b : Bool). if b then sent + 1 else sent) (eq-eqb sent sent refl)

pub not_none : (fs : List (ℕ × List ℕ)) (f : ℕ × List ℕ) → fs ++ f ∷ [] ≡ [] → ⊥
not_none [] f e = absurd cc
not_none (g ∷ fs) f e = absurd cc

pub exchange_push : (l : List Frame) (f : Frame) → AllExchange l → IsExchange f → AllExchange (l ++ f ∷ [])
exchange_push [] f h p = (p, tt)
exchange_push (g ∷ gs) f h p = (h.0, exchange_push gs f h.1 p)

module _ (selective out back : Bool) (lx : List Frame) (x : Station) (ly : List Frame) (y : Station) (owed : Bool) where
  -- a frame that shows V(R) and is no I frame: whatever was owed
  shown_mends : (f : Frame) → IsExchange f → info_of f ≡ [] → receive_numbers_in_frame f ≡ length x.taken ∷ [] → NearSome selective out back lx x ly y
      → MendsSome selective out back (lx ++ f ∷ []) (record x { owed = owed }) ly y
  shown_mends f is e1 e2 h = (
    (
      λ way. subst (λ i. Toward selective i (receive_numbers_in_frames ly) x y) (sym (more info_of lx f ∙ ap (λ t. infos lx ++ t) e1 ∙ append-nil (infos lx))) (h.0 way),
      h.1,
      exchange_push lx f h.2 is,
      h.3,
      h.4,
      h.5,
    ),
    λ way owes none. subst (λ ns. EndsAtNumber y.acked ns (length x.taken)) (sym (more receive_numbers_in_frame lx f ∙ ap (λ t. receive_numbers_in_frames lx ++ t) e2)) (ends_push y.acked (length x.taken) (receive_numbers_in_frames lx)),
  )

  -- an I frame again
  again_mends : (n : ℕ) → n < x.sent → NearSome selective out back lx x ly y → MendsSome selective out back (lx ++ info_at x n ∷ []) (record x { owed = owed }) ly y
  again_mends n below h =
      let f : Frame = info_at x n in
      let p : List ℕ = slice_index_or x.handed n [] in (
        (
          λ way. subst (λ i. Toward selective i (receive_numbers_in_frames ly) x y) (sym (more info_of lx f))
              (comes_again selective (length y.taken) x.sent n p y.held (infos lx) below (h.0 way).0, λ owes none. absurd (not_none (infos lx) (n, p) none)),
          h.1,
          exchange_push lx f h.2 tt,
          h.3,
          h.4,
          h.5,
        ),
        λ way owes none. subst (λ ns. EndsAtNumber y.acked ns (length x.taken)) (sym (more receive_numbers_in_frame lx f)) (ends_push y.acked (length x.taken) (receive_numbers_in_frames lx)),
      )

  -- the next one
  first_mends : NearSome selective out back lx x ly y → MendsSome selective out back (lx ++ info_at x x.sent ∷ []) (record x { sent = x.sent + 1; owed = owed }) ly y
  first_mends h =
      let f : Frame = info_at x x.sent in
      let p : List ℕ = slice_index_or x.handed x.sent [] in (
        (
          λ way. subst (λ i. Toward selective i (receive_numbers_in_frames ly) (record x { sent = x.sent + 1 }) y) (sym (more info_of lx f))
              (comes_first selective (length y.taken) x.sent p y.held (infos lx) (h.0 way).0, λ owes none. absurd (not_none (infos lx) (x.sent, p) none)),
          h.1,
          exchange_push lx f h.2 tt,
          h.3,
          h.4,
          h.5,
        ),
        λ way owes none. subst (λ ns. EndsAtNumber y.acked ns (length x.taken)) (sym (more receive_numbers_in_frame lx f)) (ends_push y.acked (length x.taken) (receive_numbers_in_frames lx)),
      )

-- ---- within a call

abbrev pub NearSomeIn : (selective out back : Bool) → List Frame → Station → List Frame → Station → Type 0
NearSomeIn selective out back w x l y = NearSome selective out back (w ++ x.said) x l y

abbrev pub MendsSomeIn : (selective out back : Bool) → List Frame → Station → List Frame → Station → Type 0
MendsSomeIn selective out back w x l y = MendsSome selective out back (w ++ x.said) x l y

abbrev pub MendsIn : (selective : Bool) → List Frame → Station → List Frame → Station → Type 0
MendsIn selective w x l y = Mends selective (w ++ x.said) x l y

module _ (selective out back : Bool) (w : List Frame) (l : List Frame) (y : Station) where
  pub puts_shown_mends : (x : Station) (owed : Bool) (f : Frame) → IsExchange f → info_of f ≡ [] → receive_numbers_in_frame f ≡ length x.taken ∷ [] → NearSomeIn selective out back w x l y
      → MendsSomeIn selective out back w (record (puts f x) { owed = owed }) l y
  puts_shown_mends x owed f is e1 e2 h =
      subst (λ lx. MendsSome selective out back lx (record x { owed = owed }) l y) (append_assoc w x.said (f ∷ [])) (shown_mends selective out back (w ++ x.said) x l y owed f is e1 e2 h)

  pub puts_again_mends : (x : Station) (owed : Bool) (n : ℕ) → n < x.sent → NearSomeIn selective out back w x l y
      → MendsSomeIn selective out back w (record (puts (info_at x n) x) { owed = owed }) l y
  puts_again_mends x owed n below h =
      subst (λ lx. MendsSome selective out back lx (record x { owed = owed }) l y) (append_assoc w x.said (info_at x n ∷ [])) (again_mends selective out back (w ++ x.said) x l y owed n below h)

  -- SREJ frames
  pub asked_mends : (ms : List ℕ) (x : Station) → MendsSomeIn selective out back w x l y → MendsSomeIn selective out back w (record x { said = x.said ++ map Srej ms }) l y
  asked_mends [] x h = subst (λ t. MendsSome selective out back (w ++ t) x l y) (sym (append-nil x.said)) h
  asked_mends (m ∷ ms) x h =
      let lx : List Frame = w ++ x.said in
      let f : Frame = Srej m in
      subst (λ t. MendsSome selective out back (w ++ t) x l y) (append_assoc x.said (f ∷ []) (map Srej ms))
      (asked_mends ms (puts f x) (subst (λ lz. MendsSome selective out back lz x l y) (append_assoc w x.said (f ∷ [])) (
        (
          λ way. subst (λ i. Toward selective i (receive_numbers_in_frames l) x y) (sym (more info_of lx f ∙ append-nil (infos lx))) (h.0.0 way),
          h.0.1,
          exchange_push lx f h.0.2 tt,
          h.0.3,
          h.0.4,
          h.0.5,
        ),
        λ way owes none. subst (λ ns. EndsAtNumber y.acked ns (length x.taken)) (sym (more receive_numbers_in_frame lx f ∙ append-nil (receive_numbers_in_frames lx))) (h.1 way owes none),
      )))

  -- the frames from V(A) on, again
  some_again_mends : (x : Station) (n : ℕ) (owed : Bool) → x.acked + n ≤ x.sent → (n ≡ 0 → owed ≡ x.owed) → MendsSomeIn selective out back w x l y
      → MendsSome selective out back (w ++ (x.said ++ frames_again n x)) (record x { owed = owed }) l y
  some_again_mends x zero owed h same m =
      subst (λ t. MendsSome selective out back (w ++ t) (record x { owed = owed }) l y) (sym (append-nil x.said))
      (subst (λ (o : Bool). MendsSome selective out back (w ++ x.said) (record x { owed = o }) l y) (sym (same refl)) m)
  some_again_mends x (suc n) owed h same m =
      let f : Frame = info_at x (x.acked + n) in
      let e : (w ++ (x.said ++ frames_again n x)) ++ f ∷ [] ≡ w ++ (x.said ++ (frames_again n x ++ f ∷ [])) =
      append_assoc w (x.said ++ frames_again n x) (f ∷ []) ∙ ap (λ t. w ++ t) (append_assoc x.said (frames_again n x) (f ∷ [])) in
      subst (λ lx. MendsSome selective out back lx (record x { owed = owed }) l y) e
      (again_mends selective out back (w ++ (x.said ++ frames_again n x)) x l y owed (x.acked + n) (omega arith) (some_again_mends x n x.owed (omega arith) (λ e. refl) m).0)

  pub sends_again_mends : (x : Station) → x.acked ≤ x.sent → MendsSomeIn selective out back w x l y → MendsSomeIn selective out back w (sends_again x) l y
  sends_again_mends x le m =
      let n : ℕ = x.sent - x.acked in
      some_again_mends x n (if n == 0 then x.owed else false) (omega arith) (λ e. ap (λ (b : Bool). if b then x.owed else false) (eq-eqb n 0 e)) m

  -- payloads that may be sent are sent, and the owed answer
  up_to_mends : (n : ℕ) (x : Station) → MendsSomeIn selective out back w x l y → MendsSomeIn selective out back w (sends_up_to n x) l y
  up_to_mends zero x h = h
  up_to_mends (suc n) x h = elim (cases_Bool (can_send x)) [
    | inl can ↦ rw can (up_to_mends n (sends_next x)
        (subst (λ (lx : List Frame). MendsSome selective out back lx (record x { sent = x.sent + 1; owed = false }) l y) (append_assoc w x.said (info_at x x.sent ∷ []))
        (first_mends selective out back (w ++ x.said) x l y false h.0)))
    | inr cannot ↦ rw cannot h
  ]

  settles_mends : (x : Station) → MendsSomeIn selective out back w x l y → MendsSomeIn selective out back w (settles x) l y
  settles_mends x h =
      cond_both x.owed (record (puts (Rr (length x.taken)) x) { owed = false }) x (λ t. MendsSomeIn selective out back w t l y)
      (λ owed. puts_shown_mends x false (Rr (length x.taken)) tt refl refl h.0) (λ owes. h)

  -- ---- the calls

  pub waiting_some : (x : Station) → MendsSomeIn selective out back w x l y → MendsSomeIn selective out back w (sends_waiting x) l y
  waiting_some x h = up_to_mends (waiting x) x h

  pub hands_some : (now : ℕ) (q : List ℕ) (x : Station) → MendsSomeIn selective out back w x l y → MendsSomeIn selective out back w (hands now q x) l y
  hands_some now q x h =
      let z : Station = record (sees now x) { handed = x.handed ++ q ∷ [] } in
      cond_both (is_down x.phase) x (sends_waiting z) (λ t. MendsSomeIn selective out back w t l y) (λ down. h) (λ live. waiting_some z h)

  pub finishes_some : (x : Station) → MendsSomeIn selective out back w x l y → MendsSomeIn selective out back w (finishes x) l y
  finishes_some x h = cond_both (is_down x.phase) x (settles x) (λ t. MendsSomeIn selective out back w t l y) (λ e. h) (λ e. settles_mends x h)

-- ---- of both ways

module _ (selective : Bool) (w : List Frame) (l : List Frame) (y : Station) where
  pub waiting_mends : (x : Station) → MendsIn selective w x l y → MendsIn selective w (sends_waiting x) l y
  waiting_mends x h =
      let t : Station = sends_waiting x in
      of_some selective (w ++ t.said) t l y (waiting_some selective true true w l y x (to_some selective (w ++ x.said) x l y h))

  pub hands_mends : (now : ℕ) (q : List ℕ) (x : Station) → MendsIn selective w x l y → MendsIn selective w (hands now q x) l y
  hands_mends now q x h =
      let t : Station = hands now q x in
      of_some selective (w ++ t.said) t l y (hands_some selective true true w l y now q x (to_some selective (w ++ x.said) x l y h))

  pub finishes_mends : (x : Station) → MendsIn selective w x l y → MendsIn selective w (finishes x) l y
  finishes_mends x h =
      let t : Station = finishes x in
      of_some selective (w ++ t.said) t l y (finishes_some selective true true w l y x (to_some selective (w ++ x.said) x l y h))
