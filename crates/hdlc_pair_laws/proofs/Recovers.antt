-- Two stations behind a tick that found each running T1 expired: while frames are given and payloads are handed down, all that was sent comes.
-- Everywhere x acts and y doesn't, w waited from x before the call, and c says whether x is the calling station.
use Rattle.std.proofs.Common.{◌≡◌, ℕ, ◌⊎◌, inl, inr, Bool, true, false, not, List, [], ◌∷◌, ◌++◌, length, None, refl, sym, ◌∙◌, ap, subst, arith, append-nil, append_assoc, eq-eqb, true≢false}
use Rattle.std.specs.Prelude.{◌==◌}
use Rattle.std.proofs.lemmas.Bool.{cond_both}
use Rattle.hdlc_frames.specs.Laws.{ControlReadsBack}
use Rattle.hdlc_station_model.specs.declared.phase.Phase.{Phase}
use Rattle.hdlc_station_model.specs.declared.phase.Phase.TheVariants.{Idle, Up}
use Rattle.hdlc_station_model.specs.Frames.{Frame, SetUp, Ua, set_up, shown, information}
use Rattle.hdlc_station_model.specs.Stations.{Station, is_up, is_down, sees, settled}
use Rattle.hdlc_station_model.specs.Sending.{sends_waiting, refuses_frame}
use Rattle.hdlc_station_model.specs.Receiving.{agrees, comes_up}
use Rattle.hdlc_station_model.specs.Selective.{held_for, receives_as}
use Rattle.hdlc_station_model.specs.Calls.{hands, finishes}
use Rattle.hdlc_pair_laws.specs.Invariant.{IsStationPair, Both, Early, infos, receive_numbers_in_frames}
use Rattle.hdlc_pair_laws.specs.Keeping.{found}
use Rattle.hdlc_pair_laws.specs.Mending.{Own, HasAllSentComing, Mends, MendsSome, HasSetUpFrameWaiting, HasSetUpAnswerWaiting, Progress, Lossy, HalfTicked, Ticked, Shown, OneWay, Reached, MayHear, MaySpeak}
use Rattle.hdlc_pair_laws.proofs.Ways.{way_bounds}
use Rattle.hdlc_pair_laws.proofs.Rows.{set_up_at}
use Rattle.hdlc_pair_laws.proofs.Hearing.{row_as}
use Rattle.hdlc_pair_laws.proofs.Lines.{answered}
use Rattle.hdlc_pair_laws.proofs.Flows.{heard_live, heard_row}
use Rattle.hdlc_pair_laws.proofs.Delivers.{early_cannot, cannot_yet, sets_up, agreed_row}
use Rattle.hdlc_pair_laws.proofs.LossFree.{unsent, unsent_hands, unsent_finishes}
use Rattle.hdlc_pair_laws.proofs.Sound.{OwnIn}
use Rattle.hdlc_pair_laws.proofs.Sounds.{Claim, ToR, ToE, own_begun}
use Rattle.hdlc_pair_laws.proofs.Mending.{MendsIn, MendsSomeIn, mends_swap, some_swap, to_some, of_some, waiting_some, hands_some, finishes_some, waiting_mends, hands_mends, finishes_mends}
use Rattle.hdlc_pair_laws.proofs.MendRows.{go_back_some, selective_some}
use Rattle.hdlc_pair_laws.proofs.Repeats.{hands_fires, finishes_fires, hands_shows, finishes_shows}

-- ---- the calls but the tick keep what is reached

abbrev pub ReachedIn : Progress → (selective c : Bool) → List Frame → Station → List Frame → Station → Type 0
ReachedIn p selective c w x l y = Reached p selective c (w ++ x.said) x l y

pub turned_reached : (p : Progress) (selective c : Bool) (lx : List Frame) (x : Station) (ly : List Frame) (y : Station) → Reached p selective c lx x ly y
    → Reached p selective (not c) ly y lx x
turned_reached Lossy selective c lx x ly y h = tt
turned_reached HalfTicked selective true lx x ly y h = h
turned_reached HalfTicked selective false lx x ly y h = h
turned_reached Ticked selective true lx x ly y (inl a) = inl a
turned_reached Ticked selective true lx x ly y (inr (inl a)) = inr (inl a)
turned_reached Ticked selective true lx x ly y (inr (inr m)) = inr (inr (mends_swap selective lx x ly y m))
turned_reached Ticked selective false lx x ly y (inl a) = inl a
turned_reached Ticked selective false lx x ly y (inr (inl a)) = inr (inl a)
turned_reached Ticked selective false lx x ly y (inr (inr m)) = inr (inr (mends_swap selective lx x ly y m))
turned_reached Shown selective true lx x ly y h = h
turned_reached Shown selective false lx x ly y h = h
turned_reached (OneWay true) selective true lx x ly y h = some_swap selective true false lx x ly y h
turned_reached (OneWay true) selective false lx x ly y h = some_swap selective false true lx x ly y h
turned_reached (OneWay false) selective true lx x ly y h = some_swap selective false true lx x ly y h
turned_reached (OneWay false) selective false lx x ly y h = some_swap selective true false lx x ly y h

-- between two calls nothing is said and nothing is told
pub settled_reached : (p : Progress) (selective c : Bool) (lx : List Frame) (x : Station) (ly : List Frame) (y : Station) → Reached p selective c lx x ly y
    → Reached p selective c lx (settled x) ly y
settled_reached Lossy selective c lx x ly y h = tt
settled_reached HalfTicked selective true lx x ly y h = h
settled_reached HalfTicked selective false lx x ly y h = h
settled_reached Ticked selective true lx x ly y h = h
settled_reached Ticked selective false lx x ly y h = h
settled_reached Shown selective true lx x ly y h = h
settled_reached Shown selective false lx x ly y h = h
settled_reached (OneWay true) selective true lx x ly y h = h
settled_reached (OneWay true) selective false lx x ly y h = h
settled_reached (OneWay false) selective true lx x ly y h = h
settled_reached (OneWay false) selective false lx x ly y h = h

pub finished_reached : (p : Progress) (selective c : Bool) (w : List Frame) (x : Station) (l : List Frame) (y : Station) → MaySpeak p c → ReachedIn p selective c w x l y
    → ReachedIn p selective c w (finishes x) l y
finished_reached Lossy selective c w x l y may h = tt
finished_reached HalfTicked selective true w x l y may (inl a) = subst (λ (t : Station). ReachedIn HalfTicked selective true w t l y) (sym (unsent_finishes x a.4.0)) (inl a)
finished_reached HalfTicked selective true w x l y may (inr h) = inr (finishes_fires w x h.0, h.1, h.2)
finished_reached HalfTicked selective false w x l y may h = absurd may
finished_reached Ticked selective true w x l y may (inl a) = subst (λ (t : Station). ReachedIn Ticked selective true w t l y) (sym (unsent_finishes x a.4.0)) (inl a)
finished_reached Ticked selective true w x l y may (inr (inl a)) = subst (λ (t : Station). ReachedIn Ticked selective true w t l y) (sym (unsent_finishes x a.4.0)) (inr (inl a))
finished_reached Ticked selective true w x l y may (inr (inr m)) = inr (inr (finishes_mends selective w l y x m))
finished_reached Ticked selective false w x l y may (inl a) = subst (λ (t : Station). ReachedIn Ticked selective false w t l y) (sym (unsent_finishes x a.4.1)) (inl a)
finished_reached Ticked selective false w x l y may (inr (inl a)) = subst (λ (t : Station). ReachedIn Ticked selective false w t l y) (sym (unsent_finishes x a.4.1)) (inr (inl a))
finished_reached Ticked selective false w x l y may (inr (inr m)) = inr (inr (finishes_mends selective w l y x m))
finished_reached Shown selective true w x l y may h = (finishes_shows w x h.0, h.1, h.2)
finished_reached Shown selective false w x l y may h = absurd may
finished_reached (OneWay true) selective true w x l y may h = finishes_some selective true false w l y x h
finished_reached (OneWay true) selective false w x l y may h = finishes_some selective false true w l y x h
finished_reached (OneWay false) selective true w x l y may h = finishes_some selective false true w l y x h
finished_reached (OneWay false) selective false w x l y may h = finishes_some selective true false w l y x h

-- before both are up no payload is sent
pub handed_reached : (p : Progress) (selective c : Bool) (w : List Frame) (now : ℕ) (q : List ℕ) (x : Station) (l : List Frame) (y : Station) → MaySpeak p c → x.calling ≡ c
    → ReachedIn p selective c w x l y → ReachedIn p selective c w (hands now q x) l y
handed_reached Lossy selective c w now q x l y may is h = tt
handed_reached HalfTicked selective true w now q x l y may is (inl a) =
    subst (λ (t : Station). ReachedIn HalfTicked selective true w t l y) (sym (unsent_hands now q x (ap is_down a.0) (early_cannot x (ap is_up a.0)))) (inl a)
handed_reached HalfTicked selective true w now q x l y may is (inr h) = inr (hands_fires w now q x h.0, h.1, h.2)
handed_reached HalfTicked selective false w now q x l y may is h = absurd may
handed_reached Ticked selective true w now q x l y may is (inl a) =
    subst (λ (t : Station). ReachedIn Ticked selective true w t l y) (sym (unsent_hands now q x (ap is_down a.0) (early_cannot x (ap is_up a.0)))) (inl a)
handed_reached Ticked selective true w now q x l y may is (inr (inl a)) =
    subst (λ (t : Station). ReachedIn Ticked selective true w t l y) (sym (unsent_hands now q x (ap is_down a.0) (early_cannot x (ap is_up a.0)))) (inr (inl a))
handed_reached Ticked selective true w now q x l y may is (inr (inr m)) = inr (inr (hands_mends selective w l y now q x m))
handed_reached Ticked selective false w now q x l y may is (inl a) =
    let live : is_down x.phase ≡ false = elim a.3 [ inl idle ↦ ap is_down idle | inr up ↦ ap is_down up ] in
    subst (λ (t : Station). ReachedIn Ticked selective false w t l y) (sym (unsent_hands now q x live (cannot_yet x is a.4.2))) (inl a)
handed_reached Ticked selective false w now q x l y may is (inr (inl a)) =
    subst (λ (t : Station). ReachedIn Ticked selective false w t l y) (sym (unsent_hands now q x (ap is_down a.3) (cannot_yet x is a.4.2))) (inr (inl a))
handed_reached Ticked selective false w now q x l y may is (inr (inr m)) = inr (inr (hands_mends selective w l y now q x m))
handed_reached Shown selective true w now q x l y may is h = (hands_shows w now q x h.0, h.1, h.2)
handed_reached Shown selective false w now q x l y may is h = absurd may
handed_reached (OneWay true) selective true w now q x l y may is h = hands_some selective true false w l y now q x h
handed_reached (OneWay true) selective false w now q x l y may is h = hands_some selective false true w l y now q x h
handed_reached (OneWay false) selective true w now q x l y may is h = hands_some selective false true w l y now q x h
handed_reached (OneWay false) selective false w now q x l y may is h = hands_some selective true false w l y now q x h

-- ---- both are up: a frame comes

pub received_some : ControlReadsBack → (selective out back : Bool) (k now : ℕ) (w : List Frame) (x : Station) (f : Frame) (fs : List Frame) (y : Station) → Both selective k w x (f ∷ fs) y
    → (selective ≡ true → k ≡ x.window) → held_for (length x.taken) x.held ≡ None → MendsSome selective out back (w ++ x.said) x (f ∷ fs) y
    → MendsSomeIn selective out back w (receives_as selective now (found y f) x) fs y
received_some law selective out back k now w x f fs y b wide free h =
    let z : Station = sees now x in
    let e = heard_live selective now (found y f) x (ap is_down h.0.4) in
    let row = heard_row law selective k (w ++ x.said) z f fs y b ∙ ap (λ (q : Phase). row_as selective q z (shown x.extended f) (information f)) h.0.4 in
    subst (λ (t : Station). MendsSomeIn selective out back w t fs y) (sym (e ∙ ap sends_waiting row))
    (waiting_some selective out back w fs y (row_as selective Up z (shown x.extended f) (information f)) (rows selective k w z f fs y b wide free h))
  where
    rows : (selective : Bool) (k : ℕ) (w : List Frame) (x : Station) (f : Frame) (fs : List Frame) (y : Station) → Both selective k w x (f ∷ fs) y
        → (selective ≡ true → k ≡ x.window) → held_for (length x.taken) x.held ≡ None → MendsSome selective out back (w ++ x.said) x (f ∷ fs) y
        → MendsSomeIn selective out back w (row_as selective Up x (shown x.extended f) (information f)) fs y
    rows true k w x f fs y b wide free h = selective_some out back k w w x f fs fs y b (wide refl) free h
    rows false k w x f fs y b wide free h = go_back_some out back k w x f fs y y b h

pub received_mends : ControlReadsBack → (selective : Bool) (k now : ℕ) (w : List Frame) (x : Station) (f : Frame) (fs : List Frame) (y : Station) → Both selective k w x (f ∷ fs) y
    → (selective ≡ true → k ≡ x.window) → held_for (length x.taken) x.held ≡ None → Mends selective (w ++ x.said) x (f ∷ fs) y
    → MendsIn selective w (receives_as selective now (found y f) x) fs y
received_mends law selective k now w x f fs y b wide free h =
    let t : Station = receives_as selective now (found y f) x in
    of_some selective (w ++ t.said) t fs y (received_some law selective true true k now w x f fs y b wide free (to_some selective (w ++ x.said) x (f ∷ fs) y h))

-- ---- the set-up frame comes to the called station

-- what it says
record Said (p : Phase) (x t : Station) : Type 0 where
  said : t.said ≡ x.said ++ Ua true ∷ []
  up : t.phase ≡ Up
  calling : t.calling ≡ x.calling
  taken : t.taken ≡ x.taken
  owed : t.owed ≡ x.owed

said_again : (selective extended : Bool) (x : Station) → length x.taken ≡ 0 → x.phase ≡ Up → Said Up x (row_as selective Up x (set_up extended) [])
said_again true true x none up =
    cond_both (length x.taken == 0) (agrees true (record x { held = []; asked = [] })) (refuses_frame x) (Said Up x)
    (λ e. record { said = refl; up = up; calling = refl; taken = refl; owed = refl }) (λ e. absurd (true≢false (sym (eq-eqb _ _ none) ∙ e)))
said_again true false x none up =
    cond_both (length x.taken == 0) (agrees true (record x { held = []; asked = [] })) (refuses_frame x) (Said Up x)
    (λ e. record { said = refl; up = up; calling = refl; taken = refl; owed = refl }) (λ e. absurd (true≢false (sym (eq-eqb _ _ none) ∙ e)))
said_again false true x none up =
    cond_both (length x.taken == 0) (agrees true (record x { gap = false })) (refuses_frame x) (Said Up x)
    (λ e. record { said = refl; up = up; calling = refl; taken = refl; owed = refl }) (λ e. absurd (true≢false (sym (eq-eqb _ _ none) ∙ e)))
said_again false false x none up =
    cond_both (length x.taken == 0) (agrees true (record x { gap = false })) (refuses_frame x) (Said Up x)
    (λ e. record { said = refl; up = up; calling = refl; taken = refl; owed = refl }) (λ e. absurd (true≢false (sym (eq-eqb _ _ none) ∙ e)))

said_first : (selective : Bool) (x : Station) → Said Idle x (row_as selective Idle x (shown x.extended SetUp) [])
said_first selective x = subst (Said Idle x) (sym (sets_up selective x)) (record { said = refl; up = refl; calling = refl; taken = refl; owed = refl })

-- in Idle, or up
set_up_said : (selective : Bool) (p : Phase) (x : Station) → (p ≡ Idle) ⊎ (p ≡ Up) → x.phase ≡ p → length x.taken ≡ 0 → Said p x (row_as selective p x (shown x.extended SetUp) [])
set_up_said selective p x (inl e) is none = subst (λ (q : Phase). Said q x (row_as selective q x (shown x.extended SetUp) [])) (sym e) (said_first selective x)
set_up_said selective p x (inr e) is none = subst (λ (q : Phase). Said q x (row_as selective q x (shown x.extended SetUp) [])) (sym e) (said_again selective x.extended x none (is ∙ e))

-- and it has nothing else to say
set_up_received : ControlReadsBack → (selective : Bool) (k now : ℕ) (w : List Frame) (x : Station) (fs : List Frame) (y : Station) → Both selective k w x (SetUp ∷ fs) y
    → (x.phase ≡ Idle) ⊎ (x.phase ≡ Up) → Said x.phase x (receives_as selective now (found y SetUp) x)
set_up_received law selective k now w x fs y b phase =
    let z : Station = sees now x in
    let live : is_down x.phase ≡ false = elim phase [ inl idle ↦ ap is_down idle | inr up ↦ ap is_down up ] in
    let at = set_up_at selective k (w ++ x.said) x fs y b in
    let t : Station = row_as selective x.phase z (shown x.extended SetUp) [] in
    let s : Said x.phase z t = set_up_said selective x.phase z phase refl at.1 in
    let e : receives_as selective now (found y SetUp) x ≡ t =
    heard_live selective now (found y SetUp) x live ∙ ap sends_waiting (heard_row law selective k (w ++ x.said) z SetUp fs y b)
    ∙ unsent t (cannot_yet t (s.calling ∙ at.0) (ap length s.taken ∙ at.1)) in
    subst (Said x.phase x) (sym e) (record { said = s.said; up = s.up; calling = s.calling; taken = s.taken; owed = s.owed })

first_is : (f g : Frame) (fs gs : List Frame) → f ∷ fs ≡ g ∷ gs → (f ≡ g) × (fs ≡ gs)
first_is f g fs gs e = (cc, cc)

asked_received : ControlReadsBack → (selective : Bool) (k now : ℕ) (w : List Frame) (x : Station) (f : Frame) (fs : List Frame) (y : Station) → Both selective k w x (f ∷ fs) y
    → HasSetUpFrameWaiting (f ∷ fs) y (w ++ x.said) x → HasSetUpAnswerWaiting fs y (w ++ (receives_as selective now (found y f) x).said) (receives_as selective now (found y f) x)
asked_received law selective k now w x f fs y b a =
    let first = first_is f SetUp fs [] a.1 in
    let s = set_up_received law selective k now w x fs y (subst (λ (g : Frame). Both selective k w x (g ∷ fs) y) first.0 b) a.3 in
    subst (λ (g : Frame). HasSetUpAnswerWaiting fs y (w ++ (receives_as selective now (found y g) x).said) (receives_as selective now (found y g) x)) (sym first.0) (
      a.0,
      first.1,
      ap (λ (t : List Frame). w ++ t) s.said ∙ sym (append_assoc w x.said (Ua true ∷ [])) ∙ ap (λ (t : List Frame). t ++ Ua true ∷ []) a.2,
      s.up,
      (a.4.0, s.owed ∙ a.4.1, ap length s.taken ∙ a.4.2),
    )

-- ---- its answer comes to the calling one

comes_none : (selective : Bool) (next sent : ℕ) (held : List (ℕ × List ℕ)) → next ≡ sent → HasAllSentComing selective next held [] sent
comes_none true next sent held e = λ m low high. absurd (let u : ⊥ = omega (arith, e, low, high) in u)
comes_none false next sent held e = e

-- nothing was sent
none_mends : (selective : Bool) (k : ℕ) (lx : List Frame) (x : Station) (y : Station) (p : Phase) → p ≡ Up → lx ≡ [] → x.sent ≡ 0 → (length y.taken ≡ 0 → y.sent ≡ 0) → y.phase ≡ Up
    → IsStationPair selective k lx x [] y → Mends selective lx (record x { phase = p }) [] y
none_mends selective k lx x y p up none unsent first up_y h =
    let bx = way_bounds k x.handed x.acked x.sent y.taken (infos lx) (receive_numbers_in_frames []) h.0.0 in
    let by = way_bounds k y.handed y.acked y.sent x.taken (infos []) (receive_numbers_in_frames lx) h.1.0 in
    let taken : length y.taken ≡ 0 = omega (arith, bx.1, unsent) in
    let sent : y.sent ≡ 0 = first taken in
    subst (λ (l : List Frame). Mends selective l (record x { phase = p }) [] y) (sym none) (
      (
        (comes_none selective (length y.taken) x.sent y.held (taken ∙ sym unsent), λ owes n. omega (arith, bx.0, taken)),
        comes_none selective (length x.taken) y.sent x.held (omega (arith, by.1, sent)),
        tt,
        tt,
        up,
        up_y,
      ),
      λ owes n. omega (arith, by.0, by.1, sent),
    )

agreed_received : ControlReadsBack → (selective : Bool) (k now : ℕ) (w : List Frame) (x : Station) (f : Frame) (fs : List Frame) (y : Station) → Both selective k w x (f ∷ fs) y
    → (length y.taken ≡ 0 → y.sent ≡ 0) → HasSetUpAnswerWaiting (w ++ x.said) x (f ∷ fs) y → MendsIn selective w (receives_as selective now (found y f) x) fs y
agreed_received law selective k now w x f fs y b silent a =
    let first = first_is f (Ua true) fs [] a.2 in
    let q : Both selective k w x (Ua true ∷ []) y = subst (λ (g : Frame). Both selective k w x (g ∷ []) y) first.0 (subst (λ (l : List Frame). Both selective k w x (f ∷ l) y) first.1 b) in
    let z : Station = sees now x in
    let v : Station = record z { timer = None; expiries = 0 } in
    let unsent : x.sent ≡ 0 = (subst (λ (p : Phase). Early p x.calling x.sent) a.0 b.0.2).0 in
    let m : MendsIn selective w (comes_up v) [] y = none_mends selective k (w ++ x.said) x y Up refl a.1 unsent silent a.3 q in
    let e : receives_as selective now (found y (Ua true)) x ≡ sends_waiting (comes_up v) =
    heard_live selective now (found y (Ua true)) x (ap is_down a.0)
    ∙ ap sends_waiting (heard_row law selective k (w ++ x.said) z (Ua true) [] y q ∙ ap (λ (p : Phase). row_as selective p z (shown x.extended (Ua true)) []) a.0 ∙ agreed_row selective z) in
    subst (λ (l : List Frame). MendsIn selective w (receives_as selective now (found y f) x) l y) (sym first.1)
    (subst (λ (t : Station). MendsIn selective w t [] y) (sym (ap (λ (g : Frame). receives_as selective now (found y g) x) first.0 ∙ e)) (waiting_mends selective w [] y (comes_up v) m))

-- ---- a frame comes

pub received_reached : ControlReadsBack → (p : Progress) (selective c : Bool) (k wd : ℕ) (w : List Frame) (now : ℕ) (x : Station) (f : Frame) (fs : List Frame) (y : Station) → MayHear p
    → (selective ≡ true → k ≡ wd) → Both selective k w x (f ∷ fs) y → OwnIn c wd w x → Own (not c) wd (f ∷ fs) y
    → ReachedIn p selective c w x (f ∷ fs) y → ReachedIn p selective c w (receives_as selective now (found y f) x) fs y
received_reached law Lossy selective c k wd w now x f fs y may wide b own peers h = tt
received_reached law HalfTicked selective c k wd w now x f fs y may wide b own peers h = absurd may
received_reached law Ticked selective true k wd w now x f fs y may wide b own peers (inl a) = absurd (let e : f ∷ fs ≡ [] = a.2 in let u : ⊥ = cc in u)
received_reached law Ticked selective true k wd w now x f fs y may wide b own peers (inr (inl a)) = inr (inr (agreed_received law selective k now w x f fs y b (peers.3 refl) a))
received_reached law Ticked selective true k wd w now x f fs y may wide b own peers (inr (inr m)) =
    inr (inr (received_mends law selective k now w x f fs y b (λ s. wide s ∙ sym own.1) own.5 m))
received_reached law Ticked selective false k wd w now x f fs y may wide b own peers (inl a) = inr (inl (asked_received law selective k now w x f fs y b a))
received_reached law Ticked selective false k wd w now x f fs y may wide b own peers (inr (inl a)) = absurd (let e : f ∷ fs ≡ [] = a.1 in let u : ⊥ = cc in u)
received_reached law Ticked selective false k wd w now x f fs y may wide b own peers (inr (inr m)) =
    inr (inr (received_mends law selective k now w x f fs y b (λ s. wide s ∙ sym own.1) own.5 m))
received_reached law Shown selective c k wd w now x f fs y may wide b own peers h = absurd may
received_reached law (OneWay true) selective true k wd w now x f fs y may wide b own peers h =
    received_some law selective true false k now w x f fs y b (λ s. wide s ∙ sym own.1) own.5 h
received_reached law (OneWay true) selective false k wd w now x f fs y may wide b own peers h =
    received_some law selective false true k now w x f fs y b (λ s. wide s ∙ sym own.1) own.5 h
received_reached law (OneWay false) selective true k wd w now x f fs y may wide b own peers h =
    received_some law selective false true k now w x f fs y b (λ s. wide s ∙ sym own.1) own.5 h
received_reached law (OneWay false) selective false k wd w now x f fs y may wide b own peers h =
    received_some law selective true false k now w x f fs y b (λ s. wide s ∙ sym own.1) own.5 h

-- ---- the claim outlasts each pass

abbrev pub Recovers : Claim
Recovers selective fe e fr r = Reached Ticked selective true fe e fr r

-- with the answer that is owed
answered_reached : ControlReadsBack → (selective c : Bool) (k wd now : ℕ) (w : List Frame) (x : Station) (f : Frame) (fs : List Frame) (y : Station) → (selective ≡ true → k ≡ wd) → x.said ≡ []
    → Both selective k w x (f ∷ fs) y → Own c wd w x → Own (not c) wd (f ∷ fs) y → Reached Ticked selective c w x (f ∷ fs) y
    → ReachedIn Ticked selective c w (answered selective now y f x) fs y
answered_reached law selective c k wd now w x f fs y wide quiet b own peers h =
    let unsaid : w ++ x.said ≡ w = ap (λ (t : List Frame). w ++ t) quiet ∙ append-nil w in
    finished_reached Ticked selective c w (receives_as selective now (found y f) x) fs y tt
    (received_reached law Ticked selective c k wd w now x f fs y tt wide b (own_begun c wd w x quiet own) peers
    (subst (λ (t : List Frame). Reached Ticked selective c t x (f ∷ fs) y) (sym unsaid) h))

pub recovers_to_r : ControlReadsBack → (wd : ℕ) → ToR wd Recovers
recovers_to_r law wd selective k now fr r f fs e wide quiet b own_r own_e rests_r rests_e h =
    let x : Station = answered selective now e f r in
    let g = answered_reached law selective false k wd now fr r f fs e wide quiet b own_r own_e (turned_reached Ticked selective true (f ∷ fs) e fr r h) in
    turned_reached Ticked selective false (fr ++ x.said) (settled x) fs e (settled_reached Ticked selective false (fr ++ x.said) x fs e g)

pub recovers_to_e : ControlReadsBack → (wd : ℕ) → ToE wd Recovers
recovers_to_e law wd selective k now fe e f fs r wide quiet b own_e own_r rests_e rests_r h =
    let x : Station = answered selective now r f e in
    settled_reached Ticked selective true (fe ++ x.said) x fs r (answered_reached law selective true k wd now fe e f fs r wide quiet b own_e own_r h)
