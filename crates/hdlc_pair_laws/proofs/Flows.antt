-- A loss-free line whose stations are both up: one station acts, and what flows keeps its shape.
use Rattle.std.proofs.Common.{if◌then◌else◌, ◌≡◌, ℕ, zero, suc, ◌+◌, ◌%◌, ◌<◌, ◌≤◌, inl, inr, Bool, true, false, not, List, [], ◌∷◌, ◌++◌, length, Option, Some, None, refl, sym, ◌∙◌, ap, subst, arith, length-append, append_assoc, append-nil, eq-eqb, true≢false}
use Rattle.std.specs.Prelude.{slice_index_or, nat_le, ◌-◌}
use Rattle.std.proofs.lemmas.Bool.{cases_Bool, cond_both}
use Rattle.std.specs.List.{filter}
use Rattle.hdlc_frames.specs.Framing.{Verdict, Frame as Frame_found}
use Rattle.hdlc_frames.specs.Laws.{ControlReadsBack}
use Rattle.hdlc_station_model.specs.declared.phase.Phase.{Phase}
use Rattle.hdlc_station_model.specs.declared.phase.Phase.TheVariants.{Up}
use Rattle.hdlc_station_model.specs.Frames.{Frame, Info, Rr, Rej, Srej, SetUp, Disc, Dm, Ua, modulo, shown, information, sent_address, sent_body}
use Rattle.hdlc_station_model.specs.Stations.{Station, is_down, sees, puts}
use Rattle.hdlc_station_model.specs.Sending.{info_at, can_send, waiting, sends_next, sends_up_to, sends_waiting, settles, expires, expires_if_due}
use Rattle.hdlc_station_model.specs.Receiving.{number_shown_as, acknowledges, acknowledging, accepts, rejects, takes, marks_busy}
use Rattle.hdlc_station_model.specs.Selective.{held_for, is_found, without_gap, takes_run, holds, says_next, files_at, files, receives_as}
use Rattle.hdlc_station_model.specs.Calls.{hands, finishes, ticks}
use Rattle.hdlc_station_model.specs.Events.{is_late}
use Rattle.hdlc_pair_laws.specs.Invariant.{IsStationPair, infos, receive_numbers_in_frames, marks, info_of, receive_numbers_in_frame}
use Rattle.hdlc_pair_laws.specs.Keeping.{found}
use Rattle.hdlc_pair_laws.specs.Flowing.{Consecutive, EndsAtNumber, IsData, AllData, one_if, IsStationFlow, AreReceiveReadyNumbersRising, Still, HasNoPayloadToSend, AtRest}
use Rattle.hdlc_pair_laws.proofs.Keeps.{more}
use Rattle.hdlc_pair_laws.proofs.Rows.{named_is, may_come}
use Rattle.hdlc_pair_laws.proofs.Hearing.{row_as, hears_as, received, frame_heard}
use Rattle.hdlc_pair_laws.proofs.Events.{not_not}
use Rattle.hdlc_pair_laws.proofs.Lines.{answered}

pub still_swap : (n : ℕ) (lx : List Frame) (x : Station) (ly : List Frame) (y : Station) → Still true n lx x ly y → Still false n ly y lx x
still_swap n lx x ly y h = (h.1, h.0, h.3, h.2, omega (arith, h.4), record { own = h.5.peers; peers = h.5.own })

pub still_back : (n : ℕ) (lx : List Frame) (x : Station) (ly : List Frame) (y : Station) → Still false n lx x ly y → Still true n ly y lx x
still_back n lx x ly y h = (h.1, h.0, h.3, h.2, omega (arith, h.4), record { own = h.5.peers; peers = h.5.own })

-- ---- one frame more

pub consecutive_push : (low high : ℕ) (p : List ℕ) (fs : List (ℕ × List ℕ)) → Consecutive low fs high → Consecutive low (fs ++ (high, p) ∷ []) (high + 1)
consecutive_push low high p [] h = (sym h, ap (λ t. t + 1) h)
consecutive_push low high p (f ∷ fs) h = (h.0, consecutive_push (low + 1) high p fs h.1)

pub ends_push : (low high : ℕ) (xs : List ℕ) → EndsAtNumber low (xs ++ high ∷ []) high
ends_push low high [] = refl
ends_push low high (x ∷ xs) = ends_push x high xs

data_push : (l : List Frame) (f : Frame) → AllData l → IsData f → AllData (l ++ f ∷ [])
data_push [] f h d = (d, tt)
data_push (g ∷ gs) f h d = (h.0, data_push gs f h.1 d)

length_push : (l : List Frame) (f : Frame) → length (l ++ f ∷ []) ≡ length l + 1
length_push l f = length-append l (f ∷ [])

-- an RR that shows more, any number in an I frame, and one more I frame taken
rises_rr : (low high : ℕ) (l : List Frame) → AreReceiveReadyNumbersRising low l high true → AreReceiveReadyNumbersRising low (l ++ Rr high ∷ []) high false
rises_rr low high [] h = (h refl, λ e. absurd (true≢false (sym e)))
rises_rr low high (Info ns nr p ∷ fs) h = rises_rr nr high fs h
rises_rr low high (Rr nr ∷ fs) h = (h.0, rises_rr nr high fs h.1)
rises_rr low high (Rej nr ∷ fs) h = rises_rr nr high fs h
rises_rr low high (Srej nr ∷ fs) h = rises_rr low high fs h
rises_rr low high (SetUp ∷ fs) h = rises_rr low high fs h
rises_rr low high (Disc ∷ fs) h = rises_rr low high fs h
rises_rr low high (Dm ∷ fs) h = rises_rr low high fs h
rises_rr low high (Ua final ∷ fs) h = rises_rr low high fs h

rises_info : (low high n : ℕ) (p : List ℕ) (owed : Bool) (l : List Frame) → AreReceiveReadyNumbersRising low l high owed → AreReceiveReadyNumbersRising low (l ++ Info n high p ∷ []) high false
rises_info low high n p owed [] h = λ e. absurd (true≢false (sym e))
rises_info low high n p owed (Info ns nr q ∷ fs) h = rises_info nr high n p owed fs h
rises_info low high n p owed (Rr nr ∷ fs) h = (h.0, rises_info nr high n p owed fs h.1)
rises_info low high n p owed (Rej nr ∷ fs) h = rises_info nr high n p owed fs h
rises_info low high n p owed (Srej nr ∷ fs) h = rises_info low high n p owed fs h
rises_info low high n p owed (SetUp ∷ fs) h = rises_info low high n p owed fs h
rises_info low high n p owed (Disc ∷ fs) h = rises_info low high n p owed fs h
rises_info low high n p owed (Dm ∷ fs) h = rises_info low high n p owed fs h
rises_info low high n p owed (Ua final ∷ fs) h = rises_info low high n p owed fs h

below_more : (low high : ℕ) (owed : Bool) → (owed ≡ true → low < high) → (owed ≡ false → low ≡ high) → low < high + 1
below_more low high true below same = let b : low < high = below refl in omega arith
below_more low high false below same = let e : low ≡ high = same refl in omega arith

rises_taken : (low high : ℕ) (owed : Bool) (l : List Frame) → AreReceiveReadyNumbersRising low l high owed → (owed ≡ false → EndsAtNumber low (receive_numbers_in_frames l) high) → AreReceiveReadyNumbersRising low l (high + 1) true
rises_taken low high owed [] h ends = λ e. below_more low high owed h ends
rises_taken low high owed (Info ns nr p ∷ fs) h ends = rises_taken nr high owed fs h ends
rises_taken low high owed (Rr nr ∷ fs) h ends = (h.0, rises_taken nr high owed fs h.1 ends)
rises_taken low high owed (Rej nr ∷ fs) h ends = rises_taken nr high owed fs h ends
rises_taken low high owed (Srej nr ∷ fs) h ends = rises_taken low high owed fs h ends
rises_taken low high owed (SetUp ∷ fs) h ends = rises_taken low high owed fs h ends
rises_taken low high owed (Disc ∷ fs) h ends = rises_taken low high owed fs h ends
rises_taken low high owed (Dm ∷ fs) h ends = rises_taken low high owed fs h ends
rises_taken low high owed (Ua final ∷ fs) h ends = rises_taken low high owed fs h ends

-- RR shows V(R), and nothing is owed
rr_flows : (c : Bool) (n : ℕ) (lx : List Frame) (x : Station) (ly : List Frame) (y : Station) → x.owed ≡ true
    → Still c n lx x ly y → Still c n (lx ++ Rr (length x.taken) ∷ []) (record x { owed = false }) ly y
rr_flows c n lx x ly y owed h =
    let f : Frame = Rr (length x.taken) in
    let len = length_push lx f in
    let one : one_if x.owed ≡ 1 = ap one_if owed in (
      subst (λ i. IsStationFlow c i (receive_numbers_in_frames ly) x y) (sym (more info_of lx f ∙ append-nil (infos lx))) h.0,
      (h.1.0, h.1.1, h.1.2, λ e. subst (λ ns. EndsAtNumber y.acked ns (length x.taken)) (sym (more receive_numbers_in_frame lx f)) (ends_push y.acked (length x.taken) (receive_numbers_in_frames lx)), h.1.4, h.1.5, h.1.6),
      data_push lx f h.2 tt,
      h.3,
      omega (arith, h.4),
      record {
        own = rises_rr y.acked (length x.taken) lx (subst (λ (b : Bool). AreReceiveReadyNumbersRising y.acked lx (length x.taken) b) owed h.5.own);
        peers = h.5.peers;
      },
    )

-- the next I frame
next_flows : (c : Bool) (n : ℕ) (lx : List Frame) (x : Station) (ly : List Frame) (y : Station)
    → Still c n lx x ly y → Still c n (lx ++ info_at x x.sent ∷ []) (record x { sent = x.sent + 1; owed = false }) ly y
next_flows c n lx x ly y h =
    let f : Frame = info_at x x.sent in
    let len = length_push lx f in (
      (
        h.0.0,
        h.0.1,
        subst (λ i. Consecutive (length y.taken) i (x.sent + 1)) (sym (more info_of lx f)) (consecutive_push (length y.taken) x.sent (slice_index_or x.handed x.sent []) (infos lx) h.0.2),
        h.0.3,
        h.0.4,
        h.0.5,
        h.0.6,
      ),
      (h.1.0, h.1.1, h.1.2, λ e. subst (λ ns. EndsAtNumber y.acked ns (length x.taken)) (sym (more receive_numbers_in_frame lx f)) (ends_push y.acked (length x.taken) (receive_numbers_in_frames lx)), h.1.4, h.1.5, h.1.6),
      data_push lx f h.2 tt,
      h.3,
      omega (arith, h.4),
      record { own = rises_info y.acked (length x.taken) x.sent (slice_index_or x.handed x.sent []) x.owed lx h.5.own; peers = h.5.peers },
    )

-- ---- payloads that may be sent are sent, and the owed answer

-- w waited from x before the call
abbrev pub Within : Bool → ℕ → List Frame → Station → List Frame → Station → Type 0
Within c n w x l y = Still c n (w ++ x.said) x l y

pub up_to_flows : (c : Bool) (n : ℕ) (w : List Frame) (m : ℕ) (x : Station) (l : List Frame) (y : Station) → Within c n w x l y → Within c n w (sends_up_to m x) l y
up_to_flows c n w zero x l y h = h
up_to_flows c n w (suc m) x l y h =
    elim (cases_Bool (can_send x)) [
      | inl can ↦ rw can (up_to_flows c n w m (sends_next x) l y
          (subst (λ (lx : List Frame). Still c n lx (record x { sent = x.sent + 1; owed = false }) l y) (append_assoc w x.said (info_at x x.sent ∷ [])) (next_flows c n (w ++ x.said) x l y h)))
      | inr cannot ↦ rw cannot h
    ]

pub up_to_rests : (m : ℕ) (x : Station) → x.sent + m ≡ length x.handed → HasNoPayloadToSend (sends_up_to m x)
up_to_rests zero x h = inr (omega arith)
up_to_rests (suc m) x h =
    elim (cases_Bool (can_send x)) [
      | inl can ↦ rw can (up_to_rests m (sends_next x) (omega arith))
      | inr cannot ↦ subst (λ (b : Bool). HasNoPayloadToSend (if b then sends_up_to m (sends_next x) else x)) (sym cannot) (inl cannot)
    ]

pub up_to_given : (m : ℕ) (x : Station) → x.sent + m ≡ length x.handed → (sends_up_to m x).sent ≤ length (sends_up_to m x).handed
up_to_given zero x h = omega arith
up_to_given (suc m) x h =
    cond_both (can_send x) (sends_up_to m (sends_next x)) x (λ t. t.sent ≤ length t.handed) (λ e. up_to_given m (sends_next x) (omega arith)) (λ e. omega arith)

up_to_handed : (m : ℕ) (x : Station) → (sends_up_to m x).handed ≡ x.handed
up_to_handed zero x = refl
up_to_handed (suc m) x = cond_both (can_send x) (sends_up_to m (sends_next x)) x (λ t. t.handed ≡ x.handed) (λ e. up_to_handed m (sends_next x)) (λ e. refl)

-- what the call leaves
abbrev pub Done : Bool → ℕ → List Frame → List Frame → Station → List (List ℕ) → Station → Type 0
Done c n w l y handed x = Within c n w x l y × AtRest x × (x.handed ≡ handed)

up_not_down : (p : Phase) → p ≡ Up → is_down p ≡ false
up_not_down p h = ap is_down h

pub settles_done : (c : Bool) (n : ℕ) (w : List Frame) (x : Station) (l : List Frame) (y : Station) → HasNoPayloadToSend x → Within c n w x l y → Done c n w l y x.handed (settles x)
settles_done c n w x l y rests h =
    cond_both x.owed (record (puts (Rr (length x.taken)) x) { owed = false }) x (Done c n w l y x.handed)
    (λ owed. (
      subst (λ (lx : List Frame). Still c n lx (record x { owed = false }) l y) (append_assoc w x.said (Rr (length x.taken) ∷ [])) (rr_flows c n (w ++ x.said) x l y owed h),
      (refl, rests),
      refl,
    ))
    (λ owes. (h, (owes, rests), refl))

pub ends_well : (c : Bool) (n : ℕ) (w : List Frame) (x : Station) (l : List Frame) (y : Station) → x.sent ≤ length x.handed
    → Within c n w x l y → Done c n w l y x.handed (finishes (sends_waiting x))
ends_well c n w x l y given h =
    let g = up_to_flows c n w (waiting x) x l y h in
    let r = up_to_rests (waiting x) x (omega arith) in
    let e = up_to_handed (waiting x) x in
    let d = settles_done c n w (sends_waiting x) l y r g in
    cond_both (is_down (sends_waiting x).phase) (sends_waiting x) (settles (sends_waiting x)) (Done c n w l y x.handed)
    (λ down. absurd (true≢false (sym down ∙ up_not_down (sends_waiting x).phase g.0.0)))
    (λ live. (d.0, d.1, d.2 ∙ e))

-- ---- what is heard

-- behind the next payload: the gap mark, what is held and what was asked for, of either kind
abbrev pub gap_behind : (selective : Bool) → Station → Bool
gap_behind true x = x.gap
gap_behind false x = false

abbrev pub held_behind : (selective : Bool) → Station → List (ℕ × List ℕ)
held_behind true x = filter (λ h. nat_le (length x.taken + 1 + 0) h.0) x.held
held_behind false x = x.held

abbrev pub asked_behind : (selective : Bool) → Station → List ℕ
asked_behind true x = filter (λ n. nat_le (length x.taken + 1 + 0) n) x.asked
asked_behind false x = x.asked

-- the next payload is taken by a station that holds none behind it
abbrev pub takes_next : (selective : Bool) → List ℕ → Station → Station
takes_next selective p x = record (accepts p x) { gap = gap_behind selective x; held = held_behind selective x; asked = asked_behind selective x }

none_behind : (selective : Bool) (x : Station) → x.held ≡ [] → held_behind selective x ≡ []
none_behind true x none = ap (filter (λ (h : ℕ × List ℕ). nat_le (length x.taken + 1 + 0) h.0)) none
none_behind false x none = none

-- something is found for a station that isn't released
pub heard_live : (selective : Bool) (now : ℕ) (v : Verdict) (x : Station) → is_down x.phase ≡ false
    → receives_as selective now v x ≡ sends_waiting (hears_as selective v (sees now x))
heard_live selective now v x live =
    received selective now v x ∙ ap (λ (b : Bool). if b then x else sends_waiting (hears_as selective v (sees now x))) live

-- a frame comes to its row
pub heard_row : ControlReadsBack → (selective : Bool) (k : ℕ) (lx : List Frame) (x : Station) (f : Frame) (fs : List Frame) (y : Station) → IsStationPair selective k lx x (f ∷ fs) y
    → hears_as selective (found y f) x ≡ row_as selective x.phase x (shown x.extended f) (information f)
heard_row law selective k lx x f fs y h =
    ap (λ (c : Bool). hears_as selective (Frame_found (sent_address c f) (sent_body y.extended f)) x) (not_not x.calling y.calling h.2)
    ∙ ap (λ (e : Bool). hears_as selective (Frame_found (sent_address (not x.calling) f) (sent_body e f)) x) (sym h.3)
    ∙ frame_heard law selective x f (may_come selective k lx x f fs y h)

-- N(S) is the next number: it is named first
named_first : (e : Bool) (a n : ℕ) → number_shown_as e a n (a % modulo e) ≡ Some a
named_first e a zero = ap (λ (b : Bool). if b then Some a else None) (eq-eqb (a % modulo e) (a % modulo e) refl)
named_first e a (suc n) = ap (λ (b : Bool). if b then Some a else number_shown_as e (a + 1) n (a % modulo e)) (eq-eqb (a % modulo e) (a % modulo e) refl)

next_filed : (p : List ℕ) (x : Station) → x.held ≡ [] → files (length x.taken % modulo x.extended) p x ≡ takes_next true p x
next_filed p x none =
    ap (λ (o : Option ℕ). files_at o p x) (named_first x.extended (length x.taken) (x.window - 1))
    ∙ ap (λ (b : Bool). if b then takes_run p (without_gap (length x.held) (length x.taken + 1) x.held) x
    else (if is_found (held_for (length x.taken) x.held) then says_next x else holds (length x.taken) p x)) (eq-eqb (length x.taken) (length x.taken) refl)
    ∙ ap (λ (held : List (ℕ × List ℕ)). takes_run p (without_gap (length held) (length x.taken + 1) held) x) none

next_taken : (selective : Bool) (x : Station) (m r : ℕ) (p : List ℕ) → length x.taken ≡ m → x.held ≡ [] → number_shown_as x.extended x.acked (x.sent - x.acked) (r % modulo x.extended) ≡ Some r
    → row_as selective Up x (shown x.extended (Info m r p)) p ≡ takes_next selective p (acknowledges r x)
next_taken true x m r p same none is =
    ap (λ (o : Option ℕ). acknowledging o (files (m % modulo x.extended) p) x) is
    ∙ ap (λ (j : ℕ). files (j % modulo x.extended) p (acknowledges r x)) (sym same)
    ∙ next_filed p (acknowledges r x) none
next_taken false x m r p same none is =
    ap (λ (o : Option ℕ). acknowledging o (takes (m % modulo x.extended) p) x) is
    ∙ ap (λ (b : Bool). if b then accepts p (acknowledges r x) else rejects (acknowledges r x))
    (eq-eqb (length x.taken % modulo x.extended) (m % modulo x.extended) (ap (λ t. t % modulo x.extended) same))

ready_row : (selective : Bool) (x : Station) (r : ℕ) → number_shown_as x.extended x.acked (x.sent - x.acked) (r % modulo x.extended) ≡ Some r
    → row_as selective Up x (shown x.extended (Rr r)) [] ≡ marks_busy false (acknowledges r x)
ready_row true x r is = ap (λ (o : Option ℕ). acknowledging o (marks_busy false) x) is
ready_row false x r is = ap (λ (o : Option ℕ). acknowledging o (marks_busy false) x) is

pub info_is : ControlReadsBack → (selective : Bool) (k : ℕ) (lx : List Frame) (x : Station) (m r : ℕ) (p : List ℕ) (fs : List Frame) (y : Station) → x.phase ≡ Up → length x.taken ≡ m
    → x.held ≡ [] → IsStationPair selective k lx x (Info m r p ∷ fs) y → hears_as selective (found y (Info m r p)) x ≡ takes_next selective p (acknowledges r x)
info_is law selective k lx x m r p fs y up same none h =
    heard_row law selective k lx x (Info m r p) fs y h
    ∙ ap (λ (q : Phase). row_as selective q x (shown x.extended (Info m r p)) p) up
    ∙ next_taken selective x m r p same none (named_is selective k r (infos lx) (marks selective lx) (receive_numbers_in_frames fs) x y h.4 h.0)

pub rr_is : ControlReadsBack → (selective : Bool) (k : ℕ) (lx : List Frame) (x : Station) (r : ℕ) (fs : List Frame) (y : Station) → x.phase ≡ Up
    → IsStationPair selective k lx x (Rr r ∷ fs) y → hears_as selective (found y (Rr r)) x ≡ marks_busy false (acknowledges r x)
rr_is law selective k lx x r fs y up h =
    heard_row law selective k lx x (Rr r) fs y h
    ∙ ap (λ (q : Phase). row_as selective q x (shown x.extended (Rr r)) []) up
    ∙ ready_row selective x r (named_is selective k r (infos lx) (marks selective lx) (receive_numbers_in_frames fs) x y h.4 h.0)

pub info_flows : (selective c : Bool) (n : ℕ) (lx : List Frame) (x : Station) (m r : ℕ) (p : List ℕ) (fs : List Frame) (y : Station)
    → Still c n lx x (Info m r p ∷ fs) y → Still c (n + 1) lx (takes_next selective p (acknowledges r x)) fs y
info_flows selective c n lx x m r p fs y h =
    let len : length (x.taken ++ p ∷ []) ≡ length x.taken + 1 = length-append x.taken (p ∷ []) in (
      (h.0.0, h.0.1, h.0.2, h.0.3, h.0.4, h.0.5, none_behind selective (acknowledges r x) h.0.6),
      (h.1.0, h.1.1, subst (λ (j : ℕ). Consecutive j (infos fs) y.sent) (sym len) h.1.2.1, λ e. absurd (true≢false e), h.1.4, h.1.5, h.1.6),
      h.2,
      h.3.1,
      omega (arith, h.4),
      record {
        own = subst (λ (j : ℕ). AreReceiveReadyNumbersRising y.acked lx j true) (sym len) (rises_taken y.acked (length x.taken) x.owed lx h.5.own h.1.3);
        peers = h.5.peers;
      },
    )

pub rr_heard_flows : (c : Bool) (n : ℕ) (lx : List Frame) (x : Station) (r : ℕ) (fs : List Frame) (y : Station)
    → Still c n lx x (Rr r ∷ fs) y → Still c (n + 1) lx (marks_busy false (acknowledges r x)) fs y
rr_heard_flows c n lx x r fs y h =
    ((h.0.0, refl, h.0.2, h.0.3, h.0.4, h.0.5, h.0.6), (h.1.0, h.1.1, h.1.2, h.1.3, h.1.4, h.1.5, h.1.6), h.2, h.3.1, omega (arith, h.4), record { own = h.5.own; peers = h.5.peers.1 })

-- both are up: the first frame of y comes to x
pub answered_flows : ControlReadsBack → (selective c : Bool) (n k : ℕ) (w : List Frame) (now : ℕ) (x : Station) (f : Frame) (fs : List Frame) (y : Station)
    → x.sent ≤ length x.handed → IsStationPair selective k (w ++ x.said) x (f ∷ fs) y → Within c n w x (f ∷ fs) y → Done c (n + 1) w fs y x.handed (answered selective now y f x)
answered_flows law selective c n k w now x (Info m r p) fs y given h s =
    let z : Station = sees now x in
    subst (λ (t : Station). Done c (n + 1) w fs y x.handed t)
    (sym (ap finishes (heard_live selective now (found y (Info m r p)) x (up_not_down x.phase s.0.0))
    ∙ ap (λ t. finishes (sends_waiting t)) (info_is law selective k (w ++ x.said) z m r p fs y s.0.0 (sym s.1.2.0) s.0.6 h)))
    (ends_well c (n + 1) w (takes_next selective p (acknowledges r z)) fs y given (info_flows selective c n (w ++ x.said) z m r p fs y s))
answered_flows law selective c n k w now x (Rr r) fs y given h s =
    let z : Station = sees now x in
    subst (λ (t : Station). Done c (n + 1) w fs y x.handed t)
    (sym (ap finishes (heard_live selective now (found y (Rr r)) x (up_not_down x.phase s.0.0))
    ∙ ap (λ t. finishes (sends_waiting t)) (rr_is law selective k (w ++ x.said) z r fs y s.0.0 h)))
    (ends_well c (n + 1) w (marks_busy false (acknowledges r z)) fs y given (rr_heard_flows c n (w ++ x.said) z r fs y s))
answered_flows law selective c n k w now x (Rej r) fs y given h s = absurd s.3.0
answered_flows law selective c n k w now x (Srej r) fs y given h s = absurd s.3.0
answered_flows law selective c n k w now x SetUp fs y given h s = absurd s.3.0
answered_flows law selective c n k w now x Disc fs y given h s = absurd s.3.0
answered_flows law selective c n k w now x Dm fs y given h s = absurd s.3.0
answered_flows law selective c n k w now x (Ua final) fs y given h s = absurd s.3.0

-- a payload is handed down
pub handed_flows : (c : Bool) (n : ℕ) (w : List Frame) (now : ℕ) (p : List ℕ) (x : Station) (l : List Frame) (y : Station)
    → x.sent ≤ length x.handed → Within c n w x l y → Done c n w l y (x.handed ++ p ∷ []) (finishes (hands now p x))
handed_flows c n w now p x l y given h =
    let z : Station = record (sees now x) { handed = x.handed ++ p ∷ [] } in
    let len : length (x.handed ++ p ∷ []) ≡ length x.handed + 1 = length-append x.handed (p ∷ []) in
    subst (λ (b : Bool). Done c n w l y (x.handed ++ p ∷ []) (finishes (if b then x else sends_waiting z))) (sym (up_not_down x.phase h.0.0))
    (ends_well c n w z l y (omega arith) h)

-- T1 isn't expired
pub not_due : (now : ℕ) (x : Station) → is_late now x ≡ false → expires_if_due (sees now x) ≡ sees now x
not_due now x late = ap (λ (b : Bool). if b then expires (sees now x) else sees now x) late

pub ticked_flows : (c : Bool) (n : ℕ) (w : List Frame) (now : ℕ) (x : Station) (l : List Frame) (y : Station)
    → is_late now x ≡ false → x.sent ≤ length x.handed → Within c n w x l y → Done c n w l y x.handed (finishes (ticks now x))
ticked_flows c n w now x l y late given h =
    subst (λ (b : Bool). Done c n w l y x.handed (finishes (if b then x else sends_waiting (expires_if_due (sees now x))))) (sym (up_not_down x.phase h.0.0))
    (subst (λ (t : Station). Done c n w l y x.handed (finishes (sends_waiting t))) (sym (not_due now x late)) (ends_well c n w (sees now x) l y given h))
