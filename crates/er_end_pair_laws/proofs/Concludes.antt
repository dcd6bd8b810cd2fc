-- What goes down behind an event: TPDUs while no payload waits, then the owed answer; the end is then at rest.
use Rattle.std.proofs.Common.{◌≡◌, ℕ, zero, suc, ◌+◌, ◌-◌, ◌<◌, ◌≤◌, inl, inr, min, Bool, true, false, ◌&&◌, List, length, take, Option, Some, None, refl, sym, ◌∙◌, ap, subst, arith, ltb-true, eq-eqb, true≢false}
use Rattle.std.specs.Prelude.{nat_lt, ◌==◌, if◌then◌else◌, is_some}
use Rattle.std.proofs.lemmas.Bool.{cases_Bool, cond_both, and_parts, le-ltb}
use Rattle.std.proofs.lemmas.List.{length-map}
use Rattle.er_base.specs.declared.release.Release.{Release}
use Rattle.hdlc_station_model.specs.Frames.{Frame}
use Rattle.hdlc_station_model.specs.Stations.{Station, is_down}
use Rattle.hdlc_station_model.specs.Sending.{waiting, settles}
use Rattle.hdlc_station_model.specs.Calls as station
use Rattle.x224_class2.specs.Tpdus.{GivenTpdu}
use Rattle.x224_class2.specs.Transport.{Transport, is_over, TpduTurn, Rest, Opening as Opens_next, Acknowledgement, Data, turn_among, turn_of, ack_of, tpdu_at, state_behind, with_given, next_tpdu, after_next}
use Rattle.er_end_model.specs.Layers.{Core, model}
use Rattle.er_end_model.specs.Steps.{hand_next_tpdu, has_next_tpdu, hand_waiting_tpdus, most_offers, send_owed_answer, conclude_event}
use Rattle.er_end_pair_laws.specs.Openings.{EndLinkOpening}
use Rattle.er_end_pair_laws.specs.LawsBelow.{LawsBelow}
use Rattle.er_end_pair_laws.proofs.Own.{AlwaysOf, Alive, AliveOf, DueIs, Rested, heard, block, Beside, Busy, Gone, Done}
use Rattle.er_end_pair_laws.proofs.Moves.{turn_live, turn_is, live_stage, credit_known, next_keeps}

-- ---- while no payload waits

pub offers_keeps : LawsBelow → (n : ℕ) (s : EndLinkOpening) (c : Bool) (k : ℕ) (w : List Frame) (x : Core) (l : List Frame) (y : Core) → Busy s c k w x l y → Busy s c k w (hand_waiting_tpdus model n x) l y
unfolding hand_waiting_tpdus
offers_keeps below zero s c k w x l y b = b
offers_keeps below (suc n) s c k w x l y b =
    cond_both (has_next_tpdu model x) (hand_waiting_tpdus model n (hand_next_tpdu model x)) x (λ z. Busy s c k w z l y)
    (λ e. offers_keeps below n s c k w (hand_next_tpdu model x) l y
    (next_keeps below s c k w x l y (and_parts (waiting x.line == 0) (is_some (next_tpdu x.upper.transport)) e).1 b))
    (λ e. b)

-- ---- until nothing is to be given

abbrev one_if : Bool → ℕ
one_if true = 1
one_if false = 0

abbrev due_count : Option (List ℕ) → ℕ
due_count None = 0
due_count (Some user) = 1

-- so many TPDUs are to be given at most, as the edge stands
abbrev left_of : Transport → ℕ
left_of t = due_count t.due + one_if (nat_lt t.newest (ack_of t)) + (min (length t.segments) t.edge - t.given)

abbrev behind : Transport → TpduTurn → Transport
behind t u = with_given (state_behind t u) (tpdu_at t u)

abbrev Falls : Transport → TpduTurn → Type 0
Falls t u = suc (left_of (behind t u)) ≤ left_of t

turn_falls : (t : Transport) (u : TpduTurn) → turn_live t ≡ u → is_some (tpdu_at t u) ≡ true → Falls t u
turn_falls t Rest e some = absurd cc
turn_falls t (Opens_next user) e some =
    let d : due_count t.due ≡ 1 = opened t.due (nat_lt t.newest (ack_of t)) (nat_lt t.given (length t.segments) && nat_lt t.given t.edge) user e in omega arith
  where
    opened : (due : Option (List ℕ)) (owed granted : Bool) (user : List ℕ) → turn_among due owed granted ≡ Opens_next user → due_count due ≡ 1
    opened (Some u) owed granted user e = refl
    opened None true granted user e = absurd cc
    opened None false true user e = absurd cc
    opened None false false user e = absurd cc
turn_falls t Acknowledgement e some =
    let o : one_if (nat_lt t.newest (ack_of t)) ≡ 1 = ap one_if (owes t.due (nat_lt t.newest (ack_of t)) (nat_lt t.given (length t.segments) && nat_lt t.given t.edge) e) in
    let z : one_if (nat_lt (ack_of t) (ack_of t)) ≡ 0 = ap one_if (le-ltb (ack_of t) (ack_of t) (omega arith)) in omega arith
  where
    owes : (due : Option (List ℕ)) (owed granted : Bool) → turn_among due owed granted ≡ Acknowledgement → owed ≡ true
    owes (Some u) owed granted e = absurd cc
    owes None true granted e = refl
    owes None false true e = absurd cc
    owes None false false e = absurd cc
turn_falls t Data e some =
    let p = and_parts (nat_lt t.given (length t.segments)) (nat_lt t.given t.edge) (grants t.due (nat_lt t.newest (ack_of t)) (nat_lt t.given (length t.segments) && nat_lt t.given t.edge) e) in
    let a : t.given < length t.segments = ltb-true t.given (length t.segments) p.0 in
    let b : t.given < t.edge = ltb-true t.given t.edge p.1 in omega arith
  where
    grants : (due : Option (List ℕ)) (owed granted : Bool) → turn_among due owed granted ≡ Data → granted ≡ true
    grants (Some u) owed granted e = absurd cc
    grants None true granted e = absurd cc
    grants None false true e = refl
    grants None false false e = absurd cc

next_falls : (t : Transport) → is_over t.stage ≡ false → is_some (next_tpdu t) ≡ true → suc (left_of (after_next t)) ≤ left_of t
next_falls t live some =
    let e = turn_is t live in
    subst (Falls t) (sym e) (turn_falls t (turn_live t) refl (sym (ap (λ (u : TpduTurn). is_some (tpdu_at t u)) e) ∙ some))

stage_stays : (t : Transport) (u : TpduTurn) → (behind t u).stage ≡ t.stage
stage_stays t Rest = refl
stage_stays t (Opens_next user) = refl
stage_stays t Acknowledgement = refl
stage_stays t Data = refl

none_left : (t : Transport) → is_over t.stage ≡ false → left_of t ≤ 0 → is_some (next_tpdu t) ≡ false
none_left t live few =
    let granted : Bool = nat_lt t.given (length t.segments) && nat_lt t.given t.edge in
    let not_granted : granted ≡ false = elim (cases_Bool granted) [
      | inl e ↦ absurd (let p = and_parts (nat_lt t.given (length t.segments)) (nat_lt t.given t.edge) e in
          let a : t.given < length t.segments = ltb-true t.given (length t.segments) p.0 in
          let b : t.given < t.edge = ltb-true t.given t.edge p.1 in let u : ⊥ = omega arith in u)
      | inr e ↦ e
    ] in
    ap (λ (u : TpduTurn). is_some (tpdu_at t u)) (turn_is t live ∙ rests t.due (nat_lt t.newest (ack_of t)) granted not_granted (omega arith))
  where
    rests : (due : Option (List ℕ)) (owed granted : Bool) → granted ≡ false → due_count due + one_if owed ≤ 0 → turn_among due owed granted ≡ Rest
    rests (Some u) owed granted e h = absurd (let u : ⊥ = omega arith in u)
    rests None true granted e h = absurd (let u : ⊥ = omega arith in u)
    rests None false true e h = absurd (true≢false e)
    rests None false false e h = refl

offers_rests : (n : ℕ) (x : Core) → is_over x.upper.transport.stage ≡ false → left_of x.upper.transport ≤ n → has_next_tpdu model (hand_waiting_tpdus model n x) ≡ false
unfolding hand_waiting_tpdus
offers_rests zero x live few =
    ap (λ (b : Bool). (waiting x.line == 0) && b) (none_left x.upper.transport live few) ∙ false_behind (waiting x.line == 0)
  where
    false_behind : (b : Bool) → (b && false) ≡ false
    false_behind true = refl
    false_behind false = refl
offers_rests (suc n) x live few =
    cond_both (has_next_tpdu model x) (hand_waiting_tpdus model n (hand_next_tpdu model x)) x (λ z. has_next_tpdu model z ≡ false)
    (λ e. offers_rests n (hand_next_tpdu model x) (ap is_over (stage_stays x.upper.transport (turn_of x.upper.transport)) ∙ live)
    (omega (arith, next_falls x.upper.transport live (and_parts (waiting x.line == 0) (is_some (next_tpdu x.upper.transport)) e).1)))
    (λ e. e)

-- ---- what is due goes down first

due_stays : (t : Transport) (u : TpduTurn) → t.due ≡ None → (behind t u).due ≡ None
due_stays t (Opens_next user) e = refl
due_stays t _ e = e

offers_due : (n : ℕ) (x : Core) → x.upper.transport.due ≡ None → (hand_waiting_tpdus model n x).upper.transport.due ≡ None
unfolding hand_waiting_tpdus
offers_due zero x e = e
offers_due (suc n) x e =
    cond_both (has_next_tpdu model x) (hand_waiting_tpdus model n (hand_next_tpdu model x)) x (λ z. z.upper.transport.due ≡ None)
    (λ g. offers_due n (hand_next_tpdu model x) (due_stays x.upper.transport (turn_of x.upper.transport) e)) (λ g. e)

-- nothing was handed down before the first TPDU
none_waits : (s : EndLinkOpening) (c : Bool) (k : ℕ) (w : List Frame) (x : Core) (l : List Frame) (y : Core) (user : List ℕ) → x.upper.transport.due ≡ Some user
    → Busy s c k w x l y → (waiting x.line == 0) ≡ true
none_waits s c k w x l y user e b =
    let d = subst (λ (o : Option (List ℕ)). DueIs s c o x.upper.transport.gave) e b.alive.due_is in
    let n : length x.line.handed ≡ 0 = ap length b.beside.1 ∙ length-map x.upper.transport.gave block ∙ ap length d.0 in
    eq-eqb (waiting x.line) 0 (omega arith)

opening_turn : (t : Transport) (user : List ℕ) → is_over t.stage ≡ false → t.due ≡ Some user → turn_of t ≡ Opens_next user
opening_turn t user live e =
    turn_is t live ∙ ap (λ (o : Option (List ℕ)). turn_among o (nat_lt t.newest (ack_of t)) (nat_lt t.given (length t.segments) && nat_lt t.given t.edge)) e

offers_opened : (n : ℕ) (x : Core) (user : List ℕ) → is_over x.upper.transport.stage ≡ false → x.upper.transport.due ≡ Some user → (waiting x.line == 0) ≡ true
    → (hand_waiting_tpdus model (suc n) x).upper.transport.due ≡ None
unfolding hand_waiting_tpdus
offers_opened n x user live e free =
    let t : Transport = x.upper.transport in
    let u = opening_turn t user live e in
    let goes : has_next_tpdu model x ≡ true =
    ap (λ (b : Bool). b && is_some (next_tpdu t)) free ∙ ap (λ (v : TpduTurn). is_some (tpdu_at t v)) u in
    ap (λ (b : Bool). (if b then hand_waiting_tpdus model n (hand_next_tpdu model x) else x).upper.transport.due) goes
    ∙ offers_due n (hand_next_tpdu model x) (ap (λ (v : TpduTurn). (behind t v).due) u)

due_gone : (n : ℕ) (s : EndLinkOpening) (c : Bool) (k : ℕ) (w : List Frame) (x : Core) (l : List Frame) (y : Core) (o : Option (List ℕ)) → x.upper.transport.due ≡ o
    → Busy s c k w x l y → (hand_waiting_tpdus model (suc n) x).upper.transport.due ≡ None
due_gone n s c k w x l y None e b = offers_due (suc n) x e
due_gone n s c k w x l y (Some user) e b =
    let t : Transport = x.upper.transport in
    offers_opened n x user (live_stage c t.stage t.due (heard x y) t.gave x.line.phase b.alive.stages) e (none_waits s c k w x l y user e b)

-- ---- the owed answer

waiting_same : (x : Station) → waiting (station.finishes x) ≡ waiting x
waiting_same x = cond_both (is_down x.phase) x (settles x) (λ t. waiting t ≡ waiting x) (λ e. refl) (λ e. cond_both x.owed _ x (λ t. waiting t ≡ waiting x) (λ o. refl) (λ o. refl))

pub finishes_heard : LawsBelow → (x y : Core) → heard (send_owed_answer model x) y ≡ heard x y
finishes_heard below x y = ap (λ (t : List (List ℕ)). take (length t) y.upper.transport.gave) (below.others 0 x.line).1.1

pub finishes_beside : LawsBelow → (s : EndLinkOpening) (c : Bool) (k : ℕ) (w : List Frame) (x : Core) (l : List Frame) (y : Core) → Beside s c k w x l y → Beside s c k w (send_owed_answer model x) l y
finishes_beside below s c k w x l y b = (below.keep.finished false k w x.line l y.line b.0, (below.others 0 x.line).1.0 ∙ b.1, b.2, b.3)

finished : LawsBelow → (s : EndLinkOpening) (c : Bool) (k : ℕ) (w : List Frame) (x : Core) (l : List Frame) (y : Core) → Rested x → Busy s c k w x l y → Done s c k w (send_owed_answer model x) l y
finished below s c k w x l y rested b =
    let z : Core = send_owed_answer model x in
    let e = sym (finishes_heard below x y) in
    let phase = sym (below.phases.finishes x.line) in
    let t : Transport = x.upper.transport in
    record {
      beside = finishes_beside below s c k w x l y b.beside;
      own = record {
        always = subst (λ (h : List GivenTpdu). AlwaysOf s c z h) e b.always;
        told = b.told;
        lives = λ r. record {
          alive = subst (λ (h : List GivenTpdu). AliveOf s c z h) e
              (subst (λ p. Alive s c t.stage t.is_caller t.credit t.size t.due t.gave (heard x y) t.given t.acked t.edge t.newest x.joined p) phase b.alive);
          trusting = b.trusting;
          rested = (rested.0, ap (λ (n : ℕ). (n == 0) && is_some (next_tpdu t)) (waiting_same x.line) ∙ rested.1);
        };
      };
    }

few_left : LawsBelow → (s : EndLinkOpening) (c : Bool) (k : ℕ) (w : List Frame) (x : Core) (l : List Frame) (y : Core) → Busy s c k w x l y → left_of x.upper.transport ≤ most_offers
few_left below s c k w x l y b =
    let t : Transport = x.upper.transport in
    let a = b.always.gives.near in
    let d = b.always.gives.behind in
    let m = (credit_known below s).1 in
    let p : due_count t.due ≤ 1 = one_due t.due in
    let q : one_if (nat_lt t.newest (ack_of t)) ≤ 1 = one_owed (nat_lt t.newest (ack_of t)) in omega arith
  where
    one_due : (o : Option (List ℕ)) → due_count o ≤ 1
    one_due None = omega arith
    one_due (Some user) = omega arith

    one_owed : (b : Bool) → one_if b ≤ 1
    one_owed true = omega arith
    one_owed false = omega arith

pub concludes_keeps : LawsBelow → (s : EndLinkOpening) (c : Bool) (k : ℕ) (w : List Frame) (x : Core) (l : List Frame) (y : Core) → x.released ≡ None → Busy s c k w x l y → Done s c k w (conclude_event model x) l y
concludes_keeps below s c k w x l y live b =
    let t : Transport = x.upper.transport in
    let stage = live_stage c t.stage t.due (heard x y) t.gave x.line.phase b.alive.stages in
    subst (λ (o : Option Release). Done s c k w (if is_some o then x else send_owed_answer model (hand_waiting_tpdus model most_offers x)) l y) (sym live)
    (finished below s c k w (hand_waiting_tpdus model most_offers x) l y
    (due_gone 32 s c k w x l y t.due refl b, offers_rests most_offers x stage (few_left below s c k w x l y b))
    (offers_keeps below most_offers s c k w x l y b))

-- a released end does nothing more
pub gone_concludes : (s : EndLinkOpening) (c : Bool) (k : ℕ) (w : List Frame) (x : Core) (l : List Frame) (y : Core) (why : Release) → x.released ≡ Some why → Gone s c k w x l y → Done s c k w (conclude_event model x) l y
gone_concludes s c k w x l y why e b =
    subst (λ (z : Core). Done s c k w z l y) (sym (ap (λ (o : Option Release). if is_some o then x else send_owed_answer model (hand_waiting_tpdus model most_offers x)) e))
    (record { beside = b.beside; own = record { always = b.always; told = b.told; lives = λ none. absurd (let u : Some why ≡ None = sym e ∙ none in let v : ⊥ = cc in v) } })
