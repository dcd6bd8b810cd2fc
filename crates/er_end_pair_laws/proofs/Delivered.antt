-- A loss-free line that is empty: both ends are connected, and each accepted all that the other sent. And the bound of the deliveries.
use Rattle.std.proofs.Common.{◌≡◌, ℕ, ◌+◌, ◌-◌, ◌≤◌, Bool, true, false, not, ◌&&◌, List, [], length, take, Option, None, refl, sym, ◌∙◌, ap, subst, arith, lt-ltb, eq-eqb, take_all, true≢false}
use Rattle.std.specs.Prelude.{nat_lt, ◌==◌, is_some}
use Rattle.std.proofs.lemmas.Bool.{ltb-false}
use Rattle.std.proofs.lemmas.List.{length-map, length-take-le}
use Rattle.safety_automaton.specs.Safety.{Phase, WaitAu3, WaitAr, Connected}
use Rattle.hdlc_station_model.specs.declared.phase.Phase.{Phase as Link_phase}
use Rattle.hdlc_station_model.specs.declared.phase.Phase.TheVariants.{Up}
use Rattle.hdlc_station_model.specs.Frames.{Frame}
use Rattle.hdlc_station_model.specs.Stations.{is_up}
use Rattle.hdlc_station_model.specs.Sending.{waiting}
use Rattle.hdlc_pair_laws.specs.Flowing.{Shape}
use Rattle.hdlc_pair_laws.specs.Invariant.{IsStationPair}
use Rattle.x224_class2.specs.Segments.{Segment, messages_in}
use Rattle.x224_class2.specs.Tpdus.{GivenTpdu}
use Rattle.x224_class2.specs.Transport.{Transport, TpduTurn, is_over, turn_among, ack_of, tpdu_at, next_tpdu}
use Rattle.x224_class2.specs.declared.stage.Stage.{Stage}
use Rattle.x224_class2.specs.declared.stage.Stage.TheVariants as stages
use Rattle.er_end_model.specs.Layers.{Core, model}
use Rattle.er_end_model.specs.Steps.{has_next_tpdu, is_connected}
use Rattle.er_end_pair_laws.specs.Openings.{EndLinkOpening, Agree}
use Rattle.er_end_pair_laws.specs.Links.{EndLink}
use Rattle.er_end_pair_laws.specs.Laws.{end_link_after, IsEmpty, HasAll, Delivery}
use Rattle.er_end_pair_laws.specs.LawsBelow.{LawsBelow, LossFreeLawsBelow}
use Rattle.er_end_pair_laws.proofs.Lists.{number, number_same, ends_one}
use Rattle.er_end_pair_laws.proofs.Locals.{dts, aks}
use Rattle.er_end_pair_laws.proofs.Constants.{said_all}
use Rattle.er_end_pair_laws.proofs.Own.{Stages, EdgeIs, Joint, PhaseIs, Own, users, heard, block, Spelled}
use Rattle.er_end_pair_laws.proofs.Moves.{turn_is, credit_known}
use Rattle.er_end_pair_laws.proofs.Worlds.{Holds, none_on_line}
use Rattle.er_end_pair_laws.proofs.Flowing.{Flows}
use Rattle.er_end_pair_laws.proofs.Drained.{after_flows}

-- ---- an end that gives nothing more

-- nothing is owed, and no segment lies below the edge
resting : (t : Transport) → is_over t.stage ≡ false → t.due ≡ None → is_some (next_tpdu t) ≡ false → (nat_lt t.newest (ack_of t) ≡ false) × ((nat_lt t.given (length t.segments) && nat_lt t.given t.edge) ≡ false)
resting t live none rest =
    both t (nat_lt t.newest (ack_of t)) (nat_lt t.given (length t.segments) && nat_lt t.given t.edge)
    (sym (ap (λ (u : TpduTurn). is_some (tpdu_at t u)) (turn_is t live ∙ ap (λ (o : Option (List ℕ)). turn_among o (nat_lt t.newest (ack_of t)) (nat_lt t.given (length t.segments) && nat_lt t.given t.edge)) none)) ∙ rest)
  where
    both : (t : Transport) (owed granted : Bool) → is_some (tpdu_at t (turn_among None owed granted)) ≡ false → (owed ≡ false) × (granted ≡ false)
    both t true granted h = absurd cc
    both t false true h = absurd cc
    both t false false h = (refl, refl)

-- a station whose payloads were all taken has none that waits
none_waits : (taken handed : List (List ℕ)) (sent : ℕ) → taken ≡ handed → length taken ≤ sent → (length handed - sent == 0) ≡ true
none_waits taken handed sent e most = eq-eqb (length handed - sent) 0 (let same : length taken ≡ length handed = ap length e in omega arith)

-- ---- what was heard is all that was given

all_heard : (x y : Core) → Spelled y → x.line.taken ≡ y.line.handed → heard x y ≡ y.upper.transport.gave
all_heard x y spelled taken =
    let same : length x.line.taken ≡ length y.upper.transport.gave = ap length taken ∙ ap length spelled ∙ length-map y.upper.transport.gave block in
    take_all (length x.line.taken) y.upper.transport.gave (omega arith)

-- ---- two live ends that are open, at rest, and heard all

-- each DT of x was received by y
got_is : (gave : List GivenTpdu) (segs got : List Segment) (given : ℕ) → dts gave ≡ number 0 (take given segs) → dts gave ≡ number 0 got → got ≡ take given segs
got_is gave segs got given a b = number_same 0 got (take given segs) (sym b ∙ a)

pub record QuietPair (s : EndLinkOpening) (c : Bool) (x y : Core) : Type 0 where
  pub own_x : Own s c x y.upper.transport.gave
  pub own_y : Own s (not c) y x.upper.transport.gave
  pub live_x : x.released ≡ None
  pub live_y : y.released ≡ None
  pub free_x : (waiting x.line == 0) ≡ true
  pub free_y : (waiting y.line == 0) ≡ true
  pub used_y : y.upper.used ≡ length y.upper.accepted
  pub open_x : x.upper.transport.stage ≡ stages.Open
  pub open_y : y.upper.transport.stage ≡ stages.Open

rest_of : (x : Core) → x.upper.transport.stage ≡ stages.Open → x.upper.transport.due ≡ None → (waiting x.line == 0) ≡ true → has_next_tpdu model x ≡ false
    → (nat_lt x.upper.transport.newest (ack_of x.upper.transport) ≡ false)
    × ((nat_lt x.upper.transport.given (length x.upper.transport.segments) && nat_lt x.upper.transport.given x.upper.transport.edge) ≡ false)
rest_of x opened none free rest =
    resting x.upper.transport (ap is_over opened) none (sym (ap (λ (b : Bool). b && is_some (next_tpdu x.upper.transport)) free) ∙ rest)

-- all segments of x were given and came to y
pub all_given : LawsBelow → (s : EndLinkOpening) (c : Bool) (x y : Core) → QuietPair s c x y → y.upper.transport.contents ≡ x.upper.transport.segments
all_given below s c x y r =
    let t : Transport = x.upper.transport in
    let u : Transport = y.upper.transport in
    let vx = r.own_x.lives r.live_x in
    let vy = r.own_y.lives r.live_y in
    let rx = rest_of x r.open_x vx.rested.0 r.free_x vx.rested.1 in
    let ry = rest_of y r.open_y vy.rested.0 r.free_y vy.rested.1 in
    let got = got_is t.gave t.segments u.contents t.given r.own_x.always.gives.all r.own_y.always.gets.all in
    let most = r.own_x.always.gives.most in
    let many : length u.contents ≡ t.given = ap length got ∙ length-take-le t.given t.segments most in
    let taken : length (messages_in u.contents) ≤ u.taken = omega (arith, vy.trusting.took_is, r.used_y) in
    let all : ack_of u ≡ length u.contents = below.all u.taken u.contents taken in
    let told : ack_of u ≤ u.newest = ltb-false u.newest (ack_of u) ry.0 in
    let lag = r.own_y.always.gives.lag in
    let acked : t.acked ≡ u.newest = ends_one 0 t.acked u.newest (aks u.gave) r.own_x.always.gets.last vy.alive.final in
    let edge : t.edge ≡ t.acked + s.settings.credit = subst (λ (st : Stage). EdgeIs st t.acked t.edge s.settings.credit) r.open_x vx.alive.edge_is in
    let credit = (credit_known below s).0 in
    let below_edge : nat_lt t.given t.edge ≡ true = lt-ltb t.given t.edge (omega arith) in
    let none_left : nat_lt t.given (length t.segments) ≡ false = first (nat_lt t.given (length t.segments)) (nat_lt t.given t.edge) below_edge rx.1 in
    let every : length t.segments ≤ t.given = ltb-false t.given (length t.segments) none_left in
    got ∙ take_all t.given t.segments every
  where
    first : (a b : Bool) → b ≡ true → (a && b) ≡ false → a ≡ false
    first true true e h = absurd cc
    first true false e h = absurd cc
    first false b e h = refl

-- so each accepted what the other sent
pub all_accepted : LawsBelow → (s : EndLinkOpening) (c : Bool) (x y : Core) → QuietPair s c x y → y.upper.accepted ≡ x.upper.sent
all_accepted below s c x y r =
    sym (r.own_y.lives r.live_y).trusting.users_is ∙ ap (λ (ss : List Segment). users (messages_in ss)) (all_given below s c x y r) ∙ r.own_x.always.out

-- ---- a link whose lines are empty

-- a caller whose station is up gave a TPDU
caller_gave : (stage : Stage) (due : Option (List ℕ)) (h gave : List GivenTpdu) (phase : Link_phase) → phase ≡ Up → due ≡ None → Stages true stage due h gave phase → 1 ≤ length gave
caller_gave stages.New due h gave phase up none a = absurd (true≢false (sym (ap is_up up) ∙ a.3))
caller_gave stages.Calling due h gave phase up none a = a.1 none
caller_gave stages.Called due h gave phase up none a = absurd a
caller_gave stages.Open due h gave phase up none a = a.1 none
caller_gave stages.Over due h gave phase up none a = absurd a

some_heard : (h : List GivenTpdu) → h ≡ [] → 1 ≤ length h → ⊥
some_heard h e some = let n : length h ≡ 0 = ap length e in omega arith

-- a side that heard a TPDU is open, and gave one
is_open : (c : Bool) (stage : Stage) (due : Option (List ℕ)) (h gave : List GivenTpdu) (phase : Link_phase) → 1 ≤ length h → due ≡ None → Stages c stage due h gave phase
    → (stage ≡ stages.Open) × (1 ≤ length gave)
is_open true stages.New due h gave phase some none a = absurd (some_heard h a.1 some)
is_open false stages.New due h gave phase some none a = absurd (some_heard h a.1 some)
is_open true stages.Calling due h gave phase some none a = absurd (some_heard h a.0 some)
is_open false stages.Calling due h gave phase some none a = absurd a
is_open c stages.Called due h gave phase some none a = absurd a
is_open c stages.Open due h gave phase some none a = (refl, a.1 none)
is_open c stages.Over due h gave phase some none a = absurd a

-- both ends: open and at rest, each heard all that the other gave
pub record Quiet (s : EndLinkOpening) (l : EndLink) : Type 0 where
  pub to_r : QuietPair s true l.e.core l.r.core
  pub to_e : QuietPair s false l.r.core l.e.core

-- of the stations: the calling one is up, and each took what the other was handed, the calling one where it was handed a payload itself
pub quiet_at : (s : EndLinkOpening) (l : EndLink) (h : Holds s l) → l.e.core.released ≡ None → l.r.core.released ≡ None → IsEmpty l → l.e.core.line.phase ≡ Up
    → l.r.core.line.taken ≡ l.e.core.line.handed → (1 ≤ length l.e.core.line.handed → l.e.core.line.taken ≡ l.r.core.line.handed) → Quiet s l
quiet_at s l h live_e live_r empty up took_r took =
    let e : Core = l.e.core in
    let r : Core = l.r.core in
    let te : Transport = e.upper.transport in
    let tr : Transport = r.upper.transport in
    let ne : h.fe ≡ [] = none_on_line e.line h.fe (sym empty.0 ∙ h.lined_e) in
    let nr : h.fr ≡ [] = none_on_line r.line h.fr (sym empty.1 ∙ h.lined_r) in
    let p : IsStationPair false h.k [] e.line [] r.line =
    subst (λ (t : List Frame). IsStationPair false h.k t e.line [] r.line) ne (subst (λ (t : List Frame). IsStationPair false h.k h.fe e.line t r.line) nr h.two.lines) in
    let ve = h.two.own_e.lives live_e in
    let vr = h.two.own_r.lives live_r in
    let gave_e : 1 ≤ length te.gave = caller_gave te.stage te.due (heard e r) te.gave e.line.phase up ve.rested.0 ve.alive.stages in
    let handed_e : length e.line.handed ≡ length te.gave = ap length h.two.spelled_e ∙ length-map te.gave block in
    let took_e : e.line.taken ≡ r.line.handed = took (omega arith) in
    let all_r : heard r e ≡ te.gave = all_heard r e h.two.spelled_e took_r in
    let all_e : heard e r ≡ tr.gave = all_heard e r h.two.spelled_r took_e in
    let own_e : Own s true e tr.gave = subst (λ (t : List GivenTpdu). Own s true e t) all_e h.two.own_e in
    let own_r : Own s false r te.gave = subst (λ (t : List GivenTpdu). Own s false r t) all_r h.two.own_r in
    let open_r = is_open false tr.stage tr.due te.gave tr.gave r.line.phase gave_e vr.rested.0 (own_r.lives live_r).alive.stages in
    let open_e = is_open true te.stage te.due tr.gave te.gave e.line.phase open_r.1 ve.rested.0 (own_e.lives live_e).alive.stages in
    let free_e = none_waits r.line.taken e.line.handed e.line.sent took_r p.0.0.chain in
    let free_r = none_waits e.line.taken r.line.handed r.line.sent took_e p.1.0.chain in
    record {
      to_r = record {
        own_x = own_e;
        own_y = own_r;
        live_x = live_e;
        live_y = live_r;
        free_x = free_e;
        free_y = free_r;
        used_y = empty.3;
        open_x = open_e.0;
        open_y = open_r.0;
      };
      to_e = record {
        own_x = own_r;
        own_y = own_e;
        live_x = live_r;
        live_y = live_e;
        free_x = free_r;
        free_y = free_e;
        used_y = empty.2;
        open_x = open_r.0;
        open_y = open_e.0;
      };
    }

pub quiet : LossFreeLawsBelow → (s : EndLinkOpening) (l : EndLink) → Flows s l → IsEmpty l → Quiet s l
quiet free s l g empty =
    let h = g.holds in
    let e : Core = l.e.core in
    let r : Core = l.r.core in
    let ne : h.fe ≡ [] = none_on_line e.line h.fe (sym empty.0 ∙ h.lined_e) in
    let nr : h.fr ≡ [] = none_on_line r.line h.fr (sym empty.1 ∙ h.lined_r) in
    let p : IsStationPair false h.k [] e.line [] r.line =
    subst (λ (t : List Frame). IsStationPair false h.k t e.line [] r.line) ne (subst (λ (t : List Frame). IsStationPair false h.k h.fe e.line t r.line) nr h.two.lines) in
    let q : Shape l.passes [] e.line [] r.line =
    subst (λ (t : List Frame). Shape l.passes t e.line [] r.line) ne (subst (λ (t : List Frame). Shape l.passes h.fe e.line t r.line) nr g.shape) in
    let b = free.bounds.emptied false h.k l.passes e.line r.line p q in
    quiet_at s l h g.live_e g.live_r empty b.0 b.2 b.3

-- ---- both are connected

-- an initiator that is open said something
e_said : (s : EndLinkOpening) (p : Phase) (out sent came accepted : List (List ℕ)) → Joint s true stages.Open p → PhaseIs s true p out sent came accepted → out ≡ [] → ⊥
e_said s (WaitAu3 connection) out sent came accepted j h none = let e : true ≡ false = j in cc
e_said s (WaitAr connection) out sent came accepted j h none = let e : said_all s true [] ≡ [] = sym h.0 ∙ none in cc
e_said s (Connected peer key) out sent came accepted j h none = let e : said_all s true sent ≡ [] = sym h.0 ∙ none in cc
e_said s _ out sent came accepted j h none = j

-- a responder to which something came is connected, and said something
r_connected : (s : EndLinkOpening) (p : Phase) (out sent came accepted : List (List ℕ)) → Joint s false stages.Open p → PhaseIs s false p out sent came accepted → (came ≡ [] → ⊥)
    → (is_connected p ≡ true) × (out ≡ [] → ⊥)
r_connected s (WaitAu3 connection) out sent came accepted j h some = absurd (some h.2)
r_connected s (WaitAr connection) out sent came accepted j h some = absurd (let e : false ≡ true = j in let u : ⊥ = cc in u)
r_connected s (Connected peer key) out sent came accepted j h some = (refl, λ none. (let e : said_all s false sent ≡ [] = sym h.0 ∙ none in cc))
r_connected s _ out sent came accepted j h some = absurd j

-- an initiator to which something came is connected
e_connected : (s : EndLinkOpening) (p : Phase) (out sent came accepted : List (List ℕ)) → Joint s true stages.Open p → PhaseIs s true p out sent came accepted → (came ≡ [] → ⊥) → is_connected p ≡ true
e_connected s (WaitAu3 connection) out sent came accepted j h some = absurd (let e : true ≡ false = j in let u : ⊥ = cc in u)
e_connected s (WaitAr connection) out sent came accepted j h some = absurd (some h.2)
e_connected s (Connected peer key) out sent came accepted j h some = refl
e_connected s _ out sent came accepted j h some = absurd j

pub has_all : LawsBelow → (s : EndLinkOpening) → Agree s → (l : EndLink) → l.e.core.released ≡ None → l.r.core.released ≡ None → Quiet s l → HasAll l
has_all below s agree l live_e live_r q =
    let e : Core = l.e.core in
    let r : Core = l.r.core in
    let te : Transport = e.upper.transport in
    let tr : Transport = r.upper.transport in
    let ve = (q.to_r.own_x.lives live_e).trusting in
    let vr = (q.to_r.own_y.lives live_r).trusting in
    let je : Joint s true stages.Open e.safe.safety.phase = subst (λ (st : Stage). Joint s true st e.safe.safety.phase) q.to_r.open_x ve.joint in
    let jr : Joint s false stages.Open r.safe.safety.phase = subst (λ (st : Stage). Joint s false st r.safe.safety.phase) q.to_r.open_y vr.joint in
    let given_r : tr.contents ≡ te.segments = all_given below s true e r q.to_r in
    let given_e : te.contents ≡ tr.segments = all_given below s false r e q.to_e in
    let came_r : messages_in tr.contents ≡ [] → ⊥ = λ none.
    e_said s e.safe.safety.phase (messages_in te.segments) e.upper.sent (messages_in te.contents) e.upper.accepted je (ve.phase_is agree) (sym (ap messages_in given_r) ∙ none) in
    let cr = r_connected s r.safe.safety.phase (messages_in tr.segments) r.upper.sent (messages_in tr.contents) r.upper.accepted jr (vr.phase_is agree) came_r in
    let came_e : messages_in te.contents ≡ [] → ⊥ = λ none. cr.1 (sym (ap messages_in given_e) ∙ none) in
    record {
      e_connected = e_connected s e.safe.safety.phase (messages_in te.segments) e.upper.sent (messages_in te.contents) e.upper.accepted je (ve.phase_is agree) came_e;
      r_connected = cr.0;
      at_r = all_accepted below s true e r q.to_r;
      at_e = all_accepted below s false r e q.to_e;
    }

pub delivery : LossFreeLawsBelow → Delivery
delivery free s steps fits agree clean empty =
    let l : EndLink = end_link_after s steps in
    let g = after_flows free s steps fits agree clean in
    has_all free.below s agree l g.live_e g.live_r (quiet free s l g empty)
