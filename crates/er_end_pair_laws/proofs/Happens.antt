-- Each event at one end, from rest to rest.
use Rattle.std.proofs.Common.{◌≡◌, ℕ, ◌+◌, ◌-◌, ◌<◌, ◌≤◌, inl, inr, Bool, true, false, not, ◌&&◌, List, [], ◌∷◌, ◌++◌, length, Option, Some, None, refl, sym, ◌∙◌, ap, subst, arith, lt-ltb, true≢false, append-nil}
use Rattle.hdlc_station_model.specs.Receiving.{is_some_octets}
use Rattle.std.specs.Prelude.{nat_lt, nat_le, ◌==◌, if◌then◌else◌, is_some}
use Rattle.std.proofs.lemmas.Bool.{cond_both}
use Rattle.std.proofs.lemmas.Bool.Decides.{leb_tells}
use Rattle.std.proofs.lemmas.List.{map-append}
use Rattle.er_base.specs.Octets.{AreOctets}
use Rattle.er_base.specs.declared.release.Release.{Release}
use Rattle.er_base.specs.declared.cause.Cause.TheVariants.{User, SetUpTimeSpent}
use Rattle.er_base.specs.Causes.{release_of}
use Rattle.des_block.specs.declared.triple_key.TripleKey.{TripleKey}
use Rattle.cbc_mac.specs.Mac.{mac_of}
use Rattle.sapdu.specs.Spelling.{Dt, Di, spelling, di_in}
use Rattle.sapdu.specs.Messages.{is_message, IsMessage}
use Rattle.safety_automaton.specs.Safety.{no_keys, Safety, Phase, Connected, Released, DataRequest, DisconnectRequest, SafetyOutcome, Refused, RefusedLength, sends_dt, message_text, octets_sent_in_outcome, step}
use Rattle.safety_automaton.specs.Rules.{IsOpen}
use Rattle.hdlc_station_model.specs.Frames.{Frame}
use Rattle.hdlc_station_model.specs.Stations.{Station, no_deed, settled}
use Rattle.hdlc_station_model.specs.Calls as station
use Rattle.hdlc_pair_laws.specs.Invariant.{IsStationPair, Both}
use Rattle.hdlc_pair_laws.specs.Keeping.{found}
use Rattle.x224_class2.specs.Segments.{Segment, segments_of, messages_in}
use Rattle.x224_class2.specs.Tpdus.{GivenTpdu, Dr}
use Rattle.x224_class2.specs.Transport.{Transport, is_open, after_taken, after_hand, waiting_count}
use Rattle.x224_class2.specs.declared.stage.Stage.{Stage}
use Rattle.x224_class2.specs.declared.stage.Stage.TheVariants as stages
use Rattle.er_end_model.specs.Outcomes.{SendRefusal, RefusedNotConnected, RefusedFull}
use Rattle.er_end_model.specs.Outcomes as outcomes
use Rattle.er_end_model.specs.Layers.{Core, model}
use Rattle.er_end_model.specs.Steps.{new_event_at, send_dr, normal_disconnect, with_safety_step, hand_text, on_link_deed, conclude_event, on_frame, on_tick, on_expiry, is_spent, is_connected, di_of, on_release, on_take, on_start, on_send, refusal_at, why_of}
use Rattle.er_end_pair_laws.specs.Openings.{EndLinkOpening, Agree}
use Rattle.er_end_pair_laws.specs.Reasons.{IsLosingLineRelease}
use Rattle.er_end_pair_laws.specs.LawsBelow.{LawsBelow}
use Rattle.er_end_pair_laws.proofs.Lists.{each_push}
use Rattle.er_end_pair_laws.proofs.Locals.{Fits}
use Rattle.er_end_pair_laws.proofs.Turns.{fits_dr}
use Rattle.er_end_pair_laws.proofs.Constants.{side_in, own_number, flag_at, opening_text, sealed_text, said_all, users_of, users_of_reading, Sendable}
use Rattle.er_end_pair_laws.proofs.Follows.{some_octets, reads_dt}
use Rattle.er_end_pair_laws.proofs.Own.{Stages, Joint, PhaseIs, Own, heard, Spelled, Busy, Gone, Done}
use Rattle.er_end_pair_laws.proofs.Leaves.{leave_ok, departs_gone, ended_gone}
use Rattle.er_end_pair_laws.proofs.Concludes.{concludes_keeps, gone_concludes}
use Rattle.er_end_pair_laws.proofs.Arrives.{always_handed, said_more}
use Rattle.er_end_pair_laws.proofs.Events.{State, state_done, busy_of_done, gone_of_busy, at_release, live_phase_open, with_line, line_busy, line_gone, stages_phase, told_reason}
use Rattle.er_end_pair_laws.proofs.Calls.{link_by}

-- ---- a frame comes

frame_lost : LawsBelow → (s : EndLinkOpening) (c : Bool) (k : ℕ) (w : List Frame) (x : Core) (f : Frame) (fs : List Frame) (y : Core) → Done s c k w x (f ∷ fs) y → Done s c k w x fs y
frame_lost below s c k w x f fs y d =
    record { beside = (below.keep.lost false k (w ++ x.line.said) x.line f fs y.line d.beside.0, d.beside.1, d.beside.2, d.beside.3); own = d.own }

frame_at : LawsBelow → (s : EndLinkOpening) (c : Bool) (k : ℕ) (w : List Frame) (x : Core) (f : Frame) (fs : List Frame) (y : Core) (o : Option Release) → x.released ≡ o → x.line.deed ≡ no_deed
    → Done s c k w x (f ∷ fs) y
    → Done s c k w (if is_some o then x else conclude_event model (on_link_deed model s.finder (station.receives x.moment (found y.line f) x.line).deed (with_line x (station.receives x.moment (found y.line f) x.line)))) fs y
frame_at below s c k w x f fs y (Some why) e quiet d = frame_lost below s c k w x f fs y d
frame_at below s c k w x f fs y None e quiet d =
    state_done below s c k w (on_link_deed model s.finder (station.receives x.moment (found y.line f) x.line).deed (with_line x (station.receives x.moment (found y.line f) x.line))) fs y
    (link_by below s c k w x f fs y (station.receives x.moment (found y.line f) x.line).deed.payload (station.receives x.moment (found y.line f) x.line).deed.up
    (station.receives x.moment (found y.line f) x.line).deed.released refl refl refl quiet (d.own.lives e).rested.0 e
    (busy_of_done s c k w x (f ∷ fs) y e d)).state

pub received_keeps : LawsBelow → (s : EndLinkOpening) (c : Bool) (k : ℕ) (w : List Frame) (x : Core) (f : Frame) (fs : List Frame) (y : Core) → x.line.deed ≡ no_deed
    → Done s c k w x (f ∷ fs) y → Done s c k w (on_frame model s.finder (found y.line f) x) fs y
received_keeps below s c k w x f fs y quiet d = frame_at below s c k w x f fs y x.released refl quiet d

-- where the keys agree and the station told no release, a live peer ends no link
pub received_good : LawsBelow → (s : EndLinkOpening) (c : Bool) (k : ℕ) (w : List Frame) (x : Core) (f : Frame) (fs : List Frame) (y : Core) → x.line.deed ≡ no_deed → x.released ≡ None
    → (station.receives x.moment (found y.line f) x.line).deed.released ≡ None → Agree s → y.released ≡ None → Done s c k w x (f ∷ fs) y
    → (on_link_deed model s.finder (station.receives x.moment (found y.line f) x.line).deed (with_line x (station.receives x.moment (found y.line f) x.line))).released ≡ None
received_good below s c k w x f fs y quiet e none agree live d =
    (link_by below s c k w x f fs y (station.receives x.moment (found y.line f) x.line).deed.payload (station.receives x.moment (found y.line f) x.line).deed.up
    (station.receives x.moment (found y.line f) x.line).deed.released refl refl refl quiet (d.own.lives e).rested.0 e
    (busy_of_done s c k w x (f ∷ fs) y e d)).good none agree live

-- ---- a DI of the end's own

di_known : (c : Bool) (reason sub : ℕ) → di_in (spelling (Di reason sub) (flag_at c)) (flag_at c) ≡ Some (reason, sub)
di_known true reason sub = refl
di_known false reason sub = refl

di_short : (c : Bool) (reason sub : ℕ) → length (spelling (Di reason sub) (flag_at c)) ≤ 64
di_short c reason sub = omega arith

di_fits : (c : Bool) (reason sub : ℕ) → Fits (Dr normal_disconnect (spelling (Di reason sub) (flag_at c)))
di_fits c reason sub = fits_dr normal_disconnect (spelling (Di reason sub) (flag_at c)) (omega arith) (di_short c reason sub)

-- ---- time goes on

module _ (below : LawsBelow) (s : EndLinkOpening) (c : Bool) (k : ℕ) (w : List Frame) (x : Core) (l : List Frame) (y : Core) where
  abbrev ticked_line : Station
  ticked_line = station.ticks x.moment x.line

  abbrev ticked_core : Core
  ticked_core = with_line x ticked_line

  ticked_gone : x.line.deed ≡ no_deed → Busy s c k w x l y → Gone s c k w ticked_core l y
  ticked_gone quiet b =
      let p = (below.ticked x.moment x.line quiet).payloads in
      line_gone s c k w x l l y ticked_line (below.keep.ticked false k w x.moment x.line l y.line b.beside.0) p.0 p.1 (gone_of_busy s c k w x l y b)

  ticked_stages : x.line.deed ≡ no_deed → ticked_line.deed.released ≡ None → Busy s c k w x l y
      → Stages c x.upper.transport.stage x.upper.transport.due (heard x y) x.upper.transport.gave ticked_line.phase
  ticked_stages quiet none b =
      stages_phase c x.upper.transport.stage x.upper.transport.due (heard x y) x.upper.transport.gave x.line.phase ticked_line.phase (below.ticks.asleep x.moment x.line)
      (λ up. below.ticks.awake x.moment x.line quiet up none) b.alive.stages

  spent_by : x.line.deed ≡ no_deed → ticked_line.deed.released ≡ None → x.upper.transport.due ≡ None → Busy s c k w x l y
      → State s c k w (send_dr model (release_of SetUpTimeSpent) normal_disconnect (di_of (release_of SetUpTimeSpent) x.safe.safety) ticked_core) l y
  spent_by quiet none due b =
      let g = ticked_gone quiet b in
      let st = ticked_stages quiet none b in
      let ok = leave_ok c x.upper.transport.stage x.upper.transport.due (heard x y) x.upper.transport.gave ticked_line.phase due st in
      subst (λ (sf : Safety). State s c k w (send_dr model (release_of SetUpTimeSpent) normal_disconnect (di_of (release_of SetUpTimeSpent) sf) ticked_core) l y) (sym b.trusting.side_is)
      (inr (
        release_of SetUpTimeSpent,
        refl,
        departs_gone below s c k w ticked_core l y (release_of SetUpTimeSpent) normal_disconnect (spelling (Di 6 1) (flag_at c)) (di_fits c 6 1) ok
            (λ a. subst (λ (o : Option (ℕ × ℕ)). IsLosingLineRelease (Some (why_of o))) (sym (di_known c 6 1)) (inr (inr (refl, refl))))
            (λ a. inr (inr (refl, refl))) g,
      ))

  time_by : (o : Option Release) → ticked_line.deed.released ≡ o → x.line.deed ≡ no_deed → x.released ≡ None → x.upper.transport.due ≡ None → Busy s c k w x l y
      → State s c k w (on_expiry model o ticked_core) l y
  time_by (Some why) e quiet live due b =
      let both = below.keep.ticked false k w x.moment x.line l y.line b.beside.0 in
      inr (why, refl, ended_gone s c k w ticked_core l y why (λ a. told_reason why ticked_line (below.ticks.reason x.moment x.line quiet) e both.0.5) (ticked_gone quiet b))
  time_by None e quiet live due b =
      let p = (below.ticked x.moment x.line quiet).payloads in
      cond_both (is_spent ticked_core)
      (send_dr model (release_of SetUpTimeSpent) normal_disconnect (di_of (release_of SetUpTimeSpent) x.safe.safety) ticked_core) ticked_core (λ z. State s c k w z l y)
      (λ spent. spent_by quiet e due b)
      (λ early. inl (
        live,
        line_busy s c k w x l l y ticked_line (below.keep.ticked false k w x.moment x.line l y.line b.beside.0) p.0 p.1
            (below.ticks.lives x.moment x.line quiet b.alive.awake e) (ticked_stages quiet e b) b,
      ))

  pub ticked_keeps : x.line.deed ≡ no_deed → Done s c k w x l y → Done s c k w (on_tick model x) l y
  ticked_keeps quiet d =
      at_release s c k w x l y x.released refl (conclude_event model (on_expiry model ticked_line.deed.released ticked_core)) d
      (λ live. state_done below s c k w (on_expiry model ticked_line.deed.released ticked_core) l y
      (time_by ticked_line.deed.released refl quiet live (d.own.lives live).rested.0 (busy_of_done s c k w x l y live d)))

-- ---- the user releases

leaves_with : (s : EndLinkOpening) (c : Bool) (p : Phase) (sub : ℕ) → IsOpen p → octets_sent_in_outcome (step no_keys (side_in s c p) (DisconnectRequest sub)).1 ≡ spelling (Di 0 sub) (flag_at c)
leaves_with s c (Released release known) sub h = absurd h
leaves_with s c _ sub h = refl

left_state : LawsBelow → (s : EndLinkOpening) (c : Bool) (k : ℕ) (w : List Frame) (x : Core) (l : List Frame) (y : Core) (sub : ℕ) → x.upper.transport.due ≡ None → Busy s c k w x l y
    → (a : Safety × SafetyOutcome) → octets_sent_in_outcome a.1 ≡ spelling (Di 0 sub) (flag_at c)
    → State s c k w (send_dr model (release_of (User sub)) normal_disconnect (octets_sent_in_outcome a.1) (with_safety_step model (DisconnectRequest sub) a x)) l y
left_state below s c k w x l y sub due b a e =
    let z : Core = with_safety_step model (DisconnectRequest sub) a x in
    let ok = leave_ok c x.upper.transport.stage x.upper.transport.due (heard x y) x.upper.transport.gave x.line.phase due b.alive.stages in
    subst (λ (octets : List ℕ). State s c k w (send_dr model (release_of (User sub)) normal_disconnect octets z) l y) (sym e)
    (inr (
      release_of (User sub),
      refl,
      departs_gone below s c k w z l y (release_of (User sub)) normal_disconnect (spelling (Di 0 sub) (flag_at c)) (di_fits c 0 sub) ok
          (λ a. subst (λ (o : Option (ℕ × ℕ)). IsLosingLineRelease (Some (why_of o))) (sym (di_known c 0 sub)) (inl refl)) (λ a. inl refl)
          (record { beside = b.beside; always = b.always; told = b.told }),
    ))

gone_done : (s : EndLinkOpening) (c : Bool) (k : ℕ) (w : List Frame) (x : Core) (l : List Frame) (y : Core) (why : Release) → x.released ≡ Some why → Gone s c k w x l y → Done s c k w x l y
gone_done s c k w x l y why e b =
    record { beside = b.beside; own = record { always = b.always; told = b.told; lives = λ none. absurd (let u : Some why ≡ None = sym e ∙ none in let v : ⊥ = cc in v) } }

pub left_keeps : LawsBelow → (s : EndLinkOpening) (c : Bool) (k : ℕ) (w : List Frame) (x : Core) (l : List Frame) (y : Core) (sub : ℕ) → Done s c k w x l y → Done s c k w (on_release model sub x) l y
left_keeps below s c k w x l y sub d =
    let a : Safety × SafetyOutcome = step no_keys x.safe.safety (DisconnectRequest sub) in
    at_release s c k w x l y x.released refl (send_dr model (release_of (User sub)) normal_disconnect (octets_sent_in_outcome a.1) (with_safety_step model (DisconnectRequest sub) a x)) d
    (λ live.
    let v = d.own.lives live in
    let p : Phase = x.safe.safety.phase in
    let e : octets_sent_in_outcome a.1 ≡ spelling (Di 0 sub) (flag_at c) =
    ap (λ (sf : Safety). octets_sent_in_outcome (step no_keys sf (DisconnectRequest sub)).1) v.trusting.side_is ∙ leaves_with s c p sub (live_phase_open s c x.upper.transport.stage p v.trusting.joint) in
    elim (left_state below s c k w x l y sub v.rested.0 (busy_of_done s c k w x l y live d) a e) [
      | inl alive' ↦ absurd (let q = alive'.0 in let u : ⊥ = cc in u)
      | inr gone ↦ gone_done s c k w _ l y gone.0 gone.1 gone.2
    ])

-- ---- the user takes

took_busy : (s : EndLinkOpening) (c : Bool) (k : ℕ) (w : List Frame) (x : Core) (l : List Frame) (y : Core) → Busy s c k w x l y
    → Busy s c k w (record x { upper = record (x.upper) { transport = after_taken x.upper.transport; used = x.upper.used + 1 } }) l y
took_busy s c k w x l y b = record {
  beside = b.beside;
  always = b.always;
  told = b.told;
  alive = b.alive;
  trusting = record {
    joint = b.trusting.joint;
    side_is = b.trusting.side_is;
    users_is = b.trusting.users_is;
    took_is = omega (arith, b.trusting.took_is);
    phase_is = b.trusting.phase_is;
  };
}

took_by : LawsBelow → (s : EndLinkOpening) (c : Bool) (k : ℕ) (w : List Frame) (x : Core) (l : List Frame) (y : Core) (o : Option Release) → x.released ≡ o → Done s c k w x l y
    → Done s c k w (conclude_event model (record x { upper = record (x.upper) { transport = after_taken x.upper.transport; used = x.upper.used + 1 } })) l y
took_by below s c k w x l y None e d =
    concludes_keeps below s c k w (record x { upper = record (x.upper) { transport = after_taken x.upper.transport; used = x.upper.used + 1 } }) l y e (took_busy s c k w x l y (busy_of_done s c k w x l y e d))
took_by below s c k w x l y (Some why) e d =
    gone_concludes s c k w (record x { upper = record (x.upper) { transport = after_taken x.upper.transport; used = x.upper.used + 1 } }) l y why e
    (record { beside = d.beside; always = d.own.always; told = d.own.told })

pub used_keeps : LawsBelow → (s : EndLinkOpening) (c : Bool) (k : ℕ) (w : List Frame) (x : Core) (l : List Frame) (y : Core) → Done s c k w x l y → Done s c k w (on_take model x) l y
used_keeps below s c k w x l y d =
    cond_both (length x.upper.accepted - x.upper.used == 0) x
    (conclude_event model (record x { upper = record (x.upper) { transport = after_taken x.upper.transport; used = x.upper.used + 1 } })) (λ z. Done s c k w z l y)
    (λ none. d) (λ some. took_by below s c k w x l y x.released refl d)

-- ---- the start

pub started_keeps : LawsBelow → (s : EndLinkOpening) (c : Bool) (k : ℕ) (w : List Frame) (x : Core) (l : List Frame) (y : Core) → Done s c k w x l y → Done s c k w (on_start model x) l y
started_keeps below s c k w x l y d =
    let line : Station = station.starts x.moment x.line in
    at_release s c k w x l y x.released refl (conclude_event model (with_line x line)) d
    (λ live.
    let b = busy_of_done s c k w x l y live d in
    let o = (below.others x.moment x.line).0 in
    let up = below.phases.starts_up x.moment x.line in
    concludes_keeps below s c k w (with_line x line) l y live
    (line_busy s c k w x l l y line (below.keep.started false k w x.moment x.line l y.line b.beside.0) o.0 o.1 (below.phases.starts_down x.moment x.line ∙ b.alive.awake)
    (stages_phase c x.upper.transport.stage x.upper.transport.due (heard x y) x.upper.transport.gave x.line.phase line.phase (λ asleep. up ∙ asleep) (λ awake. up ∙ awake) b.alive.stages) b))

-- ---- the user sends

refusal_none : (o : Option Release) (connected : Bool) (user : List ℕ) (waiting : ℕ) → refusal_at o connected user waiting ≡ None
    → (o ≡ None) × (connected ≡ true) × (is_message user ≡ true) × (nat_le 16 waiting ≡ false)
refusal_none (Some why) connected user waiting e = absurd cc
refusal_none None connected user waiting e = let t = tested connected (is_message user) (nat_le 16 waiting) RefusedNotConnected (outcomes.RefusedLength (length user)) (RefusedFull waiting) e in (refl, t.0, t.1, t.2)
  where
    tested : (a b d : Bool) (x y z : SendRefusal) → (if not a then Some x else if not b then Some y else if d then Some z else None) ≡ None → (a ≡ true) × (b ≡ true) × (d ≡ false)
    tested false b d x y z e = absurd cc
    tested true false d x y z e = absurd cc
    tested true true true x y z e = absurd cc
    tested true true false x y z e = (refl, refl, refl)

connected_is : (p : Phase) → is_connected p ≡ true → (peer : ℕ) × (key : TripleKey) × (p ≡ Connected peer key)
connected_is (Connected peer key) e = (peer, key, refl)
connected_is _ e = absurd cc

connected_open : (s : EndLinkOpening) (c : Bool) (st : Stage) (peer : ℕ) (key : TripleKey) → Joint s c st (Connected peer key) → is_open st ≡ true
connected_open s c stages.Open peer key j = refl
connected_open s c _ peer key j = absurd j

below_16 : (n : ℕ) → nat_le 16 n ≡ false → n < 16
below_16 n e = elim (leb_tells 16 n) [ inl yes' ↦ absurd (true≢false (sym yes'.0 ∙ e)) | inr no' ↦ no'.1 ]

sent_at : LawsBelow → (s : EndLinkOpening) (c : Bool) (k : ℕ) (w : List Frame) (x : Core) (l : List Frame) (y : Core) (user : List ℕ) (peer : ℕ) (key : TripleKey) → AreOctets user → is_message user ≡ true
    → waiting_count x.upper.transport < 16 → x.released ≡ None → x.safe.safety.phase ≡ Connected peer key → Busy s c k w x l y → Done s c k w (on_send model user x) l y
sent_at below s c k w x l y user peer key are message few live p b =
    let t : Transport = x.upper.transport in
    let side : Safety = side_in s c (Connected peer key) in
    let is : x.safe.safety ≡ side = b.trusting.side_is ∙ ap (side_in s c) p in
    let a : Safety × SafetyOutcome = sends_dt side peer key user in
    let e : step no_keys x.safe.safety (DataRequest user) ≡ a =
    ap (λ (sf : Safety). step no_keys sf (DataRequest user)) is ∙ ap (λ (d : Bool). if not d then (side, Refused (RefusedLength (length user))) else a) message in
    let text : List ℕ = message_text (flag_at c) peer user in
    let octets : List ℕ = spelling (Dt user (mac_of key text)) (flag_at c) in
    let is_msg : IsMessage user = (below.tested user).0 message in
    let small : length octets ≤ 1032 = below.spelled (Dt user (mac_of key text)) (flag_at c) is_msg in
    let some : 0 < length octets = some_octets octets (Dt user (mac_of key text)) (flag_at c) refl in
    let sendable : Sendable user = (is_msg, are) in
    let opened = connected_open s c t.stage peer key (subst (Joint s c t.stage) p b.trusting.joint) in
    let test : (is_some_octets octets && (is_open t.stage && nat_lt (waiting_count t) 16)) ≡ true =
    ap (λ (d : Bool). d && (is_open t.stage && nat_lt (waiting_count t) 16)) (lt-ltb 0 (length octets) some) ∙ ap (λ (d : Bool). d && nat_lt (waiting_count t) 16) opened ∙ lt-ltb (waiting_count t) 16 few in
    let y' : Core = with_safety_step model (DataRequest user) a x in
    let z' : Core = record y' { upper = record (y'.upper) { sent = x.upper.sent ++ user ∷ [] } } in
    let segs : List Segment = t.segments ++ segments_of s.settings.size octets in
    let sized : t.segments ++ segments_of t.size octets ≡ segs = ap (λ (n : ℕ). t.segments ++ segments_of n octets) b.alive.size_is in
    let said = said_more below s t.segments octets b.always.cuts in
    let z : List Segment → Core = λ ss. record z' { upper = record (z'.upper) { transport = record t { segments = ss } } } in
    let u : users_of octets ≡ user ∷ [] = ap users_of_reading (reads_dt below.safety user key text (flag_at c) sendable) in
    let always = always_handed below s c t.segments t.given t.acked t.edge t.newest t.contents t.gave x.upper.sent (x.upper.sent ++ user ∷ []) x.upper.accepted (heard x y) octets some small
    (ap (λ (us : List (List ℕ)). x.upper.sent ++ us) (sym u)) (each_push Sendable x.upper.sent user b.always.sendable sendable) b.always in
    let phase : Agree s → PhaseIs s c (Connected peer key) (messages_in t.segments) x.upper.sent (messages_in t.contents) x.upper.accepted = λ g.
    subst (λ (q : Phase). PhaseIs s c q (messages_in t.segments) x.upper.sent (messages_in t.contents) x.upper.accepted) p (b.trusting.phase_is g) in
    let out : Agree s → messages_in segs ≡ said_all s c (x.upper.sent ++ user ∷ []) = λ g.
    let q = phase g in
    said ∙ ap (λ (ms : List (List ℕ)). ms ++ octets ∷ []) q.0
    ∙ ap (λ (m : ℕ). said_all s c x.upper.sent ++ spelling (Dt user (mac_of key (message_text (flag_at c) m user))) (flag_at c) ∷ []) q.2
    ∙ ap (λ (m : TripleKey). said_all s c x.upper.sent ++ spelling (Dt user (mac_of m (message_text (flag_at c) (own_number s (not c)) user))) (flag_at c) ∷ []) q.3
    ∙ ap (λ (ms : List (List ℕ)). opening_text s c ∷ ms) (sym (map-append (sealed_text s c) x.upper.sent (user ∷ []))) in
    subst (λ (r : Safety × SafetyOutcome). Done s c k w (conclude_event model (hand_text model (octets_sent_in_outcome r.1) (let y'' = with_safety_step model (DataRequest user) r x in record y'' { upper = record (y''.upper) { sent = y''.upper.sent ++ user ∷ [] } }))) l y) (sym e)
    (subst (λ (d : Bool). Done s c k w (conclude_event model (if d then record z' { upper = record (z'.upper) { transport = after_hand t octets } } else z')) l y) (sym test)
    (subst (λ (ss : List Segment). Done s c k w (conclude_event model (z ss)) l y) (sym sized)
    (concludes_keeps below s c k w (z segs) l y live (record {
      beside = b.beside;
      always = always;
      told = λ g. let d = b.told g in record { proper = d.proper; said = inr (out g); good = d.good };
      alive = b.alive;
      trusting = record {
        joint = subst (Joint s c t.stage) p b.trusting.joint;
        side_is = refl;
        users_is = b.trusting.users_is;
        took_is = b.trusting.took_is;
        phase_is = λ g. let q = phase g in (out g, q.1, q.2, q.3);
      };
    }))))

pub sent_keeps : LawsBelow → (s : EndLinkOpening) (c : Bool) (k : ℕ) (w : List Frame) (x : Core) (l : List Frame) (y : Core) (user : List ℕ) → AreOctets user
    → refusal_at x.released (is_connected x.safe.safety.phase) user (waiting_count x.upper.transport) ≡ None → Done s c k w x l y → Done s c k w (on_send model user x) l y
sent_keeps below s c k w x l y user are e d =
    let r = refusal_none x.released (is_connected x.safe.safety.phase) user (waiting_count x.upper.transport) e in
    let p = connected_is x.safe.safety.phase r.1 in
    sent_at below s c k w x l y user p.0 p.1 are r.2 (below_16 (waiting_count x.upper.transport) r.3) r.0 p.2 (busy_of_done s c k w x l y r.0 d)

-- ---- two ends between events

pub record Two (s : EndLinkOpening) (k : ℕ) (fe : List Frame) (e : Core) (fr : List Frame) (r : Core) : Type 0 where
  pub lines : IsStationPair false k fe e.line fr r.line
  pub spelled_e : Spelled e
  pub spelled_r : Spelled r
  pub own_e : Own s true e (heard e r)
  pub own_r : Own s false r (heard r e)

-- an event begins
own_begins : (s : EndLinkOpening) (c : Bool) (x : Core) (h : List GivenTpdu) (now : ℕ) → Own s c x h → Own s c (new_event_at model now x) h
own_begins s c x h now o = record {
  always = o.always;
  told = o.told;
  lives = λ e. let v = o.lives e in record { alive = v.alive; trusting = v.trusting; rested = v.rested };
}

quiet_both : (k : ℕ) (w : List Frame) (x : Station) (l : List Frame) (y : Station) → IsStationPair false k w x l y → Both false k w (settled x) l y
quiet_both k w x l y h = subst (λ (t : List Frame). IsStationPair false k t (settled x) l y) (sym (append-nil w)) h

pub e_begins : (s : EndLinkOpening) (k : ℕ) (fe : List Frame) (e : Core) (fr : List Frame) (r : Core) (now : ℕ) → Two s k fe e fr r → Done s true k fe (new_event_at model now e) fr r
e_begins s k fe e fr r now t =
    record { beside = (quiet_both k fe e.line fr r.line t.lines, t.spelled_e, t.spelled_r, t.own_r); own = own_begins s true e (heard e r) now t.own_e }

pub r_begins : LawsBelow → (s : EndLinkOpening) (k : ℕ) (fe : List Frame) (e : Core) (fr : List Frame) (r : Core) (now : ℕ) → Two s k fe e fr r → Done s false k fr (new_event_at model now r) fe e
r_begins below s k fe e fr r now t =
    record { beside = (quiet_both k fr r.line fe e.line (below.keep.swapped false k fe e.line fr r.line t.lines), t.spelled_r, t.spelled_e, t.own_e); own = own_begins s false r (heard r e) now t.own_r }

-- it ends
pub e_ends : (s : EndLinkOpening) (k : ℕ) (fe : List Frame) (e : Core) (fr : List Frame) (r : Core) → Done s true k fe e fr r → Two s k (fe ++ e.line.said) e fr r
e_ends s k fe e fr r d = record { lines = d.beside.0; spelled_e = d.beside.1; spelled_r = d.beside.2; own_e = d.own; own_r = d.beside.3 }

pub r_ends : LawsBelow → (s : EndLinkOpening) (k : ℕ) (fe : List Frame) (e : Core) (fr : List Frame) (r : Core) → Done s false k fr r fe e → Two s k fe e (fr ++ r.line.said) r
r_ends below s k fe e fr r d =
    record { lines = below.keep.swapped false k (fr ++ r.line.said) r.line fe e.line d.beside.0; spelled_e = d.beside.2; spelled_r = d.beside.1; own_e = d.beside.3; own_r = d.own }
