-- The other events at an end give its safety side no octets, and take no payload.
use Rattle.std.proofs.Common.{◌≡◌, ◌∙◌, inl, inr, ℕ, ◌+◌, ◌-◌, Bool, true, false, List, [], length, Option, Some, None, refl, sym, ap, subst, arith, append-nil}
use Rattle.std.specs.Prelude.{◌==◌, nat_lt, is_some, if◌then◌else◌}
use Rattle.er_base.specs.declared.release.Release.{Release}
use Rattle.er_base.specs.declared.cause.Cause.{Cause}
use Rattle.er_base.specs.declared.cause.Cause.TheVariants.{User, SetUpUnanswered, NoProgress, SetUpTimeSpent}
use Rattle.er_base.specs.Causes.{release_of}
use Rattle.hdlc_station_model.specs.Stations.{Station, Deed, is_down, sees, puts}
use Rattle.hdlc_station_model.specs.Frames.{SetUp}
use Rattle.hdlc_station_model.specs.Sending.{gives_up, counts_expiry, starts_timer, sends_again, is_due, expires, expires_if_due, sends_waiting}
use Rattle.hdlc_station_model.specs.Calls as station
use Rattle.safety_automaton.specs.Safety.{no_keys, Safety, SafetyOutcome, DataRequest, DisconnectRequest, octets_sent_in_outcome, step}
use Rattle.er_end_model.specs.Outcomes.{SendRefusal}
use Rattle.er_end_model.specs.Steps.{new_event, new_event_at, with_release, send_dr, normal_disconnect, with_safety_step, hand_text, conclude_event, step_start, on_send, step_send_unless, step_take, step_release, is_spent, di_of, on_expiry, step_tick, step_break}
use Rattle.er_end_model.specs.Layers.{Core, model}
use Rattle.tap_model.specs.Given.{received_by, received_unless}
use Rattle.tap_hearing.proofs.Noting.{Tuned, tuned, Noted, noted, noted_if, waiting_tuned, concludes_noted, says_noted}
use Rattle.tap_hearing.proofs.Sorting.{Nothing}
use Rattle.tap_hearing.proofs.Stations.{phase_at, shape, Does, either}
use Rattle.tap_hearing.proofs.Verdicts.{shaped, does_as, does_seen, awake}
use Rattle.tap_hearing.proofs.Following.{Listens, LeftAs, departs_left}
use Rattle.tap_hearing.proofs.Going.{Goes, Lives, Left}

-- ---- an end that isn't released

-- but for what its station told and what was given
abbrev pub quiet : Noted → Deed → List (List ℕ) → Noted
quiet n deed received = record n { line = record (n.line) { deed = deed }; received = received }

pub still_listens : (opened calling : Bool) (n : Noted) (deed : Deed) (received : List (List ℕ)) → Listens opened calling n → Listens opened calling (quiet n deed received)
still_listens opened calling n deed received l = record {
  live = l.live;
  role = l.role;
  plain = l.plain;
  stands = l.stands;
  going = l.going;
  fresh = λ f. record { taken = (l.fresh f).taken; joined = (l.fresh f).joined; contents = (l.fresh f).contents };
}

module _ (opened calling : Bool) (n : Noted) (l : Listens opened calling n) where
  pub steady : (deed : Deed) (received : List (List ℕ)) (m : Noted) → m ≡ quiet n deed received → Goes opened calling n [] [] m
  steady deed received m e =
      subst (λ (p : Noted). Goes opened calling n [] [] p) (sym e)
      (Lives opened [] (still_listens opened calling n deed received l) (λ rest. refl) (λ rest. refl) (sym (append-nil n.line.taken)) (omega arith))

  parted : (why : Release) (m : Noted) → m.released ≡ Some why → m.line.taken ≡ n.line.taken → Goes opened calling n [] [] m
  parted why m r t = Left why [] r (λ rest. (_, refl)) (λ rest. (_, refl)) (t ∙ sym (append-nil n.line.taken)) (omega arith)

noted_unless : (r : Option Release) (x y : Core) → r ≡ None → noted (if is_some r then x else y) ≡ noted y
noted_unless None x y e = refl
noted_unless (Some why) x y e = absurd cc

-- the station at a start, and at a tick
starts_same : (opened calling : Bool) (s : Station) (now : ℕ) → tuned (station.starts now (shape opened calling s)) ≡ tuned (shape opened calling s)
starts_same true calling s now = refl
starts_same false true s now = refl
starts_same false false s now = refl

ticks_shape : (opened calling : Bool) (s : Station) → Does Nothing (shape opened calling s) (expires_if_due (shape opened calling s))
ticks_shape true calling s =
    let t : Station = shape true calling s in
    either (is_due t.timer t.moment) Nothing t (expires t) t
    (either (nat_lt t.n2 (t.expiries + 1)) Nothing t (gives_up NoProgress t) (starts_timer (sends_again (counts_expiry t))) (inr (release_of NoProgress, refl)) (inl refl))
    (inl refl)
ticks_shape false true s =
    let t : Station = shape false true s in
    either (is_due t.timer t.moment) Nothing t (expires t) t
    (either (nat_lt t.n2 (t.expiries + 1)) Nothing t (gives_up SetUpUnanswered t) (starts_timer (puts SetUp (counts_expiry t))) (inr (release_of SetUpUnanswered, refl)) (inl refl))
    (inl refl)
ticks_shape false false s =
    let t : Station = shape false false s in
    either (is_due t.timer t.moment) Nothing t (expires t) t (inl refl) (inl refl)

ticks_does : (opened calling : Bool) (s : Station) (now : ℕ) → s.calling ≡ calling → s.extended ≡ false → s.phase ≡ phase_at opened calling → Does Nothing s (station.ticks now s)
ticks_does opened calling s now c x p =
    let t : Station = sees now s in
    let up : is_down s.phase ≡ false = ap is_down p ∙ awake opened calling in
    let h : Does Nothing t (expires_if_due t) =
    subst (λ (z : Station). Does Nothing z (expires_if_due z)) (shaped opened calling t c x p) (ticks_shape opened calling t) in
    rw up (does_as Nothing s (expires_if_due t) (sends_waiting (expires_if_due t)) (waiting_tuned (expires_if_due t)) (does_seen Nothing s now (expires_if_due t) h))

module _ (opened calling : Bool) (x : Core) (l : Listens opened calling (noted x)) (now : ℕ) where
  -- the end as the event begins
  abbrev b : Core
  b = new_event_at model now x

  abbrev Claim : Core → Type 0
  Claim y = Goes opened calling (noted x) [] (received_by y) (noted y)

  -- what is noted stays, and nothing was given
  same : (y : Core) → noted y ≡ record (noted b) { received = [] } → Claim y
  same y e =
      subst (λ (g : List (List ℕ)). Goes opened calling (noted x) [] g (noted y)) (sym (ap (λ (n : Noted). n.received) e))
      (steady opened calling (noted x) l b.line.deed [] (noted y) e)

  -- it is released, and nothing was given
  over : (y : Core) (why : Release) → y.released ≡ Some why → received_by y ≡ [] → y.line.taken ≡ x.line.taken → Claim y
  over y why r g t =
      subst (λ (given : List (List ℕ)). Goes opened calling (noted x) [] given (noted y)) (sym g) (parted opened calling (noted x) l why (noted y) r t)

  -- the same of an end that is noted so
  like : (y z : Core) → noted y ≡ noted z → Claim z → Claim y
  like y z e c = subst (λ (n : Noted). Goes opened calling (noted x) [] n.received n) (sym e) c

  pub start_goes : Claim (step_start model now x)
  start_goes =
      let z : Core = record b { line = station.starts b.moment b.line } in
      let e : tuned z.line ≡ tuned b.line =
      subst (λ (s : Station). tuned (station.starts b.moment s) ≡ tuned s) (shaped opened calling b.line l.role l.plain l.stands) (starts_same opened calling b.line b.moment) in
      same (step_start model now x)
      (noted_unless x.released b (conclude_event model z) l.live ∙ concludes_noted z ∙ ap (λ (u : Tuned). record (noted b) { line = u }) e)

  sent_goes : (user : List ℕ) → Claim (on_send model user b)
  sent_goes user =
      let a : Safety × SafetyOutcome = step no_keys x.safe.safety (DataRequest user) in
      let y : Core = with_safety_step model (DataRequest user) a b in
      let z : Core = record y { upper = model.sends y.upper user } in
      same (on_send model user b) (concludes_noted (hand_text model (octets_sent_in_outcome a.1) z) ∙ says_noted (octets_sent_in_outcome a.1) z)

  pub send_goes : (user : List ℕ) (r : Option SendRefusal)
      → Goes opened calling (noted x) [] (received_unless r (step_send_unless model r now user x)) (noted (step_send_unless model r now user x))
  send_goes user (Some refusal) = steady opened calling (noted x) l x.line.deed (received_by x) (noted x) refl
  send_goes user None = sent_goes user

  pub take_goes : Claim (step_take model now x)
  take_goes =
      let z : Core = record b { upper = model.uses b.upper } in
      same (step_take model now x) (noted_if (length x.upper.accepted - x.upper.used == 0) b (conclude_event model z) (record (noted b) { received = [] }) refl (concludes_noted z))

  pub leave_goes : (sub : ℕ) → Claim (step_release model now sub x)
  leave_goes sub =
      let a : Safety × SafetyOutcome = step no_keys x.safe.safety (DisconnectRequest sub) in
      let z : Core = with_safety_step model (DisconnectRequest sub) a b in
      let y : Core = send_dr model (release_of (User sub)) normal_disconnect (octets_sent_in_outcome a.1) z in
      let left : LeftAs z y = departs_left (release_of (User sub)) normal_disconnect (octets_sent_in_outcome a.1) z in
      like (step_release model now sub x) y (noted_unless x.released b y l.live) (over y left.why left.released left.received left.taken)

  time_goes : (z : Core) → noted z ≡ record (noted b) { received = [] } → Claim (on_expiry model None z)
  time_goes z e = by (is_spent z)
    where
      by : (spent : Bool) → Claim (if spent then send_dr model (release_of SetUpTimeSpent) normal_disconnect (di_of (release_of SetUpTimeSpent) z.safe.safety) z else z)
      by true =
          let y : Core = send_dr model (release_of SetUpTimeSpent) normal_disconnect (di_of (release_of SetUpTimeSpent) z.safe.safety) z in
          let left : LeftAs z y = departs_left (release_of SetUpTimeSpent) normal_disconnect (di_of (release_of SetUpTimeSpent) z.safe.safety) z in
          over y left.why left.released (left.received ∙ ap (λ (n : Noted). n.received) e) (left.taken ∙ ap (λ (n : Noted). n.line.taken) e)
      by false = same z e

  pub tick_goes : Claim (step_tick model now x)
  tick_goes =
      let z : Core = record b { line = station.ticks b.moment b.line } in
      let y : Core = on_expiry model z.line.deed.released z in
      like (step_tick model now x) y (noted_unless x.released b (conclude_event model y) l.live ∙ concludes_noted y)
      (elim (ticks_does opened calling b.line b.moment l.role l.plain l.stands) [
        | inl e ↦
            subst (λ (r : Option Release). Claim (on_expiry model r z)) (sym (ap (λ (u : Tuned). u.deed.released) e))
            (time_goes z (ap (λ (u : Tuned). record (noted b) { line = u; received = [] }) e))
        | inr left ↦
            subst (λ (r : Option Release). Claim (on_expiry model r z)) (sym (ap (λ (u : Tuned). u.deed.released) left.1))
            (over (with_release left.0 z) left.0 refl refl (ap (λ (u : Tuned). u.taken) left.1))
      ])

  pub break_goes : (cause : Cause) → Claim (step_break model cause x)
  break_goes cause =
      let y : Core = with_release (release_of cause) (new_event model x) in
      like (step_break model cause x) y (noted_unless x.released (new_event model x) y l.live) (over y (release_of cause) refl refl refl)
