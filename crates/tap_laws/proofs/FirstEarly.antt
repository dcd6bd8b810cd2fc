-- An end before its transport was called: it accepted nothing, nothing was handed down, and it sent no I frame.
use Rattle.std.proofs.Common.{◌≡◌, ◌∙◌, ℕ, zero, suc, ◌-◌, Bool, true, false, List, [], ◌++◌, length, Option, None, refl, sym, ap, ap₂, subst, arith, append-nil}
use Rattle.std.specs.Prelude.{is_some, if◌then◌else◌}
use Rattle.std.specs.List.{flat_map}
use Rattle.std.proofs.lemmas.Bool.{and_right}
use Rattle.std.proofs.lemmas.Grind.{flat_map-append}
use Rattle.er_base.specs.declared.release.Release.{Release}
use Rattle.er_base.specs.declared.cause.Cause.{Cause}
use Rattle.er_base.specs.declared.cause.Cause.TheVariants.{User}
use Rattle.er_base.specs.Causes.{release_of}
use Rattle.er_settings.specs.Values.{Settings}
use Rattle.hdlc_station_model.specs.Frames.{Frame, sent_octets}
use Rattle.hdlc_station_model.specs.Stations.{Station, is_down, settled, puts}
use Rattle.hdlc_station_model.specs.Frames as frames
use Rattle.hdlc_station_model.specs.Calls.{finishes}
use Rattle.x224_class2.specs.Tpdus.{Dr}
use Rattle.x224_class2.specs.Transport.{Transport, side_made, next_tpdu}
use Rattle.safety_automaton.specs.Safety.{no_keys, Safety, SafetyOutcome, DisconnectRequest, octets_sent_in_outcome, step}
use Rattle.er_end_model.specs.Steps.{new_event, new_event_at, with_release, hand_tpdu, send_dr, normal_disconnect, with_safety_step, step_take, step_release, step_break, hand_next_tpdu, has_next_tpdu, hand_waiting_tpdus, most_offers, send_owed_answer, conclude_event}
use Rattle.er_end_model.specs.Layers.{Core, model, written_by}
use Rattle.tap_laws.proofs.FirstHeard.{AreQuiet, HasOpeningFrame, octets_of_frames}
use Rattle.tap_laws.proofs.FirstSent.{IsUnspoken, Stays, Unspoken, Lost, finishes_stay}
use Rattle.tap_laws.proofs.FirstRun.{IsGone}

-- what its upper layers are
pub record IsNew (calling : Bool) (settings : Settings) (safety : Safety) (x : Core) : Type 0 where
  pub released : x.released ≡ None
  pub safety_is : x.safe.safety ≡ safety
  pub transport_is : x.upper.transport ≡ side_made calling settings
  pub accepted_is : x.upper.accepted ≡ []

-- and its station, of which Q holds
pub record Early (calling : Bool) (settings : Settings) (safety : Safety) (Q : Station → Type 0) (sent : List ℕ) (x : Core) : Type 0 where
  pub base : List Frame
  pub sent_is : sent ≡ octets_of_frames calling base
  pub unspoken : IsUnspoken calling base (settled x.line)
  pub handed : x.line.handed ≡ []
  pub line : Q (settled x.line)
  pub new : IsNew calling settings safety x

-- ---- behind its event

pub live_stays : (calling : Bool) (base : List Frame) (t : Station) → Stays calling base [] t → is_down t.phase ≡ false → IsUnspoken calling base t × (t.handed ≡ [])
live_stays calling base t (Unspoken u none) live = (u, none)
live_stays calling base t (Lost l none) live = absurd (let z : true ≡ false = sym l.down ∙ live in cc)

finishes_phase : (s : Station) → is_down (finishes s).phase ≡ is_down s.phase
finishes_phase s = by (is_down s.phase) s.owed
  where
    by : (b c : Bool) → is_down (if b then s else (if c then record (puts (frames.Rr (length s.taken)) s) { owed = false } else s)).phase ≡ is_down s.phase
    by true c = refl
    by false true = refl
    by false false = refl

offers_none : (n : ℕ) (z : Core) → has_next_tpdu model z ≡ false → hand_waiting_tpdus model n z ≡ z
unfolding hand_waiting_tpdus
offers_none zero z none = refl
offers_none (suc n) z none = rw none refl

-- one TPDU is due
pub offers_one : (n : ℕ) (z : Core) → has_next_tpdu model z ≡ true → hand_waiting_tpdus model (suc n) z ≡ hand_waiting_tpdus model n (hand_next_tpdu model z)
unfolding hand_waiting_tpdus
offers_one n z one = rw one refl

pub concludes_live : (z : Core) → z.released ≡ None → conclude_event model z ≡ send_owed_answer model (hand_waiting_tpdus model most_offers z)
concludes_live z live = ap (λ (r : Option Release). if is_some r then z else send_owed_answer model (hand_waiting_tpdus model most_offers z)) live

none_due : (calling : Bool) (settings : Settings) → is_some (next_tpdu (side_made calling settings)) ≡ false
none_due calling settings = refl

-- no TPDU is due, so the answer alone goes down that is owed
concludes_so : (calling : Bool) (settings : Settings) (z : Core) → z.released ≡ None → z.upper.transport ≡ side_made calling settings
    → conclude_event model z ≡ send_owed_answer model z
concludes_so calling settings z live transport =
    let none : has_next_tpdu model z ≡ false =
    and_right (model.is_free z.line) (is_some (next_tpdu z.upper.transport)) (ap (λ (t : Transport). is_some (next_tpdu t)) transport ∙ none_due calling settings) in
    concludes_live z live ∙ ap (λ (y : Core). send_owed_answer model y) (offers_none most_offers z none)

module _ (calling : Bool) (settings : Settings) (safety : Safety) (Q : Station → Type 0) (sent : List ℕ) (base : List Frame) (is : sent ≡ octets_of_frames calling base) where
  -- an event that did nothing above the station
  pub early_again : (y : Core) → IsUnspoken calling base y.line → y.line.handed ≡ [] → Q (settled y.line) → IsNew calling settings safety y
      → Early calling settings safety Q (sent ++ written_by y.line) y
  early_again y u none q new = record {
    base = base ++ y.line.said;
    sent_is =
        ap₂ (λ (a b : List ℕ). a ++ b) is (ap₂ (λ (a b : Bool). flat_map (sent_octets a b) y.line.said) u.calling_is u.basic)
        ∙ sym (flat_map-append (sent_octets calling false) base y.line.said);
    unspoken = record {
      calling_is = u.calling_is;
      basic = u.basic;
      live = u.live;
      unsent = u.unsent;
      quiet = subst AreQuiet (sym (append-nil (base ++ y.line.said))) u.quiet;
      opened = λ w. subst (HasOpeningFrame calling) (sym (append-nil (base ++ y.line.said))) (u.opened w);
    };
    handed = none;
    line = q;
    new = new;
  }

  pub early_now : (z : Core) → IsUnspoken calling base z.line → z.line.handed ≡ [] → Q (settled (finishes z.line)) → IsNew calling settings safety z
      → Early calling settings safety Q (sent ++ written_by (conclude_event model z).line) (conclude_event model z)
  early_now z u none q new =
      let f = live_stays calling base (finishes z.line) (finishes_stay (λ (payload : List ℕ). Unit {0}) calling base z.line (Unspoken u none)) (finishes_phase z.line ∙ u.live) in
      subst (λ (y : Core). Early calling settings safety Q (sent ++ written_by y.line) y) (sym (concludes_so calling settings z new.released new.transport_is))
      (early_again (send_owed_answer model z) f.0 f.1 q
      (record { released = new.released; safety_is = new.safety_is; transport_is = new.transport_is; accepted_is = new.accepted_is }))

-- it left by a DR
pub departs_gone : (why : Release) (reason : ℕ) (user : List ℕ) (x : Core) → x.upper.accepted ≡ [] → IsGone (send_dr model why reason user x)
departs_gone why reason user x none = record { why = why; released = refl; accepted = by (model.may_send x.line) }
  where
    by : (b : Bool) → (if b then hand_tpdu model (Dr reason user) x else x).upper.accepted ≡ []
    by true = none
    by false = none

-- ---- what releases it

module _ (calling : Bool) (settings : Settings) (safety : Safety) (x : Core) (new : IsNew calling settings safety x) where
  -- a live end does what comes behind the test for a release
  pub live_if : (p q : Core) → (if is_some x.released then p else q) ≡ q
  live_if p q = ap (λ (r : Option Release). if is_some r then p else q) new.released

  pub none_left : length x.upper.accepted - x.upper.used ≡ 0
  none_left = ap (λ (l : List (List ℕ)). length l - x.upper.used) new.accepted_is ∙ omega arith

  pub break_gone : (cause : Cause) → IsGone (step_break model cause x)
  break_gone cause =
      subst IsGone (sym (live_if (new_event model x) (with_release (release_of cause) (new_event model x))))
      (record { why = release_of cause; released = refl; accepted = new.accepted_is })

  pub leave_gone : (now sub : ℕ) → IsGone (step_release model now sub x)
  leave_gone now sub =
      let b : Core = new_event_at model now x in
      let a : Safety × SafetyOutcome = step no_keys x.safe.safety (DisconnectRequest sub) in
      let z : Core = with_safety_step model (DisconnectRequest sub) a b in
      let y : Core = send_dr model (release_of (User sub)) normal_disconnect (octets_sent_in_outcome a.1) z in
      subst IsGone (sym (live_if b y)) (departs_gone (release_of (User sub)) normal_disconnect (octets_sent_in_outcome a.1) z new.accepted_is)

  pub take_same : (now : ℕ) → step_take model now x ≡ new_event_at model now x
  take_same now = rw none_left refl

-- an end that was released concludes nothing
pub gone_concludes : (x : Core) → IsGone x → IsGone (conclude_event model x)
gone_concludes x g = subst IsGone (sym (ap (λ (r : Option Release). if is_some r then x else send_owed_answer model (hand_waiting_tpdus model most_offers x)) g.released)) g
