-- What of an end its hearing rests on, and what leaves that alone.
use Rattle.std.proofs.Common.{◌≡◌, ◌∙◌, ℕ, zero, suc, Bool, true, false, ◌&&◌, List, [], ◌∷◌, ◌++◌, Option, Some, None, refl, ap}
use Rattle.hdlc_station_model.specs.Receiving.{is_some_octets}
use Rattle.std.specs.Prelude.{is_some, if◌then◌else◌}
use Rattle.er_base.specs.declared.release.Release.{Release}
use Rattle.hdlc_station_model.specs.declared.phase.Phase.{Phase}
use Rattle.hdlc_station_model.specs.Stations.{Station, Deed, is_down, sees}
use Rattle.hdlc_station_model.specs.Sending.{can_send, waiting, sends_next, sends_up_to, sends_waiting, settles}
use Rattle.hdlc_station_model.specs.Calls.{hands, finishes}
use Rattle.t70_header.specs.Blocks.{last_block}
use Rattle.x224_class2.specs.declared.stage.Stage.{Stage}
use Rattle.x224_class2.specs.Segments.{Segment}
use Rattle.x224_class2.specs.Tpdus.{GivenTpdu}
use Rattle.x224_class2.specs.Transport.{Transport, is_over, TpduTurn, Rest, Opening, Acknowledgement, Data, turn_of, state_behind, with_given, next_tpdu}
use Rattle.er_end_model.specs.Steps.{hand_text, hand_next_tpdu, has_next_tpdu, hand_waiting_tpdus, most_offers, conclude_event}
use Rattle.er_end_model.specs.Layers.{Core, model}
use Rattle.tap_model.specs.Given.{received_by}

-- ---- a station

-- what of a station the hearing rests on
pub record Tuned : Type 0 where
  pub calling : Bool
  pub extended : Bool
  pub phase : Phase
  pub taken : List (List ℕ)
  pub deed : Deed

abbrev pub tuned : Station → Tuned
tuned s = record { calling = s.calling; extended = s.extended; phase = s.phase; taken = s.taken; deed = s.deed }

tuned_if : (b : Bool) (s t : Station) (v : Tuned) → tuned s ≡ v → tuned t ≡ v → tuned (if b then s else t) ≡ v
tuned_if true s t v h g = h
tuned_if false s t v h g = g

sends_tuned : (n : ℕ) (s : Station) → tuned (sends_up_to n s) ≡ tuned s
sends_tuned zero s = refl
sends_tuned (suc n) s = tuned_if (can_send s) (sends_up_to n (sends_next s)) s (tuned s) (sends_tuned n (sends_next s)) refl

pub waiting_tuned : (s : Station) → tuned (sends_waiting s) ≡ tuned s
waiting_tuned s = sends_tuned (waiting s) s

pub hands_tuned : (now : ℕ) (payload : List ℕ) (s : Station) → tuned (hands now payload s) ≡ tuned s
hands_tuned now payload s =
    let t : Station = record (sees now s) { handed = s.handed ++ payload ∷ [] } in
    tuned_if (is_down s.phase) s (sends_waiting t) (tuned s) refl (waiting_tuned t)

pub finishes_tuned : (s : Station) → tuned (finishes s) ≡ tuned s
finishes_tuned s = tuned_if (is_down s.phase) s (settles s) (tuned s) refl (tuned_if s.owed _ s (tuned s) refl refl)

-- ---- an end

-- what of an end it rests on, and what the safety side was given in this event
pub record Noted : Type 0 where
  pub released : Option Release
  pub line : Tuned
  pub joined : List ℕ
  pub over : Bool
  pub contents : List Segment
  pub received : List (List ℕ)

abbrev pub noted : Core → Noted
noted x = record {
  released = x.released;
  line = tuned x.line;
  joined = x.joined;
  over = is_over x.upper.transport.stage;
  contents = x.upper.transport.contents;
  received = received_by x;
}

pub noted_if : (b : Bool) (x y : Core) (v : Noted) → noted x ≡ v → noted y ≡ v → noted (if b then x else y) ≡ v
noted_if true x y v h g = h
noted_if false x y v h g = g

-- what goes down
turn_keeps : (t : Transport) (turn : TpduTurn) (g : Option GivenTpdu)
    → ((with_given (state_behind t turn) g).stage ≡ t.stage) × ((with_given (state_behind t turn) g).contents ≡ t.contents)
turn_keeps t Rest None = (refl, refl)
turn_keeps t Rest (Some g) = (refl, refl)
turn_keeps t (Opening user) None = (refl, refl)
turn_keeps t (Opening user) (Some g) = (refl, refl)
turn_keeps t Acknowledgement None = (refl, refl)
turn_keeps t Acknowledgement (Some g) = (refl, refl)
turn_keeps t Data None = (refl, refl)
turn_keeps t Data (Some g) = (refl, refl)

next_noted : (x : Core) → noted (hand_next_tpdu model x) ≡ noted x
next_noted x =
    let t : Transport = x.upper.transport in
    let k = turn_keeps t (turn_of t) (next_tpdu t) in
    ap (λ (v : Tuned). record (noted (hand_next_tpdu model x)) { line = v }) (hands_tuned x.moment (last_block (model.next x.upper)) x.line)
    ∙ ap (λ (s : Stage). record (noted x) { over = is_over s; contents = (hand_next_tpdu model x).upper.transport.contents }) k.0
    ∙ ap (λ (c : List Segment). record (noted x) { contents = c }) k.1

offers_noted : (n : ℕ) (x : Core) → noted (hand_waiting_tpdus model n x) ≡ noted x
unfolding hand_waiting_tpdus
offers_noted zero x = refl
offers_noted (suc n) x =
    noted_if (has_next_tpdu model x) (hand_waiting_tpdus model n (hand_next_tpdu model x)) x (noted x) (offers_noted n (hand_next_tpdu model x) ∙ next_noted x) refl

pub concludes_noted : (x : Core) → noted (conclude_event model x) ≡ noted x
concludes_noted x =
    let y : Core = hand_waiting_tpdus model most_offers x in
    noted_if (is_some x.released) x (record y { line = finishes y.line }) (noted x) refl
    (ap (λ (v : Tuned). record (noted y) { line = v }) (finishes_tuned y.line) ∙ offers_noted most_offers x)

pub says_noted : (text : List ℕ) (x : Core) → noted (hand_text model text x) ≡ noted x
says_noted text x = noted_if (is_some_octets text && model.may_hand x.upper) _ x (noted x) refl refl
