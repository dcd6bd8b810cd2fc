-- What of an end a loop sees: its safety side, its release and its messages; and what parts of an event leave of it.
use Rattle.std.proofs.Common.{◌≡◌, ℕ, zero, suc, Bool, true, false, ◌&&◌, List, Option, Some, None, refl, ap}
use Rattle.std.specs.Prelude.{is_some, if◌then◌else◌}
use Rattle.er_base.specs.declared.release.Release.{Release}
use Rattle.hdlc_station_model.specs.Receiving.{is_some_octets}
use Rattle.x224_class2.specs.Tpdus.{GivenTpdu, Dr, Dc}
use Rattle.safety_automaton.specs.Safety.{Phase}
use Rattle.er_end_model.specs.Steps.{hand_tpdu, hand_tpdu_if_may, send_dr, answer_dr, end_after_di, on_safety_release, hand_text, skip_message, Carrier, InCr, InCc, InDt, hand_answer, hand_next_tpdu, has_next_tpdu, hand_waiting_tpdus, most_offers, send_owed_answer, conclude_event, normal_disconnect}
use Rattle.er_end_model.specs.Layers.{Core, model}

pub record Face : Type 0 where
  pub phase : Phase
  pub connected : Option ℕ
  pub leaves : Option Release
  pub released : Option Release
  pub accepted : List (List ℕ)
  pub used : ℕ
  pub news : Option (List ℕ)

abbrev pub face : Core → Face
face x = record {
  phase = x.safe.safety.phase;
  connected = x.connected;
  leaves = x.leaves;
  released = x.released;
  accepted = x.upper.accepted;
  used = x.upper.used;
  news = x.upper.news;
}

-- of an end that isn't released, as an event begins
abbrev pub fresh : Phase → List (List ℕ) → ℕ → Face
fresh phase accepted used =
    record { phase = phase; connected = None; leaves = None; released = None; accepted = accepted; used = used; news = None }

abbrev pub parted : Release → Face → Face
parted why f = record f { leaves = Some why; released = Some why }

pub face_if : (b : Bool) (x y : Core) (f : Face) → face x ≡ f → face y ≡ f → face (if b then x else y) ≡ f
face_if true x y f h g = h
face_if false x y f h g = g

pub face_then : (b : Bool) (x y : Core) → b ≡ true → face (if b then x else y) ≡ face x
face_then true x y e = refl
face_then false x y e = absurd (cc)

pub face_else : (b : Bool) (x y : Core) → b ≡ false → face (if b then x else y) ≡ face y
face_else true x y e = absurd (cc)
face_else false x y e = refl

-- ---- what goes down leaves it

pub face_offers : (n : ℕ) (x : Core) → face (hand_waiting_tpdus model n x) ≡ face x
unfolding hand_waiting_tpdus
face_offers zero x = refl
face_offers (suc n) x = face_if (has_next_tpdu model x) (hand_waiting_tpdus model n (hand_next_tpdu model x)) x (face x) (face_offers n (hand_next_tpdu model x)) refl

pub face_concludes : (x : Core) → face (conclude_event model x) ≡ face x
face_concludes x = face_if (is_some x.released) x (send_owed_answer model (hand_waiting_tpdus model most_offers x)) (face x) refl (face_offers most_offers x)

pub face_hands : (text : List ℕ) (x : Core) → face (hand_text model text x) ≡ face x
face_hands text x = face_if (is_some_octets text && model.may_hand x.upper) _ x (face x) refl refl

pub face_answers : (by : Carrier) (text : List ℕ) (x : Core) → face (hand_answer model by text x) ≡ face x
face_answers InCr text x = face_if (is_some_octets text) _ x (face x) refl refl
face_answers InCc text x = face_hands text x
face_answers InDt text x = face_hands text (skip_message model x)

-- ---- a release

face_hands_tpdu : (tpdu : GivenTpdu) (x : Core) → face (hand_tpdu_if_may model tpdu x) ≡ face x
face_hands_tpdu tpdu x = face_if (model.may_send x.line) (hand_tpdu model tpdu x) x (face x) refl refl

pub face_sends_dr : (why : Release) (reason : ℕ) (user : List ℕ) (x : Core) → face (send_dr model why reason user x) ≡ parted why (face x)
face_sends_dr why reason user x = ap (parted why) (face_hands_tpdu (Dr reason user) x)

pub face_answers_dr : (why : Release) (x : Core) → face (answer_dr model why x) ≡ parted why (face x)
face_answers_dr why x = ap (parted why) (face_hands_tpdu Dc x)

pub face_parts : (why : Release) (di : List ℕ) (x : Core) → face (on_safety_release model why di x) ≡ parted why (face x)
face_parts why di x =
    face_if why.by_peer (end_after_di model why x) (send_dr model why normal_disconnect di x) (parted why (face x)) refl (face_sends_dr why normal_disconnect di x)
