-- What an event leaves of a release, and what it tells of one.
use Rattle.std.proofs.Common.{◌≡◌, ℕ, zero, suc, Bool, true, false, ◌&&◌, List, [], ◌∷◌, ◌++◌, Option, Some, None, refl, sym, ap, subst}
use Rattle.hdlc_station_model.specs.Receiving.{is_some_octets}
use Rattle.std.specs.Prelude.{is_some, if◌then◌else◌}
use Rattle.std.specs.List.{All, Contains}
use Rattle.std.proofs.lemmas.List.Elements.{All-nil, All-cons, All-append, Contains-append_left, Contains-append_right, Contains-push}
use Rattle.er_base.specs.declared.release.Release.{Release}
use Rattle.er_end_model.specs.Outcomes.{Outcome, ConnectedTo, Accepted, Taken, NothingToTake, WasReleased, Octets}
use Rattle.er_end_model.specs.Outcomes as told
use Rattle.er_end_model.specs.Steps.{send_dr, end_after_di, on_safety_release, hand_text, skip_message, Carrier, InCr, InCc, InDt, hand_answer, keep_message, hand_next_tpdu, has_next_tpdu, hand_waiting_tpdus, most_offers, send_owed_answer, conclude_event, normal_disconnect, if_connected, if_accepted, if_released, if_octets, outcomes_of, if_taken}
use Rattle.er_end_model.specs.Layers.{Core, model}

-- ---- what is kept of a release

pub record Kept : Type 0 where
  pub leaves : Option Release
  pub released : Option Release

abbrev pub kept : Core → Kept
kept x = record { leaves = x.leaves; released = x.released }

-- no release; a release in this event
abbrev pub calm : Kept
calm = record { leaves = None; released = None }

abbrev pub gone : Release → Kept
gone why = record { leaves = Some why; released = Some why }

pub kept_if : (b : Bool) (x y : Core) (k : Kept) → kept x ≡ k → kept y ≡ k → kept (if b then x else y) ≡ k
kept_if true x y k h g = h
kept_if false x y k h g = g

pub kept_offers : (n : ℕ) (x : Core) → kept (hand_waiting_tpdus model n x) ≡ kept x
unfolding hand_waiting_tpdus
kept_offers zero x = refl
kept_offers (suc n) x = kept_if (has_next_tpdu model x) (hand_waiting_tpdus model n (hand_next_tpdu model x)) x (kept x) (kept_offers n (hand_next_tpdu model x)) refl

pub kept_concludes : (x : Core) → kept (conclude_event model x) ≡ kept x
kept_concludes x = kept_if (is_some x.released) x (send_owed_answer model (hand_waiting_tpdus model most_offers x)) (kept x) refl (kept_offers most_offers x)

pub kept_says : (text : List ℕ) (x : Core) → kept (hand_text model text x) ≡ kept x
kept_says text x = kept_if (is_some_octets text && model.may_hand x.upper) _ x (kept x) refl refl

pub kept_answers : (by : Carrier) (text : List ℕ) (x : Core) → kept (hand_answer model by text x) ≡ kept x
kept_answers InCr text x = kept_if (is_some_octets text) _ x (kept x) refl refl
kept_answers InCc text x = kept_says text x
kept_answers InDt text x = kept_says text (skip_message model x)

pub kept_keeps : (by : Carrier) (user : List ℕ) (x : Core) → kept (keep_message model by user x) ≡ kept x
kept_keeps InCr user x = refl
kept_keeps InCc user x = refl
kept_keeps InDt user x = refl

pub kept_parts : (why : Release) (di : List ℕ) (x : Core) → kept (on_safety_release model why di x) ≡ gone why
kept_parts why di x = kept_if why.by_peer (end_after_di model why x) (send_dr model why normal_disconnect di x) (gone why) refl refl

-- ---- what an event told

-- a release that is told is one that is kept
abbrev pub Told : Option Release → Outcome → Type 0
Told released (ConnectedTo peer) = Unit {0}
Told released (Accepted message) = Unit {0}
Told released (Taken message) = Unit {0}
Told released NothingToTake = Unit {0}
Told released (told.Refused refusal) = Unit {0}
Told released (WasReleased why) = released ≡ Some why
Told released (Octets octets) = Unit {0}

module _ (final : Option Release) where
  pub told_release : (o : Option Release) → ((why : Release) → o ≡ Some why → final ≡ Some why) → All (Told final) (if_released o)
  told_release None h = All-nil (Told final)
  told_release (Some why) h = All-cons (Told final) (WasReleased why) [] (h why refl) (All-nil (Told final))

  pub told_peer : (o : Option ℕ) → All (Told final) (if_connected o)
  told_peer None = All-nil (Told final)
  told_peer (Some peer) = All-cons (Told final) (ConnectedTo peer) [] tt (All-nil (Told final))

  pub told_message : (o : Option (List ℕ)) → All (Told final) (if_accepted o)
  told_message None = All-nil (Told final)
  told_message (Some message) = All-cons (Told final) (Accepted message) [] tt (All-nil (Told final))

  pub told_octets : (os : List ℕ) → All (Told final) (if_octets os)
  told_octets [] = All-nil (Told final)
  told_octets (o ∷ os) = All-cons (Told final) (Octets (o ∷ os)) [] tt (All-nil (Told final))

  pub told_taken : (o : Option (List ℕ)) → All (Told final) (if_taken o)
  told_taken None = All-cons (Told final) NothingToTake [] tt (All-nil (Told final))
  told_taken (Some message) = All-cons (Told final) (Taken message) [] tt (All-nil (Told final))

  pub told_all : (y : Core) → ((why : Release) → y.leaves ≡ Some why → final ≡ Some why) → All (Told final) (outcomes_of model y)
  told_all y h =
      let a = if_connected y.connected in
      let b = if_accepted y.upper.news in
      let c = if_released y.leaves in
      let d = if_octets (model.written y.line) in
      All-append (Told final) (a ++ b ++ c) d
      (All-append (Told final) (a ++ b) c (All-append (Told final) a b (told_peer y.connected) (told_message y.upper.news)) (told_release y.leaves h)) (told_octets (model.written y.line))

-- and one that came in this event is told
pub gone_told : (why : Release) (y : Core) → kept y ≡ gone why → Contains (outcomes_of model y) (WasReleased why)
gone_told why y g =
    let a = if_connected y.connected in
    let b = if_accepted y.upper.news in
    let c = if_released y.leaves in
    let d = if_octets (model.written y.line) in
    let here : Contains c (WasReleased why) =
    subst (λ (o : Option Release). Contains (if_released o) (WasReleased why)) (sym (ap (λ (k : Kept). k.leaves) g)) (Contains-push [] (WasReleased why)) in
    Contains-append_left (a ++ b ++ c) d (WasReleased why) (Contains-append_right (a ++ b) c (WasReleased why) here)
