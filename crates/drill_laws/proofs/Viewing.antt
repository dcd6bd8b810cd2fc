-- A link of level safe, while nothing disturbs it, as two sides whose SaPDUs come to each other in order.
use Rattle.std.proofs.Common.{◌≡◌, ◌⊎◌, ℕ, max, inl, inr, ◌+◌, ◌==◌, nat_lt, not, if◌then◌else◌, true, false, Bool, List, [], ◌∷◌, ◌++◌, map, length, refl, sym, ap, ap₂, subst, ◌∙◌, append-nil, append_assoc, arith}
use Rattle.std.specs.Prelude.{Option, Some, None}
use Rattle.std.specs.List.{flat_map, AllByRecursion}
use Rattle.std.proofs.lemmas.Bool.{or_parts}
use Rattle.std.proofs.lemmas.List.Concat.{flat_map-append}
use Rattle.std.proofs.lemmas.List.Folds.{list_any-append}
use Rattle.er_base.specs.declared.side.Side.{Side}
use Rattle.er_base.specs.declared.side.Side.TheVariants.{E, R}
use Rattle.er_base.specs.Sides.{other}
use Rattle.er_settings.specs.Values.{Settings}
use Rattle.er_base.specs.Octets.{AreOctets}
use Rattle.des_block.specs.declared.triple_key.TripleKey.{TripleKey}
use Rattle.safety_automaton.specs.Safety.{Safety, SafetyEvent, ConnectRequest, Received, DataRequest, SafetyOutcome, SentAu1, SentAu2, SentAu3, SentAr, ReceivedAr, AcceptedDt, SentDt, Refused, ReleasedLocally, ReleasedByPeer, NothingDone}
use Rattle.safety_pair_laws.specs.Facts.{SideFact, is_side, heard_in}
use Rattle.safety_pair_laws.specs.Openings.{PairOpening, OfFixed, OfKeys, key_for, safety_of}
use Rattle.safety_pair_laws.specs.Talks.{answer}
use Rattle.safety_pair_laws.specs.Deliveries.{sent_of, accepted_of, sapdus_of, Flow, under_way, with_under_way, flow_behind_event, delivered, untouched, begun_flow, Flows, Begins, Sends, Delivers, FitsOpening}
use Rattle.safety_pair_laws.specs.Messages as pair
use Rattle.drill_model.specs.Outcomes.{DrillOutcome, OfSafety, Handed, Arrived, Passed, Altered, NothingWaits, IsShort, Occurrence, at_end, facts_at, facts_in, frames_in}
use Rattle.drill_model.specs.Ends.{OfSafe, EndEvent, Start, safety_event, outcomes_by, safe_end_step}
use Rattle.drill_model.specs.Ends as event
use Rattle.hdlc_station_model.specs.Lines.{altered}
use Rattle.drill_model.specs.Waiting.{LineChange, Lose, Repeat, Alter, Put, change_first}
use Rattle.drill_model.specs.Links.{Link, LinkOpening, OfPair, OfStations, OfStacks, waiting_of, with_waiting, with_answer, give, joined_pair, opened_pair, opened_link, LinkStep, Send, Pass, Change, Take, Release, Tick, pass, change_waiting, link_step}
use Rattle.drill_model.specs.Kinds.{sent_in, accepted_in, sent_by, accepted_by, deliveries, is_disturbance, is_disturbed}
use Rattle.drill_model.specs.Growth.{FactsGrow}
use Rattle.drill_laws.specs.LawsOfEnds.{StationLaws}
use Rattle.drill_laws.proofs.Wiring.{deliveries_grow}
use Rattle.drill_laws.proofs.Stationed.{Either, wired_opens, wired_steps}
use Rattle.drill_laws.proofs.Worlds.{IsNoSend, Keeps}
use Rattle.drill_laws.proofs.Talking.{facts_among}

-- ---- what was sent and accepted, by facts

-- no payload of level link
abbrev pub IsPlain : DrillOutcome → Type 0
IsPlain (Handed payload) = ⊥
IsPlain (Arrived payload) = ⊥
IsPlain outcome = Unit {0}

abbrev pub AllPlain : List Occurrence → Type 0
AllPlain history = AllByRecursion (λ o. IsPlain o.outcome) history

sent_plain : (b : Bool) (side : Side) (outcome : DrillOutcome) → IsPlain outcome
    → (if b then sent_in outcome else []) ≡ flat_map (λ (f : SideFact). if b then pair.sent_in f.fact else []) (facts_at side outcome)
sent_plain true side (OfSafety fact) plain = sym (append-nil (pair.sent_in fact))
sent_plain false side (OfSafety fact) plain = refl
sent_plain b side (Handed payload) plain = absurd plain
sent_plain true side outcome plain = refl
sent_plain false side outcome plain = refl

accepted_plain : (b : Bool) (side : Side) (outcome : DrillOutcome) → IsPlain outcome
    → (if b then accepted_in outcome else []) ≡ flat_map (λ (f : SideFact). if b then pair.accepted_in f.fact else []) (facts_at side outcome)
accepted_plain true side (OfSafety fact) plain = sym (append-nil (pair.accepted_in fact))
accepted_plain false side (OfSafety fact) plain = refl
accepted_plain b side (Arrived payload) plain = absurd plain
accepted_plain true side outcome plain = refl
accepted_plain false side outcome plain = refl

sent_at : (s side : Side) (outcome : DrillOutcome) → IsPlain outcome → (if is_side s side then sent_in outcome else []) ≡ sent_of s (facts_at side outcome)
sent_at s side (OfSafety fact) plain = sent_plain (is_side s side) side (OfSafety fact) plain
sent_at s side (Handed payload) plain = absurd plain
sent_at E E outcome plain = sent_plain true E outcome plain
sent_at E R outcome plain = sent_plain false R outcome plain
sent_at R E outcome plain = sent_plain false E outcome plain
sent_at R R outcome plain = sent_plain true R outcome plain

accepted_at : (s side : Side) (outcome : DrillOutcome) → IsPlain outcome → (if is_side s side then accepted_in outcome else []) ≡ accepted_of s (facts_at side outcome)
accepted_at s side (OfSafety fact) plain = accepted_plain (is_side s side) side (OfSafety fact) plain
accepted_at s side (Arrived payload) plain = absurd plain
accepted_at E E outcome plain = accepted_plain true E outcome plain
accepted_at E R outcome plain = accepted_plain false R outcome plain
accepted_at R E outcome plain = accepted_plain false E outcome plain
accepted_at R R outcome plain = accepted_plain true R outcome plain

pub sent_by_facts : (s : Side) (history : List Occurrence) → AllPlain history → sent_by s history ≡ sent_of s (facts_in history)
sent_by_facts s [] plain = refl
sent_by_facts s (o ∷ history) plain =
    ap₂ (λ (a b : List (List ℕ)). a ++ b) (sent_at s o.side o.outcome plain.0) (sent_by_facts s history plain.1)
    ∙ sym (flat_map-append (λ (f : SideFact). if is_side s f.side then pair.sent_in f.fact else []) (facts_at o.side o.outcome) (facts_in history))

pub accepted_by_facts : (s : Side) (history : List Occurrence) → AllPlain history → accepted_by s history ≡ accepted_of s (facts_in history)
accepted_by_facts s [] plain = refl
accepted_by_facts s (o ∷ history) plain =
    ap₂ (λ (a b : List (List ℕ)). a ++ b) (accepted_at s o.side o.outcome plain.0) (accepted_by_facts s history plain.1)
    ∙ sym (flat_map-append (λ (f : SideFact). if is_side s f.side then pair.accepted_in f.fact else []) (facts_at o.side o.outcome) (facts_in history))

pub plain_append : (history more : List Occurrence) → AllPlain history → AllPlain more → AllPlain (history ++ more)
plain_append [] more h m = m
plain_append (o ∷ history) more h m = (h.0, plain_append history more h.1 m)

-- ---- the outcomes of a side

plain_outcomes : (side : Side) (heard : List ℕ) (o : SafetyOutcome) → AllPlain (map (at_end side) (outcomes_by heard o))
plain_outcomes side heard (SentAu2 session sealed octets) = (tt, (tt, tt))
plain_outcomes side heard (SentAu3 session verified sealed octets) = (tt, (tt, (tt, tt)))
plain_outcomes side heard (SentAr connection verified sealed octets) = (tt, (tt, (tt, tt)))
plain_outcomes side heard (SentDt session user sealed octets) = (tt, (tt, tt))
plain_outcomes side heard (ReleasedLocally release octets) = (tt, (tt, tt))
plain_outcomes side heard NothingDone = tt
plain_outcomes side heard _ = (tt, tt)

frames_are : (heard : List ℕ) (o : SafetyOutcome) → frames_in (outcomes_by heard o) ≡ sapdus_of o
frames_are heard (SentAu1 octets) = refl
frames_are heard (SentAu2 session sealed octets) = refl
frames_are heard (SentAu3 session verified sealed octets) = refl
frames_are heard (SentAr connection verified sealed octets) = refl
frames_are heard (ReceivedAr connection verified) = refl
frames_are heard (AcceptedDt session user verified) = refl
frames_are heard (SentDt session user sealed octets) = refl
frames_are heard (Refused refusal) = refl
frames_are heard (ReleasedLocally release octets) = refl
frames_are heard (ReleasedByPeer release) = refl
frames_are heard NothingDone = refl

none_passed : (side : Side) (heard : List ℕ) (o : SafetyOutcome) → deliveries (map (at_end side) (outcomes_by heard o)) ≡ 0
none_passed side heard (SentAu1 octets) = refl
none_passed side heard (SentAu2 session sealed octets) = refl
none_passed side heard (SentAu3 session verified sealed octets) = refl
none_passed side heard (SentAr connection verified sealed octets) = refl
none_passed side heard (ReceivedAr connection verified) = refl
none_passed side heard (AcceptedDt session user verified) = refl
none_passed side heard (SentDt session user sealed octets) = refl
none_passed side heard (Refused refusal) = refl
none_passed side heard (ReleasedLocally release octets) = refl
none_passed side heard (ReleasedByPeer release) = refl
none_passed side heard NothingDone = refl

-- ---- a link and what came at it, seen as two sides

pub record IsView (opening : PairOpening) (f : Flow) (l : Link) (history : List Occurrence) : Type 0 where
  pub opening_is : l.opening ≡ OfPair opening
  pub e_is : l.e ≡ OfSafe f.pair.e
  pub r_is : l.r ≡ OfSafe f.pair.r
  pub from_e_is : l.from_e ≡ f.from_e
  pub from_r_is : l.from_r ≡ f.from_r
  pub facts_are : facts_in history ≡ f.facts
  pub plain : AllPlain history
  pub count : deliveries history ≡ f.deliveries

module _ (grow : FactsGrow) where
  -- occurrences that tell neither a fact nor a delivery
  pub record IsSilent (more : List Occurrence) : Type 0 where
    pub facts : facts_in more ≡ []
    pub plain : AllPlain more
    pub count : deliveries more ≡ 0

  pub silent_view : (opening : PairOpening) (f : Flow) (l : Link) (history more : List Occurrence) → IsSilent more → IsView opening f l history
      → IsView opening f l (history ++ more)
  silent_view opening f l history more silent v =
      let none : deliveries more ≡ 0 = silent.count in
      let so_far : deliveries history ≡ f.deliveries = v.count in
      record {
        opening_is = v.opening_is;
        e_is = v.e_is;
        r_is = v.r_is;
        from_e_is = v.from_e_is;
        from_r_is = v.from_r_is;
        facts_are = grow history more ∙ ap (λ (fs : List SideFact). facts_in history ++ fs) silent.facts ∙ append-nil (facts_in history) ∙ v.facts_are;
        plain = plain_append history more v.plain silent.plain;
        count = omega (arith, deliveries_grow history more);
      }

  -- an end does nothing with an event that its safety layer doesn't have
  none_view : (opening : PairOpening) (f : Flow) (l : Link) (history : List Occurrence) (side : Side) → IsView opening f l history
      → IsView opening f (with_answer l side (safe_end_step (key_for opening) (safety_of f.pair side) None)).0
      (history ++ (with_answer l side (safe_end_step (key_for opening) (safety_of f.pair side) None)).1)
  none_view opening f l history E v =
      let u : IsView opening f l (history ++ []) = silent_view opening f l history [] (record { facts = refl; plain = tt; count = refl }) v in
      record {
        opening_is = u.opening_is;
        e_is = refl;
        r_is = u.r_is;
        from_e_is = append-nil l.from_e ∙ u.from_e_is;
        from_r_is = u.from_r_is;
        facts_are = u.facts_are;
        plain = u.plain;
        count = u.count;
      }
  none_view opening f l history R v =
      let u : IsView opening f l (history ++ []) = silent_view opening f l history [] (record { facts = refl; plain = tt; count = refl }) v in
      record {
        opening_is = u.opening_is;
        e_is = u.e_is;
        r_is = refl;
        from_e_is = u.from_e_is;
        from_r_is = append-nil l.from_r ∙ u.from_r_is;
        facts_are = u.facts_are;
        plain = u.plain;
        count = u.count;
      }

  -- an end does what its side does
  some_view : (opening : PairOpening) (f : Flow) (l : Link) (history : List Occurrence) (side : Side) (event : SafetyEvent) → IsView opening f l history
      → IsView opening (flow_behind_event opening f side event) (with_answer l side (safe_end_step (key_for opening) (safety_of f.pair side) (Some event))).0
      (history ++ (with_answer l side (safe_end_step (key_for opening) (safety_of f.pair side) (Some event))).1)
  some_view opening f l history E event v =
      let a : Safety × SafetyOutcome = answer opening f.pair E event in
      let more : List Occurrence = map (at_end E) (outcomes_by (heard_in event) a.1) in
      let none : deliveries more ≡ 0 = none_passed E (heard_in event) a.1 in
      let so_far : deliveries history ≡ f.deliveries = v.count in
      record {
        opening_is = v.opening_is;
        e_is = refl;
        r_is = v.r_is;
        from_e_is = ap₂ (λ (x y : List (List ℕ)). x ++ y) v.from_e_is (frames_are (heard_in event) a.1);
        from_r_is = v.from_r_is;
        facts_are = grow history more ∙ ap₂ (λ (x y : List SideFact). x ++ y) v.facts_are (facts_among E (heard_in event) a.1);
        plain = plain_append history more v.plain (plain_outcomes E (heard_in event) a.1);
        count = omega (arith, deliveries_grow history more);
      }
  some_view opening f l history R event v =
      let a : Safety × SafetyOutcome = answer opening f.pair R event in
      let more : List Occurrence = map (at_end R) (outcomes_by (heard_in event) a.1) in
      let none : deliveries more ≡ 0 = none_passed R (heard_in event) a.1 in
      let so_far : deliveries history ≡ f.deliveries = v.count in
      record {
        opening_is = v.opening_is;
        e_is = v.e_is;
        r_is = refl;
        from_e_is = v.from_e_is;
        from_r_is = ap₂ (λ (x y : List (List ℕ)). x ++ y) v.from_r_is (frames_are (heard_in event) a.1);
        facts_are = grow history more ∙ ap₂ (λ (x y : List SideFact). x ++ y) v.facts_are (facts_among R (heard_in event) a.1);
        plain = plain_append history more v.plain (plain_outcomes R (heard_in event) a.1);
        count = omega (arith, deliveries_grow history more);
      }

  -- what an end of such a link answers
  gives_safely : (opening : PairOpening) (f : Flow) (l : Link) (history : List Occurrence) (side : Side) (event : EndEvent) → IsView opening f l history
      → give l side event ≡ with_answer l side (safe_end_step (key_for opening) (safety_of f.pair side) (safety_event event))
  gives_safely opening f l history E event v = rw (v.opening_is, v.e_is) refl
  gives_safely opening f l history R event v = rw (v.opening_is, v.r_is) refl

  abbrev ViewAt : PairOpening → Flow → List Occurrence → Link × List Occurrence → Type 0
  ViewAt opening f history a = IsView opening f a.0 (history ++ a.1)

  pub give_none : (opening : PairOpening) (f : Flow) (l : Link) (history : List Occurrence) (side : Side) (event : EndEvent) → safety_event event ≡ None
      → IsView opening f l history → ViewAt opening f history (give l side event)
  give_none opening f l history side event is v =
      subst (ViewAt opening f history) (sym (gives_safely opening f l history side event v))
      (subst (λ (e : Option SafetyEvent). ViewAt opening f history (with_answer l side (safe_end_step (key_for opening) (safety_of f.pair side) e))) (sym is)
      (none_view opening f l history side v))

  pub give_some : (opening : PairOpening) (f : Flow) (l : Link) (history : List Occurrence) (side : Side) (event : EndEvent) (given : SafetyEvent)
      → safety_event event ≡ Some given → IsView opening f l history → ViewAt opening (flow_behind_event opening f side given) history (give l side event)
  give_some opening f l history side event given is v =
      subst (ViewAt opening (flow_behind_event opening f side given) history) (sym (gives_safely opening f l history side event v))
      (subst (λ (e : Option SafetyEvent).
      ViewAt opening (flow_behind_event opening f side given) history (with_answer l side (safe_end_step (key_for opening) (safety_of f.pair side) e))) (sym is)
      (some_view opening f l history side given v))

  -- the first frame of a side is taken from those that wait
  taken_view : (opening : PairOpening) (f : Flow) (l : Link) (history : List Occurrence) (side : Side) (frame : List ℕ) (frames : List (List ℕ)) → IsView opening f l history
      → IsView opening (record (with_under_way f side frames) { deliveries = f.deliveries + 1 }) (with_waiting l side frames) (history ++ at_end side (Passed frame) ∷ [])
  taken_view opening f l history E frame frames v =
      let so_far : deliveries history ≡ f.deliveries = v.count in
      let one : deliveries (at_end E (Passed frame) ∷ []) ≡ 1 = refl in
      record {
        opening_is = v.opening_is;
        e_is = v.e_is;
        r_is = v.r_is;
        from_e_is = refl;
        from_r_is = v.from_r_is;
        facts_are = grow history (at_end E (Passed frame) ∷ []) ∙ append-nil (facts_in history) ∙ v.facts_are;
        plain = plain_append history (at_end E (Passed frame) ∷ []) v.plain (tt, tt);
        count = omega (arith, deliveries_grow history (at_end E (Passed frame) ∷ []));
      }
  taken_view opening f l history R frame frames v =
      let so_far : deliveries history ≡ f.deliveries = v.count in
      let one : deliveries (at_end R (Passed frame) ∷ []) ≡ 1 = refl in
      record {
        opening_is = v.opening_is;
        e_is = v.e_is;
        r_is = v.r_is;
        from_e_is = v.from_e_is;
        from_r_is = refl;
        facts_are = grow history (at_end R (Passed frame) ∷ []) ∙ append-nil (facts_in history) ∙ v.facts_are;
        plain = plain_append history (at_end R (Passed frame) ∷ []) v.plain (tt, tt);
        count = omega (arith, deliveries_grow history (at_end R (Passed frame) ∷ []));
      }

  happens_at : (opening : PairOpening) (f : Flow) (side : Side) (frames : List (List ℕ)) (frame : List ℕ)
      → flow_behind_event opening (record (with_under_way f side frames) { deliveries = f.deliveries + 1 }) (other side) (Received frame) ≡ delivered opening f side frame frames
  happens_at opening f E frames frame = refl
  happens_at opening f R frames frame = refl

  -- a pass is a delivery
  pub pass_view : (opening : PairOpening) (f : Flow) (l : Link) (history : List Occurrence) (side : Side) (frame : List ℕ) (frames : List (List ℕ)) → IsView opening f l history
      → ViewAt opening (delivered opening f side frame frames) history (pass l side (frame ∷ frames))
  pass_view opening f l history side frame frames v =
      let m : Link = with_waiting l side frames in
      let g : Flow = record (with_under_way f side frames) { deliveries = f.deliveries + 1 } in
      let first : List Occurrence = at_end side (Passed frame) ∷ [] in
      let a : Link × List Occurrence = give m (other side) (event.Receive frame) in
      let there : IsView opening (flow_behind_event opening g (other side) (Received frame)) a.0 ((history ++ first) ++ a.1) =
      give_some opening g m (history ++ first) (other side) (event.Receive frame) (Received frame) refl (taken_view opening f l history side frame frames v) in
      subst (λ (h : Flow). IsView opening h a.0 (history ++ (first ++ a.1))) (happens_at opening f side frames frame)
      (subst (λ (h : List Occurrence). IsView opening (flow_behind_event opening g (other side) (Received frame)) a.0 h) (append_assoc history first a.1) there)

  -- ---- a link that isn't disturbed

  -- it is two sides whose SaPDUs come to each other in order
  pub record IsFlow (l : Link) (history : List Occurrence) : Type 0 where
    pub opening : PairOpening
    pub f : Flow
    pub view : IsView opening f l history
    pub flows : Flows opening f

  abbrev FlowAt : List Occurrence → Link × List Occurrence → Type 0
  FlowAt history a = IsFlow a.0 (history ++ a.1)

  silent_flow : (l : Link) (history more : List Occurrence) → IsSilent more → IsFlow l history → IsFlow l (history ++ more)
  silent_flow l history more silent t =
      record { opening = t.opening; f = t.f; view = silent_view t.opening t.f l history more silent t.view; flows = t.flows }

  first_of : (opening : PairOpening) (f : Flow) (l : Link) (history : List Occurrence) (side : Side) (frames : List (List ℕ)) → IsView opening f l history
      → waiting_of l side ≡ frames → under_way f side ≡ frames
  first_of opening f l history E frames v is = sym v.from_e_is ∙ is
  first_of opening f l history R frames v is = sym v.from_r_is ∙ is

  pass_flow : (l : Link) (history : List Occurrence) (side : Side) (frames : List (List ℕ)) → waiting_of l side ≡ frames → IsFlow l history
      → FlowAt history (pass l side frames)
  pass_flow l history side [] is t = silent_flow l history (at_end side NothingWaits ∷ []) (record { facts = refl; plain = (tt, tt); count = refl }) t
  pass_flow l history side (frame ∷ frames) is t =
      record {
        opening = t.opening;
        f = delivered t.opening t.f side frame frames;
        view = pass_view t.opening t.f l history side frame frames t.view;
        flows = Delivers t.f side frame frames (first_of t.opening t.f l history side (frame ∷ frames) t.view is) t.flows;
      }

  -- what the line does, where it disturbs nothing
  pub record IsStill (side : Side) (frames : List (List ℕ)) (a : List (List ℕ) × List DrillOutcome) : Type 0 where
    pub same : a.0 ≡ frames
    pub silent : IsSilent (map (at_end side) a.1)

  abbrev Undisturbed : Side → List (List ℕ) × List DrillOutcome → Type 0
  Undisturbed side a = is_disturbed (map (at_end side) a.1) ≡ false

  still_if : (side : Side) (frames : List (List ℕ)) (b : Bool) (x y : List (List ℕ) × List DrillOutcome) → (Undisturbed side x → IsStill side frames x)
      → (Undisturbed side y → IsStill side frames y) → Undisturbed side (if b then x else y) → IsStill side frames (if b then x else y)
  still_if side frames true x y hx hy u = hx u
  still_if side frames false x y hx hy u = hy u

  still_changes : (side : Side) (change : LineChange) (frames : List (List ℕ)) → Undisturbed side (change_first change frames) → IsStill side frames (change_first change frames)
  still_changes side Lose [] u = record { same = refl; silent = record { facts = refl; plain = (tt, tt); count = refl } }
  still_changes side Lose (frame ∷ frames) u = cc
  still_changes side Repeat [] u = record { same = refl; silent = record { facts = refl; plain = (tt, tt); count = refl } }
  still_changes side Repeat (frame ∷ frames) u = cc
  still_changes side (Alter place mask) [] u = record { same = refl; silent = record { facts = refl; plain = (tt, tt); count = refl } }
  still_changes side (Alter place mask) (frame ∷ frames) u =
      still_if side (frame ∷ frames) (not (nat_lt place (length frame))) (frame ∷ frames, IsShort (length frame) ∷ [])
      (if mask == 0 then (frame ∷ frames, []) else (altered frame place mask ∷ frames, Altered ∷ []))
      (λ v. record { same = refl; silent = record { facts = refl; plain = (tt, tt); count = refl } })
      (still_if side (frame ∷ frames) (mask == 0) (frame ∷ frames, []) (altered frame place mask ∷ frames, Altered ∷ [])
      (λ v. record { same = refl; silent = record { facts = refl; plain = tt; count = refl } }) (λ v. cc)) u
  still_changes side (Put octets) frames u = cc

  same_waiting : (l : Link) (side : Side) → with_waiting l side (waiting_of l side) ≡ l
  same_waiting l E = refl
  same_waiting l R = refl

  change_flow : (l : Link) (history : List Occurrence) (side : Side) (a : List (List ℕ) × List DrillOutcome) → IsStill side (waiting_of l side) a → IsFlow l history
      → FlowAt history (change_waiting l side a)
  change_flow l history side a still t =
      let same : with_waiting l side a.0 ≡ l = ap (with_waiting l side) still.same ∙ same_waiting l side in
      subst (λ (m : Link). IsFlow m (history ++ map (at_end side) a.1)) (sym same) (silent_flow l history (map (at_end side) a.1) still.silent t)

  -- what is asked of a link step: that user octets are octets
  abbrev pub FitsLinkStep : LinkStep → Type 0
  FitsLinkStep (Send side octets) = AreOctets octets
  FitsLinkStep _ = Unit {0}

  at_moment : (l : Link) (history : List Occurrence) (moment : ℕ) → IsFlow l history → IsFlow (record l { moment = moment }) history
  at_moment l history moment t =
      let v = t.view in
      record {
        opening = t.opening;
        f = t.f;
        view = record {
          opening_is = v.opening_is;
          e_is = v.e_is;
          r_is = v.r_is;
          from_e_is = v.from_e_is;
          from_r_is = v.from_r_is;
          facts_are = v.facts_are;
          plain = v.plain;
          count = v.count;
        };
        flows = t.flows;
      }

  none_flow : (l : Link) (history : List Occurrence) (side : Side) (event : EndEvent) → safety_event event ≡ None → IsFlow l history → FlowAt history (give l side event)
  none_flow l history side event is t =
      record { opening = t.opening; f = t.f; view = give_none t.opening t.f l history side event is t.view; flows = t.flows }

  step_flow : (l : Link) (history : List Occurrence) (s : LinkStep) → FitsLinkStep s → is_disturbed (link_step l s).1 ≡ false → IsFlow l history
      → FlowAt history (link_step l s)
  step_flow l history (Send side octets) fit u t =
      record {
        opening = t.opening;
        f = flow_behind_event t.opening t.f side (DataRequest octets);
        view = give_some t.opening t.f l history side (event.Send octets) (DataRequest octets) refl t.view;
        flows = Sends t.f side octets fit t.flows;
      }
  step_flow l history (Pass side) fit u t = pass_flow l history side (waiting_of l side) refl t
  step_flow l history (Change side change) fit u t =
      change_flow l history side (change_first change (waiting_of l side)) (still_changes side change (waiting_of l side) u) t
  step_flow l history (Take side) fit u t = none_flow l history side event.Take refl t
  step_flow l history (Release side sub) fit u t = cc
  step_flow l history (Tick moment) fit u t =
      let m : Link = record l { moment = max l.moment moment } in
      let a : Link × List Occurrence = give m E event.Tick in
      let b : Link × List Occurrence = give a.0 R event.Tick in
      let first : IsFlow a.0 (history ++ a.1) = none_flow m history E event.Tick refl (at_moment l history (max l.moment moment) t) in
      subst (λ (h : List Occurrence). IsFlow b.0 h) (append_assoc history a.1 b.1) (none_flow a.0 (history ++ a.1) R event.Tick refl first)

  joined_flow : (opening : PairOpening) (moment : ℕ) → IsView opening (untouched opening) (joined_pair opening moment) []
  joined_flow opening moment =
      record { opening_is = refl; e_is = refl; r_is = refl; from_e_is = refl; from_r_is = refl; facts_are = refl; plain = tt; count = refl }

  opened_flow : (opening : PairOpening) (moment : ℕ) → IsFlow (opened_pair opening moment).0 (opened_pair opening moment).1
  opened_flow (OfFixed engine rbc ke kr) moment =
      record { opening = OfFixed engine rbc ke kr; f = untouched (OfFixed engine rbc ke kr); view = joined_flow (OfFixed engine rbc ke kr) moment; flows = Begins }
  opened_flow (OfKeys engine rbc ke kr ra rb) moment =
      let o : PairOpening = OfKeys engine rbc ke kr ra rb in
      record {
        opening = o;
        f = begun_flow o;
        view = give_some o (untouched o) (joined_pair o moment) [] E Start ConnectRequest refl (joined_flow o moment);
        flows = Begins;
      }

  -- ---- what is kept of any link

  abbrev pub FitsLinkOpening : LinkOpening → Type 0
  FitsLinkOpening (OfPair opening) = FitsOpening opening
  FitsLinkOpening (OfStations selective) = Unit {0}
  FitsLinkOpening (OfStacks engine rbc ke kr ra rb) = FitsOpening (OfKeys engine rbc ke kr ra rb)

  -- a link of level full
  pub record IsOfStacks (l : Link) (history : List Occurrence) : Type 0 where
    pub engine : ℕ
    pub rbc : ℕ
    pub ke : TripleKey
    pub kr : Option TripleKey
    pub ra : ℕ
    pub rb : ℕ
    pub opening_is : l.opening ≡ OfStacks engine rbc ke kr ra rb

  -- while nothing disturbed it, it flows
  pub record MayFlow (l : Link) (history : List Occurrence) : Type 0 where
    pub fit : FitsLinkOpening l.opening
    pub flow : is_disturbed history ≡ false → IsFlow l history

  pub give_opening : (l : Link) (side : Side) (event : EndEvent) → (give l side event).0.opening ≡ l.opening
  give_opening l E event = refl
  give_opening l R event = refl

  waiting_opening : (l : Link) (side : Side) (frames : List (List ℕ)) → (with_waiting l side frames).opening ≡ l.opening
  waiting_opening l E frames = refl
  waiting_opening l R frames = refl

  pub pass_opening : (l : Link) (side : Side) (frames : List (List ℕ)) → (pass l side frames).0.opening ≡ l.opening
  pass_opening l side [] = refl
  pass_opening l side (frame ∷ frames) =
      give_opening (with_waiting l side frames) (other side) (event.Receive frame) ∙ waiting_opening l side frames

  -- a step leaves the opening
  pub step_opening : (l : Link) (s : LinkStep) → (link_step l s).0.opening ≡ l.opening
  step_opening l (Send side octets) = give_opening l side (event.Send octets)
  step_opening l (Pass side) = pass_opening l side (waiting_of l side)
  step_opening l (Change side change) = waiting_opening l side (change_first change (waiting_of l side)).0
  step_opening l (Take side) = give_opening l side event.Take
  step_opening l (Release side sub) = give_opening l side (event.Release sub)
  step_opening l (Tick moment) =
      let m : Link = record l { moment = max l.moment moment } in
      give_opening (give m E event.Tick).0 R event.Tick ∙ give_opening m E event.Tick

  step_may : (l : Link) (history : List Occurrence) (s : LinkStep) → FitsLinkStep s → MayFlow l history → MayFlow (link_step l s).0 (history ++ (link_step l s).1)
  step_may l history s fit may =
      record {
        fit = subst FitsLinkOpening (sym (step_opening l s)) may.fit;
        flow = λ u.
            let p : Occurrence → Bool = λ o. is_disturbance o.outcome in
            let parts : (is_disturbed history ≡ false) × (is_disturbed (link_step l s).1 ≡ false) =
            or_parts (is_disturbed history) (is_disturbed (link_step l s).1) (sym (list_any-append p history (link_step l s).1) ∙ u) in
            step_flow l history s fit parts.1 (may.flow parts.0);
      }

  opened_opening : (opening : PairOpening) (moment : ℕ) → (opened_pair opening moment).0.opening ≡ OfPair opening
  opened_opening (OfFixed engine rbc ke kr) moment = refl
  opened_opening (OfKeys engine rbc ke kr ra rb) moment = refl

  pub no_send_fits : (s : LinkStep) → IsNoSend s → FitsLinkStep s
  no_send_fits (Send side octets) none = absurd none
  no_send_fits _ none = tt

  -- of two sides by themselves, or of two stacks
  abbrev pub Flowing : Link → List Occurrence → Type 0
  Flowing l history = MayFlow l history ⊎ IsOfStacks l history

  flowing_on : (l : Link) (history : List Occurrence) (s : LinkStep) → FitsLinkStep s → Flowing l history → Flowing (link_step l s).0 (history ++ (link_step l s).1)
  flowing_on l history s fit (inl may) = inl (step_may l history s fit may)
  flowing_on l history s fit (inr t) = inr (record { engine = t.engine; rbc = t.rbc; ke = t.ke; kr = t.kr; ra = t.ra; rb = t.rb; opening_is = step_opening l s ∙ t.opening_is })

  module _ (laws : StationLaws) (settings : Settings) where
    opens_flowing : (moment : ℕ) (opening : LinkOpening) → FitsLinkOpening opening
        → Either settings Flowing (opened_link settings moment opening).0 (opened_link settings moment opening).1
    opens_flowing moment (OfPair opening) fit =
        inl (inl (record { fit = subst FitsLinkOpening (sym (opened_opening opening moment)) fit; flow = λ u. opened_flow opening moment }))
    opens_flowing moment (OfStations selective) fit = inr (selective, wired_opens laws settings moment selective)
    opens_flowing moment (OfStacks engine rbc ke kr ra rb) fit =
        inl (inr (record { engine = engine; rbc = rbc; ke = ke; kr = kr; ra = ra; rb = rb; opening_is = refl }))

    pub flow_keeps : Keeps settings FitsLinkOpening FitsLinkStep (Either settings Flowing)
    flow_keeps =
        record {
          opens = opens_flowing;
          steps = λ l history s fit h. elim h [ inl f ↦ inl (flowing_on l history s fit f) | inr w ↦ inr (w.0, wired_steps laws settings w.0 l history s w.1) ];
          others = no_send_fits;
        }
