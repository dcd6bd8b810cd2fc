-- A link of two stacks that keeps its order, where the keys agree: nothing is forged, also where an end is released. Each step of the link keeps it.
use Rattle.std.proofs.Common.{◌≡◌, ◌⊎◌, inl, inr, ℕ, max, Bool, true, false, List, [], ◌∷◌, ◌++◌, length, take, map, refl, sym, ap, ap₂, subst, ◌∙◌, append-nil, append_assoc}
use Rattle.std.specs.Prelude.{zero, suc, Option, Some, None, is_some}
use Rattle.std.specs.Option.{option_to_list}
use Rattle.std.specs.List.{flat_map, AllByRecursion}
use Rattle.er_base.specs.declared.side.Side.{Side}
use Rattle.er_base.specs.declared.side.Side.TheVariants.{E, R}
use Rattle.er_base.specs.declared.release.Release.{Release}
use Rattle.er_base.specs.Sides.{other}
use Rattle.er_settings.specs.Values.{Settings}
use Rattle.hdlc_frames.specs.Framing.{Verdict}
use Rattle.x224_class2.specs.Segments.{messages_in}
use Rattle.safety_automaton.specs.Safety.{Safety, SafetyEvent, SafetyOutcome, session_in, SentAu1, SentAu2, SentAu3, SentAr, ReceivedAr, AcceptedDt, SentDt, Refused, ReleasedLocally, ReleasedByPeer, NothingDone, step}
use Rattle.safety_automaton.specs.Rules.{IsStep, StepsOnly}
use Rattle.safety_pair_laws.specs.Facts.{SideFact, MarkedFact, at_side, facts_of, marked_from, marked}
use Rattle.safety_pair_laws.specs.Marks.{MarksGrow}
use Rattle.safety_pair_laws.specs.Openings.{PairOpening, OfKeys}
use Rattle.er_end_model.specs.Outcomes.{SendRefusal}
use Rattle.er_end_model.specs.Layers.{Spoken, Core, model}
use Rattle.er_end_model.specs.Steps.{new_event_at, step_start, step_frame, refusal_at, refusal_of, step_send_unless, step_take, step_release, step_tick, is_connected}
use Rattle.hdlc_station_model.specs.Events.{news}
use Rattle.hdlc_station_model.specs.Lines.{IsPrefix}
use Rattle.er_end_model.specs.Ends.{End as Stack, Call, Answer, opened as stack_opened, hears_each, finds_expired}
use Rattle.er_end_model.specs.Ends as on_end
use Rattle.pair_model.specs.Links.{end_of_side}
use Rattle.er_end_pair_laws.specs.Links.{EndLink as Pair}
use Rattle.er_end_pair_laws.specs.Laws.{IsOneFrame}
use Rattle.er_end_pair_laws.specs.Ordered.{begins_with_cc, HasConfirmed, HasSaid, Knows, IsJoined, AreOrdered}
use Rattle.drill_model.specs.Outcomes.{DrillOutcome, NothingWaits, UserReleased, Passed, Occurrence, at_end, facts_in}
use Rattle.drill_model.specs.Growth.{FactsGrow}
use Rattle.drill_model.specs.StackEnds.{outcomes_told_by_stack, stack_told, told_unless, told_of_take}
use Rattle.drill_model.specs.StackReports.{IsOrderly, OpensOrderly, CallsReport, user_octets_spoken}
use Rattle.drill_model.specs.Ends.{EndAtLevel, OfStack, EndEvent, Receive, stack_end_step, end_step}
use Rattle.drill_model.specs.Ends as event
use Rattle.drill_model.specs.Waiting.{change_first}
use Rattle.drill_model.specs.Links.{Link, LinkOpening, key_on, waiting_of, with_waiting, with_answer, link_of, opened_stacks, LinkStep, Send, Pass, Change, Take, Release as ReleaseStep, Tick, pass, link_step}
use Rattle.drill_model.specs.Links as drill
use Rattle.drill_model.specs.Kinds.{sent_in, accepted_in}
use Rattle.drill_laws.proofs.Speaking.{Speaks, Spoke, comes_spoke, sends_spoke, uses_silent, leaves_spoke, took_silent}
use Rattle.drill_laws.proofs.Talking.{silent_changes}
use Rattle.drill_laws.proofs.StackSaying.{sent_by_step, sent_in_step}
use Rattle.drill_laws.proofs.StackGoing.{as_given, stack_leads, stack_does}
use Rattle.drill_laws.proofs.Wiring.{Sees}
use Rattle.drill_laws.proofs.Stacked.{stack_level, Numbers, opening_of, key_of}
use Rattle.drill_laws.proofs.StackCalls.{facts_spoken, Tells, told_tells, tells_behind, starts_rest, starts_tell, ticks_rest, ticks_tell}
use Rattle.drill_laws.proofs.StackEnding.{EndsCalmly, starts_ended, comes_ended, sends_ended, uses_ended, leaves_ended, ticks_ended}
use Rattle.drill_laws.proofs.Sealing.{IsSealed, IsUnforged, sealed_still, all_sealed_still, unforged_more}
use Rattle.drill_laws.proofs.Keyed.{key, text_au2, text_au3, text_ar, text_e, text_r, Engine, Centre, EngineGoes, CentreGoes, e_goes, r_goes}
use Rattle.drill_laws.proofs.Hearing.{all_append}

-- ---- lists

all_take : (P : List ℕ → Type 0) (n : ℕ) (xs : List (List ℕ)) → AllByRecursion P xs → AllByRecursion P (take n xs)
all_take P zero xs h = tt
all_take P (suc n) [] h = tt
all_take P (suc n) (x ∷ xs) h = (h.0, all_take P n xs h.1)

all_behind : (P : List ℕ → Type 0) (xs ys : List (List ℕ)) → AllByRecursion P (xs ++ ys) → AllByRecursion P ys
all_behind P [] ys h = h
all_behind P (x ∷ xs) ys h = all_behind P xs ys h.1

-- what was accepted now is among what was sent
accepted_all : (P : List ℕ → Type 0) (before now sent more : List (List ℕ)) → now ≡ before ++ more → IsPrefix now sent → AllByRecursion P sent → AllByRecursion P more
accepted_all P before now sent more grown prefix all =
    all_behind P before more (subst (AllByRecursion P) (sym prefix ∙ grown) (all_take P (length now) sent all))

-- ---- releases

no_release : (P : Type 0) (why : Release) → Some why ≡ None → P
no_release P why e = cc

-- an end that is live behind an event was so before it
live_before : (x y : Core) → ((why : Release) → x.released ≡ Some why → y.released ≡ Some why) → y.released ≡ None → x.released ≡ None
live_before x y stays live = at x.released refl
  where
    at : (o : Option Release) → x.released ≡ o → x.released ≡ None
    at None is = is
    at (Some why) is = no_release (x.released ≡ None) why (sym (stays why is) ∙ live)

-- ---- what an event did

-- nothing was handed, no CC given, nothing sealed and nothing verified
pub record IsQuiet (x y : Core) (spoke : Option Spoken) : Type 0 where
  pub segments_are : y.upper.transport.segments ≡ x.upper.transport.segments
  pub cc_is : begins_with_cc y.upper.transport.gave ≡ begins_with_cc x.upper.transport.gave
  pub none : facts_spoken spoke ≡ []

no_sends : (spoke : Option Spoken) → facts_spoken spoke ≡ [] → sent_in_step spoke ≡ []
no_sends None none = refl
no_sends (Some s) none = by s.event s.outcome none
  where
    by : (e : SafetyEvent) (o : SafetyOutcome) → facts_of e o ≡ [] → sent_by_step o ≡ []
    by e (SentAu1 octets) none = refl
    by e (SentAu2 session sealed octets) none = refl
    by e (SentAu3 session verified sealed octets) none = refl
    by e (SentAr connection verified sealed octets) none = refl
    by e (ReceivedAr connection verified) none = refl
    by e (AcceptedDt session user verified) none = refl
    by e (SentDt session user sealed octets) none = cc
    by e (Refused refusal) none = refl
    by e (ReleasedLocally release octets) none = refl
    by e (ReleasedByPeer release) none = refl
    by e NothingDone none = refl

-- ---- what was sealed so far, of each end

module _ (k : Numbers) where
  abbrev Sealed : List ℕ → List MarkedFact → Type 0
  Sealed text M = IsSealed (key k) text M

  pub record AtEngine (e : Core) (M : List MarkedFact) : Type 0 where
    pub said : HasSaid e → Sealed (text_au3 k) M
    pub known : e.released ≡ None → Knows e → Sealed (text_au3 k) M
    pub sent : AllByRecursion (λ user. Sealed (text_e k user) M) e.upper.sent

  pub record AtCentre (r : Core) (M : List MarkedFact) : Type 0 where
    pub gave : HasConfirmed r → Sealed (text_au2 k) M
    pub known : r.released ≡ None → Knows r → Sealed (text_au2 k) M
    pub said : HasSaid r → Sealed (text_ar k) M
    pub joined : r.released ≡ None → IsJoined r → Sealed (text_ar k) M
    pub sent : AllByRecursion (λ user. Sealed (text_r k user) M) r.upper.sent

  pub record Sound (e r : Core) (M : List MarkedFact) : Type 0 where
    pub unforged : IsUnforged M
    pub at_e : AtEngine e M
    pub at_r : AtCentre r M

  -- more facts
  engine_still : (e : Core) (M more : List MarkedFact) → AtEngine e M → AtEngine e (M ++ more)
  engine_still e M more h = record {
    said = λ said. sealed_still (key k) (text_au3 k) M more (h.said said);
    known = λ live known. sealed_still (key k) (text_au3 k) M more (h.known live known);
    sent = all_sealed_still (key k) (text_e k) e.upper.sent M more h.sent;
  }

  centre_still : (r : Core) (M more : List MarkedFact) → AtCentre r M → AtCentre r (M ++ more)
  centre_still r M more h = record {
    gave = λ gave. sealed_still (key k) (text_au2 k) M more (h.gave gave);
    known = λ live known. sealed_still (key k) (text_au2 k) M more (h.known live known);
    said = λ said. sealed_still (key k) (text_ar k) M more (h.said said);
    joined = λ live link_of. sealed_still (key k) (text_ar k) M more (h.joined live link_of);
    sent = all_sealed_still (key k) (text_r k) r.upper.sent M more h.sent;
  }

  abbrev is_known : Safety → Bool
  is_known s = is_some (session_in s.phase)

  -- ---- an event in which the safety side seals and verifies nothing

  abbrev Stays : Core → Core → Type 0
  Stays x y = (why : Release) → x.released ≡ Some why → y.released ≡ Some why

  abbrev EndsSo : Core → Core → Option Spoken → Type 0
  EndsSo x y spoke = (y.released ≡ None) ⊎ IsQuiet x y spoke

  same_said : (x y : Core) → y.upper.transport.segments ≡ x.upper.transport.segments → HasSaid y → HasSaid x
  same_said x y same said none = said (ap messages_in same ∙ none)

  e_rests : (x y : Core) (M : List MarkedFact) (spoke : Option Spoken) → y.safe.safety ≡ x.safe.safety → Stays x y → EndsSo x y spoke → (y.released ≡ None → HasSaid y → Knows y)
      → y.upper.sent ≡ x.upper.sent → AtEngine x M → AtEngine y M
  e_rests x y M spoke same stays ends said sent h = record {
    said = elim ends [
      | inl live ↦ λ says. h.known (live_before x y stays live) (sym (ap (λ (s : Safety). is_known s) same) ∙ said live says)
      | inr quiet ↦ λ says. h.said (same_said x y quiet.segments_are says)
    ];
    known = λ live known. h.known (live_before x y stays live) (sym (ap (λ (s : Safety). is_known s) same) ∙ known);
    sent = subst (AllByRecursion (λ user. Sealed (text_e k user) M)) (sym sent) h.sent;
  }

  r_rests : (x y : Core) (M : List MarkedFact) (spoke : Option Spoken) → y.safe.safety ≡ x.safe.safety → Stays x y → EndsSo x y spoke → (y.released ≡ None → HasConfirmed y → Knows y)
      → (y.released ≡ None → HasSaid y → IsJoined y) → y.upper.sent ≡ x.upper.sent → AtCentre x M → AtCentre y M
  r_rests x y M spoke same stays ends gave said sent h = record {
    gave = elim ends [
      | inl live ↦ λ confirmed. h.known (live_before x y stays live) (sym (ap (λ (s : Safety). is_known s) same) ∙ gave live confirmed)
      | inr quiet ↦ λ confirmed. h.gave (sym quiet.cc_is ∙ confirmed)
    ];
    known = λ live known. h.known (live_before x y stays live) (sym (ap (λ (s : Safety). is_known s) same) ∙ known);
    said = elim ends [
      | inl live ↦ λ says. h.joined (live_before x y stays live) (sym (ap (λ (s : Safety). is_connected s.phase) same) ∙ said live says)
      | inr quiet ↦ λ says. h.said (same_said x y quiet.segments_are says)
    ];
    joined = λ live link_of. h.joined (live_before x y stays live) (sym (ap (λ (s : Safety). is_connected s.phase) same) ∙ link_of);
    sent = subst (AllByRecursion (λ user. Sealed (text_r k user) M)) (sym sent) h.sent;
  }

  -- ---- any event

  abbrev Ordered : Core → Core → Type 0
  Ordered e r = AreOrdered k.engine k.rbc k.ke k.ra k.rb e r

  row_of : (only : StepsOnly) (before next : Safety) (s : Spoken) → Speaks (key_of k) before (Some s) next → IsStep (key_of k) before s.event next s.outcome
  row_of only before next s h =
      let a : Safety × SafetyOutcome = step (key_of k) before s.event in
      subst (λ (o : SafetyOutcome). IsStep (key_of k) before s.event next o) (sym h.0)
      (subst (λ (n : Safety). IsStep (key_of k) before s.event n a.1) (sym h.1) (only (key_of k) before s.event))

  abbrev news_e : List MarkedFact → Option Spoken → List MarkedFact
  news_e M spoke = marked_from M (map (at_side E) (facts_spoken spoke))

  abbrev news_r : List MarkedFact → Option Spoken → List MarkedFact
  news_r M spoke = marked_from M (map (at_side R) (facts_spoken spoke))

  abbrev CameTo : (text_of : List ℕ → List ℕ) → List MarkedFact → Option Spoken → Type 0
  CameTo text_of M spoke = AllByRecursion (λ user. Sealed (text_of user) M) (option_to_list (user_octets_spoken spoke))

  -- a step of the engine's side behind which its end is live
  e_lives : (only : StepsOnly) (x y r : Core) (M : List MarkedFact) (s : Spoken) → Speaks (key_of k) x.safe.safety (Some s) y.safe.safety → x.released ≡ None → y.released ≡ None
      → Engine k x.safe.safety → Ordered y r → CameTo (text_r k) M (Some s) → y.upper.sent ≡ x.upper.sent ++ sent_by_step s.outcome
      → Sound x r M → Sound y r (M ++ news_e M (Some s))
  e_lives only x y r M s speaks was live engine after came sent h =
      let more : List MarkedFact = news_e M (Some s) in
      let P : List ℕ → Type 0 = λ user. Sealed (text_e k user) (M ++ more) in
      let goes : EngineGoes k y.safe.safety s.outcome M more =
      e_goes k (key_of k) x.safe.safety y.safe.safety M s.event s.outcome (row_of only x.safe.safety y.safe.safety s speaks) engine (after.is_engine live) came h.unforged
      (λ known. h.at_r.gave (after.au2 live known)) (λ link_of. h.at_r.said (after.ar live link_of)) (λ known. h.at_e.known was known) in
      record {
        unforged = unforged_more M more h.unforged goes.unforged;
        at_e = record {
          said = λ says. goes.au3 (after.e_said live says);
          known = λ still known. goes.au3 known;
          sent = subst (AllByRecursion P) (sym sent)
              (all_append P x.upper.sent (sent_by_step s.outcome) (all_sealed_still (key k) (text_e k) x.upper.sent M more h.at_e.sent) goes.sent);
        };
        at_r = centre_still r M more h.at_r;
      }

  r_lives : (only : StepsOnly) (e x y : Core) (M : List MarkedFact) (s : Spoken) → Speaks (key_of k) x.safe.safety (Some s) y.safe.safety → x.released ≡ None → y.released ≡ None
      → Centre k x.safe.safety → Ordered e y → CameTo (text_e k) M (Some s) → y.upper.sent ≡ x.upper.sent ++ sent_by_step s.outcome
      → Sound e x M → Sound e y (M ++ news_r M (Some s))
  r_lives only e x y M s speaks was live centre after came sent h =
      let more : List MarkedFact = news_r M (Some s) in
      let P : List ℕ → Type 0 = λ user. Sealed (text_r k user) (M ++ more) in
      let goes : CentreGoes k y.safe.safety s.outcome M more =
      r_goes k (key_of k) x.safe.safety y.safe.safety M s.event s.outcome (row_of only x.safe.safety y.safe.safety s speaks) centre (after.is_centre live) came h.unforged
      (λ link_of. h.at_e.said (after.au3 live link_of)) (λ known. h.at_r.known was known) (λ link_of. h.at_r.joined was link_of) in
      record {
        unforged = unforged_more M more h.unforged goes.unforged;
        at_e = engine_still e M more h.at_e;
        at_r = record {
          gave = λ gave. goes.au2 (after.r_gave live gave);
          known = λ still known. goes.au2 known;
          said = λ says. goes.ar (after.r_said live says);
          joined = λ still link_of. goes.ar link_of;
          sent = subst (AllByRecursion P) (sym sent)
              (all_append P x.upper.sent (sent_by_step s.outcome) (all_sealed_still (key k) (text_r k) x.upper.sent M more h.at_r.sent) goes.sent);
        };
      }

  quiet_sent : (x y : Core) (spoke : Option Spoken) → IsQuiet x y spoke → y.upper.sent ≡ x.upper.sent ++ sent_in_step spoke → y.upper.sent ≡ x.upper.sent
  quiet_sent x y spoke quiet sent = sent ∙ ap (λ (us : List (List ℕ)). x.upper.sent ++ us) (no_sends spoke quiet.none) ∙ append-nil x.upper.sent

  quiet_of : (x y : Core) (spoke : Option Spoken) (why : Release) → y.released ≡ Some why → EndsSo x y spoke → IsQuiet x y spoke
  quiet_of x y spoke why is ends = elim ends [ inl live ↦ no_release (IsQuiet x y spoke) why (sym is ∙ live) | inr quiet ↦ quiet ]

  not_live : (y : Core) (why : Release) (P : Type 0) → y.released ≡ Some why → y.released ≡ None → P
  not_live y why P is live = no_release P why (sym is ∙ live)

  -- one behind which it is released
  e_ends : (x y r : Core) (M : List MarkedFact) (spoke : Option Spoken) (why : Release) → y.released ≡ Some why → IsQuiet x y spoke → y.upper.sent ≡ x.upper.sent ++ sent_in_step spoke
      → Sound x r M → Sound y r (M ++ news_e M spoke)
  e_ends x y r M spoke why is quiet sent h =
      let same : y.upper.sent ≡ x.upper.sent = quiet_sent x y spoke quiet sent in
      let here : AtEngine y M = record {
        said = λ says. h.at_e.said (same_said x y quiet.segments_are says);
        known = λ live known. not_live y why (Sealed (text_au3 k) M) is live;
        sent = subst (AllByRecursion (λ user. Sealed (text_e k user) M)) (sym same) h.at_e.sent;
      } in
      let none : Sound y r (M ++ []) = record { unforged = unforged_more M [] h.unforged refl; at_e = engine_still y M [] here; at_r = centre_still r M [] h.at_r } in
      subst (λ fs. Sound y r (M ++ marked_from M (map (at_side E) fs))) (sym quiet.none) none

  r_ends : (e x y : Core) (M : List MarkedFact) (spoke : Option Spoken) (why : Release) → y.released ≡ Some why → IsQuiet x y spoke → y.upper.sent ≡ x.upper.sent ++ sent_in_step spoke
      → Sound e x M → Sound e y (M ++ news_r M spoke)
  r_ends e x y M spoke why is quiet sent h =
      let same : y.upper.sent ≡ x.upper.sent = quiet_sent x y spoke quiet sent in
      let here : AtCentre y M = record {
        gave = λ gave. h.at_r.gave (sym quiet.cc_is ∙ gave);
        known = λ live known. not_live y why (Sealed (text_au2 k) M) is live;
        said = λ says. h.at_r.said (same_said x y quiet.segments_are says);
        joined = λ live link_of. not_live y why (Sealed (text_ar k) M) is live;
        sent = subst (AllByRecursion (λ user. Sealed (text_r k user) M)) (sym same) h.at_r.sent;
      } in
      let none : Sound e y (M ++ []) = record { unforged = unforged_more M [] h.unforged refl; at_e = engine_still e M [] h.at_e; at_r = centre_still y M [] here } in
      subst (λ fs. Sound e y (M ++ marked_from M (map (at_side R) fs))) (sym quiet.none) none

  e_at : (only : StepsOnly) (x y r : Core) (M : List MarkedFact) (s : Spoken) (o : Option Release) → y.released ≡ o → Speaks (key_of k) x.safe.safety (Some s) y.safe.safety → Stays x y
      → EndsSo x y (Some s) → (x.released ≡ None → Engine k x.safe.safety) → Ordered y r → CameTo (text_r k) M (Some s) → y.upper.sent ≡ x.upper.sent ++ sent_by_step s.outcome
      → Sound x r M → Sound y r (M ++ news_e M (Some s))
  e_at only x y r M s None live speaks stays ends engine after came sent h =
      let was : x.released ≡ None = live_before x y stays live in
      e_lives only x y r M s speaks was live (engine was) after came sent h
  e_at only x y r M s (Some why) is speaks stays ends engine after came sent h =
      e_ends x y r M (Some s) why is (quiet_of x y (Some s) why is ends) sent h

  r_at : (only : StepsOnly) (e x y : Core) (M : List MarkedFact) (s : Spoken) (o : Option Release) → y.released ≡ o → Speaks (key_of k) x.safe.safety (Some s) y.safe.safety → Stays x y
      → EndsSo x y (Some s) → (x.released ≡ None → Centre k x.safe.safety) → Ordered e y → CameTo (text_e k) M (Some s) → y.upper.sent ≡ x.upper.sent ++ sent_by_step s.outcome
      → Sound e x M → Sound e y (M ++ news_r M (Some s))
  r_at only e x y M s None live speaks stays ends centre after came sent h =
      let was : x.released ≡ None = live_before x y stays live in
      r_lives only e x y M s speaks was live (centre was) after came sent h
  r_at only e x y M s (Some why) is speaks stays ends centre after came sent h =
      r_ends e x y M (Some s) why is (quiet_of x y (Some s) why is ends) sent h

  -- an event at an end, whatever it is
  e_happens : (only : StepsOnly) (x y r : Core) (M : List MarkedFact) (spoke : Option Spoken) → Speaks (key_of k) x.safe.safety spoke y.safe.safety → Stays x y → EndsSo x y spoke
      → (x.released ≡ None → Engine k x.safe.safety) → Ordered y r → CameTo (text_r k) M spoke → y.upper.sent ≡ x.upper.sent ++ sent_in_step spoke
      → Sound x r M → Sound y r (M ++ news_e M spoke)
  e_happens only x y r M None same stays ends engine after came sent h =
      record {
        unforged = unforged_more M [] h.unforged refl;
        at_e = engine_still y M [] (e_rests x y M None same stays ends after.e_said (sent ∙ append-nil x.upper.sent) h.at_e);
        at_r = centre_still r M [] h.at_r;
      }
  e_happens only x y r M (Some s) speaks stays ends engine after came sent h = e_at only x y r M s y.released refl speaks stays ends engine after came sent h

  r_happens : (only : StepsOnly) (e x y : Core) (M : List MarkedFact) (spoke : Option Spoken) → Speaks (key_of k) x.safe.safety spoke y.safe.safety → Stays x y → EndsSo x y spoke
      → (x.released ≡ None → Centre k x.safe.safety) → Ordered e y → CameTo (text_e k) M spoke → y.upper.sent ≡ x.upper.sent ++ sent_in_step spoke
      → Sound e x M → Sound e y (M ++ news_r M spoke)
  r_happens only e x y M None same stays ends centre after came sent h =
      record {
        unforged = unforged_more M [] h.unforged refl;
        at_e = engine_still e M [] h.at_e;
        at_r = centre_still y M [] (r_rests x y M None same stays ends after.r_gave after.r_said (sent ∙ append-nil x.upper.sent) h.at_r);
      }
  r_happens only e x y M (Some s) speaks stays ends centre after came sent h = r_at only e x y M s y.released refl speaks stays ends centre after came sent h

-- ---- what each event at a stack did

refusal_live : (o : Option Release) (connected : Bool) (user : List ℕ) (waiting : ℕ) → refusal_at o connected user waiting ≡ None → o ≡ None
refusal_live None connected user waiting e = refl
refusal_live (Some why) connected user waiting e = cc

module _ (grow : FactsGrow) (marks : MarksGrow) (only : StepsOnly) (reports : CallsReport) (k : Numbers) where
  opening : PairOpening
  opening = OfKeys k.engine k.rbc k.ke k.kr k.ra k.rb

  record Event (x y : Core) (os : List DrillOutcome) : Type 0 where
    pub spoke : Option Spoken
    pub speaks : Speaks (key_of k) x.safe.safety spoke y.safe.safety
    pub tells : Tells spoke os
    pub ends : EndsSo k x y spoke

  ends_so : (x y : Core) (spoke : Option Spoken) → y.upper.spoke ≡ spoke → EndsCalmly x y → EndsSo k x y spoke
  ends_so x y spoke is ends = elim ends [
    | inl live ↦ inl live
    | inr calm ↦ inr (record { segments_are = calm.segments_are; cc_is = calm.cc_is; none = ap facts_spoken (sym is) ∙ calm.none })
  ]

  -- a call, with what it told
  called : (x y : Core) → Spoke (key_of k) x.safe.safety y → EndsCalmly x y → Event x y (outcomes_told_by_stack y)
  called x y speaks ends = record { spoke = y.upper.spoke; speaks = speaks; tells = told_tells grow opening y; ends = ends_so x y y.upper.spoke refl ends }

  -- an end that nothing was done to
  rest_ends : (x : Core) (o : Option Release) → x.released ≡ o → EndsSo k x x None
  rest_ends x None is = inl is
  rest_ends x (Some why) is = inr (record { segments_are = refl; cc_is = refl; none = refl })

  sent_event : (moment : ℕ) (user : List ℕ) (x : Core) (o : Option SendRefusal) → refusal_of model user x ≡ o
      → Event x (step_send_unless model o moment user x) (told_unless o (step_send_unless model o moment user x))
  sent_event moment user x (Some refusal) is =
      record { spoke = None; speaks = refl; tells = record { facts_are = λ side. refl; sent_is = refl; accepted_is = refl }; ends = rest_ends x x.released refl }
  sent_event moment user x None is =
      let y : Core = step_send_unless model None moment user x in
      let live : x.released ≡ None = refusal_live x.released (is_connected x.safe.safety.phase) user (model.waiting x.upper) is in
      record {
        spoke = y.upper.spoke;
        speaks = sends_spoke (key_of k) x.safe.safety moment user x refl;
        tells = told_tells grow opening y;
        ends = inl (sends_ended moment user x None is ∙ live);
      }

  took_none : (message : Option (List ℕ)) → (flat_map sent_in (told_of_take message) ≡ []) × (flat_map accepted_in (told_of_take message) ≡ [])
  took_none None = (refl, refl)
  took_none (Some message) = (refl, refl)

  abbrev OneFrame : Stack → EndEvent → Type 0
  OneFrame m (event.Receive octets) = length (news m.stream octets) ≡ 1
  OneFrame m _ = Unit {0}

  -- one frame
  heard_event : (moment : ℕ) (verdicts : List Verdict) (x : Core) → length verdicts ≡ 1
      → Event x (hears_each (λ now. key_of k) moment verdicts x) (stack_told (λ now. key_of k) moment verdicts x)
  heard_event moment [] x one = absurd cc
  heard_event moment (v ∷ []) x one =
      let y : Core = step_frame model (λ now. key_of k) moment v x in
      record {
        spoke = y.upper.spoke;
        speaks = comes_spoke (key_of k) x.safe.safety moment v x refl;
        tells = subst (Tells y.upper.spoke) (sym (append-nil (outcomes_told_by_stack y))) (told_tells grow opening y);
        ends = ends_so x y y.upper.spoke refl (comes_ended (λ now. key_of k) moment v x);
      }
  heard_event moment (v ∷ w ∷ more) x one = absurd cc

  abbrev next_of : (moment : ℕ) → EndEvent → Stack → Stack
  next_of moment given m = (on_end.step_event moment (as_given only reports (key_of k) given) m).0

  abbrev told_of : (moment : ℕ) → EndEvent → Stack → List DrillOutcome
  told_of moment given m = (stack_end_step (key_of k) moment m given).1

  event_at : (moment : ℕ) (m : Stack) (given : EndEvent) → OneFrame m given → Event m.core (next_of moment given m).core (told_of moment given m)
  event_at moment m event.Start one =
      let y : Core = step_start model moment m.core in
      let rests = starts_rest moment m.core in
      record { spoke = None; speaks = rests.1; tells = starts_tell grow opening y rests.0; ends = ends_so m.core y None rests.0 (starts_ended moment m.core) }
  event_at moment m (event.Receive octets) one =
      let v = heard_event moment (news m.stream octets) (new_event_at model moment m.core) one in
      record {
        spoke = v.spoke;
        speaks = v.speaks;
        tells = v.tells;
        ends = elim v.ends [
          | inl live ↦ inl live
          | inr quiet ↦ inr (record { segments_are = quiet.segments_are; cc_is = quiet.cc_is; none = quiet.none })
        ];
      }
  event_at moment m (event.Send user) one = sent_event moment user m.core (refusal_of model user m.core) refl
  event_at moment m event.Take one =
      let y : Core = step_take model moment m.core in
      let message : Option (List ℕ) = model.oldest m.core.upper in
      let none = took_none message in
      record {
        spoke = y.upper.spoke;
        speaks = uses_silent (key_of k) m.core.safe.safety moment m.core refl;
        tells = tells_behind grow opening y.upper.spoke (told_of_take message) (outcomes_told_by_stack y) (λ side. took_silent grow opening side message) none.0 none.1 (told_tells grow opening y);
        ends = ends_so m.core y y.upper.spoke refl (uses_ended moment m.core);
      }
  event_at moment m (event.Release sub) one =
      called m.core (step_release model moment sub m.core) (leaves_spoke (key_of k) m.core.safe.safety moment sub m.core refl) (leaves_ended only moment sub m.core)
  event_at moment m event.Tick one =
      let y : Core = step_tick model moment m.core in
      let rests = ticks_rest moment m.core in
      record {
        spoke = None;
        speaks = rests.1;
        tells = ticks_tell grow opening (finds_expired (new_event_at model moment m.core)) y rests.0;
        ends = ends_so m.core y None rests.0 (ticks_ended moment m.core);
      }

  -- ---- marks

  abbrev marks_of : List Occurrence → List MarkedFact
  marks_of history = marked (facts_in history)

  marked_more : (history more : List Occurrence) → marks_of (history ++ more) ≡ marks_of history ++ marked_from (marks_of history) (facts_in more)
  marked_more history more = ap marked (grow history more) ∙ marks [] (facts_in history) (facts_in more)

  marked_still : (history more : List Occurrence) → facts_in more ≡ [] → marks_of (history ++ more) ≡ marks_of history
  marked_still history more none =
      marked_more history more ∙ ap (λ (fs : List SideFact). marks_of history ++ marked_from (marks_of history) fs) none ∙ append-nil (marks_of history)

  abbrev SoundAt : Stack → Stack → List Occurrence → Type 0
  SoundAt e r history = Sound k e.core r.core (marks_of history)

  silent : (e r : Stack) (history more : List Occurrence) → facts_in more ≡ [] → SoundAt e r history → SoundAt e r (history ++ more)
  silent e r history more none h = subst (Sound k e.core r.core) (sym (marked_still history more none)) h

  -- ---- an event at an end of a link

  pub record Stands (l : Link) (e r : Stack) : Type 0 where
    pub opening_is : l.opening ≡ opening_of k
    pub e_is : l.e ≡ OfStack e
    pub r_is : l.r ≡ OfStack r

  gives_e : (l : Link) (e r : Stack) (given : EndEvent) → Stands l e r → drill.give l E given ≡ with_answer l E (stack_end_step (key_of k) l.moment e given)
  gives_e l e r given s = ap₂ (λ (o : LinkOpening) (end : EndAtLevel). with_answer l E (end_step (key_on o) l.moment end given)) s.opening_is s.e_is

  gives_r : (l : Link) (e r : Stack) (given : EndEvent) → Stands l e r → drill.give l R given ≡ with_answer l R (stack_end_step (key_of k) l.moment r given)
  gives_r l e r given s = ap₂ (λ (o : LinkOpening) (end : EndAtLevel). with_answer l R (end_step (key_on o) l.moment end given)) s.opening_is s.r_is

  stands_e : (l : Link) (e r : Stack) (given : EndEvent) → Stands l e r → Stands (drill.give l E given).0 (next_of l.moment given e) r
  stands_e l e r given s =
      let is = gives_e l e r given s in
      record {
        opening_is = ap (λ (a : Link × List Occurrence). a.0.opening) is ∙ s.opening_is;
        e_is = ap (λ (a : Link × List Occurrence). a.0.e) is ∙ stack_leads only reports (key_of k) l.moment e given;
        r_is = ap (λ (a : Link × List Occurrence). a.0.r) is ∙ s.r_is;
      }

  stands_r : (l : Link) (e r : Stack) (given : EndEvent) → Stands l e r → Stands (drill.give l R given).0 e (next_of l.moment given r)
  stands_r l e r given s =
      let is = gives_r l e r given s in
      record {
        opening_is = ap (λ (a : Link × List Occurrence). a.0.opening) is ∙ s.opening_is;
        e_is = ap (λ (a : Link × List Occurrence). a.0.e) is ∙ s.e_is;
        r_is = ap (λ (a : Link × List Occurrence). a.0.r) is ∙ stack_leads only reports (key_of k) l.moment r given;
      }

  came_e : (l : Link) (e r : Stack) (given : EndEvent) → Stands l e r → (drill.give l E given).1 ≡ map (at_end E) (told_of l.moment given e)
  came_e l e r given s = ap (λ (a : Link × List Occurrence). a.1) (gives_e l e r given s)

  came_r : (l : Link) (e r : Stack) (given : EndEvent) → Stands l e r → (drill.give l R given).1 ≡ map (at_end R) (told_of l.moment given r)
  came_r l e r given s = ap (λ (a : Link × List Occurrence). a.1) (gives_r l e r given s)

  given_e : (l : Link) (e r : Stack) (history : List Occurrence) (given : EndEvent) → Stands l e r → OneFrame e given → IsOrderly e.core
      → (e.core.released ≡ None → Engine k e.core.safe.safety) → Ordered k (next_of l.moment given e).core r.core
      → IsPrefix (next_of l.moment given e).core.upper.accepted r.core.upper.sent → SoundAt e r history
      → SoundAt (next_of l.moment given e) r (history ++ (drill.give l E given).1)
  given_e l e r history given s one orderly engine after prefix h =
      let M : List MarkedFact = marks_of history in
      let next : Stack = next_of l.moment given e in
      let os : List DrillOutcome = told_of l.moment given e in
      let v : Event e.core next.core os = event_at l.moment e given one in
      let d = (stack_does only reports (key_of k) l.moment e given orderly).says in
      let P : List ℕ → Type 0 = λ user. IsSealed (key k) (text_r k user) M in
      let came : AllByRecursion P (option_to_list (user_octets_spoken v.spoke)) =
      subst (AllByRecursion P) v.tells.accepted_is
      (accepted_all P e.core.upper.accepted next.core.upper.accepted r.core.upper.sent (flat_map accepted_in os) d.accepted_is prefix h.at_r.sent) in
      let sent : next.core.upper.sent ≡ e.core.upper.sent ++ sent_in_step v.spoke = d.sent_is ∙ ap (λ (us : List (List ℕ)). e.core.upper.sent ++ us) v.tells.sent_is in
      let now : Sound k next.core r.core (M ++ marked_from M (map (at_side E) (facts_spoken v.spoke))) =
      e_happens k only e.core next.core r.core M v.spoke v.speaks d.stays v.ends engine after came sent h in
      let whole : M ++ marked_from M (map (at_side E) (facts_spoken v.spoke)) ≡ marks_of (history ++ (drill.give l E given).1) =
      ap (λ (fs : List SideFact). M ++ marked_from M fs) (sym (v.tells.facts_are E)) ∙ sym (marked_more history (map (at_end E) os))
      ∙ ap (λ (more : List Occurrence). marks_of (history ++ more)) (sym (came_e l e r given s)) in
      subst (Sound k next.core r.core) whole now

  given_r : (l : Link) (e r : Stack) (history : List Occurrence) (given : EndEvent) → Stands l e r → OneFrame r given → IsOrderly r.core
      → (r.core.released ≡ None → Centre k r.core.safe.safety) → Ordered k e.core (next_of l.moment given r).core
      → IsPrefix (next_of l.moment given r).core.upper.accepted e.core.upper.sent → SoundAt e r history
      → SoundAt e (next_of l.moment given r) (history ++ (drill.give l R given).1)
  given_r l e r history given s one orderly centre after prefix h =
      let M : List MarkedFact = marks_of history in
      let next : Stack = next_of l.moment given r in
      let os : List DrillOutcome = told_of l.moment given r in
      let v : Event r.core next.core os = event_at l.moment r given one in
      let d = (stack_does only reports (key_of k) l.moment r given orderly).says in
      let P : List ℕ → Type 0 = λ user. IsSealed (key k) (text_e k user) M in
      let came : AllByRecursion P (option_to_list (user_octets_spoken v.spoke)) =
      subst (AllByRecursion P) v.tells.accepted_is
      (accepted_all P r.core.upper.accepted next.core.upper.accepted e.core.upper.sent (flat_map accepted_in os) d.accepted_is prefix h.at_e.sent) in
      let sent : next.core.upper.sent ≡ r.core.upper.sent ++ sent_in_step v.spoke = d.sent_is ∙ ap (λ (us : List (List ℕ)). r.core.upper.sent ++ us) v.tells.sent_is in
      let now : Sound k e.core next.core (M ++ marked_from M (map (at_side R) (facts_spoken v.spoke))) =
      r_happens k only e.core r.core next.core M v.spoke v.speaks d.stays v.ends centre after came sent h in
      let whole : M ++ marked_from M (map (at_side R) (facts_spoken v.spoke)) ≡ marks_of (history ++ (drill.give l R given).1) =
      ap (λ (fs : List SideFact). M ++ marked_from M fs) (sym (v.tells.facts_are R)) ∙ sym (marked_more history (map (at_end R) os))
      ∙ ap (λ (more : List Occurrence). marks_of (history ++ more)) (sym (came_r l e r given s)) in
      subst (Sound k e.core next.core) whole now

  -- ---- a tick: the safety sides take no step

  tick_facts : (side : Side) (moment : ℕ) (m : Stack) → facts_in (map (at_end side) (told_of moment event.Tick m)) ≡ []
  tick_facts side moment m =
      let rests = ticks_rest moment m.core in
      (ticks_tell grow opening (finds_expired (new_event_at model moment m.core)) (step_tick model moment m.core) rests.0).facts_are side

  ticked : (l : Link) (e r : Stack) (history : List Occurrence) (now : ℕ) → Stands l e r → IsOrderly e.core → IsOrderly r.core
      → let m = record l { moment = now } in let a = drill.give m E event.Tick in let b = drill.give a.0 R event.Tick in
      Ordered k (next_of now event.Tick e).core (next_of now event.Tick r).core → SoundAt e r history
      → SoundAt (next_of now event.Tick e) (next_of now event.Tick r) (history ++ (a.1 ++ b.1))
  unfolding event_at
  ticked l e r history now s orderly_e orderly_r after h =
      let M : List MarkedFact = marks_of history in
      let m : Link = record l { moment = now } in
      let sm : Stands m e r = record { opening_is = s.opening_is; e_is = s.e_is; r_is = s.r_is } in
      let a : Link × List Occurrence = drill.give m E event.Tick in
      let next_e : Stack = next_of now event.Tick e in
      let next_r : Stack = next_of now event.Tick r in
      let sa : Stands a.0 next_e r = stands_e m e r event.Tick sm in
      let b : Link × List Occurrence = drill.give a.0 R event.Tick in
      let none_a : facts_in a.1 ≡ [] = ap facts_in (came_e m e r event.Tick sm) ∙ tick_facts E now e in
      let none_b : facts_in b.1 ≡ [] = ap facts_in (came_r a.0 next_e r event.Tick sa) ∙ tick_facts R now r in
      let none : facts_in (a.1 ++ b.1) ≡ [] = grow a.1 b.1 ∙ ap₂ (λ (xs ys : List SideFact). xs ++ ys) none_a none_b in
      let de = (stack_does only reports (key_of k) now e event.Tick orderly_e).says in
      let dr = (stack_does only reports (key_of k) now r event.Tick orderly_r).says in
      let ve : Event e.core next_e.core (told_of now event.Tick e) = event_at now e event.Tick tt in
      let vr : Event r.core next_r.core (told_of now event.Tick r) = event_at now r event.Tick tt in
      let sent_e : next_e.core.upper.sent ≡ e.core.upper.sent =
      de.sent_is ∙ ap (λ (us : List (List ℕ)). e.core.upper.sent ++ us) (ve.tells.sent_is) ∙ append-nil e.core.upper.sent in
      let sent_r : next_r.core.upper.sent ≡ r.core.upper.sent =
      dr.sent_is ∙ ap (λ (us : List (List ℕ)). r.core.upper.sent ++ us) (vr.tells.sent_is) ∙ append-nil r.core.upper.sent in
      subst (Sound k next_e.core next_r.core) (sym (marked_still history (a.1 ++ b.1) none)) (record {
        unforged = h.unforged;
        at_e = e_rests k e.core next_e.core M None ve.speaks de.stays ve.ends after.e_said sent_e h.at_e;
        at_r = r_rests k r.core next_r.core M None vr.speaks dr.stays vr.ends after.r_gave after.r_said sent_r h.at_r;
      })

  -- ---- a step of a link, seen as a pair

  -- what the laws of two ends say of a pair
  pub record Known (p : Pair) : Type 0 where
    pub ordered : Ordered k p.e.core p.r.core
    pub at_r : IsPrefix p.r.core.upper.accepted p.e.core.upper.sent
    pub at_e : IsPrefix p.e.core.upper.accepted p.r.core.upper.sent
    pub frame_r : IsOneFrame p.r.stream p.from_e
    pub frame_e : IsOneFrame p.e.stream p.from_r

  sees_stands : (l : Link) (history : List Occurrence) (p : Pair) → Sees (stack_level k) l history p → Stands l p.e p.r
  sees_stands l history p v = record { opening_is = v.opening_is; e_is = v.e_is; r_is = v.r_is }

  stack_same : (a b : Stack) → OfStack a ≡ OfStack b → a ≡ b
  stack_same a b e = cc

  -- the stacks to which a link led are those of its pair
  same_stacks : (l : Link) (history : List Occurrence) (p : Pair) (e r : Stack) (P : Stack → Stack → Type 0) → Sees (stack_level k) l history p → Stands l e r → P e r → P p.e p.r
  same_stacks l history p e r P v s h =
      subst (λ (x : Stack). P x p.r) (stack_same e p.e (sym s.e_is ∙ v.e_is)) (subst (λ (y : Stack). P e y) (stack_same r p.r (sym s.r_is ∙ v.r_is)) h)

  stacks_same : (l : Link) (history : List Occurrence) (p : Pair) (e r : Stack) (P : Stack → Stack → Type 0) → Sees (stack_level k) l history p → Stands l e r → P p.e p.r → P e r
  stacks_same l history p e r P v s h =
      subst (λ (x : Stack). P x r) (stack_same p.e e (sym v.e_is ∙ s.e_is)) (subst (λ (y : Stack). P p.e y) (stack_same p.r r (sym v.r_is ∙ s.r_is)) h)

  abbrev pub PairSound : Pair → List Occurrence → Type 0
  PairSound p history = SoundAt p.e p.r history

  abbrev OrderedStacks : Stack → Stack → Type 0
  OrderedStacks e r = Ordered k e.core r.core

  -- an event at an end, at a link whose line may have changed, behind occurrences that are no facts
  event_sound : (l : Link) (history first : List Occurrence) (p q : Pair) (side : Side) (given : EndEvent) → facts_in first ≡ [] → Stands l p.e p.r
      → OneFrame (end_of_side p side) given → IsOrderly p.e.core → IsOrderly p.r.core → Known p → Known q → PairSound p history
      → Sees (stack_level k) (drill.give l side given).0 (history ++ (first ++ (drill.give l side given).1)) q
      → PairSound q (history ++ (first ++ (drill.give l side given).1))
  event_sound l history first p q E given none s one orderly_e orderly_r before after h v =
      let a : Link × List Occurrence = drill.give l E given in
      let next : Stack = next_of l.moment given p.e in
      let there : Stands a.0 next p.r = stands_e l p.e p.r given s in
      let whole : List Occurrence = history ++ (first ++ a.1) in
      let now : SoundAt next p.r ((history ++ first) ++ a.1) =
      given_e l p.e p.r (history ++ first) given s one orderly_e before.ordered.is_engine (stacks_same a.0 whole q next p.r OrderedStacks v there after.ordered)
      (stacks_same a.0 whole q next p.r (λ x y. IsPrefix x.core.upper.accepted y.core.upper.sent) v there after.at_e)
      (silent p.e p.r history first none h) in
      same_stacks a.0 whole q next p.r (λ x y. SoundAt x y whole) v there (subst (λ (os : List Occurrence). SoundAt next p.r os) (append_assoc history first a.1) now)
  event_sound l history first p q R given none s one orderly_e orderly_r before after h v =
      let a : Link × List Occurrence = drill.give l R given in
      let next : Stack = next_of l.moment given p.r in
      let there : Stands a.0 p.e next = stands_r l p.e p.r given s in
      let whole : List Occurrence = history ++ (first ++ a.1) in
      let now : SoundAt p.e next ((history ++ first) ++ a.1) =
      given_r l p.e p.r (history ++ first) given s one orderly_r before.ordered.is_centre (stacks_same a.0 whole q p.e next OrderedStacks v there after.ordered)
      (stacks_same a.0 whole q p.e next (λ x y. IsPrefix y.core.upper.accepted x.core.upper.sent) v there after.at_r)
      (silent p.e p.r history first none h) in
      same_stacks a.0 whole q p.e next (λ x y. SoundAt x y whole) v there (subst (λ (os : List Occurrence). SoundAt p.e next os) (append_assoc history first a.1) now)

  -- occurrences that are no facts, at a link whose line may have changed
  quiet_sound : (l : Link) (history more : List Occurrence) (p q : Pair) → facts_in more ≡ [] → Stands l p.e p.r → PairSound p history → Sees (stack_level k) l (history ++ more) q
      → PairSound q (history ++ more)
  quiet_sound l history more p q none s h v = same_stacks l (history ++ more) q p.e p.r (λ x y. SoundAt x y (history ++ more)) v s (silent p.e p.r history more none h)

  lined_stands : (l : Link) (side : Side) (frames : List (List ℕ)) (e r : Stack) → Stands l e r → Stands (with_waiting l side frames) e r
  lined_stands l E frames e r s = record { opening_is = s.opening_is; e_is = s.e_is; r_is = s.r_is }
  lined_stands l R frames e r s = record { opening_is = s.opening_is; e_is = s.e_is; r_is = s.r_is }

  -- the frame that is passed is one frame at the other end
  one_of : (l : Link) (history : List Occurrence) (p : Pair) (side : Side) (frame : List ℕ) (frames : List (List ℕ)) → waiting_of l side ≡ frame ∷ frames → Sees (stack_level k) l history p → Known p
      → length (news (end_of_side p (other side)).stream frame) ≡ 1
  one_of l history p E frame frames waits v knows = knows.frame_r frame frames (sym v.from_e_is ∙ waits)
  one_of l history p R frame frames waits v knows = knows.frame_e frame frames (sym v.from_r_is ∙ waits)

  pass_sound : (l : Link) (history : List Occurrence) (p q : Pair) (side : Side) (frames : List (List ℕ)) → waiting_of l side ≡ frames → Sees (stack_level k) l history p → Known p → Known q
      → PairSound p history → Sees (stack_level k) (pass l side frames).0 (history ++ (pass l side frames).1) q → PairSound q (history ++ (pass l side frames).1)
  pass_sound l history p q side [] waits v before after h there = quiet_sound l history (at_end side NothingWaits ∷ []) p q refl (sees_stands l history p v) h there
  pass_sound l history p q side (frame ∷ frames) waits v before after h there =
      event_sound (with_waiting l side frames) history (at_end side (Passed frame) ∷ []) p q (other side) (event.Receive frame) refl
      (lined_stands l side frames p.e p.r (sees_stands l history p v)) (one_of l history p side frame frames waits v before) v.stands_e v.stands_r before after h there

  pub step_ordered : (l : Link) (history : List Occurrence) (p q : Pair) (s : LinkStep) → Sees (stack_level k) l history p → Known p → Known q → PairSound p history
      → Sees (stack_level k) (link_step l s).0 (history ++ (link_step l s).1) q → PairSound q (history ++ (link_step l s).1)
  step_ordered l history p q (Send side octets) v before after h there =
      event_sound l history [] p q side (event.Send octets) refl (sees_stands l history p v) tt v.stands_e v.stands_r before after h there
  step_ordered l history p q (Pass side) v before after h there = pass_sound l history p q side (waiting_of l side) refl v before after h there
  step_ordered l history p q (Change side change) v before after h there =
      let frames : List (List ℕ) = waiting_of l side in
      quiet_sound (with_waiting l side (change_first change frames).0) history (map (at_end side) (change_first change frames).1) p q (silent_changes grow side change frames)
      (lined_stands l side (change_first change frames).0 p.e p.r (sees_stands l history p v)) h there
  step_ordered l history p q (Take side) v before after h there =
      event_sound l history [] p q side event.Take refl (sees_stands l history p v) tt v.stands_e v.stands_r before after h there
  step_ordered l history p q (ReleaseStep side sub) v before after h there =
      event_sound l history (at_end side (UserReleased sub) ∷ []) p q side (event.Release sub) refl (sees_stands l history p v) tt v.stands_e v.stands_r before after h there
  step_ordered l history p q (Tick moment) v before after h there =
      let now : ℕ = max l.moment moment in
      let m : Link = record l { moment = now } in
      let s : Stands l p.e p.r = sees_stands l history p v in
      let sm : Stands m p.e p.r = record { opening_is = v.opening_is; e_is = v.e_is; r_is = v.r_is } in
      let a : Link × List Occurrence = drill.give m E event.Tick in
      let e : Stack = next_of now event.Tick p.e in
      let sa : Stands a.0 e p.r = stands_e m p.e p.r event.Tick sm in
      let b : Link × List Occurrence = drill.give a.0 R event.Tick in
      let r : Stack = next_of now event.Tick p.r in
      let sb : Stands b.0 e r = stands_r a.0 e p.r event.Tick sa in
      let whole : List Occurrence = history ++ (a.1 ++ b.1) in
      let ordered : Ordered k e.core r.core = stacks_same b.0 whole q e r OrderedStacks there sb after.ordered in
      same_stacks b.0 whole q e r (λ x y. SoundAt x y whole) there sb (ticked l p.e p.r history now s v.stands_e v.stands_r ordered h)

  -- as they are opened nothing was sealed or verified, and nothing was given or said
  pub opened_ordered : OpensOrderly → (settings : Settings) (moment : ℕ) (q : Pair) → Known q
      → let a = opened_stacks settings moment k.engine k.rbc k.ke k.kr k.ra k.rb in Sees (stack_level k) a.0 a.1 q → PairSound q a.1
  opened_ordered orderly settings moment q after there =
      let e : Stack = stack_opened (Call settings k.engine k.rbc k.ke k.rb moment) in
      let r : Stack = stack_opened (Answer settings k.rbc k.ra moment) in
      let l : Link = link_of (opening_of k) moment (OfStack e) (OfStack r) in
      let s : Stands l e r = record { opening_is = refl; e_is = refl; r_is = refl } in
      let none : SoundAt e r [] = record {
        unforged = refl;
        at_e = record { said = λ says. absurd (says refl); known = λ live known. absurd (none_known known); sent = tt };
        at_r = record {
          gave = λ gave. absurd (none_known gave);
          known = λ live known. absurd (none_known known);
          said = λ says. absurd (says refl);
          joined = λ live link_of. absurd (none_known link_of);
          sent = tt;
        };
      } in
      let a : Link × List Occurrence = drill.give l E event.Start in
      let next : Stack = next_of moment event.Start e in
      let sa : Stands a.0 next r = stands_e l e r event.Start s in
      let ordered : Ordered k next.core r.core = stacks_same a.0 a.1 q next r OrderedStacks there sa after.ordered in
      let prefix : IsPrefix next.core.upper.accepted r.core.upper.sent =
      stacks_same a.0 a.1 q next r (λ x y. IsPrefix x.core.upper.accepted y.core.upper.sent) there sa after.at_e in
      same_stacks a.0 a.1 q next r (λ x y. SoundAt x y a.1) there sa
      (given_e l e r [] event.Start s tt (orderly (Call settings k.engine k.rbc k.ke k.rb moment))
      (λ live. record { me = refl; role = refl; is = tt }) ordered prefix none)
    where
      none_known : false ≡ true → ⊥
      none_known e = cc
