-- A link of level safe that is loss-free so far delivers; and a drain as long as its bound leaves nothing waiting.
use Rattle.std.proofs.Common.{◌≡◌, inl, inr, ℕ, zero, suc, ◌+◌, ◌≤◌, ◌||◌, if◌then◌else◌, false, Bool, List, [], ◌∷◌, ◌++◌, map, length, refl, sym, ap, ap₂, subst, ◌∙◌, append-nil, arith}
use Rattle.std.specs.Prelude.{Option, None}
use Rattle.std.specs.List.{list_any}
use Rattle.std.proofs.lemmas.Bool.{or_parts, le-ltb}
use Rattle.std.proofs.lemmas.List.Concat.{flat_map-append}
use Rattle.er_base.specs.declared.side.Side.{Side}
use Rattle.er_base.specs.declared.side.Side.TheVariants.{E, R}
use Rattle.er_base.specs.Sides.{other}
use Rattle.er_settings.specs.Values.{Settings}
use Rattle.er_scenario.specs.declared.step.Step.{Step}
use Rattle.des_block.specs.declared.triple_key.TripleKey.{TripleKey}
use Rattle.safety_automaton.specs.Safety.{Safety, SafetyEvent, Received, DataRequest, SafetyOutcome, SentAu2, SentAu3, SentAr, ReceivedAr, AcceptedDt, SentDt}
use Rattle.safety_automaton.specs.Rules.{IsStep, StepsOnly}
use Rattle.safety_pair_laws.specs.Facts.{SideFact, MarkedFact, at_side, is_side, facts_of, marked}
use Rattle.safety_pair_laws.specs.Openings.{PairOpening, Agrees, key_for}
use Rattle.safety_pair_laws.specs.Talks.{answer}
use Rattle.safety_pair_laws.specs.Deliveries.{sent_of, accepted_of, Flow, under_way, delivered, Flows, Delivers, FitsOpening, IsFlowComplete, HasFlowed, FlowsDeliver}
use Rattle.safety_pair_laws.specs.Messages.{set_up_sapdus}
use Rattle.safety_pair_laws.specs.Messages as pair
use Rattle.drill_model.specs.Outcomes.{DrillOutcome, Altered, Inserted, Occurrence}
use Rattle.drill_model.specs.Links.{Link, LinkOpening, OfPair, OfStations, waiting_of, Pass, pass, link_step}
use Rattle.hdlc_station_model.specs.Lines.{next_of}
use Rattle.drill_model.specs.Worlds.{DrillPlan, link_at, history_on, next_side, overfull_side, Drain, drain, drain_on, world_run}
use Rattle.drill_model.specs.Kinds.{FramesHaveRoom, sent_by, accepted_by, deliveries, is_disturbance, is_disturbed, is_disorder, is_disordered, IsNumbered, IsLossFree, EndsAgree, bound}
use Rattle.drill_model.specs.Steps.{AllFit}
use Rattle.drill_laws.specs.Laws.{FitsSettings, DeliversAlways}
use Rattle.drill_laws.specs.LawsOfEnds.{StackLaws, StationLaws}
use Rattle.drill_model.specs.Claims.{IsConnectedEnd, IsEmpty, IsDelivered, OrderIsUnforged}
use Rattle.drill_model.specs.Claims as claim
use Rattle.drill_model.specs.Growth.{FactsGrow, HistoryGrows, HistoryOfOwn, HistoryOfOther}
use Rattle.er_settings.specs.Ranges.{AllAllowed}
use Rattle.er_settings.specs.Laws.{AreBounded, AllowedAreBounded}
use Rattle.hdlc_pair_laws.specs.Laws.{Delivery, DeliveryBound, DrainEmpties}
use Rattle.drill_laws.proofs.Openings.{has_room}
use Rattle.drill_laws.proofs.Taking.{empty_is_used_up}
use Rattle.drill_laws.proofs.Stationed.{Either}
use Rattle.drill_laws.proofs.Losing.{allowed_of, narrow_of}
use Rattle.drill_laws.proofs.Emptying.{wired_delivers}
use Rattle.drill_laws.proofs.Fitting.{steps_fit}
use Rattle.drill_laws.proofs.Stacked.{Numbers, IsStacked}
use Rattle.drill_laws.proofs.StackLaws.{stacked_delivers, stacked_at}
use Rattle.drill_laws.proofs.Worlds.{AtPlace, world_lives}
use Rattle.drill_laws.proofs.Viewing.{IsView, IsFlow, pass_view, FitsLinkStep, FitsLinkOpening, MayFlow, Flowing, flow_keeps, sent_by_facts, accepted_by_facts}

-- ---- a delivery sends no message

module _ (only : StepsOnly) where
  no_send : (s side : Side) (event : SafetyEvent) (octets : List ℕ) → event ≡ Received octets → (key_of : ℕ → ℕ → Option TripleKey) (side_of : Safety) (next : Safety)
      (outcome : SafetyOutcome) → IsStep key_of side_of event next outcome → sent_of s (map (at_side side) (facts_of event outcome)) ≡ []
  no_send E E event octets is key_of x next (SentAu2 session sealed o) row = refl
  no_send E R event octets is key_of x next (SentAu2 session sealed o) row = refl
  no_send R E event octets is key_of x next (SentAu2 session sealed o) row = refl
  no_send R R event octets is key_of x next (SentAu2 session sealed o) row = refl
  no_send E E event octets is key_of x next (SentAu3 session verified sealed o) row = refl
  no_send E R event octets is key_of x next (SentAu3 session verified sealed o) row = refl
  no_send R E event octets is key_of x next (SentAu3 session verified sealed o) row = refl
  no_send R R event octets is key_of x next (SentAu3 session verified sealed o) row = refl
  no_send E E event octets is key_of x next (SentAr c verified sealed o) row = refl
  no_send E R event octets is key_of x next (SentAr c verified sealed o) row = refl
  no_send R E event octets is key_of x next (SentAr c verified sealed o) row = refl
  no_send R R event octets is key_of x next (SentAr c verified sealed o) row = refl
  no_send E E event octets is key_of x next (ReceivedAr c verified) row = refl
  no_send E R event octets is key_of x next (ReceivedAr c verified) row = refl
  no_send R E event octets is key_of x next (ReceivedAr c verified) row = refl
  no_send R R event octets is key_of x next (ReceivedAr c verified) row = refl
  no_send E E event octets is key_of x next (AcceptedDt session user verified) row = refl
  no_send E R event octets is key_of x next (AcceptedDt session user verified) row = refl
  no_send R E event octets is key_of x next (AcceptedDt session user verified) row = refl
  no_send R R event octets is key_of x next (AcceptedDt session user verified) row = refl
  no_send s side event octets is key_of x next (SentDt session user sealed o) row = absurd (not_both octets user (sym is ∙ row.event_is))
    where
      not_both : (octets user : List ℕ) → Received octets ≡ DataRequest user → ⊥
      not_both octets user e = cc
  no_send s side event octets is key_of x next _ row = refl

  -- the greatest number of deliveries stays as it is
  abbrev most_of : PairOpening → Flow → ℕ
  most_of opening f = set_up_sapdus opening + (length (sent_of E f.facts) + length (sent_of R f.facts))

  sent_grows : (s : Side) (facts more : List SideFact) → sent_of s more ≡ [] → sent_of s (facts ++ more) ≡ sent_of s facts
  sent_grows s facts more none =
      flat_map-append (λ (f : SideFact). if is_side s f.side then pair.sent_in f.fact else []) facts more
      ∙ ap (λ (xs : List (List ℕ)). sent_of s facts ++ xs) none
      ∙ append-nil (sent_of s facts)

  same_sent : (opening : PairOpening) (f : Flow) (s side : Side) (octets : List ℕ) (rest : List (List ℕ))
      → sent_of s (delivered opening f side octets rest).facts ≡ sent_of s f.facts
  same_sent opening f s E octets rest =
      let a : Safety × SafetyOutcome = answer opening f.pair R (Received octets) in
      sent_grows s f.facts (map (at_side R) (facts_of (Received octets) a.1))
      (no_send s R (Received octets) octets refl (key_for opening) f.pair.r a.0 a.1 (only (key_for opening) f.pair.r (Received octets)))
  same_sent opening f s R octets rest =
      let a : Safety × SafetyOutcome = answer opening f.pair E (Received octets) in
      sent_grows s f.facts (map (at_side E) (facts_of (Received octets) a.1))
      (no_send s E (Received octets) octets refl (key_for opening) f.pair.e a.0 a.1 (only (key_for opening) f.pair.e (Received octets)))

  same_most : (opening : PairOpening) (f : Flow) (side : Side) (octets : List ℕ) (rest : List (List ℕ))
      → most_of opening (delivered opening f side octets rest) ≡ most_of opening f
  same_most opening f side octets rest =
      ap₂ (λ (x y : List (List ℕ)). set_up_sapdus opening + (length x + length y)) (same_sent opening f E side octets rest) (same_sent opening f R side octets rest)

  one_more : (opening : PairOpening) (f : Flow) (side : Side) (octets : List ℕ) (rest : List (List ℕ))
      → (delivered opening f side octets rest).deliveries ≡ f.deliveries + 1
  one_more opening f E octets rest = refl
  one_more opening f R octets rest = refl

  -- ---- drains

  none_of : (l : Link) → FramesHaveRoom l → overfull_side l ≡ None
  none_of l fits = rw (le-ltb 4096 (length l.from_e) fits.0, le-ltb 4096 (length l.from_r) fits.1) refl

  module _ (grow : FactsGrow) (law : FlowsDeliver) (opening : PairOpening) (fit : FitsOpening opening) (agree : Agrees opening) where
    abbrev Nothing : Link → Type 0
    Nothing l = (l.from_e ≡ []) × (l.from_r ≡ [])

    none_left : (f : Flow) → Flows opening f → most_of opening f ≤ f.deliveries → (side : Side) (frames : List (List ℕ)) → under_way f side ≡ frames → frames ≡ []
    none_left f flows enough side [] is = refl
    none_left f flows enough side (frame ∷ frames) is =
        let g : Flow = delivered opening f side frame frames in
        let bounded : g.deliveries ≤ most_of opening g = (law opening fit agree g (Delivers f side frame frames is flows)).bounded in
        let same : most_of opening g ≡ most_of opening f = same_most opening f side frame frames in
        let more : g.deliveries ≡ f.deliveries + 1 = one_more opening f side frame frames in
        absurd (omega arith)

    -- so many more passes leave nothing waiting
    abbrev Empties : ℕ → (Link → Drain) → Type 0
    Empties most drained =
        (l : Link) (history : List Occurrence) (f : Flow) → IsView opening f l history → Flows opening f → FramesHaveRoom l → most_of opening f ≤ f.deliveries + most
        → Nothing (drained l).link

    fits_after : (f : Flow) (l : Link) (side : Side) (frame : List ℕ) (frames : List (List ℕ)) (m : Link) (later : List Occurrence) → Flows opening f
        → under_way f side ≡ frame ∷ frames → IsView opening (delivered opening f side frame frames) m later
        → (length f.from_e ≤ 4096) × (length f.from_r ≤ 4096) → FramesHaveRoom m
    fits_after f l E frame frames m later flows is v small =
        let long : length f.from_e ≡ length (frame ∷ frames) = ap length is in
        let rest : length m.from_e ≡ length frames = ap length v.from_e_is in
        let room = (law opening fit agree f flows).room E frame frames 4096 is (omega arith) small.1 in
        let least : length f.from_e ≤ 4096 = small.0 in
        (omega arith, subst (λ (x : List (List ℕ)). length x ≤ 4096) (sym v.from_r_is) room)
    fits_after f l R frame frames m later flows is v small =
        let long : length f.from_r ≡ length (frame ∷ frames) = ap length is in
        let rest : length m.from_r ≡ length frames = ap length v.from_r_is in
        let room = (law opening fit agree f flows).room R frame frames 4096 is (omega arith) small.0 in
        let least : length f.from_r ≤ 4096 = small.1 in
        (subst (λ (x : List (List ℕ)). length x ≤ 4096) (sym v.from_e_is) room, omega arith)

    passes_empty : (most : ℕ) (others : Link → Drain) → Empties most others → (l : Link) (history : List Occurrence) (f : Flow) → IsView opening f l history → Flows opening f
        → FramesHaveRoom l → most_of opening f ≤ f.deliveries + suc most → (side : Side) (frame : List ℕ) (frames : List (List ℕ)) → waiting_of l side ≡ frame ∷ frames
        → under_way f side ≡ frame ∷ frames → Nothing (others (link_step l (Pass side)).0).link
    passes_empty most others each l history f v flows fits enough side frame frames waits is =
        let g : Flow = delivered opening f side frame frames in
        let a : Link × List Occurrence = pass l side (frame ∷ frames) in
        let there : IsView opening g a.0 (history ++ a.1) = pass_view grow opening f l history side frame frames v in
        let same : most_of opening g ≡ most_of opening f = same_most opening f side frame frames in
        let more : g.deliveries ≡ f.deliveries + 1 = one_more opening f side frame frames in
        let small : (length f.from_e ≤ 4096) × (length f.from_r ≤ 4096) =
        (subst (λ (x : List (List ℕ)). length x ≤ 4096) v.from_e_is fits.0, subst (λ (x : List (List ℕ)). length x ≤ 4096) v.from_r_is fits.1) in
        let after : FramesHaveRoom a.0 = fits_after f l side frame frames a.0 (history ++ a.1) flows is there small in
        let still : most_of opening g ≤ g.deliveries + most = omega arith in
        let Q : List (List ℕ) → Type 0 = λ frames. Nothing (others (pass l side frames).0).link in
        subst Q (sym waits) (each a.0 (history ++ a.1) g there (Delivers f side frame frames is flows) after still)

    drains_on : (most : ℕ) (others : Link → Drain) → Empties most others → (l : Link) (history : List Occurrence) (f : Flow) → IsView opening f l history → Flows opening f
        → FramesHaveRoom l → most_of opening f ≤ f.deliveries + suc most → (xs ys : List (List ℕ)) → l.from_e ≡ xs → l.from_r ≡ ys
        → Nothing (drain_on others l (next_of xs ys) None).link
    drains_on most others each l history f v flows fits enough [] [] e r = (e, r)
    drains_on most others each l history f v flows fits enough [] (frame ∷ frames) e r =
        passes_empty most others each l history f v flows fits enough R frame frames r (sym v.from_r_is ∙ r)
    drains_on most others each l history f v flows fits enough (frame ∷ frames) ys e r =
        passes_empty most others each l history f v flows fits enough E frame frames e (sym v.from_e_is ∙ e)

    pub drain_empties : (most : ℕ) → Empties most (drain most)
    unfolding drain
    drain_empties zero l history f v flows fits enough =
        let enough_now : most_of opening f ≤ f.deliveries = omega arith in
        (v.from_e_is ∙ none_left f flows enough_now E f.from_e refl, v.from_r_is ∙ none_left f flows enough_now R f.from_r refl)
    drain_empties (suc most) l history f v flows fits enough =
        let Q : Option Side → Type 0 = λ o. Nothing (drain_on (drain most) l (next_side l) o).link in
        subst Q (sym (none_of l fits)) (drains_on most (drain most) (drain_empties most) l history f v flows fits enough l.from_e l.from_r refl refl)

  -- ---- one link

  delivers_at : (grow : FactsGrow) → FlowsDeliver → (settings : Settings) (l : Link) (history : List Occurrence) → MayFlow grow l history → IsLossFree l.opening history
      → claim.Delivers settings history l
  delivers_at grow law settings l history may free =
      let t : IsFlow grow l history = may.flow free.undisturbed in
      let o : PairOpening = t.opening in
      let f : Flow = t.f in
      let v : IsView o f l history = t.view in
      let fit : FitsOpening o = subst (FitsLinkOpening grow) v.opening_is may.fit in
      let agree : Agrees o = subst EndsAgree v.opening_is free.agree in
      let has : HasFlowed o f = law o fit agree f t.flows in
      let sent : (s : Side) → sent_by s history ≡ sent_of s f.facts = λ s. sent_by_facts s history v.plain ∙ ap (sent_of s) v.facts_are in
      let accepted : (s : Side) → accepted_by s history ≡ accepted_of s f.facts = λ s. accepted_by_facts s history v.plain ∙ ap (accepted_of s) v.facts_are in
      let bound_is : bound settings l.opening history ≡ most_of o f =
      ap (λ (p : LinkOpening). bound settings p history) v.opening_is
      ∙ ap₂ (λ (x y : List (List ℕ)). set_up_sapdus o + (length x + length y)) (sent E) (sent R) in
      let count : deliveries history ≡ f.deliveries = v.count in
      let bounded : f.deliveries ≤ most_of o f = has.bounded in
      let D : LinkOpening → Type 0 = λ p. IsEmpty p history l → IsDelivered p history l in
      let done : D (OfPair o) = λ empty.
      let complete : IsFlowComplete f = has.complete (sym v.from_e_is ∙ empty.0) (sym v.from_r_is ∙ empty.1) in
      record {
        e_connected = subst IsConnectedEnd (sym v.e_is) complete.e_connected;
        r_connected = subst IsConnectedEnd (sym v.r_is) complete.r_connected;
        at_r = accepted R ∙ complete.at_r ∙ sym (sent E);
        at_e = accepted E ∙ complete.at_e ∙ sym (sent R);
      } in
      record {
        unforged = ap (λ (fs : List SideFact). list_any (λ (m : MarkedFact). m.forged) (marked fs)) v.facts_are ∙ has.unforged;
        bounded = omega arith;
        done = subst D (sym v.opening_is) done;
        drains = λ none most enough.
            let so_many : most_of o f ≤ f.deliveries + most = omega arith in
            drain_empties grow law o fit agree most l history f v t.flows (has_room l none) so_many;
      }

-- ---- worlds

-- an undisturbed line keeps its order
calm_orders : (o : DrillOutcome) → is_disturbance o ≡ false → is_disorder o ≡ false
calm_orders Altered e = e
calm_orders Inserted e = e
calm_orders other e = refl

calm_ordered : (history : List Occurrence) → is_disturbed history ≡ false → is_disordered history ≡ false
calm_ordered [] e = refl
calm_ordered (o ∷ history) e =
    let both = or_parts (is_disturbance o.outcome) (is_disturbed history) e in
    ap₂ (λ (a b : Bool). a || b) (calm_orders o.outcome both.0) (calm_ordered history both.1)

abbrev OrderedAreUnforged : Type 0
OrderedAreUnforged = (plan : DrillPlan) (steps : List Step) → AllFit steps → AllAllowed plan.settings → OrderIsUnforged plan steps

module _ (laws : StationLaws) (stacks : StackLaws) (unforged : OrderedAreUnforged) (delivery : Delivery) (deliveries_bound : DeliveryBound) (empties : DrainEmpties) (bounds : AllowedAreBounded) where
  pub delivers_always : StepsOnly → FlowsDeliver → FactsGrow → HistoryGrows → HistoryOfOwn → HistoryOfOther → DeliversAlways
  delivers_always only law facts grow own other plan steps fit n l is settings_fit free =
      let settings : Settings = plan.settings in
      let history : List Occurrence = history_on n (world_run plan steps).1 in
      let at : AtPlace (Either settings (Flowing facts)) (link_at (world_run plan steps).0 n) history =
      world_lives grow own other plan (FitsLinkOpening facts) (FitsLinkStep facts) (Either settings (Flowing facts)) (flow_keeps facts laws settings) steps
      (steps_fit facts plan steps fit) n in
      -- of two sides, of two stacks or of two stations
      elim (subst (λ (p : Option Link). AtPlace (Either settings (Flowing facts)) p history) is at) [
        | inl flowing ↦
            elim flowing [
              | inl may ↦ delivers_at only facts law settings l history may free
              | inr t ↦
                  let k : Numbers = record { engine = t.engine; rbc = t.rbc; ke = t.ke; kr = t.kr; ra = t.ra; rb = t.rb } in
                  let stacked : IsStacked settings l history = stacked_at stacks facts grow own other plan steps fit n l is k t.opening_is in
                  let allowed : AllAllowed settings = subst (FitsSettings settings) t.opening_is settings_fit in
                  stacked_delivers settings l history stacked allowed stacks free
                  (unforged plan steps fit allowed n l is
                  (record { numbered = subst IsNumbered (sym t.opening_is) tt; ordered = calm_ordered history free.undisturbed }) free.agree)
                  (empty_is_used_up stacks.only stacks.calls stacks.opens grow own other plan steps n l is)
            ]
        | inr w ↦
            let kind : l.opening ≡ OfStations w.0 = w.1.sees.opening_is in
            let bounded : AreBounded settings = bounds settings (allowed_of settings w.0 l kind settings_fit) in
            wired_delivers laws delivery deliveries_bound empties settings w.0 bounded (narrow_of settings w.0 l kind settings_fit bounded) l history w.1 free
      ]
