-- A link of level safe or full is two sides that talk: whatever its steps, what comes of them is authentic.
use Rattle.std.proofs.Common.{◌≡◌, ◌⊎◌, ℕ, max, inl, inr, ◌==◌, nat_lt, not, if◌then◌else◌, length, true, false, Bool, List, [], ◌∷◌, ◌++◌, map, refl, sym, ap, subst, ◌∙◌, append-nil, append_assoc}
use Rattle.std.specs.Prelude.{Option, Some, None}
use Rattle.std.specs.List.{AllByRecursion}
use Rattle.er_base.specs.declared.side.Side.{Side}
use Rattle.er_base.specs.declared.side.Side.TheVariants.{E, R}
use Rattle.er_base.specs.Sides.{other}
use Rattle.er_settings.specs.Values.{Settings}
use Rattle.er_scenario.specs.declared.step.Step.{Step}
use Rattle.er_scenario.specs.declared.step.Step.TheVariants as does
use Rattle.safety_automaton.specs.Safety.{Safety, SafetyEvent, SafetyOutcome, SentAu1, SentAu2, SentAu3, SentAr, ReceivedAr, AcceptedDt, SentDt, Refused, ReleasedLocally, ReleasedByPeer, NothingDone}
use Rattle.safety_pair_laws.specs.Facts.{SideFact, at_side, heard_in, facts_by, facts_of}
use Rattle.safety_pair_laws.specs.Openings.{PairOpening, OfFixed, OfKeys, Pair, key_for, safety_of, with_safety, pair_before_events}
use Rattle.safety_pair_laws.specs.Talks.{answer, Talks, Begins, Goes, TalksAreAuthentic}
use Rattle.drill_model.specs.Outcomes.{DrillOutcome, NothingWaits, IsShort, Altered, UserReleased, Passed, Occurrence, at_end, facts_in}
use Rattle.drill_model.specs.Ends.{OfSafe, EndEvent, Start, safety_event, outcomes_by, safe_end_step}
use Rattle.drill_model.specs.Ends as event
use Rattle.hdlc_station_model.specs.Lines.{altered}
use Rattle.drill_model.specs.Waiting.{LineChange, Lose, Repeat, Alter, Put, change_first}
use Rattle.drill_model.specs.Links.{Link, LinkOpening, OfPair, OfStations, OfStacks, waiting_of, with_waiting, with_answer, give, joined_pair, opened_pair, opened_link, LinkStep, Send, Pass, Change, Take, Release, Tick, pass, link_step}
use Rattle.drill_model.specs.Worlds.{DrillPlan, fixed_opening, link_opening, wire_opening, link_at, history_on, world_run}
use Rattle.drill_model.specs.Claims.{LawfulAt}
use Rattle.drill_laws.specs.Laws.{LawfulAlways}
use Rattle.drill_laws.specs.LawsOfEnds.{StationLaws}
use Rattle.drill_model.specs.Growth.{HistoryGrows, HistoryOfOwn, HistoryOfOther, FactsGrow}
use Rattle.drill_laws.proofs.StackTalking.{IsStackTalk, stack_step, opened_stack_talks}
use Rattle.drill_laws.proofs.Stationed.{Either, wired_opens, wired_steps}
use Rattle.drill_laws.proofs.Worlds.{OpensFit, StepFits, AtPlace, Keeps, world_lives}

-- the ends of a link are these two sides of its opening, which said so much
pub record IsTalk (l : Link) (history : List Occurrence) : Type 0 where
  pub opening : PairOpening
  pub pair : Pair
  pub opening_is : l.opening ≡ OfPair opening
  pub e_is : l.e ≡ OfSafe pair.e
  pub r_is : l.r ≡ OfSafe pair.r
  pub talks : Talks opening (facts_in history) pair

-- the facts among the outcomes of a side
pub facts_among : (side : Side) (heard : List ℕ) (outcome : SafetyOutcome) → facts_in (map (at_end side) (outcomes_by heard outcome)) ≡ map (at_side side) (facts_by heard outcome)
facts_among side heard (SentAu1 octets) = refl
facts_among side heard (SentAu2 session sealed octets) = refl
facts_among side heard (SentAu3 session verified sealed octets) = refl
facts_among side heard (SentAr connection verified sealed octets) = refl
facts_among side heard (ReceivedAr connection verified) = refl
facts_among side heard (AcceptedDt session user verified) = refl
facts_among side heard (SentDt session user sealed octets) = refl
facts_among side heard (Refused refusal) = refl
facts_among side heard (ReleasedLocally release octets) = refl
facts_among side heard (ReleasedByPeer release) = refl
facts_among side heard NothingDone = refl

module _ (grow : FactsGrow) where
  -- a link that an end changed, and nothing else of it
  safe_answered : (l : Link) (history : List Occurrence) (t : IsTalk l history) (side : Side) (event : Option SafetyEvent)
      → IsTalk (with_answer l side (safe_end_step (key_for t.opening) (safety_of t.pair side) event)).0
      (history ++ (with_answer l side (safe_end_step (key_for t.opening) (safety_of t.pair side) event)).1)
  safe_answered l history t E None =
      record {
        opening = t.opening;
        pair = t.pair;
        opening_is = t.opening_is;
        e_is = refl;
        r_is = t.r_is;
        talks = subst (λ (h : List Occurrence). Talks t.opening (facts_in h) t.pair) (sym (append-nil history)) t.talks;
      }
  safe_answered l history t R None =
      record {
        opening = t.opening;
        pair = t.pair;
        opening_is = t.opening_is;
        e_is = t.e_is;
        r_is = refl;
        talks = subst (λ (h : List Occurrence). Talks t.opening (facts_in h) t.pair) (sym (append-nil history)) t.talks;
      }
  safe_answered l history t E (Some event) =
      let a : Safety × SafetyOutcome = answer t.opening t.pair E event in
      let more : List Occurrence = map (at_end E) (outcomes_by (heard_in event) a.1) in
      let facts : facts_in history ++ map (at_side E) (facts_of event a.1) ≡ facts_in (history ++ more) =
      ap (λ (fs : List SideFact). facts_in history ++ fs) (sym (facts_among E (heard_in event) a.1)) ∙ sym (grow history more) in
      record {
        opening = t.opening;
        pair = with_safety t.pair E a.0;
        opening_is = t.opening_is;
        e_is = refl;
        r_is = t.r_is;
        talks = subst (λ (fs : List SideFact). Talks t.opening fs (with_safety t.pair E a.0)) facts (Goes (facts_in history) t.pair E event t.talks);
      }
  safe_answered l history t R (Some event) =
      let a : Safety × SafetyOutcome = answer t.opening t.pair R event in
      let more : List Occurrence = map (at_end R) (outcomes_by (heard_in event) a.1) in
      let facts : facts_in history ++ map (at_side R) (facts_of event a.1) ≡ facts_in (history ++ more) =
      ap (λ (fs : List SideFact). facts_in history ++ fs) (sym (facts_among R (heard_in event) a.1)) ∙ sym (grow history more) in
      record {
        opening = t.opening;
        pair = with_safety t.pair R a.0;
        opening_is = t.opening_is;
        e_is = t.e_is;
        r_is = refl;
        talks = subst (λ (fs : List SideFact). Talks t.opening fs (with_safety t.pair R a.0)) facts (Goes (facts_in history) t.pair R event t.talks);
      }

  -- what an end of such a link answers
  answers_safely : (l : Link) (history : List Occurrence) (t : IsTalk l history) (side : Side) (event : EndEvent)
      → give l side event ≡ with_answer l side (safe_end_step (key_for t.opening) (safety_of t.pair side) (safety_event event))
  answers_safely l history t E event = rw (t.opening_is, t.e_is) refl
  answers_safely l history t R event = rw (t.opening_is, t.r_is) refl

  pub give_talks : (l : Link) (history : List Occurrence) (side : Side) (event : EndEvent) → IsTalk l history
      → IsTalk (give l side event).0 (history ++ (give l side event).1)
  give_talks l history side event t =
      let Q : Link × List Occurrence → Type 0 = λ a. IsTalk a.0 (history ++ a.1) in
      subst Q (sym (answers_safely l history t side event)) (safe_answered l history t side (safety_event event))

  -- whatever waits, the ends are as they were
  waiting_talks : (l : Link) (history : List Occurrence) (side : Side) (frames : List (List ℕ)) → IsTalk l history → IsTalk (with_waiting l side frames) history
  waiting_talks l history E frames t =
      record { opening = t.opening; pair = t.pair; opening_is = t.opening_is; e_is = t.e_is; r_is = t.r_is; talks = t.talks }
  waiting_talks l history R frames t =
      record { opening = t.opening; pair = t.pair; opening_is = t.opening_is; e_is = t.e_is; r_is = t.r_is; talks = t.talks }

  -- occurrences without facts
  silent_talks : (l : Link) (history more : List Occurrence) → facts_in more ≡ [] → IsTalk l history → IsTalk l (history ++ more)
  silent_talks l history more silent t =
      let facts : facts_in history ≡ facts_in (history ++ more) =
      sym (append-nil (facts_in history)) ∙ ap (λ (fs : List SideFact). facts_in history ++ fs) (sym silent) ∙ sym (grow history more) in
      record {
        opening = t.opening;
        pair = t.pair;
        opening_is = t.opening_is;
        e_is = t.e_is;
        r_is = t.r_is;
        talks = subst (λ (fs : List SideFact). Talks t.opening fs t.pair) facts t.talks;
      }

  -- occurrences without facts, and then an event at an end
  onto_talks : (l : Link) (history first : List Occurrence) (side : Side) (event : EndEvent) → facts_in first ≡ [] → IsTalk l history
      → IsTalk (give l side event).0 (history ++ (first ++ (give l side event).1))
  onto_talks l history first side event silent t =
      let a : Link × List Occurrence = give l side event in
      subst (λ (h : List Occurrence). IsTalk a.0 h) (append_assoc history first a.1) (give_talks l (history ++ first) side event (silent_talks l history first silent t))

  pass_talks : (l : Link) (history : List Occurrence) (side : Side) (frames : List (List ℕ)) → IsTalk l history
      → IsTalk (pass l side frames).0 (history ++ (pass l side frames).1)
  pass_talks l history side [] t = silent_talks l history (at_end side NothingWaits ∷ []) refl t
  pass_talks l history side (frame ∷ frames) t =
      onto_talks (with_waiting l side frames) history (at_end side (Passed frame) ∷ []) (other side) (event.Receive frame) refl (waiting_talks l history side frames t)

  -- a change of what waits that tells no fact
  abbrev IsSilent : Side → List (List ℕ) × List DrillOutcome → Type 0
  IsSilent side a = facts_in (map (at_end side) a.1) ≡ []

  silent_if : (side : Side) (b : Bool) (x y : List (List ℕ) × List DrillOutcome) → IsSilent side x → IsSilent side y → IsSilent side (if b then x else y)
  silent_if side true x y hx hy = hx
  silent_if side false x y hx hy = hy

  pub silent_changes : (side : Side) (change : LineChange) (frames : List (List ℕ)) → facts_in (map (at_end side) (change_first change frames).1) ≡ []
  silent_changes side Lose [] = refl
  silent_changes side Lose (frame ∷ frames) = refl
  silent_changes side Repeat [] = refl
  silent_changes side Repeat (frame ∷ frames) = refl
  silent_changes side (Alter place mask) [] = refl
  silent_changes side (Alter place mask) (frame ∷ frames) =
      silent_if side (not (nat_lt place (length frame))) (frame ∷ frames, IsShort (length frame) ∷ [])
      (if mask == 0 then (frame ∷ frames, []) else (altered frame place mask ∷ frames, Altered ∷ [])) refl
      (silent_if side (mask == 0) (frame ∷ frames, []) (altered frame place mask ∷ frames, Altered ∷ []) refl refl)
  silent_changes side (Put octets) frames = refl

  step_talks : (l : Link) (history : List Occurrence) (s : LinkStep) → IsTalk l history → IsTalk (link_step l s).0 (history ++ (link_step l s).1)
  step_talks l history (Send side octets) t = give_talks l history side (event.Send octets) t
  step_talks l history (Pass side) t = pass_talks l history side (waiting_of l side) t
  step_talks l history (Change side change) t =
      silent_talks (with_waiting l side (change_first change (waiting_of l side)).0) history _ (silent_changes side change (waiting_of l side))
      (waiting_talks l history side (change_first change (waiting_of l side)).0 t)
  step_talks l history (Take side) t = give_talks l history side event.Take t
  step_talks l history (Release side sub) t = onto_talks l history (at_end side (UserReleased sub) ∷ []) side (event.Release sub) refl t
  step_talks l history (Tick moment) t =
      let m : Link = record l { moment = max l.moment moment } in
      let now : IsTalk m history = record { opening = t.opening; pair = t.pair; opening_is = t.opening_is; e_is = t.e_is; r_is = t.r_is; talks = t.talks } in
      let a : Link × List Occurrence = give m E event.Tick in
      let b : Link × List Occurrence = give a.0 R event.Tick in
      subst (λ (h : List Occurrence). IsTalk b.0 h) (append_assoc history a.1 b.1)
      (give_talks a.0 (history ++ a.1) R event.Tick (give_talks m history E event.Tick now))

  joined_talks : (opening : PairOpening) (moment : ℕ) → IsTalk (joined_pair opening moment) []
  joined_talks opening moment = record { opening = opening; pair = pair_before_events opening; opening_is = refl; e_is = refl; r_is = refl; talks = Begins }

  opened_talks : (opening : PairOpening) (moment : ℕ) → IsTalk (opened_pair opening moment).0 (opened_pair opening moment).1
  opened_talks (OfFixed engine rbc ke kr) moment = joined_talks (OfFixed engine rbc ke kr) moment
  opened_talks (OfKeys engine rbc ke kr ra rb) moment =
      give_talks (joined_pair (OfKeys engine rbc ke kr ra rb) moment) [] E Start (joined_talks (OfKeys engine rbc ke kr ra rb) moment)

  -- two sides that talk, by themselves or each in a stack
  abbrev pub Speaks : Link → List Occurrence → Type 0
  Speaks l history = IsTalk l history ⊎ IsStackTalk l history

  speaks_on : (l : Link) (history : List Occurrence) (s : LinkStep) → Speaks l history → Speaks (link_step l s).0 (history ++ (link_step l s).1)
  speaks_on l history s (inl t) = inl (step_talks l history s t)
  speaks_on l history s (inr t) = inr (stack_step grow silent_changes l history s t)

  module _ (laws : StationLaws) (settings : Settings) where
    opens_lawfully : (moment : ℕ) (opening : LinkOpening) → Either settings Speaks (opened_link settings moment opening).0 (opened_link settings moment opening).1
    opens_lawfully moment (OfPair opening) = inl (inl (opened_talks opening moment))
    opens_lawfully moment (OfStations selective) = inr (selective, wired_opens laws settings moment selective)
    opens_lawfully moment (OfStacks engine rbc ke kr ra rb) = inl (inr (opened_stack_talks grow settings moment engine rbc ke kr ra rb))

    talks_keep : Keeps settings (λ o. Unit {0}) (λ s. Unit {0}) (Either settings Speaks)
    talks_keep =
        record {
          opens = λ moment opening fit. opens_lawfully moment opening;
          steps = λ l history s fit h. elim h [ inl t ↦ inl (speaks_on l history s t) | inr w ↦ inr (w.0, wired_steps laws settings w.0 l history s w.1) ];
          others = λ s none. tt;
        }

-- without any premise on a step
pub any_opening : (o : Option LinkOpening) → OpensFit (λ x. Unit {0}) o
any_opening None = tt
any_opening (Some opening) = tt

pub any_step : (plan : DrillPlan) (s : Step) → StepFits (λ x. Unit {0}) (λ x. Unit {0}) plan s
any_step plan (does.Fixed n engine rbc ke kr) = any_opening (fixed_opening plan.level engine rbc ke kr)
any_step plan (does.Link n engine rbc ke kr ra rb) = any_opening (link_opening plan.level engine rbc ke kr ra rb)
any_step plan (does.Wire n) = any_opening (wire_opening plan.level)
any_step plan _ = tt

pub any_steps : (plan : DrillPlan) (steps : List Step) → AllByRecursion (StepFits (λ x. Unit {0}) (λ x. Unit {0}) plan) steps
any_steps plan [] = tt
any_steps plan (s ∷ steps) = (any_step plan s, any_steps plan steps)

-- each link of a world is of two sides that talk, or of two stations
pub world_stands : StationLaws → (facts : FactsGrow) → HistoryGrows → HistoryOfOwn → HistoryOfOther → (plan : DrillPlan) (steps : List Step) (n : ℕ)
    → AtPlace (Either plan.settings (Speaks facts)) (link_at (world_run plan steps).0 n) (history_on n (world_run plan steps).1)
world_stands laws facts grow own other plan steps n =
    world_lives grow own other plan (λ x. Unit {0}) (λ x. Unit {0}) (Either plan.settings (Speaks facts)) (talks_keep facts laws plan.settings) steps (any_steps plan steps) n

lawful_at : TalksAreAuthentic → (facts : FactsGrow) (settings : Settings) (place : Option Link) (history : List Occurrence) → AtPlace (Either settings (Speaks facts)) place history → LawfulAt place history
lawful_at law facts settings None history none = none
lawful_at law facts settings (Some l) history (inl (inl t)) = rw t.opening_is (law t.opening (facts_in history) t.pair t.talks)
lawful_at law facts settings (Some l) history (inl (inr t)) =
    rw t.opening_is (law (OfKeys t.engine t.rbc t.ke t.kr t.ra t.rb) (facts_in history) (record { e = t.e.core.safe.safety; r = t.r.core.safe.safety }) t.talks)
lawful_at law facts settings (Some l) history (inr w) = rw w.1.sees.opening_is w.1.sees.tells

pub lawful_always : StationLaws → TalksAreAuthentic → FactsGrow → HistoryGrows → HistoryOfOwn → HistoryOfOther → LawfulAlways
lawful_always laws law facts grow own other plan steps n = lawful_at law facts plan.settings _ _ (world_stands laws facts grow own other plan steps n)
