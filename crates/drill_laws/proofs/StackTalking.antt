-- A link of level full is two sides that talk, each in a stack: whatever its steps, what comes of them is authentic.
use Rattle.std.proofs.Common.{◌≡◌, ℕ, max, List, [], ◌∷◌, ◌++◌, map, refl, sym, ap, ap₂, subst, ◌∙◌, append-nil, append_assoc}
use Rattle.std.specs.Prelude.{Option}
use Rattle.er_base.specs.declared.side.Side.{Side}
use Rattle.er_base.specs.declared.side.Side.TheVariants.{E, R}
use Rattle.er_base.specs.Sides.{other}
use Rattle.er_settings.specs.Values.{Settings}
use Rattle.des_block.specs.declared.triple_key.TripleKey.{TripleKey}
use Rattle.safety_pair_laws.specs.Facts.{SideFact}
use Rattle.safety_pair_laws.specs.Openings.{PairOpening, OfKeys, Pair, key_for, with_safety}
use Rattle.safety_pair_laws.specs.Talks.{Talks, Begins}
use Rattle.er_end_model.specs.Ends.{End as Stack, Call, Answer}
use Rattle.er_end_model.specs.Ends as stacks
use Rattle.drill_model.specs.Outcomes.{DrillOutcome, NothingWaits, UserReleased, Passed, Occurrence, at_end, facts_in}
use Rattle.drill_model.specs.Ends.{EndAtLevel, OfStack, EndEvent, Start, stack_end, stack_end_step, end_step}
use Rattle.drill_model.specs.Ends as event
use Rattle.drill_model.specs.StackEnds.{stack_start, stack_hear, stack_send, stack_take, stack_release, stack_tick}
use Rattle.drill_model.specs.Waiting.{LineChange, change_first}
use Rattle.drill_model.specs.Links.{Link, LinkOpening, OfStacks, key_on, waiting_of, with_waiting, with_answer, give, link_of, opened_stacks, LinkStep, Send, Pass, Change, Take, Release, Tick, pass, link_step}
use Rattle.drill_model.specs.Growth.{FactsGrow}
use Rattle.drill_laws.proofs.Speaking.{Tells, begins_tells, hears_tells, sends_tells, takes_tells, releases_tells, ticks_tells}

-- the ends of a link are stacks, whose safety sides are these two of its opening, which said so much
pub record IsStackTalk (l : Link) (history : List Occurrence) : Type 0 where
  pub engine : ℕ
  pub rbc : ℕ
  pub ke : TripleKey
  pub kr : Option TripleKey
  pub ra : ℕ
  pub rb : ℕ
  pub e : Stack
  pub r : Stack
  pub opening_is : l.opening ≡ OfStacks engine rbc ke kr ra rb
  pub e_is : l.e ≡ OfStack e
  pub r_is : l.r ≡ OfStack r
  pub talks : Talks (OfKeys engine rbc ke kr ra rb) (facts_in history) (record { e = e.core.safe.safety; r = r.core.safe.safety })

module _ (grow : FactsGrow) where
  abbrev opening_of : (l : Link) (history : List Occurrence) → IsStackTalk l history → PairOpening
  opening_of l history t = OfKeys t.engine t.rbc t.ke t.kr t.ra t.rb

  abbrev stack_at : (l : Link) (history : List Occurrence) → IsStackTalk l history → Side → Stack
  stack_at l history t E = t.e
  stack_at l history t R = t.r

  -- a stack that went on so
  stack_answered : (l : Link) (history : List Occurrence) (t : IsStackTalk l history) (side : Side) (a : Stack × List DrillOutcome)
      → Tells (opening_of l history t) side (stack_at l history t side).core.safe.safety a.1 a.0.core.safe.safety
      → IsStackTalk (with_answer l side (stack_end a)).0 (history ++ (with_answer l side (stack_end a)).1)
  stack_answered l history t E a tells =
      let pair : Pair = record { e = t.e.core.safe.safety; r = t.r.core.safe.safety } in
      record {
        engine = t.engine;
        rbc = t.rbc;
        ke = t.ke;
        kr = t.kr;
        ra = t.ra;
        rb = t.rb;
        e = a.0;
        r = t.r;
        opening_is = t.opening_is;
        e_is = refl;
        r_is = t.r_is;
        talks = subst (λ (fs : List SideFact). Talks (opening_of l history t) fs (with_safety pair E a.0.core.safe.safety)) (sym (grow history (map (at_end E) a.1)))
            (tells (facts_in history) pair refl t.talks);
      }
  stack_answered l history t R a tells =
      let pair : Pair = record { e = t.e.core.safe.safety; r = t.r.core.safe.safety } in
      record {
        engine = t.engine;
        rbc = t.rbc;
        ke = t.ke;
        kr = t.kr;
        ra = t.ra;
        rb = t.rb;
        e = t.e;
        r = a.0;
        opening_is = t.opening_is;
        e_is = t.e_is;
        r_is = refl;
        talks = subst (λ (fs : List SideFact). Talks (opening_of l history t) fs (with_safety pair R a.0.core.safe.safety)) (sym (grow history (map (at_end R) a.1)))
            (tells (facts_in history) pair refl t.talks);
      }

  -- what an end of such a link answers
  event_answered : (l : Link) (history : List Occurrence) (t : IsStackTalk l history) (side : Side) (event : EndEvent)
      → let a = with_answer l side (stack_end_step (key_for (opening_of l history t)) l.moment (stack_at l history t side) event) in
      IsStackTalk a.0 (history ++ a.1)
  event_answered l history t side Start = stack_answered l history t side (stack_start l.moment (stack_at l history t side)) (begins_tells grow (opening_of l history t) side l.moment (stack_at l history t side))
  event_answered l history t side (event.Receive octets) =
      stack_answered l history t side (stack_hear (λ now. key_for (opening_of l history t)) l.moment octets (stack_at l history t side))
      (hears_tells grow (opening_of l history t) side l.moment octets (stack_at l history t side))
  event_answered l history t side (event.Send user) =
      stack_answered l history t side (stack_send l.moment user (stack_at l history t side)) (sends_tells grow (opening_of l history t) side l.moment user (stack_at l history t side))
  event_answered l history t side event.Take =
      stack_answered l history t side (stack_take l.moment (stack_at l history t side)) (takes_tells grow (opening_of l history t) side l.moment (stack_at l history t side))
  event_answered l history t side (event.Release sub) =
      stack_answered l history t side (stack_release l.moment sub (stack_at l history t side)) (releases_tells grow (opening_of l history t) side l.moment sub (stack_at l history t side))
  event_answered l history t side event.Tick =
      stack_answered l history t side (stack_tick l.moment (stack_at l history t side)) (ticks_tells grow (opening_of l history t) side l.moment (stack_at l history t side))

  answers_so : (l : Link) (history : List Occurrence) (t : IsStackTalk l history) (side : Side) (event : EndEvent)
      → give l side event ≡ with_answer l side (stack_end_step (key_for (opening_of l history t)) l.moment (stack_at l history t side) event)
  answers_so l history t E event = ap₂ (λ (o : LinkOpening) (end : EndAtLevel). with_answer l E (end_step (key_on o) l.moment end event)) t.opening_is t.e_is
  answers_so l history t R event = ap₂ (λ (o : LinkOpening) (end : EndAtLevel). with_answer l R (end_step (key_on o) l.moment end event)) t.opening_is t.r_is

  pub stack_give : (l : Link) (history : List Occurrence) (side : Side) (event : EndEvent) → IsStackTalk l history
      → IsStackTalk (give l side event).0 (history ++ (give l side event).1)
  stack_give l history side event t =
      let Q : Link × List Occurrence → Type 0 = λ a. IsStackTalk a.0 (history ++ a.1) in
      subst Q (sym (answers_so l history t side event)) (event_answered l history t side event)

  abbrev with_facts : (l m : Link) (history more : List Occurrence) → m.opening ≡ l.opening → m.e ≡ l.e → m.r ≡ l.r → facts_in history ≡ facts_in more
      → IsStackTalk l history → IsStackTalk m more
  with_facts l m history more o e r facts t =
      record {
        engine = t.engine;
        rbc = t.rbc;
        ke = t.ke;
        kr = t.kr;
        ra = t.ra;
        rb = t.rb;
        e = t.e;
        r = t.r;
        opening_is = o ∙ t.opening_is;
        e_is = e ∙ t.e_is;
        r_is = r ∙ t.r_is;
        talks = subst (λ (fs : List SideFact). Talks (opening_of l history t) fs (record { e = t.e.core.safe.safety; r = t.r.core.safe.safety })) facts t.talks;
      }

  stack_waiting : (l : Link) (history : List Occurrence) (side : Side) (frames : List (List ℕ)) → IsStackTalk l history → IsStackTalk (with_waiting l side frames) history
  stack_waiting l history E frames t = with_facts l (with_waiting l E frames) history history refl refl refl refl t
  stack_waiting l history R frames t = with_facts l (with_waiting l R frames) history history refl refl refl refl t

  stack_silent : (l : Link) (history more : List Occurrence) → facts_in more ≡ [] → IsStackTalk l history → IsStackTalk l (history ++ more)
  stack_silent l history more none t =
      with_facts l l history (history ++ more) refl refl refl
      (sym (append-nil (facts_in history)) ∙ ap (λ (fs : List SideFact). facts_in history ++ fs) (sym none) ∙ sym (grow history more)) t

  stack_onto : (l : Link) (history first : List Occurrence) (side : Side) (event : EndEvent) → facts_in first ≡ [] → IsStackTalk l history
      → IsStackTalk (give l side event).0 (history ++ (first ++ (give l side event).1))
  stack_onto l history first side event none t =
      let a : Link × List Occurrence = give l side event in
      subst (λ (h : List Occurrence). IsStackTalk a.0 h) (append_assoc history first a.1) (stack_give l (history ++ first) side event (stack_silent l history first none t))

  stack_pass : (l : Link) (history : List Occurrence) (side : Side) (frames : List (List ℕ)) → IsStackTalk l history
      → IsStackTalk (pass l side frames).0 (history ++ (pass l side frames).1)
  stack_pass l history side [] t = stack_silent l history (at_end side NothingWaits ∷ []) refl t
  stack_pass l history side (frame ∷ frames) t =
      stack_onto (with_waiting l side frames) history (at_end side (Passed frame) ∷ []) (other side) (event.Receive frame) refl (stack_waiting l history side frames t)

  pub stack_step : ((side : Side) (change : LineChange) (frames : List (List ℕ)) → facts_in (map (at_end side) (change_first change frames).1) ≡ [])
      → (l : Link) (history : List Occurrence) (s : LinkStep) → IsStackTalk l history → IsStackTalk (link_step l s).0 (history ++ (link_step l s).1)
  stack_step none l history (Send side octets) t = stack_give l history side (event.Send octets) t
  stack_step none l history (Pass side) t = stack_pass l history side (waiting_of l side) t
  stack_step none l history (Change side change) t =
      stack_silent (with_waiting l side (change_first change (waiting_of l side)).0) history _ (none side change (waiting_of l side))
      (stack_waiting l history side (change_first change (waiting_of l side)).0 t)
  stack_step none l history (Take side) t = stack_give l history side event.Take t
  stack_step none l history (Release side sub) t = stack_onto l history (at_end side (UserReleased sub) ∷ []) side (event.Release sub) refl t
  stack_step none l history (Tick moment) t =
      let m : Link = record l { moment = max l.moment moment } in
      let now : IsStackTalk m history = with_facts l m history history refl refl refl refl t in
      let a : Link × List Occurrence = give m E event.Tick in
      let b : Link × List Occurrence = give a.0 R event.Tick in
      subst (λ (h : List Occurrence). IsStackTalk b.0 h) (append_assoc history a.1 b.1)
      (stack_give a.0 (history ++ a.1) R event.Tick (stack_give m history E event.Tick now))

  pub opened_stack_talks : (settings : Settings) (moment engine rbc : ℕ) (ke : TripleKey) (kr : Option TripleKey) (ra rb : ℕ)
      → let a = opened_stacks settings moment engine rbc ke kr ra rb in IsStackTalk a.0 a.1
  opened_stack_talks settings moment engine rbc ke kr ra rb =
      stack_give
      (link_of (OfStacks engine rbc ke kr ra rb) moment (OfStack (stacks.opened (Call settings engine rbc ke rb moment))) (OfStack (stacks.opened (Answer settings rbc ra moment))))
      [] E Start
      (record {
        engine = engine;
        rbc = rbc;
        ke = ke;
        kr = kr;
        ra = ra;
        rb = rb;
        e = stacks.opened (Call settings engine rbc ke rb moment);
        r = stacks.opened (Answer settings rbc ra moment);
        opening_is = refl;
        e_is = refl;
        r_is = refl;
        talks = Begins;
      })
