-- What a side of a link of two stacks accepted stands in its facts.
use Rattle.std.proofs.Common.{◌≡◌, ◌∙◌, ℕ, max, Bool, true, false, List, [], ◌∷◌, ◌++◌, length, map, refl, sym, subst, append_assoc}
use Rattle.std.specs.Prelude.{◌==◌, nat_lt, not, if◌then◌else◌, Option, Some, None}
use Rattle.std.specs.List.{AllByRecursion}
use Rattle.er_base.specs.declared.release.Release as release
use Rattle.er_base.specs.declared.side.Side.{Side}
use Rattle.er_base.specs.declared.side.Side.TheVariants.{E, R}
use Rattle.er_base.specs.Sides.{other}
use Rattle.des_block.specs.declared.triple_key.TripleKey.{TripleKey}
use Rattle.er_settings.specs.Values.{Settings}
use Rattle.hdlc_frames.specs.Framing.{Verdict}
use Rattle.hdlc_station_model.specs.Lines.{altered}
use Rattle.hdlc_station_model.specs.Events.{said_octets, news}
use Rattle.safety_pair_laws.specs.Facts.{Fact, facts_of}
use Rattle.safety_pair_laws.specs.Openings.{OfFixed, OfKeys}
use Rattle.er_end_model.specs.Outcomes.{SendRefusal}
use Rattle.er_end_model.specs.Layers.{Spoken, Core, model}
use Rattle.er_end_model.specs.Steps.{Finds, new_event_at, step_frame, refusal_of}
use Rattle.er_end_model.specs.Ends.{End as Stack, finds_expired}
use Rattle.er_end_model.specs.Ends as stacks
use Rattle.drill_model.specs.Outcomes.{DrillOutcome, OfSafety, Frame, IsShort, Altered, NothingWaits, Passed, UserReleased, Occurrence, at_end}
use Rattle.drill_model.specs.StationEnds.{if_released, if_expired}
use Rattle.drill_model.specs.StackEnds.{facts_told, outcomes_told_by_stack, stack_start, stack_hear, stack_told, stack_send, stack_take, stack_release, stack_tick, told_unless, told_of_take}
use Rattle.drill_model.specs.Ends.{EndAtLevel, OfStack, EndEvent, Start, stack_end_step, end_step}
use Rattle.drill_model.specs.Ends as event
use Rattle.drill_model.specs.Waiting.{LineChange, Lose, Repeat, Alter, Put, change_first}
use Rattle.drill_model.specs.Links.{Link, LinkOpening, OfPair, OfStations, OfStacks, key_on, waiting_of, with_waiting, with_answer, give, link_of, opened_link, LinkStep, Send, Pass, Change, Take, Release, Tick, pass, link_step}
use Rattle.drill_model.specs.Worlds.{history_on, world_run}
use Rattle.drill_model.specs.Growth.{FactsGrow, HistoryGrows, HistoryOfOwn, HistoryOfOther}
use Rattle.drill_laws.specs.Stacks.{StacksAccept}
use Rattle.drill_laws.proofs.Talking.{any_steps}
use Rattle.drill_laws.proofs.Viewing.{IsPlain, AllPlain, plain_append, accepted_by_facts, step_opening}
use Rattle.drill_laws.proofs.Worlds.{AtPlace, Keeps, world_lives}

-- ---- what a stack tells of an event: no payload of a station

abbrev ArePlain : List DrillOutcome → Type 0
ArePlain os = AllByRecursion IsPlain os

plain_both : (xs ys : List DrillOutcome) → ArePlain xs → ArePlain ys → ArePlain (xs ++ ys)
plain_both [] ys h g = g
plain_both (x ∷ xs) ys h g = (h.0, plain_both xs ys h.1 g)

plain_at : (side : Side) (os : List DrillOutcome) → ArePlain os → AllPlain (map (at_end side) os)
plain_at side [] h = tt
plain_at side (o ∷ os) h = (h.0, plain_at side os h.1)

plain_facts : (fs : List Fact) → ArePlain (map OfSafety fs)
plain_facts [] = tt
plain_facts (f ∷ fs) = (tt, plain_facts fs)

plain_spoken : (spoke : Option Spoken) → ArePlain (facts_told spoke)
plain_spoken None = tt
plain_spoken (Some s) = plain_facts (facts_of s.event s.outcome)

plain_released : (why : Option release.Release) → ArePlain (if_released why)
plain_released None = tt
plain_released (Some why) = (tt, tt)

plain_frames : (frames : List (List ℕ)) → ArePlain (map Frame frames)
plain_frames [] = tt
plain_frames (f ∷ fs) = (tt, plain_frames fs)

plain_told : (x : Core) → ArePlain (outcomes_told_by_stack x)
plain_told x =
    plain_both (facts_told x.upper.spoke) (if_released x.leaves ++ map Frame (said_octets x.line)) (plain_spoken x.upper.spoke)
    (plain_both (if_released x.leaves) (map Frame (said_octets x.line)) (plain_released x.leaves) (plain_frames (said_octets x.line)))

plain_heard : (finds : Finds) (moment : ℕ) (vs : List Verdict) (x : Core) → ArePlain (stack_told finds moment vs x)
plain_heard finds moment [] x = tt
plain_heard finds moment (v ∷ vs) x =
    let y : Core = step_frame model finds moment v x in
    plain_both (outcomes_told_by_stack y) (stack_told finds moment vs y) (plain_told y) (plain_heard finds moment vs y)

plain_unless : (refusal : Option SendRefusal) (x : Core) → ArePlain (told_unless refusal x)
plain_unless (Some refusal) x = (tt, tt)
plain_unless None x = plain_told x

plain_taken : (message : Option (List ℕ)) → ArePlain (told_of_take message)
plain_taken None = (tt, tt)
plain_taken (Some message) = (tt, tt)

plain_expired : (b : Bool) → ArePlain (if_expired b)
plain_expired true = (tt, tt)
plain_expired false = tt

-- the end behind it is a stack
record StackAnswers (a : EndAtLevel × List DrillOutcome) : Type 0 where
  stack : Stack
  is : a.0 ≡ OfStack stack
  plain : ArePlain a.1

answers_of : (key_of : ℕ → ℕ → Option TripleKey) (moment : ℕ) (m : Stack) (e : EndEvent) → StackAnswers (stack_end_step key_of moment m e)
answers_of key_of moment m Start = record { stack = (stack_start moment m).0; is = refl; plain = plain_told (stack_start moment m).0.core }
answers_of key_of moment m (event.Receive octets) = record {
  stack = (stack_hear (λ now. key_of) moment octets m).0;
  is = refl;
  plain = plain_heard (λ now. key_of) moment (news m.stream octets) (new_event_at model moment m.core);
}
answers_of key_of moment m (event.Send user) =
    record { stack = (stack_send moment user m).0; is = refl; plain = plain_unless (refusal_of model user m.core) (stack_send moment user m).0.core }
answers_of key_of moment m event.Take = record {
  stack = (stack_take moment m).0;
  is = refl;
  plain = plain_both (told_of_take (model.oldest m.core.upper)) (outcomes_told_by_stack (stack_take moment m).0.core) (plain_taken (model.oldest m.core.upper))
      (plain_told (stack_take moment m).0.core);
}
answers_of key_of moment m (event.Release sub) =
    record { stack = (stack_release moment sub m).0; is = refl; plain = plain_told (stack_release moment sub m).0.core }
answers_of key_of moment m event.Tick = record {
  stack = (stack_tick moment m).0;
  is = refl;
  plain = plain_both (if_expired (finds_expired (new_event_at model moment m.core))) (outcomes_told_by_stack (stack_tick moment m).0.core)
      (plain_expired (finds_expired (new_event_at model moment m.core))) (plain_told (stack_tick moment m).0.core);
}

-- ---- a link of two stacks

record IsPlainLink (l : Link) (history : List Occurrence) : Type 0 where
  e : Stack
  r : Stack
  e_is : l.e ≡ OfStack e
  r_is : l.r ≡ OfStack r
  plain : AllPlain history

answered : (l : Link) (history : List Occurrence) (side : Side) (a : EndAtLevel × List DrillOutcome) → StackAnswers a → IsPlainLink l history
    → IsPlainLink (with_answer l side a).0 (history ++ (with_answer l side a).1)
answered l history E a s p =
    record { e = s.stack; r = p.r; e_is = s.is; r_is = p.r_is; plain = plain_append history (map (at_end E) a.1) p.plain (plain_at E a.1 s.plain) }
answered l history R a s p =
    record { e = p.e; r = s.stack; e_is = p.e_is; r_is = s.is; plain = plain_append history (map (at_end R) a.1) p.plain (plain_at R a.1 s.plain) }

gives : (l : Link) (history : List Occurrence) (side : Side) (e : EndEvent) → IsPlainLink l history → IsPlainLink (give l side e).0 (history ++ (give l side e).1)
gives l history E e p =
    answered l history E (end_step (key_on l.opening) l.moment l.e e)
    (subst (λ (end : EndAtLevel). StackAnswers (end_step (key_on l.opening) l.moment end e)) (sym p.e_is) (answers_of (key_on l.opening) l.moment p.e e)) p
gives l history R e p =
    answered l history R (end_step (key_on l.opening) l.moment l.r e)
    (subst (λ (end : EndAtLevel). StackAnswers (end_step (key_on l.opening) l.moment end e)) (sym p.r_is) (answers_of (key_on l.opening) l.moment p.r e)) p

waits : (l : Link) (history : List Occurrence) (side : Side) (frames : List (List ℕ)) → IsPlainLink l history → IsPlainLink (with_waiting l side frames) history
waits l history E frames p = record { e = p.e; r = p.r; e_is = p.e_is; r_is = p.r_is; plain = p.plain }
waits l history R frames p = record { e = p.e; r = p.r; e_is = p.e_is; r_is = p.r_is; plain = p.plain }

more_plain : (l : Link) (history more : List Occurrence) → AllPlain more → IsPlainLink l history → IsPlainLink l (history ++ more)
more_plain l history more plain p = record { e = p.e; r = p.r; e_is = p.e_is; r_is = p.r_is; plain = plain_append history more p.plain plain }

onto_plain : (l : Link) (history first : List Occurrence) (side : Side) (e : EndEvent) → AllPlain first → IsPlainLink l history
    → IsPlainLink (give l side e).0 (history ++ (first ++ (give l side e).1))
onto_plain l history first side e plain p =
    subst (λ (h : List Occurrence). IsPlainLink (give l side e).0 h) (append_assoc history first (give l side e).1)
    (gives l (history ++ first) side e (more_plain l history first plain p))

passes : (l : Link) (history : List Occurrence) (side : Side) (frames : List (List ℕ)) → IsPlainLink l history → IsPlainLink (pass l side frames).0 (history ++ (pass l side frames).1)
passes l history side [] p = more_plain l history (at_end side NothingWaits ∷ []) (tt, tt) p
passes l history side (frame ∷ frames) p =
    onto_plain (with_waiting l side frames) history (at_end side (Passed frame) ∷ []) (other side) (event.Receive frame) (tt, tt) (waits l history side frames p)

plain_if : (b : Bool) (x y : List (List ℕ) × List DrillOutcome) → ArePlain x.1 → ArePlain y.1 → ArePlain (if b then x else y).1
plain_if true x y h g = h
plain_if false x y h g = g

plain_changes : (change : LineChange) (frames : List (List ℕ)) → ArePlain (change_first change frames).1
plain_changes Lose [] = (tt, tt)
plain_changes Lose (frame ∷ frames) = (tt, tt)
plain_changes Repeat [] = (tt, tt)
plain_changes Repeat (frame ∷ frames) = (tt, tt)
plain_changes (Alter place mask) [] = (tt, tt)
plain_changes (Alter place mask) (frame ∷ frames) =
    plain_if (not (nat_lt place (length frame))) (frame ∷ frames, IsShort (length frame) ∷ [])
    (if mask == 0 then (frame ∷ frames, []) else (altered frame place mask ∷ frames, Altered ∷ [])) (tt, tt)
    (plain_if (mask == 0) (frame ∷ frames, []) (altered frame place mask ∷ frames, Altered ∷ []) tt (tt, tt))
plain_changes (Put octets) frames = (tt, tt)

steps_plain : (l : Link) (history : List Occurrence) (s : LinkStep) → IsPlainLink l history → IsPlainLink (link_step l s).0 (history ++ (link_step l s).1)
steps_plain l history (Send side octets) p = gives l history side (event.Send octets) p
steps_plain l history (Pass side) p = passes l history side (waiting_of l side) p
steps_plain l history (Change side change) p =
    let a : List (List ℕ) × List DrillOutcome = change_first change (waiting_of l side) in
    more_plain (with_waiting l side a.0) history (map (at_end side) a.1) (plain_at side a.1 (plain_changes change (waiting_of l side))) (waits l history side a.0 p)
steps_plain l history (Take side) p = gives l history side event.Take p
steps_plain l history (Release side sub) p = onto_plain l history (at_end side (UserReleased sub) ∷ []) side (event.Release sub) (tt, tt) p
steps_plain l history (Tick moment) p =
    let m : Link = record l { moment = max l.moment moment } in
    let now : IsPlainLink m history = record { e = p.e; r = p.r; e_is = p.e_is; r_is = p.r_is; plain = p.plain } in
    let a : Link × List Occurrence = give m E event.Tick in
    let b : Link × List Occurrence = give a.0 R event.Tick in
    subst (λ (h : List Occurrence). IsPlainLink b.0 h) (append_assoc history a.1 b.1) (gives a.0 (history ++ a.1) R event.Tick (gives m history E event.Tick now))

-- ---- a world

abbrev Accepts : Link → List Occurrence → Type 0
Accepts l history = (engine rbc : ℕ) (ke : TripleKey) (kr : Option TripleKey) (ra rb : ℕ) → l.opening ≡ OfStacks engine rbc ke kr ra rb → IsPlainLink l history

opens_plain : (settings : Settings) (moment : ℕ) (opening : LinkOpening) → Accepts (opened_link settings moment opening).0 (opened_link settings moment opening).1
opens_plain settings moment (OfPair (OfFixed of_e of_r k1 k2)) engine rbc ke kr ra rb is = absurd cc
opens_plain settings moment (OfPair (OfKeys of_e of_r k1 k2 n1 n2)) engine rbc ke kr ra rb is = absurd cc
opens_plain settings moment (OfStations selective) engine rbc ke kr ra rb is = absurd cc
opens_plain settings moment (OfStacks of_e of_r k1 k2 n1 n2) engine rbc ke kr ra rb is =
    gives
    (link_of (OfStacks of_e of_r k1 k2 n1 n2) moment (OfStack (stacks.opened (stacks.Call settings of_e of_r k1 n2 moment))) (OfStack (stacks.opened (stacks.Answer settings of_r n1 moment))))
    [] E Start
    (record {
      e = stacks.opened (stacks.Call settings of_e of_r k1 n2 moment);
      r = stacks.opened (stacks.Answer settings of_r n1 moment);
      e_is = refl;
      r_is = refl;
      plain = tt;
    })

pub stacks_accept : FactsGrow → HistoryGrows → HistoryOfOwn → HistoryOfOther → StacksAccept
stacks_accept facts grow own elsewhere plan steps n l at engine rbc ke kr ra rb is side =
    let history : List Occurrence = history_on n (world_run plan steps).1 in
    let keeps : Keeps plan.settings (λ o. Unit {0}) (λ s. Unit {0}) Accepts =
    record {
      opens = λ moment opening fit. opens_plain plan.settings moment opening;
      steps = λ k before s fit h a b c d e f e_is. steps_plain k before s (h a b c d e f (sym (step_opening facts k s) ∙ e_is));
      others = λ s none. tt;
    } in
    let here : AtPlace Accepts (Some l) history =
    subst (λ (x : Option Link). AtPlace Accepts x history) at (world_lives grow own elsewhere plan (λ x. Unit {0}) (λ x. Unit {0}) Accepts keeps steps (any_steps plan steps) n) in
    accepted_by_facts side history (here engine rbc ke kr ra rb is).plain
