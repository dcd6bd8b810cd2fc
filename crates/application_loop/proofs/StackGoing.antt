-- An end as the code keeps it goes on as the stack's kind of ends says.
use Rattle.std.proofs.Common.{◌≡◌, ◌∙◌, ℕ, List, [], ◌∷◌, ◌++◌, map, Option, Some, None, refl, sym, ap}
use Rattle.des_block.specs.declared.triple_key.TripleKey.{TripleKey}
use Rattle.er_settings.specs.Values.{Settings}
use Rattle.er_end_model.specs.Outcomes.{Outcome}
use Rattle.er_end_model.specs.Steps.{Finds}
use Rattle.er_end_model.specs.Ends.{End, step_event, opened}
use Rattle.er_end_model.specs.Ends as model
use Rattle.er_end.specs.KeptEnds.{KEnd, kept_opened}
use Rattle.er_end.specs.Standing.{StepsAlike, MadeStands, event_of}
use Rattle.trace_model.specs.Printed.{trace_outcome_of}
use Rattle.trace_model.specs.Connections.{goes_on, end_behind_call}
use Rattle.loop_model.specs.Sessions.{Rules, GivenToSession, Begins, Hears, Sends, Takes, Leaves, Ticks, Ends, Faults, Stalls, journal_event_of_given, end_after, outcomes_of_given_event}
use Rattle.loop_model.specs.Sessions as sessions
use Rattle.loop_session.specs.Keeping.{kept_ends}
use Rattle.application_model.specs.Ends.{EventAt}
use Rattle.application_ends.specs.StackEnds.{HeldKeys, befalls_end, befalls_at, stack_end_behind, end_of_events}
use Rattle.application_loop.specs.StackSteps.{IsNoBeginning, LooksUpSo, given_at, KeptGoOnAlike, KeptAnswerAlike, KeptCallAlike}

-- one event more
end_on : (settings : Settings) (held : HeldKeys) (m : Option End) (xs : List EventAt) (x : EventAt)
    → stack_end_behind settings held m (xs ++ x ∷ []) ≡ (befalls_at settings held x.time x.event (stack_end_behind settings held m xs)).0
unfolding stack_end_behind
end_on settings held m [] x = refl
end_on settings held m (y ∷ ys) x = end_on settings held (befalls_at settings held y.time y.event m).0 ys x

-- the event of the recording is that of the model, to an end that is there
same_event : (settings : Settings) (r : Rules) (finds : Finds) (now : ℕ) (k : KEnd) (g : GivenToSession) (m : End) → IsNoBeginning g → LooksUpSo g r finds
    → befalls_end settings finds now (journal_event_of_given kept_ends k g) (Some m)
    ≡ goes_on now (event_of k (sessions.event_of r g)) (Some m)
same_event settings r finds now k (Begins engine rbc rb) m other keys = absurd other
same_event settings r finds now k (Hears octets) m other keys =
    ap (λ (f : Finds). befalls_end settings f now (journal_event_of_given kept_ends k (Hears octets)) (Some m)) (sym keys)
same_event settings r finds now k (Sends text) m other keys = refl
same_event settings r finds now k Takes m other keys = refl
same_event settings r finds now k (Leaves sub) m other keys = refl
same_event settings r finds now k Ticks m other keys = refl
same_event settings r finds now k Ends m other keys = refl
same_event settings r finds now k Faults m other keys = refl
same_event settings r finds now k Stalls m other keys = refl

pub go_on_alike : StepsAlike → KeptGoOnAlike
unfolding end_after outcomes_of_given_event
go_on_alike steps settings held r time events k g other keys behind =
    let m = behind.end in
    let what = journal_event_of_given kept_ends k g in
    let step = steps time.moment (sessions.event_of r g) k m behind.stands in
    let befalls : befalls_at settings held time what (end_of_events settings held events) ≡ goes_on time.moment (event_of k (sessions.event_of r g)) (Some m) =
    ap (befalls_at settings held time what) behind.is
    ∙ same_event settings r (held time.keys) time.moment k g m other keys in
    record {
      tells = ap (map trace_outcome_of) (step.1 ∙ sym (ap (λ (b : Option End × List Outcome). b.1) befalls));
      stands = record {
        end = (step_event time.moment (event_of k (sessions.event_of r g)) m).0;
        is = end_on settings held None events (given_at r time k g) ∙ ap (λ (b : Option End × List Outcome). b.0) befalls;
        stands = step.0;
      };
    }

pub answer_alike : MadeStands → KeptAnswerAlike
unfolding stack_end_behind
answer_alike made settings held time rbc ra allowed =
    record {
      tells = refl;
      stands = record {
        end = opened (model.Answer settings rbc ra time.moment);
        is = refl;
        stands = made (model.Answer settings rbc ra time.moment) allowed;
      };
    }

pub call_alike : MadeStands → StepsAlike → KeptCallAlike
unfolding stack_end_behind end_after outcomes_of_given_event
call_alike made steps settings held r time engine rbc rb kmac allowed found =
    let opening = model.Call settings engine rbc kmac rb time.moment in
    let m = opened opening in
    let step = steps time.moment model.Start (kept_opened opening) m (made opening allowed) in
    let called : end_behind_call settings time.moment engine rbc rb (held time.keys time.moment engine rbc) None ≡ goes_on time.moment model.Start (Some m) =
    ap (λ (o : Option TripleKey). end_behind_call settings time.moment engine rbc rb o None) found in
    record {
      tells = ap (map trace_outcome_of) (step.1 ∙ sym (ap (λ (b : Option End × List Outcome). b.1) called));
      stands = record {
        end = (step_event time.moment model.Start m).0;
        is = ap (λ (b : Option End × List Outcome). b.0) called;
        stands = step.0;
      };
    }
