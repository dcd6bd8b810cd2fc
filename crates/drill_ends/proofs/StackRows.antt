-- What an end of level full does at an event that gives no octets.
use Rattle.std.proofs.Common.{◌≡◌, ℕ, ◌≤◌, List, [], ◌∷◌, ◌++◌, Option, Some, None, refl, sym, ap, ◌∙◌, subst, append_assoc, arith}
use Rattle.std.specs.Prelude.{max}
use Rattle.std.specs.Option.{option_map}
use Rattle.er_end_model.specs.Outcomes.{SendRefusal}
use Rattle.er_end_model.specs.Layers.{Core, model}
use Rattle.er_end_model.specs.Steps.{new_event, new_event_at, refusal_of, on_start, on_send, step_send_unless, on_take, step_take, on_release, on_tick, step_tick, outcomes_of}
use Rattle.er_end_model.specs.Ends.{End as Stack, Event, Start, Send, Take, Leave, Tick, step_event, refusal_or_outcomes, finds_expired}
use Rattle.drill_model.specs.Outcomes.{DrillOutcome}
use Rattle.drill_model.specs.StackEnds.{outcomes_told_by_stack, stack_start, told_unless, stack_send, told_of_take, stack_take, stack_release, stack_tick}
use Rattle.drill_model.specs.StackReports.{ReportsAt, IsOrderly, CallsReport}
use Rattle.er_end.specs.declared.deeds.SendRefused.{SendRefused}
use Rattle.er_end.specs.declared.event.Effects.{Effects}
use Rattle.er_end.specs.KeptEnds.{KEnd, kept_end_behind_event, tells}
use Rattle.er_end.specs.Shown.{refusal_view}
use Rattle.er_end.specs.Standing.{EndStands, StepsAlike, event_of}
use Rattle.er_end.specs.Given.{outcomes_in}
use Rattle.drill_ends.specs.declared.told.Told.{Told}
use Rattle.drill_ends.specs.declared.told.Told.TheVariants as told
use Rattle.drill_ends.specs.declared.refusal.Refusal.{Refusal}
use Rattle.drill_ends.specs.Refusals.{shown_refusal}
use Rattle.drill_ends.specs.Tellings.{AreTold}
use Rattle.drill_ends.specs.KeptStacks.{StandsStack}
use Rattle.drill_ends.specs.StackEnds.{told_taken, TellsCall, StackDid, StackDoes}
use Rattle.drill_ends.proofs.StationCalls.{told_append}
use Rattle.drill_ends.proofs.StationRows.{expired_told}
use Rattle.drill_ends.proofs.StackMoments.{starts_see, sends_see, uses_see, leaves_see, ticks_see, same_begun}
use Rattle.drill_ends.proofs.StackEffects.{Parts, deeds_alone, parts, parts_by, of_outcomes, of_take, of_send, of_effects, none_told, taken_told}
use Rattle.drill_ends.proofs.StackTells.{Tells, call_tells}

abbrev latest : ℕ
latest = 1000000000000000

max_most : (a b c : ℕ) → a ≤ latest → b ≤ latest → c ≡ max a b → c ≤ latest
max_most a b c x y is = omega (arith, x, y, is)

-- the event was this one, and these are all its outcomes
pub record Happened (old new : KEnd) (now : ℕ) (e : Effects) (event : Event) : Type 0 where
  pub is : new ≡ kept_end_behind_event now event old
  pub told : outcomes_in e ≡ tells now event old

module _ (steps : StepsAlike) (calls : CallsReport) (old new : KEnd) (now : ℕ) (low : now ≤ latest) (e : Effects) where
  -- as it is at the model
  seen : (event : Event) (m : Stack) → Happened old new now e event → EndStands old m
      → EndStands new (step_event now (event_of old event) m).0 × (parts_by e ≡ parts (step_event now (event_of old event) m).1)
  seen event m h stands =
      let alike = steps now event old m stands in (
        subst (λ (k : KEnd). EndStands k (step_event now (event_of old event) m).0) (sym h.is) alike.0,
        sym (of_effects e) ∙ ap parts (h.told ∙ alike.1),
      )

  -- the model refuses as the code does
  refused_here : (user : List ℕ) (m : Stack) (s : StandsStack old m) → Happened old new now e (Send user) → option_map refusal_view e.refused ≡ refusal_of model user s.at.core
  refused_here user m s h =
      let refusal : Option SendRefusal = refusal_of model user s.at.core in
      ap (λ (p : Parts). p.refused) (seen (Send user) s.at h s.stands).1 ∙ of_send model refusal (step_send_unless model refusal now user s.at.core)

  module _ (before between after : List Told) (grew : between ≡ before ++ told_taken e.taken) (t : TellsCall new e.deeds.connected e.deeds.released between after) where
    -- a stack that went on by a step at whose core the event began, and what it told
    led : (m : Stack) (s : StandsStack old m) (g : Core → Core) (taken : Option (Option (List ℕ))) (outs : List DrillOutcome)
        → EndStands new (record (s.at) { core = g (new_event_at model now s.at.core) })
        → IsOrderly (g (new_event_at model now s.at.core)) × ReportsAt (g (new_event_at model now s.at.core))
        → (g (new_event_at model now s.at.core)).moment ≡ max s.at.core.moment now
        → parts_by e ≡ record (deeds_alone (g (new_event_at model now s.at.core)).connected (g (new_event_at model now s.at.core)).leaves) { taken = taken }
        → AreTold outs (told_taken e.taken)
        → StackDid new before after (record m { core = g (new_event_at model now m.core) }, outs ++ outcomes_told_by_stack (g (new_event_at model now m.core)))
    led m s g taken outs stands good sees is first =
        let n : Stack = record (s.at) { core = g (new_event_at model now s.at.core) } in
        let begun : new_event_at model now s.at.core ≡ new_event_at model now m.core = same_begun now s.at.core m.core s.same in
        let rest : Tells n.core between after =
        call_tells new n e.deeds.connected e.deeds.released between after stands good.1 (ap (λ (p : Parts). p.connected) is) (ap (λ (p : Parts). p.released) is) t in
        record {
          stands = record {
            at = n;
            stands = stands;
            stream = s.stream;
            same = ap (λ (y : Core). new_event model (g y)) begun;
            orderly = good.0;
            moment = max_most s.at.core.moment now n.core.moment s.moment low sees;
          };
          list = told_taken e.taken ++ rest.list;
          grew = rest.grew ∙ ap (λ (ts : List Told). ts ++ rest.list) grew ∙ append_assoc before (told_taken e.taken) rest.list;
          told = subst (λ (y : Core). AreTold (outs ++ outcomes_told_by_stack (g y)) (told_taken e.taken ++ rest.list)) begun
              (told_append outs (outcomes_told_by_stack n.core) (told_taken e.taken) rest.list first rest.told);
        }

    -- no message was asked for
    plain : (m : Stack) (s : StandsStack old m) (g : Core → Core)
        → EndStands new (record (s.at) { core = g (new_event_at model now s.at.core) })
        → IsOrderly (g (new_event_at model now s.at.core)) × ReportsAt (g (new_event_at model now s.at.core))
        → (g (new_event_at model now s.at.core)).moment ≡ max s.at.core.moment now
        → parts_by e ≡ parts (outcomes_of model (g (new_event_at model now s.at.core)))
        → StackDid new before after (record m { core = g (new_event_at model now m.core) }, outcomes_told_by_stack (g (new_event_at model now m.core)))
    plain m s g stands good sees told =
        let is : parts_by e ≡ deeds_alone (g (new_event_at model now s.at.core)).connected (g (new_event_at model now s.at.core)).leaves =
        told ∙ of_outcomes model (g (new_event_at model now s.at.core)) in
        led m s g None [] stands good sees is (none_told e.taken (ap (λ (p : Parts). p.taken) is))

    pub starts_so : Happened old new now e Start → StackDoes old new before after (stack_start now)
    starts_so h m s =
        let a = seen Start s.at h s.stands in
        plain m s (on_start model) a.0 ((calls s.at.core s.orderly).0 now) (starts_see now s.at.core) a.1

    pub releases_so : (sub : ℕ) → Happened old new now e (Leave sub) → StackDoes old new before after (stack_release now sub)
    releases_so sub h m s =
        let a = seen (Leave sub) s.at h s.stands in
        plain m s (on_release model sub) a.0 ((calls s.at.core s.orderly).4 now sub) (leaves_see now sub s.at.core) a.1

    pub ticks_so : Happened old new now e Tick → StackDoes old new before after (stack_tick now)
    ticks_so h m s =
        let a = seen Tick s.at h s.stands in
        let d = plain m s (on_tick model) a.0 ((calls s.at.core s.orderly).5 now) (ticks_see now s.at.core) a.1 in
        record {
          stands = d.stands;
          list = d.list;
          grew = d.grew;
          told = expired_told (finds_expired (new_event_at model now m.core)) (outcomes_told_by_stack (step_tick model now m.core)) d.list d.told;
        }

    pub takes_so : Happened old new now e Take → StackDoes old new before after (stack_take now)
    takes_so h m s =
        let a = seen Take s.at h s.stands in
        let is = a.1 ∙ of_take model (model.oldest s.at.core.upper) (step_take model now s.at.core) in
        led m s (on_take model) (Some (model.oldest s.at.core.upper)) (told_of_take (model.oldest m.core.upper)) a.0 ((calls s.at.core s.orderly).3 now) (uses_see now s.at.core) is
        (taken_told e.taken (model.oldest m.core.upper)
        (ap (λ (p : Parts). p.taken) is ∙ ap (λ (x : Core). Some (model.oldest x.upper)) s.same))

    pub sends_so : (user : List ℕ) → Happened old new now e (Send user) → e.refused ≡ None → StackDoes old new before after (stack_send now user)
    sends_so user h none m s =
        let a = seen (Send user) s.at h s.stands in
        let here : refusal_of model user s.at.core ≡ None = sym (refused_here user m s h) ∙ ap (option_map refusal_view) none in
        let there : refusal_of model user m.core ≡ None = sym (ap (refusal_of model user) s.same) ∙ here in
        let sent = subst (λ (o : Option SendRefusal).
        EndStands new (record (s.at) { core = step_send_unless model o now user s.at.core })
        × (parts_by e ≡ parts (refusal_or_outcomes o (outcomes_of model (step_send_unless model o now user s.at.core))))) here a in
        subst (λ (o : Option SendRefusal). StackDid new before after (record m { core = step_send_unless model o now user m.core }, told_unless o (step_send_unless model o now user m.core)))
        (sym there)
        (plain m s (on_send model user) sent.0 ((calls s.at.core s.orderly).2 now user) (sends_see now user s.at.core) sent.1)

  pub refuses_so : (user : List ℕ) → Happened old new now e (Send user) → (refused : SendRefused) → e.refused ≡ Some refused → (why : Refusal) → shown_refusal why ≡ refusal_view refused
      → (before : List Told) → StackDoes old new before (before ++ told.Refused why ∷ []) (stack_send now user)
  refuses_so user h refused some why shown before m s =
      let here : refusal_of model user s.at.core ≡ Some (shown_refusal why) =
      sym (refused_here user m s h) ∙ ap (option_map refusal_view) some ∙ ap Some (sym shown) in
      let there : refusal_of model user m.core ≡ Some (shown_refusal why) = sym (ap (refusal_of model user) s.same) ∙ here in
      let stands : EndStands new s.at =
      subst (λ (o : Option SendRefusal). EndStands new (record (s.at) { core = step_send_unless model o now user s.at.core })) here (seen (Send user) s.at h s.stands).0 in
      subst (λ (o : Option SendRefusal).
      StackDid new before (before ++ told.Refused why ∷ []) (record m { core = step_send_unless model o now user m.core }, told_unless o (step_send_unless model o now user m.core)))
      (sym there)
      (record {
        stands = record { at = s.at; stands = stands; stream = s.stream; same = s.same; orderly = s.orderly; moment = s.moment };
        list = told.Refused why ∷ [];
        grew = refl;
        told = (record { refused = why; told_is = refl; is = refl }, tt);
      })
