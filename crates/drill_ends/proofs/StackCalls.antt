-- The calls of a stack, as the code makes them: at the moment that it reads, and with all that came of them.
use Rattle.std.proofs.Common.{◌≡◌, Bor, ℕ, ◌<◌, ◌≤◌, List, [], ◌∷◌, ◌++◌, length, take, Option, Some, None, refl, sym, ap, ◌∙◌, subst, append-nil, arith}
use Rattle.std.specs.Option.{option_map}
use Rattle.hdlc_frames.specs.Laws.{KeptStandsForStream, StreamGoesOn}
use Rattle.safety_automaton.specs.Keys.{KmacEntry, key_at}
use Rattle.er_end_model.specs.Outcomes.{Outcome}
use Rattle.er_end_model.specs.Steps.{if_taken}
use Rattle.er_end_model.specs.Ends.{End as Stack, Event, Start, Come, Take, Leave, Tick}
use Rattle.drill_model.specs.Ends.{EndAtLevel, EndEvent, OfStack, stack_end_step}
use Rattle.drill_model.specs.Ends as event
use Rattle.drill_model.specs.StackReports.{CallsReport}
use Rattle.drill_model.specs.Outcomes.{DrillOutcome}
use Rattle.er_end.specs.declared.deeds.SendRefused.{SendRefused}
use Rattle.er_end.specs.declared.event.Effects.{Effects}
use Rattle.er_end.specs.Shown.{refusal_view}
use Rattle.er_end.specs.Keeping.{Uses}
use Rattle.er_end.specs.KeptLayers.{kept}
use Rattle.er_end.specs.KeptEnds.{KEnd, used_of, kept_end_behind_event, told_by, tells}
use Rattle.er_end.specs.Standing.{StepsAlike}
use Rattle.er_end.specs.Given.{outcomes_in}
use Rattle.drill_ends.specs.declared.told.Told.{Told}
use Rattle.drill_ends.specs.declared.told.Told.TheVariants as told
use Rattle.drill_ends.specs.declared.refusal.Refusal.{Refusal}
use Rattle.drill_ends.specs.declared.end_event.EndEvent.{EndEvent as CodeEvent}
use Rattle.drill_ends.specs.declared.end_event.EndEvent.TheVariants as given
use Rattle.drill_ends.specs.declared.drill_end.DrillEnd.TheVariants as code
use Rattle.drill_ends.specs.Events.{event_of}
use Rattle.drill_ends.specs.KeptEnds.{EndWent}
use Rattle.drill_ends.specs.Tellings.{AreTold}
use Rattle.drill_ends.specs.Keys.{AreKeysSteady}
use Rattle.drill_ends.specs.Refusals.{shown_refusal}
use Rattle.drill_ends.specs.StackEnds.{told_taken, TellsCall, StackDoes, StackReads, StackAnswers, stack_event, octets_of_event, used_at, stack_moves, StackTells}
use Rattle.drill_ends.proofs.StackEffects.{Parts, parts, of_outcomes, of_take, of_effects, none_taken}
use Rattle.drill_ends.proofs.StackRows.{Happened, starts_so, sends_so, refuses_so, takes_so, releases_so, ticks_so}
use Rattle.drill_ends.proofs.StackOctets.{call_reads}

abbrev latest : ℕ
latest = 1000000000000000

-- ---- how many octets

most_used : Uses → (k : KEnd) (event : EndEvent) → used_at k event ≤ length (octets_of_event event)
most_used uses k event.Start = omega arith
most_used uses k (event.Receive octets) = uses.most k octets
most_used uses k (event.Send user) = omega arith
most_used uses k event.Take = omega arith
most_used uses k (event.Release sub) = omega arith
most_used uses k event.Tick = omega arith

some_used : Uses → (k : KEnd) (event : EndEvent) → 0 < length (octets_of_event event) → 0 < used_at k event
some_used uses k event.Start some = absurd (omega (arith, some))
some_used uses k (event.Receive []) some = absurd (omega (arith, some))
some_used uses k (event.Receive (octet ∷ octets)) some = omega (arith, uses.one k octet octets)
some_used uses k (event.Send user) some = absurd (omega (arith, some))
some_used uses k event.Take some = absurd (omega (arith, some))
some_used uses k (event.Release sub) some = absurd (omega (arith, some))
some_used uses k event.Tick some = absurd (omega (arith, some))

pub used_within : Uses → (k : KEnd) (event : EndEvent) (used : ℕ) → used ≡ used_at k event → used ≤ length (octets_of_event event)
used_within uses k event used is = subst (λ (n : ℕ). n ≤ length (octets_of_event event)) (sym is) (most_used uses k event)

pub used_moves : Uses → (k : KEnd) (event : EndEvent) (used : ℕ) → used ≡ used_at k event → 0 < length (octets_of_event event) → 0 < used
used_moves uses k event used is some = subst (λ (n : ℕ). 0 < n) (sym is) (some_used uses k event some)

-- ---- one call

-- only a send is refused
none_refused : (e : Effects) (outcomes : List Outcome) (refused : SendRefused) → outcomes_in e ≡ outcomes → (parts outcomes).refused ≡ None → e.refused ≡ Some refused → ⊥
none_refused e outcomes refused told none some =
    let refusal : Some (refusal_view refused) ≡ None =
    sym (ap (option_map refusal_view) some) ∙ ap (λ (p : Parts). p.refused) (sym (of_effects e) ∙ ap parts told) ∙ none in
    cc

deeds_refused : (e : Effects) (k : KEnd) (refused : SendRefused) → outcomes_in e ≡ told_by k → e.refused ≡ Some refused → ⊥
deeds_refused e k refused told some = none_refused e (told_by k) refused told (ap (λ (p : Parts). p.refused) (of_outcomes kept k.core)) some

module _ (steps : StepsAlike) (calls : CallsReport) (goes_on : StreamGoesOn) (kept_law : KeptStandsForStream) (keys : List KmacEntry) (steady : AreKeysSteady keys)
    (old new : KEnd) (now : ℕ) (low : now ≤ latest) (e : Effects) where
  abbrev Gave : EndEvent → Type 0
  Gave event = Happened old new now e (stack_event (key_at keys) event)

  refused_so : (event : EndEvent) → Gave event → (refused : SendRefused) → e.refused ≡ Some refused → (why : Refusal) → shown_refusal why ≡ refusal_view refused
      → (before : List Told) → StackTells keys now old event e.used new before (before ++ told.Refused why ∷ [])
  refused_so event.Start h refused some why shown before = absurd (deeds_refused e (kept_end_behind_event now Start old) refused h.told some)
  refused_so (event.Receive octets) h refused some why shown before = absurd (deeds_refused e (kept_end_behind_event now (Come (key_at keys) octets) old) refused h.told some)
  refused_so (event.Send user) h refused some why shown before = refuses_so steps calls old new now low e user h refused some why shown before
  refused_so event.Take h refused some why shown before =
      let k : KEnd = kept_end_behind_event now Take old in
      let oldest : Option (List ℕ) = kept.oldest old.core.upper in
      absurd (none_refused e (if_taken oldest ++ told_by k) refused h.told (ap (λ (p : Parts). p.refused) (of_take kept oldest k.core)) some)
  refused_so (event.Release sub) h refused some why shown before = absurd (deeds_refused e (kept_end_behind_event now (Leave sub) old) refused h.told some)
  refused_so event.Tick h refused some why shown before = absurd (deeds_refused e (kept_end_behind_event now Tick old) refused h.told some)

  module _ (before between after : List Told) (grew : between ≡ before ++ told_taken e.taken) (t : TellsCall new e.deeds.connected e.deeds.released between after) where
    reads_so : (octets : List ℕ) → Gave (event.Receive octets) → StackReads keys now old (take (used_of old octets) octets) new before after
    reads_so octets h =
        let k : KEnd = kept_end_behind_event now (Come (key_at keys) octets) old in
        let is = sym (of_effects e) ∙ ap parts h.told ∙ of_outcomes kept k.core in
        let none : between ≡ before =
        grew ∙ ap (λ (ts : List Told). before ++ ts) (none_taken e.taken (ap (λ (p : Parts). p.taken) is)) ∙ append-nil before in
        call_reads steps calls goes_on keys steady now low kept_law old new octets e.deeds.connected e.deeds.released before after h.is
        (ap (λ (p : Parts). p.connected) is ∙ sym (ap (λ (x : KEnd). x.core.connected) h.is))
        (ap (λ (p : Parts). p.released) is ∙ sym (ap (λ (x : KEnd). x.core.leaves) h.is))
        (subst (λ (ts : List Told). TellsCall new e.deeds.connected e.deeds.released ts after) none t)

    done_so : (event : EndEvent) → Gave event → e.used ≡ used_at old event → e.refused ≡ None → StackTells keys now old event e.used new before after
    done_so event.Start h used none = starts_so steps calls old new now low e before between after grew t h
    done_so (event.Receive octets) h used none =
        subst (λ (n : ℕ). StackReads keys now old (take n octets) new before after) (sym used) (reads_so octets h)
    done_so (event.Send user) h used none = sends_so steps calls old new now low e before between after grew t user h none
    done_so event.Take h used none = takes_so steps calls old new now low e before between after grew t h
    done_so (event.Release sub) h used none = releases_so steps calls old new now low e before between after grew t sub h
    done_so event.Tick h used none = ticks_so steps calls old new now low e before between after grew t h

-- a send that no refusal stands for wasn't refused
never_refused : (o : Option SendRefused) → ((refused : SendRefused) → o ≡ Some refused → ⊥) → o ≡ None
never_refused None none = refl
never_refused (Some refused) none = absurd (none refused refl)

-- at the moment that the code reads, and of what the code gave
module _ (steps : StepsAlike) (calls : CallsReport) (goes_on : StreamGoesOn) (kept_law : KeptStandsForStream) (keys : List KmacEntry) (steady : AreKeysSteady keys)
    (old new : KEnd) (n now : ℕ) (at : n ≡ now) (low : n ≤ latest) (e : Effects) (event : EndEvent) (gave : Event) (gave_is : gave ≡ stack_event (key_at keys) event)
    (is : new ≡ kept_end_behind_event n gave old) (outs : outcomes_in e ≡ tells n gave old) where
  happened : Happened old new n e (stack_event (key_at keys) event)
  happened = subst (Happened old new n e) gave_is (record { is = is; told = outs })

  pub call_refused : (refused : SendRefused) → e.refused ≡ Some refused → (why : Refusal) → shown_refusal why ≡ refusal_view refused → (before after : List Told)
      → after ≡ before ++ told.Refused why ∷ [] → StackTells keys now old event e.used new before after
  call_refused refused some why shown before after grew =
      subst (λ (m : ℕ). StackTells keys m old event e.used new before after) at
      (subst (λ (ts : List Told). StackTells keys n old event e.used new before ts) (sym grew)
      (refused_so steps calls goes_on kept_law keys steady old new n low e event happened refused some why shown before))

  pub call_done : (before between after : List Told) → between ≡ before ++ told_taken e.taken → TellsCall new e.deeds.connected e.deeds.released between after
      → e.used ≡ used_at old event → ((refused : SendRefused) → e.refused ≡ Some refused → ⊥) → StackTells keys now old event e.used new before after
  call_done before between after grew t used none =
      subst (λ (m : ℕ). StackTells keys m old event e.used new before after) at
      (done_so steps calls goes_on kept_law keys steady old new n low e before between after grew t event happened used (never_refused e.refused none))

-- ---- an event

-- one that brings no octets is one call
pub one_does : (keys : List KmacEntry) (now : ℕ) (old new : KEnd) (used : ℕ) (before after : List Told) (event : CodeEvent)
    → ((octets : Bor (List ℕ)) → event ≡ given.Receive octets → ⊥) → StackTells keys now old (event_of event) used new before after
    → StackDoes old new before after (stack_moves keys now (event_of event))
one_does keys now old new used before after given.Start not t = t
one_does keys now old new used before after (given.Receive octets) not t = absurd (not octets refl)
one_does keys now old new used before after (given.Send user) not t = t
one_does keys now old new used before after given.Take not t = t
one_does keys now old new used before after (given.Release sub) not t = t
one_does keys now old new used before after given.Tick not t = t

-- an answer to an event, from what was told to a list that was empty
ends_so : (keys : List KmacEntry) (now : ℕ) (event : EndEvent) (m : Stack)
    → (OfStack (stack_moves keys now event m).0, (stack_moves keys now event m).1) ≡ stack_end_step (key_at keys now) now m event
ends_so keys now event.Start m = refl
ends_so keys now (event.Receive octets) m = refl
ends_so keys now (event.Send user) m = refl
ends_so keys now event.Take m = refl
ends_so keys now (event.Release sub) m = refl
ends_so keys now event.Tick m = refl

pub answers_so : (keys : List KmacEntry) (now : ℕ) (old new : KEnd) (before after : List Told) (event : EndEvent) → before ≡ []
    → StackDoes old new before after (stack_moves keys now event) → StackAnswers keys now old event new after
answers_so keys now old new before after event empty does m h =
    let did = does m h in
    subst (λ (a : EndAtLevel × List DrillOutcome). EndWent (code.Stack new) after a) (ends_so keys now event m)
    (record { stands = did.stands; told = subst (AreTold (stack_moves keys now event m).1) (sym (did.grew ∙ ap (λ (ts : List Told). ts ++ did.list) empty)) did.told })
