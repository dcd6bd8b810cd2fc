-- What came of an event at an end, read off its outcomes: they have at most one of each kind.
use Rattle.std.proofs.Common.{◌≡◌, ℕ, List, [], ◌∷◌, ◌++◌, Option, Some, None, refl, ap}
use Rattle.std.specs.Option.{option_map}
use Rattle.er_base.specs.declared.release.Release.{Release}
use Rattle.er_end_model.specs.Outcomes.{Outcome, SendRefusal, ConnectedTo, Accepted, Taken, NothingToTake, Refused, WasReleased, Octets}
use Rattle.er_end_model.specs.Stacks.{Ops, Stack}
use Rattle.er_end_model.specs.Steps.{if_connected, if_accepted, if_released, if_octets, if_taken, outcomes_of}
use Rattle.er_end_model.specs.Ends.{refusal_or_outcomes}
use Rattle.drill_model.specs.StackEnds.{told_of_take}
use Rattle.er_end.specs.declared.deeds.SendRefused.{SendRefused}
use Rattle.er_end.specs.declared.event.Taking.{Taking}
use Rattle.er_end.specs.declared.event.Taking.TheVariants as taking
use Rattle.er_end.specs.declared.event.Effects.{Effects}
use Rattle.er_end.specs.Shown.{refusal_view}
use Rattle.er_end.specs.Given.{taking_told, outcomes_in}
use Rattle.er_end.specs.Given as code
use Rattle.drill_ends.specs.Tellings.{AreTold}
use Rattle.drill_ends.specs.StackEnds.{told_taken}

-- what outcomes have of each kind, but for messages that were accepted and octets
pub record Parts : Type 0 where
  pub refused : Option SendRefusal
  pub taken : Option (Option (List ℕ))
  pub connected : Option ℕ
  pub released : Option Release

abbrev pub parts : List Outcome → Parts
parts [] = record { refused = None; taken = None; connected = None; released = None }
parts (ConnectedTo peer ∷ os) = record (parts os) { connected = Some peer }
parts (Accepted message ∷ os) = parts os
parts (Taken message ∷ os) = record (parts os) { taken = Some (Some message) }
parts (NothingToTake ∷ os) = record (parts os) { taken = Some None }
parts (Refused refusal ∷ os) = record (parts os) { refused = Some refusal }
parts (WasReleased why ∷ os) = record (parts os) { released = Some why }
parts (Octets octets ∷ os) = parts os

abbrev pub deeds_alone : Option ℕ → Option Release → Parts
deeds_alone connected released = record { refused = None; taken = None; connected = connected; released = released }

-- ---- of outcomes

of_octets : (octets : List ℕ) → parts (if_octets octets) ≡ deeds_alone None None
of_octets [] = refl
of_octets (x ∷ xs) = refl

of_release : (why : Option Release) (octets : List ℕ) → parts (if_released why ++ if_octets octets) ≡ deeds_alone None why
of_release None octets = of_octets octets
of_release (Some why) octets = ap (λ (p : Parts). record p { released = Some why }) (of_octets octets)

of_message : (message : Option (List ℕ)) (why : Option Release) (octets : List ℕ)
    → parts (if_accepted message ++ if_released why ++ if_octets octets) ≡ deeds_alone None why
of_message None why octets = of_release why octets
of_message (Some message) why octets = of_release why octets

of_deeds : (peer : Option ℕ) (message : Option (List ℕ)) (why : Option Release) (octets : List ℕ)
    → parts (if_connected peer ++ if_accepted message ++ if_released why ++ if_octets octets) ≡ deeds_alone peer why
of_deeds None message why octets = of_message message why octets
of_deeds (Some peer) message why octets = ap (λ (p : Parts). record p { connected = Some peer }) (of_message message why octets)

pub of_outcomes : {S U : Type 0} (o : Ops S U) (x : Stack S U) → parts (outcomes_of o x) ≡ deeds_alone x.connected x.leaves
of_outcomes o x = of_deeds x.connected (o.news x.upper) x.leaves (o.written x.line)

pub of_take : {S U : Type 0} (o : Ops S U) (oldest : Option (List ℕ)) (x : Stack S U)
    → parts (if_taken oldest ++ outcomes_of o x) ≡ record (deeds_alone x.connected x.leaves) { taken = Some oldest }
of_take o None x = ap (λ (p : Parts). record p { taken = Some None }) (of_outcomes o x)
of_take o (Some message) x = ap (λ (p : Parts). record p { taken = Some (Some message) }) (of_outcomes o x)

pub of_send : {S U : Type 0} (o : Ops S U) (refusal : Option SendRefusal) (x : Stack S U) → (parts (refusal_or_outcomes refusal (outcomes_of o x))).refused ≡ refusal
of_send o None x = ap (λ (p : Parts). p.refused) (of_outcomes o x)
of_send o (Some refusal) x = refl

-- ---- of effects

abbrev pub taken_by : Taking → Option (Option (List ℕ))
taken_by taking.NotAsked = None
taken_by taking.Nothing = Some None
taken_by (taking.Message message) = Some (Some message.now)

abbrev pub parts_by : Effects → Parts
parts_by e = record {
  refused = option_map refusal_view e.refused;
  taken = taken_by e.taken;
  connected = e.deeds.connected;
  released = e.deeds.released;
}

of_taking : (t : Taking) (os : List Outcome) (peer : Option ℕ) (why : Option Release) → parts os ≡ deeds_alone peer why
    → parts (taking_told t ++ os) ≡ record (deeds_alone peer why) { taken = taken_by t }
of_taking taking.NotAsked os peer why is = is
of_taking taking.Nothing os peer why is = ap (λ (p : Parts). record p { taken = Some None }) is
of_taking (taking.Message message) os peer why is = ap (λ (p : Parts). record p { taken = Some (Some message.now) }) is

of_refusal : (r : Option SendRefused) (t : Taking) (os : List Outcome) (peer : Option ℕ) (why : Option Release) → parts os ≡ deeds_alone peer why
    → parts (code.if_refused r ++ taking_told t ++ os) ≡ record { refused = option_map refusal_view r; taken = taken_by t; connected = peer; released = why }
of_refusal None t os peer why is = of_taking t os peer why is
of_refusal (Some r) t os peer why is = ap (λ (p : Parts). record p { refused = Some (refusal_view r) }) (of_taking t os peer why is)

pub of_effects : (e : Effects) → parts (outcomes_in e) ≡ parts_by e
of_effects e =
    of_refusal e.refused e.taken (code.outcomes_of_deeds e.deeds) e.deeds.connected e.deeds.released
    (of_deeds e.deeds.connected (option_map (λ m. m.now) e.deeds.accepted) e.deeds.released e.deeds.out.now)

-- ---- what is told of a take

pub none_taken : (t : Taking) → taken_by t ≡ None → told_taken t ≡ []
none_taken taking.NotAsked is = refl
none_taken taking.Nothing is = absurd cc
none_taken (taking.Message message) is = absurd cc

pub none_told : (t : Taking) → taken_by t ≡ None → AreTold [] (told_taken t)
none_told t is = rw (none_taken t is) tt

pub taken_told : (t : Taking) (oldest : Option (List ℕ)) → taken_by t ≡ Some oldest → AreTold (told_of_take oldest) (told_taken t)
taken_told taking.NotAsked oldest is = absurd cc
taken_told taking.Nothing None is = (refl, tt)
taken_told taking.Nothing (Some message) is = absurd cc
taken_told (taking.Message taken) None is = absurd cc
taken_told (taking.Message taken) (Some message) is = let same : taken.now ≡ message = cc in rw same (refl, tt)
