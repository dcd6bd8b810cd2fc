-- What a relay answers has its cause in its acts: from its deeds to them.
use Rattle.std.proofs.Common.{◌≡◌, ℕ, List, [], ◌∷◌, ◌++◌, refl, sym, ap, ◌∙◌, subst, append-nil, Result, Ok, Err}
use Rattle.std.proofs.lemmas.List.Concat.{flat_map-append}
use Rattle.outside.specs.Acts.{SeenCall, Act}
use Rattle.outside.specs.Doings.{Told}
use Rattle.outside.specs.Scripts.{printing}
use Rattle.relay_script.specs.declared.script.Script.{Script}
use Rattle.relay_loop.specs.declared.fault.RelayFault.{RelayFault}
use Rattle.relay_loop.specs.declared.fault.RelayFault.TheVariants as fault
use Rattle.relay_loop.specs.RelayLines.{text_of_line}
use Rattle.relay_loop.specs.RelayDeeds.{RelayDeed, Puts, Flushes, Calls, Asks, acts_from, loop_calls_in}
use Rattle.relay_loop.specs.Endings.{loop_call, loop_call_by_act, loop_calls_in_acts, EndsCalls, NoneSank, EndsWrites, EndsByCause}
use Rattle.relay_loop.specs.Rings.{IsLastOf, EndsRun}

-- ---- the acts of deeds

printing_calls : (text : List ℕ) (acts : List Act) → loop_calls_in_acts (printing text ++ acts) ≡ loop_calls_in_acts acts
printing_calls [] acts = refl
printing_calls (octet ∷ octets) acts = refl

acts_calls : (waiting : List ℕ) (deeds : List RelayDeed) → loop_calls_in_acts (acts_from waiting deeds) ≡ loop_calls_in deeds
unfolding acts_from
acts_calls waiting [] = refl
acts_calls waiting (Puts line ∷ deeds) = acts_calls (waiting ++ text_of_line line) deeds
acts_calls waiting (Flushes ∷ deeds) = printing_calls waiting (acts_from [] deeds) ∙ acts_calls [] deeds
acts_calls waiting (Calls call ∷ deeds) = ap (λ (c : List SeenCall). loop_call call ++ c) (acts_calls waiting deeds)
acts_calls waiting (Asks moment ∷ deeds) = acts_calls waiting deeds

printing_sinks : (text : List ℕ) (acts : List Act) → NoneSank acts → NoneSank (printing text ++ acts)
printing_sinks [] acts none = none
printing_sinks (octet ∷ octets) acts none = none

-- no line's write failed before the last act
acts_sink : (waiting : List ℕ) (deeds : List RelayDeed) → NoneSank (acts_from waiting deeds)
unfolding acts_from
acts_sink waiting [] = refl
acts_sink waiting (Puts line ∷ deeds) = acts_sink (waiting ++ text_of_line line) deeds
acts_sink waiting (Flushes ∷ deeds) = printing_sinks waiting (acts_from [] deeds) (acts_sink [] deeds)
acts_sink waiting (Calls call ∷ deeds) = acts_sink waiting deeds
acts_sink waiting (Asks moment ∷ deeds) = acts_sink waiting deeds

-- ---- what was done last

last_calls : {T : Type 0} (result : Result T RelayFault) (last : List Act) → IsLastOf result last → loop_calls_in_acts last ≡ []
last_calls (Ok value) last is = rw is refl
last_calls (Err fault.Wires) last is = rw is refl
last_calls (Err fault.Sink) last is = rw is.1 refl
last_calls (Err (fault.NoMemory want)) last is = rw is refl

calls_are : {T : Type 0} (result : Result T RelayFault) (deeds : List RelayDeed) (last : List Act) → IsLastOf result last
    → loop_calls_in_acts (acts_from [] deeds ++ last) ≡ loop_calls_in deeds
calls_are result deeds last is =
    flat_map-append loop_call_by_act (acts_from [] deeds) last ∙ rw (last_calls result last is, acts_calls [] deeds) (append-nil (loop_calls_in deeds))

none_sank : (deeds : List RelayDeed) (last : List Act) → last ≡ [] → NoneSank (acts_from [] deeds ++ last)
none_sank deeds last is = rw (is, append-nil (acts_from [] deeds)) (acts_sink [] deeds)

ends_writes : {T : Type 0} (result : Result T RelayFault) (deeds : List RelayDeed) (last : List Act) → IsLastOf result last
    → EndsWrites result (acts_from [] deeds ++ last)
ends_writes (Ok value) deeds last is = none_sank deeds last is
ends_writes (Err fault.Wires) deeds last is = none_sank deeds last is
ends_writes (Err fault.Sink) deeds last is = record {
  front = acts_from [] deeds;
  piece = is.0;
  are = ap (λ (o : List Act). acts_from [] deeds ++ o) is.1;
  none = acts_sink [] deeds;
}
ends_writes (Err (fault.NoMemory want)) deeds last is = none_sank deeds last is

pub ends_by_cause : {T : Type 0} (result : Result T RelayFault) (listen : List ℕ) (turns : ℕ) (script : Script) (dial : List ℕ) (first now : Told)
    → EndsRun result listen turns script dial first now → EndsByCause result listen turns first now
ends_by_cause result listen turns script dial first now r = record {
  acts = acts_from [] r.deeds ++ r.last;
  did = r.did;
  calls = subst (λ (c : List SeenCall). EndsCalls result listen turns c) (sym (calls_are result r.deeds r.last r.is_last)) r.calls;
  writes = ends_writes result r.deeds r.last r.is_last;
}
