-- Contract: the events that are given to an end, and all that came of one.
use Rattle.std.specs.Prelude.{ℕ, ◌≡◌, List, [], ◌∷◌, ◌++◌, Option, Some, None, option_map}
use Rattle.er_end_model.specs.Outcomes.{Outcome, Taken, NothingToTake, Refused}
use Rattle.er_end_model.specs.Steps.{Finds, if_connected, if_accepted, if_released, if_octets}
use Rattle.er_end_model.specs.Ends as of
use Rattle.er_end.specs.declared.deeds.Deeds.{Deeds}
use Rattle.er_end.specs.declared.deeds.SendRefused.{SendRefused}
use Rattle.er_end.specs.declared.event.Event.{Event}
use Rattle.er_end.specs.declared.event.Event.TheVariants as event
use Rattle.er_end.specs.declared.event.Taking.{Taking}
use Rattle.er_end.specs.declared.event.Taking.TheVariants as taking
use Rattle.er_end.specs.declared.event.Effects.{Effects}
use Rattle.er_end.specs.declared.end.Done.{Done}
use Rattle.er_end.specs.declared.end.Done.TheVariants as done
use Rattle.er_end.specs.KeptEnds.{KEnd, used_of, told_by}
use Rattle.er_end.specs.Shown.{refusal_view}

-- the event of the end model, with how KMACs are looked up
abbrev pub model_event_of : Finds → Event → of.Event
model_event_of finds event.Start = of.Start
model_event_of finds (event.Octets octets) = of.Come finds octets.now
model_event_of finds (event.Send user) = of.Send user.now
model_event_of finds event.Take = of.Take
model_event_of finds (event.Release sub) = of.Leave sub
model_event_of finds event.Tick = of.Tick
model_event_of finds event.Ended = of.Ended
model_event_of finds event.Fault = of.Fault
model_event_of finds event.Stalled = of.Stalled

-- how many octets of an event are used
abbrev pub used_by : KEnd → Event → ℕ
used_by k event.Start = 0
used_by k (event.Octets octets) = used_of k octets.now
used_by k (event.Send user) = 0
used_by k event.Take = 0
used_by k (event.Release sub) = 0
used_by k event.Tick = 0
used_by k event.Ended = 0
used_by k event.Fault = 0
used_by k event.Stalled = 0

-- ---- what came of it, as the outcomes of the end model

abbrev pub if_refused : Option SendRefused → List Outcome
if_refused None = []
if_refused (Some refused) = Refused (refusal_view refused) ∷ []

abbrev pub taking_told : Taking → List Outcome
taking_told taking.NotAsked = []
taking_told taking.Nothing = NothingToTake ∷ []
taking_told (taking.Message message) = Taken message.now ∷ []

abbrev pub outcomes_of_deeds : Deeds → List Outcome
outcomes_of_deeds d = if_connected d.connected ++ if_accepted (option_map (λ m. m.now) d.accepted) ++ if_released d.released ++ if_octets d.out.now

abbrev pub outcomes_in : Effects → List Outcome
outcomes_in e = if_refused e.refused ++ taking_told e.taken ++ outcomes_of_deeds e.deeds

-- ---- an event, before anything is lent of it

-- the outcomes that are told at an end which was kept so before the event and is so now, by how the event was done
abbrev pub TellsEndOutcomes : Done → Event → List Outcome → KEnd → KEnd → Type 0
TellsEndOutcomes (done.Used used) event outcomes old now = (outcomes ≡ told_by now) × (used ≡ used_by old event)
TellsEndOutcomes (done.Refused refused) event outcomes old now = (outcomes ≡ Refused (refusal_view refused) ∷ []) × (used_by old event ≡ 0)
TellsEndOutcomes done.Nothing event outcomes old now = (outcomes ≡ NothingToTake ∷ told_by now) × (used_by old event ≡ 0)
TellsEndOutcomes done.Took event outcomes old now = (outcomes ≡ Taken now.core.upper.inbox.last ∷ told_by now) × (used_by old event ≡ 0)
