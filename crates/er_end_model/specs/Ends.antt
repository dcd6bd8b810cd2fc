-- The end model: an opening and a list of events determine the outcomes (this profile).
use Rattle.std.specs.Prelude.{ℕ, ◌+◌, ◌==◌, Bool, true, false, not, ◌&&◌, ◌||◌, List, [], ◌∷◌, ◌++◌, Option, Some, None, is_some}
use Rattle.er_base.specs.declared.cause.Cause.TheVariants.{LineEnded, LineFailed, LineStalled}
use Rattle.er_settings.specs.Values.{Settings}
use Rattle.des_block.specs.declared.triple_key.TripleKey.{TripleKey}
use Rattle.hdlc_frames.specs.Framing.{Verdict}
use Rattle.hdlc_station_model.specs.Stations.{made}
use Rattle.hdlc_station_model.specs.Events.{is_late, news}
use Rattle.x224_class2.specs.Transport.{side_made}
use Rattle.safety_automaton.specs.Safety.{Safety, initiator, responder}
use Rattle.safety_automaton.specs.Reports as reports
use Rattle.er_end_model.specs.Outcomes.{Outcome, Refused, SendRefusal}
use Rattle.er_end_model.specs.Steps.{Finds, new_event_at, step_start, step_frame, refusal_of, step_send_unless, step_take, step_release, is_spent, step_tick}
use Rattle.er_end_model.specs.Steps.{step_break, outcomes_of, if_taken}
use Rattle.er_end_model.specs.Layers.{Upper, Core, model}

-- how an end is opened: it calls, or it answers; at a moment
pub data Opening : Type 0 where
  -- an engine that calls a radio block centre: its number, the centre's, their KMAC, the engine's random number
  Call : (settings : Settings) (me peer : ℕ) (kmac : TripleKey) (rb : ℕ) (now : ℕ) → Opening
  -- a radio block centre that answers: its number, its random number
  Answer : (settings : Settings) (me ra : ℕ) (now : ℕ) → Opening

pub data Event : Type 0 where
  -- an end that calls is to begin
  Start : Event
  -- octets come from the line; KMACs are looked up so
  Come : (finds : Finds) (octets : List ℕ) → Event
  -- the user sends a message, takes one, releases with a sub-reason
  Send : (user : List ℕ) → Event
  Take : Event
  Leave : (sub : ℕ) → Event
  -- the moment has come
  Tick : Event
  -- the line ended, failed, stalled
  Ended : Event
  Fault : Event
  Stalled : Event

pub record End : Type 0 where
  -- all octets that came
  pub stream : List ℕ
  pub core : Core

-- an upper part that was just made
abbrev pub upper_made : Bool → Settings → Upper
upper_made is_caller settings =
    record { transport = side_made is_caller settings; sent = []; accepted = []; used = 0; news = None; spoke = None }

abbrev pub core_made : Bool → Settings → Safety → ℕ → Core
core_made calls settings side now = record {
  line = made calls (settings.modulo == 128) settings.window settings.n2 settings.t1;
  joined = [];
  upper = upper_made calls settings;
  safe = reports.kept_side_without_texts side;
  limit = now + settings.setup;
  moment = now;
  connected = None;
  leaves = None;
  released = None;
}

abbrev pub opened : Opening → End
opened (Call settings me peer kmac rb now) = record { stream = []; core = core_made true settings (initiator me peer kmac rb) now }
opened (Answer settings me ra now) = record { stream = []; core = core_made false settings (responder me ra) now }

-- ---- timers

-- an end that isn't released finds T1 expired, or the time for the set-up spent
abbrev pub finds_expired : Core → Bool
finds_expired x = not (is_some x.released) && (is_late x.moment x.line || is_spent x)

-- ---- octets

-- frame by frame
abbrev pub hears_each : Finds → ℕ → List Verdict → Core → Core
hears_each finds now [] x = x
hears_each finds now (verdict ∷ verdicts) x = hears_each finds now verdicts (step_frame model finds now verdict x)

abbrev pub told_of_each : Finds → ℕ → List Verdict → Core → List Outcome
told_of_each finds now [] x = []
told_of_each finds now (verdict ∷ verdicts) x =
    let y = step_frame model finds now verdict x in outcomes_of model y ++ told_of_each finds now verdicts y

-- ---- one event at a moment: the end behind it, and its outcomes

abbrev pub with_core : End → Core → End
with_core m x = record m { core = x }

-- the outcomes of an event that leads here
abbrev pub led : End → Core → End × List Outcome
led m x = (with_core m x, outcomes_of model x)

abbrev pub refusal_or_outcomes : Option SendRefusal → List Outcome → List Outcome
refusal_or_outcomes (Some refusal) told = Refused refusal ∷ []
refusal_or_outcomes None told = told

abbrev pub step_event : ℕ → Event → End → End × List Outcome
step_event now Start m = led m (step_start model now m.core)
step_event now (Come finds octets) m =
    let x = new_event_at model now m.core in
    let verdicts = news m.stream octets in (
      record { stream = m.stream ++ octets; core = hears_each finds now verdicts x },
      told_of_each finds now verdicts x,
    )
step_event now (Send user) m =
    let refusal = refusal_of model user m.core in
    let x = step_send_unless model refusal now user m.core in
    (with_core m x, refusal_or_outcomes refusal (outcomes_of model x))
step_event now Take m =
    let x = step_take model now m.core in
    (with_core m x, if_taken (model.oldest m.core.upper) ++ outcomes_of model x)
step_event now (Leave sub) m = led m (step_release model now sub m.core)
step_event now Tick m = led m (step_tick model now m.core)
step_event now Ended m = led m (step_break model LineEnded m.core)
step_event now Fault m = led m (step_break model LineFailed m.core)
step_event now Stalled m = led m (step_break model LineStalled m.core)

-- events, each at its moment: the end behind them, and all outcomes
pub record Moment : Type 0 where
  pub now : ℕ
  pub event : Event

abbrev pub end_run : List Moment → End → End
end_run [] m = m
end_run (e ∷ events) m = end_run events (step_event e.now e.event m).0

abbrev pub outcomes : List Moment → End → List Outcome
outcomes [] m = []
outcomes (e ∷ events) m = (step_event e.now e.event m).1 ++ outcomes events (step_event e.now e.event m).0
