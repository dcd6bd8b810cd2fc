-- Contract: what comes of an event at an end as the code keeps it, and what the stack's kind of ends tells of it.
use Rattle.std.specs.Prelude.{◌≡◌, ℕ, List, [], ◌∷◌, ◌++◌, map, Some}
use Rattle.des_block.specs.declared.triple_key.TripleKey.{TripleKey}
use Rattle.safety_automaton.specs.Keys.{key_at}
use Rattle.er_settings.specs.Values.{Settings}
use Rattle.er_settings.specs.Ranges.{AllAllowed}
use Rattle.er_trace.specs.declared.event.Event.TheVariants as event
use Rattle.er_end_model.specs.Steps.{Finds}
use Rattle.er_end_model.specs.Ends.{End}
use Rattle.er_end_model.specs.Ends as model
use Rattle.er_end.specs.KeptEnds.{KEnd, kept_opened}
use Rattle.er_end.specs.Standing.{EndStands}
use Rattle.trace_model.specs.Printed.{trace_outcome_of}
use Rattle.loop_model.specs.Sessions.{Rules, GivenToSession, Begins, Hears, Sends, Takes, Leaves, Ticks, Ends, Faults, Stalls, journal_event_of_given, end_after}
use Rattle.loop_model.specs.Sessions.{outcomes_of_given_event}
use Rattle.loop_session.specs.Keeping.{kept_ends}
use Rattle.application_model.specs.Ends.{EventTime, EventAt}
use Rattle.application_ends.specs.StackEnds.{HeldKeys, end_of_events, stack_kind}

-- these events opened an end, for which the one that is kept stands
pub record StandsBehind (settings : Settings) (held : HeldKeys) (events : List EventAt) (k : KEnd) : Type 0 where
  pub end : End
  pub is : end_of_events settings held events ≡ Some end
  pub stands : EndStands k end

-- an event at an end that was opened before
abbrev pub IsNoBeginning : GivenToSession → Type 0
IsNoBeginning (Begins engine rbc rb) = ⊥
IsNoBeginning (Hears octets) = Unit {0}
IsNoBeginning (Sends text) = Unit {0}
IsNoBeginning Takes = Unit {0}
IsNoBeginning (Leaves sub) = Unit {0}
IsNoBeginning Ticks = Unit {0}
IsNoBeginning Ends = Unit {0}
IsNoBeginning Faults = Unit {0}
IsNoBeginning Stalls = Unit {0}

-- octets come, and KMACs are looked up so; no other event looks one up
abbrev pub LooksUpSo : GivenToSession → Rules → Finds → Type 0
LooksUpSo (Begins engine rbc rb) r finds = Unit {0}
LooksUpSo (Hears octets) r finds = key_at r.keys ≡ finds
LooksUpSo (Sends text) r finds = Unit {0}
LooksUpSo Takes r finds = Unit {0}
LooksUpSo (Leaves sub) r finds = Unit {0}
LooksUpSo Ticks r finds = Unit {0}
LooksUpSo Ends r finds = Unit {0}
LooksUpSo Faults r finds = Unit {0}
LooksUpSo Stalls r finds = Unit {0}

-- an event of the end, as the recording has it
abbrev pub given_at : Rules → EventTime → KEnd → GivenToSession → EventAt
given_at r time k g = record { time = time; event = journal_event_of_given kept_ends k g }

-- the same comes of it, and the end goes on
pub record GoesOnAlike (settings : Settings) (held : HeldKeys) (r : Rules) (time : EventTime) (events : List EventAt) (k : KEnd) (g : GivenToSession) : Type 0
  where
    pub tells : map trace_outcome_of (outcomes_of_given_event kept_ends r time.moment k g)
        ≡ (stack_kind settings held).tells events time (journal_event_of_given kept_ends k g)
    pub stands : StandsBehind settings held (events ++ given_at r time k g ∷ []) (end_after kept_ends r time.moment k g)

abbrev pub KeptGoOnAlike : Type 0
KeptGoOnAlike =
    (settings : Settings) (held : HeldKeys) (r : Rules) (time : EventTime) (events : List EventAt) (k : KEnd) (g : GivenToSession) → IsNoBeginning g
    → LooksUpSo g r (held time.keys) → StandsBehind settings held events k → GoesOnAlike settings held r time events k g

-- an end that answers is opened, and nothing comes of it
pub record AnswersAlike (settings : Settings) (held : HeldKeys) (time : EventTime) (rbc ra : ℕ) : Type 0 where
  pub tells : (stack_kind settings held).tells [] time (event.Answer rbc ra) ≡ []
  pub stands : StandsBehind settings held (record { time = time; event = event.Answer rbc ra } ∷ []) (kept_opened (model.Answer settings rbc ra time.moment))

abbrev pub KeptAnswerAlike : Type 0
KeptAnswerAlike = (settings : Settings) (held : HeldKeys) (time : EventTime) (rbc ra : ℕ) → AllAllowed settings → AnswersAlike settings held time rbc ra

-- an end that calls is opened with the KMAC that holds, and begins
pub record CallsAlike (settings : Settings) (held : HeldKeys) (r : Rules) (time : EventTime) (engine rbc rb : ℕ) (kmac : TripleKey) : Type 0 where
  pub tells : map trace_outcome_of (outcomes_of_given_event kept_ends r time.moment (kept_opened (model.Call settings engine rbc kmac rb time.moment))
      (Begins engine rbc rb))
      ≡ (stack_kind settings held).tells [] time (event.Call engine rbc rb)
  pub stands : StandsBehind settings held (record { time = time; event = event.Call engine rbc rb } ∷ [])
      (end_after kept_ends r time.moment (kept_opened (model.Call settings engine rbc kmac rb time.moment)) (Begins engine rbc rb))

abbrev pub KeptCallAlike : Type 0
KeptCallAlike =
    (settings : Settings) (held : HeldKeys) (r : Rules) (time : EventTime) (engine rbc rb : ℕ) (kmac : TripleKey) → AllAllowed settings
    → held time.keys time.moment engine rbc ≡ Some kmac → CallsAlike settings held r time engine rbc rb kmac
