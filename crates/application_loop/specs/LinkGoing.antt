-- Representation: a link behind an event, by the model of the loop; no claim rests on it.
use Rattle.std.specs.Prelude.{◌≡◌, ℕ, ◌==◌, false, List, map, Option}
use Rattle.er_settings.specs.Values.{Settings}
use Rattle.er_end_model.specs.Ends.{Event, End}
use Rattle.er_end.specs.KeptEnds.{KEnd, kept_end_behind_event, tells}
use Rattle.er_end.specs.Standing.{EndStands}
use Rattle.trace_model.specs.Printed.{trace_outcome_of}
use Rattle.loop_model.specs.Sessions.{Rules, GivenToSession, journal_event_of_given}
use Rattle.loop_session.specs.Keeping.{kept_ends}
use Rattle.application_model.specs.Ends.{end_stage_behind}
use Rattle.application_model.specs.Histories.{ServiceItem}
use Rattle.application_model.specs.Services.{Service, behind_items, occurs}
use Rattle.application_port.specs.Ports.{attendance_of}
use Rattle.application_ends.specs.StackEnds.{HeldKeys, stack_kind}
use Rattle.application_ends.specs.Laws.{recording_of_service}
use Rattle.application_loop.specs.StackSteps.{StandsBehind, IsNoBeginning, LooksUpSo}
use Rattle.application_loop.specs.Occurring.{peer_behind_outcomes, Occurs}
use Rattle.application_loop.specs.Standing.{stage_by}
use Rattle.application_loop.specs.declared.link.Link.{Link}
use Rattle.application_loop.specs.declared.desk.Desk.{Desk}

-- a link and the desk stand where the model does that goes by this
pub record LinkStands (settings : Settings) (held : HeldKeys) (s : Service) (link : Link) (desk : Desk) : Type 0 where
  pub end : StandsBehind settings held (s.ends link.number) link.end.value
  pub application : s.application ≡ attendance_of desk.port

-- these items were done at a link: it and the desk stand behind them, their lines are those of the event at hand, and no other end had an event
pub record LinkGoes (settings : Settings) (held : HeldKeys) (s : Service) (items : List ServiceItem) (old now : Link) (desk : Desk) : Type 0 where
  pub number : now.number ≡ old.number
  pub stands : LinkStands settings held (behind_items s items) now desk
  pub lines : desk.line.items ≡ recording_of_service items
  pub others : (conn : ℕ) → (conn == old.number) ≡ false → (behind_items s items).ends conn ≡ s.ends conn

-- an event at a link is that event of the model
abbrev pub OccursByTheModel : Type 0
OccursByTheModel =
    (settings : Settings) (held : HeldKeys) (s : Service) (moment : ℕ) (r : Rules) (g : GivenToSession) (old now : Link) (desk after : Desk) → IsNoBeginning g
    → LooksUpSo g r (held s.keys) → LinkStands settings held s old desk → Occurs r moment g old now desk after
    → LinkGoes settings held s (occurs (stack_kind settings held) moment old.number (journal_event_of_given kept_ends old.end.value g) s) old now after

-- how far an end is by its release and its peer is how far its outcomes say
abbrev pub StagesGoOn : Type 0
StagesGoOn =
    (now : ℕ) (event : Event) (k : KEnd) (m : End) (peer : Option ℕ) → EndStands k m
    → end_stage_behind (stage_by k.core.released peer) (map trace_outcome_of (tells now event k))
    ≡ stage_by (kept_end_behind_event now event k).core.released (peer_behind_outcomes peer (tells now event k))
