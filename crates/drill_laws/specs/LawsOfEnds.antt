-- Lemmas: what the public laws of the crates below say of the ends of a link, in one record for stations and one for stacks.
use Rattle.hdlc_station_model.specs.Laws.{TicksGive, HandsKeep, OthersKeep, ReleasedAreInert}
use Rattle.hdlc_station_model.specs.Reports.{ReleasesAreTold, FinishKeepsRelease}
use Rattle.hdlc_pair_laws.specs.Keeping.{FramesGive}
use Rattle.safety_automaton.specs.Rules.{StepsOnly}
use Rattle.safety_pair_laws.specs.Marks.{MarksGrow}
use Rattle.er_end_pair_laws.specs.Laws.{Prefix, OneFrame, LosingLineReasons, Delivery, DeliveryBound, DrainEmpties}
use Rattle.drill_model.specs.StackReports.{OpensOrderly, CallsReport}

-- the laws of a station of either kind
pub record StationLaws : Type 0 where
  pub frames_give : FramesGive
  pub ticks_give : TicksGive
  pub hands_keep : HandsKeep
  pub others_keep : OthersKeep
  pub releases : ReleasesAreTold
  pub finish : FinishKeepsRelease
  pub inert : ReleasedAreInert

-- the laws of two ends of the whole stack, of the safety side, and of a stack's reports
pub record StackLaws : Type 0 where
  pub prefix : Prefix
  pub one_frame : OneFrame
  pub reasons : LosingLineReasons
  pub delivery : Delivery
  pub deliveries_bound : DeliveryBound
  pub drain_empties : DrainEmpties
  pub only : StepsOnly
  pub opens : OpensOrderly
  pub calls : CallsReport
  pub marks : MarksGrow
