-- Lemmas: what the public laws of the layers below say, in one record, for the laws of two ends.
use Rattle.er_settings.specs.Laws.{AllowedAreBounded}
use Rattle.t70_header.specs.JoiningLaws.{WrappedIsJoined}
use Rattle.x224_tpdu.specs.Reading.{WrittenIsShort}
use Rattle.x224_tpdu.specs.ReadingLaws.{ReadingOfWritten}
use Rattle.x224_class2.specs.Laws.{CutIsJoined, JoinsInParts, SegmentsFit, SegmentsAreFew, AcknowledgesAtMost, AcknowledgesAll}
use Rattle.sapdu.specs.SpellingLaws.{IsTested, IsReadBack, SpellsFew, SpellsItsLength}
use Rattle.hdlc_station_model.specs.Laws.{ReceivesGive, TicksGive, HandsKeep, OthersKeep}
use Rattle.hdlc_pair_laws.specs.Keeping.{CallsKeep, ReceivesTell, TicksTell, PhasesStay}
use Rattle.cbc_mac.specs.Laws.{MacBelow}
use Rattle.safety_automaton.specs.Rules.{StepsOnly, StepsEach}
use Rattle.safety_automaton.specs.Laws.{SendsFew}
use Rattle.hdlc_station_model.specs.Reports.{ReleasesAreTold}
use Rattle.hdlc_pair_laws.specs.LossFree.{FlowKeeps, FlowBounds}
use Rattle.hdlc_pair_laws.specs.Repairs.{MendKeeps}

-- of the safety layer
pub record SafetyLaws : Type 0 where
  pub only : StepsOnly
  pub each : StepsEach
  pub few : SendsFew
  pub back : IsReadBack
  pub below : MacBelow

-- of all layers
pub record LawsBelow : Type 0 where
  pub bounded : AllowedAreBounded
  -- the station
  pub keep : CallsKeep
  pub receives : ReceivesTell
  pub ticks : TicksTell
  pub phases : PhasesStay
  pub received : ReceivesGive
  pub ticked : TicksGive
  pub hands : HandsKeep
  pub others : OthersKeep
  -- blocks and TPDUs
  pub wrapped : WrappedIsJoined
  pub reading : ReadingOfWritten
  pub short : WrittenIsShort
  -- segments
  pub joined : CutIsJoined
  pub parts : JoinsInParts
  pub fit : SegmentsFit
  pub few : SegmentsAreFew
  pub most : AcknowledgesAtMost
  pub all : AcknowledgesAll
  -- SaPDUs and the safety side
  pub tested : IsTested
  pub spelled : SpellsFew
  pub safety : SafetyLaws

-- the laws that a loss-free line rests on besides
pub record LossFreeLawsBelow : Type 0 where
  pub below : LawsBelow
  pub keep : FlowKeeps
  pub bounds : FlowBounds
  pub told : ReleasesAreTold
  pub lengths : SpellsItsLength

-- the laws that the repair of a loss rests on
pub record MendingLawsBelow : Type 0 where
  pub below : LawsBelow
  pub keep : MendKeeps
