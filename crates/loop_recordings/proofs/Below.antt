-- The public laws of the layers below on which the bounds rest.
use Rattle.hdlc_frames.specs.Laws.{FrameLength, ControlLength}
use Rattle.x224_tpdu.specs.ReadingLaws.{ReadingIsInRange, ReadingSpells}
use Rattle.x224_class2.specs.Laws.{CutIsJoined, SegmentsFit}
use Rattle.safety_automaton.specs.Rules.{StepsOnly}
use Rattle.safety_automaton.specs.Laws.{MakesValid, StaysValid, LengthsAre, SendsFew}

pub record Below : Type 0 where
  -- frames
  pub frame : FrameLength
  pub control : ControlLength
  -- TPDUs and segments
  pub in_range : ReadingIsInRange
  pub spells : ReadingSpells
  pub joined : CutIsJoined
  pub fit : SegmentsFit
  -- the safety side
  pub only : StepsOnly
  pub makes : MakesValid
  pub stays : StaysValid
  pub lengths : LengthsAre
  pub few : SendsFew
