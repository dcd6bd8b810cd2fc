-- Which level has which step of a drill (this profile).
use Rattle.er_scenario.specs.declared.level.Level.{Level}
use Rattle.er_scenario.specs.declared.level.Level.TheVariants as level
use Rattle.er_scenario.specs.declared.step.Step.{Step}
use Rattle.er_scenario.specs.declared.step.Step.TheVariants as does

-- the levels that have a step
abbrev pub IsOfLevel : Level → Step → Type 0
IsOfLevel level.Safe (does.Fixed n engine rbc ke kr) = Unit {0}
IsOfLevel level.Link (does.Fixed n engine rbc ke kr) = ⊥
IsOfLevel level.LinkSr (does.Fixed n engine rbc ke kr) = ⊥
IsOfLevel level.Full (does.Fixed n engine rbc ke kr) = ⊥
IsOfLevel level.Safe (does.Link n engine rbc ke kr ra rb) = Unit {0}
IsOfLevel level.Link (does.Link n engine rbc ke kr ra rb) = ⊥
IsOfLevel level.LinkSr (does.Link n engine rbc ke kr ra rb) = ⊥
IsOfLevel level.Full (does.Link n engine rbc ke kr ra rb) = Unit {0}
IsOfLevel level.Safe (does.Wire n) = ⊥
IsOfLevel level.Link (does.Wire n) = Unit {0}
IsOfLevel level.LinkSr (does.Wire n) = Unit {0}
IsOfLevel level.Full (does.Wire n) = ⊥
IsOfLevel l (does.Send n s text) = Unit {0}
IsOfLevel l (does.Pass n s) = Unit {0}
IsOfLevel l (does.Lose n s) = Unit {0}
IsOfLevel l (does.Repeat n s) = Unit {0}
IsOfLevel l (does.Alter n s place mask) = Unit {0}
IsOfLevel l (does.Put n s text) = Unit {0}
IsOfLevel l (does.Copy n s m t) = Unit {0}
IsOfLevel level.Safe (does.Take n s) = ⊥
IsOfLevel level.Link (does.Take n s) = ⊥
IsOfLevel level.LinkSr (does.Take n s) = ⊥
IsOfLevel level.Full (does.Take n s) = Unit {0}
IsOfLevel l (does.Release n s sub) = Unit {0}
IsOfLevel level.Safe (does.Tick moment) = ⊥
IsOfLevel level.Link (does.Tick moment) = Unit {0}
IsOfLevel level.LinkSr (does.Tick moment) = Unit {0}
IsOfLevel level.Full (does.Tick moment) = Unit {0}
IsOfLevel l (does.Drain n most) = Unit {0}
