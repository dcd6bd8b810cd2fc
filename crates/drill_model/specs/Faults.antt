-- Why a step of a world isn't done: it is refused, or too many frames would wait (this profile). The step itself is total; its faults are
-- told beside it.
use Rattle.std.specs.Prelude.{ℕ, zero, suc, ◌+◌, ◌≡◌, ◌<◌, nat_lt, if◌then◌else◌, List, take, slice_get, Option, Some, None}
use Rattle.er_base.specs.declared.side.Side.{Side}
use Rattle.er_scenario.specs.declared.step.Step.{Step}
use Rattle.er_scenario.specs.declared.step.Step.TheVariants as does
use Rattle.drill_model.specs.declared.world_fault.WorldFault.{WorldFault}
use Rattle.drill_model.specs.declared.world_fault.WorldFault.TheVariants.{NoLink, LinkTwice, MomentBack, Overfull}
use Rattle.drill_model.specs.Links.{Link}
use Rattle.drill_model.specs.Worlds.{DrillPlan, World, is_link, link_at, overfull_side, world_step, world_run}

-- a step on link n wants it opened
abbrev pub wants : ℕ → Option Link → Option WorldFault
wants n None = Some (NoLink n)
wants n (Some l) = None

-- a line that opens link n wants the number of a link that wasn't opened
abbrev pub wants_closed : ℕ → Option Link → Option WorldFault
wants_closed n None = if is_link n then None else Some (NoLink n)
wants_closed n (Some l) = Some (LinkTwice n)

-- a tick wants a moment that isn't below the world's
abbrev pub wants_moment : World → (moment : ℕ) → Option WorldFault
wants_moment w moment = if nat_lt moment w.moment then Some (MomentBack w.moment moment) else None

abbrev pub or_else : Option WorldFault → Option WorldFault → Option WorldFault
or_else None later = later
or_else (Some fault) later = Some fault

-- why a step is refused before anything is done, if it is
abbrev pub refusal_of_step : World → Step → Option WorldFault
refusal_of_step w (does.Fixed n engine rbc ke kr) = wants_closed n (link_at w n)
refusal_of_step w (does.Link n engine rbc ke kr ra rb) = wants_closed n (link_at w n)
refusal_of_step w (does.Wire n) = wants_closed n (link_at w n)
refusal_of_step w (does.Send n s text) = wants n (link_at w n)
refusal_of_step w (does.Pass n s) = wants n (link_at w n)
refusal_of_step w (does.Lose n s) = wants n (link_at w n)
refusal_of_step w (does.Repeat n s) = wants n (link_at w n)
refusal_of_step w (does.Alter n s place mask) = wants n (link_at w n)
refusal_of_step w (does.Put n s text) = wants n (link_at w n)
refusal_of_step w (does.Copy n s m t) = or_else (wants n (link_at w n)) (wants m (link_at w m))
refusal_of_step w (does.Take n s) = wants n (link_at w n)
refusal_of_step w (does.Release n s sub) = wants n (link_at w n)
refusal_of_step w (does.Tick moment) = wants_moment w moment
refusal_of_step w (does.Drain n most) = wants n (link_at w n)

-- more than 4,096 frames wait in one direction of link n
abbrev pub overfull_fault : ℕ → Option Side → Option WorldFault
overfull_fault n None = None
overfull_fault n (Some side) = Some (Overfull n side 4096)

abbrev pub overfull_at : ℕ → Option Link → Option WorldFault
overfull_at n None = None
overfull_at n (Some l) = overfull_fault n (overfull_side l)

-- of the links from number n on, so many, the first in which too many frames wait
unfoldable pub first_overfull : World → (n count : ℕ) → Option WorldFault
first_overfull w n zero = None
first_overfull w n (suc count) = or_else (overfull_at n (link_at w n)) (first_overfull w (n + 1) count)

-- of all links, their numbers rising, and of e before r
abbrev pub overfull_of : World → Option WorldFault
overfull_of w = first_overfull w 1 64

-- why a step isn't done, if it isn't
abbrev pub fault_of : DrillPlan → World → Step → Option WorldFault
fault_of plan w s = or_else (refusal_of_step w s) (overfull_of (world_step plan w s).0)

-- the same behind the steps before it
abbrev pub fault_behind : DrillPlan → List Step → Step → Option WorldFault
fault_behind plan before s = fault_of plan (world_run plan before).0 s

-- the first steps of a list are all done
abbrev pub AllDone : DrillPlan → List Step → (count : ℕ) → Type 0
AllDone plan steps count = (k : ℕ) (s : Step) → k < count → slice_get steps k ≡ Some s → fault_behind plan (take k steps) s ≡ None
