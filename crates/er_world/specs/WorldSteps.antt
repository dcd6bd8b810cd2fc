-- Representation: a step of a world as the code does it, but for the test that not too many frames wait; no claim rests on it.
use Rattle.std.specs.Prelude.{ℕ, zero, suc, ◌≡◌, ◌+◌, Bool, true, List, [], ◌++◌, Option, Some, None, Result, Ok, Err}
use Rattle.er_base.specs.declared.side.Side.{Side}
use Rattle.er_scenario.specs.declared.step.Step.{Step}
use Rattle.er_scenario.specs.declared.step.Step.TheVariants as does
use Rattle.drill_model.specs.declared.totals.Totals.{Totals}
use Rattle.drill_model.specs.declared.world_fault.WorldFault.{WorldFault}
use Rattle.drill_model.specs.declared.world_fault.WorldFault.TheVariants.{NoLink, LinkTwice, MomentBack, Overfull, NoMemory}
use Rattle.drill_model.specs.Worlds.{World, Came, tick_each_link, then_world}
use Rattle.drill_model.specs.Marks.{marks_from}
use Rattle.drill_model.specs.Texts.{lines}
use Rattle.er_world.specs.declared.link.Link.{Link as KeptLink}
use Rattle.er_world.specs.KeptLinks.{overfull_side_of_kept, closing_kept}
use Rattle.er_world.specs.Counts.{no_totals, sum}
use Rattle.er_world.specs.Standing.{KeptWorld, StandsWorld, kept_at}

-- a world went on so, behind all that came before: where it stands then, what was printed
pub record WorldWent (a : World × List Came) (show : Bool) (came : List Came) (new : KeptWorld) (before now : List ℕ) : Type 0 where
  pub stands : StandsWorld new a.0 (came ++ a.1)
  pub printed : now ≡ before ++ lines show (marks_from came a.1)

-- wherever the world stands
abbrev pub WorldDoes : (World → World × List Came) → KeptWorld → KeptWorld → List ℕ → List ℕ → Type 0
WorldDoes moves old new before now =
    (w : World) (came : List Came) → StandsWorld old w came → WorldWent (moves w) old.plan.show came new before now

-- a step was done and not to be refused
pub record Done (refused : World → Option WorldFault) (moves : World → World × List Came) (old new : KeptWorld) (before now : List ℕ) : Type 0 where
  pub none : (w : World) (came : List Came) → StandsWorld old w came → refused w ≡ None
  pub went : WorldDoes moves old new before now

-- it is refused for this reason, which leaves the world as it was
pub record RefusedFor (refused : World → Option WorldFault) (fault : WorldFault) (old new : KeptWorld) : Type 0 where
  pub same : new ≡ old
  pub reason : (w : World) (came : List Came) → StandsWorld old w came → refused w ≡ Some fault

-- a step was done, or refused for this reason, or memory ran out
abbrev pub DoesWorldStep : (World → Option WorldFault) → (World → World × List Came) → KeptWorld → KeptWorld → List ℕ → List ℕ
    → Result (Unit {0}) WorldFault → Type 0
DoesWorldStep refused moves old new before now (Ok done) = Done refused moves old new before now
DoesWorldStep refused moves old new before now (Err (NoMemory want)) = Unit {0}
DoesWorldStep refused moves old new before now (Err (Overfull n side most)) = ⊥
DoesWorldStep refused moves old new before now (Err (NoLink n)) = RefusedFor refused (NoLink n) old new
DoesWorldStep refused moves old new before now (Err (LinkTwice n)) = RefusedFor refused (LinkTwice n) old new
DoesWorldStep refused moves old new before now (Err (MomentBack was moment)) = RefusedFor refused (MomentBack was moment) old new

-- a world after a step that wasn't done
abbrev pub world_left_by_fault : WorldFault → KeptWorld → KeptWorld
world_left_by_fault (NoLink n) old = old
world_left_by_fault (LinkTwice n) old = old
world_left_by_fault (MomentBack was moment) old = old
world_left_by_fault (Overfull n side most) old = record old { spent = true }
world_left_by_fault (NoMemory want) old = record old { spent = true }

-- in the midst of a tick: the links before this number have been ticked
pub record Ticking (moment : ℕ) (w : World) (show : Bool) (came : List Came) (number : ℕ) (kept : KeptWorld) (before now : List ℕ) : Type 0 where
  pub world : World
  pub more : List Came
  pub left : ℕ
  pub all : number + left ≡ 65
  pub whole : tick_each_link moment w 1 64 ≡ then_world (world, more) (λ v. tick_each_link moment v number left)
  pub went : WorldWent (world, more) show came kept before now

-- the side of a place of which too many frames wait
abbrev pub overfull_in : Option KeptLink → Option Side
overfull_in None = None
overfull_in (Some kept) = overfull_side_of_kept kept

-- the first link from this number on, of so many, that is overfull, and its side
abbrev pub overfull_or : ℕ → Option Side → Option (ℕ × Side) → Option (ℕ × Side)
overfull_or n (Some side) others = Some (n, side)
overfull_or n None others = others

unfoldable pub overfull_from : KeptWorld → (n count : ℕ) → Option (ℕ × Side)
overfull_from kept n zero = None
overfull_from kept n (suc count) = overfull_or n (overfull_in (kept_at kept n)) (overfull_from kept (n + 1) count)

-- the one link in which frames may come to wait by a step; a tick may make them wait in any
abbrev pub touched : Step → Option ℕ
touched (does.Fixed n engine rbc ke kr) = Some n
touched (does.Link n engine rbc ke kr ra rb) = Some n
touched (does.Wire n) = Some n
touched (does.Send n s text) = Some n
touched (does.Pass n s) = Some n
touched (does.Lose n s) = Some n
touched (does.Repeat n s) = Some n
touched (does.Alter n s place mask) = Some n
touched (does.Put n s text) = Some n
touched (does.Copy n s m t) = Some m
touched (does.Take n s) = Some n
touched (does.Release n s sub) = Some n
touched (does.Tick moment) = None
touched (does.Drain n most) = Some n

-- the overfull link that is found behind a step
abbrev pub overfull_by : KeptWorld → Option ℕ → Option (ℕ × Side)
overfull_by kept None = overfull_from kept 1 64
overfull_by kept (Some n) = overfull_or n (overfull_in (kept_at kept n)) None

-- a step ends: the world as it was and its text printed, or spent, where too many frames wait or memory ran out
pub record EndsWell (found : Option (ℕ × Side)) (text : List ℕ) (old new : KeptWorld) (before now : List ℕ) : Type 0 where
  pub room : found ≡ None
  pub same : new ≡ old
  pub printed : now ≡ before ++ text

pub record BreaksOff (old new : KeptWorld) (before now : List ℕ) : Type 0 where
  pub spent : new ≡ record old { spent = true }
  pub left : now ≡ before

abbrev pub EndsWorldStep : Option (ℕ × Side) → List ℕ → KeptWorld → KeptWorld → List ℕ → List ℕ → Result (Unit {0}) WorldFault → Type 0
EndsWorldStep found text old new before now (Ok done) = EndsWell found text old new before now
EndsWorldStep found text old new before now (Err (NoMemory want)) = BreaksOff old new before now
EndsWorldStep found text old new before now (Err (Overfull n side most)) =
    (found ≡ Some (n, side)) × (most ≡ 4096) × BreaksOff old new before now
EndsWorldStep found text old new before now (Err (NoLink n)) = ⊥
EndsWorldStep found text old new before now (Err (LinkTwice n)) = ⊥
EndsWorldStep found text old new before now (Err (MomentBack was moment)) = ⊥

-- the closing lines of the links from this number on, so many
abbrev pub place_closing : ℕ → Option KeptLink → List ℕ
place_closing n None = []
place_closing n (Some kept) = closing_kept n kept

unfoldable pub closing_lines : KeptWorld → (n count : ℕ) → List ℕ
closing_lines kept n zero = []
closing_lines kept n (suc count) = place_closing n (kept_at kept n) ++ closing_lines kept (n + 1) count

-- the counts of the links from this number on, so many, with those before them
abbrev pub place_totals : Option KeptLink → Totals
place_totals None = no_totals
place_totals (Some kept) = kept.totals

unfoldable pub summed : KeptWorld → (n count : ℕ) → Totals → Totals
summed kept n zero t = t
summed kept n (suc count) t = summed kept (n + 1) count (sum t (place_totals (kept_at kept n)))
