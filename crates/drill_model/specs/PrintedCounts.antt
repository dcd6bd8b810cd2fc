-- What is claimed of the counts that are printed (this profile): the line of a drain tells the passes of that drain, the totals are counts of
-- what came at the links 1 to 64, and each link that was opened has one closing line, which tells its passes and the frames that wait.
use Rattle.std.specs.Prelude.{ℕ, zero, suc, ◌+◌, ◌≡◌, ◌≤◌, ◌<◌, ◌-◌, ◌^◌, min, List, [], ◌∷◌, ◌++◌, length, map, codes, Some, None}
use Rattle.std.specs.List.{sum_by, flat_map, Contains, AllByRecursion}
use Rattle.std.specs.Fmt.{decimal}
use Rattle.er_base.specs.declared.side.Side.TheVariants.{E, R}
use Rattle.er_base.specs.LineTexts.{lines_text}
use Rattle.er_scenario.specs.declared.step.Step.{Step}
use Rattle.er_scenario.specs.declared.step.Step.TheVariants as does
use Rattle.drill_model.specs.declared.totals.Totals.{Totals as RunTotals}
use Rattle.drill_model.specs.Outcomes.{Occurrence}
use Rattle.drill_model.specs.Links.{Link}
use Rattle.drill_model.specs.Worlds.{DrillPlan, World, Came, On, Drained, link_at, history_on, world_step, world_run}
use Rattle.drill_model.specs.Kinds.{accepted_by}
use Rattle.drill_model.specs.Effects.{Effect, Sends, IsRefused, Passes, Loses, Repeats, Alters, Inserts, Releases, Expires, effects_in}
use Rattle.drill_model.specs.Totals.{totals_of}
use Rattle.drill_model.specs.Texts.{summary}

-- ---- counts of what came at a link

-- as what an effect counts
pub record EffectCount : Type 0 where
  pub sends : ℕ
  pub passes : ℕ
  pub losses : ℕ
  pub repeats : ℕ

abbrev pub counts_as : Effect → EffectCount
counts_as (Sends octets) = record { sends = 1; passes = 0; losses = 0; repeats = 0 }
counts_as IsRefused = record { sends = 0; passes = 0; losses = 0; repeats = 0 }
counts_as (Passes frame) = record { sends = 0; passes = 1; losses = 0; repeats = 0 }
counts_as Loses = record { sends = 0; passes = 0; losses = 1; repeats = 0 }
counts_as Repeats = record { sends = 0; passes = 0; losses = 0; repeats = 1 }
counts_as Alters = record { sends = 0; passes = 0; losses = 0; repeats = 0 }
counts_as Inserts = record { sends = 0; passes = 0; losses = 0; repeats = 0 }
counts_as (Releases sub) = record { sends = 0; passes = 0; losses = 0; repeats = 0 }
counts_as Expires = record { sends = 0; passes = 0; losses = 0; repeats = 0 }

-- the sends that were Ok, of both ends; the frames that were given to the other end, were lost, and were repeated
abbrev pub sends_in : List Occurrence → ℕ
sends_in history = sum_by (λ e. (counts_as e.1).sends) (effects_in history)

abbrev pub passes_in : List Occurrence → ℕ
passes_in history = sum_by (λ e. (counts_as e.1).passes) (effects_in history)

abbrev pub losses_in : List Occurrence → ℕ
losses_in history = sum_by (λ e. (counts_as e.1).losses) (effects_in history)

abbrev pub repeats_in : List Occurrence → ℕ
repeats_in history = sum_by (λ e. (counts_as e.1).repeats) (effects_in history)

-- the messages that both ends accepted
abbrev pub acceptances_in : List Occurrence → ℕ
acceptances_in history = length (accepted_by E history) + length (accepted_by R history)

-- ---- drains

-- what came of a drain of an open link, whatever the world: what came at the link, and then the number of its passes
abbrev pub DrainsCount : Type 0
DrainsCount =
    (plan : DrillPlan) (w : World) (n most : ℕ) (l : Link) → link_at w n ≡ Some l
    → let came = (world_step plan w (does.Drain n most)).1 in
    came ≡ map (On n) (history_on n came) ++ Drained n (passes_in (history_on n came)) ∷ []

-- the links of which drains are told
abbrev pub drained_in : Came → List ℕ
drained_in (On link occurrence) = []
drained_in (Drained link passes) = link ∷ []

-- of no other step, and of no drain of a link that isn't open, a drain is told
abbrev pub TellsNoDrain : World → Step → Type 0
TellsNoDrain w (does.Fixed n engine rbc ke kr) = Unit {0}
TellsNoDrain w (does.Link n engine rbc ke kr ra rb) = Unit {0}
TellsNoDrain w (does.Wire n) = Unit {0}
TellsNoDrain w (does.Send n s text) = Unit {0}
TellsNoDrain w (does.Pass n s) = Unit {0}
TellsNoDrain w (does.Lose n s) = Unit {0}
TellsNoDrain w (does.Repeat n s) = Unit {0}
TellsNoDrain w (does.Alter n s place mask) = Unit {0}
TellsNoDrain w (does.Put n s text) = Unit {0}
TellsNoDrain w (does.Copy n s m t) = Unit {0}
TellsNoDrain w (does.Take n s) = Unit {0}
TellsNoDrain w (does.Release n s sub) = Unit {0}
TellsNoDrain w (does.Tick moment) = Unit {0}
TellsNoDrain w (does.Drain n most) = link_at w n ≡ None

abbrev pub OnlyDrainsAreTold : Type 0
OnlyDrainsAreTold =
    (plan : DrillPlan) (w : World) (s : Step) → TellsNoDrain w s → flat_map drained_in (world_step plan w s).1 ≡ []

-- ---- totals

-- the sum over the links 1 to n
abbrev pub over_links : (ℕ → ℕ) → (n : ℕ) → ℕ
over_links count zero = 0
over_links count (suc n) = over_links count n + count (suc n)

-- a printed count stays at 2^64 - 1
abbrev pub at_most_printed : ℕ → ℕ
at_most_printed n = min n (2 ^ 64 - 1)

-- the count of what came at each link, over the links 1 to 64
abbrev pub over_all : (List Occurrence → ℕ) → List Came → ℕ
over_all count came = at_most_printed (over_links (λ n. count (history_on n came)) 64)

-- the totals of a list of steps
pub record AreTotals (came : List Came) (totals : RunTotals) : Type 0 where
  pub sent : totals.sent ≡ over_all sends_in came
  pub accepted : totals.accepted ≡ over_all acceptances_in came
  pub passes : totals.passes ≡ over_all passes_in came
  pub lost : totals.lost ≡ over_all losses_in came
  pub repeated : totals.repeated ≡ over_all repeats_in came

abbrev pub TotalsCount : Type 0
TotalsCount = (plan : DrillPlan) (steps : List Step) → let came = (world_run plan steps).1 in AreTotals came (totals_of came)

-- ---- closing lines

-- what the closing line of a link tells: the frames that were passed, and those of e and of r that wait
pub record Closing : Type 0 where
  pub link : ℕ
  pub passes : ℕ
  pub from_e : ℕ
  pub from_r : ℕ

-- of link n behind what came at it
abbrev pub closing_of : (n : ℕ) → Link → List Occurrence → Closing
closing_of n l history = record { link = n; passes = passes_in history; from_e = length l.from_e; from_r = length l.from_r }

-- its words
abbrev pub closing_words : Closing → List (List ℕ)
closing_words c =
    decimal c.link ∷ codes "end" ∷ codes "passes" ∷ decimal (at_most_printed c.passes)
    ∷ codes "waiting" ∷ decimal c.from_e ∷ decimal c.from_r ∷ []

-- each number is above the one before it
abbrev pub Rise : List ℕ → Type 0
Rise [] = Unit {0}
Rise (n ∷ []) = Unit {0}
Rise (n ∷ m ∷ more) = (n < m) × Rise (m ∷ more)

-- one of the links 1 to 64, which is open, as it stands
pub record ClosesLink (w : World) (came : List Came) (c : Closing) : Type 0 where
  pub least : 1 ≤ c.link
  pub most : c.link ≤ 64
  pub link : Link
  pub opened : link_at w c.link ≡ Some link
  pub tells : c ≡ closing_of c.link link (history_on c.link came)

-- the closing lines of a world behind what came: their numbers rise, each open link has one, and each one is of such a link
pub record HasClosingLines (w : World) (came : List Came) : Type 0 where
  pub closings : List Closing
  pub text : summary (w, came) ≡ lines_text (map closing_words closings)
  pub rise : Rise (map (λ c. c.link) closings)
  pub each : (n : ℕ) (l : Link) → link_at w n ≡ Some l → Contains closings (closing_of n l (history_on n came))
  pub only : AllByRecursion (ClosesLink w came) closings

abbrev pub LinksAreClosed : Type 0
LinksAreClosed = (plan : DrillPlan) (steps : List Step) → HasClosingLines (world_run plan steps).0 (world_run plan steps).1
