-- A world at its beginning, at the end of a step, and at the end of a drill.
use Rattle.std.proofs.Common.{◌≡◌, ℕ, zero, suc, ◌+◌, false, List, [], ◌∷◌, ◌++◌, length, replicate, refl, sym, ap, ◌∙◌, subst, append_assoc, append-nil, Option, Some, None, Result, Ok, Err}
use Rattle.std.specs.List.{slice_get}
use Rattle.std.specs.Result.{OnOk, OnErr, IfErr}
use Rattle.er_base.specs.declared.side.Side.{Side}
use Rattle.er_scenario.specs.declared.step.Step.{Step}
use Rattle.drill_model.specs.declared.world_fault.WorldFault.{WorldFault}
use Rattle.drill_model.specs.declared.world_fault.WorldFault.TheVariants.{NoLink, LinkTwice, MomentBack, Overfull, NoMemory}
use Rattle.drill_model.specs.Outcomes.{Occurrence}
use Rattle.drill_model.specs.Links.{Link}
use Rattle.drill_model.specs.Worlds.{DrillPlan, World, Came, link_at, history_on, new_world, world_step, world_run}
use Rattle.drill_model.specs.Kinds.{deliveries}
use Rattle.drill_model.specs.Faults.{or_else, first_overfull, overfull_of, refusal_of_step, fault_behind}
use Rattle.drill_model.specs.Texts.{closing_line, closing_text_at, closing_from, last_lines, step_lines}
use Rattle.drill_model.specs.Growth.{RunGrows}
use Rattle.er_world.specs.declared.link.Link.{Link as KeptLink}
use Rattle.er_world.specs.KeptLinks.{StandsLink, closing_kept}
use Rattle.er_world.specs.Standing.{KeptWorld, kept_link_if_any, kept_at, StandsPlace, StandsWorld, RanSo, Ran, Applied, IsFaultBehind, LeavesIt}
use Rattle.er_world.specs.WorldSteps.{WorldWent, Done, RefusedFor, DoesWorldStep, touched, overfull_by, EndsWell, EndsWorldStep, world_left_by_fault, place_closing, closing_lines}
use Rattle.er_world.proofs.Overfull.{fault_from, overfull_found}

-- ---- the beginning

empty_place : (k n : ℕ) → kept_link_if_any (slice_get (replicate {A = Option KeptLink} k None) n) ≡ None
empty_place zero n = refl
empty_place (suc k) zero = refl
empty_place (suc k) (suc n) = empty_place k n

none_first : (n count : ℕ) → first_overfull new_world n count ≡ None
unfolding first_overfull
none_first n zero = refl
none_first n (suc count) = none_first (n + 1) count

pub ran_new : (w : KeptWorld) (plan : DrillPlan) (k : ℕ) → w.plan ≡ plan → w.links ≡ replicate k None → w.moment ≡ 0 → Ran w plan []
unfolding Ran
ran_new w plan k plan_is links moment = record {
  plan_is = plan_is;
  stands = record {
    places = λ n.
        let none : kept_at w n ≡ None = ap (λ (ls : List (Option KeptLink)). kept_link_if_any (slice_get ls n)) links ∙ empty_place k n in
        let nothing : StandsPlace None None [] = refl in
        subst (λ (p : Option KeptLink). StandsPlace p None []) (sym none) nothing;
    moment = moment;
    within = λ n no'. refl;
  };
  room = none_first 1 64;
}

-- ---- a step that was done

abbrev pub Steps : KeptWorld → Step → KeptWorld → List ℕ → Type 0
Steps old s mid text = Done (λ w. refusal_of_step w s) (λ w. world_step old.plan w s) old mid [] text

-- where it leads, by the model
went_so : (plan : DrillPlan) (s : Step) (old mid : KeptWorld) (text : List ℕ) (w : World) (came : List Came) → old.plan ≡ plan → StandsWorld old w came
    → Steps old s mid text → WorldWent (world_step plan w s) plan.show came mid [] text
went_so plan s old mid text w came is st done =
    subst (λ (p : DrillPlan). WorldWent (world_step p w s) p.show came mid [] text) is (done.went w came st)

applied_so : RunGrows → (plan : DrillPlan) (before : List Step) (s : Step) (old mid new : KeptWorld) (text out now : List ℕ)
    → RanSo old plan (world_run plan before) → Steps old s mid text → mid.plan ≡ old.plan
    → EndsWell (overfull_by mid (touched s)) text mid new out now
    → RanSo new plan (world_run plan (before ++ s ∷ [])) × (fault_behind plan before s ≡ None) × (now ≡ out ++ step_lines plan before s)
applied_so grows plan before s old mid new text out now ran done same end =
    let a : World × List Came = world_run plan before in
    let b : World × List Came = world_step plan a.0 s in
    let went : WorldWent b plan.show a.1 mid [] text = went_so plan s old mid text a.0 a.1 ran.plan_is ran.stands done in
    let room : overfull_of b.0 ≡ None =
    sym (overfull_found plan a.0 s mid (a.1 ++ b.1) ran.room went.stands) ∙ ap fault_from end.room in
    let next : RanSo new plan (b.0, a.1 ++ b.1) = record {
      plan_is = ap (λ (k : KeptWorld). k.plan) end.same ∙ same ∙ ran.plan_is;
      stands = subst (λ (k : KeptWorld). StandsWorld k b.0 (a.1 ++ b.1)) (sym end.same) went.stands;
      room = room;
    } in (
      subst (RanSo new plan) (sym (grows plan before s)) next,
      ap (λ f. or_else f (overfull_of b.0)) (done.none a.0 a.1 ran.stands) ∙ room,
      end.printed ∙ ap (λ (xs : List ℕ). out ++ xs) went.printed,
    )

applied : RunGrows → (plan : DrillPlan) (before : List Step) (s : Step) (old mid new : KeptWorld) (text out now : List ℕ)
    → Ran old plan before → Steps old s mid text → mid.plan ≡ old.plan
    → EndsWell (overfull_by mid (touched s)) text mid new out now
    → Applied plan before s new out now
unfolding Ran
applied grows plan before s old mid new text out now ran done same end =
    let all = applied_so grows plan before s old mid new text out now ran done same end in
    record { ran = all.0; none = all.1; printed = all.2 }

-- too many frames wait behind it
overfull_so : (plan : DrillPlan) (before : List Step) (s : Step) (old mid : KeptWorld) (text : List ℕ) (n : ℕ) (side : Side) (most : ℕ)
    → Ran old plan before → Steps old s mid text → overfull_by mid (touched s) ≡ Some (n, side) → most ≡ 4096
    → fault_behind plan before s ≡ Some (Overfull n side most)
unfolding Ran
overfull_so plan before s old mid text n side most ran done found most_is =
    let a : World × List Came = world_run plan before in
    let b : World × List Came = world_step plan a.0 s in
    let went : WorldWent b plan.show a.1 mid [] text = went_so plan s old mid text a.0 a.1 ran.plan_is ran.stands done in
    ap (λ f. or_else f (overfull_of b.0)) (done.none a.0 a.1 ran.stands)
    ∙ sym (overfull_found plan a.0 s mid (a.1 ++ b.1) ran.room went.stands)
    ∙ ap fault_from found
    ∙ ap (λ m. Some (Overfull n side m)) (sym most_is)

module _ (s : Step) (old mid new : KeptWorld) (text out now : List ℕ) where
  abbrev pub EndsStep : Result (Unit {0}) WorldFault → Type 0
  EndsStep result = EndsWorldStep (overfull_by mid (touched s)) text mid new out now result

  pub step_ok : RunGrows → (result : Result (Unit {0}) WorldFault) → Steps old s mid text → mid.plan ≡ old.plan → EndsStep result
      → OnOk result ((plan : DrillPlan) (before : List Step) → Ran old plan before → Applied plan before s new out now)
  step_ok grows (Ok done') done same end = λ plan before ran. applied grows plan before s old mid new text out now ran done same end
  step_ok grows (Err fault) done same end = tt

  pub step_fault : (result : Result (Unit {0}) WorldFault) → Steps old s mid text → EndsStep result
      → IfErr result (λ fault. (plan : DrillPlan) (before : List Step) → Ran old plan before → IsFaultBehind plan before s fault)
  step_fault (Ok done') done end = tt
  step_fault (Err (NoMemory want)) done end = λ plan before ran. tt
  step_fault (Err (Overfull n side most)) done end = λ plan before ran. overfull_so plan before s old mid text n side most ran done end.0 end.1
  step_fault (Err (NoLink n)) done end = absurd end
  step_fault (Err (LinkTwice n)) done end = absurd end
  step_fault (Err (MomentBack was moment)) done end = absurd end

  pub step_left : (result : Result (Unit {0}) WorldFault) → EndsStep result → IfErr result (λ fault. LeavesIt fault old new)
  step_left (Ok done') end = tt
  step_left (Err (NoMemory want)) end = ap (λ (k : KeptWorld). k.spent) end.spent
  step_left (Err (Overfull n side most)) end = ap (λ (k : KeptWorld). k.spent) end.2.spent
  step_left (Err (NoLink n)) end = absurd end
  step_left (Err (LinkTwice n)) end = absurd end
  step_left (Err (MomentBack was moment)) end = absurd end

  pub step_out : (result : Result (Unit {0}) WorldFault) → EndsStep result → OnErr result (now ≡ out)
  step_out (Ok done') end = tt
  step_out (Err (NoMemory want)) end = end.left
  step_out (Err (Overfull n side most)) end = end.2.left
  step_out (Err (NoLink n)) end = absurd end
  step_out (Err (LinkTwice n)) end = absurd end
  step_out (Err (MomentBack was moment)) end = absurd end

  pub step_unspent : (result : Result (Unit {0}) WorldFault) → mid.spent ≡ false → EndsStep result → OnOk result (new.spent ≡ false)
  step_unspent (Ok done') unspent end = ap (λ (k : KeptWorld). k.spent) end.same ∙ unspent
  step_unspent (Err fault) unspent end = tt

  pub step_plan : (result : Result (Unit {0}) WorldFault) → mid.plan ≡ old.plan → EndsStep result → new.plan ≡ old.plan
  step_plan (Ok done') same end = ap (λ (k : KeptWorld). k.plan) end.same ∙ same
  step_plan (Err (NoMemory want)) same end = ap (λ (k : KeptWorld). k.plan) end.spent ∙ same
  step_plan (Err (Overfull n side most)) same end = ap (λ (k : KeptWorld). k.plan) end.2.spent ∙ same
  step_plan (Err (NoLink n)) same end = absurd end
  step_plan (Err (LinkTwice n)) same end = absurd end
  step_plan (Err (MomentBack was moment)) same end = absurd end

-- ---- a step that wasn't done

refused_so : (fault : WorldFault) (plan : DrillPlan) (before : List Step) (s : Step) (old new : KeptWorld)
    → Ran old plan before → RefusedFor (λ w. refusal_of_step w s) fault old new → fault_behind plan before s ≡ Some fault
unfolding Ran
refused_so fault plan before s old new ran refused =
    let a : World × List Came = world_run plan before in
    ap (λ f. or_else f (overfull_of (world_step plan a.0 s).0)) (refused.reason a.0 a.1 ran.stands)

module _ (s : Step) (old mid new : KeptWorld) (start text : List ℕ) where
  abbrev pub Fails : WorldFault → Type 0
  Fails fault = DoesWorldStep (λ w. refusal_of_step w s) (λ w. world_step old.plan w s) old mid start text (Err fault)

  pub fails_fault : (fault : WorldFault) → Fails fault → (plan : DrillPlan) (before : List Step) → Ran old plan before → IsFaultBehind plan before s fault
  fails_fault (NoMemory want) does plan before ran = tt
  fails_fault (Overfull n side most) does plan before ran = absurd does
  fails_fault (NoLink n) does plan before ran = refused_so (NoLink n) plan before s old mid ran does
  fails_fault (LinkTwice n) does plan before ran = refused_so (LinkTwice n) plan before s old mid ran does
  fails_fault (MomentBack was moment) does plan before ran = refused_so (MomentBack was moment) plan before s old mid ran does

  pub fails_left : (fault : WorldFault) → Fails fault → new ≡ world_left_by_fault fault mid → LeavesIt fault old new
  fails_left (NoMemory want) does is = ap (λ (k : KeptWorld). k.spent) is
  fails_left (Overfull n side most) does is = absurd does
  fails_left (NoLink n) does is = is ∙ does.same
  fails_left (LinkTwice n) does is = is ∙ does.same
  fails_left (MomentBack was moment) does is = is ∙ does.same

  pub fails_plan : (fault : WorldFault) → mid.plan ≡ old.plan → new ≡ world_left_by_fault fault mid → new.plan ≡ old.plan
  fails_plan (NoMemory want) same is = ap (λ (k : KeptWorld). k.plan) is ∙ same
  fails_plan (Overfull n side most) same is = ap (λ (k : KeptWorld). k.plan) is ∙ same
  fails_plan (NoLink n) same is = ap (λ (k : KeptWorld). k.plan) is ∙ same
  fails_plan (LinkTwice n) same is = ap (λ (k : KeptWorld). k.plan) is ∙ same
  fails_plan (MomentBack was moment) same is = ap (λ (k : KeptWorld). k.plan) is ∙ same

-- ---- the end of a drill

closed_link : (n : ℕ) (kept : KeptLink) (l : Link) (history : List Occurrence) → StandsLink kept l history
    → closing_kept n kept ≡ closing_line n (deliveries history) (length l.from_e) (length l.from_r)
unfolding closing_kept closing_line
closed_link n kept l history st = rw (st.totals, st.from_e, st.from_r) refl

closed_place : (n : ℕ) (place : Option KeptLink) (o : Option Link) (came : List Came) → StandsPlace place o (history_on n came)
    → place_closing n place ≡ closing_text_at n o came
closed_place n None None came st = refl
closed_place n None (Some l) came st = absurd st
closed_place n (Some kept) None came st = absurd st
closed_place n (Some kept) (Some l) came st = closed_link n kept l (history_on n came) st

closing_suc : (kept : KeptWorld) (n count : ℕ) → closing_lines kept n (suc count) ≡ place_closing n (kept_at kept n) ++ closing_lines kept (n + 1) count
unfolding closing_lines
closing_suc kept n count = refl

closing_zero : (kept : KeptWorld) (n : ℕ) → closing_lines kept n zero ≡ []
unfolding closing_lines
closing_zero kept n = refl

closed : (kept : KeptWorld) (a : World × List Came) → StandsWorld kept a.0 a.1 → (n count : ℕ) → closing_lines kept n count ≡ closing_from a n count
unfolding closing_from
closed kept a st n zero = closing_zero kept n
closed kept a st n (suc count) =
    closing_suc kept n count
    ∙ ap (λ (xs : List ℕ). xs ++ closing_lines kept (n + 1) count) (closed_place n (kept_at kept n) (link_at a.0 n) a.1 (st.places n))
    ∙ ap (λ (xs : List ℕ). closing_text_at n (link_at a.0 n) a.1 ++ xs) (closed kept a st (n + 1) count)

pub summed_up : (kept : KeptWorld) (plan : DrillPlan) (steps : List Step) → Ran kept plan steps → closing_lines kept 1 64 ≡ last_lines plan steps
unfolding Ran
summed_up kept plan steps ran = closed kept (world_run plan steps) ran.stands 1 64

-- one link more
pub closes_on : (kept : KeptWorld) (n left more : ℕ) (text now all : List ℕ) → left ≡ suc more → text ++ closing_lines kept n left ≡ all
    → now ≡ text ++ place_closing n (kept_at kept n) → now ++ closing_lines kept (n + 1) more ≡ all
closes_on kept n left more text now all is so_far shows =
    ap (λ (xs : List ℕ). xs ++ closing_lines kept (n + 1) more) shows
    ∙ append_assoc text (place_closing n (kept_at kept n)) (closing_lines kept (n + 1) more)
    ∙ ap (λ (xs : List ℕ). text ++ xs) (sym (closing_suc kept n more) ∙ ap (closing_lines kept n) (sym is))
    ∙ so_far

-- no link more
pub closes : (kept : KeptWorld) (n left : ℕ) (text all : List ℕ) → left ≡ 0 → text ++ closing_lines kept n left ≡ all → text ≡ all
closes kept n left text all is so_far =
    sym (append-nil text) ∙ ap (λ (xs : List ℕ). text ++ xs) (sym (closing_zero kept n)) ∙ ap (λ k. text ++ closing_lines kept n k) (sym is) ∙ so_far
