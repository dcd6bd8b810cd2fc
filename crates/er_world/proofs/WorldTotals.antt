-- The totals of a world are the counts of its links.
use Rattle.std.proofs.Common.{◌≡◌, ℕ, zero, suc, ◌+◌, ◌-◌, ◌^◌, min, List, Option, Some, None, refl, sym, ap, ◌∙◌, arith}
use Rattle.er_scenario.specs.declared.step.Step.{Step}
use Rattle.drill_model.specs.declared.totals.Totals.{Totals}
use Rattle.drill_model.specs.Outcomes.{Occurrence}
use Rattle.drill_model.specs.Links.{Link}
use Rattle.drill_model.specs.Worlds.{DrillPlan, World, Came, link_at, history_on, world_run}
use Rattle.drill_model.specs.Kinds.{deliveries}
use Rattle.drill_model.specs.Totals.{count_of_sends, acceptances, losses, repeats, sum_from, totals_of}
use Rattle.er_world.specs.declared.link.Link.{Link as KeptLink}
use Rattle.er_world.specs.Counts.{saturated, no_totals, sum, counts_of}
use Rattle.er_world.specs.Standing.{KeptWorld, StandsPlace, StandsWorld, Ran, kept_at}
use Rattle.er_world.specs.WorldSteps.{place_totals, summed}
use Rattle.er_world.proofs.Counting.{totals, alike}

-- the counts of a link are those of what came at it
place_counts : (place : Option KeptLink) (o : Option Link) (history : List Occurrence) → StandsPlace place o history → place_totals place ≡ counts_of history
place_counts None None history st = ap counts_of (sym st)
place_counts None (Some l) history st = absurd st
place_counts (Some kept) None history st = absurd st
place_counts (Some kept) (Some l) history st = st.totals

-- so many of each, each at most 2^64 - 1
abbrev capped : ℕ → ℕ → ℕ → ℕ → ℕ → Totals
capped a b c d e = totals (min a (2 ^ 64 - 1)) (min b (2 ^ 64 - 1)) (min c (2 ^ 64 - 1)) (min d (2 ^ 64 - 1)) (min e (2 ^ 64 - 1))

both_capped : (n m : ℕ) → saturated (min n (2 ^ 64 - 1)) (min m (2 ^ 64 - 1)) ≡ min (n + m) (2 ^ 64 - 1)
both_capped n m = omega arith

more_capped : (a b c d e : ℕ) (history : List Occurrence)
    → sum (capped a b c d e) (counts_of history)
    ≡ capped (a + count_of_sends history) (b + acceptances history) (c + deliveries history) (d + losses history) (e + repeats history)
more_capped a b c d e history =
    alike _ _ _ _ _ _ _ _ _ _ (both_capped a (count_of_sends history)) (both_capped b (acceptances history)) (both_capped c (deliveries history))
    (both_capped d (losses history)) (both_capped e (repeats history))

module _ (kept : KeptWorld) (w : World) (came : List Came) (st : StandsWorld kept w came) where
  abbrev summed_so : ℕ → ℕ → Type 0
  summed_so n count =
      (a b c d e : ℕ) → summed kept n count (capped a b c d e)
      ≡ capped (a + sum_from count_of_sends came n count) (b + sum_from acceptances came n count) (c + sum_from deliveries came n count)
      (d + sum_from losses came n count) (e + sum_from repeats came n count)

  alike_capped : (a b c d e f g h i j : ℕ) → a ≡ f → b ≡ g → c ≡ h → d ≡ i → e ≡ j → capped a b c d e ≡ capped f g h i j
  alike_capped a b c d e f g h i j p q r s t = rw (p, q, r, s, t) refl

  summed_is : (n count : ℕ) → summed_so n count
  unfolding summed sum_from
  summed_is n zero = λ a b c d e.
      alike_capped _ _ _ _ _ _ _ _ _ _ (nothing a) (nothing b) (nothing c) (nothing d) (nothing e)
    where
      nothing : (a : ℕ) → a ≡ a + 0
      nothing a = omega arith
  summed_is n (suc count) = λ a b c d e.
      let h : List Occurrence = history_on n came in
      let first : sum (capped a b c d e) (place_totals (kept_at kept n)) ≡ capped (a + count_of_sends h) (b + acceptances h) (c + deliveries h) (d + losses h) (e + repeats h) =
      ap (sum (capped a b c d e)) (place_counts (kept_at kept n) (link_at w n) h (st.places n)) ∙ more_capped a b c d e h in
      ap (summed kept (n + 1) count) first
      ∙ summed_is (n + 1) count (a + count_of_sends h) (b + acceptances h) (c + deliveries h) (d + losses h) (e + repeats h)
      ∙ alike_capped _ _ _ _ _ _ _ _ _ _
      (apart a (count_of_sends h) (sum_from count_of_sends came (n + 1) count)) (apart b (acceptances h) (sum_from acceptances came (n + 1) count))
      (apart c (deliveries h) (sum_from deliveries came (n + 1) count)) (apart d (losses h) (sum_from losses came (n + 1) count))
      (apart e (repeats h) (sum_from repeats came (n + 1) count))
    where
      apart : (a b c : ℕ) → (a + b) + c ≡ a + (b + c)
      apart a b c = omega arith

  all_summed : summed kept 1 64 no_totals ≡ totals_of came
  all_summed =
      summed_is 1 64 0 0 0 0 0
      ∙ alike_capped _ _ _ _ _ _ _ _ _ _ (from_none (sum_from count_of_sends came 1 64)) (from_none (sum_from acceptances came 1 64))
      (from_none (sum_from deliveries came 1 64)) (from_none (sum_from losses came 1 64)) (from_none (sum_from repeats came 1 64))
    where
      from_none : (n : ℕ) → 0 + n ≡ n
      from_none n = omega arith

-- the totals of a run
pub totals_ran : (kept : KeptWorld) (plan : DrillPlan) (steps : List Step) → Ran kept plan steps → summed kept 1 64 no_totals ≡ totals_of (world_run plan steps).1
unfolding Ran
totals_ran kept plan steps ran = let a : World × List Came = world_run plan steps in all_summed kept a.0 a.1 ran.stands

-- one link more
pub sums_on : (kept : KeptWorld) (n left more : ℕ) (so_far now all : Totals) → left ≡ suc more → summed kept n left so_far ≡ all
    → now ≡ sum so_far (place_totals (kept_at kept n)) → summed kept (n + 1) more now ≡ all
unfolding summed
sums_on kept n left more so_far now all is before shows = ap (summed kept (n + 1) more) shows ∙ ap (λ k. summed kept n k so_far) (sym is) ∙ before

-- no link more
pub sums_up : (kept : KeptWorld) (n left : ℕ) (so_far all : Totals) → left ≡ 0 → summed kept n left so_far ≡ all → so_far ≡ all
unfolding summed
sums_up kept n left so_far all is before = ap (λ k. summed kept n k so_far) (sym is) ∙ before
