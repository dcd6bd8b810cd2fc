-- Passes and takes of a link of the drill are those of its pair, and a tick is a tick of the pair.
use Rattle.std.proofs.Common.{◌≡◌, ℕ, List, [], ◌∷◌, ◌++◌, sym, ap, ◌∙◌}
use Rattle.pair_model.specs.Links.{EndKind, PairLink}
use Rattle.pair_model.specs.Steps.{PairStep, NoFrameWaits, IsPassOrTake, ArePassesAndTakes, pair_step, pair_run}
use Rattle.pair_model.specs.Steps as on_pair
use Rattle.pair_model.specs.Walks.{pair_run_append}
use Rattle.drill_model.specs.Outcomes.{Occurrence}
use Rattle.drill_model.specs.Links.{Link, LinkStep, Pass, Take, Tick, link_step}
use Rattle.drill_model.specs.Recovery.{NoneWaits}
use Rattle.drill_laws.proofs.OneLink.{KeptByPasses, KeptByTakes}
use Rattle.drill_laws.proofs.Wiring.{Level, Acts, Sees}
use Rattle.drill_laws.proofs.Wired.{as_step, step_sees, one_more_sees}

-- passes and takes of the pair lead to this
pub record Given {A : Type 0} (v : Level A) (p : PairLink A) (l : Link) (history : List Occurrence) : Type 0 where
  pub steps : List PairStep
  pub are : ArePassesAndTakes steps
  pub sees : Sees v l history (pair_run v.kind p steps)

one_more : (xs : List PairStep) (s : PairStep) → ArePassesAndTakes xs → IsPassOrTake s → ArePassesAndTakes (xs ++ s ∷ [])
one_more [] s are is = (is, tt)
one_more (x ∷ xs) s are is = (are.0, one_more xs s are.1 is)

module _ {A : Type 0} (v : Level A) (acts : Acts v) where
  goes_given : (p : PairLink A) (l : Link) (history : List Occurrence) (s : LinkStep) → Given v p l history → IsPassOrTake (as_step s)
      → (let x = link_step l s in Given v p x.0 (history ++ x.1))
  goes_given p l history s a is =
      record { steps = a.steps ++ as_step s ∷ []; are = one_more a.steps (as_step s) a.are is; sees = one_more_sees v acts l history p a.steps s a.sees }

  pub passes_kept : (p : PairLink A) → KeptByPasses (Given v p)
  passes_kept p l history side a = goes_given p l history (Pass side) a tt

  pub takes_kept : (p : PairLink A) → KeptByTakes (Given v p)
  takes_kept p l history side a = goes_given p l history (Take side) a tt

  pub tick_kept : (l : Link) (history : List Occurrence) (p : PairLink A) (moment : ℕ) → Sees v l history p
      → (let t = link_step l (Tick moment) in Given v (pair_step v.kind (on_pair.Tick moment) p) t.0 (history ++ t.1))
  tick_kept l history p moment s = record { steps = []; are = tt; sees = step_sees v acts l history p (Tick moment) s }

-- one run behind another, and a step between the second and a third
pub run_through : {A : Type 0} (kind : EndKind A) (p : PairLink A) (xs ys zs : List PairStep) (s : PairStep)
    → pair_run kind p (xs ++ ys ++ s ∷ zs) ≡ pair_run kind (pair_step kind s (pair_run kind (pair_run kind p xs) ys)) zs
run_through kind p xs ys zs s = pair_run_append kind (xs ++ ys) (s ∷ zs) p ∙ ap (λ q. pair_run kind q (s ∷ zs)) (pair_run_append kind xs ys p)

pub none_waits : {A : Type 0} (v : Level A) (l : Link) (history : List Occurrence) (p : PairLink A) → Sees v l history p → NoneWaits l → NoFrameWaits p
none_waits v l history p s none = (sym s.from_e_is ∙ none.0, sym s.from_r_is ∙ none.1)
