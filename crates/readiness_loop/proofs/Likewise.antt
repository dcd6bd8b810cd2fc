-- A cut in a loop over ends as they are kept is one in the loop over ends of the end model.
use Rattle.std.proofs.Common.{◌≡◌, List, [], ◌∷◌, ◌++◌, None, length, sym, ◌∙◌, ap, subst}
use Rattle.rand_core.specs.Stream.{Stream}
use Rattle.er_settings.specs.Ranges.{AllAllowed}
use Rattle.er_end.specs.KeptEnds.{KEnd}
use Rattle.er_users.specs.Users.{Mind}
use Rattle.loop_model.specs.Ends.{ModelEnd, model_ends}
use Rattle.loop_model.specs.Deeds.{signs}
use Rattle.loop_model.specs.Outs.{Out, acts}
use Rattle.loop_model.specs.Loops.{Plan, Course, Turn, beginning, went}
use Rattle.loop_session.specs.Keeping.{kept_ends}
use Rattle.loop_session.specs.Standing.{RunsAlike}
use Rattle.readiness_loop.specs.Cuts.{Cut, LiesIn, cut_behind_part, LiesInRun}
use Rattle.readiness_loop.proofs.Sweeps.{after}
use Rattle.readiness_loop.proofs.Cutting.{lies_as}
use Rattle.readiness_loop.proofs.Planned.{many, run_many, lies_acts}
use Rattle.readiness_loop.proofs.Running.{acts_last}

-- ---- lists

tail_of : {A : Type 0} → List A → List A
tail_of [] = []
tail_of (x ∷ xs) = xs

first_of : {A : Type 0} → List A → List A
first_of [] = []
first_of (x ∷ xs) = x ∷ []

pub cancel : {A : Type 0} (xs ys zs : List A) → xs ++ ys ≡ xs ++ zs → ys ≡ zs
unfolding tail_of
cancel [] ys zs p = p
cancel (x ∷ xs) ys zs p = cancel xs ys zs (ap tail_of p)

-- one part the same, and both together: so is the other
pub rest_same : {A : Type 0} (xs ys zs ws : List A) → xs ≡ ys → xs ++ zs ≡ ys ++ ws → zs ≡ ws
rest_same xs ys zs ws p q = cancel ys zs ws (ap (λ t. t ++ zs) (sym p) ∙ q)

-- ---- both

-- the same events, calls, order and halt
pub record Same (a : Out (Course KEnd)) (b : Out (Course ModelEnd)) : Type 0 where
  pub entries : a.entries ≡ b.entries
  pub calls : a.calls ≡ b.calls
  pub order : a.order ≡ b.order
  pub halt : a.state.halt ≡ b.state.halt

-- whatever turns follow
abbrev pub AlwaysSame : Plan → Course KEnd → Course ModelEnd → Type 0
AlwaysSame plan c d = (turns : List Turn) → Same (acts (went kept_ends plan) c turns) (acts (went model_ends plan) d turns)

pub same_as : (a a' : Out (Course KEnd)) (b b' : Out (Course ModelEnd)) → a ≡ a' → b ≡ b' → Same a b → Same a' b'
same_as a a' b b' p q s = subst (λ z. Same z b') p (subst (λ z. Same a z) q s)

pub step_same : (plan : Plan) (c : Course KEnd) (d : Course ModelEnd) → AlwaysSame plan c d → (turns : List Turn) (x : Turn)
    → Same (went kept_ends plan (acts (went kept_ends plan) c turns).state x) (went model_ends plan (acts (went model_ends plan) d turns).state x)
step_same plan c d same turns x =
    let a = acts (went kept_ends plan) c turns in
    let b = acts (went model_ends plan) d turns in
    let v = went kept_ends plan a.state x in
    let w = went model_ends plan b.state x in
    let both : Same (after a v) (after b w) = same_as _ (after a v) _ (after b w) (acts_last kept_ends plan c turns x) (acts_last model_ends plan d turns x) (same (turns ++ x ∷ [])) in
    record {
      entries = rest_same a.entries b.entries v.entries w.entries (same turns).entries both.entries;
      calls = rest_same a.calls b.calls v.calls w.calls (same turns).calls both.calls;
      order = rest_same a.order b.order v.order w.order (same turns).order both.order;
      halt = both.halt;
    }

pub behind_as : {S T : Type 0} (a : Out S) (b : Out T) (cut : Cut) → a.order ≡ b.order → cut_behind_part a cut ≡ cut_behind_part b cut
behind_as a b cut p = ap (λ z. signs z ++ cut) p

-- a cut of the one is a cut of the other
unfoldable pub lies_in_run : (plan : Plan) (c : Course KEnd) (d : Course ModelEnd) → AlwaysSame plan c d → (cut : Cut) → LiesInRun kept_ends plan c cut → LiesInRun model_ends plan d cut
lies_in_run plan c d same cut l =
    let a = acts (went kept_ends plan) c l.turns in
    let b = acts (went model_ends plan) d l.turns in
    let first = run_many kept_ends plan c l.turns in
    let goes : a.state.halt ≡ None = subst (λ (z : Out (Course KEnd)). z.state.halt ≡ None) first l.goes_on in
    let on : b.state.halt ≡ None = sym (same l.turns).halt ∙ goes in
    lies_acts model_ends plan d cut l.turns l.fewer on l.last l.rest
    (lies_as (went kept_ends plan a.state l.last) (went model_ends plan b.state l.last) l.rest (step_same plan c d same l.turns l.last).order
    (subst (λ (z : Out (Course KEnd)). LiesIn (went kept_ends plan z.state l.last) l.rest) first l.lies))
    (subst (λ (z : Out (Course KEnd)). cut ≡ cut_behind_part z l.rest) first l.is ∙ behind_as a b l.rest (same l.turns).order)

-- a loop that begins
pub begin_same : RunsAlike → (plan : Plan) (minds : List Mind) (words : Stream) → AllAllowed plan.settings → AlwaysSame plan (beginning minds words) (beginning minds words)
begin_same alike plan minds words allowed turns =
    let a = alike (many plan (length turns)) minds words turns allowed in
    same_as _ (acts (went kept_ends plan) (beginning minds words) turns) _ (acts (went model_ends plan) (beginning minds words) turns)
    (run_many kept_ends plan (beginning minds words) turns) (run_many model_ends plan (beginning minds words) turns)
    (record { entries = a.entries; calls = a.calls; order = a.order; halt = a.halt })
