-- A turn of a loop that goes on, and of one that has halted.
use Rattle.loop_model.specs.Ends.{ModelEnd, model_ends}
use Rattle.std.proofs.Common.{◌≡◌, List, [], ◌∷◌, Option, Some, None, refl, ◌∙◌, ap}
use Rattle.loop_model.specs.Outs.{Out, still, next, acts}
use Rattle.loop_model.specs.Loops.{Plan, Halt, Course, Turn, readied, turned_unless, went_unless, went}

pub went_goes : (plan : Plan) (c : Course ModelEnd) (a : Turn) → c.halt ≡ None → (readied model_ends plan c a).state.halt ≡ None
    → went model_ends plan c a ≡ next (readied model_ends plan c a) (λ d. turned_unless model_ends None plan d a)
unfolding went
went_goes plan c a going on =
    let d = readied model_ends plan c a in
    ap (λ (z : Option Halt). went_unless model_ends z plan c a) going ∙ ap (λ (z : Option Halt). next d (λ e. turned_unless model_ends z plan e a)) on

pub went_halted : (plan : Plan) (c : Course ModelEnd) (a : Turn) (halt : Halt) → c.halt ≡ Some halt → went model_ends plan c a ≡ still c
unfolding went
went_halted plan c a halt is = ap (λ (z : Option Halt). went_unless model_ends z plan c a) is

pub acts_halted : (plan : Plan) (turns : List Turn) (c : Course ModelEnd) (halt : Halt) → c.halt ≡ Some halt → acts (went model_ends plan) c turns ≡ still c
unfolding acts
acts_halted plan [] c halt is = refl
acts_halted plan (a ∷ turns) c halt is =
    ap (λ (z : Out (Course ModelEnd)). next z (λ d. acts (went model_ends plan) d turns)) (went_halted plan c a halt is) ∙ acts_halted plan turns c halt is
