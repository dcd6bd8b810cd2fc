-- What a loop does is the same however many turns are planned, but for how many it does.
use Rattle.std.proofs.Common.{◌≡◌, ℕ, zero, suc, ◌<◌, nat_lt, Bool, true, false, List, [], ◌∷◌, Option, Some, None, length, refl, sym, ◌∙◌, ap, subst, arith}
use Rattle.trace_model.specs.Checks.{most_live}
use Rattle.std.specs.Prelude.{if◌then◌else◌}
use Rattle.er_trace.specs.declared.event.Event.TheVariants as event
use Rattle.er_users.specs.Users.{Mind}
use Rattle.link_trait.specs.declared.wires.Happening.{Happening}
use Rattle.link_trait.specs.declared.wires.Happening.TheVariants as happening
use Rattle.loop_model.specs.Ends.{EndOps}
use Rattle.loop_model.specs.Outs.{Out, next, changed, acts, exactly}
use Rattle.loop_model.specs.Visits.{Met}
use Rattle.loop_model.specs.Loops.{Plan, Loop, Halt, Course, Turn, Caller, turned_away, next_user, halt_by, halt_behind, nothing_comes, answered_by, accepted, called_by, called, opens, happened, readied, turn, turned_unless, went_unless, went, run}
use Rattle.readiness_loop.specs.Cuts.{Cut, LiesIn, cut_behind_part, LiesInRun}
use Rattle.readiness_loop.proofs.Sweeps.{after}

pub exactly_all : (n : ℕ) (xs : List Turn) → length xs ≡ n → exactly n nothing_comes xs ≡ xs
unfolding exactly
exactly_all zero [] p = refl
exactly_all zero (x ∷ xs) p = absurd (let q : length (x ∷ xs) ≡ 0 = p in omega (arith, q))
exactly_all (suc n) [] p = absurd (let q : 0 ≡ suc n = p in omega (arith, q))
exactly_all (suc n) (x ∷ xs) p = ap (λ z. x ∷ z) (exactly_all n xs (let q : length (x ∷ xs) ≡ suc n = p in omega (arith, q)))

-- the same plan, but for the number of turns
abbrev pub many : Plan → ℕ → Plan
many plan n = record plan { turns = n }

module _ {E : Type 0} (o : EndOps E) where
  answered_many : (user : Option Mind) (memory : Bool) (plan : Plan) (n : ℕ) (l : Loop E) (conn : ℕ) → answered_by o user memory (many plan n) l conn ≡ answered_by o user memory plan l conn
  answered_many None memory plan n l conn = refl
  answered_many (Some mind) true plan n l conn = refl
  answered_many (Some mind) false plan n l conn = refl

  accepted_many : (plan : Plan) (n : ℕ) (l : Loop E) (conn : ℕ) (memory : Bool) → accepted o (many plan n) l conn memory ≡ accepted o plan l conn memory
  unfolding accepted
  accepted_many plan n l conn memory =
      ap (λ (z : Out (Loop E)). if nat_lt (length l.sessions) most_live then z else turned_away l conn (event.Full most_live)) (answered_many (next_user l.users) memory plan n l conn)

  followed_many : (what : Happening) (plan : Plan) (n : ℕ) (c : Course E) (a : Met)
      → changed (λ (l : Loop E). let d : Course E = record c { loop = l; halt = halt_behind (many plan n) what l.sessions } in d) (happened o (many plan n) c.loop what a)
      ≡ changed (λ (l : Loop E). let d : Course E = record c { loop = l; halt = halt_behind plan what l.sessions } in d) (happened o plan c.loop what a)
  unfolding happened
  followed_many (happening.Accepted conn) plan n c a =
      ap (λ (z : Out (Loop E)). changed (λ (l : Loop E). let d : Course E = record c { loop = l; halt = halt_by plan l.sessions } in d) z) (accepted_many plan n c.loop conn.0 a.memory)
  followed_many (happening.Readable conn) plan n c a = refl
  followed_many (happening.Writable conn) plan n c a = refl
  followed_many happening.Quiet plan n c a = refl
  followed_many happening.Ended plan n c a = refl
  followed_many happening.Failed plan n c a = refl

  turned_many : (h : Option Halt) (plan : Plan) (n : ℕ) (c : Course E) (a : Turn) → turned_unless o h (many plan n) c a ≡ turned_unless o h plan c a
  turned_many (Some why) plan n c a = refl
  turned_many None plan n c a = ap (after (turn o c a)) (followed_many a.happening plan n (turn o c a).state a.met)

  went_many : (h : Option Halt) (plan : Plan) (n : ℕ) (c : Course E) (a : Turn) → went_unless o h (many plan n) c a ≡ went_unless o h plan c a
  unfolding readied
  went_many (Some why) plan n c a = refl
  went_many None plan n c a = ap (after (readied o plan c a)) (turned_many (readied o plan c a).state.halt plan n (readied o plan c a).state a)

  acts_many : (turns : List Turn) (plan : Plan) (n : ℕ) (c : Course E) → acts (went o (many plan n)) c turns ≡ acts (went o plan) c turns
  unfolding acts went
  acts_many [] plan n c = refl
  acts_many (a ∷ turns) plan n c =
      ap (λ (z : Out (Course E)). next z (λ d. acts (went o (many plan n)) d turns)) (went_many c.halt plan n c a)
      ∙ ap (after (went o plan c a)) (acts_many turns plan n (went o plan c a).state)

  -- the loop that is to do just these turns
  pub run_many : (plan : Plan) (c : Course E) (turns : List Turn) → run o (many plan (length turns)) c turns ≡ acts (went o plan) c turns
  unfolding run
  run_many plan c turns = ap (acts (went o (many plan (length turns))) c) (exactly_all (length turns) turns refl) ∙ acts_many turns plan (length turns) c

  called_many : (user : Option Mind) (plan : Plan) (n : ℕ) (caller : Caller) (l : Loop E) (conn : ℕ) (a : Met) → called_by o user (many plan n) caller l conn a ≡ called_by o user plan caller l conn a
  called_many None plan n caller l conn a = refl
  called_many (Some mind) plan n caller l conn a = refl

  pub opens_many : (plan : Plan) (n : ℕ) (caller : Caller) (c : Course E) (conn : ℕ) (a : Met) → opens o (many plan n) caller c conn a ≡ opens o plan caller c conn a
  unfolding called
  opens_many plan n caller c conn a =
      ap (λ (z : Out (Loop E)). changed (λ (l : Loop E). let d : Course E = record c { loop = l; halt = halt_by plan l.sessions } in d) z) (called_many (next_user c.loop.users) plan n caller c.loop conn a)

  unfoldable pub lies_acts : (plan : Plan) (c : Course E) (cut : Cut) (turns : List Turn) → length turns < plan.turns → (acts (went o plan) c turns).state.halt ≡ None → (last : Turn) (rest : Cut)
      → LiesIn (went o plan (acts (went o plan) c turns).state last) rest → cut ≡ cut_behind_part (acts (went o plan) c turns) rest → LiesInRun o plan c cut
  lies_acts plan c cut turns fewer goes last rest lies is = record {
    turns = turns;
    fewer = fewer;
    goes_on = subst (λ (z : Out (Course E)). z.state.halt ≡ None) (sym (run_many plan c turns)) goes;
    last = last;
    rest = rest;
    lies = subst (λ (z : Out (Course E)). LiesIn (went o plan z.state last) rest) (sym (run_many plan c turns)) lies;
    is = subst (λ (z : Out (Course E)). cut ≡ cut_behind_part z rest) (sym (run_many plan c turns)) is;
  }
