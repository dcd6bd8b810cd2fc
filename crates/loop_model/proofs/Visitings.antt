-- Before a turn each live connection is visited; behind it the one at which something happened.
use Rattle.loop_model.specs.Ends.{ModelEnd, model_ends}
use Rattle.std.proofs.Common.{◌≡◌, ℕ, ◌<◌, max, inl, inr, List, [], ◌∷◌, ◌++◌, drop, Option, Some, None, refl, ◌∙◌, ap, subst, append-nil, append_assoc, arith}
use Rattle.std.specs.Prelude.{◌==◌}
use Rattle.std.proofs.lemmas.Bool.{cases_Bool}
use Rattle.link_trait.specs.Wires.{Turns}
use Rattle.link_trait.specs.declared.wires.Happening.{Happening}
use Rattle.link_trait.specs.declared.wires.Happening.TheVariants.{Accepted, Readable, Writable, Quiet, Ended, Failed}
use Rattle.loop_model.specs.Outs.{Out, still, next, changed, first_answer_of}
use Rattle.loop_model.specs.Sessions.{Rules, Session}
use Rattle.loop_model.specs.Visits.{Met, nothing_met, Visit, Tick, Read, Write, visited}
use Rattle.loop_model.specs.Loops.{Plan, rules_of, Loop, visit_at, numbers, swept, until, visited_at, happened, Halt, Course, asks, Turn, readied, turned_unless, went_unless, went}
use Rattle.loop_model.specs.Parts.{session_of_connection, Rises}
use Rattle.loop_model.specs.Writings.{expired, unexpired}
use Rattle.loop_model.specs.Visitings.{all_ticked, IsReadied, replaced, IsUnvisited, IsVisitedIf, FollowsSo, TurnsVisit}
use Rattle.loop_model.proofs.Steadies.{left_visited}
use Rattle.loop_model.proofs.Lives.{Own}
use Rattle.loop_model.proofs.Orders.{own_calls, UpTo, up_to_more}
use Rattle.loop_model.proofs.Ticking.{visit_skip, visit_here, up_to_two, left_up_to}
use Rattle.loop_model.proofs.Untils.{expired_are_closed}

-- ---- before a turn

module _ (r : Rules) (m : ℕ) where
  swept_is : (ss pre : List (Session ModelEnd)) (top : ℕ) (answers : List Met) → UpTo top (numbers pre) → Rises top (numbers ss)
      → swept (visited model_ends r m Tick) (numbers ss) (pre ++ ss) answers ≡ changed (λ now. pre ++ now) (all_ticked r m ss answers)
  unfolding swept all_ticked
  swept_is [] pre top answers p q = refl
  swept_is (s ∷ ss) pre top answers p q =
      let f = visited model_ends r m Tick in
      let a = first_answer_of nothing_met answers in
      let o = f s a in
      let t = all_ticked r m ss (drop 1 answers) in
      let above : top < s.number = q.0 in
      let at : visit_at f s.number (pre ++ s ∷ ss) a ≡ changed (λ now. pre ++ (now ++ ss)) o =
      visit_skip f top s.number pre (s ∷ ss) a p above ∙ ap (λ z. changed (λ now. pre ++ now) z) (visit_here f s ss a) in
      let up : UpTo s.number (numbers (pre ++ o.state)) =
      up_to_two s.number pre o.state (up_to_more top s.number (numbers pre) (omega arith) p) (left_up_to s o.state o.entries o.calls (left_visited r Own (own_calls r) Tick m s a)) in
      let rest : swept f (numbers ss) (pre ++ (o.state ++ ss)) (drop 1 answers) ≡ changed (λ now. (pre ++ o.state) ++ now) t =
      subst (λ z. swept f (numbers ss) z (drop 1 answers) ≡ changed (λ now. (pre ++ o.state) ++ now) t) (append_assoc pre o.state ss)
      (swept_is ss (pre ++ o.state) s.number (drop 1 answers) up q.1) in
      ap (λ (z : Out (List (Session ModelEnd))). next z (λ now. swept f (numbers ss) now (drop 1 answers))) at
      ∙ ap (λ (z : Out (List (Session ModelEnd))). record { state = z.state; entries = o.entries ++ z.entries; calls = o.calls ++ z.calls; order = o.order ++ z.order }) rest
      ∙ ap (λ (z : List (Session ModelEnd)). record { state = z; entries = o.entries ++ t.entries; calls = o.calls ++ t.calls; order = o.order ++ t.order }) (append_assoc pre o.state t.state)

is_readied : (plan : Plan) (c : Course ModelEnd) (a : Turn) → Rises 0 (numbers c.loop.sessions) → IsReadied plan c a
unfolding readied UpTo
is_readied plan c a rises =
    let r = rules_of plan in
    let m = max c.loop.moment a.first in
    let is = swept_is r m c.loop.sessions [] 0 a.sweeps.ticks tt rises in
    record {
      entries = expired_are_closed.entries r m c.loop.sessions a.sweeps rises ∙ ap (λ (z : Out (List (Session ModelEnd))). z.entries) is;
      calls = expired_are_closed.calls r m c.loop.sessions a.sweeps rises ∙ ap (λ (z : Out (List (Session ModelEnd))). z.calls ++ expired m z.state) is;
      sessions = expired_are_closed.state r m c.loop.sessions a.sweeps rises ∙ ap (λ (z : Out (List (Session ModelEnd))). unexpired m z.state) is;
    }

-- ---- behind a turn

pub visit_one : (f : Session ModelEnd → Met → Out (List (Session ModelEnd))) (n : ℕ) (ss : List (Session ModelEnd)) (s : Session ModelEnd) (a : Met) → session_of_connection n ss ≡ Some s
    → visit_at f n ss a ≡ changed (λ now. replaced n now ss) (f s a)
unfolding visit_at session_of_connection replaced
visit_one f n [] s a e = absurd (let x : ⊥ = cc in x)
visit_one f n (t ∷ ss) s a e =
    elim (cases_Bool (t.number == n)) [
      | inl p ↦
          let g : Some t ≡ Some s = rw p at e in
          let h : t ≡ s = cc in
          rw p (ap (λ z. changed (λ now. now ++ ss) (f z a)) h)
      | inr p ↦ rw p (ap (λ z. changed (λ now. t ∷ now) z) (visit_one f n ss s a (rw p at e)))
    ]

visit_no : (f : Session ModelEnd → Met → Out (List (Session ModelEnd))) (n : ℕ) (ss : List (Session ModelEnd)) (a : Met) → session_of_connection n ss ≡ None → visit_at f n ss a ≡ still ss
unfolding visit_at session_of_connection
visit_no f n [] a e = refl
visit_no f n (t ∷ ss) a e =
    elim (cases_Bool (t.number == n)) [
      | inl p ↦ absurd (let g : Some t ≡ None = rw p at e in let x : ⊥ = cc in x)
      | inr p ↦ rw p (ap (λ z. changed (λ now. t ∷ now) z) (visit_no f n ss a (rw p at e)))
    ]

-- a turn that comes, with what follows it
abbrev whole : Plan → Course ModelEnd → Turn → Out (Loop ModelEnd) → Out (Course ModelEnd) → Type 0
whole plan c a o w =
    let d = readied model_ends plan c a in
    (w.entries ≡ d.entries ++ o.entries) × (w.calls ≡ d.calls ++ Turns (until model_ends d.state.loop.sessions) a.happening ∷ o.calls) × (w.state.loop.sessions ≡ o.state.sessions)

turned_is : (halt : Option Halt) (plan : Plan) (c : Course ModelEnd) (a : Turn) → halt ≡ None
    → let d = readied model_ends plan c a in
    whole plan c a (happened model_ends plan (asks a.second d.state).loop a.happening a.met) (next d (λ e. turned_unless model_ends halt plan e a))
turned_is (Some halt) plan c a p = absurd (let x : ⊥ = cc in x)
turned_is None plan c a p = (refl, refl, refl)

went_is : (halt : Option Halt) (plan : Plan) (c : Course ModelEnd) (a : Turn) → halt ≡ None → (readied model_ends plan c a).state.halt ≡ None
    → whole plan c a (happened model_ends plan (asks a.second (readied model_ends plan c a).state).loop a.happening a.met) (went_unless model_ends halt plan c a)
went_is (Some halt) plan c a p q = absurd (let x : ⊥ = cc in x)
went_is None plan c a p q = turned_is (readied model_ends plan c a).state.halt plan c a q

-- what happened, in its own words
abbrev HappenedSo : Plan → Course ModelEnd → Turn → Happening → Type 0
HappenedSo plan c a what = whole plan c a (happened model_ends plan (asks a.second (readied model_ends plan c a).state).loop what a.met) (went model_ends plan c a)

visited_so : (plan : Plan) (c : Course ModelEnd) (a : Turn) (visit : Visit) (conn : ℕ) (found : Option (Session ModelEnd))
    → session_of_connection conn (readied model_ends plan c a).state.loop.sessions ≡ found
    → whole plan c a (visited_at model_ends plan (asks a.second (readied model_ends plan c a).state).loop visit conn a.met) (went model_ends plan c a)
    → IsVisitedIf plan c a visit conn found
visited_so plan c a visit conn None e w =
    let d = readied model_ends plan c a in
    let l = (asks a.second d.state).loop in
    let is = visit_no (visited model_ends (rules_of plan) l.moment visit) conn l.sessions a.met e in
    record {
      entries = w.0 ∙ ap (λ (z : Out (List (Session ModelEnd))). d.entries ++ z.entries) is ∙ append-nil d.entries;
      calls = w.1 ∙ ap (λ (z : Out (List (Session ModelEnd))). d.calls ++ Turns (until model_ends d.state.loop.sessions) a.happening ∷ z.calls) is;
      sessions = w.2 ∙ ap (λ (z : Out (List (Session ModelEnd))). z.state) is;
    }
visited_so plan c a visit conn (Some s) e w =
    let d = readied model_ends plan c a in
    let l = (asks a.second d.state).loop in
    let is = visit_one (visited model_ends (rules_of plan) l.moment visit) conn l.sessions s a.met e in
    record {
      entries = w.0 ∙ ap (λ (z : Out (List (Session ModelEnd))). d.entries ++ z.entries) is;
      calls = w.1 ∙ ap (λ (z : Out (List (Session ModelEnd))). d.calls ++ Turns (until model_ends d.state.loop.sessions) a.happening ∷ z.calls) is;
      sessions = w.2 ∙ ap (λ (z : Out (List (Session ModelEnd))). z.state) is;
    }

nothing_so : (plan : Plan) (c : Course ModelEnd) (a : Turn)
    → whole plan c a (still (asks a.second (readied model_ends plan c a).state).loop) (went model_ends plan c a) → IsUnvisited plan c a
nothing_so plan c a w = record { entries = w.0 ∙ append-nil (readied model_ends plan c a).entries; calls = w.1; sessions = w.2 }

follows_so : (plan : Plan) (c : Course ModelEnd) (a : Turn) (what : Happening) → HappenedSo plan c a what → FollowsSo plan c a what
unfolding happened
follows_so plan c a (Accepted conn) w = tt
follows_so plan c a (Readable conn) w = visited_so plan c a Read conn.0 (session_of_connection conn.0 (readied model_ends plan c a).state.loop.sessions) refl w
follows_so plan c a (Writable conn) w = visited_so plan c a Write conn.0 (session_of_connection conn.0 (readied model_ends plan c a).state.loop.sessions) refl w
follows_so plan c a Quiet w = nothing_so plan c a w
follows_so plan c a Ended w = nothing_so plan c a w
follows_so plan c a Failed w = nothing_so plan c a w

pub turns_visit : TurnsVisit
unfolding went
turns_visit = record {
  before = is_readied;
  behind = λ plan c a live on. follows_so plan c a a.happening (went_is c.halt plan c a live on);
}
