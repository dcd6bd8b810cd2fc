-- A run of turns, turn by turn.
use Rattle.er_end.specs.KeptEnds.{KEnd}
use Rattle.loop_session.specs.Keeping.{kept_ends}
use Rattle.std.proofs.Common.{◌≡◌, ℕ, zero, suc, ◌+◌, ◌-◌, ◌<◌, ◌≤◌, List, [], ◌∷◌, ◌++◌, Option, Some, None, Ok, Err, length, refl, sym, ◌∙◌, ap, subst, arith, append-nil, append_assoc, length-append}
use Rattle.link_trait.specs.Outside.{Rose}
use Rattle.link_trait.specs.Growth.{grew_nothing, grew_then}
use Rattle.loop_model.specs.Ends.{EndOps}
use Rattle.loop_model.specs.Outs.{Out, still, next, acts, exactly}
use Rattle.loop_model.specs.Loops.{Plan, Loop, Halt, OnFailed, Course, Turn, went, went_unless, run, nothing_comes}
use Rattle.loop_model.specs.Parts.{opened_in, opened_by, Rises, newest}
use Rattle.loop_session.specs.declared.loop_fault.LoopFault.{LoopFault}
use Rattle.loop_session.specs.declared.loop_fault.LoopFault.TheVariants.{Wires, Sink, NoMemory}
use Rattle.loop_io.specs.Acting.{BeganDeeds}
use Rattle.loop_io.specs.DeedSteps.{began_behind}
use Rattle.readiness_loop.specs.declared.live_loop.Next.{Next}
use Rattle.readiness_loop.specs.Cuts.{cut_behind_part, LiesIn}
use Rattle.readiness_loop.specs.Courses.{Around, HasComeFromCourse, Went, WentOff, LiesInTurn, RanOff, Turns, Runs, course_of, halt_of}
use Rattle.readiness_loop.proofs.Cutting.{broke_behind}
use Rattle.readiness_loop.proofs.Planned.{exactly_all, run_many, lies_acts}
use Rattle.readiness_loop.proofs.Sequences.{acted_still, acted_then}
use Rattle.readiness_loop.proofs.Openings.{opened_in-append}
use Rattle.readiness_loop.proofs.Sweeps.{after, after_after}

-- so many turns were done, and the loop goes on
pub record RanSome (plan : Plan) (a b : Around) (c : Course KEnd) (l : Loop KEnd) (n many : ℕ) : Type 0 where
  pub answers : List Turn
  pub count : length answers ≡ many
  pub is : HasComeFromCourse a b c l n None (acts (went kept_ends plan) c answers)

pub acts-append : {S A : Type 0} (f : S → A → Out S) (s : S) (xs ys : List A) → acts f s (xs ++ ys) ≡ next (acts f s xs) (λ t. acts f t ys)
unfolding acts
acts-append f s [] ys = refl
acts-append f s (x ∷ xs) ys =
    let o = f s x in
    ap (after o) (acts-append f o.state xs ys) ∙ after_after o (acts f o.state xs) (acts f (acts f o.state xs).state ys)

pub acts_one : {S A : Type 0} (f : S → A → Out S) (s : S) (x : A) → acts f s (x ∷ []) ≡ f s x
unfolding acts
acts_one f s x = let o = f s x in rw (append-nil o.entries, append-nil o.calls, append-nil o.order) refl

-- one turn more
pub acts_last : {E : Type 0} (o : EndOps E) (plan : Plan) (c : Course E) (turns : List Turn) (x : Turn)
    → let a = acts (went o plan) c turns in acts (went o plan) c (turns ++ x ∷ []) ≡ after a (went o plan a.state x)
acts_last o plan c turns x =
    let a = acts (went o plan) c turns in
    acts-append (went o plan) c turns (x ∷ []) ∙ ap (after a) (acts_one (went o plan) a.state x)

-- where the loop has halted, nothing comes any more
halted_went : {E : Type 0} (o : EndOps E) (plan : Plan) (c : Course E) (why : Halt) (x : Turn) → c.halt ≡ Some why → went o plan c x ≡ still c
unfolding went
halted_went o plan c why x p = ap (λ h. went_unless o h plan c x) p

pub halted_acts : {E : Type 0} (o : EndOps E) (plan : Plan) (c : Course E) (why : Halt) (xs : List Turn) → c.halt ≡ Some why → acts (went o plan) c xs ≡ still c
unfolding acts
halted_acts o plan c why [] p = refl
halted_acts {E} o plan c why (x ∷ xs) p =
    subst (λ (z : Out (Course E)). next z (λ t. acts (went o plan) t xs) ≡ still c) (sym (halted_went o plan c why x p)) (halted_acts o plan c why xs p)

exactly_more : (n : ℕ) (xs : List Turn) → length xs ≤ n → exactly n nothing_comes xs ≡ xs ++ exactly (n - length xs) nothing_comes []
unfolding exactly
exactly_more zero [] p = refl
exactly_more zero (x ∷ xs) p = absurd (let q : length (x ∷ xs) ≤ 0 = p in omega (arith, q))
exactly_more (suc n) [] p = (let e : suc n ≡ suc n - 0 = omega arith in ap (λ z. exactly z nothing_comes []) e)
exactly_more (suc n) (x ∷ xs) p =
    (let q : length (x ∷ xs) ≤ suc n = p in
    let e : n - length xs ≡ suc n - length (x ∷ xs) = omega arith in
    ap (λ z. x ∷ z) (exactly_more n xs (omega (arith, q))) ∙ ap (λ z. x ∷ (xs ++ exactly z nothing_comes [])) e)

pub ran_none : (plan : Plan) (a : Around) (l : Loop KEnd) (n : ℕ) (asked : List ℕ) → RanSome plan a a (course_of l n asked) l n 0
unfolding acts opened_in
ran_none plan a l n asked = record {
  answers = [];
  count = refl;
  is = record {
    loop = refl;
    turns = refl;
    halt = refl;
    acted = acted_still a.seen (course_of l n asked) (course_of l n asked) refl;
    more = [];
    asked = sym (append-nil asked);
    answered = grew_nothing a.asked;
    opened = refl;
    rises = tt;
    failed = omega arith;
    listens = refl;
    alone = λ deaf. refl;
  };
}

-- a course that goes on is one of its loop and its turns
pub course_is : (a b : Around) (c : Course KEnd) (l : Loop KEnd) (n : ℕ) (o : Out (Course KEnd)) → HasComeFromCourse a b c l n None o → course_of l n o.state.asked ≡ o.state
course_is a b c l n o p =
    ap (λ (z : Loop KEnd). course_of z n o.state.asked) p.loop
    ∙ ap (λ (z : ℕ). course_of o.state.loop z o.state.asked) p.turns
    ∙ ap (λ (z : Option Halt). let d : Course KEnd = record { loop = o.state.loop; turns = o.state.turns; halt = z; asked = o.state.asked } in d) p.halt

pub newest-append : (from : ℕ) (xs ys : List ℕ) → newest from (xs ++ ys) ≡ newest (newest from xs) ys
newest-append from [] ys = refl
newest-append from (x ∷ xs) ys = newest-append x xs ys

rises-append : (from : ℕ) (xs ys : List ℕ) → Rises from xs → Rises (newest from xs) ys → Rises from (xs ++ ys)
rises-append from [] ys p q = q
rises-append from (x ∷ xs) ys p q = (p.0, rises-append x xs ys p.1 q)

pub after_still : {S : Type 0} (o : Out S) → after o (still o.state) ≡ o
after_still o = rw (append-nil o.entries, append-nil o.calls, append-nil o.order) refl

-- one part, and another behind it
pub came_next : (a m b : Around) (c : Course KEnd) (o : Out (Course KEnd)) (f : Course KEnd → Out (Course KEnd)) (l new : Loop KEnd) (n count : ℕ) (h why : Option Halt)
    → HasComeFromCourse a m c l n h o → HasComeFromCourse m b o.state new count why (f o.state) → HasComeFromCourse a b c new count why (next o f)
came_next a m b c o f l new n count h why p q =
    let w = f o.state in
    let calls_are = opened_in-append o.calls w.calls in
    record {
      loop = q.loop;
      turns = q.turns;
      halt = q.halt;
      acted = acted_then a.seen m.seen b.seen o.state w.state o f p.acted q.acted;
      more = p.more ++ q.more;
      asked = q.asked ∙ ap (λ z. z ++ q.more) p.asked ∙ append_assoc c.asked p.more q.more;
      answered = grew_then a.asked m.asked b.asked p.more q.more p.answered q.answered;
      opened = q.opened ∙ ap (λ z. newest z (opened_in w.calls)) p.opened ∙ sym (newest-append a.newest (opened_in o.calls) (opened_in w.calls)) ∙ ap (newest a.newest) (sym calls_are);
      rises = subst (λ z. Rises a.newest z) (sym calls_are) (rises-append a.newest (opened_in o.calls) (opened_in w.calls) p.rises (subst (λ z. Rises z (opened_in w.calls)) p.opened q.rises));
      failed = (let s : a.turns_failed ≤ m.turns_failed = p.failed in let t : m.turns_failed ≤ b.turns_failed = q.failed in omega (arith, s, t));
      listens = q.listens ∙ p.listens;
      alone = λ deaf. calls_are ∙ ap (λ z. z ++ opened_in w.calls) (p.alone deaf) ∙ q.alone (p.listens ∙ deaf);
    }

-- one turn more
came_more : (plan : Plan) (a m b : Around) (c : Course KEnd) (l new : Loop KEnd) (n count : ℕ) (h : Option Halt) (xs : List Turn) (x : Turn)
    → HasComeFromCourse a m c l n None (acts (went kept_ends plan) c xs)
    → HasComeFromCourse m b (course_of l n (acts (went kept_ends plan) c xs).state.asked) new count h (went kept_ends plan (course_of l n (acts (went kept_ends plan) c xs).state.asked) x)
    → HasComeFromCourse a b c new count h (acts (went kept_ends plan) c (xs ++ x ∷ []))
came_more plan a m b c l new n count h xs x p q =
    let o = acts (went kept_ends plan) c xs in
    let d = course_is a m c l n o p in
    let q' : HasComeFromCourse m b o.state new count h (went kept_ends plan o.state x) =
    subst (λ (z : Course KEnd). HasComeFromCourse m b z new count h (went kept_ends plan z x)) d q in
    let whole : acts (went kept_ends plan) c (xs ++ x ∷ []) ≡ next o (λ t. went kept_ends plan t x) =
    acts-append (went kept_ends plan) c xs (x ∷ []) ∙ ap (after o) (acts_one (went kept_ends plan) o.state x) in
    subst (λ z. HasComeFromCourse a b c new count h z) (sym whole) (came_next a m b c o (λ t. went kept_ends plan t x) l new n count None h p q')

pub ran_more : (plan : Plan) (a m b : Around) (c : Course KEnd) (l new : Loop KEnd) (n count many : ℕ)
    → RanSome plan a m c l n many
    → ((asked : List ℕ) → Went (went kept_ends plan (course_of l n asked)) m b (course_of l n asked) new count None)
    → RanSome plan a b c new count (many + 1)
ran_more plan a m b c l new n count many p q =
    let t = q (acts (went kept_ends plan) c p.answers).state.asked in
    record {
      answers = p.answers ++ t.answers ∷ [];
      count = length-append p.answers (t.answers ∷ []) ∙ (let h = p.count in omega (arith, h));
      is = came_more plan a m b c l new n count None p.answers t.answers p.is t.is;
    }

-- the turn halted: what would follow is nothing
pub ran_halted : (plan : Plan) (a m b : Around) (c : Course KEnd) (l new : Loop KEnd) (n count many : ℕ) (why : Halt)
    → RanSome plan a m c l n many → many + 1 ≤ plan.turns
    → ((asked : List ℕ) → Went (went kept_ends plan (course_of l n asked)) m b (course_of l n asked) new count (Some why))
    → Went (run kept_ends plan c) a b c new count (Some why)
unfolding run
ran_halted plan a m b c l new n count many why p fits q =
    let t = q (acts (went kept_ends plan) c p.answers).state.asked in
    let xs = p.answers ++ t.answers ∷ [] in
    let came = came_more plan a m b c l new n count (Some why) p.answers t.answers p.is t.is in
    let o = acts (went kept_ends plan) c xs in
    let rest = exactly (plan.turns - length xs) nothing_comes [] in
    let few : length xs ≤ plan.turns = (let h = p.count in let k = length-append p.answers (t.answers ∷ []) in omega (arith, h, k, fits)) in
    let done : acts (went kept_ends plan) o.state rest ≡ still o.state = halted_acts kept_ends plan o.state why rest (sym came.halt) in
    let whole : acts (went kept_ends plan) c (exactly plan.turns nothing_comes xs) ≡ o =
    ap (acts (went kept_ends plan) c) (exactly_more plan.turns xs few) ∙ acts-append (went kept_ends plan) c xs rest ∙ ap (after o) done ∙ after_still o in
    record { answers = xs; is = subst (λ z. HasComeFromCourse a b c new count (Some why) z) (sym whole) came }

pub ran_all : (plan : Plan) (a b : Around) (c : Course KEnd) (l : Loop KEnd) (n many : ℕ) → RanSome plan a b c l n many → many ≡ plan.turns
    → Went (run kept_ends plan c) a b c l n None
unfolding run
ran_all plan a b c l n many p is = record {
  answers = p.answers;
  is = subst (λ z. HasComeFromCourse a b c l n None (acts (went kept_ends plan) c z)) (sym (exactly_all plan.turns p.answers (p.count ∙ is))) p.is;
}

pub ran_off : (plan : Plan) (a m b : Around) (c : Course KEnd) (l : Loop KEnd) (n many : ℕ) (fault : LoopFault)
    → RanSome plan a m c l n many → many + 1 ≤ plan.turns
    → ((asked : List ℕ) → WentOff (went kept_ends plan (course_of l n asked)) (LiesInTurn plan m.newest (course_of l n asked)) m b fault)
    → RanOff plan a b c fault
unfolding lies_acts
ran_off plan a m b c l n many fault p fits q =
    let o = acts (went kept_ends plan) c p.answers in
    let t = q o.state.asked in
    record {
      cut = cut_behind_part o t.cut;
      lies = lies_acts kept_ends plan c (cut_behind_part o t.cut) p.answers (let h = p.count in omega (arith, h, fits)) (sym p.is.halt) t.answers t.cut
          (subst (λ (z : Course KEnd). LiesIn (went kept_ends plan z t.answers) t.cut) (course_is a m c l n o p.is) t.lies.lies) refl;
      rises = subst (λ (z : Out (Course KEnd)). Rises a.newest (opened_in z.calls ++ opened_by t.answers.happening)) (sym (run_many kept_ends plan c p.answers))
          (rises-append a.newest (opened_in o.calls) (opened_by t.answers.happening) p.is.rises (subst (λ z. Rises z (opened_by t.answers.happening)) p.is.opened t.lies.rises));
      broke = broke_behind a.seen m.seen b.seen o.state o t.cut fault p.is.acted t.broke;
      began = subst (λ (z : Out (Course KEnd)). BeganDeeds a.seen.told b.seen.told z.order fault) (sym (run_many kept_ends plan c (p.answers ++ t.answers ∷ []) ∙ acts_last kept_ends plan c p.answers t.answers))
          (began_behind a.seen.told m.seen.told b.seen.told o.order (went kept_ends plan o.state t.answers).order fault p.is.acted.did
          (subst (λ (z : Course KEnd). BeganDeeds m.seen.told b.seen.told (went kept_ends plan z t.answers).order fault) (course_is a m c l n o p.is) t.began));
    }

-- ---- the same, by the facts as a function has them

pub run_goes : (plan : Plan) (a m b : Around) (c : Course KEnd) (l new : Loop KEnd) (n count many : ℕ) (then_ : Next)
    → RanSome plan a m c l n many → halt_of then_ ≡ None
    → ((asked : List ℕ) → Turns plan m b (course_of l n asked) new count (Ok then_))
    → RanSome plan a b c new count (many + 1)
run_goes plan a m b c l new n count many then_ p is q =
    ran_more plan a m b c l new n count many p (λ asked. subst (λ h. Went (went kept_ends plan (course_of l n asked)) m b (course_of l n asked) new count h) is (q asked))

pub run_halts : (plan : Plan) (a m b : Around) (c : Course KEnd) (l new : Loop KEnd) (n count many : ℕ) (then_ : Next) (why : Halt)
    → RanSome plan a m c l n many → many < plan.turns → halt_of then_ ≡ Some why
    → ((asked : List ℕ) → Turns plan m b (course_of l n asked) new count (Ok then_))
    → Went (run kept_ends plan c) a b c new count (Some why)
run_halts plan a m b c l new n count many then_ why p fits is q =
    ran_halted plan a m b c l new n count many why p (omega (arith, fits))
    (λ asked. subst (λ h. Went (went kept_ends plan (course_of l n asked)) m b (course_of l n asked) new count h) is (q asked))

rose_later : (x y z : ℕ) → x ≤ y → Rose y z → Rose x z
rose_later x y z p q = omega (arith, p, q)

pub run_stops : (plan : Plan) (a m b : Around) (c : Course KEnd) (l new : Loop KEnd) (n count many : ℕ) (fault : LoopFault)
    → RanSome plan a m c l n many → many < plan.turns
    → ((asked : List ℕ) → Turns plan m b (course_of l n asked) new count (Err fault))
    → Runs plan a b c new count (Err fault)
run_stops plan a m b c l new n count many Wires p fits q = record {
  went = ran_halted plan a m b c l new n count many OnFailed p (omega (arith, fits)) (λ asked. (q asked).went);
  rose = rose_later a.turns_failed m.turns_failed b.turns_failed p.is.failed (q []).rose;
}
run_stops plan a m b c l new n count many Sink p fits q = ran_off plan a m b c l n many Sink p (omega (arith, fits)) q
run_stops plan a m b c l new n count many (NoMemory want) p fits q = ran_off plan a m b c l n many (NoMemory want) p (omega (arith, fits)) q

pub ran_start : (plan : Plan) (a : Around) (l : Loop KEnd) (n : ℕ) (asked : List ℕ) → n ≡ 0 → RanSome plan a a (course_of l 0 asked) l n 0
ran_start plan a l n asked is = subst (λ z. RanSome plan a a (course_of l 0 asked) l z 0) (sym is) (ran_none plan a l 0 asked)
