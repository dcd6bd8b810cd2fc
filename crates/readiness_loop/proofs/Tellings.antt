-- What is done before a cut is done in order; and the numbers of the connections that are opened in the turns up to it rise.
use Rattle.er_end.specs.KeptEnds.{KEnd}
use Rattle.loop_session.specs.Keeping.{kept_ends}
use Rattle.std.proofs.Common.{◌≡◌, ◌⊎◌, ℕ, inl, inr, List, [], ◌∷◌, ◌++◌, Option, Some, None, refl, sym, ◌∙◌, ap, subst, append-nil, append_assoc}
use Rattle.std.specs.Prelude.{◌==◌}
use Rattle.std.proofs.lemmas.Bool.{cases_Bool}
use Rattle.link_trait.specs.Wires.{Dials, Closes, given_of}
use Rattle.loop_model.specs.Ends.{EndOps, ModelEnd}
use Rattle.loop_model.specs.Journals.{JournalEntry, entry_text, text}
use Rattle.loop_model.specs.Deeds.{LoopDeed, Printing, Calling, entries_in, calls_in, printings, Sign, Octet, OnWires, octet_signs, signs}
use Rattle.loop_model.specs.Outs.{Out, acts}
use Rattle.loop_model.specs.Loops.{Plan, Halt, Course, Turn, readied, turn, follows, turned_unless, went_unless, went}
use Rattle.loop_model.specs.Parts.{of, is_at, calls_at, opened_in, opened_by, Rises}
use Rattle.loop_model.specs.Orderings.{IsSilentOnConnection, IsSequenced}
use Rattle.loop_session.specs.declared.loop_fault.LoopFault.{LoopFault}
use Rattle.readiness_loop.specs.Cuts.{Cut, LiesIn, cut_behind_part, IsToldFirst, first_turns, LiesInRun}
use Rattle.readiness_loop.specs.Courses.{Around, RanOff}
use Rattle.readiness_loop.proofs.Sweeps.{after}
use Rattle.readiness_loop.proofs.Cutting.{lies_then}
use Rattle.readiness_loop.proofs.Planned.{run_many}
use Rattle.readiness_loop.proofs.Openings.{opened_in-append}
use Rattle.readiness_loop.proofs.Going.{readied_opens}
use Rattle.readiness_loop.proofs.Turning.{happened_opens}
use Rattle.readiness_loop.proofs.Running.{acts_last}

-- ---- a place among deeds

pub same_first : {A : Type 0} (x y : A) (xs ys : List A) → x ∷ xs ≡ y ∷ ys → (x ≡ y) × (xs ≡ ys)
same_first x y xs ys p = (cc, cc)

-- where two lists are cut that are the same
data Seam {A : Type 0} (xs ys zs ws : List A) : Type 0 where
  Within : (m : List A) → xs ++ m ≡ zs → Seam xs ys zs ws
  Beyond : (m : List A) → xs ≡ zs ++ m → m ++ ys ≡ ws → Seam xs ys zs ws

seam_more : {A : Type 0} (x z : A) (xs ys zs ws : List A) → x ≡ z → Seam xs ys zs ws → Seam (x ∷ xs) ys (z ∷ zs) ws
seam_more x z xs ys zs ws e (Within m p) = Within m (ap (λ k. x ∷ k) p ∙ ap (λ k. k ∷ zs) e)
seam_more x z xs ys zs ws e (Beyond m p q) = Beyond m (ap (λ k. x ∷ k) p ∙ ap (λ k. k ∷ (zs ++ m)) e) q

seam : {A : Type 0} (xs ys zs ws : List A) → xs ++ ys ≡ zs ++ ws → Seam xs ys zs ws
seam [] ys zs ws p = Within zs refl
seam (x ∷ xs) ys [] ws p = Beyond (x ∷ xs) refl p
seam (x ∷ xs) ys (z ∷ zs) ws p = let s = same_first x z (xs ++ ys) (zs ++ ws) p in seam_more x z xs ys zs ws s.0 (seam xs ys zs ws s.1)

octets_within : (os : List ℕ) (cut m : List Sign) → cut ++ m ≡ octet_signs os → (begun : List ℕ) × (unbegun : List ℕ) × (cut ≡ octet_signs begun) × (begun ++ unbegun ≡ os)
octets_within os [] m p = ([], os, refl, refl)
octets_within [] (c ∷ cut) m p = absurd (let q : c ∷ (cut ++ m) ≡ [] = p in cc q)
octets_within (o ∷ os) (c ∷ cut) m p =
    let s = same_first c (Octet o) (cut ++ m) (octet_signs os) p in
    let rest = octets_within os cut m s.1 in
    (o ∷ rest.0, rest.1, ap (λ k. k ∷ cut) s.0 ∙ ap (λ k. Octet o ∷ k) rest.2, ap (λ k. o ∷ k) rest.3)

record Place (ds : List LoopDeed) (cut : Cut) : Type 0 where
  done : List LoopDeed
  under_way : List JournalEntry
  more : List LoopDeed
  begun : List ℕ
  unbegun : List ℕ
  begins : begun ++ unbegun ≡ text under_way
  is : cut ≡ signs done ++ octet_signs begun
  all : done ++ (printings under_way ++ more) ≡ ds

place_first : (ds : List LoopDeed) → Place ds []
unfolding signs
place_first ds = record { done = []; under_way = []; more = ds; begun = []; unbegun = []; begins = refl; is = refl; all = refl }

place : (ds : List LoopDeed) (cut rest : List Sign) → cut ++ rest ≡ signs ds → Place ds cut
unfolding signs
place [] [] rest p = place_first []
place [] (c ∷ cut) rest p = absurd (let q : c ∷ (cut ++ rest) ≡ [] = p in cc q)
place (Calling call ∷ ds) [] rest p = place_first (Calling call ∷ ds)
place (Calling call ∷ ds) (c ∷ cut) rest p =
    let s = same_first c (OnWires call) (cut ++ rest) (signs ds) p in
    let q = place ds cut rest s.1 in
    record {
      done = Calling call ∷ q.done;
      under_way = q.under_way;
      more = q.more;
      begun = q.begun;
      unbegun = q.unbegun;
      begins = q.begins;
      is = ap (λ k. k ∷ cut) s.0 ∙ ap (λ k. OnWires call ∷ k) q.is;
      all = ap (λ k. Calling call ∷ k) q.all;
    }
place (Printing x ∷ ds) cut rest p = at (seam cut rest (octet_signs (entry_text x)) (signs ds) p) (λ m q. place ds m rest q)
  where
    at : Seam cut rest (octet_signs (entry_text x)) (signs ds) → ((m : List Sign) → m ++ rest ≡ signs ds → Place ds m) → Place (Printing x ∷ ds) cut
    at (Within m q) further =
        let w = octets_within (entry_text x) cut m q in
        record { done = []; under_way = x ∷ []; more = ds; begun = w.0; unbegun = w.1; begins = w.3 ∙ sym (append-nil (entry_text x)); is = w.2; all = refl }
    at (Beyond m q r) further =
        let f = further m r in
        record {
          done = Printing x ∷ f.done;
          under_way = f.under_way;
          more = f.more;
          begun = f.begun;
          unbegun = f.unbegun;
          begins = f.begins;
          is = q ∙ ap (λ k. octet_signs (entry_text x) ++ k) f.is ∙ sym (append_assoc (octet_signs (entry_text x)) (signs f.done) (octet_signs f.begun));
          all = ap (λ k. Printing x ∷ k) f.all;
        }

pub silent_front : (n : ℕ) (ds es : List LoopDeed) → IsSilentOnConnection n (ds ++ es) → IsSilentOnConnection n ds
unfolding of calls_at entries_in calls_in
silent_front n [] es p = (refl, refl)
silent_front n (Printing x ∷ ds) es p =
    elim (cases_Bool (x.conn == n)) [
      | inl e ↦ absurd (let q : x ∷ of n (entries_in (ds ++ es)) ≡ [] = rw e at p.0 in cc q)
      | inr e ↦ let q = silent_front n ds es (rw e at p.0, p.1) in rw e q
    ]
silent_front n (Calling call ∷ ds) es p =
    elim (cases_Bool (is_at n call)) [
      | inl e ↦ absurd (let q : call ∷ calls_at n (calls_in (ds ++ es)) ≡ [] = rw e at p.1 in cc q)
      | inr e ↦ let q = silent_front n ds es (p.0, rw e at p.1) in rw e q
    ]

-- what follows a close, up to a beginning of lines
silent_up_to : (n : ℕ) (before rest more all done : List LoopDeed) (xs : List JournalEntry) → ((far : List LoopDeed) → before ++ Calling (Closes n) ∷ far ≡ all → IsSilentOnConnection n far)
    → before ++ Calling (Closes n) ∷ rest ≡ done → done ++ (printings xs ++ more) ≡ all → IsSilentOnConnection n (rest ++ printings xs)
silent_up_to n before rest more all done xs h e is =
    silent_front n (rest ++ printings xs) more
    (subst (λ z. IsSilentOnConnection n z) (sym (append_assoc rest (printings xs) more))
    (h (rest ++ (printings xs ++ more)) (sym (append_assoc before (Calling (Closes n) ∷ rest) (printings xs ++ more)) ∙ ap (λ z. z ++ (printings xs ++ more)) e ∙ is)))

-- a cut in a loop that is in order
pub told_first : (plan : Plan) (o : Out (Course ModelEnd)) (cut : Cut) → IsSequenced plan o → LiesIn o cut → IsToldFirst cut
told_first plan o cut h l =
    let q = place o.order cut l.rest l.is in
    record {
      done = q.done;
      under_way = q.under_way;
      begun = q.begun;
      unbegun = q.unbegun;
      begins = q.begins;
      is = q.is;
      told = λ conn. h.told conn q.done (printings q.under_way ++ q.more) q.all;
      last = λ conn before rest e. silent_up_to conn before rest q.more o.order q.done q.under_way (λ far same. h.last conn before far same) e q.all;
    }

-- the same, without the dial that comes first
pub told_dialled : (plan : Plan) (o : Out (Course ModelEnd)) (address : List ℕ) (conn : ℕ) (ds : List LoopDeed) (cut rest : List Sign) → IsSequenced plan o
    → o.order ≡ Calling (Dials address (Some conn)) ∷ ds → cut ++ rest ≡ signs ds → IsToldFirst cut
unfolding given_of entries_in calls_in
told_dialled plan o address conn ds cut rest h same p =
    let q = place ds cut rest p in
    let d : LoopDeed = Calling (Dials address (Some conn)) in
    record {
      done = q.done;
      under_way = q.under_way;
      begun = q.begun;
      unbegun = q.unbegun;
      begins = q.begins;
      is = q.is;
      told = λ n. h.told n (d ∷ q.done) (printings q.under_way ++ q.more) (ap (λ z. d ∷ z) q.all ∙ sym same);
      last = λ n before rest e. silent_up_to n before rest q.more ds q.done q.under_way (λ far is. h.last n (d ∷ before) far (ap (λ z. d ∷ z) is ∙ sym same)) e q.all;
    }

-- ---- the turns up to a cut

-- with the next turn behind the whole ones
abbrev pub turns_with : {E : Type 0} {o : EndOps E} {plan : Plan} {c : Course E} {cut : Cut} → LiesInRun o plan c cut → List Turn
turns_with lies = lies.turns ++ lies.last ∷ []

-- the cut lies in the loop that does this one, too
pub lies_with : {E : Type 0} (o : EndOps E) (plan : Plan) (c : Course E) (cut : Cut) (l : LiesInRun o plan c cut) → LiesIn (first_turns o plan c (l.turns ++ l.last ∷ [])) cut
lies_with {E} o plan c cut l =
    let a = acts (went o plan) c l.turns in
    let first : first_turns o plan c l.turns ≡ a = run_many o plan c l.turns in
    let all : first_turns o plan c (l.turns ++ l.last ∷ []) ≡ after a (went o plan a.state l.last) = run_many o plan c (l.turns ++ l.last ∷ []) ∙ acts_last o plan c l.turns l.last in
    subst (λ (z : Out (Course E)). LiesIn z cut) (sym all)
    (subst (λ z. LiesIn (after a (went o plan a.state l.last)) z) (sym (subst (λ (z : Out (Course E)). cut ≡ cut_behind_part z l.rest) first l.is))
    (lies_then a (λ z. went o plan z l.last) l.rest (subst (λ (z : Out (Course E)). LiesIn (went o plan z.state l.last) l.rest) first l.lies)))

-- a turn opens no connection but the one that it accepts
turned_opened : (h : Option Halt) (plan : Plan) (r : Out (Course KEnd)) (x : Turn) → opened_in r.calls ≡ []
    → (opened_in (after r (turned_unless kept_ends h plan r.state x)).calls ≡ []) ⊎ (opened_in (after r (turned_unless kept_ends h plan r.state x)).calls ≡ opened_by x.happening)
unfolding opened_in
turned_opened (Some why) plan r x none = inl (ap opened_in (append-nil r.calls) ∙ none)
turned_opened None plan r x none =
    let d = (turn kept_ends r.state x).state in
    inr (opened_in-append r.calls (turned_unless kept_ends None plan r.state x).calls ∙ ap (λ z. z ++ opened_in (turned_unless kept_ends None plan r.state x).calls) none
    ∙ opened_in-append (turn kept_ends r.state x).calls (follows kept_ends plan d x).calls
    ∙ ap (λ z. (opened_by x.happening ++ []) ++ z) (happened_opens plan d.loop x.happening x.met)
    ∙ append-nil (opened_by x.happening ++ []) ∙ append-nil (opened_by x.happening))

unless_opened : (h : Option Halt) (plan : Plan) (c : Course KEnd) (x : Turn)
    → (opened_in (went_unless kept_ends h plan c x).calls ≡ []) ⊎ (opened_in (went_unless kept_ends h plan c x).calls ≡ opened_by x.happening)
unfolding opened_in
unless_opened (Some why) plan c x = inl refl
unless_opened None plan c x = turned_opened (readied kept_ends plan c x).state.halt plan (readied kept_ends plan c x) x (readied_opens plan c x)

went_opened : (plan : Plan) (c : Course KEnd) (x : Turn) → (opened_in (went kept_ends plan c x).calls ≡ []) ⊎ (opened_in (went kept_ends plan c x).calls ≡ opened_by x.happening)
unfolding went
went_opened plan c x = unless_opened c.halt plan c x

rises_front : (low : ℕ) (xs ys : List ℕ) → Rises low (xs ++ ys) → Rises low xs
rises_front low [] ys p = tt
rises_front low (x ∷ xs) ys p = (p.0, rises_front x xs ys p.1)

-- the numbers of the connections that are opened in the whole turns rise
pub rises_before : (plan : Plan) (a b : Around) (c : Course KEnd) (fault : LoopFault) (w : RanOff plan a b c fault) → Rises a.newest (opened_in (first_turns kept_ends plan c w.lies.turns).calls)
rises_before plan a b c fault w = rises_front a.newest (opened_in (first_turns kept_ends plan c w.lies.turns).calls) (opened_by w.lies.last.happening) w.rises

-- and in the next
pub rises_with : (plan : Plan) (a b : Around) (c : Course KEnd) (fault : LoopFault) (w : RanOff plan a b c fault)
    → Rises a.newest (opened_in (first_turns kept_ends plan c (w.lies.turns ++ w.lies.last ∷ [])).calls)
rises_with plan a b c fault w =
    let o = acts (went kept_ends plan) c w.lies.turns in
    let x = w.lies.last in
    let v = went kept_ends plan o.state x in
    let first : first_turns kept_ends plan c w.lies.turns ≡ o = run_many kept_ends plan c w.lies.turns in
    let rises : Rises a.newest (opened_in o.calls ++ opened_by x.happening) = subst (λ (z : Out (Course KEnd)). Rises a.newest (opened_in z.calls ++ opened_by x.happening)) first w.rises in
    let all : first_turns kept_ends plan c (w.lies.turns ++ x ∷ []) ≡ after o v = run_many kept_ends plan c (w.lies.turns ++ x ∷ []) ∙ acts_last kept_ends plan c w.lies.turns x in
    subst (λ (z : Out (Course KEnd)). Rises a.newest (opened_in z.calls)) (sym all)
    (subst (λ z. Rises a.newest z) (sym (opened_in-append o.calls v.calls))
    (elim (went_opened plan o.state x) [
      | inl none ↦ subst (λ z. Rises a.newest (opened_in o.calls ++ z)) (sym none) (subst (λ z. Rises a.newest z) (sym (append-nil (opened_in o.calls))) (rises_front a.newest (opened_in o.calls) (opened_by x.happening) rises))
      | inr one ↦ subst (λ z. Rises a.newest (opened_in o.calls ++ z)) (sym one) rises
    ]))
