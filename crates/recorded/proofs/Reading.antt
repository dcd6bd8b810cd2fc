-- What is kept, read back: for the laws.
use Rattle.std.proofs.Common.{◌≡◌, ℕ, Bool, true, false, ◌||◌, ◌&&◌, List, [], ◌∷◌, ◌++◌, get_or, drop, IsTrue, IsFalse, if◌then◌else◌, refl, sym, ap, subst, ◌∙◌, append_assoc, append-nil, true≢false}
use Rattle.std.specs.List.{list_any, list_all}
use Rattle.outside.specs.Acts.{Act, Fetched, Wrote, Called, Asked, Drew, is_write, is_sink_fault}
use Rattle.outside.specs.Ties.{IsLeft, PutsInSink}
use Rattle.recorded.specs.Recordings.{is_outward, is_untold, octets_written_by, octets_written_in, octets_offered_by, octets_offered_in, unless_write, acts_but_writes, acts_behind_fault}
use Rattle.recorded.specs.Recordings.{IsBehindItsLines, IsDoneInside, IsBeginningOf, IsStill}
use Rattle.recorded.specs.Keeping.{Mark, mark_of, outward_marks_behind, outward_marks, marks_outside, octets_outside, goes_or_writes, is_untold_mark, IsKept}
use Rattle.recorded.proofs.Growing.{marked, unmarked, marks_cut}

-- ---- tests

neither : (a b : Bool) → (a || b) ≡ false → IsFalse a × IsFalse b
neither true b h = absurd (true≢false h)
neither false b h = (refl, h)

both : (a b : Bool) → (a && b) ≡ true → IsTrue a × IsTrue b
both true b h = (refl, h)
both false b h = absurd (true≢false (sym h))

is_nil : {A : Type 0} → List A → Bool
is_nil [] = true
is_nil (x ∷ xs) = false

nil_is_no_cons : {A B : Type 0} (x : A) (xs : List A) → [] ≡ x ∷ xs → B
unfolding is_nil
nil_is_no_cons x xs p = absurd (true≢false (ap is_nil p))

head_is : {A : Type 0} (x y : A) (xs ys : List A) → x ∷ xs ≡ y ∷ ys → x ≡ y
head_is {A} x y xs ys p = ap (λ (zs : List A). get_or zs 0 x) p

tail_is : {A : Type 0} (x y : A) (xs ys : List A) → x ∷ xs ≡ y ∷ ys → xs ≡ ys
tail_is {A} x y xs ys p = ap (λ (zs : List A). drop 1 zs) p

-- ---- an act by its mark

abbrev new_mark : List ℕ → List Act → Act → Mark
new_mark written first act = record { written = written; acts = first; act = act }

record Stands (written : List ℕ) (first acts : List Act) (mark : Mark) : Type 0 where
  before : List Act
  behind : List Act
  are : acts ≡ before ++ mark.act ∷ behind
  octets : mark.written ≡ written ++ octets_written_in before
  others : mark.acts ≡ first ++ acts_but_writes before

stands_later : (written : List ℕ) (first : List Act) (x : Act) (xs : List Act) (mark : Mark)
    → Stands (written ++ octets_written_by x) (first ++ unless_write x) xs mark → Stands written first (x ∷ xs) mark
unfolding octets_written_in acts_but_writes
stands_later written first x xs mark s = record {
  before = x ∷ s.before;
  behind = s.behind;
  are = ap (λ (ys : List Act). x ∷ ys) s.are;
  octets = s.octets ∙ append_assoc written (octets_written_by x) (octets_written_in s.before);
  others = s.others ∙ append_assoc first (unless_write x) (acts_but_writes s.before);
}

stands_here : (written : List ℕ) (first : List Act) (x : Act) (xs : List Act) (mark : Mark)
    → new_mark written first x ≡ mark → Stands written first (x ∷ xs) mark
unfolding octets_written_in acts_but_writes
stands_here written first x xs mark is = record {
  before = [];
  behind = xs;
  are = ap (λ (m : Mark). m.act ∷ xs) is;
  octets = sym (ap (λ (m : Mark). m.written) is) ∙ sym (append-nil written);
  others = sym (ap (λ (m : Mark). m.acts) is) ∙ sym (append-nil first);
}

stands : (written : List ℕ) (first acts : List Act) (ms : List Mark) (mark : Mark) (ns : List Mark)
    → outward_marks_behind written first acts ≡ ms ++ mark ∷ ns → Stands written first acts mark
unfolding outward_marks_behind
stands written first [] [] mark ns p = nil_is_no_cons mark ns p
stands written first [] (m ∷ ms) mark ns p = nil_is_no_cons m (ms ++ mark ∷ ns) p
stands written first (x ∷ xs) ms mark ns p =
    by_test (is_outward x) refl (λ rest q. stands (written ++ octets_written_by x) (first ++ unless_write x) xs rest mark ns q) ms p
  where
    more : List Mark
    more = outward_marks_behind (written ++ octets_written_by x) (first ++ unless_write x) xs

    going : (rest : List Mark) → ((ys : List Mark) → more ≡ ys ++ mark ∷ ns → Stands (written ++ octets_written_by x) (first ++ unless_write x) xs mark)
        → new_mark written first x ∷ more ≡ rest ++ mark ∷ ns → Stands written first (x ∷ xs) mark
    going [] later q = stands_here written first x xs mark (head_is (new_mark written first x) mark more ns q)
    going (m ∷ rest) later q =
        stands_later written first x xs mark (later rest (tail_is (new_mark written first x) m more (rest ++ mark ∷ ns) q))

    by_test : (b : Bool) → is_outward x ≡ b
        → ((ys : List Mark) → more ≡ ys ++ mark ∷ ns → Stands (written ++ octets_written_by x) (first ++ unless_write x) xs mark)
        → (rest : List Mark) → mark_of written first x ++ more ≡ rest ++ mark ∷ ns → Stands written first (x ∷ xs) mark
    by_test true h later rest q = going rest later (ap (λ (zs : List Mark). zs ++ more) (sym (marked written first x h)) ∙ q)
    by_test false h later rest q = stands_later written first x xs mark (later rest (ap (λ (zs : List Mark). zs ++ more) (sym (unmarked written first x h)) ∙ q))

-- the mark of an act that goes out
abbrev the_mark : List Act → Act → Mark
the_mark before act = new_mark (octets_written_in before) (acts_but_writes before) act

marks_at : (before : List Act) (act : Act) (behind : List Act) → IsTrue (is_outward act)
    → outward_marks (before ++ act ∷ behind) ≡ outward_marks before ++ the_mark before act ∷ outward_marks_behind (octets_written_in before ++ octets_written_by act) (acts_but_writes before ++ unless_write act) behind
unfolding outward_marks_behind
marks_at before act behind out =
    let more : List Mark = outward_marks_behind (octets_written_in before ++ octets_written_by act) (acts_but_writes before ++ unless_write act) behind in
    marks_cut before (act ∷ behind) ∙ ap (λ (ms : List Mark). outward_marks before ++ (ms ++ more)) (marked (octets_written_in before) (acts_but_writes before) act out)

-- ---- octets left in a sink

one_left : (x : Act) (octets : List ℕ) → IsFalse (is_sink_fault x) → PutsInSink x octets → octets ≡ octets_written_by x
one_left (Fetched name answer) octets h p = p
one_left (Wrote piece true) octets h p = p
one_left (Wrote piece false) octets h p = absurd (true≢false h)
one_left (Called call) octets h p = p
one_left (Asked moment) octets h p = p
one_left (Drew word) octets h p = p

pub all_left : (acts : List Act) (octets : List ℕ) → IsFalse (list_any is_sink_fault acts) → IsLeft PutsInSink acts octets → octets ≡ octets_written_in acts
unfolding IsLeft octets_written_in
all_left [] octets h p = p
all_left (x ∷ xs) octets h p =
    let none : IsFalse (is_sink_fault x) × IsFalse (list_any is_sink_fault xs) = neither (is_sink_fault x) (list_any is_sink_fault xs) h in
    p.4 ∙ ap (λ (os : List ℕ). os ++ p.1) (one_left x p.0 none.0 p.2) ∙ ap (λ (os : List ℕ). octets_written_by x ++ os) (all_left xs p.1 none.1 p.3)

-- without a write nothing is left
none_left : (acts : List Act) (octets : List ℕ) → IsFalse (list_any is_write acts) → IsLeft PutsInSink acts octets → octets ≡ []
unfolding IsLeft
none_left [] octets h p = p
none_left (x ∷ xs) octets h p =
    let none : IsFalse (is_write x) × IsFalse (list_any is_write xs) = neither (is_write x) (list_any is_write xs) h in
    p.4 ∙ ap (λ (os : List ℕ). os ++ p.1) (nothing x p.0 none.0 p.2) ∙ none_left xs p.1 none.1 p.3
  where
    nothing : (y : Act) (os : List ℕ) → IsFalse (is_write y) → PutsInSink y os → os ≡ []
    nothing (Fetched name answer) os h p = p
    nothing (Wrote piece done) os h p = absurd (true≢false h)
    nothing (Called call) os h p = p
    nothing (Asked moment) os h p = p
    nothing (Drew word) os h p = p

whole_left : (x : Act) (octets : List ℕ) → IsFalse (is_sink_fault x) → PutsInSink x octets → octets ≡ octets_offered_by x
whole_left (Fetched name answer) octets h p = p
whole_left (Wrote piece true) octets h p = p
whole_left (Wrote piece false) octets h p = absurd (true≢false h)
whole_left (Called call) octets h p = p
whole_left (Asked moment) octets h p = p
whole_left (Drew word) octets h p = p

part_left : (x : Act) (octets : List ℕ) → PutsInSink x octets → IsBeginningOf octets (octets_offered_by x)
part_left (Fetched name answer) octets p = record { rest = []; are = append-nil octets ∙ p }
part_left (Wrote piece true) octets p = record { rest = []; are = append-nil octets ∙ p }
part_left (Wrote piece false) octets p = record { rest = p.0; are = p.1 }
part_left (Called call) octets p = record { rest = []; are = append-nil octets ∙ p }
part_left (Asked moment) octets p = record { rest = []; are = append-nil octets ∙ p }
part_left (Drew word) octets p = record { rest = []; are = append-nil octets ∙ p }

-- ---- behind a fault

fewer : (is all : Act → Bool) → ((x : Act) → IsFalse (all x) → IsFalse (is x)) → (xs : List Act) → IsFalse (list_any all xs) → IsFalse (list_any is xs)
fewer is all so [] h = refl
fewer is all so (x ∷ xs) h =
    let none : IsFalse (all x) × IsFalse (list_any all xs) = neither (all x) (list_any all xs) h in
    ap (λ (b : Bool). b || list_any is xs) (so x none.0) ∙ fewer is all so xs none.1

still_of : (xs : List Act) → IsFalse (list_any goes_or_writes xs) → IsStill xs
still_of xs h = record {
  outward = fewer is_outward goes_or_writes (λ x p. (neither (is_outward x) (is_write x) p).0) xs h;
  writes = fewer is_write goes_or_writes (λ x p. (neither (is_outward x) (is_write x) p).1) xs h;
}

one_among : {A : Type 0} (is : Act → Bool) (ys : List Act) (x : Act) (zs : List Act) → IsTrue (is x) → IsFalse (list_any is (ys ++ x ∷ zs)) → A
one_among is [] x zs hit h = absurd (true≢false (sym hit ∙ (neither (is x) (list_any is zs) h).0))
one_among is (y ∷ ys) x zs hit h = one_among is ys x zs hit (neither (is y) (list_any is (ys ++ x ∷ zs)) h).1

still_rest : (done : List Act) (piece : List ℕ) (rest : List Act) → IsFalse (list_any goes_or_writes (acts_behind_fault (done ++ Wrote piece false ∷ rest))) → IsStill rest
unfolding acts_behind_fault
still_rest [] piece rest h = still_of rest h
still_rest (y ∷ ys) piece rest h = at (is_sink_fault y) (λ p. still_rest ys piece rest p) h
  where
    all : List Act
    all = ys ++ Wrote piece false ∷ rest

    at : (b : Bool) → (IsFalse (list_any goes_or_writes (acts_behind_fault all)) → IsStill rest) → IsFalse (list_any goes_or_writes (if b then all else acts_behind_fault all)) → IsStill rest
    at true later p = one_among goes_or_writes ys (Wrote piece false) rest refl p
    at false later p = later p

-- no write failed before an act that goes out
whole_before : (done : List Act) (act : Act) (rest : List Act) → IsTrue (is_outward act) → IsFalse (list_any goes_or_writes (acts_behind_fault (done ++ act ∷ rest)))
    → IsFalse (list_any is_sink_fault done)
unfolding acts_behind_fault
whole_before [] act rest out h = refl
whole_before (y ∷ ys) act rest out h = at (is_sink_fault y) (λ p. whole_before ys act rest out p) h
  where
    all : List Act
    all = ys ++ act ∷ rest

    at : (b : Bool) → (IsFalse (list_any goes_or_writes (acts_behind_fault all)) → IsFalse (list_any is_sink_fault ys))
        → IsFalse (list_any goes_or_writes (if b then all else acts_behind_fault all)) → (b || list_any is_sink_fault ys) ≡ false
    at true later p = one_among goes_or_writes ys act rest (ap (λ (b : Bool). b || is_write act) out) p
    at false later p = later p

begins : (acts : List Act) (octets : List ℕ) → IsFalse (list_any goes_or_writes (acts_behind_fault acts)) → IsLeft PutsInSink acts octets → IsBeginningOf octets (octets_offered_in acts)
unfolding acts_behind_fault IsLeft octets_offered_in
begins [] octets h p = record { rest = []; are = append-nil octets ∙ p }
begins (x ∷ xs) octets h p = at (is_sink_fault x) refl (λ q. begins xs p.1 q p.3) h
  where
    at : (b : Bool) → is_sink_fault x ≡ b → (IsFalse (list_any goes_or_writes (acts_behind_fault xs)) → IsBeginningOf p.1 (octets_offered_in xs))
        → IsFalse (list_any goes_or_writes (if b then xs else acts_behind_fault xs)) → IsBeginningOf octets (octets_offered_by x ++ octets_offered_in xs)
    at true is later q =
        let part : IsBeginningOf p.0 (octets_offered_by x) = part_left x p.0 p.2 in
        let none : p.1 ≡ [] = none_left xs p.1 (still_of xs q).writes p.3 in
        record {
          rest = part.rest ++ octets_offered_in xs;
          are = ap (λ (os : List ℕ). os ++ (part.rest ++ octets_offered_in xs)) (p.4 ∙ ap (λ (os : List ℕ). p.0 ++ os) none ∙ append-nil p.0)
              ∙ sym (append_assoc p.0 part.rest (octets_offered_in xs)) ∙ ap (λ (os : List ℕ). os ++ octets_offered_in xs) part.are;
        }
    at false is later q =
        let more : IsBeginningOf p.1 (octets_offered_in xs) = later q in
        record {
          rest = more.rest;
          are = ap (λ (os : List ℕ). os ++ more.rest) p.4 ∙ append_assoc p.0 p.1 more.rest ∙ ap (λ (os : List ℕ). p.0 ++ os) more.are
              ∙ ap (λ (os : List ℕ). os ++ octets_offered_in xs) (whole_left x p.0 is p.2);
        }

-- ---- a mark among the first

record Found (all before : List Mark) (mark : Mark) : Type 0 where
  behind : List Mark
  are : all ≡ before ++ mark ∷ behind

one_of_all : (ms : List Mark) (mark : Mark) (ns : List Mark) → IsTrue (list_all is_untold_mark (ms ++ mark ∷ ns)) → IsTrue (is_untold_mark mark)
one_of_all [] mark ns h = (both (is_untold_mark mark) (list_all is_untold_mark ns) h).0
one_of_all (m ∷ ms) mark ns h = one_of_all ms mark ns (both (is_untold_mark m) (list_all is_untold_mark (ms ++ mark ∷ ns)) h).1

found : (all over ms : List Mark) (mark : Mark) (ns : List Mark) → all ++ over ≡ ms ++ mark ∷ ns → IsTrue (list_all is_untold_mark over) → IsFalse (is_untold_mark mark) → Found all ms mark
found [] over ms mark ns p untold told =
    absurd (true≢false (sym (one_of_all ms mark ns (subst (λ (xs : List Mark). IsTrue (list_all is_untold_mark xs)) p untold)) ∙ told))
found (x ∷ all) over [] mark ns p untold told = record { behind = all; are = ap (λ (m : Mark). m ∷ all) (head_is x mark (all ++ over) ns p) }
found (x ∷ all) over (m ∷ ms) mark ns p untold told =
    let more : Found all ms mark = found all over ms mark ns (tail_is x m (all ++ over) (ms ++ mark ∷ ns) p) untold told in
    record {
      behind = more.behind;
      are = ap (λ (y : Mark). y ∷ all) (head_is x m (all ++ over) (ms ++ mark ∷ ns) p) ∙ ap (λ (ys : List Mark). m ∷ ys) more.are;
    }

-- ---- the laws

module _ (inside program : List Act) (lines : List ℕ) (failed : Bool) (k : IsKept inside program lines failed) where
  pub behind_its_lines : (done rest : List Act) (act : Act) → inside ≡ done ++ act ∷ rest → IsTrue (is_outward act) → IsBehindItsLines done act program
  unfolding outward_marks
  behind_its_lines done rest act is out =
      let over : List Mark = marks_outside inside program in
      let more : List Mark = outward_marks_behind (octets_written_in done ++ octets_written_by act) (acts_but_writes done ++ unless_write act) rest in
      let at : outward_marks program ≡ outward_marks done ++ the_mark done act ∷ (more ++ over) =
      sym k.marks ∙ ap (λ (ms : List Mark). ms ++ over) (ap outward_marks is ∙ marks_at done act rest out) ∙ append_assoc (outward_marks done) (the_mark done act ∷ more) over in
      let s : Stands [] [] program (the_mark done act) = stands [] [] program (outward_marks done) (the_mark done act) (more ++ over) at in
      let whole : IsFalse (list_any is_sink_fault done) = whole_before done act rest out (subst (λ (xs : List Act). IsFalse (list_any goes_or_writes (acts_behind_fault xs))) is k.still) in
      record {
        before = s.before;
        behind = s.behind;
        did = s.are;
        acts = s.others;
        written = s.octets;
        whole = whole;
        held = λ octets left. all_left done octets whole left ∙ s.octets;
      }

  pub behind_what_tells : (tells : List ℕ → Act → Bool)
      → ((before behind : List Act) (act : Act) → program ≡ before ++ act ∷ behind → IsTrue (is_outward act) → IsTrue (tells (octets_written_in before) act))
      → (done rest : List Act) (act : Act) → inside ≡ done ++ act ∷ rest → IsTrue (is_outward act) → IsTrue (tells (octets_written_in done) act)
  behind_what_tells tells told done rest act is out =
      let b : IsBehindItsLines done act program = behind_its_lines done rest act is out in
      ap (λ (os : List ℕ). tells os act) b.written ∙ told b.before b.behind act b.did out

  pub still_behind : (done rest : List Act) (piece : List ℕ) → inside ≡ done ++ Wrote piece false ∷ rest → IsStill rest
  still_behind done rest piece is = still_rest done piece rest (subst (λ (xs : List Act). IsFalse (list_any goes_or_writes (acts_behind_fault xs))) is k.still)

  pub done_inside : (before behind : List Act) (act : Act) → program ≡ before ++ act ∷ behind → IsTrue (is_outward act) → IsFalse (is_untold act) → IsDoneInside before act inside
  unfolding outward_marks
  done_inside before behind act is out told =
      let more : List Mark = outward_marks_behind (octets_written_in before ++ octets_written_by act) (acts_but_writes before ++ unless_write act) behind in
      let f : Found (outward_marks inside) (outward_marks before) (the_mark before act) =
      found (outward_marks inside) (marks_outside inside program) (outward_marks before) (the_mark before act) more (k.marks ∙ ap outward_marks is ∙ marks_at before act behind out) k.untold told in
      let s : Stands [] [] inside (the_mark before act) = stands [] [] inside (outward_marks before) (the_mark before act) f.behind f.are in
      record { done = s.before; rest = s.behind; did = s.are; acts = sym s.others; written = sym s.octets }

  pub beginning : (octets : List ℕ) → IsLeft PutsInSink inside octets → IsBeginningOf octets (octets_offered_in program)
  beginning octets left =
      let b : IsBeginningOf octets (octets_offered_in inside) = begins inside octets k.still left in
      record {
        rest = b.rest ++ octets_outside inside program;
        are = sym (append_assoc octets b.rest (octets_outside inside program)) ∙ ap (λ (os : List ℕ). os ++ octets_outside inside program) b.are ∙ k.offered;
      }
