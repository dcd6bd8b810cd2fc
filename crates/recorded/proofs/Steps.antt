-- What is kept, step by step: at the beginning, at each act of the program, and where what waits is written out.
use Rattle.std.proofs.Common.{◌≡◌, ℕ, Bool, true, false, ◌||◌, ◌&&◌, not, List, [], ◌∷◌, ◌++◌, length, drop, IsTrue, IsFalse, if◌then◌else◌, refl, sym, ap, subst, ◌∙◌, append_assoc, append-nil, true≢false}
use Rattle.std.specs.List.{list_any, list_all}
use Rattle.std.proofs.lemmas.List.Folds.{list_all-append}
use Rattle.std.proofs.Math.Seq.{drop-append_seam}
use Rattle.outside.specs.Acts.{Act, Fetched, Wrote, Called, Asked, Drew, is_write, is_sink_fault}
use Rattle.recorded.specs.Recordings.{is_outward, is_untold, octets_written_by, octets_written_in, octets_offered_by, octets_offered_in, unless_write, acts_but_writes, when_inward, inward_acts, acts_behind_fault}
use Rattle.recorded.specs.Keeping.{Mark, mark_of, outward_marks_behind, outward_marks, goes_or_writes, is_untold_mark, marks_outside, octets_outside, IsKept}
use Rattle.recorded.proofs.Growing.{written_more, offered_more, acts_more, inward_more, no_fault, outward_writes_nothing, marked, written_same, offered_same, inward_same, acts_written, inward_written, marks_more, marks_same, faults_more, none_behind}

-- ---- the same with the marks and octets that are over

record Kept (inside program : List Act) (lines : List ℕ) (failed : Bool) : Type 0 where
  spare : List ℕ
  over : List Mark
  fault : list_any is_sink_fault inside ≡ failed
  still : IsFalse (list_any goes_or_writes (acts_behind_fault inside))
  waits : failed ≡ false → octets_written_in inside ++ lines ≡ octets_written_in program
  sound : failed ≡ false → IsFalse (list_any is_sink_fault program)
  offered : octets_offered_in inside ++ spare ≡ octets_offered_in program
  acts : failed ≡ false → acts_but_writes inside ≡ acts_but_writes program
  inward : inward_acts inside ≡ inward_acts program
  marks : outward_marks inside ++ over ≡ outward_marks program
  are_untold : IsTrue (list_all is_untold_mark over)
  none : failed ≡ false → over ≡ []

abbrev opened : (inside program : List Act) (lines : List ℕ) (failed : Bool) → IsKept inside program lines failed → Kept inside program lines failed
opened inside program lines failed k = record {
  spare = octets_outside inside program;
  over = marks_outside inside program;
  fault = k.fault;
  still = k.still;
  waits = k.waits;
  sound = k.sound;
  offered = k.offered;
  acts = k.acts;
  inward = k.inward;
  marks = k.marks;
  are_untold = k.untold;
  none = k.none;
}

spare_is : (inside program : List Act) (spare : List ℕ) → octets_offered_in inside ++ spare ≡ octets_offered_in program → octets_outside inside program ≡ spare
unfolding octets_outside
spare_is inside program spare is = ap (λ (octets : List ℕ). drop (length (octets_offered_in inside)) octets) (sym is) ∙ drop-append_seam (octets_offered_in inside) spare

over_is : (inside program : List Act) (over : List Mark) → outward_marks inside ++ over ≡ outward_marks program → marks_outside inside program ≡ over
unfolding marks_outside
over_is inside program over is = ap (λ (marks : List Mark). drop (length (outward_marks inside)) marks) (sym is) ∙ drop-append_seam (outward_marks inside) over

closed : (inside program : List Act) (lines : List ℕ) (failed : Bool) → Kept inside program lines failed → IsKept inside program lines failed
closed inside program lines failed k =
    let spare : octets_outside inside program ≡ k.spare = spare_is inside program k.spare k.offered in
    let over : marks_outside inside program ≡ k.over = over_is inside program k.over k.marks in
    record {
      fault = k.fault;
      still = k.still;
      waits = k.waits;
      sound = k.sound;
      offered = ap (λ (octets : List ℕ). octets_offered_in inside ++ octets) spare ∙ k.offered;
      acts = k.acts;
      inward = k.inward;
      marks = ap (λ (marks : List Mark). outward_marks inside ++ marks) over ∙ k.marks;
      untold = subst (λ (marks : List Mark). IsTrue (list_all is_untold_mark marks)) (sym over) k.are_untold;
      none = λ h. over ∙ k.none h;
    }

-- ---- the beginning

kept_nothing : Kept [] [] [] false
unfolding octets_written_in octets_offered_in acts_but_writes inward_acts outward_marks outward_marks_behind acts_behind_fault
kept_nothing = record {
  spare = [];
  over = [];
  fault = refl;
  still = refl;
  waits = λ h. refl;
  sound = λ h. refl;
  offered = refl;
  acts = λ h. refl;
  inward = refl;
  marks = refl;
  are_untold = refl;
  none = λ h. refl;
}

pub kept_at_first : (inside program : List Act) (lines : List ℕ) → inside ≡ [] → program ≡ [] → lines ≡ [] → IsKept inside program lines false
kept_at_first inside program lines no_act nothing no_line =
    subst (λ (i : List Act). IsKept i program lines false) (sym no_act)
    (subst (λ (p : List Act). IsKept [] p lines false) (sym nothing)
    (subst (λ (l : List ℕ). IsKept [] [] l false) (sym no_line) (closed [] [] [] false kept_nothing)))

-- ---- an act that is done inside too

none_of : (a b : Bool) → a ≡ false → b ≡ false → (a || b) ≡ false
none_of a b p q = ap (λ (x : Bool). x || b) p ∙ q

-- no write failed, and nothing is behind a fault
no_fault_more : (xs : List Act) (x : Act) → IsFalse (list_any is_sink_fault xs) → IsFalse (is_sink_fault x) → IsFalse (list_any is_sink_fault (xs ++ x ∷ []))
no_fault_more xs x p q = faults_more is_sink_fault xs x ∙ none_of (list_any is_sink_fault xs) (is_sink_fault x) p q

still_sound : (xs : List Act) → IsFalse (list_any is_sink_fault xs) → IsFalse (list_any goes_or_writes (acts_behind_fault xs))
still_sound xs h = ap (λ (ys : List Act). list_any goes_or_writes ys) (none_behind xs h)

-- an act that goes_or_writes out, where no line waits and no write failed
pub kept_going : (inside program : List Act) (act : Act) → IsTrue (is_outward act) → IsKept inside program [] false → IsKept (inside ++ act ∷ []) (program ++ act ∷ []) [] false
kept_going inside program act out kept =
    let k : Kept inside program [] false = opened inside program [] false kept in
    let quiet : IsFalse (is_write act) = outward_writes_nothing act out in
    let sound : IsFalse (list_any is_sink_fault (inside ++ act ∷ [])) = no_fault_more inside act k.fault (no_fault act quiet) in
    let written : octets_written_in inside ≡ octets_written_in program = sym (append-nil (octets_written_in inside)) ∙ k.waits refl in
    let same : outward_marks inside ≡ outward_marks program = sym (append-nil (outward_marks inside)) ∙ ap (λ (ms : List Mark). outward_marks inside ++ ms) (sym (k.none refl)) ∙ k.marks in
    closed (inside ++ act ∷ []) (program ++ act ∷ []) [] false (record {
      spare = k.spare;
      over = [];
      fault = sound;
      still = still_sound (inside ++ act ∷ []) sound;
      waits = λ h. append-nil (octets_written_in (inside ++ act ∷ [])) ∙ written_same inside act quiet ∙ written ∙ sym (written_same program act quiet);
      sound = λ h. no_fault_more program act (k.sound refl) (no_fault act quiet);
      offered = ap (λ (os : List ℕ). os ++ k.spare) (offered_same inside act quiet) ∙ k.offered ∙ sym (offered_same program act quiet);
      acts = λ h. acts_more inside act ∙ ap (λ (xs : List Act). xs ++ unless_write act) (k.acts refl) ∙ sym (acts_more program act);
      inward = inward_more inside act ∙ ap (λ (xs : List Act). xs ++ when_inward act) k.inward ∙ sym (inward_more program act);
      marks = append-nil (outward_marks (inside ++ act ∷ [])) ∙ marks_more inside act
          ∙ ap (λ (ms : List Mark). ms ++ mark_of (octets_written_in inside) (acts_but_writes inside) act) same
          ∙ ap (λ (os : List ℕ). outward_marks program ++ mark_of os (acts_but_writes inside) act) written
          ∙ ap (λ (xs : List Act). outward_marks program ++ mark_of (octets_written_in program) xs act) (k.acts refl)
          ∙ sym (marks_more program act);
      are_untold = refl;
      none = λ h. refl;
    })

still_more : (xs : List Act) (x : Act) → IsFalse (list_any goes_or_writes (acts_behind_fault xs)) → IsFalse (goes_or_writes x) → IsFalse (list_any goes_or_writes (acts_behind_fault (xs ++ x ∷ [])))
unfolding acts_behind_fault
still_more [] x p q = alone (is_sink_fault x)
  where
    alone : (b : Bool) → IsFalse (list_any goes_or_writes (if b then [] else []))
    alone true = refl
    alone false = refl
still_more (y ∷ ys) x p q = at (is_sink_fault y) (λ h. still_more ys x h q) p
  where
    at : (b : Bool) → (IsFalse (list_any goes_or_writes (acts_behind_fault ys)) → IsFalse (list_any goes_or_writes (acts_behind_fault (ys ++ x ∷ []))))
        → IsFalse (list_any goes_or_writes (if b then ys else acts_behind_fault ys)) → IsFalse (list_any goes_or_writes (if b then ys ++ x ∷ [] else acts_behind_fault (ys ++ x ∷ [])))
    at true rest h = faults_more goes_or_writes ys x ∙ none_of (list_any goes_or_writes ys) (goes_or_writes x) h q
    at false rest h = rest h

-- an act by which something comes in, at any time
pub kept_passing : (inside program : List Act) (lines : List ℕ) (failed : Bool) (act : Act) → IsFalse (is_outward act) → IsFalse (is_write act)
    → IsKept inside program lines failed → IsKept (inside ++ act ∷ []) (program ++ act ∷ []) lines failed
kept_passing inside program lines failed act not_out quiet kept =
    let k : Kept inside program lines failed = opened inside program lines failed kept in
    closed (inside ++ act ∷ []) (program ++ act ∷ []) lines failed (record {
      spare = k.spare;
      over = k.over;
      fault = faults_more is_sink_fault inside act ∙ ap (λ (b : Bool). list_any is_sink_fault inside || b) (no_fault act quiet) ∙ or_none (list_any is_sink_fault inside) ∙ k.fault;
      still = still_more inside act k.still (none_of (is_outward act) (is_write act) not_out quiet);
      waits = λ h. ap (λ (os : List ℕ). os ++ lines) (written_same inside act quiet) ∙ k.waits h ∙ sym (written_same program act quiet);
      sound = λ h. no_fault_more program act (k.sound h) (no_fault act quiet);
      offered = ap (λ (os : List ℕ). os ++ k.spare) (offered_same inside act quiet) ∙ k.offered ∙ sym (offered_same program act quiet);
      acts = λ h. acts_more inside act ∙ ap (λ (xs : List Act). xs ++ unless_write act) (k.acts h) ∙ sym (acts_more program act);
      inward = inward_more inside act ∙ ap (λ (xs : List Act). xs ++ when_inward act) k.inward ∙ sym (inward_more program act);
      marks = ap (λ (ms : List Mark). ms ++ k.over) (marks_same inside act not_out) ∙ k.marks ∙ sym (marks_same program act not_out);
      are_untold = k.are_untold;
      none = k.none;
    })
  where
    or_none : (b : Bool) → (b || false) ≡ b
    or_none true = refl
    or_none false = refl

-- ---- an act that isn't done inside, since a write failed

-- a call that goes_or_writes out
pub kept_refusing : (inside program : List Act) (lines : List ℕ) (act : Act) → IsTrue (is_outward act) → IsTrue (is_untold act)
    → IsKept inside program lines true → IsKept inside (program ++ act ∷ []) lines true
kept_refusing inside program lines act out not_told kept =
    let k : Kept inside program lines true = opened inside program lines true kept in
    let quiet : IsFalse (is_write act) = outward_writes_nothing act out in
    let mark : List Mark = mark_of (octets_written_in program) (acts_but_writes program) act in
    closed inside (program ++ act ∷ []) lines true (record {
      spare = k.spare;
      over = k.over ++ mark;
      fault = k.fault;
      still = k.still;
      waits = λ h. absurd (true≢false h);
      sound = λ h. absurd (true≢false h);
      offered = k.offered ∙ sym (offered_same program act quiet);
      acts = λ h. absurd (true≢false h);
      inward = k.inward ∙ sym (inward_same program act out);
      marks = sym (append_assoc (outward_marks inside) k.over mark) ∙ ap (λ (ms : List Mark). ms ++ mark) k.marks ∙ sym (marks_more program act);
      are_untold = list_all-append is_untold_mark k.over mark ∙ both (list_all is_untold_mark k.over) (list_all is_untold_mark mark) k.are_untold
          (ap (λ (ms : List Mark). list_all is_untold_mark ms) (marked (octets_written_in program) (acts_but_writes program) act out) ∙ and_true (is_untold act) not_told);
      none = λ h. absurd (true≢false h);
    })
  where
    both : (a b : Bool) → a ≡ true → b ≡ true → (a && b) ≡ true
    both a b p q = ap (λ (x : Bool). x && b) p ∙ q

    and_true : (b : Bool) → b ≡ true → (b && true) ≡ true
    and_true b h = ap (λ (x : Bool). x && true) h

-- a write
pub kept_unwritten : (inside program : List Act) (lines piece : List ℕ) → IsKept inside program lines true → IsKept inside (program ++ Wrote piece false ∷ []) lines true
kept_unwritten inside program lines piece kept =
    let k : Kept inside program lines true = opened inside program lines true kept in
    closed inside (program ++ Wrote piece false ∷ []) lines true (record {
      spare = k.spare ++ piece;
      over = k.over;
      fault = k.fault;
      still = k.still;
      waits = λ h. absurd (true≢false h);
      sound = λ h. absurd (true≢false h);
      offered = sym (append_assoc (octets_offered_in inside) k.spare piece) ∙ ap (λ (os : List ℕ). os ++ piece) k.offered ∙ sym (offered_more program (Wrote piece false));
      acts = λ h. absurd (true≢false h);
      inward = k.inward ∙ sym (inward_written program piece false);
      marks = k.marks ∙ sym (marks_same program (Wrote piece false) refl);
      are_untold = k.are_untold;
      none = λ h. absurd (true≢false h);
    })

-- ---- lines that wait

-- a piece waits behind the others
pub kept_waiting : (inside program : List Act) (lines piece : List ℕ) → IsKept inside program lines false → IsKept inside (program ++ Wrote piece true ∷ []) (lines ++ piece) false
kept_waiting inside program lines piece kept =
    let k : Kept inside program lines false = opened inside program lines false kept in
    closed inside (program ++ Wrote piece true ∷ []) (lines ++ piece) false (record {
      spare = k.spare ++ piece;
      over = k.over;
      fault = k.fault;
      still = k.still;
      waits = λ h. sym (append_assoc (octets_written_in inside) lines piece) ∙ ap (λ (os : List ℕ). os ++ piece) (k.waits h) ∙ sym (written_more program (Wrote piece true));
      sound = λ h. no_fault_more program (Wrote piece true) (k.sound h) refl;
      offered = sym (append_assoc (octets_offered_in inside) k.spare piece) ∙ ap (λ (os : List ℕ). os ++ piece) k.offered ∙ sym (offered_more program (Wrote piece true));
      acts = λ h. k.acts h ∙ sym (acts_written program piece true);
      inward = k.inward ∙ sym (inward_written program piece true);
      marks = k.marks ∙ sym (marks_same program (Wrote piece true) refl);
      are_untold = k.are_untold;
      none = k.none;
    })

-- where no write failed, all that was offered was written
offered_sound : (xs : List Act) → IsFalse (list_any is_sink_fault xs) → octets_offered_in xs ≡ octets_written_in xs
unfolding octets_offered_in octets_written_in
offered_sound [] h = refl
offered_sound (x ∷ xs) h =
    let parts : IsFalse (is_sink_fault x) × IsFalse (list_any is_sink_fault xs) = neither (is_sink_fault x) (list_any is_sink_fault xs) h in
    ap (λ (os : List ℕ). os ++ octets_offered_in xs) (one x parts.0) ∙ ap (λ (os : List ℕ). octets_written_by x ++ os) (offered_sound xs parts.1)
  where
    neither : (a b : Bool) → (a || b) ≡ false → IsFalse a × IsFalse b
    neither true b h = absurd (true≢false h)
    neither false b h = (refl, h)

    one : (y : Act) → IsFalse (is_sink_fault y) → octets_offered_by y ≡ octets_written_by y
    one (Fetched name answer) h = refl
    one (Wrote piece true) h = refl
    one (Wrote piece false) h = absurd (true≢false h)
    one (Called call) h = refl
    one (Asked moment) h = refl
    one (Drew word) h = refl

-- all that the program offered was offered inside, but for the lines that wait
offered_is : (inside program : List Act) (lines : List ℕ) → Kept inside program lines false → octets_offered_in inside ++ lines ≡ octets_offered_in program
offered_is inside program lines k =
    ap (λ (os : List ℕ). os ++ lines) (offered_sound inside k.fault) ∙ k.waits refl ∙ sym (offered_sound program (k.sound refl))

behind_first_fault : (xs : List Act) (piece : List ℕ) → IsFalse (list_any is_sink_fault xs) → acts_behind_fault (xs ++ Wrote piece false ∷ []) ≡ []
unfolding acts_behind_fault
behind_first_fault [] piece h = refl
behind_first_fault (x ∷ xs) piece h = at (is_sink_fault x) (λ none. behind_first_fault xs piece none) h
  where
    at : (b : Bool) → (IsFalse (list_any is_sink_fault xs) → acts_behind_fault (xs ++ Wrote piece false ∷ []) ≡ [])
        → (b || list_any is_sink_fault xs) ≡ false → (if b then xs ++ Wrote piece false ∷ [] else acts_behind_fault (xs ++ Wrote piece false ∷ [])) ≡ []
    at true rest h = absurd (true≢false h)
    at false rest h = rest h

fault_more : (xs : List Act) (piece : List ℕ) → list_any is_sink_fault (xs ++ Wrote piece false ∷ []) ≡ true
fault_more xs piece = faults_more is_sink_fault xs (Wrote piece false) ∙ or_true (list_any is_sink_fault xs)
  where
    or_true : (b : Bool) → (b || true) ≡ true
    or_true true = refl
    or_true false = refl

-- the lines that wait were written
pub kept_written_out : (inside program : List Act) (lines : List ℕ) (done : Bool) → IsKept inside program lines false → IsKept (inside ++ Wrote lines done ∷ []) program [] (not done)
kept_written_out inside program lines true kept =
    let k : Kept inside program lines false = opened inside program lines false kept in
    let all : List Act = inside ++ Wrote lines true ∷ [] in
    let sound : IsFalse (list_any is_sink_fault all) = no_fault_more inside (Wrote lines true) k.fault refl in
    closed all program [] false (record {
      spare = [];
      over = k.over;
      fault = sound;
      still = still_sound all sound;
      waits = λ h. append-nil (octets_written_in all) ∙ written_more inside (Wrote lines true) ∙ k.waits refl;
      sound = k.sound;
      offered = append-nil (octets_offered_in all) ∙ offered_more inside (Wrote lines true) ∙ offered_is inside program lines k;
      acts = λ h. acts_written inside lines true ∙ k.acts refl;
      inward = inward_written inside lines true ∙ k.inward;
      marks = ap (λ (ms : List Mark). ms ++ k.over) (marks_same inside (Wrote lines true) refl) ∙ k.marks;
      are_untold = k.are_untold;
      none = k.none;
    })
kept_written_out inside program lines false kept =
    let k : Kept inside program lines false = opened inside program lines false kept in
    let all : List Act = inside ++ Wrote lines false ∷ [] in
    closed all program [] true (record {
      spare = [];
      over = k.over;
      fault = fault_more inside lines;
      still = ap (λ (ys : List Act). list_any goes_or_writes ys) (behind_first_fault inside lines k.fault);
      waits = λ h. absurd (true≢false h);
      sound = λ h. absurd (true≢false h);
      offered = append-nil (octets_offered_in all) ∙ offered_more inside (Wrote lines false) ∙ offered_is inside program lines k;
      acts = λ h. absurd (true≢false h);
      inward = inward_written inside lines false ∙ k.inward;
      marks = ap (λ (ms : List Mark). ms ++ k.over) (marks_same inside (Wrote lines false) refl) ∙ k.marks;
      are_untold = k.are_untold;
      none = λ h. absurd (true≢false h);
    })

-- a piece was written at once, where none wait
pub kept_at_once : (inside program : List Act) (piece : List ℕ) (done : Bool) → IsKept inside program [] false → IsKept (inside ++ Wrote piece done ∷ []) (program ++ Wrote piece done ∷ []) [] (not done)
kept_at_once inside program piece true kept = kept_written_out inside (program ++ Wrote piece true ∷ []) piece true (kept_waiting inside program [] piece kept)
kept_at_once inside program piece false kept =
    let k : Kept inside program [] false = opened inside program [] false kept in
    let all : List Act = inside ++ Wrote piece false ∷ [] in
    let offered : octets_offered_in inside ≡ octets_offered_in program = sym (append-nil (octets_offered_in inside)) ∙ offered_is inside program [] k in
    closed all (program ++ Wrote piece false ∷ []) [] true (record {
      spare = [];
      over = k.over;
      fault = fault_more inside piece;
      still = ap (λ (ys : List Act). list_any goes_or_writes ys) (behind_first_fault inside piece k.fault);
      waits = λ h. absurd (true≢false h);
      sound = λ h. absurd (true≢false h);
      offered = append-nil (octets_offered_in all) ∙ offered_more inside (Wrote piece false) ∙ ap (λ (os : List ℕ). os ++ piece) offered ∙ sym (offered_more program (Wrote piece false));
      acts = λ h. absurd (true≢false h);
      inward = inward_written inside piece false ∙ k.inward ∙ sym (inward_written program piece false);
      marks = ap (λ (ms : List Mark). ms ++ k.over) (marks_same inside (Wrote piece false) refl) ∙ k.marks ∙ sym (marks_same program (Wrote piece false) refl);
      are_untold = k.are_untold;
      none = λ h. absurd (true≢false h);
    })
