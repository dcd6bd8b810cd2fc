-- What one act more adds to each thing that is gathered from a list of acts.
use Rattle.std.proofs.Common.{◌≡◌, ℕ, Bool, true, false, ◌||◌, List, [], ◌∷◌, ◌++◌, IsTrue, IsFalse, if◌then◌else◌, flat_map, refl, sym, ap, ◌∙◌, append_assoc, append-nil, true≢false}
use Rattle.std.specs.List.{list_any}
use Rattle.std.proofs.lemmas.List.Concat.{flat_map-append}
use Rattle.std.proofs.lemmas.List.Folds.{list_any-append}
use Rattle.outside.specs.Acts.{Act, Fetched, Wrote, Called, Asked, Drew, Listened, Dialled, Turned, Read, Sent, Closed, is_write, is_sink_fault}
use Rattle.recorded.specs.Recordings.{is_outward, octets_written_by, octets_written_in, octets_offered_by, octets_offered_in, unless_write, acts_but_writes, when_inward, inward_acts, acts_behind_fault}
use Rattle.recorded.specs.Keeping.{Mark, mark_of, outward_marks_behind, outward_marks}

-- ---- what is gathered act by act

gathers : {A : Type 0} (f : Act → List A) (xs : List Act) (x : Act) → flat_map f (xs ++ x ∷ []) ≡ flat_map f xs ++ f x
gathers {A} f xs x = flat_map-append f xs (x ∷ []) ∙ ap (λ (zs : List A). flat_map f xs ++ zs) (append-nil (f x))

pub written_more : (xs : List Act) (x : Act) → octets_written_in (xs ++ x ∷ []) ≡ octets_written_in xs ++ octets_written_by x
unfolding octets_written_in
written_more xs x = gathers octets_written_by xs x

pub offered_more : (xs : List Act) (x : Act) → octets_offered_in (xs ++ x ∷ []) ≡ octets_offered_in xs ++ octets_offered_by x
unfolding octets_offered_in
offered_more xs x = gathers octets_offered_by xs x

pub acts_more : (xs : List Act) (x : Act) → acts_but_writes (xs ++ x ∷ []) ≡ acts_but_writes xs ++ unless_write x
unfolding acts_but_writes
acts_more xs x = gathers unless_write xs x

pub inward_more : (xs : List Act) (x : Act) → inward_acts (xs ++ x ∷ []) ≡ inward_acts xs ++ when_inward x
unfolding inward_acts
inward_more xs x = gathers when_inward xs x

-- ---- an act that adds nothing

same_more : {A : Type 0} (before now by : List A) → now ≡ before ++ by → by ≡ [] → now ≡ before
same_more {A} before now by is none = is ∙ ap (λ (zs : List A). before ++ zs) none ∙ append-nil before

no_octets : (x : Act) → IsFalse (is_write x) → octets_written_by x ≡ []
no_octets (Fetched name answer) h = refl
no_octets (Wrote piece done) h = absurd (true≢false h)
no_octets (Called call) h = refl
no_octets (Asked moment) h = refl
no_octets (Drew word) h = refl

none_offered : (x : Act) → IsFalse (is_write x) → octets_offered_by x ≡ []
none_offered (Fetched name answer) h = refl
none_offered (Wrote piece done) h = absurd (true≢false h)
none_offered (Called call) h = refl
none_offered (Asked moment) h = refl
none_offered (Drew word) h = refl

pub no_fault : (x : Act) → IsFalse (is_write x) → IsFalse (is_sink_fault x)
no_fault (Fetched name answer) h = refl
no_fault (Wrote piece done) h = absurd (true≢false h)
no_fault (Called call) h = refl
no_fault (Asked moment) h = refl
no_fault (Drew word) h = refl

pub outward_writes_nothing : (x : Act) → IsTrue (is_outward x) → IsFalse (is_write x)
outward_writes_nothing (Fetched name answer) h = refl
outward_writes_nothing (Wrote piece done) h = absurd (true≢false (sym h))
outward_writes_nothing (Called call) h = refl
outward_writes_nothing (Asked moment) h = refl
outward_writes_nothing (Drew word) h = refl

outward_is_not_inward : (x : Act) → IsTrue (is_outward x) → when_inward x ≡ []
outward_is_not_inward (Fetched name answer) h = absurd (true≢false (sym h))
outward_is_not_inward (Wrote piece done) h = absurd (true≢false (sym h))
outward_is_not_inward (Called (Listened address listens)) h = refl
outward_is_not_inward (Called (Dialled address conn)) h = refl
outward_is_not_inward (Called (Turned until what)) h = refl
outward_is_not_inward (Called (Read conn size reading)) h = absurd (true≢false (sym h))
outward_is_not_inward (Called (Sent conn piece answer)) h = refl
outward_is_not_inward (Called (Closed conn)) h = refl
outward_is_not_inward (Asked moment) h = absurd (true≢false (sym h))
outward_is_not_inward (Drew word) h = absurd (true≢false (sym h))

pub unmarked : (written : List ℕ) (acts : List Act) (x : Act) → IsFalse (is_outward x) → mark_of written acts x ≡ []
unmarked written acts (Fetched name answer) h = refl
unmarked written acts (Wrote piece done) h = refl
unmarked written acts (Called (Listened address listens)) h = absurd (true≢false h)
unmarked written acts (Called (Dialled address conn)) h = absurd (true≢false h)
unmarked written acts (Called (Turned until what)) h = absurd (true≢false h)
unmarked written acts (Called (Read conn size reading)) h = refl
unmarked written acts (Called (Sent conn piece answer)) h = absurd (true≢false h)
unmarked written acts (Called (Closed conn)) h = absurd (true≢false h)
unmarked written acts (Asked moment) h = refl
unmarked written acts (Drew word) h = refl

pub marked : (written : List ℕ) (acts : List Act) (x : Act) → IsTrue (is_outward x) → mark_of written acts x ≡ record { written = written; acts = acts; act = x } ∷ []
marked written acts (Fetched name answer) h = absurd (true≢false (sym h))
marked written acts (Wrote piece done) h = absurd (true≢false (sym h))
marked written acts (Called (Listened address listens)) h = refl
marked written acts (Called (Dialled address conn)) h = refl
marked written acts (Called (Turned until what)) h = refl
marked written acts (Called (Read conn size reading)) h = absurd (true≢false (sym h))
marked written acts (Called (Sent conn piece answer)) h = refl
marked written acts (Called (Closed conn)) h = refl
marked written acts (Asked moment) h = absurd (true≢false (sym h))
marked written acts (Drew word) h = absurd (true≢false (sym h))

pub written_same : (xs : List Act) (x : Act) → IsFalse (is_write x) → octets_written_in (xs ++ x ∷ []) ≡ octets_written_in xs
written_same xs x h = same_more (octets_written_in xs) (octets_written_in (xs ++ x ∷ [])) (octets_written_by x) (written_more xs x) (no_octets x h)

pub offered_same : (xs : List Act) (x : Act) → IsFalse (is_write x) → octets_offered_in (xs ++ x ∷ []) ≡ octets_offered_in xs
offered_same xs x h = same_more (octets_offered_in xs) (octets_offered_in (xs ++ x ∷ [])) (octets_offered_by x) (offered_more xs x) (none_offered x h)

pub inward_same : (xs : List Act) (x : Act) → IsTrue (is_outward x) → inward_acts (xs ++ x ∷ []) ≡ inward_acts xs
inward_same xs x h = same_more (inward_acts xs) (inward_acts (xs ++ x ∷ [])) (when_inward x) (inward_more xs x) (outward_is_not_inward x h)

-- ---- a write, whether it failed or not

pub acts_written : (xs : List Act) (piece : List ℕ) (done : Bool) → acts_but_writes (xs ++ Wrote piece done ∷ []) ≡ acts_but_writes xs
acts_written xs piece done = same_more (acts_but_writes xs) (acts_but_writes (xs ++ Wrote piece done ∷ [])) [] (acts_more xs (Wrote piece done)) refl

pub inward_written : (xs : List Act) (piece : List ℕ) (done : Bool) → inward_acts (xs ++ Wrote piece done ∷ []) ≡ inward_acts xs
inward_written xs piece done = same_more (inward_acts xs) (inward_acts (xs ++ Wrote piece done ∷ [])) [] (inward_more xs (Wrote piece done)) refl

-- ---- marks

pub marks_then : (written : List ℕ) (before xs ys : List Act)
    → outward_marks_behind written before (xs ++ ys) ≡ outward_marks_behind written before xs ++ outward_marks_behind (written ++ octets_written_in xs) (before ++ acts_but_writes xs) ys
unfolding outward_marks_behind octets_written_in acts_but_writes
marks_then written before [] ys =
    ap (λ (w : List ℕ). outward_marks_behind w before ys) (sym (append-nil written)) ∙ ap (λ (b : List Act). outward_marks_behind (written ++ []) b ys) (sym (append-nil before))
marks_then written before (x ∷ xs) ys =
    let w : List ℕ = written ++ octets_written_by x in
    let b : List Act = before ++ unless_write x in
    let first : List Mark = mark_of written before x in
    ap (λ (ms : List Mark). first ++ ms)
    (marks_then w b xs ys
    ∙ ap (λ (v : List ℕ). outward_marks_behind w b xs ++ outward_marks_behind v (b ++ acts_but_writes xs) ys) (append_assoc written (octets_written_by x) (octets_written_in xs))
    ∙ ap (λ (c : List Act). outward_marks_behind w b xs ++ outward_marks_behind (written ++ (octets_written_by x ++ octets_written_in xs)) c ys) (append_assoc before (unless_write x) (acts_but_writes xs)))
    ∙ sym (append_assoc first (outward_marks_behind w b xs) (outward_marks_behind (written ++ (octets_written_by x ++ octets_written_in xs)) (before ++ (unless_write x ++ acts_but_writes xs)) ys))

pub marks_cut : (xs ys : List Act) → outward_marks (xs ++ ys) ≡ outward_marks xs ++ outward_marks_behind (octets_written_in xs) (acts_but_writes xs) ys
unfolding outward_marks
marks_cut xs ys = marks_then [] [] xs ys

pub marks_more : (xs : List Act) (x : Act) → outward_marks (xs ++ x ∷ []) ≡ outward_marks xs ++ mark_of (octets_written_in xs) (acts_but_writes xs) x
unfolding outward_marks outward_marks_behind
marks_more xs x =
    marks_cut xs (x ∷ []) ∙ ap (λ (ms : List Mark). outward_marks xs ++ ms) (append-nil (mark_of (octets_written_in xs) (acts_but_writes xs) x))

pub marks_same : (xs : List Act) (x : Act) → IsFalse (is_outward x) → outward_marks (xs ++ x ∷ []) ≡ outward_marks xs
marks_same xs x h =
    same_more (outward_marks xs) (outward_marks (xs ++ x ∷ [])) (mark_of (octets_written_in xs) (acts_but_writes xs) x) (marks_more xs x)
    (unmarked (octets_written_in xs) (acts_but_writes xs) x h)

-- ---- faults

pub faults_more : (is : Act → Bool) (xs : List Act) (x : Act) → list_any is (xs ++ x ∷ []) ≡ (list_any is xs || is x)
faults_more is xs x = list_any-append is xs (x ∷ []) ∙ ap (λ (b : Bool). list_any is xs || b) (or_none (is x))
  where
    or_none : (b : Bool) → (b || false) ≡ b
    or_none true = refl
    or_none false = refl

-- without a fault there is nothing behind it
pub none_behind : (xs : List Act) → IsFalse (list_any is_sink_fault xs) → acts_behind_fault xs ≡ []
unfolding acts_behind_fault
none_behind [] h = refl
none_behind (x ∷ xs) h = at (is_sink_fault x) (λ none. none_behind xs none) h
  where
    at : (b : Bool) → (IsFalse (list_any is_sink_fault xs) → acts_behind_fault xs ≡ []) → (b || list_any is_sink_fault xs) ≡ false
        → (if b then xs else acts_behind_fault xs) ≡ []
    at true rest h = absurd (true≢false h)
    at false rest h = rest h
