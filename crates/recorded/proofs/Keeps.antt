-- What is kept, as the code says what it did: each step by the equations of its acts.
use Rattle.std.proofs.Common.{◌≡◌, ℕ, Bool, true, false, not, List, [], ◌∷◌, ◌++◌, Result, Ok, Err, IsTrue, IsFalse, OnOk, is_ok, refl, sym, ap, subst, ◌∙◌}
use Rattle.std.specs.Result.{is_err}
use Rattle.outside.specs.Acts.{Act, Wrote, is_write}
use Rattle.outside.specs.Ties.{AreDrawn}
use Rattle.outside.specs.Doings.{Told, Did}
use Rattle.recorded.specs.Recordings.{is_outward, is_untold, octets_written_in}
use Rattle.recorded.specs.Telling.{told_through}
use Rattle.recorded.specs.Keeping.{IsKept}
use Rattle.recorded.proofs.Growing.{written_more}
use Rattle.recorded.proofs.Steps.{kept_going, kept_passing, kept_refusing, kept_unwritten, kept_waiting, kept_written_out, kept_at_once}

-- the same, where each part is as another
kept_as : (i j p q : List Act) (k l : List ℕ) (f g : Bool) → j ≡ i → q ≡ p → l ≡ k → g ≡ f → IsKept i p k f → IsKept j q l g
kept_as i j p q k l f g is ps ls fs kept =
    subst (λ (x : List Act). IsKept x q l g) (sym is) (subst (λ (x : List Act). IsKept i x l g) (sym ps)
    (subst (λ (x : List ℕ). IsKept i p x g) (sym ls) (subst (λ (x : Bool). IsKept i p k x) (sym fs) kept)))

failed_is : {T E : Type 0} (result : Result T E) → is_err result ≡ not (is_ok result)
failed_is (Ok x) = refl
failed_is (Err x) = refl

-- the lines that waited were written out
pub kept_out : {T E : Type 0} (result : Result T E) (i j p : List Act) (k l : List ℕ) (f g : Bool)
    → IsKept i p k f → f ≡ false → j ≡ i ++ Wrote k (is_ok result) ∷ [] → l ≡ [] → g ≡ is_err result → IsKept j p l g
kept_out result i j p k l f g kept sound is ls gs =
    kept_as (i ++ Wrote k (is_ok result) ∷ []) j p p [] l (not (is_ok result)) g is refl ls (gs ∙ failed_is result)
    (kept_written_out i p k (is_ok result) (kept_as i i p p k k f false refl refl refl (sym sound) kept))

pub kept_refused : (i p q : List Act) (k piece : List ℕ) (f : Bool) → IsKept i p k f → f ≡ true → q ≡ p ++ Wrote piece false ∷ [] → IsKept i q k f
kept_refused i p q k piece f kept failed ps =
    kept_as i i (p ++ Wrote piece false ∷ []) q k k true f refl ps refl failed (kept_unwritten i p k piece (kept_as i i p p k k f true refl refl refl (sym failed) kept))

pub kept_taken : (i p q : List Act) (k l piece : List ℕ) (f : Bool) → IsKept i p k f → f ≡ false → q ≡ p ++ Wrote piece true ∷ [] → l ≡ k ++ piece → IsKept i q l f
kept_taken i p q k l piece f kept sound ps ls =
    kept_as i i (p ++ Wrote piece true ∷ []) q (k ++ piece) l false f refl ps ls sound (kept_waiting i p k piece (kept_as i i p p k k f false refl refl refl (sym sound) kept))

pub kept_written : {T E : Type 0} (result : Result T E) (i j p q : List Act) (k piece : List ℕ) (f g : Bool)
    → IsKept i p k f → k ≡ [] → f ≡ false → j ≡ i ++ Wrote piece (is_ok result) ∷ [] → q ≡ p ++ Wrote piece (is_ok result) ∷ [] → g ≡ is_err result → IsKept j q k g
kept_written result i j p q k piece f g kept none sound is ps gs =
    kept_as (i ++ Wrote piece (is_ok result) ∷ []) j (p ++ Wrote piece (is_ok result) ∷ []) q [] k (not (is_ok result)) g is ps none (gs ∙ failed_is result)
    (kept_at_once i p piece (is_ok result) (kept_as i i p p k [] f false refl refl (sym none) (sym sound) kept))

pub kept_passed : (act : Act) (i j p q : List Act) (k : List ℕ) (f : Bool)
    → IsKept i p k f → IsFalse (is_outward act) → IsFalse (is_write act) → j ≡ i ++ act ∷ [] → q ≡ p ++ act ∷ [] → IsKept j q k f
kept_passed act i j p q k f kept not_out quiet is ps = kept_as (i ++ act ∷ []) j (p ++ act ∷ []) q k k f f is ps refl refl (kept_passing i p k f act not_out quiet kept)

pub kept_gone : (act : Act) (i j p q : List Act) (k : List ℕ) (f : Bool)
    → IsKept i p k f → IsTrue (is_outward act) → k ≡ [] → f ≡ false → j ≡ i ++ act ∷ [] → q ≡ p ++ act ∷ [] → IsKept j q k f
kept_gone act i j p q k f kept out none sound is ps =
    kept_as (i ++ act ∷ []) j (p ++ act ∷ []) q [] k false f is ps none sound (kept_going i p act out (kept_as i i p p k [] f false refl refl (sym none) (sym sound) kept))

pub kept_back : (act : Act) (i p q : List Act) (k : List ℕ) (f : Bool)
    → IsKept i p k f → IsTrue (is_outward act) → IsTrue (is_untold act) → f ≡ true → q ≡ p ++ act ∷ [] → IsKept i q k f
kept_back act i p q k f kept out not_told failed ps =
    kept_as i i (p ++ act ∷ []) q k k true f refl ps refl failed (kept_refusing i p k act out not_told (kept_as i i p p k k f true refl refl refl (sym failed) kept))

-- then all that was taken is written
pub out_written : {T E : Type 0} (result : Result T E) (i j p : List Act) (k : List ℕ) (f : Bool)
    → IsKept i p k f → f ≡ false → j ≡ i ++ Wrote k (is_ok result) ∷ [] → OnOk result (octets_written_in j ≡ octets_written_in p)
out_written (Ok x) i j p k f kept sound is = ap octets_written_in is ∙ written_more i (Wrote k true) ∙ kept.waits sound
out_written (Err x) i j p k f kept sound is = tt

-- ---- a write inside isn't told outside

told_as : (acts : List Act) (t u : Told) → u.cabinet ≡ t.cabinet → u.wires ≡ t.wires → u.clock ≡ t.clock → u.words ≡ t.words → u.names ≡ t.names → told_through acts u ≡ told_through acts t
told_as acts t u cabinet wires clock words names =
    ap (λ c. told_through acts (record u { cabinet = c })) cabinet
    ∙ ap (λ w. told_through acts (record u { cabinet = t.cabinet; wires = w })) wires
    ∙ ap (λ c. told_through acts (record u { cabinet = t.cabinet; wires = t.wires; clock = c })) clock
    ∙ ap (λ s. told_through acts (record u { cabinet = t.cabinet; wires = t.wires; clock = t.clock; words = s })) words
    ∙ ap (λ n. told_through acts (record u { cabinet = t.cabinet; wires = t.wires; clock = t.clock; words = t.words; names = n })) names

pub told_written : (acts : List Act) (piece : List ℕ) (done : Bool) (t u : Told) → Did t u (Wrote piece done ∷ []) → told_through acts u ≡ told_through acts t
unfolding AreDrawn
told_written acts piece done t u did = told_as acts t u (did.cabinet.rests refl) (did.wires.rests refl) (did.clock.rests refl) did.words did.names
