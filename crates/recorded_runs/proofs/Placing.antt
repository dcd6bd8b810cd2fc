-- The place of a call in a run: it is one of the loop's; and no write failed before it there.
use Rattle.std.proofs.Common.{◌≡◌, ℕ, true, false, List, [], ◌∷◌, ◌++◌, IsFalse, refl, sym, ap, subst, ◌∙◌, true≢false}
use Rattle.std.specs.List.{list_any}
use Rattle.outside.specs.Acts.{SeenCall, Act, Fetched, Wrote, Called, Asked, Drew, is_call, is_sink_fault}
use Rattle.readiness_loop.specs.Recorded.{AreQuiet}
use Rattle.recorded_runs.proofs.Gathering.{head_is, tail_is, neither, not_among}

-- ---- which part of a run a call is of

-- behind the first part
record IsPast (first more before : List Act) (call : SeenCall) (behind : List Act) : Type 0 where
  done : List Act
  before_is : before ≡ first ++ done
  more_is : more ≡ done ++ Called call ∷ behind

past : (first more before : List Act) (call : SeenCall) (behind : List Act) → IsFalse (list_any is_call first)
    → first ++ more ≡ before ++ Called call ∷ behind → IsPast first more before call behind
past [] more before call behind none p = record { done = before; before_is = refl; more_is = p }
past (x ∷ first) more [] call behind none p =
    let is : x ≡ Called call = head_is x (Called call) (first ++ more) behind p in
    absurd (true≢false (sym (ap is_call is) ∙ (neither (is_call x) (list_any is_call first) none).0))
past (x ∷ first) more (y ∷ before) call behind none p =
    let r = past first more before call behind (neither (is_call x) (list_any is_call first) none).1 (tail_is x y (first ++ more) (before ++ Called call ∷ behind) p) in
    record {
      done = r.done;
      before_is = ap (λ (z : Act). z ∷ before) (sym (head_is x y (first ++ more) (before ++ Called call ∷ behind) p)) ∙ ap (λ (zs : List Act). x ∷ zs) r.before_is;
      more_is = r.more_is;
    }

-- ahead of the last part
record IsAhead (first last done : List Act) (call : SeenCall) (behind : List Act) : Type 0 where
  rest : List Act
  first_is : first ≡ done ++ Called call ∷ rest
  behind_is : behind ≡ rest ++ last

ahead : (first last done : List Act) (call : SeenCall) (behind : List Act) → IsFalse (list_any is_call last)
    → first ++ last ≡ done ++ Called call ∷ behind → IsAhead first last done call behind
ahead [] last done call behind none p =
    absurd (true≢false (not_among is_call done (Called call) behind (subst (λ (xs : List Act). IsFalse (list_any is_call xs)) p none)))
ahead (x ∷ first) last [] call behind none p = record {
  rest = first;
  first_is = ap (λ (z : Act). z ∷ first) (head_is x (Called call) (first ++ last) behind p);
  behind_is = sym (tail_is x (Called call) (first ++ last) behind p);
}
ahead (x ∷ first) last (y ∷ done) call behind none p =
    let r = ahead first last done call behind none (tail_is x y (first ++ last) (done ++ Called call ∷ behind) p) in
    record {
      rest = r.rest;
      first_is = ap (λ (z : Act). z ∷ first) (head_is x y (first ++ last) (done ++ Called call ∷ behind) p) ∙ ap (λ (zs : List Act). y ∷ zs) r.first_is;
      behind_is = r.behind_is;
    }

-- a call of a run whose first and last parts have none
pub record IsOfLoop (first loop last before : List Act) (call : SeenCall) (behind : List Act) : Type 0 where
  pub done : List Act
  pub rest : List Act
  pub before_is : before ≡ first ++ done
  pub loop_is : loop ≡ done ++ Called call ∷ rest
  pub behind_is : behind ≡ rest ++ last

pub of_loop : (first loop last before : List Act) (call : SeenCall) (behind : List Act) → IsFalse (list_any is_call first) → IsFalse (list_any is_call last)
    → first ++ (loop ++ last) ≡ before ++ Called call ∷ behind → IsOfLoop first loop last before call behind
of_loop first loop last before call behind none_first none_last p =
    let a = past first (loop ++ last) before call behind none_first p in
    let b = ahead loop last a.done call behind none_last a.more_is in
    record { done = a.done; rest = b.rest; before_is = a.before_is; loop_is = b.first_is; behind_is = b.behind_is }

-- ---- no write failed before a call

no_call_quiet : {A : Type 0} (xs : List Act) (call : SeenCall) (rest : List Act) → AreQuiet (xs ++ Called call ∷ rest) → A
no_call_quiet [] call rest q = absurd q
no_call_quiet (Fetched name answer ∷ xs) call rest q = absurd q
no_call_quiet (Wrote piece done ∷ xs) call rest q = absurd q
no_call_quiet (Called other ∷ xs) call rest q = absurd q
no_call_quiet (Asked moment ∷ xs) call rest q = no_call_quiet xs call rest q
no_call_quiet (Drew word ∷ xs) call rest q = no_call_quiet xs call rest q

pub unfailed : (done : List Act) (call : SeenCall) (rest : List Act)
    → ((piece : List ℕ) (before behind : List Act) → before ++ Wrote piece false ∷ behind ≡ done ++ Called call ∷ rest → AreQuiet behind)
    → IsFalse (list_any is_sink_fault done)
unfailed [] call rest quiet = refl
unfailed (Fetched name answer ∷ done) call rest quiet =
    unfailed done call rest (λ piece before behind p. quiet piece (Fetched name answer ∷ before) behind (ap (λ (xs : List Act). Fetched name answer ∷ xs) p))
unfailed (Wrote octets true ∷ done) call rest quiet =
    unfailed done call rest (λ piece before behind p. quiet piece (Wrote octets true ∷ before) behind (ap (λ (xs : List Act). Wrote octets true ∷ xs) p))
unfailed (Wrote octets false ∷ done) call rest quiet = no_call_quiet done call rest (quiet octets [] (done ++ Called call ∷ rest) refl)
unfailed (Called other ∷ done) call rest quiet =
    unfailed done call rest (λ piece before behind p. quiet piece (Called other ∷ before) behind (ap (λ (xs : List Act). Called other ∷ xs) p))
unfailed (Asked moment ∷ done) call rest quiet =
    unfailed done call rest (λ piece before behind p. quiet piece (Asked moment ∷ before) behind (ap (λ (xs : List Act). Asked moment ∷ xs) p))
unfailed (Drew word ∷ done) call rest quiet =
    unfailed done call rest (λ piece before behind p. quiet piece (Drew word ∷ before) behind (ap (λ (xs : List Act). Drew word ∷ xs) p))
