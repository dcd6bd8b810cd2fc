-- What is one connection's of a journal and a record, one part behind another.
use Rattle.std.proofs.Common.{if◌then◌else◌, ◌≡◌, ℕ, ◌<◌, ◌≤◌, inl, inr, Bool, true, false, List, [], ◌∷◌, ◌++◌, refl, sym, ◌∙◌, ap, append_assoc, arith}
use Rattle.std.specs.Prelude.{◌==◌}
use Rattle.std.proofs.lemmas.Bool.{cases_Bool}
use Rattle.link_trait.specs.Wires.{Call}
use Rattle.loop_model.specs.Journals.{JournalEntry}
use Rattle.loop_model.specs.Parts.{of, is_at, calls_at, connections_opened_by_call, opened_in, Rises, newest}

pub of-append : (conn : ℕ) (xs ys : List JournalEntry) → of conn (xs ++ ys) ≡ of conn xs ++ of conn ys
unfolding of
of-append conn [] ys = refl
of-append conn (x ∷ xs) ys =
    elim (cases_Bool (x.conn == conn)) [
      | inl p ↦ rw p (ap (λ zs. x ∷ zs) (of-append conn xs ys))
      | inr p ↦ rw p (of-append conn xs ys)
    ]

pub calls_at-append : (conn : ℕ) (cs ds : List Call) → calls_at conn (cs ++ ds) ≡ calls_at conn cs ++ calls_at conn ds
unfolding calls_at
calls_at-append conn [] ds = refl
calls_at-append conn (call ∷ cs) ds =
    elim (cases_Bool (is_at conn call)) [
      | inl p ↦ rw p (ap (λ zs. call ∷ zs) (calls_at-append conn cs ds))
      | inr p ↦ rw p (calls_at-append conn cs ds)
    ]

pub opened_in-append : (cs ds : List Call) → opened_in (cs ++ ds) ≡ opened_in cs ++ opened_in ds
unfolding opened_in
opened_in-append [] ds = refl
opened_in-append (call ∷ cs) ds =
    ap (λ zs. connections_opened_by_call call ++ zs) (opened_in-append cs ds) ∙ sym (append_assoc (connections_opened_by_call call) (opened_in cs) (opened_in ds))

pub rises_first : (from : ℕ) (ms ns : List ℕ) → Rises from (ms ++ ns) → Rises from ms
rises_first from [] ns p = tt
rises_first from (m ∷ ms) ns p = (p.0, rises_first m ms ns p.1)

pub rises_rest : (from : ℕ) (ms ns : List ℕ) → Rises from (ms ++ ns) → Rises (newest from ms) ns
rises_rest from [] ns p = p
rises_rest from (m ∷ ms) ns p = rises_rest m ms ns p.1

pub newest-append : (from : ℕ) (ms ns : List ℕ) → newest from (ms ++ ns) ≡ newest (newest from ms) ns
newest-append from [] ns = refl
newest-append from (m ∷ ms) ns = newest-append m ms ns

pub newest_later : (from : ℕ) (ns : List ℕ) → Rises from ns → from ≤ newest from ns
newest_later from [] p = omega arith
newest_later from (n ∷ ns) p = let h : n ≤ newest n ns = newest_later n ns p.1 in let q : from < n = p.0 in omega arith

-- what is all of one number, or none of it
pub split_if : {A : Type 0} (b : Bool) (xs ys : List A)
    → (if b then xs else []) ++ (if b then ys else []) ≡ (if b then xs ++ ys else [])
split_if true xs ys = refl
split_if false xs ys = refl
