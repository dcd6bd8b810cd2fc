-- What a writer holds after some writes of a piece: the first octets of it, so many as were taken.
use Rattle.std.proofs.Common.{◌≡◌, ◌≤◌, ◌+◌, ◌-◌, ℕ, List, [], ◌++◌, Option, Some, None, Result, Ok, Err, sym, ap, ◌∙◌, subst, append_assoc, append-nil, take, drop, length, arith}
use Rattle.std.proofs.Math.Seq.{take-add}
use Rattle.std.proofs.lemmas.List.{length-drop}
use Rattle.std.specs.Io.{WritesAtMost}
use Rattle.std.specs.Io.KnownBytes.{Appends, WriteAppends, Keeps}
use Rattle.std.specs.declared.io.Error.{Error}
use Rattle.er_program.specs.WriterSinks.{IsWriteProgress}

kept_nothing : (a b : Option (List ℕ)) → Keeps a b → Appends a b []
kept_nothing None b p = tt
kept_nothing (Some xs) None p = absurd p
kept_nothing (Some xs) (Some ys) p = p ∙ sym (append-nil xs)

appends_then : (a b c : Option (List ℕ)) (xs ys : List ℕ) → Appends a b xs → Appends b c ys → Appends a c (xs ++ ys)
appends_then None b c xs ys p q = tt
appends_then (Some before) None c xs ys p q = absurd p
appends_then (Some before) (Some mid) None xs ys p q = absurd q
appends_then (Some before) (Some mid) (Some now) xs ys p q = q ∙ ap (λ zs. zs ++ ys) p ∙ append_assoc before xs ys

-- one write of the rest appended so many octets of it
appended : (b c : Option (List ℕ)) (rest : List ℕ) (count : ℕ) (answer : Result ℕ Error)
    → WriteAppends b c answer rest → IsWriteProgress answer (Some count) → Appends b c (take count rest)
appended b c rest count (Ok n) q r = subst (λ k. Appends b c (take k rest)) (sym r.0) q
appended b c rest count (Err e) q r = subst (λ k. Appends b c (take k rest)) (sym r.0) (kept_nothing b c q)

-- a write behind the first octets
pub taken_further : (a b c : Option (List ℕ)) (piece : List ℕ) (taken count : ℕ) (rest : List ℕ) (answer : Result ℕ Error)
    → rest ≡ drop taken piece → Appends a b (take taken piece) → WriteAppends b c answer rest → IsWriteProgress answer (Some count)
    → Appends a c (take (taken + count) piece)
taken_further a b c piece taken count rest answer e p q r =
    let next : Appends b c (take count (drop taken piece)) = subst (λ l. Appends b c (take count l)) e (appended b c rest count answer q r) in
    subst (Appends a c) (sym (take-add taken count piece)) (appends_then a b c (take taken piece) (take count (drop taken piece)) p next)

-- how far it leads lies within the piece
within : (rest : List ℕ) (count : ℕ) (answer : Result ℕ Error) → WritesAtMost answer rest → IsWriteProgress answer (Some count) → count ≤ length rest
within rest count (Ok n) p q = subst (λ k. k ≤ length rest) (sym q.0) p
within rest count (Err e) p q = subst (λ k. k ≤ length rest) (sym q.0) (omega arith)

pub within_piece : (piece : List ℕ) (taken count : ℕ) (rest : List ℕ) (answer : Result ℕ Error)
    → rest ≡ drop taken piece → taken ≤ length piece → WritesAtMost answer rest → IsWriteProgress answer (Some count) → taken + count ≤ length piece
within_piece piece taken count rest answer e most p q =
    let part : count ≤ length piece - taken = subst (λ k. count ≤ k) (ap length e ∙ length-drop taken piece) (within rest count answer p q) in
    omega arith
