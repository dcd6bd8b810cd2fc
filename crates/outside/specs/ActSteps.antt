-- Lemmas: what acts tell read back: the octets that a run of them left in the sink, and the call that wires tell of one; for the proofs of the crates above.
use Rattle.std.proofs.Common.{◌≡◌, ℕ, true, false, List, [], ◌∷◌, ◌++◌, map, Option, None, Some, refl, sym, ap, subst, ◌∙◌, append_assoc}
use Rattle.link_trait.specs.Outside.{Grew}
use Rattle.link_trait.specs.Wires.{Call, Listens, Dials, Turns, Reads, Writes, Closes}
use Rattle.outside.specs.Acts.{SeenCall, Listened, Dialled, Turned, Read, Sent, Closed, Act, Fetched, Wrote, Called, Asked, Drew}
use Rattle.outside.specs.Seen.{seen_of_call}
use Rattle.outside.specs.Ties.{IsLeft, PutsInSink, GrewSeen}
use Rattle.outside.specs.Scripts.{printing}

-- ---- octets in the sink

-- what two runs of acts left is what each left
pub record LeftByBoth {A : Type 0} (Leaves : Act → List A → Type 0) (xs ys : List Act) (all : List A) : Type 0 where
  pub first : List A
  pub rest : List A
  pub by_first : IsLeft Leaves xs first
  pub by_rest : IsLeft Leaves ys rest
  pub is : all ≡ first ++ rest

pub left_by_both : {A : Type 0} (Leaves : Act → List A → Type 0) (xs ys : List Act) (all : List A) → IsLeft Leaves (xs ++ ys) all → LeftByBoth Leaves xs ys all
unfolding IsLeft
left_by_both Leaves [] ys all p = record { first = []; rest = all; by_first = refl; by_rest = p; is = refl }
left_by_both {A} Leaves (x ∷ xs) ys all p =
    let more = left_by_both Leaves xs ys p.1 p.3 in
    record {
      first = p.0 ++ more.first;
      rest = more.rest;
      by_first = (p.0, more.first, p.2, more.by_first, refl);
      by_rest = more.by_rest;
      is = p.4 ∙ ap (λ (zs : List A). p.0 ++ zs) more.is ∙ sym (append_assoc p.0 more.first more.rest);
    }

-- a text that was printed, and what was written behind it
pub record LeftByPrinting (text : List ℕ) (acts : List Act) (all : List ℕ) : Type 0 where
  pub rest : List ℕ
  pub by_rest : IsLeft PutsInSink acts rest
  pub is : all ≡ text ++ rest

pub left_by_printing : (text : List ℕ) (acts : List Act) (all : List ℕ) → IsLeft PutsInSink (printing text ++ acts) all → LeftByPrinting text acts all
unfolding IsLeft
left_by_printing [] acts all p = record { rest = all; by_rest = p; is = refl }
left_by_printing (octet ∷ octets) acts all p = record { rest = p.1; by_rest = p.3; is = p.4 ∙ ap (λ (first : List ℕ). first ++ p.1) p.2 }

-- acts leave something
pub record LeavesSome (acts : List Act) : Type 0 where
  pub all : List ℕ
  pub left : IsLeft PutsInSink acts all

pub leaves_some : (acts : List Act) → LeavesSome acts
unfolding IsLeft
leaves_some [] = record { all = []; left = refl }
leaves_some (act ∷ acts) = let rest = leaves_some acts in let first =
    one act in record { all = first.0 ++ rest.all; left = (first.0, rest.all, first.1, rest.left, refl) }
  where
    one : (act : Act) → (all : List ℕ) × PutsInSink act all
    one (Fetched name answer) = ([], refl)
    one (Wrote piece true) = (piece, refl)
    one (Wrote piece false) = ([], (piece, refl))
    one (Called call) = ([], refl)
    one (Asked moment) = ([], refl)
    one (Drew word) = ([], refl)

-- ---- calls

-- the call that wires tell where this is seen of it; of a read they tell more than is seen
abbrev pub call_seen_so : SeenCall → Option Call
call_seen_so (Listened address listens) = Some (Listens address listens)
call_seen_so (Dialled address conn) = Some (Dials address conn)
call_seen_so (Turned until what) = Some (Turns until what)
call_seen_so (Read conn size reading) = None
call_seen_so (Sent conn piece answer) = Some (Writes conn piece answer)
call_seen_so (Closed conn) = Some (Closes conn)

same_call : (x y : Call) → Some x ≡ Some y → x ≡ y
same_call x y p = cc

is_seen_so : (x : Call) (seen : SeenCall) (call : Call) → call_seen_so seen ≡ Some call → seen_of_call x ≡ seen → x ≡ call
is_seen_so (Listens address listens) seen call p q = same_call (Listens address listens) call (ap call_seen_so q ∙ p)
is_seen_so (Dials address conn) seen call p q = same_call (Dials address conn) call (ap call_seen_so q ∙ p)
is_seen_so (Turns until what) seen call p q = same_call (Turns until what) call (ap call_seen_so q ∙ p)
is_seen_so (Reads conn size waits reading) seen call p q = let none : None ≡ Some call = ap call_seen_so q ∙ p in absurd cc
is_seen_so (Writes conn piece answer) seen call p q = same_call (Writes conn piece answer) call (ap call_seen_so q ∙ p)
is_seen_so (Closes conn) seen call p q = same_call (Closes conn) call (ap call_seen_so q ∙ p)

only_call : (more : List Call) (seen : SeenCall) (call : Call) → call_seen_so seen ≡ Some call → map seen_of_call more ≡ seen ∷ [] → more ≡ call ∷ []
only_call [] seen call p q = absurd cc
only_call (x ∷ []) seen call p q = ap (λ (z : Call). z ∷ []) (is_seen_so x seen call p cc)
only_call (x ∷ y ∷ more) seen call p q = absurd cc

-- one call that isn't a read is told as it is seen
pub told_call : (before now : Option (List Call)) (seen : SeenCall) (call : Call) → call_seen_so seen ≡ Some call → GrewSeen before now (seen ∷ [])
    → Grew before now (call ∷ [])
told_call before now seen call is p = subst (λ (calls : List Call). Grew before now calls) (only_call p.more seen call is p.are) p.grew
