-- One block more, and the last one.
use Rattle.std.proofs.Common.{◌≡◌, ℕ, ◌+◌, ◌-◌, ◌/◌, List, ◌++◌, Some, length, take, replicate, arith, ap, sym, ◌∙◌, append_assoc, take-append-drop, length-append}
use Rattle.std.proofs.lemmas.Bool.{eqb-false}
use Rattle.er_tap.specs.Digits.{octets_of_digit_pairs, octets_by, AreValues, AreDigits}
use Rattle.er_tap.proofs.Values.{digits_then, digits_before, octets_then, octets_before, spelled}
use Rattle.er_tap.proofs.digits.octets_in.Goals as goal

pub loop-block-preserved : goal.loop-block-preserved
loop-block-preserved c =
    let rest : List ℕ = c.loop-block.rest.now in
    let block : List ℕ = c.in-Some.block.now in
    let behind : List ℕ = c.in-Some.behind.now in
    let done : List ℕ = c.loop-block.octets.items in
    let parts = c.in-Some.ensures.cases in
    let whole : block ++ behind ≡ rest = rw (parts.0, parts.1) (take-append-drop 32 rest) in
    let long : length rest ≡ length block + length behind = ap length (sym whole) ∙ length-append block behind in
    let left = parts.2 in
    let before = c.loop-block.invariant in
    let even = before.even in
    record {
      digits = λ all more.
          before.digits (c.greatest_of-greatest.ensures.one all)
          (digits_then block behind rest (sym whole) (rw c.values_of-values.ensures at (c.greatest_of-greatest.ensures.other all)) more);
      octets = λ all.
          ap (λ (l : List ℕ). l ++ octets_by behind) c.in_ok-extend_from_slice.ensures.items
          ∙ append_assoc done c.joined.result (octets_by behind)
          ∙ ap (λ (l : List ℕ). done ++ (l ++ octets_by behind)) (c.joined.ensures (c.greatest_of-greatest.ensures.other all) ∙ ap octets_of_digit_pairs c.values_of-values.ensures)
          ∙ ap (λ (l : List ℕ). done ++ l) (sym (octets_then block behind (omega (arith, long, left))))
          ∙ ap (λ (l : List ℕ). done ++ octets_by l) whole
          ∙ before.octets (c.greatest_of-greatest.ensures.one all);
      even = omega (arith, left, even);
    }

-- the values of all blocks are such, those of the last one too
all_values : (c : goal.In_ok-extend_from_slice-2) → AreValues c.greatest_of.result
all_values c = c.are_values.ensures c.if-not-are_values.false

last_digits : (c : goal.In_ok-extend_from_slice-2) → AreDigits c.args.digits.now
last_digits c =
    let rest : List ℕ = c.loop-block.rest.now in
    c.loop-block.invariant.digits (c.greatest_of.ensures.one (all_values c))
    (digits_before rest (replicate (32 - length rest) 48) (rw (c.values_of-values-2.ensures, c.filled.ensures) at (c.greatest_of.ensures.other (all_values c))))

pub returns-clause-some : goal.returns-clause-some
returns-clause-some c =
    let some : length c.args.digits.now ≡ 0 → ⊥ = eqb-false _ _ (sym c.is_empty.ensures ∙ c.if-is_empty.false) in
    omega (arith, some)

pub returns-clause-digits : goal.returns-clause-digits
returns-clause-digits c = last_digits c

pub returns-clause-octets : goal.returns-clause-octets
returns-clause-octets c =
    let digits : List ℕ = c.args.digits.now in
    let rest : List ℕ = c.loop-block.rest.now in
    let done : List ℕ = c.loop-block.octets.items in
    let zeros : List ℕ = replicate (32 - length rest) 48 in
    let before = c.loop-block.invariant in
    let some : length digits ≡ 0 → ⊥ = eqb-false _ _ (sym c.is_empty.ensures ∙ c.if-is_empty.false) in
    let last : c.joined-2.result ≡ octets_by (rest ++ zeros) =
    c.joined-2.ensures (c.greatest_of.ensures.other (all_values c)) ∙ ap octets_of_digit_pairs c.values_of-values-2.ensures ∙ ap octets_by c.filled.ensures in
    let octets : c.extend_from_slice-2.new.self.items ≡ octets_by digits =
    c.in_ok-extend_from_slice-2.ensures.items
    ∙ ap (λ (l : List ℕ). done ++ take (length rest / 2) l) last
    ∙ ap (λ (l : List ℕ). done ++ l) (octets_before rest zeros before.even)
    ∙ before.octets (c.greatest_of.ensures.one (all_values c)) in
    spelled digits some (omega arith) (last_digits c) ∙ ap (λ (l : List ℕ). Some l) (sym octets)
