-- Counts and delays as far as they fit.
use Rattle.std.proofs.Common.{arith, ◌≡◌, ℕ, ◌+◌, ◌<◌, ◌≤◌, ◌==◌, ◌&&◌, Bool, true, false, List, [], ◌∷◌, ◌++◌, length, get_or, replicate, refl, ap, sym, ◌∙◌, inl, inr, if◌then◌else◌, length-append}
use Rattle.std.proofs.lemmas.Bool.{cases_Bool, cases_lt, lt-ltb, le-ltb, ne_eqb}
use Rattle.std.proofs.lemmas.List.{get_or-replicate}
use Rattle.std.specs.List.{filter}
use Rattle.er_base.specs.declared.side.Side.{Side}
use Rattle.relay_script.specs.declared.script_line.ScriptLine.{ScriptLine}
use Rattle.relay_script.specs.declared.unit_kind.UnitKind.{UnitKind}
use Rattle.relay_script.specs.declared.unit_kind.UnitKind.TheVariants.{Any, Bad, Info, Rr, Rnr, Rej, Srej, Sabm, Ua, Disc, Dm, Frmr, Other, Cr, Cc, Dr, Dc, Dt, Ak, Er}
use Rattle.relay_script.specs.Kinds.{kind_place}
use Rattle.relay_model.specs.Loads.{count_of_kind, is_same_side, line_names}
use Rattle.relay_model.specs.UnitKinds.{is_of_kind, kinds_in}
use Rattle.relay_carrier.specs.Counting.{within_64_bits, one_more_if, CountsUnits}
use Rattle.relay_carrier.specs.Kinds.{is_at_place}

pub fits : (n : ℕ) → n < 18446744073709551615 → within_64_bits n ≡ n
fits n h = rw (lt-ltb n 18446744073709551615 h) refl

pub too_great : (n : ℕ) → 18446744073709551615 ≤ n → within_64_bits n ≡ 18446744073709551615
too_great n h = rw (le-ltb n 18446744073709551615 h) refl

-- a sum is cut once or twice alike
pub sum_within : (n m : ℕ) → within_64_bits (within_64_bits n + m) ≡ within_64_bits (n + m)
sum_within n m =
    elim (cases_lt n 18446744073709551615) [
      | inl h ↦ ap (λ (k : ℕ). within_64_bits (k + m)) (fits n h)
      | inr h ↦
          ap (λ (k : ℕ). within_64_bits (k + m)) (too_great n h)
          ∙ too_great (18446744073709551615 + m) (omega arith)
          ∙ sym (too_great (n + m) (omega (arith, h)))
    ]

-- ---- counts

filter_append : (p : List ℕ → Bool) (a b : List (List ℕ)) → filter p (a ++ b) ≡ filter p a ++ filter p b
filter_append p [] b = refl
filter_append p (x ∷ a) b =
    elim (cases_Bool (p x)) [
      | inl t ↦ rw t (ap (λ (l : List (List ℕ)). x ∷ l) (filter_append p a b))
      | inr f ↦ rw f (filter_append p a b)
    ]

-- a count is a number that fits
pub count_test : (n k : ℕ) → k ≤ 1000000000 → (within_64_bits n == k) ≡ (n == k)
count_test n k small =
    elim (cases_lt n 18446744073709551615) [
      | inl h ↦ ap (λ (m : ℕ). m == k) (fits n h)
      | inr h ↦
          ap (λ (m : ℕ). m == k) (too_great n h)
          ∙ ne_eqb 18446744073709551615 k (λ e. omega (arith, e, small))
          ∙ sym (ne_eqb n k (λ e. omega (arith, e, small, h)))
    ]

count_append : (kind : UnitKind) (units : List (List ℕ)) (unit : List ℕ) → count_of_kind kind (units ++ unit ∷ []) ≡ count_of_kind kind units + (if is_of_kind kind unit then 1 else 0)
unfolding count_of_kind
count_append kind units unit =
    ap length (filter_append (is_of_kind kind) units (unit ∷ []))
    ∙ length-append (filter (is_of_kind kind) units) (filter (is_of_kind kind) (unit ∷ []))
    ∙ elim (cases_Bool (is_of_kind kind unit)) [
      | inl t ↦ rw t refl
      | inr f ↦ rw f refl
    ]

-- the kind of a unit by its place
pub kind_by_place : (kind : UnitKind) (unit : List ℕ) → is_of_kind kind unit ≡ is_at_place (kind_place kind) (kinds_in unit)
unfolding is_of_kind
kind_by_place kind unit = refl

one_more : (more : Bool) (n : ℕ) → one_more_if more (within_64_bits n) ≡ within_64_bits (n + (if more then 1 else 0))
one_more true n = sum_within n 1
one_more false n = ap within_64_bits (let e : n ≡ n + 0 = omega arith in e)

pub place_small : (kind : UnitKind) → kind_place kind < 20
place_small Any = omega arith
place_small Bad = omega arith
place_small Info = omega arith
place_small Rr = omega arith
place_small Rnr = omega arith
place_small Rej = omega arith
place_small Srej = omega arith
place_small Sabm = omega arith
place_small Ua = omega arith
place_small Disc = omega arith
place_small Dm = omega arith
place_small Frmr = omega arith
place_small Other = omega arith
place_small Cr = omega arith
place_small Cc = omega arith
place_small Dr = omega arith
place_small Dc = omega arith
place_small Dt = omega arith
place_small Ak = omega arith
place_small Er = omega arith

-- no unit came
pub counts_none : CountsUnits (replicate 20 0) []
unfolding count_of_kind
counts_none kind = get_or-replicate 20 (kind_place kind) 0 0 (place_small kind)

-- a unit more
pub counts_more : (old new : List ℕ) (units : List (List ℕ)) (unit : List ℕ) (kinds : List UnitKind) → kinds ≡ kinds_in unit → CountsUnits old units
    → ((place : ℕ) → place < 20 → get_or new place 0 ≡ one_more_if (is_at_place place kinds) (get_or old place 0)) → CountsUnits new (units ++ unit ∷ [])
counts_more old new units unit kinds are counts more kind =
    more (kind_place kind) (place_small kind)
    ∙ ap (λ (n : ℕ). one_more_if (is_at_place (kind_place kind) kinds) n) (counts kind)
    ∙ ap (λ (k : List UnitKind). one_more_if (is_at_place (kind_place kind) k) (within_64_bits (count_of_kind kind units))) are
    ∙ ap (λ (b : Bool). one_more_if b (within_64_bits (count_of_kind kind units))) (sym (kind_by_place kind unit))
    ∙ one_more (is_of_kind kind unit) (count_of_kind kind units)
    ∙ ap within_64_bits (sym (count_append kind units unit))

-- ---- which lines name a unit

pub named_by : (line : ScriptLine) (side : Side) (before : List (List ℕ)) (unit : List ℕ) (counts : List ℕ) (kinds : List UnitKind) → line.number ≤ 1000000000
    → kinds ≡ kinds_in unit → CountsUnits counts (before ++ unit ∷ [])
    → line_names line side before unit
    ≡ (is_same_side line.side side && is_at_place (kind_place line.kind) kinds && (get_or counts (kind_place line.kind) 0 == line.number))
named_by line side before unit counts kinds small are units =
    rw (units line.kind, count_test (count_of_kind line.kind (before ++ unit ∷ [])) line.number small, are, kind_by_place line.kind unit) refl
