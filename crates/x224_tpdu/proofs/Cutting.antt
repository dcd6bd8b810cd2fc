-- Octets and the parameters of which they are made.
use Rattle.std.proofs.Common.{◌≡◌, ◌≢◌, ℕ, ◌-◌, ◌<◌, ◌≤◌, zero, suc, nat_lt, true, false, List, [], ◌∷◌, ◌++◌, length, get_or, None, take, drop, inl, inr, refl, sym, ◌∙◌, ap, append_assoc, arith, length-append, length-drop}
use Rattle.std.proofs.lemmas.List.{append-nil, length-take-le, take-append-drop}
use Rattle.std.proofs.Math.Seq.{take-length}
use Rattle.std.proofs.lemmas.Bool.{lt-ltb, le-ltb, cases_lt}
use Rattle.x224_tpdu.specs.declared.kind.Kind.{Kind}
use Rattle.x224_tpdu.specs.Parameters.{Parameter, parameter_octets, parameters_after, parameters_in, first_refused}
use Rattle.x224_tpdu.specs.Parts.{HasWholeParameters, BeginsWithParameter}

-- what is past the first octets is what the octets behind them are made of
after_skipped : (n : ℕ) (xs : List ℕ) → parameters_after n xs ≡ parameters_after 0 (drop n xs)
after_skipped zero xs = refl
after_skipped (suc n) [] = refl
after_skipped (suc n) (x ∷ xs) = after_skipped n xs

pub in_nil : parameters_in [] ≡ ([], [])
unfolding parameters_in
in_nil = refl

pub in_one : (code : ℕ) → parameters_in (code ∷ []) ≡ ([], code ∷ [])
unfolding parameters_in
in_one code = refl

-- a whole parameter stands at the front
pub in_whole : (code size : ℕ) (rest : List ℕ) → size ≤ length rest → parameters_in (code ∷ size ∷ rest) ≡ (record { code = code; value = take size rest } ∷ (parameters_in (drop size rest)).0, (parameters_in (drop size rest)).1)
unfolding parameters_in
in_whole code size rest h =
    let there : nat_lt size (length (size ∷ rest)) ≡ true = lt-ltb _ _ (omega arith) in
    rw (there, after_skipped size rest) refl

-- the parameter at the front runs past the end
pub in_short : (code size : ℕ) (rest : List ℕ) → length rest < size → parameters_in (code ∷ size ∷ rest) ≡ ([], code ∷ size ∷ rest)
unfolding parameters_in
in_short code size rest h =
    let missing : nat_lt size (length (size ∷ rest)) ≡ false = le-ltb _ _ (omega arith) in
    rw missing refl

-- the same of octets that are not cut into cells
pub nil_from : (octets : List ℕ) → length octets < 1 → octets ≡ []
nil_from [] h = refl
nil_from (x ∷ xs) h = absurd (omega arith)

pub in_few : (octets : List ℕ) → length octets < 2 → parameters_in octets ≡ ([], octets)
in_few [] h = in_nil
in_few (code ∷ []) h = in_one code
in_few (code ∷ size ∷ rest) h = absurd (omega arith)

pub in_front : (octets : List ℕ) → 2 ≤ length octets → get_or octets 1 0 ≤ length (drop 2 octets) → parameters_in octets ≡ (record { code = get_or octets 0 0; value = take (get_or octets 1 0) (drop 2 octets) } ∷ (parameters_in (drop (get_or octets 1 0) (drop 2 octets))).0, (parameters_in (drop (get_or octets 1 0) (drop 2 octets))).1)
in_front [] h there = absurd (omega arith)
in_front (code ∷ []) h there = absurd (omega arith)
in_front (code ∷ size ∷ rest) h there = in_whole code size rest there

pub in_cut : (octets : List ℕ) → 2 ≤ length octets → length (drop 2 octets) < get_or octets 1 0 → parameters_in octets ≡ ([], octets)
in_cut [] h missing = absurd (omega arith)
in_cut (code ∷ []) h missing = absurd (omega arith)
in_cut (code ∷ size ∷ rest) h missing = in_short code size rest missing

pub ruleset parameters_cut = (in_few, in_front, in_cut)

-- what a slice pattern calls the rest is what is behind the cells before it
pub rest_of : (n : ℕ) (octets : List ℕ) → take (length octets - n) (drop n octets) ≡ drop n octets
rest_of n octets =
    let e : length (drop n octets) ≡ length octets - n = length-drop n octets in
    rw (← e) (take-length (drop n octets))

-- octets begin with the parameter that is cut from them
pub begins : (octets : List ℕ) (size : ℕ) (value after : List ℕ) → 2 ≤ length octets → size ≡ get_or octets 1 0 → size ≤ length (take (length octets - 2) (drop 2 octets)) → value ≡ take size (take (length octets - 2) (drop 2 octets)) → after ≡ drop size (take (length octets - 2) (drop 2 octets)) → BeginsWithParameter octets (get_or octets 0 0) value after
begins octets size value after two e there v a =
    let rest : take (length octets - 2) (drop 2 octets) ≡ drop 2 octets = rest_of 2 octets in
    let v' : value ≡ take (get_or octets 1 0) (drop 2 octets) = v ∙ rw (rest, e) refl in
    let a' : after ≡ drop (get_or octets 1 0) (drop 2 octets) = a ∙ rw (rest, e) refl in
    let there' : get_or octets 1 0 ≤ length (drop 2 octets) = rw (← e, ← rest) there in
    record {
      parameters = rw (v', a') (in_front octets two there');
      shorter = omega (arith, ap length a', length-drop (get_or octets 1 0) (drop 2 octets), length-drop 2 octets);
    }

-- the parameters and what is left over make up the octets again
spelled_after : (n : ℕ) (xs : List ℕ) → parameter_octets (parameters_after n xs).0 ++ (parameters_after n xs).1 ≡ drop n xs
spelled_after zero [] = refl
spelled_after (suc n) [] = refl
spelled_after (suc n) (x ∷ xs) = spelled_after n xs
spelled_after zero (code ∷ []) = refl
spelled_after zero (code ∷ size ∷ rest) =
    elim (cases_lt size (length (size ∷ rest))) [
      | inl there ↦
          (let t : nat_lt size (length (size ∷ rest)) ≡ true = lt-ltb _ _ there in
          let fits : size ≤ length rest = omega arith in
          rw t (whole_spelled code size rest fits (parameters_after size rest) (spelled_after size rest)))
      | inr missing ↦
          (let t : nat_lt size (length (size ∷ rest)) ≡ false = le-ltb _ _ missing in rw t refl)
    ]
  where
    whole_spelled : (code size : ℕ) (rest : List ℕ) → size ≤ length rest → (behind : List Parameter × List ℕ) → parameter_octets behind.0 ++ behind.1 ≡ drop size rest → parameter_octets (record { code = code; value = take size rest } ∷ behind.0) ++ behind.1 ≡ code ∷ size ∷ rest
    whole_spelled code size rest fits behind h =
        rw (length-take-le size rest fits, append_assoc (take size rest) (parameter_octets behind.0) behind.1, h, take-append-drop size rest) refl

pub parameters_spelled : (octets : List ℕ) → parameter_octets (parameters_in octets).0 ++ (parameters_in octets).1 ≡ octets
unfolding parameters_in
parameters_spelled octets = spelled_after 0 octets

-- a part whose parameters may all stand, and with nothing left over, passes
pub whole_part : (kind : Kind) (part : List ℕ) → first_refused kind false (parameters_in part).0 ≡ None → (parameters_in part).1 ≡ [] → HasWholeParameters kind part
whole_part kind part none nothing = record {
  none_refused = none;
  spelled_so = sym (parameters_spelled part) ∙ rw nothing (append-nil _);
  passes = rw (none, nothing) refl;
}

-- no whole parameter stands where something is left over
none_left : (n : ℕ) (xs : List ℕ) (p : Parameter) (after : List ℕ) → (parameters_after n xs).1 ≢ p.code ∷ length p.value ∷ p.value ++ after
none_left zero [] p after e = cc
none_left (suc n) [] p after e = cc
none_left (suc n) (x ∷ xs) p after e = none_left n xs p after e
none_left zero (code ∷ []) p after e = cc
none_left zero (code ∷ size ∷ rest) p after e =
    elim (cases_lt size (length (size ∷ rest))) [
      | inl there ↦
          (let t : nat_lt size (length (size ∷ rest)) ≡ true = lt-ltb _ _ there in
          let left : (parameters_after size rest).1 ≡ p.code ∷ length p.value ∷ p.value ++ after = rw t at e in
          none_left size rest p after left)
      | inr missing ↦
          (let t : nat_lt size (length (size ∷ rest)) ≡ false = le-ltb _ _ missing in
          let whole : code ∷ size ∷ rest ≡ p.code ∷ length p.value ∷ p.value ++ after = rw t at e in
          let of_size : size ≡ length p.value = cc in
          let value : rest ≡ p.value ++ after = cc in
          omega (arith, ap length value, length-append p.value after))
    ]

pub cuts_parameters : (octets : List ℕ) → (parameter_octets (parameters_in octets).0 ++ (parameters_in octets).1 ≡ octets) × ((p : Parameter) (after : List ℕ) → (parameters_in octets).1 ≢ p.code ∷ length p.value ∷ p.value ++ after)
unfolding parameters_in
cuts_parameters octets = (parameters_spelled octets, λ p after e. none_left 0 octets p after e)
