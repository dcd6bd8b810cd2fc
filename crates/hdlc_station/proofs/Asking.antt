-- Numbers that are asked for one by one are those that the model asks for.
use Rattle.std.proofs.Common.{◌≡◌, ℕ, zero, suc, ◌+◌, ◌-◌, ◌<◌, ◌≤◌, Bool, true, false, not, ◌||◌, if◌then◌else◌, List, [], ◌∷◌, ◌++◌, length, map, Option, ap, ap₂, ◌∙◌, inl, inr, arith, refl, sym, ne_eqb, append-nil}
use Rattle.std.specs.List.{filter}
use Rattle.std.proofs.lemmas.Bool.{cases_Bool}
use Rattle.std.proofs.lemmas.List.{append_assoc, map-append}
use Rattle.std.proofs.lemmas.List.Elements.{filter-append}
use Rattle.hdlc_station_model.specs.Frames.{Frame, Srej}
use Rattle.hdlc_station_model.specs.Stations.{Station, puts}
use Rattle.hdlc_station_model.specs.Selective.{held_for, is_found, is_one_of, numbers_from, holds}
use Rattle.hdlc_station.specs.Steps.{asks_one, asks_below}
use Rattle.hdlc_station.proofs.Behind.{asked_append, held_others}

numbers_last : (n c : ℕ) → numbers_from n (suc c) ≡ numbers_from n c ++ (n + c) ∷ []
numbers_last n zero = ap (λ (m : ℕ). m ∷ []) (omega arith)
numbers_last n (suc c) = ap (λ (xs : List ℕ). n ∷ xs) (numbers_last (n + 1) c ∙ ap (λ (m : ℕ). numbers_from (n + 1) c ++ m ∷ []) (omega arith))

none_beyond : (p : ℕ → Bool) (n r c : ℕ) → r + c ≤ n → is_one_of n (filter p (numbers_from r c)) ≡ false
none_beyond p n r zero above = refl
none_beyond p n r (suc c) above = elim (cases_Bool (p r)) [
  | inl so ↦ rw (so, ne_eqb r n (λ e. omega (arith, above, e))) (none_beyond p n (r + 1) c (omega (arith, above)))
  | inr not_so ↦ rw not_so (none_beyond p n (r + 1) c (omega (arith, above)))
]

abbrev pub is_known : Station → ℕ → Bool
is_known s m = is_found (held_for m s.held) || is_one_of m s.asked

abbrev pub missing : ℕ → Station → List ℕ
missing up s = filter (λ m. not (is_known s m)) (numbers_from (length s.taken) up)

abbrev pub asked_so_far : ℕ → Station → Station
asked_so_far up s = record s { asked = s.asked ++ missing up s; said = s.said ++ map Srej (missing up s) }

module _ (up : ℕ) (s : Station) where
  n : ℕ
  n = length s.taken + up

  more : missing (suc up) s ≡ missing up s ++ filter (λ m. not (is_known s m)) ((length s.taken + up) ∷ [])
  more = ap (filter (λ m. not (is_known s m))) (numbers_last (length s.taken) up) ∙ filter-append (λ m. not (is_known s m)) (numbers_from (length s.taken) up) ((length s.taken + up) ∷ [])

  same_test : (is_found (held_for (length s.taken + up) s.held) || is_one_of (length s.taken + up) (s.asked ++ missing up s)) ≡ is_known s (length s.taken + up)
  same_test =
      let beyond = none_beyond (λ m. not (is_known s m)) (length s.taken + up) (length s.taken) up (omega arith) in
      ap (λ (b : Bool). is_found (held_for (length s.taken + up) s.held) || b)
      (asked_append (length s.taken + up) s.asked (missing up s) ∙ ap (λ (b : Bool). is_one_of (length s.taken + up) s.asked || b) beyond ∙ or_false (is_one_of (length s.taken + up) s.asked))
    where
      or_false : (b : Bool) → (b || false) ≡ b
      or_false true = refl
      or_false false = refl

  ask_step : asks_one (length s.taken + up) (asked_so_far up s) ≡ asked_so_far (suc up) s
  ask_step = elim (cases_Bool (is_known s (length s.taken + up))) [
    | inl so ↦
        let all : missing (suc up) s ≡ missing up s = more ∙ ap (λ (b : Bool). missing up s ++ (if not b then (length s.taken + up) ∷ [] else [])) so ∙ append-nil (missing up s) in
        ap (λ (b : Bool). if b then asked_so_far up s else record (puts (Srej (length s.taken + up)) (asked_so_far up s)) { asked = (s.asked ++ missing up s) ++ (length s.taken + up) ∷ [] }) (same_test ∙ so)
        ∙ sym (ap (λ (ms : List ℕ). record s { asked = s.asked ++ ms; said = s.said ++ map Srej ms }) all)
    | inr not_so ↦
        let all : missing (suc up) s ≡ missing up s ++ (length s.taken + up) ∷ [] = more ∙ ap (λ (b : Bool). missing up s ++ (if not b then (length s.taken + up) ∷ [] else [])) not_so in
        ap (λ (b : Bool). if b then asked_so_far up s else record (puts (Srej (length s.taken + up)) (asked_so_far up s)) { asked = (s.asked ++ missing up s) ++ (length s.taken + up) ∷ [] }) (same_test ∙ not_so)
        ∙ ap₂ (λ (a : List ℕ) (m : List Frame). record s { asked = a; said = m })
        (append_assoc s.asked (missing up s) ((length s.taken + up) ∷ []))
        (append_assoc s.said (map Srej (missing up s)) (Srej (length s.taken + up) ∷ []) ∙ ap (λ (fs : List Frame). s.said ++ fs) (sym (map-append Srej (missing up s) ((length s.taken + up) ∷ []))))
        ∙ sym (ap (λ (ms : List ℕ). record s { asked = s.asked ++ ms; said = s.said ++ map Srej ms }) all)
  ]

pub asks_are : (up : ℕ) (s : Station) → asks_below up s ≡ asked_so_far up s
asks_are zero s = sym (ap₂ (λ (a : List ℕ) (m : List Frame). record s { asked = a; said = m }) (append-nil s.asked) (append-nil s.said))
asks_are (suc up) s = ap (λ (t : Station). asks_one (length t.taken + up) t) (asks_are up s) ∙ ask_step up s

-- a step of the loop
pub asks_more : (i : ℕ) (s : Station) → asks_one (length (asks_below i s).taken + i) (asks_below i s) ≡ asks_below (i + 1) s
asks_more i s = ap (λ (n : ℕ). asks_below n s) (sym (add_one i))
  where
    add_one : (m : ℕ) → m + 1 ≡ suc m
    add_one m = omega arith

-- what is asked for before a frame is held
pub holds_are : (up : ℕ) (payload : List ℕ) (s : Station)
    → record (asked_so_far up s) { held = s.held ++ (length s.taken + up, payload) ∷ [] } ≡ holds (length s.taken + up) payload s
holds_are up payload s =
    ap (λ (c : ℕ).
    record s {
      held = s.held ++ (length s.taken + up, payload) ∷ [];
      asked = s.asked ++ filter (λ m. not (is_known s m)) (numbers_from (length s.taken) c);
      said = s.said ++ map Srej (filter (λ m. not (is_known s m)) (numbers_from (length s.taken) c));
    }) (omega arith)

-- a frame that is held before the numbers below it are asked for is one of which it makes no difference
module _ (up : ℕ) (payload : List ℕ) (s : Station) where
  abbrev held_first : Station
  held_first = record s { held = s.held ++ (length s.taken + up, payload) ∷ [] }

  same_known : (m : ℕ) → m < length s.taken + up → is_known held_first m ≡ is_known s m
  same_known m below =
      ap (λ (o : Option (List ℕ)). is_found o || is_one_of m s.asked) (held_others m (length s.taken + up) payload s.held (λ e. omega (arith, below, e)))

  same_missing : (c from : ℕ) → from + c ≤ length s.taken + up
      → filter (λ m. not (is_known held_first m)) (numbers_from from c) ≡ filter (λ m. not (is_known s m)) (numbers_from from c)
  same_missing zero from low = refl
  same_missing (suc c) from low =
      ap₂ (λ (b : Bool) (ms : List ℕ). if not b then from ∷ ms else ms) (same_known from (omega (arith, low))) (same_missing c (from + 1) (omega (arith, low)))

  pub asked_behind : asks_below up held_first ≡ holds (length s.taken + up) payload s
  asked_behind =
      asks_are up held_first
      ∙ ap (λ (ms : List ℕ). record held_first { asked = s.asked ++ ms; said = s.said ++ map Srej ms }) (same_missing up (length s.taken) (omega arith))
      ∙ holds_are up payload s
