-- Octets cut into parts, one behind another.
use Rattle.std.proofs.Common.{◌≡◌, ℕ, ◌==◌, nat_lt, ◌&&◌, Bool, true, false, not, List, [], ◌∷◌, ◌++◌, length, refl, ap, sym, ◌∙◌, append_assoc, append-nil, inl, inr}
use Rattle.std.proofs.lemmas.Bool.{cases_Bool}
use Rattle.std.specs.List.{flat_map}
use Rattle.hdlc_frames.specs.Framing.{flag}
use Rattle.relay_model.specs.Units.{Part, Outside, Whole, Standing, Unbegun, Holding, Overlong, held_or_passed, unit_turn, standing_from, parts_from, held_in_standing, octets_in_parts, octets_in_part, units_in, unit_in_part}

-- ---- the cut goes on

pub parts_append : (s : Standing) (came more : List ℕ) → parts_from s (came ++ more) ≡ parts_from s came ++ parts_from (standing_from s came) more
unfolding parts_from standing_from
parts_append s [] more = refl
parts_append s (x ∷ came) more =
    ap (λ (p : List Part). (unit_turn s x).parts ++ p) (parts_append (unit_turn s x).next came more)
    ∙ sym (append_assoc (unit_turn s x).parts (parts_from (unit_turn s x).next came) (parts_from (standing_from (unit_turn s x).next came) more))

pub standing_append : (s : Standing) (came more : List ℕ) → standing_from s (came ++ more) ≡ standing_from (standing_from s came) more
unfolding standing_from
standing_append s [] more = refl
standing_append s (x ∷ came) more = standing_append (unit_turn s x).next came more

pub parts_one : (s : Standing) (x : ℕ) → parts_from s (x ∷ []) ≡ (unit_turn s x).parts
unfolding parts_from
parts_one s x = append-nil (unit_turn s x).parts

pub units_append : (p q : List Part) → units_in (p ++ q) ≡ units_in p ++ units_in q
unfolding units_in
units_append [] q = refl
units_append (x ∷ p) q =
    ap (λ (u : List (List ℕ)). unit_in_part x ++ u) (units_append p q) ∙ sym (append_assoc (unit_in_part x) (flat_map unit_in_part p) (flat_map unit_in_part q))

pub octets_append : (p q : List Part) → octets_in_parts (p ++ q) ≡ octets_in_parts p ++ octets_in_parts q
unfolding octets_in_parts
octets_append [] q = refl
octets_append (x ∷ p) q =
    ap (λ (o : List ℕ). octets_in_part x ++ o) (octets_append p q) ∙ sym (append_assoc (octets_in_part x) (flat_map octets_in_part p) (flat_map octets_in_part q))

-- ---- what one octet brings

pub turn_ends : (held : List ℕ) (begun : Bool) (x : ℕ) → ((x == flag) && begun) ≡ true
    → (unit_turn (Holding held begun) x).parts ≡ Whole (held ++ x ∷ []) ∷ []
turn_ends held begun x t = rw t refl

pub turn_goes_on : (held : List ℕ) (begun : Bool) (x : ℕ) → ((x == flag) && begun) ≡ false
    → unit_turn (Holding held begun) x ≡ held_or_passed (held ++ x ∷ []) (not (x == flag))
turn_goes_on held begun x f = rw f refl

-- ---- all octets are in the parts or held

one_octet : (held : List ℕ) → octets_in_parts (Outside held ∷ []) ++ [] ≡ held
unfolding octets_in_parts
one_octet held = append-nil (held ++ []) ∙ append-nil held

one_unit : (held : List ℕ) → octets_in_parts (Whole held ∷ []) ++ [] ≡ held
unfolding octets_in_parts
one_unit held = append-nil (held ++ []) ∙ append-nil held

none : octets_in_parts [] ≡ []
unfolding octets_in_parts
none = refl

kept_or_passed : (held : List ℕ) (begun : Bool) → octets_in_parts (held_or_passed held begun).parts ++ held_in_standing (held_or_passed held begun).next ≡ held
kept_or_passed held begun =
    elim (cases_Bool (nat_lt (length held) 4096)) [
      | inl t ↦ rw t (ap (λ (o : List ℕ). o ++ held) none)
      | inr f ↦ rw f (one_octet held)
    ]

turn_octets : (s : Standing) (x : ℕ) → octets_in_parts (unit_turn s x).parts ++ held_in_standing (unit_turn s x).next ≡ held_in_standing s ++ x ∷ []
turn_octets Unbegun x =
    elim (cases_Bool (x == flag)) [
      | inl t ↦ rw t (ap (λ (o : List ℕ). o ++ x ∷ []) none)
      | inr f ↦ rw f (one_octet (x ∷ []))
    ]
turn_octets (Holding held begun) x =
    elim (cases_Bool ((x == flag) && begun)) [
      | inl t ↦ rw t (one_unit (held ++ x ∷ []))
      | inr f ↦ rw f (kept_or_passed (held ++ x ∷ []) (not (x == flag)))
    ]
turn_octets Overlong x =
    elim (cases_Bool (x == flag)) [
      | inl t ↦ rw t (one_octet (x ∷ []))
      | inr f ↦ rw f (one_octet (x ∷ []))
    ]

pub parts_are_sent : (s : Standing) (came : List ℕ) → octets_in_parts (parts_from s came) ++ held_in_standing (standing_from s came) ≡ held_in_standing s ++ came
unfolding parts_from standing_from
parts_are_sent s [] = ap (λ (o : List ℕ). o ++ held_in_standing s) none ∙ sym (append-nil (held_in_standing s))
parts_are_sent s (x ∷ came) =
    let turn = unit_turn s x in
    let rest = parts_from turn.next came in
    let held = held_in_standing (standing_from turn.next came) in
    ap (λ (o : List ℕ). o ++ held) (octets_append turn.parts rest)
    ∙ append_assoc (octets_in_parts turn.parts) (octets_in_parts rest) held
    ∙ ap (λ (o : List ℕ). octets_in_parts turn.parts ++ o) (parts_are_sent turn.next came)
    ∙ sym (append_assoc (octets_in_parts turn.parts) (held_in_standing turn.next) came)
    ∙ ap (λ (o : List ℕ). o ++ came) (turn_octets s x)
    ∙ append_assoc (held_in_standing s) (x ∷ []) came
