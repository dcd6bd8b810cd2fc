-- Octets that are read as a TPDU spell it.
use Rattle.std.proofs.Common.{◌≡◌, ℕ, ◌+◌, ◌-◌, ◌*◌, ◌/◌, ◌%◌, ◌^◌, ◌<◌, ◌≤◌, suc, nat_le, eqb, not, ◌||◌, if◌then◌else◌, inl, inr, Bool, true, false, List, [], ◌∷◌, ◌++◌, length, drop, Option, Some, None, is_some, Ok, refl, sym, ◌∙◌, subst, ap, arith}
use Rattle.std.proofs.lemmas.Bool.{cases_Bool, leb-true, leb-false, eqb-true, eqb-false}
use Rattle.std.proofs.lemmas.List.{append-nil, take-append-drop, length-take-le}
use Rattle.er_base.specs.Octets.{AreOctets}
use Rattle.x224_tpdu.specs.declared.fault.TpFault.{TpFault}
use Rattle.x224_tpdu.specs.declared.fault.TpFault.TheVariants.{Length, Parameter}
use Rattle.x224_tpdu.specs.declared.kind.Kind.{Kind}
use Rattle.x224_tpdu.specs.declared.kind.Kind.TheVariants.{Cr, Cc, Dr, Dc, Dt, Ak, Er}
use Rattle.x224_tpdu.specs.Kinds.{kind_of_tpdu_code}
use Rattle.x224_tpdu.specs.Parameters.{parameter_octets, parameters_in, first_refused, size_octet}
use Rattle.x224_tpdu.specs.Spelling.{TransportPdu, header_without_length_indicator}
use Rattle.x224_tpdu.specs.Spellings.{Spells}
use Rattle.x224_tpdu.specs.Faults.{Layout, layout_of, rule_1, rule_2, rule_3, kind_rules, first_of, part_fault, first_fault}
use Rattle.x224_tpdu.specs.Parts.{ArePartsOfTpdu, parameters_of}
use Rattle.x224_tpdu.specs.Function.{value_in, value_by, tpdu_of_faultless_octets, reading}
use Rattle.x224_tpdu.proofs.Cutting.{parameters_spelled}
use Rattle.x224_tpdu.proofs.Bounds.{fault_or_ok, first_kept, KeepsAll, all_kept, user_within, size_within, number_within, has_kind}

-- the code that names each kind
abbrev IsCode : Kind → ℕ → Type 0
IsCode Cr code = code / 16 ≡ 0xE
IsCode Cc code = code / 16 ≡ 0xD
IsCode Dr code = code ≡ 0x80
IsCode Dc code = code ≡ 0xC0
IsCode Dt code = code ≡ 0xF0
IsCode Ak code = code / 16 ≡ 0x6
IsCode Er code = code ≡ 0x70

abbrev Test : Kind → (a b c d e f g : Bool) → Type 0
Test Cr a b c d e f g = a ≡ true
Test Cc a b c d e f g = b ≡ true
Test Dr a b c d e f g = c ≡ true
Test Dc a b c d e f g = d ≡ true
Test Dt a b c d e f g = e ≡ true
Test Ak a b c d e f g = f ≡ true
Test Er a b c d e f g = g ≡ true

tested : (a b c d e f g : Bool) (kind : Kind) → (if a then Some Cr else if b then Some Cc else if c then Some Dr else if d then Some Dc else if e then Some Dt else if f then Some Ak else if g then Some Er else None) ≡ Some kind → Test kind a b c d e f g
tested true b c d e f g kind h = let k : Cr ≡ kind = cc in subst (λ (x : Kind). Test x true b c d e f g) k refl
tested false true c d e f g kind h = let k : Cc ≡ kind = cc in subst (λ (x : Kind). Test x false true c d e f g) k refl
tested false false true d e f g kind h = let k : Dr ≡ kind = cc in subst (λ (x : Kind). Test x false false true d e f g) k refl
tested false false false true e f g kind h = let k : Dc ≡ kind = cc in subst (λ (x : Kind). Test x false false false true e f g) k refl
tested false false false false true f g kind h = let k : Dt ≡ kind = cc in subst (λ (x : Kind). Test x false false false false true f g) k refl
tested false false false false false true g kind h = let k : Ak ≡ kind = cc in subst (λ (x : Kind). Test x false false false false false true g) k refl
tested false false false false false false true kind h = let k : Er ≡ kind = cc in subst (λ (x : Kind). Test x false false false false false false true) k refl
tested false false false false false false false kind h = absurd cc

coded : (kind : Kind) (code : ℕ) → kind_of_tpdu_code code ≡ Some kind → IsCode kind code
coded kind code h = named kind (tested (eqb (code / 16) 0xE) (eqb (code / 16) 0xD) (eqb code 0x80) (eqb code 0xC0) (eqb code 0xF0) (eqb (code / 16) 0x6) (eqb code 0x70) kind h)
  where
    named : (k : Kind) → Test k (eqb (code / 16) 0xE) (eqb (code / 16) 0xD) (eqb code 0x80) (eqb code 0xC0) (eqb code 0xF0) (eqb (code / 16) 0x6) (eqb code 0x70) → IsCode k code
    named Cr t = eqb-true _ _ t
    named Cc t = eqb-true _ _ t
    named Dr t = eqb-true _ _ t
    named Dc t = eqb-true _ _ t
    named Dt t = eqb-true _ _ t
    named Ak t = eqb-true _ _ t
    named Er t = eqb-true _ _ t

-- a rule that is kept
kept_if : (b : Bool) (fault : TpFault) → (if b then None else Some fault) ≡ None → b ≡ true
kept_if true fault e = refl
kept_if false fault e = absurd cc

kept_not : (b : Bool) (fault : TpFault) → (if not b then Some fault else None) ≡ None → b ≡ true
kept_not true fault e = refl
kept_not false fault e = absurd cc

-- a parameter part that is kept
record IsKept (kind : Kind) (part : List ℕ) : Type 0 where
  none : first_refused kind false (parameters_in part).0 ≡ None
  spelled : part ≡ parameter_octets (parameters_in part).0

part_kept : (kind : Kind) (part : List ℕ) → part_fault kind part ≡ None → IsKept kind part
part_kept kind part e =
    let both = parts (first_refused kind false (parameters_in part).0) (parameters_in part).1 refl refl in
    record {
      none = both.0;
      spelled = sym (sym (append-nil (parameter_octets (parameters_in part).0)) ∙ ap (λ (xs : List ℕ). parameter_octets (parameters_in part).0 ++ xs) (sym both.1) ∙ parameters_spelled part);
    }
  where
    parts : (o : Option ℕ) (l : List ℕ) → first_refused kind false (parameters_in part).0 ≡ o → (parameters_in part).1 ≡ l → (o ≡ None) × (l ≡ [])
    parts None [] f g = (refl, refl)
    parts None (code ∷ rest) f g = let broken : part_fault kind part ≡ Some (Parameter code) = rw (f, g) refl in absurd cc
    parts (Some code) l f g = let broken : part_fault kind part ≡ Some (Parameter code) = rw f refl in absurd cc

-- two octets and their number
high : (a b : ℕ) → b < 256 → a ≡ (a * 256 + b) / 256
high a b h = omega arith

low : (a b : ℕ) → b < 256 → b ≡ (a * 256 + b) % 256
low a b h = omega arith

fits_two : (a b : ℕ) → a < 256 → b < 256 → a * 256 + b < 2 ^ 16
fits_two a b h g = omega arith

abbrev laid : (found li code : ℕ) (fields user : List ℕ) → Layout
laid found li code fields user = record { found = found; li = li; code = code; fields = fields; user = user }

none_left : (user : List ℕ) → length user ≤ 0 → user ≡ []
none_left [] h = refl
none_left (x ∷ user) h = absurd (omega arith)

shows_cr : (found li code : ℕ) (fields user : List ℕ) → AreOctets (li ∷ code ∷ fields ++ user) → li ≡ length fields + 1 → code / 16 ≡ 0xE → KeepsAll Cr (laid found li code fields user) → ArePartsOfTpdu Cr (laid found li code fields user) (value_in Cr (laid found li code fields user))
shows_cr found li code (a ∷ b ∷ d ∷ e ∷ g ∷ part) user o l c k =
    let class : g ≡ 0x20 = eqb-true _ _ (kept_not (eqb g 0x20) _ k.keeps_5) in
    let whole = part_kept Cr part k.keeps_6 in
    let bounds = user_within Cr user k.keeps_8 in
    let first : code ≡ 0xE0 + code % 16 = omega (arith, c) in
    record {
      kind_is = refl;
      fits = ((omega arith, fits_two a b (o 2) (o 3), fits_two d e (o 4) (o 5)), bounds.0, bounds.1);
      may_stand = (whole.none, size_within (size_octet (parameters_in part).0) k.keeps_7);
      header_is = (let p1 = high a b (o 3) in let p2 = low a b (o 3) in let p3 = high d e (o 5) in let p4 = low d e (o 5) in let p5 = whole.spelled in cc);
      user_is = refl;
    }
shows_cr found li code (a ∷ b ∷ d ∷ e ∷ []) user o l c k = absurd (let t = leb-true _ _ (kept_if (nat_le 6 li) _ k.keeps_4) in omega (arith, t))
shows_cr found li code (a ∷ b ∷ d ∷ []) user o l c k = absurd (let t = leb-true _ _ (kept_if (nat_le 6 li) _ k.keeps_4) in omega (arith, t))
shows_cr found li code (a ∷ b ∷ []) user o l c k = absurd (let t = leb-true _ _ (kept_if (nat_le 6 li) _ k.keeps_4) in omega (arith, t))
shows_cr found li code (a ∷ []) user o l c k = absurd (let t = leb-true _ _ (kept_if (nat_le 6 li) _ k.keeps_4) in omega (arith, t))
shows_cr found li code [] user o l c k = absurd (let t = leb-true _ _ (kept_if (nat_le 6 li) _ k.keeps_4) in omega (arith, t))

shows_cc : (found li code : ℕ) (fields user : List ℕ) → AreOctets (li ∷ code ∷ fields ++ user) → li ≡ length fields + 1 → code / 16 ≡ 0xD → KeepsAll Cc (laid found li code fields user) → ArePartsOfTpdu Cc (laid found li code fields user) (value_in Cc (laid found li code fields user))
shows_cc found li code (a ∷ b ∷ d ∷ e ∷ g ∷ part) user o l c k =
    let class : g ≡ 0x20 = eqb-true _ _ (kept_not (eqb g 0x20) _ k.keeps_5) in
    let whole = part_kept Cc part k.keeps_6 in
    let bounds = user_within Cc user k.keeps_8 in
    let first : code ≡ 0xD0 + code % 16 = omega (arith, c) in
    record {
      kind_is = refl;
      fits = ((omega arith, fits_two a b (o 2) (o 3), fits_two d e (o 4) (o 5)), bounds.0, bounds.1);
      may_stand = (whole.none, size_within (size_octet (parameters_in part).0) k.keeps_7);
      header_is = (let p1 = high a b (o 3) in let p2 = low a b (o 3) in let p3 = high d e (o 5) in let p4 = low d e (o 5) in let p5 = whole.spelled in cc);
      user_is = refl;
    }
shows_cc found li code (a ∷ b ∷ d ∷ e ∷ []) user o l c k = absurd (let t = leb-true _ _ (kept_if (nat_le 6 li) _ k.keeps_4) in omega (arith, t))
shows_cc found li code (a ∷ b ∷ d ∷ []) user o l c k = absurd (let t = leb-true _ _ (kept_if (nat_le 6 li) _ k.keeps_4) in omega (arith, t))
shows_cc found li code (a ∷ b ∷ []) user o l c k = absurd (let t = leb-true _ _ (kept_if (nat_le 6 li) _ k.keeps_4) in omega (arith, t))
shows_cc found li code (a ∷ []) user o l c k = absurd (let t = leb-true _ _ (kept_if (nat_le 6 li) _ k.keeps_4) in omega (arith, t))
shows_cc found li code [] user o l c k = absurd (let t = leb-true _ _ (kept_if (nat_le 6 li) _ k.keeps_4) in omega (arith, t))

shows_dr : (found li code : ℕ) (fields user : List ℕ) → AreOctets (li ∷ code ∷ fields ++ user) → li ≡ length fields + 1 → code ≡ 0x80 → KeepsAll Dr (laid found li code fields user) → ArePartsOfTpdu Dr (laid found li code fields user) (value_in Dr (laid found li code fields user))
shows_dr found li code (a ∷ b ∷ d ∷ e ∷ g ∷ part) user o l c k =
    let whole = part_kept Dr part k.keeps_6 in
    let bounds = user_within Dr user k.keeps_8 in
    record {
      kind_is = refl;
      fits = ((fits_two a b (o 2) (o 3), fits_two d e (o 4) (o 5), omega (arith, o 6)), bounds.0, bounds.1);
      may_stand = (whole.none, tt);
      header_is = (let p1 = high a b (o 3) in let p2 = low a b (o 3) in let p3 = high d e (o 5) in let p4 = low d e (o 5) in let p5 = whole.spelled in cc);
      user_is = refl;
    }
shows_dr found li code (a ∷ b ∷ d ∷ e ∷ []) user o l c k = absurd (let t = leb-true _ _ (kept_if (nat_le 6 li) _ k.keeps_4) in omega (arith, t))
shows_dr found li code (a ∷ b ∷ d ∷ []) user o l c k = absurd (let t = leb-true _ _ (kept_if (nat_le 6 li) _ k.keeps_4) in omega (arith, t))
shows_dr found li code (a ∷ b ∷ []) user o l c k = absurd (let t = leb-true _ _ (kept_if (nat_le 6 li) _ k.keeps_4) in omega (arith, t))
shows_dr found li code (a ∷ []) user o l c k = absurd (let t = leb-true _ _ (kept_if (nat_le 6 li) _ k.keeps_4) in omega (arith, t))
shows_dr found li code [] user o l c k = absurd (let t = leb-true _ _ (kept_if (nat_le 6 li) _ k.keeps_4) in omega (arith, t))

shows_er : (found li code : ℕ) (fields user : List ℕ) → AreOctets (li ∷ code ∷ fields ++ user) → li ≡ length fields + 1 → code ≡ 0x70 → KeepsAll Er (laid found li code fields user) → ArePartsOfTpdu Er (laid found li code fields user) (value_in Er (laid found li code fields user))
shows_er found li code (a ∷ b ∷ g ∷ part) user o l c k =
    let whole = part_kept Er part k.keeps_6 in
    let bounds = user_within Er user k.keeps_8 in
    record {
      kind_is = refl;
      fits = ((fits_two a b (o 2) (o 3), omega (arith, o 4)), omega arith, omega arith);
      may_stand = (whole.none, tt);
      header_is = (let p1 = high a b (o 3) in let p2 = low a b (o 3) in let p5 = whole.spelled in cc);
      user_is = none_left user bounds.1;
    }
shows_er found li code (a ∷ b ∷ []) user o l c k = absurd (let t = leb-true _ _ (kept_if (nat_le 4 li) _ k.keeps_4) in omega (arith, t))
shows_er found li code (a ∷ []) user o l c k = absurd (let t = leb-true _ _ (kept_if (nat_le 4 li) _ k.keeps_4) in omega (arith, t))
shows_er found li code [] user o l c k = absurd (let t = leb-true _ _ (kept_if (nat_le 4 li) _ k.keeps_4) in omega (arith, t))

shows_dc : (found li code : ℕ) (fields user : List ℕ) → AreOctets (li ∷ code ∷ fields ++ user) → li ≡ length fields + 1 → code ≡ 0xC0 → KeepsAll Dc (laid found li code fields user) → ArePartsOfTpdu Dc (laid found li code fields user) (value_in Dc (laid found li code fields user))
shows_dc found li code (a ∷ b ∷ d ∷ e ∷ []) user o l c k =
    let bounds = user_within Dc user k.keeps_8 in
    record {
      kind_is = refl;
      fits = ((fits_two a b (o 2) (o 3), fits_two d e (o 4) (o 5)), omega arith, omega arith);
      may_stand = (refl, tt);
      header_is = (let p1 = high a b (o 3) in let p2 = low a b (o 3) in let p3 = high d e (o 5) in let p4 = low d e (o 5) in cc);
      user_is = none_left user bounds.1;
    }
shows_dc found li code (a ∷ b ∷ d ∷ e ∷ g ∷ rest) user o l c k = absurd (let t = eqb-true _ _ (kept_if (eqb li 5) _ k.keeps_4) in omega (arith, t))
shows_dc found li code (a ∷ b ∷ d ∷ []) user o l c k = absurd (let t = eqb-true _ _ (kept_if (eqb li 5) _ k.keeps_4) in omega (arith, t))
shows_dc found li code (a ∷ b ∷ []) user o l c k = absurd (let t = eqb-true _ _ (kept_if (eqb li 5) _ k.keeps_4) in omega (arith, t))
shows_dc found li code (a ∷ []) user o l c k = absurd (let t = eqb-true _ _ (kept_if (eqb li 5) _ k.keeps_4) in omega (arith, t))
shows_dc found li code [] user o l c k = absurd (let t = eqb-true _ _ (kept_if (eqb li 5) _ k.keeps_4) in omega (arith, t))

eot_octet : (n : ℕ) → n < 256 → n ≡ (if nat_le 0x80 n then 0x80 else 0) + n % 0x80
eot_octet n h =
    elim (cases_Bool (nat_le 0x80 n)) [
      | inl t ↦ (let up = leb-true _ _ t in rw t (omega (arith, up)))
      | inr f ↦ (let down = leb-false _ _ f in rw f (omega (arith, down)))
    ]

shows_dt : (found li code : ℕ) (fields user : List ℕ) → AreOctets (li ∷ code ∷ fields ++ user) → li ≡ length fields + 1 → code ≡ 0xF0 → KeepsAll Dt (laid found li code fields user) → ArePartsOfTpdu Dt (laid found li code fields user) (value_in Dt (laid found li code fields user))
shows_dt found li code (a ∷ b ∷ n ∷ []) user o l c k =
    let bounds = user_within Dt user k.keeps_8 in
    record {
      kind_is = refl;
      fits = ((fits_two a b (o 2) (o 3), omega arith), bounds.0, bounds.1);
      may_stand = (refl, tt);
      header_is = (let p1 = high a b (o 3) in let p2 = low a b (o 3) in let p3 = eot_octet n (o 4) in cc);
      user_is = refl;
    }
shows_dt found li code (a ∷ b ∷ d ∷ e ∷ rest) user o l c k = absurd (let t = eqb-true _ _ (kept_if (eqb li 4) _ k.keeps_4) in omega (arith, t))
shows_dt found li code (a ∷ b ∷ []) user o l c k = absurd (let t = eqb-true _ _ (kept_if (eqb li 4) _ k.keeps_4) in omega (arith, t))
shows_dt found li code (a ∷ []) user o l c k = absurd (let t = eqb-true _ _ (kept_if (eqb li 4) _ k.keeps_4) in omega (arith, t))
shows_dt found li code [] user o l c k = absurd (let t = eqb-true _ _ (kept_if (eqb li 4) _ k.keeps_4) in omega (arith, t))

shows_ak : (found li code : ℕ) (fields user : List ℕ) → AreOctets (li ∷ code ∷ fields ++ user) → li ≡ length fields + 1 → code / 16 ≡ 0x6 → KeepsAll Ak (laid found li code fields user) → ArePartsOfTpdu Ak (laid found li code fields user) (value_in Ak (laid found li code fields user))
shows_ak found li code (a ∷ b ∷ n ∷ []) user o l c k =
    let bounds = user_within Ak user k.keeps_8 in
    let first : code ≡ 0x60 + code % 16 = omega (arith, c) in
    record {
      kind_is = refl;
      fits = ((omega arith, fits_two a b (o 2) (o 3), number_within n k.keeps_7), omega arith, omega arith);
      may_stand = (refl, tt);
      header_is = (let p1 = high a b (o 3) in let p2 = low a b (o 3) in cc);
      user_is = none_left user bounds.1;
    }
shows_ak found li code (a ∷ b ∷ d ∷ e ∷ rest) user o l c k = absurd (let t = eqb-true _ _ (kept_if (eqb li 4) _ k.keeps_4) in omega (arith, t))
shows_ak found li code (a ∷ b ∷ []) user o l c k = absurd (let t = eqb-true _ _ (kept_if (eqb li 4) _ k.keeps_4) in omega (arith, t))
shows_ak found li code (a ∷ []) user o l c k = absurd (let t = eqb-true _ _ (kept_if (eqb li 4) _ k.keeps_4) in omega (arith, t))
shows_ak found li code [] user o l c k = absurd (let t = eqb-true _ _ (kept_if (eqb li 4) _ k.keeps_4) in omega (arith, t))

shows : (kind : Kind) (found li code : ℕ) (fields user : List ℕ) → AreOctets (li ∷ code ∷ fields ++ user) → li ≡ length fields + 1 → IsCode kind code → KeepsAll kind (laid found li code fields user) → ArePartsOfTpdu kind (laid found li code fields user) (value_in kind (laid found li code fields user))
shows Cr found li code fields user o l c k = shows_cr found li code fields user o l c k
shows Cc found li code fields user o l c k = shows_cc found li code fields user o l c k
shows Dr found li code fields user o l c k = shows_dr found li code fields user o l c k
shows Dc found li code fields user o l c k = shows_dc found li code fields user o l c k
shows Dt found li code fields user o l c k = shows_dt found li code fields user o l c k
shows Ak found li code fields user o l c k = shows_ak found li code fields user o l c k
shows Er found li code fields user o l c k = shows_er found li code fields user o l c k

-- what is shown is spelled
spelled_from : (kind : Kind) (found li code : ℕ) (fields user : List ℕ) (p : TransportPdu) → li ≡ length fields + 1 → li < 0xFF → ArePartsOfTpdu kind (laid found li code fields user) p → Spells p (li ∷ code ∷ fields ++ user)
spelled_from kind found li code fields user p l below s =
    let c : Layout = laid found li code fields user in
    let n : li ≡ length (header_without_length_indicator p (parameters_of kind c)) = omega (arith, l, ap (λ (xs : List ℕ). length xs) s.header_is) in
    record {
      parameters = parameters_of kind c;
      fits = s.fits;
      may_stand = s.may_stand;
      below_ff = omega (arith, n, below);
      spelled_so = ap (λ (k : ℕ). k ∷ code ∷ fields ++ user) n ∙ ap (λ (xs : List ℕ). length (header_without_length_indicator p (parameters_of kind c)) ∷ xs ++ user) s.header_is ∙ ap (λ (xs : List ℕ). length (header_without_length_indicator p (parameters_of kind c)) ∷ header_without_length_indicator p (parameters_of kind c) ++ xs) s.user_is;
    }

-- octets that keep the first two rules are made of their layout
record IsWhole (octets : List ℕ) (c : Layout) : Type 0 where
  whole : octets ≡ c.li ∷ c.code ∷ c.fields ++ c.user
  counted : c.li ≡ length c.fields + 1
  below : c.li < 0xFF

three_tests : (a b d : Bool) (fault : TpFault) → (if a || b || d then Some fault else None) ≡ None → (a ≡ false) × (b ≡ false) × (d ≡ false)
three_tests false false false fault e = (refl, refl, refl)
three_tests true b d fault e = absurd cc
three_tests false true d fault e = absurd cc
three_tests false false true fault e = absurd cc

laid_whole : (octets : List ℕ) → AreOctets octets → rule_1 octets ≡ None → rule_2 (layout_of octets) ≡ None → IsWhole octets (layout_of octets)
laid_whole [] o e f = absurd cc
laid_whole (li ∷ []) o e f =
    let t = three_tests (eqb li 0) (eqb li 0xFF) (nat_le 1 li) (Length li 1) f in
    let nonzero : li ≡ 0 → ⊥ = eqb-false _ _ t.0 in
    let less : li < 1 = leb-false _ _ t.2 in
    let none : li ≡ 0 = omega (arith, less) in
    absurd (nonzero none)
laid_whole (li ∷ code ∷ rest) o e f =
    let t = three_tests (eqb li 0) (eqb li 0xFF) (nat_le (length (li ∷ code ∷ rest)) li) (Length li (length (li ∷ code ∷ rest))) f in
    let nonzero : li ≡ 0 → ⊥ = eqb-false _ _ t.0 in
    let not_ff : li ≡ 0xFF → ⊥ = eqb-false _ _ t.1 in
    let less : li < length (li ∷ code ∷ rest) = leb-false _ _ t.2 in
    let octet : li < 256 = o 0 in
    let few : li - 1 ≤ length rest = omega (arith, less) in
    let some : 1 ≤ li = omega (arith, nonzero) in
    let behind : li + 1 ≡ suc (suc (li - 1)) = omega (arith, some) in
    let user : drop (li + 1) (li ∷ code ∷ rest) ≡ drop (li - 1) rest = rw behind refl in
    record {
      whole = rw user (ap (λ (xs : List ℕ). li ∷ code ∷ xs) (sym (take-append-drop (li - 1) rest)));
      counted = omega (arith, length-take-le (li - 1) rest few, some);
      below = omega (arith, octet, not_ff);
    }

by_kind : (kind : Option Kind) (octets : List ℕ) (c : Layout) → AreOctets octets → IsWhole octets c → kind_of_tpdu_code c.code ≡ kind → is_some kind ≡ true → first_of (kind_rules kind c) ≡ None → Spells (value_by kind c) octets
by_kind None octets c o w e some r = absurd cc
by_kind (Some kind) octets c o w e some r =
    let laid_octets : AreOctets (c.li ∷ c.code ∷ c.fields ++ c.user) = subst (λ (os : List ℕ). AreOctets os) w.whole o in
    let shown : ArePartsOfTpdu kind c (value_in kind c) = shows kind c.found c.li c.code c.fields c.user laid_octets w.counted (coded kind c.code e) (all_kept kind c r) in
    subst (λ (os : List ℕ). Spells (value_in kind c) os) (sym w.whole) (spelled_from kind c.found c.li c.code c.fields c.user (value_in kind c) w.counted w.below shown)

pub reading_spells : (octets : List ℕ) (p : TransportPdu) → AreOctets octets → reading octets ≡ Ok p → Spells p octets
unfolding reading
reading_spells octets p o e =
    let c : Layout = layout_of octets in
    let found = fault_or_ok (first_fault octets) (tpdu_of_faultless_octets octets) p e in
    let a = first_kept (rule_1 octets) (rule_2 c ∷ rule_3 c ∷ kind_rules (kind_of_tpdu_code c.code) c) found.0 in
    let b = first_kept (rule_2 c) (rule_3 c ∷ kind_rules (kind_of_tpdu_code c.code) c) a.1 in
    let d = first_kept (rule_3 c) (kind_rules (kind_of_tpdu_code c.code) c) b.1 in
    subst (λ (q : TransportPdu). Spells q octets) found.1 (by_kind (kind_of_tpdu_code c.code) octets c o (laid_whole octets o a.0 b.0) refl (has_kind c d.0) d.1)
