-- Arguments of a drill file that are printed are words, and are read as the same values.
use Rattle.std.proofs.Common.{arith, ◌≡◌, ℕ, zero, suc, ◌≤◌, ◌<◌, ◌^◌, inl, inr, false, List, [], ◌∷◌, ◌++◌, length, take, drop, Option, Some, None, Ok, Err, refl, ap, sym, ◌∙◌, append_assoc, length-append, codes}
use Rattle.std.specs.Fmt.{decimal}
use Rattle.std.specs.Str.{bytes_eq}
use Rattle.std.proofs.lemmas.Bool.{cases_Bool, cases_lt, ne_eqb}
use Rattle.std.proofs.lemmas.List.{take_at, drop_at, get_or_past}
use Rattle.std.proofs.lemmas.Slice.Eq.{bytes_eq-Decides}
use Rattle.er_base.specs.declared.why.Why.TheVariants.{Hex}
use Rattle.er_base.specs.Arguments.{number_argument, octets_argument, exact_argument}
use Rattle.er_base.specs.Hexadecimal.{octets_spelled, hex_of}
use Rattle.er_base.specs.LineTexts.{LinesAreReadBack, WordsAreReadBack, IsSolid}
use Rattle.er_base.specs.Numbers.{NamesWhatIsPrinted}
use Rattle.er_base.specs.OctetLaws.{IsSpelling, JoinsOctets}
use Rattle.er_base.specs.Octets.{eight, number_in, AreOctets}
use Rattle.des_block.specs.declared.triple_key.TripleKey.{TripleKey}
use Rattle.er_scenario.specs.StepRanges.{IsKey, IsOptionalKey, IsStepText}
use Rattle.er_scenario.specs.Table.{three_keys, key_argument, optional_key_argument, mask_argument}
use Rattle.er_scenario.specs.Texts.{key_word, optional_key_word}

-- the laws of lines, words and numbers
pub record Laws : Type 0 where
  pub lines : LinesAreReadBack
  pub words : WordsAreReadBack
  pub decimals : NamesWhatIsPrinted
  pub eights : IsSpelling eight 8 (2 ^ 64)
  pub joins : JoinsOctets

-- past its end a list reads as octets too
pub octets_within : (text : List ℕ) → IsStepText text → AreOctets text
octets_within text h k =
    elim (cases_lt k (length text)) [
      | inl inside ↦ h.1 k inside
      | inr past ↦ rw (get_or_past text k 0 past) (omega arith)
    ]

pub one_octet : (mask : ℕ) → mask < 256 → AreOctets (mask ∷ [])
one_octet mask h zero = h
one_octet mask h (suc k) = omega arith

pub mask_read : (laws : Laws) (mask : ℕ) → 1 ≤ mask → mask < 256 → mask_argument (hex_of (mask ∷ [])) ≡ Ok mask
unfolding mask_argument
mask_read laws mask some small =
    let other : mask ≡ 0 → ⊥ = omega arith in
    rw (laws.words.text 4096 (mask ∷ []) (one_octet mask small) (omega arith), ne_eqb mask 0 other) refl

-- three keys, one behind the other
abbrev pub spelled : TripleKey → List ℕ
spelled key = eight key.first ++ (eight key.second ++ eight key.third)

pub spelled_octets : (laws : Laws) (key : TripleKey) → IsKey key → AreOctets (spelled key)
spelled_octets laws key h =
    laws.joins (eight key.first) (eight key.second ++ eight key.third) (laws.eights.octets key.first h.0)
    (laws.joins (eight key.second) (eight key.third) (laws.eights.octets key.second h.1) (laws.eights.octets key.third h.2))

length_spelled : (laws : Laws) (key : TripleKey) → length (spelled key) ≡ 24
length_spelled laws key =
    omega (arith, length-append (eight key.first) (eight key.second ++ eight key.third), length-append (eight key.second) (eight key.third), laws.eights.long key.first, laws.eights.long key.second, laws.eights.long key.third)

abbrev triple : ℕ → ℕ → ℕ → TripleKey
triple a b c = record { first = a; second = b; third = c }

first_read : (laws : Laws) (key : TripleKey) → take 8 (spelled key) ≡ eight key.first
first_read laws key = take_at (eight key.first) (eight key.second ++ eight key.third) 8 (laws.eights.long key.first)

second_read : (laws : Laws) (key : TripleKey) → take 8 (drop 8 (spelled key)) ≡ eight key.second
second_read laws key =
    ap (take 8) (drop_at (eight key.first) (eight key.second ++ eight key.third) 8 (laws.eights.long key.first))
    ∙ take_at (eight key.second) (eight key.third) 8 (laws.eights.long key.second)

third_read : (laws : Laws) (key : TripleKey) → drop 16 (spelled key) ≡ eight key.third
third_read laws key =
    let long : length (eight key.first ++ eight key.second) ≡ 16 =
    omega (arith, length-append (eight key.first) (eight key.second), laws.eights.long key.first, laws.eights.long key.second) in
    ap (drop 16) (sym (append_assoc (eight key.first) (eight key.second) (eight key.third)))
    ∙ drop_at (eight key.first ++ eight key.second) (eight key.third) 16 long

three_read : (laws : Laws) (key : TripleKey) → IsKey key → three_keys (spelled key) ≡ key
unfolding three_keys
three_read laws key h =
    ap (λ (l : List ℕ). triple (number_in l) (number_in (take 8 (drop 8 (spelled key)))) (number_in (drop 16 (spelled key)))) (first_read laws key)
    ∙ ap (λ (l : List ℕ). triple (number_in (eight key.first)) (number_in l) (number_in (drop 16 (spelled key)))) (second_read laws key)
    ∙ ap (λ (l : List ℕ). triple (number_in (eight key.first)) (number_in (eight key.second)) (number_in l)) (third_read laws key)
    ∙ ap (λ (n : ℕ). triple n (number_in (eight key.second)) (number_in (eight key.third))) (laws.eights.number key.first h.0)
    ∙ ap (λ (n : ℕ). triple key.first n (number_in (eight key.third))) (laws.eights.number key.second h.1)
    ∙ ap (λ (n : ℕ). triple key.first key.second n) (laws.eights.number key.third h.2)

exact_read : (laws : Laws) (key : TripleKey) → IsKey key → exact_argument 24 (key_word key) ≡ Ok (spelled key)
unfolding key_word
exact_read laws key h = laws.words.exact 24 (spelled key) (spelled_octets laws key h) (length_spelled laws key)

pub key_read : (laws : Laws) (key : TripleKey) → IsKey key → key_argument (key_word key) ≡ Ok key
unfolding key_argument
key_read laws key h = rw (exact_read laws key h) (ap (λ (k : TripleKey). Ok k) (three_read laws key h))

hyphen_refused : exact_argument 24 (codes "-") ≡ Err Hex
unfolding exact_argument octets_argument octets_spelled
hyphen_refused = refl

key_no_hyphen : (laws : Laws) (key : TripleKey) → IsKey key → bytes_eq (key_word key) (codes "-") ≡ false
key_no_hyphen laws key h =
    elim (cases_Bool (bytes_eq (key_word key) (codes "-"))) [
      | inl t ↦
          let is = (bytes_eq-Decides (key_word key) (codes "-")).0 t in
          let read : exact_argument 24 (codes "-") ≡ Ok (spelled key) = ap (exact_argument 24) (sym is) ∙ exact_read laws key h in
          let same : Err Hex ≡ Ok (spelled key) = sym hyphen_refused ∙ read in
          absurd (cc)
      | inr f ↦ f
    ]

pub optional_key_read : (laws : Laws) (key : Option TripleKey) → IsOptionalKey key → optional_key_argument (optional_key_word key) ≡ Ok key
unfolding optional_key_argument
optional_key_read laws None h = refl
optional_key_read laws (Some key) h = rw (key_no_hyphen laws key h, key_read laws key h) refl

pub solid_key : (laws : Laws) (key : TripleKey) → IsKey key → IsSolid (key_word key)
unfolding key_word
solid_key laws key h = laws.words.octets_word (spelled key) (spelled_octets laws key h)

pub solid_codes_hyphen : (laws : Laws) → IsSolid (hex_of [])
solid_codes_hyphen laws = laws.words.octets_word [] (λ k. omega arith)

pub solid_optional_key : (laws : Laws) (key : Option TripleKey) → IsOptionalKey key → IsSolid (optional_key_word key)
unfolding hex_of
solid_optional_key laws None h = solid_codes_hyphen laws
solid_optional_key laws (Some key) h = solid_key laws key h

pub link_read : (laws : Laws) (n : ℕ) → 1 ≤ n → n ≤ 64 → number_argument 1 64 (decimal n) ≡ Ok n
link_read laws n low high = laws.words.number 1 64 n low high (omega arith)
