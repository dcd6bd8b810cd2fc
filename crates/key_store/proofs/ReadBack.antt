-- What is written as a key file is read as the same entries.
use Rattle.std.proofs.Common.{arith, ◌≡◌, ℕ, ◌+◌, ◌^◌, true, List, [], ◌∷◌, ◌++◌, length, take, drop, Some, Ok, refl, ap, sym, ◌∙◌, append_assoc, length-append}
use Rattle.std.proofs.lemmas.Bool.{le-leb, le-ltb, ne_eqb}
use Rattle.std.proofs.lemmas.List.{take_at, drop_at}
use Rattle.std.specs.Str.{IsUtf8}
use Rattle.std.proofs.lemmas.Str.{is_utf8-from_IsUtf8}
use Rattle.toml.specs.Data.{table, Members}
use Rattle.toml.specs.Parse.{parse_document}
use Rattle.er_base.specs.Hexadecimal.{hex_of}
use Rattle.er_base.specs.LineTexts.{WordsAreReadBack}
use Rattle.er_base.specs.OctetLaws.{IsSpelling, JoinsOctets}
use Rattle.er_base.specs.Octets.{eight, number_in, AreOctets}
use Rattle.des_block.specs.declared.triple_key.TripleKey.{TripleKey}
use Rattle.safety_automaton.specs.Keys.{KmacEntry, AreKmacEntriesApart}
use Rattle.key_store.specs.declared.version.Version.TheVariants.{Two}
use Rattle.key_store.specs.KeyFiles.{document_of, version_of, are_tables, number_in_field, three_keys, kmac_spelled, kmac_in_field, moments_in, entry_in, key_entries_in_items, keys_of}
use Rattle.key_store.specs.Ranges.{IsKey, IsInRange, AreInRange}
use Rattle.key_store.specs.Written.{key_octets, key_digits, entry_members, entry_items, file_members}
use Rattle.key_store.proofs.Twices.{none_where_distinct}

-- the laws of words and numbers
pub record Laws : Type 0 where
  pub words : WordsAreReadBack
  pub eights : IsSpelling eight 8 (2 ^ 64)
  pub joins : JoinsOctets

octets : (laws : Laws) (key : TripleKey) → IsKey key → AreOctets (key_octets key)
octets laws key h =
    laws.joins (eight key.first) (eight key.second ++ eight key.third) (laws.eights.octets key.first h.first)
    (laws.joins (eight key.second) (eight key.third) (laws.eights.octets key.second h.second) (laws.eights.octets key.third h.third))

long : (laws : Laws) (key : TripleKey) → length (key_octets key) ≡ 24
long laws key =
    omega (arith, length-append (eight key.first) (eight key.second ++ eight key.third), length-append (eight key.second) (eight key.third), laws.eights.long key.first, laws.eights.long key.second, laws.eights.long key.third)

abbrev triple : ℕ → ℕ → ℕ → TripleKey
triple a b c = record { first = a; second = b; third = c }

second_read : (laws : Laws) (key : TripleKey) → take 8 (drop 8 (key_octets key)) ≡ eight key.second
second_read laws key =
    ap (take 8) (drop_at (eight key.first) (eight key.second ++ eight key.third) 8 (laws.eights.long key.first))
    ∙ take_at (eight key.second) (eight key.third) 8 (laws.eights.long key.second)

third_read : (laws : Laws) (key : TripleKey) → drop 16 (key_octets key) ≡ eight key.third
third_read laws key =
    let both : length (eight key.first ++ eight key.second) ≡ 16 =
    omega (arith, length-append (eight key.first) (eight key.second), laws.eights.long key.first, laws.eights.long key.second) in
    ap (drop 16) (sym (append_assoc (eight key.first) (eight key.second) (eight key.third)))
    ∙ drop_at (eight key.first ++ eight key.second) (eight key.third) 16 both

three_read : (laws : Laws) (key : TripleKey) → IsKey key → three_keys (key_octets key) ≡ key
unfolding three_keys
three_read laws key h =
    ap (λ (l : List ℕ). triple (number_in l) (number_in (take 8 (drop 8 (key_octets key)))) (number_in (drop 16 (key_octets key))))
    (take_at (eight key.first) (eight key.second ++ eight key.third) 8 (laws.eights.long key.first))
    ∙ ap (λ (l : List ℕ). triple (number_in (eight key.first)) (number_in l) (number_in (drop 16 (key_octets key)))) (second_read laws key)
    ∙ ap (λ (l : List ℕ). triple (number_in (eight key.first)) (number_in (eight key.second)) (number_in l)) (third_read laws key)
    ∙ ap (λ (n : ℕ). triple n (number_in (eight key.second)) (number_in (eight key.third))) (laws.eights.number key.first h.first)
    ∙ ap (λ (n : ℕ). triple key.first n (number_in (eight key.third))) (laws.eights.number key.second h.second)
    ∙ ap (λ (n : ℕ). triple key.first key.second n) (laws.eights.number key.third h.third)

digits : (laws : Laws) (key : TripleKey) → key_digits key ≡ hex_of (key_octets key)
unfolding key_digits hex_of
digits laws key =
    let some : length (key_octets key) ≡ 0 → ⊥ = omega (arith, long laws key) in
    rw (ne_eqb (length (key_octets key)) 0 some) refl

kmac_read : (laws : Laws) (key : TripleKey) → IsKey key → kmac_spelled (key_digits key) ≡ Some key
unfolding kmac_spelled
kmac_read laws key h =
    rw (digits laws key, laws.words.exact 24 (key_octets key) (octets laws key h) (long laws key))
    (ap (λ (k : TripleKey). Some k) (three_read laws key h))

entry_read : (laws : Laws) (k : ℕ) (e : KmacEntry) → IsInRange e → entry_in Two k (table (entry_members e)) ≡ Ok e
unfolding entry_in number_in_field kmac_in_field moments_in
entry_read laws k e h =
    rw (le-leb e.engine 16777215 (omega (arith, h.engine)), le-leb e.rbc 16777215 (omega (arith, h.rbc)), kmac_read laws e.kmac h.kmac, le-leb e.first 1000000000000000 (omega (arith, h.moments, h.last)), le-leb e.last 1000000000000000 h.last, le-ltb e.last e.first h.moments)
    refl

entries_read : (laws : Laws) (before : ℕ) (es : List KmacEntry) → AreInRange es → key_entries_in_items Two before (entry_items es) ≡ Ok es
unfolding key_entries_in_items
entries_read laws before [] h = refl
entries_read laws before (e ∷ es) h = rw (entry_read laws (before + 1) e h.0, entries_read laws (before + 1) es h.1) refl

all_tables : (es : List KmacEntry) → are_tables (entry_items es) ≡ true
all_tables [] = refl
all_tables (e ∷ es) = all_tables es

pub file_read : (laws : Laws) (text : List ℕ) (es : List KmacEntry) → AreInRange es → AreKmacEntriesApart es
    → document_of text ≡ Some (table (file_members es)) → keys_of text ≡ Ok es
unfolding keys_of version_of
file_read laws text es h distinct is =
    rw (is, all_tables es, entries_read laws 0 es h, none_where_distinct es h distinct) refl

pub document_read : (text : List ℕ) (ms : Members) → IsUtf8 text → parse_document text ≡ Some ms → document_of text ≡ Some (table ms)
unfolding document_of
document_read text ms utf8 is = rw (is_utf8-from_IsUtf8 text utf8, is) refl
