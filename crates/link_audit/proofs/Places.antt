-- From the third place on the same kinds are expected.
use Rattle.std.proofs.Common.{arith, ◌≡◌, ℕ, ◌+◌, ◌≤◌, ◌==◌, Bool, List, [], ◌∷◌, Ok, Err, refl, sym, ap, ◌∙◌}
use Rattle.std.proofs.lemmas.Bool.{ne_eqb, le-leb}
use Rattle.er_base.specs.declared.side.Side.{Side}
use Rattle.er_base.specs.declared.side.Side.TheVariants.{E, R}
use Rattle.sapdu.specs.Spelling.{SafetyPdu, Au1, Au2, Au3, Ar, Dt, Di, read_of}
use Rattle.safety_automaton.specs.Safety.{same_flag}
use Rattle.tap_model.specs.declared.audit_verdict.AuditVerdict.TheVariants.{Flag, Unexpected}
use Rattle.tap_model.specs.Verdicts.{Known, Read, verdict_where_broken, side_flag, is_sapdu_expected, feature_rule, identity_rule, mac_in, key_rule, mac_rule, first_verdict_of, audit_verdict_on_item, judged_from}

other_place : (k m n : ℕ) → k ≤ 1 → 2 ≤ m → 2 ≤ n → (m == k) ≡ (n == k)
other_place k m n few late later = ne_eqb m k (λ e. omega (arith, e, few, late)) ∙ sym (ne_eqb n k (λ e. omega (arith, e, few, later)))

expected_late : (side : Side) (m n : ℕ) (pdu : SafetyPdu) → 2 ≤ m → 2 ≤ n → is_sapdu_expected side m pdu ≡ is_sapdu_expected side n pdu
expected_late E m n (Au1 id feature rb) late later = other_place 0 m n (omega arith) late later
expected_late R m n (Au1 id feature rb) late later = refl
expected_late E m n (Au2 id feature ra mac) late later = refl
expected_late R m n (Au2 id feature ra mac) late later = other_place 0 m n (omega arith) late later
expected_late E m n (Au3 mac) late later = other_place 1 m n (omega arith) late later
expected_late R m n (Au3 mac) late later = refl
expected_late E m n (Ar mac) late later = refl
expected_late R m n (Ar mac) late later = other_place 1 m n (omega arith) late later
expected_late E m n (Dt user mac) late later = le-leb 2 m late ∙ sym (le-leb 2 n later)
expected_late R m n (Dt user mac) late later = le-leb 2 m late ∙ sym (le-leb 2 n later)
expected_late E m n (Di reason sub) late later = refl
expected_late R m n (Di reason sub) late later = refl

verdict_late : (known : Known) (side : Side) (m n : ℕ) (read : Read) → 2 ≤ m → 2 ≤ n → audit_verdict_on_item known side m read ≡ audit_verdict_on_item known side n read
unfolding audit_verdict_on_item
verdict_late known side m n (Err fault) late later = refl
verdict_late known side m n (Ok read) late later =
    ap (λ (b : Bool).
    first_verdict_of (verdict_where_broken (same_flag read.1 (side_flag side)) Flag ∷ verdict_where_broken b Unexpected ∷ feature_rule read.0 ∷ identity_rule known read.0
    ∷ key_rule known.session (mac_in read.0) ∷ mac_rule known side read.0 read.1 known.session (mac_in read.0) ∷ []))
    (expected_late side m n read.0 late later)

pub judged_late : (known : Known) (side : Side) (m n : ℕ) (items : List (List ℕ)) → 2 ≤ m → 2 ≤ n → judged_from known side m items ≡ judged_from known side n items
unfolding judged_from
judged_late known side m n [] late later = refl
judged_late known side m n (item ∷ items) late later =
    rw (verdict_late known side m n (read_of item) late later, judged_late known side (m + 1) (n + 1) items (omega (arith, late)) (omega (arith, later))) refl
