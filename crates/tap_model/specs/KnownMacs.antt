-- Known answers: verdicts by the MACs of a session, worked out by another program. Of each SaPDU that has a MAC one that is good, and the same with one
-- bit of its MAC's last octet changed.
use Rattle.std.specs.Prelude.{◌≡◌, ℕ, true, false, List, [], ◌∷◌, Some, Ok, refl}
use Rattle.er_base.specs.declared.side.Side.{Side}
use Rattle.er_base.specs.declared.side.Side.TheVariants.{E, R}
use Rattle.er_base.specs.Octets.{eight}
use Rattle.bit_lists.specs.Bits.{bits, number, pick, xor}
use Rattle.des_block.specs.Des.{box_output, substituted, cipher_function, rounds, cipher, keys_from, round_keys}
use Rattle.des_block.specs.Triple.{triple_encipher}
use Rattle.cbc_mac.specs.Mac.{blocks, chained, mac_bits, mac_of}
use Rattle.sapdu.specs.Spelling.{Au2, Au3, Ar, Dt}
use Rattle.tap_model.specs.declared.audit_verdict.AuditVerdict.{AuditVerdict}
use Rattle.tap_model.specs.declared.audit_verdict.AuditVerdict.TheVariants.{Good, Mac}
use Rattle.tap_model.specs.Verdicts.{Known, Read, audit_verdict_on_item}

-- the session of engine 5 and radio block centre 9 with Ra 1122334455667788 and Rb 0102030405060708, and the keys that they derive from the KMAC
-- 0123456789abcdef 23456789abcdef01 456789abcdef0123
abbrev known : Known
known = record {
  engine = 5;
  rbc = 9;
  session = Some (record {
    ra = 0x1122334455667788;
    rb = 0x0102030405060708;
    keys = record { first = 0x7350f164ef304195; second = 0xee22ebff740b3688; third = 0xdfe63fff5e2ffd82 };
  });
}

abbrev verdict_at : Side → (place : ℕ) → Read → AuditVerdict
verdict_at side place read = audit_verdict_on_item known side place read

pub au2_by_mac :
    (verdict_at R 0 (Ok (Au2 9 1 0x1122334455667788 0xbd1745640dd6c194, true)) ≡ Good)
    × (verdict_at R 0 (Ok (Au2 9 1 0x1122334455667788 0xbd1745640dd6c195, true)) ≡ Mac)
unfolding audit_verdict_on_item mac_of mac_bits blocks chained triple_encipher cipher rounds cipher_function substituted box_output round_keys keys_from bits
    number pick xor eight
au2_by_mac = (refl, refl)

pub au3_by_mac : (verdict_at E 1 (Ok (Au3 0xcf4775838533c548, false)) ≡ Good) × (verdict_at E 1 (Ok (Au3 0xcf4775838533c549, false)) ≡ Mac)
unfolding audit_verdict_on_item mac_of mac_bits blocks chained triple_encipher cipher rounds cipher_function substituted box_output round_keys keys_from bits
    number pick xor eight
au3_by_mac = (refl, refl)

pub ar_by_mac : (verdict_at R 1 (Ok (Ar 0x75aa073c805b03c0, true)) ≡ Good) × (verdict_at R 1 (Ok (Ar 0x75aa073c805b03c1, true)) ≡ Mac)
unfolding audit_verdict_on_item mac_of mac_bits blocks chained triple_encipher cipher rounds cipher_function substituted box_output round_keys keys_from bits
    number pick xor eight
ar_by_mac = (refl, refl)

-- of `HELLO` from the engine, in the first place that a message can have
abbrev hello : List ℕ
hello = 0x48 ∷ 0x45 ∷ 0x4c ∷ 0x4c ∷ 0x4f ∷ []

pub dt_by_mac : (verdict_at E 2 (Ok (Dt hello 0x5244cbe51fa10045, false)) ≡ Good) × (verdict_at E 2 (Ok (Dt hello 0x5244cbe51fa10044, false)) ≡ Mac)
unfolding audit_verdict_on_item mac_of mac_bits blocks chained triple_encipher cipher rounds cipher_function substituted box_output round_keys keys_from bits
    number pick xor eight
dt_by_mac = (refl, refl)
