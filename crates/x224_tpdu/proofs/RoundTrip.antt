-- Octets spell one TPDU at most, and what is written is read as it was.
use Rattle.std.proofs.Common.{◌≡◌, ◌≢◌, ℕ, ◌^◌, ◌≤◌, inl, inr, List, [], length, Option, Some, None, Result, Ok, Err, refl, subst, sym, ◌∙◌, ap, arith, lit≤}
use Rattle.std.proofs.lemmas.Bool.{cases_eq}
use Rattle.x224_tpdu.specs.declared.fault.TpFault.{TpFault}
use Rattle.x224_tpdu.specs.declared.kind.Kind.TheVariants.{Er}
use Rattle.x224_tpdu.specs.declared.tpdu.Tpdu.{Tpdu}
use Rattle.x224_tpdu.specs.Parameters.{size_octet}
use Rattle.x224_tpdu.specs.Spelling.{TransportPdu, connection_request, connection_confirm, disconnect_request, disconnect_confirm, data_tpdu, acknowledgement, tpdu_error}
use Rattle.x224_tpdu.specs.Spellings.{pdu_of, kind_in, NamesSize, Spells, IsSize, IsWritable}
use Rattle.x224_tpdu.specs.Faults.{first_fault}
use Rattle.x224_tpdu.specs.Writing.{size_code, own_parameters, written_octets}
use Rattle.x224_tpdu.specs.Reading.{Reads}
use Rattle.x224_tpdu.specs.Function.{fault_or, tpdu_of_faultless_octets, reading}
use Rattle.x224_tpdu.specs.ReadingLaws.{answer_of}
use Rattle.x224_tpdu.proofs.Spelled.{shown}

pub spells_one : (octets : List ℕ) (p q : TransportPdu) → Spells p octets → Spells q octets → p ≡ q
spells_one octets p q s t = sym (shown p octets s).value ∙ (shown q octets t).value

pub spelled_has_no_fault : (octets : List ℕ) (p : TransportPdu) → Spells p octets → first_fault octets ≡ None
spelled_has_no_fault octets p s = (shown p octets s).no_fault

pub reading_of_spelled : (octets : List ℕ) (p : TransportPdu) → Spells p octets → reading octets ≡ Ok p
unfolding reading
reading_of_spelled octets p s =
    let it = shown p octets s in
    ap (λ (o : Option TpFault). fault_or o (tpdu_of_faultless_octets octets)) it.no_fault ∙ ap (λ (q : TransportPdu). Ok q) it.value

pub reading_of_faulty : (octets : List ℕ) (fault : TpFault) → first_fault octets ≡ Some fault → reading octets ≡ Err fault
unfolding reading
reading_of_faulty octets fault e = ap (λ (o : Option TpFault). fault_or o (tpdu_of_faultless_octets octets)) e

pub reading_is_reads : (octets : List ℕ) (result : Result Tpdu TpFault) → Reads octets result → reading octets ≡ answer_of result
reading_is_reads octets (Ok tpdu) r = reading_of_spelled octets (pdu_of tpdu) r
reading_is_reads octets (Err fault) r = reading_of_faulty octets fault r

-- the octet that is written names the size
code_names : (n : ℕ) → IsSize n → NamesSize (Some (size_code n)) n
code_names n h =
    elim h [
      | inl e ↦ named n 128 e (lit≤ tt, lit≤ tt, refl)
      | inr (inl e) ↦ named n 256 e (lit≤ tt, lit≤ tt, refl)
      | inr (inr (inl e)) ↦ named n 512 e (lit≤ tt, lit≤ tt, refl)
      | inr (inr (inr (inl e))) ↦ named n 1024 e (lit≤ tt, lit≤ tt, refl)
      | inr (inr (inr (inr (inl e)))) ↦ named n 2048 e (lit≤ tt, lit≤ tt, refl)
      | inr (inr (inr (inr (inr (inl e))))) ↦ named n 4096 e (lit≤ tt, lit≤ tt, refl)
      | inr (inr (inr (inr (inr (inr e))))) ↦ named n 8192 e (lit≤ tt, lit≤ tt, refl)
    ]
  where
    named : (n m : ℕ) → n ≡ m → NamesSize (Some (size_code m)) m → NamesSize (Some (size_code n)) n
    named n m e h = subst (λ (k : ℕ). NamesSize (Some (size_code k)) k) (sym e) h

-- a size that is named is one that can be written
pub named_is_size : (octet : Option ℕ) (n : ℕ) → NamesSize octet n → IsSize n
named_is_size None n h = inl h
named_is_size (Some k) n h =
    elim (cases_eq k 7) [
      | inl e ↦ inl (size_at n k 7 e h.2)
      | inr not_7 ↦
          elim (cases_eq k 8) [
            | inl e ↦ inr (inl (size_at n k 8 e h.2))
            | inr not_8 ↦
                elim (cases_eq k 9) [
                  | inl e ↦ inr (inr (inl (size_at n k 9 e h.2)))
                  | inr not_9 ↦
                      elim (cases_eq k 10) [
                        | inl e ↦ inr (inr (inr (inl (size_at n k 10 e h.2))))
                        | inr not_10 ↦
                            elim (cases_eq k 11) [
                              | inl e ↦ inr (inr (inr (inr (inl (size_at n k 11 e h.2)))))
                              | inr not_11 ↦
                                  elim (cases_eq k 12) [
                                    | inl e ↦ inr (inr (inr (inr (inr (inl (size_at n k 12 e h.2))))))
                                    | inr not_12 ↦
                                        (let e : k ≡ 13 = omega (arith, h.0, h.1) in inr (inr (inr (inr (inr (inr (size_at n k 13 e h.2)))))))
                                  ]
                            ]
                      ]
                ]
          ]
    ]
  where
    size_at : (n k j : ℕ) → k ≡ j → n ≡ 2 ^ k → n ≡ 2 ^ j
    size_at n k j e h = h ∙ ap (λ (i : ℕ). 2 ^ i) e

pub written_is_spelled : (p : TransportPdu) → IsWritable p → Spells p (written_octets p)
written_is_spelled (connection_request credit dst src size user) w = record {
  parameters = own_parameters (connection_request credit dst src size user);
  fits = w.0;
  may_stand = (refl, code_names size w.1);
  below_ff = omega arith;
  spelled_so = refl;
}
written_is_spelled (connection_confirm credit dst src size user) w = record {
  parameters = own_parameters (connection_confirm credit dst src size user);
  fits = w.0;
  may_stand = (refl, code_names size w.1);
  below_ff = omega arith;
  spelled_so = refl;
}
written_is_spelled (disconnect_request dst src reason user) w = record { parameters = []; fits = w.0; may_stand = (refl, tt); below_ff = omega arith; spelled_so = refl }
written_is_spelled (disconnect_confirm dst src) w = record { parameters = []; fits = w.0; may_stand = (refl, tt); below_ff = omega arith; spelled_so = refl }
written_is_spelled (data_tpdu dst last number user) w = record { parameters = []; fits = w.0; may_stand = (refl, tt); below_ff = omega arith; spelled_so = refl }
written_is_spelled (acknowledgement credit dst number) w = record { parameters = []; fits = w.0; may_stand = (refl, tt); below_ff = omega arith; spelled_so = refl }
written_is_spelled (tpdu_error dst cause) w = record { parameters = []; fits = w.0; may_stand = (refl, tt); below_ff = omega arith; spelled_so = refl }

pub spelled_is_writable : (octets : List ℕ) (p : TransportPdu) → Spells p octets → kind_in p ≢ Er → IsWritable p
spelled_is_writable octets (connection_request credit dst src size user) s k = (s.fits, named_is_size (size_octet s.parameters) size s.may_stand.1, k)
spelled_is_writable octets (connection_confirm credit dst src size user) s k = (s.fits, named_is_size (size_octet s.parameters) size s.may_stand.1, k)
spelled_is_writable octets (disconnect_request dst src reason user) s k = (s.fits, tt, k)
spelled_is_writable octets (disconnect_confirm dst src) s k = (s.fits, tt, k)
spelled_is_writable octets (data_tpdu dst last number user) s k = (s.fits, tt, k)
spelled_is_writable octets (acknowledgement credit dst number) s k = (s.fits, tt, k)
spelled_is_writable octets (tpdu_error dst cause) s k = (s.fits, tt, k)

pub reading_of_written : (p : TransportPdu) → IsWritable p → reading (written_octets p) ≡ Ok p
reading_of_written p w = reading_of_spelled (written_octets p) p (written_is_spelled p w)

pub written_is_short : (p : TransportPdu) → IsWritable p → length (written_octets p) ≤ 1024
written_is_short (connection_request credit dst src size user) w = omega (arith, w.0.2)
written_is_short (connection_confirm credit dst src size user) w = omega (arith, w.0.2)
written_is_short (disconnect_request dst src reason user) w = omega (arith, w.0.2)
written_is_short (disconnect_confirm dst src) w = omega arith
written_is_short (data_tpdu dst last number user) w = omega (arith, w.0.2)
written_is_short (acknowledgement credit dst number) w = omega arith
written_is_short (tpdu_error dst cause) w = omega arith
