-- Known answers, worked out by hand from the tables of ITU-T X.224, clause 13, and from the order of this profile's rules: octets that
-- spell a TPDU, octets that are read, and the faults of others.
use Rattle.std.specs.Prelude.{◌≡◌, true, [], ◌∷◌, Some, Ok, Err, refl}
use Rattle.std.proofs.Common.{lit<, lit≤}
use Rattle.x224_tpdu.specs.declared.fault.TpFault.TheVariants.{Empty, Length, Code, Parameter, Value, Class, UserData}
use Rattle.x224_tpdu.specs.Parameters.{parameters_in}
use Rattle.x224_tpdu.specs.Spelling.{connection_request, connection_confirm, disconnect_request, disconnect_confirm, data_tpdu, acknowledgement, tpdu_error}
use Rattle.x224_tpdu.specs.Spellings.{Spells}
use Rattle.x224_tpdu.specs.Faults.{first_fault}
use Rattle.x224_tpdu.specs.Function.{reading}

-- ---- spellings

pub known_confirmed : Spells (disconnect_confirm 1 1) (0x05 ∷ 0xC0 ∷ 0x00 ∷ 0x01 ∷ 0x00 ∷ 0x01 ∷ [])
known_confirmed = record {
  parameters = [];
  fits = ((lit< tt, lit< tt), lit≤ tt, lit≤ tt);
  may_stand = (refl, tt);
  below_ff = lit< tt;
  spelled_so = refl;
}

pub known_last_data : Spells (data_tpdu 1 true 0 (0x41 ∷ [])) (0x04 ∷ 0xF0 ∷ 0x00 ∷ 0x01 ∷ 0x80 ∷ 0x41 ∷ [])
known_last_data = record {
  parameters = [];
  fits = ((lit< tt, lit< tt), lit≤ tt, lit≤ tt);
  may_stand = (refl, tt);
  below_ff = lit< tt;
  spelled_so = refl;
}

-- a request that asks for 128 octets, by its parameter or without it, and one with a parameter that is skipped
pub known_request : Spells (connection_request 15 0 1 128 (0x42 ∷ [])) (0x09 ∷ 0xEF ∷ 0x00 ∷ 0x00 ∷ 0x00 ∷ 0x01 ∷ 0x20 ∷ 0xC0 ∷ 0x01 ∷ 0x07 ∷ 0x42 ∷ [])
known_request = record {
  parameters = record { code = 0xC0; value = 0x07 ∷ [] } ∷ [];
  fits = ((lit< tt, lit< tt, lit< tt), lit≤ tt, lit≤ tt);
  may_stand = (refl, (lit≤ tt, lit≤ tt, refl));
  below_ff = lit< tt;
  spelled_so = refl;
}

pub known_request_without_size : Spells (connection_request 15 0 1 128 (0x42 ∷ [])) (0x06 ∷ 0xEF ∷ 0x00 ∷ 0x00 ∷ 0x00 ∷ 0x01 ∷ 0x20 ∷ 0x42 ∷ [])
known_request_without_size = record {
  parameters = [];
  fits = ((lit< tt, lit< tt, lit< tt), lit≤ tt, lit≤ tt);
  may_stand = (refl, refl);
  below_ff = lit< tt;
  spelled_so = refl;
}

pub known_request_with_more : Spells (connection_request 15 0 1 8192 [])
    (0x0B ∷ 0xEF ∷ 0x00 ∷ 0x00 ∷ 0x00 ∷ 0x01 ∷ 0x20 ∷ 0xC5 ∷ 0x00 ∷ 0xC0 ∷ 0x01 ∷ 0x0D ∷ [])
known_request_with_more = record {
  parameters = record { code = 0xC5; value = [] } ∷ record { code = 0xC0; value = 0x0D ∷ [] } ∷ [];
  fits = ((lit< tt, lit< tt, lit< tt), lit≤ tt, lit≤ tt);
  may_stand = (refl, (lit≤ tt, lit≤ tt, refl));
  below_ff = lit< tt;
  spelled_so = refl;
}

-- ---- readings, one of each kind

pub known_reading_request : reading (0x0B ∷ 0xE1 ∷ 0x00 ∷ 0x00 ∷ 0x00 ∷ 0x01 ∷ 0x20 ∷ 0xC5 ∷ 0x00 ∷ 0xC0 ∷ 0x01 ∷ 0x0A ∷ 0x42 ∷ [])
    ≡ Ok (connection_request 1 0 1 1024 (0x42 ∷ []))
unfolding reading parameters_in
known_reading_request = refl

pub known_reading_confirm : reading (0x06 ∷ 0xD2 ∷ 0x00 ∷ 0x01 ∷ 0x01 ∷ 0x02 ∷ 0x20 ∷ []) ≡ Ok (connection_confirm 2 1 258 128 [])
unfolding reading parameters_in
known_reading_confirm = refl

pub known_reading_disconnect : reading (0x06 ∷ 0x80 ∷ 0x00 ∷ 0x01 ∷ 0x00 ∷ 0x01 ∷ 0x85 ∷ 0x41 ∷ []) ≡ Ok (disconnect_request 1 1 133 (0x41 ∷ []))
unfolding reading parameters_in
known_reading_disconnect = refl

pub known_reading_confirmed : reading (0x05 ∷ 0xC0 ∷ 0x00 ∷ 0x01 ∷ 0x00 ∷ 0x02 ∷ []) ≡ Ok (disconnect_confirm 1 2)
unfolding reading
known_reading_confirmed = refl

pub known_reading_data : reading (0x04 ∷ 0xF0 ∷ 0x00 ∷ 0x01 ∷ 0x85 ∷ 0x41 ∷ 0x42 ∷ []) ≡ Ok (data_tpdu 1 true 5 (0x41 ∷ 0x42 ∷ []))
unfolding reading
known_reading_data = refl

pub known_reading_acknowledgement : reading (0x04 ∷ 0x6F ∷ 0x00 ∷ 0x01 ∷ 0x7F ∷ []) ≡ Ok (acknowledgement 15 1 127)
unfolding reading
known_reading_acknowledgement = refl

pub known_reading_error : reading (0x05 ∷ 0x70 ∷ 0x00 ∷ 0x01 ∷ 0x02 ∷ 0xC0 ∷ []) ≡ Err (Parameter 0xC0)
unfolding reading parameters_in
known_reading_error = refl

pub known_reading_error_with_size : reading (0x07 ∷ 0x70 ∷ 0x00 ∷ 0x01 ∷ 0x02 ∷ 0xC0 ∷ 0x01 ∷ 0x07 ∷ []) ≡ Ok (tpdu_error 1 2)
unfolding reading parameters_in
known_reading_error_with_size = refl

-- ---- faults, in the order of their rules

pub known_no_octets : first_fault [] ≡ Some Empty
known_no_octets = refl

pub known_header_too_long : first_fault (0x03 ∷ 0x61 ∷ 0xFF ∷ []) ≡ Some (Length 3 3)
known_header_too_long = refl

pub known_no_code : first_fault (0x04 ∷ 0x90 ∷ 0x00 ∷ 0x01 ∷ 0x80 ∷ 0x41 ∷ []) ≡ Some (Code 0x90)
known_no_code = refl

pub known_short_data : first_fault (0x03 ∷ 0xF0 ∷ 0x00 ∷ 0x01 ∷ []) ≡ Some (Length 3 4)
known_short_data = refl

pub known_class_four : first_fault (0x09 ∷ 0xEF ∷ 0x00 ∷ 0x00 ∷ 0x00 ∷ 0x01 ∷ 0x41 ∷ 0xC0 ∷ 0x01 ∷ 0x07 ∷ []) ≡ Some (Class 0x41)
known_class_four = refl

pub known_not_in_confirm : first_fault (0x09 ∷ 0xDF ∷ 0x00 ∷ 0x01 ∷ 0x00 ∷ 0x01 ∷ 0x20 ∷ 0xC5 ∷ 0x01 ∷ 0x07 ∷ []) ≡ Some (Parameter 0xC5)
unfolding parameters_in
known_not_in_confirm = refl

pub known_size_too_small : first_fault (0x09 ∷ 0xEF ∷ 0x00 ∷ 0x00 ∷ 0x00 ∷ 0x01 ∷ 0x20 ∷ 0xC0 ∷ 0x01 ∷ 0x06 ∷ []) ≡ Some (Value 0xC0 0x06)
unfolding parameters_in
known_size_too_small = refl

pub known_number_with_top_bit : first_fault (0x04 ∷ 0x61 ∷ 0x00 ∷ 0x01 ∷ 0x80 ∷ []) ≡ Some (Value 0x60 0x80)
known_number_with_top_bit = refl

pub known_no_data : first_fault (0x04 ∷ 0xF0 ∷ 0x00 ∷ 0x01 ∷ 0x80 ∷ []) ≡ Some (UserData 1019 0)
known_no_data = refl
