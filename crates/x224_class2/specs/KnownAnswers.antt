-- Known answers, worked out by hand from ITU-T X.224 and from the rules of this profile: segments, numbers, and what a side gives and
-- refuses.
use Rattle.std.specs.Prelude.{◌≡◌, ℕ, zero, suc, true, false, List, [], ◌∷◌, Some, None, Ok, Err, refl}
use Rattle.er_settings.specs.Making.{settings_of}
use Rattle.er_settings.specs.Values.{Settings}
use Rattle.x224_tpdu.specs.Spelling.{connection_request, connection_confirm, disconnect_request, disconnect_confirm, data_tpdu, acknowledgement}
use Rattle.x224_tpdu.specs.declared.fault.TpFault.TheVariants.{Class, Parameter}
use Rattle.x224_class2.specs.Segments.{Segment, segments_of, messages_in, text_so_far, ack_number}
use Rattle.x224_class2.specs.Tpdus.{Cr, Cc, Dt, Ak, octets_given}
use Rattle.x224_class2.specs.Transport.{Transport, Message, Disconnected, Refused, side_made, after_connect, after_accept, after_hand, after_taken, on_reading}
use Rattle.x224_class2.specs.Transport.{number_named, next_tpdu, after_next, waiting_count}

-- n octets 41
abbrev octets : ℕ → List ℕ
octets zero = []
octets (suc n) = 0x41 ∷ octets n

-- a message of exactly 123 octets at the size 128, one octet more, and 1,032 octets in nine segments
pub known_one_segment : segments_of 128 (octets 123) ≡ (true, octets 123) ∷ []
unfolding segments_of
known_one_segment = refl

pub known_two_segments : segments_of 128 (octets 124) ≡ (false, octets 123) ∷ (true, octets 1) ∷ []
unfolding segments_of
known_two_segments = refl

pub known_nine_segments : segments_of 128 (octets 1032)
    ≡ (false, octets 123) ∷ (false, octets 123) ∷ (false, octets 123) ∷ (false, octets 123) ∷ (false, octets 123) ∷ (false, octets 123) ∷ (false, octets 123)
    ∷ (false, octets 123) ∷ (true, octets 48) ∷ []
unfolding segments_of
known_nine_segments = refl

-- five DT: a message of two, one of one, and two of a message that isn't whole; none, one, both messages taken
abbrev five : List Segment
five = (false, 1 ∷ []) ∷ (true, 2 ∷ []) ∷ (true, 3 ∷ []) ∷ (false, 4 ∷ []) ∷ (false, 5 ∷ []) ∷ []

pub known_whole : messages_in five ≡ (1 ∷ 2 ∷ []) ∷ (3 ∷ []) ∷ []
known_whole = refl

pub known_begun : text_so_far five ≡ 4 ∷ 5 ∷ []
known_begun = refl

pub known_none_taken : ack_number 0 five ≡ 1
known_none_taken = refl

pub known_one_taken : ack_number 1 five ≡ 2
known_one_taken = refl

pub known_both_taken : ack_number 2 five ≡ 5
known_both_taken = refl

-- numbers are named modulo 128
pub known_named : number_named 120 10 1 ≡ Some 129
known_named = refl

pub known_not_named : number_named 120 10 3 ≡ None
known_not_named = refl

-- a caller and a callee, with a credit of 1 and sizes of 256 and 128
abbrev small : ℕ → Settings
small size = settings_of 8 7 1 size 1000 5 40000

abbrev connecting : Transport
connecting = after_connect (side_made true (small 256)) (0x42 ∷ [])

pub known_next_is_request : next_tpdu connecting ≡ Some (Cr 1 256 (0x42 ∷ []))
known_next_is_request = refl

pub known_request_octets : octets_given (Cr 1 256 (0x42 ∷ [])) ≡ 0x09 ∷ 0xE1 ∷ 0x00 ∷ 0x00 ∷ 0x00 ∷ 0x01 ∷ 0x20 ∷ 0xC0 ∷ 0x01 ∷ 0x08 ∷ 0x42 ∷ []
known_request_octets = refl

abbrev waits : Transport
waits = after_next connecting

pub known_nothing_next : next_tpdu waits ≡ None
known_nothing_next = refl

pub known_confirm_above_proposal : (on_reading waits (Ok (connection_confirm 1 1 1 512 []))).1 ≡ Refused 2 133
known_confirm_above_proposal = refl

pub known_confirm_to_another_reference : (on_reading waits (Ok (connection_confirm 1 2 1 128 []))).1 ≡ Refused 2 133
known_confirm_to_another_reference = refl

pub known_data_first : (on_reading waits (Ok (data_tpdu 1 true 0 (0x41 ∷ [])))).1 ≡ Refused 2 133
known_data_first = refl

pub known_refused_at_once : (on_reading waits (Ok (disconnect_request 1 1 128 (0x43 ∷ [])))).1 ≡ Disconnected (0x43 ∷ [])
known_refused_at_once = refl

pub known_another_class : (on_reading waits (Err (Class 0x40))).1 ≡ Refused 2 130
known_another_class = refl

pub known_parameter_that_may_not_stand : (on_reading waits (Err (Parameter 0xC3))).1 ≡ Refused 2 138
known_parameter_that_may_not_stand = refl

abbrev confirmed : Transport
confirmed = (on_reading waits (Ok (connection_confirm 1 1 1 128 (0x44 ∷ [])))).0

pub known_second_confirm : (on_reading confirmed (Ok (connection_confirm 1 1 1 128 []))).1 ≡ Refused 2 133
known_second_confirm = refl

-- a message of two segments, with a credit of one
abbrev sends : Transport
sends = after_hand confirmed (octets 124)

pub known_first_segment : next_tpdu sends ≡ Some (Dt false 0 (octets 123))
unfolding segments_of
known_first_segment = refl

pub known_at_the_edge : next_tpdu (after_next sends) ≡ None
unfolding segments_of
known_at_the_edge = refl

pub known_still_waits : waiting_count (after_next sends) ≡ 1
unfolding segments_of
known_still_waits = refl

abbrev granted : Transport
granted = (on_reading (after_next sends) (Ok (acknowledgement 1 1 1))).0

pub known_second_segment : next_tpdu granted ≡ Some (Dt true 1 (octets 1))
unfolding segments_of
known_second_segment = refl

pub known_none_waits : waiting_count (after_next granted) ≡ 0
unfolding segments_of
known_none_waits = refl

pub known_ahead_of_what_was_given : (on_reading (after_next sends) (Ok (acknowledgement 1 1 2))).1 ≡ Refused 2 133
unfolding segments_of
known_ahead_of_what_was_given = refl

pub known_lowers_the_edge : (on_reading granted (Ok (acknowledgement 0 1 1))).1 ≡ Refused 2 133
unfolding segments_of
known_lowers_the_edge = refl

-- the callee
abbrev called : Transport
called = (on_reading (side_made false (small 128)) (Ok (connection_request 1 0 1 8192 (0x42 ∷ [])))).0

pub known_second_request : (on_reading called (Ok (connection_request 1 0 1 128 []))).1 ≡ Refused 2 133
known_second_request = refl

pub known_confirm : next_tpdu (after_accept called (0x44 ∷ [])) ≡ Some (Cc 1 128 (0x44 ∷ []))
known_confirm = refl

pub known_least_of_three : next_tpdu (after_accept (on_reading (side_made false (small 1024)) (Ok (connection_request 1 0 1 8192 []))).0 (0x44 ∷ []))
    ≡ Some (Cc 1 1024 (0x44 ∷ []))
known_least_of_three = refl

abbrev accepted : Transport
accepted = after_next (after_accept called (0x44 ∷ []))

-- a whole message is acknowledged once it was taken, and only then may the next DT come
abbrev received : Transport
received = (on_reading accepted (Ok (data_tpdu 1 true 0 (0x45 ∷ [])))).0

pub known_gives_the_message : (on_reading accepted (Ok (data_tpdu 1 true 0 (0x45 ∷ [])))).1 ≡ Message (0x45 ∷ [])
known_gives_the_message = refl

pub known_withheld : next_tpdu received ≡ None
known_withheld = refl

pub known_at_the_granted_edge : (on_reading received (Ok (data_tpdu 1 true 1 (0x45 ∷ [])))).1 ≡ Refused 2 133
known_at_the_granted_edge = refl

pub known_acknowledged : next_tpdu (after_taken received) ≡ Some (Ak 1 1)
known_acknowledged = refl

pub known_another_number : (on_reading accepted (Ok (data_tpdu 1 true 1 (0x45 ∷ [])))).1 ≡ Refused 2 133
known_another_number = refl

pub known_too_large : (on_reading accepted (Ok (data_tpdu 1 true 0 (octets 124)))).1 ≡ Refused 2 133
known_too_large = refl

pub known_nothing_more : next_tpdu (on_reading accepted (Ok (disconnect_confirm 1 1))).0 ≡ None
known_nothing_more = refl

-- a callee whose CR grants three DT, and whose own credit is 1: the edge is that of the CR
abbrev granted_three : Transport
granted_three = after_next (after_accept (on_reading (side_made false (small 128)) (Ok (connection_request 3 0 1 128 []))).0 (0x44 ∷ []))

abbrev gave_one : Transport
gave_one = after_next (after_hand (after_hand granted_three (0x41 ∷ [])) (0x42 ∷ []))

pub known_edge_of_the_request : next_tpdu gave_one ≡ Some (Dt true 1 (0x42 ∷ []))
unfolding segments_of
known_edge_of_the_request = refl

-- a CC of another source
pub known_confirm_of_another_source : (on_reading waits (Ok (connection_confirm 1 1 2 128 []))).1 ≡ Refused 2 133
known_confirm_of_another_source = refl

-- no DT and no AK comes before the callee accepts
pub known_data_before_accept : (on_reading called (Ok (data_tpdu 1 true 0 (0x41 ∷ [])))).1 ≡ Refused 2 133
known_data_before_accept = refl

pub known_acknowledgement_before_accept : (on_reading called (Ok (acknowledgement 1 1 0))).1 ≡ Refused 2 133
known_acknowledgement_before_accept = refl

-- of two rules that a DT breaks, its number comes before the length of its message
abbrev long_begun : Transport
long_begun = record accepted { size = 1024; contents = (false, octets 1019) ∷ []; newest = 1 }

pub known_number_before_length : (on_reading long_begun (Ok (data_tpdu 1 true 0 (octets 14)))).1 ≡ Refused 2 133
known_number_before_length = refl

pub known_too_long : (on_reading long_begun (Ok (data_tpdu 1 true 1 (octets 14)))).1 ≡ Refused 3 133
known_too_long = refl

pub known_longest : (on_reading long_begun (Ok (data_tpdu 1 true 1 (octets 13)))).1 ≡ Message (octets 1032)
known_longest = refl

-- the CC goes before an owed AK, and an AK before data
abbrev owes : Transport
owes = after_hand (after_taken (on_reading (after_accept called (0x44 ∷ [])) (Ok (data_tpdu 1 true 0 (0x45 ∷ [])))).0) (0x41 ∷ [])

pub known_confirm_first : next_tpdu owes ≡ Some (Cc 1 128 (0x44 ∷ []))
unfolding segments_of
known_confirm_first = refl

pub known_acknowledgement_next : next_tpdu (after_next owes) ≡ Some (Ak 1 1)
unfolding segments_of
known_acknowledgement_next = refl

pub known_data_last : next_tpdu (after_next (after_next owes)) ≡ Some (Dt true 0 (0x41 ∷ []))
unfolding segments_of
known_data_last = refl

-- an AK grants the credit of the settings whatever waits to be taken
abbrev waits_two : Transport
waits_two =
    (on_reading (on_reading (after_next (after_accept
    (on_reading (side_made false (settings_of 8 7 3 128 1000 5 40000)) (Ok (connection_request 1 0 1 128 []))).0 (0x44 ∷ [])))
    (Ok (data_tpdu 1 true 0 (0x45 ∷ [])))).0 (Ok (data_tpdu 1 true 1 (0x46 ∷ [])))).0

pub known_credit_stays : next_tpdu (after_taken waits_two) ≡ Some (Ak 3 1)
known_credit_stays = refl
