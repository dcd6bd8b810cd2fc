-- Known answers, worked out by hand: what streams of an application say, how notices are printed, and how an application reads them.
use Rattle.std.specs.Prelude.{◌≡◌, true, false, [], ◌∷◌, ◌++◌, map, Some, refl, codes}
use Rattle.std.specs.Fmt.{digits}
use Rattle.hex.specs.Hex.{decode_pairs, encode_with}
use Rattle.er_base.specs.declared.why.Why.TheVariants.{Word, Count, Number, Hex, Value, Long}
use Rattle.er_base.specs.Arguments.{number_argument, octets_argument, text_argument}
use Rattle.er_base.specs.Hexadecimal.{octets_spelled, hex_of}
use Rattle.er_base.specs.LineTexts.{line_text, line_end, lines_text}
use Rattle.er_base.specs.Lines.{lines_of, rows_of}
use Rattle.er_base.specs.Numbers.{decimal_of}
use Rattle.er_base.specs.Words.{words_of}
use Rattle.application_lines.specs.declared.application_line.ApplicationLine.TheVariants.{Asks, Faulty}
use Rattle.application_lines.specs.declared.request.Request.TheVariants as request
use Rattle.application_lines.specs.Requests.{request_said}
use Rattle.application_lines.specs.Streams.{pieces_tell, stream_says}
use Rattle.application_lines.specs.Standings.{LineStanding, at_first_line, at_last_piece, says_from, line_standing_from}
use Rattle.application_lines.specs.Notices.{EndReleased, Unconnected, OfLength, Overfull, Connected, Message, Refused, Released, Gone, Counts, Keys, KeysFault}
use Rattle.application_lines.specs.Notices.{Fault, notice_words}
use Rattle.application_lines.specs.NoticeReadings.{connected_notice_in, message_notice_in, refusal_in, refused_notice_in, released_notice_in, gone_notice_in}
use Rattle.application_lines.specs.NoticeReadings.{counts_notice_in, keys_notice_in, fault_notice_in, notice_in, notices_in}
use Rattle.application_lines.specs.NoticeLaws.{told_so}

pub each_request :
    stream_says (codes "send 3 0a0B\nrelease 18446744073709551615 255\n drain \nkeys\ncounts\nsend 0 -\n")
    ≡ Asks (request.Send 3 (10 ∷ 11 ∷ [])) ∷ Asks (request.Release 18446744073709551615 255) ∷ Asks request.Drain ∷ Asks request.Keys ∷ Asks request.Counts
    ∷ Asks (request.Send 0 []) ∷ []
unfolding stream_says pieces_tell words_of request_said decimal_of number_argument octets_argument text_argument octets_spelled decode_pairs
each_request = refl

-- a line that isn't ended says nothing yet; a blank line and a comment are out of the grammar
pub faults :
    stream_says (codes "\n# drain\nsend\nsend x 0a\nsend 1 0\nrelease 1 256\ndrain now\nsend 01 0a\nDrain\nrelease 18446744073709551616 0\ndrain")
    ≡ Faulty 1 Word ∷ Faulty 2 Word ∷ Faulty 3 Count ∷ Faulty 4 Number ∷ Faulty 5 Hex ∷ Faulty 6 Value ∷ Faulty 7 Count ∷ Faulty 8 Number
    ∷ Faulty 9 Word ∷ Faulty 10 Number ∷ []
unfolding stream_says pieces_tell words_of request_said decimal_of number_argument octets_argument text_argument octets_spelled decode_pairs
faults = refl

-- a line cut in two, and what goes on behind it
abbrev behind_half : LineStanding
behind_half = line_standing_from at_first_line (codes "keys\ndra")

pub halves :
    (says_from at_first_line (codes "keys\ndra") ≡ Asks request.Keys ∷ [])
    × (behind_half ≡ record { number = 2; held = Some (codes "dra") })
    × (says_from behind_half (codes "in\nx\n") ≡ Asks request.Drain ∷ Faulty 3 Word ∷ [])
unfolding says_from line_standing_from pieces_tell at_last_piece words_of request_said
halves = (refl, refl, refl)

pub each_notice :
    notices_in
    (codes "connected 1 7\nmessage 1 ff00\nrefused 2 - released 1 5\nrefused 2 01 notconnected\nrefused 2 01 length 0\nrefused 2 01 full 16\n"
    ++ codes "released 4 0 9 peer\nreleased 4 1 5 local\ngone 3\ncounts 1 2 3 4\nkeys 5\nkeys twice 1 2\nkeys fetch\nfault 9 long\n")
    ≡ map told_so
    (Connected 1 7 ∷ Message 1 (255 ∷ 0 ∷ []) ∷ Refused 2 [] (EndReleased 1 5) ∷ Refused 2 (1 ∷ []) Unconnected ∷ Refused 2 (1 ∷ []) (OfLength 0)
    ∷ Refused 2 (1 ∷ []) (Overfull 16) ∷ Released 4 (record { reason = 0; sub = 9; by_peer = true })
    ∷ Released 4 (record { reason = 1; sub = 5; by_peer = false }) ∷ Gone 3 ∷ Counts 1 2 3 4 ∷ Keys 5
    ∷ KeysFault (codes "twice" ∷ codes "1" ∷ codes "2" ∷ []) ∷ KeysFault (codes "fetch" ∷ []) ∷ Fault 9 Long ∷ [])
unfolding notices_in notice_in connected_notice_in message_notice_in refusal_in refused_notice_in released_notice_in gone_notice_in counts_notice_in
    keys_notice_in fault_notice_in lines_of rows_of words_of decimal_of number_argument octets_argument text_argument octets_spelled decode_pairs
each_notice = refl

pub printed_notices :
    lines_text
    (map notice_words
    (Connected 1 7 ∷ Message 1 (255 ∷ 0 ∷ []) ∷ Refused 2 [] (EndReleased 1 5) ∷ Refused 2 (1 ∷ []) Unconnected ∷ Refused 2 (1 ∷ []) (OfLength 0)
    ∷ Refused 2 (1 ∷ []) (Overfull 16) ∷ Released 4 (record { reason = 0; sub = 9; by_peer = true })
    ∷ Released 4 (record { reason = 1; sub = 5; by_peer = false }) ∷ Gone 3 ∷ Counts 1 2 3 4 ∷ Keys 5
    ∷ KeysFault (codes "twice" ∷ codes "1" ∷ codes "2" ∷ []) ∷ KeysFault (codes "fetch" ∷ []) ∷ Fault 9 Long ∷ []))
    ≡ codes "connected 1 7\nmessage 1 ff00\nrefused 2 - released 1 5\nrefused 2 01 notconnected\nrefused 2 01 length 0\nrefused 2 01 full 16\n"
    ++ codes "released 4 0 9 peer\nreleased 4 1 5 local\ngone 3\ncounts 1 2 3 4\nkeys 5\nkeys twice 1 2\nkeys fetch\nfault 9 long\n"
unfolding line_text line_end hex_of digits encode_with
printed_notices = refl
