-- Known answers, worked out by hand: each line that a relay prints, and the octets that a write took and a read gave.
use Rattle.std.specs.Prelude.{◌≡◌, [], ◌∷◌, ◌++◌, codes, refl}
use Rattle.std.specs.Fmt.{digits}
use Rattle.er_base.specs.declared.side.Side.TheVariants.{E, R}
use Rattle.er_base.specs.LineTexts.{line_text, line_end}
use Rattle.er_base.specs.Hexadecimal.{hex_of}
use Rattle.link_trait.specs.Wires as wires
use Rattle.link_trait.specs.declared.wires.WriteAnswer.TheVariants as write_answer
use Rattle.outside.specs.Acts.{Called, Read, Sent}
use Rattle.relay_loop.specs.RelayLines.{open_line, received_line, given_line, side_end_line, closed_line}
use Rattle.relay_loop.specs.Octets.{read_in_acts, given_in_acts}

known_open : open_line 12 3 ≡ codes "> 12 3 open\n"
unfolding line_text line_end digits
known_open = refl

known_came : received_line 12 3 E (0x7e ∷ 0x01 ∷ []) ≡ codes "> 12 3 e " ++ (hex_of (0x7e ∷ 0x01 ∷ []) ++ codes "\n")
unfolding line_text line_end digits
known_came = refl

known_given : given_line 12 3 R (0x0a ∷ []) ≡ codes "< 12 3 r " ++ (hex_of (0x0a ∷ []) ++ codes "\n")
unfolding line_text line_end digits
known_given = refl

known_end : side_end_line 12 3 R ≡ codes "> 12 3 end r\n"
unfolding line_text line_end digits
known_end = refl

known_closed : closed_line 12 3 ≡ codes "< 12 3 closed\n"
unfolding line_text line_end digits
known_closed = refl

-- of five octets a write to connection 2 took three, and one that found no room none; what went to connection 1 isn't counted
known_written : given_in_acts 2
    (Called (Sent 2 (1 ∷ 2 ∷ 3 ∷ 4 ∷ 5 ∷ []) (write_answer.Some 3)) ∷ Called (Sent 1 (9 ∷ []) (write_answer.Some 1))
    ∷ Called (Sent 2 (4 ∷ 5 ∷ []) write_answer.NotNow) ∷ [])
    ≡ 1 ∷ 2 ∷ 3 ∷ []
known_written = refl

known_read : read_in_acts 1 (Called (Read 1 4096 (wires.Gave (7 ∷ 8 ∷ []))) ∷ Called (Read 2 4096 (wires.Gave (9 ∷ []))) ∷ Called (Read 1 4096 wires.End)
    ∷ []) ≡ 7 ∷ 8 ∷ []
known_read = refl
