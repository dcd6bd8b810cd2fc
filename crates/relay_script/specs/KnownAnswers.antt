-- Known answers, worked out by hand: what scripts say, and the first fault of some.
use Rattle.std.specs.Prelude.{◌≡◌, ℕ, List, [], ◌∷◌, ◌++◌, Result, Ok, Err, refl, codes}
use Rattle.hex.specs.Hex.{decode_pairs}
use Rattle.er_base.specs.declared.side.Side.TheVariants.{E, R}
use Rattle.er_base.specs.declared.why.Why.TheVariants.{Header, Word, Count, Number, Hex, Value}
use Rattle.er_base.specs.declared.text_fault.TextFault.{TextFault}
use Rattle.er_base.specs.declared.text_fault.TextFault.TheVariants.{At}
use Rattle.er_base.specs.Arguments.{number_argument, side_argument, octets_argument, text_argument}
use Rattle.er_base.specs.Hexadecimal.{octets_spelled}
use Rattle.er_base.specs.Lines.{lines_of, rows_of}
use Rattle.er_base.specs.Numbers.{decimal_of}
use Rattle.er_base.specs.Words.{words_of}
use Rattle.relay_script.specs.declared.change.Change.TheVariants.{Lose, Repeat, Alter, Put, Delay, Close}
use Rattle.relay_script.specs.declared.script.Script.{Script}
use Rattle.relay_script.specs.declared.script_line.ScriptLine.{ScriptLine}
use Rattle.relay_script.specs.declared.unit_kind.UnitKind.TheVariants as kind
use Rattle.relay_script.specs.Files.{script_line_says, script_lines_said, is_script_header, script_of}
use Rattle.relay_script.specs.Table.{octet_mask_argument, line_that}

abbrev of_lines : List ScriptLine → Result Script TextFault
of_lines lines = Ok (record { lines = lines })

pub no_line : script_of (codes "# all passes\nrelay 1\n\n") ≡ of_lines []
unfolding script_of lines_of rows_of words_of is_script_header script_lines_said
no_line = refl

pub each_change :
    script_of (codes "relay 1\nlose e sabm 1\nrepeat r any 2\nalter e i 3 4 0F\nput r dt 5 -\ndelay e other 6 70\nclose r er 1000000000")
    ≡ of_lines (line_that E kind.Sabm 1 Lose ∷ line_that R kind.Any 2 Repeat ∷ line_that E kind.Info 3 (Alter 4 15) ∷ line_that R kind.Dt 5 (Put [])
    ∷ line_that E kind.Other 6 (Delay 70) ∷ line_that R kind.Er 1000000000 Close ∷ [])
unfolding script_of lines_of rows_of words_of is_script_header script_lines_said script_line_says decimal_of number_argument side_argument octets_argument
    text_argument octets_spelled decode_pairs octet_mask_argument
each_change = refl

-- a script without a header, and one of another version
pub headless : (script_of (codes "") ≡ Err (At 1 Header)) × (script_of (codes "\nrelay 2\n") ≡ Err (At 2 Header))
unfolding script_of lines_of rows_of words_of is_script_header script_lines_said
headless = (refl, refl)

-- the fault of a script of one line
abbrev HasFault : List ℕ → TextFault → Type 0
HasFault line fault = script_of (codes "relay 1\n" ++ line) ≡ Err fault

pub faults :
    HasFault (codes "loose e sabm 1") (At 2 Word)
    × HasFault (codes "lose e sabm") (At 2 Count)
    × HasFault (codes "lose x x 1") (At 2 Number)
    × HasFault (codes "lose e x 1") (At 2 Value)
    × HasFault (codes "lose e sabm one") (At 2 Number)
    × HasFault (codes "lose e sabm 0") (At 2 Value)
    × HasFault (codes "lose e sabm 1000000001") (At 2 Value)
    × HasFault (codes "alter e sabm 1 0 01") (At 2 Value)
    × HasFault (codes "alter e sabm 1 1 1") (At 2 Hex)
    × HasFault (codes "alter e sabm 1 1 -") (At 2 Value)
    × HasFault (codes "alter e sabm 1 1 00") (At 2 Value)
    × HasFault (codes "alter e sabm 1 1 0101") (At 2 Value)
    × HasFault (codes "put e sabm 1 f") (At 2 Hex)
    × HasFault (codes "delay e sabm 1 1000000001") (At 2 Value)
    × HasFault (codes "lose e x") (At 2 Count)
unfolding script_of lines_of rows_of words_of is_script_header script_lines_said script_line_says decimal_of number_argument side_argument octets_argument
    text_argument octets_spelled decode_pairs octet_mask_argument
faults = (refl, refl, refl, refl, refl, refl, refl, refl, refl, refl, refl, refl, refl, refl, refl)
