-- The text of an audit (this profile): links rising, e before r, items in their order, each one line.
use Rattle.std.specs.Prelude.{ℕ, zero, suc, ◌+◌, List, [], ◌∷◌, ◌++◌, map, codes, Option, Some, None, Ok, Err}
use Rattle.std.specs.Fmt.{decimal}
use Rattle.er_base.specs.declared.side.Side.{Side}
use Rattle.er_base.specs.declared.side.Side.TheVariants.{E, R}
use Rattle.er_base.specs.Hexadecimal.{hex_of}
use Rattle.er_base.specs.LineTexts.{lines_text}
use Rattle.er_base.specs.Sides.{side_word}
use Rattle.er_tap.specs.declared.tap_line.TapLine.{TapLine}
use Rattle.sapdu.specs.Spelling.{SafetyPdu, Au1, Au2, Au3, Ar, Dt, Di}
use Rattle.er_end_model.specs.Steps.{Finds}
use Rattle.tap_model.specs.VerdictWords.{verdict_word}
use Rattle.tap_model.specs.Hearing.{heard, items}
use Rattle.tap_model.specs.Verdicts.{Known, Read, known_of, Judged, judged_from, user_read}
use Rattle.tap_model.specs.Lines.{TapOpening, tap_opening_of_link, stream_of}

-- ---- a line

abbrev pub sapdu_kind_word : SafetyPdu → List ℕ
sapdu_kind_word (Au1 id feature rb) = codes "au1"
sapdu_kind_word (Au2 id feature ra mac) = codes "au2"
sapdu_kind_word (Au3 mac) = codes "au3"
sapdu_kind_word (Ar mac) = codes "ar"
sapdu_kind_word (Dt user mac) = codes "dt"
sapdu_kind_word (Di reason sub) = codes "di"

-- of what can't be read, a dash
abbrev pub kind_word : Read → List ℕ
kind_word (Err fault) = codes "-"
kind_word (Ok read) = sapdu_kind_word read.0

-- the words of an item: link, side, kind, verdict; a dt has its user octets behind, whatever the verdict
abbrev pub item_words : ℕ → Side → Judged → List (List ℕ)
item_words n side j = decimal n ∷ side_word side ∷ kind_word j.read ∷ verdict_word j.verdict ∷ map hex_of (user_read j.read)

unfoldable pub side_text : ℕ → Side → List Judged → List ℕ
side_text n side all = lines_text (map (item_words n side) all)

-- ---- a link

-- what is known of a link that was opened so
abbrev pub known_at : Finds → ℕ → TapOpening → List TapLine → Known
known_at finds n o lines =
    known_of o.engine o.rbc (finds o.moment o.engine o.rbc) (items (heard E (stream_of n E lines))) (items (heard R (stream_of n R lines)))

abbrev pub judged_at : Finds → ℕ → TapOpening → List TapLine → Side → List Judged
judged_at finds n o lines side = judged_from (known_at finds n o lines) side 0 (items (heard side (stream_of n side lines)))

-- e before r
abbrev pub link_text : Finds → List TapLine → ℕ → Option TapOpening → List ℕ
link_text finds lines n None = []
link_text finds lines n (Some o) = side_text n E (judged_at finds n o lines E) ++ side_text n R (judged_at finds n o lines R)

-- ---- all links

-- those from number n on, so many
unfoldable pub links_text : Finds → List TapLine → (n count : ℕ) → List ℕ
links_text finds lines n zero = []
links_text finds lines n (suc count) = link_text finds lines n (tap_opening_of_link n lines) ++ links_text finds lines (n + 1) count

abbrev pub audit_text : Finds → List TapLine → List ℕ
audit_text finds lines = links_text finds lines 1 64
