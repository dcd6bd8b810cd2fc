-- The text of an audit that tells the ends of streams too (this profile): behind the items of each link and side, one line.
use Rattle.std.specs.Prelude.{ℕ, zero, suc, ◌+◌, min, Bool, true, false, List, [], ◌∷◌, ◌++◌, length, codes, Option, Some, None}
use Rattle.std.specs.Fmt.{decimal}
use Rattle.er_base.specs.declared.side.Side.{Side}
use Rattle.er_base.specs.declared.side.Side.TheVariants.{E, R}
use Rattle.er_base.specs.LineTexts.{line_text}
use Rattle.er_base.specs.Sides.{side_word}
use Rattle.hdlc_frames.specs.Framing.{frames_of}
use Rattle.er_tap.specs.declared.tap_line.TapLine.{TapLine}
use Rattle.er_end_model.specs.Steps.{Finds}
use Rattle.tap_model.specs.EndWords.{end_word}
use Rattle.tap_model.specs.Ends.{frames_among, StreamEnd, stream_end}
use Rattle.tap_model.specs.Hearing.{heard, items}
use Rattle.tap_model.specs.Lines.{TapOpening, tap_opening_of_link, stream_of}
use Rattle.tap_model.specs.Texts.{side_text, judged_at, audit_text}

-- a count stays at 2^64 - 1
abbrev pub count_word : ℕ → List ℕ
count_word n = decimal (min n 18446744073709551615)

-- link, side, `end`; frames, I frames that counted, items, frames that are left; and why
abbrev pub end_words : ℕ → Side → (frames items : ℕ) → StreamEnd → List (List ℕ)
end_words n side frames items e =
    decimal n ∷ side_word side ∷ codes "end" ∷ count_word frames ∷ count_word e.heard ∷ count_word items ∷ count_word e.left ∷ end_word e.why ∷ []

-- of a stream
abbrev pub words_of_stream : ℕ → Side → (stream : List ℕ) → List (List ℕ)
words_of_stream n side stream =
    end_words n side (frames_among (frames_of stream)) (length (items (heard side stream))) (stream_end side (frames_of stream))

-- where ends are asked for
abbrev pub end_text : (ends : Bool) → List TapLine → ℕ → Side → List ℕ
end_text false lines n side = []
end_text true lines n side = line_text (words_of_stream n side (stream_of n side lines))

-- e before r, and of each its items before its end
abbrev pub link_text_asked : (ends : Bool) → Finds → List TapLine → ℕ → Option TapOpening → List ℕ
link_text_asked ends finds lines n None = []
link_text_asked ends finds lines n (Some o) =
    (side_text n E (judged_at finds n o lines E) ++ end_text ends lines n E)
    ++ (side_text n R (judged_at finds n o lines R) ++ end_text ends lines n R)

-- those from number n on, so many
unfoldable pub links_text_asked : (ends : Bool) → Finds → List TapLine → (n count : ℕ) → List ℕ
links_text_asked ends finds lines n zero = []
links_text_asked ends finds lines n (suc count) =
    link_text_asked ends finds lines n (tap_opening_of_link n lines) ++ links_text_asked ends finds lines (n + 1) count

-- what an audit prints: the items alone, or their ends too
abbrev pub text_of_audit : (ends : Bool) → Finds → List TapLine → List ℕ
text_of_audit false finds lines = audit_text finds lines
text_of_audit true finds lines = links_text_asked true finds lines 1 64

-- ---- the ends alone

-- of a link that was opened, e before r
abbrev pub ends_of_link : List TapLine → ℕ → Option TapOpening → List ℕ
ends_of_link lines n None = []
ends_of_link lines n (Some o) = end_text true lines n E ++ end_text true lines n R

-- of those from number n on, so many
unfoldable pub ends_of_links : List TapLine → (n count : ℕ) → List ℕ
ends_of_links lines n zero = []
ends_of_links lines n (suc count) = ends_of_link lines n (tap_opening_of_link n lines) ++ ends_of_links lines (n + 1) count

-- the ends of all links, numbers rising
abbrev pub ends_of_all : List TapLine → List ℕ
ends_of_all lines = ends_of_links lines 1 64
