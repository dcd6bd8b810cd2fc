-- What a deframer finds has room in a place: longer content is too long.
use Rattle.std.proofs.Common.{◌≡◌, ℕ, ◌-◌, ◌≤◌, false, List, [], ◌∷◌, ◌++◌, length, take, Option, Some, sym, ap, ◌∙◌, subst, arith}
use Rattle.std.specs.Prelude.{◌==◌, nat_lt, if◌then◌else◌, map, filter, slice_get}
use Rattle.std.specs.Option.{option_map}
use Rattle.std.proofs.lemmas.Bool.{cond_both, ltb-false}
use Rattle.std.proofs.lemmas.List.{length-drop, length-take}
use Rattle.std.proofs.lemmas.Option.{same_Some}
use Rattle.hdlc_fcs.specs.FrameCheck.{fcs_of}
use Rattle.hdlc_fcs.specs.Contents.{shortest, address_in_content, checked_part, body_of}
use Rattle.hdlc_frames.specs.Framing.{Verdict, Frame, TooLong, TooShort, BadFcs, Aborted, longest, check_number, ends_in_escape, unescaped, verdict_on_content, verdict_on, has_octets, between_flags, frames_of}
use Rattle.hdlc_frames.specs.Deframing.{KeptDeframer, feeding_of, stream_behind_kept}
use Rattle.hdlc_frames.specs.declared.found.Found.{Found}
use Rattle.hdlc_frames.specs.Shown.{verdict_of_octets_found}
use Rattle.hdlc_station.specs.Held.{FitsPlace}

body_short : (content : List ℕ) → length content ≤ 1032 → length (body_of content) ≤ 1032
unfolding checked_part
body_short content short =
    omega (arith, short, length-drop 1 (take (length content - 2) content), length-take (length content - 2) content)

content_fits : (content : List ℕ) → FitsPlace (verdict_on_content content)
unfolding verdict_on_content
content_fits content =
    cond_both (nat_lt longest (length content)) TooLong
    (if nat_lt (length content) shortest then TooShort else
    (if fcs_of (checked_part content) == check_number content then Frame (address_in_content content) (body_of content) else BadFcs)) FitsPlace
    (λ long. tt)
    (λ short. cond_both (nat_lt (length content) shortest) TooShort
    (if fcs_of (checked_part content) == check_number content then Frame (address_in_content content) (body_of content) else BadFcs) FitsPlace
    (λ few. tt)
    (λ enough. cond_both (fcs_of (checked_part content) == check_number content) (Frame (address_in_content content) (body_of content)) BadFcs FitsPlace
    (λ intact. body_short content (ltb-false longest (length content) short)) (λ bad. tt)))

verdict_fits : (piece : List ℕ) → FitsPlace (verdict_on piece)
unfolding verdict_on
verdict_fits piece =
    cond_both (ends_in_escape piece false) Aborted (verdict_on_content (unescaped piece false)) FitsPlace (λ aborted. tt) (λ whole. content_fits (unescaped piece false))

first_fits : (pieces : List (List ℕ)) (v : Verdict) → slice_get (map verdict_on pieces) 0 ≡ Some v → FitsPlace v
first_fits [] v is = absurd cc
first_fits (piece ∷ pieces) v is = subst FitsPlace (same_Some (verdict_on piece) v is) (verdict_fits piece)

stream_fits : (stream : List ℕ) (v : Verdict) → slice_get (frames_of stream) 0 ≡ Some v → FitsPlace v
unfolding frames_of
stream_fits stream v is = first_fits (filter has_octets (between_flags stream)) v is

-- what feeding a piece gives
pub found_fits : (k : KeptDeframer) (piece : List ℕ) (found : Option Found) (f : Found) → option_map verdict_of_octets_found found ≡ (feeding_of k piece).verdict → found ≡ Some f → FitsPlace (verdict_of_octets_found f)
unfolding feeding_of
found_fits k piece found f is some = stream_fits (stream_behind_kept k ++ piece) (verdict_of_octets_found f) (sym is ∙ ap (option_map verdict_of_octets_found) some)
