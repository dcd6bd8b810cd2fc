-- Octets before the first LF are one piece, and with that LF two.
use Rattle.std.proofs.Common.{arith, ◌≡◌, ◌==◌, ℕ, ◌+◌, ◌<◌, false, List, [], ◌∷◌, length, take, get_or, ap, ◌∙◌}
use Rattle.std.specs.List.{All, slice_split}
use Rattle.std.proofs.lemmas.Bool.{false_from_ne_true}
use Rattle.std.proofs.lemmas.List.{take_more, length-take-le, get_or-take, get_or_default}
use Rattle.std.proofs.lemmas.List.Splits.{slice_split_none, slice_split_at}
use Rattle.memchr.specs.Find.{Nowhere, Passes, is_byte}
use Rattle.application_lines.specs.Streams.{is_feed}

abbrev HasNoFeed : List ℕ → Type 0
HasNoFeed octets = All (λ (octet : ℕ). is_feed octet ≡ false) octets

-- no LF stands before this place
pub none_before : (octets : List ℕ) (place : ℕ) → place < length octets + 1 → Nowhere (Passes (is_byte 10) octets) 0 place → HasNoFeed (take place octets)
none_before octets place inside nowhere k d low =
    let long = length-take-le place octets (omega (arith, inside)) in
    let at = get_or-take place octets k d (omega (arith, low, long)) ∙ get_or_default octets k d 0 (omega (arith, low, long, inside)) in
    ap (λ (x : ℕ). x == 10) at ∙ false_from_ne_true (get_or octets k 0 == 10) (nowhere k (omega arith) (omega (arith, low, long)))

-- the same of all octets
pub none_at_all : (octets : List ℕ) → Nowhere (Passes (is_byte 10) octets) 0 (length octets) → HasNoFeed octets
none_at_all octets nowhere k d low =
    ap (λ (x : ℕ). x == 10) (get_or_default octets k d 0 low) ∙ false_from_ne_true (get_or octets k 0 == 10) (nowhere k (omega arith) low)

pub one_piece : (octets : List ℕ) → HasNoFeed octets → slice_split is_feed octets ≡ octets ∷ []
one_piece octets none = slice_split_none is_feed octets none

pub two_pieces : (octets : List ℕ) (place : ℕ) → place < length octets → HasNoFeed (take place octets) → Passes (is_byte 10) octets place
    → slice_split is_feed (take (place + 1) octets) ≡ take place octets ∷ [] ∷ []
two_pieces octets place inside none passes =
    ap (slice_split is_feed) (take_more octets place 0 inside)
    ∙ slice_split_at is_feed (take place octets) (get_or octets place 0) [] none passes
