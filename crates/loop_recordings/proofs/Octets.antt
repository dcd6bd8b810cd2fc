-- Octets in lists: what is read of octets is made of octets.
use Rattle.std.proofs.Common.{◌<◌, ℕ, zero, suc, inl, inr, Bool, true, false, List, [], ◌∷◌, ◌++◌, length, drop, map, arith}
use Rattle.std.specs.Prelude.{◌==◌, ◌-◌, nat_lt}
use Rattle.std.specs.List.{slice_split, onto_first}
use Rattle.std.proofs.lemmas.Bool.{cases_Bool}
use Rattle.std.proofs.lemmas.Nat.{xor_of_8}
use Rattle.er_base.specs.Octets.{AreOctets}
use Rattle.hdlc_fcs.specs.FrameCheck.{fcs_of}
use Rattle.hdlc_fcs.specs.Contents.{shortest, longest, checked_part, check_number}
use Rattle.hdlc_frames.specs.Framing.{flag, escape, Verdict, Frame, BadFcs, TooShort, TooLong, Aborted, unescaped, ends_in_escape, verdict_on_content, verdict_on}
use Rattle.hdlc_frames.specs.Framing.{cut, all_but_last, between_flags, has_octets, frames_of}
use Rattle.hdlc_station_model.specs.Events.{news}
use Rattle.loop_recordings.proofs.Lists.{Each, each_append, each_take, each_drop, each_filter}

-- ---- one by one

abbrev pub IsOctet : ℕ → Type 0
IsOctet octet = octet < 256

abbrev pub Octets : List ℕ → Type 0
Octets octets = Each IsOctet octets

pub each_of : (octets : List ℕ) → AreOctets octets → Octets octets
each_of [] all = tt
each_of (octet ∷ octets) all = (all 0, each_of octets (λ k. all (suc k)))

pub all_of : (octets : List ℕ) → Octets octets → AreOctets octets
all_of [] each k = omega arith
all_of (octet ∷ octets) each zero = each.0
all_of (octet ∷ octets) each (suc k) = all_of octets each.1 k

-- ---- frames

abbrev pub HasOctets : Verdict → Type 0
HasOctets (Frame address body) = Octets body
HasOctets BadFcs = Unit {0}
HasOctets TooShort = Unit {0}
HasOctets TooLong = Unit {0}
HasOctets Aborted = Unit {0}

unescaped_each : (octets : List ℕ) (after : Bool) → Octets octets → Octets (unescaped octets after)
unfolding unescaped
unescaped_each [] after each = tt
unescaped_each (x ∷ xs) true each = (xor_of_8 x 0x20 each.0 (omega arith), unescaped_each xs false each.1)
unescaped_each (x ∷ xs) false each = elim (cases_Bool (x == escape)) [
  | inl y ↦ rw y (unescaped_each xs true each.1)
  | inr n ↦ rw n (each.0, unescaped_each xs false each.1)
]

content_octets : (content : List ℕ) → Octets content → HasOctets (verdict_on_content content)
unfolding verdict_on_content checked_part
content_octets content each = elim (cases_Bool (nat_lt longest (length content))) [
  | inl y ↦ rw y tt
  | inr n ↦ rw n (elim (cases_Bool (nat_lt (length content) shortest)) [
    | inl y ↦ rw y tt
    | inr m ↦ rw m (elim (cases_Bool (fcs_of (checked_part content) == check_number content)) [
      | inl y ↦ rw y (each_drop IsOctet 1 (checked_part content) (each_take IsOctet (length content - 2) content each))
      | inr k ↦ rw k tt
    ])
  ])
]

piece_octets : (piece : List ℕ) → Octets piece → HasOctets (verdict_on piece)
unfolding verdict_on
piece_octets piece each = elim (cases_Bool (ends_in_escape piece false)) [
  | inl y ↦ rw y tt
  | inr n ↦ rw n (content_octets (unescaped piece false) (unescaped_each piece false each))
]

onto_each : (x : ℕ) (pieces : List (List ℕ)) → x < 256 → Each Octets pieces → Each Octets (onto_first x pieces)
onto_each x [] h each = ((h, tt), tt)
onto_each x (piece ∷ pieces) h each = ((h, each.0), each.1)

split_each : (octets : List ℕ) → Octets octets → Each Octets (slice_split (λ octet. octet == flag) octets)
split_each [] each = (tt, tt)
split_each (x ∷ xs) each = elim (cases_Bool (x == flag)) [
  | inl y ↦ rw y (tt, split_each xs each.1)
  | inr n ↦ rw n (onto_each x (slice_split (λ octet. octet == flag) xs) each.0 (split_each xs each.1))
]

map_each : (pieces : List (List ℕ)) → Each Octets pieces → Each HasOctets (map verdict_on pieces)
map_each [] each = tt
map_each (piece ∷ pieces) each = (piece_octets piece each.0, map_each pieces each.1)

frames_octets : (octets : List ℕ) → Octets octets → Each HasOctets (frames_of octets)
unfolding frames_of between_flags all_but_last cut
frames_octets octets each =
    let pieces : List (List ℕ) = slice_split (λ octet. octet == flag) octets in
    let behind = each_drop Octets 1 pieces (split_each octets each) in
    map_each _ (each_filter Octets has_octets _ (each_take Octets (length (drop 1 pieces) - 1) (drop 1 pieces) behind))

pub news_octets : (before octets : List ℕ) → Octets before → Octets octets → Each HasOctets (news before octets)
news_octets before octets b o =
    each_drop HasOctets (length (frames_of before)) (frames_of (before ++ octets)) (frames_octets (before ++ octets) (each_append IsOctet before octets b o))
