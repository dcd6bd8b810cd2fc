-- The place of the first LF is the length of the first line.
use Rattle.std.proofs.Common.{◌≡◌, ℕ, ◌==◌, not, inl, inr, Bool, true, false, List, length, slice_index, Some, None, refl, arith}
use Rattle.std.specs.List.{prefix_len}
use Rattle.std.proofs.lemmas.Bool.{cases_lt}
use Rattle.std.proofs.lemmas.List.Sums.{prefix_len-le-length, prefix_len_passes, prefix_len_stops}
use Rattle.memchr.specs.Find.{IsFirstByte, is_byte}
use Rattle.er_base.specs.Lines.{is_of_line}

no_other : (b : Bool) → not b ≡ true → b ≡ true → ⊥
no_other true e h = cc
no_other false e h = cc

is_feed : (b : Bool) → not b ≡ false → b ≡ true
is_feed true e = refl
is_feed false e = absurd (cc)

pub found : (text : List ℕ) (k : ℕ) → IsFirstByte (is_byte 10) text (Some k) → k ≡ prefix_len is_of_line text
found text k h =
    elim (cases_lt k (prefix_len is_of_line text)) [
      | inl early ↦ absurd (no_other (slice_index text k == 10) (prefix_len_passes is_of_line text k 0 early) h.1)
      | inr late ↦
          elim (cases_lt (prefix_len is_of_line text) k) [
            | inl before ↦
                let high = h.0.high in
                absurd (h.0.before (prefix_len is_of_line text) (omega arith) before
                (is_feed (slice_index text (prefix_len is_of_line text) == 10) (prefix_len_stops is_of_line text 0 (omega (arith, high)))))
            | inr behind ↦ omega arith
          ]
    ]

pub none : (text : List ℕ) → IsFirstByte (is_byte 10) text None → length text ≡ prefix_len is_of_line text
none text h =
    let most = prefix_len-le-length is_of_line text in
    elim (cases_lt (prefix_len is_of_line text) (length text)) [
      | inl before ↦
          absurd (h (prefix_len is_of_line text) (omega arith) before
          (is_feed (slice_index text (prefix_len is_of_line text) == 10) (prefix_len_stops is_of_line text 0 before)))
      | inr behind ↦ omega (arith, most)
    ]
