-- Representation: the code keeps ten words of a line at the most, which tell as much as all of them do; no claim rests on it.
use Rattle.std.proofs.Common.{arith, ◌≡◌, ℕ, ◌<◌, List, length, take, Option, Some, None, Err, refl, ap, sym, ◌∙◌, inl, inr}
use Rattle.std.proofs.lemmas.Bool.{cases_lt, ne_eqb}
use Rattle.std.proofs.lemmas.List.{take_all, length-take}
use Rattle.er_base.specs.declared.why.Why.TheVariants.{Word, Count}
use Rattle.er_base.specs.LineFaults.{Table, line_read}

module _ {Line Kind : Type 0} {Value : Kind → Type 0} (table : Table Line Kind Value) where
  -- words of another number than the line has are a fault
  too_many : (name : List ℕ) (words : List (List ℕ)) (line : Line) → table.line_named name ≡ Some line
      → (length words ≡ length (table.kinds_of line) → ⊥) → line_read table name words ≡ Err Count
  too_many name words line named other = rw (named, ne_eqb (length words) (length (table.kinds_of line)) other) refl

  unknown : (name : List ℕ) (words : List (List ℕ)) → table.line_named name ≡ None → line_read table name words ≡ Err Word
  unknown name words none = rw none refl

  kept_as : (few : (line : Line) → length (table.kinds_of line) < 9) (name : List ℕ) (words : List (List ℕ)) (found : Option Line)
      → table.line_named name ≡ found → line_read table name (take 9 words) ≡ line_read table name words
  kept_as few name words None e = unknown name (take 9 words) e ∙ sym (unknown name words e)
  kept_as few name words (Some line) e =
      let fewer = few line in
      let long = length-take 9 words in
      elim (cases_lt (length words) 9) [
        | inl less ↦ ap (line_read table name) (take_all 9 words (omega arith))
        | inr many ↦
            too_many name (take 9 words) line e (omega (arith, fewer, long))
            ∙ sym (too_many name words line e (omega (arith, fewer)))
      ]

  -- a table none of whose lines has more than nine words
  pub nine_tell : ((line : Line) → length (table.kinds_of line) < 9) → (name : List ℕ) (words : List (List ℕ))
      → line_read table name (take 9 words) ≡ line_read table name words
  nine_tell few name words = kept_as few name words (table.line_named name) refl
