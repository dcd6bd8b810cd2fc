-- Words that are written out stand by themselves in a line.
use Rattle.std.proofs.Common.{◌≡◌, nat_lt, inl, inr, true, false, List, [], ◌∷◌, ℕ, length}
use Rattle.std.specs.List.{list_all}
use Rattle.std.proofs.lemmas.Bool.{cases_Bool, ltb-true}
use Rattle.er_base.specs.LineTexts.{AreSolid, IsSolid}

solid_from : (word : List ℕ) → list_all (λ x. nat_lt 35 x) word ≡ true → AreSolid word
solid_from [] h = tt
solid_from (x ∷ word) h =
    elim (cases_Bool (nat_lt 35 x)) [
      | inl t ↦ (ltb-true 35 x t, solid_from word (rw t at h))
      | inr f ↦ let e : false ≡ true = rw f at h in absurd (cc)
    ]

pub solid_codes : (word : List ℕ) → nat_lt 0 (length word) ≡ true → list_all (λ x. nat_lt 35 x) word ≡ true → IsSolid word
solid_codes word some all = record { some = ltb-true 0 (length word) some; octets = solid_from word all }
