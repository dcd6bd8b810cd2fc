-- The credit and the size that settings may have.
use Rattle.std.proofs.Common.{ℕ, ◌≤◌, eqb, ◌||◌, inl, inr, arith}
use Rattle.std.proofs.lemmas.Bool.{leb-true, eqb-true, and_parts, or_cases}
use Rattle.er_settings.specs.Ranges.{Allows}
use Rattle.er_settings.specs.declared.setting_name.SettingName.TheVariants.{Credit, Size}
use Rattle.x224_tpdu.specs.Spellings.{IsSize}

pub credit_most : (modulo n : ℕ) → Allows modulo Credit n → n ≤ 15
credit_most modulo n h = leb-true _ _ (and_parts _ _ h).1

pub size_named : (modulo n : ℕ) → Allows modulo Size n → IsSize n
size_named modulo n h =
    elim (or_cases (eqb n 128 || eqb n 256 || eqb n 512) (eqb n 1024) h) [
      | inl three ↦
          elim (or_cases (eqb n 128 || eqb n 256) (eqb n 512) three) [
            | inl two ↦
                elim (or_cases (eqb n 128) (eqb n 256) two) [
                  | inl e ↦ inl (eqb-true _ _ e)
                  | inr e ↦ inr (inl (eqb-true _ _ e))
                ]
            | inr e ↦ inr (inr (inl (eqb-true _ _ e)))
          ]
      | inr e ↦ inr (inr (inr (inl (eqb-true _ _ e))))
    ]

pub size_most : (modulo n : ℕ) → Allows modulo Size n → n ≤ 1024
size_most modulo n h =
    elim (or_cases (eqb n 128 || eqb n 256 || eqb n 512) (eqb n 1024) h) [
      | inl three ↦
          elim (or_cases (eqb n 128 || eqb n 256) (eqb n 512) three) [
            | inl two ↦
                elim (or_cases (eqb n 128) (eqb n 256) two) [
                  | inl e ↦ omega (arith, eqb-true n 128 e)
                  | inr e ↦ omega (arith, eqb-true n 256 e)
                ]
            | inr e ↦ omega (arith, eqb-true n 512 e)
          ]
      | inr e ↦ omega (arith, eqb-true n 1024 e)
    ]
