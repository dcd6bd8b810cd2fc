-- The settings of a header: each in its range, or the first one that isn't.
use Rattle.std.proofs.Common.{◌≡◌, ℕ, false, Some, None, refl, inl, inr}
use Rattle.std.proofs.lemmas.Bool.{cases_Bool}
use Rattle.er_settings.specs.declared.setting_name.SettingName.{SettingName}
use Rattle.er_settings.specs.declared.setting_name.SettingName.TheVariants.{Window, Credit, Size, T1, N2, Setup}
use Rattle.er_settings.specs.Ranges.{is_allowed, Allows, AllAllowed}
use Rattle.er_settings.specs.Making.{IsFirstRefusedSetting, settings_of}
use Rattle.er_trace.specs.Headers.{settings_allowed}

pub allowed_some : (w c z t n u : ℕ) → AllAllowed (settings_of 8 w c z t n u) → settings_allowed w c z t n u ≡ Some (settings_of 8 w c z t n u)
unfolding settings_allowed
allowed_some w c z t n u h = rw (h.window, h.credit, h.size, h.t1, h.n2, h.setup) refl

-- what isn't allowed is refused
isnt : (name : SettingName) (v : ℕ) → ¬ Allows 8 name v → is_allowed 8 name v ≡ false
isnt name v refused =
    elim (cases_Bool (is_allowed 8 name v)) [
      | inl t ↦ absurd (refused t)
      | inr f ↦ f
    ]

pub refused_none : (w c z t n u : ℕ) (name : SettingName) (v : ℕ) → IsFirstRefusedSetting 8 w c z t n u name v → settings_allowed w c z t n u ≡ None
unfolding settings_allowed
refused_none w c z t n u Window v h = rw (isnt Window w (rw h.1 at h.0)) refl
refused_none w c z t n u Credit v h = rw (h.0, isnt Credit c (rw h.2 at h.1)) refl
refused_none w c z t n u Size v h = rw (h.0, h.1, isnt Size z (rw h.3 at h.2)) refl
refused_none w c z t n u T1 v h = rw (h.0, h.1, h.2, isnt T1 t (rw h.4 at h.3)) refl
refused_none w c z t n u N2 v h = rw (h.0, h.1, h.2, h.3, isnt N2 n (rw h.5 at h.4)) refl
refused_none w c z t n u Setup v h = rw (h.0, h.1, h.2, h.3, h.4, isnt Setup u (rw h.6 at h.5)) refl
