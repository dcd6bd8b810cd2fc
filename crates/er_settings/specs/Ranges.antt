-- The ranges and the defaults of the settings of a link. They are this profile's. The modulo is that of the numbers of I frames
-- (ISO/IEC 13239): 8, or 128 in the extended form.
use Rattle.std.specs.Prelude.{◌≡◌, ℕ, ◌==◌, ◌&&◌, ◌||◌, nat_le, Bool, if◌then◌else◌, IsTrue, ◌⊎◌}
use Rattle.er_settings.specs.Values.{Settings}
use Rattle.er_settings.specs.declared.setting_name.SettingName.{SettingName}
use Rattle.er_settings.specs.declared.setting_name.SettingName.TheVariants.{Window, Credit, Size, T1, N2, Setup}

-- a number from `least` to `most`
abbrev pub is_between : ℕ → ℕ → ℕ → Bool
is_between least most n = nat_le least n && nat_le n most

-- the greatest window: at modulo 128 this profile allows more than at modulo 8
abbrev pub greatest_window : ℕ → ℕ
greatest_window modulo = if modulo == 128 then 31 else 7

-- whether the setting may have this value at a modulo; times are in milliseconds
abbrev pub is_allowed : ℕ → SettingName → ℕ → Bool
is_allowed modulo Window n = is_between 1 (greatest_window modulo) n
is_allowed modulo Credit n = is_between 1 15 n
is_allowed modulo Size n = n == 128 || n == 256 || n == 512 || n == 1024
is_allowed modulo T1 n = is_between 100 60000 n
is_allowed modulo N2 n = is_between 1 10 n
is_allowed modulo Setup n = is_between 1000 600000 n

-- the setting may have this value
abbrev pub Allows : ℕ → SettingName → ℕ → Type 0
Allows modulo name n = IsTrue (is_allowed modulo name n)

-- the two modulos
abbrev pub IsModulo : ℕ → Type 0
IsModulo n = (n ≡ 8) ⊎ (n ≡ 128)

-- each of the settings has a value that it may have
pub record AllAllowed (s : Settings) : Type 0 where
  pub modulo : IsModulo s.modulo
  pub window : Allows s.modulo Window s.window
  pub credit : Allows s.modulo Credit s.credit
  pub size : Allows s.modulo Size s.size
  pub t1 : Allows s.modulo T1 s.t1
  pub n2 : Allows s.modulo N2 s.n2
  pub setup : Allows s.modulo Setup s.setup
