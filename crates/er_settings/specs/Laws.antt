-- What the ranges of the settings imply, as bounds.
use Rattle.std.specs.Prelude.{◌≡◌, ◌≤◌, ◌<◌, ◌⊎◌, Some}
use Rattle.er_settings.specs.Values.{Settings}
use Rattle.er_settings.specs.declared.setting_name.SettingName.{SettingName}
use Rattle.er_settings.specs.Ranges.{AllAllowed, greatest_window}
use Rattle.er_settings.specs.Names.{setting_word, setting_named}

-- the bounds of settings that are in their ranges
pub record AreBounded (s : Settings) : Type 0 where
  pub window : (1 ≤ s.window) × (s.window ≤ greatest_window s.modulo)
  pub window_below_modulo : s.window < s.modulo
  pub credit : (1 ≤ s.credit) × (s.credit ≤ 15)
  pub size : (s.size ≡ 128) ⊎ (s.size ≡ 256) ⊎ (s.size ≡ 512) ⊎ (s.size ≡ 1024)
  pub t1 : (100 ≤ s.t1) × (s.t1 ≤ 60000)
  pub n2 : (1 ≤ s.n2) × (s.n2 ≤ 10)
  pub setup : (1000 ≤ s.setup) × (s.setup ≤ 600000)

abbrev pub AllowedAreBounded : Type 0
AllowedAreBounded = (s : Settings) → AllAllowed s → AreBounded s

-- the word of a setting names it
abbrev pub WordsAreNamed : Type 0
WordsAreNamed = (name : SettingName) → setting_named (setting_word name) ≡ Some name
