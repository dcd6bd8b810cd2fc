-- The names of the settings in this profile's texts.
use Rattle.std.specs.Prelude.{ℕ, List, [], ◌∷◌, Option, codes}
use Rattle.std.specs.List.{find}
use Rattle.std.specs.Str.{bytes_eq}
use Rattle.er_settings.specs.declared.setting_name.SettingName.{SettingName}
use Rattle.er_settings.specs.declared.setting_name.SettingName.TheVariants.{Window, Credit, Size, T1, N2, Setup}

-- the word of a setting
abbrev pub setting_word : SettingName → List ℕ
setting_word Window = codes "window"
setting_word Credit = codes "credit"
setting_word Size = codes "size"
setting_word T1 = codes "t1"
setting_word N2 = codes "n2"
setting_word Setup = codes "setup"

-- all settings, in the order in which texts name them
abbrev pub all_settings : List SettingName
all_settings = Window ∷ Credit ∷ Size ∷ T1 ∷ N2 ∷ Setup ∷ []

-- the setting that a word names, where it names one
abbrev pub setting_named : List ℕ → Option SettingName
setting_named word = find (λ name. bytes_eq word (setting_word name)) all_settings
