-- Settings that are made of values: which of them is refused first, and the usual ones (this profile).
use Rattle.std.specs.Prelude.{◌≡◌, ℕ}
use Rattle.er_settings.specs.Values.{Settings}
use Rattle.er_settings.specs.declared.setting_name.SettingName.{SettingName}
use Rattle.er_settings.specs.declared.setting_name.SettingName.TheVariants.{Window, Credit, Size, T1, N2, Setup}
use Rattle.er_settings.specs.Ranges.{Allows}

-- the settings with these values
abbrev pub settings_of : (modulo window credit size t1 n2 setup : ℕ) → Settings
settings_of modulo window credit size t1 n2 setup =
    record { window = window; credit = credit; size = size; t1 = t1; n2 = n2; setup = setup; modulo = modulo }

-- the defaults
abbrev pub usual_settings : Settings
usual_settings = settings_of 8 7 15 128 1000 5 40000

-- of the six values, in their order, this is the first one that its setting may not have at this modulo
abbrev pub IsFirstRefusedSetting : (modulo window credit size t1 n2 setup : ℕ) → SettingName → ℕ → Type 0
IsFirstRefusedSetting modulo window credit size t1 n2 setup Window v = (¬ Allows modulo Window v) × (v ≡ window)
IsFirstRefusedSetting modulo window credit size t1 n2 setup Credit v =
    Allows modulo Window window × (¬ Allows modulo Credit v) × (v ≡ credit)
IsFirstRefusedSetting modulo window credit size t1 n2 setup Size v =
    Allows modulo Window window × Allows modulo Credit credit × (¬ Allows modulo Size v) × (v ≡ size)
IsFirstRefusedSetting modulo window credit size t1 n2 setup T1 v =
    Allows modulo Window window × Allows modulo Credit credit × Allows modulo Size size × (¬ Allows modulo T1 v) × (v ≡ t1)
IsFirstRefusedSetting modulo window credit size t1 n2 setup N2 v =
    Allows modulo Window window × Allows modulo Credit credit × Allows modulo Size size × Allows modulo T1 t1
    × (¬ Allows modulo N2 v) × (v ≡ n2)
IsFirstRefusedSetting modulo window credit size t1 n2 setup Setup v =
    Allows modulo Window window × Allows modulo Credit credit × Allows modulo Size size × Allows modulo T1 t1
    × Allows modulo N2 n2 × (¬ Allows modulo Setup v) × (v ≡ setup)
