-- The header of a trace (this profile): `trace 1 WINDOW CREDIT SIZE T1 N2 SETUP`.
use Rattle.std.specs.Prelude.{ℕ, ◌&&◌, if◌then◌else◌, List, [], ◌∷◌, Option, Some, None, codes}
use Rattle.std.specs.Str.{bytes_eq}
use Rattle.er_base.specs.Numbers.{decimal_of}
use Rattle.er_settings.specs.Values.{Settings}
use Rattle.er_settings.specs.declared.setting_name.SettingName.TheVariants.{Window, Credit, Size, T1, N2, Setup}
use Rattle.er_settings.specs.Ranges.{is_allowed}
use Rattle.er_settings.specs.Making.{settings_of}

-- the settings of modulo 8 with these values, where each is in its range
unfoldable pub settings_allowed : (window credit size t1 n2 setup : ℕ) → Option Settings
settings_allowed window credit size t1 n2 setup =
    if is_allowed 8 Window window && is_allowed 8 Credit credit && is_allowed 8 Size size && is_allowed 8 T1 t1 && is_allowed 8 N2 n2 && is_allowed 8 Setup
    setup
    then Some (settings_of 8 window credit size t1 n2 setup)
    else None

-- one decimal word behind another
infixl 10 ◌>>=◌
abbrev pub ◌>>=◌ : {A B : Type 0} → Option A → (A → Option B) → Option B
None >>= f = None
Some x >>= f = f x

-- the settings of six decimal words, in the order of the names
unfoldable pub settings_of_six : (window credit size t1 n2 setup : List ℕ) → Option Settings
settings_of_six window credit size t1 n2 setup = do
  window ← decimal_of window
  credit ← decimal_of credit
  size ← decimal_of size
  t1 ← decimal_of t1
  n2 ← decimal_of n2
  setup ← decimal_of setup
  settings_allowed window credit size t1 n2 setup

-- there are six words
unfoldable pub settings_spelled : List (List ℕ) → Option Settings
settings_spelled (window ∷ credit ∷ size ∷ t1 ∷ n2 ∷ setup ∷ []) = settings_of_six window credit size t1 n2 setup
settings_spelled words = None

-- the settings of a header's words
unfoldable pub header_settings : List (List ℕ) → Option Settings
header_settings [] = None
header_settings (trace ∷ []) = None
header_settings (trace ∷ version ∷ values) =
    if bytes_eq trace (codes "trace") && bytes_eq version (codes "1") then settings_spelled values else None
