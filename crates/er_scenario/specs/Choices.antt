-- The lines `set NAME VALUE` of a drill file (this profile): what may be chosen where some was chosen before, and what holds then.
use Rattle.std.specs.Prelude.{ℕ, ◌*◌, ◌==◌, ◌&&◌, ◌||◌, nat_le, Bool, true, false, if◌then◌else◌, IsTrue, List, Option, Some, Result, Ok, Err, codes}
use Rattle.std.specs.Option.{option_map}
use Rattle.std.specs.Str.{bytes_eq}
use Rattle.er_base.specs.declared.why.Why.{Why}
use Rattle.er_base.specs.declared.why.Why.TheVariants.{Number, Value}
use Rattle.er_base.specs.Arguments.{◌>>=◌, some_or}
use Rattle.er_base.specs.Numbers.{decimal_of}
use Rattle.er_settings.specs.Values.{Settings}
use Rattle.er_settings.specs.declared.setting_name.SettingName.{SettingName}
use Rattle.er_settings.specs.declared.setting_name.SettingName.TheVariants.{Window, Credit, Size, T1, N2, Setup}
use Rattle.er_settings.specs.Names.{setting_named}
use Rattle.er_settings.specs.Ranges.{is_allowed}
use Rattle.er_settings.specs.Making.{usual_settings}
use Rattle.er_scenario.specs.declared.level.Level.{Level}
use Rattle.er_scenario.specs.declared.level.Level.TheVariants as level
use Rattle.er_scenario.specs.declared.choices.Choices.{Choices}
use Rattle.er_scenario.specs.declared.choices.ChoiceName.{ChoiceName}
use Rattle.er_scenario.specs.declared.choices.ChoiceName.TheVariants.{Modulo, Setting, Show}

-- what NAME names, where it names anything
abbrev pub choice_named : List ℕ → Option ChoiceName
choice_named word =
    if bytes_eq word (codes "modulo") then Some Modulo
    else if bytes_eq word (codes "show") then Some Show
    else option_map Setting (setting_named word)

-- the values that NAME may have where these settings were chosen before: modulo 8 where the window is at most 7, the window by
-- the modulo, and the others by their ranges
abbrev pub may_choose : Settings → ChoiceName → ℕ → Bool
may_choose settings Modulo n = (n == 8 && nat_le settings.window 7) || n == 128
may_choose settings (Setting name) n = is_allowed settings.modulo name n
may_choose settings Show n = n == 0 || n == 1

-- whether a window is narrow enough for a level: with selective reject it is at most half of the modulo, so that an old frame that comes
-- again is never taken for a new one (ISO/IEC 13239)
abbrev pub is_narrow : Level → (modulo window : ℕ) → Bool
is_narrow level.Safe modulo window = true
is_narrow level.Link modulo window = true
is_narrow level.Full modulo window = true
is_narrow level.LinkSr modulo window = nat_le (2 * window) modulo

abbrev pub IsNarrow : Level → Settings → Type 0
IsNarrow level settings = IsTrue (is_narrow level settings.modulo settings.window)

-- settings with one value changed
abbrev pub with_setting : Settings → SettingName → ℕ → Settings
with_setting settings Window n = record settings { window = n }
with_setting settings Credit n = record settings { credit = n }
with_setting settings Size n = record settings { size = n }
with_setting settings T1 n = record settings { t1 = n }
with_setting settings N2 n = record settings { n2 = n }
with_setting settings Setup n = record settings { setup = n }

-- the newest line of a name counts
abbrev pub with_choice : Choices → ChoiceName → ℕ → Choices
with_choice choices Modulo n = record choices { settings = record choices.settings { modulo = n } }
with_choice choices (Setting name) n = record choices { settings = with_setting choices.settings name n }
with_choice choices Show n = record choices { show = n == 1 }

-- NAME and VALUE: an unknown NAME is a fault before VALUE is looked at. With what is chosen the window must be narrow enough for the level
unfoldable pub chosen_by : Level → Choices → List ℕ → List ℕ → Result Choices Why
chosen_by level choices word value = do
  name ← some_or Value (choice_named word)
  n ← some_or Number (decimal_of value)
  let new = with_choice choices name n in
      if may_choose choices.settings name n && is_narrow level new.settings.modulo new.settings.window then Ok new else Err Value

-- the window where no line chooses one: with selective reject half of the usual modulo
abbrev pub default_window : Level → ℕ
default_window level.Safe = usual_settings.window
default_window level.Link = usual_settings.window
default_window level.Full = usual_settings.window
default_window level.LinkSr = 4

-- what holds where no line chooses
abbrev pub default_settings : Level → Settings
default_settings level = record usual_settings { window = default_window level }

abbrev pub default_choices : Level → Choices
default_choices level = record { settings = default_settings level; show = false }
