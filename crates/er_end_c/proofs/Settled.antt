-- Settings that were tried one by one.
use Rattle.std.proofs.Common.{◌≡◌, ℕ, Bool, true, false, ◌==◌, ◌||◌, ◌&&◌, refl, subst}
use Rattle.std.specs.Prelude.{Some, None, Result, Ok, Err, MatchResult, IfOk, if◌then◌else◌}
use Rattle.std.specs.Result.{result_ok}
use Rattle.er_settings.specs.Values.{Settings}
use Rattle.er_settings.specs.declared.settings.SettingFault.{SettingFault}
use Rattle.er_settings.specs.declared.setting_name.SettingName.{SettingName}
use Rattle.er_settings.specs.declared.setting_name.SettingName.TheVariants as setting
use Rattle.er_settings.specs.Ranges.{is_allowed, AllAllowed}
use Rattle.er_settings.specs.Making.{IsFirstRefusedSetting, settings_of}
use Rattle.er_end_c.specs.declared.face.CSettings.{CSettings}
use Rattle.er_end_c.specs.declared.handle.CEnd.{CEnd}
use Rattle.er_end_c.specs.Makings.{are_allowed, settings_from, settings_in, fault_of_handle_making}
use Rattle.er_end_c.specs.Handles.{is_handle_open}
use Rattle.er_end_c.specs.Calls.{is_moment_too_late}

not_true : (b : Bool) → (b ≡ true → ⊥) → b ≡ false
not_true true h = absurd (h refl)
not_true false h = refl

-- a value that is refused, of the modulo m
refused : (m : ℕ) (c : CSettings) (name : SettingName) (v : ℕ) → (m == 8 || m == 128) ≡ true
    → IsFirstRefusedSetting m c.window c.credit c.size c.t1 c.n2 c.setup name v
    → ((m == 8 || m == 128) && is_allowed m setting.Window c.window && is_allowed m setting.Credit c.credit && is_allowed m setting.Size c.size
    && is_allowed m setting.T1 c.t1 && is_allowed m setting.N2 c.n2 && is_allowed m setting.Setup c.setup) ≡ false
refused m c setting.Window v e h =
    let f : is_allowed m setting.Window c.window ≡ false = not_true (is_allowed m setting.Window c.window) (subst (λ x. is_allowed m setting.Window x ≡ true → ⊥) h.1 h.0) in
    rw (e, f) refl
refused m c setting.Credit v e h =
    let f : is_allowed m setting.Credit c.credit ≡ false = not_true (is_allowed m setting.Credit c.credit) (subst (λ x. is_allowed m setting.Credit x ≡ true → ⊥) h.2 h.1) in
    rw (e, h.0, f) refl
refused m c setting.Size v e h =
    let f : is_allowed m setting.Size c.size ≡ false = not_true (is_allowed m setting.Size c.size) (subst (λ x. is_allowed m setting.Size x ≡ true → ⊥) h.3 h.2) in
    rw (e, h.0, h.1, f) refl
refused m c setting.T1 v e h =
    let f : is_allowed m setting.T1 c.t1 ≡ false = not_true (is_allowed m setting.T1 c.t1) (subst (λ x. is_allowed m setting.T1 x ≡ true → ⊥) h.4 h.3) in
    rw (e, h.0, h.1, h.2, f) refl
refused m c setting.N2 v e h =
    let f : is_allowed m setting.N2 c.n2 ≡ false = not_true (is_allowed m setting.N2 c.n2) (subst (λ x. is_allowed m setting.N2 x ≡ true → ⊥) h.5 h.4) in
    rw (e, h.0, h.1, h.2, h.3, f) refl
refused m c setting.Setup v e h =
    let f : is_allowed m setting.Setup c.setup ≡ false = not_true (is_allowed m setting.Setup c.setup) (subst (λ x. is_allowed m setting.Setup x ≡ true → ⊥) h.6 h.5) in
    rw (e, h.0, h.1, h.2, h.3, h.4, f) refl

-- what was answered at the modulo m
pub checked : (m : ℕ) (c : CSettings) (r : Result Settings SettingFault) → c.modulo ≡ m → (m == 8 || m == 128) ≡ true
    → MatchResult r (λ made. made ≡ settings_of m c.window c.credit c.size c.t1 c.n2 c.setup) (λ fault. IsFirstRefusedSetting m c.window c.credit c.size c.t1 c.n2 c.setup fault.field fault.value)
    → IfOk r (λ made. AllAllowed made) → result_ok r ≡ settings_in c
checked m c (Ok made) at e is all =
    let s : AllAllowed (settings_of m c.window c.credit c.size c.t1 c.n2 c.setup) = subst (λ (x : Settings). AllAllowed x) is all in
    rw (at, e, s.window, s.credit, s.size, s.t1, s.n2, s.setup, is) refl
checked m c (Err fault) at e is all =
    let f = refused m c fault.field fault.value e is in
    rw (at, f) refl

-- nothing stands against making an end
if_some : {A : Type 0} → (b : Bool) (x t : A) → Some t ≡ (if b then Some x else None) → (b ≡ true) × (t ≡ x)
if_some true x t h = (refl, cc h)
if_some false x t h = absurd (cc h)

pub admits : (end : CEnd) (now : ℕ) (numbers : Bool) (s : CSettings) (t : Settings) → is_handle_open end ≡ false → is_moment_too_late now ≡ false → numbers ≡ true → Some t ≡ settings_in s
    → (fault_of_handle_making end now numbers s ≡ None) × (t ≡ settings_from s)
admits end now numbers s t closed early n h =
    let b = if_some (are_allowed s) (settings_from s) t h in
    (rw (closed, early, n, b.0) refl, b.1)
