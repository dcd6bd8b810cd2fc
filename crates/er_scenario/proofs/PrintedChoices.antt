-- The `set` lines that are printed are read as the same choices.
use Rattle.std.proofs.Common.{arith, ◌≡◌, ℕ, ◌<◌, ◌+◌, ◌^◌, ◌==◌, if◌then◌else◌, ◌⊎◌, inl, inr, Bool, true, false, List, [], ◌∷◌, ◌++◌, Some, Ok, refl, ap, sym, ◌∙◌, append_assoc, codes}
use Rattle.std.specs.Fmt.{decimal}
use Rattle.std.proofs.lemmas.Bool.{cases_Bool, eqb-true}
use Rattle.std.proofs.lemmas.Fmt.{decimal_digit}
use Rattle.er_base.specs.LineTexts.{IsSolid, AreLines, rows_from}
use Rattle.er_base.specs.Numbers.{decimal_of}
use Rattle.er_settings.specs.declared.setting_name.SettingName.TheVariants.{Window, Credit, Size, T1, N2, Setup}
use Rattle.er_settings.specs.Values.{Settings}
use Rattle.er_settings.specs.Laws.{AreBounded}
use Rattle.er_settings.specs.Names.{setting_word}
use Rattle.er_settings.specs.Ranges.{IsModulo, AllAllowed}
use Rattle.er_scenario.specs.declared.choices.ChoiceName.{ChoiceName}
use Rattle.er_scenario.specs.declared.choices.ChoiceName.TheVariants.{Modulo, Setting, Show}
use Rattle.er_scenario.specs.declared.choices.Choices.{Choices}
use Rattle.er_scenario.specs.declared.level.Level.{Level}
use Rattle.er_scenario.specs.declared.level.Level.TheVariants as level
use Rattle.er_scenario.specs.declared.said.Said.TheVariants.{Chooses}
use Rattle.er_scenario.specs.Choices.{choice_named, may_choose, is_narrow, IsNarrow, with_choice, chosen_by, default_window, default_choices}
use Rattle.er_scenario.specs.Files.{line_says, scenario_body_of}
use Rattle.er_scenario.specs.Texts.{set_lines, show_lines, choice_lines}
use Rattle.er_scenario.proofs.PrintedArguments.{Laws}
use Rattle.er_scenario.proofs.PrintedSteps.{solid_codes}

-- a number that is written is read
written : (laws : Laws) (n : ℕ) → n < 2 ^ 64 → decimal_of (decimal n) ≡ Some n
written laws n h = (laws.decimals (decimal n) n).1 (h, refl)

-- a value that may be chosen is chosen
chosen : (laws : Laws) (level : Level) (choices : Choices) (word : List ℕ) (name : ChoiceName) (n : ℕ) → choice_named word ≡ Some name
    → may_choose choices.settings name n ≡ true → IsNarrow level (with_choice choices name n).settings → n < 2 ^ 64
    → chosen_by level choices word (decimal n) ≡ Ok (with_choice choices name n)
unfolding chosen_by
chosen laws level choices word name n named may narrow small = rw (named, written laws n small, may, narrow) refl

one_written : decimal 1 ≡ codes "1"
one_written = decimal_digit 1 (omega arith)

show_chosen : (laws : Laws) (level : Level) (choices : Choices) → IsNarrow level choices.settings
    → chosen_by level choices (codes "show") (codes "1") ≡ Ok (record choices { show = true })
show_chosen laws level choices narrow =
    ap (chosen_by level choices (codes "show")) (sym one_written) ∙ chosen laws level choices (codes "show") Show 1 refl refl narrow (omega arith)

said_set : (level : Level) (choices new : Choices) (word value : List ℕ) → chosen_by level choices word value ≡ Ok new
    → line_says level false choices (codes "set" ∷ word ∷ value ∷ []) ≡ Ok (Chooses new)
unfolding line_says
said_set level choices new word value e = rw e refl

-- how many lines stand before what follows a `set` line that may be left out
abbrev pub behind_set : ℕ → ℕ → ℕ → ℕ
behind_set before default value = if value == default then before else before + 1

pub set_read : (level : Level) (choices new : Choices) (before : ℕ) (word : List ℕ) (default value : ℕ) (more : List (List (List ℕ)))
    → chosen_by level choices word (decimal value) ≡ Ok new → (value ≡ default → new ≡ choices)
    → scenario_body_of level false choices (rows_from before (set_lines word default value ++ more))
    ≡ scenario_body_of level false new (rows_from (behind_set before default value) more)
unfolding scenario_body_of
set_read level choices new before word default value more chosen same =
    elim (cases_Bool (value == default)) [
      | inl t ↦ rw t (ap (λ (c : Choices). scenario_body_of level false c (rows_from before more)) (sym (same (eqb-true _ _ t))))
      | inr f ↦ rw (f, said_set level choices new word (decimal value) chosen) refl
    ]

-- how many stand before what follows the line that shows frames
abbrev pub behind_show : ℕ → Bool → ℕ
behind_show before show = if show then before + 1 else before

pub show_read : (laws : Laws) (level : Level) (settings : Settings) (before : ℕ) (show : Bool) (more : List (List (List ℕ))) → IsNarrow level settings
    → scenario_body_of level false (record { settings = settings; show = false }) (rows_from before (show_lines show ++ more))
    ≡ scenario_body_of level false (record { settings = settings; show = show }) (rows_from (behind_show before show) more)
unfolding scenario_body_of
show_read laws level settings before true more narrow =
    rw (said_set level (record { settings = settings; show = false }) (record { settings = settings; show = true }) (codes "show") (codes "1") (show_chosen laws level (record { settings = settings; show = false }) narrow)) refl
show_read laws level settings before false more narrow = refl

-- settings as they are chosen, in the order of their names
abbrev made : (modulo window credit size t1 n2 setup : ℕ) → Choices
made modulo window credit size t1 n2 setup =
    record {
      settings = record { window = window; credit = credit; size = size; t1 = t1; n2 = n2; setup = setup; modulo = modulo };
      show = false;
    }

-- how many lines stand before the steps
abbrev pub before_steps : Level → Settings → Bool → ℕ
before_steps level s show =
    behind_show
    (behind_set (behind_set (behind_set (behind_set (behind_set (behind_set (behind_set 1 8 s.modulo) (default_window level) s.window) 15 s.credit) 128 s.size) 1000 s.t1) 5 s.n2) 40000 s.setup)
    show

modulo_may : (level : Level) (n : ℕ) → IsModulo n → may_choose (default_choices level).settings Modulo n ≡ true
modulo_may level.Safe n (inl e) = rw e refl
modulo_may level.Link n (inl e) = rw e refl
modulo_may level.Full n (inl e) = rw e refl
modulo_may level.LinkSr n (inl e) = rw e refl
modulo_may level.Safe n (inr e) = rw e refl
modulo_may level.Link n (inr e) = rw e refl
modulo_may level.Full n (inr e) = rw e refl
modulo_may level.LinkSr n (inr e) = rw e refl

-- the default window is narrow enough at both modulos
default_is_narrow : (level : Level) (n : ℕ) → IsModulo n → is_narrow level n (default_window level) ≡ true
default_is_narrow level.Safe n h = refl
default_is_narrow level.Link n h = refl
default_is_narrow level.Full n h = refl
default_is_narrow level.LinkSr n (inl e) = rw e refl
default_is_narrow level.LinkSr n (inr e) = rw e refl

modulo_small : (n : ℕ) → IsModulo n → n < 2 ^ 64
modulo_small n (inl e) = omega (arith, e)
modulo_small n (inr e) = omega (arith, e)

window_small : (modulo n : ℕ) → n < modulo → modulo < 2 ^ 64 → n < 2 ^ 64
window_small modulo n h k = omega arith

size_small : (n : ℕ) → (n ≡ 128) ⊎ (n ≡ 256) ⊎ (n ≡ 512) ⊎ (n ≡ 1024) → n < 2 ^ 64
size_small n (inl a) = omega (arith, a)
size_small n (inr (inl b)) = omega (arith, b)
size_small n (inr (inr (inl c))) = omega (arith, c)
size_small n (inr (inr (inr d))) = omega (arith, d)

pub record AreSmall (s : Settings) : Type 0 where
  pub modulo : s.modulo < 2 ^ 64
  pub window : s.window < 2 ^ 64
  pub credit : s.credit < 2 ^ 64
  pub size : s.size < 2 ^ 64
  pub t1 : s.t1 < 2 ^ 64
  pub n2 : s.n2 < 2 ^ 64
  pub setup : s.setup < 2 ^ 64

pub small : (s : Settings) → AllAllowed s → AreBounded s → AreSmall s
small s h b =
    record {
      modulo = modulo_small s.modulo h.modulo;
      window = window_small s.modulo s.window b.window_below_modulo (modulo_small s.modulo h.modulo);
      credit = omega (arith, b.credit.1);
      size = size_small s.size b.size;
      t1 = omega (arith, b.t1.1);
      n2 = omega (arith, b.n2.1);
      setup = omega (arith, b.setup.1);
    }

regrouped : (m w c z t n u v more : List (List (List ℕ)))
    → (m ++ w ++ c ++ z ++ t ++ n ++ u ++ v) ++ more ≡ m ++ (w ++ (c ++ (z ++ (t ++ (n ++ (u ++ (v ++ more)))))))
regrouped m w c z t n u v more = simp append_assoc

-- the lines that choose, before any others
pub choices_read : (laws : Laws) (level : Level) (s : Settings) (show : Bool) (more : List (List (List ℕ))) → AllAllowed s → IsNarrow level s → AreSmall s
    → scenario_body_of level false (default_choices level) (rows_from 1 (choice_lines level s show ++ more))
    ≡ scenario_body_of level false (record { settings = s; show = show }) (rows_from (before_steps level s show) more)
choices_read laws level s show more h narrow b =
    let w0 : ℕ = default_window level in
    let n1 : ℕ = behind_set 1 8 s.modulo in
    let n2 : ℕ = behind_set n1 w0 s.window in
    let n3 : ℕ = behind_set n2 15 s.credit in
    let n4 : ℕ = behind_set n3 128 s.size in
    let n5 : ℕ = behind_set n4 1000 s.t1 in
    let n6 : ℕ = behind_set n5 5 s.n2 in
    let n7 : ℕ = behind_set n6 40000 s.setup in
    let c0 : Choices = made 8 w0 15 128 1000 5 40000 in
    let c1 : Choices = made s.modulo w0 15 128 1000 5 40000 in
    let c2 : Choices = made s.modulo s.window 15 128 1000 5 40000 in
    let c3 : Choices = made s.modulo s.window s.credit 128 1000 5 40000 in
    let c4 : Choices = made s.modulo s.window s.credit s.size 1000 5 40000 in
    let c5 : Choices = made s.modulo s.window s.credit s.size s.t1 5 40000 in
    let c6 : Choices = made s.modulo s.window s.credit s.size s.t1 s.n2 40000 in
    let c7 : Choices = made s.modulo s.window s.credit s.size s.t1 s.n2 s.setup in
    let m = set_lines (codes "modulo") 8 s.modulo in
    let w = set_lines (setting_word Window) w0 s.window in
    let c = set_lines (setting_word Credit) 15 s.credit in
    let z = set_lines (setting_word Size) 128 s.size in
    let t = set_lines (setting_word T1) 1000 s.t1 in
    let n = set_lines (setting_word N2) 5 s.n2 in
    let u = set_lines (setting_word Setup) 40000 s.setup in
    let v = show_lines show in
    ap (λ (lines : List (List (List ℕ))). scenario_body_of level false c0 (rows_from 1 lines)) (regrouped m w c z t n u v more)
    ∙ set_read level c0 c1 1 (codes "modulo") 8 s.modulo (w ++ (c ++ (z ++ (t ++ (n ++ (u ++ (v ++ more)))))))
    (chosen laws level c0 (codes "modulo") Modulo s.modulo refl (modulo_may level s.modulo h.modulo) (default_is_narrow level s.modulo h.modulo) b.modulo) (λ e. ap (λ (x : ℕ). made x w0 15 128 1000 5 40000) e)
    ∙ set_read level c1 c2 n1 (setting_word Window) w0 s.window (c ++ (z ++ (t ++ (n ++ (u ++ (v ++ more))))))
    (chosen laws level c1 (setting_word Window) (Setting Window) s.window refl h.window narrow b.window) (λ e. ap (λ (x : ℕ). made s.modulo x 15 128 1000 5 40000) e)
    ∙ set_read level c2 c3 n2 (setting_word Credit) 15 s.credit (z ++ (t ++ (n ++ (u ++ (v ++ more)))))
    (chosen laws level c2 (setting_word Credit) (Setting Credit) s.credit refl h.credit narrow b.credit) (λ e. ap (λ (x : ℕ). made s.modulo s.window x 128 1000 5 40000) e)
    ∙ set_read level c3 c4 n3 (setting_word Size) 128 s.size (t ++ (n ++ (u ++ (v ++ more))))
    (chosen laws level c3 (setting_word Size) (Setting Size) s.size refl h.size narrow b.size) (λ e. ap (λ (x : ℕ). made s.modulo s.window s.credit x 1000 5 40000) e)
    ∙ set_read level c4 c5 n4 (setting_word T1) 1000 s.t1 (n ++ (u ++ (v ++ more)))
    (chosen laws level c4 (setting_word T1) (Setting T1) s.t1 refl h.t1 narrow b.t1) (λ e. ap (λ (x : ℕ). made s.modulo s.window s.credit s.size x 5 40000) e)
    ∙ set_read level c5 c6 n5 (setting_word N2) 5 s.n2 (u ++ (v ++ more))
    (chosen laws level c5 (setting_word N2) (Setting N2) s.n2 refl h.n2 narrow b.n2) (λ e. ap (λ (x : ℕ). made s.modulo s.window s.credit s.size s.t1 x 40000) e)
    ∙ set_read level c6 c7 n6 (setting_word Setup) 40000 s.setup (v ++ more)
    (chosen laws level c6 (setting_word Setup) (Setting Setup) s.setup refl h.setup narrow b.setup) (λ e. ap (λ (x : ℕ). made s.modulo s.window s.credit s.size s.t1 s.n2 x) e)
    ∙ show_read laws level s n7 show more narrow

set_line : (laws : Laws) (word : List ℕ) (default value : ℕ) → IsSolid word → value < 2 ^ 64 → AreLines (set_lines word default value)
set_line laws word default value solid fits =
    elim (cases_Bool (value == default)) [
      | inl t ↦ rw t tt
      | inr f ↦ rw f ((solid_codes (codes "set") refl refl, (solid, (laws.words.number_word value fits, tt))), tt)
    ]

show_line : (show : Bool) → AreLines (show_lines show)
show_line true = ((solid_codes (codes "set") refl refl, (solid_codes (codes "show") refl refl, (solid_codes (codes "1") refl refl, tt))), tt)
show_line false = tt

pub lines_append : (a b : List (List (List ℕ))) → AreLines a → AreLines b → AreLines (a ++ b)
lines_append [] b h k = k
lines_append (line ∷ lines) b h k = (h.0, lines_append lines b h.1 k)

pub choices_are_lines : (laws : Laws) (level : Level) (settings : Settings) (show : Bool) → AreSmall settings → AreLines (choice_lines level settings show)
choices_are_lines laws level s show b =
    lines_append _ _
    (lines_append _ _
    (lines_append _ _
    (lines_append _ _
    (lines_append _ _
    (lines_append _ _
    (lines_append _ _
    (set_line laws (codes "modulo") 8 s.modulo (solid_codes (codes "modulo") refl refl) b.modulo)
    (set_line laws (setting_word Window) (default_window level) s.window (solid_codes (codes "window") refl refl) b.window))
    (set_line laws (setting_word Credit) 15 s.credit (solid_codes (codes "credit") refl refl) b.credit))
    (set_line laws (setting_word Size) 128 s.size (solid_codes (codes "size") refl refl) b.size))
    (set_line laws (setting_word T1) 1000 s.t1 (solid_codes (codes "t1") refl refl) b.t1))
    (set_line laws (setting_word N2) 5 s.n2 (solid_codes (codes "n2") refl refl) b.n2))
    (set_line laws (setting_word Setup) 40000 s.setup (solid_codes (codes "setup") refl refl) b.setup))
    (show_line show)
