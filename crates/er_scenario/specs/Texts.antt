-- The text of a scenario (this profile): the header, a `set` line for each value that isn't the default, `modulo` before all others,
-- and a line a step, each ended by LF. Where that text isn't too long, it is read as the same scenario, line numbers aside.
use Rattle.std.specs.Prelude.{ℕ, ◌≡◌, ◌==◌, Bool, true, if◌then◌else◌, List, [], ◌∷◌, ◌++◌, map, Option, Some, None, codes}
use Rattle.std.specs.Fmt.{decimal}
use Rattle.er_base.specs.Hexadecimal.{hex_of}
use Rattle.er_base.specs.LineTexts.{lines_text}
use Rattle.er_base.specs.Octets.{eight}
use Rattle.er_base.specs.Sides.{side_word}
use Rattle.des_block.specs.declared.triple_key.TripleKey.{TripleKey}
use Rattle.er_settings.specs.Values.{Settings}
use Rattle.er_settings.specs.declared.setting_name.SettingName.TheVariants.{Window, Credit, Size, T1, N2, Setup}
use Rattle.er_settings.specs.Names.{setting_word}
use Rattle.er_settings.specs.Ranges.{AllAllowed}
use Rattle.er_scenario.specs.declared.level.Level.{Level}
use Rattle.er_scenario.specs.declared.step.Step.{Step}
use Rattle.er_scenario.specs.declared.step.Step.TheVariants.{Fixed, Link, Wire, Send, Pass, Lose, Repeat, Alter, Put, Copy, Take, Release, Tick, Drain}
use Rattle.er_scenario.specs.declared.step_name.StepName.{StepName}
use Rattle.er_scenario.specs.declared.step_name.StepName.TheVariants as name
use Rattle.er_scenario.specs.declared.numbered.Numbered.{Numbered}
use Rattle.er_scenario.specs.declared.scenario.Scenario.{Scenario}
use Rattle.er_scenario.specs.StepRanges.{IsInRange}
use Rattle.er_scenario.specs.Table.{level_word, step_word, levels_of, has_level}
use Rattle.er_scenario.specs.Choices.{IsNarrow, default_settings}

-- KEY
unfoldable pub key_word : TripleKey → List ℕ
key_word key = hex_of (eight key.first ++ (eight key.second ++ eight key.third))

-- KEY, or `-` where there is none
abbrev pub optional_key_word : Option TripleKey → List ℕ
optional_key_word None = codes "-"
optional_key_word (Some key) = key_word key

-- the line of a step
abbrev pub name_of : Step → StepName
name_of (Fixed link engine rbc ke kr) = name.Fixed
name_of (Link link engine rbc ke kr ra rb) = name.Link
name_of (Wire link) = name.Wire
name_of (Send link side text) = name.Send
name_of (Pass link side) = name.Pass
name_of (Lose link side) = name.Lose
name_of (Repeat link side) = name.Repeat
name_of (Alter link side place mask) = name.Alter
name_of (Put link side text) = name.Put
name_of (Copy link side to_link to_side) = name.Copy
name_of (Take link side) = name.Take
name_of (Release link side sub) = name.Release
name_of (Tick moment) = name.Tick
name_of (Drain link most) = name.Drain

-- the words behind the first one
abbrev pub argument_words : Step → List (List ℕ)
argument_words (Fixed link engine rbc ke kr) = decimal link ∷ decimal engine ∷ decimal rbc ∷ key_word ke ∷ key_word kr ∷ []
argument_words (Link link engine rbc ke kr ra rb) =
    decimal link ∷ decimal engine ∷ decimal rbc ∷ key_word ke ∷ optional_key_word kr ∷ hex_of (eight ra) ∷ hex_of (eight rb) ∷ []
argument_words (Wire link) = decimal link ∷ []
argument_words (Send link side text) = decimal link ∷ side_word side ∷ hex_of text ∷ []
argument_words (Pass link side) = decimal link ∷ side_word side ∷ []
argument_words (Lose link side) = decimal link ∷ side_word side ∷ []
argument_words (Repeat link side) = decimal link ∷ side_word side ∷ []
argument_words (Alter link side place mask) = decimal link ∷ side_word side ∷ decimal place ∷ hex_of (mask ∷ []) ∷ []
argument_words (Put link side text) = decimal link ∷ side_word side ∷ hex_of text ∷ []
argument_words (Copy link side to_link to_side) = decimal link ∷ side_word side ∷ decimal to_link ∷ side_word to_side ∷ []
argument_words (Take link side) = decimal link ∷ side_word side ∷ []
argument_words (Release link side sub) = decimal link ∷ side_word side ∷ decimal sub ∷ []
argument_words (Tick moment) = decimal moment ∷ []
argument_words (Drain link most) = decimal link ∷ decimal most ∷ []

-- the words of a step's line
abbrev pub step_words : Step → List (List ℕ)
step_words step = step_word (name_of step) ∷ argument_words step

-- the words of the header
abbrev pub header_words : Level → List (List ℕ)
header_words level = codes "drill" ∷ codes "1" ∷ level_word level ∷ []

-- a `set` line, where the value isn't the default
abbrev pub set_lines : List ℕ → ℕ → ℕ → List (List (List ℕ))
set_lines word default value = if value == default then [] else (codes "set" ∷ word ∷ decimal value ∷ []) ∷ []

abbrev pub show_lines : Bool → List (List (List ℕ))
show_lines show = if show then (codes "set" ∷ codes "show" ∷ codes "1" ∷ []) ∷ [] else []

-- the `set` lines, in the order of the names
abbrev pub choice_lines : Level → Settings → Bool → List (List (List ℕ))
choice_lines level settings show =
    set_lines (codes "modulo") (default_settings level).modulo settings.modulo
    ++ set_lines (setting_word Window) (default_settings level).window settings.window
    ++ set_lines (setting_word Credit) (default_settings level).credit settings.credit
    ++ set_lines (setting_word Size) (default_settings level).size settings.size
    ++ set_lines (setting_word T1) (default_settings level).t1 settings.t1
    ++ set_lines (setting_word N2) (default_settings level).n2 settings.n2
    ++ set_lines (setting_word Setup) (default_settings level).setup settings.setup
    ++ show_lines show

-- the steps' lines
abbrev pub words_of_numbered_steps : List Numbered → List (List (List ℕ))
words_of_numbered_steps [] = []
words_of_numbered_steps (numbered ∷ steps) = step_words numbered.step ∷ words_of_numbered_steps steps

-- all lines of a scenario, as their words
abbrev pub words_printed : Scenario → List (List (List ℕ))
words_printed scenario =
    header_words scenario.level ∷ (choice_lines scenario.level scenario.settings scenario.show ++ words_of_numbered_steps scenario.steps)

-- the text of a scenario
unfoldable pub text_printed : Scenario → List ℕ
text_printed scenario = lines_text (words_printed scenario)

-- a step whose numbers are in their ranges, and whose line is one of the level
pub record IsReadableStep (level : Level) (step : Step) : Type 0 where
  pub range : IsInRange step
  pub of_level : has_level (levels_of (name_of step)) level ≡ true

-- and so are all steps
abbrev pub AreReadableSteps : Level → List Numbered → Type 0
AreReadableSteps level [] = Unit {0}
AreReadableSteps level (numbered ∷ steps) = IsReadableStep level numbered.step × AreReadableSteps level steps

-- a scenario that `read` can answer, line numbers aside
pub record CanBeRead (scenario : Scenario) : Type 0 where
  pub settings : AllAllowed scenario.settings
  pub narrow : IsNarrow scenario.level scenario.settings
  pub steps : AreReadableSteps scenario.level scenario.steps

-- two scenarios that differ in line numbers alone
pub record IsSameButLines (left right : Scenario) : Type 0 where
  pub level : left.level ≡ right.level
  pub settings : left.settings ≡ right.settings
  pub show : left.show ≡ right.show
  pub steps : map (λ n. n.step) left.steps ≡ map (λ n. n.step) right.steps
