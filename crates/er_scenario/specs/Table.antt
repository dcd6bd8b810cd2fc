-- The table of the lines of a drill file (this profile): the first word of each, the levels that have it, and the kinds of its
-- arguments.
use Rattle.std.specs.Prelude.{ℕ, ◌==◌, Bool, true, false, if◌then◌else◌, List, [], ◌∷◌, take, drop, Option, Some, None, Result, Ok, Err, codes}
use Rattle.std.specs.List.{find}
use Rattle.std.specs.Str.{bytes_eq}
use Rattle.er_base.specs.declared.side.Side.{Side}
use Rattle.er_base.specs.declared.why.Why.{Why}
use Rattle.er_base.specs.declared.why.Why.TheVariants.{Value}
use Rattle.er_base.specs.Arguments.{◌>>=◌, number_argument, side_argument, text_argument, exact_argument, number16_argument}
use Rattle.er_base.specs.LineFaults.{Values}
use Rattle.er_base.specs.Octets.{number_in}
use Rattle.des_block.specs.declared.triple_key.TripleKey.{TripleKey}
use Rattle.er_scenario.specs.declared.level.Level.{Level}
use Rattle.er_scenario.specs.declared.level.Level.TheVariants as level
use Rattle.er_scenario.specs.declared.step.Step.{Step}
use Rattle.er_scenario.specs.declared.step.Step.TheVariants as step
use Rattle.er_scenario.specs.declared.step_name.StepName.{StepName}
use Rattle.er_scenario.specs.declared.step_name.StepName.TheVariants.{Fixed, Link, Wire, Send, Pass, Lose, Repeat, Alter, Put, Copy, Take, Release, Tick, Drain}

-- LEVEL
abbrev pub level_word : Level → List ℕ
level_word level.Safe = codes "safe"
level_word level.Link = codes "link"
level_word level.Full = codes "full"
level_word level.LinkSr = codes "link-sr"

-- all levels
abbrev pub all_levels : List Level
all_levels = level.Safe ∷ level.Link ∷ level.Full ∷ level.LinkSr ∷ []

-- the level that a word names, where it names one
abbrev pub level_named : List ℕ → Option Level
level_named word = find (λ level. bytes_eq word (level_word level)) all_levels

-- the first word of a step's line
abbrev pub step_word : StepName → List ℕ
step_word Fixed = codes "fixed"
step_word Link = codes "link"
step_word Wire = codes "wire"
step_word Send = codes "send"
step_word Pass = codes "pass"
step_word Lose = codes "lose"
step_word Repeat = codes "repeat"
step_word Alter = codes "alter"
step_word Put = codes "put"
step_word Copy = codes "copy"
step_word Take = codes "take"
step_word Release = codes "release"
step_word Tick = codes "tick"
step_word Drain = codes "drain"

-- all lines that are steps
abbrev pub all_steps : List StepName
all_steps = Fixed ∷ Link ∷ Wire ∷ Send ∷ Pass ∷ Lose ∷ Repeat ∷ Alter ∷ Put ∷ Copy ∷ Take ∷ Release ∷ Tick ∷ Drain ∷ []

-- the step that a first word names, where it names one
abbrev pub step_named : List ℕ → Option StepName
step_named word = find (λ name. bytes_eq word (step_word name)) all_steps

-- the kinds of arguments: a decimal number from a least to a greatest one, an end, HEX of at most 4,096 octets, KEY, KEY or `-`,
-- NUM16, one octet other than 00, and a word that is looked at later
pub data ScenarioArgumentKind : Type 0 where
  Decimal : ℕ → ℕ → ScenarioArgumentKind
  End : ScenarioArgumentKind
  Hex : ScenarioArgumentKind
  Key : ScenarioArgumentKind
  OptionalKey : ScenarioArgumentKind
  Number16 : ScenarioArgumentKind
  Mask : ScenarioArgumentKind
  AnyWord : ScenarioArgumentKind

-- N and M, a link; E and R, ETCS numbers; PLACE, any number of 64 bits; X, an octet; MOMENT, at most 10 ^ 15 milliseconds; MOST
abbrev pub link_number : ScenarioArgumentKind
link_number = Decimal 1 64

abbrev pub etcs_number : ScenarioArgumentKind
etcs_number = Decimal 0 16777215

abbrev pub place : ScenarioArgumentKind
place = Decimal 0 18446744073709551615

abbrev pub sub_reason : ScenarioArgumentKind
sub_reason = Decimal 0 255

abbrev pub moment : ScenarioArgumentKind
moment = Decimal 0 1000000000000000

abbrev pub most_passes : ScenarioArgumentKind
most_passes = Decimal 1 100000

-- the kinds of the arguments of each step's line
abbrev pub kinds_of : StepName → List ScenarioArgumentKind
kinds_of Fixed = link_number ∷ etcs_number ∷ etcs_number ∷ Key ∷ Key ∷ []
kinds_of Link = link_number ∷ etcs_number ∷ etcs_number ∷ Key ∷ OptionalKey ∷ Number16 ∷ Number16 ∷ []
kinds_of Wire = link_number ∷ []
kinds_of Send = link_number ∷ End ∷ Hex ∷ []
kinds_of Pass = link_number ∷ End ∷ []
kinds_of Lose = link_number ∷ End ∷ []
kinds_of Repeat = link_number ∷ End ∷ []
kinds_of Alter = link_number ∷ End ∷ place ∷ Mask ∷ []
kinds_of Put = link_number ∷ End ∷ Hex ∷ []
kinds_of Copy = link_number ∷ End ∷ link_number ∷ End ∷ []
kinds_of Take = link_number ∷ End ∷ []
kinds_of Release = link_number ∷ End ∷ sub_reason ∷ []
kinds_of Tick = moment ∷ []
kinds_of Drain = link_number ∷ most_passes ∷ []

-- whether a line is one of level safe, of level link and of level full; level link-sr has the lines of level link
pub record Levels : Type 0 where
  pub safe : Bool
  pub link : Bool
  pub full : Bool

abbrev pub levels : Bool → Bool → Bool → Levels
levels safe link full = record { safe = safe; link = link; full = full }

-- the levels of each step's line: safe, link, full
abbrev pub levels_of : StepName → Levels
levels_of Fixed = levels true false false
levels_of Link = levels true false true
levels_of Wire = levels false true false
levels_of Send = levels true true true
levels_of Pass = levels true true true
levels_of Lose = levels true true true
levels_of Repeat = levels true true true
levels_of Alter = levels true true true
levels_of Put = levels true true true
levels_of Copy = levels true true true
levels_of Take = levels false false true
levels_of Release = levels true true true
levels_of Tick = levels false true true
levels_of Drain = levels true true true

abbrev pub has_level : Levels → Level → Bool
has_level at level.Safe = at.safe
has_level at level.Link = at.link
has_level at level.Full = at.full
has_level at level.LinkSr = at.link

-- what an argument of a kind means
abbrev pub Meaning : ScenarioArgumentKind → Type 0
Meaning (Decimal least most) = ℕ
Meaning End = Side
Meaning Hex = List ℕ
Meaning Key = TripleKey
Meaning OptionalKey = Option TripleKey
Meaning Number16 = ℕ
Meaning Mask = ℕ
Meaning AnyWord = List ℕ

-- 24 octets are three keys of eight octets
unfoldable pub three_keys : List ℕ → TripleKey
three_keys octets =
    record {
      first = number_in (take 8 octets);
      second = number_in (take 8 (drop 8 octets));
      third = number_in (drop 16 octets);
    }

-- KEY: 48 hexadecimal digits
unfoldable pub key_argument : List ℕ → Result TripleKey Why
key_argument word = exact_argument 24 word >>= λ octets. Ok (three_keys octets)

-- KEY, or `-` where there is no key
unfoldable pub optional_key_argument : List ℕ → Result (Option TripleKey) Why
optional_key_argument word = if bytes_eq word (codes "-") then Ok None else (key_argument word >>= λ key. Ok (Some key))

-- one octet other than 00
abbrev pub mask_from : List ℕ → Result ℕ Why
mask_from [] = Err Value
mask_from (octet ∷ []) = if octet == 0 then Err Value else Ok octet
mask_from (octet ∷ another ∷ octets) = Err Value

-- the HEX of `alter`
unfoldable pub mask_argument : List ℕ → Result ℕ Why
mask_argument word = text_argument 4096 word >>= mask_from

-- a word, read as an argument of a kind
abbrev pub argument_of : (kind : ScenarioArgumentKind) → List ℕ → Result (Meaning kind) Why
argument_of (Decimal least most) word = number_argument least most word
argument_of End word = side_argument word
argument_of Hex word = text_argument 4096 word
argument_of Key word = key_argument word
argument_of OptionalKey word = optional_key_argument word
argument_of Number16 word = number16_argument word
argument_of Mask word = mask_argument word
argument_of AnyWord word = Ok word

-- the step that arguments make
abbrev pub step_made : (name : StepName) → Values Meaning (kinds_of name) → Step
step_made Fixed (n, (e, (r, (ke, (kr, end))))) = step.Fixed n e r ke kr
step_made Link (n, (e, (r, (ke, (kr, (ra, (rb, end))))))) = step.Link n e r ke kr ra rb
step_made Wire (n, end) = step.Wire n
step_made Send (n, (s, (hex, end))) = step.Send n s hex
step_made Pass (n, (s, end)) = step.Pass n s
step_made Lose (n, (s, end)) = step.Lose n s
step_made Repeat (n, (s, end)) = step.Repeat n s
step_made Alter (n, (s, (p, (mask, end)))) = step.Alter n s p mask
step_made Put (n, (s, (hex, end))) = step.Put n s hex
step_made Copy (n, (s, (m, (t, end)))) = step.Copy n s m t
step_made Take (n, (s, end)) = step.Take n s
step_made Release (n, (s, (x, end))) = step.Release n s x
step_made Tick (at, end) = step.Tick at
step_made Drain (n, (most, end)) = step.Drain n most
