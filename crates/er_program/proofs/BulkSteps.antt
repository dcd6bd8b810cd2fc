-- The steps of a bulk run, one by one: each is of the one link or a tick, its numbers fit their fields, and moments don't fall.
use Rattle.std.proofs.Common.{◌≡◌, ℕ, zero, suc, ◌+◌, ◌*◌, ◌/◌, ◌%◌, ◌==◌, ◌≤◌, Bool, true, false, inl, inr, List, [], ◌∷◌, ◌++◌, length, take, slice_get, slice_index, Some, if◌then◌else◌, refl, ap, sym, subst, ◌∙◌, append_assoc, arith}
use Rattle.std.proofs.lemmas.Bool.{cases_lt}
use Rattle.std.proofs.lemmas.List.{take_more, get_or_past, get_or-map, length-map}
use Rattle.std.proofs.lemmas.Option.{slice_get_within, get_or_from_slice_get}
use Rattle.std.specs.List.{range_with_len}
use Rattle.rand_core.specs.Stream.{Stream, next_u32}
use Rattle.er_base.specs.Octets.{AreOctets}
use Rattle.er_base.specs.declared.side.Side.{Side}
use Rattle.er_base.specs.Sides.{other}
use Rattle.er_settings.specs.Ranges.{AllAllowed}
use Rattle.er_settings.specs.Making.{usual_settings}
use Rattle.er_scenario.specs.declared.level.Level.TheVariants as level
use Rattle.er_scenario.specs.declared.step.Step.{Step}
use Rattle.er_scenario.specs.declared.step.Step.TheVariants as does
use Rattle.drill_model.specs.Steps.{FitsFields, AllFit}
use Rattle.drill_model.specs.StepLevels.{IsOfLevel}
use Rattle.drill_bulk.specs.Draws.{words_drawn, seeded}
use Rattle.drill_bulk.specs.Turns.{kmac, sender, message, mishap, steps_of_bulk_turn, turns}
use Rattle.er_program.specs.BulkTexts.{steps_of_bulk}
use Rattle.er_program.specs.BulkRuns.{AreDoable}

-- ---- one step

-- behind a moment, and up to a last one
abbrev pub IsGood : (most moment : ℕ) → Step → Type 0
IsGood most m (does.Fixed n engine rbc ke kr) = ⊥
IsGood most m (does.Link n engine rbc ke kr ra rb) = ⊥
IsGood most m (does.Wire n) = ⊥
IsGood most m (does.Send n s text) = (n ≡ 1) × AreOctets text
IsGood most m (does.Pass n s) = ⊥
IsGood most m (does.Lose n s) = n ≡ 1
IsGood most m (does.Repeat n s) = n ≡ 1
IsGood most m (does.Alter n s place mask) = ⊥
IsGood most m (does.Put n s text) = ⊥
IsGood most m (does.Copy n s k t) = ⊥
IsGood most m (does.Take n s) = n ≡ 1
IsGood most m (does.Release n s sub) = ⊥
IsGood most m (does.Tick moment) = (m ≤ moment) × (moment ≤ most)
IsGood most m (does.Drain n passes) = n ≡ 1

-- the moment behind it
abbrev pub moment_after : ℕ → Step → ℕ
moment_after m (does.Fixed n engine rbc ke kr) = m
moment_after m (does.Link n engine rbc ke kr ra rb) = m
moment_after m (does.Wire n) = m
moment_after m (does.Send n s text) = m
moment_after m (does.Pass n s) = m
moment_after m (does.Lose n s) = m
moment_after m (does.Repeat n s) = m
moment_after m (does.Alter n s place mask) = m
moment_after m (does.Put n s text) = m
moment_after m (does.Copy n s k t) = m
moment_after m (does.Take n s) = m
moment_after m (does.Release n s sub) = m
moment_after m (does.Tick moment) = moment
moment_after m (does.Drain n passes) = m

abbrev pub AreGood : (most moment : ℕ) → List Step → Type 0
AreGood most m [] = Unit {0}
AreGood most m (s ∷ steps) = IsGood most m s × AreGood most (moment_after m s) steps

good_fits : (most m : ℕ) (s : Step) → IsGood most m s → FitsFields s
good_fits most m (does.Fixed n engine rbc ke kr) good = absurd good
good_fits most m (does.Link n engine rbc ke kr ra rb) good = absurd good
good_fits most m (does.Wire n) good = absurd good
good_fits most m (does.Send n s text) good = (tt, good.1)
good_fits most m (does.Pass n s) good = absurd good
good_fits most m (does.Lose n s) good = (tt, tt)
good_fits most m (does.Repeat n s) good = (tt, tt)
good_fits most m (does.Alter n s place mask) good = absurd good
good_fits most m (does.Put n s text) good = absurd good
good_fits most m (does.Copy n s k t) good = absurd good
good_fits most m (does.Take n s) good = (tt, tt)
good_fits most m (does.Release n s sub) good = absurd good
good_fits most m (does.Tick moment) good = (tt, tt)
good_fits most m (does.Drain n passes) good = (tt, tt)

good_doable : (most m : ℕ) (s : Step) → IsGood most m s → IsOfLevel level.Full s
good_doable most m (does.Fixed n engine rbc ke kr) good = absurd good
good_doable most m (does.Link n engine rbc ke kr ra rb) good = absurd good
good_doable most m (does.Wire n) good = absurd good
good_doable most m (does.Send n s text) good = tt
good_doable most m (does.Pass n s) good = absurd good
good_doable most m (does.Lose n s) good = tt
good_doable most m (does.Repeat n s) good = tt
good_doable most m (does.Alter n s place mask) good = absurd good
good_doable most m (does.Put n s text) good = absurd good
good_doable most m (does.Copy n s k t) good = absurd good
good_doable most m (does.Take n s) good = tt
good_doable most m (does.Release n s sub) good = absurd good
good_doable most m (does.Tick moment) good = tt
good_doable most m (does.Drain n passes) good = tt

-- ---- the steps

-- the octets of a message
message_octets : (i word : ℕ) → AreOctets (message i word)
message_octets i word k =
    let places : List ℕ = range_with_len 0 (1 + word / 2 % 200) in
    elim (cases_lt k (length places)) [
      | inl within ↦
          let is : slice_index (message i word) k ≡ (i + slice_index places k) % 256 = get_or-map (λ j. (i + j) % 256) places k 0 0 within in
          omega (arith, is)
      | inr past ↦
          let nothing : slice_index (message i word) k ≡ 0 = get_or_past (message i word) k 0 (omega (arith, past, length-map places (λ j. (i + j) % 256))) in
          omega (arith, nothing)
    ]

-- what the line does, and then others
mishap_good : (most m : ℕ) (lost repeated : Bool) (s : Side) (rest : List Step) → AreGood most m rest
    → AreGood most m ((if lost then does.Lose 1 s ∷ [] else if repeated then does.Repeat 1 s ∷ [] else []) ++ rest)
mishap_good most m true repeated s rest good = (refl, good)
mishap_good most m false true s rest good = (refl, good)
mishap_good most m false false s rest good = good

-- a turn, and then others
turn_good : (most m i word : ℕ) (rest : List Step) → m ≤ 1000 * (i + 1) → 1000 * (i + 1) ≤ most → AreGood most (1000 * (i + 1)) rest
    → AreGood most m (steps_of_bulk_turn i word ++ rest)
turn_good most m i word rest le within good =
    let last : List Step = does.Drain 1 1000 ∷ does.Tick (1000 * (i + 1)) ∷ does.Drain 1 1000 ∷ does.Take 1 (other (sender word)) ∷ does.Drain 1 1000 ∷ [] in
    let so : AreGood most m (mishap word ++ (last ++ rest)) =
    mishap_good most m (word / 512 % 8 == 0) (word / 512 % 8 == 1) (sender word) (last ++ rest) (refl, ((le, within), (refl, (refl, (refl, good))))) in
    ((refl, message_octets i word), subst (AreGood most m) (sym (append_assoc (mishap word) last rest)) so)

turns_good : (most m i : ℕ) (words : List ℕ) → m ≤ 1000 * i → 1000 * (i + length words) ≤ most → AreGood most m (turns i words)
unfolding turns
turns_good most m i [] le within = tt
turns_good most m i (word ∷ words) le within =
    turn_good most m i word (turns (i + 1) words) (omega (arith, le)) (omega (arith, within))
    (turns_good most (1000 * (i + 1)) (i + 1) words (omega arith) (omega (arith, within)))

words_length : (count : ℕ) (generator : Stream) → length (words_drawn count generator) ≡ count
unfolding words_drawn
words_length zero generator = refl
words_length (suc count) generator = ap suc (words_length count (next_u32 generator).1)

-- the first step
abbrev pub first_step : Step
first_step = does.Link 1 1 2 kmac (Some kmac) 1 2

-- those behind it
abbrev pub later_steps : (seed count : ℕ) → List Step
later_steps seed count = does.Drain 1 64 ∷ turns 0 (words_drawn count (seeded seed))

pub steps_are : (seed count : ℕ) → steps_of_bulk seed count ≡ first_step ∷ later_steps seed count
unfolding steps_of_bulk
steps_are seed count = refl

pub later_good : (seed count : ℕ) → AreGood (1000 * count) 0 (later_steps seed count)
later_good seed count =
    (refl, turns_good (1000 * count) 0 0 (words_drawn count (seeded seed)) (omega arith) (omega (arith, words_length count (seeded seed))))

-- ---- all of them

all_fit : (most m : ℕ) (steps : List Step) → AreGood most m steps → AllFit steps
all_fit most m [] good = tt
all_fit most m (s ∷ steps) good = (good_fits most m s good.0, all_fit most (moment_after m s) steps good.1)

all_doable : (most m : ℕ) (steps : List Step) → AreGood most m steps → AreDoable level.Full steps
all_doable most m [] good = tt
all_doable most m (s ∷ steps) good = (good_doable most m s good.0, all_doable most (moment_after m s) steps good.1)

-- all fit their fields
pub bulk_fits : (seed count : ℕ) → AllFit (steps_of_bulk seed count)
bulk_fits seed count =
    let later : AllFit (later_steps seed count) = all_fit (1000 * count) 0 (later_steps seed count) (later_good seed count) in
    let all : AllFit (first_step ∷ later_steps seed count) = (((omega arith, omega arith), (omega arith, omega arith)), later) in
    subst AllFit (sym (steps_are seed count)) all

-- a world of level full takes them
pub steps_doable : (seed count : ℕ) (steps : List Step) → steps ≡ steps_of_bulk seed count → AreDoable level.Full steps
steps_doable seed count steps is =
    let later : AreDoable level.Full (later_steps seed count) = all_doable (1000 * count) 0 (later_steps seed count) (later_good seed count) in
    let all : AreDoable level.Full (first_step ∷ later_steps seed count) = (tt, later) in
    subst (AreDoable level.Full) (sym (is ∙ steps_are seed count)) all

-- ---- lists

pub take_one_more : (steps : List Step) (i : ℕ) (s : Step) → slice_get steps i ≡ Some s → take (i + 1) steps ≡ take i steps ++ s ∷ []
take_one_more steps i s at =
    take_more steps i s (slice_get_within steps i s at) ∙ ap (λ (y : Step). take i steps ++ y ∷ []) (get_or_from_slice_get steps i s s at)

-- the usual settings are in their ranges
pub usual_allowed : AllAllowed usual_settings
usual_allowed = record { modulo = inl refl; window = refl; credit = refl; size = refl; t1 = refl; n2 = refl; setup = refl }
