-- The steps of a drill one by one: what is read of each, how their lines grow, and that an answer goes on from the lines of the first ones.
use Rattle.std.proofs.Common.{◌≡◌, ℕ, zero, suc, ◌+◌, ◌-◌, ◌≤◌, true, ◌⊎◌, inl, inr, List, [], ◌∷◌, ◌++◌, length, slice_get, Option, Some, None, option_map, refl, ap, sym, subst, ◌∙◌, append_assoc, append-nil, arith}
use Rattle.std.proofs.lemmas.Bool.{cases_eq, cases_lt}
use Rattle.std.proofs.lemmas.List.{take_all, take_more, length-map}
use Rattle.std.proofs.lemmas.Option.{same_Some, none-some, slice_get-map, slice_get_within, slice_get_cases, get_or_from_slice_get}
use Rattle.er_scenario.specs.declared.level.Level.{Level}
use Rattle.er_scenario.specs.declared.level.Level.TheVariants as level
use Rattle.er_scenario.specs.declared.step.Step.{Step}
use Rattle.er_scenario.specs.declared.step.Step.TheVariants as does
use Rattle.er_scenario.specs.declared.numbered.Numbered.{Numbered}
use Rattle.er_scenario.specs.declared.scenario.Scenario.{Scenario}
use Rattle.er_scenario.specs.Table.{levels_of, has_level}
use Rattle.er_scenario.specs.StepRanges.{IsInRange}
use Rattle.er_scenario.specs.Texts.{name_of, IsReadableStep, AreReadableSteps}
use Rattle.drill_model.specs.declared.world_fault.WorldFault.{WorldFault}
use Rattle.drill_model.specs.Steps.{HasEtcsNumbers}
use Rattle.drill_model.specs.StepLevels.{IsOfLevel}
use Rattle.drill_model.specs.Worlds.{plan_of, steps_of}
use Rattle.drill_model.specs.Texts.{step_lines, first_lines, last_lines, drill_text}
use Rattle.drill_model.specs.Growth.{TextGrows}
use Rattle.er_statuses.specs.Answers.{Answer}
use Rattle.er_program.specs.Answers.{AreDone, FirstFault, IsDrillAnswer, IsWhole, BreaksOff, first_steps, lines_of_first, fault_behind_first, fault_answer}

-- ---- what is read of a step

-- a step of a line that its level has is one of that level
pub of_level : (l : Level) (s : Step) → has_level (levels_of (name_of s)) l ≡ true → IsOfLevel l s
of_level level.Safe (does.Fixed n engine rbc ke kr) is = tt
of_level level.Link (does.Fixed n engine rbc ke kr) is = absurd (cc)
of_level level.LinkSr (does.Fixed n engine rbc ke kr) is = absurd (cc)
of_level level.Full (does.Fixed n engine rbc ke kr) is = absurd (cc)
of_level level.Safe (does.Link n engine rbc ke kr ra rb) is = tt
of_level level.Link (does.Link n engine rbc ke kr ra rb) is = absurd (cc)
of_level level.LinkSr (does.Link n engine rbc ke kr ra rb) is = absurd (cc)
of_level level.Full (does.Link n engine rbc ke kr ra rb) is = tt
of_level level.Safe (does.Wire n) is = absurd (cc)
of_level level.Link (does.Wire n) is = tt
of_level level.LinkSr (does.Wire n) is = tt
of_level level.Full (does.Wire n) is = absurd (cc)
of_level l (does.Send n s text) is = tt
of_level l (does.Pass n s) is = tt
of_level l (does.Lose n s) is = tt
of_level l (does.Repeat n s) is = tt
of_level l (does.Alter n s place mask) is = tt
of_level l (does.Put n s text) is = tt
of_level l (does.Copy n s m t) is = tt
of_level level.Safe (does.Take n s) is = absurd (cc)
of_level level.Link (does.Take n s) is = absurd (cc)
of_level level.LinkSr (does.Take n s) is = absurd (cc)
of_level level.Full (does.Take n s) is = tt
of_level l (does.Release n s sub) is = tt
of_level level.Safe (does.Tick moment) is = absurd (cc)
of_level level.Link (does.Tick moment) is = tt
of_level level.LinkSr (does.Tick moment) is = tt
of_level level.Full (does.Tick moment) is = tt
of_level l (does.Drain n most) is = tt

pub etcs_numbers : (s : Step) → IsInRange s → HasEtcsNumbers s
etcs_numbers (does.Fixed n engine rbc ke kr) range = (range.1, range.2)
etcs_numbers (does.Link n engine rbc ke kr ra rb) range = (range.1, range.2)
etcs_numbers (does.Wire n) range = tt
etcs_numbers (does.Send n s text) range = tt
etcs_numbers (does.Pass n s) range = tt
etcs_numbers (does.Lose n s) range = tt
etcs_numbers (does.Repeat n s) range = tt
etcs_numbers (does.Alter n s place mask) range = tt
etcs_numbers (does.Put n s text) range = tt
etcs_numbers (does.Copy n s m t) range = tt
etcs_numbers (does.Take n s) range = tt
etcs_numbers (does.Release n s sub) range = tt
etcs_numbers (does.Tick moment) range = tt
etcs_numbers (does.Drain n most) range = tt

-- a step of the list is readable
pub readable_at : (l : Level) (xs : List Numbered) (i : ℕ) (x : Numbered) → AreReadableSteps l xs → slice_get xs i ≡ Some x
    → IsReadableStep l x.step
readable_at l [] i x all at = absurd (cc)
readable_at l (y ∷ ys) zero x all at = subst (λ (n : Numbered). IsReadableStep l n.step) (same_Some y x at) all.0
readable_at l (y ∷ ys) (suc i) x all at = readable_at l ys i x all.1 at

-- ---- first steps

-- one step more
pub first_more : (s : Scenario) (i : ℕ) (x : Numbered) → slice_get s.steps i ≡ Some x → first_steps s (i + 1) ≡ first_steps s i ++ x.step ∷ []
first_more s i x at =
    let here : slice_get (steps_of s) i ≡ Some x.step = slice_get-map (λ (n : Numbered). n.step) s.steps i ∙ ap (option_map (λ (n : Numbered). n.step)) at in
    take_more (steps_of s) i x.step (slice_get_within (steps_of s) i x.step here)
    ∙ ap (λ (y : Step). first_steps s i ++ y ∷ []) (get_or_from_slice_get (steps_of s) i x.step x.step here)

pub lines_more : TextGrows → (s : Scenario) (i : ℕ) (x : Numbered) → slice_get s.steps i ≡ Some x
    → lines_of_first s (i + 1) ≡ lines_of_first s i ++ step_lines (plan_of s) (first_steps s i) x.step
lines_more grows s i x at = ap (first_lines (plan_of s)) (first_more s i x at) ∙ grows (plan_of s) (first_steps s i) x.step

-- behind the last step there is no further one
pub all_steps : (s : Scenario) (i : ℕ) → length s.steps ≤ i → first_steps s i ≡ steps_of s
all_steps s i over =
    let long : length (steps_of s) ≡ length s.steps = length-map s.steps (λ (n : Numbered). n.step) in
    take_all i (steps_of s) (omega (arith, long, over))

pub done_more : (s : Scenario) (i : ℕ) (x : Numbered) → AreDone s i → slice_get s.steps i ≡ Some x → fault_behind_first s i x.step ≡ None
    → AreDone s (i + 1)
done_more s i x done at none k y lt is =
    elim (cases_eq k i) [
      | inl same ↦
          let P : ℕ → Type 0 = λ j. slice_get s.steps j ≡ Some y in
          let one : x ≡ y = same_Some x y (sym at ∙ subst P same is) in
          let Q : ℕ → Type 0 = λ j. fault_behind_first s j y.step ≡ None in
          subst Q (sym same) (subst (λ (n : Numbered). fault_behind_first s i n.step ≡ None) one none)
      | inr apart ↦ done k y (omega (arith, lt, apart)) is
    ]

-- behind the last step no further one is to be done
pub done_past : (s : Scenario) (i j : ℕ) → AreDone s i → length s.steps ≤ i → AreDone s j
done_past s i j done over k y lt is = done k y (omega (arith, over, slice_get_within s.steps k y is)) is

-- the next step is done or isn't
judge : (s : Scenario) (i : ℕ) (x : Numbered) (f : Option WorldFault) → AreDone s i → slice_get s.steps i ≡ Some x → fault_behind_first s i x.step ≡ f
    → AreDone s (i + 1) ⊎ FirstFault s
judge s i x None done at is = inl (done_more s i x done at is)
judge s i x (Some fault) done at is = inr (record { count = i; step = x; next = at; are_done = done; fault = fault; is_fault = is })

-- the first steps are all done, or one isn't
pub done_or_not : (s : Scenario) (i : ℕ) → AreDone s i ⊎ FirstFault s
done_or_not s zero = inl (λ k x lt is. absurd (omega (arith, lt)))
done_or_not s (suc i) =
    let plus : i + 1 ≡ suc i = omega arith in
    let P : ℕ → Type 0 = λ j. AreDone s j ⊎ FirstFault s in
    elim (done_or_not s i) [
      | inl done ↦
          elim (slice_get_cases s.steps i).1 [
            | inl here ↦ subst P plus (judge s i here.0 (fault_behind_first s i here.0.step) done here.2 refl)
            | inr past ↦ inl (done_past s i (suc i) done past.0)
          ]
      | inr fault ↦ inr fault
    ]

-- ---- answers

-- a text, and what follows in a longer one
pub record Begins (text whole : List ℕ) : Type 0 where
  pub rest : List ℕ
  pub is : whole ≡ text ++ rest

begins_more : (one two three more : List ℕ) → two ≡ one ++ more → Begins two three → Begins one three
begins_more one two three more is b = record { rest = more ++ b.rest; is = b.is ∙ ap (λ t. t ++ b.rest) is ∙ append_assoc one more b.rest }

-- the lines of first steps begin those of more of them
lines_begin : TextGrows → (s : Scenario) (i d : ℕ) → i + d ≤ length s.steps → Begins (lines_of_first s i) (lines_of_first s (i + d))
lines_begin grows s i zero within =
    let same : i + 0 ≡ i = omega arith in
    record { rest = []; is = ap (lines_of_first s) same ∙ sym (append-nil (lines_of_first s i)) }
lines_begin grows s i (suc d) within =
    let plus : (i + d) + 1 ≡ i + suc d = omega arith in
    let before = lines_begin grows s i d (omega (arith, within)) in
    elim (slice_get_cases s.steps (i + d)).1 [
      | inl here ↦
          let one : List ℕ = step_lines (plan_of s) (first_steps s (i + d)) here.0.step in
          let more : lines_of_first s ((i + d) + 1) ≡ lines_of_first s (i + d) ++ one = lines_more grows s (i + d) here.0 here.2 in
          record {
            rest = before.rest ++ one;
            is = sym (ap (lines_of_first s) plus) ∙ more ∙ ap (λ t. t ++ one) before.is ∙ append_assoc (lines_of_first s i) before.rest one;
          }
      | inr past ↦ absurd (omega (arith, within, past.0))
    ]

-- of steps i and on up to another number
pub lines_begin_to : TextGrows → (s : Scenario) (i j : ℕ) → i ≤ j → j ≤ length s.steps → Begins (lines_of_first s i) (lines_of_first s j)
lines_begin_to grows s i j below within =
    let is : i + (j - i) ≡ j = omega (arith, below) in
    subst (λ k. Begins (lines_of_first s i) (lines_of_first s k)) is (lines_begin grows s i (j - i) (omega (arith, is, within)))

-- each scenario has an answer
pub record HasAnswer (s : Scenario) : Type 0 where
  pub answer : Answer
  pub is : IsDrillAnswer s answer

pub has_answer : (s : Scenario) → HasAnswer s
has_answer s =
    elim (done_or_not s (length s.steps)) [
      | inl done ↦ record { answer = record { status = 0; text = drill_text s }; is = IsWhole done refl }
      | inr first ↦
          record {
            answer = record {
              status = (fault_answer first.step.line first.fault).status;
              text = lines_of_first s first.count ++ (fault_answer first.step.line first.fault).text;
            };
            is = BreaksOff first refl;
          }
    ]

-- a text before more
begins_with : (one two tail : List ℕ) → Begins one two → Begins one (two ++ tail)
begins_with one two tail b = record { rest = b.rest ++ tail; is = ap (λ t. t ++ tail) b.is ∙ append_assoc one b.rest tail }

-- a first fault lies behind the steps that are done
fault_behind_done : (s : Scenario) (i : ℕ) → AreDone s i → (f : FirstFault s) → i ≤ f.count
fault_behind_done s i done f =
    elim (cases_lt f.count i) [
      | inl beyond ↦ absurd (none-some f.fault (sym (done f.count f.step beyond f.next) ∙ f.is_fault))
      | inr within ↦ within
    ]

-- an answer begins with the lines of the steps that are done
pub answer_begins : TextGrows → (s : Scenario) (i : ℕ) → i ≤ length s.steps → AreDone s i → (a : Answer) → IsDrillAnswer s a → Begins (lines_of_first s i) a.text
answer_begins grows s i within done a (IsWhole all is) =
    let end : first_steps s (length s.steps) ≡ steps_of s = all_steps s (length s.steps) (omega arith) in
    let front : Begins (lines_of_first s i) (lines_of_first s (length s.steps)) = lines_begin_to grows s i (length s.steps) within (omega arith) in
    let whole : Begins (lines_of_first s i) (first_lines (plan_of s) (steps_of s)) =
    subst (λ (steps : List Step). Begins (lines_of_first s i) (first_lines (plan_of s) steps)) end front in
    subst (λ (x : Answer). Begins (lines_of_first s i) x.text) (sym is)
    (begins_with (lines_of_first s i) (first_lines (plan_of s) (steps_of s)) (last_lines (plan_of s) (steps_of s)) whole)
answer_begins grows s i within done a (BreaksOff f is) =
    let front : Begins (lines_of_first s i) (lines_of_first s f.count) =
    lines_begin_to grows s i f.count (fault_behind_done s i done f) (omega (arith, slice_get_within s.steps f.count f.step f.next)) in
    subst (λ (x : Answer). Begins (lines_of_first s i) x.text) (sym is)
    (begins_with (lines_of_first s i) (lines_of_first s f.count) (fault_answer f.step.line f.fault).text front)

-- the answer of a scenario whose steps are all done is its text
pub whole_is : (s : Scenario) → AreDone s (length s.steps) → (a : Answer) → IsDrillAnswer s a → a ≡ record { status = 0; text = drill_text s }
whole_is s done a (IsWhole all is) = is
whole_is s done a (BreaksOff f is) =
    absurd (none-some f.fault (sym (done f.count f.step (omega (arith, slice_get_within s.steps f.count f.step f.next)) f.next) ∙ f.is_fault))
