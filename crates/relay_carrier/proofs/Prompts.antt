-- Where no line delays, what is given is due when it came.
use Rattle.std.proofs.Common.{◌≡◌, ℕ, ◌==◌, ◌+◌, ◌≤◌, nat_lt, Bool, ◌&&◌, if◌then◌else◌, true, false, List, [], ◌∷◌, ◌++◌, refl, sym, ap, ◌∙◌, subst, inl, inr, arith}
use Rattle.std.proofs.lemmas.Bool.{cases_Bool, ltb-false}
use Rattle.er_base.specs.declared.side.Side.{Side}
use Rattle.relay_script.specs.declared.change.Change.{Change}
use Rattle.relay_script.specs.declared.change.Change.TheVariants.{Lose, Repeat, Alter, Put, Delay, Close}
use Rattle.relay_script.specs.declared.script_line.ScriptLine.{ScriptLine}
use Rattle.relay_model.specs.Loads.{Load, load_as_it_came, load_changed, is_same_side, line_names, load_by, load_of_unit}
use Rattle.relay_model.specs.Carried.{due_behind}
use Rattle.relay_carrier.specs.Counting.{within_64_bits}
use Rattle.relay_carrier.specs.Prompt.{IsPromptChange, NoneDelays}

within_most : (x most : ℕ) → x ≤ most → within_64_bits x ≤ most
within_most x most h =
    elim (cases_Bool (nat_lt x 18446744073709551615)) [
      | inl t ↦ rw t h
      | inr f ↦ let less = ltb-false x 18446744073709551615 f in rw f (omega (arith, less, h))
    ]

either_most : (b : Bool) (x y most : ℕ) → x ≤ most → y ≤ most → (if b then x else y) ≤ most
either_most true x y most p q = p
either_most false x y most p q = q

pub due_most : (newest moment due most : ℕ) → due ≡ within_64_bits (due_behind newest moment 0) → newest ≤ most → moment ≤ most → due ≤ most
due_most newest moment due most is p q =
    rw is (within_most (due_behind newest moment 0) most (either_most (nat_lt (moment + 0) newest) newest (moment + 0) most p (omega (arith, q))))

and_first : (a b c : Bool) → (a && b && c) ≡ true → a ≡ true
and_first true b c h = refl
and_first false b c h = h

changed_prompt : (change : Change) (unit : List ℕ) (load : Load) → IsPromptChange change → (load_changed change unit load).delay ≡ load.delay
changed_prompt Lose unit load h = refl
changed_prompt Repeat unit load h = refl
changed_prompt (Alter place mask) unit load h = refl
changed_prompt (Put text) unit load h = refl
changed_prompt (Delay milliseconds) unit load h = absurd h
changed_prompt Close unit load h = refl

by_line : (named : Bool) (line : ScriptLine) (unit : List ℕ) (load : Load) → (named ≡ true → IsPromptChange line.change)
    → (if named then load_changed line.change unit load else load).delay ≡ load.delay
by_line true line unit load h = changed_prompt line.change unit load (h refl)
by_line false line unit load h = refl

prompt_by : (lines : List ScriptLine) (side : Side) (before : List (List ℕ)) (unit : List ℕ) (load : Load) → NoneDelays side lines
    → (load_by lines side before unit load).delay ≡ load.delay
unfolding load_by
prompt_by [] side before unit load none = refl
prompt_by (line ∷ lines) side before unit load none =
    prompt_by lines side before unit (if line_names line side before unit then load_changed line.change unit load else load) none.1
    ∙ by_line (line_names line side before unit) line unit load (λ named. none.0 (and_first (is_same_side line.side side) _ _ named))

pub prompt_load : (lines : List ScriptLine) (side : Side) (before : List (List ℕ)) (unit : List ℕ) → NoneDelays side lines
    → (load_of_unit lines side before unit).delay ≡ 0
prompt_load lines side before unit none = prompt_by lines side before unit (load_as_it_came unit) none

-- a unit
pub unit_most : (lines : List ScriptLine) (side : Side) (before : List (List ℕ)) (unit : List ℕ) (newest moment due most : ℕ) → NoneDelays side lines
    → due ≡ within_64_bits (due_behind newest moment (load_of_unit lines side before unit).delay) → newest ≤ most → moment ≤ most → due ≤ most
unit_most lines side before unit newest moment due most none is p q =
    due_most newest moment due most (is ∙ ap (λ (d : ℕ). within_64_bits (due_behind newest moment d)) (prompt_load lines side before unit none)) p q
