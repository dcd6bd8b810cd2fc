-- What the lines so far made of a unit.
use Rattle.std.proofs.Common.{arith, ◌≡◌, ℕ, zero, suc, ◌+◌, ◌<◌, List, [], ◌∷◌, length, drop, get_or, refl, ap, subst, sym, ◌∙◌, ◌≤◌, if◌then◌else◌}
use Rattle.std.proofs.lemmas.List.{drop_more, drop_all}
use Rattle.er_base.specs.declared.side.Side.{Side}
use Rattle.relay_script.specs.declared.script_line.ScriptLine.{ScriptLine}
use Rattle.relay_script.specs.ScriptRanges.{IsLineInRange, AreLinesInRange}
use Rattle.relay_model.specs.Loads as model
use Rattle.relay_model.specs.Loads.{load_as_it_came, line_names, load_changed, load_by, load_of_unit}
use Rattle.relay_carrier.specs.declared.load.Load.{Load}
use Rattle.relay_carrier.specs.Applying.{Applies}
use Rattle.relay_carrier.specs.Counting.{KeepsLoad}

pub record LoadSoFar (lines : List ScriptLine) (side : Side) (before : List (List ℕ)) (unit : List ℕ) (n : ℕ) (kept : Load) : Type 0 where
  pub so_far : model.Load
  pub keeps : KeepsLoad kept so_far
  pub rest : load_by (drop n lines) side before unit so_far ≡ load_of_unit lines side before unit

pub none_applied : (lines : List ScriptLine) (side : Side) (before : List (List ℕ)) (unit : List ℕ) (kept : Load) → KeepsLoad kept (load_as_it_came unit)
    → LoadSoFar lines side before unit 0 kept
none_applied lines side before unit kept k = record { so_far = load_as_it_came unit; keeps = k; rest = refl }

by_first : (line : ScriptLine) (lines : List ScriptLine) (side : Side) (before : List (List ℕ)) (unit : List ℕ) (load : model.Load)
    → load_by (line ∷ lines) side before unit load
    ≡ load_by lines side before unit (if line_names line side before unit then load_changed line.change unit load else load)
unfolding load_by
by_first line lines side before unit load = refl

pub one_applied : (lines : List ScriptLine) (side : Side) (before : List (List ℕ)) (unit : List ℕ) (n : ℕ) (line : ScriptLine) (old new : Load)
    → n < length lines → line ≡ get_or lines n line → LoadSoFar lines side before unit n old → Applies line side before unit old new
    → LoadSoFar lines side before unit (n + 1) new
one_applied lines side before unit n line old new inside is l applies =
    let next = if line_names line side before unit then load_changed line.change unit l.so_far else l.so_far in
    let first : drop n lines ≡ line ∷ drop (n + 1) lines =
    drop_more lines n line inside ∙ ap (λ (x : ScriptLine). x ∷ drop (n + 1) lines) (sym is) in
    record {
      so_far = next;
      keeps = applies l.so_far l.keeps;
      rest =
          sym (by_first line (drop (n + 1) lines) side before unit l.so_far)
          ∙ ap (λ (rest : List ScriptLine). load_by rest side before unit l.so_far) (sym first)
          ∙ l.rest;
    }

by_none : (side : Side) (before : List (List ℕ)) (unit : List ℕ) (load : model.Load) → load_by [] side before unit load ≡ load
unfolding load_by
by_none side before unit load = refl

pub all_applied : (lines : List ScriptLine) (side : Side) (before : List (List ℕ)) (unit : List ℕ) (n : ℕ) (kept : Load) → length lines ≤ n
    → LoadSoFar lines side before unit n kept → KeepsLoad kept (load_of_unit lines side before unit)
all_applied lines side before unit n kept end l =
    let none : drop n lines ≡ [] = drop_all n lines end in
    let is : l.so_far ≡ load_of_unit lines side before unit =
    sym (by_none side before unit l.so_far) ∙ ap (λ (rest : List ScriptLine). load_by rest side before unit l.so_far) (sym none) ∙ l.rest in
    rw (sym is) l.keeps

pub ranged_at : (lines : List ScriptLine) (n : ℕ) (d : ScriptLine) → AreLinesInRange lines → n < length lines → IsLineInRange (get_or lines n d)
ranged_at [] n d h inside = absurd (omega (arith, inside))
ranged_at (x ∷ lines) zero d h inside = h.0
ranged_at (x ∷ lines) (suc n) d h inside = ranged_at lines n d h.1 (omega (arith, inside))

pub ranged_is : (lines : List ScriptLine) (n : ℕ) (x : ScriptLine) → AreLinesInRange lines → n < length lines → x ≡ get_or lines n x → IsLineInRange x
ranged_is lines n x h inside is = subst IsLineInRange (sym is) (ranged_at lines n x h inside)
