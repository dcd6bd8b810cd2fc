-- A script makes no call of the wires and asks no clock.
use Rattle.std.proofs.Common.{ℕ, inl, inr, List, [], ◌∷◌, ◌++◌, Some, None, IsFalse, refl, sym, subst}
use Rattle.std.specs.List.{list_any}
use Rattle.outside.specs.Acts.{Gave, Failed, Spent, Act, Fetched, Wrote, Called, Asked, Drew, is_call, is_question}
use Rattle.outside.specs.Scripts.{End, Script, Ends, Fetches, Prints, Knowing, IsFetchThen, printing, RunsScript}

-- no call and no question is among these acts
pub record AreOffLine (acts : List Act) : Type 0 where
  pub calls : IsFalse (list_any is_call acts)
  pub questions : IsFalse (list_any is_question acts)

none_off_line : AreOffLine []
none_off_line = record { calls = refl; questions = refl }

printing_off_line : (text : List ℕ) (rest : List Act) → AreOffLine rest → AreOffLine (printing text ++ rest)
printing_off_line [] rest off = off
printing_off_line (octet ∷ octets) rest off = record { calls = off.calls; questions = off.questions }

pub off_line_acts : (s : Script) (acts : List Act) (end : End) → RunsScript s acts end → AreOffLine acts
unfolding RunsScript IsFetchThen
off_line_acts (Ends status) acts end runs = subst AreOffLine (sym runs.0) none_off_line
off_line_acts (Fetches name next) [] end runs = none_off_line
off_line_acts (Fetches name next) (Fetched asked (Gave file) ∷ rest) end runs =
    let off : AreOffLine rest = off_line_acts (next (Some file)) rest end runs.1 in record { calls = off.calls; questions = off.questions }
off_line_acts (Fetches name next) (Fetched asked Failed ∷ rest) end runs =
    let off : AreOffLine rest = off_line_acts (next None) rest end runs.1 in record { calls = off.calls; questions = off.questions }
off_line_acts (Fetches name next) (Fetched asked Spent ∷ rest) end runs =
    let off : AreOffLine rest = subst AreOffLine (sym runs.1) none_off_line in record { calls = off.calls; questions = off.questions }
off_line_acts (Fetches name next) (Wrote piece done ∷ rest) end runs = absurd runs
off_line_acts (Fetches name next) (Called call ∷ rest) end runs = absurd runs
off_line_acts (Fetches name next) (Asked moment ∷ rest) end runs = absurd runs
off_line_acts (Fetches name next) (Drew word ∷ rest) end runs = absurd runs
off_line_acts (Prints Is next) acts end (inl p) = subst AreOffLine (sym p.acts_are) (printing_off_line p.text p.rest (off_line_acts next p.rest end p.follows))
off_line_acts (Prints Is next) acts end (inr (inl p)) = subst AreOffLine (sym p.acts_are) (record { calls = refl; questions = refl })
off_line_acts (Prints Is next) acts end (inr (inr p)) = subst AreOffLine (sym p.0) none_off_line
off_line_acts (Knowing Fact next) acts end (inl p) = off_line_acts next acts end p.1
off_line_acts (Knowing Fact next) acts end (inr p) = subst AreOffLine (sym p.0) none_off_line
