-- Representation: what is kept of a recording that is held against what a replay prints; no claim rests on it.
use Rattle.std.specs.Prelude.{ℕ, ◌+◌, nat_lt, Bool, List, length, filter}
use Rattle.trace_model.specs.declared.check_verdict.CheckVerdict.{CheckVerdict}
use Rattle.trace_model.specs.Recordings.{unskipped, first_difference, is_outcome_line, verdict_on_rest, verdict_with}

-- where so many lines were read and so many outcomes counted, on the lines that are left
unfoldable pub verdict_left : (number outcomes : ℕ) → (lines printed : List (List ℕ)) → (is_cut : Bool) → CheckVerdict
verdict_left number outcomes lines printed is_cut =
    verdict_with (first_difference (unskipped number lines) printed)
    (verdict_on_rest (number + length lines + 1) is_cut (nat_lt (length (unskipped number lines)) (length printed))
    (outcomes + length (filter is_outcome_line printed)))
