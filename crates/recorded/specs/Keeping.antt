-- Representation: what holds at each moment between the acts of a program, those inside, and the lines that wait.
use Rattle.std.specs.Prelude.{◌≡◌, ℕ, Bool, false, ◌||◌, List, [], ◌∷◌, ◌++◌, length, drop, IsTrue, IsFalse, if◌then◌else◌}
use Rattle.std.specs.List.{list_any, list_all}
use Rattle.outside.specs.Acts.{Act, is_write, is_sink_fault}
use Rattle.recorded.specs.Recordings.{is_outward, is_untold, octets_written_by, octets_written_in, octets_offered_in}
use Rattle.recorded.specs.Recordings.{unless_write, acts_but_writes, inward_acts, acts_behind_fault}

-- an act that goes out, with the octets that were written before it and the acts before it but the writes
pub record Mark : Type 0 where
  pub written : List ℕ
  pub acts : List Act
  pub act : Act

abbrev pub mark_of : List ℕ → List Act → Act → List Mark
mark_of written acts act = if is_outward act then record { written = written; acts = acts; act = act } ∷ [] else []

-- the marks of acts that stand behind others
unfoldable pub outward_marks_behind : List ℕ → List Act → List Act → List Mark
outward_marks_behind written before [] = []
outward_marks_behind written before (act ∷ acts) =
    mark_of written before act ++ outward_marks_behind (written ++ octets_written_by act) (before ++ unless_write act) acts

unfoldable pub outward_marks : List Act → List Mark
outward_marks acts = outward_marks_behind [] [] acts

-- the marks of the program's acts that aren't inside
unfoldable pub marks_outside : (inside program : List Act) → List Mark
marks_outside inside program = drop (length (outward_marks inside)) (outward_marks program)

unfoldable pub octets_outside : (inside program : List Act) → List ℕ
octets_outside inside program = drop (length (octets_offered_in inside)) (octets_offered_in program)

abbrev pub goes_or_writes : Act → Bool
goes_or_writes act = is_outward act || is_write act

abbrev pub is_untold_mark : Mark → Bool
is_untold_mark mark = is_untold mark.act

-- `failed`: a write failed inside
pub record IsKept (inside program : List Act) (lines : List ℕ) (failed : Bool) : Type 0 where
  pub fault : list_any is_sink_fault inside ≡ failed
  pub still : IsFalse (list_any goes_or_writes (acts_behind_fault inside))
  pub waits : failed ≡ false → octets_written_in inside ++ lines ≡ octets_written_in program
  pub sound : failed ≡ false → IsFalse (list_any is_sink_fault program)
  pub offered : octets_offered_in inside ++ octets_outside inside program ≡ octets_offered_in program
  pub acts : failed ≡ false → acts_but_writes inside ≡ acts_but_writes program
  pub inward : inward_acts inside ≡ inward_acts program
  pub marks : outward_marks inside ++ marks_outside inside program ≡ outward_marks program
  pub untold : IsTrue (list_all is_untold_mark (marks_outside inside program))
  pub none : failed ≡ false → marks_outside inside program ≡ []
