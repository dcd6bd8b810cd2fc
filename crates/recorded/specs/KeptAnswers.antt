-- Representation: known answers of what is kept, of the same session.
use Rattle.std.proofs.Common.{◌≡◌, true, [], ◌∷◌, refl, true≢false}
use Rattle.link_trait.specs.declared.wires.WriteAnswer.TheVariants as write_answer
use Rattle.outside.specs.Acts.{Sent, Closed, Called, Asked}
use Rattle.recorded.specs.Recordings.{octets_written_in, octets_offered_in, acts_but_writes, inward_acts, acts_behind_fault}
use Rattle.recorded.specs.Keeping.{outward_marks_behind, outward_marks, marks_outside, octets_outside, IsKept}
use Rattle.recorded.specs.KnownAnswers.{session_of_program, session_inside}

marks_of_session : outward_marks session_of_program
    ≡ record { written = 1 ∷ 2 ∷ []; acts = []; act = Called (Sent 1 (7 ∷ 8 ∷ []) (write_answer.Some 2)) }
    ∷ record { written = 1 ∷ 2 ∷ 3 ∷ []; acts = Called (Sent 1 (7 ∷ 8 ∷ []) (write_answer.Some 2)) ∷ Asked 5 ∷ []; act = Called (Closed 1) } ∷ []
unfolding outward_marks outward_marks_behind
marks_of_session = refl

-- and the rule holds of the two
session_is_kept : IsKept session_inside session_of_program [] true
unfolding octets_written_in octets_offered_in octets_outside acts_but_writes inward_acts acts_behind_fault outward_marks outward_marks_behind marks_outside
session_is_kept = record {
  fault = refl;
  still = refl;
  waits = λ h. absurd (true≢false h);
  sound = λ h. absurd (true≢false h);
  offered = refl;
  acts = λ h. absurd (true≢false h);
  inward = refl;
  marks = refl;
  untold = refl;
  none = λ h. absurd (true≢false h);
}
