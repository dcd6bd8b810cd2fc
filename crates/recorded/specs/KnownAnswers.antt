-- Known answers: a session of three acts and a close, whose recording fails at its second write.
use Rattle.std.proofs.Common.{◌≡◌, true, false, List, [], ◌∷◌, refl}
use Rattle.link_trait.specs.declared.wires.WriteAnswer.TheVariants as write_answer
use Rattle.outside.specs.Acts.{Sent, Closed, Act, Wrote, Called, Asked}
use Rattle.recorded.specs.Recordings.{octets_written_in, octets_offered_in, acts_but_writes, inward_acts, acts_behind_fault}

-- two octets of a line are written, octets go, one more is written, the clock is asked, and the close isn't done any more
abbrev pub session_of_program : List Act
session_of_program =
    Wrote (1 ∷ 2 ∷ []) true ∷ Called (Sent 1 (7 ∷ 8 ∷ []) (write_answer.Some 2)) ∷ Wrote (3 ∷ []) true ∷ Asked 5 ∷ Called (Closed 1) ∷ Wrote (4 ∷ []) false ∷ []

abbrev pub session_inside : List Act
session_inside = Wrote (1 ∷ 2 ∷ []) true ∷ Called (Sent 1 (7 ∷ 8 ∷ []) (write_answer.Some 2)) ∷ Asked 5 ∷ Wrote (3 ∷ []) false ∷ []

written_of_session : octets_written_in session_of_program ≡ 1 ∷ 2 ∷ 3 ∷ []
unfolding octets_written_in
written_of_session = refl

written_inside : octets_written_in session_inside ≡ 1 ∷ 2 ∷ []
unfolding octets_written_in
written_inside = refl

offered_of_session : octets_offered_in session_of_program ≡ 1 ∷ 2 ∷ 3 ∷ 4 ∷ []
unfolding octets_offered_in
offered_of_session = refl

acts_of_session : acts_but_writes session_of_program ≡ Called (Sent 1 (7 ∷ 8 ∷ []) (write_answer.Some 2)) ∷ Asked 5 ∷ Called (Closed 1) ∷ []
unfolding acts_but_writes
acts_of_session = refl

inward_of_session : inward_acts session_of_program ≡ Asked 5 ∷ []
unfolding inward_acts
inward_of_session = refl

behind_fault_inside : acts_behind_fault session_inside ≡ []
unfolding acts_behind_fault
behind_fault_inside = refl
