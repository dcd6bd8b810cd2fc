-- The lines of some outcomes, and then those of others.
use Rattle.std.proofs.Common.{◌≡◌, ℕ, List, [], ◌∷◌, ◌++◌, refl, ap, sym, ◌∙◌, append_assoc}
use Rattle.er_base.specs.LineTexts.{line_text}
use Rattle.er_end_model.specs.Outcomes.{Outcome}
use Rattle.er_trace.specs.Texts.{outcome_words}
use Rattle.trace_model.specs.Printed.{trace_outcome_of, outcomes_text}

text_parts : (conn : ℕ) (a b : List Outcome) → outcomes_text conn (a ++ b) ≡ outcomes_text conn a ++ outcomes_text conn b
unfolding outcomes_text
text_parts conn [] b = refl
text_parts conn (o ∷ a) b =
    ap (λ (t : List ℕ). line_text (outcome_words conn (trace_outcome_of o)) ++ t) (text_parts conn a b)
    ∙ sym (append_assoc (line_text (outcome_words conn (trace_outcome_of o))) (outcomes_text conn a) (outcomes_text conn b))

pub tells_more : (conn : ℕ) (a b : List Outcome) (out mid new : List ℕ)
    → mid ≡ out ++ outcomes_text conn a → new ≡ mid ++ outcomes_text conn b → new ≡ out ++ outcomes_text conn (a ++ b)
tells_more conn a b out mid new p q = rw (q, p, text_parts conn a b) (append_assoc out (outcomes_text conn a) (outcomes_text conn b))
