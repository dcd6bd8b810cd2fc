-- Texts that are told one behind the other.
use Rattle.std.proofs.Common.{◌≡◌, ℕ, List, [], ◌∷◌, ◌++◌, map, Option, Some, None, refl, ap, sym, ◌∙◌, append_assoc, append-nil}
use Rattle.std.specs.List.{flat_map}
use Rattle.std.proofs.lemmas.Grind.{flat_map-append}
use Rattle.er_end.specs.declared.deeds.SendRefused.{SendRefused}
use Rattle.er_end.specs.declared.deeds.SendRefused.TheVariants as code
use Rattle.er_end.specs.Shown.{refusal_view}
use Rattle.er_end_model.specs.Outcomes.{Outcome, Refused}
use Rattle.er_end_model.specs.Steps.{if_accepted, if_octets}
use Rattle.er_trace.specs.declared.event.Event.{Event}
use Rattle.er_trace.specs.declared.event.Event.TheVariants.{Send, Take}
use Rattle.er_trace.specs.Outcomes.{TraceOutcome}
use Rattle.trace_model.specs.Printed.{trace_outcome_of}
use Rattle.application_lines.specs.Notices as notice
use Rattle.application_lines.specs.Notices.{ApplicationNotice, notice_text}
use Rattle.application_model.specs.Lines.{notices_of_outcome, notices_of_event}
use Rattle.application_port.specs.Ports.{PortState, NobodyThere, Talking, told_at_port}
use Rattle.application_telling.specs.Refusals.{refusal_shown}
use Rattle.application_telling.specs.Texts.{application_text}

told_twice : (a b : List ℕ) (p : PortState) → told_at_port (a ++ b) p ≡ told_at_port b (told_at_port a p)
told_twice a b NobodyThere = refl
told_twice a b (Talking standing output) = ap (Talking standing) (sym (append_assoc output a b))

traced : (a b : List Outcome) → map trace_outcome_of (a ++ b) ≡ map trace_outcome_of a ++ map trace_outcome_of b
traced [] b = refl
traced (x ∷ a) b = ap (λ (l : List TraceOutcome). trace_outcome_of x ∷ l) (traced a b)

text_append : (conn : ℕ) (what : Event) (a b : List Outcome) → application_text conn what (a ++ b) ≡ application_text conn what a ++ application_text conn what b
unfolding application_text
text_append conn what a b =
    ap (λ (l : List TraceOutcome). flat_map notice_text (notices_of_event conn what l)) (traced a b)
    ∙ ap (flat_map notice_text) (flat_map-append (notices_of_outcome conn what) (map trace_outcome_of a) (map trace_outcome_of b))
    ∙ flat_map-append notice_text (notices_of_event conn what (map trace_outcome_of a)) (notices_of_event conn what (map trace_outcome_of b))

both : (conn : ℕ) (what : Event) (a b : List Outcome) (p : PortState)
    → told_at_port (application_text conn what (a ++ b)) p ≡ told_at_port (application_text conn what b) (told_at_port (application_text conn what a) p)
both conn what a b p =
    ap (λ (t : List ℕ). told_at_port t p) (text_append conn what a b) ∙ told_twice (application_text conn what a) (application_text conn what b) p

none_told : (p : PortState) → told_at_port [] p ≡ p
none_told NobodyThere = refl
none_told (Talking standing output) = ap (Talking standing) (append-nil output)

accepted_silent : (conn : ℕ) (what : Event) (message : Option (List ℕ)) → application_text conn what (if_accepted message) ≡ []
unfolding application_text
accepted_silent conn what None = refl
accepted_silent conn what (Some message) = refl

octets_silent : (conn : ℕ) (what : Event) (octets : List ℕ) → application_text conn what (if_octets octets) ≡ []
unfolding application_text
octets_silent conn what [] = refl
octets_silent conn what (octet ∷ octets) = refl

-- some outcomes, and then others
pub told_more : (conn : ℕ) (what : Event) (a b : List Outcome) (p middle now : PortState) → middle ≡ told_at_port (application_text conn what a) p
    → now ≡ told_at_port (application_text conn what b) middle → now ≡ told_at_port (application_text conn what (a ++ b)) p
told_more conn what a b p middle now first rest =
    rest ∙ ap (told_at_port (application_text conn what b)) first ∙ sym (both conn what a b p)

-- a message that is accepted and octets for the line are no lines
pub accepted_told : (conn : ℕ) (what : Event) (message : Option (List ℕ)) (p : PortState) → p ≡ told_at_port (application_text conn what (if_accepted message)) p
accepted_told conn what message p = sym (ap (λ (t : List ℕ). told_at_port t p) (accepted_silent conn what message) ∙ none_told p)

pub octets_told : (conn : ℕ) (what : Event) (octets : List ℕ) (p : PortState) → p ≡ told_at_port (application_text conn what (if_octets octets)) p
octets_told conn what octets p = sym (ap (λ (t : List ℕ). told_at_port t p) (octets_silent conn what octets) ∙ none_told p)

pub nothing_told : (conn : ℕ) (what : Event) (p : PortState) → p ≡ told_at_port (application_text conn what []) p
unfolding application_text
nothing_told conn what p = sym (none_told p)

-- an outcome of one line
pub one_line : (conn : ℕ) (what : Event) (outcome : Outcome) (notice : ApplicationNotice)
    → notices_of_outcome conn what (trace_outcome_of outcome) ≡ notice ∷ [] → application_text conn what (outcome ∷ []) ≡ notice_text notice
unfolding application_text
one_line conn what outcome notice e =
    ap (λ (notices : List ApplicationNotice). flat_map notice_text (notices ++ [])) e ∙ append-nil (notice_text notice)

pub told_line : (conn : ℕ) (what : Event) (outcome : Outcome) (notice : ApplicationNotice) (p now : PortState)
    → notices_of_outcome conn what (trace_outcome_of outcome) ≡ notice ∷ [] → now ≡ told_at_port (notice_text notice) p
    → now ≡ told_at_port (application_text conn what (outcome ∷ [])) p
told_line conn what outcome notice p now e told = told ∙ ap (λ (t : List ℕ). told_at_port t p) (sym (one_line conn what outcome notice e))

-- and of none
pub told_none : (conn : ℕ) (what : Event) (outcome : Outcome) (p : PortState) → notices_of_outcome conn what (trace_outcome_of outcome) ≡ []
    → p ≡ told_at_port (application_text conn what (outcome ∷ [])) p
unfolding application_text
told_none conn what outcome p e =
    sym (ap (λ (notices : List ApplicationNotice). told_at_port (flat_map notice_text (notices ++ [])) p) e ∙ none_told p)

pub refused_line : (conn : ℕ) (text : List ℕ) (why : SendRefused)
    → notices_of_outcome conn (Send text) (trace_outcome_of (Refused (refusal_view why))) ≡ notice.Refused conn text (refusal_shown why) ∷ []
refused_line conn text (code.Released release) = refl
refused_line conn text code.NotConnected = refl
refused_line conn text (code.Length found) = refl
refused_line conn text (code.Full waiting) = refl

pub refused_none : (conn : ℕ) (why : SendRefused) → notices_of_outcome conn Take (trace_outcome_of (Refused (refusal_view why))) ≡ []
refused_none conn (code.Released release) = refl
refused_none conn code.NotConnected = refl
refused_none conn (code.Length found) = refl
refused_none conn (code.Full waiting) = refl
