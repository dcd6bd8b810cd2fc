-- Events and outcomes that are in the grammar of traces.
use Rattle.std.proofs.Common.{◌≡◌, ℕ, List, [], ◌∷◌, ◌++◌, Option, Some, None, ◌∙◌, ap}
use Rattle.er_base.specs.LineTexts.{line_text}
use Rattle.er_base.specs.Octets.{AreOctets}
use Rattle.er_trace.specs.Texts.{entry_words, IsReadableEntry}
use Rattle.er_trace.specs.declared.event.Event.{Event}
use Rattle.er_end_model.specs.Outcomes.{Outcome}
use Rattle.er_end_model.specs.Steps.{if_connected, if_octets}
use Rattle.trace_model.specs.Printed.{outcomes_text}
use Rattle.loop_model.specs.Grammar.{HaveOctets}
use Rattle.loop_model.specs.Journals.{entry_text, trace_line_of}
use Rattle.loop_session.specs.Giving.{journal_entry_of_event, Tells}

-- octets for the line
pub octets_have : (octets : List ℕ) → AreOctets octets → HaveOctets (if_octets octets)
octets_have [] p = tt
octets_have (x ∷ xs) p = (p, tt)

have_both : (xs ys : List Outcome) → HaveOctets xs → HaveOctets ys → HaveOctets (xs ++ ys)
have_both [] ys p q = q
have_both (x ∷ xs) ys p q = (p.0, have_both xs ys p.1 q)

pub three_have : (xs ys zs : List Outcome) → HaveOctets xs → HaveOctets ys → HaveOctets zs → HaveOctets (xs ++ ys ++ zs)
three_have xs ys zs p q r = have_both (xs ++ ys) zs (have_both xs ys p q) r

pub deeds_have : (connected : Option ℕ) (xs ys zs : List Outcome) → HaveOctets xs → HaveOctets ys → HaveOctets zs → HaveOctets (if_connected connected ++ xs ++ ys ++ zs)
deeds_have None xs ys zs p q r = three_have xs ys zs p q r
deeds_have (Some peer) xs ys zs p q r = (tt, three_have xs ys zs p q r)

-- the lines of an event in its ranges, with outcomes in octets
pub tells_so : (moment conn : ℕ) (event : Event) (outcomes : List Outcome) (before front lines : List ℕ) → before ≡ []
    → front ≡ before ++ line_text (entry_words moment conn event) → lines ≡ front ++ outcomes_text conn outcomes
    → IsReadableEntry (trace_line_of (journal_entry_of_event moment conn event outcomes)) → HaveOctets outcomes → Tells (journal_entry_of_event moment conn event outcomes) lines
unfolding entry_text
tells_so moment conn event outcomes before front lines none p q readable have = record {
  text = q ∙ ap (λ z. z ++ outcomes_text conn outcomes) (p ∙ ap (λ z. z ++ line_text (entry_words moment conn event)) none);
  in_grammar = record { event = readable; outcomes = have };
}
