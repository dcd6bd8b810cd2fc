-- The printed text of a trace grows event by event, and an answer goes on from the text of the events that are taken.
use Rattle.std.proofs.Common.{◌≡◌, ℕ, inl, inr, ◌⊎◌, List, [], ◌∷◌, ◌++◌, length, Option, Some, None, refl, ap, sym, subst, ◌∙◌, append_assoc, append-nil, length-append, arith}
use Rattle.er_base.specs.LineTexts.{line_text}
use Rattle.er_settings.specs.Values.{Settings}
use Rattle.er_trace.specs.declared.entry.Entry.{Entry}
use Rattle.er_trace.specs.Texts.{header_words}
use Rattle.er_end_model.specs.Steps.{Finds}
use Rattle.trace_model.specs.declared.replay_fault.ReplayFault.{ReplayFault}
use Rattle.trace_model.specs.Checks.{fault_of_trace_event}
use Rattle.trace_model.specs.Printed.{entry_text, entries_text, text_of_trace}
use Rattle.trace_model.specs.Replays.{AreTaken}
use Rattle.er_program.specs.Answers.{replay_fault_line, IsReplayAnswer, AllAreTaken, OneIsRefused}
use Rattle.er_statuses.specs.Answers.{Answer}

-- ---- the text

text_append : (s : Settings) (f : Finds) (before xs ys : List Entry)
    → entries_text s f before (xs ++ ys) ≡ entries_text s f before xs ++ entries_text s f (before ++ xs) ys
unfolding entries_text
text_append s f before [] ys = sym (ap (λ (b : List Entry). entries_text s f b ys) (append-nil before))
text_append s f before (x ∷ xs) ys =
    let further = text_append s f (before ++ x ∷ []) xs ys in
    let same : (before ++ x ∷ []) ++ xs ≡ before ++ x ∷ xs = append_assoc before (x ∷ []) xs in
    ap (λ t. entry_text s f before x ++ t) (further ∙ ap (λ (b : List Entry). entries_text s f (before ++ x ∷ []) xs ++ entries_text s f b ys) same)
    ∙ sym (append_assoc (entry_text s f before x) (entries_text s f (before ++ x ∷ []) xs) (entries_text s f (before ++ x ∷ xs) ys))

-- the text of events, and of others behind them
pub printed_more : (s : Settings) (f : Finds) (xs ys : List Entry) → text_of_trace s f (xs ++ ys) ≡ text_of_trace s f xs ++ entries_text s f xs ys
printed_more s f xs ys =
    ap (λ t. line_text (header_words s) ++ t) (text_append s f [] xs ys)
    ∙ sym (append_assoc (line_text (header_words s)) (entries_text s f [] xs) (entries_text s f xs ys))

-- ---- events that are taken

-- a place in a list with one more behind it is the last one, or one before it
split_more : (xs : List Entry) (e : Entry) (ys : List Entry) (y : Entry) (zs : List Entry) → xs ++ e ∷ [] ≡ ys ++ y ∷ zs
    → ((ys ≡ xs) × (y ≡ e)) ⊎ ((ws : List Entry) × (xs ≡ ys ++ y ∷ ws))
split_more [] e [] y zs is = inl (refl, cc)
split_more [] e (b ∷ ys) y zs is = absurd (omega (arith, ap length is, length-append ys (y ∷ zs)))
split_more (a ∷ xs) e [] y zs is = inr (xs, cc)
split_more (a ∷ xs) e (b ∷ ys) y zs is =
    let head : a ≡ b = cc in
    let rest : xs ++ e ∷ [] ≡ ys ++ y ∷ zs = cc in
    elim (split_more xs e ys y zs rest) [
      | inl last ↦ inl (rw (head, last.0) refl, last.1)
      | inr before ↦ inr (before.0, rw head (ap (λ (ws : List Entry). b ∷ ws) before.1))
    ]

pub taken_none : (s : Settings) (f : Finds) → AreTaken s f []
taken_none s f = λ first entry rest is. absurd (omega (arith, ap length is, length-append first (entry ∷ rest)))

pub taken_more : (s : Settings) (f : Finds) (xs : List Entry) (e : Entry) → AreTaken s f xs → fault_of_trace_event s f xs e ≡ None → AreTaken s f (xs ++ e ∷ [])
taken_more s f xs e taken none = λ first entry rest is.
    elim (split_more xs e first entry rest is) [
      | inl last ↦ rw (last.0, last.1) none
      | inr before ↦ taken first entry before.0 before.1
    ]

-- ---- answers

-- an answer whose text begins with this one
pub record Begins (s : Settings) (f : Finds) (entries : List Entry) (front : List ℕ) : Type 0 where
  pub answer : Answer
  pub is : IsReplayAnswer s f entries answer
  pub rest : List ℕ
  pub text_is : answer.text ≡ front ++ rest

begins_on : (s : Settings) (f : Finds) (first : List Entry) (e : Entry) (rest : List Entry) → AreTaken s f first → (fault : Option ReplayFault) → fault_of_trace_event s f first e ≡ fault
    → (AreTaken s f (first ++ e ∷ []) → Begins s f ((first ++ e ∷ []) ++ rest) (text_of_trace s f (first ++ e ∷ []))) → Begins s f (first ++ e ∷ rest) (text_of_trace s f first)
begins_on s f first e rest taken (Some fault) is further = record {
  answer = record { status = 3; text = text_of_trace s f first ++ replay_fault_line fault };
  is = OneIsRefused fault (record { first = first; entry = e; rest = rest; is = refl; taken = taken; refused = is }) refl;
  rest = replay_fault_line fault;
  text_is = refl;
}
begins_on s f first e rest taken None is further =
    let it = further (taken_more s f first e taken is) in
    let same : (first ++ e ∷ []) ++ rest ≡ first ++ e ∷ rest = append_assoc first (e ∷ []) rest in
    record {
      answer = it.answer;
      is = subst (λ (entries : List Entry). IsReplayAnswer s f entries it.answer) same it.is;
      rest = entries_text s f first (e ∷ []) ++ it.rest;
      text_is =
          it.text_is ∙ ap (λ t. t ++ it.rest) (printed_more s f first (e ∷ []))
          ∙ append_assoc (text_of_trace s f first) (entries_text s f first (e ∷ [])) it.rest;
    }

pub begins : (s : Settings) (f : Finds) (first rest : List Entry) → AreTaken s f first → Begins s f (first ++ rest) (text_of_trace s f first)
begins s f first [] taken = record {
  answer = record { status = 0; text = text_of_trace s f (first ++ []) };
  is = AllAreTaken (rw (append-nil first) taken) refl;
  rest = [];
  text_is = ap (text_of_trace s f) (append-nil first) ∙ sym (append-nil (text_of_trace s f first));
}
begins s f first (e ∷ rest) taken =
    begins_on s f first e rest taken (fault_of_trace_event s f first e) refl (λ more. begins s f (first ++ e ∷ []) rest more)
