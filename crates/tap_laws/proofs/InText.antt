-- The lines of a side in the text of an audit.
use Rattle.std.proofs.Common.{◌∙◌, inl, inr, ℕ, List, [], ◌∷◌, ◌++◌, refl, sym, ap, subst, append_assoc}
use Rattle.std.specs.Prelude.{Bool}
use Rattle.std.specs.List.{flat_map}
use Rattle.er_base.specs.declared.side.Side.{Side}
use Rattle.er_base.specs.declared.side.Side.TheVariants.{E, R}
use Rattle.er_tap.specs.declared.tap_line.TapLine.{TapLine}
use Rattle.er_end_model.specs.Steps.{Finds}
use Rattle.safety_automaton.specs.Keys.{key_at}
use Rattle.tap_model.specs.Lines.{TapOpening}
use Rattle.tap_model.specs.Texts.{side_text, judged_at}
use Rattle.tap_model.specs.EndTexts.{end_text}
use Rattle.tap_model.specs.AllLinks.{TappedLink, IsAmong, text_of_link, AuditHasAllLinks}
use Rattle.tap_laws.specs.Worlds.{AuditFindsAccepted}
use Rattle.tap_laws.specs.InText.{HasPart, SidesAreInText, TextFindsAccepted}

-- a part of a part
within : (part middle text : List ℕ) → HasPart part middle → HasPart middle text → HasPart part text
within part middle text p q = record {
  before = q.before ++ p.before;
  behind = p.behind ++ q.behind;
  text_is =
      q.text_is ∙ ap (λ (z : List ℕ). q.before ++ (z ++ q.behind)) p.text_is
      ∙ ap (λ (z : List ℕ). q.before ++ z) (append_assoc p.before (part ++ p.behind) q.behind ∙ ap (λ (z : List ℕ). p.before ++ z) (append_assoc part p.behind q.behind))
      ∙ sym (append_assoc q.before p.before (part ++ (p.behind ++ q.behind)));
}

-- the text of one of the links
among_texts : (f : TappedLink → List ℕ) (link : TappedLink) (links : List TappedLink) → IsAmong link links → HasPart (f link) (flat_map f links)
among_texts f link [] h = absurd h
among_texts f link (first ∷ links) (inl same) = record {
  before = [];
  behind = flat_map f links;
  text_is = ap (λ (z : TappedLink). f z ++ flat_map f links) (sym same);
}
among_texts f link (first ∷ links) (inr h) =
    let p = among_texts f link links h in
    record {
      before = f first ++ p.before;
      behind = p.behind;
      text_is = ap (λ (z : List ℕ). f first ++ z) p.text_is ∙ sym (append_assoc (f first) p.before (f link ++ p.behind));
    }

-- the lines of a side in the text of its link
of_link : (ends : Bool) (finds : Finds) (lines : List TapLine) (n : ℕ) (o : TapOpening) (side : Side)
    → HasPart (side_text n side (judged_at finds n o lines side)) (text_of_link ends finds lines (record { number = n; opening = o }))
of_link ends finds lines n o E =
    let e = side_text n E (judged_at finds n o lines E) in
    let r = side_text n R (judged_at finds n o lines R) ++ end_text ends lines n R in
    record { before = []; behind = end_text ends lines n E ++ r; text_is = append_assoc e (end_text ends lines n E) r }
of_link ends finds lines n o R = record {
  before = side_text n E (judged_at finds n o lines E) ++ end_text ends lines n E;
  behind = end_text ends lines n R;
  text_is = refl;
}

pub sides_are_in_text : AuditHasAllLinks → SidesAreInText
sides_are_in_text all ends finds lines in_range n o is side =
    let a = all ends finds lines in_range in
    let part = side_text n side (judged_at finds n o lines side) in
    subst (λ (z : List ℕ). HasPart part z) (sym a.text_is)
    (within part (text_of_link ends finds lines (record { number = n; opening = o })) (flat_map (text_of_link ends finds lines) a.links)
    (of_link ends finds lines n o side)
    (among_texts (text_of_link ends finds lines) (record { number = n; opening = o }) a.links (a.each n o is)))

pub text_finds_accepted : AuditFindsAccepted → SidesAreInText → TextFindsAccepted
text_finds_accepted finds sides plan steps fit allowed modulo n l is keeps ends keys lines in_range m t = record {
  finds = finds plan steps fit allowed modulo n l is keeps keys lines m t;
  of_e = sides ends (key_at keys) lines in_range m _ t.tap_is E;
  of_r = sides ends (key_at keys) lines in_range m _ t.tap_is R;
}
