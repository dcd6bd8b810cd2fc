-- On a line that keeps its order, where the keys agree: the first payload that an end took is the block of the first TPDU that the other gave.
use Rattle.std.proofs.Common.{◌≡◌, ◌∙◌, ℕ, suc, true, false, List, [], ◌∷◌, length, map, take, refl, ap, subst}
use Rattle.cbc_mac.specs.Mac.{mac_of}
use Rattle.sapdu.specs.Spelling.{read_of}
use Rattle.safety_automaton.specs.Safety.{au2_text}
use Rattle.x224_class2.specs.Tpdus.{GivenTpdu, Cr, Cc, Dr, pdu_given, octets_given}
use Rattle.er_end_model.specs.Layers.{Core}
use Rattle.er_end_pair_laws.specs.Openings.{EndLinkOpening}
use Rattle.er_end_pair_laws.specs.Links.{EndLink}
use Rattle.er_end_pair_laws.specs.Laws.{end_link_after}
use Rattle.er_end_pair_laws.specs.Greetings.{IsCallBlock, IsAnswerBlock, Confirms, Parts, StartsWith, Greets}
use Rattle.er_end_pair_laws.specs.LawsBelow.{LawsBelow}
use Rattle.er_end_pair_laws.proofs.Lists.{Each}
use Rattle.er_end_pair_laws.proofs.Locals.{First, Opens, Fits}
use Rattle.er_end_pair_laws.proofs.Constants.{session}
use Rattle.er_end_pair_laws.proofs.Follows.{reads_au1, reads_au2}
use Rattle.er_end_pair_laws.proofs.Own.{Proper, block}
use Rattle.er_end_pair_laws.proofs.Ordered.{after_holds}

-- what holds of the block of the first TPDU that was given holds of the first payload that was taken
first_taken : (P : List ℕ → Type 0) (taken handed : List (List ℕ)) (gave : List GivenTpdu) → taken ≡ take (length taken) handed → handed ≡ map block gave
    → ((g : GivenTpdu) (gs : List GivenTpdu) → gave ≡ g ∷ gs → P (block g)) → StartsWith P taken
first_taken P [] handed gave prefix spelled first = tt
first_taken P (t ∷ ts) handed [] prefix spelled first =
    let none : t ∷ ts ≡ [] = prefix ∙ ap (λ (l : List (List ℕ)). take (suc (length ts)) l) spelled in absurd cc
first_taken P (t ∷ ts) handed (g ∷ gs) prefix spelled first =
    let whole : t ∷ ts ≡ block g ∷ take (length ts) (map block gs) = prefix ∙ ap (λ (l : List (List ℕ)). take (suc (length ts)) l) spelled in
    let same : block g ≡ t = cc in subst P same (first g gs refl)

module _ (below : LawsBelow) (s : EndLinkOpening) where
  calls : (g : GivenTpdu) → First true s.settings.credit s.settings.size g → Proper s true g → Fits g → IsCallBlock s (block g)
  calls (Cr credit size user) first proper fits =
      record {
        tpdu = octets_given (Cr credit size user);
        credit = credit;
        dst = 0;
        src = 1;
        size = size;
        user = user;
        block = refl;
        short = below.short (pdu_given (Cr credit size user)) fits;
        read = below.reading (pdu_given (Cr credit size user)) fits;
        text = ap read_of proper ∙ reads_au1 below.safety s;
      }
  calls _ first proper fits = absurd first

  answers : (g : GivenTpdu) → First false s.settings.credit s.settings.size g → Proper s false g → Fits g → IsAnswerBlock s (block g)
  answers (Cc credit size user) first proper fits =
      Confirms (octets_given (Cc credit size user)) user credit 1 1 size (mac_of (session s) (au2_text true s.engine s.rbc 1 s.ra s.rb)) refl
      (below.short (pdu_given (Cc credit size user)) fits) (below.reading (pdu_given (Cc credit size user)) fits) (ap read_of proper ∙ reads_au2 below.safety s)
  answers (Dr reason user) first proper fits =
      Parts (octets_given (Dr reason user)) user 1 1 reason refl (below.short (pdu_given (Dr reason user)) fits) (below.reading (pdu_given (Dr reason user)) fits)
  answers _ first proper fits = absurd first

  called : (gave : List GivenTpdu) → Opens true s.settings.credit s.settings.size gave → Each (Proper s true) gave → Each Fits gave
      → (g : GivenTpdu) (gs : List GivenTpdu) → gave ≡ g ∷ gs → IsCallBlock s (block g)
  called [] opens proper fits g gs e = absurd cc
  called (x ∷ xs) opens proper fits g gs e =
      let same : x ≡ g = cc in subst (λ (z : GivenTpdu). IsCallBlock s (block z)) same (calls x opens.0 proper.0 fits.0)

  answered : (gave : List GivenTpdu) → Opens false s.settings.credit s.settings.size gave → Each (Proper s false) gave → Each Fits gave
      → (g : GivenTpdu) (gs : List GivenTpdu) → gave ≡ g ∷ gs → IsAnswerBlock s (block g)
  answered [] opens proper fits g gs e = absurd cc
  answered (x ∷ xs) opens proper fits g gs e =
      let same : x ≡ g = cc in subst (λ (z : GivenTpdu). IsAnswerBlock s (block z)) same (answers x opens.0 proper.0 fits.0)

pub greets : LawsBelow → Greets
greets below s steps fits agree kept =
    let l : EndLink = end_link_after s steps in
    let two = (after_holds below s steps fits kept).two in
    let e : Core = l.e.core in
    let r : Core = l.r.core in
    let told_e = two.own_e.told agree in
    let told_r = two.own_r.told agree in (
      first_taken (IsCallBlock s) r.line.taken e.line.handed e.upper.transport.gave two.lines.0.0.prefix two.spelled_e
          (called below s e.upper.transport.gave two.own_e.always.opens told_e.proper two.own_e.always.fits),
      first_taken (IsAnswerBlock s) e.line.taken r.line.handed r.upper.transport.gave two.lines.1.0.prefix two.spelled_r
          (answered below s r.upper.transport.gave two.own_r.always.opens told_r.proper two.own_r.always.fits),
    )
