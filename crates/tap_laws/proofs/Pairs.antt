-- An audit of a link that keeps its order finds good what its ends accepted.
use Rattle.std.proofs.Common.{◌≡◌, ◌∙◌, ℕ, true, false, List, [], ◌∷◌, ◌++◌, Some, None, Ok, Err, refl, sym, ap, subst}
use Rattle.er_base.specs.declared.side.Side.{Side}
use Rattle.er_base.specs.declared.side.Side.TheVariants.{E, R}
use Rattle.des_block.specs.declared.triple_key.TripleKey.{TripleKey}
use Rattle.hdlc_station_model.specs.Lines.{IsPrefix}
use Rattle.sapdu.specs.Spelling.{SafetyPdu, Au1, Au2, Au3, Ar, Dt, Di, read_of}
use Rattle.safety_automaton.specs.Rules.{IsOpen}
use Rattle.er_end_model.specs.Ends.{End, Moment, opened, end_run}
use Rattle.er_end_model.specs.Ends as end
use Rattle.pair_model.specs.Steps.{PairStep}
use Rattle.er_end_pair_laws.specs.Openings.{EndLinkOpening, Agree}
use Rattle.er_end_pair_laws.specs.Steps.{AllFit}
use Rattle.er_end_pair_laws.specs.Laws.{end_link_after}
use Rattle.tap_model.specs.Hearing.{heard, items}
use Rattle.tap_model.specs.Given.{received, octets_of_moments, HasHeardStreamTexts}
use Rattle.tap_model.specs.Verdicts.{Read, rb_in, ra_in, random_number_in_item, first_number}
use Rattle.tap_laws.specs.Progress.{Progresses}
use Rattle.tap_laws.specs.LawsBelow.{LawsOfTwoEnds}
use Rattle.tap_laws.specs.Runs.{calling_of, called_of, started_at, AreRuns}
use Rattle.tap_laws.specs.OneEnd.{Tells}
use Rattle.tap_laws.specs.Pairs.{known_to, FindsAccepted, PairsAudited}
use Rattle.tap_laws.proofs.Finding.{Agreed, finds_end}
use Rattle.tap_laws.proofs.Agreeing.{HasHead, prefix_front, head_number, got_all, all_head, call_is, answer_is}
use Rattle.tap_laws.proofs.Alone.{item_head, agreed_calling, agreed_answering}

none_before : (xs ys : List (List ℕ)) → IsPrefix xs ys → ys ≡ [] → xs ≡ []
none_before [] ys h e = refl
none_before (x ∷ xs) ys h e = let f = prefix_front (x ∷ xs) ys h in absurd (let z : x ∷ (xs ++ f.0) ≡ [] = sym f.1 ∙ e in cc)

-- the number that an AU1 tells
abbrev teller : SafetyPdu → ℕ
teller (Au1 id feature rb) = id
teller (Au2 id feature ra mac) = 0
teller (Au3 mac) = 0
teller (Ar mac) = 0
teller (Dt user mac) = 0
teller (Di reason sub) = 0

abbrev teller_in : Read → ℕ
teller_in (Err fault) = 0
teller_in (Ok read) = teller read.0

-- the KMAC that is found for the engine is the engine's
own_kmac : (s : EndLinkOpening) → Agree s → (now id : ℕ) (kmac : TripleKey) → id ≡ s.engine → s.finder now id s.rbc ≡ Some kmac → kmac ≡ s.kmac
own_kmac s agree now id kmac same found =
    let z : Some kmac ≡ Some s.kmac = sym found ∙ ap (λ (n : ℕ). s.finder now n s.rbc) same ∙ agree now in cc

-- what is known of an end by itself: the texts that it was given
pub record Known_end (s : EndLinkOpening) (o : end.Opening) (side : Side) (z : End) : Type 0 where
  pub given : List (List ℕ)
  pub hears : HasHeardStreamTexts side z.stream given z
  pub progress : Progresses s.finder o given z.core
  pub is_live : z.core.released ≡ None → IsOpen z.core.safe.safety.phase

module _ (low : LawsOfTwoEnds) (s : EndLinkOpening) (basic : s.settings.modulo ≡ 8) where
  pub known_r : (e r : End) → AreRuns s e r → Known_end s (called_of s) E r
  known_r e r a =
      let m : End = end_run a.events_r (opened (called_of s)) in
      let g : List (List ℕ) = received a.events_r (opened (called_of s)) in
      let h : HasHeardStreamTexts E (octets_of_moments a.events_r) g m = low.one.heard_is (called_of s) a.events_r basic tt in
      let t : m.stream ≡ octets_of_moments a.events_r = low.streams a.events_r (opened (called_of s)) in
      subst (λ (z : End). Known_end s (called_of s) E z) (sym a.r_is) (record {
        given = g;
        hears = subst (λ (os : List ℕ). HasHeardStreamTexts E os g m) (sym t) h;
        progress = low.one.sides (called_of s) s.finder a.events_r a.r_looks;
        is_live = low.one.live (called_of s) a.events_r;
      })

  pub known_e : (e r : End) → AreRuns s e r → Known_end s (calling_of s) R e
  known_e e r a =
      let events : List Moment = started_at s ∷ a.events_e in
      let m : End = end_run events (opened (calling_of s)) in
      let g : List (List ℕ) = received events (opened (calling_of s)) in
      let h : HasHeardStreamTexts R (octets_of_moments events) g m = low.one.heard_is (calling_of s) events basic refl in
      let t : m.stream ≡ octets_of_moments events = low.streams events (opened (calling_of s)) in
      subst (λ (z : End). Known_end s (calling_of s) R z) (sym a.e_is) (record {
        given = g;
        hears = subst (λ (os : List ℕ). HasHeardStreamTexts R os g m) (sym t) h;
        progress = low.one.sides (calling_of s) s.finder events a.e_looks;
        is_live = low.one.live (calling_of s) events;
      })

  module _ (steps : List PairStep) (fit : AllFit steps) (agree : Agree s) (kept : (end_link_after s steps).order_kept ≡ true) where
    abbrev e : End
    e = (end_link_after s steps).e

    abbrev r : End
    r = (end_link_after s steps).r

    ke : Known_end s (calling_of s) R e
    ke = known_e e r (low.runs s steps)

    kr : Known_end s (called_of s) E r
    kr = known_r e r (low.runs s steps)

    -- where an end accepted messages the other sent some, so it was given its first text: the greeting of that end
    e_tells : (r.core.upper.accepted ≡ [] → ⊥) → Tells (first_number ra_in (items (heard R e.stream))) s.ra
    e_tells some =
        let spoke : e.core.upper.sent ≡ [] → ⊥ = λ none. some (none_before r.core.upper.accepted e.core.upper.sent (low.prefix s steps fit kept).0 none) in
        let g = got_all s.finder (calling_of s) e.core.safe.safety.phase ke.given e.core.upper.accepted e.core.upper.sent ke.progress.stage spoke in
        let first : HasHead g.3.first ke.given = all_head s.finder (calling_of s) g.0 g.1 ke.given e.core.upper.accepted g.3 g.2 in
        let answer = answer_is low.one.wrapped s e.stream ke.given e g.3.first ke.hears (low.greets s steps fit agree kept).1 first in
        record {
          told = s.ra;
          is = head_number ra_in g.3.first (items (heard R e.stream)) (item_head low.one.wrapped R e.stream ke.given e g.3.first ke.hears first)
              ∙ ap (λ (z : Read). random_number_in_item ra_in z) answer.1;
          same = refl;
        }

    r_tells : (e.core.upper.accepted ≡ [] → ⊥) → Tells (first_number rb_in (items (heard E r.stream))) s.rb
    r_tells some =
        let spoke : r.core.upper.sent ≡ [] → ⊥ = λ none. some (none_before e.core.upper.accepted r.core.upper.sent (low.prefix s steps fit kept).1 none) in
        let g = got_all s.finder (called_of s) r.core.safe.safety.phase kr.given r.core.upper.accepted r.core.upper.sent kr.progress.stage spoke in
        let first : HasHead g.3.first kr.given = all_head s.finder (called_of s) g.0 g.1 kr.given r.core.upper.accepted g.3 g.2 in
        let call = call_is low.one.wrapped s r.stream kr.given r g.3.first kr.hears (low.greets s steps fit agree kept).0 first in
        record {
          told = s.rb;
          is = head_number rb_in g.3.first (items (heard E r.stream)) (item_head low.one.wrapped E r.stream kr.given r g.3.first kr.hears first)
              ∙ ap (λ (z : Read). random_number_in_item rb_in z) call;
          same = refl;
        }

    -- the KMAC that is found for whom an AU1 named is the engine's, since the AU1 is
    found_is : (at id rb : ℕ) (x : List ℕ) (kmac : TripleKey) → HasHead x kr.given → read_of x ≡ Ok (Au1 id 1 rb, false) → s.finder at id s.rbc ≡ Some kmac → kmac ≡ s.kmac
    found_is at id rb x kmac head read find =
        let call = call_is low.one.wrapped s r.stream kr.given r x kr.hears (low.greets s steps fit agree kept).0 head in
        own_kmac s agree at id kmac (ap teller_in (sym read ∙ call)) find

    -- so each end is one by itself, beside what the other was passed
    agreed_r : Agreed (known_to s e r) s.finder (called_of s) kr.given r.core.upper.accepted
    agreed_r = agreed_answering low.one.wrapped s.finder s.engine s.rbc s.kmac r.stream e.stream kr.given r s.settings s.rbc s.ra s.moment found_is kr.hears e_tells

    agreed_e : Agreed (known_to s e r) s.finder (calling_of s) ke.given e.core.upper.accepted
    agreed_e = agreed_calling low.one.wrapped s.finder s.engine s.rbc s.kmac e.stream r.stream ke.given e s.settings s.engine s.rbc s.kmac s.rb s.moment refl ke.hears r_tells

    finds_accepted : FindsAccepted s e r
    finds_accepted =
        let at_r = finds_end (known_to s e r) s.finder (called_of s) refl r.stream kr.given r kr.hears kr.progress kr.is_live agreed_r in
        let at_e = finds_end (known_to s e r) s.finder (calling_of s) refl e.stream ke.given e ke.hears ke.progress ke.is_live agreed_e in
        record { at_r = at_r.prefix; at_e = at_e.prefix; all_at_r = at_r.all; all_at_e = at_e.all }

pub pairs_audited : LawsOfTwoEnds → PairsAudited
pairs_audited low s steps fit agree basic kept = finds_accepted low s basic steps fit agree kept
