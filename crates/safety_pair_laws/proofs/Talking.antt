-- Whatever two sides are given, all that comes of it is fine.
use Rattle.std.proofs.Common.{◌≡◌, ℕ, Bool, true, false, List, [], ◌∷◌, ◌++◌, refl, sym, ap, subst, ◌∙◌}
use Rattle.std.specs.Prelude.{◌==◌, ◌&&◌, if◌then◌else◌, map, Option, Some, None}
use Rattle.std.proofs.lemmas.Bool.{and_parts, eqb-true}
use Rattle.er_base.specs.declared.side.Side.{Side}
use Rattle.er_base.specs.declared.side.Side.TheVariants.{E, R}
use Rattle.des_block.specs.declared.triple_key.TripleKey.{TripleKey}
use Rattle.session_keys.specs.Session.{session_of}
use Rattle.safety_automaton.specs.Safety.{Safety, SafetyEvent, SafetyOutcome}
use Rattle.safety_automaton.specs.Rules.{StepsOnly}
use Rattle.safety_automaton.specs.Laws.{TextsTell}
use Rattle.safety_pair_laws.specs.Facts.{SideFact, MarkedFact, at_side, heard_in, facts_of, marked_from, marked}
use Rattle.safety_pair_laws.specs.Openings.{PairOpening, OfFixed, OfKeys, Pair, key_for, safety_of, with_safety, pair_before_events}
use Rattle.safety_pair_laws.specs.Talks.{answer, Talks, Begins, Goes, TalksAreAuthentic}
use Rattle.safety_pair_laws.proofs.Along.{Along, along-append, along-at}
use Rattle.safety_pair_laws.proofs.Honest.{AllHonest}
use Rattle.safety_pair_laws.proofs.Keeping.{CanCall, CanAnswer, IsSteady, steady_more, IsFine, IsProper, proper_step}
use Rattle.safety_pair_laws.proofs.Marking.{marks_grow}

-- both sides know what they should, and all that came is fine
pub record IsSound (opening : PairOpening) (facts : List SideFact) (pair : Pair) : Type 0 where
  pub e : IsSteady opening (marked facts) E pair.e
  pub r : IsSteady opening (marked facts) R pair.r
  pub along : Along (IsFine opening) [] (marked facts)

all_honest : (opening : PairOpening) (seen facts : List MarkedFact) → Along (IsFine opening) seen facts → AllHonest opening facts
all_honest opening seen [] fine = tt
all_honest opening seen (m ∷ facts) fine = (fine.0.honest, all_honest opening (seen ++ m ∷ []) facts fine.1)

steady_at : (opening : PairOpening) (facts : List SideFact) (pair : Pair) (side : Side) → IsSound opening facts pair
    → IsSteady opening (marked facts) side (safety_of pair side)
steady_at opening facts pair E sound = sound.e
steady_at opening facts pair R sound = sound.r

-- ---- the beginning

found : (test : Bool) (kr : Option TripleKey) (kmac : TripleKey) → (if test then kr else None) ≡ Some kmac → (test ≡ true) × (kr ≡ Some kmac)
found true kr kmac e = (refl, e)
found false kr kmac e = cc

can_call : (engine rbc : ℕ) (ke : TripleKey) (kr : Option TripleKey) (ra rb : ℕ) → CanCall (OfKeys engine rbc ke kr ra rb) rbc ke rb
can_call engine rbc ke kr ra rb c me peer own session =
    record { me = me; peer = peer; own = own; session = session ∙ ap (session_of ke c.ra) own }

can_answer : (engine rbc : ℕ) (ke : TripleKey) (kr : Option TripleKey) (ra rb : ℕ) → CanAnswer (OfKeys engine rbc ke kr ra rb) ra
can_answer engine rbc ke kr ra rb c kmac key me own session =
    let both : (((engine == c.peer) && (rbc == c.me)) ≡ true) × (kr ≡ Some kmac) = found ((engine == c.peer) && (rbc == c.me)) kr kmac key in
    let parts : ((engine == c.peer) ≡ true) × ((rbc == c.me) ≡ true) = and_parts (engine == c.peer) (rbc == c.me) both.0 in
    record {
      me = me;
      peer = sym (eqb-true engine c.peer parts.0);
      own = own;
      kmac = kmac;
      found = both.1;
      session = session ∙ ap (λ (n : ℕ). session_of kmac n c.rb) own;
    }

sound_begun : (opening : PairOpening) → IsSound opening [] (pair_before_events opening)
sound_begun (OfFixed engine rbc ke kr) =
    record { e = record { role_is = refl; me_is = refl; knows = (refl, refl) }; r = record { role_is = refl; me_is = refl; knows = (refl, refl) }; along = tt }
sound_begun (OfKeys engine rbc ke kr ra rb) =
    record {
      e = record { role_is = refl; me_is = refl; knows = can_call engine rbc ke kr ra rb };
      r = record { role_is = refl; me_is = refl; knows = can_answer engine rbc ke kr ra rb };
      along = tt;
    }

-- ---- a step

with_side : (opening : PairOpening) (seen news : List MarkedFact) (pair : Pair) (side : Side) (next : Safety) → IsSteady opening seen E pair.e
    → IsSteady opening seen R pair.r → IsSteady opening (seen ++ news) side next
    → IsSteady opening (seen ++ news) E (with_safety pair side next).e × IsSteady opening (seen ++ news) R (with_safety pair side next).r
with_side opening seen news pair E next e r steady = (steady, steady_more opening seen news R pair.r r)
with_side opening seen news pair R next e r steady = (steady_more opening seen news E pair.e e, steady)

module _ (only : StepsOnly) (tell : TextsTell) where
  sound_step : (opening : PairOpening) (facts : List SideFact) (pair : Pair) (side : Side) (event : SafetyEvent) → IsSound opening facts pair
      → IsSound opening (facts ++ map (at_side side) (facts_of event (answer opening pair side event).1)) (with_safety pair side (answer opening pair side event).0)
  sound_step opening facts pair side event sound =
      let a : Safety × SafetyOutcome = answer opening pair side event in
      let seen : List MarkedFact = marked facts in
      let more : List SideFact = map (at_side side) (facts_of event a.1) in
      let news : List MarkedFact = marked_from seen more in
      let proper : IsProper opening seen side (heard_in event) a.0 a.1 =
      proper_step tell opening seen side (safety_of pair side) event a.0 a.1 (all_honest opening [] seen sound.along) (steady_at opening facts pair side sound)
      (only (key_for opening) (safety_of pair side) event) in
      let whole : marked (facts ++ more) ≡ seen ++ news = marks_grow [] facts more in
      let P : List MarkedFact → Type 0 = λ ms.
      IsSteady opening ms E (with_safety pair side a.0).e × IsSteady opening ms R (with_safety pair side a.0).r × Along (IsFine opening) [] ms in
      let ends = with_side opening seen news pair side a.0 sound.e sound.r proper.steady in
      let there : P (marked (facts ++ more)) = subst P (sym whole) (ends.0, ends.1, along-append (IsFine opening) [] seen news sound.along proper.along) in
      record { e = there.0; r = there.1; along = there.2 }

  pub sound_talk : (opening : PairOpening) (facts : List SideFact) (pair : Pair) → Talks opening facts pair → IsSound opening facts pair
  sound_talk opening _ _ Begins = sound_begun opening
  sound_talk opening _ _ (Goes facts pair side event talks) = sound_step opening facts pair side event (sound_talk opening facts pair talks)

  pub talks_are_authentic : TalksAreAuthentic
  talks_are_authentic opening facts pair talks before after m split =
      let whole : Along (IsFine opening) [] (before ++ m ∷ after) = subst (Along (IsFine opening) []) split (sound_talk opening facts pair talks).along in
      let here : IsFine opening before m = along-at (IsFine opening) [] before after m whole in
      here.authentic
