-- The facts of a link of two stacks are those of a talk of their safety sides.
use Rattle.std.proofs.Common.{◌≡◌, ◌∙◌, inl, inr, ℕ, List, Option, Some, sym, subst}
use Rattle.des_block.specs.declared.triple_key.TripleKey.{TripleKey}
use Rattle.er_settings.specs.Values.{Settings}
use Rattle.safety_pair_laws.specs.Openings.{PairOpening, OfKeys}
use Rattle.safety_pair_laws.specs.Talks.{Talks}
use Rattle.drill_model.specs.Outcomes.{Occurrence, facts_in}
use Rattle.drill_model.specs.Links.{Link, OfPair, OfStations, OfStacks}
use Rattle.drill_model.specs.Worlds.{history_on, world_run}
use Rattle.drill_model.specs.Growth.{FactsGrow, HistoryGrows, HistoryOfOwn, HistoryOfOther}
use Rattle.drill_laws.specs.Stacks.{IsTalkOfStacks, StacksTalk}
use Rattle.drill_laws.specs.LawsOfEnds.{StationLaws}
use Rattle.drill_laws.proofs.Stationed.{Either}
use Rattle.drill_laws.proofs.Talking.{Speaks, world_stands}
use Rattle.drill_laws.proofs.Worlds.{AtPlace}

module _ (facts : FactsGrow) (settings : Settings) (engine rbc : ℕ) (ke : TripleKey) (kr : Option TripleKey) (ra rb : ℕ) where
  talk_of : (l : Link) (history : List Occurrence) → l.opening ≡ OfStacks engine rbc ke kr ra rb → Either settings (Speaks facts) l history
      → IsTalkOfStacks (OfKeys engine rbc ke kr ra rb) l history
  talk_of l history is (inl (inl t)) = absurd (let z : OfPair t.opening ≡ OfStacks engine rbc ke kr ra rb = sym t.opening_is ∙ is in cc)
  talk_of l history is (inl (inr t)) =
      let z : OfStacks t.engine t.rbc t.ke t.kr t.ra t.rb ≡ OfStacks engine rbc ke kr ra rb = sym t.opening_is ∙ is in
      let same : OfKeys t.engine t.rbc t.ke t.kr t.ra t.rb ≡ OfKeys engine rbc ke kr ra rb = cc in
      record {
        e = t.e;
        r = t.r;
        e_is = t.e_is;
        r_is = t.r_is;
        talks = subst (λ (o : PairOpening). Talks o (facts_in history) (record { e = t.e.core.safe.safety; r = t.r.core.safe.safety })) same t.talks;
      }
  talk_of l history is (inr w) = absurd (let z : OfStations w.0 ≡ OfStacks engine rbc ke kr ra rb = sym w.1.sees.opening_is ∙ is in cc)

pub stacks_talk : StationLaws → FactsGrow → HistoryGrows → HistoryOfOwn → HistoryOfOther → StacksTalk
stacks_talk laws facts grow own other plan steps n l at engine rbc ke kr ra rb is =
    let history : List Occurrence = history_on n (world_run plan steps).1 in
    let here : AtPlace (Either plan.settings (Speaks facts)) (Some l) history =
    subst (λ (x : Option Link). AtPlace (Either plan.settings (Speaks facts)) x history) at (world_stands laws facts grow own other plan steps n) in
    talk_of facts plan.settings engine rbc ke kr ra rb l history is here
