-- A link of two stacks is two ends behind steps of their own, whose streams are what was passed to them.
use Rattle.std.proofs.Common.{List, refl, subst}
use Rattle.er_base.specs.declared.side.Side.TheVariants.{E, R}
use Rattle.er_settings.specs.Ranges.{AllAllowed}
use Rattle.er_end_model.specs.Giving.{EventsGive}
use Rattle.drill_model.specs.Outcomes.{Occurrence}
use Rattle.drill_model.specs.Ends.{EndAtLevel}
use Rattle.drill_model.specs.Links.{Link}
use Rattle.drill_model.specs.Worlds.{DrillPlan, history_on, world_run}
use Rattle.drill_model.specs.Growth.{FactsGrow, HistoryGrows, HistoryOfOwn, HistoryOfOther}
use Rattle.drill_model.specs.Hearing.{passed_of}
use Rattle.drill_laws.specs.Stacks.{IsPair, StacksRun}
use Rattle.drill_laws.specs.LawsOfEnds.{StackLaws}
use Rattle.drill_laws.proofs.Hearing.{StreamIs}
use Rattle.drill_laws.proofs.Brought.{Streams, streams_at}
use Rattle.drill_laws.proofs.Stacked.{Numbers, IsStacked}
use Rattle.drill_laws.proofs.StackLaws.{pair_opening, stacked_at}

pair_is : (plan : DrillPlan) (l : Link) (history : List Occurrence) → AllAllowed plan.settings → IsStacked plan.settings l history → Streams l history
    → IsPair plan.settings l history
pair_is plan l history allowed t streams =
    let v = t.sees in
    record {
      s = pair_opening plan.settings l history t allowed;
      kr = t.k.kr;
      steps = t.steps;
      fit = t.fit;
      settings_are = refl;
      opening_is = v.opening_is;
      finds = λ now engine rbc. refl;
      e_is = v.e_is;
      r_is = v.r_is;
      accepted_e = v.accepted_e;
      accepted_r = v.accepted_r;
      ordered = v.order;
      stream_e = subst (λ (end : EndAtLevel). StreamIs end (passed_of R history)) v.e_is streams.e;
      stream_r = subst (λ (end : EndAtLevel). StreamIs end (passed_of E history)) v.r_is streams.r;
    }

pub stacks_run : StackLaws → EventsGive → FactsGrow → HistoryGrows → HistoryOfOwn → HistoryOfOther → StacksRun
stacks_run laws gives facts grow own other plan steps fit allowed n l at engine rbc ke kr ra rb is =
    let history : List Occurrence = history_on n (world_run plan steps).1 in
    let k : Numbers = record { engine = engine; rbc = rbc; ke = ke; kr = kr; ra = ra; rb = rb } in
    pair_is plan l history allowed (stacked_at laws facts grow own other plan steps fit n l at k is)
    (streams_at laws.only gives grow own other plan steps n l at)
