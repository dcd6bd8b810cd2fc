use Rattle.drill_laws.proofs.Holding.{holds_always}
use Rattle.drill_laws.proofs.laws.holds.Goals as goal

pub returns : goal.returns
returns c =
    holds_always (record {
      opens = c.worlds.ensures.opens;
      opened = c.worlds.ensures.opened;
      settings = c.settings_stay.ensures;
      room = c.worlds.ensures.room;
      steps = c.steps.ensures;
      lawful = c.lawful.ensures;
      heard = c.heard.ensures;
      arrived = c.payloads.ensures;
      ends = c.ends_answer.ensures;
      takes = c.takes.ensures;
      in_order = c.in_order.ensures;
      reasons = c.losing_line_reasons.ensures;
      unforged = c.order_is_unforged.ensures;
      delivers = c.delivery.ensures;
      repairs = c.recovery.ensures.repairs;
      drains = c.recovery.ensures.drains;
    })
