use Rattle.drill_laws.proofs.laws.stack_laws.Goals as goal

pub returns : goal.returns
returns c = record {
  prefix = c.prefix.ensures;
  one_frame = c.one_frame.ensures;
  reasons = c.losing_line_reasons.ensures;
  delivery = c.delivery.ensures;
  deliveries_bound = c.delivery_bound.ensures.bound;
  drain_empties = c.delivery_bound.ensures.drain;
  only = c.steps.ensures.only;
  opens = c.stacks_report.ensures.opens;
  calls = c.stacks_report.ensures.calls;
  marks = c.marks_grow.ensures;
}
