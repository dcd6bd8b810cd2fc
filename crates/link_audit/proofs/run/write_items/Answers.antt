-- One item more, one that isn't written, and the end.
use Rattle.std.proofs.Common.{arith, sym, [], ◌∷◌, ◌∙◌}
use Rattle.std.proofs.lemmas.Result.{err_from_is_err_and}
use Rattle.link_audit.proofs.Written.{leads_then, leads_fault, leads_end}
use Rattle.link_audit.proofs.Printed.{More, Stays, side_next, side_more, side_none}
use Rattle.link_audit.proofs.run.write_items.Goals as goal

pub loop-item-preserved-then-place-lt2 : goal.loop-item-preserved-then-place-lt2
loop-item-preserved-then-place-lt2 g c =
    let item = sym (rw c.in-Some.is at c.first.ensures) in
    let few = c.if-place-lt2.true in
    record {
      leads =
          rw c.advance.ensures.left
          (leads_then _ _ _ (_ ∷ []) _ _ (side_more c.args.link c.args.known.now c.args.side c.loop-item.place _ c.loop-item.items.left c.in-Some.item.now item (More few))
          c.loop-item.invariant.leads _ c.in_ok-write_item.ensures.writes);
      told = c.advance.ensures.told ∙ c.loop-item.invariant.told;
      ends = c.in_ok-write_item.ensures.ends ∙ c.loop-item.invariant.ends;
      place = omega (arith, few);
    }

pub loop-item-preserved : goal.loop-item-preserved
loop-item-preserved g c =
    let item = sym (rw c.in-Some.is at c.first.ensures) in
    let late = c.if-place-lt2.false in
    record {
      leads =
          rw c.advance.ensures.left
          (leads_then _ _ _ (_ ∷ []) _ _ (side_more c.args.link c.args.known.now c.args.side c.loop-item.place _ c.loop-item.items.left c.in-Some.item.now item (Stays (omega (arith, late))))
          c.loop-item.invariant.leads _ c.in_ok-write_item.ensures.writes);
      told = c.advance.ensures.told ∙ c.loop-item.invariant.told;
      ends = c.in_ok-write_item.ensures.ends ∙ c.loop-item.invariant.ends;
      place = c.loop-item.invariant.place;
    }

pub returns-in_err-write_item-clause-writes : goal.returns-in_err-write_item-clause-writes
returns-in_err-write_item-clause-writes g c =
    let item = sym (rw c.in-Some.is at c.first.ensures) in
    let p = err_from_is_err_and c.from_residual.result c.from_residual.ensures.1 in
    rw (p.1, p.2)
    (leads_fault _ _ _ (_ ∷ []) _ _ (side_next c.args.link c.args.known.now c.args.side c.loop-item.place c.loop-item.items.left c.in-Some.item.now item)
    c.loop-item.invariant.leads _ c.in_err-write_item.field-0.0 c.in_err-write_item.ensures.writes)

pub returns-clause-writes : goal.returns-clause-writes
returns-clause-writes g c =
    leads_end _ _ _ _ (side_none c.args.link c.args.known.now c.args.side c.loop-item.place c.loop-item.items.left (sym (rw c.in_default.is at c.first.ensures)))
    c.loop-item.invariant.leads
