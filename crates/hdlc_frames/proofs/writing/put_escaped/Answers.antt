use Rattle.std.proofs.Common.{arith, refl, sym, ◌∙◌}
use Rattle.std.proofs.lemmas.Bool.{eqb-true}
use Rattle.hdlc_frames.proofs.WritingLaws.{part_shorter, run_room, special_room, special_put, run_last, nothing_left}
use Rattle.hdlc_frames.proofs.writing.put_escaped.Goals as goal

pub put-requires : goal.put-requires
put-requires c =
    run_room c.loop-rest.out.items c.loop-rest.rest.now c.args.out.now.items c.args.content.now c.before_flag_or_escape-count.result c.args.out.now.capacity c.loop-rest.out.capacity c.loop-rest.invariant.items
    c.before_flag_or_escape-count.ensures.within c.before_flag_or_escape-count.ensures.none c.loop-rest.invariant.capacity c.requires

pub put-requires-in-loop-rest : goal.put-requires-in-loop-rest
put-requires-in-loop-rest c =
    let count = c.before_flag_or_escape-count.ensures in
    special_room c.loop-rest.out.items c.put.new.self.items c.loop-rest.rest.now c.args.out.now.items c.args.content.now c.before_flag_or_escape-count.result c.args.out.now.capacity c.put.new.self.capacity c.loop-rest.invariant.items
    (omega (arith, count.within, c.if-count-rest.false)) count.none (count.stops (omega (arith, count.within, c.if-count-rest.false))) c.put.ensures.items (c.put.ensures.capacity ∙ c.loop-rest.invariant.capacity) c.requires

pub loop-rest-preserved : goal.loop-rest-preserved
loop-rest-preserved c =
    let count = c.before_flag_or_escape-count.ensures in
    record {
      items =
          special_put c.loop-rest.out.items c.put.new.self.items c.put-in-loop-rest.new.self.items c.loop-rest.rest.now _ c.args.out.now.items c.args.content.now c.before_flag_or_escape-count.result c.loop-rest.invariant.items
          (omega (arith, count.within, c.if-count-rest.false)) count.none (count.stops (omega (arith, count.within, c.if-count-rest.false))) c.put.ensures.items c.put-in-loop-rest.ensures.items refl;
      capacity = c.put-in-loop-rest.ensures.capacity ∙ c.put.ensures.capacity ∙ c.loop-rest.invariant.capacity;
      shorter =
          part_shorter c.loop-rest.rest.now _ c.args.content.now c.before_flag_or_escape-count.result refl c.loop-rest.invariant.shorter;
    }

pub returns-then-count-rest-clause-items : goal.returns-then-count-rest-clause-items
returns-then-count-rest-clause-items c =
    let count = c.before_flag_or_escape-count.ensures in
    run_last c.loop-rest.out.items c.put.new.self.items c.loop-rest.rest.now c.args.out.now.items c.args.content.now c.before_flag_or_escape-count.result c.loop-rest.invariant.items c.if-count-rest.true count.none c.put.ensures.items

pub returns-clause-items : goal.returns-clause-items
returns-clause-items c =
    nothing_left c.loop-rest.out.items c.loop-rest.rest.now c.args.out.now.items c.args.content.now c.loop-rest.invariant.items (eqb-true _ 0 (sym c.is_empty.ensures ∙ c.loop-rest-test.false))
