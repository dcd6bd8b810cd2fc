-- All that is left of a stream of which nothing was heard.
use Rattle.std.proofs.Common.{sym, ◌∙◌}
use Rattle.link_audit.proofs.Feeding.{whole_items, whole_told, first_pending}
use Rattle.link_audit.proofs.items.Items.new.Goals as goal

pub returns-clause-left : goal.returns-clause-left
returns-clause-left c =
    let at = c.new-stream.ensures in
    first_pending c.next-has_item.result c.new-stream.result c.next-has_item.new.self c.next-has_item.ensures.some c.next-has_item.ensures.none
    ∙ whole_items c.kept_stands_for_stream.ensures c.hearing_turns.ensures c.args.side c.new-stream.result c.args.link c.args.lines.now at.lines at.piece at.link at.kept at.ear

pub returns-clause-told : goal.returns-clause-told
returns-clause-told c =
    let at = c.new-stream.ensures in
    sym c.next-has_item.ensures.told
    ∙ whole_told c.kept_stands_for_stream.ensures c.hearing_turns.ensures c.args.side c.new-stream.result c.args.link c.args.lines.now at.lines at.piece at.link at.kept at.ear
