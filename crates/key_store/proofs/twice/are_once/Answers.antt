use Rattle.std.proofs.Common.{map, ◌∙◌, ap}
use Rattle.key_store.specs.Kept.{key_entry_of}
use Rattle.key_store.specs.Spans.{are_apart}
use Rattle.key_store.proofs.Spans.{apart_is_once}
use Rattle.key_store.proofs.twice.are_once.Goals as goal

pub returns : goal.returns
returns c = c.are_apart.ensures ∙ ap are_apart c.as_slice.ensures.value ∙ apart_is_once (map key_entry_of c.args.entries.now) _ c.list.ensures.range (rw c.list.ensures.list at c.in_ok-put_in_order.ensures)
