-- One more is asked.
use Rattle.std.proofs.Common.{sym, ap, ◌∙◌, subst}
use Rattle.std.proofs.lemmas.List.{nil_from_length}
use Rattle.std.specs.VecDeque.Iter.{deque_iter_rest}
use Rattle.relay_loop.specs.Rings.{AllIdle}
use Rattle.relay_loop.proofs.live_relay.LiveRelay.until.Goals as goal

pub loop-link-init : goal.loop-link-init
loop-link-init c = λ _ idle.
    subst AllIdle (ap (λ i. deque_iter_rest i) c.into_iter-link-iterator.ensures.into_iter_gives ∙ c.iter-link-items.ensures.rest) idle

pub loop-link-preserved : goal.loop-link-preserved
loop-link-preserved c = λ none idle.
    c.loop-link.invariant (c.earlier-first.ensures.first none)
    (subst AllIdle (sym c.in-Some.ensures.steps) (c.until.ensures (c.earlier-first.ensures.second none), idle))

pub returns : goal.returns
returns c = λ none.
    c.loop-link.invariant none
    (subst AllIdle (sym (nil_from_length (deque_iter_rest c.loop-link.link-iterator) c.in-None.ensures.steps.0)) tt)
