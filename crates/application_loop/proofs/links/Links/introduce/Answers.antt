-- The application is told of each connection that stands, one after the other.
use Rattle.std.proofs.Common.{◌≡◌, ◌∙◌, ◌+◌, ◌<◌, ℕ, List, [], drop, length, slice_index_or, subst, ap, arith}
use Rattle.std.proofs.Math.Seq.{drop-length}
use Rattle.application_serving.specs.Going.{and_then}
use Rattle.application_serving.specs.GoingSteps.{serves_of_going}
use Rattle.application_loop.specs.Standing.{scene, Serving}
use Rattle.application_loop.specs.declared.link.Link.{Link}
use Rattle.application_loop.proofs.Happenings.{part_broke_off}
use Rattle.application_loop.proofs.Introducing.{introduces, introduces_begins, introduces_next, introduces_ends, one_visited}
use Rattle.application_loop.proofs.links.Links.introduce.Goals as goal

pub loop-link-init : goal.loop-link-init
loop-link-init c told run beside rest serving = introduces_begins rest serving

pub returns-in_err-introduce : goal.returns-in_err-introduce
returns-in_err-introduce c told moment run beside rest now serving =
    part_broke_off _ run beside rest _ c.from_residual.result c.from_residual.ensures.1 (serves_of_going serving.going)

pub loop-link-preserved : goal.loop-link-preserved
loop-link-preserved c told run beside rest serving =
    let links = c.args.self.now.list.items in
    let place = c.loop-link.link-index in
    let told_so = c.in_ok-introduce.ensures in
    introduces_next rest c.link-item.result (drop (place + 1) links) c.introduce.new.desk told_so.told told_so.opened told_so.connected told_so.messages
    (subst (λ (l : List Link). Serving run beside (and_then (introduces l) rest) (scene told links c.loop-link.desk))
    (one_visited links place c.link-item.result (subst (λ (l : List Link). place < length l) c.deref-link-items.ensures.value c.loop-link-test.true)
    (c.link-item.is ∙ ap (λ (l : List Link). slice_index_or l place c.link-item.result) c.deref-link-items.ensures.value)) (c.loop-link.invariant told run beside rest serving))

pub returns : goal.returns
returns c told moment run beside rest now serving =
    let links = c.args.self.now.list.items in
    let place = c.loop-link.link-index in
    let past : place ≡ length c.deref-link-items.result.now = omega (arith, c.loop-link-test.false, c.loop-link.auto.link-index-end) in
    let done : drop place links ≡ [] =
    ap (λ (n : ℕ). drop n links) (past ∙ ap (λ (l : List Link). length l) c.deref-link-items.ensures.value) ∙ drop-length links in
    let on =
    introduces_ends rest
    (subst (λ (l : List Link). Serving run beside (and_then (introduces l) rest) (scene told links c.loop-link.desk)) done
    (c.loop-link.invariant told run beside rest serving)) in
    record { deeds = on.deeds; going = on.going; leaves = on.stands }
