use Rattle.std.proofs.Common.{◌≡◌, ◌<◌, length, slice_index_or, refl, sym, ap, ◌∙◌, arith}
use Rattle.std.proofs.lemmas.Result.{err_from_is_err_and}
use Rattle.er_users.specs.Saying.{SpokenByUser}
use Rattle.loop_session.proofs.Written.{only_none, only_then}
use Rattle.loop_session.proofs.Deals.{reply_none, reply_more, reply_broke, reply_stays, reply_leaves}
use Rattle.loop_session.proofs.session.Session.reply.Goals as goal

pub loop-k-init : goal.loop-k-init
loop-k-init g c = record {
  prints = λ r. reply_none (g.O.Outside.told c.args.outside.now) r c.args.moment c.args.self.now c.args.scratch.now.replies.texts;
  same = refl;
  number = refl;
  only = only_none _;
}

pub returns-in_err-send-clause-prints : goal.returns-in_err-send-clause-prints
returns-in_err-send-clause-prints g c = λ r.
    let few : c.loop-k.k < length c.args.scratch.now.replies.texts = omega (arith, c.loop-k-test.true, c.len-k-end.ensures.len) in
    let p = err_from_is_err_and c.from_residual.result c.from_residual.ensures.1 in
    rw (p.1, p.2)
    (reply_broke (g.O.Outside.told c.args.outside.now) (g.O.Outside.told c.loop-k.outside) (g.O.Outside.told c.send.new.outside)
    r c.args.moment c.args.self.now c.loop-k.self c.loop-k.k c.args.scratch.now.replies c.text.result.now c.text.result.now _ few
    (c.text.ensures.text ∙ ap (λ (z : SpokenByUser). slice_index_or z.texts c.loop-k.k c.text.result.now) c.loop-k.invariant.same)
    (c.loop-k.invariant.prints r) (c.in_err-send.ensures.prints r))

pub loop-k-preserved : goal.loop-k-preserved
loop-k-preserved g c =
    let few : c.loop-k.k < length c.args.scratch.now.replies.texts = omega (arith, c.loop-k-test.true, c.len-k-end.ensures.len) in
    record {
      prints = λ r.
          reply_more (g.O.Outside.told c.args.outside.now) (g.O.Outside.told c.loop-k.outside) (g.O.Outside.told c.send.new.outside)
          r c.args.moment c.args.self.now c.loop-k.self c.send.new.self c.loop-k.k c.args.scratch.now.replies.texts c.text.result.now c.text.result.now few
          (c.text.ensures.text ∙ ap (λ (z : SpokenByUser). slice_index_or z.texts c.loop-k.k c.text.result.now) c.loop-k.invariant.same)
          (c.loop-k.invariant.prints r) (c.in_ok-send.ensures.prints r);
      same = c.loop-k.invariant.same;
      number = c.in_ok-send.ensures.number ∙ c.loop-k.invariant.number;
      only = only_then _ _ _ c.loop-k.invariant.only c.in_ok-send.ensures.only;
    }

pub returns-in-Some-clause-prints : goal.returns-in-Some-clause-prints
returns-in-Some-clause-prints g c = λ r.
    let all : c.loop-k.k ≡ length c.args.scratch.now.replies.texts = omega (arith, c.loop-k-test.false, c.loop-k.auto.k-end, c.len-k-end.ensures.len) in
    reply_leaves (g.O.Outside.told c.args.outside.now) (g.O.Outside.told c.loop-k.outside) (g.O.Outside.told c.leave.new.outside)
    r c.args.moment c.args.self.now c.loop-k.self c.leave.new.self c.loop-k.k c.args.scratch.now.replies c.in-Some.sub c.leave.result all
    (ap (λ (z : SpokenByUser). z.leave) (sym c.loop-k.invariant.same) ∙ sym c.in-Some.ensures)
    (c.loop-k.invariant.prints r) (c.leave.ensures.prints r)

pub returns-in-None-clause-prints : goal.returns-in-None-clause-prints
returns-in-None-clause-prints g c = λ r.
    let all : c.loop-k.k ≡ length c.args.scratch.now.replies.texts = omega (arith, c.loop-k-test.false, c.loop-k.auto.k-end, c.len-k-end.ensures.len) in
    reply_stays (g.O.Outside.told c.args.outside.now) (g.O.Outside.told c.loop-k.outside) r c.args.moment c.args.self.now c.loop-k.self c.loop-k.k c.args.scratch.now.replies all
    (ap (λ (z : SpokenByUser). z.leave) (sym c.loop-k.invariant.same) ∙ sym c.in-None.ensures) (c.loop-k.invariant.prints r)
