use Rattle.std.proofs.Common.{◌≡◌, ◌≤◌, ◌<◌, ◌∙◌, rules as base, sym, refl, subst, length, drop, List, ℕ, arith}
use Rattle.std.proofs.lemmas.Result.{err_from_is_err_and}
use Rattle.loop_session.specs.Keeping.{kept_ends}
use Rattle.er_end.specs.KeptEnds.{used_of}
use Rattle.loop_model.specs.Sessions.{Hears, handled}
use Rattle.loop_session.specs.Parts.{rules_of_session, BrokeOff, Chose}
use Rattle.loop_session.proofs.Written.{only_none, only_then}
use Rattle.loop_session.proofs.Pourings.{used_moves, pouring_none, pouring_more, pouring_broke, pouring_done, idle_broken, idle_end}
use Rattle.loop_session.proofs.session.Session.pour.Goals as goal

pub loop-at-init : goal.loop-at-init
loop-at-init g c = record {
  pours = pouring_none (rules_of_session (g.K.KeyFinder.entries c.args.keys.now) c.args.when.now.setup) c.args.when.now.moment c.args.octets.now (g.O.Outside.told c.args.outside.now) c.args.self.now;
  most = omega arith;
  number = refl;
  only = only_none _;
}

pub returns-in_err-at-clause-chooses : goal.returns-in_err-at-clause-chooses
returns-in_err-at-clause-chooses g c =
    let less : c.loop-at.at < length c.args.octets.now = search base in
    let p = err_from_is_err_and c.from_residual.result c.from_residual.ensures.1 in
    rw (p.1, p.2)
    (pouring_broke (rules_of_session (g.K.KeyFinder.entries c.args.keys.now) c.args.when.now.setup) c.args.when.now.moment c.args.octets.now c.loop-at.at (g.O.Outside.told c.args.outside.now) (g.O.Outside.told c.loop-at.outside) (g.O.Outside.told c.handle.new.outside)
    c.args.self.now c.loop-at.self c.in_err-at.field-0.0 c.loop-at.invariant.pours less (sym c.is_broken.ensures ∙ c.if-is_broken.false)
    (subst (λ (z : List ℕ). BrokeOff (g.O.Outside.told c.loop-at.outside) (g.O.Outside.told c.handle.new.outside)
    (handled kept_ends (rules_of_session (g.K.KeyFinder.entries c.args.keys.now) c.args.when.now.setup) c.args.when.now.moment c.loop-at.self (Hears z)) c.in_err-at.field-0.0) c.behind.ensures.drops (c.in_err-at.ensures.chooses (g.K.KeyFinder.entries c.args.keys.now) refl)))

pub overflow_add-at : goal.overflow_add-at
overflow_add-at g c = omega (arith, c.used_octets.ensures.most c.loop-at.self.end c.behind.result.now, c.in_ok-at.ensures.used)

pub loop-at-smaller : goal.loop-at-smaller
loop-at-smaller g c = omega (arith, c.used_octets.ensures.most c.loop-at.self.end c.behind.result.now, used_moves c.used_octets.ensures c.loop-at.self.end c.behind.result.now (omega arith), c.in_ok-at.ensures.used)

pub loop-at-preserved : goal.loop-at-preserved
loop-at-preserved g c =
    let less : c.loop-at.at < length c.args.octets.now = search base in
    let next =
    pouring_more c.used_octets.ensures (rules_of_session (g.K.KeyFinder.entries c.args.keys.now) c.args.when.now.setup) c.args.when.now.moment c.args.octets.now c.loop-at.at c.in_ok-at.field-0 (g.O.Outside.told c.args.outside.now) (g.O.Outside.told c.loop-at.outside) (g.O.Outside.told c.handle.new.outside)
    c.args.self.now c.loop-at.self c.handle.new.self c.loop-at.invariant.pours less (sym c.is_broken.ensures ∙ c.if-is_broken.false)
    (subst (λ (z : List ℕ). Chose (g.O.Outside.told c.loop-at.outside) (g.O.Outside.told c.handle.new.outside) c.handle.new.self
    (handled kept_ends (rules_of_session (g.K.KeyFinder.entries c.args.keys.now) c.args.when.now.setup) c.args.when.now.moment c.loop-at.self (Hears z))) c.behind.ensures.drops (c.in_ok-at.ensures.chooses (g.K.KeyFinder.entries c.args.keys.now) refl))
    (subst (λ (z : List ℕ). c.in_ok-at.field-0 ≡ used_of c.loop-at.self.end z) c.behind.ensures.drops c.in_ok-at.ensures.used) in
    record {
      pours = next;
      most = next.most;
      number = c.in_ok-at.ensures.number ∙ c.loop-at.invariant.number;
      only = only_then _ _ _ c.loop-at.invariant.only c.in_ok-at.ensures.only;
    }

pub returns-then-is_broken-clause-chooses : goal.returns-then-is_broken-clause-chooses
returns-then-is_broken-clause-chooses g c =
    pouring_done (rules_of_session (g.K.KeyFinder.entries c.args.keys.now) c.args.when.now.setup) c.args.when.now.moment c.args.octets.now c.loop-at.at (g.O.Outside.told c.args.outside.now) (g.O.Outside.told c.loop-at.outside)
    c.args.self.now c.loop-at.self c.loop-at.invariant.pours (idle_broken (drop c.loop-at.at c.args.octets.now) c.loop-at.self (sym c.is_broken.ensures ∙ c.if-is_broken.true))

pub returns-clause-chooses : goal.returns-clause-chooses
returns-clause-chooses g c =
    let end : length c.args.octets.now ≤ c.loop-at.at = search base in
    pouring_done (rules_of_session (g.K.KeyFinder.entries c.args.keys.now) c.args.when.now.setup) c.args.when.now.moment c.args.octets.now c.loop-at.at (g.O.Outside.told c.args.outside.now) (g.O.Outside.told c.loop-at.outside)
    c.args.self.now c.loop-at.self c.loop-at.invariant.pours (idle_end c.loop-at.at c.args.octets.now c.loop-at.self end)
