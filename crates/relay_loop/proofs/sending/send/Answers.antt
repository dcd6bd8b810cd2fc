-- Write by write.
use Rattle.std.proofs.Common.{true, false, true≢false, refl, sym, ◌∙◌, eqb-true}
use Rattle.std.proofs.lemmas.List.{nil_from_length}
use Rattle.relay_loop.specs.declared.sending.Flow.TheVariants as flow
use Rattle.relay_loop.proofs.WayCalls.{moves_none}
use Rattle.relay_loop.proofs.WaySends.{sends_none, sends_going, sends_one, sends_then}
use Rattle.relay_loop.proofs.sending.send.Goals as goal

pub returns-then-way : goal.returns-then-way
returns-then-way g c =
    sends_going false c.args.to.0 _ _ _ _ (λ going alive. absurd (true≢false (sym c.if-way.true ∙ alive))) (sends_none c.args.to.0 c.args.way.now _)

pub loop-to-init : goal.loop-to-init
loop-to-init g c = record { alive = c.if-way.false; sends = sends_none c.args.to.0 c.args.way.now _ }

pub loop-to-preserved : goal.loop-to-preserved
loop-to-preserved g c = record {
  alive = c.wrote.ensures.alive;
  sends = sends_then true flow.Going c.args.to.0 _ _ _ _ _ _ c.loop-to.invariant.sends
      (sends_one true flow.Going c.args.to.0 _ _ _ _ _ _ c.in-Some.ensures.does (λ script. rw c.as_slice.ensures (c.wrote.ensures.writes script)) c.wrote.ensures.is
      (λ told. (refl, (refl, λ f. absurd (true≢false f)))));
}

pub returns-in-NotNow : goal.returns-in-NotNow
returns-in-NotNow g c =
    sends_then false flow.PutOff c.args.to.0 _ _ _ _ _ _ c.loop-to.invariant.sends
    (sends_one false flow.PutOff c.args.to.0 _ _ _ _ _ _ c.in-NotNow.ensures.does (λ script. moves_none script c.loop-to.way) refl (λ told. (refl, (refl, refl))))

pub returns-in-Failed : goal.returns-in-Failed
returns-in-Failed g c =
    sends_then false flow.Failing c.args.to.0 _ _ _ _ _ _ c.loop-to.invariant.sends
    (sends_one false flow.Failing c.args.to.0 _ _ _ _ _ _ c.in-Failed.ensures.does (λ script. moves_none script c.loop-to.way) refl
    (λ told. (refl, (refl, c.loop-to.invariant.alive))))

pub returns : goal.returns
returns g c =
    sends_going false c.args.to.0 _ _ _ _ (λ going alive. nil_from_length _ (eqb-true _ 0 (sym c.is_empty.ensures ∙ c.loop-to-test.false))) c.loop-to.invariant.sends
