-- What a line of the application asks for is done, and then the messages that wait are taken.
use Rattle.std.proofs.Common.{◌≡◌, ◌∙◌, refl, sym, ap}
use Rattle.er_trace.specs.declared.event.Event.TheVariants as event
use Rattle.application_lines.specs.declared.request.Request.TheVariants as request
use Rattle.application_loop.specs.Living.{Living}
use Rattle.application_loop.proofs.Happenings.{takes_then}
use Rattle.application_loop.proofs.RequestParts.{resting_broke_off, living_serves}
use Rattle.application_loop.proofs.LinesRead.{asked_whole, asked_for, counts_told}
use Rattle.application_loop.proofs.LinesAnswered.{takes_to_rest}
use Rattle.application_loop.proofs.live_service.LiveService.do_request.Goals.{in-Drain+in_ok-drain-in-Drain, in-Keys+in_ok-fetch_keys-in-Keys, in-Counts+in_ok-tell_counts-in-Counts}
use Rattle.application_loop.proofs.live_service.LiveService.do_request.Goals as goal

pub returns-in-Send : goal.returns-in-Send
returns-in-Send g c = record {
  does = λ run living rested there.
      c.occur_at.ensures.occurs (event.Send c.as_slice.result.now) (λ k. refl) c.when-when.ensures.moment tt run
      (asked_for c.args.self.now.moment c.args.request (request.Send c.in-Send.connection c.as_slice.result.now) (takes_then c.args.self.now.moment)
      (c.in-Send.is ∙ ap (request.Send c.in-Send.connection) (sym c.as_slice.ensures))
      (λ s. refl) there living)
      rested;
}

pub returns-in-Release : goal.returns-in-Release
returns-in-Release g c = record {
  does = λ run living rested there.
      c.occur_at-in-Release.ensures.occurs (event.Release c.in-Release.sub) (λ k. refl) c.when-when.ensures.moment tt run
      (asked_for c.args.self.now.moment c.args.request (request.Release c.in-Release.connection c.in-Release.sub) (takes_then c.args.self.now.moment)
      c.in-Release.is (λ s. refl) there living)
      rested;
}

pub returns-in_err-drain-in-Drain : goal.returns-in_err-drain-in-Drain
returns-in_err-drain-in-Drain g c = record {
  does = λ run living rested there.
      resting_broke_off _ _ _ c.from_residual.result c.from_residual.ensures.1
      (c.in_err-drain-in-Drain.ensures.drains run (takes_then c.args.self.now.moment) c.when-when.ensures.moment
      (asked_whole c.args.self.now.moment c.args.request request.Drain (takes_then c.args.self.now.moment) c.in-Drain.is living) there);
}

pub returns-in_err-fetch_keys-in-Keys : goal.returns-in_err-fetch_keys-in-Keys
returns-in_err-fetch_keys-in-Keys g c = record {
  does = λ run living rested there.
      resting_broke_off _ _ _ c.from_residual-in_err-fetch_keys-in-Keys.result c.from_residual-in_err-fetch_keys-in-Keys.ensures.1
      (c.in_err-fetch_keys-in-Keys.ensures.fetches run
      (asked_for c.args.self.now.moment c.args.request request.Keys (takes_then c.args.self.now.moment) c.in-Keys.is (λ s. refl) there living) rested);
}

pub returns-in_err-tell_counts-in-Counts : goal.returns-in_err-tell_counts-in-Counts
returns-in_err-tell_counts-in-Counts g c = record {
  does = λ run living rested there.
      resting_broke_off _ _ _ c.from_residual-in_err-tell_counts-in-Counts.result c.from_residual-in_err-tell_counts-in-Counts.ensures.1 (living_serves living);
}

pub returns : goal.returns
returns g c = record {
  does = λ run living rested there.
      let m = c.args.self.now.moment in
      let between : Living run (g.O.Outside.told c.match-request.outside) (takes_then m) c.match-request.self =
      elim c.match-request.branch [
        | in-Drain+in_ok-drain-in-Drain w ↦
            rw (w.self-is, w.outside-is)
            (w.in_ok-drain-in-Drain.ensures.drains run (takes_then m) c.when-when.ensures.moment
            (asked_whole m c.args.request request.Drain (takes_then m) w.in-Drain.is living) there)
        | in-Keys+in_ok-fetch_keys-in-Keys w ↦
            rw (w.self-is, w.outside-is)
            (w.in_ok-fetch_keys-in-Keys.ensures.fetches run
            (asked_for m c.args.request request.Keys (takes_then m) w.in-Keys.is (λ s. refl) there living) rested)
        | in-Counts+in_ok-tell_counts-in-Counts w ↦
            rw (w.self-is, w.outside-is)
            (counts_told m (takes_then m) _ w.len.ensures w.in_ok-tell_counts-in-Counts.ensures.tells refl
            (record { keys = refl; held = refl; moment = refl; draining = refl; calls = refl })
            (asked_for m c.args.request request.Counts (takes_then m) w.in-Counts.is (λ s. refl) there living))
      ] in
      let moment : c.match-request.self.moment ≡ m =
      elim c.match-request.branch [
        | in-Drain+in_ok-drain-in-Drain w ↦ rw (w.self-is) w.drain.ensures.moment
        | in-Keys+in_ok-fetch_keys-in-Keys w ↦ rw (w.self-is) w.fetch_keys.ensures.moment
        | in-Counts+in_ok-tell_counts-in-Counts w ↦ rw (w.self-is) refl
      ] in
      takes_to_rest _ (record c.match-request.self { links = c.take_waiting.new.self; desk = c.take_waiting.new.desk }) m c.when-when.result.moment
      c.take_waiting.result (sym c.when-when.ensures.moment) (c.when-when.ensures.moment ∙ sym moment) c.take_waiting.ensures.takes c.take_waiting.ensures.rests
      (record { keys = refl; held = refl; moment = refl; draining = refl; calls = refl }) between;
}
