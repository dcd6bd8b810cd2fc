-- One event more, one that isn't taken, and the end.
use Rattle.std.proofs.Common.{◌≡◌, ◌<◌, ◌≤◌, List, ℕ, length, take, get_or, slice_get, Some, refl, subst}
use Rattle.std.proofs.lemmas.Option.{slice_get_read}
use Rattle.std.proofs.lemmas.Result.{err_from_is_err_and}
use Rattle.er_trace.specs.declared.entry.Entry.{Entry}
use Rattle.er_program.proofs.Replaying.{went_none, went_more, went_err, went_end}
use Rattle.er_program.proofs.replay.replay_each.Goals as goal

-- the event at an index
item_at : (xs ys : List Entry) (i : ℕ) (x : Entry) → xs ≡ ys → i < length xs → x ≡ get_or xs i x → slice_get ys i ≡ Some x
item_at xs ys i x same inside is = subst (λ (zs : List Entry). slice_get zs i ≡ Some x) same (slice_get_read xs (length xs) i x refl inside is)

pub loop-entry-init : goal.loop-entry-init
loop-entry-init g c = went_none c.args.trace.now.settings _ c.args.trace.now.entries _ _ c.requires

pub loop-entry-preserved : goal.loop-entry-preserved
loop-entry-preserved g c =
    went_more c.args.trace.now.settings _ c.args.trace.now.entries c.loop-entry.entry-index c.entry-item.result
    (item_at _ _ _ _ c.as_slice-entry-items.ensures c.loop-entry-test.true c.entry-item.is) c.loop-entry.replaying c.replay_once.new.replaying _ _ _ c.loop-entry.invariant
    (c.in_ok-replay_once.ensures.replays (take c.loop-entry.entry-index c.args.trace.now.entries) c.loop-entry.invariant.stands)

pub returns-in_err-replay_once : goal.returns-in_err-replay_once
returns-in_err-replay_once g c = record {
  replays =
      (let p = err_from_is_err_and c.from_residual.result c.from_residual.ensures.1 in
      rw (p.1, p.2)
      (went_err c.args.trace.now.settings _ c.args.trace.now.entries c.loop-entry.entry-index c.entry-item.result
      (item_at _ _ _ _ c.as_slice-entry-items.ensures c.loop-entry-test.true c.entry-item.is) c.loop-entry.replaying c.replay_once.new.replaying c.in_err-replay_once.field-0.0 _ _ _
      c.loop-entry.invariant (c.in_err-replay_once.ensures.replays (take c.loop-entry.entry-index c.args.trace.now.entries) c.loop-entry.invariant.stands)));
}

pub returns : goal.returns
returns g c = record {
  replays = went_end c.args.trace.now.settings _ c.args.trace.now.entries c.loop-entry.entry-index c.loop-entry.replaying _ _ c.loop-entry.invariant
      (subst (λ (xs : List Entry). length xs ≤ c.loop-entry.entry-index) c.as_slice-entry-items.ensures c.loop-entry-test.false);
}
