-- One event more, one that isn't taken, and the end.
use Rattle.std.proofs.Common.{◌≡◌, ◌<◌, ◌≤◌, ℕ, List, length, take, get_or, slice_get, Some, refl, subst}
use Rattle.std.proofs.lemmas.Result.{err_from_is_err_and}
use Rattle.std.proofs.lemmas.Option.{slice_get_read}
use Rattle.er_trace.specs.declared.entry.Entry.{Entry}
use Rattle.trace_replay.proofs.Running.{went_none, went_next, went_err, went_end}
use Rattle.trace_replay.proofs.run.replay_entries.Goals as goal

-- the event at an index
item_at : (xs ys : List Entry) (i : ℕ) (x : Entry) → xs ≡ ys → i < length xs → x ≡ get_or xs i x → slice_get ys i ≡ Some x
item_at xs ys i x same inside is = subst (λ (zs : List Entry). slice_get zs i ≡ Some x) same (slice_get_read xs (length xs) i x refl inside is)

pub loop-entry-init : goal.loop-entry-init
loop-entry-init g c = went_none c.args.trace.now.settings _ c.args.trace.now.entries _ _ c.requires

pub loop-entry-preserved : goal.loop-entry-preserved
loop-entry-preserved g c =
    went_next c.args.trace.now.settings _ c.args.trace.now.entries c.loop-entry.entry-index c.entry-item.result c.loop-entry.replaying c.take.new.self _ _ _ _ _ c.loop-entry.invariant
    (item_at _ _ _ _ c.as_slice-entry-items.ensures c.loop-entry-test.true c.entry-item.is)
    (c.in_ok-take.ensures (take c.loop-entry.entry-index c.args.trace.now.entries) c.loop-entry.invariant.stands) c.clear.ensures.items
    (rw c.as_slice.ensures.value at c.in_ok-put_text.ensures)

pub returns-in_err-put_text : goal.returns-in_err-put_text
returns-in_err-put_text g c = λ start head.
    let p = err_from_is_err_and c.from_residual-in_err-put_text.result c.from_residual-in_err-put_text.ensures.1 in
    rw (p.1, p.2) tt

pub returns-in_err-take : goal.returns-in_err-take
returns-in_err-take g c = λ start head.
    let p = err_from_is_err_and c.from_residual.result c.from_residual.ensures.1 in
    rw (p.1, p.2)
    (went_err c.args.trace.now.settings _ c.args.trace.now.entries c.loop-entry.entry-index c.entry-item.result c.loop-entry.replaying c.take.new.self start _ c.loop-entry.out.items c.clear.new.self.items c.take.new.out.items
    c.in_err-take.field-0.0 c.loop-entry.invariant (item_at _ _ _ _ c.as_slice-entry-items.ensures c.loop-entry-test.true c.entry-item.is) head
    (c.in_err-take.ensures (take c.loop-entry.entry-index c.args.trace.now.entries) c.loop-entry.invariant.stands))

pub returns : goal.returns
returns g c = λ start head.
    went_end c.args.trace.now.settings _ c.args.trace.now.entries c.loop-entry.entry-index c.loop-entry.replaying start _ _ c.loop-entry.invariant
    (subst (λ (xs : List Entry). length xs ≤ c.loop-entry.entry-index) c.as_slice-entry-items.ensures c.loop-entry-test.false) head
