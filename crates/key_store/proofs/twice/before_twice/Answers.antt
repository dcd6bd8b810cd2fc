use Rattle.std.proofs.Common.{◌≤◌, length, arith, refl, ◌∙◌, ap}
use Rattle.std.proofs.Math.Seq.{take-length}
use Rattle.key_store.specs.KeyFiles.{first_twice}
use Rattle.key_store.specs.Spans.{are_once}
use Rattle.key_store.proofs.Spans.{some_entry}
use Rattle.key_store.proofs.twice.before_twice.Goals as goal

pub loop-high-init : goal.loop-high-init
unfolding first_twice
loop-high-init c = rw c.count-high.ensures record {
  apart = some_entry c.args.entries.now c.requires;
  fits = (let z : length c.args.entries.now ≤ length c.args.entries.now = omega arith in z);
  once = refl;
  twice = ap are_once (take-length c.args.entries.now) ∙ c.requires;
}
