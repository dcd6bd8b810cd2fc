-- A released end does nothing more.
use Rattle.std.proofs.Common.{◌≡◌, inl, inr, ◌-◌, ℕ, length, Some, refl}
use Rattle.std.specs.Prelude.{◌==◌}
use Rattle.std.proofs.lemmas.Bool.{cases_Bool}
use Rattle.er_base.specs.declared.release.Release.{Release}
use Rattle.er_end_model.specs.Steps.{step_take}
use Rattle.er_end_model.specs.Layers.{Core, model}
use Rattle.er_end_model.specs.Laws.{IsSilentAfterRelease, ReleasedRest}

uses_rest : (x : Core) (why : Release) → x.released ≡ Some why → (now : ℕ) → IsSilentAfterRelease why (step_take model now x)
uses_rest x why e now = elim (cases_Bool (length x.upper.accepted - x.upper.used == 0)) [
  | inl y ↦ rw y (e, refl)
  | inr n ↦ rw n (rw e (refl, refl))
]

pub released_rest : ReleasedRest
released_rest x why e = record {
  starts = λ now. rw e (refl, refl);
  comes = λ finds now verdict. rw e (refl, refl);
  sends = λ user. rw e refl;
  uses = uses_rest x why e;
  leaves = λ now sub. rw e (refl, refl);
  ticks = λ now. rw e (refl, refl);
  breaks = λ cause. rw e (refl, refl);
}
