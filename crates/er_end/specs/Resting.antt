-- Contract: how an end that lends its deeds is left.
use Rattle.std.specs.Prelude.{◌≡◌, ⊤}
use Rattle.std.specs.Borrow.{MutBor, Fml, follows_so}
use mathlib.Core.Option.{none}
use Rattle.er_end.specs.declared.end.End.{End}
use Rattle.er_end.specs.contracts.end.End.{the_row}
use Rattle.er_end.specs.KeptEnds.{KEnd}

-- once the deeds are let go, this is kept
abbrev pub LeavesEndAs : MutBor End → KEnd → Fml
LeavesEndAs end k = follows_so the_row the_row end.ghost_name none (λ _ _. ⊤) (λ v. v ≡ k)
