-- Contract: how the clauses of `add` speak of the octets that it lends, and of how the joiner is left once they are let go.
use Rattle.std.specs.Prelude.{◌≡◌, ℕ, List, ⊤, Option, Result, Ok, Err}
use Rattle.std.specs.Option.{option_map}
use Rattle.std.specs.Borrow.{MutBor, Bor, Fml, follows_so}
use mathlib.Core.Option.{none}
use Rattle.t70_header.specs.declared.joiner.Joiner.{Joiner}
use Rattle.t70_header.specs.contracts.joiner.Joiner.{the_row}
use Rattle.t70_header.specs.declared.fault.BlockFault.{BlockFault}
use Rattle.t70_header.specs.Joining.{BlockJoiningResult}

-- once what was lent is let go, the joiner holds this
abbrev pub LeavesJoinerAs : MutBor Joiner → List ℕ → Fml
LeavesJoinerAs joiner held = follows_so the_row the_row joiner.ghost_name none (λ _ _. ⊤) (λ v. v ≡ held)

-- the octets that are lent are those of the answer
abbrev pub LendsAnswerOctets : Result (Option (Bor (List ℕ))) BlockFault → BlockJoiningResult → Type 0
LendsAnswerOctets (Ok lent) answer = answer ≡ Ok (option_map (λ octets. octets.now) lent)
LendsAnswerOctets (Err fault) answer = answer ≡ Err fault
