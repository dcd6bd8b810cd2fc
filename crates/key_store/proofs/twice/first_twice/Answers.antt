use Rattle.std.proofs.Common.{ℕ, ◌+◌, sym, ◌∙◌, ap}
use Rattle.std.specs.Prelude.{option_map}
use Rattle.key_store.proofs.Spans.{first_is}
use Rattle.key_store.proofs.twice.first_twice.Goals as goal

pub returns-in-Some : goal.returns-in-Some
returns-in-Some c =
    ap (option_map (λ (first : ℕ). (first, c.in_ok-before.before + 1))) (sym c.in-Some.is)
    ∙ first_is c.args.entries.now c.in_ok-before.before _ c.place_at_once.result c.in_ok-before.ensures.once c.in_ok-before.ensures.twice c.in_ok-before.ensures.there
    (rw c.list-list.ensures.list at c.place_at_once.ensures)

pub returns : goal.returns
returns c =
    ap (option_map (λ (first : ℕ). (first, c.in_ok-before.before + 1))) (sym c.in-None.is)
    ∙ first_is c.args.entries.now c.in_ok-before.before _ c.place_at_once.result c.in_ok-before.ensures.once c.in_ok-before.ensures.twice c.in_ok-before.ensures.there
    (rw c.list-list.ensures.list at c.place_at_once.ensures)
