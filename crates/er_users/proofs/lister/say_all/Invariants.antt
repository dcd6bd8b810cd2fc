use Rattle.std.proofs.Common.{◌≡◌, map, take}
use Rattle.er_users.specs.Saying.{nothing}
use Rattle.er_users.proofs.lister.say_all.Given as goal

abbrev pub invariant-loop-text : goal.invariant-loop-text
invariant-loop-text l = record { said : l.out ≡ record nothing { texts = take l.text-index (map (λ text. text.items) l.texts) } }
