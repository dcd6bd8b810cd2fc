use Rattle.std.proofs.Common.{rules, ◌≡◌, ◌∷◌, refl}
use Rattle.mio_wires.proofs.Attaching.{first_is_open}
use Rattle.mio_wires.proofs.lines.Lines.attach.Goals as goal

pub returns-clause-open : goal.returns-clause-open
returns-clause-open c = λ ok.
    let items : c.insert-2.new.self.items ≡ record { number = 0; slot = c.in-Ok.slot } ∷ c.args.self.now.places.items = search (rules, ok) in
    first_is_open c.args.self.now.places.items c.insert-2.new.self.items (record { number = 0; slot = c.in-Ok.slot }) items refl
