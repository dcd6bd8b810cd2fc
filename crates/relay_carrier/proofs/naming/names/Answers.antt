-- By the lemma on counts.
use Rattle.std.proofs.Common.{◌≡◌, ◌∷◌, false, true, ℕ, ap, sym, ◌∙◌, refl}
use Rattle.relay_script.specs.declared.unit_kind.UnitKind.TheVariants.{Any}
use Rattle.relay_script.specs.Kinds.{kind_place}
use Rattle.relay_carrier.specs.Kinds.{kinds_but_any, is_at_place}
use Rattle.relay_carrier.proofs.Counted.{named_by}
use Rattle.relay_carrier.proofs.Takings.{second_false}
use Rattle.relay_carrier.proofs.naming.names.Goals as goal

pub returns-then-not-has_at : goal.returns-then-not-has_at
returns-then-not-has_at c = λ before unit are units.
    let kinds = Any ∷ kinds_but_any c.args.kinds.now in
    let other : is_at_place (kind_place c.args.line.now.kind) kinds ≡ false =
    ap (λ (p : ℕ). is_at_place p kinds) (sym c.place.ensures.place) ∙ sym c.has_at.ensures ∙ c.if-not-has_at.true in
    sym (named_by c.args.line.now c.args.side before unit c.args.counts.now kinds c.requires.0.1 are units ∙ second_false _ _ _ other)

pub returns : goal.returns
returns c = λ before unit are units.
    let kinds = Any ∷ kinds_but_any c.args.kinds.now in
    let of_kind : is_at_place (kind_place c.args.line.now.kind) kinds ≡ true =
    ap (λ (p : ℕ). is_at_place p kinds) (sym c.place.ensures.place) ∙ sym c.has_at.ensures ∙ c.if-not-has_at.false in
    let same = sym c.is_same.ensures ∙ c.if-not-is_same.false in
    rw (named_by c.args.line.now c.args.side before unit c.args.counts.now kinds c.requires.0.1 are units, same, of_kind, c.of.ensures) refl
