-- Nothing is given, or it stands last.
use Rattle.std.proofs.Common.{◌≡◌, ◌++◌, [], List, ℕ, refl, sym, ap, subst, ◌∙◌, append-nil, eqb-true}
use Rattle.std.proofs.lemmas.List.{nil_from_length}
use Rattle.relay_loop.specs.declared.piece.Piece.{Piece}
use Rattle.relay_loop.specs.Ways.{octets_of_pieces, AreDueBy}
use Rattle.relay_loop.proofs.LiveWays.{pieces_last, due_last}
use Rattle.relay_loop.proofs.way.Way.keep.Goals as goal

pub returns-then-is_empty : goal.returns-then-is_empty
returns-then-is_empty c =
    let none : c.args.given.items ≡ [] = sym c.as_slice.ensures.value ∙ nil_from_length c.as_slice.result.now (eqb-true _ 0 (sym c.is_empty.ensures ∙ c.if-is_empty.true)) in
    record {
      side = refl;
      carrier = refl;
      printed = refl;
      ended = refl;
      lost = refl;
      closing = refl;
      latest = refl;
      dues = λ most by due. due;
      waits = sym (ap (λ (o : List ℕ). octets_of_pieces c.args.self.now.waits.items ++ o) none ∙ append-nil (octets_of_pieces c.args.self.now.waits.items));
    }

pub returns : goal.returns
returns c = record {
  side = refl;
  carrier = refl;
  printed = refl;
  ended = refl;
  lost = refl;
  closing = refl;
  latest = refl;
  dues = λ most by due. subst (λ (p : List Piece). AreDueBy most p) (sym c.in_ok-push_back.ensures.items) (due_last most c.args.self.now.waits.items _ due by);
  waits = ap (λ (p : List Piece). octets_of_pieces p) c.in_ok-push_back.ensures.items ∙ pieces_last c.args.self.now.waits.items _;
}
