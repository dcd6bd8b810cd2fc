-- The next piece, the end of the lines, and the end of the link.
use Rattle.std.proofs.Common.{◌≡◌, [], refl, sym, ap, subst, ◌∙◌, eqb-true}
use Rattle.link_audit.specs.Streams.{KStream, items_left, told_left}
use Rattle.link_audit.proofs.Feeding.{piece_items, piece_told, none_left, over_left, no_octets}
use Rattle.link_audit.proofs.stream.Stream.next.Goals as goal

pub returns-in_default-clause-none : goal.returns-in_default-clause-none
returns-in_default-clause-none c = λ e.
    let none =
    none_left c.kept_stands_for_stream.ensures c.hearing_turns.ensures _ c.self.invariant (rw c.side.ensures at c.in_default.ensures.piece)
    (no_octets _ (eqb-true _ _ (sym c.is_empty.ensures ∙ c.if-is_empty.true))) in
    (sym c.loop-self.invariant.left ∙ subst (λ (s : KStream). items_left s ≡ []) c.self.view_is none, rw (c.in_default.ensures.rests refl) none)

pub loop-self-preserved-then-is_empty : goal.loop-self-preserved-then-is_empty
loop-self-preserved-then-is_empty c =
    let none = sym c.is_empty.ensures ∙ c.if-is_empty.true in
    let taken = rw c.side.ensures at c.in-Some.ensures.piece in
    record {
      left =
          piece_items c.self.inside.link c.self.inside.lines c.next_piece.new.self c.self.inside.piece.now c.in-Some.piece.now c.self.inside.deframer c.self.inside.ear none taken
          ∙ ap items_left c.self.view_is
          ∙ c.loop-self.invariant.left;
      told =
          piece_told c.self.inside.link c.self.inside.lines c.next_piece.new.self c.self.inside.piece.now c.in-Some.piece.now c.self.inside.deframer c.self.inside.ear none taken
          ∙ ap told_left c.self.view_is
          ∙ c.loop-self.invariant.told;
    }

pub returns-clause-none : goal.returns-clause-none
returns-clause-none c = λ e.
    let none : items_left c.loop-self.self ≡ [] = subst (λ (s : KStream). items_left s ≡ []) c.self.view_is (over_left _ (sym c.is_over.ensures ∙ c.loop-self-test.false)) in
    (sym c.loop-self.invariant.left ∙ none, none)
