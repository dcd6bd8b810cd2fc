use Rattle.std.proofs.Common.{◌+◌, length, sym, ◌∙◌}
use Rattle.hdlc_station_model.specs.Frames.{Srej}
use Rattle.hdlc_station.specs.declared.heard.Reply.TheVariants.{SelectiveReject}
use Rattle.hdlc_station.proofs.Saying.{saying, srej_said}
use Rattle.hdlc_station.proofs.Moving.{known_stays, asked_stays, asked_moves}
use Rattle.hdlc_station.proofs.selective.ask.Goals as goal

pub returns-then-is_held-clause-moves : goal.returns-then-is_held-clause-moves
returns-then-is_held-clause-moves c = λ s before d h. known_stays _ _ before _ d s c.args.up h (sym c.is_held.ensures ∙ c.if-is_held.true)

pub returns-then-is_asked-clause-moves : goal.returns-then-is_asked-clause-moves
returns-then-is_asked-clause-moves c = λ s before d h. asked_stays _ _ before _ d s c.args.up h (sym c.is_asked.ensures ∙ c.if-is_asked.true)

pub returns-clause-moves : goal.returns-clause-moves
returns-clause-moves c = rw c.ask.ensures (λ s before d h.
    asked_moves _ _ before _ _ d s c.args.up h
    (saying _ before _ _ d s (Srej (length s.taken + c.args.up)) (SelectiveReject c.args.up) (srej_said s c.args.up) h.stands c.write.ensures.appends.items) c.requires.within
    (sym c.is_held.ensures ∙ c.if-is_held.false) (sym c.is_asked.ensures ∙ c.if-is_asked.false))
