use Rattle.std.proofs.Common.{refl, rules}
use Rattle.recorded.proofs.Keeps.{kept_gone, kept_back}
use Rattle.recorded.proofs.Tellings.{did_behind, did_not_turn}
use Rattle.recorded.proofs.recorded.RecordedOutside.turn.Goals as goal

pub invariant_of-self-clause-kept : goal.invariant_of-self-clause-kept
invariant_of-self-clause-kept g c = kept_back _ _ _ _ _ _ c.write_out.new.self.kept refl refl (search rules) c.note.ensures

pub invariant_of-self-2-clause-kept : goal.invariant_of-self-2-clause-kept
invariant_of-self-2-clause-kept g c = kept_gone _ _ _ _ _ _ _ c.write_out.new.self.kept refl (search rules) (search rules) c.turn-happening.ensures.does.grew c.note-2.ensures

pub returns-then-is_err-clause-does : goal.returns-then-is_err-clause-does
returns-then-is_err-clause-does g c = did_not_turn c.args.self.now.history.acts _ _ (g.O.Outside.told c.args.self.now.outside) (g.O.Outside.told c.write_out.new.self.outside) _ c.write_out.ensures.told c.note.ensures

pub returns-clause-does : goal.returns-clause-does
returns-clause-does g c = did_behind _ c.args.self.now.history.acts _ _ (g.O.Outside.told c.args.self.now.outside) (g.O.Outside.told c.write_out.new.self.outside) _ c.write_out.ensures.told c.note-2.ensures c.turn-happening.ensures.does
