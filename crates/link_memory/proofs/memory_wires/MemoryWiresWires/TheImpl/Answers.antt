-- What wires in memory tell is what the trait says of each call.
use Rattle.std.proofs.Common.{ℕ, arith, rules, ◌≤◌, length, sym, subst}
use Rattle.std.proofs.lemmas.Grind.{common_steps}
use Rattle.link_trait.specs.Wires.{Told, AllStay, OnlyAdds, KeepsOctets}
use Rattle.link_memory.specs.WiresMemory.{told_lines}
use Rattle.link_memory.proofs.ToldCalls.{listen_stays, dial_stays, dial_new, turn_adds, turn_keeps, turn_new, read_told, read_takes, read_stays, read_not_now, read_end, write_gives, write_stays, write_not_now, close_stays}
use Rattle.link_memory.proofs.memory_wires.MemoryWiresWires.TheImpl.Goals as goal

pub listen-tells : goal.listen-tells
listen-tells c = record {
  told = search rules;
  stays = subst (λ t. Told (told_lines c.args.self.now) (told_lines t) (λ before now. AllStay (length c.args.self.now.lines) before now)) (sym c.ensures.state)
      (listen_stays c.args.self.now c.args.address.now);
  opened = search rules;
  listening = search rules;
  count = search rules;
  cause = search rules;
  most = search rules;
  turn_count = search rules;
  turn_cause = search rules;
  turn_most = search rules;
}

pub dial-tells : goal.dial-tells
dial-tells c = record {
  told = search rules;
  stays = subst (λ t. Told (told_lines c.args.self.now) (told_lines t) (λ before now. AllStay (length c.args.self.now.lines) before now)) (sym c.ensures.state)
      (dial_stays c.args.self.now c.args.address.now);
  new = dial_new c.args.self.now c.new.self.now c.args.address.now c.result c.ensures.state c.ensures.untouched;
  number = search rules;
  opened = grind (arith, common_steps);
  listening = search rules;
  count = search rules;
  cause = search rules;
  most = search rules;
  turn_count = search rules;
  turn_cause = search rules;
  turn_most = search rules;
}

pub turn-tells : goal.turn-tells
turn-tells c = record {
  told = search rules;
  only_adds = subst (λ t. Told (told_lines c.args.self.now) (told_lines t) (λ before now. (conn : ℕ) → conn ≤ length c.args.self.now.lines → OnlyAdds (before conn) (now conn)))
      (sym c.ensures.state) (turn_adds c.args.self.now c.args.until);
  stays = subst (λ t. Told (told_lines c.args.self.now) (told_lines t) (λ before now. (conn : ℕ) → conn ≤ length c.args.self.now.lines → KeepsOctets (before conn) (now conn)))
      (sym c.ensures.state) (turn_keeps c.args.self.now c.args.until);
  new = turn_new c.args.self.now c.new.self.now c.args.until c.result c.ensures.state c.ensures.untouched;
  number = search rules;
  accepted = search rules;
  opened = search rules;
  listening = search rules;
  count = search rules;
  cause = search rules;
  most = search rules;
  turn_count = search rules;
  turn_cause = search rules;
  turn_most = search rules;
}

pub read-tells : goal.read-tells
read-tells c = record {
  told = read_told c.args.self.now c.new.self.now c.args.conn.0 (length c.args.into.now) c.new.into.now c.result c.ensures.answer c.ensures.state c.ensures.gave;
  length = search rules;
  fits = search rules;
  taken = read_takes c.args.self.now c.new.self.now c.args.conn.0 (length c.args.into.now) c.new.into.now c.result c.ensures.answer c.ensures.state c.ensures.gave;
  stays = read_stays c.args.self.now c.new.self.now c.args.conn.0 (length c.args.into.now) c.result c.ensures.answer c.ensures.state;
  not_now = read_not_now c.args.self.now c.args.conn.0 (length c.args.into.now) c.result c.ensures.answer;
  end = read_end c.args.self.now c.args.conn.0 (length c.args.into.now) c.result c.ensures.answer;
  opened = search rules;
  listening = search rules;
  count = search rules;
  cause = search rules;
  most = search rules;
  turn_count = search rules;
}

pub write-tells : goal.write-tells
write-tells c = record {
  told = search rules;
  fits = search rules;
  given = write_gives c.args.self.now c.new.self.now c.args.conn.0 c.args.piece.now c.result c.ensures.answer c.ensures.state;
  stays = write_stays c.args.self.now c.new.self.now c.args.conn.0 c.args.piece.now c.result c.ensures.answer c.ensures.state;
  not_now = write_not_now c.args.self.now c.args.conn.0 (length c.args.piece.now) c.result c.ensures.answer;
  opened = search rules;
  listening = search rules;
  count = search rules;
  cause = search rules;
  most = search rules;
  turn_count = search rules;
}

pub close-tells : goal.close-tells
close-tells c = record {
  told = search rules;
  stays = subst (λ t. Told (told_lines c.args.self.now) (told_lines t) (λ before now. AllStay (length c.args.self.now.lines) before now)) (sym c.ensures.state)
      (close_stays c.args.self.now c.args.conn.0);
  opened = search rules;
  listening = search rules;
  count = search rules;
  most = search rules;
  turn_count = search rules;
}
