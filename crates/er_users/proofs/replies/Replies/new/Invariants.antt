use Rattle.std.proofs.Common.{◌≡◌}
use Rattle.std.specs.List.{All}
use Rattle.std.specs.Vec.{vec_len}
use Rattle.er_users.proofs.replies.Replies.new.Given as goal

abbrev pub invariant-loop : goal.invariant-loop
invariant-loop l = record { count : vec_len l.rooms ≡ l.counter; rooms : All (λ room. room.capacity ≡ 1023) l.rooms.items }
