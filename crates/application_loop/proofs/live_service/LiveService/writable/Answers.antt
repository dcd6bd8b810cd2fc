-- There may be room again.
use Rattle.application_loop.proofs.LivingParts.{room_rests}
use Rattle.application_loop.proofs.live_service.LiveService.writable.Goals as goal

pub returns-in-Some : goal.returns-in-Some
returns-in-Some c = record { rests = λ run told resting. room_rests told c.args.self.now c.has_room_again.new.self c.has_room_again.ensures resting }
