-- All that is claimed, of whatever comes.
use Rattle.std.proofs.Common.{ℕ, List, [], ◌++◌, ap, sym, ◌∙◌}
use Rattle.application_model.specs.Ends.{EndKind, KeepsMessages, texts_accepted, texts_taken}
use Rattle.er_trace.specs.Outcomes.{TraceOutcome}
use Rattle.application_model.specs.Histories.{ServiceItem}
use Rattle.application_model.specs.Services.{at_start, service_history}
use Rattle.application_model.specs.Claims.{outcomes_alone, events_at, GoesByItsEvents, LosesNothing}
use Rattle.application_model.specs.Laws.{ServiceIsAsClaimed}
use Rattle.application_model.proofs.Steadies.{all_hold}
use Rattle.application_model.proofs.Telling.{ToldOf, told_steadily}
use Rattle.application_model.proofs.Doing.{DoneOf, done_steadily}
use Rattle.application_model.proofs.Alone.{AloneOf, alone_steadily, messages_kept}
use Rattle.application_model.proofs.Rooms.{HasRoomAtTakes, room_steadily, taken_with_room, opens_nothing_drained}
use Rattle.application_model.proofs.Firsts.{FirstToldOf, first_steadily, tells_first, numbers_rise}

pub nothing_lost : (kind : EndKind) (items : List ServiceItem) → GoesByItsEvents kind items → KeepsMessages kind → LosesNothing kind items
nothing_lost kind items alone keeps conn =
    let all = messages_kept kind keeps [] (events_at conn items) in
    ap texts_accepted (alone conn)
    ∙ ap (λ (w : List (List ℕ)). w ++ texts_accepted (outcomes_alone kind [] (events_at conn items))) (sym keeps.none)
    ∙ all
    ∙ ap (λ (o : List TraceOutcome). texts_taken o ++ kind.waiting (events_at conn items)) (sym (alone conn))

pub as_claimed : ServiceIsAsClaimed
as_claimed kind happenings =
    let alone = all_hold kind (AloneOf kind) (alone_steadily kind) happenings at_start in
    let may = all_hold kind HasRoomAtTakes (room_steadily kind) happenings at_start in
    record {
      told = λ conn. all_hold kind (ToldOf conn) (told_steadily conn kind) happenings at_start;
      said = all_hold kind DoneOf (done_steadily kind) happenings at_start;
      isolated = alone;
      kept = nothing_lost kind (service_history kind happenings) alone;
      room = taken_with_room (service_history kind happenings) may;
      drained = opens_nothing_drained (service_history kind happenings) may;
      first = tells_first (service_history kind happenings) (all_hold kind FirstToldOf (first_steadily kind) happenings at_start);
      rise = numbers_rise (service_history kind happenings);
    }
