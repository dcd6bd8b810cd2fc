-- An application for which there is room is there.
use Rattle.std.proofs.Common.{◌≡◌, true, refl}
use Rattle.application_model.specs.Services.{Attendance, Absent, Attached, is_attached, has_room}

pub room_attached : (a : Attendance) → has_room a ≡ true → is_attached a ≡ true
room_attached Absent room = room
room_attached (Attached standing waiting) room = refl
