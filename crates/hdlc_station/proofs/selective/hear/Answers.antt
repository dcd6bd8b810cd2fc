use Rattle.hdlc_frames.specs.Framing.{BadFcs, TooShort, TooLong, Aborted}
use Rattle.hdlc_station_model.specs.Selective.{selective_hears}
use Rattle.std.proofs.Common.{[], refl}
use Rattle.hdlc_station.proofs.Moving.{row_hears, brought, quiet}
use Rattle.hdlc_station.proofs.selective.hear.Goals as goal

pub returns-in-Frame-clause-brings : goal.returns-in-Frame-clause-brings
returns-in-Frame-clause-brings c = rw c.in-Frame.is c.hear_frame.ensures.brings

pub returns-in-BadFcs-clause-brings : goal.returns-in-BadFcs-clause-brings
returns-in-BadFcs-clause-brings c = rw c.in-BadFcs.is (brought [] _ _ _ _ c.of.result c.of-in-BadFcs.result.reply c.of-in-BadFcs.result.deed (selective_hears BadFcs) c.of-in-BadFcs.ensures.deed c.of-in-BadFcs.ensures.reply
    (row_hears [] _ _ _ c.nothing.result c.of.result (selective_hears BadFcs) c.of.ensures
    (quiet _ _ c.nothing.result (selective_hears BadFcs) c.nothing.ensures c.count_bad_fcs.ensures.follows) (λ s. record { held = refl; asked = refl; taken = refl; gap = refl })))

pub returns-in-TooShort-clause-brings : goal.returns-in-TooShort-clause-brings
returns-in-TooShort-clause-brings c = rw c.in-TooShort.is (brought [] _ _ _ _ c.of-in-TooShort.result c.of-in-TooShort-2.result.reply c.of-in-TooShort-2.result.deed (selective_hears TooShort) c.of-in-TooShort-2.ensures.deed c.of-in-TooShort-2.ensures.reply
    (row_hears [] _ _ _ c.nothing-in-TooShort.result c.of-in-TooShort.result (selective_hears TooShort) c.of-in-TooShort.ensures
    (quiet _ _ c.nothing-in-TooShort.result (selective_hears TooShort) c.nothing-in-TooShort.ensures c.count_short.ensures.follows) (λ s. record { held = refl; asked = refl; taken = refl; gap = refl })))

pub returns-in-TooLong-clause-brings : goal.returns-in-TooLong-clause-brings
returns-in-TooLong-clause-brings c = rw c.in-TooLong.is (brought [] _ _ _ _ c.of-in-TooLong.result c.of-in-TooLong-2.result.reply c.of-in-TooLong-2.result.deed (selective_hears TooLong) c.of-in-TooLong-2.ensures.deed c.of-in-TooLong-2.ensures.reply
    (row_hears [] _ _ _ c.nothing-in-TooLong.result c.of-in-TooLong.result (selective_hears TooLong) c.of-in-TooLong.ensures
    (quiet _ _ c.nothing-in-TooLong.result (selective_hears TooLong) c.nothing-in-TooLong.ensures c.count_long.ensures.follows) (λ s. record { held = refl; asked = refl; taken = refl; gap = refl })))

pub returns-in-Aborted-clause-brings : goal.returns-in-Aborted-clause-brings
returns-in-Aborted-clause-brings c = rw c.in-Aborted.is (brought [] _ _ _ _ c.of-in-Aborted.result c.of-in-Aborted-2.result.reply c.of-in-Aborted-2.result.deed (selective_hears Aborted) c.of-in-Aborted-2.ensures.deed c.of-in-Aborted-2.ensures.reply
    (row_hears [] _ _ _ c.nothing-in-Aborted.result c.of-in-Aborted.result (selective_hears Aborted) c.of-in-Aborted.ensures
    (quiet _ _ c.nothing-in-Aborted.result (selective_hears Aborted) c.nothing-in-Aborted.ensures c.count_aborted.ensures.follows) (λ s. record { held = refl; asked = refl; taken = refl; gap = refl })))
