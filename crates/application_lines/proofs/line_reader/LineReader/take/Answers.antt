-- A piece behind a line that is too long; one that makes it too long; one of a line that goes on; and one that ends it.
use Rattle.std.proofs.Common.{arith, ap, sym, ◌∙◌, length-append, List, [], ◌∷◌, ◌++◌, ℕ}
use Rattle.std.specs.List.{slice_split}
use Rattle.er_base.specs.Words.{words_of}
use Rattle.application_lines.specs.declared.application_line.ApplicationLine.{ApplicationLine}
use Rattle.application_lines.specs.Requests.{request_said}
use Rattle.application_lines.specs.Streams.{is_feed, next_line_number, request_line_told}
use Rattle.application_lines.specs.Standings.{LineStanding}
use Rattle.application_lines.proofs.Takes.{passes, too_long, goes_on, ends, kept_short, kept_long, moves_on, stands_so, cut_ended}
use Rattle.application_lines.proofs.line_reader.LineReader.take.Goals as goal

pub returns-then-self-clause-moves : goal.returns-then-self-clause-moves
returns-then-self-clause-moves c =
    λ some. rw c.pass-used.ensures.used (moves_on c.args.octets.now _ _ c.first_piece-ended.ensures.all some)

pub returns-then-self-clause-stands : goal.returns-then-self-clause-stands
returns-then-self-clause-stands c =
    let none = ap (λ (s : LineStanding). s.held) (sym c.self.view_is ∙ kept_long c.self.inside.number c.self.inside.held.items c.self.inside.long c.if-self.true) in
    let leads = passes c.args.self.now _ _ _ none c.first_piece-ended.ensures.pieces in
    rw c.pass-used.ensures.used (c.pass-used.ensures.stands ∙ leads.stands)

pub returns-then-self-clause-says : goal.returns-then-self-clause-says
returns-then-self-clause-says c =
    let none = ap (λ (s : LineStanding). s.held) (sym c.self.view_is ∙ kept_long c.self.inside.number c.self.inside.held.items c.self.inside.long c.if-self.true) in
    let leads = passes c.args.self.now _ _ _ none c.first_piece-ended.ensures.pieces in
    rw c.pass-used.ensures.used leads.says

pub returns-then-piece-free-clause-stands : goal.returns-then-piece-free-clause-stands
returns-then-piece-free-clause-stands c =
    let held = c.self.inside.held.items in
    let piece = c.first_piece-ended.result.0.now in
    let some = ap (λ (s : LineStanding). s.held) (sym c.self.view_is ∙ kept_short c.self.inside.number held c.self.inside.long c.if-self.false) in
    let cut = ap (slice_split is_feed) c.first_piece-ended.ensures.begins ∙ c.first_piece-ended.ensures.whole in
    let long = length-append held piece in
    let free = c.free.ensures in
    let room = c.self.invariant in
    let more = c.if-piece-free.true in
    c.give_up.ensures.stands ∙ (too_long c.args.self.now _ held piece some cut (omega (arith, long, free, room, more))).stands

pub returns-then-piece-free-clause-says : goal.returns-then-piece-free-clause-says
returns-then-piece-free-clause-says c =
    let held = c.self.inside.held.items in
    let piece = c.first_piece-ended.result.0.now in
    let some = ap (λ (s : LineStanding). s.held) (sym c.self.view_is ∙ kept_short c.self.inside.number held c.self.inside.long c.if-self.false) in
    let cut = ap (slice_split is_feed) c.first_piece-ended.ensures.begins ∙ c.first_piece-ended.ensures.whole in
    let long = length-append held piece in
    let free = c.free.ensures in
    let room = c.self.invariant in
    let more = c.if-piece-free.true in
    (too_long c.args.self.now _ held piece some cut (omega (arith, long, free, room, more))).says
    ∙ ap (λ (line : ApplicationLine). line ∷ []) (sym c.give_up.ensures.told)

pub returns-then-not-ended-clause-moves : goal.returns-then-not-ended-clause-moves
returns-then-not-ended-clause-moves c = λ some. rw (c.first_piece-ended.ensures.all c.if-not-ended.true) some

pub returns-then-not-ended-clause-stands : goal.returns-then-not-ended-clause-stands
returns-then-not-ended-clause-stands c =
    let held = c.self.inside.held.items in
    let piece = c.first_piece-ended.result.0.now in
    let some = ap (λ (s : LineStanding). s.held) (sym c.self.view_is ∙ kept_short c.self.inside.number held c.self.inside.long c.if-self.false) in
    let number = ap (λ (s : LineStanding). s.number) c.self.view_is in
    let cut = ap (slice_split is_feed) c.first_piece-ended.ensures.begins ∙ c.first_piece-ended.ensures.whole in
    let long = length-append held piece in
    let free = c.free.ensures in
    let room = c.self.invariant in
    let few = c.if-piece-free.false in
    stands_so c.self.inside.number c.args.self.now.number _ (held ++ piece) _ number c.put.ensures.items
    (kept_short c.self.inside.number c.put.new.self.items c.self.inside.long c.if-self.false)
    ∙ (goes_on c.args.self.now _ held piece some cut (omega (arith, long, free, room, few))).stands

pub returns-then-not-ended-clause-says : goal.returns-then-not-ended-clause-says
returns-then-not-ended-clause-says c =
    let held = c.self.inside.held.items in
    let piece = c.first_piece-ended.result.0.now in
    let some = ap (λ (s : LineStanding). s.held) (sym c.self.view_is ∙ kept_short c.self.inside.number held c.self.inside.long c.if-self.false) in
    let cut = ap (slice_split is_feed) c.first_piece-ended.ensures.begins ∙ c.first_piece-ended.ensures.whole in
    let long = length-append held piece in
    let free = c.free.ensures in
    let room = c.self.invariant in
    let few = c.if-piece-free.false in
    (goes_on c.args.self.now _ held piece some cut (omega (arith, long, free, room, few))).says

pub returns-clause-stands : goal.returns-clause-stands
returns-clause-stands c =
    let held = c.self.inside.held.items in
    let piece = c.first_piece-ended.result.0.now in
    let some = ap (λ (s : LineStanding). s.held) (sym c.self.view_is ∙ kept_short c.self.inside.number held c.self.inside.long c.if-self.false) in
    let number = ap (λ (s : LineStanding). s.number) c.self.view_is in
    let cut = cut_ended c.args.octets.now piece _ c.if-not-ended.false c.first_piece-ended.ensures.pieces in
    let long = length-append held piece in
    let free = c.free.ensures in
    let room = c.self.invariant in
    let few = c.if-piece-free.false in
    stands_so _ (next_line_number c.args.self.now.number) [] [] _ (ap next_line_number number) (λ _. []) c.begin_next.ensures
    ∙ (ends c.args.self.now _ held piece some cut (omega (arith, long, free, room, few))).stands

pub returns-clause-says : goal.returns-clause-says
returns-clause-says c =
    let held = c.self.inside.held.items in
    let piece = c.first_piece-ended.result.0.now in
    let some = ap (λ (s : LineStanding). s.held) (sym c.self.view_is ∙ kept_short c.self.inside.number held c.self.inside.long c.if-self.false) in
    let number = ap (λ (s : LineStanding). s.number) c.self.view_is in
    let cut = cut_ended c.args.octets.now piece _ c.if-not-ended.false c.first_piece-ended.ensures.pieces in
    let long = length-append held piece in
    let free = c.free.ensures in
    let room = c.self.invariant in
    let few = c.if-piece-free.false in
    let line = c.held.ensures ∙ c.put.ensures.items in
    (ends c.args.self.now _ held piece some cut (omega (arith, long, free, room, few))).says
    ∙ ap (λ (n : ℕ). request_line_told n (request_said (words_of (held ++ piece))) ∷ []) (sym number)
    ∙ ap (λ (t : List ℕ). request_line_told c.self.inside.number (request_said (words_of t)) ∷ []) (sym line)
    ∙ ap (λ (told : ApplicationLine). told ∷ []) (sym c.in_ok-line.ensures.told)
