use Rattle.std.proofs.Common.{rules, ◌<◌, ◌≤◌, ap, sym, subst, ◌∙◌, length}
use Rattle.er_users.specs.Saying.{IsText}
use Rattle.er_users.proofs.Texts.{is_one, below_count}
use Rattle.er_users.proofs.replies.Replies.text.Goals as goal

pub returns-clause-fits : goal.returns-clause-fits
returns-clause-fits c =
    let held : c.self.inside.count ≤ length c.self.inside.rooms.items = search rules in
    let below : c.args.k < c.self.inside.count =
    below_count c.self.inside.rooms.items c.self.inside.count c.args.k held (subst (λ s. c.args.k < length s.texts) (sym c.self.view_is) c.requires) in
    subst IsText (sym (c.held.ensures ∙ ap (λ room. room.items) c.index.ensures))
    (is_one c.self.inside.rooms.items c.self.inside.count c.args.k c.index.result.now held below c.self.invariant.3)
