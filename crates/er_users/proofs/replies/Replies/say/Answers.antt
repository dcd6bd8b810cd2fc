use Rattle.std.proofs.Common.{rules, ◌≡◌, ◌<◌, ap, sym, ◌∙◌, length}
use Rattle.std.proofs.lemmas.List.Elements.{All-set, All-get_or}
use Rattle.er_users.proofs.Texts.{say_rooms, all_next}
use Rattle.er_users.proofs.replies.Replies.say.Goals as goal

pub returns-clause-said : goal.returns-clause-said
returns-clause-said c =
    rw (← c.self.view_is)
    (say_rooms c.self.inside.rooms.items c.self.inside.count c.self.inside.leaving c.fill.new.room c.args.text.now
    (search rules) (search rules) c.fill.ensures.text (sym c.is_sayable.ensures ∙ c.if-not-is_sayable.false))

pub invariant_of-self : goal.invariant_of-self
invariant_of-self c =
    let below : c.self.inside.count < length c.self.inside.rooms.items = search rules in
    let capacity : c.fill.new.room.capacity ≡ 1023 =
    c.fill.ensures.capacity ∙ ap (λ room. room.capacity) c.index_mut.ensures.value
    ∙ All-get_or (λ room. room.capacity ≡ 1023) c.self.inside.rooms.items c.self.inside.count c.index_mut.result.now below c.self.invariant.2 in (
      c.self.invariant.0,
      search rules,
      All-set (λ room. room.capacity ≡ 1023) c.self.inside.rooms.items c.self.inside.count c.fill.new.room capacity c.self.invariant.2,
      all_next c.self.inside.rooms.items c.self.inside.count c.fill.new.room c.args.text.now below c.fill.ensures.text
          (sym c.is_sayable.ensures ∙ c.if-not-is_sayable.false) c.self.invariant.3,
    )
