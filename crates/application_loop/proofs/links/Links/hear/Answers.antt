-- The octets that the end uses are an event, behind which the messages that wait are taken.
use Rattle.std.proofs.Common.{◌≡◌, ◌∙◌, inl, inr, ◌<◌, ◌≤◌, ℕ, List, take, drop, length, false, Ok, Err, slice_set, sym, ap, subst, refl}
use Rattle.er_trace.specs.declared.event.Event.TheVariants as event
use Rattle.er_end.specs.KeptEnds.{used_of}
use Rattle.application_serving.specs.Going.{and_then, nothing_to_do}
use Rattle.application_loop.specs.Standing.{scene, pouring, AtRest, RestedBut}
use Rattle.application_loop.specs.declared.link.Link.{Link}
use Rattle.application_loop.proofs.Happenings.{takes_then, befalls_begins, went_on, went_to_rest}
use Rattle.application_loop.proofs.Pouring.{octets_serve, hears_broke, none_came, some_octet, lent_found, lent_is, set_itself, numbers_behind}
use Rattle.loop_model.specs.Sessions.{Rules, Hears}
use Rattle.application_loop.proofs.TakingMessages.{room_before_event}
use Rattle.application_loop.proofs.TakingAll.{rest_but_this}
use Rattle.application_loop.proofs.links.Links.hear.Goals.{then-is_empty-via-then-is_empty, then-is_empty-via-else-is_empty+then-is_broken}
use Rattle.application_loop.proofs.links.Links.hear.Goals as goal

pub returns-then-is_empty-clause-hears : goal.returns-then-is_empty-clause-hears
returns-then-is_empty-clause-hears g c link run beside is moment finds at_rest =
    let links = c.args.self.now.list.items in
    let octets = c.args.octets.now in
    let lent = c.in-Some.link.now in
    let at = c.in-Some.ensures.item.3 in
    let found = lent_found links c.args.place lent at.0 (at.1 lent) in
    let same : lent ≡ link = lent_is links c.args.place link lent is (at.1 lent) in
    let still =
    subst (λ (l : List Link). AtRest run (pouring beside link.number octets) (scene (g.O.Outside.told c.args.outside.now) l c.args.desk.now))
    (sym (set_itself links c.args.place lent (at.1 lent))) at_rest in
    elim c.then-is_empty.branch [
      | then-is_empty-via-then-is_empty w ↦ rw w.self-is (still, inl (none_came octets (sym c.is_empty.ensures ∙ w.if-is_empty.true)))
      | then-is_empty-via-else-is_empty+then-is_broken w ↦
          rw w.self-is (still, inr (ap (λ (l : Link). l.broken) (sym same) ∙ sym w.is_broken.ensures ∙ w.if-is_broken.true))
    ]

pub returns-then-is_empty-clause-still : goal.returns-then-is_empty-clause-still
returns-then-is_empty-clause-still g c = λ none.
    let still = set_itself c.args.self.now.list.items c.args.place c.in-Some.link.now (c.in-Some.ensures.item.3.1 c.in-Some.link.now) in
    elim c.then-is_empty.branch [
      | then-is_empty-via-then-is_empty w ↦ rw w.self-is still
      | then-is_empty-via-else-is_empty+then-is_broken w ↦ rw w.self-is still
    ]

pub returns-in_err-used-clause-hears : goal.returns-in_err-used-clause-hears
returns-in_err-used-clause-hears g c link run beside is moment finds at_rest =
    let links = c.args.self.now.list.items in
    let octets = c.args.octets.now in
    let lent = c.in-Some.link.now in
    let at = c.in-Some.ensures.item.3 in
    let found = lent_found links c.args.place lent at.0 (at.1 lent) in
    let same : lent ≡ link = lent_is links c.args.place link lent is (at.1 lent) in
    let here =
    subst (λ (l : Link). AtRest run (pouring beside l.number octets) (scene (g.O.Outside.told c.args.outside.now) links c.args.desk.now)) (sym same) at_rest in
    let begun =
    befalls_begins run (pouring beside lent.number octets) _ c.args.when.now.moment c.args.place lent
    (event.Octets (take (used_of lent.end.value octets) octets)) found refl here in
    let rest = and_then (takes_then c.args.when.now.moment) nothing_to_do in
    let laws = c.events_serve.ensures in
    let whole : lent.broken ≡ false = sym c.is_broken.ensures ∙ c.if-is_broken.false in
    hears_broke _ run beside link octets _ c.from_residual.result c.from_residual.ensures.1
    (octets_serve laws.on laws.model laws.stages run beside rest (g.K.KeyFinder.entries c.args.keys.now) c.args.when.now.moment octets links c.args.place lent
    c.args.desk.now (g.O.Outside.told c.args.outside.now) found whole moment finds c.occur.new.self c.occur.new.desk (g.O.Outside.told c.occur.new.outside)
    (Err c.in_err-used.field-0.0)
    (record { records = c.in_err-used.ensures.records; occurs = c.in_err-used.ensures.occurs; only = c.in_err-used.ensures.only }) begun)

pub returns-in_err-used-clause-numbers : goal.returns-in_err-used-clause-numbers
returns-in_err-used-clause-numbers g c =
    let at = c.in-Some.ensures.item.3 in
    let lent = c.in-Some.link.now in
    numbers_behind c.args.self.now.list.items c.args.place lent c.occur.new.self
    (lent_found c.args.self.now.list.items c.args.place lent at.0 (at.1 lent)) c.occur.ensures.number

pub returns-in_err-take_at-clause-hears : goal.returns-in_err-take_at-clause-hears
returns-in_err-take_at-clause-hears g c link run beside is moment finds at_rest =
    let links = c.args.self.now.list.items in
    let octets = c.args.octets.now in
    let lent = c.in-Some.link.now in
    let at = c.in-Some.ensures.item.3 in
    let found = lent_found links c.args.place lent at.0 (at.1 lent) in
    let same : lent ≡ link = lent_is links c.args.place link lent is (at.1 lent) in
    let here =
    subst (λ (l : Link). AtRest run (pouring beside l.number octets) (scene (g.O.Outside.told c.args.outside.now) links c.args.desk.now)) (sym same) at_rest in
    let begun =
    befalls_begins run (pouring beside lent.number octets) _ c.args.when.now.moment c.args.place lent
    (event.Octets (take (used_of lent.end.value octets) octets)) found refl here in
    let rest = and_then (takes_then c.args.when.now.moment) nothing_to_do in
    let laws = c.events_serve.ensures in
    let whole : lent.broken ≡ false = sym c.is_broken.ensures ∙ c.if-is_broken.false in
    let on =
    octets_serve laws.on laws.model laws.stages run beside rest (g.K.KeyFinder.entries c.args.keys.now) c.args.when.now.moment octets links c.args.place lent
    c.args.desk.now (g.O.Outside.told c.args.outside.now) found whole moment finds c.occur.new.self c.occur.new.desk (g.O.Outside.told c.occur.new.outside)
    (Ok c.in_ok-used.used)
    (record { records = c.in_ok-used.ensures.records; occurs = c.in_ok-used.ensures.occurs; only = c.in_ok-used.ensures.only }) begun in
    let rules : Rules = record { keys = g.K.KeyFinder.entries c.args.keys.now; setup = 0 } in
    let but : RestedBut c.args.place (scene (g.O.Outside.told c.occur.new.outside) (slice_set links c.args.place c.occur.new.self) c.occur.new.desk) =
    λ room. rest_but_this links c.args.place lent c.occur.new.self found
    (here.rested
    (room_before_event rules c.args.when.now.moment (Hears octets) lent c.occur.new.self c.args.desk.now c.occur.new.desk (c.in_ok-used.ensures.occurs rules refl)
    room)) in
    let left = pouring beside lent.number (drop (used_of lent.end.value octets) octets) in
    let serving = went_on run left rest (scene (g.O.Outside.told c.occur.new.outside) (slice_set links c.args.place c.occur.new.self) c.occur.new.desk) on in
    hears_broke _ run beside link octets _ c.from_residual-in_err-take_at.result c.from_residual-in_err-take_at.ensures.1
    (c.in_err-take_at.ensures.takes but run left nothing_to_do moment serving)

pub returns-in_err-take_at-clause-numbers : goal.returns-in_err-take_at-clause-numbers
returns-in_err-take_at-clause-numbers g c =
    let at = c.in-Some.ensures.item.3 in
    let lent = c.in-Some.link.now in
    c.take_at.ensures.numbers
    ∙ numbers_behind c.args.self.now.list.items c.args.place lent c.occur.new.self
    (lent_found c.args.self.now.list.items c.args.place lent at.0 (at.1 lent)) c.occur.ensures.number

pub returns-clause-hears : goal.returns-clause-hears
returns-clause-hears g c link run beside is moment finds at_rest =
    let links = c.args.self.now.list.items in
    let octets = c.args.octets.now in
    let lent = c.in-Some.link.now in
    let at = c.in-Some.ensures.item.3 in
    let found = lent_found links c.args.place lent at.0 (at.1 lent) in
    let same : lent ≡ link = lent_is links c.args.place link lent is (at.1 lent) in
    let here =
    subst (λ (l : Link). AtRest run (pouring beside l.number octets) (scene (g.O.Outside.told c.args.outside.now) links c.args.desk.now)) (sym same) at_rest in
    let begun =
    befalls_begins run (pouring beside lent.number octets) _ c.args.when.now.moment c.args.place lent
    (event.Octets (take (used_of lent.end.value octets) octets)) found refl here in
    let rest = and_then (takes_then c.args.when.now.moment) nothing_to_do in
    let laws = c.events_serve.ensures in
    let whole : lent.broken ≡ false = sym c.is_broken.ensures ∙ c.if-is_broken.false in
    let on =
    octets_serve laws.on laws.model laws.stages run beside rest (g.K.KeyFinder.entries c.args.keys.now) c.args.when.now.moment octets links c.args.place lent
    c.args.desk.now (g.O.Outside.told c.args.outside.now) found whole moment finds c.occur.new.self c.occur.new.desk (g.O.Outside.told c.occur.new.outside)
    (Ok c.in_ok-used.used)
    (record { records = c.in_ok-used.ensures.records; occurs = c.in_ok-used.ensures.occurs; only = c.in_ok-used.ensures.only }) begun in
    let rules : Rules = record { keys = g.K.KeyFinder.entries c.args.keys.now; setup = 0 } in
    let but : RestedBut c.args.place (scene (g.O.Outside.told c.occur.new.outside) (slice_set links c.args.place c.occur.new.self) c.occur.new.desk) =
    λ room. rest_but_this links c.args.place lent c.occur.new.self found
    (here.rested
    (room_before_event rules c.args.when.now.moment (Hears octets) lent c.occur.new.self c.args.desk.now c.occur.new.desk (c.in_ok-used.ensures.occurs rules refl)
    room)) in
    let left = pouring beside lent.number (drop (used_of lent.end.value octets) octets) in
    let serving = went_on run left rest (scene (g.O.Outside.told c.occur.new.outside) (slice_set links c.args.place c.occur.new.self) c.occur.new.desk) on in
    let went = c.in_ok-take_at.ensures.takes but run left nothing_to_do moment serving in
    let x = scene (g.O.Outside.told c.take_at.new.outside) c.take_at.new.self.list.items c.take_at.new.desk in
    let rested = went_to_rest run left x went (c.in_ok-take_at.ensures.rests but) in
    subst (λ (used : ℕ). AtRest run (pouring beside link.number (drop used octets)) x) (sym c.in_ok-used.ensures.used)
    (subst (λ (l : Link). AtRest run (pouring beside l.number (drop (used_of lent.end.value octets) octets)) x) same rested)

pub returns-clause-within : goal.returns-clause-within
returns-clause-within g c =
    let octets = c.args.octets.now in
    subst (λ (used : ℕ). (0 < used) × (used ≤ length octets)) (sym c.in_ok-used.ensures.used)
    (some_octet octets (sym c.is_empty.ensures ∙ c.if-is_empty.false) c.used_octets.ensures c.in-Some.link.now.end.value)

pub returns-clause-numbers : goal.returns-clause-numbers
returns-clause-numbers g c =
    let at = c.in-Some.ensures.item.3 in
    let lent = c.in-Some.link.now in
    c.take_at.ensures.numbers
    ∙ numbers_behind c.args.self.now.list.items c.args.place lent c.occur.new.self
    (lent_found c.args.self.now.list.items c.args.place lent at.0 (at.1 lent)) c.occur.ensures.number
