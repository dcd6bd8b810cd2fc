-- The connection is closed, and the others stay.
use Rattle.std.proofs.Common.{arith, rules, ◌≡◌, ◌∙◌, ◌<◌, ℕ, List, [], ◌∷◌, length, vec_len, sym, ap, subst}
use Rattle.outside.specs.Acts.{Called, Closed}
use Rattle.outside.specs.Doings.{Did}
use Rattle.application_loop.specs.Standing.{scene, AtRest}
use Rattle.application_loop.specs.declared.link.Link.{Link}
use Rattle.application_loop.proofs.Closing.{closed_rests}
use Rattle.application_loop.proofs.links.Links.close.Goals as goal

pub returns : goal.returns
returns g c = record {
  rests = λ run beside desk at_rest.
      let links = c.args.self.now.list.items in
      let length_is : vec_len c.args.self.now.list ≡ length links = search rules in
      let len = c.len.ensures in
      let there = c.if-place-len.false in
      let within : c.args.place < length links = omega (arith, length_is, len, there) in
      let link = c.remove-link.result in
      let told = g.O.Outside.told c.args.outside.now in
      let now = g.O.Outside.told c.close.new.self in
      let did = subst (λ (n : ℕ). Did told now (Called (Closed n) ∷ [])) (ap (λ (l : Link). l.number) c.remove-link.ensures.value) c.close.ensures.does in
      subst (λ (ls : List Link). AtRest run beside (scene now ls desk)) (sym (c.keep_place.ensures ∙ c.remove-link.ensures.items))
      (closed_rests told now links c.args.place link desk within did at_rest);
}
