-- The octets are heard part by part, until none is left or nothing is heard any more.
use Rattle.std.proofs.Common.{◌≡◌, ◌∙◌, ◌<◌, ◌≤◌, ◌-◌, ℕ, List, drop, length, Ok, slice_get, sym, ap, subst, arith}
use Rattle.std.proofs.lemmas.List.{nil_from_length, length-drop}
use Rattle.application_loop.specs.Standing.{scene, pouring, AtRest}
use Rattle.application_loop.specs.declared.link.Link.{Link}
use Rattle.application_loop.proofs.Happenings.{broke_off}
use Rattle.application_loop.proofs.Staying.{still_there}
use Rattle.application_loop.proofs.Pouring.{poured, poured_so_far}
use Rattle.application_loop.proofs.links.Links.pour.Goals as goal

pub returns-in_err-used : goal.returns-in_err-used
returns-in_err-used g c = record {
  pours = λ link run beside is moment finds none at_rest.
      let there = still_there c.args.self.now.list.items c.loop.self.list.items c.args.place link c.loop.invariant.numbers is in
      let here =
      subst (λ (n : ℕ). AtRest run (pouring beside n c.loop.rest.now) (scene (g.O.Outside.told c.loop.outside) c.loop.self.list.items c.loop.desk)) (sym there.number)
      (c.loop.invariant.left link run beside is moment finds at_rest) in
      broke_off _ run beside _ c.from_residual.result c.from_residual.ensures.1
      (c.in_err-used.ensures.hears there.link run beside there.at moment finds here);
}

pub returns-in-None : goal.returns-in-None
returns-in-None g c = record {
  pours = λ link run beside is moment finds none at_rest.
      let there = still_there c.args.self.now.list.items c.loop.self.list.items c.args.place link c.loop.invariant.numbers is in
      let here =
      subst (λ (n : ℕ). AtRest run (pouring beside n c.loop.rest.now) (scene (g.O.Outside.told c.loop.outside) c.loop.self.list.items c.loop.desk)) (sym there.number)
      (c.loop.invariant.left link run beside is moment finds at_rest) in
      let same = c.hear.ensures.still (c.in_ok-used.was ∙ ap Ok c.in-None.is) in
      let heard = rw c.in-None.is at (c.in_ok-used.ensures.hears there.link run beside there.at moment finds here) in
      poured_so_far run beside there.link c.loop.rest.now _ c.args.place (ap (λ (ls : List Link). slice_get ls c.args.place) same ∙ there.at) none heard;
}

pub loop-preserved : goal.loop-preserved
loop-preserved g c =
    let within : (0 < c.in-Some.used) × (c.in-Some.used ≤ length c.loop.rest.now) = rw c.in-Some.is at c.in_ok-used.ensures.within in
    record {
      few = (
          let some : 0 < c.in-Some.used = within.0 in
          let most : c.in-Some.used ≤ length c.loop.rest.now = within.1 in
          let rest : length c.behind-rest.result.now ≡ length c.loop.rest.now - c.in-Some.used =
          ap (λ (os : List ℕ). length os) c.behind-rest.ensures ∙ length-drop c.in-Some.used c.loop.rest.now in
          omega (arith, some, most, rest, c.loop.invariant.few)
          );
      numbers = c.hear.ensures.numbers ∙ c.loop.invariant.numbers;
      left = λ link run beside is moment finds at_rest.
          let there = still_there c.args.self.now.list.items c.loop.self.list.items c.args.place link c.loop.invariant.numbers is in
          let here =
          subst (λ (n : ℕ). AtRest run (pouring beside n c.loop.rest.now) (scene (g.O.Outside.told c.loop.outside) c.loop.self.list.items c.loop.desk)) (sym there.number)
          (c.loop.invariant.left link run beside is moment finds at_rest) in
          let heard : AtRest run (pouring beside there.link.number (drop c.in-Some.used c.loop.rest.now)) (scene (g.O.Outside.told c.hear.new.outside) c.hear.new.self.list.items c.hear.new.desk) =
          rw c.in-Some.is at (c.in_ok-used.ensures.hears there.link run beside there.at moment finds here) in
          subst (λ (os : List ℕ). AtRest run (pouring beside link.number os) (scene (g.O.Outside.told c.hear.new.outside) c.hear.new.self.list.items c.hear.new.desk))
          (sym c.behind-rest.ensures)
          (subst
          (λ (n : ℕ). AtRest run (pouring beside n (drop c.in-Some.used c.loop.rest.now))
          (scene (g.O.Outside.told c.hear.new.outside) c.hear.new.self.list.items c.hear.new.desk))
          there.number heard);
    }

pub returns : goal.returns
returns g c = record {
  pours = λ link run beside is moment finds none at_rest.
      let empty : length c.loop.rest.now ≡ 0 = omega (arith, c.loop.invariant.few, c.loop-test.false, c.loop.auto.counter-end) in
      poured run beside link.number c.loop.rest.now _ (nil_from_length c.loop.rest.now empty) none
      (c.loop.invariant.left link run beside is moment finds at_rest);
}
