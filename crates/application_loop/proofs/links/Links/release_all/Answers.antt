-- Each end that isn't released is, one after the other.
use Rattle.std.proofs.Common.{rules, ◌≡◌, ◌∙◌, ◌<◌, ◌+◌, ℕ, List, length, drop, vec_len, arith, refl, sym, ap, subst}
use Rattle.std.proofs.Math.Seq.{drop-length}
use Rattle.application_serving.specs.Going.{and_then}
use Rattle.application_loop.specs.Standing.{scene, Serving}
use Rattle.application_loop.specs.declared.link.Link.{Link}
use Rattle.application_loop.proofs.Happenings.{part_broke_off}
use Rattle.application_loop.proofs.Releasing.{releases, releases_begins, visits, release_next, release_past, releases_ends}
use Rattle.application_loop.proofs.links.Links.release_all.Goals.{then-is_heard+in_ok-occur, else-is_heard}
use Rattle.application_loop.proofs.links.Links.release_all.Goals as goal

pub loop-place-init : goal.loop-place-init
loop-place-init g c = record {
  left = λ run beside rest moment serving. releases_begins rest c.args.when.now.moment serving;
  others = λ at above. refl;
}

pub returns-in_err-occur : goal.returns-in_err-occur
returns-in_err-occur g c = record {
  releases = λ run beside rest moment serving.
      let links = c.args.self.now.list.items in
      let place = c.loop-place.place in
      let length_is : vec_len c.args.self.now.list ≡ length links = search rules in
      let within : place < length links = subst (λ (n : ℕ). place < n) (c.len-place-end.ensures ∙ length_is) c.loop-place-test.true in
      let v = visits links c.loop-place.self.list.items place within (c.loop-place.invariant.others place (omega arith)) in
      let next =
      release_next rest c.args.when.now.moment links c.loop-place.self.list.items place v (c.loop-place.invariant.left run beside rest moment serving)
      (sym c.if-is_heard.true ∙ c.is_heard.ensures v.link v.at) in
      part_broke_off _ run beside rest _ c.from_residual.result c.from_residual.ensures.1
      (c.in_err-occur.ensures.occurs v.link v.at tt run beside (and_then (releases c.args.when.now.moment (drop (place + 1) links)) rest) moment next);
}

pub loop-place-preserved : goal.loop-place-preserved
loop-place-preserved g c =
    let links = c.args.self.now.list.items in
    let place = c.loop-place.place in
    let length_is : vec_len c.args.self.now.list ≡ length links = search rules in
    let within : place < length links = subst (λ (n : ℕ). place < n) (c.len-place-end.ensures ∙ length_is) c.loop-place-test.true in
    let v = visits links c.loop-place.self.list.items place within (c.loop-place.invariant.others place (omega arith)) in
    elim c.if-is_heard.branch [
      | then-is_heard+in_ok-occur w ↦ rw (w.self-is, w.desk-is, w.outside-is) record {
        left = λ run beside rest moment serving.
            let next =
            release_next rest c.args.when.now.moment links c.loop-place.self.list.items place v (c.loop-place.invariant.left run beside rest moment serving)
            (sym w.if-is_heard.true ∙ c.is_heard.ensures v.link v.at) in
            let on =
            w.in_ok-occur.ensures.occurs v.link v.at tt run beside (and_then (releases c.args.when.now.moment (drop (place + 1) links)) rest) moment next in
            record { deeds = on.deeds; going = on.going; stands = on.leaves };
        others = λ at above.
            w.occur.ensures.others at (λ same. omega (arith, above, same)) ∙ c.loop-place.invariant.others at (omega (arith, above));
      }
      | else-is_heard w ↦ rw (w.self-is, w.desk-is, w.outside-is) record {
        left = λ run beside rest moment serving.
            release_past rest c.args.when.now.moment links c.loop-place.self.list.items place v (c.loop-place.invariant.left run beside rest moment serving)
            (sym w.if-is_heard.false ∙ c.is_heard.ensures v.link v.at);
        others = λ at above. c.loop-place.invariant.others at (omega (arith, above));
      }
    ]

pub returns : goal.returns
returns g c = record {
  releases = λ run beside rest moment serving.
      let links = c.args.self.now.list.items in
      let place = c.loop-place.place in
      let length_is : vec_len c.args.self.now.list ≡ length links = search rules in
      let past : place ≡ length links =
      omega (arith, c.loop-place-test.false, c.loop-place.auto.place-end, c.len-place-end.ensures, length_is) in
      let on =
      releases_ends rest c.args.when.now.moment
      (subst
      (λ (l : List Link). Serving run beside (and_then (releases c.args.when.now.moment l) rest)
      (scene (g.O.Outside.told c.loop-place.outside) c.loop-place.self.list.items c.loop-place.desk))
      (ap (λ (n : ℕ). drop n links) past ∙ drop-length links) (c.loop-place.invariant.left run beside rest moment serving)) in
      record { deeds = on.deeds; going = on.going; leaves = on.stands };
}
