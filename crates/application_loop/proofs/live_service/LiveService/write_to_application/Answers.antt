-- Behind what was written the messages are taken for which there is room.
use Rattle.std.proofs.Common.{◌≡◌, ◌∙◌, ◌==◌, false, true, ℕ, List, [], length, refl, sym, ap, subst}
use Rattle.std.specs.List.{All}
use Rattle.application_serving.specs.Going.{and_then, nothing_to_do}
use Rattle.application_loop.specs.Living.{Living, scene_of_live}
use Rattle.application_loop.specs.Standing.{Rested}
use Rattle.application_loop.specs.declared.links.Links.{Links}
use Rattle.application_loop.proofs.Happenings.{takes_then, takes_end}
use Rattle.application_loop.proofs.RequestParts.{living_beside, keeps_itself}
use Rattle.application_loop.proofs.TakingAll.{WaitsNot}
use Rattle.application_loop.proofs.ApplicationWriting.{rests_behind_takes}
use Rattle.application_loop.proofs.live_service.LiveService.write_to_application.Goals as goal

pub returns-then-had_room : goal.returns-then-had_room
returns-then-had_room g c = record {
  rests = λ at run rests.
      let told = g.O.Outside.told c.write_out.new.outside in
      let now = c.write_out.new.self in
      let lives = c.write_out.ensures.writes run
      (λ none.
      let e : false ≡ true =
      sym c.if-is_empty.false ∙ c.is_empty.ensures ∙ ap (λ (o : List ℕ). length o == 0) (c.output.ensures ∙ none) in
      absurd cc) rests in
      let rested : Rested (scene_of_live told now) = λ room.
      subst (λ (l : Links). All WaitsNot l.list.items) (sym c.write_out.ensures.links) (rests.rested (sym c.has_room-had_room.ensures ∙ c.if-had_room.true)) in
      record {
        living = living_beside lives (keeps_itself now) (takes_end run lives.beside (scene_of_live told now) _ nothing_to_do rested lives.serving);
        rested = rested;
      };
}

pub returns : goal.returns
returns g c = record {
  rests = λ at run rests.
      let lives = c.write_out.ensures.writes run
      (λ none.
      let e : false ≡ true =
      sym c.if-is_empty.false ∙ c.is_empty.ensures ∙ ap (λ (o : List ℕ). length o == 0) (c.output.ensures ∙ none) in
      absurd cc) rests in
      rests_behind_takes (g.O.Outside.told c.write_out.new.outside) (g.O.Outside.told c.take_waiting.new.outside) c.write_out.new.self _
      c.args.when.now.moment c.take_waiting.result
      (subst (λ (m : ℕ). Living run (g.O.Outside.told c.write_out.new.outside) (and_then (takes_then m) (λ kind s. [])) c.write_out.new.self) (sym at) lives)
      (c.write_out.ensures.moment ∙ sym at) c.take_waiting.ensures.takes c.take_waiting.ensures.rests refl;
}
