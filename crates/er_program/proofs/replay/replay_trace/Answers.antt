-- The header was printed, or its write failed.
use Rattle.std.proofs.Common.{◌≡◌, ◌∙◌, ◌++◌, ℕ, [], List, ap}
use Rattle.er_base.specs.LineTexts.{line_text}
use Rattle.er_trace.specs.Texts.{header_words}
use Rattle.safety_automaton.specs.Keys.{key_at}
use Rattle.outside.specs.ScriptSteps.{does_printed, does_sank}
use Rattle.er_program.specs.KeyedScripts.{replays_events}
use Rattle.er_program.proofs.replay.replay_trace.Goals as goal

pub returns-in-Ok : goal.returns-in-Ok
returns-in-Ok g c = record {
  does = does_printed (λ text. text ≡ line_text (header_words c.args.trace.now.settings)) (replays_events c.args.trace.now.settings (key_at c.args.store.now) [] c.args.trace.now.entries)
      c.as_slice.result.now _ _ _ _
      (c.as_slice.ensures.value ∙ c.in_ok-print_header.ensures.ok ∙ ap (λ (l : List ℕ). l ++ line_text (header_words c.args.trace.now.settings)) c.new-text.ensures.items)
      c.in-Ok.ensures.does c.replay_events.ensures.does;
}

pub returns : goal.returns
returns g c = record {
  does = does_sank (λ text. text ≡ line_text (header_words c.args.trace.now.settings)) (replays_events c.args.trace.now.settings (key_at c.args.store.now) [] c.args.trace.now.entries)
      c.as_slice.result.now _ _
      (c.as_slice.ensures.value ∙ c.in_ok-print_header.ensures.ok ∙ ap (λ (l : List ℕ). l ++ line_text (header_words c.args.trace.now.settings)) c.new-text.ensures.items)
      c.in-Err.ensures.does;
}
