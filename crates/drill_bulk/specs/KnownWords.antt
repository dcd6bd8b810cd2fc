-- Known answers: the first words of two seeds, those of another implementation, and the turn of a word.
use Rattle.std.specs.Prelude.{◌≡◌, ◌∷◌, [], refl}
use Rattle.er_base.specs.declared.side.Side.TheVariants.{E, R}
use Rattle.er_scenario.specs.declared.step.Step.TheVariants.{Send, Lose, Repeat, Take, Tick, Drain}
use Rattle.rand_core.specs.Stream.{next_u32}
use Rattle.rand_core.specs.Steps.{stream_of, word_bytes, u32_at}
use Rattle.rand_core.specs.Pcg32Seed.{pcg32_seed}
use Rattle.drill_bulk.specs.Draws.{words_drawn, seeded}
use Rattle.drill_bulk.specs.Turns.{turns}

pub words_of_0 : words_drawn 3 (seeded 0) ≡ 298703107 ∷ 4236525527 ∷ 336081875 ∷ []
unfolding words_drawn next_u32 stream_of pcg32_seed word_bytes u32_at
words_of_0 = refl

pub words_of_7 : words_drawn 3 (seeded 7) ≡ 2442223337 ∷ 414063806 ∷ 2743600285 ∷ []
unfolding words_drawn next_u32 stream_of pcg32_seed word_bytes u32_at
words_of_7 = refl

-- an even word is the engine's, an odd one the radio block centre's; the first message loses its frame, the second repeats it, the third
-- does neither
pub known_turns : turns 254 (2 ∷ 803 ∷ 1200 ∷ [])
    ≡ Send 1 E (254 ∷ 255 ∷ []) ∷ Lose 1 E ∷ Drain 1 1000 ∷ Tick 255000 ∷ Drain 1 1000 ∷ Take 1 R ∷ Drain 1 1000
    ∷ Send 1 R (255 ∷ 0 ∷ []) ∷ Repeat 1 R ∷ Drain 1 1000 ∷ Tick 256000 ∷ Drain 1 1000 ∷ Take 1 E ∷ Drain 1 1000
    ∷ Send 1 E (0 ∷ []) ∷ Drain 1 1000 ∷ Tick 257000 ∷ Drain 1 1000 ∷ Take 1 R ∷ Drain 1 1000 ∷ []
unfolding turns
known_turns = refl
