-- What is drawn for a bulk run: words of 32 bits, one after the other, from PCG32 (O'Neill, XSH RR 64/32) that is seeded with a number.
use Rattle.std.specs.Prelude.{ℕ, zero, suc, List, [], ◌∷◌}
use Rattle.rand_core.specs.Stream.{Stream, next_u32}
use Rattle.rand_core.specs.Steps.{steps_u32, stream_of}
use Rattle.rand_core.specs.Pcg32Seed.{pcg32_seed}
use Rattle.rand_pcg.specs.Pcg.{pcg32, pcg32_of_seed}

-- the next words that a generator answers, so many
unfoldable pub words_drawn : (count : ℕ) → Stream → List ℕ
words_drawn zero generator = []
words_drawn (suc count) generator = (next_u32 generator).0 ∷ words_drawn count (next_u32 generator).1

-- the generator of a seed: the number is expanded to sixteen octets, which are its state and its stream
abbrev pub seeded : (seed : ℕ) → Stream
seeded seed = stream_of (steps_u32 pcg32) (pcg32_of_seed (pcg32_seed 16 seed))
