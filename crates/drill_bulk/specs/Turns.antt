-- The steps of a bulk run: a link at level full is set up, and so many messages go over a line that now and then loses or repeats a frame
-- (this profile).
use Rattle.std.specs.Prelude.{ℕ, ◌+◌, ◌*◌, ◌/◌, ◌%◌, ◌==◌, if◌then◌else◌, List, [], ◌∷◌, ◌++◌, map, Some}
use Rattle.std.specs.List.{range_with_len}
use Rattle.er_base.specs.declared.side.Side.{Side}
use Rattle.er_base.specs.declared.side.Side.TheVariants.{E, R}
use Rattle.er_base.specs.Sides.{other}
use Rattle.des_block.specs.declared.triple_key.TripleKey.{TripleKey}
use Rattle.er_scenario.specs.declared.step.Step.{Step}
use Rattle.er_scenario.specs.declared.step.Step.TheVariants.{Link, Send, Lose, Repeat, Take, Tick, Drain}
use Rattle.drill_bulk.specs.Draws.{words_drawn, seeded}

-- the KMAC of both ends
abbrev pub kmac : TripleKey
kmac = record { first = 0x0123456789abcdef; second = 0x23456789abcdef01; third = 0x456789abcdef0123 }

-- the set-up: engine 1 calls the radio block centre 2
abbrev pub bulk_set_up_steps : List Step
bulk_set_up_steps = Link 1 1 2 kmac (Some kmac) 1 2 ∷ Drain 1 64 ∷ []

-- who sends the message of a word
abbrev pub sender : (word : ℕ) → Side
sender word = if word % 2 == 0 then E else R

-- the octets of message i, counted from 0: 1 to 200 of them, which count up
abbrev pub message : (i word : ℕ) → List ℕ
message i word = map (λ j. (i + j) % 256) (range_with_len 0 (1 + word / 2 % 200))

-- what the line does to its first frame: one in eight is lost, one in eight is repeated
abbrev pub mishap : (word : ℕ) → List Step
mishap word =
    if word / 512 % 8 == 0 then Lose 1 (sender word) ∷ []
    else if word / 512 % 8 == 1 then Repeat 1 (sender word) ∷ []
    else []

-- message i is sent, and its frames are passed; T1 expires where it runs, and what it brings is passed; the message is taken, and the
-- acknowledgement is passed
abbrev pub steps_of_bulk_turn : (i word : ℕ) → List Step
steps_of_bulk_turn i word =
    Send 1 (sender word) (message i word) ∷ mishap word
    ++ Drain 1 1000 ∷ Tick (1000 * (i + 1)) ∷ Drain 1 1000 ∷ Take 1 (other (sender word)) ∷ Drain 1 1000 ∷ []

-- one turn for each word, the first of them turn i
unfoldable pub turns : (i : ℕ) → (words : List ℕ) → List Step
turns i [] = []
turns i (word ∷ words) = steps_of_bulk_turn i word ++ turns (i + 1) words

abbrev pub bulk_steps : (seed count : ℕ) → List Step
bulk_steps seed count = bulk_set_up_steps ++ turns 0 (words_drawn count (seeded seed))
