-- Representation: what a run of a command that needs no wires means by its status, by what it saw of its cabinet and its sink; no claim
-- rests on it.
use Rattle.std.specs.Prelude.{◌≡◌, ℕ, List, [], ◌++◌, ◌∷◌, false, Option, None}
use Rattle.link_trait.specs.Outside.{Grew, Rose}
use Rattle.er_program.specs.Commands.{Command, names_of}
use Rattle.er_serving.specs.Outsides.{Outside}
use Rattle.er_statuses.specs.LastLines.{fetch_line}
use Rattle.er_statuses.specs.Answers.{Files}
use Rattle.er_program.specs.Runs.{IsSpent, IsTextBegun}
use Rattle.er_serving.specs.LineRuns.{GivenToLoop, given_to_loop}
use Rattle.er_program.specs.Statuses as statuses

-- names that were asked for
abbrev pub AskedNames : Type 0
AskedNames = Option (List (List ℕ))

-- an outside with this cabinet and sink, whose wires and clock tell nothing
abbrev pub sight : Files → AskedNames → ℕ → Option (List ℕ) → ℕ → Outside
sight files asked unfetched held sunk = record {
  files = files;
  asked = asked;
  unfetched = unfetched;
  held = held;
  sunk = sunk;
  calls = None;
  failed = 0;
  turns_failed = 0;
  listening = false;
  clock = None;
}

abbrev pub nobody : GivenToLoop
nobody = given_to_loop 0 [] (record { u32_after = λ calls. 0; u64_after = λ calls. 0; bytes_after = λ calls n. [] })

pub record IsUnfetched (command : Command) (asked asked_now : AskedNames) (c d : ℕ) (before now : Option (List ℕ)) : Type 0 where
  pub first : List (List ℕ)
  pub name : List ℕ
  pub rest : List (List ℕ)
  pub is : names_of command ≡ first ++ name ∷ rest
  pub asked_for : Grew asked asked_now (first ++ name ∷ [])
  pub rose : Rose c d
  pub printed : Grew before now (fetch_line name)

pub record IsSinkFailed (command : Command) (files : Files) (c d f g : ℕ) (before now : Option (List ℕ)) : Type 0 where
  pub rose : Rose f g
  pub beginning : IsTextBegun command files c d before now

abbrev pub IsCompleteByFiles : Command → Files → (c d f g status : ℕ) → Type 0
IsCompleteByFiles command files c d f g status = statuses.IsComplete command (sight files None c None f) (sight files None d None g) status

pub record FileMeans (command : Command) (files : Files) (asked asked_now : AskedNames) (c d f g : ℕ) (before now : Option (List ℕ)) (status : ℕ) : Type 0 where
  pub known : statuses.IsFileStatus status
  pub done : status ≡ 0 → statuses.IsDone command nobody (sight files asked c before f) (sight files asked_now d now g)
  pub usage : status ≡ 1 → statuses.IsMisused command (sight files asked c before f) (sight files asked_now d now g)
  pub fetch : status ≡ 2 → IsUnfetched command asked asked_now c d before now
  pub refused : status ≡ 3 → statuses.IsRefused command (sight files asked c before f) (sight files asked_now d now g)
  pub keys : status ≡ 4 → statuses.IsKeyless command (sight files asked c before f) (sight files asked_now d now g)
  pub sink : status ≡ 5 → IsSinkFailed command files c d f g before now
  pub memory : status ≡ 7 → IsSpent command files before now
  pub overfull : status ≡ 8 → statuses.IsOverfull command (sight files asked c before f) (sight files asked_now d now g)
  pub unlike : status ≡ 9 → statuses.IsUnlikeReplay command (sight files asked c before f) (sight files asked_now d now g)
  pub complete : IsCompleteByFiles command files c d f g status
