-- Where a loop is cut that breaks off, since its sink failed or memory ran out: one place of its course, in the one order in which its text, octet by
-- octet, and its calls come out (this profile). All of its whole turns stand before that place, and of one turn more what was already under way.
use Rattle.std.specs.Prelude.{◌≡◌, ℕ, ◌<◌, List, ◌∷◌, ◌++◌, length, None}
use Rattle.link_trait.specs.Wires.{Closes}
use Rattle.loop_model.specs.Ends.{EndOps}
use Rattle.loop_model.specs.Journals.{JournalEntry, text}
use Rattle.loop_model.specs.Deeds.{LoopDeed, Calling, printings, Sign, octet_signs, signs}
use Rattle.loop_model.specs.Outs.{Out}
use Rattle.loop_model.specs.Loops.{Plan, Course, Turn, went, run}
use Rattle.loop_model.specs.Orderings.{GivesTold, IsSilentOnConnection}

-- what came out before a cut: octets of the text, and calls, in their order
abbrev pub Cut : Type 0
Cut = List Sign

-- the cut lies in a part of the loop: a beginning of what comes out of the part stands before it
pub record LiesIn {S : Type 0} (part : Out S) (cut : Cut) : Type 0 where
  pub rest : List Sign
  pub is : cut ++ rest ≡ signs part.order

-- a cut behind a part: all that comes out of the part stands before it
abbrev pub cut_behind_part : {S : Type 0} → Out S → Cut → Cut
cut_behind_part part cut = signs part.order ++ cut

-- what came out before a cut came in order
pub record IsToldFirst (cut : Cut) : Type 0 where
  -- what was done whole; and the event of which a beginning of the lines was printed, where there is one
  pub done : List LoopDeed
  pub under_way : List JournalEntry
  pub begun : List ℕ
  pub unbegun : List ℕ
  pub begins : begun ++ unbegun ≡ text under_way
  pub is : cut ≡ signs done ++ octet_signs begun
  -- what was given to each connection was told of it, in lines that stand there whole
  pub told : (conn : ℕ) → GivesTold conn done
  -- behind a close nothing comes of its connection
  pub last : (conn : ℕ) (before rest : List LoopDeed) → before ++ Calling (Closes conn) ∷ rest ≡ done → IsSilentOnConnection conn (rest ++ printings under_way)

-- the same plan, but for the number of turns
abbrev pub with_turns : Plan → ℕ → Plan
with_turns plan n = record plan { turns = n }

module _ {E : Type 0} (o : EndOps E) where
  -- some whole turns: the loop that is to do just these
  abbrev pub first_turns : Plan → Course E → List Turn → Out (Course E)
  first_turns plan c turns = run o (with_turns plan (length turns)) c turns

  -- the cut lies in a run of turns: some whole turns stand before it, none of which halted the loop, and it lies in the next, with what comes before and
  -- behind that
  pub record LiesInRun (plan : Plan) (c : Course E) (cut : Cut) : Type 0 where
    pub turns : List Turn
    pub fewer : length turns < plan.turns
    pub goes_on : (first_turns plan c turns).state.halt ≡ None
    pub last : Turn
    pub rest : Cut
    pub lies : LiesIn (went o plan (first_turns plan c turns).state last) rest
    pub is : cut ≡ cut_behind_part (first_turns plan c turns) rest
