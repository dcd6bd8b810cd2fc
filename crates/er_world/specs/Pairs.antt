-- Representation: the pairs of session keys and text that the code keeps; no claim rests on it.
use Rattle.std.specs.Prelude.{◌≡◌, ◌||◌, ℕ, List}
use Rattle.std.specs.List.{list_any}
use Rattle.des_block.specs.declared.triple_key.TripleKey.{TripleKey}
use Rattle.safety_pair_laws.specs.Facts.{Sealing, is_sealing}

-- these pairs are kept too
pub record Gains (more old new : List Sealing) : Type 0 where
  pub same : (key : TripleKey) (text : List ℕ)
      → list_any (is_sealing key text) new ≡ (list_any (is_sealing key text) old || list_any (is_sealing key text) more)
