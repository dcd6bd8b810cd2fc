use Rattle.tap_laws.proofs.Unforged.{audit_finds_unforged}
use Rattle.tap_laws.proofs.laws.audit_finds_unforged.Goals as goal

pub returns : goal.returns
returns c =
    audit_finds_unforged c.stacks_run.ensures c.laws_of_two_ends.ensures (record {
      des = record { deciphered = c.decipher_undoes_encipher.ensures; enciphered = c.encipher_undoes_decipher.ensures; blocks = c.gives_blocks.ensures };
      own = c.session_keys.ensures.own;
      stay = c.session_keys.ensures.stay;
      lawful = c.lawful.ensures;
      talk = c.stacks_talk.ensures;
      accept = c.stacks_accept.ensures;
    }) c.audit_finds_told.ensures
