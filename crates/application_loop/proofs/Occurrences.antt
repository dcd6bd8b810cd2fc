-- An event at a live connection, put together of what its parts do.
use Rattle.std.proofs.Common.{◌≡◌, ℕ, Bool, true, false, not, List, [], Result, Ok, Err, refl, sym, ap, subst, ◌∙◌}
use Rattle.er_base.specs.declared.no_memory.NoMemory.{NoMemory as Want}
use Rattle.er_end_model.specs.Ends.{Event}
use Rattle.er_end_model.specs.Outcomes.{Outcome}
use Rattle.er_end.specs.KeptEnds.{kept_end_behind_event, tells}
use Rattle.loop_model.specs.Sessions.{Rules, GivenToSession, event_of, journal_event_of_given, end_after, outcomes_of_given_event, octets_in, breaks}
use Rattle.loop_session.specs.declared.loop_fault.LoopFault.{LoopFault}
use Rattle.loop_session.specs.declared.loop_fault.LoopFault.TheVariants.{NoMemory}
use Rattle.loop_session.specs.Giving.{journal_entry_of_event, too_many, joined_to, Tells}
use Rattle.loop_session.specs.Keeping.{kept_ends}
use Rattle.loop_session.specs.Parts.{Breaks, Puts}
use Rattle.outside.specs.Acts.{Act}
use Rattle.outside.specs.Chains.{did_nothing}
use Rattle.outside.specs.Doings.{Told}
use Rattle.application_port.specs.Ports.{told_at_port}
use Rattle.application_telling.specs.Texts.{event_of_sent, application_text}
use Rattle.application_loop.specs.declared.link.Link.{Link}
use Rattle.application_loop.specs.declared.desk.Desk.{Desk}
use Rattle.application_loop.specs.Occurring.{message_sent_by, peer_behind_outcomes, IsUnbroken, CountsOn, Occurs}

pub occurs_of : (r : Rules) (m : ℕ) (g : GivenToSession) (old now : Link) (desk then : Desk) (event : Event) (outcomes : List Outcome)
    → event ≡ event_of r g → outcomes ≡ tells m event old.end.value
    → now.number ≡ old.number → now.end.value ≡ kept_end_behind_event m event old.end.value
    → now.output.items ≡ joined_to old.output.items (octets_in outcomes)
    → then.port ≡ told_at_port (application_text old.number (event_of_sent (message_sent_by g)) outcomes) desk.port
    → Tells (journal_entry_of_event m old.number (journal_event_of_given kept_ends old.end.value g) outcomes) then.line.items
    → now.peer ≡ peer_behind_outcomes old.peer outcomes
    → (now.broken ≡ false → IsUnbroken g outcomes old) → CountsOn outcomes desk then
    → Occurs r m g old now desk then
unfolding end_after outcomes_of_given_event
occurs_of r m g old now desk then event outcomes e q number end output told lines peer unbroken counts =
    let is : outcomes ≡ tells m (event_of r g) old.end.value = q ∙ ap (λ (z : Event). tells m z old.end.value) e in
    record {
      number = number;
      end = end ∙ ap (λ (z : Event). kept_end_behind_event m z old.end.value) e;
      output = output ∙ ap (λ (z : List Outcome). joined_to old.output.items (octets_in z)) is;
      told = told ∙ ap (λ (z : List Outcome). told_at_port (application_text old.number (event_of_sent (message_sent_by g)) z) desk.port) is;
      lines = subst (λ (z : List Outcome). Tells (journal_entry_of_event m old.number (journal_event_of_given kept_ends old.end.value g) z) then.line.items) is lines;
      peer = peer ∙ ap (peer_behind_outcomes old.peer) is;
      unbroken = λ whole. subst (λ (z : List Outcome). IsUnbroken g z old) is (unbroken whole);
      counts = subst (λ (z : List Outcome). CountsOn z desk then) is counts;
    }

-- an event that was noted, and whose octets fit
pub unbroken_of : (g : GivenToSession) (outcomes : List Outcome) (old now : Link) (is_breaking fits : Bool) → is_breaking ≡ breaks g
    → fits ≡ not (too_many old.output.items (octets_in outcomes))
    → (now.broken ≡ false → (old.broken ≡ false) × (is_breaking ≡ false) × (fits ≡ true)) → now.broken ≡ false → IsUnbroken g outcomes old
unbroken_of g outcomes old now is_breaking fits breaking fit noted whole =
    let n = noted whole in
    record {
      before = n.0;
      holds = sym breaking ∙ n.1;
      fits = not_false (too_many old.output.items (octets_in outcomes)) (sym fit ∙ n.2);
    }
  where
    not_false : (b : Bool) → not b ≡ true → b ≡ false
    not_false true e = absurd (cc)
    not_false false e = refl

-- memory ran out before anything was written
pub wanted_puts : {T : Type 0} (a : Told) (all : List Act) (res : Result T LoopFault) (fault : LoopFault) (want : Want) → res ≡ Err fault
    → fault ≡ NoMemory want → Puts a a all res
wanted_puts a all (Ok done) fault want p q = absurd cc
wanted_puts a all (Err other) fault want p q =
    let is : other ≡ NoMemory want = cc in
    subst (λ (z : LoopFault). Breaks a a all z) (sym is)
    (record { acts = []; did = did_nothing a; begun = record { done = []; left = all; is = refl; breaks = refl } })
