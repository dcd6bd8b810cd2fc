-- Round by round: each side fails once at the most.
use Rattle.std.proofs.Common.{[], sym, ◌∙◌}
use Rattle.std.proofs.lemmas.Result.{err_from_is_err_and}
use Rattle.relay_script.specs.declared.script.Script.{Script}
use Rattle.relay_loop.proofs.LinkCalls.{settles_then, visit_breaks}
use Rattle.relay_loop.proofs.Rounds.{round_done, round_fails, round_visit, rounds_all}
use Rattle.relay_loop.proofs.link.Link.give.Goals as goal

-- the number stays whatever the script says
no_lines : Script
no_lines = record { lines = [] }

pub returns-then-not-branch : goal.returns-then-not-branch
returns-then-not-branch g c = λ script. round_done _ script _ _ _ _ _ _ c.if-not-branch.true (c.in_ok-give_once.ensures script)

pub give_once-requires-2 : goal.give_once-requires-2
give_once-requires-2 g c = record {
  number = c.requires.number ∙ sym (round_visit _ no_lines _ _ _ _ _ _ (c.in_ok-give_once.ensures no_lines)).1.visits.number;
}

pub returns-in_err-give_once-2 : goal.returns-in_err-give_once-2
returns-in_err-give_once-2 g c = λ script.
    let p = err_from_is_err_and c.from_residual-in_err-give_once-2.result c.from_residual-in_err-give_once-2.ensures.1 in
    rw (p.1, p.2)
    (visit_breaks _ script _ _ _ _ _ _ _ (round_visit _ script _ _ _ _ _ _ (c.in_ok-give_once.ensures script)).1.visits (c.in_err-give_once-2.ensures script))

pub returns-then-not-branch-2 : goal.returns-then-not-branch-2
returns-then-not-branch-2 g c = λ script.
    settles_then script _ _ _ _ _ _ _ _ _ (round_visit _ script _ _ _ _ _ _ (c.in_ok-give_once.ensures script)).1
    (round_done _ script _ _ _ _ _ _ c.if-not-branch-2.true (c.in_ok-give_once-2.ensures script))

pub give_once-requires-3 : goal.give_once-requires-3
give_once-requires-3 g c = record {
  number = c.requires.number
      ∙ sym ((round_visit _ no_lines _ _ _ _ _ _ (c.in_ok-give_once-2.ensures no_lines)).1.visits.number
      ∙ (round_visit _ no_lines _ _ _ _ _ _ (c.in_ok-give_once.ensures no_lines)).1.visits.number);
}

pub returns-in_err-give_once-3 : goal.returns-in_err-give_once-3
returns-in_err-give_once-3 g c = λ script.
    let p = err_from_is_err_and c.from_residual-in_err-give_once-3.result c.from_residual-in_err-give_once-3.ensures.1 in
    rw (p.1, p.2)
    (visit_breaks _ script _ _ _ _ _ _ _ (round_visit _ script _ _ _ _ _ _ (c.in_ok-give_once.ensures script)).1.visits
    (visit_breaks _ script _ _ _ _ _ _ _ (round_visit _ script _ _ _ _ _ _ (c.in_ok-give_once-2.ensures script)).1.visits (c.in_err-give_once-3.ensures script)))

pub returns : goal.returns
returns g c = λ script.
    rounds_all script _ _ _ _ _ _ _ _ _ _ _ _ (round_fails _ script _ _ _ _ _ _ c.if-not-branch.false (c.in_ok-give_once.ensures script))
    (round_fails _ script _ _ _ _ _ _ c.if-not-branch-2.false (c.in_ok-give_once-2.ensures script))
    (round_visit _ script _ _ _ _ _ _ (c.in_ok-give_once-3.ensures script))
