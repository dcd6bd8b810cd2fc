-- Each line by its lemma.
use Rattle.std.proofs.Common.{rules, ◌≡◌, length, true, false, sym, ◌∙◌}
use Rattle.link_audit.proofs.Opened.{is_kept, link_passes, link_twice, octets_pass, no_link}
use Rattle.link_audit.proofs.openings.Openings.take.Goals as goal

pub returns-then-is_some : goal.returns-then-is_some
returns-then-is_some c =
    link_twice c.args.self.now c.args.line.now c.in-Link.link c.in-Link.engine c.in-Link.rbc c.in-Link.moment c.in-Link.is c.requires
    (is_kept c.of.result c.args.self.now c.in-Link.link c.is_some.result c.of.ensures c.is_some.ensures ∙ c.if-is_some.true)

pub returns-else-is_some : goal.returns-else-is_some
returns-else-is_some c =
    let long : length c.args.self.now.links ≡ 64 = search rules in
    rw (c.new.ensures, c.new-in-Link.ensures, c.new-in-Link-2.ensures)
    (link_passes c.args.self.now c.args.line.now c.in-Link.link c.in-Link.engine c.in-Link.rbc c.in-Link.moment c.in-Link.is long c.requires
    (is_kept c.of.result c.args.self.now c.in-Link.link c.is_some.result c.of.ensures c.is_some.ensures ∙ c.if-is_some.false))

pub returns-then-is_none : goal.returns-then-is_none
returns-then-is_none c =
    no_link c.args.self.now c.args.line.now c.in-Octets.link c.in-Octets.side c.in-Octets.text c.in-Octets.is c.requires
    (is_kept c.of-in-Octets.result c.args.self.now c.in-Octets.link false c.of-in-Octets.ensures (sym (rw c.if-is_none.true at c.is_none.ensures)))

pub returns-else-is_none : goal.returns-else-is_none
returns-else-is_none c =
    octets_pass c.args.self.now c.args.line.now c.in-Octets.link c.in-Octets.side c.in-Octets.text c.in-Octets.is c.requires
    (is_kept c.of-in-Octets.result c.args.self.now c.in-Octets.link true c.of-in-Octets.ensures (sym (rw c.if-is_none.false at c.is_none.ensures)))
