-- Each event by its own reader, and those that have no words behind them.
use Rattle.std.proofs.Common.{refl}
use Rattle.er_trace.proofs.Words.{no_words, one_word, two_words, three_words}
use Rattle.er_trace.proofs.events.read_event.Goals as goal

pub returns-in-Call-len3-clause-event : goal.returns-in-Call-len3-clause-event
returns-in-Call-len3-clause-event c = rw (c.in-Call-len3.is-0, three_words c.args.words.now (rw c.in-Call-len3.is-0 at c.requires)) c.call.ensures.event

pub returns-in-Answer-len2-clause-event : goal.returns-in-Answer-len2-clause-event
returns-in-Answer-len2-clause-event c = rw (c.in-Answer-len2.is-0, two_words c.args.words.now (rw c.in-Answer-len2.is-0 at c.requires)) c.answer.ensures.event

pub returns-in-Octets-len1-clause-event : goal.returns-in-Octets-len1-clause-event
returns-in-Octets-len1-clause-event c = rw (c.in-Octets-len1.is-0, one_word c.args.words.now (rw c.in-Octets-len1.is-0 at c.requires)) c.octets.ensures.event

pub returns-in-Send-len1-clause-event : goal.returns-in-Send-len1-clause-event
returns-in-Send-len1-clause-event c = rw (c.in-Send-len1.is-0, one_word c.args.words.now (rw c.in-Send-len1.is-0 at c.requires)) c.send.ensures.event

pub returns-in-Release-len1-clause-event : goal.returns-in-Release-len1-clause-event
returns-in-Release-len1-clause-event c = rw (c.in-Release-len1.is-0, one_word c.args.words.now (rw c.in-Release-len1.is-0 at c.requires)) c.release.ensures.event

pub returns-in-Full-len1-clause-event : goal.returns-in-Full-len1-clause-event
returns-in-Full-len1-clause-event c = rw (c.in-Full-len1.is-0, one_word c.args.words.now (rw c.in-Full-len1.is-0 at c.requires)) c.full.ensures.event

pub returns-in-Unserved-len1-clause-event : goal.returns-in-Unserved-len1-clause-event
returns-in-Unserved-len1-clause-event c = rw (c.in-Unserved-len1.is-0, one_word c.args.words.now (rw c.in-Unserved-len1.is-0 at c.requires)) c.unserved.ensures.event

pub returns-in-Take-empty-clause-event : goal.returns-in-Take-empty-clause-event
returns-in-Take-empty-clause-event c = rw (c.in-Take-empty.is-0, no_words c.args.words.now (rw c.in-Take-empty.is-0 at c.requires)) refl

pub returns-in-Tick-empty-clause-event : goal.returns-in-Tick-empty-clause-event
returns-in-Tick-empty-clause-event c = rw (c.in-Tick-empty.is-0, no_words c.args.words.now (rw c.in-Tick-empty.is-0 at c.requires)) refl

pub returns-in-Ended-empty-clause-event : goal.returns-in-Ended-empty-clause-event
returns-in-Ended-empty-clause-event c = rw (c.in-Ended-empty.is-0, no_words c.args.words.now (rw c.in-Ended-empty.is-0 at c.requires)) refl

pub returns-in-Fault-empty-clause-event : goal.returns-in-Fault-empty-clause-event
returns-in-Fault-empty-clause-event c = rw (c.in-Fault-empty.is-0, no_words c.args.words.now (rw c.in-Fault-empty.is-0 at c.requires)) refl

pub returns-in-Stalled-empty-clause-event : goal.returns-in-Stalled-empty-clause-event
returns-in-Stalled-empty-clause-event c = rw (c.in-Stalled-empty.is-0, no_words c.args.words.now (rw c.in-Stalled-empty.is-0 at c.requires)) refl
