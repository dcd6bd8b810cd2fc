-- By the law of words.
use Rattle.application_lines.proofs.PrintedRequests.{requests_are_read_back}
use Rattle.application_lines.proofs.laws.requests_are_read_back.Goals as goal

pub returns : goal.returns
returns c = requests_are_read_back c.printed_words.ensures
