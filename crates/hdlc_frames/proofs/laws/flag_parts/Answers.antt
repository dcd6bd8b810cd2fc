use Rattle.hdlc_frames.proofs.SpellingLaws as spellings
use Rattle.hdlc_frames.proofs.laws.flag_parts.Goals as goal

pub returns : goal.returns
returns c = spellings.flag_parts
