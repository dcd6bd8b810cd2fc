use Rattle.tap_laws.specs.InText.{SidesAreInText}
use Rattle.tap_laws.proofs.InText.{sides_are_in_text, text_finds_accepted}
use Rattle.tap_laws.proofs.laws.audit_text_finds_accepted.Goals as goal

pub returns : goal.returns
returns c =
    let sides : SidesAreInText = sides_are_in_text c.audit_has_all_links.ensures in
    record { sides = sides; accepted = text_finds_accepted c.audit_finds_accepted.ensures sides }
