use Rattle.boot_script.proofs.Escaping.Escapes.{text_ok, text_again, text_printable}
use Rattle.boot_script.proofs.spelling_laws.text_spellings.Goals as goal

pub returns-clause-spelled : goal.returns-clause-spelled
returns-clause-spelled c = text_ok

pub returns-clause-read : goal.returns-clause-read
returns-clause-read c = text_again

pub returns-clause-printable : goal.returns-clause-printable
returns-clause-printable c = text_printable
