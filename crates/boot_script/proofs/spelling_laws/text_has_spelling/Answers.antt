use Rattle.boot_script.proofs.Escaping.Escapes.{some_text}
use Rattle.boot_script.proofs.spelling_laws.text_has_spelling.Goals as goal

pub returns : goal.returns
returns c = some_text
