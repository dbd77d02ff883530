use Rattle.boot_script.proofs.EventScripts.Texts.{text_ok, text_again}
use Rattle.boot_script.proofs.laws.whole_text.Goals as goal

pub returns-clause-spelled : goal.returns-clause-spelled
returns-clause-spelled c = text_ok

pub returns-clause-read : goal.returns-clause-read
returns-clause-read c = text_again
