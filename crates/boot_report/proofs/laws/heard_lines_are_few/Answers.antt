use Rattle.boot_report.proofs.Hearings.{few_heard}
use Rattle.boot_report.proofs.laws.heard_lines_are_few.Goals as goal

pub returns : goal.returns
returns c = λ plan logs done closed worked ended. few_heard plan logs done worked closed ended
