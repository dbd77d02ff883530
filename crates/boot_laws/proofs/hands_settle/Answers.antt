use Rattle.boot_laws.proofs.Settling.Named.{all_named, none_on}
use Rattle.boot_laws.proofs.Settling.Reading.{closed_settles}
use Rattle.boot_laws.proofs.hands_settle.Goals as goal

pub returns-clause-settles : goal.returns-clause-settles
returns-clause-settles c = closed_settles

pub returns-clause-off : goal.returns-clause-off
returns-clause-off c = none_on

pub returns-clause-named : goal.returns-clause-named
returns-clause-named c = λ call v stands pcs pending stops x closed low. all_named call v stands pcs pending stops closed x low
