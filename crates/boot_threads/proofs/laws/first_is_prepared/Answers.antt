use Rattle.boot_threads.proofs.Preparedness.{first_prepared, freed_spare}
use Rattle.boot_threads.proofs.laws.first_is_prepared.Goals as goal

pub returns : goal.returns
returns c = record { prepared = first_prepared; spare = freed_spare }
