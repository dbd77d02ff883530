use Rattle.boot_objects.proofs.Unshut.{homes_unshut}
use Rattle.boot_objects.proofs.closing.laws.homes_shut_nothing.Goals as goal

pub returns : goal.returns
returns c = λ shared parts homes r h. homes_unshut shared.chains.items parts.chains.items homes r h
