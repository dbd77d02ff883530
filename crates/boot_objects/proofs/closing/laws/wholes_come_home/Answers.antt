use Rattle.boot_objects.proofs.Backs.{come_home}
use Rattle.boot_objects.proofs.closing.laws.wholes_come_home.Goals as goal

pub returns : goal.returns
returns c = λ shared first last parts devices ttys all its same back took. come_home shared first last parts devices ttys all its same back took
