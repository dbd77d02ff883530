use Rattle.boot_laws.proofs.Threads.{thread_agrees}
use Rattle.boot_laws.proofs.threads_agree.Goals as goal

pub returns : goal.returns
returns c = λ plan logs done closed thread t w spare e low at. thread_agrees plan logs done w closed e spare thread low t at
