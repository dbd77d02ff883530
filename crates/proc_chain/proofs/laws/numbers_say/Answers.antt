use Rattle.proc_chain.proofs.Common.{◌+◌, ◌<◌, arith, of_chains}
use Rattle.proc_chain.proofs.Finding.{tail_says, gate_says, mark_says, note_says, low_says}
use Rattle.table_theory.proofs.Saying.{ends_say}
use Rattle.proc_chain.proofs.laws.numbers_say.Goals as goal

pub returns-clause-ends : goal.returns-clause-ends
returns-clause-ends c = ends_say of_chains

pub returns-clause-tail : goal.returns-clause-tail
returns-clause-tail c = tail_says

pub returns-clause-gate_word : goal.returns-clause-gate_word
returns-clause-gate_word c = gate_says

pub returns-clause-raised : goal.returns-clause-raised
returns-clause-raised c = λ e i is r from upto marked. let room = r.shows.0.room in let within : i < e.then.object.queue.taken + e.then.object.queue.room = omega arith in let up = mark_says e i r is from within marked in (up, note_says e i r is from up within)

pub returns-clause-low : goal.returns-clause-low
returns-clause-low c = λ e i is r from upto miss. let room = r.shows.0.room in let within : i < e.then.object.queue.taken + e.then.object.queue.room = omega arith in low_says e i r is from within miss
