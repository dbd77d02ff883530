use Rattle.batch_queue.proofs.Common.{arith}
use Rattle.batch_queue.proofs.Looking.{freed_grows, free_moved, free_past, free_passed, helped_none, helped_on, helped_not}
use Rattle.batch_queue.proofs.Common.{dite, ℕ_discrete, ◌<◌}
use Rattle.batch_queue.proofs.walk.move_free.Goals as goal

pub returns-then-to-free-clause-trace : goal.returns-then-to-free-clause-trace
returns-then-to-free-clause-trace g c = helped_none _ _ _ _ _ c.if-to-free.true c.requires.back.2 c.load_free.ensures.found

pub returns-clause-hit : goal.returns-clause-hit
returns-clause-hit g c = λ e. (let m = free_moved _ _ _ _ (c.exchange_free.ensures.hit e) c.requires.back.2 in let m1 = m.1 in (m.0, omega arith, m.2))

pub returns-clause-miss : goal.returns-clause-miss
returns-clause-miss g c = λ ne. free_passed _ _ _ _ (c.exchange_free.ensures.miss ne) ne c.requires.back.2

pub returns-clause-trace : goal.returns-clause-trace
returns-clause-trace g c = let ne = c.if-to-free.false in let le = c.requires.back.1 in let less : c.args.free < c.args.to = omega arith in
    dite (ℕ_discrete c.exchange_free.result c.args.free) (λ e. helped_on _ _ _ _ _ less e (c.exchange_free.ensures.hit e)) (λ miss. helped_not _ _ _ _ _ miss c.requires.back.2 (c.exchange_free.ensures.miss miss))

pub returns-then-to-free-clause-passed : goal.returns-then-to-free-clause-passed
returns-then-to-free-clause-passed g c = λ ne. free_past _ _ _ _ c.load_free.ensures.found ne c.requires.back.2

pub returns-clause-passed : goal.returns-clause-passed
returns-clause-passed g c = λ ne. free_past _ _ _ _ (c.exchange_free.ensures.miss ne) ne c.requires.back.2

pub returns-clause-grows : goal.returns-clause-grows
returns-clause-grows g c = dite (ℕ_discrete c.exchange_free.result c.args.free) (λ e. freed_grows _ _ _ _ (c.exchange_free.ensures.hit e)) (λ miss. (c.exchange_free.ensures.miss miss).grows)
