use Rattle.batch_queue.proofs.Common.{ap, arith, refl}
use Rattle.batch_queue.proofs.Growing.{taken_claimed}
use Rattle.batch_queue.proofs.Going.{goes_made}
use Rattle.table_theory.specs.declared.views.Part.{Part}
use Rattle.batch_queue.proofs.Peeking.{looked, looked_at, shut_if, up_later}
use Rattle.batch_queue.proofs.Reporting.{head_is}
use Rattle.batch_queue.proofs.Stepping.{step_real}
use Rattle.batch_queue.proofs.ends.BatchQueue.look.Goals as goal

pub returns-clause-result : goal.returns-clause-result
returns-clause-result g c = let p = c.find_published-tail.ensures in let t = p.tail in let f = c.load_head-head.ensures.found in let e = step_real _ _ _ _ f in let h = head_is _ refl e in let g = f.grows.taken in let b = taken_claimed _ e.lawful in
    (p.up.0, omega arith, up_later _ _ _ _ _ _ f p.up.1)

pub returns-clause-moments : goal.returns-clause-moments
returns-clause-moments g c = let p = c.find_published-tail.ensures in looked_at _ _ _ _ _ _ _ (ap (λ (z : Part). z.share) p.trace.made.member) p.tail_at p.most c.load_head-head.ensures.found refl

pub returns-clause-trace : goal.returns-clause-trace
returns-clause-trace g c = let p = c.find_published-tail.ensures.trace in looked _ _ _ _ _ _ c.load_head-head.result p c.load_head-head.ensures.found refl (shut_if _)

pub returns-clause-frame : goal.returns-clause-frame
returns-clause-frame g c = goes_made _ _ _ _ c.args.end.now.ruled c.load_head-head.ensures.queue.1.2 refl (looked _ _ _ _ _ _ c.load_head-head.result c.find_published-tail.ensures.trace c.load_head-head.ensures.found refl (shut_if _)).made
