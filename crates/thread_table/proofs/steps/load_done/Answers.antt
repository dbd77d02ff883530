use Rattle.thread_table.proofs.Common.{rules, ◌<◌, ℕ, arith, subst, sym, ◌∙◌, MayStep}
use Rattle.thread_table.proofs.Hands.CountSteps.{counts_at}
use Rattle.thread_table.proofs.Hands.OnlyLoads.{stood}
use Rattle.thread_table.proofs.steps.load_done.Goals as goal

pub load-requires : goal.load-requires
load-requires g c = let v = c.args.seat.now.me.0 in let q = c.requires.queue in let place = c.done_word.ensures in let mine = c.requires.mine in (
  q.0,
  omega (arith, q.1, place.1),
  counts_at _ _ _ _ _ _ _ c.requires.call (omega (arith, place.0, mine.2)) mine.0 (omega (arith, q.2, mine.2)) (subst (MayStep v) (sym mine.2) mine.1),
)

pub returns-clause-bounded : goal.returns-clause-bounded
returns-clause-bounded g c = let mine = c.requires.mine in let shows = c.load.ensures.2.1.sees.shows in let known : g.J.Caller.element < 64 = omega (arith, c.requires.queue.2, mine.2) in
    subst (λ (z : ℕ). z < 4294967296) (sym (c.load.ensures.2.1.is ∙ shows.steps _ known)) (shows.few _ known)

pub returns-clause-stands : goal.returns-clause-stands
returns-clause-stands g c = stood _ _ _ _ c.requires.call (search rules) c.load.ensures.2.2
