use Rattle.proc_chain.proofs.Common.{rules, subst, sym, Joins, both, did_both, suits, makes, Rule}
use Rattle.proc_chain.proofs.Tallying.{joins}
use Rattle.proc_chain.proofs.passing.take_in.Goals as goal

pub join_seat-requires : goal.join_seat-requires
join_seat-requires g c = let a = c.args.seat.now in let b = c.args.other.seat in (
  search rules,
  search rules,
  c.requires.queue.2,
  search rules,
  subst (Joins (Rule (makes g.Q.Quaject.made_by) (suits g.Q.Quaject.fits) c.args.words.now.key) a.id a.me.0 b.id b.me.0 (both did_both a.me.0 b.me.0)) (sym c.requires.spent) (joins (makes g.Q.Quaject.made_by) (suits g.Q.Quaject.fits) c.args.words.now.key a.id b.id a.me.0 b.me.0 c.requires.live c.requires.turns c.requires.settled),
)
