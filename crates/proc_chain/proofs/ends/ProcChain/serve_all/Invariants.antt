use Rattle.proc_chain.proofs.Common.{◌≡◌, List, true, IsSame, suits, makes, Serving, HasSlot, MadeSince}
use Rattle.proc_chain.proofs.Rounds.{AllRounds}
use Rattle.proc_chain.proofs.ends.ProcChain.serve_all.Given as goal

abbrev pub invariant-loop : goal.invariant-loop
invariant-loop g l = record {
  steps : (goal.iterator-loop g).can_next l.iterator' × (goal.iterator-loop g).is_finite l.iterator';
  same : IsSame l.initial.end.seat l.end.seat;
  slot : HasSlot (makes g.Q.Quaject.made_by l.self.table.shared.key.pact) (suits g.Q.Quaject.fits l.self.table.shared.key.pact) l.end.seat.me;
  turn : l.end.turn ≡ true;
  servings : List Serving;
  rounds : AllRounds l.initial.end.seat.me.0 servings l.total l.end.seat.me.0;
  since : MadeSince (makes g.Q.Quaject.made_by l.self.table.shared.key.pact) (suits g.Q.Quaject.fits l.self.table.shared.key.pact) l.initial.end.seat.me.0 l.end.seat.me.0;
}
