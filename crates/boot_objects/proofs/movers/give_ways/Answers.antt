use Rattle.boot_objects.proofs.Common.{[], ◌∷◌, IsGivenUnused, IsGivenOpen, IsGivenFit}
use Rattle.boot_objects.proofs.Ways.{all_four, gave_four}
use Rattle.boot_objects.proofs.movers.give_ways.Goals as goal

pub returns : goal.returns
returns c = let a = c.give_way-first in let b = c.give_way-second in let d = c.give_way-third in let e = c.give_way-fourth in record {
  stock = e.ensures.stock;
  keys = λ i. a.ensures.key i ∷ b.ensures.key i ∷ d.ensures.key i ∷ e.ensures.key i ∷ [];
  indexes = λ i. a.ensures.index i ∷ b.ensures.index i ∷ d.ensures.index i ∷ e.ensures.index i ∷ [];
  unused = all_four IsGivenUnused a.result b.result d.result e.result a.ensures.unused b.ensures.unused d.ensures.unused e.ensures.unused;
  none_shut = all_four IsGivenOpen a.result b.result d.result e.result a.ensures.none_shut b.ensures.none_shut d.ensures.none_shut e.ensures.none_shut;
  fit = all_four (IsGivenFit c.args.queues.now.small.items) a.result b.result d.result e.result a.ensures.fit b.ensures.fit d.ensures.fit e.ensures.fit;
  gave = gave_four a.result b.result d.result e.result a.ensures.gave b.ensures.gave d.ensures.gave e.ensures.gave;
}
