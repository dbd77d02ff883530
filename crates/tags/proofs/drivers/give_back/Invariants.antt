use Rattle.tags.specs.Handles.{IsHolderOf, HoldsSame, SameShare}
use Rattle.tags.proofs.drivers.give_back.Given as goal

abbrev pub invariant-loop : goal.invariant-loop
invariant-loop g l = record {
  steps : (goal.iterator-loop g).can_next l.iterator' × (goal.iterator-loop g).is_finite l.iterator';
  pool : IsHolderOf l.tags l.holder;
  same : HoldsSame l.initial.holder l.holder;
  share : SameShare l.initial.holder l.holder;
}
