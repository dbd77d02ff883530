use Rattle.tags.specs.Handles.{IsHolderOf, HoldsSame, SameShare}
use Rattle.tags.proofs.drivers.drive.Given as goal

abbrev pub invariant-loop : goal.invariant-loop
invariant-loop g l = record {
  pool : IsHolderOf l.tags l.holder;
  same : HoldsSame l.initial.holder l.holder;
  share : SameShare l.initial.holder l.holder;
}
