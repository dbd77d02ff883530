use Rattle.turn_io.proofs.Common.{◌≡◌, Owns, RaisedFrom, view_of, IsSameEnd}
use Rattle.turn_io.proofs.saying.raise_all.Given as goal

abbrev pub invariant-loop-i : goal.invariant-loop-i
invariant-loop-i g l = record {
  queue : IsSameEnd l.initial.end l.end;
  same : (l.claim.start ≡ l.initial.claim.start) × (l.claim.items.items ≡ l.initial.claim.items.items);
  own : Owns (view_of l.end) l.claim.start l.claim.items.items l.claim.raised;
  raised : l.claim.raised ≡ l.i;
  done : RaisedFrom g.row.N l.initial.claim.start l.initial.claim.items.items (view_of l.initial.end) (view_of l.end) l.i;
}
