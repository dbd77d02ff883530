use Rattle.std.proofs.Common.{◌∙◌, sym}
use Rattle.boot_view.proofs.booting.boot_recorded.Goals as goal

pub returns-in-Ok : goal.returns-in-Ok
returns-in-Ok g c = record {
  recorders = c.in_ok-gates.gates.items;
  many = sym c.in_ok-gates.gates.ok.0 ∙ c.in_ok-gates.ensures.many;
  all_made = c.in_ok-gates.ensures.made;
  new = rw c.min-most.ensures at c.in_ok-gates.ensures.new;
  boot = rw c.requires.report at c.in-Ok.ensures.ok;
}
