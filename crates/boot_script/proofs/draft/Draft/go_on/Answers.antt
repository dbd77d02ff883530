use Rattle.boot_script.proofs.Common.{refl, added}
use Rattle.boot_script.proofs.draft.Draft.go_on.Goals as goal

pub returns : goal.returns
unfolding added
returns c = λ version d drawn. (
  _,
  refl,
  record {
    names = drawn.names;
    going = refl;
    ttys = drawn.ttys;
    threads = drawn.threads;
    typed = drawn.typed;
    alarms = drawn.alarms;
    steps = drawn.steps;
    sizes = drawn.sizes;
    plan = drawn.plan;
  },
)
