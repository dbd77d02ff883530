use Rattle.boot_objects.proofs.Common.{ap, ◌∙◌, View}
use Rattle.boot_objects.proofs.stock.split_one.Goals as goal

pub returns-clause-idle : goal.returns-clause-idle
returns-clause-idle g c = let s = c.split.ensures in let d = s.trace.own in (
  record {
    its = s.handle.0.0 ∙ c.requires.idle.its;
    unused = ((λ k. (d k).runs) ∙ c.requires.idle.unused.0, (λ k. (d k).takes) ∙ c.requires.idle.unused.1);
    shuts = (λ k. (d k).shuts) ∙ c.requires.idle.shuts;
  },
  record {
    its = s.handle.1 ∙ c.requires.idle.its;
    unused = (ap (λ (v : View). v.own.runs) s.born, ap (λ (v : View). v.own.takes) s.born);
    shuts = ap (λ (v : View). v.own.shuts) s.born;
  },
)
