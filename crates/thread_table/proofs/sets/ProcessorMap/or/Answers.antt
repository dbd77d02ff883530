use Rattle.thread_table.proofs.Common.{◌∙◌, ap, ap₂, sym, arith, length, length-map, either_on}
use Rattle.thread_table.specs.Sets.{element_in}
use Rattle.thread_table.proofs.Lists.BitSets.{elements_of_both}
use Rattle.thread_table.proofs.sets.ProcessorMap.or.Goals as goal

pub returns-clause-or : goal.returns-clause-or
returns-clause-or c =
    elements_of_both c.self.inside.bytes c.other.inside.bytes c.loop-p.bytes c.self.told c.other.told (c.loop-p.invariant.long ∙ c.self.told) (λ i below. c.loop-p.invariant.done i (omega arith))
    ∙ ap₂ either_on c.self.view_is c.other.view_is

pub returns-clause-long : goal.returns-clause-long
returns-clause-long c = (sym (ap length c.self.view_is) ∙ (length-map c.self.inside.bytes element_in ∙ c.self.told), sym (ap length c.other.view_is) ∙ (length-map c.other.inside.bytes element_in ∙ c.other.told))
