use Rattle.thread_table.proofs.Common.{◌∙◌, ◌==◌, ap, sym, get_or, false, List, Bool, ℕ}
use Rattle.std.proofs.lemmas.Nat.Bits.{shr_and_one}
use Rattle.thread_table.proofs.Lists.BitSets.{get_or-marks}
use Rattle.thread_table.proofs.sets.BitSet.contains.Goals as goal

pub returns : goal.returns
returns g c = ap (λ (b : ℕ). b == 1) (shr_and_one c.self.inside.bits c.args.number)
    ∙ (sym (get_or-marks g.row.N c.self.inside.bits c.args.number c.requires) ∙ ap (λ (bs : List Bool). get_or bs c.args.number false) c.self.view_is)
