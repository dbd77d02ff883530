use Rattle.proc_chain.proofs.Common.{rules, arith, refl, subst, sym, ◌<◌, ℕ}
use Rattle.proc_chain.proofs.Stepping.{claims_head}
use Rattle.proc_chain.proofs.steps.exchange_head.Goals as goal

pub compare_exchange-requires : goal.compare_exchange-requires
compare_exchange-requires g c = let room = c.requires.room in let bounded = c.requires.bounded in let fits = c.ranges.note.fits in (
  search rules,
  search rules,
  claims_head _ _ _ _ _ _ _ _ _ (subst (λ (z : ℕ). z < 65536) (sym c.requires.note) (omega arith)) refl bounded room c.requires.live,
)
