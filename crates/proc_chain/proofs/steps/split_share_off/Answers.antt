use Rattle.proc_chain.proofs.Common.{rules, ℕ, sym, subst}
use Rattle.table_theory.specs.Sharing.{IsPortion}
use Rattle.proc_chain.proofs.Tallying.{splits}
use Rattle.proc_chain.proofs.steps.split_share_off.Goals as goal

pub split_seat-requires : goal.split_seat-requires
split_seat-requires g c = (search rules, search rules, splits _ _ _ _ _ _ (λ h. subst (λ (p : ℕ). IsPortion p c.args.seat.now.me.0.member.share) (sym c.requires.portion.0) c.requires.portion.1) c.requires.live)
