use Rattle.thread_table.proofs.Common.{rules, sym, subst, set, View, Rule, both}
use Rattle.thread_table.proofs.Hands.JoinSteps.{joins}
use Rattle.thread_table.proofs.steps.take_in.Goals as goal

pub join_seat-requires : goal.join_seat-requires
join_seat-requires g c = (
  search rules,
  search rules,
  search rules,
  search rules,
  λ s k at ne has. subst (λ (w : View). Rule c.args.words.now.key record { words = s.words; homes = s.homes; views = set (set s.views c.args.seat.now.id (both c.args.seat.now.me.0 c.args.other.me.0)) c.args.other.id w }) (sym c.requires.spent)
      (joins c.args.words.now.key c.args.seat.now.id c.args.other.id c.args.seat.now.me.0 c.args.other.me.0 c.requires.live.0 c.requires.live.1 c.requires.none.0 c.requires.none.1 s k at ne has),
)
