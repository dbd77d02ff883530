-- A queue grows by each step, and stays lawful.
use Rattle.claim_queue.proofs.Common.{◌+◌, sym, subst, arith, Positions, AbsState, Step, IsValidStep, Lawful, Grows, stage_at, grows_refl, take_lawful, Becomes, was_claimed, was_written, was_taken, was_shut, of_queues}
use Rattle.std.proofs.Common.{List}
use Rattle.table_theory.specs.Ledgers.{Reaches, Passes}
use Rattle.table_theory.proofs.Positioned.{grows_trans, claim_grows, write_grows, take_grows, shut_grows, claim_lawful, write_lawful, shut_lawful}
use Rattle.table_theory.proofs.Saying as steps

pub becomes_grows : (q r : Positions) → Becomes q r → Grows q r
becomes_grows q r (was_claimed xs some_items is_open fits e) = subst (Grows q) (sym e) (claim_grows q xs is_open)
becomes_grows q r (was_written at from below low e) = subst (Grows q) (sym e) (write_grows q at (stage_at q at + 1) below (omega arith))
becomes_grows q r (was_taken n some within up e) = subst (Grows q) (sym e) (take_grows q n)
becomes_grows q r (was_shut e) = subst (Grows q) (sym e) (shut_grows q)

pub becomes_lawful : (q r : Positions) → Lawful q → Becomes q r → Lawful r
becomes_lawful q r l (was_claimed xs some_items is_open fits e) = subst Lawful (sym e) (claim_lawful q xs l fits)
becomes_lawful q r l (was_written at from below low e) = subst Lawful (sym e) (write_lawful q at (stage_at q at + 1) l below (omega arith))
becomes_lawful q r l (was_taken n some within up e) = subst Lawful (sym e) (take_lawful q n l up)
becomes_lawful q r l (was_shut e) = subst Lawful (sym e) (shut_lawful q l)

pub real_lawful : (e : Step Positions) → IsValidStep of_queues e → Lawful e.next.object
real_lawful = steps.real_lawful of_queues (λ q r words shows l b. becomes_lawful q r l b)

pub real_grows : (e : Step Positions) → IsValidStep of_queues e → Grows e.then.object e.next.object
real_grows = steps.real_goes of_queues Grows grows_refl grows_trans (λ q r words shows b. becomes_grows q r b)

pub reaches_grow : (m n : AbsState Positions) → Reaches of_queues m n → Grows m.object n.object
reaches_grow = steps.reaches_go of_queues Grows grows_refl grows_trans (λ q r words shows b. becomes_grows q r b)

pub passes_grow : (m n : AbsState Positions) (entries : List (Step Positions)) → Passes of_queues m entries n → Grows m.object n.object
passes_grow = steps.passes_go of_queues Grows grows_refl grows_trans (λ q r words shows b. becomes_grows q r b)
