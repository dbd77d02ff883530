use Rattle.batch_queue.proofs.Common.{EndRecord, Performed, [], ap, refl, subst, ◌∷◌}
use Rattle.table_theory.specs.declared.views.Part.{Part}
use Rattle.batch_queue.proofs.Quiet.{followed_quiet, quiet_after}
use Rattle.batch_queue.proofs.Growing.{grows_trans}
use Rattle.batch_queue.proofs.Looking.{exact_help, helped_by, overtaken_by}
use Rattle.batch_queue.proofs.walk.help.Goals as goal

pub move_free-found-requires-clause-back : goal.move_free-found-requires-clause-back
move_free-found-requires-clause-back g c = let w = c.walk-to.ensures in (w.passed, w.on.0, w.starts)

pub returns-then-found-free-clause-trace : goal.returns-then-found-free-clause-trace
returns-then-found-free-clause-trace g c = helped_by _ _ _ _ _ _ _ c.walk-to.ensures.trace c.move_free-found.ensures.trace c.if-found-free.true

pub returns-clause-trace : goal.returns-clause-trace
returns-clause-trace g c = overtaken_by _ _ _ _ _ _ _ c.walk-to.ensures.trace c.move_free-found.ensures.trace (c.move_free-found.ensures.miss c.if-found-free.false).0

pub returns-then-found-free-clause-result : goal.returns-then-found-free-clause-result
returns-then-found-free-clause-result g c = let w = c.walk-to.ensures in let m = c.move_free-found.ensures in
    λ still below. exact_help c.args.room c.args.free c.walk-to.result _ _ _ _ _ w.trace.made (subst (λ (z : EndRecord). Performed c.walk-to.new.seat.me.0 (m.trace.last ∷ []) z c.move_free-found.new.seat.me.0) w.trace.made.did m.trace.made) (m.hit c.if-found-free.true).0 (w.stopped refl refl below)

pub returns-clause-passed : goal.returns-clause-passed
returns-clause-passed g c = λ moved. quiet_after _ _ _ _ _ (ap (λ (z : Part). z.share) c.walk-to.ensures.trace.made.member) c.walk-to.ensures.trace.made.adds (followed_quiet 1 _ _ _ _ _ c.walk-to.ensures.trace.by) (c.move_free-found.ensures.passed c.if-found-free.false)

pub returns-then-found-free-clause-grows : goal.returns-then-found-free-clause-grows
returns-then-found-free-clause-grows g c = grows_trans _ _ _ c.walk-to.ensures.grows c.move_free-found.ensures.grows

pub returns-clause-grows : goal.returns-clause-grows
returns-clause-grows g c = grows_trans _ _ _ c.walk-to.ensures.grows c.move_free-found.ensures.grows
