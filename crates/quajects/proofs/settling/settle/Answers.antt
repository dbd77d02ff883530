use Rattle.quajects.proofs.Common.{◌∙◌, view_of}
use Rattle.quajects.proofs.Joining.{settled_now, still_open, if_ok, if_err}
use Rattle.quajects.proofs.settling.settle.Goals as goal

pub returns-clause-closed : goal.returns-clause-closed
returns-clause-closed g c = if_ok c.close.result c.close.ensures.closed (λ closed h. (h.0, settled_now _ (view_of c.join_all.new.end) _ _ _ _ c.join_all.ensures.joined h.1))

pub returns-clause-trace : goal.returns-clause-trace
returns-clause-trace g c = if_err c.close.result c.close.ensures.trace (λ found h. still_open _ (view_of c.join_all.new.end) _ _ c.join_all.ensures.joined h)

pub returns-clause-handle : goal.returns-clause-handle
returns-clause-handle g c = if_err c.close.result c.close.ensures.handle (λ found h. (h.0, (h.1.0 ∙ c.join_all.ensures.handle.0, h.1.1 ∙ c.join_all.ensures.handle.1)))

pub returns-clause-only : goal.returns-clause-only
returns-clause-only g c = λ whole. c.close.ensures.only (c.join_all.ensures.joined.share ∙ whole)
