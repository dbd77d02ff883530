use Rattle.pool.proofs.Common.{◌∷◌, ◌++◌, ◌∙◌, [], List, ℕ, ap, sym, one_more}
use Rattle.pool.proofs.pool.all_buffers.Goals as goal

pub loop-buffer-preserved : goal.loop-buffer-preserved
loop-buffer-preserved c = c.in_ok-push.ensures.items ∙ (ap (λ (z : List ℕ). z ++ c.loop-buffer.buffer ∷ []) c.loop-buffer.invariant ∙ sym (one_more c.loop-buffer.buffer))
