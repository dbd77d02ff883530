use Rattle.quaject_core.proofs.Common.{◌≡◌, ◌∙◌, ◌++◌, ◌∷◌, [], ◌+◌, ap, sym, subst, take, take_more, Reaches, state, reaches_more}
use Rattle.quaject_core.proofs.machine.Core.run.Goals as goal

pub loop-index-preserved : goal.loop-index-preserved
loop-index-preserved c =
    let events = c.args.events.now in
    let event = c.index-events-index.result in
    let more : take (c.loop-index.index + 1) events ≡ take c.loop-index.index events ++ event ∷ [] =
    take_more events c.loop-index.index event c.loop-index-test.true ∙ ap (λ e. take c.loop-index.index events ++ e ∷ []) (sym c.index-events-index.is) in
    subst (λ es. Reaches (state c.args.self.now) es (state c.apply.new.self)) (sym more)
    (reaches_more (state c.args.self.now) (take c.loop-index.index events) (state c.loop-index.self) event (state c.apply.new.self) c.loop-index.invariant c.in_default.ensures.result)
