use Rattle.boot_script.proofs.Common.{subst, state, Replays}
use Rattle.boot_script.proofs.run.run_events.Goals as goal

pub returns-clause-ok : goal.returns-clause-ok
returns-clause-ok c = (
  state c.apply_all.new.core,
  subst (λ s. Replays c.in_ok-replayed.replayed c.args.events.now s (state c.apply_all.new.core)) c.in_ok-core.ensures.result c.in_ok-replayed.ensures.ok,
  c.in_ok-status.ensures,
)
