use Rattle.proc_chain.proofs.Historic.{some_history_of, each_event}
use Rattle.proc_chain.proofs.laws.changes_are_events_of_histories.Goals as goal

pub returns : goal.returns
returns c = record { history = λ e r. some_history_of e.then.object r.lawful.0; each = each_event }
