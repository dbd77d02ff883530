use Rattle.boot_threads.proofs.Common.{◌≡◌, List, length, refl, subst, sym, HasPrepared, Parts, Prepared}
use Rattle.event_theory.specs.declared.alarm.Alarm.{Alarm}
use Rattle.boot_data.specs.declared.plan.PlannedThread.{PlannedThread}
use Rattle.thread_table.specs.Handles as threads
use Rattle.meters.specs.Handles as seats
use Rattle.boot_threads.specs.Alarms.{DidSetAll}
use Rattle.boot_threads.proofs.setting_up.prepare_station.Goals as goal

pub returns-clause-prepared : goal.returns-clause-prepared
returns-clause-prepared g c = let plan = c.args.shared.now.plan in let old = c.into_parts-parts.result in let hand = c.prepare.result in let seat = c.set_alarms.result in
    let new : Parts = record old { hand = hand; meters = seat } in
    let prepared : HasPrepared plan old new = record {
      hand = subst (λ (z : List PlannedThread). Prepared (threads.call_of old.hand) (length z) (threads.view_of old.hand) (threads.view_of hand)) c.as_slice.ensures c.prepare.ensures.prepared;
      alarms = subst (λ (z : List Alarm). DidSetAll z (seats.view_of old.meters) (seats.view_of seat)) c.as_slice-alarms.ensures c.set_alarms.ensures.set;
      same = (c.prepare.ensures.handle, c.set_alarms.ensures.handle);
      rest = refl;
    } in
    subst (λ (z : Parts). HasPrepared plan z c.from_parts.result.parts) c.into_parts-parts.ensures (subst (HasPrepared plan old) (sym c.from_parts.ensures) prepared)
