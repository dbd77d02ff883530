-- The names from elsewhere that several proofs of this crate cite, passed on from one place. Declares nothing.
pub use Rattle.std.proofs.Common.{Bool, IsPermutation, List, None, Option, Some, [], ap, append-nil, append_assoc, arith, cond, count_by, eq-eqb, eqb, eqb-true, false, flat_map, get_or, inl, inr, length, length-append, map, mod-eq_of_lt, ne_eqb, refl, slice_get, subst, suc, sum_by, sym, take, true, zero, ℕ, ⊎_elim, ◌%◌, ◌++◌, ◌+◌, ◌-◌, ◌<◌, ◌^◌, ◌∙◌, ◌∷◌, ◌≡◌, ◌≢◌, ◌≤◌, ◌⊎◌}
pub use Rattle.std.proofs.Math.Bridge.{le_prop}
pub use Rattle.std.proofs.Math.Logic.{∥∥₁_elim}
pub use Rattle.std.proofs.lemmas.Bool.Decides.{leb_tells, nat_tests}
pub use Rattle.std.proofs.lemmas.Grind.{flat_map-append}
pub use Rattle.std.proofs.lemmas.List.{drop-append-le, get_or-append_right, get_or_append_left, length-map, map-append, take-append-drop, take-map}
pub use Rattle.std.proofs.lemmas.List.Folds.{concat-append, list_any-append}
pub use Rattle.std.proofs.lemmas.List.Sorted.{IsPermutation-append_comm, IsPermutation-append_left, IsPermutation-append_right, IsPermutation-refl, IsPermutation-trans, sum_by-IsPermutation}
pub use Rattle.std.proofs.lemmas.List.Sums.{sum_by-cons, sum_by-le-sum_by}
pub use Rattle.std.specs.List.{All, AllByRecursion, AllZip, concat, range_with_len}
pub use Rattle.std.specs.Prelude.{if◌then◌else◌, nat_le, nat_lt, not, slice_index_or, ◌&&◌, ◌==◌, ◌||◌}
pub use Rattle.boot_data.specs.BootPlans.{plan_of}
pub use Rattle.boot_data.specs.Hearing.{Key, Line}
pub use Rattle.boot_data.specs.PlanLimits.{IsMoverOf, IsPlan, IsProgramOf, IsStepOf, IsWayOf, many_of}
pub use Rattle.boot_data.specs.Plans.{Plan, steps_at, steps_in}
pub use Rattle.boot_data.specs.QueueLists.{line_queue, raw_queue, screen_queue}
pub use Rattle.boot_data.specs.declared.boot_plan.BootPlan.{BootPlan}
pub use Rattle.boot_data.specs.declared.plan.Mover.{Mover}
pub use Rattle.boot_data.specs.declared.plan.PlannedMover.{PlannedMover}
pub use Rattle.boot_data.specs.declared.plan.PlannedThread.{PlannedThread}
pub use Rattle.boot_data.specs.declared.plan.PlannedTty.{PlannedTty}
pub use Rattle.boot_data.specs.declared.plan.QueueIndex.{QueueIndex}
pub use Rattle.boot_data.specs.declared.plan.QueueIndex.TheVariants.{Large, Small}
pub use Rattle.boot_data.specs.declared.plan.Step.{Step}
pub use Rattle.boot_data.specs.declared.report.Report.{Report}
pub use Rattle.boot_objects.specs.ClosedQueues.{AreClosed, IsClosed}
pub use Rattle.boot_objects.specs.DeviceEndings.{AreWithout, DeviceEnded}
pub use Rattle.boot_objects.specs.Gains.{Gained, port_stakes}
pub use Rattle.boot_objects.specs.Objects.{AreQuajectsOf}
pub use Rattle.boot_objects.specs.Shares.{quajects_of}
pub use Rattle.claim_queue.specs.Closings.{ClosedNow}
pub use Rattle.claim_queue.specs.Handles.{view_of}
pub use Rattle.claim_queue.specs.Lines.{line_of, lines_put, lines_taken}
pub use Rattle.claim_queue.specs.Own.{did_both, nothing_did}
pub use Rattle.claim_queue.specs.declared.ends.QueueEnd.{QueueEnd}
pub use Rattle.claim_queue.specs.declared.rule.QueueOps.{QueueOps}
pub use Rattle.event_theory.proofs.Lists.Placed.{all_append, all_at, there, zip_from}
pub use Rattle.event_theory.specs.Accounts.{IsAccounted, delivered, done_numbers, done_of, is_pending, is_signal, made_pending, pending_in}
pub use Rattle.proc_chain.specs.declared.ends.ProcChain.{ProcChain}
pub use Rattle.processor.proofs.Logging.{sum_on}
pub use Rattle.processor.specs.Accounts.{Account, account, nothing, shown_in, unheard, ◌⊕◌}
pub use Rattle.processor.specs.Doings.{chains_by, heard_by, queues_by, raised_by, saw_shut, ticks_by}
pub use Rattle.processor.specs.Entries.{FollowsPlan, IsOver, LogEntry, OutcomeFollows, Tended, beginning, count_of, entry_account, gone, having, outcome_account, outcome_saw_shut, tending, turn_saw_shut}
pub use Rattle.processor.specs.Logs.{Climbs, Leaves, numbers_done, sum_of, was_shut}
pub use Rattle.processor.specs.Outcomes.{IsOutcomeOf, is_done}
pub use Rattle.processor.specs.Preparing.{HasDoneAll, IsPrepared, preparing}
pub use Rattle.processor.specs.Programs.{program, same_key, step_of}
pub use Rattle.processor.specs.Queues.{said_line}
pub use Rattle.processor.specs.Tries.{heard, said}
pub use Rattle.processor.specs.Turns.{heard_lines}
pub use Rattle.processor.specs.declared.outcome.TurnOutcome.{TurnOutcome}
pub use Rattle.processor.specs.declared.outcome.TurnResult.{TurnResult}
pub use Rattle.processor.specs.declared.phases.Moved.{Moved}
pub use Rattle.processor.specs.declared.phases.SayAnswer.{SayAnswer}
pub use Rattle.processor.specs.declared.station.Parts.{Parts}
pub use Rattle.processor.specs.declared.step_outcome.StepOutcome.{StepOutcome}
pub use Rattle.quajects.proofs.Homing.{notes_long, run_count, sides_of}
pub use Rattle.quajects.specs.Anys.{KeepsSides, MadeOf, PortsOf, SameEnds, all_taken, notes_of}
pub use Rattle.quajects.specs.Homes.{CameHome, homes_in}
pub use Rattle.quajects.specs.Routes.{TookNothing, index_of, key_of, port_of, way_post}
pub use Rattle.quajects.specs.Settled.{runs_of, shuts_of, takings_of}
pub use Rattle.quajects.specs.declared.any.AnyQuaject.{AnyQuaject}
pub use Rattle.quajects.specs.declared.home.Home.{Home}
pub use Rattle.quajects.specs.declared.ports.Port.{Port}
pub use Rattle.quajects.specs.declared.ways.Way.{Way}
pub use Rattle.quajects.specs.declared.world.Queues.{Queues}
pub use Rattle.stations.specs.Partings.{AllJoined, AreJoined}
pub use Rattle.table_theory.specs.Filing.{ListedOnce, Owned, entry_of}
pub use Rattle.table_theory.specs.Interleaving.{Ascending, Interleaves, joined}
pub use Rattle.table_theory.specs.Listing.{Adjacent, IsListed, all_places}
pub use Rattle.table_theory.specs.Positioned.{blank, item_of}
pub use Rattle.table_theory.specs.declared.queues.Batch.{Batch}
pub use Rattle.table_theory.specs.declared.queues.Cell.{Cell}
pub use Rattle.thread_table.proofs.Closing.Retiring.{Gives, are_reported, ok_gives, test_gives, then_gives}
pub use Rattle.thread_table.proofs.Lists.Counts.{by_bool, find_it, is_less, many_cons, many_more, many_shuffled, plus, range_far, range_in, range_out}
pub use Rattle.thread_table.proofs.Lists.Shuffles.{filed_shuffle}
pub use Rattle.thread_table.proofs.Schedule.Schedules.{after_none, allowed_before}
pub use Rattle.thread_table.specs.Makers.{numbered, signals_of}
unfoldable pub use Rattle.thread_table.specs.Schedules.{IsAllowed, after, begun, state_after}
pub use Rattle.thread_table.specs.declared.places.Place.{Place}
pub use Rattle.turn_dispatch.proofs.MadeBy.{delivered_by, done_by, signalled_by}
pub use Rattle.turn_dispatch.specs.Countings.{counted_step}
pub use Rattle.turn_dispatch.specs.Sendings.{retired}
pub use Rattle.turn_dispatch.specs.Tallies.{Tally, followed_by}
pub use Rattle.turn_dispatch.specs.declared.dispatch.Begun.{Begun}
pub use Rattle.turn_dispatch.specs.declared.waking.Woken.{Woken}
pub use Rattle.turn_io.proofs.Adding.{each_adds, queues_add}
pub use Rattle.turn_io.specs.Accounts.{AreInOrder, AtChain, AtQueue, Stake, at_each, at_one, both_queue, both_stakes, chain_stake, chained_if, idle_chain, idle_queue, know_shut, lines_of, no_stake, only, put_if, room_of, shut_if, stake, stakes, taken_if}
pub use Rattle.turn_io.specs.EndLists.{ClaimedInOrder, TookInOrder, end_knows_shut, end_table, queue_table}
pub use lib.ListN.{get_elem?}
pub use mathlib.Core.Logic.{dite}
pub use mathlib.Core.Option.{some, some-injective, some-ne-none}
pub use native.Mathlib.Decide.{dec_lt}
pub use Rattle.boot_laws.specs.Agreements.{AlarmsAgree, GaugesAgree, IsMover, IsTty, IsWoven, MadeOfNew, MoverAgrees, PlaceAgrees, QueueAgrees, StepsAgree, ThreadAgrees, TtyAgrees, put_in, routes_of, source_of, taken_from, targets, was_retired, way_target}
pub use Rattle.boot_laws.specs.Boots.{Boot, BootEnded, others_at}
pub use Rattle.boot_laws.specs.ClosedTables.{ClosedTables, queue_at}
pub use Rattle.boot_laws.specs.Closings.{chains_of, closed_of, item_at, items_from, lies_in, queue_of, queues_from}
pub use Rattle.boot_laws.specs.Endings.{AreCovered, ChainEnded, Done, FreedSpare, MetersEnded, MoverEnded, QueueEnded, ThreadsEnded, WorkedTogether, device_at, ends_at, home_at, thread_of}
pub use Rattle.boot_laws.specs.Lines.{Says, state_for}
pub use Rattle.boot_laws.specs.Reports.{AreSorted, Ascend, IsNoRaw, IsReport, TablesAgree}
pub use Rattle.boot_laws.specs.Saying.{AllEnded, IsLeftOpen, IsNeverClosed, IsNeverShut, IsSaid, all_said, is_ended, is_live, says_to}
pub use Rattle.boot_laws.specs.Settlings.{IsNamed, IsOnceWhere, NoneOn, Settles, has_done, is_back, is_free, place_of, same_pair}
pub use Rattle.boot_laws.specs.Totals.{total_of}
