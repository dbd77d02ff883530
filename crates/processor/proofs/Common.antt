-- The names from elsewhere that several proofs of this crate cite, passed on from one place. Declares nothing.
pub use Rattle.std.proofs.Common.{Bool, Err, List, MatchResult, None, Ok, Option, Result, Some, [], ap, arith, cond, false, get_or, if◌then◌else◌, inl, inr, length, map, refl, rules, set, subst, suc, sym, take, true, vec_capacity, zero, ℕ, ⊎_elim, ◌&&◌, ◌*◌, ◌++◌, ◌+◌, ◌<◌, ◌==◌, ◌||◌, ◌∙◌, ◌∷◌, ◌≡◌, ◌≤◌}
pub use Rattle.std.proofs.Math.Bool.{or-false, or_assoc}
pub use Rattle.std.proofs.Math.Bridge.{le_prop}
pub use Rattle.std.proofs.Math.Logic.{∥∥₁_elim}
pub use Rattle.std.proofs.lemmas.Bool.{eqb-true, ltb-true, or_cases}
pub use Rattle.std.proofs.lemmas.Bool.Decides.{eqb_tells, nat_tests}
pub use Rattle.std.proofs.lemmas.List.{append-nil, append_assoc, length-append, length-map, map-append, with_items_is}
pub use Rattle.std.proofs.lemmas.List.Folds.{list_any-append}
pub use Rattle.std.proofs.lemmas.List.Sums.{count_by-le-length, sum_by-cons, sum_by-take-le, sum_by_more_le}
pub use Rattle.std.proofs.lemmas.Option.{same_Some, slice_get_read, slice_get_within}
pub use Rattle.std.specs.List.{All, AllByRecursion, count_by, list_any, slice_get, sum_by}
unfoldable pub use Rattle.std.specs.List.{IsDistinct}
pub use Rattle.std.specs.Prelude.{nat_lt, not, slice_index_or}
pub use Rattle.boot_data.specs.BootPlans.{plan_of}
pub use Rattle.boot_data.specs.Hearing.{Heard, Key, Line}
pub use Rattle.boot_data.specs.PlanLimits.{IsPlan, IsProgramOf, IsStepOf, many_of}
pub use Rattle.boot_data.specs.Plans.{Plan, steps_at}
pub use Rattle.boot_data.specs.declared.boot_plan.BootPlan.{BootPlan}
pub use Rattle.boot_data.specs.declared.plan.PlannedThread.{PlannedThread}
pub use Rattle.boot_data.specs.declared.plan.QueueIndex.{QueueIndex}
pub use Rattle.boot_data.specs.declared.plan.QueueIndex.TheVariants.{Large, Small}
pub use Rattle.boot_data.specs.declared.plan.Step.{Step}
pub use Rattle.event_theory.specs.declared.alarm.Alarm.{Alarm}
pub use Rattle.meters.specs.Own.{DidTick, Own, SeatView, did_both, nothing_did}
pub use Rattle.table_theory.specs.Ends.{Begins}
pub use Rattle.thread_table.specs.Answers.{PutsOn, TakesOff, is_in}
pub use Rattle.thread_table.specs.Handles.{IsSameHand, call_of, view_of}
pub use Rattle.thread_table.specs.Keeping.{Keeps}
pub use Rattle.thread_table.specs.Own.{View}
pub use Rattle.thread_table.specs.Rules.{done_at, has, running, serves}
pub use Rattle.thread_table.specs.declared.hand.Hand.{Hand}
pub use Rattle.turn_dispatch.proofs.Beginnings.{began_is, idle_is, more_has}
pub use Rattle.turn_dispatch.proofs.Raised.{raised_goes}
pub use Rattle.turn_dispatch.proofs.Sends.{retired_goes, sent_goes, waited_goes}
pub use Rattle.turn_dispatch.proofs.Stepped.{found_steps, own_step, step_counts, step_goes}
pub use Rattle.turn_dispatch.proofs.Tallies.{adds_after, adds_before, adds_more, adds_on, behind_more, behind_none, reported_steps}
pub use Rattle.turn_dispatch.specs.Countings.{CountAnswer, IsNumber, counted_step}
pub use Rattle.turn_dispatch.specs.Dispatches.{Began, WasIdle, mask_of}
pub use Rattle.turn_dispatch.specs.Holdings.{IsFree, IsOn, Shows}
pub use Rattle.turn_dispatch.specs.Sendings.{retired}
pub use Rattle.turn_dispatch.specs.Tallies.{AddsToTally, Tally, delivery, followed_by, is_delivered, no_events, one_delivery, one_step, signals_for, tally}
pub use Rattle.turn_dispatch.specs.Tendings.{DidTend, tick_to}
pub use Rattle.turn_dispatch.specs.declared.counting.Counted.{Counted}
pub use Rattle.turn_dispatch.specs.declared.dispatch.Begun.{Begun}
pub use Rattle.turn_dispatch.specs.declared.dispatch.Idle.{Idle}
pub use Rattle.turn_io.proofs.Adding.{chains_add, each_adds, queues_add}
pub use Rattle.turn_io.proofs.Queues.{EndsWorked, all_sound_on, all_sound_still, heard_few, heard_on, heard_shut, idle_in_order, in_order_on, none_worked, said_on, said_shut, same_ends_on, same_ends_still, shares_still, shut_on, still_know}
pub use Rattle.turn_io.specs.Accounts.{AddsUp, at_each, both_chain, both_queue, chain_account, chain_shares, idle_chain, idle_queue, know_shut, shares_of, work_of}
pub use Rattle.turn_io.specs.EndLists.{AreChainEndsOf, AreSameChainEnds, IsIdle}
pub use Rattle.turn_io.specs.QueueEnds.{AreQueueEndsOf, AreSameQueueEnds, HeardAt, SaidAt}
pub use Rattle.turn_io.specs.declared.gate.Point.TheVariants.{Turn}
pub use Rattle.turn_io.specs.declared.queue_ends.QueueEnds.{QueueEnds}
pub use Rattle.processor.specs.Accounts.{Account, account, nothing, seat_parted, shares, shown_in, ◌⊕◌}
pub use Rattle.processor.specs.Doings.{chains_by, heard_by, is_heard, queues_by, raised_by, saw_shut, ticks_by}
pub use Rattle.processor.specs.Entries.{FollowsPlan, FollowsStep, LogEntry, OutcomeFollows, Tended, TurnResultFollows, beginning, entry_account, entry_of, gone, having, outcome_account, outcome_saw_shut, tending, trying, turn_saw_shut}
pub use Rattle.processor.specs.Logs.{Climbs, HasDone, IsFresh, Leaves, Ran, RanTurns, Went, numbers_of, sum_of, was_shut}
pub use Rattle.processor.specs.Manning.{IsRunnable, KeepsStation}
pub use Rattle.processor.specs.Orders.{CameInOrder, ChainsInOrder, Count, EndedInOrder, InOrder, QueuesInOrder, RanTurnsInOrder, SawStep, SeatInOrder, Stood, TriedAtEnds, TurnInOrder, TurnsInOrder, after_ticket, count_of, one_more}
pub use Rattle.processor.specs.Outcomes.{IsOutcomeOf, is_done}
pub use Rattle.processor.specs.Points.{Calls, GateSawTurn, HookedTurns, calls}
pub use Rattle.processor.specs.Programs.{AreHears, IsHear, hear_count, hears_in, hears_large, is_hear, longest_line, one_hears_large, program, same_key, step_of}
pub use Rattle.processor.specs.Refusals.{is_over, is_shut}
pub use Rattle.processor.specs.Rooms.{HasRoom, IsPast, key_of}
pub use Rattle.processor.specs.Running.{EndsDid, Goes, Stepped}
pub use Rattle.processor.specs.Sights.{Sights, Views, views}
pub use Rattle.processor.specs.Stations.{ArePartsOf, AreSameParts, no_signals}
pub use Rattle.processor.specs.Steps.{ChainsDid, Fits, HandDid, QueuesDid, SeatDid, WokeByHear, WokeBySay}
pub use Rattle.processor.specs.Turns.{AreAtRest, CameOf, HadTurn, RanStep, TendedBy, is_last}
pub use Rattle.processor.specs.declared.outcome.TurnOutcome.{TurnOutcome}
pub use Rattle.processor.specs.declared.phases.Moved.{Moved}
pub use Rattle.processor.specs.declared.phases.Rescheduled.{Rescheduled}
pub use Rattle.processor.specs.declared.shared.Shared.{Shared}
pub use Rattle.processor.specs.declared.station.Parts.{Parts}
pub use Rattle.processor.specs.declared.step_outcome.StepOutcome.{StepOutcome}
