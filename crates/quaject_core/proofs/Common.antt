-- The names from elsewhere that several proofs of this crate cite, passed on from one place. Declares nothing.
pub use Rattle.std.proofs.Common.{Bool, Err, IfSome, List, None, Ok, Option, Result, Some, [], add-one, add-zero, ap, append-nil, ap₂, arith, cond, count_by, drop, eqb, false, filter, get_or, inl, inr, leb, length, length-append, length-drop, ltb, map, nat_le, not, ok_or, option_map, position, refl, remove, replicate, rules, set, slice_get, slice_index_or, subst, suc, sym, take, true, vec_capacity, vec_len, zero, zero-add, ℕ, ◌%◌, ◌&&◌, ◌*◌, ◌++◌, ◌+◌, ◌-◌, ◌<◌, ◌==◌, ◌^◌, ◌||◌, ◌∙◌, ◌∷◌, ◌≡◌, ◌≢◌, ◌≤◌}
pub use Rattle.std.proofs.Math.Seq.{drop-cons, map-set_same}
pub use Rattle.std.proofs.lemmas.Bool.{cases_lt, eqb-false, eqb-true, le-ltb, leb-true, lt-ltb, ltb-true, ne_eqb}
pub use Rattle.std.proofs.lemmas.Bool.Decides.{nat_tests}
pub use Rattle.std.proofs.lemmas.List.{drop-append-le, drop-drop, drop-map, drop_all, drop_at, get_or-append-add, get_or-map, get_or-set_other, length-map, length-set, length-take-le, map-append, map-set, map_more, take-append-drop, take-append-le, take-map, take_all, take_more}
pub use Rattle.std.proofs.lemmas.List.Sorted.{IsPartitionPoint-from_clause, IsPartitionedBy-leb}
pub use Rattle.std.proofs.lemmas.Option.{slice_get-get_or, slice_get-map, slice_get_past, slice_get_read, slice_get_within}
pub use Rattle.std.specs.List.{list_all, list_any, position_or_len, prefix_len, range_with_len, repeat}
pub use Rattle.std.specs.List.Sorted.{IsNonDecreasingBy, IsPartitionPoint, IsPartitionedBy}
pub use Rattle.std.specs.Prelude.{IsErrAnd, IsOk, MatchResult}
pub use Rattle.event_theory.proofs.Keeping.Queues.{claim_keeps, raise_keeps, take_keeps, take_ok}
pub use Rattle.event_theory.proofs.Keeping.Rooms.{none_taken_off, other_put_on, so_many, started_room, taken_off_ok, taken_off_room, taken_room}
pub use Rattle.event_theory.proofs.Keeping.Steps.{changed_law, first_law, reaches_more}
pub use Rattle.event_theory.proofs.Lists.Histories.{both, length-pairs_from, length-pairs_of, same_set, slice_get-drop}
pub use Rattle.event_theory.specs.Chains.{Chain, claim_note, forgotten, is_forgotten, join_chain, leave, notify, owes, raise_note, round, take_note, with_number}
pub use Rattle.event_theory.specs.Elements.{Elements, Thread, change_thread, claim_element, deliver, done, hold, holds, is_busy, is_hold, is_put, join_hold, let_all_go, new_thread, park, put_on, start}
pub use Rattle.event_theory.specs.Lawful.{IsLawful, IsLawfulQueue}
pub use Rattle.event_theory.specs.Marks.{notify_wait, shut, wait_at}
pub use Rattle.event_theory.specs.Queues.{Queue, after_claim, after_raise, after_take, claim, empty_queue, first_are_raised, full_queue, is_raised, join_queue, join_run, left, left_pairs, raise, raise_of, renamed, take_first}
pub use Rattle.event_theory.specs.Results.{Changes, IsWhy, at, change_at, refused_if, ◌>>=◌}
pub use Rattle.event_theory.specs.Runs.{Run, flat, length_of, pairs, pairs_from, pairs_of, run_length}
pub use Rattle.event_theory.specs.Schedules.{Reaches}
pub use Rattle.event_theory.specs.States.{State, first_state, in_chain, in_queue, step}
pub use Rattle.event_theory.specs.Statuses.{bits_from, chain_status, element_statuses, queue_status}
pub use Rattle.event_theory.specs.declared.hold.Hold.{Hold}
pub use Rattle.event_theory.specs.declared.refusal.Refusal.{Refusal}
pub use Rattle.event_theory.specs.declared.refusal.Refusal.TheVariants.{AlreadyRaised, Closed, Full, Moved, NoItems, NotHeld, NotOwner, NotRaised, NotStopped, OutOfMemory, ProcessorBusy, TooLong, UnknownName}
pub use Rattle.event_theory.specs.declared.status.QueueStatus.{QueueStatus}
pub use Rattle.quaject_core.specs.Joined.{renamed_span}
pub use Rattle.quaject_core.specs.Layout.{Laid, flag_at, flag_of, fresh, item_of, queue_at, run_at, set_of}
pub use Rattle.quaject_core.specs.Owners.{AreBegun, call_of, first_call, owner}
pub use Rattle.quaject_core.specs.Shown.{queue}
pub use Rattle.quaject_core.specs.ShownChains.{chain}
pub use Rattle.quaject_core.specs.ShownCores.{state}
pub use Rattle.quaject_core.specs.ShownElements.{elements}
pub use Rattle.quaject_core.specs.ShownStates.{stored_state}
pub use Rattle.quaject_core.specs.ShownThreads.{thread}
pub use Rattle.quaject_core.specs.declared.chaining.StoredChain.{StoredChain}
pub use Rattle.quaject_core.specs.declared.elements.StoredElements.{StoredElements}
pub use Rattle.quaject_core.specs.declared.queueing.Span.{Span}
pub use Rattle.quaject_core.specs.declared.queueing.StoredItem.{StoredItem}
pub use Rattle.quaject_core.specs.declared.queueing.StoredQueue.{StoredQueue}
pub use Rattle.quaject_core.specs.declared.threading.StoredThread.{StoredThread}
