-- The names from elsewhere that several proofs of this crate cite, passed on from one place. Declares nothing.
pub use Rattle.std.proofs.Common.{Bool, IfSome, List, None, Option, Some, [], ap, append_assoc, arith, cond, drop, false, get_or, inl, inr, length, max, nat_eq, nat_le, nat_lt, refl, slice_get, subst, suc, sym, take, true, vec_capacity, zero, ℕ, ⊎_elim, ◌%◌, ◌&&◌, ◌++◌, ◌+◌, ◌-◌, ◌<◌, ◌==◌, ◌^◌, ◌||◌, ◌∙◌, ◌∷◌, ◌≡◌, ◌≤◌, ◌⊎◌}
pub use Rattle.std.proofs.lemmas.Bool.{and_parts, cases_Bool, eq-eqb, eqb-true, leb-true, ltb-true, or_cases}
pub use Rattle.std.proofs.lemmas.List.{append-nil, drop-append-le, length-append, length-drop, length-map, take-append-le, take_all}
pub use Rattle.std.specs.List.{AllByRecursion, cons_option, filter, filter_map, find, list_all}
pub use Rattle.std.specs.Prelude.{option_map}
pub use Rattle.boot_data.specs.Hearing.{bytes_of}
pub use Rattle.boot_data.specs.declared.boot_plan.BootPlan.{BootPlan}
pub use Rattle.boot_data.specs.declared.plan.QueueIndex.{QueueIndex}
pub use Rattle.processor.specs.Entries.{LogEntry}
pub use Rattle.boot_log.specs.Counting.{has_all_until, is_counted, is_known}
pub use Rattle.boot_log.specs.Fronts.{AreEntriesOf, AreTimes, IsEntryOf, IsRecordOf}
pub use Rattle.boot_log.specs.Growing.{Grows, GrowsIf, entry_at, has_room_for, is_kept, with_miss, with_turn}
pub use Rattle.boot_log.specs.Kept.{Kept, Room, end_of, kept_in, nothing_kept, part_after, part_of}
pub use Rattle.boot_log.specs.Lines.{AreApart, HaveAllUntil, IsKnownLine, PassOnce, all_line_turns, are_same, count_before, counted_turns, is_before, is_passed, line_turn_in, line_turn_of, line_turns, passing_of, passings, queue_of, text_of}
pub use Rattle.boot_log.specs.Queues.{has_single_lines, is_of_threads, is_same_queue}
pub use Rattle.boot_log.specs.declared.entry.Entry.{Entry}
pub use Rattle.boot_log.specs.declared.line_turn.LineTurn.{LineTurn}
pub use Rattle.boot_log.specs.declared.line_turn.Way.{Way}
pub use Rattle.boot_log.specs.declared.line_turn.Way.TheVariants.{Put, Taken}
pub use Rattle.boot_log.specs.declared.passing.Passing.{Passing}
