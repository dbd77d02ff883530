-- The names from elsewhere that several proofs of this crate cite, passed on from one place. Declares nothing.
pub use Rattle.std.proofs.Common.{Bool, IfSome, IsPermutation, List, None, Option, Some, [], ap, arith, count_by, drop, eq-eqb, eqb, eqb-true, false, flat_map, get_or, inl, inr, length, map, refl, rules, slice_get, subst, suc, sym, take, true, vec_capacity, vec_len, zero, ℕ, ◌%◌, ◌&&◌, ◌*◌, ◌++◌, ◌+◌, ◌<◌, ◌^◌, ◌∙◌, ◌∷◌, ◌≡◌, ◌≤◌, ◌⊎◌}
pub use Rattle.std.proofs.lemmas.List.{append-nil, append_assoc, drop_all, length-append, length-drop, length-map, length-take, length-take-le, map-append, take-append-drop, with_items_is}
pub use Rattle.std.proofs.lemmas.List.Sorted.{All-permutation, IsPermutation-map, answers_always, length_permutation, searchable_from_sorted}
pub use Rattle.std.proofs.lemmas.Option.{get_or_from_slice_get, slice_get_within}
pub use Rattle.std.specs.List.{AllByRecursion, sum_by}
unfoldable pub use Rattle.std.specs.List.{IsDistinct}
pub use Rattle.std.specs.Vec.Iter.{into_iter_items, into_iter_len}
pub use Rattle.boot_data.specs.Hearing.{Heard, IsPlace, Key, Line, NamedLine, bytes_in, heard_at, nothing_heard}
pub use Rattle.boot_data.specs.declared.boot_plan.BootPlan.{BootPlan}
pub use Rattle.boot_data.specs.declared.heard.HeardPlace.{HeardPlace}
pub use Rattle.boot_data.specs.declared.plan.PlannedTty.{PlannedTty}
pub use Rattle.boot_data.specs.declared.report.Report.{Report}
pub use Rattle.boot_laws.specs.ClosedTables.{ClosedTables}
pub use Rattle.boot_laws.specs.Endings.{Done, ThreadsEnded, WorkedTogether, thread_of}
pub use Rattle.boot_laws.specs.Lines.{AlarmsSaid, AreWhole, GaugeSaid, HeardSaid, MoverSaid, QueueSaid, Says, ThreadSaid, TtyQueuesSaid, TtySaid, name_in, state_for}
pub use Rattle.boot_laws.specs.Reports.{Ascend, IsUpTo}
pub use Rattle.boot_laws.specs.Settlings.{IsNamed}
pub use Rattle.boot_objects.proofs.Plans.{few_ttys}
pub use Rattle.processor.specs.Entries.{FollowsPlan, LogEntry, OutcomeFollows, Tended, TurnResultFollows, entry_account, having, outcome_account, tending}
pub use Rattle.processor.specs.Programs.{IsHear, hear_count, is_hear, program, same_key, step_of}
pub use Rattle.processor.specs.Turns.{heard_lines}
pub use Rattle.processor.specs.declared.station.Parts.{Parts}
pub use Rattle.quajects.specs.declared.came.Came.{Came}
pub use Rattle.thread_table.proofs.Lists.Counts.{by_bool, many_cons, many_more, plus}
pub use Rattle.boot_report.specs.Made.{IsMade, alarm_counts, few, gauge_line, heard_line, left_in, mover_line, name_of, numbered, queue_line, reported, state_at, thread_line, tty_lines, typed_at, typed_of}
pub use Rattle.boot_report.specs.Reported.{IsReported, lines_of, place_of}
pub use Rattle.boot_report.specs.Shown.{AreAll, Shows, ShowsChain, ShowsChains, ShowsDevice, ShowsDevices, ShowsNumbers, ShowsQueue, ShowsQueues, ShowsThread}
pub use Rattle.boot_report.specs.declared.ttys.Typed.{Typed}
