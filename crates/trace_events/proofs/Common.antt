-- The names from elsewhere that several proofs of this crate cite, passed on from one place. Declares nothing.
pub use Rattle.std.proofs.Common.{Bool, Bor, Err, IfOk, IfSome, List, None, Ok, Option, Result, Some, [], add-one, ap, append-nil, append_assoc, arith, codes, cond, decimal, drop, false, get_or, inl, inr, length, map, nat_lt, refl, rules, string_bytes, subst, suc, sym, take, true, zero, ℕ, ⊎_elim, ◌%◌, ◌&&◌, ◌++◌, ◌+◌, ◌-◌, ◌/◌, ◌<◌, ◌==◌, ◌^◌, ◌∙◌, ◌∷◌, ◌≡◌, ◌≤◌, ◌⊎◌}
pub use Rattle.std.proofs.KnownBytes.{Appends-nil, Appends-trans}
pub use Rattle.std.proofs.lemmas.Bool.{and_cases, and_from, and_parts, both_ways, cases_lt, cases_order, eq-eqb, eqb-false, eqb-true, lt-ltb, ltb-false, ltb-true, ne_eqb, or_cases, or_left, or_parts, or_right, true_from_ne_false}
pub use Rattle.std.proofs.lemmas.Grind.{flat_map-append}
pub use Rattle.std.proofs.lemmas.List.{drop_all, get_or_default, get_or_read}
pub use Rattle.std.proofs.lemmas.List.Sorted.{All-permutation, IsPartitionPoint-from_clause, IsPermutation-sym, answers_always, ranks_by, sorted_far}
pub use Rattle.std.proofs.lemmas.Result.{IfOk-weaker, on_ok_weaker}
pub use Rattle.std.specs.List.{AllByRecursion, cons_option, flat_map, join_with_byte, prefix_len, range_with_len, slice_get}
pub use Rattle.std.specs.Prelude.{All, AllPairs, Contains, IsPermutation, OnOk, filter, if◌then◌else◌, max, option_map, ◌||◌}
pub use Rattle.boot_data.specs.declared.boot_plan.BootPlan.{BootPlan}
pub use Rattle.boot_log.specs.Idling.{is_idle}
pub use Rattle.boot_log.specs.Kept.{Kept, end_of, kept_in, part_of}
pub use Rattle.boot_log.specs.Values.{line_part}
pub use Rattle.boot_log.specs.declared.entry.Entry.{Entry}
pub use Rattle.boot_script.specs.Reports.{heard_text}
pub use Rattle.json.specs.Json.{Items, Json, Members, document}
pub use Rattle.json.specs.Print.{IsNumber, IsPrintable, ends, print}
unfoldable pub use Rattle.json.specs.Print.{escape_byte, print_from}
pub use Rattle.json.specs.Token.{Token, begin_object, end_array, end_object, key, number, string}
pub use Rattle.json.specs.Tree.{HasNumbers, ItemsHaveNumbers, MembersHaveNumbers, depth, items_depth, items_tokens, json_tokens, members_depth, members_tokens}
pub use Rattle.trace_events.specs.Documents.{IsEvent, Prints, json_text, later_texts, trace_json}
unfoldable pub use Rattle.trace_events.specs.Documents.{trace_text}
pub use Rattle.trace_events.specs.Events.{head, line_end_json, line_start_json, metadata_json, missed_json, turn_json}
unfoldable pub use Rattle.trace_events.specs.Events.{turn_opening}
pub use Rattle.trace_events.specs.Names.{name_of_thread, thread_text, threads_text}
unfoldable pub use Rattle.trace_events.specs.Names.{thread_names}
pub use Rattle.trace_events.specs.Objects.{Grown, IsAlone, Named, Writes, items_of, list_tokens, member_tokens, members_of, numbered, object_of, timed}
pub use Rattle.trace_events.specs.Traces.{boot_events, log_events, numbered_events, passing_events, process_json, processor_events, thread_events}
pub use Rattle.trace_events.specs.Tracks.{AreApart, all_thread_turns, comes_before, element_of, is_first_of, last_end, precedes, slice_start, sorts_before, thread_turn_of, thread_turns}
pub use Rattle.trace_events.specs.TurnArgs.{claim_args, counted_args, delivered_args, did_args, fired_args, hear_args, idle_args, poke_args, retired_name, say_args, step_args, take_args, tick_args, turn_args, went_args, woken_args}
pub use Rattle.trace_events.specs.TurnNames.{turn_name, way_name}
pub use Rattle.trace_events.specs.Turns.{idle_event, joined, missed_events, on_thread, processor_track, run_events, run_length, runs_events, runs_of, thread_track}
pub use Rattle.trace_events.specs.declared.tracks.ThreadTurn.{ThreadTurn}
