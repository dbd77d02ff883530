-- The names from elsewhere that several proofs of this crate cite, passed on from one place. Declares nothing.
pub use Rattle.std.proofs.Common.{Bool, Err, IsOk, List, None, Ok, Option, Result, Some, [], add-one, ap, append_assoc, arith, codes, cond, drop, false, get_or, inl, inr, length, length-append, ltb, map, min, not, refl, rules, slice_index_or, slice_set, subst, suc, sym, take, true, zero, ℕ, ◌&&◌, ◌*◌, ◌++◌, ◌+◌, ◌-◌, ◌<◌, ◌^◌, ◌∙◌, ◌∷◌, ◌≡◌, ◌≢◌, ◌≤◌, ◌⊎◌}
pub use Rattle.std.proofs.Math.Dec.{eqb}
pub use Rattle.std.proofs.Math.Seq.{drop-cons, take-append-add}
pub use Rattle.std.proofs.lemmas.Bool.{cases_lt, false_from_ne_true, not-false}
pub use Rattle.std.proofs.lemmas.Bool.Decides.{Decides-eqb, nat_tests}
pub use Rattle.std.proofs.lemmas.Fmt.{decimal-digits_value, decimal_digit, decimal_is_IsNumeral, decimal_nonempty, decimal_step, first_decimal}
pub use Rattle.std.proofs.lemmas.List.{append-nil, drop_all, get_or-replicate, get_or-set_other, get_or-set_same, get_or-take, length-drop, length-replicate, length-set, length-take-le, map_push, take-append-le, take_all, take_more}
pub use Rattle.std.proofs.lemmas.List.Splits.{join_with_byte-slice_split, length-slice_split, slice_split-cons_no, slice_split-cons_yes, slice_split_first, slice_split_none}
pub use Rattle.std.proofs.lemmas.List.Sums.{count_by_more_no, count_by_more_yes, fails_before_first, list_all-from_AllPass, position_or_len_is, sum_by-cons, sum_by_push}
pub use Rattle.std.proofs.lemmas.Result.{on_ok_weaker}
pub use Rattle.std.proofs.lemmas.Slice.Eq.{bytes_eq-Decides}
pub use Rattle.std.proofs.lemmas.Str.Parse.{IsNumeralModel, digit_at, digit_from_value, numerals_by_value, tells_digits}
pub use Rattle.std.specs.Fmt.{decimal}
pub use Rattle.std.specs.Int.{IsInRange}
pub use Rattle.std.specs.Io.KnownBytes.{Appends, Consumes, IsAtEnd, Keeps, append_known}
pub use Rattle.std.specs.List.{AllByRecursion, flat_map, join_with_byte, list_all, onto_first, position, position_or_len, slice_get, slice_split}
pub use Rattle.std.specs.Option.{option_copied}
pub use Rattle.std.specs.Prelude.{All, IfErr, IfOk, IfSome, IsSome, OnOk, if◌then◌else◌, nat_le, nat_lt, ◌%◌, ◌/◌, ◌||◌}
pub use Rattle.std.specs.Str.{bytes_eq}
pub use Rattle.std.specs.Str.Parse.{AllDigits, IsNumeral, digits_value, digits_value_after}
pub use Rattle.boot_data.specs.PlanLimits.{AreApart, IsAlarmOf, IsMoverOf, IsPlan, IsProgramOf, IsQueueOf, IsSaidTo, IsStepOf, IsTyped, IsWayOf, many_of}
pub use Rattle.boot_data.specs.Plans.{Plan, steps_at, steps_in}
pub use Rattle.boot_data.specs.declared.kind.Kind.{Kind}
pub use Rattle.boot_data.specs.declared.plan.Mover.{Mover}
pub use Rattle.boot_data.specs.declared.plan.Mover.TheVariants.{Pump, Switch}
pub use Rattle.boot_data.specs.declared.plan.PipeWaits.{PipeWaits}
pub use Rattle.boot_data.specs.declared.plan.PlannedMover.{PlannedMover}
pub use Rattle.boot_data.specs.declared.plan.PlannedQueue.{PlannedQueue}
pub use Rattle.boot_data.specs.declared.plan.PlannedThread.{PlannedThread}
pub use Rattle.boot_data.specs.declared.plan.PlannedTty.{PlannedTty}
pub use Rattle.boot_data.specs.declared.plan.QueueIndex.{QueueIndex}
pub use Rattle.boot_data.specs.declared.plan.QueueIndex.TheVariants.{Large, Small}
pub use Rattle.boot_data.specs.declared.plan.Step.{Step}
pub use Rattle.boot_data.specs.declared.plan.Way.{Way}
pub use Rattle.event_theory.specs.Schedules.{Reaches}
pub use Rattle.event_theory.specs.declared.alarm.Alarm.{Alarm}
pub use Rattle.event_theory.specs.declared.event.Event.{Event}
pub use Rattle.event_theory.specs.declared.names.QueueName.{QueueName}
pub use Rattle.quaject_core.specs.ShownCores.{state}
pub use Rattle.boot_script.specs.Answers.{Fails, IsFault}
pub use Rattle.boot_script.specs.BootLines.{AreSeen, is_key, key_of, way_of, ways_of, words_line}
unfoldable pub use Rattle.boot_script.specs.BootLines.{boot_line, line_of, say_words, switch_words, type_words, ways_from}
pub use Rattle.boot_script.specs.BootNames.{count_of, if_kind, if_new, is_letter, is_name, is_name_byte, most_of, name_of, new_name, number_named, part_of, queue_or_part, room_of, same_kind, tty_part, with_name}
unfoldable pub use Rattle.boot_script.specs.BootNames.{find, is_declared, queue_named}
pub use Rattle.boot_script.specs.BootSpellings.{AreInOrder, EndsInText, FitWays, FitsLine, FitsMover, FitsQueue, FitsStep, FitsWaits, FollowInOrder, IsNew, IsSpelling, IsText, SpellFrom, SpellsPlan, digit_for, escape, mover_words, name_of_number, part_name, queue_word, queue_words, way_words}
pub use Rattle.boot_script.specs.BootWords.{boot_word, has_word, if_had}
unfoldable pub use Rattle.boot_script.specs.BootWords.{boot_word_of, boot_words, word_named}
pub use Rattle.boot_script.specs.Commands.{command_of, command_word, knows}
unfoldable pub use Rattle.boot_script.specs.Commands.{commands}
pub use Rattle.boot_script.specs.Drafts.{Added, Draws, kept_plan}
pub use Rattle.boot_script.specs.Grammar.{Reader, at_most_of, is_printable, items_of, no_more_of, notify_event, numbers_of, words_event}
unfoldable pub use Rattle.boot_script.specs.Grammar.{claim_words, event_of, four_words, line_event, no_words, one_word, three_words, two_words}
pub use Rattle.boot_script.specs.Heard.{shown}
pub use Rattle.boot_script.specs.Names.{byte_queue_of, call_of, chain_of, element_of, gauge_of, in_a_name, numbered_name, processor_of, signal_of, the_word, wait_of, ◌or◌}
unfoldable pub use Rattle.boot_script.specs.Names.{listener_of, queue_of}
pub use Rattle.boot_script.specs.Plans.{Draft, add_step, alarm_room, change_at, first_draft, goes_on, no_plan, plan_only, step_room, text_room, typed_at, typed_in, with_step, with_text}
unfoldable pub use Rattle.boot_script.specs.Plans.{added, line_added, plan_from, text_plan}
pub use Rattle.boot_script.specs.Printed.{element_line, end_of_line, numbered_lines}
unfoldable pub use Rattle.boot_script.specs.Printed.{alarm_line, chain_line, clock_line, element_words, gauge_line, notified_line, queue_line, refused_text, status_text}
pub use Rattle.boot_script.specs.Replays.{IsReplay, IsReplayFault, Replays, alone}
pub use Rattle.boot_script.specs.Reports.{heard_text, written_byte}
unfoldable pub use Rattle.boot_script.specs.Reports.{alarms_line, counts_words, heard_line, mover_line, named, thread_line, tty_line, tty_lines, tty_queue}
pub use Rattle.boot_script.specs.Scripts.{at_line, says_nothing}
unfoldable pub use Rattle.boot_script.specs.Scripts.{events_from, opening_of, text_events, version_of, versioned}
pub use Rattle.boot_script.specs.Spellings.{Fits, Spells, SpellsText, call_name, event_words}
unfoldable pub use Rattle.boot_script.specs.Spellings.{spelling}
pub use Rattle.boot_script.specs.Texts.{before, digit_of, escape_of, text_of, within_of}
unfoldable pub use Rattle.boot_script.specs.Texts.{bytes_of}
pub use Rattle.boot_script.specs.Versions.{elements_of, is_later, last_element, last_processor, last_wait, version_line}
pub use Rattle.boot_script.specs.Words.{first_word, later_words, pieces, pieces_left, without_last_empty, word_at, words_from, words_of, ◌>>=◌}
unfoldable pub use Rattle.boot_script.specs.Words.{lines_of, number_of}
pub use Rattle.boot_script.specs.declared.boot_lines.Line.{Line}
pub use Rattle.boot_script.specs.declared.boot_words.BootWord.{BootWord}
pub use Rattle.boot_script.specs.declared.commands.Command.{Command}
pub use Rattle.boot_script.specs.declared.declared_names.Named.{Named}
pub use Rattle.boot_script.specs.declared.fault.ScriptFault.{ScriptFault}
pub use Rattle.boot_script.specs.declared.fault.ScriptRefusal.{ScriptRefusal}
pub use Rattle.boot_script.specs.declared.fault.ScriptRefusal.TheVariants.{BadName, BadNumber, NameTwice, NameUnknown, NotAscii, NotVersion, OutOfMemory, TextTooLong, TooMany, UnknownWord}
pub use Rattle.boot_script.specs.declared.names.Listener.{Listener}
pub use Rattle.boot_script.specs.declared.outcome.ReplayFault.{ReplayFault}
pub use Rattle.boot_script.specs.declared.outcome.Replayed.{Replayed}
pub use Rattle.boot_script.specs.declared.version.Script.TheVariants.{Boot, Events}
pub use Rattle.boot_script.specs.declared.version.Version.{Version}
pub use Rattle.boot_script.specs.declared.version.Version.TheVariants.{One, Three, Two}
