-- The names from elsewhere that several proofs of this crate cite, passed on from one place. Declares nothing.
pub use Rattle.std.proofs.Common.{Bool, Err, IsPermutation, List, None, Ok, Option, Result, Some, [], ap, append-nil, ap₂, arith, cond, drop, eq-eqb, eqb, false, get_or, get_or-set_other, get_or-set_same, inl, inr, length, length-append, length-drop, length-set, map, mod-lt, ne_eqb, not, option_map, position, refl, remove, replicate, rules, set, slice_get, subst, suc, sym, take, true, true≢false, zero, ℕ, ⊎_elim, ◌%◌, ◌&&◌, ◌*◌, ◌++◌, ◌+◌, ◌-◌, ◌/◌, ◌<◌, ◌==◌, ◌^◌, ◌||◌, ◌∙◌, ◌∷◌, ◌≡◌, ◌≢◌, ◌≤◌, ◌⊎◌}
pub use Rattle.std.proofs.Math.Bool.{or-false, or-true}
pub use Rattle.std.proofs.Math.ListN.{get_or-eq_default, get_or-map}
pub use Rattle.std.proofs.Math.Logic.{∥∥₁_elim, ∥∥₁_map}
pub use Rattle.std.proofs.Math.Nat.{add-mod_right, mod-eq_of_lt}
pub use Rattle.std.proofs.Math.Path.{transport}
pub use Rattle.std.proofs.Math.Pow.{pow-lt}
pub use Rattle.std.proofs.lemmas.Bool.{and_from, and_parts, and_right, cases_eq, cases_lt, eqb-true, false_from_ne_true, or_left, or_parts, or_right, true_from_ne_false}
pub use Rattle.std.proofs.lemmas.Bool.Decides.{eqb_tells, nat_tests}
pub use Rattle.std.proofs.lemmas.Grind.{merely}
pub use Rattle.std.proofs.lemmas.List.{append_assoc, append_cancel_left, ext_get_or, get_or_default, length-map, map-append, map-set, set-get_or}
pub use Rattle.std.proofs.lemmas.List.Folds.{list_any-append, list_any_at}
pub use Rattle.std.proofs.lemmas.List.FromFn.{get_or-map-range_with_len, length-map-range_with_len, length-range_with_len}
pub use Rattle.std.proofs.lemmas.List.Quantifiers.{position-Some}
pub use Rattle.std.proofs.lemmas.List.Sorted.{list_any-IsPermutation, sum_by-IsPermutation}
pub use Rattle.std.proofs.lemmas.List.Sums.{get_or-le-sum_by, sum_by-append, sum_by-cons}
pub use Rattle.std.proofs.lemmas.Nat.{or_lt}
pub use Rattle.std.proofs.lemmas.Nat.Bits.{bit_at-lt, bit_at-pow_other, bit_at_and}
pub use Rattle.std.proofs.lemmas.Option.{get_or_from_slice_get, slice_get-get_or, slice_get_within}
pub use Rattle.std.proofs.lemmas.Simd.{map-map}
pub use Rattle.std.specs.Int.{bit_at}
pub use Rattle.std.specs.Int.Bits.{bit_and, bit_or}
pub use Rattle.std.specs.List.{AllByRecursion, flat_map, list_any, position_or_len, range_with_len, repeat, sum_by}
pub use Rattle.std.specs.Mem.Slots.{slots_items}
pub use Rattle.std.specs.Prelude.{count_by, if◌then◌else◌, nat_lt}
pub use Rattle.std.specs.Result.{result_unwrap_or}
pub use borrow.Author.Count.{below_more}
pub use lib.ListN.{get_elem?}
pub use mathlib.Core.Logic.{dite}
pub use mathlib.Core.Option.{none, some, some-injective, some-ne-none}
pub use native.Mathlib.Decide.{dec_le, dec_lt, ℕ_discrete}
pub use Rattle.atomic_table.proofs.Lists.{at_map, at_set, set_else, set_here}
pub use Rattle.atomic_table.specs.Table.{Allows, Final, Me, Splits, keeps, opening}
pub use Rattle.event_theory.proofs.Keeping.Elements.{every_at}
pub use Rattle.event_theory.proofs.Keeping.Places.{in_hands, let_go_count, one}
pub use Rattle.event_theory.proofs.Keeping.Steps.{schedule_law}
pub use Rattle.event_theory.specs.Accounts.{is_done}
pub use Rattle.event_theory.specs.Appearances.{appearances, in_cell, in_list, is_on}
pub use Rattle.event_theory.specs.Chains.{with_number}
pub use Rattle.event_theory.specs.Elements.{Elements, Thread, claim_element, deliver, done, hold, holds, is_hold, is_put, join_elements, let_go, new_thread, raise_element, take_element}
pub use Rattle.event_theory.specs.Lawful.{IsLawfulElements, IsLawfulQueue}
pub use Rattle.event_theory.specs.Marks.{wait_at}
pub use Rattle.event_theory.specs.Queues.{Queue, claim, empty_queue, full_queue, join_queue, join_run, left, raise, renamed, take_first}
pub use Rattle.event_theory.specs.Results.{at, change_at, ◌>>=◌}
pub use Rattle.event_theory.specs.Runs.{Run, flat, run_length}
pub use Rattle.event_theory.specs.Schedules.{Reaches}
pub use Rattle.event_theory.specs.States.{State, counted, effect, first_state, in_elements, step}
pub use Rattle.event_theory.specs.declared.event.Event.{Event}
pub use Rattle.event_theory.specs.declared.hold.Hold.{Hold}
pub use Rattle.event_theory.specs.declared.refusal.Refusal.{Refusal}
pub use Rattle.event_theory.specs.declared.refusal.Refusal.TheVariants.{UnknownName}
pub use Rattle.table_theory.proofs.Unused.{all_alike, unused_kept}
pub use Rattle.table_theory.specs.Unused.{AreZero}
pub use Rattle.table_theory.proofs.Alone.{there_is}
pub use Rattle.table_theory.proofs.Ends.{begins_refl, begins_trans}
pub use Rattle.table_theory.proofs.Orders.{order_at, order_split, order_step, order_to, split_order}
pub use Rattle.table_theory.proofs.Owned.{at_below, at_map_back, at_push, one_at}
pub use Rattle.table_theory.proofs.Standing.{stand_same}
pub use Rattle.table_theory.proofs.Totals.{two_of}
pub use Rattle.table_theory.specs.Courses.{Continues}
pub use Rattle.table_theory.specs.Ends.{Begins}
pub use Rattle.table_theory.specs.Filing.{Owned, entry_of}
pub use Rattle.table_theory.specs.Ledgers.{ExtendsTrace, EndsStand, IsValidStep, StepEffect, ObjectModel, count_down, count_up, event, fewer, first_of, load, more, opened, stays}
pub use Rattle.table_theory.specs.Orders.{AreOrdered}
pub use Rattle.table_theory.specs.Sharing.{IsWhole, total}
pub use Rattle.table_theory.specs.declared.views.Part.{Part}
pub use Rattle.thread_table.specs.Answers.{DeliverAnswer, DoneAnswer, IsTicket, MoveAnswer, MovedBy, Overtaken, ParkAnswer, ReadPc, StartAnswer, TakeAnswer, TakesOff, WaitAnswer, head_in, is_in, mark_in, raise_event}
pub use Rattle.thread_table.specs.Closings.{ClosedNow, IsIn, PlaceOf, ProcessorOf, RingOf, StandsAt, is_left, place_by, word_at}
pub use Rattle.thread_table.specs.Endings.{SplitBy, SplitShare, IsNewEnd, IsNewEndWith, JoinedBy}
pub use Rattle.thread_table.specs.Entries.{PerformsEvents, Step, change, claim_event, seen_as, steps_by, steps_in, take_event, with_event}
pub use Rattle.thread_table.specs.Handles.{call_of, view_of}
pub use Rattle.thread_table.specs.Joins.{AreJoined, joining, uncounted}
pub use Rattle.thread_table.specs.Laid.{ItemsLaid, RingsLaid}
pub use Rattle.thread_table.specs.Layout.{done_word, ends_word, free_ring, head_word, place_word, places_word, processor_word, ready_ring, state_word, tail_word, wait_ring, IsUsed, by_done, by_ends, by_head, by_place, by_processor, by_state, by_tail}
pub use Rattle.thread_table.specs.Makers.{AreMade, is_join, made_in, made_of, numbered}
pub use Rattle.thread_table.specs.Own.{View}
pub use Rattle.thread_table.specs.Reads.{Peeked}
pub use Rattle.thread_table.specs.Retiring.{items_of, retired_by, retired_in, taking_by}
pub use Rattle.thread_table.specs.Rules.{HandIs, HasStood, IsActive, IsClaimed, IsCounted, IsNewest, IsOpen, IsSteady, MayStep, Rule, Seen, done_at, has, may_step, newcomer, nothing_of, nothing_on, now_of, running, serves}
pub use Rattle.thread_table.specs.Schedules.{Course, Grows, Past, QueueGrows, element_at, element_of, no_run, ring_at, ring_name, thread_at}
pub use Rattle.thread_table.specs.Shown.{PlaceShows, RingShows, StateShows, WordsShow, bit_of, head_shown, mark_of, processor_shown, tail_shown}
pub use Rattle.thread_table.specs.Steps.{CountedDown, HandDid, Found, Sees, HandStands, any_both, both, either, either_on, emptied, had_by_both, newborn, newborn_with, parted, rest_of, rest_without}
pub use Rattle.thread_table.specs.Telling.{IsValidHandView, of_hands}
pub use Rattle.thread_table.specs.Views.{HasClaimed, claim_of, count_of, having, having_found, left_by_event, quiet, with_held, with_taken_off}
pub use Rattle.thread_table.specs.Wakes.{BeforeAnswer, NotifiedNow}
pub use Rattle.thread_table.specs.declared.hand.Hand.{Hand}
pub use Rattle.thread_table.specs.declared.layout.TheConstants.{ELEMENTS, NOTIFY, PLACES, PROCESSORS, RINGS, WAITS, WORDS}
pub use Rattle.thread_table.specs.declared.places.Place.{Place}
pub use Rattle.thread_table.specs.declared.rule.Claimed.{Claimed}
pub use Rattle.thread_table.specs.declared.rule.Counted.{Counted}
pub use Rattle.thread_table.specs.declared.rule.HandState.{HandState}
pub use Rattle.thread_table.specs.declared.rule.MadeEvent.{MadeEvent}
pub use Rattle.thread_table.specs.declared.rule.Shape.{Shape}
pub use Rattle.thread_table.specs.declared.states.Lost.{Lost}
pub use Rattle.thread_table.specs.declared.takings.NextRefusal.{NextRefusal}
