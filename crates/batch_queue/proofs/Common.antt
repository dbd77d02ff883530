-- The names from elsewhere that several proofs of this crate cite, passed on from one place. Declares nothing.
pub use Rattle.std.proofs.Common.{List, [], ap, arith, drop, eqb, false, get_or, get_or-set_other, get_or-set_same, inl, inr, length, length-set, map, mod-lt, refl, replicate, rules, set, subst, suc, sym, take, zero, ℕ, ⊎_elim, ◌%◌, ◌*◌, ◌++◌, ◌+◌, ◌-◌, ◌/◌, ◌<◌, ◌∙◌, ◌∷◌, ◌≡◌, ◌≢◌, ◌≤◌, ◌⊎◌}
pub use Rattle.std.proofs.lemmas.List.{append-nil, append_assoc, get_or-replicate, length-append, length-drop, length-map, length-replicate, length-take-le, map-append, map-set, set-set}
pub use Rattle.std.proofs.lemmas.List.Folds.{concat-append}
pub use Rattle.std.specs.List.{concat, flat_map}
pub use Rattle.std.specs.Prelude.{Bool, if◌then◌else◌, nat_lt, true}
pub use mathlib.Core.Option.{Option, none, some-injective, some-ne-none}
pub use native.Mathlib.Decide.{dec_le, dec_lt}
pub use native.Mathlib.Nat.{add-mod_right}
pub use prog.Atomic.{either}
pub use Rattle.atomic_table.proofs.Lists.{at_last, at_longer, at_map, at_set, at_snoc, one_turn, set_else, set_here, some_there}
pub use Rattle.atomic_table.specs.Table.{Act, Allows, Joins, Me, Splits, State, Valid, carried_after, homes_after, keeps, opening, step}
pub use Rattle.table_theory.proofs.Common.{ViewsShow, blank, dite, get_elem?, item_at, set_again, some, with_write, stage_at, with_stage, ℕ_discrete}
pub use Rattle.table_theory.proofs.Listing.{listed_claim, listed_first, listed_join, listed_look, listed_new, listed_take}
pub use Rattle.table_theory.proofs.Owned.{at_below, at_joined}
pub use Rattle.table_theory.proofs.Positioned.{grows_refl, past_written, write_else, write_here}
pub use Rattle.table_theory.proofs.QueueEvents.{history_of}
pub use Rattle.table_theory.proofs.QueueOf.{is_lawful_queue, left_is}
pub use Rattle.table_theory.proofs.Totals.{total_kept, total_push, total_set}
pub use Rattle.table_theory.proofs.Unused.{all_alike, unused_kept}
pub use Rattle.table_theory.proofs.Tables.{Goes, IsTable}
pub use Rattle.table_theory.proofs.Reaching.{entries_real}
pub use Rattle.table_theory.specs.Batches.{line_of}
pub use Rattle.table_theory.specs.Filing.{ListedOnce, Owned, entry_of}
pub use Rattle.table_theory.specs.Listing.{Adjacent, PartsShow, all_places}
pub use Rattle.table_theory.specs.Seating.{IsSame}
pub use Rattle.table_theory.specs.Sharing.{IsWhole, total}
pub use Rattle.table_theory.specs.Ledgers.{IsValidView, IsValidStep, Performed, TableInv, Step, load, both, change, emptied, newborn, newborn_with, opened, rest_of, rest_without}
pub use Rattle.table_theory.specs.Positioned.{fresh, head_of, item_of, left_of, tail_of, with_claim, with_take}
pub use Rattle.table_theory.specs.declared.queues.Batch.{Batch}
pub use Rattle.table_theory.specs.declared.queues.Cell.{Cell}
pub use Rattle.table_theory.specs.declared.queues.Positions.{Positions}
pub use Rattle.table_theory.specs.declared.queues.QueueView.{QueueView}
pub use Rattle.table_theory.specs.declared.views.AbsState.{AbsState}
pub use Rattle.batch_queue.specs.Layout.{IsUsed, by_ends, by_free, by_head, by_mark, by_tail, mark, ends_word, free_word, head_word, mark_word, tail_word, width}
pub use Rattle.batch_queue.specs.Closings.{ClosedNow}
pub use Rattle.batch_queue.specs.Lefts.{left_from}
pub use Rattle.batch_queue.specs.Lines.{AreInOrder, IsSettled}
pub use Rattle.batch_queue.specs.Object.{AreGroups, AreIn, AreSolid, AreWhole, Becomes, Grows, IsBatch, IsEdge, IsParted, IsRest, IsStop, IsWithin, Lawful, empty, items_of, mark_of, phase_at, set_range, was_claimed, was_freed, was_given, was_parted, was_published, was_shut, was_taken, with_back, with_batch, with_freed, with_mark, with_part, with_phase, with_shut, with_taken, with_up}
pub use Rattle.batch_queue.specs.Own.{HasRun, Holds, View, did_both, holding, no_slots, nothing_did, of_batches, part_of, run, taking, with_no_slots, with_parting, with_published, with_run, with_shutting, with_taking}
pub use Rattle.batch_queue.specs.Placed.{cell_of, cells, positions_of, raised_run, with_raises}
pub use Rattle.batch_queue.specs.Rules.{Apart, HomeShows, IsHeld, InvHeldOf, OwnShows, Rule, newcomer, parts_of, shuts_of, times_shut}
pub use Rattle.batch_queue.specs.Shown.{MarkSays, WordsShow}
pub use Rattle.batch_queue.specs.Slots.{give_all, slots_of, take_all}
pub use Rattle.batch_queue.specs.Steps.{Claimed, Found, Freed, HasBack, HasFound, HasStop, HoldsRange, IsClaim, IsSeated, Missed, Parted, Released, Stays, Stepped, Took, claims, finds, frees, parts, released, releases, shuts, takes_tail}
pub use Rattle.batch_queue.specs.declared.layout.TheConstants.{FIRST_MARK, POSITIONS, SHUT}
pub use Rattle.batch_queue.specs.declared.rule.BatchState.{BatchState}
pub use Rattle.batch_queue.specs.declared.rule.EndRecord.{EndRecord}
pub use Rattle.batch_queue.specs.declared.rule.HeldSlots.{HeldSlots}
pub use Rattle.batch_queue.specs.declared.rule.Shape.{Shape}
