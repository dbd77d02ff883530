-- The names from elsewhere that several proofs of this crate cite, passed on from one place. Declares nothing.
pub use Rattle.std.proofs.Common.{Bool, Err, List, None, Ok, Result, Some, [], ap, arith, drop, eqb, false, get_or, get_or-set_other, get_or-set_same, inl, inr, length, length-append, length-drop, length-set, map, mod-lt, refl, rules, set, subst, suc, sym, take, true, zero, ℕ, ⊎_elim, ◌%◌, ◌*◌, ◌++◌, ◌+◌, ◌-◌, ◌<◌, ◌∙◌, ◌∷◌, ◌≡◌, ◌≢◌, ◌≤◌}
pub use Rattle.std.proofs.Math.Bool.{Bool-set}
pub use Rattle.std.proofs.Math.Bridge.{le_prop}
pub use Rattle.std.proofs.Math.Logic.{∥∥₁_elim, ∥∥₁_map}
pub use Rattle.std.proofs.Math.Nat.{ℕ_set}
pub use Rattle.std.proofs.lemmas.Grind.{merely}
pub use Rattle.std.proofs.lemmas.Bool.{le-ltb, lt-ltb}
pub use Rattle.std.proofs.lemmas.List.{append_assoc, get_or-drop, get_or-map, length-map, length-take-le, map-append, map-set}
pub use Rattle.std.specs.Mem.Slots.{slots_items}
pub use Rattle.std.specs.Prelude.{if◌then◌else◌}
pub use lib.ListN.{get_elem?}
pub use mathlib.Core.Logic.{dite}
pub use mathlib.Core.Option.{none, some}
pub use native.Mathlib.Decide.{dec_lt}
pub use prog.Atomic.{either}
pub use Rattle.atomic_table.proofs.Lists.{at_last, at_longer, at_map, set_again, set_else, set_here}
pub use Rattle.atomic_table.specs.Table.{Allows, Me, step}
pub use Rattle.table_theory.proofs.Listing.{listed_look, own, run_stands}
pub use Rattle.table_theory.proofs.Owned.{at_below, at_push}
pub use Rattle.table_theory.proofs.Parting.{made_none, made_then}
pub use Rattle.table_theory.proofs.Positioned.{grows_refl, raised_below, take_lawful}
pub use Rattle.table_theory.proofs.Reaching.{entries_real, passes_since, reaches_one, reaches_other, reaches_since}
pub use Rattle.table_theory.proofs.Saying.{passes_split}
pub use Rattle.table_theory.proofs.Tables.{Goes, exchanges}
pub use Rattle.table_theory.proofs.Totals.{total_kept, total_set}
pub use Rattle.table_theory.proofs.Unused.{unused_kept}
pub use Rattle.table_theory.specs.Batches.{IsPast}
pub use Rattle.table_theory.specs.Filing.{ListedOnce, Owned}
pub use Rattle.table_theory.specs.Ledgers.{ExtendsTrace, IsValidView, IsValidStep, Performed, Step, both, change, emptied, load}
pub use Rattle.table_theory.specs.Listing.{AllRaised, Distinct, PartsShow, ViewsShow, all_places, number_of, with_stage}
pub use Rattle.table_theory.specs.Positioned.{Grows, Lawful, blank, fresh, head_of, item_at, item_of, place_at, tail_of, with_claim, with_shut, with_take, stage_at}
pub use Rattle.table_theory.specs.Seating.{IsSame}
pub use Rattle.table_theory.specs.Sharing.{IsWhole}
pub use Rattle.table_theory.specs.Windows.{spot}
pub use Rattle.table_theory.specs.declared.queues.Batch.{Batch}
pub use Rattle.table_theory.specs.declared.queues.Cell.{Cell}
pub use Rattle.table_theory.specs.declared.queues.Positions.{Positions}
pub use Rattle.table_theory.specs.declared.queues.QueueView.{QueueView}
pub use Rattle.table_theory.specs.declared.views.AbsState.{AbsState}
pub use Rattle.table_theory.specs.declared.views.Part.{Part}
pub use Rattle.claim_queue.specs.Answers.{ClaimedItems, Fits, Refused, RefusedBy}
pub use Rattle.claim_queue.specs.Changes.{Becomes, IsPlace, empty, was_claimed, was_shut, was_taken, was_written}
pub use Rattle.claim_queue.specs.Claims.{KeepsClaims, KeepsOthers, Owns, places_of, run_of}
pub use Rattle.claim_queue.specs.Closings.{left_at, left_from, shown}
pub use Rattle.claim_queue.specs.Endings.{JoinedBy}
pub use Rattle.claim_queue.specs.Handles.{view_of}
pub use Rattle.claim_queue.specs.Layout.{IsUsed, by_ends, by_flag, by_head, by_item, by_tail, data_in, data_word, ends_word, flag_in, flag_word, head_word, mark, tail_word}
pub use Rattle.claim_queue.specs.Lines.{line_of}
pub use Rattle.claim_queue.specs.Own.{OnlyLoads, View, did_both, nothing_did, of_queues, part_of, run, taking, with_changed, with_run, with_taking}
pub use Rattle.claim_queue.specs.Puts.{IsPut, PutAnswer, Raised, RaisedFrom, Try, tried}
pub use Rattle.claim_queue.specs.Reads.{HasFound, IsScanned, IsStopped}
pub use Rattle.claim_queue.specs.Rules.{InvHeldOf, Rule, newcomer, shuts_of, times_shut}
pub use Rattle.claim_queue.specs.Shown.{WordsShow}
pub use Rattle.claim_queue.specs.Steps.{Claimed, Found, Stepped}
pub use Rattle.claim_queue.specs.Takings.{HasRaised, IsBegun, IsLine, IsNone, IsOne, NoEnd, RefusedTake, Scan, TookItems, stop_position, scanned, stopping}
pub use Rattle.claim_queue.specs.declared.claim.ClaimRefusal.{ClaimRefusal}
pub use Rattle.claim_queue.specs.declared.claim.ClaimRefusal.TheVariants.{Closed, Full, Lost, NoItems, Spent, TooLong}
pub use Rattle.claim_queue.specs.declared.ends.QueueEnd.{QueueEnd}
pub use Rattle.claim_queue.specs.declared.layout.TheConstants.{FIRST_PLACE}
pub use Rattle.claim_queue.specs.declared.rule.QueueOps.{QueueOps}
pub use Rattle.claim_queue.specs.declared.rule.Shape.{Shape}
pub use Rattle.claim_queue.specs.declared.take.TakeRefusal.{TakeRefusal}
pub use Rattle.claim_queue.specs.declared.take.TakeRefusal.TheVariants.{Empty}
