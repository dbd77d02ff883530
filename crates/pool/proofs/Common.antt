-- The names from elsewhere that several proofs of this crate cite, passed on from one place. Declares nothing.
pub use Rattle.std.proofs.Common.{Bool, List, [], ap, append_assoc, arith, drop, eq-eqb, false, length, map, refl, subst, suc, sym, take, true, zero, ℕ, ⊎_elim, ◌%◌, ◌*◌, ◌++◌, ◌+◌, ◌-◌, ◌/◌, ◌<◌, ◌^◌, ◌∙◌, ◌∷◌, ◌≡◌, ◌≤◌}
pub use Rattle.std.proofs.Math.Bridge.{le_prop}
pub use Rattle.std.proofs.Math.Logic.{∥∥₁_elim, ∥∥₁_map}
pub use Rattle.std.proofs.Math.Nat.{ℕ_set}
pub use Rattle.std.proofs.lemmas.List.FromFn.{length-range_with_len}
pub use Rattle.std.specs.List.{AllByRecursion, concat, filter}
pub use Rattle.std.specs.Prelude.{Err, IfOk, MatchResult, Ok, Result, if◌then◌else◌, max}
pub use Rattle.batch_queue.specs.Handles.{view_of}
pub use Rattle.batch_queue.specs.Layout.{ends_word, head_word, mark, mark_word}
pub use Rattle.batch_queue.specs.Lines.{PutLine, SameLines, lines_put, lines_taken}
pub use Rattle.batch_queue.specs.Object.{Grows, items_of, with_batch, with_up}
pub use Rattle.batch_queue.specs.Own.{OnlyLoads, View, nothing_did, of_batches}
pub use Rattle.batch_queue.specs.Parts.{FilledSome, RefusedSomeBy, RefusedTakeSome, SameSome, TookSome, with_parts}
pub use Rattle.batch_queue.specs.Puts.{FoundOther, FoundShut, IsPut, LackedRoom, RefusedPut, WasSpent, published}
pub use Rattle.batch_queue.specs.Rules.{KeepsTo, newcomer, shuts_of}
pub use Rattle.batch_queue.specs.declared.refusals.PutRefusal.{PutRefusal}
pub use Rattle.batch_queue.specs.declared.refusals.TakeRefusal.{TakeRefusal}
pub use Rattle.batch_queue.specs.declared.rule.BatchState.{BatchState}
pub use Rattle.batch_queue.specs.declared.rule.EndRecord.{EndRecord}
pub use Rattle.batch_queue.specs.declared.rule.Shape.{Shape}
pub use Rattle.table_theory.proofs.Giving.{batch_given, batch_items, given_in, given_joined, given_one, placed}
pub use Rattle.table_theory.proofs.Holding.{Accounts, first_apart, held_sum, in_batch, times_kept, times_lines}
pub use Rattle.table_theory.proofs.Owned.{at_joined, at_map_back, at_push}
pub use Rattle.table_theory.proofs.Reaching.{adds_none, all_after, alone_since}
pub use Rattle.table_theory.proofs.Times.{all_once, all_other, one_alone, one_more, times_append, times_at, times_concat, times_split, total_alike, total_joined, total_map, total_none}
pub use Rattle.table_theory.proofs.Totals.{one_of, total_push}
pub use Rattle.table_theory.specs.Batches.{line_of}
pub use Rattle.table_theory.specs.Filing.{ListedOnce, Owned, entry_of}
pub use Rattle.table_theory.specs.Ledgers.{ExtendsTrace, IsValidStep, IsValidView, Performed, Reaches, Step, WereOpen, change, load}
pub use Rattle.table_theory.specs.Lines.{IsCut, TookLine}
pub use Rattle.table_theory.specs.Listing.{Adjacent, IsListed}
pub use Rattle.table_theory.specs.Sharing.{IsWhole, given, kept, total}
pub use Rattle.table_theory.specs.declared.queues.Batch.{Batch}
pub use Rattle.table_theory.specs.declared.views.AbsState.{AbsState}
pub use lib.ListN.{get_elem?}
pub use mathlib.Core.Bool.{cond, not}
pub use mathlib.Core.Logic.{dite}
pub use mathlib.Core.Option.{some, some-injective, some-ne-none}
pub use native.Mathlib.Decide.{dec_lt, ℕ_discrete}
pub use Rattle.pool.specs.Between.{EachOnce, HasOneOwner, NoneHolds, NoneShut, count_in, the_end, the_queue, waiting}
pub use Rattle.pool.specs.Buffers.{AreAll, AreBuffers, all_buffers, times}
pub use Rattle.pool.specs.Holdings.{Acquired, Holds, HoldsLess, HoldsMore, HoldsSame, IsFair, IsStocked, ListsFirst, PutAllOnce, Released, acquired, held, is_later, released}
pub use Rattle.pool.specs.Lending.{Lends}
