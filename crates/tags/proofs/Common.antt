-- The names from elsewhere that several proofs of this crate cite, passed on from one place. Declares nothing.
pub use Rattle.std.proofs.Common.{Bool, List, [], ap, arith, drop, eq-eqb, false, get_or, inl, inr, length, map, refl, rules, subst, suc, sym, take, true, zero, ℕ, ⊎_elim, ◌%◌, ◌++◌, ◌+◌, ◌-◌, ◌<◌, ◌∙◌, ◌∷◌, ◌≡◌, ◌≤◌, ◌⊎◌}
pub use Rattle.std.proofs.Math.Bridge.{le_prop}
pub use Rattle.std.proofs.Math.Logic.{∥∥₁_elim}
pub use Rattle.std.proofs.lemmas.List.{drop-map, length-append, length-map, map-append, take-map}
pub use Rattle.std.proofs.lemmas.List.FromFn.{length-range_with_len}
pub use Rattle.std.specs.Prelude.{Err, IfOk, MatchResult, None, Ok, Option, Result, Some, if◌then◌else◌}
pub use Rattle.claim_queue.proofs.Answered.{Does, put_own, refused_own, refused_take_own, took_own}
pub use Rattle.claim_queue.specs.Answers.{Refused}
pub use Rattle.claim_queue.specs.Claims.{places_of, run_of}
pub use Rattle.claim_queue.specs.Client.{ArePut, MayPut, WereFirst}
pub use Rattle.claim_queue.specs.Handles.{view_of}
pub use Rattle.claim_queue.specs.Layout.{ends_word, head_word, mark, tail_word}
pub use Rattle.claim_queue.specs.Lines.{PutLine, SameLines, TookLine, line_of, lines_put, lines_taken}
pub use Rattle.claim_queue.specs.Own.{View, did_both, nothing_did, of_queues, part_of, taking, with_run, with_taking}
pub use Rattle.claim_queue.specs.Puts.{IsPut}
pub use Rattle.claim_queue.specs.Rules.{KeepsTo, newcomer, shuts_of}
pub use Rattle.claim_queue.specs.declared.claim.ClaimRefusal.{ClaimRefusal}
pub use Rattle.claim_queue.specs.declared.rule.Shape.{Shape}
pub use Rattle.event_theory.specs.Runs.{Run, flat}
pub use Rattle.table_theory.proofs.Giving.{batch_given, batch_items, given_in, given_joined, given_one, item_counts, items_joined, items_one, placed}
pub use Rattle.table_theory.proofs.Holding.{Accounts, held_sum, in_batch, in_later}
pub use Rattle.table_theory.proofs.Owned.{at_joined, at_map_back, at_push}
pub use Rattle.table_theory.proofs.Times.{all_once, all_other, one_alone, one_more, times_other, times_self, total_alike, total_none}
pub use Rattle.table_theory.specs.Filing.{ListedOnce, Owned}
pub use Rattle.table_theory.specs.Ledgers.{ExtendsTrace, IsValidStep, IsValidView, Reaches, Step, WereOpen}
pub use Rattle.table_theory.specs.Listing.{Adjacent, AllRaised, IsListed, ViewsShow, all_places}
pub use Rattle.table_theory.specs.Positioned.{Grows, head_of, item_of, left_of, tail_of}
pub use Rattle.table_theory.specs.Protocols.{Placed, WasPut, placed_lines}
pub use Rattle.table_theory.specs.QueueOf.{run_in}
pub use Rattle.table_theory.specs.Sharing.{IsWhole, given, kept, total}
pub use Rattle.table_theory.specs.Times.{first_items, is_later, items_in, returned, times}
pub use Rattle.table_theory.specs.declared.queues.Batch.{Batch}
pub use Rattle.table_theory.specs.declared.queues.Positions.{Positions}
pub use Rattle.table_theory.specs.declared.views.AbsState.{AbsState}
pub use lib.ListN.{get_elem?}
pub use mathlib.Core.Bool.{cond, not}
pub use mathlib.Core.Logic.{dite}
pub use mathlib.Core.Option.{some, some-injective, some-ne-none}
pub use native.Mathlib.Decide.{dec_lt, ℕ_discrete}
pub use Rattle.tags.specs.Holdings.{GaveTag, HoldsLess, HoldsMore, HoldsSame, IsHolding, TookTag, acquired, count_in, held, released}
pub use Rattle.tags.specs.Lending.{AreAll, Lends, all_tags}
