-- The names from elsewhere that several proofs of this crate cite, passed on from one place. Declares nothing.
pub use Rattle.std.proofs.Common.{Bool, IfOk, IfSome, List, Option, Result, [], ap, append_assoc, arith, drop, false, get_or, length, map, refl, rules, set, subst, suc, sym, take, true, zero, ℕ, ⊎_elim, ◌++◌, ◌+◌, ◌-◌, ◌<◌, ◌∙◌, ◌∷◌, ◌≡◌, ◌≢◌, ◌≤◌}
pub use Rattle.std.proofs.Math.Logic.{∥∥₁_elim, ∥∥₁_map}
pub use Rattle.std.proofs.Math.Nat.{ℕ_set}
pub use Rattle.std.proofs.Math.Seq.{drop-append_seam, get_or-append_seam, take-length}
pub use Rattle.std.proofs.lemmas.List.{append-nil, get_or_append_left, length-append, length-drop, length-map, length-take, map-append, take-append-le, take_all}
pub use Rattle.std.specs.Array.Iter.{array_into_iter_items}
pub use Rattle.std.specs.Global.{Vec}
pub use Rattle.std.specs.List.{concat}
pub use Rattle.std.specs.Prelude.{None, Some, if◌then◌else◌}
pub use Rattle.claim_queue.proofs.Certain.{by_both, seen_room, valid_end}
pub use Rattle.claim_queue.proofs.Ordered.{answer_order, join_grows, join_grows_other, order_of, refused_order, took_order}
pub use Rattle.claim_queue.specs.Endings.{IsNewEnd, JoinedBy, SplitBy}
pub use Rattle.claim_queue.specs.Handles.{IsEndOf, view_of}
pub use Rattle.claim_queue.specs.Lines.{PutLine, SameLines, TookLine, line_of, lines_put, lines_taken}
pub use Rattle.claim_queue.specs.Orders.{TakesInOrder}
pub use Rattle.claim_queue.specs.Own.{View, of_queues, part_of}
pub use Rattle.claim_queue.specs.Takings.{IsBegun, IsLine, RefusedTake, TookItems, scanned}
pub use Rattle.claim_queue.specs.declared.ends.QueueEnd.{QueueEnd}
pub use Rattle.table_theory.specs.Interleaving.{Ascending, InOrder, Interleaves, joined}
pub use Rattle.table_theory.specs.Positioned.{Grows, item_of, with_take}
pub use Rattle.table_theory.specs.Sharing.{given, kept, total}
pub use Rattle.table_theory.specs.declared.queues.Batch.{Batch}
pub use lib.ListN.{get_elem?}
pub use mathlib.Core.Option.{some, some-injective, some-ne-none}
pub use Rattle.spooler.specs.Doings.{HasPut, HasTaken, KeepsPuts}
pub use Rattle.spooler.specs.Ends.{AreEndsOf, Gathered, PutsEach}
pub use Rattle.spooler.specs.Lines.{lines_of}
pub use Rattle.spooler.specs.Wholes.{IsWhole}
pub use Rattle.spooler.specs.declared.line.Line.{Line}
