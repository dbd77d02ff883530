-- The names from elsewhere that several proofs of this crate cite, passed on from one place. Declares nothing.
pub use Rattle.std.proofs.Common.{Bool, List, [], ap, ap₂, arith, drop, eq-eqb, eqb, false, get_or, get_or-set_other, get_or-set_same, inl, inr, length, length-append, length-set, map, ne_eqb, refl, set, slice_get, subst, suc, sym, take, true, zero, ℕ, ⊎_elim, ◌%◌, ◌++◌, ◌+◌, ◌-◌, ◌<◌, ◌∙◌, ◌∷◌, ◌≡◌, ◌≢◌, ◌≤◌, ◌⊎◌}
pub use Rattle.std.proofs.lemmas.Bool.{le-leb, ltb-true}
pub use Rattle.std.proofs.lemmas.List.{append-nil, append_assoc, get_or_append_left, length-drop, length-map, map-append, map-set, take-map}
pub use Rattle.std.specs.List.{AllByRecursion, list_all}
pub use Rattle.std.specs.Prelude.{if◌then◌else◌, nat_lt}
pub use lib.ListN.{get_elem?}
pub use mathlib.Core.Logic.{dite}
pub use mathlib.Core.Option.{some, some-injective, some-ne-none}
pub use native.Mathlib.Decide.{dec_lt, ℕ_discrete}
pub use Rattle.atomic_table.proofs.Lists.{at_last, at_longer, at_map, at_set, set_again, set_else, set_here}
pub use Rattle.event_theory.specs.Queues.{is_raised, left}
pub use Rattle.event_theory.specs.Runs.{flat, pairs}
pub use Rattle.table_theory.specs.Courses.{Continues, IsCourse}
pub use Rattle.table_theory.specs.Ends.{Begins, later_of}
pub use Rattle.table_theory.specs.Filing.{ListedOnce, Owned, entry_of, moved, sole}
pub use Rattle.table_theory.specs.Ledgers.{ExtendsTrace, AreValidViews, CountedDown, CountedUp, EndsStand, IsValidView, IsIdle, IsValidStep, Performed, Passes, Reaches, TableInv, Step, StepEffect, ObjectModel, Tallied, JoinedBy, both, emptied, event, fewer, first_of, more, newborn, newborn_with, opened, rest_of, rest_without, stays}
pub use Rattle.table_theory.specs.Listing.{Adjacent, IsListed, PartsShow, ViewsShow, all_places, runs_of, with_stage}
pub use Rattle.table_theory.specs.Orders.{AreOrdered}
pub use Rattle.table_theory.specs.Positioned.{Grows, Lawful, blank, fresh, head_of, item_at, item_of, place_at, tail_of, with_claim, with_shut, with_take, with_write, stage_at}
pub use Rattle.table_theory.specs.QueueOf.{IsHistory, is_published, queue_of, run_in, published_in}
pub use Rattle.table_theory.specs.Sharing.{IsCount, IsPortion, IsWhole, given, kept, total}
pub use Rattle.table_theory.specs.declared.queues.Batch.{Batch}
pub use Rattle.table_theory.specs.declared.queues.Cell.{Cell}
pub use Rattle.table_theory.specs.declared.queues.Positions.{Positions}
pub use Rattle.table_theory.specs.declared.queues.QueueView.{QueueView}
pub use Rattle.table_theory.specs.declared.views.Entry.{Entry}
pub use Rattle.table_theory.specs.declared.views.EndState.{EndState}
pub use Rattle.table_theory.specs.declared.views.AbsState.{AbsState}
pub use Rattle.table_theory.specs.declared.views.Part.{Part}
