-- The names from elsewhere that several proofs of this crate cite, passed on from one place. Declares nothing.
pub use Rattle.std.proofs.Common.{Bool, List, None, Option, Some, [], ap, arith, eq-eqb, eqb, false, get_or, inl, inr, length, length-append, length-set, map, ne_eqb, refl, rules, set, subst, suc, sym, take, true, true≢false, zero, ℕ, ⊎_elim, ◌%◌, ◌&&◌, ◌++◌, ◌+◌, ◌-◌, ◌/◌, ◌<◌, ◌||◌, ◌∙◌, ◌∷◌, ◌≡◌, ◌≢◌, ◌≤◌, ◌⊎◌}
pub use Rattle.std.proofs.Math.Logic.{∥∥₁_elim, ∥∥₁_map}
pub use Rattle.std.proofs.Props.{props}
pub use Rattle.std.proofs.lemmas.List.{length-map, map-append, map-set}
pub use Rattle.std.specs.Mem.Slots.{slots_items}
pub use Rattle.std.specs.Prelude.{if◌then◌else◌}
pub use lib.ListN.{get_elem?}
pub use mathlib.Core.Logic.{dite}
pub use mathlib.Core.Option.{none, some, some-ne-none}
pub use native.Mathlib.Decide.{dec_le, dec_lt, ℕ_discrete}
pub use Rattle.atomic_table.proofs.Lists.{at_last, at_longer, at_map, at_set, set_else, set_here}
pub use Rattle.atomic_table.specs.Table.{Allows, Joins, Me, Splits, State, step}
pub use Rattle.atomic_table.specs.declared.shared.Seat.{Seat}
pub use Rattle.event_theory.specs.Chains.{Chain, is_call, raise_note}
pub use Rattle.event_theory.specs.Lawful.{is_idle}
pub use Rattle.event_theory.specs.Queues.{is_raised}
pub use Rattle.event_theory.specs.declared.status.Gate.TheVariants.{Idle}
pub use Rattle.table_theory.proofs.Listing.{listed_join, listed_new, run_stands}
pub use Rattle.table_theory.proofs.Owned.{at_below, at_push, one_at}
pub use Rattle.table_theory.proofs.Parting.{made_on}
pub use Rattle.table_theory.proofs.Positioned.{claim_grows, grows_refl, grows_trans, raised_below, write_grows}
pub use Rattle.table_theory.proofs.QueueEvents.{got, history_of}
pub use Rattle.table_theory.proofs.QueueOf.{long_is}
pub use Rattle.table_theory.proofs.Reaching.{alone_since, entries_real, passes_since, reaches_one}
pub use Rattle.table_theory.proofs.Windows.{found_not_raised}
pub use Rattle.table_theory.specs.Batches.{line_of}
pub use Rattle.table_theory.specs.Filing.{Owned}
pub use Rattle.table_theory.specs.Ledgers.{IsValidStep, Performed, Step, both, change, emptied, load, newborn_with, rest_without}
pub use Rattle.table_theory.specs.Listing.{Adjacent, AllRaised, ViewsShow, all_places, number_of, runs_of, with_stage}
pub use Rattle.table_theory.specs.Positioned.{Grows, Lawful, blank, fresh, head_of, item_at, item_of, place_at, tail_of, with_take, with_write, stage_at}
pub use Rattle.table_theory.specs.Seating.{IsSame}
pub use Rattle.table_theory.specs.Windows.{spot}
pub use Rattle.table_theory.specs.declared.queues.Batch.{Batch}
pub use Rattle.table_theory.specs.declared.queues.Cell.{Cell}
pub use Rattle.table_theory.specs.declared.queues.Positions.{Positions}
pub use Rattle.table_theory.specs.declared.queues.QueueView.{QueueView}
pub use Rattle.table_theory.specs.declared.views.AbsState.{AbsState}
pub use Rattle.table_theory.specs.declared.views.Part.{Part}
pub use Rattle.proc_chain.specs.Answers.{with_turn}
pub use Rattle.proc_chain.specs.Chainings.{AreShown, IsChainEvent, chain_of, gate_of, owes_in, runner_from}
pub use Rattle.proc_chain.specs.Changes.{Becomes, IsLawful, IsPlace, first_queue, taking, with_gate, with_note, with_raise, with_taken}
pub use Rattle.proc_chain.specs.Closings.{left_at, left_from}
pub use Rattle.proc_chain.specs.Gates.{GateShows, IsSettled, SlotShows}
pub use Rattle.proc_chain.specs.Handles.{view_of}
pub use Rattle.proc_chain.specs.declared.layout.TheConstants.{FIRST_PLACE}
pub use Rattle.proc_chain.specs.Layout.{head_word, tail_word, ends_word, gate_word, mark_in, note_in, place_word, raised_word}
pub use Rattle.proc_chain.specs.Own.{View, did_both, nothing_did, part_of, queue_of}
pub use Rattle.proc_chain.specs.Happenings.{of_chains}
pub use Rattle.proc_chain.specs.Rules.{IsValidChainView, Rests, Rule, makes, suits, view_from}
pub use Rattle.proc_chain.specs.Servings.{Serving}
pub use Rattle.proc_chain.specs.Shown.{Shows, WordsShow, notes_of}
pub use Rattle.proc_chain.specs.Steps.{Found, Meets, Raised, Stepped, run}
pub use Rattle.proc_chain.specs.Turns.{Carries, HasSlot, IsRunner, KeepsTaken, MadeSince}
pub use Rattle.proc_chain.specs.declared.rule.ChainOps.{ChainOps}
pub use Rattle.proc_chain.specs.declared.rule.GatedQueue.{GatedQueue}
pub use Rattle.proc_chain.specs.declared.rule.Shape.{Shape}
