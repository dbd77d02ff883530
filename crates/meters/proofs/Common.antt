-- The names from elsewhere that several proofs of this crate cite, passed on from one place. Declares nothing.
pub use Rattle.std.proofs.Common.{Bool, List, None, Ok, Option, Some, [], ap, append-nil, arith, cond, count_by, drop, eqb, false, filter_map, get_or, get_or-set_other, get_or-set_same, inl, inr, length, length-append, length-set, ne_eqb, refl, replicate, rules, set, subst, suc, sym, take, true, true≢false, ℕ, ⊎_elim, ◌%◌, ◌++◌, ◌+◌, ◌-◌, ◌<◌, ◌∙◌, ◌∷◌, ◌≡◌, ◌≢◌, ◌≤◌, ◌⊎◌}
pub use Rattle.std.proofs.Math.Logic.{∥∥₁_elim, ∥∥₁_map}
pub use Rattle.std.proofs.lemmas.Bool.{eqb-false}
pub use Rattle.std.proofs.lemmas.List.Elements.{filter_map-append}
pub use Rattle.std.specs.Mem.Slots.{slots_items}
pub use lib.ListN.{get_elem?}
pub use mathlib.Core.Logic.{dite}
pub use mathlib.Core.Option.{some}
pub use native.Mathlib.Decide.{ℕ_discrete}
pub use Rattle.atomic_table.proofs.Lists.{set_else}
pub use Rattle.atomic_table.specs.Table.{State, opening}
pub use Rattle.event_theory.specs.Lawful.{is_alarm, stands}
pub use Rattle.event_theory.specs.Meters.{advance, cancel, fire, tick}
pub use Rattle.event_theory.specs.declared.alarm.Alarm.{Alarm}
pub use Rattle.table_theory.proofs.Reaching.{alone_since, entries_real, reaches_since}
pub use Rattle.table_theory.proofs.Saying.{reaches_go}
pub use Rattle.table_theory.specs.Ledgers.{ExtendsTrace, IsValidView, IsValidStep, Looked, Performed, Reaches, Step, both, change, emptied, load, newborn_with, rest_without}
pub use Rattle.table_theory.specs.Seating.{IsSame}
pub use Rattle.table_theory.specs.declared.views.AbsState.{AbsState}
pub use Rattle.meters.specs.Answers.{NotAdvanced, NotSet, scan}
pub use Rattle.meters.specs.Changes.{Becomes, IsLawful, advanced, cancelled, fired, first_reading, in_slot, meters_of, ticked, was_set, with_advance, with_alarm, with_cancelled, with_fired, with_tick}
pub use Rattle.meters.specs.Events.{Happens, IsSet}
pub use Rattle.meters.specs.Handles.{view_of}
pub use Rattle.meters.specs.Layout.{alarm_in, clock_word, ends_word, slot_word, word_of}
pub use Rattle.meters.specs.Own.{SeatView, did_both, nothing_did, of_meters}
pub use Rattle.meters.specs.Rules.{Rule, newcomer}
pub use Rattle.meters.specs.Steps.{FoundIn, Gave, WasFired, WasSet}
pub use Rattle.meters.specs.Views.{ViewsShow, amount_on, times, times_to}
pub use Rattle.meters.specs.Words.{Fits, IsInRange, SlotsShow, WordsShow, standing}
pub use Rattle.meters.specs.declared.rule.MeterOps.{MeterOps}
pub use Rattle.meters.specs.declared.rule.Reading.{Reading}
pub use Rattle.meters.specs.declared.rule.Shape.{Shape}
