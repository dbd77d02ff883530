-- The names from elsewhere that several of these proofs cite, passed on from one place. Declares nothing.
pub use Rattle.event_theory.proofs.Lists.Inversions.{change_ok, test_ok, then_ok}
pub use Rattle.event_theory.proofs.Lists.Placed.{all_append}
pub use Rattle.event_theory.specs.Accounts.{moves}
pub use Rattle.event_theory.specs.Marks.{wait_ring}
pub use Rattle.event_theory.specs.declared.refusal.Refusal.TheVariants.{Full, TooLong}
pub use Rattle.std.proofs.lemmas.Bool.{le-ltb}
pub use Rattle.std.specs.List.{concat}
pub use Rattle.thread_table.proofs.Closing.Retiring.{first_runs, takings_in}
pub use Rattle.thread_table.proofs.Common.{AllByRecursion, Reaches, Refusal, Thread, cases_lt, change_at, claim, claim_element, dec_lt, dite, done, drop, effect, empty_queue, eq-eqb, first_state, get_or-eq_default, in_list, is_on, left, map, new_thread, result_unwrap_or, slice_get, step, sum_by}
pub use Rattle.thread_table.proofs.Lists.Counts.{any_is, by_bool, find_it, is_less, many_cons, many_more, plus, range_in, some_count}
pub use Rattle.thread_table.proofs.Schedule.Schedules.{lawful_after, reached}
pub use Rattle.thread_table.specs.Closings.{ClosedNow, StandsAt, is_left}
pub use Rattle.thread_table.specs.Makers.{AreMade}
pub use Rattle.thread_table.specs.Schedules.{elements_after, ring_at}
pub use Rattle.thread_table.specs.declared.layout.TheConstants.{ELEMENTS}
pub use Rattle.thread_table.specs.declared.places.Place.{Place}
