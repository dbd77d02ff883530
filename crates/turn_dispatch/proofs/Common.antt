-- The names from elsewhere that several proofs of this crate cite, passed on from one place. Declares nothing.
pub use Rattle.std.proofs.Common.{Bool, Err, List, None, Ok, Option, Result, Some, [], ap, arith, cond, eqb, false, get_or, inl, inr, length, max, refl, rules, set, subst, suc, sym, take, true, zero, ℕ, ⊎_elim, ◌%◌, ◌*◌, ◌++◌, ◌+◌, ◌<◌, ◌^◌, ◌||◌, ◌∙◌, ◌∷◌, ◌≡◌, ◌≢◌, ◌≤◌, ◌⊎◌}
pub use Rattle.std.proofs.Math.Bool.{and-false, or-true}
pub use Rattle.std.proofs.Math.Logic.{∥∥₁_elim}
pub use Rattle.std.proofs.Math.Nat.{ℕ_set}
pub use Rattle.std.proofs.lemmas.Bool.Decides.{eqb_tells, nat_tests}
pub use Rattle.std.proofs.lemmas.Grind.{flat_map-append}
pub use Rattle.std.proofs.lemmas.List.{append-nil, append_assoc, get_or-set_other, get_or-set_same}
pub use Rattle.std.proofs.lemmas.List.Sums.{sum_by-append, sum_by-cons}
pub use Rattle.std.specs.Int.Bits.{bit_or}
pub use Rattle.std.specs.Prelude.{MatchResult, count_by, filter, flat_map, if◌then◌else◌, not, ◌&&◌, ◌==◌}
pub use Rattle.event_theory.specs.Accounts.{is_done}
pub use Rattle.event_theory.specs.declared.event.Event.{Event}
pub use Rattle.thread_table.proofs.Schedule.Once.{counted_done}
pub use Rattle.thread_table.proofs.Schedule.Schedules.{elements_of}
pub use Rattle.thread_table.specs.Answers.{DeliverAnswer, DoneAnswer, IsTicket, MoveAnswer, MovedBy, ParkAnswer, PutsOn, ReadPc, SignalAnswer, SignalledNow, StartAnswer, StartedNow, StoppedNow, TakeAnswer, TakesOff, WaitAnswer, head_in, is_in, raise_event, signals_in, with_delivery, with_move, with_step}
pub use Rattle.thread_table.specs.Entries.{HoldsLess, HoldsMore, IsCalm, PerformsEvents, Step, claim_event, steps_by, steps_in, take_event, with_event}
pub use Rattle.thread_table.specs.Handles.{IsSameHand, call_of, view_of}
pub use Rattle.thread_table.specs.Makers.{made_in}
pub use Rattle.thread_table.specs.Own.{View}
pub use Rattle.thread_table.specs.Retiring.{taking_by}
pub use Rattle.thread_table.specs.Rules.{MayStep, done_at, has, running, serves}
pub use Rattle.thread_table.specs.Schedules.{IsAllowed, Past, state_after, thread_at}
pub use Rattle.thread_table.specs.Telling.{IsValidHandView}
pub use Rattle.thread_table.specs.Views.{count_of, having_found, quiet, with_held, with_start}
pub use Rattle.thread_table.specs.declared.rule.MadeEvent.{MadeEvent}
pub use Rattle.thread_table.specs.declared.states.Lost.{Lost}
pub use Rattle.thread_table.specs.declared.states.Signalled.{Signalled}
pub use Rattle.turn_dispatch.specs.Dispatches.{Awake, Began, IdleHolds, WasIdle, mask_of}
pub use Rattle.turn_dispatch.specs.Holdings.{HoldsSame, IsFree, IsOn, KeepsBut, OnlyAdds, Shows, Steady}
pub use Rattle.turn_dispatch.specs.Sendings.{HoldsUnless, LastTry, LastWait, LostTries, LostWaits, Sent, WaitedAt, has_gone, retired, ring_of}
pub use Rattle.turn_dispatch.specs.Tallies.{AddsToTally, Tally, delivery, delivery_by, followed_by, is_delivered, no_events, one_delivery, one_retired, one_signal, one_step, retiring_by, signal_by, signals_for, step_by, tally}
pub use Rattle.turn_dispatch.specs.Tendings.{DidTend, RaisedAll}
pub use Rattle.turn_dispatch.specs.Wakings.{AllReady, CanWake, HoldsWoken, IsMember, OneReady, ResumeAnswer, ResumeHolds, Woke}
pub use Rattle.turn_dispatch.specs.declared.dispatch.Begun.{Begun}
pub use Rattle.turn_dispatch.specs.declared.waking.Woken.{Woken}
