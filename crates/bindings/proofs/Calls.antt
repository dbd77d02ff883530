-- What the proofs of the calls name, in one place.
pub use Rattle.std.proofs.Common.{Bool, Err, IfErr, List, MatchResult, None, Ok, Option, Result, SFits, Some, [], ap}
pub use Rattle.std.proofs.Common.{arith, drop, get_or, inl, inr, length, map, max, of_z, pos, pred, refl, rules, set}
pub use Rattle.std.proofs.Common.{slice_get, subst, suc, sym, take, to_z, true, w32, zero, ℕ, ◌*◌, ◌++◌, ◌+◌, ◌-◌, ◌/◌}
pub use Rattle.std.proofs.Common.{◌<◌, ◌^◌, ◌∙◌, ◌∷◌, ◌≡◌, ◌≢◌, ◌≤◌, ◌⊎◌}
pub use Rattle.std.proofs.Math.Logic.{∥∥₁_elim}
pub use Rattle.std.proofs.lemmas.Option.{slice_get-get_or}
pub use Rattle.bindings.specs.Handles.{Done, Answered, HoldsSome, MadeHandle, of_kind, batch_in, chain_in, hand_in}
pub use Rattle.bindings.specs.Handles.{line_in_in, line_out_in, queue_in, seat_in, HeldHand, HeldIn, HeldOut, Payload}
pub use Rattle.bindings.specs.Handles.{Batch, Chain, Hand, LineIn, LineOut, Queue, Seat}
pub use Rattle.bindings.specs.QueueTaking.{IsKeptFrom, TookEach, or_zero}
pub use Rattle.bindings.proofs.Telling.{answered, answered_code, at_value, is_none, made_as, no_answer, the, told_code}
pub use Rattle.bindings.proofs.Telling.{unboxed}
