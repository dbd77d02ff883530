-- The names from elsewhere that several proofs of this crate cite, passed on from one place. Declares nothing.
pub use Rattle.std.proofs.Common.{Bool, List, [], ap, append_assoc, arith, cond, drop, eq-eqb, false, get_or, if◌then◌else◌, inl, inr, length, length-append, map, not, refl, rules, slice_index_or, slice_set, subst, suc, sym, take, true, zero, ℕ, ⊎_elim, ◌%◌, ◌&&◌, ◌*◌, ◌++◌, ◌+◌, ◌-◌, ◌/◌, ◌<◌, ◌==◌, ◌^◌, ◌||◌, ◌∙◌, ◌∷◌, ◌≡◌, ◌≢◌, ◌≤◌, ◌⊎◌}
pub use Rattle.std.proofs.lemmas.Bool.{eqb-true, false≢true, lt-ltb, ltb-true, ne_eqb}
pub use Rattle.std.proofs.lemmas.List.{append-nil, drop-map, length-drop, length-map, length-take-le, map-append, take_more}
pub use Rattle.std.proofs.lemmas.List.Concat.{flat_map-append}
pub use Rattle.std.specs.List.{All, AllByRecursion, AllZip, concat, filter, flat_map, list_any, slice_get}
pub use Rattle.std.specs.Prelude.{Err, IfErr, IfOk, MatchBool, MatchResult, None, Ok, Option, Result, Some, is_ok, slice_index}
pub use Rattle.claim_queue.specs.Handles.{IsEndOf, IsSameEnd, view_of}
pub use Rattle.claim_queue.specs.Lines.{IsSettled, PutLine, SameLines, TookLine, line_of, lines_put, lines_taken}
pub use Rattle.claim_queue.specs.Own.{View}
pub use Rattle.claim_queue.specs.Plain.{ClaimQueue}
pub use Rattle.claim_queue.specs.Puts.{IsPut, PutAnswer}
pub use Rattle.claim_queue.specs.Takings.{IsBegun, IsLine, RefusedTake, TookItems}
pub use Rattle.claim_queue.specs.declared.claim.ClaimRefusal.{ClaimRefusal}
pub use Rattle.claim_queue.specs.declared.ends.QueueEnd.{QueueEnd}
pub use Rattle.claim_queue.specs.declared.rule.QueueOps.{QueueOps}
pub use Rattle.claim_queue.specs.declared.take.TakeRefusal.{TakeRefusal}
pub use Rattle.proc_chain.specs.Links.{IsLink, IsLost, Link, LostTry, Service, linked, notes_in, served, tried, with_service}
pub use Rattle.proc_chain.specs.Rules.{IsValidChainView, makes, suits}
pub use Rattle.proc_chain.specs.Shown.{notes_of}
pub use Rattle.table_theory.specs.Ledgers.{Performed, Step, WereOpen, load}
pub use Rattle.table_theory.specs.Listing.{AllRaised}
pub use Rattle.table_theory.specs.Positioned.{item_of}
pub use Rattle.table_theory.specs.declared.queues.Batch.{Batch}
pub use Rattle.table_theory.specs.declared.views.Part.{Part}
pub use native.Mathlib.Decide.{dec_le}
pub use Rattle.quajects.specs.Anys.{Fits, MadeOf}
pub use Rattle.quajects.specs.Cooked.{after_kills, cooked, erases, is_byte, is_erase, is_kill, is_other, kept, others, outweighs, outweighs_to, typed}
pub use Rattle.quajects.specs.Homes.{CameHome, IsHome}
pub use Rattle.quajects.specs.Lines.{counted, held_line}
pub use Rattle.quajects.specs.Ports.{AllFit, AllUp, IsEndAt, Post, post_at, post_of}
pub use Rattle.quajects.specs.Routes.{Given, IsGiven, IsGivenFit, KeysDiffer, Routed, RoutesEach, RoutesRest, TookNothing, TriedWay, WaysFit, begins, begins_none, end_of, given_end, given_index, given_key, index_of, key_of, port_of, puts_of, way_post}
pub use Rattle.quajects.specs.Settled.{HasAll, HasRaised, SettledNow, StillOpen, runs_of, share_of, shuts_of, takings_of, views_of}
pub use Rattle.quajects.specs.Tries.{TriedPut, TriedTake}
pub use Rattle.quajects.specs.Worlds.{AreFresh, AreFront, IsFresh}
pub use Rattle.quajects.specs.declared.any.AnyQuaject.{AnyQuaject}
pub use Rattle.quajects.specs.declared.ways.Way.{Way}
