-- The names from elsewhere that several proofs of this crate cite, passed on from one place. Declares nothing.
pub use Rattle.std.proofs.Common.{Bool, Err, List, Ok, Result, Some, [], ap, arith, eqb, false, get_or, length, map, refl, rules, set, slice_index_or, subst, suc, sym, take, true, true≢false, vec_capacity, vec_len, zero, ℕ, ◌++◌, ◌+◌, ◌<◌, ◌∙◌, ◌∷◌, ◌≡◌, ◌≤◌}
pub use Rattle.std.proofs.Math.Path.{fun_ext}
pub use Rattle.std.proofs.Math.Seq.{map-set_same}
pub use Rattle.std.proofs.lemmas.List.{append-nil, append_assoc, length-append, length-drop, length-map, length_push, map-append, with_items_is}
pub use Rattle.std.proofs.lemmas.Option.{get_or_from_slice_get, slice_get-get_or, slice_get_within}
pub use Rattle.std.specs.List.{All, slice_get}
pub use Rattle.std.specs.Vec.{with_items}
pub use Rattle.std.specs.Vec.Iter.{into_iter_items, into_iter_len}
pub use Rattle.atomic_table.specs.Seated.{TableId}
pub use Rattle.boot_data.specs.declared.plan.QueueIndex.{QueueIndex}
pub use Rattle.boot_data.specs.declared.plan.QueueIndex.TheVariants.{Large, Small}
pub use Rattle.claim_queue.proofs.Certain.{by_both, distinct_end, seen_room, still_shut, valid_end}
pub use Rattle.claim_queue.proofs.Putting.{none_raised, put_of, raised_more}
pub use Rattle.claim_queue.specs.Claims.{Owns}
pub use Rattle.claim_queue.specs.Handles.{IsSameEnd, view_of}
pub use Rattle.claim_queue.specs.Lines.{line_of}
pub use Rattle.claim_queue.specs.Orders.{TakesInOrder}
pub use Rattle.claim_queue.specs.Own.{View, did_both, nothing_did, of_queues, with_shutting}
pub use Rattle.claim_queue.specs.Puts.{IsPut, Raised, RaisedFrom}
pub use Rattle.claim_queue.specs.Takings.{IsBegun, IsLine, TookItems, scanned}
pub use Rattle.claim_queue.specs.declared.claim.ClaimRefusal.{ClaimRefusal}
pub use Rattle.claim_queue.specs.declared.ends.QueueEnd.{QueueEnd}
pub use Rattle.claim_queue.specs.declared.take.TakeRefusal.{TakeRefusal}
pub use Rattle.proc_chain.specs.Handles.{me_of, pact_of}
pub use Rattle.proc_chain.specs.Notes.{notes_taken}
pub use Rattle.proc_chain.specs.declared.chaining.ChainRefusal.{ChainRefusal}
pub use Rattle.proc_chain.specs.declared.ends.ChainEnd.{ChainEnd}
pub use Rattle.proc_chain.specs.declared.ends.ProcChain.{ProcChain}
pub use Rattle.proc_chain.specs.declared.quaject.Quaject.{Ghosts}
pub use Rattle.table_theory.specs.Interleaving.{InOrder}
pub use Rattle.table_theory.specs.Listing.{AllRaised, Distinct}
pub use Rattle.table_theory.specs.declared.queues.Batch.{Batch}
pub use Rattle.table_theory.specs.declared.views.Part.{Part}
pub use Rattle.turn_io.specs.Accounts.{AddsUp, AllStaySound, AreInOrder, AtChain, AtQueue, Stake, StaySound, at_each, at_one, both_chain, both_queue, both_stakes, chain_account, chain_shares, chain_stake, chained_if, idle_chain, idle_queue, know_shut, lines_of, no_stake, notes_of, only, put_if, queue_account, queue_shares, room_of, shares_of, shut_if, stake, taken_if, work_of}
pub use Rattle.turn_io.specs.EndLists.{AreChainEndsOf, AreChainsOver, AreEndsOf, AreSame, AreSameChainEnds, AreSameEnds, ClaimedInOrder, HasRaised, IsIdle, OnEnd, TookInOrder, chain_end_call, chain_end_share, chain_end_table, chain_table, end_call, end_knows_shut, end_share, end_table, knows_shut_at, queue_table}
pub use Rattle.turn_io.specs.Outcomes.{HasPoked, HasShut, Heard, PokedAt, Said}
pub use Rattle.turn_io.specs.QueueEnds.{AreSameQueueEnds, HeardAt, IsThere, OnQueue, SaidAt, ShutAt}
pub use Rattle.turn_io.specs.declared.poking.Poked.{Poked}
