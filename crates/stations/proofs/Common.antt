-- The names from elsewhere that several proofs of this crate cite, passed on from one place. Declares nothing.
pub use Rattle.std.proofs.Common.{Bool, List, [], ap, append-nil, append_assoc, arith, eqb, false, get_or, inl, inr, length, map, refl, rules, set, slice_index_or, subst, suc, sym, take, true, vec_capacity, vec_len, zero, ℕ, ◌++◌, ◌+◌, ◌<◌, ◌||◌, ◌∙◌, ◌∷◌, ◌≡◌, ◌≢◌, ◌≤◌, ◌⊎◌}
pub use Rattle.std.proofs.Math.Path.{fun_ext}
pub use Rattle.std.proofs.lemmas.List.{get_or-set_other, get_or-set_same, length-append, length-set, length_push, map-append, nil_from_length, take_all, take_more, take_more_set, with_items_is}
pub use Rattle.std.specs.List.{All}
pub use Rattle.std.specs.Vec.Iter.{into_iter_items, into_iter_len}
pub use Rattle.claim_queue.specs.Own.{View, did_both, nothing_did}
pub use Rattle.claim_queue.specs.declared.ends.QueueEnd.{QueueEnd}
pub use Rattle.proc_chain.specs.Handles.{IsEndOf, me_of, turn_of, view_of}
pub use Rattle.proc_chain.specs.declared.ends.ChainEnd.{ChainEnd}
pub use Rattle.proc_chain.specs.declared.quaject.Quaject.{Ghosts}
pub use Rattle.table_theory.specs.Sharing.{given, kept}
pub use Rattle.thread_table.specs.Answers.{is_in}
pub use Rattle.turn_io.proofs.Adding.{by_sizes, lines_add, numbers_add}
pub use Rattle.turn_io.proofs.Chains.{ends_fit, ends_same, in_ends, is_idle, its_end}
pub use Rattle.turn_io.proofs.Places.{as_long, same_at, same_on}
pub use Rattle.turn_io.specs.Accounts.{AddsUp, Stake, at_each, both_chain, both_queue, both_stakes, chain_stake, chain_stakes, idle_chain, idle_queue, lines_of, no_stake, notes_of, queue_account, shares_of, stake, stakes, work_of}
pub use Rattle.turn_io.specs.EndLists.{AreChainEndsOf, AreSameChainEnds, AreSameEnds, HasRaised, IsChainDivisible, IsDivisible, IsIdle, chain_end_call, chain_end_table, chain_table, end_call, end_knows_shut, end_table, queue_table}
pub use Rattle.stations.specs.Partings.{HaveBoth}
pub use Rattle.stations.specs.Shares.{both_shares, each_share, give, keep, no_shares}
pub use Rattle.stations.specs.Splits.{AllThree, AreChainsJoined, AreJoined, AreQueuesJoined, AreQueuesSplit, AreSplit, IsChainJoined, IsChainSplit, IsJoined, IsSplit}
