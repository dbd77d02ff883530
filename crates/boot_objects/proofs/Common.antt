-- The names from elsewhere that several proofs of this crate cite, passed on from one place. Declares nothing.
pub use Rattle.std.proofs.Common.{Bool, List, None, Option, Some, [], ap, append-nil, append_assoc, arith, drop, false, get_or, length, length-append, map, refl, rules, set, subst, suc, sym, true, vec_capacity, vec_len, zero, ℕ, ⊎_elim, ◌*◌, ◌++◌, ◌+◌, ◌-◌, ◌/◌, ◌<◌, ◌∙◌, ◌∷◌, ◌≡◌, ◌≢◌, ◌≤◌}
pub use Rattle.std.proofs.Math.Logic.{∥∥₁_elim, ∥∥₁_map}
pub use Rattle.std.proofs.Math.Nat.{add-zero, min-le_right, ℕ_set}
pub use Rattle.std.proofs.Math.Path.{fun_ext}
pub use Rattle.std.proofs.lemmas.List.{drop-map, flat_map_more, get_or-set_other, get_or-set_same, length-drop, length-map, length-set, length_push, map-append, map-set, nil_from_length, with_items_is}
pub use Rattle.std.proofs.lemmas.List.Concat.{flat_map-cons}
pub use Rattle.std.proofs.lemmas.List.Elements.{All-cons, All-head, All-nil, All-push, All-tail}
pub use Rattle.std.proofs.lemmas.Option.{slice_get-get_or, slice_get_past}
pub use Rattle.std.proofs.lemmas.Slice.Zip.{AllZip-long}
pub use Rattle.std.specs.Array.Iter.{array_into_iter_items}
pub use Rattle.std.specs.Global.{Vec}
pub use Rattle.std.specs.List.{All, AllByRecursion, AllZip, flat_map, repeat, slice_get}
pub use Rattle.std.specs.Prelude.{if◌then◌else◌, ◌==◌}
pub use Rattle.std.specs.Vec.Iter.{into_iter_items, into_iter_len}
pub use Rattle.boot_data.specs.declared.plan.Mover.{Mover}
pub use Rattle.boot_data.specs.declared.plan.PlannedMover.{PlannedMover}
pub use Rattle.boot_data.specs.declared.plan.PlannedQueue.{PlannedQueue}
pub use Rattle.boot_data.specs.declared.plan.QueueIndex.{QueueIndex}
pub use Rattle.boot_data.specs.declared.plan.QueueIndex.TheVariants.{Large, Small}
pub use Rattle.claim_queue.specs.Handles.{IsEndOf, IsOnlyEnd, first_of, view_of}
pub use Rattle.claim_queue.specs.Lines.{line_of, lines_put, lines_taken}
pub use Rattle.claim_queue.specs.Own.{View, did_both, nothing_did}
pub use Rattle.claim_queue.specs.Plain.{ClaimQueue}
pub use Rattle.claim_queue.specs.declared.ends.QueueEnd.{QueueEnd}
pub use Rattle.claim_queue.specs.declared.rule.QueueOps.{QueueOps}
pub use Rattle.meters.specs.Handles.{IsOnlySeat}
pub use Rattle.meters.specs.declared.ends.MeterSeat.{MeterSeat}
pub use Rattle.meters.specs.declared.ends.Meters.{Meters}
pub use Rattle.proc_chain.specs.Handles.{opening_of}
pub use Rattle.proc_chain.specs.declared.ends.ChainEnd.{ChainEnd}
pub use Rattle.proc_chain.specs.declared.ends.ProcChain.{ProcChain}
pub use Rattle.proc_chain.specs.declared.quaject.Quaject.{Ghosts}
pub use Rattle.processor.specs.Accounts.{Shares, account, nothing, shares, shown_in}
pub use Rattle.processor.specs.Stations.{ArePartsOf, IsUnused}
pub use Rattle.processor.specs.declared.shared.Shared.{Shared}
pub use Rattle.processor.specs.declared.station.Parts.{Parts}
pub use Rattle.quajects.proofs.Worlds.{if_ok, zip_more}
pub use Rattle.quajects.specs.Anys.{HasShutNothing, PostsOf}
pub use Rattle.quajects.specs.Homes.{HasHome, home_in, homes_in}
pub use Rattle.quajects.specs.Ports.{AllFit, AllUp, IsEndAt, NoneShut, Post, port, post_at}
pub use Rattle.quajects.specs.Raws.{end_of}
pub use Rattle.quajects.specs.Routes.{IsGivenFit, IsGivenUnused, puts_of}
pub use Rattle.quajects.specs.declared.any.AnyQuaject.{AnyQuaject}
pub use Rattle.quajects.specs.declared.home.Home.{Home}
pub use Rattle.quajects.specs.declared.ports.Port.{Port}
pub use Rattle.quajects.specs.declared.raw.RawTty.{RawTty}
pub use Rattle.quajects.specs.declared.world.Queues.{Queues}
pub use Rattle.stations.proofs.ChainParting.{rests, still_idle, took_in}
pub use Rattle.stations.proofs.Summing.{shares_add, shares_swap}
pub use Rattle.stations.proofs.Walking.{all_third, three_push}
pub use Rattle.stations.specs.Shares.{both_shares, no_shares}
pub use Rattle.stations.specs.Splits.{AllThree, IsChainJoined, IsJoined}
pub use Rattle.table_theory.specs.Positioned.{Grows, item_of}
pub use Rattle.table_theory.specs.Sharing.{IsWhole, given, kept, the_whole}
pub use Rattle.thread_table.proofs.Lists.Copies.{get_or-copies}
pub use Rattle.thread_table.specs.Handles.{IsOnlyHand}
pub use Rattle.thread_table.specs.declared.hand.Hand.{Hand}
pub use Rattle.thread_table.specs.declared.hand.ThreadTable.{ThreadTable}
pub use Rattle.turn_io.proofs.Adding.{by_sizes, dids_add, each_adds, queues_add, stakes_add}
pub use Rattle.turn_io.proofs.Places.{as_long, grown_at, known_still, on_end}
pub use Rattle.turn_io.proofs.Places.{same_on}
pub use Rattle.turn_io.proofs.Using.{ends_fit, ends_same, in_ends, its_end, used_at}
pub use Rattle.turn_io.specs.Accounts.{AddsUp, AtChain, AtQueue, Stake, at_each, at_one, both_queue, both_stakes, by_index, chain_account, chain_stake, chain_stakes, idle_chain, idle_queue, lines_of, no_stake, queue_account, stake, stakes}
pub use Rattle.turn_io.specs.EndLists.{AreChainEndsOf, AreChainsOver, AreEndsOf, AreSameEnds, HasRaised, IsIdle, OnEnd, chain_end_puts, chain_end_share, chain_end_table, chain_end_takes, chain_share_at, chain_table, end_call, end_knows_shut, end_share, end_shuts, end_table, knows_shut_at, queue_table, share_at}
pub use Rattle.boot_objects.specs.ClosedQueues.{IsClosed}
pub use Rattle.boot_objects.specs.Comings.{FitsHome, ShutNothing, large_ports, small_ports}
pub use Rattle.boot_objects.specs.Devices.{AreDevicesOf, IsDevice, IsDeviceOf, MadeDevices}
pub use Rattle.boot_objects.specs.Gains.{ChainsGained, Gained, QueuesGained, note_stake, note_stakes, port_stake, port_stakes}
pub use Rattle.boot_objects.specs.Makings.{IsGivenOpen, IsThere, MadeChains, MadeQuajects, given_share, givens_share}
pub use Rattle.boot_objects.specs.Objects.{AreQuajectsOf, HaveAll, IsFirstHand, IsFirstSeat}
pub use Rattle.boot_objects.specs.Planned.{IsMover, IsPlanned, IsPlannedAt, IsReady, IsTty}
pub use Rattle.boot_objects.specs.RawEnds.{TookRaws, raw_notes, raw_ports}
pub use Rattle.boot_objects.specs.Retirals.{HasRetired, HaveRetired, IsFew}
pub use Rattle.boot_objects.specs.Shares.{AreAllEnds, AreWhole, all_shares, device_shares, end_shares, opening_shares, post_shares, posts_share, quaject_shares, quajects_of}
pub use Rattle.boot_objects.specs.Stocks.{CanGive, Gave, IsChainStock, IsIdleChainEnd, IsIdleEnd, IsStock}
pub use Rattle.boot_objects.specs.Wholes.{HasWholes, HaveBack, tty_shares}
pub use Rattle.boot_objects.specs.declared.device.Device.{Device}
