-- The names from elsewhere that several proofs of this crate cite, passed on from one place. Declares nothing.
pub use Rattle.std.proofs.Common.{Bool, List, None, Ok, Option, Some, [], ap, arith, drop, eqb, false, flat_map, get_or, inl, inr, length, map, not, refl, rules, set, slice_get, subst, suc, sym, take, true, vec_capacity, vec_len, zero, ℕ, ⊎_elim, ◌%◌, ◌&&◌, ◌*◌, ◌++◌, ◌+◌, ◌-◌, ◌/◌, ◌<◌, ◌^◌, ◌∙◌, ◌∷◌, ◌≡◌, ◌≢◌, ◌≤◌, ◌⊎◌}
pub use Rattle.std.proofs.Math.Bridge.{le_prop}
pub use Rattle.std.proofs.Math.Logic.{∥∥₁_elim}
pub use Rattle.std.proofs.Math.Nat.{add-zero, min-le_right, mod-add-mod, mod-eq_of_lt}
pub use Rattle.std.proofs.lemmas.Bool.{eq-eqb, or_left, or_right, true≢false}
pub use Rattle.std.proofs.lemmas.Bool.Decides.{eqb_tells}
pub use Rattle.std.proofs.lemmas.List.{append-nil, append_assoc, get_or-map, length-append, length-map, length-set, map-append, nil_from_length, take_more}
pub use Rattle.std.proofs.lemmas.List.Concat.{flat_map-append}
pub use Rattle.std.proofs.lemmas.List.Elements.{All-cons, All-nil, filter-append}
pub use Rattle.std.proofs.lemmas.Option.{same_Some, slice_get_past, unwrap_or-slice_get}
pub use Rattle.std.proofs.lemmas.Slice.Zip.{AllZip-long}
pub use Rattle.std.specs.List.{All, AllByRecursion, AllZip, concat, range_with_len}
pub use Rattle.std.specs.Prelude.{Err, MatchBool, Result, filter, if◌then◌else◌, is_ok, ◌==◌}
pub use Rattle.std.specs.Vec.Iter.{into_iter_items, into_iter_len}
pub use Rattle.boot_data.specs.declared.boot_plan.BootPlan.{BootPlan}
pub use Rattle.boot_data.specs.declared.plan.PlannedTty.{PlannedTty}
pub use Rattle.boot_data.specs.declared.plan.QueueIndex.TheVariants.{Large, Small}
pub use Rattle.boot_objects.specs.Devices.{AreDevicesOf, IsAtWork, IsDevice, IsDeviceOf}
pub use Rattle.boot_objects.specs.Objects.{IsFirstHand, IsFirstSeat}
pub use Rattle.boot_objects.specs.declared.device.Device.{Device}
pub use Rattle.claim_queue.specs.Lines.{PutLine, SameLines, line_of, lines_put}
pub use Rattle.claim_queue.specs.Own.{nothing_did}
pub use Rattle.event_theory.proofs.Lists.Placed.{all_append, there}
pub use Rattle.event_theory.specs.declared.event.Event.{Event}
pub use Rattle.meters.specs.Handles.{IsOnlySeat, IsSameSeat}
pub use Rattle.proc_chain.specs.Handles.{IsEndOf, IsSameEnd, me_of, pact_of, turn_of}
pub use Rattle.proc_chain.specs.declared.ends.ProcChain.{ProcChain}
pub use Rattle.processor.specs.Accounts.{Shares, account, nothing, shares, unheard, ◌⊕◌}
pub use Rattle.processor.specs.Points.{Calls, calls}
pub use Rattle.processor.specs.Preparing.{HasDoneAll, IsPrepared, preparing}
pub use Rattle.processor.specs.Stations.{ArePartsOf, AreSameParts, IsUnused}
pub use Rattle.processor.specs.declared.shared.Shared.{Shared}
pub use Rattle.processor.specs.declared.station.Parts.{Parts}
pub use Rattle.quajects.proofs.Worlds.{zip_more}
pub use Rattle.quajects.specs.Ports.{IsEndAt}
pub use Rattle.quajects.specs.Raws.{PutByte, end_of, overruns_of}
pub use Rattle.quajects.specs.declared.any.AnyQuaject.{AnyQuaject}
pub use Rattle.quajects.specs.declared.raw.RawTty.{RawTty}
pub use Rattle.quajects.specs.declared.world.Queues.{Queues}
pub use Rattle.spsc_line.specs.Lines.{IsLine, ReceivesNothing, SameIn, SameOut, bytes_left, bytes_received, bytes_sent}
pub use Rattle.spsc_line.specs.declared.line_in.LineIn.{LineIn}
pub use Rattle.spsc_line.specs.declared.line_out.LineOut.{LineOut}
pub use Rattle.stations.specs.Partings.{AllJoined, AreDivisible, AreSplit}
pub use Rattle.stations.specs.Shares.{both_shares, each_share, no_shares}
pub use Rattle.stations.specs.Splits.{AllThree}
pub use Rattle.thread_table.proofs.Lists.Copies.{get_or-copies}
pub use Rattle.thread_table.specs.Answers.{MoveAnswer, TakeAnswer, head_in, is_in, raise_event}
pub use Rattle.thread_table.specs.Entries.{HoldsLess, PerformsEvents, Step, claim_event, take_event}
pub use Rattle.thread_table.specs.Handles.{IsHandOf, IsOnlyHand, IsSameHand, call_of, view_of}
pub use Rattle.thread_table.specs.Own.{View}
pub use Rattle.thread_table.specs.Rules.{has, nothing_on, running, serves}
pub use Rattle.thread_table.specs.declared.hand.ThreadTable.{ThreadTable}
pub use Rattle.thread_table.specs.declared.rule.MadeEvent.{MadeEvent}
pub use Rattle.turn_dispatch.specs.Holdings.{HoldsSame, IsFree}
pub use Rattle.turn_io.specs.Accounts.{Stake, chain_stake, idle_chain, no_stake, stake}
pub use Rattle.boot_threads.specs.Backs.{AllTurned, CameTogether, IsDeviceBack, all_done, back_of, device_of, parts_of}
pub use Rattle.boot_threads.specs.Crews.{Carries, GaveBack, Refusals, Runs, StartReports, WasJoined, WasRun}
pub use Rattle.boot_threads.specs.Devices.{NotedTimes, PutEach, Served, Try, bytes_of, lines_of, refused, zeros}
pub use Rattle.boot_threads.specs.Elements.{HoldsFrom, Moved, Prepared, PutInto, TookFree, claims, free_taken, many_held, move_by, moves_in, own_takings, placing, ring_of}
pub use Rattle.boot_threads.specs.Readiness.{AreServing, HasPrepared, IsServing, input_of}
pub use Rattle.boot_threads.specs.Stationings.{ArePosted, CanSplit, IsAmple, IsPosted, NoneOn}
pub use Rattle.boot_threads.specs.Typings.{AreTyped, IsTyped}
pub use Rattle.boot_threads.specs.Works.{Back, HasRun, HasServed, HasWorked, IsServable, MayWork, RefusalsOf, RunsOf}
pub use Rattle.boot_threads.specs.declared.starting.NotStarted.{NotStarted}
pub use Rattle.boot_threads.specs.declared.work.Work.{Work}
pub use Rattle.boot_threads.specs.declared.work.Worked.{Worked}
