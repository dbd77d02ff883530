-- The names from elsewhere that several proofs of this crate cite, passed on from one place. Declares nothing.
pub use Rattle.std.proofs.Common.{Bool, Err, IfErr, IfOk, IsOk, List, None, Ok, Option, Result, Some, [], ap, append-nil, append_assoc, arith, drop, eq-eqb, false, flat_map, inl, inr, length, length-append, map, ne_eqb, refl, rules, slice_get, subst, suc, sym, take, true, vec_capacity, vec_len, zero, ℕ, ◌%◌, ◌++◌, ◌+◌, ◌<◌, ◌==◌, ◌∙◌, ◌∷◌, ◌≡◌, ◌≢◌, ◌≤◌}
pub use Rattle.std.proofs.lemmas.List.{length-map, map-append, nil_from_length}
pub use Rattle.std.specs.List.{All, AllByRecursion, AllZip}
pub use Rattle.std.specs.Vec.Iter.{into_iter_items, into_iter_len}
pub use Rattle.boot_data.specs.Hearing.{Key, Line}
pub use Rattle.boot_data.specs.declared.boot_plan.BootPlan.{BootPlan}
pub use Rattle.boot_data.specs.declared.plan.PlannedTty.{PlannedTty}
pub use Rattle.boot_data.specs.declared.report.Report.{Report}
pub use Rattle.boot_objects.proofs.Drawing.{Drawn, drawn_more}
pub use Rattle.boot_objects.specs.Endings.{AllClosed}
pub use Rattle.boot_objects.specs.RawEnds.{AreRawsOf, TookRaws, raw_ports}
pub use Rattle.boot_objects.specs.Wholes.{HasWholes, HaveBack, tty_shares}
pub use Rattle.boot_objects.specs.declared.closing.all.TornDown.{TornDown}
pub use Rattle.boot_objects.specs.declared.device.Device.{Device}
pub use Rattle.boot_report.specs.Reported.{IsReported, lines_of}
pub use Rattle.boot_report.specs.declared.ttys.Typed.{Typed}
pub use Rattle.boot_script.specs.StreamFaults.{LetGo}
pub use Rattle.boot_threads.proofs.Allowing.{all_may, as_many_posts, as_many_works}
pub use Rattle.boot_threads.proofs.Firstness.{all_back, all_free, can_split_eight}
pub use Rattle.boot_threads.proofs.Preparedness.{first_prepared, freed_spare}
pub use Rattle.boot_threads.proofs.Returning.{device_back, posts_first, short}
pub use Rattle.boot_threads.specs.Backs.{AllTurned, CameTogether, IsDeviceBack, back_of, device_of, gate_of, parts_of}
pub use Rattle.boot_threads.specs.Crews.{GaveBack}
pub use Rattle.boot_threads.specs.Readiness.{AreServing, IsServing, input_of}
pub use Rattle.boot_threads.specs.Stationings.{ArePosted}
pub use Rattle.boot_threads.specs.Typings.{AreTyped}
pub use Rattle.boot_threads.specs.Works.{Back, HasWorked, RefusalsOf, RunsOf}
pub use Rattle.boot_threads.specs.declared.work.Processed.{Processed}
pub use Rattle.boot_threads.specs.declared.work.Work.{Work}
pub use Rattle.boot_threads.specs.declared.work.Worked.{Worked}
pub use Rattle.processor.specs.Accounts.{Account, account, shown_in}
pub use Rattle.processor.specs.Entries.{LogEntry, Tended}
pub use Rattle.processor.specs.Logs.{Leaves}
pub use Rattle.processor.specs.Points.{Calls, HookedTurns, calls}
pub use Rattle.processor.specs.Programs.{hear_count}
pub use Rattle.processor.specs.Stations.{ArePartsOf}
pub use Rattle.processor.specs.Turns.{TendedBy, heard_lines}
pub use Rattle.processor.specs.declared.shared.Shared.{Shared}
pub use Rattle.processor.specs.declared.station.Parts.{Parts}
pub use Rattle.quajects.specs.Raws.{end_of}
pub use Rattle.quajects.specs.declared.raw.RawTty.{RawTty}
pub use Rattle.spsc_line.specs.Lines.{IsLine, bytes_received}
pub use Rattle.spsc_line.specs.declared.line_in.LineIn.{LineIn}
pub use Rattle.stations.specs.Partings.{AllJoined, AreJoined}
pub use Rattle.stations.specs.Splits.{AllThree}
pub use Rattle.synth_kernel.specs.Boots.{AreLogs, BootWithHooks, CameBackPlain, DidAll, HookSaw, HooksSaw, IsBoot, IsBootOf, IsLogOf, IsRun, LogsHaveTurns, SawNothing, Says, ended_in}
pub use Rattle.synth_kernel.specs.Gatherings.{TotalsAre, all_there, processed_in, served_in, tty_of}
pub use Rattle.synth_kernel.specs.Readies.{HasPlaces, IsReady}
pub use Rattle.synth_kernel.specs.Stops.{HasStopped}
pub use Rattle.synth_kernel.specs.declared.gathering.Served.{Served}
pub use Rattle.synth_kernel.specs.declared.outcome.Ended.{Ended}
pub use Rattle.synth_kernel.specs.declared.ready.Ready.{Ready}
