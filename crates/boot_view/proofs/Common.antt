-- The names from elsewhere that several proofs of this crate cite, passed on from one place. Declares nothing.
pub use Rattle.std.proofs.Common.{IfSome, IsOk, List, None, Ok, Option, Some, [], ap, inl, inr, length, refl, subst, suc, sym, take, vec_capacity, vec_len, ℕ, ◌+◌, ◌<◌, ◌^◌, ◌∙◌, ◌∷◌, ◌≡◌, ◌≤◌}
pub use Rattle.std.specs.List.{All, AllZip}
pub use Rattle.boot_log.specs.Kept.{Kept, kept_in}
pub use Rattle.boot_log.specs.Recorders.{IsNewRecorder}
pub use Rattle.boot_log.specs.declared.recorder.Recorder.{Recorder}
pub use Rattle.boot_script.specs.Plans.{text_plan}
pub use Rattle.processor.specs.Entries.{LogEntry}
pub use Rattle.processor.specs.Points.{Calls, HookedTurns}
pub use Rattle.processor.specs.declared.shared.Shared.{Shared}
pub use Rattle.synth_kernel.specs.Boots.{HookSaw, HooksSaw, IsBootFault, RunsOf, Says}
pub use Rattle.boot_view.specs.Views.{HasBooted, HasFrontOf, IsPageOf, IsViewed, logs_in, room_for}
