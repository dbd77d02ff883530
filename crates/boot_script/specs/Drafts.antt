-- How the draft that a reader keeps of a boot script compares with what the lines have said.
use Rattle.std.specs.Prelude.{◌≡◌, ℕ, ◌<◌, true, length, Result, Ok, Err, slice_index_or}
use Rattle.boot_data.specs.declared.kind.Kind.TheVariants as kind
use Rattle.boot_script.specs.declared.draft.Draft.{Draft}
use Rattle.boot_script.specs.declared.fault.ScriptRefusal.{ScriptRefusal}
use Rattle.boot_script.specs.BootNames.{count_of}
use Rattle.boot_script.specs.Plans as plans
use Rattle.boot_data.specs.Plans.{Plan, steps_at}
use Rattle.boot_script.specs.Plans.{typed_at}

-- the plan that is kept
abbrev pub kept_plan : Draft → Plan
kept_plan kept = record {
  queues = kept.queues.items;
  ttys = kept.ttys.items;
  movers = kept.movers.items;
  gauges = kept.gauges.items;
  alarms = kept.alarms.items;
  threads = kept.threads.items;
}

-- The kept names and counts are equal to those of the draft `d`; so is the kept plan, if no allocation was refused
pub record Draws (kept : Draft) (d : plans.Draft) : Type 0 where
  pub names : kept.names ≡ d.names
  pub going : kept.going ≡ d.going
  pub ttys : count_of kind.Tty d.names ≡ length d.plan.ttys
  pub threads : count_of kind.Thread d.names ≡ length d.plan.threads
  pub typed : (tty : ℕ) → tty < 2 → slice_index_or kept.typed tty 0 ≡ length (typed_at d.plan.ttys tty)
  pub alarms : kept.alarm_count ≡ length d.plan.alarms
  pub steps : (thread : ℕ) → thread < 64
      → slice_index_or kept.step_counts thread 0 ≡ length (steps_at d.plan.threads thread)
  pub sizes : (length kept.typed ≡ 2) × (length kept.step_counts ≡ 64)
  pub plan : kept.kept ≡ true → kept_plan kept ≡ d.plan

-- the answer agrees with `said`: Ok, and the kept draft is the said one, or the same refusal
abbrev pub Added : Result (Unit {0}) ScriptRefusal → Draft → Result plans.Draft ScriptRefusal → Type 0
Added (Ok done) kept said = (d : plans.Draft) × (said ≡ Ok d) × Draws kept d
Added (Err refusal) kept said = said ≡ Err refusal

-- whatever draft `old` keeps, the answer and the draft that `new` keeps are those of `more` for that draft
abbrev pub AddsTo : Draft → Result (Unit {0}) ScriptRefusal → Draft
    → (plans.Draft → Result plans.Draft ScriptRefusal) → Type 0
AddsTo old answer new more = (d : plans.Draft) → Draws old d → Added answer new (more d)
