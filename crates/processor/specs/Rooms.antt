-- The room for heard lines.
use Rattle.std.specs.Prelude.{◌≡◌, ◌<◌, ◌≤◌, map}
use Rattle.std.specs.List.{AllByRecursion}
use Rattle.boot_data.specs.Hearing.{Key, Line}
use Rattle.boot_data.specs.declared.boot_plan.BootPlan.{BootPlan}
use Rattle.thread_table.specs.Own.{View}
use Rattle.thread_table.specs.Handles.{view_of}
use Rattle.thread_table.specs.Rules.{done_at}
use Rattle.processor.specs.declared.station.Parts.{Parts}
use Rattle.processor.specs.Programs.{AreHears, hear_count, longest_line}

-- the thread that heard the line, and the number of its step
abbrev pub key_of : Line → Key
key_of line = line.0

-- the step is done
abbrev pub IsPast : View → Key → Type 0
IsPast v key = key.1 < done_at v.seen.object key.0

-- The heard lines are of steps of the plan that hear and are done, with no step twice. There is room for as many lines
-- as the plan has such steps, each as long as the longest that it can hear
pub record HasRoom (plan : BootPlan) (parts : Parts) : Type 0 where
  pub room : hear_count plan ≤ parts.heard.room
  pub longest : longest_line plan ≤ parts.heard.longest
  pub hears : AreHears plan (map key_of parts.heard.lines)
  pub past : AllByRecursion (IsPast (view_of parts.hand)) (map key_of parts.heard.lines)

-- there is room for exactly as many lines as the plan has steps that hear, each as long as the longest that it can hear
pub record HasNoMoreRoom (plan : BootPlan) (parts : Parts) : Type 0 where
  pub room : parts.heard.room ≡ hear_count plan
  pub longest : parts.heard.longest ≡ longest_line plan
