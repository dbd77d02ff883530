-- Bounds on the declared names, for version 3, which allows the most names of each kind.
use Rattle.std.specs.Prelude.{◌<◌, ◌≤◌, List}
use Rattle.std.specs.List.{AllByRecursion}
use Rattle.boot_data.specs.declared.kind.Kind.{Kind}
use Rattle.boot_script.specs.declared.declared_names.Named.{Named}
use Rattle.boot_script.specs.declared.version.Version.TheVariants.{Three}
use Rattle.boot_script.specs.BootNames.{count_of, most_of}

-- the number is below the most names of its kind that version 3 allows
abbrev pub IsInRange : Named → Type 0
IsInRange named = named.number < most_of Three named.kind

-- There are at most as many names of each kind as version 3 allows, and each number is below that limit
pub record AreCounted (names : List Named) : Type 0 where
  pub few : (kind : Kind) → count_of kind names ≤ most_of Three kind
  pub numbered : AllByRecursion IsInRange names
