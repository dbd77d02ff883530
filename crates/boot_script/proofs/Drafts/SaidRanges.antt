-- What a line in its ranges names is there.
use Rattle.boot_script.proofs.Common.{inl, inr, ℕ, List, [], ◌∷◌, true, false, Bool, AllByRecursion, Line, Kind, Named, Mover, Pump, Switch, QueueIndex, Small, Large, Step, Way, Version, count_of, FitsQueue, FitWays, FitsMover, FitsStep, FitsLine, IsQueueOf, IsSaidTo, IsStepOf, IsWayOf, AreApart, IsMoverOf, IsAlarmOf}
use Rattle.boot_script.specs.declared.boot_lines.Line.TheVariants as line
use Rattle.boot_data.specs.declared.kind.Kind.TheVariants as kind
use Rattle.boot_data.specs.declared.plan.Step.TheVariants as step
use Rattle.boot_script.proofs.Drafts.PlanGrowth.{Grows, below_more, step_more, mover_more}

-- what a line names is there
abbrev pub IsLineOf : (Kind → ℕ) → Line → Type 0
IsLineOf many (line.Queue queue) = Unit {0}
IsLineOf many (line.Tty name) = Unit {0}
IsLineOf many (line.Types tty text) = Unit {0}
IsLineOf many (line.Mover planned) = IsMoverOf many planned.mover
IsLineOf many (line.Gauge name) = Unit {0}
IsLineOf many (line.Alarm alarm) = IsAlarmOf many alarm
IsLineOf many (line.Thread name) = Unit {0}
IsLineOf many (line.More thread) = Unit {0}
IsLineOf many (line.Step step) = IsStepOf many step

-- how many of each kind were declared
abbrev declared : List Named → Kind → ℕ
declared names kind = count_of kind names

queue_there : (heard : Bool) (names : List Named) (queue : QueueIndex) → FitsQueue heard names queue → IsQueueOf (declared names) queue
queue_there heard names (Small queue) h = h
queue_there heard names (Large queue) h = h.0

-- a line queue is only heard
said_there : (names : List Named) (queue : QueueIndex) → FitsQueue false names queue → IsSaidTo (declared names) queue
said_there names (Small queue) h = h
said_there names (Large queue) h = elim h.1 [ inl p ↦ absurd cc | inr p ↦ (h.0, p) ]

ways_there : (names : List Named) (keys : List ℕ) (ways : List Way) → FitWays names keys ways → AllByRecursion (IsWayOf (declared names)) ways
ways_there names keys [] h = tt
ways_there names keys (way ∷ ways) h = (h.3, ways_there names (way.key ∷ keys) ways h.4)

ways_apart : (names : List Named) (keys : List ℕ) (ways : List Way) → FitWays names keys ways → AreApart keys ways
ways_apart names keys [] h = tt
ways_apart names keys (way ∷ ways) h = (h.2, ways_apart names (way.key ∷ keys) ways h.4)

mover_there : (names : List Named) (mover : Mover) → FitsMover names mover → IsMoverOf (declared names) mover
mover_there names (Pump from to) h = h
mover_there names (Switch from other ways) h = (h.0, h.1, ways_there names [] ways h.2, h.3, ways_apart names [] ways h.2)

step_there : (version : Version) (names : List Named) (one : Step) → FitsStep version names one → IsStepOf (declared names) one
step_there version names (step.Say queue text) h = said_there names queue h.0
step_there version names (step.Hear queue) h = queue_there true names queue h
step_there version names (step.Wait wait) h = tt
step_there version names (step.Wake wait) h = tt
step_there version names (step.Signal thread signal) h = h.0
step_there version names (step.Stop thread) h = h
step_there version names (step.Start thread) h = h
step_there version names (step.Tick gauge amount) h = h.0
step_there version names (step.Poke mover) h = h
step_there version names step.Pass h = tt
step_there version names (step.Close queue) h = h.1

-- what a line names is there, where there are as many of each kind as were declared
pub line_there : (version : Version) (names : List Named) (going : Bool) (said : Line) (many : Kind → ℕ) → Grows (declared names) many → FitsLine version names going said → IsLineOf many said
line_there version names going (line.Queue queue) many grows h = tt
line_there version names going (line.Tty name) many grows h = tt
line_there version names going (line.Types tty text) many grows h = tt
line_there version names going (line.Mover planned) many grows h = mover_more (declared names) many grows planned.mover (mover_there names planned.mover h.1)
line_there version names going (line.Gauge name) many grows h = tt
line_there version names going (line.Alarm alarm) many grows h = below_more (declared names) many kind.Thread alarm.element grows h.1
line_there version names going (line.Thread name) many grows h = tt
line_there version names going (line.More thread) many grows h = tt
line_there version names going (line.Step one) many grows h = step_more (declared names) many grows one (step_there version names one h.1)
