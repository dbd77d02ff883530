-- The commands of a list of events.
use Rattle.std.specs.Prelude.{ℕ, Bool, true, List, [], ◌∷◌, Result, Ok, Err, if◌then◌else◌, codes}
use Rattle.std.specs.Str.{bytes_eq}
use Rattle.boot_script.specs.declared.commands.Command.{Command}
use Rattle.boot_script.specs.declared.commands.Command.TheVariants.{Queue, Chain, Claim, Raise, Take, On, Off, Stop}
use Rattle.boot_script.specs.declared.commands.Command.TheVariants.{Park, Start, Signal, Deliver, Done, Notify, Round}
use Rattle.boot_script.specs.declared.commands.Command.TheVariants.{Leave, Tick, Advance, Set, Fire, Cancel, Join}
use Rattle.boot_script.specs.declared.commands.Command.TheVariants.{Shut, WaitAt}
use Rattle.boot_script.specs.declared.fault.ScriptRefusal.{ScriptRefusal}
use Rattle.boot_script.specs.declared.fault.ScriptRefusal.TheVariants.{UnknownWord}
use Rattle.boot_script.specs.declared.version.Version.{Version}
use Rattle.boot_script.specs.Words.{◌>>=◌}
use Rattle.boot_script.specs.Versions.{is_later}

-- the word of a command
abbrev pub command_word : Command → List ℕ
command_word Queue = codes "queue"
command_word Chain = codes "chain"
command_word Claim = codes "claim"
command_word Raise = codes "raise"
command_word Take = codes "take"
command_word On = codes "on"
command_word Off = codes "off"
command_word Stop = codes "stop"
command_word Park = codes "park"
command_word Start = codes "start"
command_word Signal = codes "signal"
command_word Deliver = codes "deliver"
command_word Done = codes "done"
command_word Notify = codes "notify"
command_word Round = codes "round"
command_word Leave = codes "leave"
command_word Tick = codes "tick"
command_word Advance = codes "advance"
command_word Set = codes "set"
command_word Fire = codes "fire"
command_word Cancel = codes "cancel"
command_word Join = codes "join"
command_word Shut = codes "shut"
command_word WaitAt = codes "waitat"

-- all commands
unfoldable pub commands : List Command
commands =
    Queue ∷ Chain ∷ Claim ∷ Raise ∷ Take ∷ On ∷ Off ∷ Stop ∷ Park ∷ Start ∷ Signal ∷ Deliver ∷ Done ∷ Notify ∷
    Round ∷ Leave ∷ Tick ∷ Advance ∷ Set ∷ Fire ∷ Cancel ∷ Join ∷ Shut ∷ WaitAt ∷ []

-- the first command in the list that has this word
unfoldable pub named : List ℕ → List Command → Result Command ScriptRefusal
named word [] = Err UnknownWord
named word (command ∷ commands) = if bytes_eq word (command_word command) then Ok command else named word commands

-- the commands of a version: `shut` and `waitat` are commands from the second version on
abbrev pub knows : Version → Command → Bool
knows version Shut = is_later version
knows version WaitAt = is_later version
knows version command = true

-- a command, if the version has it
abbrev pub if_known : Version → Command → Result Command ScriptRefusal
if_known version command = if knows version command then Ok command else Err UnknownWord

-- the command of a version that a word names
unfoldable pub command_of : Version → List ℕ → Result Command ScriptRefusal
command_of version word = named word commands >>= λ command. if_known version command
