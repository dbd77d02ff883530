use Rattle.std.proofs.Common.{◌≡◌, drop}
use Rattle.boot_script.specs.Commands.{commands, named}
use Rattle.boot_script.proofs.commands.named_command.Given as goal

-- The word is still to be found among the commands that are left.
abbrev pub invariant-loop-command : goal.invariant-loop-command
invariant-loop-command l = named l.word (drop l.command-index commands) ≡ named l.word commands
