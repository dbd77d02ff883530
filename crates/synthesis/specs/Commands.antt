-- The commands that the words of the program ask for.
use Rattle.std.specs.Prelude.{◌≡◌, ◌≢◌, ◌≤◌, ℕ, List, [], ◌∷◌, codes, Ok}
use Rattle.boot_script.specs.Words.{number_of}
use Rattle.synthesis.specs.declared.command.Command.{Command}
use Rattle.synthesis.specs.declared.command.Command.TheVariants.{Replay, Boot}

-- the words that ask for a replay
abbrev pub replay_command : List (List ℕ)
replay_command = codes "replay" ∷ []

-- two words spell a number of processors, 1 to 8, and a number of turns
pub record AreNumbers (first second : List ℕ) (processors turns : ℕ) : Type 0 where
  pub processors_said : number_of 8 first ≡ Ok processors
  pub some_processor : 1 ≤ processors
  pub turns_said : number_of 100000000 second ≡ Ok turns

-- the words ask for a boot with this many processors and turns
pub record IsBootCommand (words : List (List ℕ)) (processors turns : ℕ) : Type 0 where
  pub first : List ℕ
  pub second : List ℕ
  pub words_are : words ≡ codes "boot" ∷ first ∷ second ∷ []
  pub numbers : AreNumbers first second processors turns

-- the words are no command
pub record IsNoCommand (words : List (List ℕ)) : Type 0 where
  pub no_replay : words ≢ replay_command
  pub no_boot : (processors turns : ℕ) → IsBootCommand words processors turns → ⊥

-- the words ask for this command
abbrev pub Asks : List (List ℕ) → Command → Type 0
Asks words Replay = words ≡ replay_command
Asks words (Boot processors turns) = IsBootCommand words processors turns

-- a boot has one to eight processors
abbrev pub IsWithin : Command → Type 0
IsWithin Replay = Unit {0}
IsWithin (Boot processors turns) = (1 ≤ processors) × (processors ≤ 8)

-- a boot with the numbers that two words spell
abbrev pub IsBootOf : List ℕ → List ℕ → Command → Type 0
IsBootOf first second Replay = ⊥
IsBootOf first second (Boot processors turns) = AreNumbers first second processors turns
