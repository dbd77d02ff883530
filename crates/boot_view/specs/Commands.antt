-- The command that the words of the program are.
use Rattle.std.specs.Prelude.{◌≡◌, ◌≤◌, ℕ, List, [], ◌∷◌, codes, Ok}
use Rattle.boot_script.specs.Words.{number_of}
use Rattle.boot_view.specs.declared.command.Command.{Command}
use Rattle.boot_view.specs.declared.command.View.{View}
use Rattle.boot_view.specs.declared.command.View.TheVariants.{InOrder, ByTime, Trace}

-- two words spell a number of processors, 1 to 8, and a number of turns
pub record AreNumbers (first second : List ℕ) (processors turns : ℕ) : Type 0 where
  pub processors_said : number_of 8 first ≡ Ok processors
  pub some_processor : 1 ≤ processors
  pub turns_said : number_of 100000000 second ≡ Ok turns

-- the words after the numbers
abbrev pub option_words : View → List (List ℕ)
option_words InOrder = []
option_words ByTime = codes "--time" ∷ []
option_words Trace = codes "--trace" ∷ []

-- the words are this command
pub record IsCommand (words : List (List ℕ)) (command : Command) : Type 0 where
  pub first : List ℕ
  pub second : List ℕ
  pub words_are : words ≡ first ∷ second ∷ option_words command.view
  pub numbers : AreNumbers first second command.processors command.turns

-- the words are no command
abbrev pub IsNoCommand : List (List ℕ) → Type 0
IsNoCommand words = (command : Command) → IsCommand words command → ⊥
