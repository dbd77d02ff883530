-- Words are one command at most.
use Rattle.std.proofs.Common.{◌≡◌, ◌∙◌, ℕ, List, [], ◌∷◌, refl, sym, ap, arith, length, drop}
use Rattle.std.specs.Prelude.{slice_index_or}
use Rattle.boot_script.specs.Words.{number_of}
use Rattle.boot_view.specs.Commands.{IsCommand, option_words}
use Rattle.boot_view.specs.declared.command.Command.{Command}
use Rattle.boot_view.specs.declared.command.View.{View}
use Rattle.boot_view.specs.declared.command.View.TheVariants.{InOrder, ByTime, Trace}

-- the length of the first of these words, and 0 if there is none
abbrev first_length : List (List ℕ) → ℕ
first_length words = length (slice_index_or words 0 [])

one_view : (a b : View) → option_words a ≡ option_words b → a ≡ b
one_view InOrder InOrder e = refl
one_view InOrder ByTime e = let k = ap first_length e in absurd (omega (arith, k))
one_view InOrder Trace e = let k = ap first_length e in absurd (omega (arith, k))
one_view ByTime InOrder e = let k = ap first_length e in absurd (omega (arith, k))
one_view ByTime ByTime e = refl
one_view ByTime Trace e = let k = ap first_length e in absurd (omega (arith, k))
one_view Trace InOrder e = let k = ap first_length e in absurd (omega (arith, k))
one_view Trace ByTime e = let k = ap first_length e in absurd (omega (arith, k))
one_view Trace Trace e = refl

abbrev made : ℕ → ℕ → View → Command
made processors turns view = record { processors = processors; turns = turns; view = view }

same_parts : (a b : Command) → a.processors ≡ b.processors → a.turns ≡ b.turns → a.view ≡ b.view → a ≡ b
same_parts a b p t v =
    ap (λ (x : ℕ). made x a.turns a.view) p
    ∙ (ap (λ (x : ℕ). made b.processors x a.view) t ∙ ap (λ (x : View). made b.processors b.turns x) v)

-- the same words are the same command
pub one_command : (words : List (List ℕ)) (a b : Command) → IsCommand words a → IsCommand words b → a ≡ b
one_command words a b x y =
    let e = sym x.words_are ∙ y.words_are in
    let first : x.first ≡ y.first = ap (λ (xs : List (List ℕ)). slice_index_or xs 0 []) e in
    let second : x.second ≡ y.second = ap (λ (xs : List (List ℕ)). slice_index_or xs 1 []) e in
    let options : option_words a.view ≡ option_words b.view = ap (λ (xs : List (List ℕ)). drop 2 xs) e in
    let p = sym x.numbers.processors_said ∙ (ap (number_of 8) first ∙ y.numbers.processors_said) in
    let t = sym x.numbers.turns_said ∙ (ap (number_of 100000000) second ∙ y.numbers.turns_said) in
    same_parts a b (cc) (cc) (one_view a.view b.view options)
