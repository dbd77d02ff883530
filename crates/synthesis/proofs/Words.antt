-- A test of the one word, or of the first of three, is a test of the words.
use Rattle.std.proofs.Common.{◌≡◌, ℕ, List, [], ◌∷◌, ◌∙◌, sym, ap, arith, length, get_or, map, Bool, true, IsTrue, Bor, ◌↔◌, ◌≤◌, ◌<◌, subst}
use Rattle.std.specs.Prelude.{Option, Some, None, IfSome, IfNone, codes, slice_index_or}
use Rattle.boot_script.specs.Words.{number_of}
use Rattle.std.specs.Str.{bytes_eq}
use Rattle.std.proofs.lemmas.Slice.Eq.{bytes_eq-Decides}
use Rattle.synthesis.specs.declared.command.Command.{Command}
use Rattle.synthesis.specs.declared.command.Command.TheVariants.{Replay, Boot}
use Rattle.synthesis.specs.Commands.{AreNumbers, Asks, IsBootCommand, IsBootOf, IsNoCommand}

pub one_word :
    (words : List (Bor (List ℕ))) (none : Bor (List ℕ)) (text : List ℕ) (b : Bool)
    → length words ≡ 1 → b ≡ bytes_eq (get_or words 0 none).now text
    → IsTrue b ↔ (map (λ word. word.now) words ≡ text ∷ [])
one_word [] none text b one e = absurd (omega arith)
one_word (w ∷ []) none text b one e =
    let d = bytes_eq-Decides w.now text in
    (λ h. ap (λ x. x ∷ []) (d.0 (sym e ∙ h)), λ h. e ∙ d.1 (cc))
one_word (v ∷ w ∷ words) none text b one e = absurd (omega arith)

pub three_words :
    (words : List (Bor (List ℕ))) (none : Bor (List ℕ)) (text : List ℕ) (b : Bool)
    → 3 ≤ length words → length words < 4 → b ≡ bytes_eq (get_or words 0 none).now text → b ≡ true
    → map (λ word. word.now) words ≡ text ∷ (get_or words 1 none).now ∷ (get_or words 2 none).now ∷ []
three_words [] none text b least below e h = absurd (omega arith)
three_words (u ∷ []) none text b least below e h = absurd (omega arith)
three_words (u ∷ v ∷ []) none text b least below e h = absurd (omega arith)
three_words (u ∷ v ∷ w ∷ []) none text b least below e h =
    let d = bytes_eq-Decides u.now text in
    ap (λ x. x ∷ v.now ∷ w.now ∷ []) (d.0 (sym e ∙ h))
three_words (u ∷ v ∷ w ∷ x ∷ words) none text b least below e h = absurd (omega arith)

boot_asked :
    (words : List (List ℕ)) (first second : List ℕ) (command : Command)
    → words ≡ codes "boot" ∷ first ∷ second ∷ [] → IsBootOf first second command → Asks words command
boot_asked words first second Replay e h = absurd h
boot_asked words first second (Boot processors turns) e h =
    record { first = first; second = second; words_are = e; numbers = h }

-- a boot with the numbers of the words is what they ask for
pub asked :
    (words : List (List ℕ)) (first second : List ℕ) (result : Option Command)
    → words ≡ codes "boot" ∷ first ∷ second ∷ [] → IfSome result (IsBootOf first second) → IfSome result (Asks words)
asked words first second None e h = h
asked words first second (Some command) e h = boot_asked words first second command e h

nothing_asked :
    (words : List (List ℕ)) (a b : List ℕ)
    → words ≡ codes "boot" ∷ a ∷ b ∷ []
    → ((processors turns : ℕ) → AreNumbers a b processors turns → ⊥) → IsNoCommand words
nothing_asked words a b e none = record {
  no_replay = λ h. absurd (cc);
  no_boot = λ processors turns said.
      let firsts : said.first ≡ a = cc in
      let seconds : said.second ≡ b = cc in
      none processors turns (subst (λ y. AreNumbers a y processors turns) seconds
      (subst (λ x. AreNumbers x said.second processors turns) firsts said.numbers));
}

-- where they are no numbers of a boot, nothing is asked for
pub asked_nothing :
    (words : List (List ℕ)) (first second : List ℕ) (result : Option Command)
    → words ≡ codes "boot" ∷ first ∷ second ∷ []
    → IfNone result ((processors turns : ℕ) → AreNumbers first second processors turns → ⊥)
    → IfNone result (IsNoCommand words)
asked_nothing words first second None e none = nothing_asked words first second e none
asked_nothing words first second (Some command) e none = none

pub asked_of : (words : List (List ℕ)) (command : Command) (processors turns : ℕ) → command ≡ Boot processors turns → Asks words command → IsBootCommand words processors turns
asked_of words command processors turns is asks = subst (Asks words) is asks

-- words ask for one number of processors, and for one of turns
pub same_processors : (words : List (List ℕ)) (p t p' t' : ℕ) → IsBootCommand words p t → IsBootCommand words p' t' → p ≡ p'
same_processors words p t p' t' a b =
    let f : a.first ≡ b.first = ap (λ (xs : List (List ℕ)). slice_index_or xs 1 []) (sym a.words_are ∙ b.words_are) in
    let pa = a.numbers.processors_said in let pb = b.numbers.processors_said in
    let k = sym pa ∙ (ap (number_of 8) f ∙ pb) in cc

pub same_turns : (words : List (List ℕ)) (p t p' t' : ℕ) → IsBootCommand words p t → IsBootCommand words p' t' → t ≡ t'
same_turns words p t p' t' a b =
    let f : a.second ≡ b.second = ap (λ (xs : List (List ℕ)). slice_index_or xs 2 []) (sym a.words_are ∙ b.words_are) in
    let pa = a.numbers.turns_said in let pb = b.numbers.turns_said in
    let k = sym pa ∙ (ap (number_of 100000000) f ∙ pb) in cc
