-- Lines, words and numbers of a script.
use Rattle.std.specs.Prelude.{ℕ, zero, suc, ◌&&◌, List, [], ◌∷◌, Option, Some, None, Result, Ok, Err, nat_le, ◌==◌}
use Rattle.std.specs.Prelude.{if◌then◌else◌}
use Rattle.std.specs.List.{slice_split}
use Rattle.std.specs.Str.{bytes_eq}
use Rattle.std.specs.Str.Parse.{digits_value}
use Rattle.std.specs.Fmt.{decimal}
use Rattle.boot_script.specs.declared.fault.ScriptRefusal.{ScriptRefusal}
use Rattle.boot_script.specs.declared.fault.ScriptRefusal.TheVariants.{BadNumber}

-- applies `f` to the value of a result; an error stays the error
infixl 10 ◌>>=◌
abbrev pub ◌>>=◌ : {A B E : Type 0} → Result A E → (A → Result B E) → Result B E
(Ok x) >>= f = f x
(Err e) >>= f = Err e

-- the parts between the separators; there is one more part than separators
abbrev pub pieces : ℕ → List ℕ → List (List ℕ)
pieces separator bytes = slice_split (λ b. b == separator) bytes

-- the parts of the bytes that are still to be cut; none if nothing is left
abbrev pub pieces_left : ℕ → Option (List ℕ) → List (List ℕ)
pieces_left separator None = []
pieces_left separator (Some bytes) = pieces separator bytes

-- a list of one part, if the part has a byte; else the empty list
abbrev pub unless_empty : List ℕ → List (List ℕ)
unless_empty [] = []
unless_empty (byte ∷ bytes) = (byte ∷ bytes) ∷ []

-- the parts without the last one, if the last one is empty: a separator at the end begins no part
abbrev pub without_last_empty : List (List ℕ) → List (List ℕ)
without_last_empty [] = []
without_last_empty (part ∷ []) = unless_empty part
without_last_empty (part ∷ next ∷ parts) = part ∷ without_last_empty (next ∷ parts)

-- the lines of a text; each ends with 0x0A, except that the last may end with the text
unfoldable pub lines_of : List ℕ → List (List ℕ)
lines_of text = without_last_empty (pieces 10 text)

-- the words of a line, which are separated by one space
abbrev pub words_of : List ℕ → List (List ℕ)
words_of line = pieces 32 line

-- the first word; a missing word is empty
abbrev pub first_word : List (List ℕ) → List ℕ
first_word [] = []
first_word (word ∷ words) = word

-- the words after the first
abbrev pub later_words : List (List ℕ) → List (List ℕ)
later_words [] = []
later_words (word ∷ words) = words

-- the word at a place, from 0
abbrev pub word_at : ℕ → List (List ℕ) → List ℕ
word_at zero words = first_word words
word_at (suc place) words = word_at place (later_words words)

-- the words from a place on
abbrev pub words_from : ℕ → List (List ℕ) → List (List ℕ)
words_from zero words = words
words_from (suc place) words = words_from place (later_words words)

-- the number, at most `most`, that a word spells: the word has to be exactly the printed number
unfoldable pub number_of : ℕ → List ℕ → Result ℕ ScriptRefusal
number_of most word =
    let n = digits_value 10 word in
    if nat_le n most && bytes_eq (decimal n) word then Ok n else Err BadNumber
