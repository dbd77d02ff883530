-- Texts in a boot script: each byte as itself, or as `\` and two digits.
use Rattle.std.specs.Prelude.{ℕ, ◌+◌, ◌-◌, ◌*◌, ◌&&◌, List, [], ◌∷◌, length, Result, Ok, Err, nat_le, ◌==◌}
use Rattle.std.specs.Prelude.{if◌then◌else◌}
use Rattle.std.specs.List.{join_with_byte}
use Rattle.boot_script.specs.declared.fault.ScriptRefusal.{ScriptRefusal}
use Rattle.boot_script.specs.declared.fault.ScriptRefusal.TheVariants.{BadNumber, TextTooLong}
use Rattle.boot_script.specs.Words.{◌>>=◌}

-- the value of a digit, 0 to 9 or A to F
abbrev pub digit_of : ℕ → Result ℕ ScriptRefusal
digit_of digit =
    if nat_le 48 digit && nat_le digit 57 then Ok (digit - 48)
    else if nat_le 65 digit && nat_le digit 70 then Ok (digit - 55)
    else Err BadNumber

-- the byte of two digits
abbrev pub escape_of : ℕ → ℕ → Result ℕ ScriptRefusal
escape_of high low = do
  h ← digit_of high
  l ← digit_of low
  Ok (h * 16 + l)

-- a byte before the others
abbrev pub before : ℕ → Result (List ℕ) ScriptRefusal → Result (List ℕ) ScriptRefusal
before byte (Ok bytes) = Ok (byte ∷ bytes)
before byte (Err refusal) = Err refusal

-- the bytes of a text: after each `\` come two digits
unfoldable pub bytes_of : List ℕ → Result (List ℕ) ScriptRefusal
bytes_of [] = Ok []
bytes_of (byte ∷ []) = if byte == 92 then Err BadNumber else Ok (byte ∷ [])
bytes_of (byte ∷ next ∷ []) = if byte == 92 then Err BadNumber else before byte (bytes_of (next ∷ []))
bytes_of (byte ∷ high ∷ low ∷ text) =
    if byte == 92 then escape_of high low >>= (λ escaped. before escaped (bytes_of text))
    else before byte (bytes_of (high ∷ low ∷ text))

-- the bytes, if there are at most `most`
abbrev pub within_of : ℕ → List ℕ → Result (List ℕ) ScriptRefusal
within_of most bytes = if nat_le (length bytes) most then Ok bytes else Err TextTooLong

-- the text after the other words of a line: the rest of the line, with the spaces between its words
abbrev pub text_of : ℕ → List (List ℕ) → Result (List ℕ) ScriptRefusal
text_of most words = bytes_of (join_with_byte 32 words) >>= λ bytes. within_of most bytes

-- the bytes that were read; none if the text was refused
abbrev pub read : Result (List ℕ) ScriptRefusal → List ℕ
read (Ok bytes) = bytes
read (Err refusal) = []
