-- The effect of a try on the lines of its end.
use Rattle.quajects.proofs.Common.{◌≡◌, ℕ, ◌<◌, Bool, List, [], ◌∷◌, ◌++◌, length, refl, sym, ap, subst, ◌∙◌, if◌then◌else◌, arith, Result, Ok, Err, MatchResult, MatchBool, is_ok, append-nil, View, ClaimRefusal, TakeRefusal, lines_put, lines_taken, SameLines, PutLine, TookLine, IsLine, PutAnswer, held_line}
use Rattle.quajects.specs.Raws.{PutByte}

pub holds_it : (xs : List ℕ) → 0 < length xs → held_line xs ≡ xs ∷ []
holds_it [] h = absurd (omega arith)
holds_it (x ∷ xs) h = refl

-- a put that was answered
pub put_answered : (v w : View) (items : List ℕ) (r : Result ℕ ClaimRefusal) (b : Bool) → b ≡ is_ok r → MatchResult r (λ start. PutLine items v w) (λ e. SameLines v w)
    → (lines_put w ≡ (if b then lines_put v ++ items ∷ [] else lines_put v)) × (lines_taken w ≡ lines_taken v)
put_answered v w items (Ok start) b e h = (h.puts ∙ ap (λ (z : Bool). if z then lines_put v ++ items ∷ [] else lines_put v) (sym e), h.takes)
put_answered v w items (Err r) b e h = (h.puts ∙ ap (λ (z : Bool). if z then lines_put v ++ items ∷ [] else lines_put v) (sym e), h.takes)

-- a taking that was answered
pub take_answered : (room : ℕ) (v w : View) (line : List ℕ) (r : Result ℕ TakeRefusal) → MatchResult r (λ n. (n ≡ length line) × IsLine room line) (λ e. line ≡ [])
    → MatchResult r (λ n. TookLine line v w) (λ e. SameLines v w) → (lines_taken w ≡ lines_taken v ++ held_line line) × (lines_put w ≡ lines_put v)
take_answered room v w line (Ok n) t h = (h.takes ∙ ap (λ (z : List (List ℕ)). lines_taken v ++ z) (sym (holds_it line t.1.1)), h.puts)
take_answered room v w line (Err r) t h = (h.takes ∙ sym (append-nil (lines_taken v)) ∙ ap (λ (z : List ℕ). lines_taken v ++ held_line z) (sym t), h.puts)

-- a byte that was answered
pub put_byte : (v w : View) (byte : ℕ) (r : Result ℕ ClaimRefusal) (b : Bool) → b ≡ is_ok r → PutAnswer 64 v (byte ∷ []) r w → PutByte v byte b w
put_byte v w byte (Ok start) b e h = subst (λ (z : Bool). PutByte v byte z w) (sym e) (start, h)
put_byte v w byte (Err refusal) b e h = subst (λ (z : Bool). PutByte v byte z w) (sym e) (refusal, h)

pub byte_lines : (v w : View) (items : List ℕ) (r : Result ℕ ClaimRefusal) (b : Bool) → b ≡ is_ok r → MatchResult r (λ start. PutLine items v w) (λ e. SameLines v w) → MatchBool b (PutLine items v w) (SameLines v w)
byte_lines v w items (Ok start) b e h = subst (λ (z : Bool). MatchBool z (PutLine items v w) (SameLines v w)) (sym e) h
byte_lines v w items (Err refusal) b e h = subst (λ (z : Bool). MatchBool z (PutLine items v w) (SameLines v w)) (sym e) h
