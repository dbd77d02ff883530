-- Where a list is cut.
use Rattle.std.proofs.Common.{◌≡◌, ℕ, ◌<◌, ◌≤◌, ◌+◌, ◌-◌, List, [], ◌∷◌, ◌∙◌, refl, sym, ap, arith, length, take, drop, length-drop, Bool, true, false, cond, Some, None}
use Rattle.boot_script.proofs.Common.{eqb, take_all, nat_tests, slice_split, position, position_or_len, slice_split_first, slice_split_none, length-slice_split, fails_before_first, pieces, lines_of, without_last_empty}

-- a list has one part at least
pub some_pieces : (s : ℕ) (bytes : List ℕ) → pieces s bytes ≡ [] → ⊥
some_pieces s bytes h = absurd (omega (arith, length-slice_split (λ b. eqb b s) bytes, ap length h))

pub some_chosen : (b : Bool) (at place : ℕ) → Some at ≡ cond b (Some place) None → (b ≡ true) × (at ≡ place)
some_chosen true at place h = (refl, cc)
some_chosen false at place h = absurd (cc)

pub none_chosen : (b : Bool) (place : ℕ) → None ≡ cond b (Some place) None → b ≡ false
none_chosen true place h = absurd (cc)
none_chosen false place h = refl

at_place : (p : ℕ → Bool) (bytes : List ℕ) (at place : ℕ) → at ≡ place → slice_split p bytes ≡ take place bytes ∷ slice_split p (drop (place + 1) bytes)
    → slice_split p bytes ≡ take at bytes ∷ slice_split p (take (length bytes - (at + 1)) (drop (at + 1) bytes))
at_place p bytes at place e h = rw (take_all (length bytes - (at + 1)) (drop (at + 1) bytes) (omega (arith, length-drop (at + 1) bytes)), e) h

pub cut_at : (s : ℕ) (bytes : List ℕ) (at : ℕ) → Some at ≡ position (λ b. eqb b s) bytes → pieces s bytes ≡ take at bytes ∷ pieces s (take (length bytes - (at + 1)) (drop (at + 1) bytes))
cut_at s bytes at h =
    let p = some_chosen _ at _ h in
    let below : position_or_len (λ b. eqb b s) bytes < length bytes = grind (arith, nat_tests, p.0) in
    at_place (λ b. eqb b s) bytes at (position_or_len (λ b. eqb b s) bytes) p.1 (slice_split_first (λ b. eqb b s) bytes 0 below)

pub cut_nowhere : (s : ℕ) (bytes : List ℕ) → None ≡ position (λ b. eqb b s) bytes → pieces s bytes ≡ bytes ∷ []
cut_nowhere s bytes h =
    let no = none_chosen _ _ h in
    let past : length bytes ≤ position_or_len (λ b. eqb b s) bytes = grind (arith, nat_tests, no) in
    slice_split_none (λ b. eqb b s) bytes (λ k d below. fails_before_first (λ b. eqb b s) bytes k d (omega arith))

more_lines : (line : List ℕ) (parts : List (List ℕ)) → (parts ≡ [] → ⊥) → without_last_empty (line ∷ parts) ≡ line ∷ without_last_empty parts
more_lines line [] some = absurd (some refl)
more_lines line (part ∷ parts) some = refl

-- where a line is cut off, the lines are that line and those of the rest
pub one_line : (text line rest : List ℕ) → pieces 10 text ≡ line ∷ pieces 10 rest → lines_of text ≡ line ∷ lines_of rest
unfolding lines_of
one_line text line rest h = ap without_last_empty h ∙ more_lines line (pieces 10 rest) (some_pieces 10 rest)

pub last_line : (text line : List ℕ) → 0 < length text → line ≡ text → pieces 10 text ≡ line ∷ [] → lines_of text ≡ line ∷ lines_of []
unfolding lines_of
last_line [] line some e h = absurd (omega arith)
last_line (b ∷ bs) line some e h = ap without_last_empty (h ∙ ap (λ x. x ∷ []) e) ∙ ap (λ x. x ∷ []) (sym e)
