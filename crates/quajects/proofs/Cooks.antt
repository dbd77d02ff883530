-- The lines of a cooked tty.
use Rattle.quajects.proofs.Common.{◌≡◌, ℕ, suc, ◌<◌, ◌==◌, Bool, true, false, List, [], ◌∷◌, ◌++◌, map, length, refl, sym, ap, subst, ◌∙◌, if◌then◌else◌, arith, map-append, append-nil, false≢true, eqb-true, View, held_line, kept, after_kills, typed, cooked, TriedTake}
use Rattle.quajects.specs.Cooks.{CookedRaw}
use Rattle.quajects.proofs.Answered.{holds_it}

pub no_items : {A : Type 0} → (xs : List A) → (length xs == 0) ≡ true → xs ≡ []
no_items [] h = refl
no_items (x ∷ xs) h = let e = eqb-true (suc (length xs)) 0 h in absurd (omega arith)

held_end : (xs : List ℕ) → held_line (xs ++ 10 ∷ []) ≡ (xs ++ 10 ∷ []) ∷ []
held_end [] = refl
held_end (x ∷ xs) = refl

pub cooked_more : (old new puts : List (List ℕ)) (raw line : List ℕ) → map cooked old ≡ puts → new ≡ old ++ held_line raw → 0 < length raw → line ≡ cooked raw → map cooked new ≡ puts ++ held_line line
cooked_more old new puts raw line law e some is = ap (λ (z : List (List ℕ)). map cooked z) e ∙ map-append cooked old (held_line raw)
    ∙ ap (λ (z : List (List ℕ)). z ++ map cooked (held_line raw)) law
    ∙ ap (λ (z : List (List ℕ)). puts ++ map cooked z) (holds_it raw some)
    ∙ ap (λ (z : List (List ℕ)). puts ++ z) (sym (held_end (kept (after_kills (typed raw)))))
    ∙ ap (λ (z : List ℕ). puts ++ held_line z) (sym is)

pub nothing_held : (old puts : List (List ℕ)) (held : List ℕ) → held ≡ [] → map cooked old ≡ puts ++ held_line held → map cooked old ≡ puts
nothing_held old puts held e law = law ∙ ap (λ (z : List ℕ). puts ++ held_line z) e ∙ append-nil puts

if_held : (b : Bool) (held : List ℕ) → held ≡ [] → (if b then [] else held_line held) ≡ []
if_held true held e = refl
if_held false held e = ap held_line e

pub nothing_held_if : (old puts : List (List ℕ)) (held : List ℕ) (b : Bool) → held ≡ [] → map cooked old ≡ puts ++ (if b then [] else held_line held) → map cooked old ≡ puts
nothing_held_if old puts held b e law = law ∙ ap (λ (z : List (List ℕ)). puts ++ z) (if_held b held e) ∙ append-nil puts

pub some_taken : (v : View) (took : Bool) (line : List ℕ) (w : View) → took ≡ true → TriedTake 64 v took line w → 0 < length line
some_taken v true line w e t = t.0.1
some_taken v false line w e t = absurd (false≢true e)

not_empty : (xs : List ℕ) → xs ++ 10 ∷ [] ≡ [] → ⊥
not_empty [] e = cc
not_empty (x ∷ xs) e = cc

pub cooked_some : (raw line : List ℕ) → line ≡ cooked raw → line ≡ [] → ⊥
cooked_some raw line is e = not_empty (kept (after_kills (typed raw))) (sym is ∙ e)

-- with nothing held, the line is not in the line queue
pub not_in : (b : Bool) (held : List ℕ) → held ≡ [] → (b ≡ true → held ≡ [] → ⊥) → b ≡ false
not_in true held e full = absurd (full refl e)
not_in false held e full = refl

pub as_not_in : (b : Bool) (lines puts : List (List ℕ)) (line : List ℕ) → b ≡ false → lines ≡ puts ++ held_line line → lines ≡ puts ++ (if b then [] else held_line line)
as_not_in true lines puts line e h = absurd (false≢true (sym e))
as_not_in false lines puts line e h = h

-- a raw line was taken and cooked
pub cooked_raw : (v w : View) (held line raw : List ℕ) (took : Bool) → held ≡ [] → took ≡ true → line ≡ cooked raw → TriedTake 64 v took raw w → CookedRaw v held true line w
cooked_raw v w held line raw took none is cooks tried = record {
  tried = λ e. (raw, subst (λ (z : Bool). TriedTake 64 v z raw w) is tried, λ t. cooks);
  else = λ n. absurd (n none);
  kept = λ f. absurd (false≢true (sym f));
}
