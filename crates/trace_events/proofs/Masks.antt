-- The names of the threads of a mask, one after the other.
use Rattle.trace_events.proofs.Common.{◌≡◌, ◌<◌, ◌+◌, ◌-◌, ◌∙◌, ℕ, suc, Bool, true, false, cond, List, [], ◌∷◌, ◌++◌, refl, sym, ap, append-nil, append_assoc, map, arith, filter, if◌then◌else◌, join_with_byte, range_with_len, BootPlan, thread_names, thread_text}
use Rattle.thread_table.specs.Answers.{is_in}

-- names with a space before each, except before the first of all
abbrev pub spaced : Bool → List (List ℕ) → List ℕ
spaced is_first [] = []
spaced is_first (name ∷ names) = (if is_first then name else 32 ∷ name) ++ spaced false names

pub joined : (names : List (List ℕ)) → spaced true names ≡ join_with_byte 32 names
joined [] = refl
joined (name ∷ []) = append-nil name
joined (name ∷ other ∷ names) = ap (λ (text : List ℕ). name ++ 32 ∷ text) (joined (other ∷ names))

in_mask : (plan : BootPlan) (mask number count : ℕ) (b : Bool) → is_in mask number ≡ b
    → thread_names plan mask number (suc count) ≡ cond b (thread_text plan number ∷ thread_names plan mask (number + 1) count) (thread_names plan mask (number + 1) count)
unfolding thread_names
in_mask plan mask number count true h = ap (λ (b : Bool). map (thread_text plan) (cond b (number ∷ filter (is_in mask) (range_with_len (number + 1) count)) (filter (is_in mask) (range_with_len (number + 1) count)))) h
in_mask plan mask number count false h = ap (λ (b : Bool). map (thread_text plan) (cond b (number ∷ filter (is_in mask) (range_with_len (number + 1) count)) (filter (is_in mask) (range_with_len (number + 1) count)))) h

-- the names from a number on, one number further
named : (plan : BootPlan) (mask number : ℕ) (b : Bool) → number < 64 → is_in mask number ≡ b
    → thread_names plan mask number (64 - number) ≡ cond b (thread_text plan number ∷ thread_names plan mask (number + 1) (64 - (number + 1))) (thread_names plan mask (number + 1) (64 - (number + 1)))
named plan mask number b below h =
    let e : 64 - number ≡ suc (64 - (number + 1)) = omega arith in
    ap (thread_names plan mask number) e ∙ in_mask plan mask number (64 - (number + 1)) b h

-- a thread of the mask: its name, and those after it
pub name_more : (plan : BootPlan) (mask number : ℕ) (is_first : Bool) (old new all : List ℕ) → number < 64 → is_in mask number ≡ true → new ≡ old ++ (if is_first then thread_text plan number else 32 ∷ thread_text plan number)
    → old ++ spaced is_first (thread_names plan mask number (64 - number)) ≡ all → new ++ spaced false (thread_names plan mask (number + 1) (64 - (number + 1))) ≡ all
name_more plan mask number is_first old new all below member is before =
    let name : List ℕ = if is_first then thread_text plan number else 32 ∷ thread_text plan number in
    let later : List ℕ = spaced false (thread_names plan mask (number + 1) (64 - (number + 1))) in
    ap (λ (text : List ℕ). text ++ later) is ∙ append_assoc old name later ∙ ap (λ (names : List (List ℕ)). old ++ spaced is_first names) (sym (named plan mask number true below member)) ∙ before

-- a thread that is not of the mask
pub name_less : (plan : BootPlan) (mask number : ℕ) (is_first : Bool) (old all : List ℕ) → number < 64 → is_in mask number ≡ false
    → old ++ spaced is_first (thread_names plan mask number (64 - number)) ≡ all → old ++ spaced is_first (thread_names plan mask (number + 1) (64 - (number + 1))) ≡ all
name_less plan mask number is_first old all below member before =
    ap (λ (names : List (List ℕ)). old ++ spaced is_first names) (sym (named plan mask number false below member)) ∙ before

-- no thread is left
pub names_done : (plan : BootPlan) (mask number : ℕ) (is_first : Bool) (old all : List ℕ) → number ≡ 64
    → old ++ spaced is_first (thread_names plan mask number (64 - number)) ≡ all → old ≡ all
unfolding thread_names
names_done plan mask number is_first old all none before =
    let e : 64 - number ≡ 0 = omega arith in
    sym (append-nil old) ∙ ap (λ (n : ℕ). old ++ spaced is_first (map (thread_text plan) (filter (is_in mask) (range_with_len number n)))) (sym e) ∙ before
