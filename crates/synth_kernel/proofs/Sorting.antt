-- What the threads gave back, one more.
use Rattle.synth_kernel.proofs.Common.{◌≡◌, ◌≤◌, length-append, ℕ, List, [], ◌∷◌, ◌++◌, length, Ok, Err, refl, sym, ap, subst, ◌∙◌, arith, Shared, Parts, AllJoined, Work, Worked, Back, processed_in, served_in, all_there, append-nil, false, AreJoined}
use Rattle.boot_threads.specs.declared.starting.NotStarted.{NotStarted}
use Rattle.boot_threads.specs.declared.work.Worked.TheVariants as worked

pub processed_append : {G : Type 0} (xs ys : List (Back G)) → processed_in (xs ++ ys) ≡ processed_in xs ++ processed_in ys
processed_append [] ys = refl
processed_append (Ok (worked.Processed one) ∷ xs) ys = ap (λ z. one ∷ z) (processed_append xs ys)
processed_append (Ok (worked.Served line tty) ∷ xs) ys = processed_append xs ys
processed_append (Err lost ∷ xs) ys = processed_append xs ys

pub served_append : {G : Type 0} (xs ys : List (Back G)) → served_in (xs ++ ys) ≡ served_in xs ++ served_in ys
served_append [] ys = refl
served_append (Ok (worked.Processed one) ∷ xs) ys = served_append xs ys
served_append (Ok (worked.Served line tty) ∷ xs) ys = ap (λ z. record { line = line; tty = tty } ∷ z) (served_append xs ys)
served_append (Err lost ∷ xs) ys = served_append xs ys

pub there_more : {G : Type 0} (xs : List (Back G)) (back : Worked G) → all_there (xs ++ Ok back ∷ []) ≡ all_there xs
there_more [] back = refl
there_more (Ok x ∷ xs) back = there_more xs back
there_more (Err lost ∷ xs) back = refl

pub there_none : {G : Type 0} (xs : List (Back G)) (lost : NotStarted Shared (Work G)) → all_there (xs ++ Err lost ∷ []) ≡ false
there_none [] lost = refl
there_none (Ok x ∷ xs) lost = there_none xs lost
there_none (Err _ ∷ xs) lost = refl

pub joined_more : (first : Parts) (stations : List Parts) (mid station next : Parts) → AllJoined first stations mid → AreJoined mid station next → AllJoined first (stations ++ station ∷ []) next
joined_more first [] mid station next all one = (next, subst (λ z. AreJoined z station next) all one, refl)
joined_more first (x ∷ xs) mid station next all one = (all.0, all.1, joined_more all.0 xs mid station next all.2 one)

pub none_processed : {G : Type 0} (xs : List (Back G)) (lost : NotStarted Shared (Work G)) → processed_in xs ≡ processed_in (xs ++ Err lost ∷ [])
none_processed xs lost = sym (processed_append xs (Err lost ∷ []) ∙ append-nil (processed_in xs))

pub none_served : {G : Type 0} (xs : List (Back G)) (lost : NotStarted Shared (Work G)) → served_in xs ≡ served_in (xs ++ Err lost ∷ [])
none_served xs lost = sym (served_append xs (Err lost ∷ []) ∙ append-nil (served_in xs))

-- a list of sorted results has room for one more, if it has room for the sorted results of all
pub room_for : {G A : Type 0} (sorted : List (Back G) → List A) → ((xs ys : List (Back G)) → sorted (xs ++ ys) ≡ sorted xs ++ sorted ys) → (before : List (Back G)) (x : Back G) (following all : List (Back G)) (list : List A)
    → before ++ x ∷ following ≡ all → list ≡ sorted before → (room : ℕ) → length (sorted all) ≤ room → length (list ++ sorted (x ∷ [])) ≤ room
room_for sorted append before x following all list is its room few =
    let cut : sorted all ≡ sorted before ++ (sorted (x ∷ []) ++ sorted following) = ap sorted (sym is) ∙ (append before (x ∷ following) ∙ ap (λ z. sorted before ++ z) (append (x ∷ []) following)) in
    let long = ap length cut in
    let one = length-append (sorted before) (sorted (x ∷ []) ++ sorted following) in
    let two = length-append (sorted (x ∷ [])) (sorted following) in
    let mine = length-append list (sorted (x ∷ [])) in
    let same = ap length its in
    omega arith
