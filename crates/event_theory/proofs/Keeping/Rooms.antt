-- No more elements are held than there are, so there is room for each that comes to be held.
use Rattle.std.proofs.Common.{◌≡◌, ◌≢◌, ℕ, zero, suc, ◌+◌, ◌<◌, ◌≤◌, Bool, true, false, not, cond, List, [], ◌∷◌, ◌++◌, ◌∙◌, length, map, set, take, refl, sym, ap, subst, arith, eqb, ◌⊎◌, inl, inr, Ok, Err, Option, Some, None, slice_get, length-set}
use Rattle.std.proofs.lemmas.Bool.{cases_lt}
use Rattle.std.proofs.lemmas.Bool.Decides.{eqb_tells, nat_tests}
use Rattle.std.proofs.lemmas.List.{length-map, length-append}
use Rattle.std.proofs.lemmas.List.Sums.{sum_by-cons}
use Rattle.std.specs.List.{repeat}
use Rattle.event_theory.specs.Queues.{Queue, left, take_first}
use Rattle.event_theory.specs.Elements.{Elements, Thread, hold, take_element, take_off}
use Rattle.event_theory.specs.Rings.{taken}
use Rattle.event_theory.specs.Results.{at, change_at}
use Rattle.event_theory.specs.declared.refusal.Refusal.TheVariants.{NotOwner, ProcessorEmpty}
use Rattle.event_theory.specs.Lawful.{IsLawfulElements}
use Rattle.event_theory.specs.Appearances.{in_list}
use Rattle.event_theory.specs.declared.hold.Hold.{Hold}
use Rattle.event_theory.proofs.Keeping.Elements.{take_element_law, take_off_law}
use Rattle.event_theory.proofs.Outcomes.{started_ok}
use Rattle.event_theory.proofs.Lists.Inversions.{then_ok, given_ok}
use Rattle.event_theory.proofs.Keeping.Places.{one, in_hands, sum_mapped}
use Rattle.event_theory.proofs.Keeping.Threads.{start_law}

-- the list without a number
abbrev without : ℕ → List ℕ → List ℕ
without n [] = []
without n (x ∷ xs) = cond (eqb x n) (without n xs) (x ∷ without n xs)

-- how often a number is in a longer list
pub in_more : (k x : ℕ) (xs : List ℕ) → in_list k (x ∷ xs) ≡ one x k + in_list k xs
in_more k x xs = sum_by-cons (λ y. one y k) x xs

pub itself : (x : ℕ) → one x x ≡ 1
itself x = grind (arith, nat_tests)

length_by : (b : Bool) (x : ℕ) (xs : List ℕ) → length (cond b xs (x ∷ xs)) + cond b 1 0 ≡ length xs + 1
length_by true x xs = refl
length_by false x xs = omega arith

length-without : (n : ℕ) (xs : List ℕ) → length xs ≡ in_list n xs + length (without n xs)
length-without n [] = refl
length-without n (x ∷ xs) = omega (arith, in_more n x xs, length_by (eqb x n) x (without n xs), length-without n xs)

fewer_by : (b : Bool) (k x : ℕ) (xs : List ℕ) → in_list k (cond b xs (x ∷ xs)) ≤ one x k + in_list k xs
fewer_by true k x xs = omega arith
fewer_by false k x xs = omega (arith, in_more k x xs)

fewer : (n k : ℕ) (xs : List ℕ) → in_list k (without n xs) ≤ in_list k xs
fewer n k [] = omega arith
fewer n k (x ∷ xs) = omega (arith, in_more k x xs, fewer_by (eqb x n) k x (without n xs), fewer n k xs)

none_by : (n x : ℕ) (xs : List ℕ) (b : Bool) → eqb x n ≡ b → in_list n xs ≡ 0 → in_list n (cond b xs (x ∷ xs)) ≡ 0
none_by n x xs true is none = none
none_by n x xs false is none = in_more n x xs ∙ (ap (λ t. cond t 1 0 + in_list n xs) is ∙ omega (arith, none))

none_left : (n : ℕ) (xs : List ℕ) → in_list n (without n xs) ≡ 0
none_left n [] = refl
none_left n (x ∷ xs) = none_by n x (without n xs) (eqb x n) refl (none_left n xs)

past_by : (n k : ℕ) (xs : List ℕ) → ((j : ℕ) → suc n ≤ j → in_list j xs ≡ 0) → n ≤ k → ((eqb k n ≡ true) × (k ≡ n)) ⊎ ((eqb k n ≡ false) × (k ≢ n)) → in_list k (without n xs) ≡ 0
past_by n k xs none past (inl same) = subst (λ j. in_list j (without n xs) ≡ 0) (sym same.1) (none_left n xs)
past_by n k xs none past (inr differ) = let ne = differ.1 in omega (arith, fewer n k xs, none k (omega arith))

-- numbers below n, each at most once, are no more than n
pub few : (n : ℕ) (xs : List ℕ) → ((k : ℕ) → in_list k xs ≤ 1) → ((k : ℕ) → n ≤ k → in_list k xs ≡ 0) → length xs ≤ n
few zero [] once none = omega arith
few zero (x ∷ xs) once none = absurd (omega (arith, none x (omega arith), in_more x x xs, itself x))
few (suc n) xs once none =
    omega (arith, length-without n xs, once n, few n (without n xs) (λ k. omega (arith, fewer n k xs, once k)) (λ k past. past_by n k xs none past (eqb_tells k n)))

abbrev element_of : Hold → ℕ
element_of h = h.element

held_items : (k : ℕ) (held : List Hold) → in_list k (map element_of held) ≡ in_hands k held
held_items k held = sum_mapped (λ x. one x k) element_of (λ h. one h.element k) (λ h. refl) held

once_at : (k : ℕ) (s : Elements) → IsLawfulElements s → (k < length s.threads) ⊎ (length s.threads ≤ k) → in_hands k s.held ≤ 1
once_at k s lawful (inl below) = omega (arith, lawful.once k below)
once_at k s lawful (inr past) = omega (arith, lawful.known k past)

-- each element is held once, if at all
pub held_few : (s : Elements) → IsLawfulElements s → length s.held ≤ length s.threads
held_few s lawful =
    omega (
      arith,
      length-map s.held element_of,
      few (length s.threads) (map element_of s.held)
          (λ k. omega (arith, held_items k s.held, once_at k s lawful (cases_lt k (length s.threads))))
          (λ k past. omega (arith, held_items k s.held, lawful.known k past)),
    )

long : {A : Type 0} (n : ℕ) (x : A) → length (repeat n (x ∷ [])) ≡ n
long zero x = refl
long (suc n) x = ap suc (long n x)

-- what shows a list of so many is as long
pub so_many : {A B : Type 0} (f : A → B) (x : B) (n : ℕ) (xs : List A) → map f xs ≡ repeat n (x ∷ []) → length xs ≡ n
so_many f x n xs is = sym (length-map xs f) ∙ (ap length is ∙ long n x)

-- if one more is held of as many elements, there was room
one_more : (s t : Elements) (h : Hold) → IsLawfulElements t → t.held ≡ s.held ++ h ∷ [] → length t.threads ≡ length s.threads → length s.held < length s.threads
one_more s t h lawful held same = omega (arith, held_few t lawful, ap length held, length-append s.held (h ∷ []))

pub taken_off_ok : (call processor : ℕ) (s : Elements) (h : Hold) → slice_get s.processors processor ≡ Some (Some h) → not (eqb h.call call) ≡ false
    → take_off call processor s ≡ Ok (record s { processors = set s.processors processor None; held = s.held ++ h ∷ [] })
taken_off_ok call processor s h found own = rw (found, own) refl

empty : (seat : Option Hold) → ((h : Hold) → seat ≡ Some h → ⊥) → seat ≡ None
empty None none = refl
empty (Some h) none = absurd (none h refl)

-- nothing is taken off an empty processor, and nothing that another call put there
pub none_taken_off : (call processor : ℕ) (s : Elements) (seat : Option Hold) → slice_get s.processors processor ≡ Some seat → ((h : Hold) → seat ≡ Some h → ⊥) → take_off call processor s ≡ Err ProcessorEmpty
none_taken_off call processor s seat found none = rw (found, empty seat none) refl

pub other_put_on : (call processor : ℕ) (s : Elements) (h : Hold) → slice_get s.processors processor ≡ Some (Some h) → not (eqb h.call call) ≡ true → take_off call processor s ≡ Err NotOwner
other_put_on call processor s h found other = rw (found, other) refl

pub taken_off_room : (call processor : ℕ) (s : Elements) (h : Hold) → IsLawfulElements s → slice_get s.processors processor ≡ Some (Some h) → not (eqb h.call call) ≡ false → length s.held < length s.threads
taken_off_room call processor s h lawful found own = let t : Elements = record s { processors = set s.processors processor None; held = s.held ++ h ∷ [] } in
    one_more s t h (take_off_law call processor s t lawful (taken_off_ok call processor s h found own)) refl refl

pub started_room : (call element : ℕ) (s : Elements) (old : Thread) → IsLawfulElements s → slice_get s.threads element ≡ Some old → old.stop ≡ true → old.parked ≡ true → length s.held < length s.threads
started_room call element s old lawful found stopped parked =
    let t : Elements = record s { threads = set s.threads element (record old { stop = false; parked = false }); held = s.held ++ cond old.parked (hold call element ∷ []) [] } in
    one_more s t (hold call element) (start_law call element s t lawful (started_ok call element s old found stopped)) (ap (λ (b : Bool). s.held ++ cond b (hold call element ∷ []) []) parked) (length-set s.threads element (record old { stop = false; parked = false }))

taken_ok : (ring call count : ℕ) (s : Elements) (q r : Queue) → at ring s.rings ≡ Ok q → take_first 1 count q ≡ Ok r
    → take_element ring call count s ≡ Ok (record s { rings = set s.rings ring r; held = s.held ++ map (hold call) (take count (left q)) })
taken_ok ring call count s q r there takes = rw (there, takes) refl

pub taken_room : (ring call count element : ℕ) (s : Elements) (new : List Queue) → IsLawfulElements s → taken ring count s.rings ≡ Ok (element ∷ []) → change_at ring (take_first 1 count) s.rings ≡ Ok new → length s.held < length s.threads
taken_room ring call count element s new lawful gives changes =
    let a = then_ok (at ring s.rings) _ (element ∷ []) gives in let b = then_ok (take_first 1 count a.0) _ (element ∷ []) a.2 in
    let t : Elements = record s { rings = set s.rings ring b.0; held = s.held ++ map (hold call) (take count (left a.0)) } in
    one_more s t (hold call element) (take_element_law ring call count s t lawful (taken_ok ring call count s a.0 b.0 a.1 b.1)) (ap (λ (xs : List ℕ). s.held ++ map (hold call) xs) (given_ok _ _ b.2)) refl
