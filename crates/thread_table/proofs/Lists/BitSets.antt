-- A word's bits as a list of marks, and bytes as a list of elements.
use Rattle.thread_table.proofs.Common.{◌≡◌, ◌≢◌, ◌∙◌, ℕ, zero, suc, ◌<◌, ◌≤◌, ◌-◌, ◌^◌, ◌*◌, ◌%◌, None, nat_lt, length-map, ext_get_or, either_on, ◌==◌, Bool, true, false, List, refl, sym, ap, ap₂, arith, ⊎_elim, length, get_or, set, length-set, get_or-set_other, cases_eq, cases_lt, if◌then◌else◌, bit_at, bit_and, bit_or, length-map-range_with_len, get_or-map-range_with_len, either, parted}
use Rattle.std.proofs.lemmas.List.{get_or-set_same, get_or-map, get_or_past}
use Rattle.std.proofs.lemmas.List.FromFn.{fill_by_all}
use Rattle.std.proofs.lemmas.Nat.Bits.{bit_at-lt, bit_at_above, bit_at_or, bit_at_and, bit_at_not, bit_at_set_same, bit_at_set_other, bit_at_clear_same, bit_at_clear_other}
use Rattle.std.specs.Int.{bit_not, w64}
use Rattle.std.proofs.Common.{max, min}
use Rattle.thread_table.proofs.Lists.Entries.{length-either, get_or-either, length-parted, get_or-parted, or_else, length-either_on, get_or-either_on}
use Rattle.thread_table.specs.Sets.{marks, element_in, elements_in}

pub length-marks : (n word : ℕ) → length (marks n word) ≡ n
length-marks n word = length-map-range_with_len (λ i. bit_at word i == 1) 0 n

pub get_or-marks : (n word i : ℕ) → i < n → get_or (marks n word) i false ≡ (bit_at word i == 1)
get_or-marks n word i below = get_or-map-range_with_len (λ i. bit_at word i == 1) 0 n i i false below (omega arith)

-- a mark is of a number below n whose bit is set
pub marked : (n word p : ℕ) → get_or (marks n word) p false ≡ true → (p < n) × ((bit_at word p == 1) ≡ true)
marked n word p is = ⊎_elim (λ low. (low, sym (get_or-marks n word p low) ∙ is))
    (λ past. let e : get_or (marks n word) p false ≡ false = get_or_past (marks n word) p false (omega (arith, past, length-marks n word)) in absurd (cc)) (cases_lt p n)

-- each entry is the number's bit, if the word has no more bits
pub get_or-marks_any : (n word : ℕ) → word < 2 ^ n → (p : ℕ) → get_or (marks n word) p false ≡ (bit_at word p == 1)
get_or-marks_any n word fits p = ⊎_elim (get_or-marks n word p)
    (λ past. get_or_past (marks n word) p false (omega (arith, past, length-marks n word)) ∙ sym (ap (λ (b : ℕ). b == 1) (bit_at_above word n p fits past))) (cases_lt p n)

-- a list of n entries that are the bits of the word is the word's list of marks
pub are_marks : (n word : ℕ) (bs : List Bool) → length bs ≡ n → ((i : ℕ) → i < n → get_or bs i false ≡ (bit_at word i == 1)) → marks n word ≡ bs
are_marks n word bs long is = sym (fill_by_all (λ i. bit_at word i == 1) bs n false long is)

-- a word that differs in one bit
pub marks-set : (n old new k : ℕ) (is : Bool) → k < n → (bit_at new k == 1) ≡ is → ((i : ℕ) → i < n → i ≢ k → bit_at new i ≡ bit_at old i) → marks n new ≡ set (marks n old) k is
marks-set n old new k is low here there = are_marks n new (set (marks n old) k is) (length-set (marks n old) k is ∙ length-marks n old)
    (λ i below. ⊎_elim
    (λ same. ap (λ (j : ℕ). get_or (set (marks n old) k is) j false) same ∙ (get_or-set_same (marks n old) k is false (omega (arith, low, length-marks n old)) ∙ (sym here ∙ ap (λ (j : ℕ). bit_at new j == 1) (sym same))))
    (λ apart. get_or-set_other (marks n old) k i is false apart ∙ (get_or-marks n old i below ∙ ap (λ (b : ℕ). b == 1) (sym (there i below apart))))
    (cases_eq i k))

-- the greater of two bits is 1 if either is
max_is_one : (x y : ℕ) → x < 2 → y < 2 → (if x == 1 then true else (y == 1)) ≡ (max x y == 1)
max_is_one zero zero low low' = refl
max_is_one zero (suc zero) low low' = refl
max_is_one zero (suc (suc y)) low low' = absurd (omega (arith, low'))
max_is_one (suc zero) zero low low' = refl
max_is_one (suc zero) (suc zero) low low' = refl
max_is_one (suc zero) (suc (suc y)) low low' = absurd (omega (arith, low'))
max_is_one (suc (suc x)) y low low' = absurd (omega (arith, low))

-- the lesser of a bit and of the other's opposite is 1 if the first is and the other is not
min_is_one : (x y : ℕ) → x < 2 → y < 2 → (if y == 1 then false else (x == 1)) ≡ (min x (1 - y) == 1)
min_is_one zero zero low low' = refl
min_is_one zero (suc zero) low low' = refl
min_is_one zero (suc (suc y)) low low' = absurd (omega (arith, low'))
min_is_one (suc zero) zero low low' = refl
min_is_one (suc zero) (suc zero) low low' = refl
min_is_one (suc zero) (suc (suc y)) low low' = absurd (omega (arith, low'))
min_is_one (suc (suc x)) y low low' = absurd (omega (arith, low))

pub marks-or : (n a b : ℕ) → marks n (bit_or a b) ≡ either (marks n a) (marks n b)
marks-or n a b = are_marks n (bit_or a b) (either (marks n a) (marks n b)) (length-either (marks n a) (marks n b) ∙ length-marks n a)
    (λ i below. get_or-either (marks n a) (marks n b) i (length-marks n b ∙ sym (length-marks n a))
    ∙ (ap₂ (λ (x y : Bool). if x then true else y) (get_or-marks n a i below) (get_or-marks n b i below)
    ∙ (max_is_one (bit_at a i) (bit_at b i) (bit_at-lt a i) (bit_at-lt b i) ∙ ap (λ (z : ℕ). z == 1) (sym (bit_at_or a b i)))))

pub marks-and_not : (n a b : ℕ) → n ≤ 64 → b < 2 ^ 64 → marks n (bit_and a (bit_not w64 b)) ≡ parted (marks n a) (marks n b)
marks-and_not n a b short fits = are_marks n (bit_and a (bit_not w64 b)) (parted (marks n a) (marks n b)) (length-parted (marks n a) (marks n b) ∙ length-marks n a)
    (λ i below. get_or-parted (marks n a) (marks n b) i
    ∙ (ap₂ (λ (x y : Bool). if y then false else x) (get_or-marks n a i below) (get_or-marks n b i below)
    ∙ (min_is_one (bit_at a i) (bit_at b i) (bit_at-lt a i) (bit_at-lt b i)
    ∙ ap (λ (z : ℕ). z == 1) (sym (bit_at_and a (bit_not w64 b) i ∙ ap (min (bit_at a i)) (bit_at_not w64 b i fits (omega (arith, below, short))))))))

pub marks_with : (n word k : ℕ) → n ≤ 64 → k < n → marks n (bit_or word (1 * 2 ^ k % 2 ^ 64)) ≡ set (marks n word) k true
marks_with n word k short low = marks-set n word (bit_or word (1 * 2 ^ k % 2 ^ 64)) k true low
    (ap (λ (b : ℕ). b == 1) (bit_at_set_same w64 word k (omega (arith, short, low)))) (λ i below apart. bit_at_set_other w64 word k (omega (arith, short, low)) i apart)

pub marks_without : (n word k : ℕ) → n ≤ 64 → k < n → marks n (bit_and word (bit_not w64 (1 * 2 ^ k % 2 ^ 64))) ≡ set (marks n word) k false
marks_without n word k short low = marks-set n word (bit_and word (bit_not w64 (1 * 2 ^ k % 2 ^ 64))) k false low
    (ap (λ (b : ℕ). b == 1) (bit_at_clear_same w64 word k (omega (arith, short, low)))) (λ i below apart. bit_at_clear_other w64 word k (omega (arith, short, low)) i (omega (arith, below, short)) apart)

-- the byte of the first map, or if it has no element there, of the second
abbrev pub byte_at : List ℕ → List ℕ → ℕ → ℕ
byte_at xs ys i = if nat_lt (get_or xs i 0) 64 then get_or xs i 0 else get_or ys i 0

element_at : (x y : ℕ) → element_in (if nat_lt x 64 then x else y) ≡ or_else (element_in x) (element_in y)
element_at x y = by_test (nat_lt x 64) refl
  where
    by_test : (t : Bool) → nat_lt x 64 ≡ t → element_in (if nat_lt x 64 then x else y) ≡ or_else (element_in x) (element_in y)
    by_test true is = rw (is, is) refl
    by_test false is = rw is refl

get_or-elements_in : (bytes : List ℕ) (i : ℕ) → i < length bytes → get_or (elements_in bytes) i None ≡ element_in (get_or bytes i 0)
get_or-elements_in bytes i below = get_or-map element_in bytes i 0 None below

pub elements_of_both : (xs ys zs : List ℕ) → length xs ≡ 8 → length ys ≡ 8 → length zs ≡ 8 → ((i : ℕ) → i < 8 → get_or zs i 0 ≡ byte_at xs ys i) → elements_in zs ≡ either_on (elements_in xs) (elements_in ys)
elements_of_both xs ys zs wide wide' wide'' is =
    let long : length (elements_in xs) ≡ length xs = length-map xs element_in in let long' : length (elements_in ys) ≡ length ys = length-map ys element_in in let long'' : length (elements_in zs) ≡ length zs = length-map zs element_in in
    ext_get_or None (elements_in zs) (either_on (elements_in xs) (elements_in ys)) (omega (arith, length-either_on (elements_in xs) (elements_in ys)))
    (λ i below. get_or-elements_in zs i (omega arith) ∙ (ap element_in (is i (omega arith)) ∙ (element_at (get_or xs i 0) (get_or ys i 0)
    ∙ (ap₂ or_else (sym (get_or-elements_in xs i (omega arith))) (sym (get_or-elements_in ys i (omega arith))) ∙ sym (get_or-either_on (elements_in xs) (elements_in ys) i (omega arith))))))
