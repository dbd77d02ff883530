-- What is read of a closed table's words, and what was not found in a first part of them.
use Rattle.thread_table.proofs.Common.{◌≡◌, ◌≢◌, ℕ, zero, suc, ◌+◌, ◌*◌, ◌%◌, ◌^◌, ◌<◌, ◌≤◌, ◌==◌, ◌⊎◌, ⊎_elim, inl, inr, List, length, set, get_or, length-set, get_or-set_other, None, Some, Option, refl, sym, ap, subst, ◌∙◌, arith, eq-eqb, ne_eqb, below_more, pow-lt, bit_at, bit_or, dite, dec_le, ℕ_discrete, get_elem?, NOTIFY, ProcessorOf, IsIn, RingOf, PlaceOf, place_by, word_at, head_word, tail_word, place_word}
use Rattle.std.proofs.lemmas.Grind.{get_or-set_at}
use Rattle.thread_table.proofs.Lists.Shuffles.{at_get}
use Rattle.thread_table.proofs.Shown.Bits.{set_bit_same, set_bit_other}
use mathlib.Core.Option as maybe
use Rattle.thread_table.specs.declared.places.Place.TheVariants as places

-- a word that was read
pub read_there : (l : List ℕ) (i j x : ℕ) → i ≡ j → get_elem? l i ≡ maybe.some x → word_at l j ≡ x
read_there l i j x same e = ap (word_at l) (sym same) ∙ at_get l i x 0 e

-- no place of the queue before this position has the element
abbrev pub NotBefore : ℕ → List ℕ → ℕ → ℕ → ℕ → Type 0
NotBefore element words ring tail position = (p : ℕ) → p < position → tail ≤ p → word_at words (place_word ring p) % 256 ≢ element

-- the head and the tail as they were read
pub head_read : (words : List ℕ) (ring h head tail i k : ℕ) → i ≡ head_word ring → k ≡ tail_word ring → get_elem? words i ≡ maybe.some h → get_elem? words k ≡ maybe.some tail
    → (mark : ℕ) → h ≡ head + mark * NOTIFY → head < 4294967296 → (word_at words (head_word ring) % NOTIFY ≡ head) × (word_at words (tail_word ring) ≡ tail)
head_read words ring h head tail i k ii kk at_h at_t mark parts bounded =
    let a : word_at words (head_word ring) ≡ h = read_there words i (head_word ring) h ii at_h in
    (omega arith, read_there words k (tail_word ring) tail kk at_t)

pub cell : (word : ℕ) → bit_at word 17 ≡ 1 → places.Stopped ≡ place_by None None (bit_at word 17 == 1)
cell word is = ap (place_by None None) (sym (eq-eqb (bit_at word 17) 1 is))

pub hand : (word : ℕ) → bit_at word 17 ≡ 0 → places.Held ≡ place_by None None (bit_at word 17 == 1)
hand word is = ap (place_by None None) (sym (ne_eqb (bit_at word 17) 1 (λ e. omega arith)))

-- whether a decidable property holds of some number below this
any_below : (P : ℕ → Type 0) → ((m : ℕ) → P m ⊎ (P m → ⊥)) → (n : ℕ) → ((m : ℕ) × (m < n) × P m) ⊎ ((m : ℕ) → m < n → P m → ⊥)
any_below P each zero = inr (λ m less is. omega arith)
any_below P each (suc n) = ⊎_elim
    (λ found. inl (found.0, omega (arith, found.1), found.2))
    (λ none. ⊎_elim (λ here. inl (n, omega arith, here)) (λ not. inr (λ m less. below_more (λ k. P k → ⊥) n none not m (omega arith))) (each n))
    (any_below P each n)

is_in_or_not : (element : ℕ) (words : List ℕ) (ring : ℕ) → IsIn element words ring ⊎ (IsIn element words ring → ⊥)
is_in_or_not element words ring = ⊎_elim
    (λ found. inl (found.0, found.2.0, found.1, found.2.1))
    (λ none. inr (λ is. none is.0 is.2 (is.1, is.3)))
    (any_below (λ (p : ℕ). (word_at words (tail_word ring) ≤ p) × (word_at words (place_word ring p) % 256 ≡ element))
    (λ p. dite (dec_le (word_at words (tail_word ring)) p)
    (λ from. dite (ℕ_discrete (word_at words (place_word ring p) % 256) element) (λ is. inl (from, is)) (λ ne. inr (λ h. ne h.1)))
    (λ no. inr (λ h. no h.0)))
    (word_at words (head_word ring) % NOTIFY))

-- the element is in a queue or in none
pub some_ring : (element : ℕ) (words : List ℕ) → (ring : Option ℕ) × RingOf element words ring
some_ring element words = ⊎_elim
    (λ found. (Some found.0, (found.1, found.2)))
    (λ none. (None, none))
    (any_below (IsIn element words) (is_in_or_not element words) 18)

pub on_its_processor : (element : ℕ) (words : List ℕ) (p : ℕ) → ProcessorOf element words (Some p) → PlaceOf element words (places.Processor p)
on_its_processor element words p seat = let ring = some_ring element words in (Some p, ring.0, seat, ring.1, refl)

-- a list that was filled so far is filled by one entry more
pub filled_next : {X : Type 0} (P : ℕ → X → Type 0) (xs : List X) (many n i : ℕ) (x d : X) → i ≡ n → n < many → P n x → (length xs ≡ many) × ((m : ℕ) → m < n → P m (get_or xs m d))
    → (length (set xs i x) ≡ many) × ((m : ℕ) → m < n + 1 → P m (get_or (set xs i x) m d))
filled_next P xs many n i x d is below here old = let l = old.0 in (
  length-set xs i x ∙ old.0,
  below_more (λ m. P m (get_or (set xs i x) m d)) n (λ m low. subst (P m) (sym (get_or-set_other xs i m x d (λ e. omega arith))) (old.1 m low))
      (subst (P n) (sym (get_or-set_at xs i n x d (sym is) (omega arith))) here),
)

-- the bits below this number are set where f is 1, and none is set from there on
abbrev pub BitsBelow : (ℕ → ℕ) → ℕ → ℕ → Type 0
BitsBelow f n bits = ((x : ℕ) → x < n → bit_at bits x ≡ f x) × ((x : ℕ) → n ≤ x → bit_at bits x ≡ 0)

bit_next : (f : ℕ → ℕ) (n old new : ℕ) → bit_at new n ≡ f n → ((x : ℕ) → x ≢ n → bit_at new x ≡ bit_at old x) → BitsBelow f n old → BitsBelow f (n + 1) new
bit_next f n old new here other bits = (
  below_more (λ x. bit_at new x ≡ f x) n (λ x low. other x (λ e. omega arith) ∙ bits.0 x low) here,
  λ x far. other x (λ e. omega arith) ∙ bits.1 x (omega arith),
)

pub bit_next_one : (f : ℕ → ℕ) (n old new : ℕ) → n < 64 → new ≡ bit_or old (1 * 2 ^ n % 18446744073709551616) → f n ≡ 1 → BitsBelow f n old → BitsBelow f (n + 1) new
bit_next_one f n old new below is one bits = let bounded : 2 ^ n < 2 ^ 64 = pow-lt {i = n} {j = 64} below in let same : 1 * 2 ^ n % 18446744073709551616 ≡ 2 ^ n = omega arith in
    let now : new ≡ bit_or old (2 ^ n) = is ∙ ap (bit_or old) same in
    bit_next f n old new (ap (λ b. bit_at b n) now ∙ (set_bit_same old n ∙ sym one)) (λ x ne. ap (λ b. bit_at b x) now ∙ set_bit_other old n x ne) bits

pub bit_next_zero : (f : ℕ → ℕ) (n old new : ℕ) → new ≡ old → f n ≡ 0 → BitsBelow f n old → BitsBelow f (n + 1) new
bit_next_zero f n old new is none bits = bit_next f n old new (ap (λ b. bit_at b n) is ∙ (bits.1 n (omega arith) ∙ sym none)) (λ x ne. ap (λ b. bit_at b x) is) bits
