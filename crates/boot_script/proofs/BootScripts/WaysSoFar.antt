-- The ways of a switch, one after the other.
use Rattle.boot_script.proofs.Common.{◌≡◌, ℕ, ◌<◌, ◌≤◌, ◌+◌, List, [], ◌∷◌, ◌++◌, ◌∙◌, refl, sym, ap, arith, length, length-append, slice_index_or, slice_set, true, false, Bool, Result, Ok, Err, eqb, nat_tests, append-nil, get_or-set_same, get_or-set_other, nat_le, ◌||◌, ScriptRefusal, TooMany, Named, Way, ◌>>=◌, word_at, words_from, at_most_of, AreSeen, is_key, way_of, ways_from, ways_of}
use Rattle.boot_script.proofs.Basics.Gathered.{with_front, regroup}

-- The kept ways, if there was room, and the ways that are still to be read are all that is said; their keys are marked
pub record AreReadSoFar (fits : Bool) (ways : List Way) (seen : List Bool) (names : List Named) (words : List (List ℕ)) (said : Result (List Way) ScriptRefusal) : Type 0 where
  pub front : List Way
  pub keys : List ℕ
  pub marked : AreSeen seen keys
  pub here : fits ≡ true → (ways ≡ front) × (length front ≤ 4)
  pub lost : fits ≡ false → 4 < length front
  pub all : with_front front (ways_from names keys words) ≡ said

-- the next way, and the ways after it
pub next_way : (names : List Named) (keys : List ℕ) (words : List (List ℕ)) → (words ≡ [] → ⊥)
    → ways_from names keys words ≡ (way_of names keys (word_at 0 words) (word_at 1 words) >>= λ way. ways_from names (way.key ∷ keys) (words_from 2 words) >>= λ ways. Ok (way ∷ ways))
unfolding ways_from
next_way names keys [] some = absurd (some refl)
next_way names keys (key ∷ []) some = refl
next_way names keys (key ∷ to ∷ words) some = refl

marked_at : (seen : List Bool) (key k : ℕ) (keys : List ℕ) → AreSeen seen keys → key < length seen → k < 256 → (b : Bool) → eqb k key ≡ b → slice_index_or (slice_set seen key true) k false ≡ (b || is_key keys k)
marked_at seen key k keys marked room few true same =
    let e : k ≡ key = grind (arith, nat_tests) in
    ap (λ i. slice_index_or (slice_set seen key true) i false) e ∙ get_or-set_same seen key true false room
marked_at seen key k keys marked room few false other =
    let e : k ≡ key → ⊥ = grind (arith, nat_tests) in
    get_or-set_other seen key k true false e ∙ marked k few

pub key_marked : (seen : List Bool) (key : ℕ) (keys : List ℕ) → AreSeen seen keys → key < length seen → AreSeen (slice_set seen key true) (key ∷ keys)
key_marked seen key keys marked room k few = marked_at seen key k keys marked room few (eqb k key) refl

pub way_refused : (front : List Way) (names : List Named) (keys : List ℕ) (words : List (List ℕ)) (said : Result (List Way) ScriptRefusal) (refusal : ScriptRefusal) → (words ≡ [] → ⊥)
    → way_of names keys (word_at 0 words) (word_at 1 words) ≡ Err refusal → with_front front (ways_from names keys words) ≡ said → said ≡ Err refusal
way_refused front names keys words said refusal some e all =
    sym all ∙ (ap (with_front front) (next_way names keys words some)
    ∙ ap (λ r. with_front front (r >>= λ way. ways_from names (way.key ∷ keys) (words_from 2 words) >>= λ ways. Ok (way ∷ ways))) e)

way_read : (front : List Way) (names : List Named) (keys : List ℕ) (words : List (List ℕ)) (said : Result (List Way) ScriptRefusal) (way : Way) → (words ≡ [] → ⊥)
    → way_of names keys (word_at 0 words) (word_at 1 words) ≡ Ok way → with_front front (ways_from names keys words) ≡ said → with_front (front ++ way ∷ []) (ways_from names (way.key ∷ keys) (words_from 2 words)) ≡ said
way_read front names keys words said way some e all =
    sym (regroup front way (ways_from names (way.key ∷ keys) (words_from 2 words)))
    ∙ (sym (ap (λ r. with_front front (r >>= λ way. ways_from names (way.key ∷ keys) (words_from 2 words) >>= λ ways. Ok (way ∷ ways))) e)
    ∙ (sym (ap (with_front front) (next_way names keys words some)) ∙ all))

-- one way more, for which there was room
pub pushed_way : (fits : Bool) (old new : List Way) (seen : List Bool) (names : List Named) (words later : List (List ℕ)) (said : Result (List Way) ScriptRefusal) (way : Way) (so_far : AreReadSoFar fits old seen names words said) → (words ≡ [] → ⊥)
    → way_of names so_far.keys (word_at 0 words) (word_at 1 words) ≡ Ok way → later ≡ words_from 2 words → way.key < length seen → length old < 4 → new ≡ old ++ way ∷ [] → AreReadSoFar fits new (slice_set seen way.key true) names later said
pushed_way fits old new seen names words later said way so_far some e rest few room pushed =
    let longer : length (so_far.front ++ way ∷ []) ≡ length so_far.front + 1 = length-append so_far.front (way ∷ []) in
    record {
      front = so_far.front ++ way ∷ [];
      keys = way.key ∷ so_far.keys;
      marked = key_marked seen way.key so_far.keys so_far.marked few;
      here = λ h. (pushed ∙ ap (λ xs. xs ++ way ∷ []) (so_far.here h).0, omega (arith, longer, room, ap length (so_far.here h).0));
      lost = λ h. omega (arith, longer, so_far.lost h);
      all = ap (λ ws. with_front (so_far.front ++ way ∷ []) (ways_from names (way.key ∷ so_far.keys) ws)) rest ∙ way_read so_far.front names so_far.keys words said way some e so_far.all;
    }

long_front : (fits : Bool) (old : List Way) (seen : List Bool) (names : List Named) (words : List (List ℕ)) (said : Result (List Way) ScriptRefusal) (so_far : AreReadSoFar fits old seen names words said) → 4 ≤ length old → 4 ≤ length so_far.front
long_front true old seen names words said so_far full = omega (arith, full, ap length (so_far.here refl).0)
long_front false old seen names words said so_far full = omega (arith, so_far.lost refl)

-- one way more, for which there was none
pub full_way : (fits pushed : Bool) (old new : List Way) (seen : List Bool) (names : List Named) (words later : List (List ℕ)) (said : Result (List Way) ScriptRefusal) (way : Way) (so_far : AreReadSoFar fits old seen names words said) → (words ≡ [] → ⊥)
    → way_of names so_far.keys (word_at 0 words) (word_at 1 words) ≡ Ok way → later ≡ words_from 2 words → way.key < length seen → pushed ≡ false → 4 ≤ length old → AreReadSoFar pushed new (slice_set seen way.key true) names later said
full_way fits pushed old new seen names words later said way so_far some e rest few none full =
    let longer : length (so_far.front ++ way ∷ []) ≡ length so_far.front + 1 = length-append so_far.front (way ∷ []) in
    record {
      front = so_far.front ++ way ∷ [];
      keys = way.key ∷ so_far.keys;
      marked = key_marked seen way.key so_far.keys so_far.marked few;
      here = λ h. absurd (cc (h, none));
      lost = λ h. omega (arith, longer, long_front fits old seen names words said so_far full);
      all = ap (λ ws. with_front (so_far.front ++ way ∷ []) (ways_from names (way.key ∷ so_far.keys) ws)) rest ∙ way_read so_far.front names so_far.keys words said way some e so_far.all;
    }

pub ways_read : (front : List Way) (names : List Named) (keys : List ℕ) (words : List (List ℕ)) (said : Result (List Way) ScriptRefusal) → words ≡ [] → with_front front (ways_from names keys words) ≡ said → said ≡ Ok front
unfolding ways_from
ways_read front names keys words said none all = sym all ∙ (ap (λ ws. with_front front (ways_from names keys ws)) none ∙ ap Ok (append-nil front))

-- what is said of all ways, where there is one
pub ways_said : (names : List Named) (words : List (List ℕ)) → (words ≡ [] → ⊥) → ways_of names words ≡ (ways_from names [] words >>= λ ways. at_most_of 4 ways >>= λ end. Ok ways)
ways_said names [] some = absurd (some refl)
ways_said names (word ∷ words) some = refl

pub few_ways : (ways : List Way) → length ways ≤ 4 → (at_most_of 4 ways >>= λ end. Ok ways) ≡ Ok ways
few_ways ways few = let test : nat_le (length ways) 4 ≡ true = grind (arith, nat_tests) in rw test refl

pub many_ways : (ways : List Way) → 4 < length ways → (at_most_of 4 ways >>= λ end. Ok ways) ≡ Err TooMany
many_ways ways many = let test : nat_le (length ways) 4 ≡ false = grind (arith, nat_tests) in rw test refl

pub no_way_yet : (said : Result (List Way) ScriptRefusal) → with_front [] said ≡ said
no_way_yet (Ok ways) = refl
no_way_yet (Err refusal) = refl

pub fewer_words : (words : List (List ℕ)) → (words ≡ [] → ⊥) → length (words_from 2 words) < length words
fewer_words [] some = absurd (some refl)
fewer_words (key ∷ []) some = omega arith
fewer_words (key ∷ to ∷ words) some = omega arith

pub reported : (done : Bool) (words : List (List ℕ)) → done ≡ false → (words ≡ [] → done ≡ true) → words ≡ [] → ⊥
reported done words no_end end none = absurd (cc (no_end, end none))
