-- The table as it is made.
use Rattle.meters.proofs.Common.{◌≡◌, ℕ, suc, replicate, ◌+◌, ◌<◌, ◌≢◌, List, [], ◌∷◌, length, get_or, set, sym, refl, ap, ◌∙◌, subst, arith, get_or-set_other, None, opening, word_of, Shape, first_reading, of_meters, nothing_did, Fits, WordsShow, Rule, newcomer}
use Rattle.std.proofs.Common.{zero}
use Rattle.std.specs.List.{repeat}
use Rattle.table_theory.specs.Ledgers.{opened}
use Rattle.table_theory.proofs.Stepping.{stands_first}

same_everywhere : {A : Type 0} (x : A) (n j : ℕ) → get_or (repeat n (x ∷ [])) j x ≡ x
same_everywhere x zero j = refl
same_everywhere x (suc n) zero = refl
same_everywhere x (suc n) (suc j) = same_everywhere x n j

shows_first : (key : Shape) (words : List ℕ) → key.clock < 4294967296 → length words ≡ 26 → get_or words 9 0 ≡ key.clock → ((j : ℕ) → 0 < j → j ≢ 9 → get_or words j 0 ≡ 0) → WordsShow (first_reading key.clock) words
shows_first key words bounded long clock rest = record {
  wide = long;
  eight = refl;
  gauges = λ g b. rest (1 + g) (omega arith) (λ e. omega arith) ∙ sym (same_everywhere 0 8 g);
  clock = clock;
  bounded = bounded;
  slots = record {
    sixteen = refl;
    fit = λ slot b. subst Fits (sym (same_everywhere None 16 slot)) tt;
    each = λ slot b. rest (10 + slot) (omega arith) (λ e. omega arith) ∙ sym (ap word_of (same_everywhere None 16 slot));
  };
}

pub opens : (key : Shape) (words : List ℕ) → key.clock < 4294967296 → length words ≡ 26 → get_or words 0 0 ≡ 1 → get_or words 9 0 ≡ key.clock → ((j : ℕ) → 0 < j → j ≢ 9 → get_or words j 0 ≡ 0) → Rule key (opening words [] (newcomer key))
opens key words bounded long ends clock rest = record {
  now = opened (first_reading key.clock);
  stands = stands_first of_meters nothing_did (first_reading key.clock) words (λ alarm. refl) (shows_first key words bounded long clock rest) ends;
  listed = record {
    gauges = λ g b. same_everywhere 0 8 g;
    advances = record { number = omega arith; once = λ t past upto. absurd (omega arith); never = λ t out. refl };
    set = λ a. refl;
    fired = λ a. refl;
    cancelled = λ a. refl;
  };
}

-- the words of a new table
pub new_words : (key : Shape) → key.clock < 4294967296 → Rule key (opening (set (set (replicate 26 0) 0 1) 9 key.clock) [] (newcomer key))
new_words key bounded = let z : List ℕ = replicate 26 0 in opens key (set (set z 0 1) 9 key.clock) bounded refl refl refl
    (λ j past ne. get_or-set_other (set z 0 1) 9 j key.clock 0 ne ∙ (get_or-set_other z 0 j 1 0 (λ e. omega arith) ∙ same_everywhere 0 26 j))
