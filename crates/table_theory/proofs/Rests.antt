-- Each event keeps what the words of places have that aren't written yet.
use Rattle.table_theory.proofs.Common.{◌≡◌, ℕ, ◌+◌, ◌-◌, ◌%◌, ◌<◌, ◌≤◌, ◌≢◌, List, length, sym, ap, ◌∙◌, subst, arith, dite, dec_lt, ℕ_discrete, Cell, Positions, stage_at, item_at, Lawful, with_claim, with_write, with_take, with_shut}
use Rattle.std.proofs.Common.{mod-lt}
use native.Mathlib.Nat.{add-mod_right}
use Rattle.table_theory.specs.Rests.{PlaceRests, PlacesRest}
use Rattle.table_theory.specs.Windows.{spot, PlacesShow}
use Rattle.table_theory.proofs.Positioned.{claim_old, past_written, write_here, write_else}
use Rattle.table_theory.proofs.Windows.{apart}

pub rests_same : (q : Positions) (f d f' d' : ℕ → ℕ) → 0 < q.room → PlacesRest q f d → ((k : ℕ) → k < q.room → f' k ≡ f k) → ((k : ℕ) → k < q.room → d' k ≡ d k) → PlacesRest q f' d'
rests_same q f d f' d' some w sf sd i a b = let p = w i a b in let near : spot q i < q.room = mod-lt (q.first + i) some in record {
  first_flag = λ early low. sf (spot q i) near ∙ p.first_flag early low;
  first_item = λ early low. sd (spot q i) near ∙ p.first_item early low;
  later_flag = λ late low. sf (spot q i) near ∙ p.later_flag late low;
  later_item = λ late low. sd (spot q i) near ∙ p.later_item late low;
}

pub rests_claim : (q : Positions) (xs : List ℕ) (f d : ℕ → ℕ) → Lawful q → PlacesRest q f d → PlacesRest (with_claim q xs) f d
rests_claim q xs f d l w i a b = let p = w i a b in let following = l.taken_within in dite (dec_lt i (length q.places))
    (λ y. let n : stage_at (with_claim q xs) i ≡ stage_at q i = ap (λ (z : Cell). z.stage) (claim_old q xs i y) in record {
      first_flag = λ early low. p.first_flag early (omega arith);
      first_item = λ early low. p.first_item early (omega arith);
      later_flag = λ late low. p.later_flag late (omega arith);
      later_item = λ late low. p.later_item late (omega arith) ∙ sym (ap (λ (z : Cell). z.item) (claim_old q xs (i - q.room) (omega arith)));
    })
    (λ no. let past = past_written q i (omega arith) in record {
      first_flag = λ early low. p.first_flag early (omega arith);
      first_item = λ early low. p.first_item early past;
      later_flag = λ late low. p.later_flag late (omega arith);
      later_item = λ late low. p.later_item late past ∙ sym (ap (λ (z : Cell). z.item) (claim_old q xs (i - q.room) (omega arith)));
    })

-- writing leaves each item
pub write_item : (q : Positions) (p n j : ℕ) → p < length q.places → item_at (with_write q p n) j ≡ item_at q j
write_item q p n j below = dite (ℕ_discrete j p)
    (λ e. subst (λ (z : ℕ). item_at (with_write q p n) z ≡ item_at q z) (sym e) (ap (λ (z : Cell). z.item) (write_here q p n below)))
    (λ ne. ap (λ (z : Cell). z.item) (write_else q p j n ne))

pub rests_write : (q : Positions) (p n : ℕ) (f d f' d' : ℕ → ℕ) → 0 < q.room → PlacesRest q f d → q.taken ≤ p → p < q.taken + q.room → p < length q.places → ((k : ℕ) → k < q.room → k ≢ spot q p → f' k ≡ f k) → ((k : ℕ) → k < q.room → k ≢ spot q p → d' k ≡ d k)
    → PlaceRests (with_write q p n) f' d' p → PlacesRest (with_write q p n) f' d'
rests_write q p n f d f' d' some w from to below sf sd mine i a b = dite (ℕ_discrete i p)
    (λ e. subst (PlaceRests (with_write q p n) f' d') (sym e) mine)
    (λ ne. let old = w i a b in let near : spot q i < q.room = mod-lt (q.first + i) some in let other = apart q i p a b from to ne in let ef : f' (spot q i) ≡ f (spot q i) = sf (spot q i) near other in let ed : d' (spot q i) ≡ d (spot q i) = sd (spot q i) near other in
    let m : stage_at (with_write q p n) i ≡ stage_at q i = ap (λ (z : Cell). z.stage) (write_else q p i n ne) in record {
      first_flag = λ early low. ef ∙ old.first_flag early (omega arith);
      first_item = λ early low. ed ∙ old.first_item early (omega arith);
      later_flag = λ late low. ef ∙ old.later_flag late (omega arith);
      later_item = λ late low. ed ∙ (old.later_item late (omega arith) ∙ sym (write_item q p n (i - q.room) below));
    })

pub rests_take : (q : Positions) (n : ℕ) (f d : ℕ → ℕ) → PlacesShow q f d → PlacesRest q f d → Lawful q → q.taken + n ≤ length q.places → ((i : ℕ) → i < n → 2 ≤ stage_at q (q.taken + i)) → PlacesRest (with_take q n) f d
rests_take q n f d shows w l below up i a b = dite (dec_lt i (q.taken + q.room))
    (λ y. let p = w i (omega arith) y in record { first_flag = p.first_flag; first_item = p.first_item; later_flag = p.later_flag; later_item = p.later_item })
    (λ no. let within = l.within in let j : ℕ = i - q.room in let back : q.first + j + q.room ≡ q.first + i = omega arith in
    let round : spot q i ≡ spot q j = ap (λ (z : ℕ). z % q.room) (sym back) ∙ add-mod_right (q.first + j) q.room in
    let here : q.taken + (j - q.taken) ≡ j = omega arith in let raised : 2 ≤ stage_at q j = subst (λ (z : ℕ). 2 ≤ stage_at q z) here (up (j - q.taken) (omega arith)) in
    let p = shows.each j (omega arith) (omega arith) in record {
      first_flag = λ early low. absurd (omega arith);
      first_item = λ early low. absurd (omega arith);
      later_flag = λ late low. ap f round ∙ p.up raised;
      later_item = λ late low. ap d round ∙ p.holds (omega arith);
    })

pub rests_shut : (q : Positions) (f d : ℕ → ℕ) → PlacesRest q f d → PlacesRest (with_shut q) f d
rests_shut q f d w i a b = let p = w i a b in record { first_flag = p.first_flag; first_item = p.first_item; later_flag = p.later_flag; later_item = p.later_item }

-- in a new queue all words of places are 0
pub rests_first : (q : Positions) (f d : ℕ → ℕ) → q.taken ≡ 0 → ((k : ℕ) → f k ≡ 0) → ((k : ℕ) → d k ≡ 0) → PlacesRest q f d
rests_first q f d none nf nd i a b = record {
  first_flag = λ early low. nf (spot q i);
  first_item = λ early low. nd (spot q i);
  later_flag = λ late low. absurd (omega arith);
  later_item = λ late low. absurd (omega arith);
}
