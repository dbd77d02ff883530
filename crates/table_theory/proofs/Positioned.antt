-- Each event keeps a queue lawful, and the queue grows by it.
use Rattle.table_theory.proofs.Common.{◌≡◌, ℕ, suc, zero, ◌+◌, ◌<◌, ◌≤◌, ◌≢◌, List, [], ◌∷◌, map, length, get_or, sym, refl, ap, ◌∙◌, ◌-◌, subst, arith, length-set, length-append, get_or-set_same, get_or-set_other, false, get_or_append_left, length-map, dite, ℕ_discrete, dec_lt, Cell, Positions, blank, place_at, item_at, stage_at, Lawful, Grows, fresh, with_claim, with_write, with_take, with_shut}
use Rattle.std.proofs.Common.{le_refl, true≢false}
use Rattle.std.proofs.lemmas.List.{get_or-append_right, get_or_past}

pub grows_refl : (q : Positions) → Grows q q
grows_refl q = record { first = refl; room = refl; longer = omega arith; further = omega arith; items = λ i h. refl; more = λ i. le_refl (stage_at q i); shut = λ h. h; still = λ h. refl }

pub grows_trans : (q r s : Positions) → Grows q r → Grows r s → Grows q s
grows_trans q r s f g = record {
  first = g.first ∙ f.first;
  room = g.room ∙ f.room;
  longer = let a = f.longer in let b = g.longer in omega arith;
  further = let a = f.further in let b = g.further in omega arith;
  items = λ i h. let a = f.longer in g.items i (omega arith) ∙ f.items i h;
  more = λ i. let a = f.more i in let b = g.more i in omega arith;
  shut = λ h. g.shut (f.shut h);
  still = λ h. g.still (f.shut h) ∙ f.still h;
}

pub fresh_written : (xs : List ℕ) (i : ℕ) → (get_or (map fresh xs) i blank).stage ≡ 0
fresh_written [] i = refl
fresh_written (x ∷ xs) zero = refl
fresh_written (x ∷ xs) (suc i) = fresh_written xs i

-- the places that were there before a claim, and those after it
pub claim_old : (q : Positions) (xs : List ℕ) (i : ℕ) → i < length q.places → place_at (with_claim q xs) i ≡ place_at q i
claim_old q xs i h = get_or_append_left q.places (map fresh xs) blank i h

pub claim_new : (q : Positions) (xs : List ℕ) (i : ℕ) → length q.places ≤ i → stage_at (with_claim q xs) i ≡ 0
claim_new q xs i h = ap (λ (z : Cell). z.stage) (get_or-append_right q.places (map fresh xs) (length q.places) i blank refl h) ∙ fresh_written xs _

pub past_written : (q : Positions) (i : ℕ) → length q.places ≤ i → stage_at q i ≡ 0
past_written q i h = ap (λ (z : Cell). z.stage) (get_or_past q.places i blank h)

-- a place that is raised was claimed
pub raised_below : (q : Positions) (i : ℕ) → 0 < stage_at q i → i < length q.places
raised_below q i h = dite (dec_lt i (length q.places)) (λ y. y) (λ n. let e = past_written q i (omega arith) in absurd (omega arith))

pub write_here : (q : Positions) (i n : ℕ) → i < length q.places → place_at (with_write q i n) i ≡ record { item = item_at q i; stage = n }
write_here q i n h = get_or-set_same q.places i (record { item = item_at q i; stage = n }) blank h

pub write_else : (q : Positions) (i j n : ℕ) → j ≢ i → place_at (with_write q i n) j ≡ place_at q j
write_else q i j n h = get_or-set_other q.places i j (record { item = item_at q i; stage = n }) blank h

-- a claim leaves what was there
claim_more : (q : Positions) (xs : List ℕ) (i : ℕ) → stage_at q i ≤ stage_at (with_claim q xs) i
claim_more q xs i = dite (dec_lt i (length q.places))
    (λ y. let e : stage_at (with_claim q xs) i ≡ stage_at q i = ap (λ (z : Cell). z.stage) (claim_old q xs i y) in omega arith)
    (λ n. let e = past_written q i (omega arith) in omega arith)

pub claim_grows : (q : Positions) (xs : List ℕ) → q.shut ≡ false → Grows q (with_claim q xs)
claim_grows q xs is_open = record {
  first = refl;
  room = refl;
  longer = omega (arith, length-append q.places (map fresh xs));
  further = omega arith;
  items = λ i h. ap (λ (z : Cell). z.item) (claim_old q xs i h);
  more = claim_more q xs;
  shut = λ h. h;
  still = λ h. absurd (true≢false (sym h ∙ is_open));
}

pub write_grows : (q : Positions) (i n : ℕ) → i < length q.places → stage_at q i ≤ n → Grows q (with_write q i n)
write_grows q i n h le = record {
  first = refl;
  room = refl;
  longer = omega (arith, length-set q.places i (record { item = item_at q i; stage = n }));
  further = omega arith;
  items = λ j b. dite (ℕ_discrete j i)
      (λ e. subst (λ (z : ℕ). item_at (with_write q i n) z ≡ item_at q z) (sym e) (ap (λ (z : Cell). z.item) (write_here q i n h)))
      (λ ne. ap (λ (z : Cell). z.item) (write_else q i j n ne));
  more = λ j. dite (ℕ_discrete j i)
      (λ e. subst (λ (z : ℕ). stage_at q z ≤ stage_at (with_write q i n) z) (sym e) (let w : stage_at (with_write q i n) i ≡ n = ap (λ (z : Cell). z.stage) (write_here q i n h) in omega arith))
      (λ ne. let w : stage_at (with_write q i n) j ≡ stage_at q j = ap (λ (z : Cell). z.stage) (write_else q i j n ne) in omega arith);
  shut = λ x. x;
  still = λ x. length-set q.places i (record { item = item_at q i; stage = n });
}

pub take_grows : (q : Positions) (n : ℕ) → Grows q (with_take q n)
take_grows q n = record { first = refl; room = refl; longer = omega arith; further = omega arith; items = λ i h. refl; more = λ i. le_refl (stage_at q i); shut = λ h. h; still = λ h. refl }

pub shut_grows : (q : Positions) → Grows q (with_shut q)
shut_grows q = record { first = refl; room = refl; longer = omega arith; further = omega arith; items = λ i h. refl; more = λ i. le_refl (stage_at q i); shut = λ h. refl; still = λ h. refl }

pub claim_lawful : (q : Positions) (xs : List ℕ) → Lawful q → length q.places + length xs ≤ q.taken + q.room → Lawful (with_claim q xs)
claim_lawful q xs l room = let following = l.taken_within in record {
  taken_within = omega (arith, length-append q.places (map fresh xs));
  within = omega (arith, length-append q.places (map fresh xs), length-map xs fresh);
  ready = λ i h. let a = l.ready i h in let b = claim_more q xs i in omega arith;
}

pub write_lawful : (q : Positions) (i n : ℕ) → Lawful q → i < length q.places → stage_at q i ≤ n → Lawful (with_write q i n)
write_lawful q i n l h le = let following = l.taken_within in let within = l.within in let long = length-set q.places i (record { item = item_at q i; stage = n }) in record {
  taken_within = omega arith;
  within = omega arith;
  ready = λ j b. let a = l.ready j b in let g = (write_grows q i n h le).more j in omega arith;
}

pub take_lawful : (q : Positions) (n : ℕ) → Lawful q → ((i : ℕ) → i < n → 2 ≤ stage_at q (q.taken + i)) → Lawful (with_take q n)
take_lawful q zero l up = record { taken_within = let a = l.taken_within in omega arith; within = let a = l.within in omega arith; ready = λ i h. l.ready i (omega arith) }
take_lawful q (suc n) l up = let last = raised_below q (q.taken + n) (let u = up n (omega arith) in omega arith) in record {
  taken_within = omega arith;
  within = let a = l.within in omega arith;
  ready = λ i h. dite (dec_lt i q.taken) (λ y. l.ready i y)
      (λ ne. let u = up (i - q.taken) (omega arith) in let e : q.taken + (i - q.taken) ≡ i = omega arith in subst (λ (z : ℕ). 2 ≤ stage_at q z) e u);
}

pub shut_lawful : (q : Positions) → Lawful q → Lawful (with_shut q)
shut_lawful q l = record { taken_within = l.taken_within; within = l.within; ready = l.ready }
