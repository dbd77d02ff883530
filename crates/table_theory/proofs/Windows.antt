-- Each event keeps what the words of the places say.
use Rattle.table_theory.proofs.Common.{◌≡◌, ℕ, ◌+◌, ◌-◌, ◌%◌, ◌<◌, ◌≤◌, ◌≢◌, List, length, sym, ap, ◌∙◌, subst, arith, dite, dec_lt, ℕ_discrete, Cell, Positions, stage_at, Lawful, with_claim, with_write, with_take, with_shut}
use Rattle.std.proofs.Common.{mod-lt}
use native.Mathlib.Decide.{dec_le}
use native.Mathlib.Nat.{add-mod_right}
use Rattle.table_theory.specs.Windows.{spot, PlaceShows, PlacesShow}
use Rattle.atomic_table.proofs.Lists.{one_turn}
use Rattle.table_theory.proofs.Positioned.{claim_old, claim_new, past_written, write_else}

pub window_same : (q : Positions) (f d f' d' : ℕ → ℕ) → PlacesShow q f d → ((k : ℕ) → k < q.room → f' k ≡ f k) → ((k : ℕ) → k < q.room → d' k ≡ d k) → PlacesShow q f' d'
window_same q f d f' d' w sf sd = record {
  some_room = w.some_room;
  each = λ i a b. let p = w.each i a b in let k = spot q i in let near : k < q.room = mod-lt (q.first + i) w.some_room in let ef = sf k near in let ed = sd k near in record {
    low = λ h. let x = p.low h in omega arith;
    up = λ h. ef ∙ p.up h;
    holds = λ h. ed ∙ p.holds h;
  };
}

pub window_claim : (q : Positions) (xs : List ℕ) (f d : ℕ → ℕ) → PlacesShow q f d → PlacesShow (with_claim q xs) f d
window_claim q xs f d w = record {
  some_room = w.some_room;
  each = λ i a b. let p = w.each i a b in dite (dec_lt i (length q.places))
      (λ y. let same = claim_old q xs i y in let n : stage_at (with_claim q xs) i ≡ stage_at q i = ap (λ (z : Cell). z.stage) same in record {
        low = λ h. p.low (omega arith);
        up = λ h. p.up (omega arith);
        holds = λ h. p.holds (omega arith) ∙ sym (ap (λ (z : Cell). z.item) same);
      })
      (λ no. let past = past_written q i (omega arith) in let new = claim_new q xs i (omega arith) in record {
        low = λ h. p.low (omega arith);
        up = λ h. absurd (omega arith);
        holds = λ h. absurd (omega arith);
      });
}

pub apart : (q : Positions) (i j : ℕ) → q.taken ≤ i → i < q.taken + q.room → q.taken ≤ j → j < q.taken + q.room → i ≢ j → spot q i ≢ spot q j
apart q i j a b c d ne e = dite (dec_le i j)
    (λ le. let s = one_turn (q.first + i) (q.first + j) q.room (omega arith) (omega arith) e in ne (omega arith))
    (λ no. let s = one_turn (q.first + j) (q.first + i) q.room (omega arith) (omega arith) (sym e) in ne (omega arith))

pub window_write : (q : Positions) (p n : ℕ) (f d f' d' : ℕ → ℕ) → PlacesShow q f d → q.taken ≤ p → p < q.taken + q.room → ((k : ℕ) → k < q.room → k ≢ spot q p → f' k ≡ f k) → ((k : ℕ) → k < q.room → k ≢ spot q p → d' k ≡ d k)
    → PlaceShows (with_write q p n) f' d' p → PlacesShow (with_write q p n) f' d'
window_write q p n f d f' d' w from to sf sd mine = record {
  some_room = w.some_room;
  each = λ i a b. dite (ℕ_discrete i p)
      (λ e. subst (PlaceShows (with_write q p n) f' d') (sym e) mine)
      (λ ne. let old = w.each i a b in let k : ℕ = spot q i in let near : k < q.room = mod-lt (q.first + i) w.some_room in let other = apart q i p a b from to ne in let ef : f' (spot q i) ≡ f (spot q i) = sf k near other in let ed = sd k near other in
      let same = write_else q p i n ne in let m : stage_at (with_write q p n) i ≡ stage_at q i = ap (λ (z : Cell). z.stage) same in record {
        low = λ h. let x = old.low (omega arith) in omega arith;
        up = λ h. ef ∙ old.up (omega arith);
        holds = λ h. ed ∙ (old.holds (omega arith) ∙ sym (ap (λ (z : Cell). z.item) same));
      });
}

pub window_take : (q : Positions) (n : ℕ) (f d : ℕ → ℕ) → PlacesShow q f d → Lawful q → q.taken + n ≤ length q.places → PlacesShow (with_take q n) f d
window_take q n f d w l below = record {
  some_room = w.some_room;
  each = λ i a b. dite (dec_lt i (q.taken + q.room))
      (λ y. let p = w.each i (omega arith) y in record { low = p.low; up = p.up; holds = p.holds })
      (λ no. let within = l.within in let j : ℕ = i - q.room in let back : q.first + j + q.room ≡ q.first + i = omega arith in let room = w.some_room in
      let past = past_written q i (omega arith) in let p = w.each j (omega arith) (omega arith) in
      let round : spot q i ≡ spot q j = ap (λ (z : ℕ). z % q.room) (sym back) ∙ add-mod_right (q.first + j) q.room in let e : f (spot q i) ≡ f (spot q j) = ap f round in record {
        low = λ h. dite (dec_lt (stage_at q j) 2) (λ u. let x = p.low u in omega arith) (λ u. let x = p.up (omega arith) in omega arith);
        up = λ h. absurd (omega arith);
        holds = λ h. absurd (omega arith);
      });
}

pub window_shut : (q : Positions) (f d : ℕ → ℕ) → PlacesShow q f d → PlacesShow (with_shut q) f d
window_shut q f d w = record { some_room = w.some_room; each = λ i a b. let p = w.each i a b in record { low = p.low; up = p.up; holds = p.holds } }

-- what a flag that was found says
pub found_raised : (q : Positions) (f d : ℕ → ℕ) (i : ℕ) → PlacesShow q f d → Lawful q → i < q.taken + q.room → f (spot q i) ≡ q.first + i + 1 → 2 ≤ stage_at q i
found_raised q f d i w l near is = dite (dec_lt i q.taken) (λ y. l.ready i y)
    (λ no. dite (dec_lt (stage_at q i) 2) (λ u. let x = (w.each i (omega arith) near).low u in absurd (omega arith)) (λ u. omega arith))

pub found_not_raised : (q : Positions) (f d : ℕ → ℕ) (i : ℕ) → PlacesShow q f d → q.taken ≤ i → i < q.taken + q.room → f (spot q i) ≢ q.first + i + 1 → stage_at q i < 2
found_not_raised q f d i w from to is = dite (dec_lt (stage_at q i) 2) (λ y. y) (λ no. absurd (is ((w.each i from to).up (omega arith))))
