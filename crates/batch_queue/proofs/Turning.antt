-- The slots that an end holds are read or written in their order, each by a plain access and a turn.
use Rattle.std.proofs.Common.{◌≡◌, ℕ, zero, suc, ◌+◌, ◌%◌, ◌<◌, ◌≤◌, List, [], ◌∷◌, ◌++◌, length, map, get_or, set, take, drop, sym, refl, ap, ◌∙◌, arith}
use Rattle.std.proofs.lemmas.List.{append_assoc, append-nil, length-append}
use Rattle.atomic_table.specs.Table.{rest, turned}
use Rattle.batch_queue.specs.Slots.{slots_of, value_of}

abbrev pub Slot : Type 0
Slot = ℕ × ℕ

pub slots_snoc : (room p : ℕ) (xs : List ℕ) (x : ℕ) → slots_of room p (xs ++ x ∷ []) ≡ slots_of room p xs ++ ((p + length xs) % room, x) ∷ []
slots_snoc room p [] x = ap (λ (z : ℕ). (z % room, x) ∷ []) (let n : p ≡ p + 0 = omega arith in n)
slots_snoc room p (y ∷ ys) x = ap (λ (z : List Slot). (p % room, y) ∷ z) (slots_snoc room (suc p) ys x ∙ ap (λ (z : ℕ). slots_of room (suc p) ys ++ (z % room, x) ∷ []) (let n : suc p + length ys ≡ p + suc (length ys) = omega arith in n))

pub slots_values : (room p : ℕ) (xs : List ℕ) → map value_of (slots_of room p xs) ≡ xs
slots_values room p [] = refl
slots_values room p (x ∷ xs) = ap (λ (z : List ℕ). x ∷ z) (slots_values room (suc p) xs)

pub take_more : (l : List ℕ) (i : ℕ) → i < length l → take (suc i) l ≡ take i l ++ get_or l i 0 ∷ []
take_more [] i h = absurd (omega arith)
take_more (x ∷ xs) zero h = refl
take_more (x ∷ xs) (suc i) h = ap (λ (z : List ℕ). x ∷ z) (take_more xs i (omega arith))

pub take_whole : (l : List ℕ) (n : ℕ) → length l ≤ n → take n l ≡ l
take_whole [] zero h = refl
take_whole [] (suc n) h = refl
take_whole (x ∷ xs) zero h = absurd (omega arith)
take_whole (x ∷ xs) (suc n) h = ap (λ (z : List ℕ). x ∷ z) (take_whole xs n (omega arith))

no_length : (l : List ℕ) → length l ≡ 0 → l ≡ []
no_length [] h = refl
no_length (x ∷ xs) h = absurd (omega arith)

drop_none : (l : List ℕ) → drop 0 l ≡ l
drop_none [] = refl
drop_none (x ∷ xs) = refl

abbrev first_value : List Slot → ℕ
first_value [] = 0
first_value (x ∷ xs) = x.1

drop_step : (l : List ℕ) (i : ℕ) → i < length l → (x : ℕ) × (drop i l ≡ x ∷ drop (suc i) l)
drop_step [] i h = absurd (omega arith)
drop_step (x ∷ xs) zero h = (x, ap (λ (z : List ℕ). x ∷ z) (sym (drop_none xs)))
drop_step (x ∷ xs) (suc i) h = drop_step xs i (omega arith)

set_front : (got more : List ℕ) (y x : ℕ) → set (got ++ y ∷ more) (length got) x ≡ (got ++ x ∷ []) ++ more
set_front [] more y x = refl
set_front (z ∷ got) more y x = ap (λ (l : List ℕ). z ∷ l) (set_front got more y x)

-- the first slot that is left is in front
pub front : (room p : ℕ) (left : List ℕ) (done c : List Slot) (slot : ℕ) → 0 < length left → slot ≡ p % room → c ≡ slots_of room p left ++ done → (old : ℕ) × (c ≡ (slot, old) ∷ rest c)
front room p [] done c slot h e is = absurd (omega arith)
front room p (x ∷ xs) done c slot h e is = (x, is ∙ (λ k. (sym e k, x) ∷ rest (sym is k)))

-- after it is written and turned, it comes after the others
record Turns (room p start : ℕ) (left done : List ℕ) (new : ℕ) (old : ℕ) (c : List Slot) : Type 0 where
  more : List ℕ
  left_is : left ≡ old ∷ more
  is : c ≡ slots_of room (suc p) more ++ slots_of room start (done ++ new ∷ [])

turns : (room p start slot old new : ℕ) (left done : List ℕ) (c c' : List Slot) → 0 < length left → p ≡ start + length done → slot ≡ p % room → c ≡ slots_of room p left ++ slots_of room start done → c ≡ (slot, old) ∷ rest c → c' ≡ turned ((slot, new) ∷ rest c) → Turns room p start left done new old c'
turns room p start slot old new [] done c c' h at e is here after = absurd (omega arith)
turns room p start slot old new (x ∷ xs) done c c' h at e is here after =
    let same : old ≡ x = ap first_value (sym here ∙ is) in
    let others : rest c ≡ slots_of room (suc p) xs ++ slots_of room start done = ap rest is in record {
      more = xs;
      left_is = λ k. sym same k ∷ xs;
      is = after ∙ (ap (λ (z : List Slot). z ++ (slot, new) ∷ []) others ∙ (append_assoc (slots_of room (suc p) xs) (slots_of room start done) ((slot, new) ∷ [])
          ∙ ap (λ (z : List Slot). slots_of room (suc p) xs ++ z) ((λ k. slots_of room start done ++ ((e ∙ ap (λ (z : ℕ). z % room) at) k, new) ∷ []) ∙ sym (slots_snoc room start done new))));
    }

-- the items before i are written
pub record Writes (room start i : ℕ) (items : List ℕ) (c : List Slot) : Type 0 where
  pub left : List ℕ
  pub long : length left + i ≡ length items
  pub is : c ≡ slots_of room (start + i) left ++ slots_of room start (take i items)

pub writes_none : (room start : ℕ) (items values : List ℕ) (c : List Slot) → length values ≡ length items → c ≡ slots_of room start values → Writes room start 0 items c
writes_none room start items values c long is = record { left = values; long = omega arith; is = is ∙ (ap (λ (z : ℕ). slots_of room z values) (let n : start ≡ start + 0 = omega arith in n) ∙ sym (append-nil (slots_of room (start + 0) values))) }

take_length : (l : List ℕ) (i : ℕ) → i ≤ length l → length (take i l) ≡ i
take_length [] zero h = refl
take_length [] (suc i) h = absurd (omega arith)
take_length (x ∷ xs) zero h = refl
take_length (x ∷ xs) (suc i) h = ap suc (take_length xs i (omega arith))

pub writes_more : (room start i slot : ℕ) (items : List ℕ) (c c' : List Slot) → (w : Writes room start i items c) → i < length items → slot ≡ (start + i) % room → (old : ℕ) → c ≡ (slot, old) ∷ rest c → c' ≡ turned ((slot, get_or items i 0) ∷ rest c) → Writes room start (i + 1) items c'
writes_more room start i slot items c c' w below e old here after = let long = w.long in let taken = take_length items i (omega arith) in
    let t = turns room (start + i) start slot old (get_or items i 0) w.left (take i items) c c' (omega arith) (omega arith) e w.is here after in let l = ap length t.left_is in record {
      left = t.more;
      long = omega arith;
      is = t.is ∙ (let next : suc (start + i) ≡ start + (i + 1) = omega arith in let one : suc i ≡ i + 1 = omega arith in λ k. slots_of room (next k) t.more ++ slots_of room start ((sym (take_more items i below) ∙ ap (λ (z : ℕ). take z items) one) k));
    }

pub writes_all : (room start i : ℕ) (items : List ℕ) (c : List Slot) → Writes room start i items c → length items ≤ i → c ≡ slots_of room start items
writes_all room start i items c w h = let long = w.long in w.is ∙ (λ k. slots_of room (start + i) (no_length w.left (omega arith) k) ++ slots_of room start (take_whole items i h k))

-- the items before i are read
pub record Reads (room start i count : ℕ) (first c : List Slot) (old new : List ℕ) : Type 0 where
  pub got : List ℕ
  pub left : List ℕ
  pub kept : List ℕ
  pub all : map value_of first ≡ got ++ left
  pub long : length got ≡ i
  pub more : length left + i ≡ count
  pub many : length kept ≡ i
  pub is : c ≡ slots_of room (start + i) left ++ slots_of room start kept
  pub items : new ≡ got ++ drop i old

pub reads_none : (room start count : ℕ) (c : List Slot) (values old : List ℕ) → length values ≡ count → c ≡ slots_of room start values → Reads room start 0 count c c old old
reads_none room start count c values old long is = record {
  got = [];
  left = values;
  kept = [];
  all = ap (map value_of) is ∙ slots_values room start values;
  long = refl;
  more = omega arith;
  many = refl;
  is = is ∙ (ap (λ (z : ℕ). slots_of room z values) (let n : start ≡ start + 0 = omega arith in n) ∙ sym (append-nil (slots_of room (start + 0) values)));
  items = sym (drop_none old);
}

set_after : (got old : List ℕ) (x i : ℕ) → length got ≡ i → i < length old → set (got ++ drop i old) i x ≡ (got ++ x ∷ []) ++ drop (suc i) old
set_after got old x i e h = let d = drop_step old i h in ap (λ (z : List ℕ). set (got ++ z) i x) d.1 ∙ ((λ k. set (got ++ d.0 ∷ drop (suc i) old) (sym e k) x) ∙ set_front got (drop (suc i) old) d.0 x)

pub reads_more : (room start i count slot item : ℕ) (first c c' : List Slot) (old new : List ℕ) → (r : Reads room start i count first c old new) → i < count → count ≤ length old → slot ≡ (start + i) % room → c ≡ (slot, item) ∷ rest c → c' ≡ turned c → Reads room start (i + 1) count first c' old (set new i item)
reads_more room start i count slot item first c c' old new r below fits e here after = let long = r.long in let more = r.more in let many = r.many in
    let t = turns room (start + i) start slot item item r.left r.kept c c' (omega arith) (omega arith) e r.is here (after ∙ ap turned here) in let l = ap length t.left_is in let lg = length-append r.got (item ∷ []) in let lz = length-append r.kept (item ∷ []) in record {
      got = r.got ++ item ∷ [];
      left = t.more;
      kept = r.kept ++ item ∷ [];
      all = r.all ∙ (ap (λ (z : List ℕ). r.got ++ z) t.left_is ∙ sym (append_assoc r.got (item ∷ []) t.more));
      long = omega arith;
      more = omega arith;
      many = omega arith;
      is = t.is ∙ ap (λ (z : ℕ). slots_of room z t.more ++ slots_of room start (r.kept ++ item ∷ [])) (let n : suc (start + i) ≡ start + (i + 1) = omega arith in n);
      items = ap (λ (z : List ℕ). set z i item) r.items ∙ (set_after r.got old item i r.long (omega arith) ∙ ap (λ (z : ℕ). (r.got ++ item ∷ []) ++ drop z old) (let n : suc i ≡ i + 1 = omega arith in n));
    }

pub reads_all : (room start i count : ℕ) (first c : List Slot) (old new : List ℕ) → (r : Reads room start i count first c old new) → i ≡ count → (new ≡ map value_of first ++ drop count old) × ((values : List ℕ) × (length values ≡ count) × (c ≡ slots_of room start values))
reads_all room start i count first c old new r e = let more = r.more in let many = r.many in let none = no_length r.left (omega arith) in (
  r.items ∙ (λ k. (sym (append-nil r.got) ∙ (ap (λ (z : List ℕ). r.got ++ z) (sym none) ∙ sym r.all)) k ++ drop (e k) old),
  (r.kept, omega arith, r.is ∙ ap (λ (z : List ℕ). slots_of room (start + i) z ++ slots_of room start r.kept) none),
)
