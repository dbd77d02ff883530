-- Names that were declared, one after the other.
use Rattle.boot_script.proofs.Common.{◌≡◌, ℕ, zero, ◌<◌, ◌≤◌, ◌+◌, suc, List, [], ◌∷◌, ◌++◌, ◌∙◌, refl, sym, ap, subst, arith, length, drop, get_or, add-one, true, false, Bool, cond, Ok, Err, drop-cons, drop_all, join_with_byte-slice_split, sum_by_push, sum_by-cons, AllByRecursion, join_with_byte, bytes_eq, NameUnknown, Kind, Named, Version, One, Two, Three, ◌>>=◌, pieces, first_word, later_words, same_kind, if_kind, find, is_declared, count_of, most_of, with_name, tty_part, queue_or_part, queue_named, name_of}
use Rattle.boot_data.specs.declared.kind.Kind.TheVariants.{Queue, Tty, Mover, Gauge, Thread}
use Rattle.boot_script.proofs.Basics.Cuts.{some_pieces}
use Rattle.boot_script.specs.Counted.{IsInRange, AreCounted}

pub find_more : (kind : Kind) (name : List ℕ) (names : List Named) (i : ℕ) (d : Named) → i < length names → bytes_eq name (get_or names i d).name ≡ false → find kind (drop i names) name ≡ find kind (drop (i + 1) names) name
unfolding find
find_more kind name names i d within other = ap (λ ns. find kind ns name) (drop-cons names i d within) ∙ (rw other refl ∙ ap (λ n. find kind (drop n names) name) (sym (add-one i)))

pub find_here : (kind : Kind) (name : List ℕ) (names : List Named) (i : ℕ) (d : Named) → i < length names → bytes_eq name (get_or names i d).name ≡ true → find kind (drop i names) name ≡ if_kind kind (get_or names i d)
unfolding find
find_here kind name names i d within same = ap (λ ns. find kind ns name) (drop-cons names i d within) ∙ rw same refl

pub find_nowhere : (kind : Kind) (name : List ℕ) (names : List Named) (i : ℕ) → length names ≤ i → find kind (drop i names) name ≡ Err NameUnknown
unfolding find
find_nowhere kind name names i past = ap (λ ns. find kind ns name) (drop_all i names past)

pub has_more : (name : List ℕ) (names : List Named) (i : ℕ) (d : Named) → i < length names → bytes_eq name (get_or names i d).name ≡ false → is_declared (drop i names) name ≡ is_declared (drop (i + 1) names) name
unfolding is_declared
has_more name names i d within other = ap (λ ns. is_declared ns name) (drop-cons names i d within) ∙ (rw other refl ∙ ap (λ n. is_declared (drop n names) name) (sym (add-one i)))

pub has_here : (name : List ℕ) (names : List Named) (i : ℕ) (d : Named) → i < length names → bytes_eq name (get_or names i d).name ≡ true → is_declared (drop i names) name ≡ true
unfolding is_declared
has_here name names i d within same = ap (λ ns. is_declared ns name) (drop-cons names i d within) ∙ rw same refl

pub has_nowhere : (name : List ℕ) (names : List Named) (i : ℕ) → length names ≤ i → is_declared (drop i names) name ≡ false
unfolding is_declared
has_nowhere name names i past = ap (λ ns. is_declared ns name) (drop_all i names past)

in_range_at : (names : List Named) (i : ℕ) (d : Named) → AllByRecursion IsInRange names → i < length names → IsInRange (get_or names i d)
in_range_at [] i d all within = absurd (omega (arith, within))
in_range_at (n ∷ ns) zero d all within = all.0
in_range_at (n ∷ ns) (suc i) d all within = in_range_at ns i d all.1 (omega (arith, within))

pub kinds : (a b : Kind) → same_kind a b ≡ true → a ≡ b
kinds Queue Queue h = refl
kinds Tty Tty h = refl
kinds Mover Mover h = refl
kinds Gauge Gauge h = refl
kinds Thread Thread h = refl
kinds Queue Tty h = absurd (cc h)
kinds Queue Mover h = absurd (cc h)
kinds Queue Gauge h = absurd (cc h)
kinds Queue Thread h = absurd (cc h)
kinds Tty Queue h = absurd (cc h)
kinds Tty Mover h = absurd (cc h)
kinds Tty Gauge h = absurd (cc h)
kinds Tty Thread h = absurd (cc h)
kinds Mover Queue h = absurd (cc h)
kinds Mover Tty h = absurd (cc h)
kinds Mover Gauge h = absurd (cc h)
kinds Mover Thread h = absurd (cc h)
kinds Gauge Queue h = absurd (cc h)
kinds Gauge Tty h = absurd (cc h)
kinds Gauge Mover h = absurd (cc h)
kinds Gauge Thread h = absurd (cc h)
kinds Thread Queue h = absurd (cc h)
kinds Thread Tty h = absurd (cc h)
kinds Thread Mover h = absurd (cc h)
kinds Thread Gauge h = absurd (cc h)

-- the number of a name of this kind is below the most of the kind
pub within_kind : (kind : Kind) (names : List Named) (i : ℕ) (d : Named) → AllByRecursion IsInRange names → i < length names → same_kind (get_or names i d).kind kind ≡ true → (get_or names i d).number < most_of Three kind
within_kind kind names i d all within same = subst (λ k. (get_or names i d).number < most_of Three k) (kinds (get_or names i d).kind kind same) (in_range_at names i d all within)

-- one name more, of this kind or another
pub count_push : (kind : Kind) (names : List Named) (n : Named) → count_of kind (names ++ n ∷ []) ≡ count_of kind names + cond (same_kind n.kind kind) 1 0
count_push kind names n = sum_by_push (λ x. cond (same_kind x.kind kind) 1 0) names n

pub count_cons : (kind : Kind) (n : Named) (names : List Named) → count_of kind (n ∷ names) ≡ cond (same_kind n.kind kind) 1 0 + count_of kind names
count_cons kind n names = sum_by-cons (λ x. cond (same_kind x.kind kind) 1 0) n names

one_of : (k : Kind) → 1 ≡ cond (same_kind k Queue) 1 0 + (cond (same_kind k Tty) 1 0 + (cond (same_kind k Mover) 1 0 + (cond (same_kind k Gauge) 1 0 + cond (same_kind k Thread) 1 0)))
one_of Queue = refl
one_of Tty = refl
one_of Mover = refl
one_of Gauge = refl
one_of Thread = refl

-- each name is of one of the five kinds
by_kinds : (names : List Named) → length names ≡ count_of Queue names + (count_of Tty names + (count_of Mover names + (count_of Gauge names + count_of Thread names)))
by_kinds [] = refl
by_kinds (n ∷ names) = omega (arith, by_kinds names, one_of n.kind, count_cons Queue n names, count_cons Tty n names, count_cons Mover n names, count_cons Gauge n names, count_cons Thread n names)

pub all_push : {A : Type 0} (P : A → Type 0) (xs : List A) (x : A) → AllByRecursion P xs → P x → AllByRecursion P (xs ++ x ∷ [])
all_push P [] x all h = (h, tt)
all_push P (y ∷ ys) x all h = (all.0, all_push P ys x all.1 h)

few_more : (kind k : Kind) (names : List Named) (n : Named) (b : Bool) → same_kind n.kind k ≡ b → n.kind ≡ kind → count_of kind names < most_of Three kind → count_of k names ≤ most_of Three k → count_of k (names ++ n ∷ []) ≤ most_of Three k
few_more kind k names n true same is room few =
    let e : kind ≡ k = sym is ∙ kinds n.kind k same in
    let here : count_of k names < most_of Three k = subst (λ x. count_of x names < most_of Three x) e room in
    let one : ◌≡◌ {A = ℕ} (cond (same_kind n.kind k) 1 0) 1 = rw same refl in
    omega (arith, count_push k names n, one, here)
few_more kind k names n false same is room few =
    let none : ◌≡◌ {A = ℕ} (cond (same_kind n.kind k) 1 0) 0 = rw same refl in
    omega (arith, count_push k names n, none, few)

-- there may be one more of a kind of which there are less than there may be
pub counted_more : (kind : Kind) (name : List ℕ) (names : List Named) → AreCounted names → count_of kind names < most_of Three kind → AreCounted (with_name kind name names)
counted_more kind name names h room =
    let n : Named = record { name = name; kind = kind; number = count_of kind names } in
    record {
      few = λ k. few_more kind k names n (same_kind kind k) refl refl room (h.few k);
      numbered = all_push IsInRange names n h.numbered room;
    }

none_few : (kind : Kind) → count_of kind [] ≤ most_of Three kind
none_few kind = omega arith

pub none_counted : AreCounted []
none_counted = record { few = none_few; numbered = tt }

-- no version has more of a kind than the last
pub most_three : (version : Version) (kind : Kind) → most_of version kind ≤ most_of Three kind
most_three version Queue = omega arith
most_three version Tty = omega arith
most_three version Mover = omega arith
most_three version Gauge = omega arith
most_three One Thread = omega arith
most_three Two Thread = omega arith
most_three Three Thread = omega arith

-- the parts after a full stop name a part of a tty
by_parts : (heard : Bool) (names : List Named) (name : List ℕ) (parts : List (List ℕ)) → (parts ≡ [] → ⊥) → queue_or_part heard names name parts ≡ tty_part heard names name (join_with_byte 46 parts)
by_parts heard names name [] some = absurd (some refl)
by_parts heard names name (part ∷ parts) some = refl

pub part_named : (heard : Bool) (names : List Named) (name part : List ℕ) → queue_or_part heard names name (pieces 46 part) ≡ tty_part heard names name part
part_named heard names name part = by_parts heard names name (pieces 46 part) (some_pieces 46 part) ∙ ap (tty_part heard names name) (join_with_byte-slice_split 46 part)

-- where there may be one more of a kind, there is room for a name
pub room_in : (kind : Kind) (names : List Named) → AreCounted names → count_of kind names < most_of Three kind → length names < 86
room_in Queue names h room = omega (arith, by_kinds names, room, h.few Tty, h.few Mover, h.few Gauge, h.few Thread)
room_in Tty names h room = omega (arith, by_kinds names, room, h.few Queue, h.few Mover, h.few Gauge, h.few Thread)
room_in Mover names h room = omega (arith, by_kinds names, room, h.few Tty, h.few Queue, h.few Gauge, h.few Thread)
room_in Gauge names h room = omega (arith, by_kinds names, room, h.few Tty, h.few Mover, h.few Queue, h.few Thread)
room_in Thread names h room = omega (arith, by_kinds names, room, h.few Tty, h.few Mover, h.few Gauge, h.few Queue)

-- a word with a full stop names a part of a tty
pub queue_by_part : (heard : Bool) (names : List Named) (word first part name : List ℕ) → pieces 46 word ≡ first ∷ pieces 46 part → name_of first ≡ Ok name → queue_named heard names word ≡ tty_part heard names name part
unfolding queue_named
queue_by_part heard names word first part name e n =
    ap (λ ps. name_of (first_word ps) >>= λ name. queue_or_part heard names name (later_words ps)) e
    ∙ (ap (λ r. r >>= λ name. queue_or_part heard names name (pieces 46 part)) n ∙ part_named heard names name part)
