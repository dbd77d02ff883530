-- How each word of a boot script is read where names are in order, and the one word that spells what was read.
use Rattle.boot_script.proofs.Common.{◌≡◌, ◌⊎◌, inl, inr, ℕ, ◌<◌, ◌≤◌, ◌+◌, ◌*◌, ◌&&◌, List, [], ◌∷◌, ◌++◌, ◌∙◌, refl, sym, ap, subst, arith, length, length-append, true, false, Bool, cond, Ok, Err, codes, eqb, nat_tests, bytes_eq-Decides, join_with_byte-slice_split, slice_split-cons_no, slice_split-cons_yes, nat_le, ◌/◌, ◌%◌, list_all, join_with_byte, onto_first, bytes_eq, decimal, NameUnknown, NameTwice, BadName, Kind, Named, QueueIndex, Small, Large, Version, One, Two, Three, ◌>>=◌, pieces, first_word, later_words, number_of, last_wait, is_letter, is_name_byte, is_name, name_of, find, is_declared, if_new, new_name, count_of, number_named, part_of, queue_or_part, queue_named, AreInOrder, name_of_number, part_name, queue_word, IsNew, FitsQueue}
use Rattle.std.proofs.lemmas.Bool.{cases_lt, and_parts as both, or_cases as one_of}
use Rattle.boot_data.specs.declared.kind.Kind.TheVariants as kind
use Rattle.boot_script.proofs.Basics.Binds.{bind_ok, guard_ok, chosen}
use Rattle.boot_script.proofs.BootScripts.Faults.{new_name_known, number_named_known, queue_named_known}
use Rattle.boot_script.proofs.Basics.Cuts.{some_pieces}
use Rattle.boot_script.proofs.Drafts.NameOrder.{found, number_found}
use Rattle.boot_script.proofs.Drafts.NamesSoFar.{queue_by_part}
use Rattle.boot_script.proofs.LineWords.Plain.{is_plain}
use Rattle.boot_script.proofs.LineWords.Readers.{IsReader, number_reader}
use Rattle.boot_script.proofs.EventScripts.Spelled.{both_words}

few_waits : (version : Version) → last_wait version < 18446744073709551616
few_waits One = omega arith
few_waits Two = omega arith
few_waits Three = omega arith

pub wait_number_reader : (version : Version) → IsReader ℕ (number_of (last_wait version)) (λ n. n ≤ last_wait version) decimal
wait_number_reader version = number_reader (last_wait version) (few_waits version)

or_letter : (byte : ℕ) → is_letter byte ≡ true → is_name_byte byte ≡ true
or_letter byte h = rw h refl

-- each byte of a name is allowed in a name
name_bytes : (name : List ℕ) → is_name name ≡ true → list_all is_name_byte name ≡ true
name_bytes [] h = absurd (cc)
name_bytes (first ∷ bytes) h =
    let k = both (is_letter first && list_all is_name_byte bytes) (nat_le (length bytes) 7) h in
    let l = both (is_letter first) (list_all is_name_byte bytes) k.0 in
    rw (or_letter first l.0, l.1) refl

plain_name_byte : (byte : ℕ) → is_name_byte byte ≡ true → is_plain byte ≡ true
unfolding is_plain
plain_name_byte byte h =
    elim (one_of (is_letter byte) (nat_le 48 byte && nat_le byte 57) h) [
      | inl p ↦ grind (arith, nat_tests, both (nat_le 97 byte) (nat_le byte 122) p)
      | inr p ↦ grind (arith, nat_tests, both (nat_le 48 byte) (nat_le byte 57) p)
    ]

no_stop : (byte : ℕ) → is_name_byte byte ≡ true → eqb byte 46 ≡ false
no_stop byte h =
    elim (one_of (is_letter byte) (nat_le 48 byte && nat_le byte 57) h) [
      | inl p ↦ grind (arith, nat_tests, both (nat_le 97 byte) (nat_le byte 122) p)
      | inr p ↦ grind (arith, nat_tests, both (nat_le 48 byte) (nat_le byte 57) p)
    ]

plain_bytes : (bytes : List ℕ) → list_all is_name_byte bytes ≡ true → list_all is_plain bytes ≡ true
plain_bytes [] h = refl
plain_bytes (byte ∷ bytes) h =
    let k = both (is_name_byte byte) (list_all is_name_byte bytes) h in
    rw (plain_name_byte byte k.0, plain_bytes bytes k.1) refl

pub plain_form : (name : List ℕ) → is_name name ≡ true → list_all is_plain name ≡ true
plain_form name h = plain_bytes name (name_bytes name h)

pub some_form : (name : List ℕ) → is_name name ≡ true → 0 < length name
some_form [] h = absurd (cc)
some_form (first ∷ bytes) h = omega arith

-- a new name
new_ok : (names : List Named) (word name : List ℕ) → new_name names word ≡ Ok name → IsNew names name × (word ≡ name)
new_ok names word name h =
    let a = bind_ok (name_of word) (λ name. if_new names name) name h in
    let g = guard_ok (is_name word) word a.0 BadName a.1 in
    elim (chosen (is_declared names a.0) (Err NameTwice) (Ok a.0) (Ok name) a.2) [
      | inl p ↦ absurd (cc (p.1))
      | inr p ↦
          let e : a.0 ≡ name = cc (p.1) in
          ((ap is_name (sym e) ∙ (ap is_name (sym g.1) ∙ g.0), ap (is_declared names) (sym e) ∙ p.0), g.1 ∙ e)
    ]

new_again : (names : List Named) (name : List ℕ) → IsNew names name → new_name names name ≡ Ok name
new_again names name h = rw (h.0, h.1) refl

pub new_name_reader : (names : List Named) → IsReader (List ℕ) (new_name names) (IsNew names) (λ name. name)
new_name_reader names = record {
  known = new_name_known names;
  ok = new_ok names;
  again = new_again names;
  plain = λ name h. plain_form name h.0;
  some = λ name h. some_form name h.0;
}

-- a name of a kind
number_ok : (kind : Kind) (names : List Named) → AreInOrder names → (word : List ℕ) (n : ℕ) → number_named kind names word ≡ Ok n → (n < count_of kind names) × (word ≡ name_of_number kind names n)
number_ok kind names order word n h =
    let a = bind_ok (name_of word) (λ name. find kind names name) n h in
    let g = guard_ok (is_name word) word a.0 BadName a.1 in
    let r = found kind [] names a.0 n order a.2 in
    (omega (arith, r.below), g.1 ∙ sym r.named)

number_form : (kind : Kind) (names : List Named) → AreInOrder names → (n : ℕ) → n < count_of kind names → is_name (name_of_number kind names n) ≡ true
number_form kind names order n h = (found kind [] names (name_of_number kind names n) n order (number_found kind [] names n order (omega arith) (omega (arith, h)))).form

number_again : (kind : Kind) (names : List Named) → AreInOrder names → (n : ℕ) → n < count_of kind names → number_named kind names (name_of_number kind names n) ≡ Ok n
number_again kind names order n h = rw (number_form kind names order n h) (number_found kind [] names n order (omega arith) (omega (arith, h)))

pub number_named_reader : (kind : Kind) (names : List Named) → AreInOrder names → IsReader ℕ (number_named kind names) (λ n. n < count_of kind names) (λ n. name_of_number kind names n)
number_named_reader kind names order = record {
  known = number_named_known kind names;
  ok = number_ok kind names order;
  again = number_again kind names order;
  plain = λ n h. plain_form (name_of_number kind names n) (number_form kind names order n h);
  some = λ n h. some_form (name_of_number kind names n) (number_form kind names order n h);
}

-- a name is cut off at the full stop after it
cut_stop : (name rest : List ℕ) → list_all is_name_byte name ≡ true → pieces 46 (name ++ 46 ∷ rest) ≡ name ∷ pieces 46 rest
cut_stop [] rest h = slice_split-cons_yes (λ b. eqb b 46) 46 rest refl
cut_stop (c ∷ cs) rest h =
    let k = both (is_name_byte c) (list_all is_name_byte cs) h in
    slice_split-cons_no (λ b. eqb b 46) c (cs ++ 46 ∷ rest) (no_stop c k.0) ∙ ap (onto_first c) (cut_stop cs rest k.1)

-- a name has no full stop
no_stops : (name : List ℕ) → list_all is_name_byte name ≡ true → pieces 46 name ≡ name ∷ []
no_stops [] h = refl
no_stops (c ∷ cs) h =
    let k = both (is_name_byte c) (list_all is_name_byte cs) h in
    slice_split-cons_no (λ b. eqb b 46) c cs (no_stop c k.0) ∙ ap (onto_first c) (no_stops cs k.1)

-- the word for a tty's screen queue
screen_word : (names : List Named) (name : List ℕ) (tty : ℕ) → name_of_number kind.Tty names tty ≡ name → name ++ 46 ∷ codes "screen" ≡ queue_word names (Large (tty * 2 + 1))
screen_word names name tty named =
    let half : (tty * 2 + 1) / 2 ≡ tty = omega arith in
    let odd : (tty * 2 + 1) % 2 ≡ 1 = omega arith in
    sym (ap (λ n. name_of_number kind.Tty names n ++ part_name (tty * 2 + 1)) half
    ∙ (ap (λ r. name_of_number kind.Tty names tty ++ cond (eqb r 0) (codes ".line") (codes ".screen")) odd ∙ ap (λ word. word ++ codes ".screen") named))

-- the word for a tty's line queue
line_word : (names : List Named) (name : List ℕ) (tty : ℕ) → name_of_number kind.Tty names tty ≡ name → name ++ 46 ∷ codes "line" ≡ queue_word names (Large (tty * 2))
line_word names name tty named =
    let half : tty * 2 / 2 ≡ tty = omega arith in
    let even : tty * 2 % 2 ≡ 0 = omega arith in
    sym (ap (λ n. name_of_number kind.Tty names n ++ part_name (tty * 2)) half
    ∙ (ap (λ r. name_of_number kind.Tty names tty ++ cond (eqb r 0) (codes ".line") (codes ".screen")) even ∙ ap (λ word. word ++ codes ".line") named))

-- the queue is there, and this is the word for it
abbrev IsQueueWord : Bool → List Named → List ℕ → QueueIndex → Type 0
IsQueueWord heard names word queue = FitsQueue heard names queue × (word ≡ queue_word names queue)

part_ok : (heard : Bool) (names : List Named) (name part : List ℕ) (tty : ℕ) (queue : QueueIndex) → tty < count_of kind.Tty names → name_of_number kind.Tty names tty ≡ name → part_of heard tty part ≡ Ok queue → IsQueueWord heard names (name ++ 46 ∷ part) queue
part_ok heard names name part tty queue below named h =
    elim (chosen (bytes_eq part (codes "screen")) (Ok (Large (tty * 2 + 1))) (cond (heard && bytes_eq part (codes "line")) (Ok (Large (tty * 2))) (Err NameUnknown)) (Ok queue) h) [
      | inl p ↦
          let e : Large (tty * 2 + 1) ≡ queue = cc (p.1) in
          let is : part ≡ codes "screen" = (bytes_eq-Decides part (codes "screen")).0 p.0 in
          subst (IsQueueWord heard names (name ++ 46 ∷ part)) e
          ((omega (arith, below), inr (omega arith)), ap (λ p. name ++ 46 ∷ p) is ∙ screen_word names name tty named)
      | inr p ↦
          let g = guard_ok (heard && bytes_eq part (codes "line")) (Large (tty * 2)) queue NameUnknown p.1 in
          let k = both heard (bytes_eq part (codes "line")) g.0 in
          let is : part ≡ codes "line" = (bytes_eq-Decides part (codes "line")).0 k.1 in
          subst (IsQueueWord heard names (name ++ 46 ∷ part)) g.1
          ((omega (arith, below), inl k.0), ap (λ p. name ++ 46 ∷ p) is ∙ line_word names name tty named)
    ]

queue_or_part_ok : (heard : Bool) (names : List Named) → AreInOrder names → (name : List ℕ) (parts : List (List ℕ)) (queue : QueueIndex) → queue_or_part heard names name parts ≡ Ok queue → IsQueueWord heard names (join_with_byte 46 (name ∷ parts)) queue
queue_or_part_ok heard names order name [] queue h =
    let a = bind_ok (find kind.Queue names name) (λ n. Ok (Small n)) queue h in
    let e : Small a.0 ≡ queue = cc (a.2) in
    let r = found kind.Queue [] names name a.0 order a.1 in
    subst (IsQueueWord heard names name) e (omega (arith, r.below), sym r.named)
queue_or_part_ok heard names order name (part ∷ parts) queue h =
    let whole = join_with_byte 46 (part ∷ parts) in
    let a = bind_ok (find kind.Tty names name) (λ tty. part_of heard tty whole) queue h in
    let r = found kind.Tty [] names name a.0 order a.1 in
    part_ok heard names name whole a.0 queue (omega (arith, r.below)) r.named a.2

queue_ok : (heard : Bool) (names : List Named) → AreInOrder names → (word : List ℕ) (queue : QueueIndex) → queue_named heard names word ≡ Ok queue → IsQueueWord heard names word queue
queue_ok heard names order word queue h =
    let first = first_word (pieces 46 word) in
    let later = later_words (pieces 46 word) in
    let a = bind_ok (name_of first) (λ name. queue_or_part heard names name later) queue h in
    let g = guard_ok (is_name first) first a.0 BadName a.1 in
    let whole : join_with_byte 46 (a.0 ∷ later) ≡ word =
    ap (λ name. join_with_byte 46 (name ∷ later)) (sym g.1)
    ∙ (ap (join_with_byte 46) (sym (both_words (pieces 46 word) (some_pieces 46 word))) ∙ join_with_byte-slice_split 46 word) in
    subst (λ w. IsQueueWord heard names w queue) whole (queue_or_part_ok heard names order a.0 later queue a.2)

-- a queue or pipe by its name
small_again : (heard : Bool) (names : List Named) → AreInOrder names → (n : ℕ) → n < count_of kind.Queue names → queue_named heard names (name_of_number kind.Queue names n) ≡ Ok (Small n)
small_again heard names order n h =
    let name = name_of_number kind.Queue names n in
    let form = number_form kind.Queue names order n h in
    ap (λ ps. name_of (first_word ps) >>= λ name. queue_or_part heard names name (later_words ps)) (no_stops name (name_bytes name form))
    ∙ rw (form, number_found kind.Queue [] names n order (omega arith) (omega (arith, h))) refl

-- a part of a tty by the tty's name
tty_again : (heard : Bool) (names : List Named) → AreInOrder names → (part : List ℕ) (tty : ℕ) → tty < count_of kind.Tty names → queue_named heard names (name_of_number kind.Tty names tty ++ 46 ∷ part) ≡ part_of heard tty part
tty_again heard names order part tty h =
    let name = name_of_number kind.Tty names tty in
    let form = number_form kind.Tty names order tty h in
    let named : name_of name ≡ Ok name = rw form refl in
    queue_by_part heard names (name ++ 46 ∷ part) name part name (cut_stop name part (name_bytes name form)) named
    ∙ rw (number_found kind.Tty [] names tty order (omega arith) (omega (arith, h))) refl

line_again : (heard : Bool) (queue : ℕ) → heard ≡ true → queue % 2 ≡ 0 → part_of heard (queue / 2) (codes "line") ≡ Ok (Large queue)
line_again heard queue h even = let e : queue / 2 * 2 ≡ queue = omega (arith, even) in rw h (ap (λ n. Ok (Large n)) e)

screen_again : (heard : Bool) (queue : ℕ) → queue % 2 ≡ 1 → part_of heard (queue / 2) (codes "screen") ≡ Ok (Large queue)
screen_again heard queue odd = let e : queue / 2 * 2 + 1 ≡ queue = omega (arith, odd) in ap (λ n. Ok (Large n)) e

-- what isn't only a screen queue is heard
even_heard : (heard : Bool) (queue : ℕ) → (heard ≡ true) ⊎ (queue % 2 ≡ 1) → queue % 2 ≡ 0 → heard ≡ true
even_heard heard queue (inl h) even = h
even_heard heard queue (inr odd) even = absurd (omega (arith, odd, even))

either : (n : ℕ) → (n % 2 ≡ 0) ⊎ (n % 2 ≡ 1)
either n =
    elim (cases_lt (n % 2) 1) [
      | inl p ↦ inl (omega (arith, p))
      | inr p ↦ inr (omega (arith, p))
    ]

even_name : (queue : ℕ) → queue % 2 ≡ 0 → part_name queue ≡ codes ".line"
even_name queue even = ap (λ r. cond (eqb r 0) (codes ".line") (codes ".screen")) even

odd_name : (queue : ℕ) → queue % 2 ≡ 1 → part_name queue ≡ codes ".screen"
odd_name queue odd = ap (λ r. cond (eqb r 0) (codes ".line") (codes ".screen")) odd

queue_again : (heard : Bool) (names : List Named) → AreInOrder names → (queue : QueueIndex) → FitsQueue heard names queue → queue_named heard names (queue_word names queue) ≡ Ok queue
queue_again heard names order (Small queue) h = small_again heard names order queue h
queue_again heard names order (Large queue) h =
    let name = name_of_number kind.Tty names (queue / 2) in
    let below : queue / 2 < count_of kind.Tty names = omega (arith, h.0) in
    elim (either queue) [
      | inl p ↦
          ap (λ part. queue_named heard names (name ++ part)) (even_name queue p)
          ∙ (tty_again heard names order (codes "line") (queue / 2) below ∙ line_again heard queue (even_heard heard queue h.1 p) p)
      | inr p ↦
          ap (λ part. queue_named heard names (name ++ part)) (odd_name queue p)
          ∙ (tty_again heard names order (codes "screen") (queue / 2) below ∙ screen_again heard queue p)
    ]

plain_append : (xs ys : List ℕ) → list_all is_plain xs ≡ true → list_all is_plain ys ≡ true → list_all is_plain (xs ++ ys) ≡ true
plain_append [] ys h k = k
plain_append (x ∷ xs) ys h k = let p = both (is_plain x) (list_all is_plain xs) h in rw (p.0, plain_append xs ys p.1 k) refl

plain_part : (queue : ℕ) → list_all is_plain (part_name queue) ≡ true
unfolding is_plain
plain_part queue =
    elim (either queue) [
      | inl p ↦ ap (list_all is_plain) (even_name queue p)
      | inr p ↦ ap (list_all is_plain) (odd_name queue p)
    ]

queue_plain : (heard : Bool) (names : List Named) → AreInOrder names → (queue : QueueIndex) → FitsQueue heard names queue → list_all is_plain (queue_word names queue) ≡ true
queue_plain heard names order (Small queue) h = plain_form (name_of_number kind.Queue names queue) (number_form kind.Queue names order queue h)
queue_plain heard names order (Large queue) h =
    let below : queue / 2 < count_of kind.Tty names = omega (arith, h.0) in
    plain_append (name_of_number kind.Tty names (queue / 2)) (part_name queue)
    (plain_form (name_of_number kind.Tty names (queue / 2)) (number_form kind.Tty names order (queue / 2) below)) (plain_part queue)

queue_some : (heard : Bool) (names : List Named) → AreInOrder names → (queue : QueueIndex) → FitsQueue heard names queue → 0 < length (queue_word names queue)
queue_some heard names order (Small queue) h = some_form (name_of_number kind.Queue names queue) (number_form kind.Queue names order queue h)
queue_some heard names order (Large queue) h =
    let below : queue / 2 < count_of kind.Tty names = omega (arith, h.0) in
    let name = name_of_number kind.Tty names (queue / 2) in
    omega (arith, length-append name (part_name queue), some_form (name_of_number kind.Tty names (queue / 2)) (number_form kind.Tty names order (queue / 2) below))

pub queue_named_reader : (heard : Bool) (names : List Named) → AreInOrder names → IsReader QueueIndex (queue_named heard names) (FitsQueue heard names) (queue_word names)
queue_named_reader heard names order = record {
  known = queue_named_known heard names;
  ok = queue_ok heard names order;
  again = queue_again heard names order;
  plain = queue_plain heard names order;
  some = queue_some heard names order;
}
