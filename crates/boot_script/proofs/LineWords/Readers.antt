-- How each kind of word is read, and the one word that spells what was read.
use Rattle.boot_script.proofs.Common.{◌≡◌, inl, inr, ℕ, ◌<◌, ◌≤◌, ◌^◌, ◌&&◌, List, [], ◌∷◌, ◌∙◌, refl, sym, ap, subst, arith, length, true, false, Bool, cond, Result, Ok, Err, codes, eqb, nat_tests, bytes_eq-Decides, decimal_is_IsNumeral, decimal_nonempty, nat_le, list_all, bytes_eq, digits_value, decimal, QueueName, ScriptRefusal, BadNumber, BadName, Listener, Version, One, Two, Three, ◌>>=◌, number_of, is_later, last_element, last_processor, last_wait, in_a_name, numbered_name, the_word, call_of, processor_of, element_of, gauge_of, byte_queue_of, chain_of, wait_of, queue_of, listener_of, Reader}
use Rattle.std.proofs.lemmas.Bool.{eqb-true, and_parts as both_true}
use Rattle.event_theory.specs.declared.names.QueueName.TheVariants as queues
use Rattle.boot_script.specs.declared.names.Listener.TheVariants as listeners
use Rattle.boot_script.specs.Spellings.{FitsQueue, call_name, processor_name, element_name, gauge_name, byte_queue_name, chain_name, wait_name, queue_name}
use Rattle.boot_script.proofs.Basics.Binds.{bind_ok, guard_ok, chosen, or_ok, Known, bind_known, test_known, or_known, ok_known}
use Rattle.boot_script.proofs.LineWords.Plain.{is_plain, plain_decimal, plain_name}

-- what is read of a word fits, and has that word as its one spelling
pub record IsReader (A : Type 0) (read : Reader A) (Fits : A → Type 0) (spell : A → List ℕ) : Type 0 where
  pub known : (word : List ℕ) → Known (read word)
  pub ok : (word : List ℕ) (x : A) → read word ≡ Ok x → Fits x × (word ≡ spell x)
  pub again : (x : A) → Fits x → read (spell x) ≡ Ok x
  pub plain : (x : A) → Fits x → list_all is_plain (spell x) ≡ true
  pub some : (x : A) → Fits x → 0 < length (spell x)

pub number_known : (most : ℕ) (word : List ℕ) → Known (number_of most word)
unfolding number_of
number_known most word = test_known _ (Ok (digits_value 10 word)) (Err BadNumber) (ok_known _) (λ p. cc)

-- a word that is read as a number is how that number is printed
pub number_ok : (most n : ℕ) (word : List ℕ) → number_of most word ≡ Ok n → (n ≤ most) × (word ≡ decimal n)
unfolding number_of
number_ok most n word h =
    let value = digits_value 10 word in
    let g = guard_ok (nat_le value most && bytes_eq (decimal value) word) value n BadNumber h in
    let t = both_true (nat_le value most) (bytes_eq (decimal value) word) g.0 in
    let below : nat_le value most ≡ true = t.0 in
    let small : digits_value 10 word ≤ most = grind (arith, nat_tests) in
    (subst (λ m. m ≤ most) g.1 small, sym ((bytes_eq-Decides (decimal (digits_value 10 word)) word).0 t.1) ∙ ap decimal g.1)

pub number_again : (most n : ℕ) → n ≤ most → most < 2 ^ 64 → number_of most (decimal n) ≡ Ok n
unfolding number_of
number_again most n le small =
    let v : digits_value 10 (decimal n) ≡ n = (decimal_is_IsNumeral n (omega arith)).1 in
    let low : nat_le n most ≡ true = grind (arith, nat_tests) in
    let same : bytes_eq (decimal n) (decimal n) ≡ true = (bytes_eq-Decides (decimal n) (decimal n)).1 refl in
    rw (v, low, same) refl

pub number_reader : (most : ℕ) → most < 2 ^ 64 → IsReader ℕ (number_of most) (λ n. n ≤ most) decimal
number_reader most small = record {
  known = number_known most;
  ok = λ word n h. number_ok most n word h;
  again = λ n h. number_again most n h small;
  plain = λ n h. plain_decimal n (omega arith);
  some = λ n h. decimal_nonempty n (omega arith);
}

pub small_reader : IsReader ℕ (number_of 15) (λ n. n ≤ 15) decimal
small_reader = number_reader 15 (omega arith)

pub capacity_reader : IsReader ℕ (number_of 65535) (λ n. n ≤ 65535) decimal
capacity_reader = number_reader 65535 (omega arith)

pub short_reader : IsReader ℕ (number_of 4294967295) (λ n. n ≤ 4294967295) decimal
short_reader = number_reader 4294967295 (omega arith)

pub long_reader : IsReader ℕ (number_of 18446744073709551615) (λ n. n ≤ 18446744073709551615) decimal
long_reader = number_reader 18446744073709551615 (omega arith)

in_a_name_known : (r : Result ℕ ScriptRefusal) → Known (in_a_name r)
in_a_name_known (Ok n) = ok_known n
in_a_name_known (Err e) = λ p. cc

name_known : (letter most : ℕ) (word : List ℕ) → Known (numbered_name letter most word)
name_known letter most [] = λ p. cc
name_known letter most (first ∷ digits) = test_known (eqb first letter) (in_a_name (number_of most digits)) (Err BadName) (in_a_name_known _) (λ p. cc)

name_number_ok : (r : Result ℕ ScriptRefusal) (n : ℕ) → in_a_name r ≡ Ok n → r ≡ Ok n
name_number_ok (Ok m) n h = h
name_number_ok (Err e) n h = absurd (cc)

by_letter : (b : Bool) (r : Result ℕ ScriptRefusal) (n : ℕ) → cond b (in_a_name r) (Err BadName) ≡ Ok n → (b ≡ true) × (r ≡ Ok n)
by_letter true r n h = (refl, name_number_ok r n h)
by_letter false r n h = absurd (cc)

name_ok : (letter most n : ℕ) (word : List ℕ) → numbered_name letter most word ≡ Ok n → (n ≤ most) × (word ≡ letter ∷ decimal n)
name_ok letter most n [] h = absurd (cc)
name_ok letter most n (first ∷ digits) h =
    let c = by_letter (eqb first letter) (number_of most digits) n h in
    let k = number_ok most n digits c.1 in
    (k.0, ap (λ x. x ∷ digits) (eqb-true first letter c.0) ∙ ap (λ ds. letter ∷ ds) k.1)

own_letter : (letter : ℕ) → eqb letter letter ≡ true
own_letter letter = grind (arith, nat_tests)

name_again : (letter most n : ℕ) → n ≤ most → most < 2 ^ 64 → numbered_name letter most (letter ∷ decimal n) ≡ Ok n
name_again letter most n le small = rw (own_letter letter, number_again most n le small) refl

name_reader : (letter most : ℕ) → most < 2 ^ 64 → is_plain letter ≡ true → IsReader ℕ (numbered_name letter most) (λ n. n ≤ most) (λ n. letter ∷ decimal n)
name_reader letter most small plain = record {
  known = name_known letter most;
  ok = λ word n h. name_ok letter most n word h;
  again = λ n h. name_again letter most n h small;
  plain = λ n h. plain_name letter n (omega arith) plain;
  some = λ n h. omega arith;
}

few_elements : (version : Version) → last_element version < 2 ^ 64
few_elements One = omega arith
few_elements Two = omega arith
few_elements Three = omega arith

few_processors : (version : Version) → last_processor version < 2 ^ 64
few_processors One = omega arith
few_processors Two = omega arith
few_processors Three = omega arith

few_waits : (version : Version) → last_wait version < 2 ^ 64
few_waits One = omega arith
few_waits Two = omega arith
few_waits Three = omega arith

pub call_reader : IsReader ℕ call_of (λ n. n ≤ 63) call_name
unfolding is_plain
call_reader = name_reader 99 63 (omega arith) refl

pub processor_reader : (version : Version) → IsReader ℕ (processor_of version) (λ n. n ≤ last_processor version) processor_name
unfolding is_plain
processor_reader version = name_reader 112 (last_processor version) (few_processors version) refl

pub element_reader : (version : Version) → IsReader ℕ (element_of version) (λ n. n ≤ last_element version) element_name
unfolding is_plain
element_reader version = name_reader 101 (last_element version) (few_elements version) refl

pub gauge_reader : IsReader ℕ gauge_of (λ n. n ≤ 7) gauge_name
unfolding is_plain
gauge_reader = name_reader 103 7 (omega arith) refl

pub byte_queue_reader : IsReader ℕ byte_queue_of (λ n. n ≤ 7) byte_queue_name
unfolding is_plain
byte_queue_reader = name_reader 113 7 (omega arith) refl

pub chain_reader : IsReader ℕ chain_of (λ n. n ≤ 7) chain_name
unfolding is_plain
chain_reader = name_reader 107 7 (omega arith) refl

pub wait_reader : (version : Version) → IsReader ℕ (wait_of version) (λ n. n ≤ last_wait version) wait_name
unfolding is_plain
wait_reader version = name_reader 119 (last_wait version) (few_waits version) refl

-- a word of its own
word_known : {A : Type 0} (named : List ℕ) (x : A) (word : List ℕ) → Known (the_word named x word)
word_known named x word = test_known (bytes_eq word named) (Ok x) (Err BadName) (ok_known x) (λ p. cc)

word_ok : {A : Type 0} (named : List ℕ) (x y : A) (word : List ℕ) → the_word named x word ≡ Ok y → (word ≡ named) × (x ≡ y)
word_ok named x y word h = let g = guard_ok (bytes_eq word named) x y BadName h in ((bytes_eq-Decides word named).0 g.0, g.1)

-- a word that is read as a part is read as what it is a part of
part_ok : {A B : Type 0} {read : Reader A} {Fits : A → Type 0} {spell : A → List ℕ} (part : IsReader A read Fits spell) (whole : A → B) (word : List ℕ) (y : B) → (read word >>= λ x. Ok (whole x)) ≡ Ok y
    → (x : A) × Fits x × (word ≡ spell x) × (whole x ≡ y)
part_ok {read = read} part whole word y h =
    let a = bind_ok (read word) (λ x. Ok (whole x)) y h in
    let k = part.ok word a.0 a.1 in
    (a.0, k.0, k.1, cc (a.2))

part_known : {A B : Type 0} {read : Reader A} {Fits : A → Type 0} {spell : A → List ℕ} (part : IsReader A read Fits spell) (whole : A → B) (word : List ℕ) → Known (read word >>= λ x. Ok (whole x))
part_known {read = read} part whole word = bind_known (read word) (λ x. Ok (whole x)) (part.known word) (λ x. ok_known (whole x))

queue_known : (version : Version) (word : List ℕ) → Known (queue_of version word)
unfolding queue_of
queue_known version word =
    or_known (the_word (codes "ready") queues.Ready word) _ (word_known (codes "ready") queues.Ready word)
    (or_known (the_word (codes "free") queues.Free word) _ (word_known (codes "free") queues.Free word)
    (or_known (byte_queue_of word >>= λ q. Ok (queues.Bytes q)) _ (part_known byte_queue_reader (λ q. queues.Bytes q) word)
    (or_known (chain_of word >>= λ k. Ok (queues.Notes k)) (wait_of version word >>= λ w. Ok (queues.Wait w)) (part_known chain_reader (λ k. queues.Notes k) word) (part_known (wait_reader version) (λ w. queues.Wait w) word))))

IsQueue : Version → List ℕ → QueueName → Type 0
IsQueue version word queue = FitsQueue version queue × (word ≡ queue_name queue)

queue_ok : (version : Version) (word : List ℕ) (queue : QueueName) → queue_of version word ≡ Ok queue → FitsQueue version queue × (word ≡ queue_name queue)
unfolding queue_of IsQueue
queue_ok version word queue h =
    elim (or_ok (the_word (codes "ready") queues.Ready word) _ queue h) [
      | inl p ↦ let k = word_ok (codes "ready") queues.Ready queue word p in subst (IsQueue version word) k.1 (tt, k.0)
      | inr p ↦ elim (or_ok (the_word (codes "free") queues.Free word) _ queue p) [
        | inl q ↦ let k = word_ok (codes "free") queues.Free queue word q in subst (IsQueue version word) k.1 (tt, k.0)
        | inr q ↦ elim (or_ok (byte_queue_of word >>= λ n. Ok (queues.Bytes n)) _ queue q) [
          | inl r ↦ let k = part_ok byte_queue_reader (λ n. queues.Bytes n) word queue r in subst (IsQueue version word) k.3 (k.1, k.2)
          | inr r ↦ elim (or_ok (chain_of word >>= λ n. Ok (queues.Notes n)) (wait_of version word >>= λ n. Ok (queues.Wait n)) queue r) [
            | inl s ↦ let k = part_ok chain_reader (λ n. queues.Notes n) word queue s in subst (IsQueue version word) k.3 (k.1, k.2)
            | inr s ↦ let k = part_ok (wait_reader version) (λ n. queues.Wait n) word queue s in subst (IsQueue version word) k.3 (k.1, k.2)
          ]
        ]
      ]
    ]

queue_again : (version : Version) (queue : QueueName) → FitsQueue version queue → queue_of version (queue_name queue) ≡ Ok queue
unfolding queue_of
queue_again version (queues.Bytes n) h = rw (byte_queue_reader.again n h) refl
queue_again version (queues.Notes n) h = rw (chain_reader.again n h) refl
queue_again version (queues.Wait n) h = rw ((wait_reader version).again n h) refl
queue_again version queues.Ready h = refl
queue_again version queues.Free h = refl

queue_plain : (version : Version) (queue : QueueName) → FitsQueue version queue → list_all is_plain (queue_name queue) ≡ true
unfolding is_plain
queue_plain version (queues.Bytes n) h = byte_queue_reader.plain n h
queue_plain version (queues.Notes n) h = chain_reader.plain n h
queue_plain version (queues.Wait n) h = (wait_reader version).plain n h
queue_plain version queues.Ready h = refl
queue_plain version queues.Free h = refl

queue_some : (queue : QueueName) → 0 < length (queue_name queue)
queue_some (queues.Bytes n) = omega arith
queue_some (queues.Notes n) = omega arith
queue_some (queues.Wait n) = omega arith
queue_some queues.Ready = omega arith
queue_some queues.Free = omega arith

pub queue_reader : (version : Version) → IsReader QueueName (queue_of version) (FitsQueue version) queue_name
queue_reader version = record {
  known = queue_known version;
  ok = queue_ok version;
  again = queue_again version;
  plain = queue_plain version;
  some = λ queue h. queue_some queue;
}

-- the listeners that a notify can have in a version
abbrev pub FitsListener : Version → Listener → Type 0
FitsListener version (listeners.Chain n) = n ≤ 7
FitsListener version (listeners.Wait n) = (is_later version ≡ true) × (n ≤ last_wait version)

abbrev pub listener_name : Listener → List ℕ
listener_name (listeners.Chain n) = chain_name n
listener_name (listeners.Wait n) = wait_name n

listener_known : (version : Version) (word : List ℕ) → Known (listener_of version word)
unfolding listener_of
listener_known version word =
    or_known (chain_of word >>= λ n. Ok (listeners.Chain n)) _ (part_known chain_reader (λ n. listeners.Chain n) word)
    (test_known (is_later version) (wait_of version word >>= λ n. Ok (listeners.Wait n)) (Err BadName) (part_known (wait_reader version) (λ n. listeners.Wait n) word) (λ p. cc))

IsListener : Version → List ℕ → Listener → Type 0
IsListener version word listener = FitsListener version listener × (word ≡ listener_name listener)

listener_ok : (version : Version) (word : List ℕ) (listener : Listener) → listener_of version word ≡ Ok listener → FitsListener version listener × (word ≡ listener_name listener)
unfolding listener_of IsListener
listener_ok version word listener h =
    elim (or_ok (chain_of word >>= λ n. Ok (listeners.Chain n)) _ listener h) [
      | inl p ↦ let k = part_ok chain_reader (λ n. listeners.Chain n) word listener p in subst (IsListener version word) k.3 (k.1, k.2)
      | inr p ↦ elim (chosen (is_later version) (wait_of version word >>= λ n. Ok (listeners.Wait n)) (Err BadName) (Ok listener) p) [
        | inl q ↦ let k = part_ok (wait_reader version) (λ n. listeners.Wait n) word listener q.1 in subst (IsListener version word) k.3 ((q.0, k.1), k.2)
        | inr q ↦ absurd (cc (q.1))
      ]
    ]

listener_again : (version : Version) (listener : Listener) → FitsListener version listener → listener_of version (listener_name listener) ≡ Ok listener
unfolding listener_of
listener_again version (listeners.Chain n) h = rw (chain_reader.again n h) refl
listener_again version (listeners.Wait n) h = rw (h.0, (wait_reader version).again n h.1) refl

listener_plain : (version : Version) (listener : Listener) → FitsListener version listener → list_all is_plain (listener_name listener) ≡ true
listener_plain version (listeners.Chain n) h = chain_reader.plain n h
listener_plain version (listeners.Wait n) h = (wait_reader version).plain n h.1

listener_some : (listener : Listener) → 0 < length (listener_name listener)
listener_some (listeners.Chain n) = omega arith
listener_some (listeners.Wait n) = omega arith

pub listener_reader : (version : Version) → IsReader Listener (listener_of version) (FitsListener version) listener_name
listener_reader version = record {
  known = listener_known version;
  ok = listener_ok version;
  again = listener_again version;
  plain = listener_plain version;
  some = λ listener h. listener_some listener;
}
