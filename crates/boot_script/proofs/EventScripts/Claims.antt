-- The lines of claims.
use Rattle.boot_script.proofs.Common.{◌≡◌, ℕ, ◌≤◌, List, [], ◌∷◌, ◌∙◌, refl, ap, subst, arith, length, map, true, false, Bool, cond, Ok, Err, nat_tests, nat_le, AllByRecursion, decimal, Event, QueueName, TooMany, Version, ◌>>=◌, number_of, first_word, later_words, call_of, queue_of, numbers_of, at_most_of, items_of, claim_words}
use Rattle.event_theory.specs.declared.event.Event.TheVariants.{Claim}
use Rattle.boot_script.specs.Spellings.{FitsQueue, FitsItem, call_name, queue_name}
use Rattle.boot_script.proofs.Basics.Binds.{bind_ok, Known, bind_known, test_known, ok_known}
use Rattle.boot_script.proofs.LineWords.Plain.{plain_decimal, ArePlain}
use Rattle.boot_script.proofs.LineWords.Readers.{number_known, number_ok, number_again, call_reader, queue_reader}
use Rattle.boot_script.proofs.LineWords.Rows.{next_ok}

numbers_ok : (most : ℕ) (words : List (List ℕ)) (ns : List ℕ) → numbers_of most words ≡ Ok ns → AllByRecursion (λ n. n ≤ most) ns × (words ≡ map decimal ns)
numbers_ok most [] [] h = (tt, refl)
numbers_ok most [] (n ∷ ns) h = absurd (cc)
numbers_ok most (word ∷ words) [] h =
    let a = bind_ok (number_of most word) (λ n. numbers_of most words >>= λ ns. Ok (n ∷ ns)) [] h in
    let b = bind_ok (numbers_of most words) (λ ns. Ok (a.0 ∷ ns)) [] a.2 in
    absurd (cc (b.2))
numbers_ok most (word ∷ words) (n ∷ ns) h =
    let a = bind_ok (number_of most word) (λ m. numbers_of most words >>= λ ms. Ok (m ∷ ms)) (n ∷ ns) h in
    let b = bind_ok (numbers_of most words) (λ ms. Ok (a.0 ∷ ms)) (n ∷ ns) a.2 in
    let head : a.0 ≡ n = cc (b.2) in
    let tail : b.0 ≡ ns = cc (b.2) in
    let k = number_ok most n word (a.1 ∙ ap Ok head) in
    let rest = numbers_ok most words ns (b.1 ∙ ap Ok tail) in
    ((k.0, rest.0), ap (λ w. w ∷ words) k.1 ∙ ap (λ ws. decimal n ∷ ws) rest.1)

few_ok : (b : Bool) (u : Unit {0}) → cond b (Ok tt) (Err TooMany) ≡ Ok u → b ≡ true
few_ok true u h = refl
few_ok false u h = absurd (cc)

items_ok : (words : List (List ℕ)) (items : List ℕ) → items_of words ≡ Ok items → AllByRecursion FitsItem items × (length items ≤ 256) × (words ≡ map decimal items)
items_ok words items h =
    let a = bind_ok (numbers_of 18446744073709551615 words) (λ ns. at_most_of 256 ns >>= λ end. Ok ns) items h in
    let b = bind_ok (at_most_of 256 a.0) (λ end. Ok a.0) items a.2 in
    let e : a.0 ≡ items = cc (b.2) in
    let ns = numbers_ok 18446744073709551615 words a.0 a.1 in
    let test : nat_le (length a.0) 256 ≡ true = few_ok (nat_le (length a.0) 256) b.0 b.1 in
    let few : length a.0 ≤ 256 = grind (arith, nat_tests) in
    subst (λ is. AllByRecursion FitsItem is × (length is ≤ 256) × (words ≡ map decimal is)) e (ns.0, few, ns.1)

pub claim_ok : (version : Version) (words : List (List ℕ)) (P : Event → Type 0)
    → ((call : ℕ) (queue : QueueName) (items : List ℕ) → call ≤ 63 → FitsQueue version queue → AllByRecursion FitsItem items → length items ≤ 256 → words ≡ call_name call ∷ queue_name queue ∷ map decimal items → P (Claim call queue items))
    → (said : Event) → claim_words version words ≡ Ok said → P said
unfolding claim_words
claim_ok version words P made said h =
    let later = later_words (later_words words) in
    let a = next_ok call_reader words (λ c. queue_of version (first_word (later_words words)) >>= λ q. items_of later >>= λ items. Ok (Claim c q items)) said h in
    let b = next_ok (queue_reader version) (later_words words) (λ q. items_of later >>= λ items. Ok (Claim a.0 q items)) said a.3 in
    let c = bind_ok (items_of later) (λ items. Ok (Claim a.0 b.0 items)) said b.3 in
    let items = items_ok later c.0 c.1 in
    let e : Claim a.0 b.0 c.0 ≡ said = cc (c.2) in
    subst P e (made a.0 b.0 c.0 a.1 b.1 items.0 items.1 (a.2 ∙ ap (λ ws. call_name a.0 ∷ ws) (b.2 ∙ ap (λ ws. queue_name b.0 ∷ ws) items.2)))

numbers_again : (ns : List ℕ) → AllByRecursion FitsItem ns → numbers_of 18446744073709551615 (map decimal ns) ≡ Ok ns
numbers_again [] h = refl
numbers_again (n ∷ ns) h = rw (number_again 18446744073709551615 n h.0 (omega arith), numbers_again ns h.1) refl

few_again : (ns : List ℕ) → length ns ≤ 256 → at_most_of 256 ns ≡ Ok tt
few_again ns few = let test : nat_le (length ns) 256 ≡ true = grind (arith, nat_tests) in rw test refl

items_again : (items : List ℕ) → AllByRecursion FitsItem items → length items ≤ 256 → items_of (map decimal items) ≡ Ok items
items_again items h few = rw (numbers_again items h, few_again items few) refl

pub claim_again : (version : Version) (call : ℕ) (queue : QueueName) (items : List ℕ) → call ≤ 63 → FitsQueue version queue → AllByRecursion FitsItem items → length items ≤ 256
    → claim_words version (call_name call ∷ queue_name queue ∷ map decimal items) ≡ Ok (Claim call queue items)
unfolding claim_words
claim_again version call queue items h k all few = rw (call_reader.again call h, (queue_reader version).again queue k, items_again items all few) refl

pub plain_items : (items : List ℕ) → AllByRecursion FitsItem items → ArePlain (map decimal items)
plain_items [] h = tt
plain_items (n ∷ ns) h = (plain_decimal n (omega (arith, h.0)), plain_items ns h.1)

numbers_known : (most : ℕ) (words : List (List ℕ)) → Known (numbers_of most words)
numbers_known most [] = ok_known []
numbers_known most (word ∷ words) = bind_known (number_of most word) _ (number_known most word) (λ n. bind_known (numbers_of most words) _ (numbers_known most words) (λ ns. ok_known _))

at_most_known : (most : ℕ) (items : List ℕ) → Known (at_most_of most items)
at_most_known most items = test_known {A = Unit {0}} (nat_le (length items) most) (Ok tt) (Err TooMany) (ok_known tt) (λ p. cc)

items_known : (words : List (List ℕ)) → Known (items_of words)
items_known words =
    bind_known (numbers_of 18446744073709551615 words) _ (numbers_known 18446744073709551615 words)
    (λ items. bind_known (at_most_of 256 items) _ (at_most_known 256 items) (λ end. ok_known items))

pub claim_known : (version : Version) (words : List (List ℕ)) → Known (claim_words version words)
unfolding claim_words
claim_known version words =
    let later = later_words (later_words words) in
    bind_known (call_of (first_word words)) _ (call_reader.known (first_word words))
    (λ call. bind_known (queue_of version (first_word (later_words words))) _ ((queue_reader version).known (first_word (later_words words)))
    (λ queue. bind_known (items_of later) _ (items_known later) (λ items. ok_known (Claim call queue items))))
