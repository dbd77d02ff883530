-- The ways of a switch, and the words that spell them.
use Rattle.boot_script.proofs.Common.{◌≡◌, ◌≢◌, inl, inr, ℕ, ◌<◌, ◌≤◌, ◌&&◌, List, [], ◌∷◌, ◌∙◌, refl, sym, ap, subst, arith, length, true, false, Ok, Err, eqb, nat_tests, nat_le, AllByRecursion, list_all, NameTwice, Line, Named, Switch, Way, ◌>>=◌, first_word, later_words, at_most_of, count_of, number_named, is_key, key_of, way_of, ways_from, ways_of, switch_words, AreInOrder, name_of_number, way_words, IsNew, FitWays}
use Rattle.std.proofs.lemmas.Bool.{and_parts as both, or_parts as neither}
use Rattle.boot_script.specs.declared.boot_lines.Line.TheVariants as line
use Rattle.boot_data.specs.declared.kind.Kind.TheVariants as kind
use Rattle.boot_script.proofs.Basics.Bools.{room_ok}
use Rattle.boot_script.proofs.Basics.Binds.{bind_ok, chosen}
use Rattle.boot_script.proofs.LineWords.Plain.{is_plain, ArePlain}
use Rattle.boot_script.proofs.LineWords.Rows.{next_ok}
use Rattle.boot_script.proofs.BootScripts.Readers.{new_name_reader, number_named_reader}

-- a key differs from those that it isn't among
keys_differ : (key : ℕ) (keys : List ℕ) → is_key keys key ≡ false → AllByRecursion (λ other. key ≢ other) keys
keys_differ key [] h = tt
keys_differ key (k ∷ keys) h =
    let t = neither (eqb key k) (is_key keys key) h in
    let other : key ≢ k = grind (arith, nat_tests, t.0) in
    (other, keys_differ key keys t.1)

no_key : (key : ℕ) (keys : List ℕ) → AllByRecursion (λ other. key ≢ other) keys → is_key keys key ≡ false
no_key key [] h = refl
no_key key (k ∷ keys) h =
    let differs : key ≢ k = h.0 in
    let test : eqb key k ≡ false = grind (arith, nat_tests) in
    rw (test, no_key key keys h.1) refl

key_bounds : (key : ℕ) → list_all is_plain (key ∷ []) ≡ true → (33 ≤ key) × (key ≤ 126)
unfolding is_plain
key_bounds key h =
    let k = both (nat_le 33 key) (nat_le key 126) (both (nat_le 33 key && nat_le key 126) true h).0 in
    let low : 33 ≤ key = grind (arith, nat_tests, k.0) in
    let high : key ≤ 126 = grind (arith, nat_tests, k.1) in
    (low, high)

plain_key : (key : ℕ) → 33 ≤ key → key ≤ 126 → list_all is_plain (key ∷ []) ≡ true
unfolding is_plain
plain_key key low high =
    let a : nat_le 33 key ≡ true = grind (arith, nat_tests) in
    let b : nat_le key 126 ≡ true = grind (arith, nat_tests) in
    rw (a, b) refl

key_ok : (keys word : List ℕ) (key : ℕ) → key_of keys word ≡ Ok key → (word ≡ key ∷ []) × (is_key keys key ≡ false)
key_ok keys [] key h = absurd (cc)
key_ok keys (k ∷ []) key h =
    elim (chosen (is_key keys k) (Err NameTwice) (Ok k) (Ok key) h) [
      | inl p ↦ absurd (cc (p.1))
      | inr p ↦ let e : k ≡ key = cc (p.1) in (ap (λ x. x ∷ []) e, ap (is_key keys) (sym e) ∙ p.0)
    ]
key_ok keys (k ∷ next ∷ more) key h = absurd (cc)

-- a way, and the two words that say it
way_ok : (names : List Named) → AreInOrder names → (keys key to : List ℕ) (way : Way) → way_of names keys key to ≡ Ok way
    → (key ≡ way.key ∷ []) × (is_key keys way.key ≡ false) × (way.to < count_of kind.Queue names) × (to ≡ name_of_number kind.Queue names way.to)
way_ok names order keys key to way h =
    let a = bind_ok (key_of keys key) (λ k. number_named kind.Queue names to >>= λ t. Ok (record { key = k; to = t })) way h in
    let b = bind_ok (number_named kind.Queue names to) (λ t. Ok (record { key = a.0; to = t })) way a.2 in
    let e : record { key = a.0; to = b.0 } ≡ way = cc (b.2) in
    let k = key_ok keys key a.0 a.1 in
    let l = (number_named_reader kind.Queue names order).ok to b.0 b.1 in
    let first : a.0 ≡ way.key = ap (λ w. w.key) e in
    let second : b.0 ≡ way.to = ap (λ w. w.to) e in
    (k.0 ∙ ap (λ x. x ∷ []) first, ap (is_key keys) (sym first) ∙ k.1, subst (λ n. n < count_of kind.Queue names) second l.0, l.1 ∙ ap (name_of_number kind.Queue names) second)

-- a missing word is no name
no_name : (names : List Named) (keys key : List ℕ) (way : Way) → way_of names keys key [] ≡ Ok way → ⊥
no_name names keys key way h =
    let a = bind_ok (key_of keys key) (λ k. number_named kind.Queue names [] >>= λ t. Ok (record { key = k; to = t })) way h in
    let b = bind_ok (number_named kind.Queue names []) (λ t. Ok (record { key = a.0; to = t })) way a.2 in
    absurd (cc (b.1))

ways_from_ok : (names : List Named) → AreInOrder names → (keys : List ℕ) (words : List (List ℕ)) (ways : List Way) → ArePlain words → ways_from names keys words ≡ Ok ways
    → FitWays names keys ways × (words ≡ way_words names ways)
unfolding ways_from
ways_from_ok names order keys [] [] plain h = (tt, refl)
ways_from_ok names order keys [] (way ∷ ways) plain h = absurd (cc)
ways_from_ok names order keys (key ∷ []) ways plain h =
    let a = bind_ok (way_of names keys key []) (λ way. Ok (way ∷ [])) ways h in
    absurd (no_name names keys key a.0 a.1)
ways_from_ok names order keys (key ∷ to ∷ words) [] plain h =
    let a = bind_ok (way_of names keys key to) (λ way. ways_from names (way.key ∷ keys) words >>= λ more. Ok (way ∷ more)) [] h in
    let b = bind_ok (ways_from names (a.0.key ∷ keys) words) (λ more. Ok (a.0 ∷ more)) [] a.2 in
    absurd (cc (b.2))
ways_from_ok names order keys (key ∷ to ∷ words) (way ∷ ways) plain h =
    let a = bind_ok (way_of names keys key to) (λ one. ways_from names (one.key ∷ keys) words >>= λ more. Ok (one ∷ more)) (way ∷ ways) h in
    let b = bind_ok (ways_from names (a.0.key ∷ keys) words) (λ more. Ok (a.0 ∷ more)) (way ∷ ways) a.2 in
    let head : a.0 ≡ way = cc (b.2) in
    let tail : b.0 ≡ ways = cc (b.2) in
    let w = way_ok names order keys key to way (a.1 ∙ ap Ok head) in
    let later : ways_from names (way.key ∷ keys) words ≡ Ok ways = ap (λ one. ways_from names (one.key ∷ keys) words) (sym head) ∙ (b.1 ∙ ap Ok tail) in
    let rest = ways_from_ok names order (way.key ∷ keys) words ways plain.1.1 later in
    let bounds = key_bounds way.key (ap (list_all is_plain) (sym w.0) ∙ plain.0) in (
      (bounds.0, bounds.1, keys_differ way.key keys w.1, w.2, rest.0),
      ap (λ k. k ∷ to ∷ words) w.0 ∙ (ap (λ t. (way.key ∷ []) ∷ t ∷ words) w.3 ∙ ap (λ ws. (way.key ∷ []) ∷ name_of_number kind.Queue names way.to ∷ ws) rest.1),
    )

some_ways : (names : List Named) (word : List ℕ) (words : List (List ℕ)) (ways : List Way) → word ∷ words ≡ way_words names ways → 1 ≤ length ways
some_ways names word words [] e = absurd (cc)
some_ways names word words (way ∷ ways) e = omega arith

ways_ok : (names : List Named) → AreInOrder names → (words : List (List ℕ)) (ways : List Way) → ArePlain words → ways_of names words ≡ Ok ways
    → FitWays names [] ways × (1 ≤ length ways) × (length ways ≤ 4) × (words ≡ way_words names ways)
ways_ok names order [] ways plain h = absurd (cc)
ways_ok names order (word ∷ words) ways plain h =
    let a = bind_ok (ways_from names [] (word ∷ words)) (λ ways. at_most_of 4 ways >>= λ end. Ok ways) ways h in
    let b = bind_ok (at_most_of 4 a.0) (λ end. Ok a.0) ways a.2 in
    let e : a.0 ≡ ways = cc (b.2) in
    let r = ways_from_ok names order [] (word ∷ words) ways plain (a.1 ∙ ap Ok e) in
    let test : nat_le (length a.0) 4 ≡ true = room_ok (nat_le (length a.0) 4) _ b.0 b.1 in
    let few : length a.0 ≤ 4 = grind (arith, nat_tests) in
    (r.0, some_ways names word words ways r.1, subst (λ xs. length xs ≤ 4) e few, r.1)

pub plain_later : (words : List (List ℕ)) → ArePlain words → ArePlain (later_words words)
plain_later [] plain = tt
plain_later (word ∷ words) plain = plain.1

-- the words of a switch
pub switch_ok : (names : List Named) → AreInOrder names → (words : List (List ℕ)) (P : Line → Type 0) → ArePlain words
    → ((name : List ℕ) (from other : ℕ) (ways : List Way) → IsNew names name → from < count_of kind.Queue names → other < count_of kind.Queue names → FitWays names [] ways → 1 ≤ length ways → length ways ≤ 4
    → words ≡ name ∷ name_of_number kind.Queue names from ∷ name_of_number kind.Queue names other ∷ way_words names ways → P (line.Mover (record { name = name; mover = Switch from other ways })))
    → (said : Line) → switch_words names words ≡ Ok said → P said
unfolding switch_words
switch_ok names order words P plain made said h =
    let queues = number_named_reader kind.Queue names order in
    let second = later_words words in
    let third = later_words second in
    let rest = later_words third in
    let a = next_ok (new_name_reader names) words (λ name. number_named kind.Queue names (first_word second) >>= λ from. number_named kind.Queue names (first_word third) >>= λ other. ways_of names rest >>= λ ways. Ok (line.Mover (record { name = name; mover = Switch from other ways }))) said h in
    let b = next_ok queues second (λ from. number_named kind.Queue names (first_word third) >>= λ other. ways_of names rest >>= λ ways. Ok (line.Mover (record { name = a.0; mover = Switch from other ways }))) said a.3 in
    let c = next_ok queues third (λ other. ways_of names rest >>= λ ways. Ok (line.Mover (record { name = a.0; mover = Switch b.0 other ways }))) said b.3 in
    let d = bind_ok (ways_of names rest) (λ ways. Ok (line.Mover (record { name = a.0; mover = Switch b.0 c.0 ways }))) said c.3 in
    let w = ways_ok names order rest d.0 (plain_later third (plain_later second (plain_later words plain))) d.1 in
    let e : line.Mover (record { name = a.0; mover = Switch b.0 c.0 d.0 }) ≡ said = cc (d.2) in
    let from_on : second ≡ name_of_number kind.Queue names b.0 ∷ name_of_number kind.Queue names c.0 ∷ way_words names d.0 =
    b.2 ∙ ap (λ ws. name_of_number kind.Queue names b.0 ∷ ws) (c.2 ∙ ap (λ ws. name_of_number kind.Queue names c.0 ∷ ws) w.3) in
    subst P e (made a.0 b.0 c.0 d.0 a.1 b.1 c.1 w.0 w.1 w.2 (a.2 ∙ ap (λ ws. a.0 ∷ ws) from_on))

key_again : (keys : List ℕ) (key : ℕ) → AllByRecursion (λ other. key ≢ other) keys → key_of keys (key ∷ []) ≡ Ok key
key_again keys key h = rw (no_key key keys h) refl

ways_from_again : (names : List Named) → AreInOrder names → (keys : List ℕ) (ways : List Way) → FitWays names keys ways → ways_from names keys (way_words names ways) ≡ Ok ways
unfolding ways_from
ways_from_again names order keys [] h = refl
ways_from_again names order keys (way ∷ ways) h =
    rw (key_again keys way.key h.2, (number_named_reader kind.Queue names order).again way.to h.3, ways_from_again names order (way.key ∷ keys) ways h.4) refl

few_again : (ways : List Way) → length ways ≤ 4 → at_most_of 4 ways ≡ Ok tt
few_again ways few = let test : nat_le (length ways) 4 ≡ true = grind (arith, nat_tests) in rw test refl

ways_again : (names : List Named) → AreInOrder names → (ways : List Way) → FitWays names [] ways → 1 ≤ length ways → length ways ≤ 4 → ways_of names (way_words names ways) ≡ Ok ways
ways_again names order [] h one few = absurd (omega (arith, one))
ways_again names order (way ∷ ways) h one few = rw (ways_from_again names order [] (way ∷ ways) h, few_again (way ∷ ways) few) refl

pub switch_again : (names : List Named) → AreInOrder names → (name : List ℕ) (from other : ℕ) (ways : List Way) → IsNew names name → from < count_of kind.Queue names → other < count_of kind.Queue names → FitWays names [] ways → 1 ≤ length ways → length ways ≤ 4
    → switch_words names (name ∷ name_of_number kind.Queue names from ∷ name_of_number kind.Queue names other ∷ way_words names ways) ≡ Ok (line.Mover (record { name = name; mover = Switch from other ways }))
unfolding switch_words
switch_again names order name from other ways new h k fits one few =
    let queues = number_named_reader kind.Queue names order in
    rw ((new_name_reader names).again name new, queues.again from h, queues.again other k, ways_again names order ways fits one few) refl

pub plain_ways : (names : List Named) → AreInOrder names → (keys : List ℕ) (ways : List Way) → FitWays names keys ways → ArePlain (way_words names ways)
plain_ways names order keys [] h = tt
plain_ways names order keys (way ∷ ways) h =
    (plain_key way.key h.0 h.1, ((number_named_reader kind.Queue names order).plain way.to h.3, plain_ways names order (way.key ∷ keys) ways h.4))
