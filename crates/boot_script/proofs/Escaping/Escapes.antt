-- The spellings of a text.
use Rattle.boot_script.proofs.Common.{◌≡◌, ◌≢◌, inl, inr, ℕ, ◌<◌, ◌≤◌, ◌+◌, ◌-◌, ◌*◌, ◌&&◌, List, [], ◌∷◌, ◌++◌, ◌∙◌, refl, sym, ap, subst, arith, true, false, cond, Result, Ok, Err, nat_le, nat_lt, ◌/◌, ◌%◌, eqb, nat_tests, AllByRecursion, list_all, ScriptRefusal, BadNumber, ◌>>=◌, is_printable, digit_of, escape_of, before, bytes_of, digit_for, escape, IsText}
use Rattle.std.proofs.lemmas.Bool.{cases_lt, and_parts as both}
use Rattle.boot_script.proofs.Basics.Bools.{either}
use Rattle.boot_script.proofs.Basics.Binds.{bind_ok, chosen}
use Rattle.boot_script.proofs.Escaping.Unescaped.{plain_byte, escaped_byte, wanting}

quotient : (h l : ℕ) → l < 16 → (h * 16 + l) / 16 ≡ h
quotient h l small = omega arith

remainder : (h l : ℕ) → l < 16 → (h * 16 + l) % 16 ≡ l
remainder h l small = omega arith

-- a digit is that of its value
digit_ok : (digit v : ℕ) → digit_of digit ≡ Ok v → (v < 16) × (digit ≡ digit_for v)
digit_ok digit v h =
    elim (chosen (nat_le 48 digit && nat_le digit 57) (Ok (digit - 48)) (cond (nat_le 65 digit && nat_le digit 70) (Ok (digit - 55)) (Err BadNumber)) (Ok v) h) [
      | inl p ↦
          let t = both (nat_le 48 digit) (nat_le digit 57) p.0 in
          let low : 48 ≤ digit = grind (arith, nat_tests, t.0) in
          let high : digit ≤ 57 = grind (arith, nat_tests, t.1) in
          let e : digit - 48 ≡ v = cc (p.1) in
          let same : digit ≡ v + 48 = omega arith in
          let test : nat_lt v 10 ≡ true = grind (arith, nat_tests) in
          (omega arith, rw test same)
      | inr p ↦ elim (chosen (nat_le 65 digit && nat_le digit 70) (Ok (digit - 55)) (Err BadNumber) (Ok v) p.1) [
        | inl q ↦
            let t = both (nat_le 65 digit) (nat_le digit 70) q.0 in
            let low : 65 ≤ digit = grind (arith, nat_tests, t.0) in
            let high : digit ≤ 70 = grind (arith, nat_tests, t.1) in
            let e : digit - 55 ≡ v = cc (q.1) in
            let same : digit ≡ v + 55 = omega arith in
            let test : nat_lt v 10 ≡ false = grind (arith, nat_tests) in
            (omega arith, rw test same)
        | inr q ↦ absurd (cc (q.1))
      ]
    ]

low_digit : (v : ℕ) → v < 10 → digit_of (v + 48) ≡ Ok v
low_digit v small =
    let a : nat_le 48 (v + 48) ≡ true = grind (arith, nat_tests) in
    let b : nat_le (v + 48) 57 ≡ true = grind (arith, nat_tests) in
    let e : v + 48 - 48 ≡ v = omega arith in
    rw (a, b) (ap Ok e)

high_digit : (v : ℕ) → 10 ≤ v → v < 16 → digit_of (v + 55) ≡ Ok v
high_digit v large small =
    let a : nat_le (v + 55) 57 ≡ false = grind (arith, nat_tests) in
    let b : nat_le 48 (v + 55) ≡ true = grind (arith, nat_tests) in
    let c : nat_le 65 (v + 55) ≡ true = grind (arith, nat_tests) in
    let d : nat_le (v + 55) 70 ≡ true = grind (arith, nat_tests) in
    let e : v + 55 - 55 ≡ v = omega arith in
    rw (a, b, c, d) (ap Ok e)

digit_again : (v : ℕ) → v < 16 → digit_of (digit_for v) ≡ Ok v
digit_again v small =
    elim (cases_lt v 10) [
      | inl p ↦ let test : nat_lt v 10 ≡ true = grind (arith, nat_tests) in rw test (low_digit v p)
      | inr p ↦ let test : nat_lt v 10 ≡ false = grind (arith, nat_tests) in rw test (high_digit v p small)
    ]

printable_digit : (v : ℕ) → v < 16 → is_printable (digit_for v) ≡ true
printable_digit v small =
    elim (cases_lt v 10) [
      | inl p ↦
          let test : nat_lt v 10 ≡ true = grind (arith, nat_tests) in
          let a : nat_le 32 (v + 48) ≡ true = grind (arith, nat_tests) in
          let b : nat_le (v + 48) 126 ≡ true = grind (arith, nat_tests) in
          rw (test, a, b) refl
      | inr p ↦
          let test : nat_lt v 10 ≡ false = grind (arith, nat_tests) in
          let a : nat_le 32 (v + 55) ≡ true = grind (arith, nat_tests) in
          let b : nat_le (v + 55) 126 ≡ true = grind (arith, nat_tests) in
          rw (test, a, b) refl
    ]

-- two digits are the escape of their byte
escape_ok : (high low byte : ℕ) → escape_of high low ≡ Ok byte → (byte < 256) × (92 ∷ high ∷ low ∷ [] ≡ escape byte)
escape_ok high low byte h =
    let a = bind_ok (digit_of high) (λ n. digit_of low >>= λ m. Ok (n * 16 + m)) byte h in
    let b = bind_ok (digit_of low) (λ m. Ok (a.0 * 16 + m)) byte a.2 in
    let e : a.0 * 16 + b.0 ≡ byte = cc (b.2) in
    let k = digit_ok high a.0 a.1 in
    let l = digit_ok low b.0 b.1 in
    let first : high ≡ digit_for (byte / 16) = k.1 ∙ ap digit_for (sym (quotient a.0 b.0 l.0) ∙ ap (λ n. n / 16) e) in
    let second : low ≡ digit_for (byte % 16) = l.1 ∙ ap digit_for (sym (remainder a.0 b.0 l.0) ∙ ap (λ n. n % 16) e) in
    (omega (arith, k.0, l.0, e), ap (λ d. 92 ∷ d ∷ low ∷ []) first ∙ ap (λ d. 92 ∷ digit_for (byte / 16) ∷ d ∷ []) second)

escape_again : (byte : ℕ) → byte < 256 → escape_of (digit_for (byte / 16)) (digit_for (byte % 16)) ≡ Ok byte
escape_again byte small =
    let e : byte / 16 * 16 + byte % 16 ≡ byte = omega arith in
    let h : byte / 16 < 16 = omega arith in
    let l : byte % 16 < 16 = omega arith in
    rw (digit_again (byte / 16) h, digit_again (byte % 16) l) (ap Ok e)

before_ok : (byte : ℕ) (said : Result (List ℕ) ScriptRefusal) (bytes : List ℕ) → before byte said ≡ Ok bytes → (later : List ℕ) × (said ≡ Ok later) × (byte ∷ later ≡ bytes)
before_ok byte (Ok later) bytes h = (later, refl, cc)
before_ok byte (Err refusal) bytes h = absurd (cc)

-- a byte that is written as itself
text_plain : (byte : ℕ) (text bytes : List ℕ) → eqb byte 92 ≡ false → is_printable byte ≡ true → ((later : List ℕ) → bytes_of text ≡ Ok later → IsText later text) → bytes_of (byte ∷ text) ≡ Ok bytes → IsText bytes (byte ∷ text)
text_plain byte text bytes other printable more h =
    let a = before_ok byte (bytes_of text) bytes (sym (plain_byte byte text other) ∙ h) in
    let differs : byte ≢ 92 = grind (arith, nat_tests) in
    subst (λ bs. IsText bs (byte ∷ text)) a.2 (byte ∷ [], text, inl (printable, differs, refl), refl, more a.0 a.1)

-- a byte by its escape
text_escaped : (byte high low : ℕ) (text bytes : List ℕ) → eqb byte 92 ≡ true → ((later : List ℕ) → bytes_of text ≡ Ok later → IsText later text) → bytes_of (byte ∷ high ∷ low ∷ text) ≡ Ok bytes → IsText bytes (byte ∷ high ∷ low ∷ text)
text_escaped byte high low text bytes mark more h =
    let a = bind_ok (escape_of high low) (λ escaped. before escaped (bytes_of text)) bytes (sym (escaped_byte byte high low text mark) ∙ h) in
    let b = before_ok a.0 (bytes_of text) bytes a.2 in
    let k = escape_ok high low a.0 a.1 in
    let is : byte ≡ 92 = grind (arith, nat_tests) in
    let e : byte ∷ high ∷ low ∷ text ≡ escape a.0 ++ text = ap (λ x. x ∷ high ∷ low ∷ text) is ∙ ap (λ front. front ++ text) k.1 in
    subst (λ bs. IsText bs (byte ∷ high ∷ low ∷ text)) b.2 (escape a.0, text, inr (k.0, refl), e, more b.0 b.1)

-- a text of printable bytes spells what it says
pub text_ok : (text bytes : List ℕ) → list_all is_printable text ≡ true → bytes_of text ≡ Ok bytes → IsText bytes text
unfolding bytes_of
text_ok [] bytes printable h = let e : [] ≡ bytes = cc in subst (λ bs. IsText bs []) e refl
text_ok (byte ∷ []) bytes printable h =
    elim (either (eqb byte 92)) [
      | inl p ↦ absurd (cc (wanting byte [] p (omega arith), h))
      | inr p ↦ text_plain byte [] bytes p (both (is_printable byte) true printable).0 (λ later k. text_ok [] later refl k) h
    ]
text_ok (byte ∷ next ∷ []) bytes printable h =
    let k = both (is_printable byte) (list_all is_printable (next ∷ [])) printable in
    elim (either (eqb byte 92)) [
      | inl p ↦ absurd (cc (wanting byte (next ∷ []) p (omega arith), h))
      | inr p ↦ text_plain byte (next ∷ []) bytes p k.0 (λ later l. text_ok (next ∷ []) later k.1 l) h
    ]
text_ok (byte ∷ high ∷ low ∷ text) bytes printable h =
    let k = both (is_printable byte) (list_all is_printable (high ∷ low ∷ text)) printable in
    let l = both (is_printable high) (list_all is_printable (low ∷ text)) k.1 in
    let m = both (is_printable low) (list_all is_printable text) l.1 in
    elim (either (eqb byte 92)) [
      | inl p ↦ text_escaped byte high low text bytes p (λ later e. text_ok text later m.1 e) h
      | inr p ↦ text_plain byte (high ∷ low ∷ text) bytes p k.0 (λ later e. text_ok (high ∷ low ∷ text) later k.1 e) h
    ]

-- what spells bytes says them
pub text_again : (text bytes : List ℕ) → IsText bytes text → bytes_of text ≡ Ok bytes
unfolding bytes_of
text_again text [] h = ap bytes_of h
text_again text (byte ∷ bytes) h =
    let later = text_again h.1 bytes h.4 in
    elim h.2 [
      | inl p ↦
          let other : eqb byte 92 ≡ false = grind (arith, nat_tests, p.1) in
          ap bytes_of (h.3 ∙ ap (λ front. front ++ h.1) p.2) ∙ (plain_byte byte h.1 other ∙ ap (before byte) later)
      | inr p ↦
          ap bytes_of (h.3 ∙ ap (λ front. front ++ h.1) p.1)
          ∙ (escaped_byte 92 (digit_for (byte / 16)) (digit_for (byte % 16)) h.1 refl
          ∙ (ap (λ r. r >>= λ escaped. before escaped (bytes_of h.1)) (escape_again byte p.0) ∙ ap (before byte) later))
    ]

printable_escape : (byte : ℕ) (text : List ℕ) → byte < 256 → list_all is_printable text ≡ true → list_all is_printable (escape byte ++ text) ≡ true
printable_escape byte text small h =
    let a : byte / 16 < 16 = omega arith in
    let b : byte % 16 < 16 = omega arith in
    rw (printable_digit (byte / 16) a, printable_digit (byte % 16) b) h

-- each byte of a spelling is printable
pub text_printable : (text bytes : List ℕ) → IsText bytes text → list_all is_printable text ≡ true
text_printable text [] h = ap (list_all is_printable) h
text_printable text (byte ∷ bytes) h =
    let later = text_printable h.1 bytes h.4 in
    elim h.2 [
      | inl p ↦ ap (list_all is_printable) (h.3 ∙ ap (λ front. front ++ h.1) p.2) ∙ rw p.0 later
      | inr p ↦ ap (list_all is_printable) (h.3 ∙ ap (λ front. front ++ h.1) p.1) ∙ printable_escape byte h.1 p.0 later
    ]

-- each list of bytes has the spelling of its escapes
pub some_text : (bytes : List ℕ) → AllByRecursion (λ byte. byte < 256) bytes → (text : List ℕ) × IsText bytes text × (list_all is_printable text ≡ true)
some_text [] h = ([], refl, refl)
some_text (byte ∷ bytes) h =
    let later = some_text bytes h.1 in
    (escape byte ++ later.0, (escape byte, later.0, inr (h.0, refl), refl, later.1), printable_escape byte later.0 h.0 later.2)
