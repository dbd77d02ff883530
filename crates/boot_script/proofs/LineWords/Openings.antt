-- The first line of a script.
use Rattle.boot_script.proofs.Common.{◌≡◌, inl, inr, ℕ, ◌<◌, ◌≤◌, List, [], ◌∷◌, ◌∙◌, refl, ap, arith, length, true, false, Result, Ok, Err, nat_tests, bytes_eq-Decides, nat_lt, list_all, bytes_eq, ScriptRefusal, NotVersion, NotAscii, TooMany, Events, Boot, Version, One, Two, Three, lines_of, version_line, is_printable, at_line, version_of, versioned, opening_of}
use Rattle.boot_script.specs.declared.version.Script.{Script}
use Rattle.boot_script.proofs.Basics.Binds.{bind_ok, chosen, Known, test_known, ok_known, IsKnown, bind_is_known, test_is_known, ok_is_known, at_line_known}

version_is : (script : Script) (line : List ℕ) (named version : Version) → bytes_eq line (version_line script named) ≡ true → named ≡ version → line ≡ version_line script version
version_is script line named version same e = (bytes_eq-Decides line (version_line script named)).0 same ∙ ap (version_line script) e

version_ok : (script : Script) (line : List ℕ) (version : Version) → version_of script line ≡ Ok version → line ≡ version_line script version
unfolding version_of
version_ok script line version h =
    elim (chosen (list_all is_printable line) _ (Err NotAscii) (Ok version) h) [
      | inl p ↦ elim (chosen (bytes_eq line (version_line script One)) (Ok One) _ (Ok version) p.1) [
        | inl q ↦ version_is script line One version q.0 (cc (q.1))
        | inr q ↦ elim (chosen (bytes_eq line (version_line script Two)) (Ok Two) _ (Ok version) q.1) [
          | inl r ↦ version_is script line Two version r.0 (cc (r.1))
          | inr r ↦ elim (chosen (bytes_eq line (version_line script Three)) (Ok Three) (Err NotVersion) (Ok version) r.1) [
            | inl s ↦ version_is script line Three version s.0 (cc (s.1))
            | inr s ↦ absurd (cc (s.1))
          ]
        ]
      ]
      | inr p ↦ absurd (cc (p.1))
    ]

version_again : (script : Script) (version : Version) → version_of script (version_line script version) ≡ Ok version
unfolding version_of
version_again Events One = refl
version_again Events Two = refl
version_again Events Three = refl
version_again Boot One = refl
version_again Boot Two = refl
version_again Boot Three = refl

pub at_line_ok : {A : Type 0} (number : ℕ) (said : Result A ScriptRefusal) (x : A) → at_line number said ≡ Ok x → said ≡ Ok x
at_line_ok number (Ok y) x h = cc
at_line_ok number (Err refusal) x h = absurd (cc)

versioned_ok : (script : Script) (lines : List (List ℕ)) (opening : Version × List (List ℕ)) → versioned script lines ≡ Ok opening → lines ≡ version_line script opening.0 ∷ opening.1
unfolding versioned
versioned_ok script [] opening h = absurd (cc)
versioned_ok script (first ∷ lines) opening h =
    let a = bind_ok (at_line 1 (version_of script first)) (λ version. Ok (version, lines)) opening h in
    let e : (a.0, lines) ≡ opening = cc (a.2) in
    ap (λ line. line ∷ lines) (version_ok script first a.0 (at_line_ok 1 (version_of script first) a.0 a.1)) ∙ ap (λ o. version_line script o.0 ∷ o.1) e

-- a text with no fault in its length and its first line has that line
pub opening_ok : (script : Script) (text : List ℕ) (opening : Version × List (List ℕ)) → opening_of script text ≡ Ok opening → (length text ≤ 65536) × (lines_of text ≡ version_line script opening.0 ∷ opening.1)
unfolding opening_of
opening_ok script text opening h =
    elim (chosen (nat_lt 65536 (length text)) _ (versioned script (lines_of text)) (Ok opening) h) [
      | inl p ↦ absurd (cc (p.1))
      | inr p ↦
          let test : nat_lt 65536 (length text) ≡ false = p.0 in
          let short : length text ≤ 65536 = grind (arith, nat_tests) in
          (short, versioned_ok script (lines_of text) opening p.1)
    ]

pub opening_again : (script : Script) (text : List ℕ) (version : Version) (lines : List (List ℕ)) → length text ≤ 65536 → lines_of text ≡ version_line script version ∷ lines → opening_of script text ≡ Ok (version, lines)
unfolding opening_of versioned
opening_again script text version lines short e =
    let test : nat_lt 65536 (length text) ≡ false = grind (arith, nat_tests) in
    rw (test, e, version_again script version) refl

version_known : (script : Script) (line : List ℕ) → Known (version_of script line)
unfolding version_of
version_known script line =
    test_known (list_all is_printable line) _ (Err NotAscii)
    (test_known (bytes_eq line (version_line script One)) (Ok One) _ (ok_known One)
    (test_known (bytes_eq line (version_line script Two)) (Ok Two) _ (ok_known Two)
    (test_known (bytes_eq line (version_line script Three)) (Ok Three) (Err NotVersion) (ok_known Three) (λ p. cc))))
    (λ p. cc)

versioned_known : (script : Script) (lines : List (List ℕ)) → IsKnown (versioned script lines)
unfolding versioned
versioned_known script [] = λ fault p e. absurd (cc)
versioned_known script (first ∷ lines) =
    bind_is_known (at_line 1 (version_of script first)) _ (at_line_known 1 (version_of script first) (version_known script first)) (λ version. ok_is_known (version, lines))

pub opening_known : (script : Script) (text : List ℕ) → IsKnown (opening_of script text)
unfolding opening_of
opening_known script text = test_is_known (nat_lt 65536 (length text)) (Err (record { line = 0; refusal = TooMany })) (versioned script (lines_of text)) (λ fault p e. absurd (cc)) (versioned_known script (lines_of text))

-- two texts that are both too long have one fault
pub both_long : (script : Script) (a b : List ℕ) → 65536 < length a → 65536 < length b → opening_of script a ≡ opening_of script b
unfolding opening_of
both_long script a b la lb =
    let ta : nat_lt 65536 (length a) ≡ true = grind (arith, nat_tests) in
    let tb : nat_lt 65536 (length b) ≡ true = grind (arith, nat_tests) in
    rw (ta, tb) refl
