-- Results that are refused, or go on.
use Rattle.boot_script.proofs.Common.{◌≡◌, ◌⊎◌, inl, inr, List, [], ◌∷◌, ℕ, refl, ap, Bool, true, false, cond, Result, Ok, Err, ScriptRefusal, OutOfMemory, ScriptFault, at_line, ◌>>=◌, ◌or◌, no_more_of}

pub bind_ok : {A B E : Type 0} (r : Result A E) (f : A → Result B E) (y : B) → (r >>= f) ≡ Ok y → (x : A) × (r ≡ Ok x) × (f x ≡ Ok y)
bind_ok (Ok x) f y h = (x, refl, h)
bind_ok (Err e) f y h = absurd (cc)

pub guard_ok : {A : Type 0} (b : Bool) (x y : A) (e : ScriptRefusal) → cond b (Ok x) (Err e) ≡ Ok y → (b ≡ true) × (x ≡ y)
guard_ok true x y e h = (refl, cc)
guard_ok false x y e h = absurd (cc)

pub chosen : {A : Type 0} (b : Bool) (x y z : A) → cond b x y ≡ z → ((b ≡ true) × (x ≡ z)) ⊎ ((b ≡ false) × (y ≡ z))
chosen true x y z h = inl (refl, h)
chosen false x y z h = inr (refl, h)

pub or_ok : {A E : Type 0} (first second : Result A E) (x : A) → (first or second) ≡ Ok x → (first ≡ Ok x) ⊎ (second ≡ Ok x)
or_ok (Ok y) second x h = inl h
or_ok (Err e) second x h = inr h

pub no_more_ok : (words : List (List ℕ)) (u : Unit {0}) → no_more_of words ≡ Ok u → words ≡ []
no_more_ok [] u h = refl
no_more_ok (word ∷ words) u h = absurd (cc)

-- if no word may be left, no word is left, and the value is the result
pub last_ok : {A : Type 0} (words : List (List ℕ)) (x y : A) → (no_more_of words >>= λ end. Ok x) ≡ Ok y → (words ≡ []) × (x ≡ y)
last_ok [] x y h = (refl, cc)
last_ok (word ∷ words) x y h = absurd (cc)

-- the result is not refused as out of memory
abbrev pub Known : {A : Type 0} → Result A ScriptRefusal → Type 0
Known said = said ≡ Err OutOfMemory → ⊥

pub bind_known : {A B : Type 0} (r : Result A ScriptRefusal) (f : A → Result B ScriptRefusal) → Known r → ((x : A) → Known (f x)) → Known (r >>= f)
bind_known (Ok x) f h k = k x
bind_known (Err e) f h k = λ p. h (cc)

pub test_known : {A : Type 0} (b : Bool) (x y : Result A ScriptRefusal) → Known x → Known y → Known (cond b x y)
test_known true x y h k = h
test_known false x y h k = k

pub or_known : {A : Type 0} (first second : Result A ScriptRefusal) → Known first → Known second → Known (first or second)
or_known (Ok x) second h k = h
or_known (Err e) second h k = k

pub ok_known : {A : Type 0} (x : A) → Known (Ok x)
ok_known x p = absurd (cc)

pub no_more_known : (words : List (List ℕ)) → Known (no_more_of words)
no_more_known [] = ok_known tt
no_more_known (word ∷ words) = λ p. cc

pub last_known : {A : Type 0} (words : List (List ℕ)) (x : A) → Known (no_more_of words >>= λ end. Ok x)
last_known words x = bind_known (no_more_of words) _ (no_more_known words) (λ end. ok_known x)

-- the fault, with its line, is not out of memory
abbrev pub IsKnown : {A : Type 0} → Result A ScriptFault → Type 0
IsKnown said = (fault : ScriptFault) → said ≡ Err fault → fault.refusal ≡ OutOfMemory → ⊥

pub bind_is_known : {A B : Type 0} (r : Result A ScriptFault) (f : A → Result B ScriptFault) → IsKnown r → ((x : A) → IsKnown (f x)) → IsKnown (r >>= f)
bind_is_known (Ok x) f h k = k x
bind_is_known (Err e) f h k = λ fault p. h fault (cc)

pub test_is_known : {A : Type 0} (b : Bool) (x y : Result A ScriptFault) → IsKnown x → IsKnown y → IsKnown (cond b x y)
test_is_known true x y h k = h
test_is_known false x y h k = k

pub ok_is_known : {A : Type 0} (x : A) → IsKnown (Ok x)
ok_is_known x fault p e = absurd (cc)

pub at_line_known : {A : Type 0} (number : ℕ) (r : Result A ScriptRefusal) → Known r → IsKnown (at_line number r)
at_line_known number (Ok x) h = ok_is_known x
at_line_known number (Err refusal) h = λ fault p e. let same : refusal ≡ OutOfMemory = cc in h (ap Err same)
