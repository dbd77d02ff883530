-- Texts, byte by byte.
use Rattle.boot_script.proofs.Common.{◌≡◌, inl, inr, ℕ, ◌<◌, ◌≤◌, ◌+◌, ◌-◌, List, [], ◌∷◌, ◌++◌, ◌∙◌, refl, sym, ap, arith, append_assoc, length, length-append, take, drop, slice_index_or, true, false, Bool, Result, Ok, Err, eqb, cases_lt, nat_tests, append-nil, take_all, length-drop, nat_le, ScriptRefusal, BadNumber, TextTooLong, ◌>>=◌, escape_of, before, bytes_of, within_of}

-- all bytes after a place
pub following : (n : ℕ) (text : List ℕ) → take (length text - n) (drop n text) ≡ drop n text
following n text = take_all (length text - n) (drop n text) (omega (arith, length-drop n text))

-- a byte that isn't `\` is itself
pub plain_byte : (byte : ℕ) (text : List ℕ) → eqb byte 92 ≡ false → bytes_of (byte ∷ text) ≡ before byte (bytes_of text)
unfolding bytes_of
plain_byte byte [] h = rw h refl
plain_byte byte (next ∷ []) h = rw h refl
plain_byte byte (high ∷ low ∷ text) h = rw h refl

-- two digits follow a `\`
pub escaped_byte : (byte high low : ℕ) (text : List ℕ) → eqb byte 92 ≡ true → bytes_of (byte ∷ high ∷ low ∷ text) ≡ (escape_of high low >>= λ escaped. before escaped (bytes_of text))
unfolding bytes_of
escaped_byte byte high low text h = rw h refl

-- if fewer than two bytes follow a `\`, the text is invalid
pub wanting : (byte : ℕ) (text : List ℕ) → eqb byte 92 ≡ true → length text < 2 → bytes_of (byte ∷ text) ≡ Err BadNumber
unfolding bytes_of
wanting byte [] h few = rw h refl
wanting byte (next ∷ []) h few = rw h refl
wanting byte (high ∷ low ∷ text) h few = absurd (omega (arith, few))

-- the first byte of a text, and the bytes after it, by their places
pub first_plain : (text : List ℕ) → 0 < length text → eqb (slice_index_or text 0 0) 92 ≡ false → bytes_of text ≡ before (slice_index_or text 0 0) (bytes_of (drop 1 text))
first_plain [] some h = absurd (omega (arith, some))
first_plain (byte ∷ text) some h = plain_byte byte text h

pub first_short : (text : List ℕ) → 0 < length text → eqb (slice_index_or text 0 0) 92 ≡ true → length (drop 1 text) < 2 → bytes_of text ≡ Err BadNumber
first_short [] some h few = absurd (omega (arith, some))
first_short (byte ∷ text) some h few = wanting byte text h few

pub first_escaped : (text : List ℕ) → 0 < length text → eqb (slice_index_or text 0 0) 92 ≡ true → 2 ≤ length (drop 1 text)
    → bytes_of text ≡ (escape_of (slice_index_or (drop 1 text) 0 0) (slice_index_or (drop 1 text) 1 0) >>= λ escaped. before escaped (bytes_of (drop 2 (drop 1 text))))
first_escaped [] some h few = absurd (omega (arith, some))
first_escaped (byte ∷ []) some h few = absurd (omega (arith, few))
first_escaped (byte ∷ next ∷ []) some h few = absurd (omega (arith, few))
first_escaped (byte ∷ high ∷ low ∷ text) some h few = escaped_byte byte high low text h

-- bytes before those that are still read
pub all_before : List ℕ → Result (List ℕ) ScriptRefusal → Result (List ℕ) ScriptRefusal
all_before front said = said >>= λ bytes. Ok (front ++ bytes)

-- The bytes so far, as long as there is room for them, and what is still read are all that is said
pub record IsReadSoFar (most : ℕ) (fits : Bool) (text : List ℕ) (left said : Result (List ℕ) ScriptRefusal) : Type 0 where
  pub front : List ℕ
  pub here : fits ≡ true → (text ≡ front) × (length front ≤ most)
  pub lost : fits ≡ false → most < length front
  pub all : all_before front left ≡ said

pub none_read : (said : Result (List ℕ) ScriptRefusal) → all_before [] said ≡ said
unfolding all_before
none_read (Ok bytes) = refl
none_read (Err refusal) = refl

pub byte_read : (front : List ℕ) (byte : ℕ) (text : List ℕ) (left said : Result (List ℕ) ScriptRefusal) → bytes_of text ≡ before byte left → all_before front (bytes_of text) ≡ said → all_before (front ++ byte ∷ []) left ≡ said
unfolding all_before
byte_read front byte text (Ok bytes) said e so_far = ap Ok (append_assoc front (byte ∷ []) bytes) ∙ (ap (λ r. r >>= λ bytes. Ok (front ++ bytes)) (sym e) ∙ so_far)
byte_read front byte text (Err refusal) said e so_far = ap (λ r. r >>= λ bytes. Ok (front ++ bytes)) (sym e) ∙ so_far

pub not_read : (front : List ℕ) (text : List ℕ) (said : Result (List ℕ) ScriptRefusal) (refusal : ScriptRefusal) → bytes_of text ≡ Err refusal → all_before front (bytes_of text) ≡ said → said ≡ Err refusal
unfolding all_before
not_read front text said refusal e so_far = sym so_far ∙ ap (λ r. r >>= λ bytes. Ok (front ++ bytes)) e

pub all_read : (front : List ℕ) (text : List ℕ) (said : Result (List ℕ) ScriptRefusal) → length text ≡ 0 → all_before front (bytes_of text) ≡ said → said ≡ Ok front
unfolding all_before bytes_of
all_read front [] said none so_far = sym so_far ∙ ap Ok (append-nil front)
all_read front (byte ∷ text) said none so_far = absurd (omega (arith, none))

pub fits_within : (most : ℕ) (bytes : List ℕ) → length bytes ≤ most → within_of most bytes ≡ Ok bytes
fits_within most bytes few = let test : nat_le (length bytes) most ≡ true = grind (arith, nat_tests) in rw test refl

pub too_long : (most : ℕ) (bytes : List ℕ) → most < length bytes → within_of most bytes ≡ Err TextTooLong
too_long most bytes many = let test : nat_le (length bytes) most ≡ false = grind (arith, nat_tests) in rw test refl

-- one byte more, for which there was room
pub pushed_read : (most : ℕ) (fits : Bool) (old new : List ℕ) (byte : ℕ) (text : List ℕ) (left said : Result (List ℕ) ScriptRefusal) → IsReadSoFar most fits old (bytes_of text) said → length old < most → new ≡ old ++ byte ∷ []
    → bytes_of text ≡ before byte left → IsReadSoFar most fits new left said
pushed_read most fits old new byte text left said so_far room pushed e =
    let longer : length (so_far.front ++ byte ∷ []) ≡ length so_far.front + 1 = length-append so_far.front (byte ∷ []) in
    record {
      front = so_far.front ++ byte ∷ [];
      here = λ h. (pushed ∙ ap (λ xs. xs ++ byte ∷ []) (so_far.here h).0, omega (arith, longer, room, ap length (so_far.here h).0));
      lost = λ h. omega (arith, longer, so_far.lost h);
      all = byte_read so_far.front byte text left said e so_far.all;
    }

long_front : (most : ℕ) (fits : Bool) (old : List ℕ) (left said : Result (List ℕ) ScriptRefusal) (so_far : IsReadSoFar most fits old left said) → most ≤ length old → most ≤ length so_far.front
long_front most true old left said so_far full = omega (arith, full, ap length (so_far.here refl).0)
long_front most false old left said so_far full = omega (arith, so_far.lost refl)

-- one byte more, for which there was none
pub full_read : (most : ℕ) (fits pushed : Bool) (old new : List ℕ) (byte : ℕ) (text : List ℕ) (left said : Result (List ℕ) ScriptRefusal) → IsReadSoFar most fits old (bytes_of text) said → pushed ≡ false → most ≤ length old
    → bytes_of text ≡ before byte left → IsReadSoFar most pushed new left said
full_read most fits pushed old new byte text left said so_far none full e =
    let longer : length (so_far.front ++ byte ∷ []) ≡ length so_far.front + 1 = length-append so_far.front (byte ∷ []) in
    record {
      front = so_far.front ++ byte ∷ [];
      here = λ h. absurd (cc (h, none));
      lost = λ h. omega (arith, longer, long_front most fits old (bytes_of text) said so_far full);
      all = byte_read so_far.front byte text left said e so_far.all;
    }

pub no_room : (pushed : Bool) (have most : ℕ) → pushed ≡ false → (have < most → pushed ≡ true) → most ≤ have
no_room pushed have most none room =
    elim (cases_lt have most) [
      | inl p ↦ absurd (cc (none, room p))
      | inr p ↦ p
    ]
