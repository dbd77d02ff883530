-- Lines at their places.
use Rattle.std.proofs.Common.{◌≡◌, ◌<◌, ℕ, zero, suc, List, [], ◌∷◌, ◌++◌, length, map, get_or, take, Some, IfSome, refl, arith, slice_get}
use Rattle.std.proofs.lemmas.Option.{slice_get-map, slice_get_read, slice_get_within, slice_get-get_or, get_or_from_slice_get}
use Rattle.std.proofs.lemmas.List.{length-map}
use Rattle.std.proofs.Math.Seq.{take-suc}
use Rattle.boot_data.specs.declared.heard.HeardPlace.{HeardPlace}
use Rattle.boot_data.specs.Hearing.{Line, Heard, NamedLine, IsPlace, line_at, heard_at, named_line, nothing_heard, bytes_in}

-- where there is a line, there is a processor that has it
pub processor_at : (processors : List Heard) (p number : ℕ) (line : Line) → slice_get (get_or processors p nothing_heard).lines number ≡ Some line → (heard : Heard) × (slice_get processors p ≡ Some heard) × (slice_get heard.lines number ≡ Some line)
processor_at [] p number line is = cc
processor_at (heard ∷ later) zero number line is = (heard, refl, is)
processor_at (heard ∷ later) (suc p) number line is = processor_at later p number line is

-- the line at a place is one of its processor's
pub line_there : (processors : List Heard) (place : HeardPlace) (p : ℕ) (heard : Heard) (is : IsPlace processors place) → p ≡ place.processor → heard ≡ get_or processors p heard → slice_get heard.lines place.number ≡ Some is.line
line_there processors place p heard is same got =
    let found : (own : Heard) × (slice_get processors place.processor ≡ Some own) × (slice_get own.lines place.number ≡ Some is.line) = processor_at processors place.processor place.number is.line is.is in
    let own = found.0 in
    let read : get_or processors place.processor heard ≡ own = get_or_from_slice_get processors place.processor own heard found.1 in
    let equal : heard ≡ own = cc (same, got, read) in
    rw equal found.2

-- the number of a place is below the number of its processor's lines
pub number_there : (processors : List Heard) (place : HeardPlace) (p : ℕ) (heard : Heard) → IsPlace processors place → p ≡ place.processor → heard ≡ get_or processors p heard → place.number < length heard.lines
number_there processors place p heard is same got =
    slice_get_within heard.lines place.number is.line (line_there processors place p heard is same got)

-- the place with a number below the number of the report's lines
pub place_at : (names : List (List ℕ)) (processors : List Heard) (places : List HeardPlace) (shown : List NamedLine) (number : ℕ) (place : HeardPlace) → map (named_line names) (map (heard_at processors) places) ≡ shown → number < length shown → place ≡ get_or places number place → slice_get places number ≡ Some place
place_at names processors places shown number place is low got =
    let once : length (map (heard_at processors) places) ≡ length places = length-map places (heard_at processors) in
    let twice : length (map (named_line names) (map (heard_at processors) places)) ≡ length (map (heard_at processors) places) = length-map (map (heard_at processors) places) (named_line names) in
    let low_too : number < length (map (named_line names) (map (heard_at processors) places)) = rw is low in
    slice_get_read places (length places) number place refl (omega (arith, once, twice, low_too)) got

-- what is true of the line at a place is true of the report's line with this number
pub shown_at : (names : List (List ℕ)) (processors : List Heard) (places : List HeardPlace) (shown : List NamedLine) (number : ℕ) (place : HeardPlace) (P : NamedLine → Type 0) → map (named_line names) (map (heard_at processors) places) ≡ shown → slice_get places number ≡ Some place → P (named_line names (heard_at processors place)) → IfSome (slice_get shown number) P
shown_at names processors places shown number place P is here holds =
    rw (← is, slice_get-map (named_line names) (map (heard_at processors) places) number, slice_get-map (heard_at processors) places number, here) holds

-- the bytes at a place are those of its line
pub bytes_there : (processors : List Heard) (place : HeardPlace) (p : ℕ) (heard : Heard) (bytes : List ℕ) → IsPlace processors place → p ≡ place.processor → heard ≡ get_or processors p heard → IfSome (slice_get heard.lines place.number) (λ line. bytes ≡ line.1) → bytes ≡ bytes_in (line_at processors place)
bytes_there processors place p heard bytes is same got reported =
    let line : slice_get heard.lines place.number ≡ Some is.line = line_there processors place p heard is same got in
    let own : bytes ≡ is.line.1 = rw line at reported in
    rw is.is own

-- A place with the key of a line is the place of this line, and the lines up to it end with the one at the place
pub next_place : (processors : List Heard) (heard : Heard) (place : HeardPlace) → slice_get processors place.processor ≡ Some heard → place.number < length heard.lines → IfSome (slice_get heard.lines place.number) (λ line. line.0 ≡ (place.thread, place.step)) → IsPlace processors place × (take (suc place.number) heard.lines ≡ take place.number heard.lines ++ heard_at processors place ∷ [])
next_place processors heard place own low key =
    let line : Line = get_or heard.lines place.number ((0, 0), []) in
    let here : slice_get heard.lines place.number ≡ Some line = slice_get-get_or heard.lines place.number ((0, 0), []) low in
    let processor : get_or processors place.processor nothing_heard ≡ heard = get_or_from_slice_get processors place.processor heard nothing_heard own in
    let is : line_at processors place ≡ Some line = rw processor here in
    let same : line.0 ≡ (place.thread, place.step) = rw here at key in
    let whole : heard_at processors place ≡ line = rw (is, ← same) refl in
    (record { line = line; is = is; key = same }, rw whole (take-suc heard.lines place.number ((0, 0), []) low))
