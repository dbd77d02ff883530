-- Lines of bytes in one store.
use Rattle.std.proofs.Common.{◌≡◌, ◌≤◌, ◌+◌, ◌-◌, ◌%◌, ℕ, List, [], ◌∷◌, ◌++◌, length, map, take, drop, refl, arith}
use Rattle.std.proofs.lemmas.List.{drop-append-le, length-drop, length-map, take-append-le, take_all}
use Rattle.std.proofs.Math.Seq.{drop-append_seam, take-length}
use Rattle.std.specs.List.{AllByRecursion}
use Rattle.boot_data.specs.declared.heard.Mark.{Mark}
use Rattle.boot_data.specs.Hearing.{Line, bytes_of}
use Rattle.boot_data.specs.Stores.{line_in, IsWithin}

-- a line among the first bytes is the same line in a longer store
pub bytes_kept : (bytes more : List ℕ) (mark : Mark) → IsWithin (length bytes) mark → take (mark.end - mark.begin) (drop mark.begin (bytes ++ more)) ≡ take (mark.end - mark.begin) (drop mark.begin bytes)
bytes_kept bytes more mark is =
    let ordered = is.ordered in
    let within = is.within in
    let low : mark.begin ≤ length bytes = omega arith in
    let left : length (drop mark.begin bytes) ≡ length bytes - mark.begin = length-drop mark.begin bytes in
    let fits : mark.end - mark.begin ≤ length (drop mark.begin bytes) = omega arith in
    rw (drop-append-le mark.begin bytes more low, take-append-le (mark.end - mark.begin) (drop mark.begin bytes) more fits) refl

-- bytes appended to a store are the line of the mark that begins at its end and ends with them
pub bytes_last : (bytes more : List ℕ) (mark : Mark) → mark.begin ≡ length bytes → mark.end ≡ length bytes + length more → take (mark.end - mark.begin) (drop mark.begin (bytes ++ more)) ≡ more
bytes_last bytes more mark begins ends =
    let long : mark.end - mark.begin ≡ length more = omega arith in
    rw (long, begins, drop-append_seam bytes more, take-length more) refl

-- one more mark, of the bytes appended to a store, adds one line
pub lines_pushed : (bytes more : List ℕ) (marks : List Mark) (mark : Mark) → AllByRecursion (IsWithin (length bytes)) marks → mark.begin ≡ length bytes → mark.end ≡ length bytes + length more → map (line_in (bytes ++ more)) (marks ++ mark ∷ []) ≡ map (line_in bytes) marks ++ ((mark.thread, mark.step), more) ∷ []
lines_pushed bytes more [] mark all begins ends = rw (bytes_last bytes more mark begins ends) refl
lines_pushed bytes more (first ∷ marks) mark all begins ends =
    rw (bytes_kept bytes more first all.0, lines_pushed bytes more marks mark all.1 begins ends) refl

-- one more mark, of the bytes of items, adds one line
pub items_pushed : (old new : List ℕ) (items : List ℕ) (index : ℕ) (marks kept after : List Mark) (mark : Mark) (lines : List Line) → map (line_in old) marks ≡ lines → new ≡ old ++ bytes_of (take index items) → length items ≤ index → kept ≡ marks → after ≡ kept ++ mark ∷ [] → AllByRecursion (IsWithin (length old)) marks → mark.begin ≡ length old → mark.end ≡ length old + length items → map (line_in new) after ≡ lines ++ ((mark.thread, mark.step), bytes_of items) ∷ []
items_pushed old new items index marks kept after mark lines shown bytes all same pushed within begins ends =
    let whole : take index items ≡ items = take_all index items all in
    let long : length (bytes_of items) ≡ length items = length-map items (λ item. item % 256) in
    let end : mark.end ≡ length old + length (bytes_of items) = omega (arith, long, ends) in
    rw (bytes, whole, pushed, same, ← shown) (lines_pushed old (bytes_of items) marks mark within begins end)
