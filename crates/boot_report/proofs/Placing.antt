-- The places of all that the processors heard: each line once, in the order of the processors.
use Rattle.boot_report.proofs.Common.{◌≡◌, ℕ, zero, suc, ◌+◌, ◌<◌, List, [], ◌∷◌, ◌++◌, length, map, flat_map, drop, get_or, refl, sym, ap, ◌∙◌, subst, arith, Some, slice_get, length-append, numbered, Line, IfSome, AllByRecursion, map-append, HeardPlace, Heard, IsPlace, heard_at, bytes_in, nothing_heard, lines_of, place_of}
use Rattle.event_theory.proofs.Lists.Placed.{all_append as both}
use Rattle.boot_report.proofs.Numbering.{as_many}

-- the places of what these processors heard, from one processor on
abbrev pub places_from : ℕ → List Heard → List HeardPlace
places_from p [] = []
places_from p (heard ∷ processors) = numbered (place_of p) 0 heard.lines ++ places_from (p + 1) processors

-- the place at a number comes first from there on
pub place_first : (made : ℕ → Line → HeardPlace) (m n : ℕ) (lines : List Line) (place : HeardPlace) → n < length lines → IfSome (slice_get lines n) (λ line. place ≡ made m line)
    → numbered made m (drop n lines) ≡ place ∷ numbered made (m + 1) (drop (n + 1) lines)
place_first made m n [] place low is = absurd (omega arith)
place_first made m zero (line ∷ lines) place low is = ap (λ z. z ∷ numbered made (m + 1) lines) (sym is)
place_first made m (suc n) (line ∷ lines) place low is =
    let e : suc (n + 1) ≡ suc n + 1 = omega arith in
    place_first made m n lines place (omega arith) is ∙ ap (λ (k : ℕ). place ∷ numbered made (m + 1) (drop k (line ∷ lines))) e

-- the places of one processor come first from there on
pub places_first : (m p : ℕ) (processors : List Heard) (heard : Heard) → p < length processors → heard ≡ get_or processors p heard
    → places_from m (drop p processors) ≡ numbered (place_of m) 0 heard.lines ++ places_from (m + 1) (drop (p + 1) processors)
places_first m p [] heard low is = absurd (omega arith)
places_first m zero (h ∷ processors) heard low is = ap (λ (z : Heard). numbered (place_of m) 0 z.lines ++ places_from (m + 1) processors) (sym is)
places_first m (suc p) (h ∷ processors) heard low is =
    let e : suc (p + 1) ≡ suc p + 1 = omega arith in
    places_first m p processors heard (omega arith) is ∙ ap (λ (k : ℕ). numbered (place_of m) 0 heard.lines ++ places_from (m + 1) (drop k (h ∷ processors))) e

pub as_many_places : (p : ℕ) (processors : List Heard) → length (places_from p processors) ≡ length (flat_map lines_of processors)
as_many_places p [] = refl
as_many_places p (heard ∷ processors) =
    let a = length-append (numbered (place_of p) 0 heard.lines) (places_from (p + 1) processors) in
    let b = length-append heard.lines (flat_map lines_of processors) in
    let here = as_many (place_of p) 0 heard.lines in let rest = as_many_places (p + 1) processors in omega arith

module _ (all : List Heard) where
  -- the place of a line that is there
  place_is : (p n : ℕ) (line : Line) → slice_get (get_or all p nothing_heard).lines n ≡ Some line → IsPlace all (place_of p n line) × (heard_at all (place_of p n line) ≡ line)
  place_is p n line is = (record { line = line; is = is; key = refl }, ap (λ found. (line.0, bytes_in found)) is)

  -- those of one processor
  of_one : (p n : ℕ) (lines : List Line) → ((k : ℕ) → slice_get (get_or all p nothing_heard).lines (n + k) ≡ slice_get lines k)
      → AllByRecursion (IsPlace all) (numbered (place_of p) n lines) × (map (heard_at all) (numbered (place_of p) n lines) ≡ lines)
  of_one p n [] there = (tt, refl)
  of_one p n (line ∷ lines) there =
      let here = place_is p n line (subst (λ z. slice_get (get_or all p nothing_heard).lines z ≡ Some line) (let e : n + 0 ≡ n = omega arith in e) (there 0)) in
      let rest = of_one p (n + 1) lines (λ k. ap (λ z. slice_get (get_or all p nothing_heard).lines z) (let e : n + 1 + k ≡ n + suc k = omega arith in e) ∙ there (suc k)) in
      ((here.0, rest.0), λ i. here.1 i ∷ rest.1 i)

  -- those of the processors from one on
  of_more : (p : ℕ) (processors : List Heard) → ((k : ℕ) → get_or all (p + k) nothing_heard ≡ get_or processors k nothing_heard)
      → AllByRecursion (IsPlace all) (places_from p processors) × (map (heard_at all) (places_from p processors) ≡ flat_map lines_of processors)
  of_more p [] there = (tt, refl)
  of_more p (heard ∷ processors) there =
      let is : get_or all p nothing_heard ≡ heard = ap (λ z. get_or all z nothing_heard) (let e : p ≡ p + 0 = omega arith in e) ∙ there 0 in
      let here = of_one p 0 heard.lines (λ k. ap (λ (z : ℕ). slice_get (get_or all p nothing_heard).lines z) (let e : 0 + k ≡ k = omega arith in e) ∙ ap (λ (h : Heard). slice_get h.lines k) is) in
      let rest = of_more (p + 1) processors (λ k. ap (λ z. get_or all z nothing_heard) (let e : p + 1 + k ≡ p + suc k = omega arith in e) ∙ there (suc k)) in (
        both (IsPlace all) (numbered (place_of p) 0 heard.lines) (places_from (p + 1) processors) here.0 rest.0,
        map-append (heard_at all) (numbered (place_of p) 0 heard.lines) (places_from (p + 1) processors) ∙ (λ i. here.1 i ++ rest.1 i),
      )

  pub of_all : AllByRecursion (IsPlace all) (places_from 0 all) × (map (heard_at all) (places_from 0 all) ≡ flat_map lines_of all)
  of_all = of_more 0 all (λ k. ap (λ z. get_or all z nothing_heard) (let e : 0 + k ≡ k = omega arith in e))
