-- The words of a new table keep the rule.
use Rattle.thread_table.proofs.Common.{IsUsed, by_ends, unused_kept, all_alike, ◌≡◌, inl, inr, ℕ, replicate, ◌+◌, ◌<◌, ◌≤◌, List, [], ◌∙◌, ap, length, get_or, set, refl, arith, get_or-set_same, get_or-set_other, cases_lt, opening, Shape, head_word, tail_word, RingsLaid, ItemsLaid, Rule, newcomer, places_word}
use Rattle.std.proofs.lemmas.List.{length-replicate}
use Rattle.thread_table.proofs.Shown.Opening.{opens}

kept : (first : ℕ) (ws words : List ℕ) → ItemsLaid first 64 ws words → (place ring : ℕ) → head_word ring ≤ place → place ≤ tail_word ring → get_or words place 0 ≡ get_or ws place 0
kept first ws words h place ring from to = elim (cases_lt ring 2) [
  | inl low ↦ h.low place (omega arith)
  | inr past ↦ h.high place (omega arith)
]

-- a table that was made of so many zeros
pub zeros_open : (key : Shape) (n : ℕ) (zs ws words : List ℕ) → key.first + 64 < 4294967296 → 1 ≤ n → zs ≡ replicate n 0 → RingsLaid key.first 64 18 (set zs 0 1) ws → ItemsLaid key.first 64 ws words → Rule key (opening words [] (newcomer key))
zeros_open key n zs ws words fits some is a b =
    let long : length zs ≡ n = ap length is ∙ length-replicate n 0 in
    let rest : (i : ℕ) → 1 ≤ i → get_or (set zs 0 1) i 0 ≡ 0 = λ i from. get_or-set_other zs 0 i 1 0 (λ e. omega arith) ∙ (ap (λ (z : List ℕ). get_or z i 0) is ∙ all_alike n 0 i) in
    opens key words record {
      fits = fits;
      long = b.wide;
      ends = b.low 0 (omega arith) ∙ (a.low 0 (omega arith) ∙ get_or-set_same zs 0 1 0 (omega arith));
      low = λ i from to. b.low i (omega arith) ∙ (a.low i (omega arith) ∙ rest i from);
      heads = λ ring below. kept key.first ws words b (head_word ring) ring (omega arith) (omega arith) ∙ a.heads ring below;
      tails = λ ring below. kept key.first ws words b (tail_word ring) ring (omega arith) (omega arith) ∙ a.tails ring below;
      items = b.places;
      zeros = λ ring i known apart below. elim (cases_lt ring 1) [
        | inl low ↦ b.low (places_word ring + i) (omega arith) ∙ (a.items ring i known below ∙ rest (places_word ring + i) (omega arith))
        | inr past ↦ b.high (places_word ring + i) (omega arith) ∙ (a.items ring i known below ∙ rest (places_word ring + i) (omega arith))
      ];
      unused = b.unused (a.unused (unused_kept IsUsed zs 0 1 (by_ends refl) (λ i _. ap (λ (z : List ℕ). get_or z i 0) is ∙ all_alike n 0 i)));
    }
