use Rattle.boot_report.proofs.Common.{List, ◌≡◌, length, map, flat_map, arith, ap, ◌∙◌, sym, subst, length_permutation, Line, Ascend, IsPermutation, with_items_is, All-permutation, IsPermutation-map, AllByRecursion, HeardPlace, Heard, IsPlace, heard_at, lines_of}
use Rattle.std.proofs.lemmas.List.Elements.{All-from_recursion, recursion_from_All}
use Rattle.std.specs.Global.{Vec}
use Rattle.std.specs.Vec.{with_items}
use Rattle.boot_report.proofs.making.report_boot.Goals as goal

-- what was sorted is what the list then has
back_of : (v : Vec HeardPlace) (old new : List HeardPlace) → IsPermutation old new → length old ≡ v.len → (with_items v new).items ≡ new
back_of v old new all long = let same = length_permutation _ _ all in with_items_is v new (omega arith)

-- these are the places of all lines, each once
record Are (processors : List Heard) (places : List HeardPlace) : Type 0 where
  each : AllByRecursion (IsPlace processors) places
  all : IsPermutation (flat_map lines_of processors) (map (heard_at processors) places)

-- they stay so in whatever order
shuffled : (processors now : List Heard) (v : Vec HeardPlace) (old new : List HeardPlace) → now ≡ processors → old ≡ v.items → length old ≡ v.len → IsPermutation old new
    → AllByRecursion (IsPlace now) v.items → map (heard_at now) v.items ≡ flat_map lines_of now → Are processors (with_items v new).items
shuffled processors now v old new is is' long all places lines =
    subst (λ (hs : List Heard). Are hs (with_items v new).items) is (subst (Are now) (sym (back_of v old new all long)) (record {
      each = recursion_from_All (IsPlace now) new (All-permutation (IsPlace now) old new all (All-from_recursion (IsPlace now) old (subst (AllByRecursion (IsPlace now)) (sym is') places)));
      all = subst (λ (ls : List Line). IsPermutation ls (map (heard_at now) new)) (ap (map (heard_at now)) is' ∙ lines) (IsPermutation-map (heard_at now) old new all);
    }))

pub make_report-requires-clause-places : goal.make_report-requires-clause-places
make_report-requires-clause-places c =
    let s = c.as_mut_slice.ensures in let g = c.gather.ensures in
    (shuffled c.args.heard.items c.as_slice.result.now c.gather.new.places c.as_mut_slice.result.now c.sort_heard.new.places c.as_slice.ensures.value s.value s.len c.sort_heard.ensures.all g.places g.lines).each

pub returns : goal.returns
returns c =
    let s = c.as_mut_slice.ensures in let g = c.gather.ensures in let sorted = c.sort_heard.ensures in
    record {
      heard = map (heard_at c.args.heard.items) (with_items c.gather.new.places c.sort_heard.new.places).items;
      all_heard = (shuffled c.args.heard.items c.as_slice.result.now c.gather.new.places c.as_mut_slice.result.now c.sort_heard.new.places c.as_slice.ensures.value s.value s.len sorted.all g.places g.lines).all;
      ascend = subst (λ (places : List HeardPlace). Ascend (map (heard_at c.args.heard.items) places)) (sym (back_of c.gather.new.places c.as_mut_slice.result.now c.sort_heard.new.places sorted.all s.len)) (sorted.ascend c.args.heard.items);
      made = c.make_report.ensures.made;
      says = c.make_report.ensures.says;
    }
