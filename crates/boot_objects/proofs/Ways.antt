-- The ways of a switch: four at most, each with an end of its queue.
use Rattle.boot_objects.proofs.Common.{◌≡◌, ℕ, ◌+◌, List, [], ◌∷◌, ◌++◌, map, refl, ap, ◌∙◌, arith, Option, Some, None, flat_map, All-nil, All-cons, All-head, All-tail, QueueEnd, view_of, line_of, lines_put, NoneShut, puts_of, IsGivenUnused, at_one, end_share, end_shuts, givens_share, IsGivenOpen, posts_share, Gave, All, given_share}
use Rattle.quajects.specs.declared.ways.Way as ways
use Rattle.quajects.specs.Routes.{Given, given_index, given_end, index_of, end_of, way_post}
use Rattle.boot_objects.proofs.Dealing.{gave_both}

pub all_four : {A : Type 0} (P : A → Type 0) (a b d e : A) → P a → P b → P d → P e → All P (a ∷ b ∷ d ∷ e ∷ [])
all_four P a b d e p q r s = All-cons P a (b ∷ d ∷ e ∷ []) p (All-cons P b (d ∷ e ∷ []) q (All-cons P d (e ∷ []) r (All-cons P e [] s (All-nil P))))

pub gave_four : (a b d e : Given) {v w x y z : List ℕ} → Gave 1 (given_share a) v w → Gave 1 (given_share b) w x → Gave 1 (given_share d) x y → Gave 1 (given_share e) y z
    → Gave 4 (givens_share (a ∷ b ∷ d ∷ e ∷ [])) v z
gave_four a b d e {v} {w} {x} {y} {z} p q r s =
    let one = gave_both 1 1 2 (given_share a) (given_share b) (λ i. given_share a i + given_share b i) v w x (omega arith) (λ i. refl) p q in
    let two = gave_both 2 1 3 (λ i. given_share a i + given_share b i) (given_share d) (λ i. given_share a i + given_share b i + given_share d i) v x y (omega arith) (λ i. refl) one r in
    gave_both 3 1 4 (λ i. given_share a i + given_share b i + given_share d i) (given_share e) (givens_share (a ∷ b ∷ d ∷ e ∷ [])) v y z (omega arith) (λ i. omega arith) two s

-- the posts of ways are those of the ends that were given
pub posts_given : (q : ℕ) (switch : List (Option ways.Way)) (given : List Given) → map index_of switch ≡ map given_index given → map end_of switch ≡ map given_end given → posts_share (map way_post switch) q ≡ givens_share given q
posts_given q [] [] i e = refl
posts_given q [] (g ∷ given) i e = cc
posts_given q (w ∷ switch) [] i e = cc
posts_given q (None ∷ switch) (None ∷ given) i e = let h = posts_given q switch given (cc) (cc) in omega (arith, h)
posts_given q (None ∷ switch) (Some g ∷ given) i e = cc
posts_given q (Some w ∷ switch) (None ∷ given) i e = cc
posts_given q (Some w ∷ switch) (Some g ∷ given) i e =
    let index : w.outlet.index ≡ g.1 = cc in
    let end : w.outlet.end ≡ g.2 = cc in
    let h = posts_given q switch given (cc) (cc) in λ j. at_one 0 (index j) (end_share (end j)) q + h j

-- nothing was put at ways whose ends have claimed nothing
pub none_given : (switch : List (Option ways.Way)) (given : List Given) → map end_of switch ≡ map given_end given → All IsGivenUnused given → flat_map puts_of switch ≡ []
none_given [] [] e unused = refl
none_given [] (g ∷ given) e unused = cc
none_given (w ∷ switch) [] e unused = cc
none_given (None ∷ switch) (None ∷ given) e unused = none_given switch given (cc) (All-tail IsGivenUnused None given unused)
none_given (None ∷ switch) (Some g ∷ given) e unused = cc
none_given (Some w ∷ switch) (None ∷ given) e unused = cc
none_given (Some w ∷ switch) (Some g ∷ given) e unused =
    let end : w.outlet.end ≡ g.2 = cc in
    let none = All-head IsGivenUnused (Some g) given unused in
    let put : lines_put (view_of w.outlet.end) ≡ [] = ap (λ (z : QueueEnd 64). lines_put (view_of z)) end ∙ ap (map line_of) none.0 in
    let h = none_given switch given (cc) (All-tail IsGivenUnused (Some g) given unused) in λ j. put j ++ h j

-- ways over ends that have shut nothing have shut nothing
pub open_given : (switch : List (Option ways.Way)) (given : List Given) → map end_of switch ≡ map given_end given → All IsGivenOpen given → NoneShut (map way_post switch)
open_given [] given e none = tt
open_given (w ∷ switch) [] e none = cc
open_given (None ∷ switch) (None ∷ given) e none = open_given switch given (cc) (All-tail IsGivenOpen None given none)
open_given (None ∷ switch) (Some g ∷ given) e none = cc
open_given (Some w ∷ switch) (None ∷ given) e none = cc
open_given (Some w ∷ switch) (Some g ∷ given) e none =
    let end : w.outlet.end ≡ g.2 = cc in
    (ap (λ (z : QueueEnd 64). end_shuts z) end ∙ All-head IsGivenOpen (Some g) given none, open_given switch given (cc) (All-tail IsGivenOpen (Some g) given none))
