-- Lists that begin with others.
use Rattle.table_theory.proofs.Common.{Bool, true, false, List, [], ◌∷◌, ◌++◌, sym, ap, ◌∙◌, append_assoc, append-nil, if◌then◌else◌, nat_lt, Begins, later_of}
use Rattle.std.specs.Prelude.{length}

module _ {E : Type 0} where
  pub begins_refl : (a : List E) → Begins a a
  begins_refl a = ([], append-nil a)

  pub begins_on : (a b : List E) (x : E) → Begins a b → Begins a (b ++ x ∷ [])
  begins_on a b x h = (h.0 ++ x ∷ [], sym (append_assoc a h.0 (x ∷ [])) ∙ ap (λ (z : List E). z ++ x ∷ []) h.1)

  pub begins_trans : (a b c : List E) → Begins a b → Begins b c → Begins a c
  begins_trans a b c h k = (h.0 ++ k.0, sym (append_assoc a h.0 k.0) ∙ ap (λ (z : List E). z ++ k.0) h.1 ∙ k.1)

  either : (P : List E → Type 0) (t : Bool) (a b : List E) → P a → P b → P (if t then b else a)
  either P true a b x y = y
  either P false a b x y = x

  pub later_begins : (a b c : List E) → Begins a c → Begins b c → Begins (later_of a b) c
  later_begins a b c x y = either (λ z. Begins z c) (nat_lt (length a) (length b)) a b x y
