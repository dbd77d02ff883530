-- An empty handle owns nothing.
use Rattle.bindings.proofs.Walking.{◌≡◌, List, [], ◌∷◌, refl, lit<, Val, vstruct, vcons, vnil, SProp, emp, ftrue, fact}
use Rattle.bindings.proofs.Walking.{fact_i, tables, ‵, raw, ◌⊛◌, ◌$◌, ◌∵◌, !, qed, by, keep, use0, split, fjoin, fpack}
use Rattle.bindings.proofs.Walking.{feq_i, agg, lit, no_more, and_then, returns, enter, alloc_all, pass_all, free_all}
use Rattle.bindings.proofs.Walking.{look_at, sets, Valss, owns, RawPtr, null_ptr, ptr_val, types_at, nothing, shape}
use Rattle.bindings.proofs.Walking.{within, alive, Stays, walk_of, proved_at, leaves, None}
use Rattle.bindings.specs.contracts.hidden.Hidden.none.{ended, clauses}
use Rattle.bindings.specs.contracts.hidden.Hidden.none.Key.{name as #self}
use Rattle.bindings.proofs.hidden.Hidden.none.Statement.{statement}
use Rattle.bindings.specs.contracts.hidden.Hidden as hidden
use Rattle.bindings.proofs.hidden.Hidden.none.Code as code

abbrev stayed : Stays ended.signature.params ended.kept
stayed = tt

pub none_spec : {M : Type 1} → statement M
none_spec 𝓤 𝓛 𝓜 𝓡 wired =
    let H = 𝓛.H in let 𝓣 = tables 𝓤 H 𝓜 𝓡 𝓡.env in let fn = code.function in let c = clauses 𝓛 𝓜.mem 𝓡.returns in
    proved_at 𝓛 ended stayed c 𝓜 𝓡 tt #self fn (code.unfolded 𝓤 H 𝓜 𝓡 wired) (λ z are.
    let Post : Val → SProp 𝓤 = (walk_of 𝓛 ended stayed c).post z in
    let out : Val = vstruct (vcons (ptr_val null_ptr) vnil) in let made : hidden.the_row.Denot = record { at = null_ptr; value = None } in let IsNone : Type 0 = made.value ≡ None in
    qed 𝓛 ((raw (alive 𝓛 ended.signature z.0.0 z.0.1) ⊛ ‵ (owns (types_at ended.signature.params z.0.0) z.0.3 z.0.4)) ∷ ‵ ftrue ∷ []) ∵ split ! $
    enter ! 𝓣.C 𝓣.Λ fn [] Post $ alloc_all ! (λ l. pass_all ! refl tt $
    sets ! (agg ! (and_then ! (lit ! tt) (no_more !))) refl (tt, (record { fits = lit< tt }, tt)) $
    nothing ! $ nothing ! $ feq_i ! (List Val) (ptr_val null_ptr ∷ []) (ptr_val null_ptr ∷ []) refl $ fjoin ! $ feq_i ! (List Val) (out ∷ []) (out ∷ []) refl $ fjoin ! $
    fpack ! (Valss (RawPtr ∷ [])) (within (shape hidden.the_type) (null_ptr, tt) (out ∷ [])) (ptr_val null_ptr ∷ [], tt) $ fjoin ! $
    use0 𝓛 (raw (fact 𝓤 IsNone)) (fact_i 𝓤 IsNone (emp 𝓤) refl) $
    -- [the fact; the handle; the tokens; no parameter; ..]
    returns ! (look_at ! 0 refl) $ free_all ! refl $ keep ! (2 ∷ 3 ∷ 1 ∷ 0 ∷ []) $ by ! (leaves 𝓛 ended stayed c z out made tt tt)))
