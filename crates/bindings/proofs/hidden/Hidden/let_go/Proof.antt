-- Nothing is owned, so nothing is lost.
use Rattle.bindings.proofs.Walking.{◌≡◌, List, [], ◌∷◌, ◌++◌, refl, sym, ap, ◌∙◌, subst, lit<, Val, vunit, vstruct}
use Rattle.bindings.proofs.Walking.{vcons, vnil, of_list, SProp, ent, id⊢, WpFn, fact, tables, ‵, raw, ◌⊛◌, ◌$◌, ◌∵◌, ! }
use Rattle.bindings.proofs.Walking.{qed, by, move, keep, drop, split, fsplit, fjoin, fpick, feq_l, feq_i, suffices}
use Rattle.bindings.proofs.Walking.{of_opd, unit_lit, returns, enter, alloc_all, pass_all, free_all, look_at, sets}
use Rattle.bindings.proofs.Walking.{owns, yes, Ptr, block_ptr, null_ptr, ptr_val, types_at, plain, nothing, heard}
use Rattle.bindings.proofs.Walking.{alive, Stays, stay_dropped, walk_of, Goes-blank, proved_at, leaves, None}
use denote.Param.{layout}
use Rattle.core.proofs.cell.Inside.{Good}
use Rattle.bindings.specs.contracts.hidden.Hidden.let_go.{ended, clauses}
use Rattle.bindings.specs.contracts.hidden.Hidden.let_go.Key.{name as #self}
use Rattle.bindings.proofs.hidden.Hidden.let_go.Statement.{statement}
use Rattle.bindings.specs.contracts.hidden.Hidden as hidden
use Rattle.bindings.proofs.hidden.Hidden.let_go.Code as code

abbrev stayed : Stays ended.signature.params ended.kept
stayed = (stay_dropped (plain (λ _. hidden.the_row)) yes, tt)

-- the handle that has this pointer
abbrev word : Ptr → Val
word p = vstruct (vcons (ptr_val p) vnil)

typed : (p : Ptr) → Good (layout hidden.the_row) (word p)
typed null_ptr = (tt, (record { fits = lit< tt }, tt))
typed (block_ptr b o) = (tt, (tt, tt))

pub let_go_spec : {M : Type 1} → statement M
let_go_spec 𝓤 𝓛 𝓜 𝓡 wired =
    let H = 𝓛.H in let 𝓣 = tables 𝓤 H 𝓜 𝓡 𝓡.env in let fn = code.function in let c = clauses 𝓛 𝓜.mem 𝓡.returns in
    proved_at 𝓛 ended stayed c 𝓜 𝓡 (Goes-blank 𝓛 0 (plain (λ _. hidden.the_row)) yes (λ κs x f. tt), tt) #self fn (code.unfolded 𝓤 H 𝓜 𝓡 wired) (λ z are.
    let d = z.0.3.0 in let Post : Val → SProp 𝓤 = (walk_of 𝓛 ended stayed c).post z in let Run : List Val → SProp 𝓤 = λ ws. WpFn 𝓤 H 𝓣.C 𝓣.Λ fn ws Post in
    let us = z.0.4.0 in
    qed 𝓛 ((raw (alive 𝓛 ended.signature z.0.0 z.0.1) ⊛ ‵ (owns (types_at ended.signature.params z.0.0) z.0.3 z.0.4)) ∷ raw (fact 𝓤 (d.value ≡ None)) ∷ []) ∵ move ! (1 ∷ []) $ heard ! (d.value ≡ None) (λ empty.
    split ! $ move ! (1 ∷ []) $ fsplit ! $ fsplit ! $
    fpick ! (λ vss. fsplit ! $ feq_l ! (λ ev. fsplit ! $ feq_l ! (λ ep. drop ! $ drop ! $
    let is : us ≡ word d.at ∷ [] = ev ∙ ap (λ (ps : List Val). vstruct (of_list (ps ++ [])) ∷ []) ep in
    suffices ! (Run (word d.at ∷ [])) (subst (λ (xs : List Val). ent 𝓤 (Run (word d.at ∷ [])) (Run xs)) (sym (λ i. is i ++ [])) (id⊢ 𝓤 (Run (word d.at ∷ [])))) $
    enter ! 𝓣.C 𝓣.Λ fn (word d.at ∷ []) Post $ alloc_all ! (λ l. pass_all ! refl (typed d.at, tt) $
    sets ! (of_opd ! (unit_lit !)) refl (tt, tt) $
    feq_i ! (List Val) (vunit ∷ []) (vunit ∷ []) refl $ nothing ! $ nothing ! $ nothing ! $ fjoin ! $
    returns ! (look_at ! 0 refl) $ free_all ! refl $ keep ! (4 ∷ 0 ∷ 2 ∷ 1 ∷ []) $ by ! (leaves 𝓛 ended stayed c z vunit tt (tt, tt) (tt, tt))))))))
