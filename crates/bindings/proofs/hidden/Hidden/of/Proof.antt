-- The handle owns what the loose box owned: the value and the right to free its block. Nothing is called.
use Rattle.bindings.proofs.Walking.{◌≡◌, List, [], ◌∷◌, ◌++◌, refl, sym, subst, Val, vptr, vstruct, vcons, vnil, SProp}
use Rattle.bindings.proofs.Walking.{ent, emp, id⊢, ftrue, WpFn, fact, fact_i, tables, ‵, raw, ◌⊛◌, ◌$◌, ◌∵◌, !, qed, by}
use Rattle.bindings.proofs.Walking.{move, keep, use0, split, fsplit, fjoin, fpack, feq_i, suffices, agg, sub, whole}
use Rattle.bindings.proofs.Walking.{stop, fld, of_opd, no_more, and_then, returns, enter, alloc_all, pass_all, free_all}
use Rattle.bindings.proofs.Walking.{look_at, get, get_in, sets, RattleType, Valss, owns, RawPtr, yes, block_ptr}
use Rattle.bindings.proofs.Walking.{types_at, plain, nothing, shape, within, alive, Stays, stay_dropped, walk_of}
use Rattle.bindings.proofs.Walking.{Goes-blank, proved_at, leaves, ghosts, Some, both, Loose, loose_good, loose_out}
use Rattle.std.proofs.alloc.Global.TheLaws as heap_laws
use Rattle.std.specs.contracts.alloc.Global as heap
use Rattle.bindings.specs.contracts.hidden.Hidden.of.{ended, clauses}
use Rattle.bindings.specs.contracts.hidden.Hidden.of.Key.{name as #self}
use Rattle.bindings.proofs.hidden.Hidden.of.Statement.{statement}
use Rattle.bindings.specs.contracts.payload.Payload as held
use Rattle.bindings.specs.contracts.hidden.Hidden as hidden
use Rattle.bindings.proofs.hidden.Hidden.of.Code as code

abbrev From : RattleType
From = Loose held.the_row heap.the_row heap_laws.the_row_laws ghosts

abbrev stayed : Stays ended.signature.params ended.kept
stayed = (stay_dropped (plain (λ _. From)) yes, tt)

pub of_spec : {M : Type 1} → statement M
of_spec 𝓤 𝓛 𝓜 𝓡 wired =
    let H = 𝓛.H in let 𝓣 = tables 𝓤 H 𝓜 𝓡 𝓡.env in let fn = code.function in let c = clauses 𝓛 𝓜.mem 𝓡.returns in
    proved_at 𝓛 ended stayed c 𝓜 𝓡 (Goes-blank 𝓛 0 (plain (λ _. From)) yes (λ κs x f. tt), tt) #self fn (code.unfolded 𝓤 H 𝓜 𝓡 wired) (λ z are.
    let v = z.0.3.0 in let Post : Val → SProp 𝓤 = (walk_of 𝓛 ended stayed c).post z in let Run : List Val → SProp 𝓤 = λ ws. WpFn 𝓤 H 𝓣.C 𝓣.Λ fn ws Post in
    qed 𝓛 ((raw (alive 𝓛 ended.signature z.0.0 z.0.1) ⊛ ‵ (owns (types_at ended.signature.params z.0.0) z.0.3 z.0.4)) ∷ ‵ ftrue ∷ []) ∵ split ! $ move ! (1 ∷ []) $ fsplit ! $
    loose_out held.the_row heap.the_row heap_laws.the_row_laws ghosts ! v z.0.4.0 (λ b o h e ws fits.
    let w : Val = both (vptr b o) h in let out : Val = vstruct (vcons (vptr b o) vnil) in let made : hidden.the_row.Denot = record { at = block_ptr b o; value = Some v.value } in
    suffices ! (Run (w ∷ [])) (subst (λ (us : List Val). ent 𝓤 (Run (w ∷ [])) (Run us)) (sym (λ i. ws i ++ [])) (id⊢ 𝓤 (Run (w ∷ [])))) $
    enter ! 𝓣.C 𝓣.Λ fn (w ∷ []) Post $ alloc_all ! (λ l. pass_all ! refl (loose_good held.the_row heap.the_row heap_laws.the_row_laws ghosts b o h fits, tt) $
    -- [the box; the allocator; nothing; the tokens; the `requires`]
    sets ! (of_opd ! (get_in ! (fld ! refl (stop !)) (sub ! 0 refl (whole !)))) refl (tt, tt) $
    sets ! (of_opd ! (get_in ! (fld ! refl (stop !)) (sub ! 1 refl (whole !)))) refl fits $
    sets ! (of_opd ! (get ! refl)) refl (tt, tt) $
    sets ! (agg ! (and_then ! (get ! refl) (no_more !))) refl (tt, (tt, tt)) $
    nothing ! $ feq_i ! (List Val) (vptr b o ∷ []) (vptr b o ∷ []) refl $ fjoin ! $ feq_i ! (List Val) (out ∷ []) (out ∷ []) refl $ fjoin ! $
    fpack ! (Valss (RawPtr ∷ [])) (within (shape hidden.the_type) (block_ptr b o, tt) (out ∷ [])) (vptr b o ∷ [], tt) $ fjoin ! $
    -- [the handle; the allocator; nothing; the tokens; ..]
    use0 𝓛 (raw (fact 𝓤 (made.value ≡ Some v.value))) (fact_i 𝓤 (made.value ≡ Some v.value) (emp 𝓤) refl) $ nothing ! $ nothing ! $ fjoin ! $
    returns ! (look_at ! 0 refl) $ free_all ! refl $ keep ! (5 ∷ 0 ∷ 2 ∷ 1 ∷ []) $ by ! (leaves 𝓛 ended stayed c z out made (tt, tt) (tt, tt)))))
