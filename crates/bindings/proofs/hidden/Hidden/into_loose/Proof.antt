-- The loose box owns what the handle owned: the value and the right to free its block. Nothing is called.
use Rattle.bindings.proofs.Walking.{◌≡◌, true, List, [], ◌∷◌, ◌++◌, refl, sym, ap, ◌∙◌, subst, Val, vptr, vstruct}
use Rattle.bindings.proofs.Walking.{vcons, vnil, of_list, bare, SProp, ent, emp, never, id⊢, fst∗, WpFn, fact, fact_i}
use Rattle.bindings.proofs.Walking.{tables, sem, ‵, raw, ◌⊛◌, ◌$◌, ◌∵◌, !, qed, by, move, keep, drop, use0, split}
use Rattle.bindings.proofs.Walking.{fsplit, fjoin, fpick, feq_l, suffices, rewrite, agg, sub, whole, stop, fld, of_opd}
use Rattle.bindings.proofs.Walking.{no_more, and_then, returns, enter, alloc_all, pass_all, free_all, look_at, get}
use Rattle.bindings.proofs.Walking.{get_in, sets, RattleType, owns, yes, lone, Ptr, block_ptr, null_ptr, ptr_val}
use Rattle.bindings.proofs.Walking.{in_a_block, types_at, plain, nothing, heard, alive, Stays, stay_dropped, walk_of}
use Rattle.bindings.proofs.Walking.{Goes-blank, handle_tells, proved_at, leaves, ghosts, Option, Some, both, Loose}
use Rattle.bindings.proofs.Walking.{loose_good, loose_in, al, may_free, hides, is_some, there}
use Rattle.std.proofs.alloc.Global.TheLaws as heap_laws
use Rattle.std.specs.contracts.alloc.Global as heap
use Rattle.bindings.specs.contracts.hidden.Hidden.into_loose.{ended, clauses}
use Rattle.bindings.specs.contracts.hidden.Hidden.into_loose.Key.{name as #self}
use Rattle.bindings.proofs.hidden.Hidden.into_loose.Statement.{statement}
use Rattle.bindings.specs.contracts.payload.Payload as held
use Rattle.bindings.specs.contracts.hidden.Hidden as hidden
use Rattle.bindings.proofs.hidden.Hidden.into_loose.Code as code

abbrev To : RattleType
To = Loose held.the_row heap.the_row heap_laws.the_row_laws ghosts

abbrev stayed : Stays ended.signature.params ended.kept
stayed = (stay_dropped (plain (λ _. hidden.the_row)) yes, (stay_dropped (plain (λ _. heap.the_row)) yes, tt))

pub into_loose_spec : {M : Type 1} → statement M
into_loose_spec 𝓤 𝓛 𝓜 𝓡 wired =
    let H = 𝓛.H in let 𝓣 = tables 𝓤 H 𝓜 𝓡 𝓡.env in let fn = code.function in let c = clauses 𝓛 𝓜.mem 𝓡.returns in
    proved_at 𝓛 ended stayed c 𝓜 𝓡 (Goes-blank 𝓛 0 (plain (λ _. hidden.the_row)) yes (λ κs x f. tt), (Goes-blank 𝓛 0 (plain (λ _. heap.the_row)) yes (λ κs x f. tt), tt)) #self fn (code.unfolded 𝓤 H 𝓜 𝓡 wired) (λ z are.
    let d = z.0.3.0 in let a = z.0.3.1.0 in let Post : Val → SProp 𝓤 = (walk_of 𝓛 ended stayed c).post z in let Run : List Val → SProp 𝓤 = λ ws. WpFn 𝓤 H 𝓣.C 𝓣.Λ fn ws Post in
    let us = z.0.4.0 in let vs = z.0.4.1.0 in
    qed 𝓛 ((raw (alive 𝓛 ended.signature z.0.0 z.0.1) ⊛ ‵ (owns (types_at ended.signature.params z.0.0) z.0.3 z.0.4)) ∷ raw (fact 𝓤 (is_some d.value ≡ true)) ∷ []) ∵ move ! (1 ∷ []) $ heard ! (is_some d.value ≡ true) (λ full. let x = (there d.value full).0 in let e₀ : d.value ≡ Some x = (there d.value full).1 in
    split ! $ move ! (1 ∷ []) $ fsplit ! $ fsplit ! $
    fpick ! (λ vss. fsplit ! $ feq_l ! (λ ev. fsplit ! $ feq_l ! (λ ep. drop ! $ rewrite ! 0 (λ (m : Option held.the_row.Denot). ‵ (hides held.the_row d.at m)) e₀ refl $
    in_a_block ! d.at (λ p. hides held.the_row p (Some x)) (fst∗ 𝓤 (never 𝓤) (sem 𝓛 (may_free (bare (lone (held.the_row).mir)) null_ptr))) (λ b o e.
    -- [the box; the allocator with nothing; the tokens; the `requires`]
    move ! (1 ∷ []) $ fsplit ! $ handle_tells (al held.the_row heap.the_row heap_laws.the_row_laws ghosts) ! a vs (λ h eh fits.
    let w : Val = vstruct (vcons (vptr b o) vnil) in let out : Val = both (vptr b o) h in let made : To.Denot = record { at = block_ptr b o; alloc = a; value = x } in
    let is : us ≡ w ∷ [] = ev ∙ ap (λ (ps : List Val). vstruct (of_list (ps ++ [])) ∷ []) (ep ∙ ap (λ (p : Ptr). ptr_val p ∷ []) e) in
    suffices ! (Run (w ∷ h ∷ [])) (subst (λ (xs : List Val). ent 𝓤 (Run (w ∷ h ∷ [])) (Run xs)) (sym (λ i. is i ++ (eh i ++ []))) (id⊢ 𝓤 (Run (w ∷ h ∷ [])))) $
    enter ! 𝓣.C 𝓣.Λ fn (w ∷ h ∷ []) Post $ alloc_all ! (λ l. pass_all ! refl ((tt, (tt, tt)), (fits, tt)) $
    -- [the allocator; nothing; the box; the tokens; the `requires`]
    sets ! (of_opd ! (get_in ! (fld ! refl (stop !)) (sub ! 0 refl (whole !)))) refl (tt, tt) $
    sets ! (of_opd ! (get ! refl)) refl (tt, tt) $
    sets ! (agg ! (and_then ! (get ! refl) (and_then ! (get ! refl) (no_more !)))) refl (loose_good held.the_row heap.the_row heap_laws.the_row_laws ghosts b o h fits) $
    move ! (2 ∷ 0 ∷ []) $ loose_in held.the_row heap.the_row heap_laws.the_row_laws ghosts ! b o h a x $
    -- [the loose box; nothing; the tokens; ..]
    use0 𝓛 (raw (fact 𝓤 (d.value ≡ Some x))) (fact_i 𝓤 (d.value ≡ Some x) (emp 𝓤) e₀) $ nothing ! $ nothing ! $ fjoin ! $ nothing ! $ fjoin ! $
    returns ! (look_at ! 0 refl) $ free_all ! refl $ keep ! (4 ∷ 0 ∷ 2 ∷ 1 ∷ []) $ by ! (leaves 𝓛 ended stayed c z out made (tt, (tt, tt)) (tt, (tt, tt)))))))))))
