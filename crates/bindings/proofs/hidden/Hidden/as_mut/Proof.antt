-- The value in the box is lent in place, and the handle follows it. Nothing is called.
use Rattle.bindings.proofs.Walking.{◌≡◌, ℕ, true, List, [], ◌∷◌, ◌++◌, refl, sym, ap, ◌∙◌, bare, Val, vptr, vstruct}
use Rattle.bindings.proofs.Walking.{vcons, vnil, of_list, ent, sep, never, fst∗, GName, Fml, ftrue, fsep, flft, Env}
use Rattle.bindings.proofs.Walking.{fact, tables, Logic, sem, ‵, raw, ◌⊛◌, some, later, at_ret, ◌$◌, ◌∵◌, !, qed, move}
use Rattle.bindings.proofs.Walking.{keep, drop, use1, split, join, pick, fsplit, fsplit3, fjoin, fpick, fpack, feq_i}
use Rattle.bindings.proofs.Walking.{feq_l, rewrite, suffices, frame, await, group, done, whole, sub, look_in, stop, fld}
use Rattle.bindings.proofs.Walking.{load, addr, of_opd, first, blocks, exec, returns, enter, alloc_all, pass_all}
use Rattle.bindings.proofs.Walking.{free_all, look_at, get, through, sets, sets_last, env, RawPtr, no, lone, cell_at}
use Rattle.bindings.proofs.Walking.{part_at, mem, RattleType, Valss, Ptr, block_ptr, null_ptr, ptr_val, in_a_block}
use Rattle.bindings.proofs.Walking.{plain, mut_ref_to, nothing, heard, opens, shape, within, says, Stays, stay_dropped}
use Rattle.bindings.proofs.Walking.{walk_of, ends_at, Goes-spent_ref, proved, Option, Some, may_free, hides, is_some}
use Rattle.bindings.proofs.Walking.{there}
use denote.Memory.{part_of}
use seplogic.Ra.Ura.{Ura}
use base.Fraction.{full_share}
use mir.Syntax.{named}
use denote.Follow.{follows, lends_Part}
use denote.Ref.{MutRef, mut_vals, mut_Tells}
use Rattle.std.proofs.VecSteps.Shapes.{after}
use Rattle.bindings.specs.Lending.{leading}
use Rattle.bindings.specs.declared.hidden.Hidden.{Hidden}
use Rattle.bindings.specs.declared.payload.Payload.{Payload}
use Rattle.bindings.proofs.hidden.Hidden.as_mut.Statement.{statement}
use Rattle.bindings.specs.contracts.hidden.Hidden as hidden
use Rattle.bindings.specs.contracts.payload.Payload as payload
use Rattle.bindings.specs.contracts.hidden.Hidden.as_mut as f
use Rattle.bindings.proofs.hidden.Hidden.as_mut.Code as code

abbrev R : RattleType
R = hidden.the_row

abbrev T : RattleType
T = payload.the_row

abbrev stayed : Stays f.ended.signature.params f.ended.kept
stayed = (stay_dropped (mut_ref_to (0 ∷ []) tt (plain (λ _. R))) no, tt)

-- the handle that has this pointer
abbrev word : ℕ → ℕ → Val
word b o = vstruct (vcons (vptr b o) vnil)

-- all but the value
abbrev Rest : ℕ → ℕ → ℕ → ℕ → Fml
Rest rb ro b o = fsep (may_free (bare (lone T.mir)) (block_ptr b o)) (cell_at full_share R.mir (word b o ∷ []) rb ro)

module _ {M : Type 1} {𝓤 : Ura M} (𝓛 : Logic 𝓤) (rb ro b o : ℕ) (h : Hidden) (at_b : h.at ≡ block_ptr b o) where
  back : (w : Payload) → ent 𝓤 (sep 𝓤 (sem 𝓛 ((mem T).own_at w b o)) (sem 𝓛 (Rest rb ro b o))) (sem 𝓛 ((mem R).own_at (leading h w) rb ro))
  unfolding part_of
  back w =
      qed 𝓛 (‵ (part_at T full_share w b o) ∷ ‵ (Rest rb ro b o) ∷ []) ∵ move ! (1 ∷ []) $ fsplit ! $ move ! (2 ∷ 0 ∷ []) $ fjoin ! $
      rewrite ! 0 (λ (p : Ptr). ‵ (hides T p (Some w))) (sym at_b) refl $
      nothing ! $ feq_i ! (List Val) (vptr b o ∷ []) (ptr_val h.at ∷ []) (ap (λ (p : Ptr). ptr_val p ∷ []) (sym at_b)) $ fjoin ! $
      feq_i ! (List Val) (word b o ∷ []) (word b o ∷ []) refl $ fjoin ! $
      fpack ! (Valss (RawPtr ∷ [])) (within (shape hidden.the_type) (h.at, tt) (word b o ∷ [])) (vptr b o ∷ [], tt) $ fjoin ! $ move ! (1 ∷ 0 ∷ []) $ fjoin ! $
      fpack ! (List Val) (λ us. fsep (cell_at full_share R.mir us rb ro) (R.own_val (leading h w) us)) (word b o ∷ []) $ done !

pub as_mut_spec : {M : Type 1} → statement M
as_mut_spec 𝓤 𝓛 𝓜 𝓡 wired =
    let c = f.clauses 𝓛 𝓜.mem 𝓡.returns in let W = walk_of 𝓛 f.ended stayed c in let 𝓣 = tables 𝓤 𝓛.H 𝓜 𝓡 𝓡.env in
    proved 𝓛 f.ended stayed c 𝓜 𝓡 (Goes-spent_ref 𝓛 1 (0 ∷ []) tt (plain (λ _. R)), tt)
    f.Key.name code.function (code.unfolded 𝓤 𝓛.H 𝓜 𝓡 wired)
    (λ κs. (mut_vals, tt)) (λ κs. (mut_Tells (named 0) κs.0 R, tt)) (λ κs qs bounds a g are.
    let κ = κs.0 in let q = qs.0 in let rb : ℕ = a.0.ref_ptr.0 in let ro : ℕ = a.0.ref_ptr.1 in let γ : GName = a.0.ghost_name in let h : Hidden = a.0.now in let vs = mut_vals a.0 in
    let y : W.Ghost = ((κs, qs, bounds, a, (vs, tt)), g) in
    qed 𝓛 (((‵ (flft κ q) ⊛ ‵ ftrue) ⊛ ‵ ((MutRef (named 0) κ R).own_val a.0 vs) ⊛ ‵ ftrue) ∷ raw (fact 𝓤 (is_some h.value ≡ true)) ∷ []) ∵
    move ! (1 ∷ []) $ heard ! (is_some h.value ≡ true) (λ full. let x : Payload = (there h.value full).0 in let e₀ : h.value ≡ Some x = (there h.value full).1 in
    split ! $ split ! $ move ! (2 ∷ []) $ split ! $ keep ! (0 ∷ 2 ∷ []) $
    enter ! _ _ _ _ _ $ alloc_all ! (λ l. pass_all ! refl ((tt, tt), tt) $
    let En : Env 𝓤 𝓛.H = env code.Mir.locals l in
    fsplit3 ! $ move ! (1 ∷ 2 ∷ 3 ∷ []) $ opens ! tt R rb ro (λ us.
    move ! (1 ∷ []) $ fsplit ! $ fpick ! (λ vss. fsplit ! $ feq_l ! (λ ev. fsplit ! $ feq_l ! (λ ep. drop ! $
    rewrite ! 0 (λ (m : Option Payload). ‵ (hides T h.at m)) e₀ refl $
    in_a_block ! h.at (λ p. hides T p (Some x)) (fst∗ 𝓤 (never 𝓤) (sem 𝓛 (may_free (bare (lone T.mir)) null_ptr))) (λ b o e. fsplit ! $
    let is : us ≡ word b o ∷ [] = ev ∙ ap (λ (ps : List Val). vstruct (of_list (ps ++ [])) ∷ []) (ep ∙ ap (λ (p : Ptr). ptr_val p ∷ []) e) in
    rewrite ! 2 (λ (ws : List Val). ‵ (cell_at full_share R.mir ws rb ro)) is refl $
    -- [the value; the right to free; the cell of the handle; the open borrow, in three entries]
    first ! $ blocks ! $
    sets ! (of_opd ! (load ! (through ! refl (fld ! refl (stop !))) (look_in ! 2 (sub ! 0 refl (whole !))))) refl (tt, tt) $
    sets ! (of_opd ! (get ! refl)) refl (tt, tt) $
    sets_last ! (addr ! (through ! refl (stop !))) refl (tt, tt) $
    exec ! 𝓣.C 𝓣.Λ En (after 1 (code.function).body) (at_ret En (W.post y)) $
    sets ! (of_opd ! (get ! refl)) refl (tt, tt) $
    move ! (1 ∷ 2 ∷ []) $ fjoin ! $ move ! (2 ∷ 3 ∷ 4 ∷ 1 ∷ 0 ∷ []) $ group ! 5 $
    let way = back 𝓛 rb ro b o h e in
    use1 𝓛 (later (some (λ (δ : GName). ‵ ((MutRef (named 0) κ T).own_val (record { ref_ptr = (b, o); ghost_name = δ; now = x }) (vptr b o ∷ [])) ⊛ ‵ (flft κ q) ⊛ ‵ (follows R T γ δ (leading h)))))
    (lends_Part 𝓛 R T (leading h) (named 0) κ q rb ro b o γ (sem 𝓛 (Rest rb ro b o)) way (R.coded.code h) (R.coded.code h) x) $ await ! tt $ pick ! (λ δ. split ! $ move ! (1 ∷ []) $ split ! $
    returns ! (look_at ! 0 refl) $ free_all ! refl $ keep ! (2 ∷ 0 ∷ 1 ∷ []) $
    suffices ! _ (ends_at 𝓛 f.ended stayed c y (vptr b o) (record { ref_ptr = (b, o); ghost_name = δ; now = x }) (tt, tt) (tt, tt)) $
    nothing ! $ nothing ! $ fjoin ! $ join ! $ nothing ! $ move ! (2 ∷ 0 ∷ []) $ join ! $ join ! $ frame ! $ says ! e₀ $ done !)))))))))
