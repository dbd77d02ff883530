-- What the proofs of the hidden pointer name, in one place.
pub use Rattle.bindings.specs.Hiding.{hides, is_some, may_free}
pub use Rattle.core.proofs.alloc.Calls.{Goes-blank, handle_tells}
pub use Rattle.loose_box.proofs.Values.{Loose, al, both, loose_good, loose_in, loose_out}
pub use Rattle.std.proofs.Common.{Bool, List, None, Option, Some, [], ap, false, lit<, refl, subst, sym, true, ℕ, ◌++◌}
pub use Rattle.std.proofs.Common.{◌∙◌, ◌∷◌, ◌≡◌}
pub use Rattle.std.proofs.raw_atomic.Walks.{leaves, proved, proved_at}
pub use Rattle.std.specs.contracts.impls.GlobalAllocator.TheImpl.{ghosts}
pub use base.Fml.{Fml, GName, flft, fsep, ftrue}
pub use base.Logic.{SProp, emp, ent, fst∗, id⊢, never, sep}
pub use contract.Monad.{fact, fact_i}
pub use contract.Running.{tables}
pub use denote.Builtin.{RawPtr}
pub use denote.Exit.{no, yes}
pub use denote.Memory.{cell_at, lone, mem, part_at}
pub use denote.RattleType.{RattleType, Valss, owns}
pub use denote.RawPtr.{Ptr, block_ptr, in_a_block, null_ptr, ptr_val}
pub use denote.Signature.{mut_ref_to, plain, types_at}
pub use denote.Steps.{heard, nothing, opens}
pub use denote.Struct.Owning.{shape}
pub use denote.Struct.Struct.{within}
pub use denote.Triple.Entry.{alive}
pub use denote.Triple.Walked.{Goes-spent_ref, Stays, ends_at, says, stay_dropped, walk_of}
pub use mir.Raw.{raw as bare}
pub use mir.Val.{Val, of_list, vcons, vnil, vptr, vstruct, vunit}
pub use prog.Wp.{Env, WpFn}
pub use types.ByLocal.{alloc_all, env, free_all, get, get_in, look_at, pass_all, sets, sets_last, through}
pub use types.Kit.{ !, at_ret, await, by, done, drop, feq_i, feq_l, fjoin, fpack, fpick, frame, fsplit, fsplit3, group}
pub use types.Kit.{join, keep, later, move, pick, qed, raw, rewrite, some, split, suffices, use0, use1, ‵, ◌$◌, ◌∵◌}
pub use types.Kit.{◌⊛◌}
pub use types.Logic.{Logic, sem}
pub use types.Part.{agg, look_in, sub, whole}
pub use types.Run.{addr, and_then, blocks, enter, exec, first, fld, lit, load, no_more, of_opd, returns, stop, unit_lit}

abbrev IsFalse : Bool → Type 0
IsFalse false = Unit {0}
IsFalse true = ⊥

-- the value that is there
pub there : {X : Type 0} (m : Option X) → is_some m ≡ true → (x : X) × (m ≡ Some x)
there None h = absurd (subst IsFalse h tt)
there (Some x) h = (x, refl)
