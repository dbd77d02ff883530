-- The sum of a poke, by its evidence: the notes chained, the notes run, and the share of an end of a chain.
use Rattle.turn_io.proofs.Common.{◌≡◌, ℕ, ◌+◌, [], ◌∷◌, ◌++◌, map, length, sym, ap, ◌∙◌, arith, length-append, length-map, map-append, Part, ChainRefusal, ChainEnd, Ghosts, ProcChain, Result, notes_taken, both_chain, Ok, Err, append-nil, Poked, AtChain, chained_if, notes_of, chain_end_share, HasPoked}
use Rattle.proc_chain.specs.declared.rule.ChainOps.{ChainOps}
use Rattle.proc_chain.specs.declared.chaining.ChainRefusal.TheVariants.{Spent, Full, Lost}
use Rattle.proc_chain.specs.Answers.{NotChained, with_run}
use Rattle.proc_chain.specs.Handles.{view_of}
use Rattle.proc_chain.specs.Links.{notes_in}
use Rattle.proc_chain.specs.Notes.{line_of, alone}
use Rattle.proc_chain.specs.Own.{View}
use Rattle.turn_io.specs.declared.poking.Poked.TheVariants.{Ran, Left}

pub none_more : (a b : ℕ) → a ≡ b → a ≡ b + 0
none_more a b e = omega arith

-- the end of a chain did this in addition, and has the share that it had
pub record ChainEndWorked {Q W : Type 0} {g : Ghosts Q W} (more : AtChain) (old new : ChainEnd Q W g) : Type 0 where
  pub did : notes_of (view_of new) ≡ both_chain (notes_of (view_of old)) more
  pub share : chain_end_share new ≡ chain_end_share old

-- one more note was put
one_more : (d : ChainOps) (position note : ℕ) → map line_of (with_run d position note).runs ≡ map line_of d.runs ++ alone note ∷ []
one_more d position note = map-append line_of d.runs _

-- a note that was refused: the end did nothing, and keeps its place among the ends
refused_did : (v w : View) (r : ChainRefusal) → NotChained v r w → (w.own ≡ v.own) × (w.member ≡ v.member)
refused_did v w Spent h = (h.3.did, h.3.member)
refused_did v w (Full head tail) h = (h.4.did, h.4.member)
refused_did v w (Lost head) h = (h.8.did, h.8.member)

module _ {Q W : Type 0} {g : Ghosts Q W} (old new : ChainEnd Q W g) where
  -- a note was chained and run with others, or left, or refused
  pub poked_worked : (chain : ProcChain Q W) (note : ℕ) (answer : Result Poked ChainRefusal) → HasPoked chain note answer old new → ChainEndWorked (chained_if answer note) old new
  poked_worked chain note (Ok (Ran notes)) i = record {
    did = λ k. record {
      notes = ((λ k. map line_of (i.steps.did k).runs) ∙ one_more (view_of old).own i.link.head note) k;
      ran = (ap length i.takes ∙ (length-append (notes_taken (view_of old)) (map alone (notes_in i.service)) ∙ (λ k. length (notes_taken (view_of old)) + (length-map (notes_in i.service) alone ∙ i.number) k))) k;
    };
    share = ap (λ (z : Part). z.share) i.steps.member;
  }
  poked_worked chain note (Ok Left) i = record {
    did = λ k. record { notes = ((λ k. map line_of (i.3.did k).runs) ∙ one_more (view_of old).own i.0.head note) k; ran = none_more _ _ (λ k. length (map line_of (i.3.did k).takes)) k };
    share = ap (λ (z : Part). z.share) i.3.member;
  }
  poked_worked chain note (Err r) h = let d = refused_did (view_of old) (view_of new) r h.0 in record {
    did = λ k. record { notes = (ap (λ (z : ChainOps). map line_of z.runs) d.0 ∙ sym (append-nil _)) k; ran = none_more _ _ (ap (λ (z : ChainOps). length (map line_of z.takes)) d.0) k };
    share = ap (λ (z : Part). z.share) d.1;
  }
