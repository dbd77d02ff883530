-- A device that served a byte more.
use Rattle.boot_threads.proofs.Common.{◌≡◌, ℕ, zero, suc, ◌+◌, ◌<◌, ◌≤◌, ◌%◌, ◌^◌, Bool, true, false, List, [], ◌∷◌, ◌++◌, refl, sym, ap, subst, ◌∙◌, arith, if◌then◌else◌, not, map, filter, length, Result, Ok, Err, mod-eq_of_lt, append_assoc, append-nil, map-append, LineOut, bytes_received, lines_put, ProcChain, AnyQuaject, Queues, RawTty, end_of, overruns_of, PutByte, Try, bytes_of, lines_of, refused, PutEach, Served, MatchBool, is_ok, mod-add-mod, add-zero, length-append, filter-append, PutLine, SameLines, pact_of, me_of, IsSameEnd, NotedTimes, zeros}
use Rattle.claim_queue.specs.Handles as claims
use Rattle.claim_queue.specs.Own.{View}
use Rattle.proc_chain.specs.Notes.{notes_put, alone}
use Rattle.proc_chain.specs.Rules.{suits, makes}
use Rattle.quajects.specs.Anys.{MadeOf, Fits}
use Rattle.quajects.specs.Notings.{Noted}

put_more : (tries : List Try) (one : Try) (v u w : View) → PutEach v tries u → PutByte u one.byte one.put w → PutEach v (tries ++ one ∷ []) w
put_more [] one v u w e h = (w, subst (λ (z : View). PutByte z one.byte one.put w) e h, refl)
put_more (t ∷ tries) one v u w e h = (e.0, e.1, put_more tries one e.0 u w e.2 h)

-- a try more puts its line, with its share as it was
line_more : (byte : ℕ) (put : Bool) (u w : View) → MatchBool put (PutLine (byte ∷ []) u w) (SameLines u w) → (lines_put w ≡ lines_put u ++ lines_of (record { byte = byte; put = put } ∷ [])) × (w.member.share ≡ u.member.share)
line_more byte true u w l = (l.puts, l.share)
line_more byte false u w l = (l.puts ∙ sym (append-nil (lines_put u)), l.share)

lines_more : (tries : List Try) (one : Try) → lines_of tries ++ lines_of (one ∷ []) ≡ lines_of (tries ++ one ∷ [])
lines_more tries one = sym (ap (map (λ (t : Try). t.byte ∷ [])) (filter-append (λ (t : Try). t.put) tries (one ∷ [])) ∙ map-append (λ (t : Try). t.byte ∷ []) (filter (λ (t : Try). t.put) tries) (filter (λ (t : Try). t.put) (one ∷ [])))

refused_more : (tries : List Try) (one : Try) → refused tries + refused (one ∷ []) ≡ refused (tries ++ one ∷ [])
refused_more tries one = sym (ap length (filter-append (λ (t : Try). not t.put) tries (one ∷ [])) ∙ length-append (filter (λ (t : Try). not t.put) tries) (filter (λ (t : Try). not t.put) (one ∷ [])))

overruns_more : (first before after n byte : ℕ) (put : Bool) → before ≡ (first + n) % 2 ^ 64 → after ≡ (if put then before else (before + 1) % 2 ^ 64) → after ≡ (first + (n + refused (record { byte = byte; put = put } ∷ []))) % 2 ^ 64
overruns_more first before after n byte true h e = e ∙ h ∙ ap (λ (z : ℕ). (first + z) % 2 ^ 64) (sym (add-zero n))
overruns_more first before after n byte false h e =
    let sums : first + n + 1 ≡ first + (n + 1) = omega arith in
    e ∙ ap (λ (z : ℕ). (z + 1) % 2 ^ 64) h ∙ mod-add-mod (first + n) (2 ^ 64) 1 ∙ ap (λ (z : ℕ). z % 2 ^ 64) sums

zeros_more : (count : ℕ) → zeros count ++ alone 0 ∷ [] ≡ zeros (suc count)
zeros_more zero = refl
zeros_more (suc count) = ap (λ (z : List (List ℕ)). alone 0 ∷ z) (zeros_more count)

-- so many notes 0 more, at most
record FewNotes (count : ℕ) (old new : List (List ℕ)) : Type 0 where
  chained : ℕ
  at_most : chained ≤ count
  notes : new ≡ old ++ zeros chained

few_more : {A B : Type 0} (count : ℕ) (old before after : List (List ℕ)) (answer : Result A B) → FewNotes count old before → after ≡ (if is_ok answer then before ++ alone 0 ∷ [] else before) → FewNotes (count + 1) old after
few_more count old before after (Ok x) few e = record {
  chained = suc few.chained;
  at_most = let m = few.at_most in omega (arith, m);
  notes = e ∙ ap (λ (z : List (List ℕ)). z ++ alone 0 ∷ []) few.notes ∙ append_assoc old (zeros few.chained) (alone 0 ∷ []) ∙ ap (λ (z : List (List ℕ)). old ++ z) (zeros_more few.chained);
}
few_more count old before after (Err x) few e = record {
  chained = few.chained;
  at_most = let m = few.at_most in omega (arith, m);
  notes = e ∙ few.notes;
}

module _ (chain : ProcChain AnyQuaject Queues) (line : LineOut) (tty : RawTty) where
  -- nothing was popped
  pub served_none : overruns_of tty < 2 ^ 64 → Served chain 0 line tty line tty
  served_none below = record {
    tries = [];
    many = refl;
    received = sym (append-nil (bytes_received line));
    same_end = (refl, refl);
    put = refl;
    lines = sym (append-nil (lines_put (claims.view_of (end_of tty))));
    overruns = sym (ap (λ (z : ℕ). z % 2 ^ 64) (add-zero (overruns_of tty)) ∙ mod-eq_of_lt below);
    share = refl;
    same_chain = (refl, refl);
    noted = refl;
    chained = 0;
    at_most = omega arith;
    notes = sym (append-nil (notes_put (me_of tty.chain).0));
    chain_share = refl;
  }

  -- a byte more was popped, and the raw tty was interrupted with it
  pub served_more : (count byte : ℕ) (put : Bool) (line1 line2 : LineOut) (tty1 tty2 : RawTty) → Served chain count line tty line1 tty1
      → bytes_received line2 ≡ bytes_received line1 ++ byte ∷ []
      → claims.IsSameEnd (end_of tty1) (end_of tty2)
      → PutByte (claims.view_of (end_of tty1)) byte put (claims.view_of (end_of tty2))
      → MatchBool put (PutLine (byte ∷ []) (claims.view_of (end_of tty1)) (claims.view_of (end_of tty2))) (SameLines (claims.view_of (end_of tty1)) (claims.view_of (end_of tty2)))
      → overruns_of tty2 ≡ (if put then overruns_of tty1 else (overruns_of tty1 + 1) % 2 ^ 64)
      → IsSameEnd tty1.chain tty2.chain
      → Noted (makes MadeOf (pact_of chain)) (suits Fits (pact_of chain)) (me_of tty1.chain) 0 (me_of tty2.chain)
      → Served chain (count + 1) line tty line2 tty2
  served_more count byte put line1 line2 tty1 tty2 s received same tried lines overruns same_chain noted =
      let v = claims.view_of (end_of tty) in
      let one : Try = record { byte = byte; put = put } in
      let more = line_more byte put (claims.view_of (end_of tty1)) (claims.view_of (end_of tty2)) lines in
      let made = makes MadeOf (pact_of chain) in let fits = suits Fits (pact_of chain) in
      let next : suc count ≡ count + 1 = omega arith in
      let few = few_more count (notes_put (me_of tty.chain).0) (notes_put (me_of tty1.chain).0) (notes_put (me_of tty2.chain).0) noted.answer (record { chained = s.chained; at_most = s.at_most; notes = s.notes }) noted.puts in record {
        tries = s.tries ++ one ∷ [];
        many = length-append s.tries (one ∷ []) ∙ ap (λ (z : ℕ). z + 1) s.many;
        received = received ∙ ap (λ (z : List ℕ). z ++ byte ∷ []) s.received ∙ append_assoc (bytes_received line) (bytes_of s.tries) (byte ∷ []) ∙ ap (λ (z : List ℕ). bytes_received line ++ z) (sym (map-append (λ (t : Try). t.byte) s.tries (one ∷ [])));
        same_end = (same.0 ∙ s.same_end.0, same.1 ∙ s.same_end.1);
        put = put_more s.tries one v (claims.view_of (end_of tty1)) (claims.view_of (end_of tty2)) s.put tried;
        lines = more.0 ∙ ap (λ (z : List (List ℕ)). z ++ lines_of (one ∷ [])) s.lines ∙ append_assoc (lines_put v) (lines_of s.tries) (lines_of (one ∷ [])) ∙ ap (λ (z : List (List ℕ)). lines_put v ++ z) (lines_more s.tries one);
        overruns = overruns_more (overruns_of tty) (overruns_of tty1) (overruns_of tty2) (refused s.tries) byte put s.overruns overruns ∙ ap (λ (z : ℕ). (overruns_of tty + z) % 2 ^ 64) (refused_more s.tries one);
        share = more.1 ∙ s.share;
        same_chain = (same_chain.0 ∙ s.same_chain.0, same_chain.1 ∙ s.same_chain.1);
        noted = subst (λ (z : ℕ). NotedTimes made fits (me_of tty.chain) z (me_of tty2.chain)) next (me_of tty1.chain, s.noted, noted);
        chained = few.chained;
        at_most = few.at_most;
        notes = few.notes;
        chain_share = noted.share ∙ s.chain_share;
      }
