use Rattle.spooler.proofs.Common.{Vec, rules, ◌≡◌, ◌∙◌, ◌++◌, ◌∷◌, [], List, Bool, Option, IfSome, true, false, refl, sym, ap, subst, if◌then◌else◌, map-append, view_of, Line, HasTaken, lines_of, valid_end}
use Rattle.std.specs.Bool.{then_some}
use Rattle.spooler.proofs.Wholes.{line_whole}
use Rattle.spooler.proofs.Taking.{more_taken, puts_through, all_taken, refused_ordered, took_ordered, took_few}
use Rattle.spooler.proofs.spool.take_lines.Goals as goal

never : false ≡ true → ⊥
never e = absurd cc

pub loop-preserved : goal.loop-preserved
loop-preserved g c = let i = c.loop.invariant in let s = c.in-Err.ensures.effect in record {
  steps = search rules;
  mine = search rules;
  puts = puts_through (view_of c.args.end) (view_of c.loop.end) (view_of c.try_take_line.new.end) i.puts s.puts s.share;
  order = λ o. refused_ordered (view_of c.loop.end) (view_of c.try_take_line.new.end) c.in-Err.field-0 (valid_end c.loop.end) (valid_end c.try_take_line.new.end) c.in-Err.ensures.trace (i.order o);
  taken = λ k. s.takes ∙ i.taken k;
}

pushed : (is : Bool) (new old : List Line) (line : Line) → new ≡ (if is then old ++ line ∷ [] else old) → is ≡ true → lines_of new ≡ lines_of old ++ line.items.items ∷ []
pushed true new old line is _ = ap lines_of is ∙ map-append (λ (z : Line). z.items.items) old (line ∷ [])
pushed false new old line is e = absurd (never e)

-- what was taken is a line
pub invariant_of-push : goal.invariant_of-push
invariant_of-push g c = record { whole = line_whole c.try_take_line.new.line.items c.in-Ok.ensures.line.1 (took_few c.loop.end c.try_take_line.new.end c.try_take_line.new.line.items c.in-Ok.ensures.trace) }

pub loop-preserved-then-is_ok : goal.loop-preserved-then-is_ok
loop-preserved-then-is_ok g c = let i = c.loop.invariant in let t = c.in-Ok.ensures.effect in let items = c.try_take_line.new.line.items in record {
  steps = search rules;
  mine = search rules;
  puts = puts_through (view_of c.args.end) (view_of c.loop.end) (view_of c.try_take_line.new.end) i.puts t.puts t.share;
  order = λ o. took_ordered (view_of c.loop.end) (view_of c.try_take_line.new.end) items (valid_end c.loop.end) (valid_end c.try_take_line.new.end) c.in-Ok.ensures.line.1.1 c.in-Ok.ensures.trace (i.order o);
  taken = λ k. more_taken (view_of c.args.end) (view_of c.loop.end) (view_of c.try_take_line.new.end) items (lines_of c.loop.lines.items) (lines_of c.push.new.self.items) t (i.taken k) (pushed _ _ _ _ c.push.ensures.items (sym c.is_ok.ensures.value ∙ c.if-is_ok.true));
}

pub loop-preserved-else-is_ok : goal.loop-preserved-else-is_ok
loop-preserved-else-is_ok g c = let i = c.loop.invariant in let t = c.in-Ok.ensures.effect in let items = c.try_take_line.new.line.items in record {
  steps = search rules;
  mine = search rules;
  puts = puts_through (view_of c.args.end) (view_of c.loop.end) (view_of c.try_take_line.new.end) i.puts t.puts t.share;
  order = λ o. took_ordered (view_of c.loop.end) (view_of c.try_take_line.new.end) items (valid_end c.loop.end) (valid_end c.try_take_line.new.end) c.in-Ok.ensures.line.1.1 c.in-Ok.ensures.trace (i.order o);
  taken = λ k. absurd (never (sym c.if-is_ok.false ∙ k));
}

-- the lines that are kept, if there was memory for all
kept_lines : (kept : Bool) (lines : Vec Line) (result : Option (Vec Line)) (P : Vec Line → Type 0) → result ≡ then_some kept lines → (kept ≡ true → P lines) → IfSome result P
kept_lines true lines result P is h = subst (λ (z : Option (Vec Line)). IfSome z P) (sym is) (h refl)
kept_lines false lines result P is h = subst (λ (z : Option (Vec Line)). IfSome z P) (sym is) tt

pub returns-in-Err-Closed : goal.returns-in-Err-Closed
returns-in-Err-Closed g c = let i = c.loop.invariant in let s = c.in-Err-Closed.ensures.effect in (
  (search rules),
  puts_through (view_of c.args.end) (view_of c.loop.end) (view_of c.try_take_line.new.end) i.puts s.puts s.share,
  kept_lines c.loop.kept c.loop.lines c.then_some.result (λ lines. HasTaken (lines_of lines.items) (view_of c.args.end) (view_of c.try_take_line.new.end)) c.then_some.ensures
      (λ k. all_taken (view_of c.args.end) (view_of c.loop.end) (view_of c.try_take_line.new.end) (lines_of c.loop.lines.items) c.in-Err-Closed.field-0 c.in-Err-Closed.field-0-is
      (valid_end c.loop.end) (valid_end c.try_take_line.new.end) c.in-Err-Closed.ensures.trace c.in-Err-Closed.ensures.effect i.order (i.taken k)),
)
