-- Tokens that are appended in several steps, and the text of an event.
use Rattle.trace_events.proofs.Common.{◌≡◌, ◌≤◌, ℕ, ◌-◌, append_assoc, List, [], ◌∷◌, ◌++◌, ◌∙◌, sym, ap, subst, Result, flat_map-append, on_ok_weaker, IfOk-weaker, AllByRecursion, Token, begin_object, end_object, key, Json, Items, Members, json_tokens, items_tokens, members_tokens, HasNumbers, ItemsHaveNumbers, MembersHaveNumbers, depth, print, IsPrintable, Grown, Writes, IsAlone, Named, list_tokens, member_tokens, timed, IsEvent, head, turn_json, turn_opening}
use Rattle.std.specs.Prelude.{IfOk, Vec, codes}
use Rattle.std.specs.declared.alloc.Global.{Global}
use Rattle.json.specs.Json as json
use Rattle.json.specs.Written.{Written}
use Rattle.event_theory.specs.declared.refusal.OutOfMemory.{OutOfMemory}
use Rattle.trace_events.proofs.Documents.{tokens_listed}

pub all_append : {A : Type 0} (P : A → Type 0) (xs ys : List A) → AllByRecursion P xs → AllByRecursion P ys → AllByRecursion P (xs ++ ys)
all_append P [] ys h k = k
all_append P (x ∷ xs) ys h k = (h.0, all_append P xs ys h.1 k)

-- two tokens, one after the other
pub two_written : (a b c : Written) (t u : Token) → b.before ≡ a.before → b.tokens ≡ a.tokens ++ t ∷ [] → c.before ≡ b.before → c.tokens ≡ b.tokens ++ u ∷ [] → IsPrintable t → IsPrintable u → Grown a c (t ∷ u ∷ [])
two_written a b c t u p q r s v w = record {
  before = r ∙ p;
  tokens = s ∙ (ap (λ ts. ts ++ u ∷ []) q ∙ append_assoc a.tokens (t ∷ []) (u ∷ []));
  printable = (v, (w, tt));
}

pub grown_join : (a b c : Written) (xs ys : List Token) → Grown a b xs → Grown b c ys → Grown a c (xs ++ ys)
grown_join a b c xs ys h k = record {
  before = k.before ∙ h.before;
  tokens = k.tokens ∙ (ap (λ ts. ts ++ ys) h.tokens ∙ append_assoc a.tokens xs ys);
  printable = all_append IsPrintable xs ys h.printable k.printable;
}

pub then_writes : (result : Result (Unit {0}) OutOfMemory) (a b c : Written) (xs ys : List Token) → Grown a b xs → Writes result b c ys → Writes result a c (xs ++ ys)
then_writes result a b c xs ys h k = on_ok_weaker result (λ l. grown_join a b c xs ys h l) k

pub alone_join : (a b : Written) (xs ys : List Token) → IsAlone a xs → Grown a b ys → IsAlone b (xs ++ ys)
alone_join a b xs ys h k = record {
  before = k.before ∙ h.before;
  tokens = k.tokens ∙ ap (λ ts. ts ++ ys) h.tokens;
  printable = all_append IsPrintable xs ys h.printable k.printable;
}

-- the numbers of a value whose tokens can be read back are numbers of JSON
mutual
  value_numbers : (j : Json) (ts : List Token) → AllByRecursion IsPrintable (json_tokens j ++ ts) → HasNumbers j × AllByRecursion IsPrintable ts
  value_numbers json.null ts h = (tt, h.1)
  value_numbers (json.boolean b) ts h = (tt, h.1)
  value_numbers (json.number s) ts h = (h.0, h.1)
  value_numbers (json.string s) ts h = (tt, h.1)
  value_numbers (json.array js) ts h = items_numbers js ts h.1
  value_numbers (json.object ms) ts h = members_numbers ms ts h.1

  items_numbers : (js : Items) (ts : List Token) → AllByRecursion IsPrintable (items_tokens js ++ ts) → ItemsHaveNumbers js × AllByRecursion IsPrintable ts
  items_numbers json.no_items ts h = (tt, h.1)
  items_numbers (json.item j js) ts h =
      let first = value_numbers j (items_tokens js ++ ts) (subst (AllByRecursion IsPrintable) (append_assoc (json_tokens j) (items_tokens js) ts) h) in
      let rest = items_numbers js ts first.1 in ((first.0, rest.0), rest.1)

  members_numbers : (ms : Members) (ts : List Token) → AllByRecursion IsPrintable (members_tokens ms ++ ts) → MembersHaveNumbers ms × AllByRecursion IsPrintable ts
  members_numbers json.no_members ts h = (tt, h.1)
  members_numbers (json.member k j ms) ts h =
      let first = value_numbers j (members_tokens ms ++ ts) (subst (AllByRecursion IsPrintable) (append_assoc (json_tokens j) (members_tokens ms) ts) h.1) in
      let rest = members_numbers ms ts first.1 in ((first.0, rest.0), rest.1)

numbers_of : (j : Json) (ts : List Token) → AllByRecursion IsPrintable ts → ts ≡ json_tokens j → HasNumbers j
numbers_of j ts h same = (value_numbers j [] (all_append IsPrintable (json_tokens j) [] (subst (AllByRecursion IsPrintable) same h) tt)).0

-- all that was written is the text of an event
pub alone_text : (out : Written) (ts : List Token) (text : List ℕ) (j : Json) → IsAlone out ts → text ≡ out.before ++ print out.tokens → ts ≡ json_tokens j → depth j ≤ 2 → IsEvent text j
alone_text out ts text j h e same shallow = record {
  is = e ∙ (ap (λ w. w ++ print out.tokens) h.before ∙ ap print (h.tokens ∙ same));
  numbers = numbers_of j ts h.printable same;
  shallow = shallow;
}

-- all that was written, and the ends of two objects, is the text of an event
pub ended_text : (result : Result (Vec ℕ Global) OutOfMemory) (out : Written) (ts : List Token) (j : Json) → IsAlone out ts → IfOk result (λ text. text.items ≡ out.before ++ print (out.tokens ++ end_object ∷ end_object ∷ []))
    → ts ++ end_object ∷ end_object ∷ [] ≡ json_tokens j → depth j ≤ 2 → IfOk result (λ text. IsEvent text.items j)
ended_text result out ts j h e same shallow =
    let ending : List Token = end_object ∷ end_object ∷ [] in
    IfOk-weaker result _ _ (λ text k. record {
      is = k ∙ (ap (λ w. w ++ print (out.tokens ++ ending)) h.before ∙ ap print (ap (λ w. w ++ ending) h.tokens ∙ same));
      numbers = numbers_of j (ts ++ ending) (all_append IsPrintable ts ending h.printable (tt, (tt, tt))) same;
      shallow = shallow;
    }) e

-- the opening of a turn, by the time for which it lasted
pub opened_for : (name : List ℕ) (track from until lasted : ℕ) (out : Written) → lasted ≡ until - from
    → IsAlone out (begin_object ∷ list_tokens (head name (codes "turn") (codes "X") track ++ timed (codes "ts") from ∷ timed (codes "dur") lasted ∷ []) ++ key (codes "args") ∷ begin_object ∷ [])
    → IsAlone out (turn_opening name track from until)
unfolding turn_opening
opened_for name track from until lasted out e h =
    subst (λ n. IsAlone out (begin_object ∷ list_tokens (head name (codes "turn") (codes "X") track ++ timed (codes "ts") from ∷ timed (codes "dur") n ∷ []) ++ key (codes "args") ∷ begin_object ∷ [])) e h

-- the tokens of a turn are those up to its arguments, those of its arguments, and the ends of both objects
pub turn_closed : (name : List ℕ) (track from until : ℕ) (args : List Named) → (turn_opening name track from until ++ list_tokens args) ++ end_object ∷ end_object ∷ [] ≡ json_tokens (turn_json name track from until args)
unfolding turn_opening
turn_closed name track from until args =
    let ending : List Token = end_object ∷ [] in
    ap (λ ts. turn_opening name track from until ++ ts) (sym (append_assoc (list_tokens args) ending ending) ∙ ap (λ ts. ts ++ ending) (sym (tokens_listed args)))

-- the tokens of three lists of members, after others
pub three_listed : (ts : List Token) (ms ns os : List Named) → ((ts ++ list_tokens ms) ++ list_tokens ns) ++ list_tokens os ≡ ts ++ list_tokens ((ms ++ ns) ++ os)
three_listed ts ms ns os =
    ap (λ us. us ++ list_tokens os) (append_assoc ts (list_tokens ms) (list_tokens ns))
    ∙ (append_assoc ts (list_tokens ms ++ list_tokens ns) (list_tokens os)
    ∙ ap (λ us. ts ++ us) (sym (flat_map-append member_tokens (ms ++ ns) os ∙ ap (λ us. us ++ list_tokens os) (flat_map-append member_tokens ms ns))))
