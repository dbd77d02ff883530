-- The text of a trace is that of its events, one after the other.
use Rattle.trace_events.proofs.Common.{◌≡◌, append_assoc, ℕ, List, [], ◌∷◌, ◌++◌, ◌∙◌, refl, sym, ap, Bool, true, false, Token, begin_object, end_object, end_array, key, string, Json, Items, Members, json_tokens, items_tokens, members_tokens, print, print_from, ends, escape_byte, Named, members_of, object_of, list_tokens, member_tokens, items_of, json_text, trace_text, later_texts}
use Rattle.std.specs.Prelude.{codes, fold}
use Rattle.json.specs.Json as json
use Rattle.json.proofs.Printed.Tokens.{print_from-append}

abbrev ended : Bool → List Token → Bool
ended c ts = fold (λ _ t. ends t) c ts

ended_append : (c : Bool) (ts us : List Token) → ended c (ts ++ us) ≡ ended (ended c ts) us
ended_append c [] us = refl
ended_append c (t ∷ ts) us = ended_append (ends t) ts us

-- a value ends where it ends
mutual
  ended_value : (c : Bool) (j : Json) → ended c (json_tokens j) ≡ true
  ended_value c json.null = refl
  ended_value c (json.boolean b) = refl
  ended_value c (json.number s) = refl
  ended_value c (json.string s) = refl
  ended_value c (json.array js) = ended_items false js
  ended_value c (json.object ms) = ended_members false ms

  ended_items : (c : Bool) (js : Items) → ended c (items_tokens js) ≡ true
  ended_items c json.no_items = refl
  ended_items c (json.item j js) = ended_append c (json_tokens j) (items_tokens js) ∙ ended_items _ js

  ended_members : (c : Bool) (ms : Members) → ended c (members_tokens ms) ≡ true
  ended_members c json.no_members = refl
  ended_members c (json.member k j ms) = ended_append false (json_tokens j) (members_tokens ms) ∙ ended_members _ ms

-- a value after another has a comma before it
comma_before : (j : Json) → print_from true (json_tokens j) ≡ 44 ∷ print (json_tokens j)
unfolding print_from
comma_before json.null = refl
comma_before (json.boolean b) = refl
comma_before (json.number s) = refl
comma_before (json.string s) = refl
comma_before (json.array js) = refl
comma_before (json.object ms) = refl

value_before : (c : Bool) (j : Json) (ts : List Token) → print_from c (json_tokens j ++ ts) ≡ print_from c (json_tokens j) ++ print_from true ts
value_before c j ts = print_from-append c (json_tokens j) ts ∙ ap (λ b. print_from c (json_tokens j) ++ print_from b ts) (ended_value c j)

later_before : (js : List Json) (ts : List Token) → print_from true (items_tokens (items_of js) ++ ts) ≡ later_texts js ++ print_from true (end_array ∷ ts)
later_before [] ts = refl
later_before (j ∷ js) ts =
    ap (print_from true) (append_assoc (json_tokens j) (items_tokens (items_of js)) ts)
    ∙ value_before true j (items_tokens (items_of js) ++ ts)
    ∙ ap (λ w. w ++ print_from true (items_tokens (items_of js) ++ ts)) (comma_before j)
    ∙ ap (λ w. (44 ∷ json_text j) ++ w) (later_before js ts)
    ∙ sym (append_assoc (44 ∷ json_text j) (later_texts js) (print_from true (end_array ∷ ts)))

-- what is printed of a trace, part by part, is its text
pub trace_joined : (first : Json) (events : List Json) → ((codes "{\"traceEvents\":[" ++ json_text first) ++ later_texts events) ++ codes "],\"displayTimeUnit\":\"ns\"}" ≡ trace_text (first ∷ events)
unfolding trace_text print_from escape_byte
trace_joined first events =
    let ending : List Token = key (codes "displayTimeUnit") ∷ string (codes "ns") ∷ end_object ∷ [] in
    let front : List ℕ = codes "{\"traceEvents\":[" in
    let close : List ℕ = codes "],\"displayTimeUnit\":\"ns\"}" in
    append_assoc (front ++ json_text first) (later_texts events) close
    ∙ append_assoc front (json_text first) (later_texts events ++ close)
    ∙ ap (λ w. front ++ (json_text first ++ w)) (sym (later_before events ending))
    ∙ ap (λ w. front ++ w) (sym (value_before false first (items_tokens (items_of events) ++ ending)))
    ∙ ap (λ w. front ++ print_from false w) (sym (append_assoc (json_tokens first) (items_tokens (items_of events)) ending))

-- the tokens of members, and of the end of their object
pub tokens_listed : (ms : List Named) → members_tokens (members_of ms) ≡ list_tokens ms ++ end_object ∷ []
tokens_listed [] = refl
tokens_listed (m ∷ ms) = ap (λ ts. key m.name ∷ (json_tokens m.value ++ ts)) (tokens_listed ms) ∙ sym (append_assoc (member_tokens m) (list_tokens ms) (end_object ∷ []))

-- the tokens of an object are those of its members
pub object_tokens : (ms : List Named) → json_tokens (object_of ms) ≡ begin_object ∷ (list_tokens ms ++ end_object ∷ [])
object_tokens ms = ap (λ ts. begin_object ∷ ts) (tokens_listed ms)
