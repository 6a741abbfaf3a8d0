-- The tokens of objects and arrays.
use Rattle.std.proofs.Common.{◌≡◌, ℕ, List, [], ◌∷◌, ◌++◌, refl, sym, ap, ◌∙◌, append_assoc}
use Rattle.std.proofs.lemmas.Grind.{fold-append}
use Rattle.json.specs.Json.{Json}
use Rattle.json.specs.Token.{Token}
use Rattle.json.specs.Tree.{json_tokens, members_tokens, items_tokens}
use Rattle.pci_json.specs.Members.{with_members, with_items, add_member, add_item, member_tokens, members_of, array_items, object_of, array_of, hex}

members_written : (a : List Token) (ms : List (List ℕ × Json)) → with_members a ms ++ Token.end_object ∷ [] ≡ a ++ members_tokens (members_of ms)
members_written a [] = refl
members_written a (m ∷ ms) = members_written (a ++ member_tokens m) ms ∙ append_assoc a (member_tokens m) (members_tokens (members_of ms))

pub object_written : (a : List Token) (ms : List (List ℕ × Json))
    → with_members (a ++ Token.begin_object ∷ []) ms ++ Token.end_object ∷ [] ≡ a ++ json_tokens (object_of ms)
object_written a ms = members_written (a ++ Token.begin_object ∷ []) ms ∙ append_assoc a (Token.begin_object ∷ []) (members_tokens (members_of ms))

items_written : (a : List Token) (js : List Json) → with_items a js ++ Token.end_array ∷ [] ≡ a ++ items_tokens (array_items js)
items_written a [] = refl
items_written a (j ∷ js) = items_written (a ++ json_tokens j) js ∙ append_assoc a (json_tokens j) (items_tokens (array_items js))

pub array_written : (a : List Token) (js : List Json)
    → with_items (a ++ Token.begin_array ∷ []) js ++ Token.end_array ∷ [] ≡ a ++ json_tokens (array_of js)
array_written a js = items_written (a ++ Token.begin_array ∷ []) js ∙ append_assoc a (Token.begin_array ∷ []) (items_tokens (array_items js))

pub member_written : (a : List Token) (name : List ℕ) (j : Json) → (a ++ Token.key name ∷ []) ++ json_tokens j ≡ a ++ member_tokens (name, j)
member_written a name j = append_assoc a (Token.key name ∷ []) (json_tokens j)

pub more_members : (a : List Token) (ms ns : List (List ℕ × Json)) → with_members a (ms ++ ns) ≡ with_members (with_members a ms) ns
more_members a ms ns = fold-append add_member a ms ns

pub more_items : (a : List Token) (js ks : List Json) → with_items a (js ++ ks) ≡ with_items (with_items a js) ks
more_items a js ks = fold-append add_item a js ks

-- ---- one write after another

pub object_value : (a b c d : List Token) (ms : List (List ℕ × Json)) → b ≡ a ++ Token.begin_object ∷ [] → c ≡ with_members b ms → d ≡ c ++ Token.end_object ∷ []
    → d ≡ a ++ json_tokens (object_of ms)
object_value a b c d ms opened inside closed =
    closed ∙ ap (λ t. t ++ Token.end_object ∷ []) inside ∙ ap (λ t. with_members t ms ++ Token.end_object ∷ []) opened ∙ object_written a ms

pub array_value : (a b c d : List Token) (js : List Json) → b ≡ a ++ Token.begin_array ∷ [] → c ≡ with_items b js → d ≡ c ++ Token.end_array ∷ []
    → d ≡ a ++ json_tokens (array_of js)
array_value a b c d js opened inside closed =
    closed ∙ ap (λ t. t ++ Token.end_array ∷ []) inside ∙ ap (λ t. with_items t js ++ Token.end_array ∷ []) opened ∙ array_written a js

pub named_value : (a k d : List Token) (name : List ℕ) (j : Json) → k ≡ a ++ Token.key name ∷ [] → d ≡ k ++ json_tokens j → d ≡ with_members a ((name, j) ∷ [])
named_value a k d name j named value = value ∙ ap (λ t. t ++ json_tokens j) named ∙ member_written a name j

pub two_members : (a b c : List Token) (ms ns : List (List ℕ × Json)) → b ≡ with_members a ms → c ≡ with_members b ns → c ≡ with_members a (ms ++ ns)
two_members a b c ms ns first then = then ∙ ap (λ t. with_members t ns) first ∙ sym (more_members a ms ns)

-- a member more, whose value is a number in hex digits
pub hex_more : (a b c : List Token) (ms : List (List ℕ × Json)) (name written digits : List ℕ) → b ≡ with_members a ms
    → c ≡ b ++ Token.key name ∷ Token.string (48 ∷ 120 ∷ written) ∷ [] → written ≡ digits → c ≡ with_members a (ms ++ (name, hex digits) ∷ [])
hex_more a b c ms name written digits first wrote is =
    two_members a b c ms ((name, hex digits) ∷ []) first (wrote ∙ ap (λ t. b ++ Token.key name ∷ Token.string (48 ∷ 120 ∷ t) ∷ []) is)
