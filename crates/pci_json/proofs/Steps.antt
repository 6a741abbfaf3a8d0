-- The lines of a text, one after another, and what is written of them.
use Rattle.std.proofs.Common.{arith, ◌≡◌, ◌==◌, ℕ, List, [], ◌∷◌, ◌++◌, Bool, true, false, refl, sym, ap, ◌∙◌, length, if◌then◌else◌}
use Rattle.std.proofs.lemmas.Bool.{eqb-true}
use Rattle.json.specs.Json.{Json}
use Rattle.json.specs.Token.{Token}
use Rattle.json.specs.Tree.{json_tokens}
use Rattle.pci_json.specs.Lines.{parts_of_text, content_of, is_inner}
use Rattle.pci_json.specs.Members.{with_members, with_items}
use Rattle.pci_json.specs.Groups.{inner_of}
use Rattle.pci_json.proofs.Tokens.{more_members, more_items}

-- nothing is left
pub no_parts : (end : ℕ) (text : List ℕ) (empty : Bool) → empty ≡ (length text == 0) → empty ≡ true → parts_of_text end text ≡ []
unfolding parts_of_text
no_parts end [] empty is none = refl
no_parts end (b ∷ text) empty is none = absurd (let long = eqb-true (length (b ∷ text)) 0 (sym is ∙ none) in let no : ⊥ = omega (arith, long) in no)

pub inner_more : (lines more : List (List ℕ)) (line : List ℕ) → lines ≡ line ∷ more → is_inner line ≡ true → inner_of lines ≡ content_of line ∷ inner_of more
inner_more lines more line cut deep = ap inner_of cut ∙ ap (λ (b : Bool). if b then content_of line ∷ inner_of more else []) deep

pub inner_end : (lines more : List (List ℕ)) (line : List ℕ) → lines ≡ line ∷ more → is_inner line ≡ false → inner_of lines ≡ []
inner_end lines more line cut deep = ap inner_of cut ∙ ap (λ (b : Bool). if b then content_of line ∷ inner_of more else []) deep

-- ---- what is written, and what is left to write

pub step_item : (old new start : List Token) (all : List Json) (j : Json) (more : List Json)
    → all ≡ j ∷ more → new ≡ old ++ json_tokens j → with_items old all ≡ start → with_items new more ≡ start
step_item old new start all j more cut wrote kept = ap (λ t. with_items t more) wrote ∙ ap (with_items old) (sym cut) ∙ kept

pub step_items : (old new start : List Token) (all some more : List Json)
    → all ≡ some ++ more → new ≡ with_items old some → with_items old all ≡ start → with_items new more ≡ start
step_items old new start all some more cut wrote kept =
    ap (λ t. with_items t more) wrote ∙ sym (more_items old some more) ∙ ap (with_items old) (sym cut) ∙ kept

pub step_members : (old new start : List Token) (all some more : List (List ℕ × Json))
    → all ≡ some ++ more → new ≡ with_members old some → with_members old all ≡ start → with_members new more ≡ start
step_members old new start all some more cut wrote kept =
    ap (λ t. with_members t more) wrote ∙ sym (more_members old some more) ∙ ap (with_members old) (sym cut) ∙ kept

pub items_done : (now start : List Token) (left : List Json) → left ≡ [] → with_items now left ≡ start → now ≡ start
items_done now start left none kept = ap (with_items now) (sym none) ∙ kept

pub members_done : (now start : List Token) (left : List (List ℕ × Json)) → left ≡ [] → with_members now left ≡ start → now ≡ start
members_done now start left none kept = ap (with_members now) (sym none) ∙ kept
