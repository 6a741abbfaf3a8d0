-- What the text of a word tells.
use Rattle.std.proofs.Common.{◌≡◌, ℕ, List, Option, None, Some, Bor, MatchOption, option_map, sym, ◌∙◌}
use Rattle.std.proofs.lemmas.Option.{none-some}

pub explained : (found : Option (Bor (List ℕ))) (wanted : Option (List ℕ)) → option_map (λ text. text.now) found ≡ wanted
    → MatchOption found ((text : List ℕ) → wanted ≡ Some text → ⊥) (λ text. wanted ≡ Some text.now)
explained None wanted same = λ text is. none-some text (same ∙ is)
explained (Some text) wanted same = sym same
