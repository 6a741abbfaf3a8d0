-- Units of amounts.
use Rattle.std.proofs.Common.{◌≡◌, ℕ, zero, suc, ◌+◌, ◌/◌, ◌%◌, ◌<◌, List, [], ◌∷◌, ◌++◌, drop, codes, refl, arith, ap, sym, ◌∙◌, add-one}
use Rattle.std.specs.Prelude.{◌≢◌, slice_index}
use Rattle.std.specs.Fmt.{decimal}
use Rattle.std.proofs.lemmas.Bool.{eq-eqb, ne_eqb}
use Rattle.pci_spec.specs.Why.{scaled_text}
use Rattle.pci_listing.specs.Amounts.{unit_text}

abbrev letters : List ℕ
letters = codes "KMGTPE"

-- one more letter is taken
on_letter : (letter : ℕ) (rest unit : List ℕ) (n : ℕ) → n % 1024 ≡ 0 → scaled_text (letter ∷ rest) unit n ≡ scaled_text rest (letter ∷ []) (n / 1024)
unfolding scaled_text
on_letter letter rest unit n multiple = rw (eq-eqb (n % 1024) 0 multiple) refl

off_letter : (letter : ℕ) (rest unit : List ℕ) (n : ℕ) → n % 1024 ≢ 0 → scaled_text (letter ∷ rest) unit n ≡ decimal n ++ unit
unfolding scaled_text
off_letter letter rest unit n none = rw (ne_eqb (n % 1024) 0 none) refl

-- the letters from a unit's on
from_unit : (unit : ℕ) → unit < 6 → drop unit letters ≡ slice_index letters unit ∷ drop (unit + 1) letters
from_unit zero below = refl
from_unit (suc zero) below = refl
from_unit (suc (suc zero)) below = refl
from_unit (suc (suc (suc zero))) below = refl
from_unit (suc (suc (suc (suc zero)))) below = refl
from_unit (suc (suc (suc (suc (suc zero))))) below = refl
from_unit (suc (suc (suc (suc (suc (suc n)))))) below = absurd (let no : ⊥ = omega (arith, below) in no)

pub next_unit : (unit n : ℕ) → unit < 6 → n % 1024 ≡ 0 → scaled_text (drop unit letters) (unit_text unit) n ≡ scaled_text (drop (unit + 1) letters) (unit_text (unit + 1)) (n / 1024)
next_unit unit n below multiple =
    ap (λ ls. scaled_text ls (unit_text unit) n) (from_unit unit below)
    ∙ on_letter (slice_index letters unit) (drop (unit + 1) letters) (unit_text unit) n multiple
    ∙ ap (λ u. scaled_text (drop (unit + 1) letters) (unit_text u) (n / 1024)) (sym (add-one unit))

pub this_unit : (unit n : ℕ) → unit < 6 → n % 1024 ≢ 0 → scaled_text (drop unit letters) (unit_text unit) n ≡ decimal n ++ unit_text unit
this_unit unit n below none =
    ap (λ ls. scaled_text ls (unit_text unit) n) (from_unit unit below)
    ∙ off_letter (slice_index letters unit) (drop (unit + 1) letters) (unit_text unit) n none

pub last_unit : (n : ℕ) → scaled_text [] (unit_text 6) n ≡ decimal n ++ unit_text 6
unfolding scaled_text
last_unit n = refl
