-- Members that an object has only sometimes.
use Rattle.std.proofs.Common.{arith, ◌≡◌, ℕ, List, [], ◌∷◌, Bool, true, false, refl, sym, ap, ◌∙◌, codes, if◌then◌else◌}
use Rattle.std.proofs.lemmas.Bool.{false≢true}
use Rattle.json.specs.Json.{string}
use Rattle.pci_json.specs.Lines.{parts_of_text, lines_of_text, content_of, is_inner, is_word}
use Rattle.pci_json.specs.Members.{object_of}
use Rattle.pci_json.specs.Listings.{rom_members}
use Rattle.pci_json.specs.Groups.{inner_of, has_any, why_member, why_members, is_claim, single_members}
use Rattle.pci_json.specs.Documents.{room_member, first_line, behind_line}
use Rattle.pci_json.proofs.Cuts.{parts_cut}

pub why_one : (ls : List (List ℕ)) → has_any ls ≡ true → why_member ls ≡ (codes "why", object_of (why_members ls)) ∷ []
why_one [] any = absurd (false≢true any)
why_one (l ∷ ls) any = refl

pub why_none : (ls : List (List ℕ)) → has_any ls ≡ false → why_member ls ≡ []
why_none [] any = refl
why_none (l ∷ ls) any = absurd (false≢true (sym any))

pub room_none : (ls : List (List ℕ)) → has_any ls ≡ false → room_member ls ≡ []
room_none [] any = refl
room_none (l ∷ ls) any = absurd (false≢true (sym any))

room_if : (deep : Bool) (first : List ℕ) (more : List (List ℕ)) → has_any (if deep then first ∷ more else []) ≡ true
    → room_member (if deep then first ∷ more else []) ≡ (codes "why", object_of ((codes "text", string first) ∷ [])) ∷ []
room_if true first more any = refl
room_if false first more any = absurd (false≢true any)

pub room_one : (text : List ℕ) → has_any (inner_of (lines_of_text text)) ≡ true
    → room_member (inner_of (lines_of_text text)) ≡ (codes "why", object_of ((codes "text", string (content_of (first_line text))) ∷ [])) ∷ []
unfolding parts_of_text
room_one [] any = absurd (false≢true any)
room_one (b ∷ text) any =
    let cut = ap inner_of (parts_cut 10 (b ∷ text) (omega arith)) in
    ap room_member cut ∙ room_if (is_inner (first_line (b ∷ text))) (content_of (first_line (b ∷ text))) (inner_of (lines_of_text (behind_line (b ∷ text)))) (sym (ap has_any cut) ∙ any)

pub no_claim : (line : List ℕ) → is_word 0 (codes "needs") line ≡ false → is_word 0 (codes "first") line ≡ false → is_word 0 (codes "second") line ≡ false
    → is_claim line ≡ false
no_claim line needs first second = rw needs (rw first (rw second refl))

-- a line whose first word is `rom` is that member
pub single_rom : (line : List ℕ) → is_claim line ≡ false → is_word 0 (codes "bridge") line ≡ false → is_word 0 (codes "host") line ≡ false
    → is_word 0 (codes "fits") line ≡ false → is_word 0 (codes "rom") line ≡ true → single_members line ≡ (codes "rom", object_of (rom_members line)) ∷ []
single_rom line claim bridge host fits rom = rw claim (rw bridge (rw host (rw fits (rw rom refl))))
