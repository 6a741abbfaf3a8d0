-- In which section a region out of place is.
use Rattle.std.proofs.Common.{◌≡◌, ◌<◌, ◌==◌, ℕ, Bool, true, false, not, refl, if◌then◌else◌, Option, Some, None, unwrap_or, IsTrue, List, [], ◌∷◌, ◌++◌, map, get_or, sym, ap, ap₂, subst, ◌∙◌}
use Rattle.std.specs.Prelude.{is_some}
use Rattle.std.specs.List.{All}
use Rattle.std.proofs.lemmas.List.Elements.{All-cons, All-head, All-nil, All-tail}
use Rattle.pci_picture.specs.Drawings.{Group, IsGroup, members_of_groups, sections_of}
use Rattle.pci_picture.specs.Headings.{Headed, headed, is_lost, lines_below_headings, number_of_section}
use Rattle.pci_picture.specs.Looks.{Look}
use Rattle.pci_picture.specs.Maps.{headed_member}
use Rattle.pci_picture.specs.Roots.{AreRoots, IsLostByRoot, AreLostByRoot, Listed, section_by_root, root_bus_of}
use Rattle.pci_picture.specs.Slots.{IsOfLine, bus_of_line, bus_of_slot, is_io_line, slot_of_key}
use Rattle.pci_picture.specs.declared.map.Heading.TheVariants.{Section as InSection, Lost}
use Rattle.pci_picture.specs.declared.plan.Member.{Member}

-- ---- a member

pub section_told : (functions : List Listed) (roots : List ℕ) (line : List ℕ) (key digits slot bus number : ℕ) → AreRoots functions roots → IsOfLine line key digits
    → slot ≡ slot_of_key key → bus ≡ bus_of_slot slot → bus < 256 → number ≡ number_of_section (get_or roots bus 0) (digits == 8)
    → number ≡ section_by_root functions line
unfolding is_io_line
section_told functions roots line key digits slot bus number are of_line is_slot is_bus small is =
    let there : bus ≡ bus_of_line line = is_bus ∙ ap bus_of_slot is_slot ∙ of_line.bus in
    is ∙ ap₂ number_of_section (are bus small ∙ ap (root_bus_of functions) there) (ap (λ (n : ℕ). n == 8) of_line.digits_are)

pub section_if_lost : (told : Option ℕ) (number section own : ℕ) (lost : Bool) → is_some told ≡ not lost → section ≡ unwrap_or told number → number ≡ own
    → IsTrue lost → section ≡ own
section_if_lost (Some n) number section own true is same at holds = absurd (cc)
section_if_lost (Some n) number section own false is same at holds = absurd (cc)
section_if_lost None number section own lost is same at holds = same ∙ at

-- ---- the members of a section

abbrev IsAt : List Listed → ℕ → List ℕ → Type 0
IsAt functions number line = number ≡ section_by_root functions line

one_more : (lost : Bool) (functions : List Listed) (number section depth top : ℕ) (line : List ℕ) (rest : List Headed)
    → (IsTrue lost → section ≡ section_by_root functions line) → section ≡ number → All (IsAt functions number) (lines_below_headings is_lost rest)
    → All (IsAt functions number) (lines_below_headings is_lost (headed (if lost then Lost else InSection section) depth top line ∷ rest))
one_more true functions number section depth top line rest own is before =
    All-cons (IsAt functions number) line (lines_below_headings is_lost rest) (sym is ∙ own refl) before
one_more false functions number section depth top line rest own is before = before

lost_at : (functions : List Listed) (number : ℕ) (members : List Member) → All (IsLostByRoot functions) members → All (λ member. member.section ≡ number) members
    → All (IsAt functions number) (lines_below_headings is_lost (map headed_member members))
lost_at functions number [] by_root alike = All-nil (IsAt functions number)
lost_at functions number (member ∷ members) by_root alike =
    one_more member.is_lost functions number member.section member.region.depth member.top member.region.line.now (map headed_member members)
    (All-head (IsLostByRoot functions) member members by_root) (All-head (λ m. m.section ≡ number) member members alike)
    (lost_at functions number members (All-tail (IsLostByRoot functions) member members by_root) (All-tail (λ m. m.section ≡ number) member members alike))

-- ---- of all sections

front_of : {X : Type 0} (P : X → Type 0) (xs ys : List X) → All P (xs ++ ys) → All P xs
front_of P [] ys all = All-nil P
front_of P (x ∷ xs) ys all = All-cons P x xs (All-head P x (xs ++ ys) all) (front_of P xs ys (All-tail P x (xs ++ ys) all))

back_of : {X : Type 0} (P : X → Type 0) (xs ys : List X) → All P (xs ++ ys) → All P ys
back_of P [] ys all = all
back_of P (x ∷ xs) ys all = back_of P xs ys (All-tail P x (xs ++ ys) all)

pub groups_by_root : (look : Look) (functions : List Listed) (groups : List Group) → All (IsGroup look) groups → All (IsLostByRoot functions) (members_of_groups groups)
    → All (AreLostByRoot functions) (sections_of groups)
groups_by_root look functions [] each by_root = All-nil (AreLostByRoot functions)
groups_by_root look functions (group ∷ groups) each by_root =
    let one : IsGroup look group = All-head (IsGroup look) group groups each in
    All-cons (AreLostByRoot functions) group.section (sections_of groups)
    (subst (All (IsAt functions group.section.number)) (sym one.lost)
    (lost_at functions group.section.number group.members (front_of (IsLostByRoot functions) group.members (members_of_groups groups) by_root) one.alike))
    (groups_by_root look functions groups (All-tail (IsGroup look) group groups each) (back_of (IsLostByRoot functions) group.members (members_of_groups groups) by_root))
