-- The same nodes that are numbered twice, with room behind bridges, have the same numbers, as far as a walk comes.
use Rattle.std.proofs.Common.{◌≡◌, ℕ, ◌+◌, List, true, false, arith, refl, sym, ◌∙◌, ap, subst}
use Rattle.std.specs.Bool.{if◌then◌else◌}
use Rattle.std.proofs.lemmas.Bool.{both_ways}
use Rattle.pci_spec.specs.Header.{subordinate_bus}
use Rattle.pci_number.specs.Board.{Nodes, NoMore, Node, is_type_1}
use Rattle.pci_number.specs.Walk.{has_bus}
use Rattle.pci_number.specs.Numbered.{with_numbers, without_numbers}
use Rattle.pci_number.specs.Room.{last_behind, have_numbers}
use Rattle.pci_number.specs.SpareBuses.{IsSteady}
use Rattle.pci_number.specs.Reached.{reached}
use Rattle.pci_number.specs.NumberingLaws.{RoomyNumbersAreOne, AllRoomyNumbersAreOne}
use Rattle.pci_number.proofs.Roomy.{Plain, Opened, Closed, turn}
use Rattle.pci_number.proofs.Same.{same_image, same_kind, pieces, all_reached, nothing_left}

-- the last bus behind nodes is that behind those that a walk comes to
pub last_reached : (bus : ℕ) (nodes : Nodes) → last_behind bus (reached nodes) ≡ last_behind bus nodes
last_reached bus NoMore = refl
last_reached bus (Node d f image behind others) = last_reached (if has_bus image then subordinate_bus image else bus) others

-- a node of the same device and function with the same image
another : (d f : ℕ) (image : List ℕ) (behind others : Nodes) (e g : ℕ) (new : List ℕ) (below more : Nodes) → d ≡ e → f ≡ g → image ≡ new → reached (Node d f image behind others) ≡ reached (Node d f image below more) → reached (Node d f image behind others) ≡ reached (Node e g new below more)
another d f image behind others e g new below more device function images same =
    subst (λ x. reached (Node d f image behind others) ≡ reached (Node x g new below more)) device
    (subst (λ x. reached (Node d f image behind others) ≡ reached (Node d x new below more)) function
    (subst (λ x. reached (Node d f image behind others) ≡ reached (Node d f x below more)) images same))

closed_too : (d f : ℕ) (image : List ℕ) (behind below others more : Nodes) → has_bus image ≡ false → reached others ≡ reached more → reached (Node d f image behind others) ≡ reached (Node d f image below more)
closed_too d f image behind below others more none rest = rw (none, rest) refl

opened_too : (d f : ℕ) (image : List ℕ) (behind below others more : Nodes) → has_bus image ≡ true → reached behind ≡ reached below → reached others ≡ reached more → reached (Node d f image behind others) ≡ reached (Node d f image below more)
opened_too d f image behind below others more leads inner rest = rw (leads, inner, rest) refl

module _ (room : List ℕ → ℕ) (steady : IsSteady room) (last : ℕ) where
  same : (bus taken : ℕ) (a b : Nodes) → without_numbers a ≡ without_numbers b → have_numbers room last bus taken a ≡ true → have_numbers room last bus taken b ≡ true → reached a ≡ reached b
  same bus taken NoMore NoMore alike h k = refl
  same bus taken NoMore (Node e g new below more) alike h k = absurd (cc alike)
  same bus taken (Node d f image behind others) NoMore alike h k = absurd (cc alike)
  same bus taken (Node d f image behind others) (Node e g new below more) alike h k =
      let p = pieces d f image behind others e g new below more alike in
      let kind = same_kind image new p.same_image in
      elim (turn room last bus taken d f image behind others h) [
        | Plain plain none rest ↦ elim (turn room last bus taken e g new below more k) [
          | Plain plain_b none_b rest_b ↦
              let images : image ≡ new = rw plain at (rw plain_b at p.same_image) in
              another d f image behind others e g new below more p.same_device p.same_function images
              (closed_too d f image behind below others more none (same bus taken others more p.same_others rest rest_b))
          | Opened bridge leads left numbers inside rest_b ↦ absurd (both_ways (is_type_1 new) (kind ∙ plain) bridge)
          | Closed bridge none_b over numbers rest_b ↦ absurd (both_ways (is_type_1 new) (kind ∙ plain) bridge)
        ]
        | Opened bridge leads left numbers inside rest ↦ elim (turn room last bus taken e g new below more k) [
          | Plain plain_b none_b rest_b ↦ absurd (both_ways (is_type_1 new) plain_b (kind ∙ bridge))
          | Opened bridge_b leads_b left_b numbers_b inside_b rest_b ↦
              let images_alike : with_numbers 0 0 0 image ≡ with_numbers 0 0 0 new = rw bridge at (rw bridge_b at p.same_image) in
              let inner = same (taken + 1) (taken + 1) behind below p.same_behind inside inside_b in
              let ends : last_behind (taken + 1) behind ≡ last_behind (taken + 1) below =
              sym (last_reached (taken + 1) behind) ∙ ap (last_behind (taken + 1)) inner ∙ last_reached (taken + 1) below in
              let rooms : room image ≡ room new = sym (steady image 0 0 0) ∙ ap room images_alike ∙ steady new 0 0 0 in
              let leads_on : subordinate_bus image ≡ subordinate_bus new = omega (arith, numbers.subordinate, numbers_b.subordinate, ends, rooms) in
              let images = same_image image new images_alike (numbers.primary ∙ sym numbers_b.primary) (numbers.secondary ∙ sym numbers_b.secondary) leads_on in
              let outer = same bus (subordinate_bus image) others more p.same_others rest (subst (λ u. have_numbers room last bus u more ≡ true) (sym leads_on) rest_b) in
              another d f image behind others e g new below more p.same_device p.same_function images (opened_too d f image behind below others more leads inner outer)
          | Closed bridge_b none_b over numbers_b rest_b ↦ absurd (omega (arith, left, over))
        ]
        | Closed bridge none over numbers rest ↦ elim (turn room last bus taken e g new below more k) [
          | Plain plain_b none_b rest_b ↦ absurd (both_ways (is_type_1 new) plain_b (kind ∙ bridge))
          | Opened bridge_b leads_b left_b numbers_b inside_b rest_b ↦ absurd (omega (arith, left_b, over))
          | Closed bridge_b none_b over_b numbers_b rest_b ↦
              let images_alike : with_numbers 0 0 0 image ≡ with_numbers 0 0 0 new = rw bridge at (rw bridge_b at p.same_image) in
              let images = same_image image new images_alike (numbers.primary ∙ sym numbers_b.primary) (numbers.secondary ∙ sym numbers_b.secondary) (numbers.subordinate ∙ sym numbers_b.subordinate) in
              another d f image behind others e g new below more p.same_device p.same_function images
              (closed_too d f image behind below others more none (same bus taken others more p.same_others rest rest_b))
        ]
      ]

pub roomy_numbers_are_one : RoomyNumbersAreOne
roomy_numbers_are_one room steady root last first second after again alike numbered numbered_again =
    same room steady last root root after again (sym numbered.same ∙ alike ∙ numbered_again.same) numbered.numbers numbered_again.numbers

pub all_roomy_numbers_are_one : AllRoomyNumbersAreOne
all_roomy_numbers_are_one room steady root last first second after again alike numbered numbered_again none lead =
    let all = all_reached root after none lead in
    let one = roomy_numbers_are_one room steady root last first second after again alike numbered numbered_again in
    sym all ∙ one ∙ nothing_left again (ap without_numbers (sym one ∙ all) ∙ sym numbered.same ∙ alike ∙ numbered_again.same)
