-- From one node of a bus to the next, and to the bus behind it.
use Rattle.std.proofs.Common.{◌≡◌, ℕ, ◌+◌, ◌*◌, ◌<◌, ◌≤◌, inl, inr, List, [], true, false, ◌&&◌, arith, refl, sym, ◌∙◌, ap, map}
use Rattle.std.specs.Bool.{nat_lt, nat_le, ◌==◌}
use Rattle.std.proofs.lemmas.Bool.{and_parts, and_from, eqb-true, eq-eqb, lt-ltb, le-leb, cases_Bool, false_from_ne_true}
use Rattle.std.proofs.lemmas.List.{append-nil}
use Rattle.std.proofs.lemmas.Simd.{map-map}
use Rattle.pci_spec.specs.Slot.{Slot}
use Rattle.pci_spec.specs.Header.{secondary_bus, subordinate_bus}
use Rattle.pci_number.specs.Board.{Nodes, NoMore, Node, Behind, Next, is_type_1, on_bus, passes_on, behind_bridges}
use Rattle.pci_number.specs.Numbered.{without_numbers}
use Rattle.pci_number.specs.Room.{shows}
use Rattle.pci_number.proofs.Roomy.{shown}
use Rattle.pci_number.proofs.Single.{IsIdleTo, device_is_idle, outside_is_idle, rest_alone}
use Rattle.pci_number.specs.Seen.{View, IsSeen, IsClosed}
use Rattle.pci_number.specs.Steps.{IsAlike}

pub above_is_idle : (image : List ℕ) (p s u to : ℕ) → shows image p s u ≡ true → s ≤ u → u < to → IsIdleTo image to
above_is_idle image p s u to numbers range above =
    let show = shown image p s u numbers in
    outside_is_idle image to (inr (omega (arith, show.subordinate))) (omega (arith, show.secondary, show.subordinate))

-- ---- to the next node

abbrev pub next : View → ℕ → ℕ → List ℕ → Nodes → View
next v d f image behind = record { fill = λ others. v.fill (Node d f image behind others); at = λ place. v.at (Next place) }

pub seen_next : (v : View) (bus from to high above last d f : ℕ) (image : List ℕ) (behind : Nodes) → IsSeen v bus from high last → from ≤ to → d * 8 + f < to → high ≤ above → ((bus : ℕ) → above < bus → bus ≤ last → IsIdleTo image bus) → IsSeen (next v d f image behind) bus to above last
seen_next v bus from to high above last d f image behind seen onward passed higher idle = record {
  here = λ nodes access on it_is.
      let apart : (d == access.device && f == access.function) ≡ false = false_from_ne_true _ (λ meets.
      let met = and_parts (d == access.device) (f == access.function) meets in
      let same : d ≡ access.device = eqb-true d access.device met.0 in
      let same_function : f ≡ access.function = eqb-true f access.function met.1 in
      omega (arith, same, same_function, passed, it_is)) in
      let only : on_bus (Node d f image behind nodes) access ≡ map Next (on_bus nodes access) = rw apart refl in
      seen.here (Node d f image behind nodes) access on (omega (arith, onward, it_is)) ∙ ap (map v.at) only ∙ map-map v.at Next (on_bus nodes access);
  behind = λ nodes access over within.
      seen.behind (Node d f image behind nodes) access (omega (arith, higher, over)) within
      ∙ ap (map v.at) (rest_alone d f image behind nodes access (idle access.bus over within))
      ∙ map-map v.at Next (behind_bridges nodes access);
  image = λ nodes place. seen.image (Node d f image behind nodes) (Next place);
  byte = λ nodes place offset value. seen.byte (Node d f image behind nodes) (Next place) offset value;
}

-- where no node is
pub seen_on : (v : View) (bus from to high last : ℕ) → IsSeen v bus from high last → from ≤ to → IsSeen v bus to high last
seen_on v bus from to high last seen onward = record {
  here = λ nodes access on it_is. seen.here nodes access on (omega (arith, onward, it_is));
  behind = seen.behind;
  image = seen.image;
  byte = seen.byte;
}

-- of the buses behind nothing is said
pub seen_alone : (v : View) (bus from high last : ℕ) → IsSeen v bus from high last → IsSeen v bus from 0 0
seen_alone v bus from high last seen = record {
  here = seen.here;
  behind = λ nodes access over within. absurd (omega (arith, over, within));
  image = seen.image;
  byte = seen.byte;
}

-- ---- to the bus behind

abbrev pub inside : View → ℕ → ℕ → List ℕ → Nodes → View
inside v d f image others = record { fill = λ behind. v.fill (Node d f image behind others); at = λ place. v.at (Behind place) }

-- nothing answers behind bridges that are closed
closed_answer_nothing : (nodes : Nodes) (access : Slot) → IsClosed nodes → 0 < access.bus → behind_bridges nodes access ≡ []
closed_answer_nothing NoMore access closed some = refl
closed_answer_nothing (Node d f image behind others) access closed some =
    let idle : IsIdleTo image access.bus = elim (cases_Bool (is_type_1 image)) [
      | inl bridge ↦ above_is_idle image 0 0 0 access.bus (closed.0 bridge) (omega arith) some
      | inr plain ↦ device_is_idle image access.bus plain
    ] in
    rest_alone d f image behind others access idle ∙ ap (map Next) (closed_answer_nothing others access closed.1 some)

pub seen_inside : (v : View) (bus from high last p s u d f : ℕ) (image : List ℕ) (others : Nodes) → IsSeen v bus from high last → is_type_1 image ≡ true → shows image p s u ≡ true → high < s → s ≤ last → u ≤ last → IsClosed others → IsSeen (inside v d f image others) s 0 s u
seen_inside v bus from high last p s u d f image others seen bridge numbers over within end closed =
    let show = shown image p s u numbers in
    record {
      here = λ nodes access on it_is.
          let takes : (is_type_1 image && secondary_bus image == access.bus) ≡ true = and_from (is_type_1 image) (secondary_bus image == access.bus) bridge (eq-eqb (secondary_bus image) access.bus (show.secondary ∙ sym on)) in
          let only : behind_bridges (Node d f image nodes others) access ≡ map Behind (on_bus nodes access) =
          rw (takes, closed_answer_nothing others access closed (omega (arith, on, over))) (append-nil (map Behind (on_bus nodes access))) in
          seen.behind (Node d f image nodes others) access (omega (arith, on, over)) (omega (arith, on, within))
          ∙ ap (map v.at) only ∙ map-map v.at Behind (on_bus nodes access);
      behind = λ nodes access above upto.
          let apart : (is_type_1 image && secondary_bus image == access.bus) ≡ false = false_from_ne_true _ (λ takes.
          let is = eqb-true (secondary_bus image) access.bus (and_parts (is_type_1 image) (secondary_bus image == access.bus) takes).1 in
          omega (arith, is, show.secondary, above)) in
          let passes : (is_type_1 image && passes_on image access.bus) ≡ true = and_from (is_type_1 image) (passes_on image access.bus) bridge
          (and_from (nat_lt (secondary_bus image) access.bus) (nat_le access.bus (subordinate_bus image)) (lt-ltb (secondary_bus image) access.bus (omega (arith, show.secondary, above))) (le-leb access.bus (subordinate_bus image) (omega (arith, show.subordinate, upto)))) in
          let only : behind_bridges (Node d f image nodes others) access ≡ map Behind (behind_bridges nodes access) =
          rw (apart, passes, closed_answer_nothing others access closed (omega (arith, over, above))) (append-nil (map Behind (behind_bridges nodes access))) in
          seen.behind (Node d f image nodes others) access (omega (arith, over, above)) (omega (arith, upto, end))
          ∙ ap (map v.at) only ∙ map-map v.at Behind (behind_bridges nodes access);
      image = λ nodes place. seen.image (Node d f image nodes others) (Behind place);
      byte = λ nodes place offset value. seen.byte (Node d f image nodes others) (Behind place) offset value;
    }

-- ---- the same nodes but for bus numbers

pub same_node : (d f : ℕ) (image new : List ℕ) (behind below others after : Nodes) → is_type_1 image ≡ true → IsAlike image new → without_numbers below ≡ without_numbers behind → without_numbers after ≡ without_numbers others → without_numbers (Node d f new below after) ≡ without_numbers (Node d f image behind others)
same_node d f image new behind below others after bridge alike same_behind same_others =
    let new_bridge : is_type_1 new ≡ true = alike.kind ∙ bridge in
    rw (bridge, new_bridge, alike.cleared, same_behind, same_others) refl

pub same_others : (d f : ℕ) (image : List ℕ) (behind others after : Nodes) → without_numbers after ≡ without_numbers others → without_numbers (Node d f image behind after) ≡ without_numbers (Node d f image behind others)
same_others d f image behind others after same = rw same refl
