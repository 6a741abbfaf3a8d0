-- The same nodes that are numbered twice have the same numbers, as far as a walk comes.
use Rattle.std.proofs.Common.{◌≡◌, ◌≢◌, ℕ, ◌+◌, inl, inr, List, ◌∷◌, ◌++◌, true, false, ◌&&◌, ◌||◌, not, refl, sym, ◌∙◌, ap, subst, length, set, Option, Some, None, get_or-set_other}
use Rattle.std.specs.Bool.{◌==◌, if◌then◌else◌}
use Rattle.std.proofs.lemmas.Bool.{and_parts, eqb-true, cases_Bool}
use Rattle.std.proofs.lemmas.List.{set-get_or, set-set}
use Rattle.pci_spec.specs.Slot.{Slot}
use Rattle.pci_spec.specs.Number.{byte_at}
use Rattle.pci_spec.specs.Header.{primary_bus, secondary_bus, subordinate_bus}
use Rattle.pci_spec.proofs.BusRanges.{second_side}
use Rattle.pci_number.specs.Board.{Nodes, NoMore, Node, is_type_1}
use Rattle.pci_number.specs.Walk.{has_bus}
use Rattle.pci_number.specs.Numbered.{with_numbers, without_numbers, secondaries, secondary_number, greatest_from, has_range, have_ranges}
use Rattle.pci_number.specs.NoBus.{first_slot, first_without}
use Rattle.pci_number.specs.Reached.{reached, is_none, only_bridges_lead}
use Rattle.pci_number.specs.NumberingLaws.{NumbersAreOne, AllNumbersAreOne}
use Rattle.pci_number.proofs.Kept.{cleared, kind_stays}
use Rattle.pci_number.proofs.InOrder.{IsRun, run_from, run_parts, of_device, of_closed, of_open}

-- ---- images that are the same but for bus numbers

set_back : (xs ys : List ℕ) (offset : ℕ) → set xs offset 0 ≡ set ys offset 0 → byte_at xs offset ≡ byte_at ys offset → xs ≡ ys
set_back xs ys offset same byte =
    sym (set-get_or xs offset 0) ∙ sym (set-set xs offset 0 (byte_at xs offset)) ∙ ap (λ l. set l offset (byte_at xs offset)) same ∙ ap (set (set ys offset 0) offset) byte
    ∙ set-set ys offset 0 (byte_at ys offset) ∙ set-get_or ys offset 0

other_byte : (image : List ℕ) (offset place : ℕ) → place ≢ offset → byte_at (set image offset 0) place ≡ byte_at image place
other_byte image offset place apart = get_or-set_other image offset place 0 0 apart

third_byte : (image : List ℕ) → byte_at (set (set image 0x18 0) 0x19 0) 0x1a ≡ subordinate_bus image
third_byte image = other_byte (set image 0x18 0) 0x19 0x1a (λ is. cc is) ∙ other_byte image 0x18 0x1a (λ is. cc is)

second_byte : (image : List ℕ) → byte_at (set image 0x18 0) 0x19 ≡ secondary_bus image
second_byte image = other_byte image 0x18 0x19 (λ is. cc is)

pub same_image : (a b : List ℕ) → with_numbers 0 0 0 a ≡ with_numbers 0 0 0 b → primary_bus a ≡ primary_bus b → secondary_bus a ≡ secondary_bus b → subordinate_bus a ≡ subordinate_bus b → a ≡ b
same_image a b same primary secondary subordinate =
    set_back a b 0x18 (set_back (set a 0x18 0) (set b 0x18 0) 0x19
    (set_back (set (set a 0x18 0) 0x19 0) (set (set b 0x18 0) 0x19 0) 0x1a same (third_byte a ∙ subordinate ∙ sym (third_byte b)))
    (second_byte a ∙ secondary ∙ sym (second_byte b))) primary

pub same_kind : (a b : List ℕ) → cleared a ≡ cleared b → is_type_1 b ≡ is_type_1 a
same_kind a b same = sym (kind_stays b) ∙ ap is_type_1 (sym same) ∙ kind_stays a

-- ---- node by node

pub record Pieces (d : ℕ) (f : ℕ) (image : List ℕ) (behind : Nodes) (others : Nodes) (e : ℕ) (g : ℕ) (new : List ℕ) (below : Nodes) (more : Nodes) : Type 0 where
  pub same_device : d ≡ e
  pub same_function : f ≡ g
  pub same_image : cleared image ≡ cleared new
  pub same_behind : without_numbers behind ≡ without_numbers below
  pub same_others : without_numbers others ≡ without_numbers more

pub pieces : (d f : ℕ) (image : List ℕ) (behind others : Nodes) (e g : ℕ) (new : List ℕ) (below more : Nodes) → without_numbers (Node d f image behind others) ≡ without_numbers (Node e g new below more) → Pieces d f image behind others e g new below more
pieces d f image behind others e g new below more same = record { same_device = cc same; same_function = cc same; same_image = cc same; same_behind = cc same; same_others = cc same }

-- what a bridge shows, by whether it has a bus
record Closed (image : List ℕ) : Type 0 where
  primary : primary_bus image ≡ 0
  subordinate : subordinate_bus image ≡ 0

closed_range : (bus : ℕ) (image : List ℕ) (behind : Nodes) → has_bus image ≡ false → has_range bus image behind ≡ true → Closed image
closed_range bus image behind none range =
    let zeros : (primary_bus image == 0 && subordinate_bus image == 0) ≡ true = rw none at range in
    let parts = and_parts (primary_bus image == 0) (subordinate_bus image == 0) zeros in
    record { primary = eqb-true (primary_bus image) 0 parts.0; subordinate = eqb-true (subordinate_bus image) 0 parts.1 }

pub record Opened (bus : ℕ) (image : List ℕ) (behind : Nodes) : Type 0 where
  pub primary : primary_bus image ≡ bus
  pub subordinate : subordinate_bus image ≡ greatest_from (secondary_bus image) (secondaries behind)

pub opened_range : (bus : ℕ) (image : List ℕ) (behind : Nodes) → has_bus image ≡ true → has_range bus image behind ≡ true → Opened bus image behind
opened_range bus image behind leads range =
    let shows : (primary_bus image == bus && subordinate_bus image == greatest_from (secondary_bus image) (secondaries behind)) ≡ true = rw leads at range in
    let parts = and_parts (primary_bus image == bus) (subordinate_bus image == greatest_from (secondary_bus image) (secondaries behind)) shows in
    record { primary = eqb-true (primary_bus image) bus parts.0; subordinate = eqb-true (subordinate_bus image) (greatest_from (secondary_bus image) (secondaries behind)) parts.1 }

pub record Ranges (bus : ℕ) (image : List ℕ) (behind : Nodes) (others : Nodes) : Type 0 where
  pub own : is_type_1 image ≡ true → has_range bus image behind ≡ true
  pub inner : has_bus image ≡ true → have_ranges (secondary_bus image) behind ≡ true
  pub outer : have_ranges bus others ≡ true

pub ranges_of : (bus d f : ℕ) (image : List ℕ) (behind others : Nodes) → have_ranges bus (Node d f image behind others) ≡ true → Ranges bus image behind others
ranges_of bus d f image behind others ranges =
    let parts = and_parts ((not (is_type_1 image) || has_range bus image behind) && (not (has_bus image) || have_ranges (secondary_bus image) behind)) (have_ranges bus others) ranges in
    let first = and_parts (not (is_type_1 image) || has_range bus image behind) (not (has_bus image) || have_ranges (secondary_bus image) behind) parts.0 in
    record {
      own = λ bridge. second_side (not (is_type_1 image)) (has_range bus image behind) first.0 (ap not bridge);
      inner = λ leads. second_side (not (has_bus image)) (have_ranges (secondary_bus image) behind) first.1 (ap not leads);
      outer = parts.1;
    }

-- what the walk comes to is the same
pub record IsSame (a : Nodes) (b : Nodes) : Type 0 where
  pub nodes : reached a ≡ reached b
  pub numbers : secondaries a ≡ secondaries b

same_device : (d f : ℕ) (image : List ℕ) (behind below others more : Nodes) → is_type_1 image ≡ false → IsSame others more → IsSame (Node d f image behind others) (Node d f image below more)
same_device d f image behind below others more plain rest = record {
  nodes = let same = rest.nodes in rw (plain, same) refl;
  numbers = of_device d f image behind others plain ∙ rest.numbers ∙ sym (of_device d f image below more plain);
}

same_closed : (d f : ℕ) (image : List ℕ) (behind below others more : Nodes) → is_type_1 image ≡ true → has_bus image ≡ false → IsSame others more → IsSame (Node d f image behind others) (Node d f image below more)
same_closed d f image behind below others more bridge none rest = record {
  nodes = let same = rest.nodes in rw (none, same) refl;
  numbers = of_closed d f image behind others bridge none ∙ ap (λ xs. secondary_bus image ∷ xs) rest.numbers ∙ sym (of_closed d f image below more bridge none);
}

same_open : (d f : ℕ) (image : List ℕ) (behind below others more : Nodes) → is_type_1 image ≡ true → has_bus image ≡ true → IsSame behind below → IsSame others more → IsSame (Node d f image behind others) (Node d f image below more)
same_open d f image behind below others more bridge leads inner rest = record {
  nodes = let same_behind = inner.nodes in let same = rest.nodes in rw (leads, same_behind, same) refl;
  numbers = of_open d f image behind others bridge leads ∙ ap (λ xs. secondary_bus image ∷ (xs ++ secondaries others)) inner.numbers ∙ ap (λ xs. secondary_bus image ∷ (secondaries below ++ xs)) rest.numbers
      ∙ sym (of_open d f image below more bridge leads);
}

-- a node of the same device and function with the same image
another : (d f : ℕ) (image : List ℕ) (behind others : Nodes) (e g : ℕ) (new : List ℕ) (below more : Nodes) → d ≡ e → f ≡ g → image ≡ new → IsSame (Node d f image behind others) (Node d f image below more) → IsSame (Node d f image behind others) (Node e g new below more)
another d f image behind others e g new below more device function images same =
    subst (λ x. IsSame (Node d f image behind others) (Node x g new below more)) device
    (subst (λ x. IsSame (Node d f image behind others) (Node d x new below more)) function
    (subst (λ x. IsSame (Node d f image behind others) (Node d f x below more)) images same))

same_bus : (a b : List ℕ) → is_type_1 b ≡ is_type_1 a → secondary_bus a ≡ secondary_bus b → has_bus b ≡ has_bus a
same_bus a b kind second = rw (kind, second) refl

-- the number of the first bridge
first_number : (root last n d f : ℕ) (image : List ℕ) (behind others : Nodes) → is_type_1 image ≡ true → IsRun root last n (secondaries (Node d f image behind others)) → secondary_bus image ≡ secondary_number root last (n + 1)
first_number root last n d f image behind others bridge run = elim (cases_Bool (has_bus image)) [
  | inr none ↦ (subst (IsRun root last n) (of_closed d f image behind others bridge none) run).0
  | inl leads ↦ (subst (IsRun root last n) (of_open d f image behind others bridge leads) run).0
]

pub same : (root last n bus : ℕ) (a b : Nodes) → without_numbers a ≡ without_numbers b → IsRun root last n (secondaries a) → IsRun root last n (secondaries b) → have_ranges bus a ≡ true → have_ranges bus b ≡ true → IsSame a b
same root last n bus NoMore NoMore alike run run_b ranges ranges_b = record { nodes = refl; numbers = refl }
same root last n bus NoMore (Node e g new below more) alike run run_b ranges ranges_b = absurd (cc alike)
same root last n bus (Node d f image behind others) NoMore alike run run_b ranges ranges_b = absurd (cc alike)
same root last n bus (Node d f image behind others) (Node e g new below more) alike run run_b ranges ranges_b =
    let p = pieces d f image behind others e g new below more alike in
    let r = ranges_of bus d f image behind others ranges in
    let q = ranges_of bus e g new below more ranges_b in
    let kind = same_kind image new p.same_image in
    elim (cases_Bool (is_type_1 image)) [
      | inr plain ↦
          let plain_b : is_type_1 new ≡ false = kind ∙ plain in
          let images : image ≡ new = rw plain at (rw plain_b at p.same_image) in
          another d f image behind others e g new below more p.same_device p.same_function images (same_device d f image behind below others more plain
          (same root last n bus others more p.same_others (subst (IsRun root last n) (of_device d f image behind others plain) run) (subst (IsRun root last n) (of_device e g new below more plain_b) run_b) r.outer q.outer))
      | inl bridge ↦
          let bridge_b : is_type_1 new ≡ true = kind ∙ bridge in
          let alike_images : with_numbers 0 0 0 image ≡ with_numbers 0 0 0 new = rw bridge at (rw bridge_b at p.same_image) in
          elim (cases_Bool (has_bus image)) [
            | inr none ↦
                let runs : IsRun root last n (secondary_bus image ∷ secondaries others) = subst (IsRun root last n) (of_closed d f image behind others bridge none) run in
                let second : secondary_bus image ≡ secondary_bus new = runs.0 ∙ sym (first_number root last n e g new below more bridge_b run_b) in
                let none_b : has_bus new ≡ false = same_bus image new kind second ∙ none in
                let runs_b : IsRun root last n (secondary_bus new ∷ secondaries more) = subst (IsRun root last n) (of_closed e g new below more bridge_b none_b) run_b in
                let zeros = closed_range bus image behind none (r.own bridge) in
                let zeros_b = closed_range bus new below none_b (q.own bridge_b) in
                let images = same_image image new alike_images (zeros.primary ∙ sym zeros_b.primary) second (zeros.subordinate ∙ sym zeros_b.subordinate) in
                another d f image behind others e g new below more p.same_device p.same_function images (same_closed d f image behind below others more bridge none
                (same root last (n + 1) bus others more p.same_others runs.1 runs_b.1 r.outer q.outer))
            | inl leads ↦
                let runs : IsRun root last n (secondary_bus image ∷ (secondaries behind ++ secondaries others)) = subst (IsRun root last n) (of_open d f image behind others bridge leads) run in
                let second : secondary_bus image ≡ secondary_bus new = runs.0 ∙ sym (first_number root last n e g new below more bridge_b run_b) in
                let leads_b : has_bus new ≡ true = same_bus image new kind second ∙ leads in
                let runs_b : IsRun root last n (secondary_bus new ∷ (secondaries below ++ secondaries more)) = subst (IsRun root last n) (of_open e g new below more bridge_b leads_b) run_b in
                let parts = run_parts root last (n + 1) (secondaries behind) (secondaries others) runs.1 in
                let parts_b = run_parts root last (n + 1) (secondaries below) (secondaries more) runs_b.1 in
                let inner = same root last (n + 1) (secondary_bus image) behind below p.same_behind parts.0 parts_b.0 (r.inner leads) (subst (λ s. have_ranges s below ≡ true) (sym second) (q.inner leads_b)) in
                let outer = same root last (n + 1 + length (secondaries behind)) bus others more p.same_others parts.1
                (subst (λ xs. IsRun root last (n + 1 + length xs) (secondaries more)) (sym inner.numbers) parts_b.1) r.outer q.outer in
                let shows = opened_range bus image behind leads (r.own bridge) in
                let shows_b = opened_range bus new below leads_b (q.own bridge_b) in
                let images = same_image image new alike_images (shows.primary ∙ sym shows_b.primary) second
                (shows.subordinate ∙ ap (λ s. greatest_from s (secondaries behind)) second ∙ ap (greatest_from (secondary_bus new)) inner.numbers ∙ sym shows_b.subordinate) in
                another d f image behind others e g new below more p.same_device p.same_function images (same_open d f image behind below others more bridge leads inner outer)
          ]
    ]

pub numbers_are_one : NumbersAreOne
numbers_are_one root last first second after again alike numbered numbered_again =
    (same root last 0 root after again (sym numbered.same ∙ alike ∙ numbered_again.same) (run_from root last 0 (secondaries after) numbered.order) (run_from root last 0 (secondaries again) numbered_again.order)
    numbered.ranges numbered_again.ranges).nodes

-- ---- where all nodes are reached

pub both_none : (a b : Option Slot) → first_slot a b ≡ None → (a ≡ None) × (b ≡ None)
both_none (Some s) b is = absurd (cc is)
both_none None b is = (refl, is)

none_is : (nodes : Nodes) → is_none nodes ≡ true → nodes ≡ NoMore
none_is NoMore is = refl
none_is (Node d f image behind others) is = absurd (cc is)

no_nodes : (nodes : Nodes) → without_numbers nodes ≡ NoMore → nodes ≡ NoMore
no_nodes NoMore is = refl
no_nodes (Node d f image behind others) is = absurd (cc is)

pub first_device : (bus d f : ℕ) (image : List ℕ) (behind others : Nodes) → is_type_1 image ≡ false → first_without bus (Node d f image behind others) ≡ first_without bus others
first_device bus d f image behind others plain = rw plain refl

pub all_reached : (bus : ℕ) (nodes : Nodes) → first_without bus nodes ≡ None → only_bridges_lead nodes ≡ true → reached nodes ≡ nodes
all_reached bus NoMore none lead = refl
all_reached bus (Node d f image behind others) none lead =
    let outer = and_parts ((is_type_1 image || is_none behind) && only_bridges_lead behind) (only_bridges_lead others) lead in
    let inner = and_parts (is_type_1 image || is_none behind) (only_bridges_lead behind) outer.0 in
    elim (cases_Bool (is_type_1 image)) [
      | inr plain ↦
          let empty : behind ≡ NoMore = none_is behind (second_side (is_type_1 image) (is_none behind) inner.0 plain) in
          let rest : reached others ≡ others = all_reached bus others (sym (first_device bus d f image behind others plain) ∙ none) outer.1 in
          rw (plain, empty, rest) refl
      | inl bridge ↦ elim (cases_Bool (has_bus image)) [
        | inl leads ↦
            let firsts : first_slot (first_without (secondary_bus image) behind) (first_without bus others) ≡ None = rw leads at none in
            let nones = both_none (first_without (secondary_bus image) behind) (first_without bus others) firsts in
            let behind_it : reached behind ≡ behind = all_reached (secondary_bus image) behind nones.0 inner.1 in
            let rest : reached others ≡ others = all_reached bus others nones.1 outer.1 in
            rw (leads, behind_it, rest) refl
        | inr closed ↦
            let firsts : first_slot (Some (record { bus = bus; device = d; function = f })) (first_without bus others) ≡ None = rw bridge at (rw closed at none) in
            absurd (cc firsts)
      ]
    ]

-- nothing is left out where nothing is missing
pub nothing_left : (nodes : Nodes) → without_numbers (reached nodes) ≡ without_numbers nodes → reached nodes ≡ nodes
nothing_left NoMore alike = refl
nothing_left (Node d f image behind others) alike =
    let p = pieces d f image (if has_bus image then reached behind else NoMore) (reached others) d f image behind others alike in
    let rest : reached others ≡ others = nothing_left others p.same_others in
    elim (cases_Bool (has_bus image)) [
      | inl leads ↦
          let inner : without_numbers (reached behind) ≡ without_numbers behind = rw leads at p.same_behind in
          let behind_it : reached behind ≡ behind = nothing_left behind inner in
          rw (leads, behind_it, rest) refl
      | inr none ↦
          let inner : NoMore ≡ without_numbers behind = rw none at p.same_behind in
          let empty : behind ≡ NoMore = no_nodes behind (sym inner) in
          rw (none, empty, rest) refl
    ]

pub all_numbers_are_one : AllNumbersAreOne
all_numbers_are_one root last first second after again alike numbered numbered_again none lead =
    let all = all_reached root after none lead in
    let one = numbers_are_one root last first second after again alike numbered numbered_again in
    sym all ∙ one ∙ nothing_left again (ap without_numbers (sym one ∙ all) ∙ sym numbered.same ∙ alike ∙ numbered_again.same)
