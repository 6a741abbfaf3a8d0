-- Bridges that take the next number each, one after the other.
use Rattle.std.proofs.Common.{◌≡◌, ℕ, ◌+◌, ◌<◌, ◌≤◌, ◌⊎◌, inl, inr, List, [], ◌∷◌, ◌++◌, Bool, true, false, ◌&&◌, ◌||◌, not, arith, refl, sym, ◌∙◌, ap, subst, length, max, min}
use Rattle.std.specs.Bool.{nat_lt, ◌==◌, if◌then◌else◌}
use Rattle.std.proofs.lemmas.Bool.{and_parts, and_from, both_ways, eqb-true, eq-eqb, ne_eqb, ltb-true, ltb-false, cases_lt, cases_Bool}
use Rattle.std.proofs.lemmas.List.{length-append}
use Rattle.pci_spec.specs.Header.{primary_bus, secondary_bus, subordinate_bus}
use Rattle.pci_number.specs.Board.{Nodes, NoMore, Node, is_type_1}
use Rattle.pci_number.specs.Walk.{has_bus}
use Rattle.pci_number.specs.Numbered.{secondaries, secondary_number, greatest_from, has_range, have_ranges}
use Rattle.pci_number.specs.Room.{last_behind, shows, have_numbers}
use Rattle.pci_number.specs.NumberingLaws.{NoRoomIsInOrder}
use Rattle.pci_number.proofs.Single.{IsRanged, outside_is_idle, low_to_high}
use Rattle.pci_number.proofs.InOrder.{top, IsRun, of_device, of_closed, of_open, number_or_none, greatest_of_run, run_is}

-- what a bridge shows, number by number
pub record Shows (image : List ℕ) (p : ℕ) (s : ℕ) (u : ℕ) : Type 0 where
  pub primary : primary_bus image ≡ p
  pub secondary : secondary_bus image ≡ s
  pub subordinate : subordinate_bus image ≡ u

pub shown : (image : List ℕ) (p s u : ℕ) → shows image p s u ≡ true → Shows image p s u
shown image p s u h =
    let outer = and_parts (primary_bus image == p && secondary_bus image == s) (subordinate_bus image == u) h in
    let inner = and_parts (primary_bus image == p) (secondary_bus image == s) outer.0 in
    record { primary = eqb-true (primary_bus image) p inner.0; secondary = eqb-true (secondary_bus image) s inner.1; subordinate = eqb-true (subordinate_bus image) u outer.1 }

-- a bridge has a bus by its secondary number
pub opened : (image : List ℕ) → is_type_1 image ≡ true → (secondary_bus image ≡ 0 → ⊥) → has_bus image ≡ true
opened image bridge some = and_from (is_type_1 image) (not (secondary_bus image == 0)) bridge (ap not (ne_eqb (secondary_bus image) 0 some))

pub closed : (image : List ℕ) → is_type_1 image ≡ true → secondary_bus image ≡ 0 → has_bus image ≡ false
closed image bridge none = let zeros = eq-eqb (secondary_bus image) 0 none in rw (bridge, zeros) refl

-- a node on a bus: a device, a bridge with the next number, or a bridge for which none is left
pub data Turn (room : List ℕ → ℕ) (last : ℕ) (bus : ℕ) (taken : ℕ) (image : List ℕ) (behind : Nodes) (others : Nodes) : Type 0 where
  Plain : is_type_1 image ≡ false → has_bus image ≡ false → have_numbers room last bus taken others ≡ true → Turn room last bus taken image behind others
  Opened : is_type_1 image ≡ true → has_bus image ≡ true → taken < last → Shows image bus (taken + 1) (min last (last_behind (taken + 1) behind + room image)) → have_numbers room last (taken + 1) (taken + 1) behind ≡ true → have_numbers room last bus (subordinate_bus image) others ≡ true → Turn room last bus taken image behind others
  Closed : is_type_1 image ≡ true → has_bus image ≡ false → last ≤ taken → Shows image 0 0 0 → have_numbers room last bus taken others ≡ true → Turn room last bus taken image behind others

pub turn : (room : List ℕ → ℕ) (last bus taken device function : ℕ) (image : List ℕ) (behind others : Nodes) → have_numbers room last bus taken (Node device function image behind others) ≡ true → Turn room last bus taken image behind others
turn room last bus taken device function image behind others h = elim (cases_Bool (is_type_1 image)) [
  | inr plain ↦ Plain plain (rw plain refl) (rw plain at h)
  | inl bridge ↦
      let of_bridge : (if nat_lt taken last then shows image bus (taken + 1) (min last (last_behind (taken + 1) behind + room image)) && have_numbers room last (taken + 1) (taken + 1) behind && have_numbers room last bus (subordinate_bus image) others else shows image 0 0 0 && have_numbers room last bus taken others) ≡ true = rw bridge at h in
      elim (cases_Bool (nat_lt taken last)) [
        | inl left ↦
            let all : (shows image bus (taken + 1) (min last (last_behind (taken + 1) behind + room image)) && have_numbers room last (taken + 1) (taken + 1) behind && have_numbers room last bus (subordinate_bus image) others) ≡ true = rw left at of_bridge in
            let outer = and_parts (shows image bus (taken + 1) (min last (last_behind (taken + 1) behind + room image)) && have_numbers room last (taken + 1) (taken + 1) behind) (have_numbers room last bus (subordinate_bus image) others) all in
            let inner = and_parts (shows image bus (taken + 1) (min last (last_behind (taken + 1) behind + room image))) (have_numbers room last (taken + 1) (taken + 1) behind) outer.0 in
            let numbers = shown image bus (taken + 1) (min last (last_behind (taken + 1) behind + room image)) inner.0 in
            Opened bridge (opened image bridge (λ none. omega (arith, numbers.secondary))) (ltb-true taken last left) numbers inner.1 outer.1
        | inr none ↦
            let all : (shows image 0 0 0 && have_numbers room last bus taken others) ≡ true = rw none at of_bridge in
            let parts = and_parts (shows image 0 0 0) (have_numbers room last bus taken others) all in
            let numbers = shown image 0 0 0 parts.0 in
            Closed bridge (closed image bridge numbers.secondary) (ltb-false taken last none) numbers parts.1
      ]
]

-- the last bus behind a node and those that follow
behind_closed : (bus device function : ℕ) (image : List ℕ) (behind others : Nodes) → has_bus image ≡ false → last_behind bus (Node device function image behind others) ≡ last_behind bus others
behind_closed bus device function image behind others none = rw none refl

behind_opened : (bus device function : ℕ) (image : List ℕ) (behind others : Nodes) → has_bus image ≡ true → last_behind bus (Node device function image behind others) ≡ last_behind (subordinate_bus image) others
behind_opened bus device function image behind others leads = rw leads refl

-- no bridge leads above the last bus
pub within_last : (room : List ℕ → ℕ) (last bus taken : ℕ) (nodes : Nodes) → have_numbers room last bus taken nodes ≡ true → taken ≤ last → last_behind taken nodes ≤ last
within_last room last bus taken NoMore h low = low
within_last room last bus taken (Node d f image behind others) h low = elim (turn room last bus taken d f image behind others h) [
  | Plain plain none rest ↦ rw (behind_closed taken d f image behind others none) (within_last room last bus taken others rest low)
  | Opened bridge leads left numbers inside rest ↦ rw (behind_opened taken d f image behind others leads)
      (within_last room last bus (subordinate_bus image) others rest (omega (arith, numbers.subordinate)))
  | Closed bridge none over numbers rest ↦ rw (behind_closed taken d f image behind others none) (within_last room last bus taken others rest low)
]

-- nor above the greatest number in use
pub within_top : (room : List ℕ → ℕ) (last bus taken : ℕ) (nodes : Nodes) → have_numbers room last bus taken nodes ≡ true → last_behind taken nodes ≤ max taken last
within_top room last bus taken NoMore h = omega arith
within_top room last bus taken (Node d f image behind others) h = elim (turn room last bus taken d f image behind others h) [
  | Plain plain none rest ↦ rw (behind_closed taken d f image behind others none) (within_top room last bus taken others rest)
  | Opened bridge leads left numbers inside rest ↦
      let more = within_top room last bus (subordinate_bus image) others rest in
      rw (behind_opened taken d f image behind others leads) (omega (arith, numbers.subordinate, more))
  | Closed bridge none over numbers rest ↦ rw (behind_closed taken d f image behind others none) (within_top room last bus taken others rest)
]

-- buses up to a higher one
widened : (low high top : ℕ) (nodes : Nodes) → high ≤ top → IsRanged low high nodes → IsRanged low top nodes
widened low high top NoMore less ranged = omega arith
widened low high top (Node d f image behind others) less ranged = elim ranged [
  | inl idle ↦ inl (idle.0, widened low high top others less idle.1)
  | inr leads ↦ inr (leads.0, leads.1, leads.2, widened (subordinate_bus image) high top others less leads.3)
]

pub roomy : (room : List ℕ → ℕ) (last bus taken : ℕ) (nodes : Nodes) → have_numbers room last bus taken nodes ≡ true → IsRanged taken (last_behind taken nodes) nodes
roomy room last bus taken NoMore h = omega arith
roomy room last bus taken (Node d f image behind others) h = elim (turn room last bus taken d f image behind others h) [
  | Plain plain none rest ↦ inl (
    (λ to above. (rw plain refl, rw plain refl)),
    rw none (roomy room last bus taken others rest),
  )
  | Opened bridge leads left numbers inside rest ↦
      let within = within_last room last (taken + 1) (taken + 1) behind inside (omega arith) in
      let behind_it = roomy room last (taken + 1) (taken + 1) behind inside in
      let up = low_to_high (taken + 1) (last_behind (taken + 1) behind) behind behind_it in
      inr (
        omega (arith, numbers.secondary),
        omega (arith, numbers.secondary, numbers.subordinate),
        subst (λ s. IsRanged s (subordinate_bus image) behind) (sym numbers.secondary) (widened (taken + 1) (last_behind (taken + 1) behind) (subordinate_bus image) behind (omega (arith, numbers.subordinate)) behind_it),
        rw leads (roomy room last bus (subordinate_bus image) others rest),
      )
  | Closed bridge none over numbers rest ↦ inl (
    (λ to above. outside_is_idle image to (inr (omega (arith, numbers.subordinate))) (omega (arith, numbers.secondary))),
    rw none (roomy room last bus taken others rest),
  )
]

-- ---- with no room

-- the numbers in use after the first n bridges
abbrev pub IsUsed : ℕ → ℕ → ℕ → ℕ → Type 0
IsUsed root last n taken = ((taken ≡ root + n) × (taken ≤ last)) ⊎ ((last ≤ taken) × (last ≤ root + n))

pub record IsInOrder (root : ℕ) (last : ℕ) (n : ℕ) (bus : ℕ) (taken : ℕ) (nodes : Nodes) : Type 0 where
  pub run : IsRun root last n (secondaries nodes)
  pub used : IsUsed root last (n + length (secondaries nodes)) (last_behind taken nodes)
  pub ranges : have_ranges bus nodes ≡ true

run_joins : (root last n : ℕ) (xs ys : List ℕ) → IsRun root last n xs → IsRun root last (n + length xs) ys → IsRun root last n (xs ++ ys)
run_joins root last n [] ys run more = subst (λ k. IsRun root last k ys) (omega arith) more
run_joins root last n (x ∷ xs) ys run more = (run.0, run_joins root last (n + 1) xs ys run.1 (subst (λ k. IsRun root last k ys) (omega arith) more))

implied : (x y : Bool) → (x ≡ true → y ≡ true) → (not x || y) ≡ true
implied true y so = so refl
implied false y so = refl

-- what is said of a node and of those that follow is said of all
ranges_from : (bus device function : ℕ) (image : List ℕ) (behind others : Nodes) → (is_type_1 image ≡ true → has_range bus image behind ≡ true) → (has_bus image ≡ true → have_ranges (secondary_bus image) behind ≡ true) → have_ranges bus others ≡ true → have_ranges bus (Node device function image behind others) ≡ true
ranges_from bus device function image behind others own inside rest =
    and_from ((not (is_type_1 image) || has_range bus image behind) && (not (has_bus image) || have_ranges (secondary_bus image) behind)) (have_ranges bus others)
    (and_from (not (is_type_1 image) || has_range bus image behind) (not (has_bus image) || have_ranges (secondary_bus image) behind)
    (implied (is_type_1 image) (has_range bus image behind) own) (implied (has_bus image) (have_ranges (secondary_bus image) behind) inside)) rest

pub in_order : (root last n bus taken : ℕ) (nodes : Nodes) → IsUsed root last n taken → have_numbers (λ image. 0) last bus taken nodes ≡ true → IsInOrder root last n bus taken nodes
in_order root last n bus taken NoMore used h = record { run = tt; used = subst (λ k. IsUsed root last k taken) (omega arith) used; ranges = refl }
in_order root last n bus taken (Node d f image behind others) used h = elim (turn (λ image. 0) last bus taken d f image behind others h) [
  | Plain plain none rest ↦
      let more = in_order root last n bus taken others used rest in
      let list = sym (of_device d f image behind others plain) in
      record {
        run = subst (IsRun root last n) list more.run;
        used = subst (λ xs. IsUsed root last (n + length xs) (last_behind taken (Node d f image behind others))) list (rw none more.used);
        ranges = ranges_from bus d f image behind others (λ bridge. absurd (both_ways _ plain bridge)) (λ leads. absurd (both_ways _ none leads)) more.ranges;
      }
  | Opened bridge leads left numbers inside rest ↦
      let exact : taken ≡ root + n = elim used [ inl is ↦ is.0 | inr past ↦ absurd (omega arith) ] in
      let is_next : secondary_bus image ≡ secondary_number root last (n + 1) = elim (number_or_none root last (n + 1)) [
        | inl fits ↦ omega (arith, numbers.secondary, fits.0)
        | inr gone ↦ absurd (omega arith)
      ] in
      let deeper = in_order root last (n + 1) (taken + 1) (taken + 1) behind (inl (omega arith, omega arith)) inside in
      let within = within_last (λ image. 0) last (taken + 1) (taken + 1) behind inside (omega arith) in
      let end : last_behind (taken + 1) behind ≡ subordinate_bus image = omega (arith, numbers.subordinate) in
      let more = in_order root last (n + 1 + length (secondaries behind)) bus (subordinate_bus image) others (subst (IsUsed root last (n + 1 + length (secondaries behind))) end deeper.used) rest in
      let list = sym (of_open d f image behind others bridge leads) in
      let own : top root last (n + 1) ≡ secondary_bus image = omega (arith, numbers.secondary) in
      let at_top : subordinate_bus image ≡ top root last (n + 1 + length (secondaries behind)) = elim deeper.used [ inl is ↦ omega arith | inr past ↦ omega arith ] in
      let is_greatest : subordinate_bus image ≡ greatest_from (secondary_bus image) (secondaries behind) =
      at_top ∙ sym (greatest_of_run root last (n + 1) (secondaries behind) deeper.run) ∙ ap (λ m. greatest_from m (secondaries behind)) own in
      record {
        run = subst (IsRun root last n) list (is_next, run_joins root last (n + 1) (secondaries behind) (secondaries others) deeper.run more.run);
        used = subst (λ xs. IsUsed root last (n + length xs) (last_behind taken (Node d f image behind others))) list
            (rw leads (subst (λ k. IsUsed root last k (last_behind (subordinate_bus image) others)) (omega (arith, length-append (secondaries behind) (secondaries others))) more.used));
        ranges = ranges_from bus d f image behind others
            (λ is. rw leads (and_from (primary_bus image == bus) (subordinate_bus image == greatest_from (secondary_bus image) (secondaries behind))
            (eq-eqb (primary_bus image) bus numbers.primary) (eq-eqb (subordinate_bus image) (greatest_from (secondary_bus image) (secondaries behind)) is_greatest)))
            (λ is. subst (λ b. have_ranges b behind ≡ true) (sym numbers.secondary) deeper.ranges) more.ranges;
      }
  | Closed bridge none over numbers rest ↦
      let next : IsUsed root last (n + 1) taken = elim used [ inl exact ↦ inr (over, omega arith) | inr past ↦ inr (over, omega arith) ] in
      let more = in_order root last (n + 1) bus taken others next rest in
      let list = sym (of_closed d f image behind others bridge none) in
      let is_none : secondary_bus image ≡ secondary_number root last (n + 1) = elim (number_or_none root last (n + 1)) [
        | inl fits ↦ elim used [ inl exact ↦ absurd (omega arith) | inr past ↦ absurd (omega arith) ]
        | inr gone ↦ numbers.secondary ∙ sym gone.0
      ] in
      record {
        run = subst (IsRun root last n) list (is_none, more.run);
        used = subst (λ xs. IsUsed root last (n + length xs) (last_behind taken (Node d f image behind others))) list (rw none (subst (λ k. IsUsed root last k (last_behind taken others)) (omega arith) more.used));
        ranges = ranges_from bus d f image behind others
            (λ is. rw none (and_from (primary_bus image == 0) (subordinate_bus image == 0) (eq-eqb (primary_bus image) 0 numbers.primary) (eq-eqb (subordinate_bus image) 0 numbers.subordinate)))
            (λ leads. absurd (both_ways _ none leads)) more.ranges;
      }
]

pub no_room_is_in_order : NoRoomIsInOrder
no_room_is_in_order root last before after numbered =
    let none_used : IsUsed root last 0 root = elim (cases_lt last root) [ inl above ↦ inr (omega arith, omega arith) | inr below ↦ inl (omega arith, below) ] in
    let is = in_order root last 0 root root after none_used numbered.numbers in
    record { same = numbered.same; order = run_is root last 0 (secondaries after) is.run; ranges = is.ranges }
