-- Where the first item of a bus stands: on a root in the pool, and else at its bridge's window.
use Rattle.std.proofs.Common.{◌≡◌, ℕ, zero, suc, ◌<◌, ◌≤◌, inl, inr, List, [], ◌∷◌, refl, Bool, true, false, cond, ◌&&◌, arith, sym, ◌∙◌, ap, None, Some}
use Rattle.std.specs.Bool.{◌==◌, if◌then◌else◌}
use Rattle.std.specs.List.{Contains, find}
use Rattle.std.proofs.lemmas.Bool.{cases_Bool, cases_eq, both_ways, and_parts, and_from, eqb-true, eq-eqb, false_from_ne_true}
use Rattle.pci_spec.specs.Slot.{slot_number}
use Rattle.pci_spec.specs.Window.{WindowKind}
use Rattle.pci_spec.specs.System.{System, Function, IsSystem, is_bridge}
use Rattle.pci_spec.specs.Bus.{secondary, is_behind, is_root, IsNested}
use Rattle.plan_spec.specs.Plan.{Pools}
use Rattle.plan_spec.specs.Place.{window_item, items_beside, place_from, start_of, start_of_roots, start_within, behind_window, place_of}
use Rattle.pci_spec.proofs.Members.{in_nil, in_head, in_tail, in_cons_cases}
use Rattle.pci_spec.proofs.BusRanges.{IsWithin, ordered, within_of_behind, apart_shares_none, behind_is_no_root}
use Rattle.pci_spec.proofs.Nesting.{one_function}
use Rattle.plan_spec.proofs.Planning.Safe.{slots_of, order_of}

-- ---- the first that passes a test

pub data FindCases {X : Type 0} (p : X → Bool) (xs : List X) : Type 0 where
  found : (x : X) → Contains xs x → p x ≡ true → find p xs ≡ Some x → FindCases p xs
  missing : ((x : X) → Contains xs x → p x ≡ false) → find p xs ≡ None → FindCases p xs

find_cases : {X : Type 0} (p : X → Bool) (xs : List X) → FindCases p xs
find_cases p [] = missing (λ x listed. absurd (in_nil x listed)) refl
find_cases p (x ∷ xs) = elim (cases_Bool (p x)) [
  | inl is ↦ found x (in_head x xs) is (ap (λ b. cond b (Some x) (find p xs)) is)
  | inr other ↦ elim (find_cases p xs) [
    | found y listed is e ↦ found y (in_tail x xs y listed) is (ap (λ b. cond b (Some x) (find p xs)) other ∙ e)
    | missing none e ↦
        missing
        (λ y listed. elim (in_cons_cases x xs y listed) [ inl here ↦ ap p (sym here) ∙ other | inr later ↦ none y later ])
        (ap (λ b. cond b (Some x) (find p xs)) other ∙ e)
  ]
]

-- ---- one step down

abbrev leads_to : ℕ → Function → Bool
leads_to bus b = is_bridge b && secondary b == bus

module _ (roots : List ℕ) (s : System) (pools : Pools) (c : WindowKind) where
  -- where the window of a bridge stands, by where its bus starts
  abbrev window_at : ℕ → Function → ℕ
  window_at depth b = place_from (start_within roots s pools c depth b.slot.bus) (items_beside roots s pools c b.slot.bus) (window_item s pools c b)

  start_none : (bus : ℕ) → start_within roots s pools c 0 bus ≡ start_of_roots roots s pools c bus
  unfolding start_within
  start_none bus = refl

  start_step : (depth bus : ℕ) → start_within roots s pools c (suc depth) bus ≡
      (if is_root roots bus then start_of_roots roots s pools c bus else behind_window (window_at depth) (start_of_roots roots s pools c bus) (find (leads_to bus) s))
  unfolding start_within
  start_step depth bus = refl

  pub start_at_root : (depth bus : ℕ) → is_root roots bus ≡ true → start_within roots s pools c depth bus ≡ start_of_roots roots s pools c bus
  start_at_root zero bus root = start_none bus
  start_at_root (suc depth) bus root =
      start_step depth bus ∙ ap (λ t. cond t (start_of_roots roots s pools c bus) (behind_window (window_at depth) (start_of_roots roots s pools c bus) (find (leads_to bus) s))) root

  start_behind : (depth bus : ℕ) (b : Function) → is_root roots bus ≡ false → find (leads_to bus) s ≡ Some b → start_within roots s pools c (suc depth) bus ≡ window_at depth b
  start_behind depth bus b off is =
      start_step depth bus
      ∙ ap (λ t. cond t (start_of_roots roots s pools c bus) (behind_window (window_at depth) (start_of_roots roots s pools c bus) (find (leads_to bus) s))) off
      ∙ ap (λ o. behind_window (window_at depth) (start_of_roots roots s pools c bus) o) is

  start_alone : (depth bus : ℕ) → is_root roots bus ≡ false → find (leads_to bus) s ≡ None → start_within roots s pools c depth bus ≡ start_of_roots roots s pools c bus
  start_alone zero bus off none = start_none bus
  start_alone (suc depth) bus off none =
      start_step depth bus
      ∙ ap (λ t. cond t (start_of_roots roots s pools c bus) (behind_window (window_at depth) (start_of_roots roots s pools c bus) (find (leads_to bus) s))) off
      ∙ ap (λ o. behind_window (window_at depth) (start_of_roots roots s pools c bus) o) none

  module _ (nested : IsNested roots s) where
    rises : (bus : ℕ) (b : Function) → Contains s b → leads_to bus b ≡ true → b.slot.bus < bus
    rises bus b listed passes =
        let is = and_parts (is_bridge b) (secondary b == bus) passes in
        let up = order_of roots s nested b listed is.0 in
        let to = eqb-true (secondary b) bus is.1 in
        omega (arith, up, to)

    -- two depths give one start where they do on the bus above
    start_both : (d e bus : ℕ) → ((b : Function) → Contains s b → leads_to bus b ≡ true → find (leads_to bus) s ≡ Some b → is_root roots bus ≡ false
        → start_within roots s pools c d bus ≡ start_within roots s pools c e bus) → start_within roots s pools c d bus ≡ start_within roots s pools c e bus
    start_both d e bus down = elim (cases_Bool (is_root roots bus)) [
      | inl root ↦ start_at_root d bus root ∙ sym (start_at_root e bus root)
      | inr off ↦ elim (find_cases (leads_to bus) s) [
        | missing none is ↦ start_alone d bus off is ∙ sym (start_alone e bus off is)
        | found b listed passes is ↦ down b listed passes is off
      ]
    ]

    -- buses rise on the way down, so a depth that reaches the bus is enough
    start_enough : (d e bus : ℕ) → bus ≤ d → bus ≤ e → start_within roots s pools c d bus ≡ start_within roots s pools c e bus
    start_enough zero e bus in_d in_e =
        start_both zero e bus (λ b listed passes is off. let up = rises bus b listed passes in absurd (let impossible : ⊥ = omega (arith, in_d, up) in impossible))
    start_enough (suc d) zero bus in_d in_e =
        start_both (suc d) zero bus (λ b listed passes is off. let up = rises bus b listed passes in absurd (let impossible : ⊥ = omega (arith, in_e, up) in impossible))
    start_enough (suc d) (suc e) bus in_d in_e =
        start_both (suc d) (suc e) bus
        (λ b listed passes is off.
        let up = rises bus b listed passes in
        start_behind d bus b off is
        ∙ ap (λ start. place_from start (items_beside roots s pools c b.slot.bus) (window_item s pools c b)) (start_enough d e b.slot.bus (omega (arith, in_d, up)) (omega (arith, in_e, up)))
        ∙ sym (start_behind e bus b off is))

    module _ (system : IsSystem s) where
      -- one bridge at most leads to a bus
      pub one_bridge : (a b : Function) → Contains s a → Contains s b → is_bridge a ≡ true → is_bridge b ≡ true → secondary a ≡ secondary b → a ≡ b
      one_bridge a b in_a in_b bridge_a bridge_b same =
          let one_a = ordered a (nested.order a in_a bridge_a) in
          let one_b = ordered b (nested.order b in_b bridge_b) in
          let own_a : IsWithin a (secondary a) = record { low = omega arith; high = one_a.range } in
          let own_b : IsWithin b (secondary a) = let range = one_b.range in record { low = omega (arith, same); high = omega (arith, range, same) } in
          elim (cases_eq (slot_number a.slot) (slot_number b.slot)) [
            | inl here ↦ one_function s system a b in_a in_b here
            | inr other ↦
                absurd (apart_shares_none a b
                (nested.apart a b in_a in_b bridge_a bridge_b (λ e. other (ap slot_number e))
                (false_from_ne_true (is_behind b a.slot.bus) (λ behind. let w = within_of_behind b a.slot.bus behind in let low = w.low in let up = one_a.up in let impossible : ⊥ = omega (arith, low, up, same) in impossible))
                (false_from_ne_true (is_behind a b.slot.bus) (λ behind. let w = within_of_behind a b.slot.bus behind in let low = w.low in let up = one_b.up in let impossible : ⊥ = omega (arith, low, up, same) in impossible)))
                (secondary a) own_a own_b)
          ]

      -- what is behind a bridge starts where its window does
      pub start_of_window : (b : Function) → Contains s b → is_bridge b ≡ true → start_of roots s pools c (secondary b) ≡ place_of roots s pools c (window_item s pools c b)
      start_of_window b listed bridge =
          let is = ordered b (nested.order b listed bridge) in
          let off = behind_is_no_root roots b (nested.clear b listed bridge) (secondary b) record { low = omega arith; high = is.range } in
          let slot = slots_of s system b listed in
          let low = slot.0 in
          elim (find_cases (leads_to (secondary b)) s) [
            | missing none e ↦ absurd (both_ways (leads_to (secondary b) b) (none b listed) (and_from (is_bridge b) (secondary b == secondary b) bridge (eq-eqb (secondary b) (secondary b) refl)))
            | found a in_a passes e ↦
                let parts = and_parts (is_bridge a) (secondary a == secondary b) passes in
                let same = one_bridge a b in_a listed parts.0 bridge (eqb-true (secondary a) (secondary b) parts.1) in
                start_behind 255 (secondary b) b off (e ∙ ap Some same)
                ∙ ap (λ start. place_from start (items_beside roots s pools c b.slot.bus) (window_item s pools c b)) (start_enough 255 256 b.slot.bus (omega (arith, low)) (omega (arith, low)))
          ]

  -- ---- on roots

  pub start_of_root : (bus : ℕ) → is_root roots bus ≡ true → start_of roots s pools c bus ≡ start_of_roots roots s pools c bus
  start_of_root bus root = start_at_root 256 bus root
