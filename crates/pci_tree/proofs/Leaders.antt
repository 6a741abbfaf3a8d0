-- The bridges that lead to a bus, among records and in the table of them.
use Rattle.std.proofs.Common.{◌≡◌, ℕ, List, [], ◌∷◌, get_or, Option, Some, None, false, refl, inl, inr, sym, ap, ◌∙◌, arith}
use Rattle.std.specs.Prelude.{◌↔◌, IsTrue}
use Rattle.std.specs.Option.{is_some}
use Rattle.std.specs.List.{Contains}
use Rattle.std.proofs.lemmas.Bool.{both_ways}
use Rattle.pci_function.specs.declared.record.Bridge.{Bridge}
use Rattle.pci_function.specs.declared.record.Record.{Record}
use Rattle.pci_tree.specs.Ways.{secondary_in, bus_behind, IsBridgeIn, LeadsAt, IsBridgeAbove, IsUnled}
use Rattle.pci_tree.specs.BusNumbers.{HasLeader, IsLedTo}
use Rattle.pci_tree.proofs.Regions.{some_is}
use Rattle.pci_tree.proofs.Ways.{bridge_at, at_bus, none_above}

pub bridge_of : (records : List Record) (bus : ℕ) (l : HasLeader records bus) → IsBridgeIn records l.c × (bus_behind l.c ≡ bus)
bridge_of records bus l = (record { has = l.bridge.has; is = ap is_some l.bridge.is }, ap secondary_in l.bridge.is ∙ l.there)

leader_of : (records : List Record) (bus : ℕ) (b : Record) → IsBridgeIn records b × (bus_behind b ≡ bus) → HasLeader records bus
leader_of records bus b (bridge, there) =
    let d : (d : Bridge) × (b.bridge ≡ Some d) = some_is b.bridge bridge.is in
    record { c = b; d = d.0; bridge = record { has = bridge.has; is = d.1 }; there = ap secondary_in (sym d.1) ∙ there }

leader_at : (records : List Record) (bus k : ℕ) → LeadsAt records bus k → HasLeader records bus
leader_at [] bus k leads = absurd (let within = leads.within in let no : ⊥ = omega (arith, within) in no)
leader_at (z ∷ rs) bus k leads = leader_of (z ∷ rs) bus (get_or (z ∷ rs) k z) (bridge_at (z ∷ rs) bus k z leads)

-- a bus that is no root is led to where the table has a bridge for it
pub led_by_bridge : (roots : List ℕ) (records : List Record) (bus : ℕ) (o : Option ℕ) → IsBridgeAbove records bus o → (Contains roots bus → ⊥) → IsTrue (is_some o) ↔ IsLedTo roots records bus
led_by_bridge roots records bus None none off = (
  λ some. absurd (both_ways false refl some),
  λ led. elim led [
    | inl root ↦ absurd (off root)
    | inr leader ↦ (let b = bridge_of records bus leader in absurd (none leader.c b.0 b.1))
  ],
)
led_by_bridge roots records bus (Some k) leads off = (λ some. inr (leader_at records bus k leads), λ led. refl)

-- to a bus that is no root, and has no bridge to it, none leads from a root
pub unled_of : (roots : List ℕ) (records : List Record) (bus : ℕ) → (IsLedTo roots records bus → ⊥) → IsUnled records roots bus
unled_of roots records bus off =
    none_above records roots bus [] bus (λ root. off (inl root)) (λ b bridge there. off (inr (leader_of records bus b (bridge, there)))) (at_bus records roots bus)
