-- Ways down a tree of buses.
use Rattle.std.proofs.Common.{◌≡◌, ℕ, ◌+◌, ◌<◌, ◌≤◌, List, [], ◌∷◌, ◌++◌, length, reverse, get_or, sym, ap, ◌∙◌, subst, inl, inr, ◌⊎◌, arith, refl, false, Option, Some, None}
use Rattle.std.specs.List.{Contains}
use Rattle.std.specs.Option.{is_some}
use Rattle.std.proofs.lemmas.List.{reverse-append, append_assoc, append-nil, length_push}
use Rattle.std.proofs.lemmas.List.Elements.{Contains-get_or}
use Rattle.pci_spec.specs.Slot.{Slot}
use Rattle.pci_function.specs.declared.record.Record.{Record}
use Rattle.pci_tree.specs.Ways.{bus_behind, IsBridgeIn, Leads, IsForest, AreClear, LeadsAt, IsBridgeAbove, slots_of, AreSlotsOfWay, IsUnled}

-- the record at an index is of a bridge
pub bridge_at : (records : List Record) (bus k : ℕ) (d : Record) → LeadsAt records bus k → IsBridgeIn records (get_or records k d) × (bus_behind (get_or records k d) ≡ bus)
bridge_at records bus k d leads = (record { has = Contains-get_or records k d leads.within; is = leads.bridge d }, leads.there d)

-- the last bridge of a way
pub record EndsWith (records : List Record) (from : ℕ) (way : List Record) (to : ℕ) : Type 0 where
  pub front : List Record
  pub last : Record
  pub whole : way ≡ front ++ last ∷ []
  pub bridge : IsBridgeIn records last
  pub there : bus_behind last ≡ to
  pub leads : Leads records from front last.slot.bus

ends_cons : (records : List Record) (from : ℕ) (b : Record) (way : List Record) (to : ℕ) → IsBridgeIn records b → b.slot.bus ≡ from → Leads records (bus_behind b) way to
    → EndsWith records from (b ∷ way) to
ends_cons records from b [] to bridge on rest = record { front = []; last = b; whole = refl; bridge = bridge; there = rest; leads = sym on }
ends_cons records from b (c ∷ way) to bridge on (next, joins, rest) =
    let ends : EndsWith records (bus_behind b) (c ∷ way) to = ends_cons records (bus_behind b) c way to next joins rest in
    record { front = b ∷ ends.front; last = ends.last; whole = ap (λ w. b ∷ w) ends.whole; bridge = ends.bridge; there = ends.there; leads = (bridge, on, ends.leads) }

-- a way is empty, or has a last bridge
pub way_ends : (records : List Record) (from : ℕ) (way : List Record) (to : ℕ) → Leads records from way to → ((from ≡ to) × (way ≡ [])) ⊎ EndsWith records from way to
way_ends records from [] to h = inl (h, refl)
way_ends records from (b ∷ way) to (bridge, on, rest) = inr (ends_cons records from b way to bridge on rest)

-- every list that leads to the bus from a root ends with what was gone up so far
abbrev Only : List Record → List ℕ → ℕ → List Record → ℕ → Type 0
Only records roots at below bus =
    (root : ℕ) (other : List Record) → Contains roots root → Leads records root other bus → (front : List Record) × Leads records root front at × (other ≡ front ++ below)

-- going up from a bus: the slots of the bridges so far, the lowest first, lead from `at` to the bus
pub record GoesUp (records : List Record) (roots : List ℕ) (at : ℕ) (up : List Slot) (bus : ℕ) : Type 0 where
  pub below : List Record
  pub named : slots_of below ≡ reverse up
  pub leads : Leads records at below bus
  pub only : Only records roots at below bus
  pub room : length up + at ≤ bus

pub at_bus : (records : List Record) (roots : List ℕ) (bus : ℕ) → GoesUp records roots bus [] bus
at_bus records roots bus = record {
  below = [];
  named = refl;
  leads = refl;
  only = λ root other starts h. (other, h, sym (append-nil other));
  room = omega arith;
}

only_more : (records : List Record) (roots : List ℕ) (b : Record) (at : ℕ) (below : List Record) (bus : ℕ) → IsForest records → IsBridgeIn records b → bus_behind b ≡ at
    → (Contains roots at → ⊥) → Only records roots at below bus → Only records roots b.slot.bus (b ∷ below) bus
only_more records roots b at below bus forest bridge there off only root other starts h =
    let p : (front : List Record) × Leads records root front at × (other ≡ front ++ below) = only root other starts h in
    elim (way_ends records root p.0 at p.1) [
      | inl same ↦ absurd (off (subst (Contains roots) same.0 starts))
      | inr ends ↦ (let one : ends.last ≡ b = forest.single ends.last b ends.bridge bridge (ends.there ∙ sym there) in (
        ends.front,
        subst (λ (c : Record). Leads records root ends.front c.slot.bus) one ends.leads,
        p.2 ∙ ap (λ w. w ++ below) ends.whole ∙ append_assoc ends.front (ends.last ∷ []) below ∙ ap (λ (c : Record). ends.front ++ c ∷ below) one,
      ))
    ]

-- one bridge further up
pub up_more : (records : List Record) (roots : List ℕ) (b : Record) (at : ℕ) (up new : List Slot) (bus : ℕ) → IsForest records → IsBridgeIn records b → bus_behind b ≡ at
    → (Contains roots at → ⊥) → new ≡ up ++ b.slot ∷ [] → GoesUp records roots at up bus → GoesUp records roots b.slot.bus new bus
up_more records roots b at up new bus forest bridge there off e so = record {
  below = b ∷ so.below;
  named = ap (λ w. b.slot ∷ w) so.named ∙ sym (reverse-append up (b.slot ∷ [])) ∙ ap reverse (sym e);
  leads = (bridge, refl, subst (λ n. Leads records n so.below bus) (sym there) so.leads);
  only = only_more records roots b at so.below bus forest bridge there off so.only;
  room = (let rises : b.slot.bus < bus_behind b = forest.rises b bridge in
      let room : length up + at ≤ bus = so.room in
      let more : length new ≡ length up + 1 = ap length e ∙ length_push up b.slot in omega arith);
}

-- no bridge leads to where going up came to
pub none_above : (records : List Record) (roots : List ℕ) (at : ℕ) (up : List Slot) (bus : ℕ) → (Contains roots at → ⊥)
    → ((b : Record) → IsBridgeIn records b → bus_behind b ≡ at → ⊥) → GoesUp records roots at up bus → IsUnled records roots bus
none_above records roots at up bus off orphan so root other starts h =
    let p : (front : List Record) × Leads records root front at × (other ≡ front ++ so.below) = so.only root other starts h in
    elim (way_ends records root p.0 at p.1) [
      | inl same ↦ off (subst (Contains roots) same.0 starts)
      | inr ends ↦ orphan ends.last ends.bridge ends.there
    ]

-- a root was come to
pub at_root : (records : List Record) (roots : List ℕ) (at : ℕ) (up : List Slot) (bus : ℕ) → AreClear roots records → Contains roots at → GoesUp records roots at up bus
    → AreSlotsOfWay records roots (reverse up) bus
at_root records roots at up bus clear starts so = record {
  way = so.below;
  named = so.named;
  the = record {
    root = at;
    starts = starts;
    leads = so.leads;
    only = λ root other is h. (let p : (front : List Record) × Leads records root front at × (other ≡ front ++ so.below) = so.only root other is h in
        elim (way_ends records root p.0 at p.1) [
          | inl same ↦ (same.0, p.2 ∙ ap (λ w. w ++ so.below) same.1)
          | inr ends ↦ absurd (clear ends.last ends.bridge (subst (Contains roots) (sym ends.there) starts))
        ]);
  };
}

pub no_bridge : (records : List Record) (at : ℕ) (o : Option ℕ) → o ≡ None → IsBridgeAbove records at o → (b : Record) → IsBridgeIn records b → bus_behind b ≡ at → ⊥
no_bridge records at o e h = subst (λ p. IsBridgeAbove records at p) e h

pub no_bridge_off : (records : List Record) (at : ℕ) (o : Option ℕ) → is_some o ≡ false → IsBridgeAbove records at o → (b : Record) → IsBridgeIn records b → bus_behind b ≡ at → ⊥
no_bridge_off records at None e h = h
no_bridge_off records at (Some k) e h = absurd (let no : ⊥ = cc in no)

pub some_bridge : (records : List Record) (at : ℕ) (o : Option ℕ) (k : ℕ) → o ≡ Some k → IsBridgeAbove records at o → LeadsAt records at k
some_bridge records at o k e h = subst (λ p. IsBridgeAbove records at p) e h
