-- Records before another in slot order.
use Rattle.std.proofs.Common.{◌≡◌, ℕ, ◌<◌, List, length, get_or, take, inl, inr, arith, sym, ◌∙◌, ap}
use Rattle.std.specs.List.{All, Contains}
use Rattle.std.proofs.lemmas.Bool.{cases_lt}
use Rattle.std.proofs.lemmas.List.{get_or-take, length-take-le, get_or_default}
use Rattle.std.proofs.lemmas.List.Elements.{All-contains}
use Rattle.pci_spec.specs.Slot.{slot_number}
use Rattle.pci_function.specs.declared.record.Record.{Record}
use Rattle.pci_tree.specs.Outline.{RiseBySlot}

-- what holds of all records before an index holds of each with a lower slot than the record there
pub before_index : (P : Record → Type 0) (rs : List Record) (i : ℕ) (r : Record) → RiseBySlot rs → i < length rs → r ≡ get_or rs i r → All P (take i rs)
    → (q : Record) → Contains rs q → slot_number q.slot < slot_number r.slot → P q
before_index P rs i r rising within at all q has lower = elim (cases_lt has.0 i) [
  | inl before ↦
      let long = length-take-le i rs (omega (arith, within)) in
      All-contains P (take i rs) q all (has.0, omega (arith, long, before), get_or-take i rs has.0 q before ∙ has.2)
  | inr after ↦
      let here : slot_number (get_or rs i q).slot ≡ slot_number r.slot = ap (λ (x : Record). slot_number x.slot) (get_or_default rs i q r within ∙ sym at) in
      let there : slot_number (get_or rs has.0 q).slot ≡ slot_number q.slot = ap (λ (x : Record). slot_number x.slot) has.2 in
      absurd (elim (cases_lt i has.0) [
        | inl later ↦ let up = rising i has.0 q later has.1 in let no : ⊥ = omega (arith, up, here, there, lower) in no
        | inr not_later ↦
            let same : i ≡ has.0 = omega (arith, after, not_later) in
            let e : slot_number (get_or rs i q).slot ≡ slot_number (get_or rs has.0 q).slot = ap (λ (k : ℕ). slot_number (get_or rs k q).slot) same in
            let no : ⊥ = omega (arith, e, here, there, lower) in no
      ])
]
