-- The table of the bridges that lead to each bus.
use Rattle.std.proofs.Common.{◌≡◌, ℕ, ◌+◌, ◌<◌, List, length, get_or, set, replicate, sym, ap, ◌∙◌, subst, inl, inr, arith, Option, Some, None, true}
use Rattle.std.specs.Prelude.{MatchOption}
use Rattle.std.specs.Option.{is_some}
use Rattle.std.proofs.lemmas.Bool.{cases_eq, false≢true}
use Rattle.std.proofs.lemmas.List.{get_or_default, get_or-replicate, get_or-set_same, get_or-set_other}
use Rattle.pci_function.specs.declared.record.Bridge.{Bridge}
use Rattle.pci_function.specs.declared.record.Record.{Record}
use Rattle.pci_tree.specs.Ways.{secondary_in, bus_behind, LeadsAt, IsBridgeAbove, IsBridgeToBus}

-- the index of a bridge that leads to a bus, if one below an index does
abbrev IsBridgeBelow : ℕ → List Record → ℕ → Option ℕ → Type 0
IsBridgeBelow n records bus o = MatchOption o ((k : ℕ) → k < n → LeadsAt records bus k → ⊥) (λ k. LeadsAt records bus k)

-- the table of the bridges below an index
abbrev pub IsTableBelow : ℕ → List Record → List (Option ℕ) → Type 0
IsTableBelow n records table = (bus : ℕ) → bus < 256 → IsBridgeBelow n records bus (get_or table bus None)

pub table_none : (records : List Record) → IsTableBelow 0 records (replicate 256 None)
table_none records bus small =
    subst (λ o. IsBridgeBelow 0 records bus o) (sym (get_or-replicate 256 bus None None small)) (λ k lt leads. absurd (omega arith))

-- what is known of the record at an index, at each default
pub leads_at : (records : List Record) (bus k : ℕ) (r : Record) → k < length records → r ≡ get_or records k r → is_some r.bridge ≡ true → bus_behind r ≡ bus
    → LeadsAt records bus k
leads_at records bus k r within at is there = record {
  within = within;
  bridge = λ d. ap (λ (x : Record). is_some x.bridge) (get_or_default records k d r within ∙ sym at) ∙ is;
  there = λ d. ap (λ (x : Record). bus_behind x) (get_or_default records k d r within ∙ sym at) ∙ there;
}

same_index : (records : List Record) (bus i k : ℕ) → i ≡ k → LeadsAt records bus k → LeadsAt records bus i
same_index records bus i k e leads = subst (λ n. LeadsAt records bus n) (sym e) leads

-- an index whose record leads elsewhere changes nothing for a bus
other_more : (n : ℕ) (records : List Record) (bus : ℕ) (o : Option ℕ) → (LeadsAt records bus n → ⊥) → IsBridgeBelow n records bus o → IsBridgeBelow (n + 1) records bus o
other_more n records bus None off was = λ k lt leads. elim (cases_eq k n) [
  | inl e ↦ off (same_index records bus n k (sym e) leads)
  | inr ne ↦ was k (omega arith) leads
]
other_more n records bus (Some k) off was = was

-- a function that is no bridge
pub table_same : (n : ℕ) (records : List Record) (r : Record) (table : List (Option ℕ)) → n < length records → r ≡ get_or records n r → r.bridge ≡ None
    → IsTableBelow n records table → IsTableBelow (n + 1) records table
table_same n records r table within at none was bus small = other_more n records bus (get_or table bus None)
    (λ leads. false≢true (sym (ap is_some none) ∙ ap (λ (x : Record). is_some x.bridge) at ∙ leads.bridge r)) (was bus small)

-- one more bridge
pub table_more : (n : ℕ) (records : List Record) (r : Record) (b : Bridge) (table : List (Option ℕ)) → n < length records → r ≡ get_or records n r → r.bridge ≡ Some b
    → length table ≡ 256 → IsTableBelow n records table → IsTableBelow (n + 1) records (set table b.secondary (Some n))
table_more n records r b table within at is size was bus small =
    let behind : bus_behind r ≡ b.secondary = ap secondary_in is in
    elim (cases_eq bus b.secondary) [
      | inl e ↦ (let here : get_or (set table b.secondary (Some n)) bus None ≡ Some n =
          ap (λ k. get_or (set table b.secondary (Some n)) k None) e ∙ get_or-set_same table b.secondary (Some n) None (omega arith) in
          subst (λ o. IsBridgeBelow (n + 1) records bus o) (sym here) (leads_at records bus n r within at (ap is_some is) (behind ∙ sym e)))
      | inr ne ↦ (let there : get_or (set table b.secondary (Some n)) bus None ≡ get_or table bus None = get_or-set_other table b.secondary bus (Some n) None ne in
          subst (λ o. IsBridgeBelow (n + 1) records bus o) (sym there)
          (other_more n records bus (get_or table bus None)
          (λ leads. ne (sym (leads.there r) ∙ sym (ap (λ (x : Record). bus_behind x) at) ∙ behind)) (was bus small)))
    ]

whole_index : (records : List Record) (bus : ℕ) (o : Option ℕ) → IsBridgeBelow (length records) records bus o → IsBridgeAbove records bus o
whole_index records bus None was = λ b here there. (let (k, within, at) = here.has in was k within (leads_at records bus k b within (sym at) here.is there))
whole_index records bus (Some k) was = was

pub whole_table : (n : ℕ) (records : List Record) (table : List (Option ℕ)) → n ≡ length records → IsTableBelow n records table → IsBridgeToBus records table
whole_table n records table e was bus small =
    whole_index records bus (get_or table bus None) (subst (λ m. IsBridgeBelow m records bus (get_or table bus None)) e (was bus small))
