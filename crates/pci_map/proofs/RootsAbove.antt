-- The root above each bus.
use Rattle.std.proofs.Common.{◌≡◌, ℕ, ◌+◌, ◌<◌, ◌≤◌, List, [], ◌∷◌, ◌++◌, map, take, set, length, get_or, sym, ap, ◌∙◌, subst, inl, inr}
use Rattle.std.specs.List.{Contains}
use Rattle.std.proofs.lemmas.Bool.{cases_eq}
use Rattle.std.proofs.lemmas.List.{take_more, take_all, get_or-set_same, get_or-set_other}
use Rattle.std.proofs.lemmas.List.Elements.{Contains-append_cases}
use Rattle.pci_spec.specs.Slot.{Slot}
use Rattle.pci_spec.specs.System.{System, Function, Leads}
use Rattle.pci_spec.specs.Decoded.{record_of, HasRecords}
use Rattle.pci_spec.specs.Decoded as decoded
use Rattle.pci_spec.proofs.Members.{in_nil, in_cons_cases, in_map_from}
use Rattle.pci_function.specs.declared.record.Record.{Record}
use Rattle.pci_tree.specs.Outline.{IsPathTo}
use Rattle.pci_tree.proofs.Lifting.{Has, record_for, function_for, same_slot_of}
use Rattle.pci_claims.specs.Outside.{IsRootOfPath}
use Rattle.pci_claims.proofs.Outsides.{root_of}
use Rattle.pci_map.specs.Above.{IsOnlyRootAbove, AreRootsAbove}

-- a function has a record
pub no_function : (s : System) (records : List decoded.Record) (slot : Slot) (f : Function) → HasRecords s records → (Contains (map (λ r. r.slot) records) slot → ⊥) → Contains s f → f.slot ≡ slot → ⊥
no_function s records slot f has none listed is =
    none (subst (λ rs. Contains (map (λ r. r.slot) rs) slot) has.same
    (subst (λ x. Contains (map (λ r. r.slot) (map record_of s)) x) is (in_map_from (λ r. r.slot) (map record_of s) (record_of f) (in_map_from record_of s f listed))))

pub root_found : (roots : List ℕ) (s : System) (path : List Slot) (bus root : ℕ) → IsPathTo roots s path bus → IsRootOfPath path bus root → IsOnlyRootAbove roots s bus root
root_found roots s path bus root p is =
    let same : p.root ≡ root = root_of s p.root p.bridges bus path root p.leads p.named is in record {
      is_root = subst (Contains roots) same p.starts;
      bridges = p.bridges;
      leads = subst (λ n. Leads s n p.bridges bus) same p.leads;
      only = λ other others starts leads. (p.only other others starts leads).0 ∙ same;
    }

module _ (roots : List ℕ) (s : System) where
  -- at the bus of each record
  abbrev pub AreFilled : List Record → List ℕ → Type 0
  AreFilled rs table = (r : Record) → Contains rs r → IsOnlyRootAbove roots s r.slot.bus (get_or table r.slot.bus 0)

  pub none_filled : (table : List ℕ) → AreFilled [] table
  none_filled table r has = absurd (in_nil r has)

  pub one_more : (rs : List Record) (k : ℕ) (r : Record) (table new : List ℕ) (root : ℕ) → k < length rs → r ≡ get_or rs k r → r.slot.bus < length table → new ≡ set table r.slot.bus root
      → AreFilled (take k rs) table → IsOnlyRootAbove roots s r.slot.bus root → AreFilled (take (k + 1) rs) new
  one_more rs k r table new root within at small is was above x has =
      subst (λ t. IsOnlyRootAbove roots s x.slot.bus (get_or t x.slot.bus 0)) (sym is) (elim (cases_eq x.slot.bus r.slot.bus) [
        | inl e ↦ (
            let here : get_or (set table r.slot.bus root) x.slot.bus 0 ≡ root = ap (λ n. get_or (set table r.slot.bus root) n 0) e ∙ get_or-set_same table r.slot.bus root 0 small in
            subst (IsOnlyRootAbove roots s x.slot.bus) (sym here) (subst (λ n. IsOnlyRootAbove roots s n root) (sym e) above))
        | inr ne ↦ (
            let there : get_or (set table r.slot.bus root) x.slot.bus 0 ≡ get_or table x.slot.bus 0 = get_or-set_other table r.slot.bus x.slot.bus root 0 ne in
            let split : Contains (take k rs ++ r ∷ []) x = subst (λ xs. Contains xs x) (take_more rs k r within ∙ ap (λ (y : Record). take k rs ++ y ∷ []) (sym at)) has in
            subst (IsOnlyRootAbove roots s x.slot.bus) (sym there) (elim (Contains-append_cases (take k rs) (r ∷ []) x split) [
              | inl early ↦ was x early
              | inr late ↦ elim (in_cons_cases r [] x late) [
                | inl same ↦ absurd (ne (ap (λ (y : Record). y.slot.bus) (sym same)))
                | inr none ↦ absurd (in_nil x none)
              ]
            ]))
      ])

  -- the bus of the next record has its root already
  pub one_more_there : (rs : List Record) (k : ℕ) (r : Record) (table : List ℕ) → k < length rs → r ≡ get_or rs k r
      → AreFilled (take k rs) table → IsOnlyRootAbove roots s r.slot.bus (get_or table r.slot.bus 0) → AreFilled (take (k + 1) rs) table
  one_more_there rs k r table within at was above x has =
      let split : Contains (take k rs ++ r ∷ []) x = subst (λ xs. Contains xs x) (take_more rs k r within ∙ ap (λ (y : Record). take k rs ++ y ∷ []) (sym at)) has in
      elim (Contains-append_cases (take k rs) (r ∷ []) x split) [
        | inl early ↦ was x early
        | inr late ↦ elim (in_cons_cases r [] x late) [
          | inl same ↦ subst (λ (y : Record). IsOnlyRootAbove roots s y.slot.bus (get_or table y.slot.bus 0)) same above
          | inr none ↦ absurd (in_nil x none)
        ]
      ]

  -- the root that was put there
  pub root_put : (table : List ℕ) (bus root : ℕ) → bus < length table → IsOnlyRootAbove roots s bus root → IsOnlyRootAbove roots s bus (get_or (set table bus root) bus 0)
  root_put table bus root small above = subst (IsOnlyRootAbove roots s bus) (sym (get_or-set_same table bus root 0 small)) above

  -- a record stands for a function
  pub above_record : (rs : List Record) (r : Record) (root : ℕ) → Has s rs → Contains rs r → ((f : Function) → Contains s f → f.slot ≡ r.slot → IsOnlyRootAbove roots s r.slot.bus root) → IsOnlyRootAbove roots s r.slot.bus root
  above_record rs r root are has above = let own = function_for s rs r are has in above own.0 own.1 (sym (same_slot_of r own.0 own.2))

  pub all_filled : (rs : List Record) (k : ℕ) (table : List ℕ) → Has s rs → length rs ≤ k → AreFilled (take k rs) table → AreRootsAbove roots s table
  all_filled rs k table are past filled f listed =
      let own = record_for s rs f are listed in
      subst (λ (x : Slot). IsOnlyRootAbove roots s x.bus (get_or table x.bus 0)) (same_slot_of own.0 f own.1.same)
      (filled own.0 (subst (λ (xs : List Record). Contains xs own.0) (sym (take_all k rs past)) own.1.has))
