-- The bridges of a way and the records at its slots.
use Rattle.std.proofs.Common.{◌≡◌, ℕ, ◌+◌, ◌<◌, List, [], ◌∷◌, length, get_or, map, take, Bool, true, arith, subst, sym, ◌∙◌, ap, refl}
use Rattle.std.specs.Prelude.{◌↔◌, IsTrue}
use Rattle.std.specs.List.{All, Contains, list_all}
use Rattle.std.proofs.lemmas.Bool.{and_from, and_parts}
use Rattle.std.proofs.lemmas.List.{length-take-le, get_or-take}
use Rattle.std.proofs.lemmas.List.Elements.{All-cons, All-head, All-tail, All-contains}
use Rattle.pci_spec.specs.Slot.{Slot, slot_number}
use Rattle.pci_spec.specs.Header.{secondary_bus}
use Rattle.pci_spec.specs.Window.{WindowKind}
use Rattle.pci_spec.specs.System.{System, Function, Leads, is_bridge, window_space}
use Rattle.pci_spec.specs.Decoded.{record_of, IsDecodable}
use Rattle.pci_base.specs.Space.{is_prefetch}
use Rattle.pci_function.specs.declared.record.Record.{Record}
use Rattle.pci_function.specs.Values.{record_value}
use Rattle.pci_tree.specs.Outline.{RiseBySlot}
use Rattle.pci_tree.proofs.Lifting.{Has, StandsFor, record_for, same_slot_of, one_by_number}
use Rattle.judge_spec.specs.Given.{Given}
use Rattle.judge_spec.specs.Claims.{passes}
use Rattle.pci_claims.specs.declared.passed.Through.{Through}
use Rattle.pci_claims.specs.Passed.{passes_with, lets}
use Rattle.pci_claims.specs.Reached.{PassesAt, LetsAt, lets_by}
use Rattle.pci_claims.proofs.Linking.{passes_same, lets_same}

-- ---- lists

pub all_before : {X : Type 0} (P : X → Type 0) (xs : List X) (i : ℕ) → i < length xs → All P (take (i + 1) xs) → All P (take i xs)
all_before P xs i within all k d less =
    let n : length (take i xs) ≡ i = length-take-le i xs (omega (arith, within)) in
    let m : length (take (i + 1) xs) ≡ i + 1 = length-take-le (i + 1) xs (omega (arith, within)) in
    subst P (get_or-take (i + 1) xs k d (omega (arith, n, less)) ∙ sym (get_or-take i xs k d (omega (arith, n, less)))) (all k d (omega (arith, n, m, less)))

pub all_here : {X : Type 0} (P : X → Type 0) (xs : List X) (i : ℕ) (x : X) → i < length xs → x ≡ get_or xs i x → All P (take (i + 1) xs) → P x
all_here P xs i x within at all =
    let m : length (take (i + 1) xs) ≡ i + 1 = length-take-le (i + 1) xs (omega (arith, within)) in
    subst P (get_or-take (i + 1) xs i x (omega arith) ∙ sym at) (all i x (omega (arith, m)))

-- ---- the record at the slot of a bridge

-- a record with the slot of a function is that of the function
pub record_is : (s : System) (rs : List Record) (f : Function) (r : Record) → Has s rs → RiseBySlot rs → Contains s f → Contains rs r → r.slot ≡ f.slot → record_value r ≡ record_of f
record_is s rs f r is rise in_s in_rs slot =
    let p : (q : Record) × StandsFor rs f q = record_for s rs f is in_s in
    let same : p.0 ≡ r = one_by_number (λ (q : Record). slot_number q.slot) rs p.0 r rise p.1.has in_rs (ap slot_number (same_slot_of p.0 f p.1.same ∙ sym slot)) in
    ap record_value (sym same) ∙ p.1.same

-- what a bridge lets through, by its record
module _ (s : System) (rs : List Record) (is : Has s rs) (rise : RiseBySlot rs) (by : Function → Bool) (so : Record → Bool)
    (same : (r : Record) (f : Function) → IsDecodable f → is_bridge f ≡ true → record_value r ≡ record_of f → by f ≡ so r) where
  abbrev LetsSo : Slot → Type 0
  LetsSo slot = (r : Record) → Contains rs r → r.slot ≡ slot → IsTrue (so r)

  decodable : (f : Function) → Contains s f → IsDecodable f
  decodable f listed = All-contains IsDecodable s f is.decodable listed

  at_bridge : (f : Function) → Contains s f → is_bridge f ≡ true → LetsSo f.slot ↔ IsTrue (by f)
  at_bridge f listed bridge = (
    λ (h : LetsSo f.slot). (
        let p : (q : Record) × StandsFor rs f q = record_for s rs f is listed in
        same p.0 f (decodable f listed) bridge p.1.same ∙ h p.0 p.1.has (same_slot_of p.0 f p.1.same)),
    λ (h : IsTrue (by f)) (r : Record) (has : Contains rs r) (slot : r.slot ≡ f.slot).
        sym (same r f (decodable f listed) bridge (record_is s rs f r is rise listed has slot)) ∙ h,
  )

  -- the bridges of a way all do just where those at its slots do
  along_way : (from : ℕ) (bridges : List Function) (to : ℕ) → Leads s from bridges to → All LetsSo (map (λ (f : Function). f.slot) bridges) ↔ IsTrue (list_all by bridges)
  along_way from [] to leads = (λ all. refl, λ h k d less. absurd (omega (arith, less)))
  along_way from (b ∷ bridges) to (has, bridge, on, rest) =
      let here = at_bridge b has bridge in
      let later = along_way (secondary_bus b.image) bridges to rest in
      let slots : List Slot = map (λ (f : Function). f.slot) bridges in (
        λ (all : All LetsSo (b.slot ∷ slots)). and_from (by b) (list_all by bridges) (here.0 (All-head LetsSo b.slot slots all)) (later.0 (All-tail LetsSo b.slot slots all)),
        λ (h : IsTrue (list_all by (b ∷ bridges))). (
            let both = and_parts (by b) (list_all by bridges) h in
            All-cons LetsSo b.slot slots (here.1 both.0) (later.1 both.1)),
      )

pub bridge_at : (given : Given) (kind : WindowKind) (s : System) (rs : List Record) → Has s rs → RiseBySlot rs → (f : Function) (a : ℕ) → Contains s f → is_bridge f ≡ true
    → PassesAt given kind rs a f.slot ↔ IsTrue (passes given (window_space kind) (is_prefetch kind) a f)
bridge_at given kind s rs is rise f a listed bridge =
    at_bridge s rs is rise (passes given (window_space kind) (is_prefetch kind) a) (passes_with given kind a) (λ r g decodable on e. passes_same given kind a r g decodable on e) f listed bridge

pub way_lets : (given : Given) (through : Through) (s : System) (rs : List Record) → Has s rs → RiseBySlot rs → (a from : ℕ) (bridges : List Function) (to : ℕ) → Leads s from bridges to
    → All (LetsAt given through rs a) (map (λ (f : Function). f.slot) bridges) ↔ IsTrue (list_all (lets_by given through a) bridges)
way_lets given through s rs is rise a from bridges to leads =
    along_way s rs is rise (lets_by given through a) (lets given through a) (λ r g decodable on e. lets_same given through a r g decodable on e) from bridges to leads
