-- Lists of what the host sends: buses that two ranges share, addresses that two have, and ranges by their places.
use Rattle.std.proofs.Common.{◌≡◌, ℕ, ◌≤◌, List, get_or, Option, None, Some, refl, sym, ◌∙◌, subst}
use Rattle.std.specs.Prelude.{◌↔◌, ◌==◌, IsTrue, slice_get}
use Rattle.std.proofs.lemmas.Bool.{and_parts, and_from, eqb-true, eq-eqb, leb-true, le-leb}
use Rattle.std.proofs.lemmas.Option.{get_or_from_slice_get}
use Rattle.pci_base.specs.declared.range.RootRange.{RootRange}
use Rattle.pciplan_lists.specs.HostLists.{ShareBus, RangesMeet, IsGoodRange}

pub share_first : (other : Option ℕ) → ShareBus None other
share_first None = record { bus = 0; by_one = refl; by_other = refl }
share_first (Some bus) = record { bus = bus; by_one = refl; by_other = eq-eqb bus bus refl }

pub share_last : (one : Option ℕ) → ShareBus one None
share_last None = record { bus = 0; by_one = refl; by_other = refl }
share_last (Some bus) = record { bus = bus; by_one = eq-eqb bus bus refl; by_other = refl }

pub share_same : (a b : ℕ) → IsTrue (a == b) ↔ ShareBus (Some a) (Some b)
share_same a b = (
  λ (same : IsTrue (a == b)). record { bus = a; by_one = eq-eqb a a refl; by_other = eq-eqb b a (sym (eqb-true a b same)) },
  λ (s : ShareBus (Some a) (Some b)). eq-eqb a b (eqb-true a s.bus s.by_one ∙ sym (eqb-true b s.bus s.by_other)),
)

-- a bus and an address that two ranges have
pub record AreMet (r q : RootRange) : Type 0 where
  pub share : ShareBus r.root q.root
  pub address : ℕ
  pub from_one : r.range.first ≤ address
  pub to_one : address ≤ r.range.last
  pub from_other : q.range.first ≤ address
  pub to_other : address ≤ q.range.last

pub met : (r q : RootRange) → AreMet r q → RangesMeet r q
met r q m = record {
  bus = m.share.bus;
  address = m.address;
  by_one = and_from _ _ (and_from _ _ m.share.by_one (le-leb _ _ m.from_one)) (le-leb _ _ m.to_one);
  by_other = and_from _ _ (and_from _ _ m.share.by_other (le-leb _ _ m.from_other)) (le-leb _ _ m.to_other);
}

pub met_parts : (r q : RootRange) → RangesMeet r q → AreMet r q
met_parts r q m =
    let one = and_parts _ _ m.by_one in
    let first = and_parts _ _ one.0 in
    let other = and_parts _ _ m.by_other in
    let second = and_parts _ _ other.0 in
    record {
      share = record { bus = m.bus; by_one = first.0; by_other = second.0 };
      address = m.address;
      from_one = leb-true _ _ first.1;
      to_one = leb-true _ _ one.1;
      from_other = leb-true _ _ second.1;
      to_other = leb-true _ _ other.1;
    }

pub apart_there : (list : List RootRange) (k i : ℕ) (d e : RootRange) → (RangesMeet (get_or list k d) (get_or list i e) → ⊥)
    → (one other : RootRange) → slice_get list k ≡ Some one → slice_get list i ≡ Some other → RangesMeet one other → ⊥
apart_there list k i d e apart one other is_one is_other m =
    apart (subst (λ r. RangesMeet r (get_or list i e)) (sym (get_or_from_slice_get list k one d is_one))
    (subst (λ q. RangesMeet one q) (sym (get_or_from_slice_get list i other e is_other)) m))

pub good_there : (roots : List ℕ) (list : List RootRange) (i : ℕ) (d : RootRange) → IsGoodRange roots (get_or list i d)
    → (r : RootRange) → slice_get list i ≡ Some r → IsGoodRange roots r
good_there roots list i d good r is = subst (λ x. IsGoodRange roots x) (get_or_from_slice_get list i r d is) good
