-- Places among the addresses that are free for a region.
use Rattle.std.proofs.Common.{◌≡◌, ℕ, ◌+◌, ◌%◌, ◌<◌, List, Bool, true, false, sym, ap, arith, ◌∙◌}
use Rattle.std.specs.Prelude.{◌↔◌}
use Rattle.pci_spec.specs.System.{System, Space, Io, Memory, IsAddress}
use Rattle.pci_spec.specs.Why.{Region, address_count, place_end}
use Rattle.pci_base.specs.declared.range.Range.{Range}
use Rattle.pci_tree.specs.Ranges.{Covers}
use Rattle.judge_spec.specs.Given.{Given}
use Rattle.judge_spec.specs.ToldClaims.{Told}
use Rattle.judge_spec.specs.Why.{IsPlaceFor, IsLeastPlace}
use Rattle.pci_why.specs.Places.{IsPlaceReached, IsLeastPlaceFrom}
use Rattle.pci_why.specs.Free.{IsFreeFor}

address_below_end : (space : Space) (wide : Bool) (a : ℕ) → a < place_end space wide → IsAddress space a
address_below_end Io wide a low = omega (arith, low)
address_below_end Memory false a low = omega (arith, low)
address_below_end Memory true a low = low

module _ (told : Told) (given : Given) (roots : List ℕ) (s : System) (q : Region) (wide : Bool) (count end : ℕ) (free : List Range) (exact : (a : ℕ) → Covers free a ↔ IsFreeFor told given roots s q a)
    (is_count : count ≡ address_count q.range) (is_end : end ≡ place_end q.space wide) where
  pub to_reached : (p : ℕ) → IsPlaceFor told given roots s q wide p → IsPlaceReached free count end p
  to_reached p place = record {
    multiple = ap (λ n. p % n) is_count ∙ place.aligned;
    below = (let fits = place.fits in omega (arith, fits, is_count, is_end));
    covered = λ a low high. (
        let fits = place.fits in
        (exact a).1 record {
          address = address_below_end q.space wide a (omega (arith, fits, is_count, high));
          reached = place.reached a low (omega (arith, high, is_count));
          free = place.free a low (omega (arith, high, is_count));
        });
  }

  from_reached : (p : ℕ) → IsPlaceReached free count end p → IsPlaceFor told given roots s q wide p
  from_reached p at = record {
    aligned = ap (λ n. p % n) (sym is_count) ∙ at.multiple;
    fits = (let below = at.below in omega (arith, below, is_count, is_end));
    reached = λ a low high. ((exact a).0 (at.covered a low (omega (arith, high, is_count)))).reached;
    free = λ a low high. ((exact a).0 (at.covered a low (omega (arith, high, is_count)))).free;
  }

  pub least_is : (p last : ℕ) → last + 1 ≡ p + count → IsLeastPlaceFrom free count end 0 p → IsLeastPlace told given roots s q wide (record { first = p; last = last })
  least_is p last size least = record {
    is = from_reached p least.is;
    size = size ∙ ap (λ n. p + n) is_count;
    least = λ n place. least.least n (omega arith) (to_reached n place);
  }
