-- The functions of a dump and its probe one after the other, and their faults.
use Rattle.std.proofs.Common.{◌≡◌, ℕ, zero, suc, ◌<◌, ◌≤◌, List, [], ◌∷◌, ◌++◌, inl, inr, Result, Ok, Err, sym, ◌∙◌, ap, subst, arith, length, get_or, take}
use Rattle.std.proofs.lemmas.List.{append_assoc, append-nil, length-map}
use Rattle.std.proofs.lemmas.List.Elements.{All-contains}
use Rattle.std.specs.List.{All, Contains}
use Rattle.std.specs.Result.{IsErrAnd, IfErr}
use Rattle.pci_spec.specs.Text.{Block, IsDump, slots_of}
use Rattle.pci_spec.specs.System.{System, Function, IsSystem, function_of, system_of}
use Rattle.pci_spec.specs.Fault as faults
use Rattle.pci_spec.specs.Listing.{listing, function_listing}
use Rattle.pci_base.specs.declared.memory.Refused.{Refused}
use Rattle.pci_base.specs.declared.memory.Refused.TheVariants as refusals
use Rattle.pci_function.specs.declared.fault.Fault.{Fault}
use Rattle.pci_function.specs.Fault.{image_fault_at}
use Rattle.pci_spec.specs.Order.{phase_of, IsFirstThere}
use Rattle.pci_function.specs.Profile.{IsFirstOf}
use Rattle.pci_function.proofs.Examined.{clear_2, clear_3, image_here, image_phase}
use Rattle.pci_function.proofs.FirstIn.{here_in, here_not_clear, lower_is_taken, none_before}
use Rattle.pci_tree.proofs.Pairs.{at_place, placed, pair_answers}
use Rattle.pci_spec.proofs.Pairing.{same_length, length-system_of, IsSystem-of_dumps, there-of_in, in-of_there}
use Rattle.pci_tree.specs.Pair.{IsPair}
use Rattle.pci_listing.specs.Shows.{IsListable, IsFirstFor, IsRefusedFor, IsRefusedIn}

-- two dumps of the same slots have as many blocks
pub same_count : (dump probe : List Block) → slots_of dump ≡ slots_of probe → length dump ≡ length probe
same_count dump probe same =
    sym (length-map dump (λ (b : Block). b.slot)) ∙ ap length same ∙ length-map probe (λ (b : Block). b.slot)

-- one function more
pub listing_more : (dump probe : List Block) (k : ℕ) (b p : Block) → k < length dump → k < length probe → b ≡ get_or dump k b → p ≡ get_or probe k p
    → listing (system_of (take (suc k) dump) (take (suc k) probe)) ≡ listing (system_of (take k dump) (take k probe)) ++ function_listing (function_of b p)
listing_more [] probe k b p wd wp eb ep = absurd (omega (arith, wd))
listing_more (d ∷ dump) [] k b p wd wp eb ep = absurd (omega (arith, wp))
listing_more (d ∷ dump) (q ∷ probe) zero b p wd wp eb ep =
    append-nil (function_listing (function_of d q)) ∙ ap (λ x. function_listing (function_of x q)) (sym eb) ∙ ap (λ x. function_listing (function_of b x)) (sym ep)
listing_more (d ∷ dump) (q ∷ probe) (suc k) b p wd wp eb ep =
    let first : List ℕ = function_listing (function_of d q) in
    let before : List ℕ = listing (system_of (take k dump) (take k probe)) in
    ap (λ rest. first ++ rest) (listing_more dump probe k b p (omega (arith, wd)) (omega (arith, wp)) eb ep)
    ∙ sym (append_assoc first before (function_listing (function_of b p)))

module _ (dump probe : List Block) (hd : IsDump dump) (hp : IsDump probe) (pair : (roots : List ℕ) → IsPair roots dump probe)
    (k : ℕ) (b p : Block) (wd : k < length dump) (eb : b ≡ get_or dump k b) (ep : p ≡ get_or probe k p) (listable : All IsListable (take k (system_of dump probe))) where
  -- of the first function whose lines aren't made the fault is the first of all
  refused_first : (fault : Fault) → IsFirstFor (function_of b p) fault → IsRefusedIn dump probe (refusals.Fault fault)
  refused_first fault is =
      let s : System = system_of dump probe in
      let f : Function = function_of b p in
      let e : faults.Fault = image_fault_at b.slot is.of_image in
      let same = (pair []).same in
      let system : IsSystem s = IsSystem-of_dumps dump probe hd hp same in
      let has : Contains s f = placed dump probe same k b p wd eb ep in
      let phase : phase_of e ≡ 2 = image_phase f is.of_image (pair_answers dump probe pair f has) is.there in
      let long = length-system_of dump probe (same_length dump probe same) in
      let low : phase_of e ≤ 2 = omega (arith, phase) in
      let there : (roots : List ℕ) → faults.IsThere roots dump probe e = λ roots.
      there-of_in roots dump probe e same (here_in roots s f e has (image_here f is.of_image is.there)) in
      let first : (roots : List ℕ) → IsFirstThere roots dump probe e = λ roots. record {
        there = there roots;
        none_before = λ other before at.
            none_before roots s system f has e (image_here f is.of_image is.there) (subst (λ n. IsFirstOf n f e) (sym phase) is.first) (λ x. Unit {0})
            (λ x g listed counts lower here. elim lower [
              | inl less ↦ here_not_clear g x 2 (omega (arith, less, phase)) (clear_2 g (pair_answers dump probe pair g listed)) here
              | inr (same_phase, below_it) ↦
                  let before : Contains (take k s) g = lower_is_taken s system f g k (omega (arith, wd, long)) (at_place dump probe same k b p wd eb ep) listed below_it in
                  let fine = All-contains IsListable (take k s) g listable before in
                  here_not_clear g x 3 (omega (arith, same_phase, phase)) (clear_3 g (pair_answers dump probe pair g listed) fine.0 fine.1) here
            ]) other tt before (in-of_there roots dump probe other same at);
      } in
      subst (λ (x : faults.Fault). (phase_of x ≤ 2) × ((roots : List ℕ) → IsFirstThere roots dump probe x)) (sym is.named) (low, first)

  -- why the lines of a function's blocks aren't made is why those of the whole aren't
  pub refused_at : {T : Type 0} (result : Result T (Refused Fault)) (r : Refused Fault) → IsRefusedFor (function_of b p) r → IsErrAnd result (λ e. e ≡ r)
      → IfErr result (IsRefusedIn dump probe)
  refused_at (Ok x) r is wrong = absurd wrong
  refused_at (Err e) (refusals.Fault fault) is err = subst (IsRefusedIn dump probe) (sym err) (refused_first fault is)
  refused_at (Err e) refusals.Memory is err = subst (IsRefusedIn dump probe) (sym err) tt
