-- The list of judging with nothing given and nothing told is the one without either.
use Rattle.std.proofs.Common.{◌≡◌, true, false, ◌||◌, List, [], ◌∷◌, ◌++◌, Option, None, Some, length, map, take, option_map, refl, sym, ◌∙◌, ap, arith, ℕ, ◌+◌, ◌<◌, get_or}
use Rattle.std.specs.Prelude.{◌==◌, is_some, not}
use Rattle.std.proofs.lemmas.Bool.{both_ways, or_parts}
use Rattle.std.proofs.lemmas.List.{take_more, append_assoc, map_push}
use Rattle.pci_spec.specs.Slot.{Slot}
use Rattle.pci_function.specs.declared.fault.Fault.{Fault}
use Rattle.pci_function.specs.Fault as plain
use Rattle.pci_tree.specs.Outline.{Tree}
use Rattle.pci_faults.specs.Lines.{AreAllListed}
use Rattle.judge_spec.specs.Given.{nothing_given}
use Rattle.judge_spec.specs.Fault as untold
use Rattle.judge_spec.specs.ToldClaims.{nothing_told}
use Rattle.judge_spec.specs.ToldFault as spec
use Rattle.judge_spec.proofs.PlainLists.{plain_judging}
use Rattle.judge_spec.proofs.NothingTold.{judging_same}
use Rattle.pci_faults.specs.declared.any_fault.AnyFault.{AnyFault}
use Rattle.pci_claims.specs.Values.{code_given_value, told_value, host_value, legacy_value, taking_value}
use Rattle.pci_claims.specs.declared.given.Given as claims
use Rattle.pci_claims.specs.declared.told.Told as told
use Rattle.pci_faults.specs.AllLines.{any_fault_value, plain_fault, AreAllLines, is_given}

-- ---- faults to which no told range belongs

pub known_values : (list : List Fault) → map plain_fault list ≡ map spec.Known (map untold.Known (map plain.fault_of list))
known_values [] = refl
known_values (f ∷ rest) = ap (λ l. plain_fault f ∷ l) (known_values rest)

-- one more of them
pub plain_more : (old : List spec.Fault) (items : List AnyFault) (fs : List Fault) (i : ℕ) (f : Fault) (x : AnyFault) → i < length fs → f ≡ get_or fs i f
    → map any_fault_value items ≡ old ++ map plain_fault (take i fs) → any_fault_value x ≡ plain_fault f → map any_fault_value (items ++ x ∷ []) ≡ old ++ map plain_fault (take (i + 1) fs)
plain_more old items fs i f x within at before is =
    map_push any_fault_value items x ∙ ap (λ l. l ++ any_fault_value x ∷ []) before ∙ append_assoc old (map plain_fault (take i fs)) (any_fault_value x ∷ [])
    ∙ ap (λ l. old ++ l) (ap (λ g. map plain_fault (take i fs) ++ g ∷ []) (is ∙ ap plain_fault at) ∙ sym (map_push plain_fault (take i fs) (get_or fs i f)) ∙ ap (map plain_fault) (sym (take_more fs i f within)))

-- ---- with nothing given and nothing told

pub plain_lines : (asleep : List Slot) (t : Tree) (known : List Fault) (list : List AnyFault) → map any_fault_value list ≡ map plain_fault known → AreAllListed t known
    → AreAllLines (nothing_told asleep) nothing_given t list
plain_lines asleep t known list is listed = record {
  judged = map untold.Known (map plain.fault_of known);
  are = is ∙ known_values known;
  all = λ s tree all_listed. (judging_same asleep nothing_given t.roots s (map untold.Known (map plain.fault_of known))).1 (plain_judging t.roots s (map plain.fault_of known) (listed s tree));
}

none_there : {X : Type 0} (xs : List X) → not (length xs == 0) ≡ false → xs ≡ []
none_there [] e = refl
none_there (x ∷ xs) e = absurd (let some : (length (x ∷ xs) == 0) ≡ false = search (arith) in both_ways (not (length (x ∷ xs) == 0)) e (ap not some))

record IsNothing {W X Y Z : Type 0} (io memory : Option W) (legacy palette : List X) (isa : List Y) (unclaimed : List Z) : Type 0 where
  no_io : io ≡ None
  no_memory : memory ≡ None
  no_legacy : legacy ≡ []
  no_isa : isa ≡ []
  no_palette : palette ≡ []
  none_taken : unclaimed ≡ []

nothing_said : {W X Y Z : Type 0} (io memory : Option W) (legacy palette : List X) (isa : List Y) (unclaimed : List Z)
    → (is_some io || is_some memory || not (length legacy == 0) || not (length isa == 0) || not (length palette == 0) || not (length unclaimed == 0)) ≡ false
    → IsNothing io memory legacy palette isa unclaimed
nothing_said (Some x) memory legacy palette isa unclaimed e = absurd (both_ways true e refl)
nothing_said None (Some x) legacy palette isa unclaimed e = absurd (both_ways true e refl)
nothing_said None None legacy palette isa unclaimed e =
    let taken = or_parts (not (length legacy == 0) || not (length isa == 0) || not (length palette == 0)) (not (length unclaimed == 0)) e in
    let snooped = or_parts (not (length legacy == 0) || not (length isa == 0)) (not (length palette == 0)) taken.0 in
    let parts = or_parts (not (length legacy == 0)) (not (length isa == 0)) snooped.0 in
    record {
      no_io = refl;
      no_memory = refl;
      no_legacy = none_there legacy parts.0;
      no_isa = none_there isa parts.1;
      no_palette = none_there palette snooped.1;
      none_taken = none_there unclaimed taken.1;
    }

pub nothing_is : (given : claims.Given) → is_given given ≡ false → code_given_value given ≡ nothing_given
nothing_is given none =
    let said = nothing_said given.io given.memory given.legacy.now given.palette.now given.isa.now given.unclaimed.now none in
    λ i. record {
      io = option_map (λ ranges. map host_value ranges.now) (said.no_io i);
      memory = option_map (λ ranges. map host_value ranges.now) (said.no_memory i);
      legacy = map legacy_value (said.no_legacy i);
      isa = said.no_isa i;
      palette = map legacy_value (said.no_palette i);
      unclaimed = map taking_value (said.none_taken i);
    }

pub nothing_told_is : (one : told.Told) → one.ranges.now ≡ [] → told_value one ≡ nothing_told one.asleep.now
nothing_told_is one none i = record { ranges = none i; asleep = one.asleep.now }
