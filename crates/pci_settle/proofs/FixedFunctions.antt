-- The first part of a system that a test finds, function by function.
use Rattle.std.proofs.Common.{◌≡◌, ℕ, ◌+◌, ◌≤◌, ◌∷◌, length, drop, List, Bool, true, false, ◌&&◌, not, sym, ◌∙◌, ap, Option, None, Some}
use Rattle.std.specs.Option.{is_some, option_or}
use Rattle.std.specs.List.{flat_map, slice_get}
use Rattle.std.proofs.lemmas.List.{drop_more, drop_all}
use Rattle.std.proofs.lemmas.Option.{slice_get_within, get_or_from_slice_get}
use Rattle.pci_spec.specs.System.{System, Function}
use Rattle.settle_spec.specs.Lists.{Request}
use Rattle.settle_spec.specs.Parts.{FunctionPart}
use Rattle.settle_spec.specs.Stands.{is_fixed_part}
use Rattle.pci_settle.specs.declared.lack.SettleFault.{SettleFault}
use Rattle.pci_settle.specs.Fixed.{first}
use Rattle.pci_settle.proofs.Firsts.{first-append, or_some, or_none}

-- a part of a fixed function that a table says no to
abbrev pub off : Request → (FunctionPart → Bool) → FunctionPart → Bool
off q test x = is_fixed_part q x && not (test x)

-- what is told of a part, the parts of a function, and the test
module _ (value : FunctionPart → SettleFault) (parts : Function → List FunctionPart) (found : FunctionPart → Bool) (s : System) where
  -- among the functions from place k on
  abbrev pub first_from : ℕ → Option SettleFault
  first_from k = first value found (flat_map parts (drop k s))

  pub none_left : (k : ℕ) → length s ≤ k → first_from k ≡ None
  none_left k past = ap (λ fs. first value found (flat_map parts fs)) (drop_all k s past)

  module _ (k : ℕ) (f : Function) (at : slice_get s k ≡ Some f) (fault : Option SettleFault) (same : fault ≡ first value found (parts f)) where
    here : first_from k ≡ option_or fault (first_from (k + 1))
    here =
        ap (λ fs. first value found (flat_map parts fs)) (drop_more s k f (slice_get_within s k f at))
        ∙ ap (λ g. first value found (flat_map parts (g ∷ drop (k + 1) s))) (get_or_from_slice_get s k f f at)
        ∙ first-append value found (parts f) (flat_map parts (drop (k + 1) s)) ∙ ap (λ o. option_or o (first_from (k + 1))) (sym same)

    pub found_here : is_some fault ≡ true → first_from k ≡ fault
    found_here some = here ∙ or_some fault (first_from (k + 1)) some

    pub found_later : is_some fault ≡ false → first_from k ≡ first_from (k + 1)
    found_later none = here ∙ or_none fault (first_from (k + 1)) none
