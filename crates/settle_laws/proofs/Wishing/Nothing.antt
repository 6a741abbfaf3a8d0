-- For spares nothing goes: what stays without slots stays with them, and Command is that without slots.
use Rattle.std.proofs.Common.{◌≡◌, ◌+◌, Bool, true, false, refl, sym, ◌∙◌, ap}
use Rattle.std.specs.Bool.{beq, if◌then◌else◌}
use Rattle.std.specs.List.{Contains}
use Rattle.std.proofs.lemmas.Bool.{and_parts, both_ways, cond_both}
use Rattle.pci_spec.specs.Header.{command}
use Rattle.pci_spec.specs.Machine.{without_low}
use Rattle.pci_spec.specs.System.{System, Function, Space, Io, Memory}
use Rattle.plan_spec.proofs.Planning.Behind.{all_gives}
use Rattle.settle_spec.specs.Lists.{Request}
use Rattle.settle_spec.specs.Parts.{FunctionPart, system_parts}
use Rattle.settle_spec.specs.Items.{spare_of}
use Rattle.settle_spec.specs.Kept.{Kept, no_wish, unwished}
use Rattle.settle_spec.specs.Keeping.Registers.{is_enabled_in, settled_command}
use Rattle.settle_spec.specs.Growing.{settle_growing, finally_kept}
use Rattle.settle_spec.specs.Sparing.{without_slots, is_settled, keep_alike, have_spares, placing_request}
use Rattle.settle_spec.specs.SpareLaws.{kept_sparing, NothingGoesForSpares}
use Rattle.settle_laws.proofs.Keeping.Wishless.{enabled_same}
use Rattle.settle_laws.proofs.Wishing.Alike.{granted_alike}

same_by : (x y : Bool) → beq x y ≡ true → x ≡ y
same_by true true is = refl
same_by false false is = refl
same_by true false is = absurd (both_ways false refl is)
same_by false true is = absurd (both_ways false refl is)

module _ (q : Request) (s : System) where
  abbrev w : Request
  w = without_slots q

  -- where new windows have spares, it is settled so, and the same parts stay
  pub record HaveSpares : Type 0 where
    pub settled : is_settled (settle_growing q s) ≡ true
    pub alike : (r : FunctionPart) → Contains (system_parts q s) r → (finally_kept q s).stays r ≡ (finally_kept w s).stays r

  pub have_spares_gives : have_spares q s ≡ true → HaveSpares
  have_spares_gives is =
      let parts = and_parts (is_settled (settle_growing q s)) (keep_alike q s (finally_kept w s) (finally_kept q s)) is in
      record {
        settled = parts.0;
        alike = λ r has. sym (same_by ((finally_kept w s).stays r) ((finally_kept q s).stays r)
            (all_gives (λ t. beq ((finally_kept w s).stays t) ((finally_kept q s).stays t)) (system_parts q s) r parts.1 has));
      }

  -- what is kept in the end is, wishes aside, what is kept as new windows are placed
  pub kept_alike : unwished (kept_sparing q s) ≡ unwished (finally_kept (placing_request q s) s)
  kept_alike = granted_alike (placing_request q s) s (spare_of q) (finally_kept (placing_request q s) s)

  stays_still : (r : FunctionPart) → Contains (system_parts q s) r → (finally_kept w s).stays r ≡ true → (kept_sparing q s).stays r ≡ true
  stays_still r has stays =
      ap (λ k. k.stays r) kept_alike
      ∙ cond_both (have_spares q s) q w (λ p. (finally_kept p s).stays r ≡ true) (λ spares. (have_spares_gives spares).alike r has ∙ stays) (λ none. stays)

-- wishes change no Command
pub wishes_set_none : (q : Request) (s : System) (j k : Kept) (f : Function) → unwished j ≡ unwished k → settled_command q s j f ≡ settled_command q s k f
wishes_set_none q s j k f alike =
    let same = λ (space : Space). sym (enabled_same q s j no_wish space f) ∙ ap (λ i. is_enabled_in q s i space f) alike ∙ enabled_same q s k no_wish space f in
    let io = same Io in
    let memory = same Memory in
    λ i. without_low 4 (command f.image) + (if io i then 1 else 0) + (if memory i then 2 else 0)

-- The law: what stays without slots stays with them.
pub nothing_goes_for_spares : NothingGoesForSpares
nothing_goes_for_spares = stays_still
