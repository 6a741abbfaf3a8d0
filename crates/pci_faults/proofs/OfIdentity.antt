-- The line of a function's identity.
use Rattle.std.proofs.Common.{◌≡◌, ℕ, zero, suc, [], ◌∷◌, refl, inl, inr, arith, sym, ◌∙◌, ap, Option, None, Some, subst}
use Rattle.std.specs.Prelude.{MatchOption, IfSome}
use Rattle.std.specs.List.{Contains}
use Rattle.pci_spec.specs.Slot.{Slot}
use Rattle.pci_spec.specs.System.{Function}
use Rattle.pci_spec.specs.Fault.{Fault, NoVendor, HeaderKind, StrayProbe}
use Rattle.pci_spec.specs.Order.{slot_key}
use Rattle.pci_spec.specs.FaultLines.{subject}
use Rattle.pci_spec.proofs.Members.{in_nil, in_head, in_cons_cases}
use Rattle.pci_function.specs.declared.fault.Fault.{Fault as FaultOfCode}
use Rattle.pci_function.specs.Fault.{fault_of}
use Rattle.pci_function.specs.Profile.{IsHereIn, IsFirstOf, IsAnswering}
use Rattle.pci_function.proofs.Examined.{clear_2}
use Rattle.pci_function.proofs.FirstIn.{here_not_clear}
use Rattle.pci_faults.specs.OwnLines.{IsOwnLine, IsBeforeIn, AreOwnLines}
use Rattle.pci_faults.proofs.Checks.{check_of, has_check}
use Rattle.pci_faults.proofs.Keys.{same_phase, one_rest}
use Rattle.pci_faults.proofs.Lists.{just_none}

-- which fault a check is for
abbrev IdentityIs : Slot → ℕ → Fault → Type 0
IdentityIs slot zero e = e ≡ NoVendor slot
IdentityIs slot (suc zero) e = e ≡ HeaderKind slot
IdentityIs slot (suc (suc k)) e = (offset : ℕ) × (e ≡ StrayProbe slot offset)

module _ (f : Function) where
  identity_is : (e : Fault) → IsOwnLine 1 f e → IdentityIs f.slot (check_of f e) e
  identity_is (NoVendor slot) own = ap NoVendor own.here.0
  identity_is (HeaderKind slot) own = ap HeaderKind own.here.0
  identity_is (StrayProbe slot offset) own = (offset, ap (λ t. StrayProbe t offset) own.here.0)
  identity_is _ own = absurd (let phase = own.phase_is in let no : ⊥ = omega (arith, phase) in no)

  subject_is : (k : ℕ) (e : Fault) → IdentityIs f.slot k e → subject e ≡ 1 ∷ slot_key f.slot
  subject_is zero e is = ap subject is
  subject_is (suc zero) e is = ap subject is
  subject_is (suc (suc k)) e is = ap subject is.1

  one_subject : (a b : Fault) → IsOwnLine 1 f a → IsOwnLine 1 f b → subject a ≡ subject b
  one_subject a b is_a is_b = subject_is (check_of f a) a (identity_is a is_a) ∙ sym (subject_is (check_of f b) b (identity_is b is_b))

  one_of_check : (k : ℕ) (a b : Fault) → IdentityIs f.slot k a → IdentityIs f.slot k b → IsOwnLine 1 f a → IsOwnLine 1 f b → a ≡ b
  one_of_check zero a b a_is b_is is_a is_b = a_is ∙ sym b_is
  one_of_check (suc zero) a b a_is b_is is_a is_b = a_is ∙ sym b_is
  one_of_check (suc (suc k)) a b (m, a_is) (n, b_is) is_a is_b =
      let offsets : m ≡ n = one_rest 1 f (StrayProbe f.slot m) (StrayProbe f.slot n) (subst (IsOwnLine 1 f) a_is is_a) (subst (IsOwnLine 1 f) b_is is_b) refl 1 (omega arith) (omega arith) in
      a_is ∙ ap (StrayProbe f.slot) offsets ∙ sym b_is

  one_line : (a b : Fault) → IsOwnLine 1 f a → IsOwnLine 1 f b → a ≡ b
  one_line a b is_a is_b =
      let checks = one_rest 1 f a b is_a is_b (one_subject a b is_a is_b) 0 (has_check f a is_a.here) (has_check f b is_b.here) in
      one_of_check (check_of f b) a b (subst (λ k. IdentityIs f.slot k a) checks (identity_is a is_a)) (identity_is b is_b) is_a is_b

  pub identity_line : (o : Option FaultOfCode) → MatchOption o (IsAnswering f) (λ e. IsHereIn 1 f (fault_of e)) → IfSome o (λ e. IsFirstOf 1 f (fault_of e)) → AreOwnLines 1 f (o ∷ [])
  identity_line None answers first = just_none (IsBeforeIn f) (IsOwnLine 1 f) (λ e own. here_not_clear f e 2 (let phase = own.phase_is in omega (arith, phase)) (clear_2 f answers) own.here)
  identity_line (Some x) here first =
      let own : IsOwnLine 1 f (fault_of x) = record { here = here.here; phase_is = here.phase_is; first = λ other same. first other (same_phase other (fault_of x) same ∙ here.phase_is) } in
      record {
        each = λ e has. elim (in_cons_cases (fault_of x) [] e has) [ inl same ↦ subst (IsOwnLine 1 f) same own | inr none ↦ absurd (in_nil e none) ];
        complete = λ e is. subst (λ y. Contains (fault_of x ∷ []) y) (one_line (fault_of x) e own is) (in_head (fault_of x) []);
        rising = λ i j d less within. absurd (let no : ⊥ = omega (arith, less, within) in no);
      }
